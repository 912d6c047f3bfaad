-- Calls in turn, as the walk over a table makes them.
-- Assumes nothing.
use Rattle.std.specs.Prelude.{Bool, cond, leb, get_or}
use Rattle.std.proofs.Math.Bool.{true, false}
use mathlib.Core.List.{List, [], ◌∷◌, ◌++◌, map, append_assoc}
use Rattle.std.proofs.Math.Path.{◌≡◌, refl, sym, ap}
use Rattle.std.proofs.Common.{◌∙◌, le-div_iff_mul-le, div-add-mod', arith, eqb-true, leb-true, leb-false, take-append-drop, drop-cons}
use Prim.Native.Nat.{ℕ, suc, ◌+◌, ◌*◌, ◌/◌, ◌%◌, ◌≤◌, ◌<◌}
use Rattle.std.proofs.Math.ListN.{length, take, drop, length-append}
use Rattle.std.proofs.Math.Seq.{drop-length, take_at, drop_at, length-take-le}
use Rattle.std.proofs.lemmas.List.{length-map}
use Rattle.zone.specs.Laws.Tests.{both}
use Rattle.image.specs.Laws.Table.{length_table}
use Rattle.rules.specs.declared.Call.{Call}
use Rattle.image.specs.Image.{valid_image}
use Rattle.answers.specs.Buffers.{call_length, most_calls, answer_length, no_call, call_or_none, call_count, call_records}
use Rattle.crz.specs.CallTable.{in_turn, table_fits, table_entry, TableReturned}
use Rattle.crz.specs.Returned.{Return, call_with, call_entry}
use Rattle.crz.specs.Laws.Returned.{record_call}
use Rattle.crz.specs.Laws.Valid.{same_verdict}

-- ── Lengths ────────────────────────────────────────────────────────────────────────────────────

-- as many whole parts as there are calls
pub room_for : (n k a : ℕ) → 0 < k → leb n (a / k) ≡ leb (n * k) a
room_for n k a some = go (leb n (a / k)) (leb (n * k) a) refl refl
  where
    go : (x y : Bool) → leb n (a / k) ≡ x → leb (n * k) a ≡ y → x ≡ y
    go true true p q = refl
    go true false p q = absurd (omega (arith, (le-div_iff_mul-le some).0 (leb-true n (a / k) p), leb-false (n * k) a q))
    go false true p q = absurd (omega (arith, (le-div_iff_mul-le some).1 (leb-true (n * k) a q), leb-false n (a / k) p))
    go false false p q = refl

-- a record for each call
pub records_long : (calls : List ℕ) → length (call_records calls) ≡ call_count calls
unfolding call_records
records_long calls = length_table (call_count calls) _

-- the calls that were read from a table's records, of an array that has others behind them
pub calls_read : (calls : List ℕ) (read : List Call) → take (call_count calls) read ≡ map call_or_none (call_records calls)
    → length (take (call_count calls) read) ≡ call_count calls
calls_read calls read e = ap length e ∙ length-map (call_records calls) call_or_none ∙ records_long calls

-- of a table that is taken
pub record Fitting (calls answers : ℕ) : Type 0 where
  pub bytes : calls ≤ most_calls * call_length
  pub few : calls / call_length ≤ most_calls
  pub room : calls / call_length * answer_length ≤ answers

pub fitting : (calls answers : ℕ) → table_fits calls answers ≡ true → Fitting calls answers
unfolding table_fits
fitting calls answers h =
    let t = both _ _ h in
    let s = both _ _ t.0 in
    let whole : calls % call_length ≡ 0 = eqb-true _ _ s.0 in
    let few : calls / call_length ≤ most_calls = leb-true _ _ s.1 in
    record { bytes = omega (arith, div-add-mod' calls call_length, whole, few); few = few; room = leb-true _ _ t.1 }

-- ── By records and by fields ───────────────────────────────────────────────────────────────────

pub records_in_turn : (calls : List (List ℕ)) (image answers : List ℕ) → in_turn call_with image (map call_or_none calls) answers ≡ in_turn call_entry image calls answers
unfolding in_turn
records_in_turn [] image answers = refl
records_in_turn (call ∷ calls) image answers = rw (record_call image call (take answer_length answers), records_in_turn calls)

-- ── What the entry returns ─────────────────────────────────────────────────────────────────────

module _ (image calls answers : List ℕ) where
  pub table_refused : table_fits (length calls) (length answers) ≡ false → (14, image, answers) ≡ table_entry image calls answers
  unfolding table_entry
  table_refused h = rw h

  pub table_made : table_fits (length calls) (length answers) ≡ true → {image' answers' : List ℕ}
      → (image', answers') ≡ in_turn call_with image (map call_or_none (call_records calls)) answers → (0, image', answers') ≡ table_entry image calls answers
  unfolding table_entry
  table_made h {image'} {answers'} e = rw h (ap (λ (r : List ℕ × List ℕ). (0, r.0, r.1)) (e ∙ records_in_turn (call_records calls) image answers))

-- ── From what was returned ─────────────────────────────────────────────────────────────────────

-- of a table that returned 0
pub record Taken (image calls answers image' answers' : List ℕ) : Type 0 where
  pub fits : table_fits (length calls) (length answers) ≡ true
  pub image_is : image' ≡ (in_turn call_entry image (call_records calls) answers).0
  pub answers_are : answers' ≡ (in_turn call_entry image (call_records calls) answers).1

module _ (image calls answers : List ℕ) where
  abbrev entry_by : Bool → Return
  entry_by b = let made = in_turn call_entry image (call_records calls) answers in cond b (0, made.0, made.1) (14, image, answers)

  pub table_taken : (image' answers' : List ℕ) → TableReturned image calls answers 0 image' answers' → Taken image calls answers image' answers'
  unfolding table_entry
  table_taken image' answers' = go (table_fits (length calls) (length answers)) refl
    where
      go : (b : Bool) → table_fits (length calls) (length answers) ≡ b → (0, image', answers') ≡ entry_by b → Taken image calls answers image' answers'
      go true f e = record { fits = f; image_is = ap (λ (r : Return). r.1) e; answers_are = ap (λ (r : Return). r.2) e }
      go false f e = let no : ◌≡◌ {A = ℕ} 0 14 = ap (λ (r : Return). r.0) e in absurd (omega arith)

  pub table_left : (n : ℕ) (image' answers' : List ℕ) → TableReturned image calls answers (suc n) image' answers'
      → (suc n ≡ 14) × (image' ≡ image) × (answers' ≡ answers)
  unfolding table_entry
  table_left n image' answers' = go (table_fits (length calls) (length answers))
    where
      go : (b : Bool) → (suc n, image', answers') ≡ entry_by b → (suc n ≡ 14) × (image' ≡ image) × (answers' ≡ answers)
      go true e = let no : suc n ≡ 0 = ap (λ (r : Return). r.0) e in absurd (omega arith)
      go false e = (ap (λ (r : Return). r.0) e, ap (λ (r : Return). r.1) e, ap (λ (r : Return). r.2) e)

-- ── The walk ───────────────────────────────────────────────────────────────────────────────────

-- what was made before, in front of what the calls make from here on
abbrev behind : List ℕ → List ℕ × List ℕ → List ℕ × List ℕ
behind front r = (r.0, front ++ r.1)

-- The first i calls have left this image and these answers: the others made from here on give what all of them give.
pub record MadeSoFar (calls : List Call) (image answers : List ℕ) (i : ℕ) (image' answers' : List ℕ) : Type 0 where
  pub verdict : valid_image image' ≡ valid_image image
  pub rest : in_turn call_with image calls answers
      ≡ behind (take (i * answer_length) answers') (in_turn call_with image' (drop i calls) (drop (i * answer_length) answers'))

module _ (calls : List Call) (image answers : List ℕ) where
  pub none_made : MadeSoFar calls image answers 0 image answers
  none_made = record { verdict = refl; rest = refl }

  -- the next call, whose own part of the answers is put back
  pub one_made : (i : ℕ) {image' answers' : List ℕ} → i < length calls → i * answer_length + answer_length ≤ length answers'
      → MadeSoFar calls image answers i image' answers'
      → {number : ℕ} {image'' own : List ℕ} → length own ≡ answer_length
      → (number, image'', own) ≡ call_with image' (get_or calls i no_call) (take answer_length (drop (i * answer_length) answers'))
      → MadeSoFar calls image answers (suc i) image'' (take (i * answer_length) answers' ++ (own ++ drop answer_length (drop (i * answer_length) answers')))
  unfolding in_turn
  one_made i {image'} {answers'} h room M {number} {image''} {own} w e =
      let front : List ℕ = take (i * answer_length) answers' in
      let ahead : List ℕ = drop (i * answer_length) answers' in
      let others : List Call = drop (suc i) calls in
      let after = in_turn call_with image'' others (drop answer_length ahead) in
      let long : length (front ++ own) ≡ suc i * answer_length = length-append front own ∙ omega (arith, length-take-le (i * answer_length) answers' (omega arith), w) in
      let again = sym (append_assoc front own (drop answer_length ahead)) in
      let taken : take (suc i * answer_length) (front ++ (own ++ drop answer_length ahead)) ≡ front ++ own =
      ap (take (suc i * answer_length)) again ∙ take_at (front ++ own) (drop answer_length ahead) (suc i * answer_length) long in
      let dropped : drop (suc i * answer_length) (front ++ (own ++ drop answer_length ahead)) ≡ drop answer_length ahead =
      ap (drop (suc i * answer_length)) again ∙ drop_at (front ++ own) (drop answer_length ahead) (suc i * answer_length) long in
      record {
        verdict = ap (λ (r : Return). valid_image r.1) e ∙ same_verdict image' _ _ ∙ M.verdict;
        rest =
            M.rest
            ∙ ap (λ (cs : List Call). behind front (in_turn call_with image' cs ahead)) (drop-cons calls i no_call h)
            ∙ ap (λ (r : Return). behind front (behind r.2 (in_turn call_with r.1 others (drop answer_length ahead)))) (sym e)
            ∙ ap (λ (l : List ℕ). (after.0, l)) (sym (append_assoc front own after.1))
            ∙ rw (taken, dropped);
      }

  -- the last call is made
  pub all_made : {image' answers' : List ℕ} → MadeSoFar calls image answers (length calls) image' answers'
      → (image', answers') ≡ in_turn call_with image calls answers
  unfolding in_turn
  all_made {image'} {answers'} M =
      let n : ℕ = length calls * answer_length in
      sym (M.rest ∙ rw (drop-length calls) (ap (λ (l : List ℕ). (image', l)) (take-append-drop n answers')))
