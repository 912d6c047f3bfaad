-- A table of calls is its calls, made one by one.
-- Assumes nothing.
use Rattle.std.specs.Prelude.{Bool, true, false, not, cond, ◌≢◌, ◌≡◌, refl, eqb, ltb, length, get_or, take, drop}
use mathlib.Core.List.{List, [], ◌∷◌, ◌++◌, map, reverse_aux}
use Rattle.std.proofs.Common.{sym, ◌∙◌, subst, le_of_suc-le-suc, not-suc-le-zero, arith, ltb-true, ltb-false, le-ltb, le-leb, ne_eqb, length-drop, length-append, take_at, drop_at, drop-drop, length-take-le}
use Rattle.std.proofs.Math.Path.{ap}
use Prim.Native.Nat.{ℕ, zero, suc, ◌+◌, ◌*◌, ◌≤◌, ◌<◌}
use Rattle.std.proofs.lemmas.Bool.{eqb-false}
use Rattle.std.proofs.Math.Seq.{drop-nil, drop-length, drop-append-add}
use Rattle.zone.specs.declared.Zone.{Zone}
use Rattle.rules.specs.declared.Call.{Call}
use Rattle.rules.specs.declared.Entry.{Entry}
use Rattle.rules.specs.Steps.{Step, Refused, Accepted, step_on, step_number, number_on}
use Rattle.rules.specs.Effects.{effect}
use Rattle.rules.specs.Events.{Done}
use Rattle.image.specs.Image.{valid_image, decode, encode}
use Rattle.image.specs.Table.{table, run_at}
use Rattle.answers.specs.Buffers.{call_length, call_in, call_count, call_records, answer_length, answer_number_place, header_of, accepted_bytes, accepted_answer, refused_answer, padded}
use Rattle.answers.specs.Laws.Answer.{padded_long, accepted_long}
use Rattle.crz.specs.CallTable.{in_turn, table_fits, table_entry}
use Rattle.crz.specs.Laws.CallTable.{fitting, records_long, Taken, table_taken, table_left}
use Rattle.crz.specs.Laws.Figures.{image_left}
use Rattle.crz.specs.Laws.Numbers.{refused_by}
use Rattle.crz.specs.Laws.Returned.{Left, refused, accepted, returned_case}
use Rattle.crz.specs.Returned.{after_buffer_numbers, call_number, record_number, refusal, Return, return_by, call_entry, Returned}
use Rattle.claims.specs.Demand.{Exchange, Handed, one_call, MadeFrom, no_calls, next, next_table, next_figures, calls_of_table, calls_of}
use Rattle.claims.specs.Laws.Calls.{zero_for, kept}
use Rattle.claims.specs.Singly.{exchanges_of, TableAsCalls, AnswersLong, SameSingly, RestKept, RefusedAlone, EmptyTable, BadImage}

-- ── Numbers ────────────────────────────────────────────────────────────────────────────────────

-- no step refuses by 1
never_1 : (z : Zone) (c : Call) → number_on z c ≢ 1
unfolding number_on
never_1 z c = go (step_on z c) refl
  where
    go : (s : Step) → step_on z c ≡ s → step_number s ≢ 1
    go (Refused n) q h = omega (arith, (refused_by z c n q).high, h)
    go (Accepted a) q h = omega (arith, h)

-- an answer that is too short is refused by 1, and no other
data ByAnswer (answer : List ℕ) (number : ℕ) : Type 0 where
  too_short : length answer < answer_length → number ≡ 1 → ByAnswer answer number
  long_enough : answer_length ≤ length answer → number ≢ 1 → ByAnswer answer number

behind_buffers : (image answer : List ℕ) (n : ℕ) → n ≢ 1 → ByAnswer answer (after_buffer_numbers image answer n)
unfolding after_buffer_numbers
behind_buffers image answer n o = go (ltb (length answer) answer_length) (valid_image image) refl
  where
    go : (b v : Bool) → ltb (length answer) answer_length ≡ b → ByAnswer answer (cond b 1 (cond (not v) 2 n))
    go true v e = too_short (ltb-true _ _ e) refl
    go false true e = long_enough (ltb-false _ _ e) o
    go false false e = long_enough (ltb-false _ _ e) (λ h. omega (arith, h))

by_answer : (image call answer : List ℕ) → ByAnswer answer (record_number image call answer)
unfolding record_number call_number
by_answer image call answer = go (eqb (length call) call_length)
  where
    go : (b : Bool) → ByAnswer answer (cond b (after_buffer_numbers image answer (number_on (decode image) (call_in call))) (after_buffer_numbers image answer 3))
    go true = behind_buffers image answer _ (never_1 (decode image) (call_in call))
    go false = behind_buffers image answer 3 (λ e. omega (arith, e))

long_answer : (image call answer : List ℕ) → record_number image call answer ≢ 1 → answer_length ≤ length answer
long_answer image call answer o = go (by_answer image call answer)
  where
    go : ByAnswer answer (record_number image call answer) → answer_length ≤ length answer
    go (too_short h e) = absurd (o e)
    go (long_enough h e) = h

other_number : (image call answer : List ℕ) → answer_length ≤ length answer → record_number image call answer ≢ 1
other_number image call answer l = go (by_answer image call answer)
  where
    go : ByAnswer answer (record_number image call answer) → record_number image call answer ≢ 1
    go (too_short h e) = absurd (omega arith)
    go (long_enough h e) = e

-- ── The answer of one call ─────────────────────────────────────────────────────────────────────

-- what a refusal leaves is as long as the buffer was
refusal_long : (image call answer : List ℕ) (n : ℕ) → suc n ≡ record_number image call answer → length (refusal (suc n) answer) ≡ length answer
unfolding refusal
refusal_long image call answer n e = go (eqb (suc n) 1) refl
  where
    go : (b : Bool) → eqb (suc n) 1 ≡ b → length (cond b answer (refused_answer (suc n) answer)) ≡ length answer
    go true q = refl
    go false q = padded_long (suc n ∷ []) answer (omega arith) (long_answer image call answer (λ h. eqb-false (suc n) 1 q (e ∙ h)))

-- and its first byte is the number, where that is not 1
refusal_first : (n : ℕ) (answer : List ℕ) → suc n ≢ 1 → get_or (refusal (suc n) answer) answer_number_place 0 ≡ suc n
unfolding refusal padded
refusal_first n answer o = rw (ne_eqb (suc n) 1 o)

accepted_first : (z : Zone) (es : List Entry) (answer : List ℕ) → get_or (accepted_answer z es answer) answer_number_place 0 ≡ 0
unfolding padded accepted_bytes header_of
accepted_first z es answer = refl

module _ (image call answer : List ℕ) (number : ℕ) (image' answer' : List ℕ) (R : Returned image call answer number image' answer') where
  -- the buffer keeps its length
  pub same_long : length answer' ≡ length answer
  same_long = let C = returned_case image call answer number image' answer' R in go C.left C.is
    where
      go : {n : ℕ} {i a : List ℕ} → Left image (call_in call) answer n i a → n ≡ record_number image call answer → length a ≡ length answer
      go (refused n) e = refusal_long image call answer n e
      go accepted e =
          accepted_long (effect (decode image) (call_in call)).zone (effect (decode image) (call_in call)).entries answer (kept image (call_in call) (zero_for image call answer e)).count
          (long_answer image call answer (λ h. omega (arith, h, e)))

  -- the number stands in the answer
  pub number_first : answer_length ≤ length answer → get_or answer' answer_number_place 0 ≡ number
  number_first h = let C = returned_case image call answer number image' answer' R in go C.left C.is
    where
      go : {n : ℕ} {i a : List ℕ} → Left image (call_in call) answer n i a → n ≡ record_number image call answer → get_or a answer_number_place 0 ≡ n
      go (refused n) e = refusal_first n answer (λ o. other_number image call answer h (sym e ∙ o))
      go accepted e = accepted_first (effect (decode image) (call_in call)).zone (effect (decode image) (call_in call)).entries answer

-- ── One by one ─────────────────────────────────────────────────────────────────────────────────

-- single calls alone, from an image on
pub data OneByOne (start : List ℕ) : List Exchange → List ℕ → Type 0 where
  none_made : OneByOne start [] start
  then : {list : List Exchange} {image : List ℕ} → OneByOne start list image → (call answer : List ℕ) (number : ℕ) (image' answer' : List ℕ)
      → Returned image call answer number image' answer'
      → OneByOne start (record { call = call; number = number; answer = answer' } ∷ list) image'

-- answers for one call and n more: its own part has an answer's length before and after it, and the others have room behind it
module _ (n : ℕ) (answers : List ℕ) (h : suc n * answer_length ≤ length answers) where
  own_long : length (take answer_length answers) ≡ answer_length
  own_long = length-take-le answer_length answers (omega arith)

  made_long : (image call : List ℕ) → length (call_entry image call (take answer_length answers)).2 ≡ answer_length
  made_long image call =
      let r : Return = call_entry image call (take answer_length answers) in
      same_long image call (take answer_length answers) r.0 r.1 r.2 refl ∙ own_long

  room_behind : n * answer_length ≤ length (drop answer_length answers)
  room_behind = rw (length-drop answer_length answers) (omega arith)

-- calls in turn, behind those that were made before
calls_made : {start : List ℕ} {list : List Exchange} (calls : List (List ℕ)) {image : List ℕ} (answers : List ℕ) → length calls * answer_length ≤ length answers
    → OneByOne start list image → OneByOne start (calls_of_table calls (in_turn call_entry image calls answers).1 list) (in_turn call_entry image calls answers).0
unfolding in_turn calls_of_table
calls_made [] answers h m = m
calls_made {start} {list} (call ∷ calls) {image} answers h m =
    let own : List ℕ = take answer_length answers in
    let r : Return = call_entry image call own in
    let rest = in_turn call_entry r.1 calls (drop answer_length answers) in
    let long : length r.2 ≡ answer_length = made_long (length calls) answers h image call in
    rw (
      take_at r.2 rest.1 answer_length long,
      drop_at r.2 rest.1 answer_length long,
      number_first image call own r.0 r.1 r.2 refl (omega (arith, own_long (length calls) answers h)),
    ) (calls_made {list = record { call = call; number = r.0; answer = r.2 } ∷ list} calls (drop answer_length answers) (room_behind (length calls) answers h) (then m call own r.0 r.1 r.2 refl))

table_room : (image calls answers image' answers' : List ℕ) → Taken image calls answers image' answers' → length (call_records calls) * answer_length ≤ length answers
table_room image calls answers image' answers' T = rw (records_long calls) (fitting (length calls) (length answers) T.fits).room

-- every list, call by call
pub one_by_one : {start : List ℕ} {list : List Handed} {image : List ℕ} → MadeFrom start list image → OneByOne start (calls_of list) image
unfolding calls_of
one_by_one no_calls = none_made
one_by_one (next m call answer number image' answer' R) = then (one_by_one m) call answer number image' answer' R
one_by_one {start} (next_table {list} {image} m calls answers zero image' answers' R) =
    let T = table_taken image calls answers image' answers' R in
    rw (T.image_is, T.answers_are) (calls_made (call_records calls) answers (table_room image calls answers image' answers' T) (one_by_one m))
one_by_one {start} (next_table {list} {image} m calls answers (suc n) image' answers' R) =
    subst (λ (i : List ℕ). OneByOne start (calls_of list) i) (sym (table_left image calls answers n image' answers' R).1) (one_by_one m)
one_by_one {start} (next_figures {list} {image} m figures number image' figures' R) =
    subst (λ (i : List ℕ). OneByOne start (calls_of list) i) (sym (image_left image figures number image' figures' R)) (one_by_one m)

-- ── The same singly ────────────────────────────────────────────────────────────────────────────

singly : {start : List ℕ} {list : List Exchange} {image : List ℕ} → OneByOne start list image → MadeFrom start (map one_call list) image
singly none_made = no_calls
singly (then m call answer number image' answer' R) = next (singly m) call answer number image' answer' R

calls_of_single : (list : List Exchange) → calls_of (map one_call list) ≡ list
unfolding calls_of
calls_of_single [] = refl
calls_of_single (x ∷ list) = ap (λ (l : List Exchange). x ∷ l) (calls_of_single list)

table_made_singly : (image calls answers image' answers' : List ℕ) → Taken image calls answers image' answers' → OneByOne image (exchanges_of calls answers') image'
table_made_singly image calls answers image' answers' T =
    rw (T.image_is, T.answers_are) (calls_made (call_records calls) answers (table_room image calls answers image' answers' T) none_made)

pub table_as_calls : TableAsCalls
table_as_calls image calls answers image' answers' R = singly (table_made_singly image calls answers image' answers' (table_taken image calls answers image' answers' R))

-- what an answer buffer of an answer's length held before is of no account
nothing_past : (s : List ℕ) → length s ≡ answer_length → drop answer_length s ≡ []
nothing_past s l = ap (λ (n : ℕ). drop n s) (sym l) ∙ drop-length s

module _ (a b : List ℕ) (la : length a ≡ answer_length) (lb : length b ≡ answer_length) where
  padded_alike : (bytes : List ℕ) → padded bytes a ≡ padded bytes b
  unfolding padded
  padded_alike bytes = rw (nothing_past a la, nothing_past b lb)

  number_alike : (image call : List ℕ) → record_number image call a ≡ record_number image call b
  unfolding record_number call_number after_buffer_numbers
  number_alike image call = rw (la, lb)

  return_alike : (n : ℕ) (image : List ℕ) (c : Call) → n ≢ 1 → return_by n image c a ≡ return_by n image c b
  unfolding return_by refusal
  return_alike zero image c o = let d : Done = effect (decode image) c in ap (λ (s : List ℕ). (0, encode d.zone, s)) (padded_alike (accepted_bytes d.zone d.entries))
  return_alike (suc n) image c o = rw (ne_eqb (suc n) 1 o) (ap (λ (s : List ℕ). (suc n, image, s)) (padded_alike (suc n ∷ [])))

  entry_alike : (image call : List ℕ) → call_entry image call a ≡ call_entry image call b
  unfolding call_entry
  entry_alike image call =
      return_alike (record_number image call a) image (call_in call) (other_number image call a (omega (arith, la)))
      ∙ ap (λ (n : ℕ). return_by n image (call_in call) b) (number_alike image call)

abbrev records_of : List Exchange → List (List ℕ)
records_of list = map (λ (x : Exchange). x.call) list

abbrev head_of : List (List ℕ) → List ℕ
head_of [] = []
head_of (x ∷ l) = x

abbrev tail_of : List (List ℕ) → List (List ℕ)
tail_of [] = []
tail_of (x ∷ l) = l

-- two lists with the same records
alike : {start : List ℕ} {list₁ list₂ : List Exchange} {image₁ image₂ : List ℕ} → OneByOne start list₁ image₁ → OneByOne start list₂ image₂
    → AnswersLong list₁ → AnswersLong list₂ → records_of list₁ ≡ records_of list₂ → (list₁ ≡ list₂) × (image₁ ≡ image₂)
alike none_made none_made h₁ h₂ e = (refl, refl)
alike none_made (then m call answer number image' answer' R) h₁ h₂ e = absurd (omega (arith, ap length e))
alike (then m call answer number image' answer' R) none_made h₁ h₂ e = absurd (omega (arith, ap length e))
alike (then {image = image₁} m₁ call₁ answer₁ number₁ image₁' answer₁' R₁) (then {image = image₂} m₂ call₂ answer₂ number₂ image₂' answer₂' R₂) h₁ h₂ e =
    let before = alike m₁ m₂ h₁.1 h₂.1 (ap tail_of e) in
    let l₁ : length answer₁ ≡ answer_length = sym (same_long image₁ call₁ answer₁ number₁ image₁' answer₁' R₁) ∙ h₁.0 in
    let l₂ : length answer₂ ≡ answer_length = sym (same_long image₂ call₂ answer₂ number₂ image₂' answer₂' R₂) ∙ h₂.0 in
    let same : ◌≡◌ {A = Return} (number₁, image₁', answer₁') (number₂, image₂', answer₂') =
    R₁ ∙ entry_alike answer₁ answer₂ l₁ l₂ image₁ call₁ ∙ ap (λ (i : List ℕ). call_entry i call₁ answer₂) before.1
    ∙ ap (λ (c : List ℕ). call_entry image₂ c answer₂) (ap head_of e) ∙ sym R₂ in
    (λ i. record { call = head_of (e i); number = (same i).0; answer = (same i).2 } ∷ before.0 i, ap (λ (r : Return). r.1) same)

-- the records and the lengths of a table's exchanges
records_of_table : (calls : List (List ℕ)) (answers : List ℕ) (before : List Exchange) → records_of (calls_of_table calls answers before) ≡ reverse_aux calls (records_of before)
unfolding calls_of_table
records_of_table [] answers before = refl
records_of_table (call ∷ calls) answers before = records_of_table calls (drop answer_length answers) _

table_long : (calls : List (List ℕ)) (answers : List ℕ) (before : List Exchange) → length calls * answer_length ≤ length answers → AnswersLong before
    → AnswersLong (calls_of_table calls answers before)
unfolding calls_of_table
table_long [] answers before h b = b
table_long (call ∷ calls) answers before h b =
    table_long calls (drop answer_length answers) _ (room_behind (length calls) answers h) (own_long (length calls) answers h, b)

-- calls in turn leave the answers as long as they were
in_turn_long : (calls : List (List ℕ)) (image answers : List ℕ) → length calls * answer_length ≤ length answers → length (in_turn call_entry image calls answers).1 ≡ length answers
unfolding in_turn
in_turn_long [] image answers h = refl
in_turn_long (call ∷ calls) image answers h =
    let r : Return = call_entry image call (take answer_length answers) in
    length-append r.2 _
    ∙ omega (
      arith,
      made_long (length calls) answers h image call,
      in_turn_long calls r.1 (drop answer_length answers) (room_behind (length calls) answers h),
      length-drop answer_length answers,
    )

pub same_singly : SameSingly
same_singly image calls answers image' answers' R list image₁ m long e =
    let T = table_taken image calls answers image' answers' R in
    let room = table_room image calls answers image' answers' T in
    let wide : length answers' ≡ length answers = ap length T.answers_are ∙ in_turn_long (call_records calls) image answers room in
    alike (subst (λ (l : List Exchange). OneByOne image l image₁) (calls_of_single list) (one_by_one m)) (table_made_singly image calls answers image' answers' T)
    long (table_long (call_records calls) answers' [] (omega (arith, room, wide)) tt) (e ∙ sym (records_of_table (call_records calls) answers' []))

-- ── What is left alone ─────────────────────────────────────────────────────────────────────────

rest_in_turn : (calls : List (List ℕ)) (image answers : List ℕ) → length calls * answer_length ≤ length answers
    → drop (length calls * answer_length) (in_turn call_entry image calls answers).1 ≡ drop (length calls * answer_length) answers
unfolding in_turn
rest_in_turn [] image answers h = refl
rest_in_turn (call ∷ calls) image answers h =
    let r : Return = call_entry image call (take answer_length answers) in
    let n : ℕ = length calls * answer_length in
    let split : suc (length calls) * answer_length ≡ length r.2 + n = omega (arith, made_long (length calls) answers h image call) in
    let whole : suc (length calls) * answer_length ≡ answer_length + n = omega arith in
    ap (λ (j : ℕ). drop j (r.2 ++ (in_turn call_entry r.1 calls (drop answer_length answers)).1)) split
    ∙ drop-append-add r.2 _ n ∙ rest_in_turn calls r.1 (drop answer_length answers) (room_behind (length calls) answers h)
    ∙ drop-drop n answer_length answers ∙ ap (λ (j : ℕ). drop j answers) (sym whole)

pub rest_kept : RestKept
rest_kept image calls answers zero image' answers' R =
    let T = table_taken image calls answers image' answers' R in
    ap (drop (call_count calls * answer_length)) T.answers_are
    ∙ subst (λ (n : ℕ). drop (n * answer_length) (in_turn call_entry image (call_records calls) answers).1 ≡ drop (n * answer_length) answers) (records_long calls)
    (rest_in_turn (call_records calls) image answers (table_room image calls answers image' answers' T))
rest_kept image calls answers (suc n) image' answers' R = ap (drop (call_count calls * answer_length)) (table_left image calls answers n image' answers' R).2

pub refused_alone : RefusedAlone
refused_alone image calls answers n image' answers' R = table_left image calls answers n image' answers' R

empty_returned : (image answers : List ℕ) → table_entry image [] answers ≡ (0, image, answers)
unfolding table_entry table_fits call_records table in_turn
empty_returned image answers = rw (le-leb 0 (length answers) (omega arith))

pub empty_table : EmptyTable
empty_table image answers number image' answers' R =
    let e = R ∙ empty_returned image answers in
    (ap (λ (r : Return). r.0) e, ap (λ (r : Return). r.1) e, ap (λ (r : Return). r.2) e)

-- ── A bad image ────────────────────────────────────────────────────────────────────────────────

bad_number : (image call own : List ℕ) → valid_image image ≡ false → length own ≡ answer_length → record_number image call own ≡ 2
unfolding record_number call_number after_buffer_numbers
bad_number image call own v l = rw (le-ltb (length own) answer_length (omega (arith, l)), v) (go (eqb (length call) call_length))
  where
    go : (b : Bool) → ◌≡◌ {A = ℕ} (cond b 2 2) 2
    go true = refl
    go false = refl

-- one call on it
bad_entry : (image call own : List ℕ) → valid_image image ≡ false → length own ≡ answer_length → call_entry image call own ≡ (2, image, refused_answer 2 [])
unfolding call_entry return_by refusal padded
bad_entry image call own v l =
    ap (λ (n : ℕ). return_by n image (call_in call) own) (bad_number image call own v l)
    ∙ rw (nothing_past own l, drop-nil {A = ℕ} answer_length)

-- the first call and those behind it
in_turn_first : (image call : List ℕ) (calls : List (List ℕ)) (answers : List ℕ) {r : Return} → call_entry image call (take answer_length answers) ≡ r
    → in_turn call_entry image (call ∷ calls) answers
    ≡ ((in_turn call_entry r.1 calls (drop answer_length answers)).0, r.2 ++ (in_turn call_entry r.1 calls (drop answer_length answers)).1)
unfolding in_turn
in_turn_first image call calls answers e =
    ap (λ (r : Return). ((in_turn call_entry r.1 calls (drop answer_length answers)).0, r.2 ++ (in_turn call_entry r.1 calls (drop answer_length answers)).1)) e

bad_long : length (refused_answer 2 []) ≡ answer_length
unfolding padded
bad_long = refl

-- the same answer for each call
each_run : (n : ℕ) (first later : List ℕ) → length first ≡ answer_length → ((i : ℕ) → i < n → run_at 0 answer_length later i ≡ first)
    → (i : ℕ) → i < suc n → run_at 0 answer_length (first ++ later) i ≡ first
each_run n first later l R zero h = take_at first later answer_length l
each_run n first later l R (suc i) h =
    let e : 0 + suc i * answer_length ≡ length first + (0 + i * answer_length) = omega (arith, l) in
    ap (λ (j : ℕ). take answer_length (drop j (first ++ later))) e ∙ ap (take answer_length) (drop-append-add first later (0 + i * answer_length)) ∙ R i (le_of_suc-le-suc h)

bad_in_turn : (calls : List (List ℕ)) (image answers : List ℕ) → valid_image image ≡ false → length calls * answer_length ≤ length answers
    → ((in_turn call_entry image calls answers).0 ≡ image)
    × ((i : ℕ) → i < length calls → run_at 0 answer_length (in_turn call_entry image calls answers).1 i ≡ refused_answer 2 [])
unfolding in_turn
bad_in_turn [] image answers v h = (refl, λ i l. absurd (not-suc-le-zero l))
bad_in_turn (call ∷ calls) image answers v h =
    let e = in_turn_first image call calls answers (bad_entry image call (take answer_length answers) v (own_long (length calls) answers h)) in
    let R = bad_in_turn calls image (drop answer_length answers) v (room_behind (length calls) answers h) in (
      ap (λ (r : List ℕ × List ℕ). r.0) e ∙ R.0,
      λ i l. ap (λ (r : List ℕ × List ℕ). run_at 0 answer_length r.1 i) e ∙ each_run (length calls) (refused_answer 2 []) _ bad_long R.1 i l,
    )

pub bad_image_lem : BadImage
bad_image_lem image calls answers image' answers' R v =
    let T = table_taken image calls answers image' answers' R in
    let B = bad_in_turn (call_records calls) image answers v (table_room image calls answers image' answers' T) in
    (T.image_is ∙ B.0, λ i l. ap (λ (s : List ℕ). run_at 0 answer_length s i) T.answers_are ∙ B.1 i (rw (records_long calls) l))
