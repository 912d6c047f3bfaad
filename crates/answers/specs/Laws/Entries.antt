-- Entries in the bytes of an answer: what is read of entries that were put, and the bytes that entries were read from.
-- Assumes nothing.
use mathlib.Core.List.{List, [], ◌∷◌, ◌++◌, append-nil}
use Rattle.std.specs.Prelude.{◌≡◌, get_or}
use Rattle.std.proofs.Math.Path.{refl, sym, ap}
use Rattle.std.proofs.Common.{◌∙◌, take_all, take-add, drop-drop, get_or-take, get_or-drop}
use Prim.Native.Nat.{ℕ, zero, suc, ◌+◌, ◌-◌, ◌*◌, ◌^◌, ◌≤◌, ◌<◌}
use native.Mathlib.Omega.{arith}
use Rattle.std.proofs.Math.ListN.{length, take, drop, length-drop}
use Rattle.std.proofs.lemmas.List.Edits.{sets}
use Rattle.std.proofs.Math.Seq.{length-sets, length-take-le}
use Rattle.wire.specs.LittleEndian.{le_at, le_bytes, Bytes}
use Rattle.wire.specs.Laws.Bytes.{le_at_le_bytes, le_bytes_le_at, le_at_lt, sets_append}
use Rattle.rules.specs.declared.Entry.{Entry}
use Rattle.image.specs.Table.{table_bytes, run_at}
use Rattle.image.specs.Laws.Bytes.{bytes_part}
use Rattle.image.specs.Laws.Table.{le_at_part, table_bytes_append, length_table_bytes}
use Rattle.answers.specs.Buffers.{entries_start, entry_length, entry_place, entry_bytes, entry_in, entry_at, entries_from, with_entries}
use Rattle.wire.specs.Laws.Runs.{behind_run, before_run, run_there, run_again, run_over}

pub entry_wide : (e : Entry) → length (entry_bytes e) ≡ entry_length
unfolding entry_bytes le_bytes
entry_wide e = refl

-- each number of the entries fits its four bytes
abbrev pub Numbered : List Entry → Type 0
Numbered [] = Unit {0}
Numbered (e ∷ es) = (e.number < 2 ^ 32) × Numbered es

-- ── One entry ──────────────────────────────────────────────────────────────────────────────────

pub entry_eq : {l l' o o' f f' t t' n n' : ℕ} → l ≡ l' → o ≡ o' → f ≡ f' → t ≡ t' → n ≡ n'
    → ◌≡◌ {A = Entry} (record { lot = l; outcome = o; from = f; to = t; number = n }) (record { lot = l'; outcome = o'; from = f'; to = t'; number = n' })
entry_eq a b c d e = λ i. record { lot = a i; outcome = b i; from = c i; to = d i; number = e i }

-- the bytes of entry k, where they stand in the answer
pub byte_of : (answer : List ℕ) (k o : ℕ) → o < entry_length → get_or answer (entry_place k + o) 0 ≡ get_or (run_at entries_start entry_length answer k) o 0
byte_of answer k o h = sym (get_or-take entry_length (drop (entry_place k) answer) o 0 h ∙ get_or-drop (entry_place k) answer o 0)

-- an entry comes back from its bytes
pub entry_back : (e : Entry) → e.number < 2 ^ 32 → entry_in (entry_bytes e) ≡ e
unfolding entry_in entry_bytes le_at le_bytes
entry_back e h = entry_eq refl refl refl refl (le_at_le_bytes 4 e.number [] [] h)

-- and bytes from their entry
bytes_back : (b : List ℕ) → length b ≡ entry_length → Bytes b → entry_bytes (entry_in b) ≡ b
unfolding entry_in entry_bytes
bytes_back [] n B = absurd (omega arith)
bytes_back (l ∷ []) n B = absurd (omega arith)
bytes_back (l ∷ o ∷ []) n B = absurd (omega arith)
bytes_back (l ∷ o ∷ f ∷ []) n B = absurd (omega arith)
bytes_back (l ∷ o ∷ f ∷ t ∷ b) n B =
    ap (λ (p : List ℕ). l ∷ o ∷ f ∷ t ∷ p) (le_bytes_le_at 4 (l ∷ o ∷ f ∷ t ∷ b) 4 B (omega arith) ∙ take_all 4 b (omega arith))

-- ── The bytes that entries were read from ──────────────────────────────────────────────────────

pub length_read : (n k : ℕ) (answer : List ℕ) → length (entries_from k n answer) ≡ n
unfolding entries_from
length_read zero k answer = refl
length_read (suc n) k answer = ap suc (length_read n (suc k) answer)

module _ (answer : List ℕ) (B : Bytes answer) where
  -- its number fits
  number_read : (k : ℕ) → (entry_at answer k).number < 2 ^ 32
  unfolding entry_in
  number_read k = le_at_lt 4 (run_at entries_start entry_length answer k) 4 (bytes_part entry_length (entry_place k) answer B)

  pub numbered_read : (n k : ℕ) → Numbered (entries_from k n answer)
  unfolding entries_from
  numbered_read zero k = tt
  numbered_read (suc n) k = (number_read k, numbered_read n (suc k))

  pub read_bytes : (n k : ℕ) → entry_place (k + n) ≤ length answer → table_bytes entry_bytes (entries_from k n answer) ≡ take (n * entry_length) (drop (entry_place k) answer)
  unfolding table_bytes entries_from
  read_bytes zero k h = refl
  read_bytes (suc n) k h =
      let long : length (run_at entries_start entry_length answer k) ≡ entry_length =
      length-take-le entry_length (drop (entry_place k) answer) (rw length-drop (omega arith)) in
      let whole : entry_length + n * entry_length ≡ suc n * entry_length = omega arith in
      let next : entry_place k + entry_length ≡ entry_place (suc k) = omega arith in
      ap (λ (p : List ℕ). p ++ table_bytes entry_bytes (entries_from (suc k) n answer))
      (bytes_back (run_at entries_start entry_length answer k) long (bytes_part entry_length (entry_place k) answer B))
      ∙ ap (λ (p : List ℕ). run_at entries_start entry_length answer k ++ p) (read_bytes n (suc k) (omega arith))
      ∙ ap (λ (p : List ℕ). run_at entries_start entry_length answer k ++ take (n * entry_length) p)
      (ap (λ (i : ℕ). drop i answer) (sym next) ∙ sym (drop-drop entry_length (entry_place k) answer))
      ∙ sym (take-add entry_length (n * entry_length) (drop (entry_place k) answer))
      ∙ ap (λ (m : ℕ). take m (drop (entry_place k) answer)) whole

  -- entries that are put where they were read
  pub as_they_stand : (n k : ℕ) → entry_place (k + n) ≤ length answer → with_entries k (entries_from k n answer) answer ≡ answer
  as_they_stand n k h = ap (sets answer (entry_place k)) (read_bytes n k h) ∙ run_again answer (entry_place k) (n * entry_length) (omega arith)

-- ── Entries that move to the front ─────────────────────────────────────────────────────────────

-- the bytes of i - k entries behind entry k, put from entry k on
abbrev pub closed : ℕ → ℕ → List ℕ → List ℕ
closed k i answer = sets answer (entry_place k) (take ((i - k) * entry_length) (drop (entry_place (k + 1)) answer))

pub none_closed : (k : ℕ) (answer : List ℕ) → answer ≡ closed k k answer
none_closed k answer =
    let none : 0 ≡ (k - k) * entry_length = omega arith in
    ap (λ (n : ℕ). sets answer (entry_place k) (take n (drop (entry_place (k + 1)) answer))) none

-- a number of eight bytes read where two lists are alike
same_read : (s t : List ℕ) (at : ℕ) → drop at s ≡ drop at t → le_at 8 s at ≡ le_at 8 t at
same_read s t at e =
    let here : at + 0 ≡ at = omega arith in
    ap (le_at 8 s) (sym here) ∙ sym (le_at_part 8 s at 0 8 (omega arith)) ∙ ap (λ (l : List ℕ). le_at 8 (take 8 l) 0) e
    ∙ le_at_part 8 t at 0 8 (omega arith) ∙ ap (le_at 8 t) here

-- one more
pub one_closed : (k i : ℕ) (answer : List ℕ) → Bytes answer → k ≤ i → entry_place (i + 2) ≤ length answer
    → sets (closed k i answer) (entry_place i) (le_bytes 8 (le_at 8 (closed k i answer) (entry_place i + entry_length))) ≡ closed k (i + 1) answer
one_closed k i answer B h room =
    let n : ℕ = (i - k) * entry_length in
    let from : List ℕ = drop (entry_place (k + 1)) answer in
    let at : ℕ = entry_place i + entry_length in
    let wide : length (take n from) ≡ n = length-take-le n from (rw length-drop (omega arith)) in
    let next : entry_place (k + 1) + n ≡ at = omega arith in
    let end : entry_place k + length (take n from) ≡ entry_place i = omega arith in
    let more : n + entry_length ≡ (i + 1 - k) * entry_length = omega arith in
    let read : le_bytes 8 (le_at 8 (closed k i answer) at) ≡ take entry_length (drop n from) =
    ap (le_bytes 8) (same_read (closed k i answer) answer at (behind_run (take n from) answer (entry_place k) at (omega arith)))
    ∙ le_bytes_le_at 8 answer at B (omega arith)
    ∙ ap (λ (j : ℕ). take entry_length (drop j answer)) (sym next)
    ∙ ap (take entry_length) (sym (drop-drop n (entry_place (k + 1)) answer)) in
    ap (sets (closed k i answer) (entry_place i)) read
    ∙ ap (λ (j : ℕ). sets (closed k i answer) j (take entry_length (drop n from))) (sym end)
    ∙ sym (sets_append answer (entry_place k) (take n from) (take entry_length (drop n from)))
    ∙ ap (sets answer (entry_place k)) (sym (take-add n entry_length from))
    ∙ ap (λ (m : ℕ). sets answer (entry_place k) (take m from)) more

-- ── Entries that were put ──────────────────────────────────────────────────────────────────────

-- one more behind them
pub put_next : (es : List Entry) (e : Entry) (answer : List ℕ) → sets (with_entries 0 es answer) (entry_place (length es)) (entry_bytes e) ≡ with_entries 0 (es ++ (e ∷ [])) answer
unfolding table_bytes
put_next es e answer =
    let here : entries_start + length (table_bytes entry_bytes es) ≡ entry_place (length es) = omega (arith, length_table_bytes entry_bytes entry_length entry_wide es) in
    sym (
    ap (sets answer entries_start) (table_bytes_append entry_bytes es (e ∷ []) ∙ ap (λ (p : List ℕ). table_bytes entry_bytes es ++ p) (append-nil (entry_bytes e)))
    ∙ sets_append answer entries_start (table_bytes entry_bytes es) (entry_bytes e)
    ∙ ap (λ (i : ℕ). sets (with_entries 0 es answer) i (entry_bytes e)) here
    )

-- one more in front of them
pub put_first : (e : Entry) (es : List Entry) (k : ℕ) (answer : List ℕ) → with_entries k (e ∷ es) answer ≡ with_entries (suc k) es (sets answer (entry_place k) (entry_bytes e))
unfolding table_bytes
put_first e es k answer =
    let next : entry_place k + length (entry_bytes e) ≡ entry_place (suc k) = omega (arith, entry_wide e) in
    sets_append answer (entry_place k) (entry_bytes e) (table_bytes entry_bytes es)
    ∙ ap (λ (i : ℕ). sets (sets answer (entry_place k) (entry_bytes e)) i (table_bytes entry_bytes es)) next

-- entry k, which stands before the ones that were put
pub read_before : (es : List Entry) (k : ℕ) (answer : List ℕ) → entry_at (with_entries (suc k) es answer) k ≡ entry_at answer k
read_before es k answer = ap entry_in (before_run (table_bytes entry_bytes es) answer (entry_place (suc k)) (entry_place k) entry_length (omega arith))

-- they are read as they were put
pub entries_there : (es : List Entry) (k : ℕ) (answer : List ℕ) → entry_place (k + length es) ≤ length answer → Numbered es → entries_from k (length es) (with_entries k es answer) ≡ es
unfolding entries_from
entries_there [] k answer h f = refl
entries_there (e ∷ es) k answer h f =
    let put : List ℕ = sets answer (entry_place k) (entry_bytes e) in
    let here : entry_at (with_entries (suc k) es put) k ≡ e =
    read_before es k put
    ∙ ap (λ (n : ℕ). entry_in (take n (drop (entry_place k) put))) (sym (entry_wide e))
    ∙ ap entry_in (run_there (entry_bytes e) answer (entry_place k) (omega (arith, entry_wide e)))
    ∙ entry_back e f.0 in
    ap (entries_from k (suc (length es))) (put_first e es k answer)
    ∙ ap (λ (x : Entry). x ∷ entries_from (suc k) (length es) (with_entries (suc k) es put)) here
    ∙ ap (λ (l : List Entry). e ∷ l) (entries_there es (suc k) put (rw length-sets (omega arith)) f.1)

-- others put over them, up to the same end
pub put_over : (es fs : List Entry) (k j : ℕ) (answer : List ℕ) → k ≤ j → k + length fs ≡ j + length es → entry_place (k + length fs) ≤ length answer
    → with_entries k fs (with_entries j es answer) ≡ with_entries k fs answer
put_over es fs k j answer h e room =
    let long : (l : List Entry) → length (table_bytes entry_bytes l) ≡ length l * entry_length = length_table_bytes entry_bytes entry_length entry_wide in
    run_over (table_bytes entry_bytes fs) (table_bytes entry_bytes es) answer (entry_place k) (entry_place j) (omega arith) (omega (arith, long es, long fs)) (omega (arith, long fs))
