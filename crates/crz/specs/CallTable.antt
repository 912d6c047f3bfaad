-- A table of calls (02 5/12): what its entry returns, and leaves in the image and in the answers. All of it is made of `call_entry`, what a
-- single call returns and leaves.
-- Assumes nothing.
use Rattle.std.specs.Prelude.{Bool, cond, ◌&&◌, List, [], ◌∷◌, ◌++◌, ◌≡◌, ℕ, ◌*◌, ◌/◌, ◌%◌, eqb, leb, length, take, drop}
use Rattle.answers.specs.Buffers.{call_length, most_calls, call_records, answer_length}
use Rattle.crz.specs.Returned.{Return, call_entry}

-- ── One call after the other ───────────────────────────────────────────────────────────────────

-- Image and answers after a list of calls, where `one` is what a single call returns and leaves. Each is made on the image that the one
-- before it left, whatever that one returned, and on its own part of the answers, which is as long as an answer. Behind the last call's part
-- the answers are as they were.
unfoldable pub in_turn : {A : Type 0} → (List ℕ → A → List ℕ → Return) → List ℕ → List A → List ℕ → List ℕ × List ℕ
in_turn one image [] answers = (image, answers)
in_turn one image (c ∷ cs) answers =
    let r = one image c (take answer_length answers) in
    let rest = in_turn one r.1 cs (drop answer_length answers) in
    (rest.0, r.2 ++ rest.1)

-- ── The entry ──────────────────────────────────────────────────────────────────────────────────

-- by the lengths alone: whole records, no more of them than a table has, and an answer's length for each
unfoldable pub table_fits : ℕ → ℕ → Bool
table_fits calls answers =
    eqb (calls % call_length) 0 && leb (calls / call_length) most_calls && leb (calls / call_length * answer_length) answers

-- Lengths that do not fit are refused by 14, with all buffers as they were. Any other table returns 0, and its records are calls made one
-- after the other.
unfoldable pub table_entry : List ℕ → List ℕ → List ℕ → Return
table_entry image calls answers =
    let made = in_turn call_entry image (call_records calls) answers in
    cond (table_fits (length calls) (length answers)) (0, made.0, made.1) (14, image, answers)

-- a table on these buffers returned this number, image and answers
abbrev pub TableReturned : List ℕ → List ℕ → List ℕ → ℕ → List ℕ → List ℕ → Type 0
TableReturned image calls answers number image' answers' = (number, image', answers') ≡ table_entry image calls answers
