-- A table of calls and its calls made singly (02 5/12), on bytes, by what `crz_table` and `crz_call` promise. The proofs are in Laws/.
-- Assumes nothing.
use Rattle.std.specs.Prelude.{false, List, [], ◌∷◌, map, reverse, ◌≡◌, ℕ, suc, ◌*◌, ◌<◌, length, drop}
use Rattle.image.specs.Image.{valid_image}
use Rattle.image.specs.Table.{run_at}
use Rattle.answers.specs.Buffers.{call_count, call_records, answer_length, refused_answer}
use Rattle.crz.specs.CallTable.{TableReturned}
use Rattle.claims.specs.Demand.{Exchange, one_call, MadeFrom, calls_of_table}

-- ── The same image, the same answers ───────────────────────────────────────────────────────────

-- what stands in a table's answers, as exchanges of single calls
abbrev pub exchanges_of : List ℕ → List ℕ → List Exchange
exchanges_of calls answers = calls_of_table (call_records calls) answers []

-- of every table that returned 0: its calls made singly return these numbers and answers, and end in the table's image
abbrev pub TableAsCalls : Type 0
TableAsCalls =
    (image calls answers image' answers' : List ℕ) → TableReturned image calls answers 0 image' answers'
    → MadeFrom image (map one_call (exchanges_of calls answers')) image'

-- every answer has the length of one
abbrev pub AnswersLong : List Exchange → Type 0
AnswersLong [] = Unit {0}
AnswersLong (x ∷ list) = (length x.answer ≡ answer_length) × AnswersLong list

-- And whoever makes calls with the same records singly, on the same image and in the same order, has those numbers and answers and that
-- image. The buffers have an answer's length; what they held before is of no account. The newest call is the first of a list.
abbrev pub SameSingly : Type 0
SameSingly =
    (image calls answers image' answers' : List ℕ) → TableReturned image calls answers 0 image' answers'
    → (list : List Exchange) (image₁ : List ℕ) → MadeFrom image (map one_call list) image₁ → AnswersLong list
    → map (λ (x : Exchange). x.call) list ≡ reverse (call_records calls)
    → (list ≡ exchanges_of calls answers') × (image₁ ≡ image')

-- ── What is left alone ─────────────────────────────────────────────────────────────────────────

-- bytes past the last answer, whatever the table returned
abbrev pub RestKept : Type 0
RestKept =
    (image calls answers : List ℕ) (number : ℕ) (image' answers' : List ℕ) → TableReturned image calls answers number image' answers'
    → drop (call_count calls * answer_length) answers' ≡ drop (call_count calls * answer_length) answers

-- a table that is refused returned 14, and has left image and answers
abbrev pub RefusedAlone : Type 0
RefusedAlone =
    (image calls answers : List ℕ) (n : ℕ) (image' answers' : List ℕ) → TableReturned image calls answers (suc n) image' answers'
    → (suc n ≡ 14) × (image' ≡ image) × (answers' ≡ answers)

-- a table without calls returns 0 and changes nothing, on any image
abbrev pub EmptyTable : Type 0
EmptyTable =
    (image answers : List ℕ) (number : ℕ) (image' answers' : List ℕ) → TableReturned image [] answers number image' answers'
    → (number ≡ 0) × (image' ≡ image) × (answers' ≡ answers)

-- on an image that is not valid a table that is taken has 2 in each answer, and leaves the image
abbrev pub BadImage : Type 0
BadImage =
    (image calls answers image' answers' : List ℕ) → TableReturned image calls answers 0 image' answers' → valid_image image ≡ false
    → (image' ≡ image) × ((i : ℕ) → i < call_count calls → run_at 0 answer_length answers' i ≡ refused_answer 2 [])
