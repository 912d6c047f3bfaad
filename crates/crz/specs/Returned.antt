-- What a call returns, and leaves in the image and in the answer (01 Answers): all three are functions of the three buffers, in every case
-- (02 1/12).
-- Assumes nothing.
use Rattle.std.specs.Prelude.{not, cond, List, Result, Ok, Err, ◌≡◌, ℕ, zero, suc, eqb, ltb, length}
use Rattle.rules.specs.declared.Call.{Call}
use Rattle.rules.specs.declared.Refusal.{Refusal}
use Rattle.rules.specs.Effects.{effect}
use Rattle.rules.specs.Kinds.{refusal_number}
use Rattle.rules.specs.Steps.{number_on}
use Rattle.image.specs.Image.{valid_image, decode, encode}
use Rattle.answers.specs.Buffers.{call_length, call_in, answer_length, refused_answer, accepted_answer}

-- ── The number ─────────────────────────────────────────────────────────────────────────────────

-- The numbers of the buffers come first (01 Answers 12, 13): 1 for a short answer, 2 for an image that is not valid or of another
-- length. Where neither applies it is n, the number of the call.
unfoldable pub after_buffer_numbers : List ℕ → List ℕ → ℕ → ℕ
after_buffer_numbers image answer n = cond (ltb (length answer) answer_length) 1 (cond (not (valid_image image)) 2 n)

-- the number of a call on the zone that the image is
unfoldable pub call_number : List ℕ → Call → List ℕ → ℕ
call_number image c answer = after_buffer_numbers image answer (number_on (decode image) c)

-- the number of a call record (01 Answers 14): a record of another length is refused by 3 before its fields are looked at
unfoldable pub record_number : List ℕ → List ℕ → List ℕ → ℕ
record_number image call answer =
    cond (eqb (length call) call_length) (call_number image (call_in call) answer) (after_buffer_numbers image answer 3)

-- ── What is left behind ────────────────────────────────────────────────────────────────────────

-- in the answer of a refusal (01 Answers 12, 25): by 1 nothing is written, by any other the number stands before zeros
unfoldable pub refusal : ℕ → List ℕ → List ℕ
refusal n answer = cond (eqb n 1) answer (refused_answer n answer)

-- in an answer of zeros, by what a call over it has come to: a refusal's number stands before them
abbrev pub answered : Result (Unit {0}) Refusal → List ℕ → List ℕ
answered (Ok _) answer = answer
answered (Err r) answer = refused_answer (refusal_number r) answer

-- the number returned, and image and answer on return
abbrev pub Return : Type 0
Return = ℕ × List ℕ × List ℕ

-- By its number. A refusal leaves the image; an accepted call leaves the image of the zone after it, and the answer with its entries.
unfoldable pub return_by : ℕ → List ℕ → Call → List ℕ → Return
return_by zero image c answer =
    let d = effect (decode image) c in
    (0, encode d.zone, accepted_answer d.zone d.entries answer)
return_by (suc n) image c answer = (suc n, image, refusal (suc n) answer)

-- of a call given by its fields
unfoldable pub call_with : List ℕ → Call → List ℕ → Return
call_with image c answer = return_by (call_number image c answer) image c answer

-- of a call given by its record
unfoldable pub call_entry : List ℕ → List ℕ → List ℕ → Return
call_entry image call answer = return_by (record_number image call answer) image (call_in call) answer

-- a call on these buffers returned this number, image and answer
abbrev pub Returned : List ℕ → List ℕ → List ℕ → ℕ → List ℕ → List ℕ → Type 0
Returned image call answer number image' answer' = (number, image', answer') ≡ call_entry image call answer
