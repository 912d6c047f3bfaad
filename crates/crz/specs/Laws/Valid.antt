-- The verdict on an image is that on the image after a call: an accepted call leaves a valid one, a refused one leaves it as it was.
-- Assumes nothing.
use Rattle.std.specs.Prelude.{Bool, true, false, not, cond, List, ◌≡◌, refl, ℕ, zero, suc, ltb, length}
use Rattle.std.proofs.Common.{sym, ◌∙◌, arith}
use Rattle.rules.specs.declared.Call.{Call}
use Rattle.rules.specs.Effects.{effect}
use Rattle.rules.specs.Laws.Chain.{taken}
use Rattle.rules.specs.Laws.Good.{Good, valid_of_lem}
use Rattle.rules.specs.Laws.Keeps.{taken_good}
use Rattle.rules.specs.Steps.{number_on}
use Rattle.image.specs.Image.{valid_image, decode, encode}
use Rattle.image.specs.Laws.RoundTrip.{valid_encode, valid_decode}
use Rattle.answers.specs.Buffers.{answer_length}
use Rattle.lots.specs.Laws.Visits.{good_decode}
use Rattle.crz.specs.Returned.{after_buffer_numbers, call_number, return_by, call_with}

-- a call that is accepted on a valid image
pub record Zero (image : List ℕ) (c : Call) : Type 0 where
  pub valid : valid_image image ≡ true
  pub number : number_on (decode image) c ≡ 0

pub behind_0 : (image answer : List ℕ) (n : ℕ) → 0 ≡ after_buffer_numbers image answer n → (valid_image image ≡ true) × (n ≡ 0)
unfolding after_buffer_numbers
behind_0 image answer n h = go (ltb (length answer) answer_length) (valid_image image) h
  where
    go : (a b : Bool) → 0 ≡ cond a 1 (cond (not b) 2 n) → (b ≡ true) × (n ≡ 0)
    go true b h = absurd (omega arith)
    go false true h = (refl, sym h)
    go false false h = absurd (omega arith)

pub zero_with : (image : List ℕ) (c : Call) (answer : List ℕ) → 0 ≡ call_number image c answer → Zero image c
unfolding call_number
zero_with image c answer h = let t = behind_0 image answer _ h in record { valid = t.0; number = t.1 }

pub good_image : (image : List ℕ) → valid_image image ≡ true → Good (decode image)
good_image image ok = good_decode image (valid_decode image ok)

-- the image after an accepted call
pub new_valid : (image : List ℕ) (c : Call) → Zero image c → valid_image (encode (effect (decode image) c).zone) ≡ true
new_valid image c Z =
    let G : Good (effect (decode image) c).zone = taken_good (taken (decode image) c Z.number) (good_image image Z.valid) in
    valid_encode (effect (decode image) c).zone G.sized (valid_of_lem (effect (decode image) c).zone G)

pub same_verdict : (image : List ℕ) (c : Call) (answer : List ℕ) → valid_image (call_with image c answer).1 ≡ valid_image image
unfolding call_with return_by
same_verdict image c answer = go (call_number image c answer) refl
  where
    go : (n : ℕ) → n ≡ call_number image c answer → valid_image (return_by n image c answer).1 ≡ valid_image image
    go zero e = let Z : Zero image c = zero_with image c answer e in new_valid image c Z ∙ sym Z.valid
    go (suc n) e = refl
