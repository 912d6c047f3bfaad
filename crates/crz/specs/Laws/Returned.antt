-- From the tests of an entry to what it returns and leaves.
-- Assumes nothing.
use Rattle.std.specs.Prelude.{Bool, true, false, not, cond, refl, eqb, ltb, length}
use mathlib.Core.List.{List}
use Rattle.std.proofs.Math.Path.{◌≡◌, ap}
use Rattle.std.proofs.Common.{sym, ◌∙◌, lt-ltb, le-ltb, ne_eqb}
use Prim.Native.Nat.{ℕ, zero, suc, ◌≤◌, ◌<◌}
use Rattle.zone.specs.declared.Zone.{Zone}
use Rattle.rules.specs.declared.Call.{Call}
use Rattle.rules.specs.Effects.{effect}
use Rattle.rules.specs.Numbers.{ill_formed, first_number}
use Rattle.rules.specs.Steps.{step_at, number_on}
use Rattle.image.specs.Image.{valid_image, decode, encode}
use Rattle.answers.specs.Buffers.{call_length, answer_length, call_in, no_call, call_or_none, refused_answer, accepted_answer}
use Rattle.crz.specs.Returned.{after_buffer_numbers, call_number, record_number, refusal, Return, return_by, call_with, call_entry, Returned}

-- ── The number ─────────────────────────────────────────────────────────────────────────────────

module _ (image answer : List ℕ) (n : ℕ) where
  pub short_number : length answer < answer_length → after_buffer_numbers image answer n ≡ 1
  unfolding after_buffer_numbers
  short_number h = rw (lt-ltb _ _ h)

  module _ (long : answer_length ≤ length answer) where
    pub image_number : valid_image image ≡ false → after_buffer_numbers image answer n ≡ 2
    unfolding after_buffer_numbers
    image_number v = rw (le-ltb _ _ long, v)

    pub call_number_lem : valid_image image ≡ true → after_buffer_numbers image answer n ≡ n
    unfolding after_buffer_numbers
    call_number_lem v = rw (le-ltb _ _ long, v)

-- the same of a call given by its fields
module _ (image : List ℕ) (c : Call) (answer : List ℕ) where
  pub short_with : length answer < answer_length → call_number image c answer ≡ 1
  unfolding call_number
  short_with h = short_number image answer _ h

  pub image_with : answer_length ≤ length answer → valid_image image ≡ false → call_number image c answer ≡ 2
  unfolding call_number
  image_with h v = image_number image answer _ h v

  pub call_with_lem : answer_length ≤ length answer → valid_image image ≡ true → call_number image c answer ≡ number_on (decode image) c
  unfolding call_number
  call_with_lem h v = call_number_lem image answer _ h v

-- ── The answer of a refusal ────────────────────────────────────────────────────────────────────

-- a refusal by 1 leaves the answer, any other writes it
pub refusal_short : (answer : List ℕ) → refusal 1 answer ≡ answer
unfolding refusal
refusal_short answer = refl

pub refusal_written : (n r : ℕ) (answer answer' : List ℕ) → r ≡ n → (n ≡ 1 → ⊥) → answer' ≡ refused_answer n answer → answer' ≡ refusal r answer
unfolding refusal
refusal_written n r answer answer' e h q = q ∙ sym (rw (e, ne_eqb n 1 h))

-- ── What is returned ───────────────────────────────────────────────────────────────────────────

module _ (image : List ℕ) (c : Call) (answer : List ℕ) where
  refused_by_number : (r : ℕ) (answer' : List ℕ) → (r ≡ 0 → ⊥) → answer' ≡ refusal r answer → (r, image, answer') ≡ return_by r image c answer
  unfolding return_by
  refused_by_number zero answer' h e = absurd (h refl)
  refused_by_number (suc n) answer' h e = ap (λ (a : List ℕ). (suc n, image, a)) e

  module _ (r : ℕ) where
    pub refused_with_lem : (answer' : List ℕ) → r ≡ call_number image c answer → (r ≡ 0 → ⊥) → answer' ≡ refusal r answer
        → (r, image, answer') ≡ call_with image c answer
    unfolding call_with
    refused_with_lem answer' is h e = refused_by_number r answer' h e ∙ ap (λ (n : ℕ). return_by n image c answer) is

    pub done_with : (image' answer' : List ℕ) → r ≡ 0 → 0 ≡ call_number image c answer → image' ≡ encode (effect (decode image) c).zone
        → answer' ≡ accepted_answer (effect (decode image) c).zone (effect (decode image) c).entries answer
        → (r, image', answer') ≡ call_with image c answer
    unfolding call_with return_by
    done_with image' answer' z is ei ea =
        let d = effect (decode image) c in
        let all : ◌≡◌ {A = Return} (r, image', answer') (0, encode d.zone, accepted_answer d.zone d.entries answer) = λ i. (z i, ei i, ea i) in
        all ∙ ap (λ (n : ℕ). return_by n image c answer) is

-- ── A record of any length ─────────────────────────────────────────────────────────────────────

no_call_number : (z : Zone) → number_on z no_call ≡ 3
unfolding number_on step_at first_number ill_formed
no_call_number z = refl

no_call_with : (image answer : List ℕ) → call_number image no_call answer ≡ after_buffer_numbers image answer 3
unfolding call_number
no_call_with image answer = ap (after_buffer_numbers image answer) (no_call_number (decode image))

-- 3 is refused, if nothing before it is, and a refusal leaves the same behind whatever the call
refused_alike : (image answer : List ℕ) (b c : Call) → return_by (after_buffer_numbers image answer 3) image b answer
    ≡ return_by (after_buffer_numbers image answer 3) image c answer
unfolding after_buffer_numbers return_by
refused_alike image answer b c = go (ltb (length answer) answer_length) (valid_image image)
  where
    go : (x y : Bool) → return_by (cond x 1 (cond (not y) 2 3)) image b answer ≡ return_by (cond x 1 (cond (not y) 2 3)) image c answer
    go true y = refl
    go false true = refl
    go false false = refl

pub record_call : (image call answer : List ℕ) → call_with image (call_or_none call) answer ≡ call_entry image call answer
unfolding call_with call_entry record_number call_or_none
record_call image call answer = go (eqb (length call) call_length)
  where
    go : (b : Bool) → return_by (call_number image (cond b (call_in call) no_call) answer) image (cond b (call_in call) no_call) answer
        ≡ return_by (cond b (call_number image (call_in call) answer) (after_buffer_numbers image answer 3)) image (call_in call) answer
    go true = refl
    go false = ap (λ (n : ℕ). return_by n image no_call answer) (no_call_with image answer) ∙ refused_alike image answer no_call (call_in call)

-- ── From what was returned ─────────────────────────────────────────────────────────────────────

-- refused or accepted
pub data Left (image : List ℕ) (c : Call) (answer : List ℕ) : ℕ → List ℕ → List ℕ → Type 0 where
  refused : (n : ℕ) → Left image c answer (suc n) image (refusal (suc n) answer)
  accepted : Left image c answer 0 (encode (effect (decode image) c).zone)
      (accepted_answer (effect (decode image) c).zone (effect (decode image) c).entries answer)

pub record ReturnedCase (image call answer : List ℕ) (number : ℕ) (image' answer' : List ℕ) : Type 0 where
  pub is : number ≡ record_number image call answer
  pub left : Left image (call_in call) answer number image' answer'

pub returned_case : (image call answer : List ℕ) (number : ℕ) (image' answer' : List ℕ) → Returned image call answer number image' answer'
    → ReturnedCase image call answer number image' answer'
unfolding call_entry return_by
returned_case image call answer number image' answer' = go (record_number image call answer) refl
  where
    go : (n : ℕ) → n ≡ record_number image call answer → (number, image', answer') ≡ return_by n image (call_in call) answer
        → ReturnedCase image call answer number image' answer'
    go zero e R = rw (ap (λ (t : Return). t.0) R, ap (λ (t : Return). t.1) R, ap (λ (t : Return). t.2) R) (record { is = e; left = accepted })
    go (suc n) e R = rw (ap (λ (t : Return). t.0) R, ap (λ (t : Return). t.1) R, ap (λ (t : Return). t.2) R) (record { is = e; left = refused n })
