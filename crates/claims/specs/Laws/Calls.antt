-- One call on bytes, from what holds on values: the image stays valid, and the answer gives back the entries.
-- Assumes nothing.
use Rattle.std.specs.Prelude.{Bool, true, false, cond, List, [], ◌∷◌, ◌≡◌, refl, ℕ, ◌^◌, ◌<◌, eqb, length}
use Rattle.std.proofs.Common.{arith}
use Rattle.rules.specs.declared.Call.{Call}
use Rattle.rules.specs.declared.Entry.{Entry}
use Rattle.rules.specs.Effects.{effect}
use Rattle.rules.specs.Events.{Done}
use Rattle.rules.specs.Steps.{number_on}
use Rattle.image.specs.Image.{decode, encode}
use Rattle.image.specs.Laws.RoundTrip.{decode_encode, valid_decode, decode_sized}
use Rattle.answers.specs.Buffers.{call_length, call_in, entries_in, accepted_answer}
use Rattle.answers.specs.Laws.Entries.{Numbered}
use Rattle.answers.specs.Laws.ReadBack.{entries_back}
use Rattle.crz.specs.Laws.Returned.{Left, refused, accepted, returned_case}
use Rattle.crz.specs.Laws.Valid.{Zero, behind_0, new_valid}
use Rattle.crz.specs.Returned.{after_buffer_numbers, call_number, record_number, Returned}
use Rattle.claims.specs.Demand.{KeepsImage, ImageKept}
use Rattle.claims.specs.Kept.{EntryFits, NumbersFit, Kept}
use Rattle.claims.specs.PriceOrder.{EachEntry}
use Rattle.claims.specs.Laws.Kept.{keeps_valid}
use Rattle.claims.specs.Laws.Order.{each_map}

-- ── The entries of an answer ───────────────────────────────────────────────────────────────────

numbers_fit : (es : List Entry) → EachEntry EntryFits es → NumbersFit es
numbers_fit = each_map EntryFits (λ e. e.number < 2 ^ 32) (λ e f. f.number)

pub numbered : (es : List Entry) → NumbersFit es → Numbered es
numbered [] s = tt
numbered (e ∷ es) s = (s.0, numbered es s.1)

-- ── Number 0 ───────────────────────────────────────────────────────────────────────────────────

pub zero_for : (image call answer : List ℕ) → 0 ≡ record_number image call answer → Zero image (call_in call)
unfolding record_number call_number
zero_for image call answer h = go (eqb (length call) call_length) h
  where
    go : (b : Bool) → 0 ≡ cond b (after_buffer_numbers image answer (number_on (decode image) (call_in call))) (after_buffer_numbers image answer 3) → Zero image (call_in call)
    go true h = let t = behind_0 image answer _ h in record { valid = t.0; number = t.1 }
    go false h = absurd (let t = (behind_0 image answer 3 h).1 in omega arith)

-- ── One call ───────────────────────────────────────────────────────────────────────────────────

module _ (image : List ℕ) (c : Call) (ok : Zero image c) where
  abbrev done : Done
  done = effect (decode image) c

  pub kept : Kept c.kind done
  kept = keeps_valid (decode image) c (decode_sized image) (valid_decode image ok.valid) ok.number

  pub new_zone : decode (encode done.zone) ≡ done.zone
  new_zone = decode_encode done.zone kept.sized kept.valid

  pub read_back : (answer : List ℕ) → entries_in (accepted_answer done.zone done.entries answer) ≡ done.entries
  read_back answer = entries_back done.zone done.entries answer (omega (arith, kept.count)) (numbered done.entries (numbers_fit done.entries kept.fit))

-- number 0, and what the call has left
pub record AcceptedCall (image call answer image' answer' : List ℕ) : Type 0 where
  pub zero : Zero image (call_in call)
  pub image_is : image' ≡ encode (effect (decode image) (call_in call)).zone
  pub answer_is : answer' ≡ accepted_answer (effect (decode image) (call_in call)).zone (effect (decode image) (call_in call)).entries answer

pub accepted_call : (image call answer image' answer' : List ℕ) → Returned image call answer 0 image' answer' → AcceptedCall image call answer image' answer'
accepted_call image call answer image' answer' R =
    let C = returned_case image call answer 0 image' answer' R in
    go C.left C.is refl
  where
    go : {n : ℕ} {i a : List ℕ} → Left image (call_in call) answer n i a → 0 ≡ record_number image call answer → n ≡ 0 → AcceptedCall image call answer i a
    go (refused n) e h = absurd (omega arith)
    go accepted e h = record { zero = zero_for image call answer e; image_is = refl; answer_is = refl }

pub image_kept : ImageKept
image_kept image call answer number image' answer' R =
    let C = returned_case image call answer number image' answer' R in
    go C.left C.is
  where
    go : {n : ℕ} {i a : List ℕ} → Left image (call_in call) answer n i a → n ≡ record_number image call answer → KeepsImage image n i
    go (refused n) e = record { accepted = λ h. absurd (omega arith); refused = λ n h. refl }
    go accepted e = record { accepted = λ h. new_valid image (call_in call) (zero_for image call answer e); refused = λ n h. absurd (omega arith) }
