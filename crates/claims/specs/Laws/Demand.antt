-- Demand 3, from what holds on values.
-- Assumes nothing.
use Rattle.std.specs.Prelude.{true, List, [], ◌∷◌, map, ◌≡◌, refl, ℕ, zero, suc}
use Rattle.std.proofs.Common.{sym, subst}
use Rattle.zone.specs.declared.Zone.{Zone}
use Rattle.zone.specs.Valid.{fresh_zone}
use Rattle.rules.specs.declared.Call.{Call}
use Rattle.rules.specs.declared.Entry.{Entry}
use Rattle.rules.specs.Effects.{effect}
use Rattle.rules.specs.Events.{Done}
use Rattle.image.specs.Image.{valid_image, decode, encode}
use Rattle.image.specs.Laws.RoundTrip.{decode_encode, fresh_valid, fresh_sized}
use Rattle.answers.specs.Buffers.{call_in, entries_in, accepted_answer}
use Rattle.crz.specs.Laws.Returned.{Left, refused, accepted, returned_case}
use Rattle.crz.specs.Laws.Valid.{Zero, new_valid}
use Rattle.crz.specs.Returned.{record_number}
use Rattle.claims.specs.Demand.{Exchange, calls_of, fed, KeepsImage, StaysValid, FreshIsValid, Demand3}
use Rattle.claims.specs.History.{accepted_with}
use Rattle.claims.specs.Laws.Calls.{zero_for, new_zone, read_back, image_kept}
use Rattle.claims.specs.Laws.Singly.{OneByOne, none_made, then, one_by_one}
use Rattle.claims.specs.Laws.Values.{After, after_refused, after_accepted, after_fresh, holds}

record AfterOn (list : List Exchange) (image : List ℕ) : Type 0 where
  valid : valid_image image ≡ true
  after : After (map fed list) (decode image)

after_next : {list : List Exchange} {image : List ℕ} (call answer : List ℕ) {number : ℕ} {image' answer' : List ℕ} → AfterOn list image
    → Left image (call_in call) answer number image' answer' → number ≡ record_number image call answer
    → AfterOn (record { call = call; number = number; answer = answer' } ∷ list) image'
after_next call answer A (refused n) e = record { valid = A.valid; after = after_refused (call_in call) (suc n) A.after }
after_next {list} {image} call answer A accepted e =
    let c : Call = call_in call in
    let Z : Zero image c = zero_for image call answer e in
    let d : Done = effect (decode image) c in
    let B : After ((c, accepted_with d.entries) ∷ map fed list) d.zone = after_accepted c A.after Z.number in
    record {
      valid = new_valid image c Z;
      after = subst (λ (z : Zone). After ((c, accepted_with (entries_in (accepted_answer d.zone d.entries answer))) ∷ map fed list) z) (sym (new_zone image c Z))
          (subst (λ (fs : List Entry). After ((c, accepted_with fs) ∷ map fed list) d.zone) (sym (read_back image c Z answer)) B);
    }

after_fresh_image : AfterOn [] (encode fresh_zone)
after_fresh_image =
    record { valid = fresh_valid; after = subst (After []) (sym (decode_encode fresh_zone fresh_sized after_fresh.valid)) after_fresh }

after_made : {list : List Exchange} {image : List ℕ} → OneByOne (encode fresh_zone) list image → AfterOn list image
after_made none_made = after_fresh_image
after_made (then {list} {image} m call answer number image' answer' R) =
    let C = returned_case image call answer number image' answer' R in
    after_next call answer (after_made m) C.left C.is

pub demand3 : Demand3
demand3 list image m = holds (map fed (calls_of list)) (decode image) (after_made (one_by_one m)).after

-- ── Any start ──────────────────────────────────────────────────────────────────────────────────

-- by the number, a call left a valid image or the one it was made on
valid_after : {image : List ℕ} (number : ℕ) (image' : List ℕ) → KeepsImage image number image' → valid_image image ≡ true → valid_image image' ≡ true
valid_after zero image' K v = K.accepted refl
valid_after (suc n) image' K v = subst (λ (s : List ℕ). valid_image s ≡ true) (sym (K.refused n refl)) v

pub fresh_is_valid : FreshIsValid
fresh_is_valid = fresh_valid

valid_made : {start : List ℕ} {list : List Exchange} {image : List ℕ} → valid_image start ≡ true → OneByOne start list image → valid_image image ≡ true
valid_made v none_made = v
valid_made v (then {list} {image} m call answer number image' answer' R) =
    valid_after number image' (image_kept image call answer number image' answer' R) (valid_made v m)

pub stays_valid : StaysValid
stays_valid start list image v m = valid_made v (one_by_one m)
