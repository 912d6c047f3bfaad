-- An image that is the bytes of a good zone: the zone is had back, and its parts may be read and put.
-- Assumes nothing.
use Rattle.std.specs.Prelude.{true, List, ◌≡◌, refl, ℕ}
use Rattle.std.proofs.Common.{ap, ◌∙◌}
use Rattle.zone.specs.declared.Zone.{Zone}
use Rattle.zone.specs.Parts.{with_asks}
use Rattle.zone.specs.Valid.{Sized, valid_zone, no_asks, all, ask_ok}
use Rattle.image.specs.Image.{decode, encode, Encoded, Fits}
use Rattle.image.specs.Laws.RoundTrip.{decode_fits, decode_sized}
use Rattle.rules.specs.Laws.Good.{Good, valid_of_lem}
use Rattle.events.specs.Laws.Moved.{encoded}
use Rattle.lots.specs.Laws.Posts.{good_fits}

-- s is the bytes of the good zone z
pub record Of (s : List ℕ) (z : Zone) : Type 0 where
  pub zone : decode s ≡ z
  pub encoded : Encoded s
  pub valid : valid_zone (decode s) ≡ true
  pub fits : Fits (decode s)

pub bytes_of : (s : List ℕ) (z : Zone) → s ≡ encode z → Good z → Of s z
bytes_of s z e G =
    let d : decode s ≡ z = ap decode e ∙ decode_fits z G.sized (good_fits z G) in
    record { zone = d; encoded = encoded s z e d; valid = rw d (valid_of_lem z G); fits = rw d (good_fits z G) }

-- a day close clears the asks
pub cleared : (s s' : List ℕ) → Fits (decode s) → s' ≡ encode (with_asks (decode s) no_asks) → decode s' ≡ with_asks (decode s) no_asks
unfolding all ask_ok
cleared s s' F e =
    let z : Zone = with_asks (decode s) no_asks in
    let S : Sized z = record { accounts = (decode_sized s).accounts; receipts = (decode_sized s).receipts; asks = refl } in
    let T : Fits z = record { day = F.day; asks = refl; records = F.records; money = F.money; total = F.total } in
    ap decode e ∙ decode_fits z S T
