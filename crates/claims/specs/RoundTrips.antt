-- Zone and image are one another's, and a host reads the entries that were written: nothing is lost either way. The proofs are in Laws/.
-- Assumes nothing.
use Rattle.std.specs.Prelude.{true, List, ◌≡◌, ℕ, ◌≤◌, length}
use Rattle.units.specs.Ranges.{receipt_count}
use Rattle.wire.specs.LittleEndian.{Bytes}
use Rattle.zone.specs.declared.Zone.{Zone}
use Rattle.zone.specs.Valid.{Sized, valid_zone}
use Rattle.rules.specs.declared.Entry.{Entry}
use Rattle.image.specs.Image.{valid_image, decode, encode}
use Rattle.answers.specs.Buffers.{accepted_answer, entries_in}
use Rattle.claims.specs.Kept.{NumbersFit}

-- of every valid zone
pub record ZoneTrip (z : Zone) : Type 0 where
  pub back : decode (encode z) ≡ z
  pub valid : valid_image (encode z) ≡ true
  pub bytes : Bytes (encode z)

-- of every valid image
pub record ImageTrip (s : List ℕ) : Type 0 where
  pub back : encode (decode s) ≡ s
  pub valid : valid_zone (decode s) ≡ true
  pub sized : Sized (decode s)

-- all three; the entries of an accepted call fit (`Kept`)
pub record RoundTrips : Type 0 where
  pub zones : (z : Zone) → Sized z → valid_zone z ≡ true → ZoneTrip z
  pub images : (s : List ℕ) → Bytes s → valid_image s ≡ true → ImageTrip s
  pub entries : (z : Zone) (es : List Entry) (old : List ℕ) → length es ≤ receipt_count → NumbersFit es → entries_in (accepted_answer z es old) ≡ es
