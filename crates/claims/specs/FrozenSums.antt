-- The sums that one walk over the lots hands back, and the validity test that goes by them (02 4/12), on bytes. `verdict::frozen_sums`
-- promises `frozen_sums`, and `verdict::image_ok` promises `valid_image`. The proofs are in Laws/.
-- Assumes nothing.
use Rattle.std.specs.Prelude.{true, List, ◌≡◌, ℕ, suc, ◌<◌, length, get_or}
use Rattle.units.specs.Payments.{fen}
use Rattle.units.specs.Ranges.{account_count}
use Rattle.zone.specs.Held.{held_sum}
use Rattle.zone.specs.Valid.{all, record_valid}
use Rattle.image.specs.Image.{valid_image}
use Rattle.image.specs.Layout.{records_in}
use Rattle.verdict.specs.Sums.{frozen_sums, valid_of, valid_by_sums}

-- of all bytes: there is one sum for each account, and none for nobody
abbrev pub OneSumEach : Type 0
OneSumEach = (image : List ℕ) → length (frozen_sums image) ≡ account_count

-- Where every record is valid, the walk agrees with `held_sum`, by which validity asks for one account at a time. Account suc p has its sum
-- at place p, so that p goes through the accounts 1 to 96.
abbrev pub SumsAsked : Type 0
SumsAsked =
    (image : List ℕ) → all record_valid (records_in image) ≡ true → (p : ℕ) → p < account_count
    → get_or (frozen_sums image) p (fen 0) ≡ fen (held_sum (λ r. r) (suc p) (records_in image))

-- of all bytes: the same, asked of the valid records; the others add nothing
abbrev pub ValidAsked : Type 0
ValidAsked =
    (image : List ℕ) (p : ℕ) → p < account_count → get_or (frozen_sums image) p (fen 0) ≡ fen (held_sum (λ r. r) (suc p) (valid_of (records_in image)))

-- of bytes of every length: the test that goes by the sums has the verdict of the definition
abbrev pub SameVerdict : Type 0
SameVerdict = (image : List ℕ) → valid_by_sums image ≡ valid_image image
