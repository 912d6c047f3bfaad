-- The fresh entry (01 Calls 1).
-- Assumes nothing.
use Rattle.std.specs.Prelude.{cond, List, ℕ, eqb, length}
use Rattle.zone.specs.Valid.{fresh_zone}
use Rattle.image.specs.Image.{encode}
use Rattle.image.specs.Layout.{image_length}

-- the number that it returns, and what the buffer then holds: a fresh image, or what it was where its length is another
unfoldable pub fresh_entry : List ℕ → ℕ × List ℕ
fresh_entry s = cond (eqb (length s) image_length) (0, encode fresh_zone) (2, s)
