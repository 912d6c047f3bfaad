-- The entry of the shortfalls (02 6/12): what it returns, and leaves in the image and in the figures.
-- Assumes nothing.
use Rattle.std.specs.Prelude.{not, cond, List, ◌++◌, ◌≡◌, ℕ, ltb, length, drop}
use Rattle.image.specs.Image.{valid_image, decode}
use Rattle.shortfalls.specs.Shortfalls.{figures_length, figure_bytes}
use Rattle.crz.specs.Returned.{Return}

-- 1 for figures that are too short, then 2 for an image that is not valid; both leave the buffer as it was. Else 0, and the figures of the
-- zone that the image is stand before what was behind them. The image stays as it was in every case.
unfoldable pub shortfalls_entry : List ℕ → List ℕ → Return
shortfalls_entry image figures =
    cond (ltb (length figures) figures_length) (1, image, figures)
    (cond (not (valid_image image)) (2, image, figures)
    (0, image, figure_bytes (decode image) ++ drop figures_length figures))

-- the entry on these buffers returned this number, image and figures
abbrev pub ShortfallsReturned : List ℕ → List ℕ → ℕ → List ℕ → List ℕ → Type 0
ShortfallsReturned image figures number image' figures' = (number, image', figures') ≡ shortfalls_entry image figures
