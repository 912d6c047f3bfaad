-- The entry of the shortfalls by its two tests.
-- Assumes nothing.
use Rattle.std.specs.Prelude.{Bool, true, false, not, cond, List, ◌++◌, ◌≡◌, refl, ℕ, ◌≤◌, ◌<◌, ltb, length, drop}
use Rattle.std.proofs.Common.{ap, ltb-true, ltb-false}
use Rattle.image.specs.Image.{valid_image, decode}
use Rattle.shortfalls.specs.Shortfalls.{figures_length, figure_bytes}
use Rattle.crz.specs.Figures.{shortfalls_entry, ShortfallsReturned}
use Rattle.crz.specs.Returned.{Return}

-- what the entry has left, by its number
pub data FiguresLeft (image figures : List ℕ) : ℕ → List ℕ → List ℕ → Type 0 where
  too_short : length figures < figures_length → FiguresLeft image figures 1 image figures
  bad_image_lem : figures_length ≤ length figures → valid_image image ≡ false → FiguresLeft image figures 2 image figures
  written : figures_length ≤ length figures → valid_image image ≡ true → FiguresLeft image figures 0 image (figure_bytes (decode image) ++ drop figures_length figures)

entry_left : (image figures : List ℕ) →
    FiguresLeft image figures (shortfalls_entry image figures).0 (shortfalls_entry image figures).1 (shortfalls_entry image figures).2
unfolding shortfalls_entry
entry_left image figures = go (ltb (length figures) figures_length) (valid_image image) refl refl
  where
    by : Bool → Bool → Return
    by s v = cond s (1, image, figures) (cond (not v) (2, image, figures) (0, image, figure_bytes (decode image) ++ drop figures_length figures))

    go : (s v : Bool) → ltb (length figures) figures_length ≡ s → valid_image image ≡ v → FiguresLeft image figures (by s v).0 (by s v).1 (by s v).2
    go true v e q = too_short (ltb-true _ _ e)
    go false false e q = bad_image_lem (ltb-false _ _ e) q
    go false true e q = written (ltb-false _ _ e) q

pub figures_left : (image figures : List ℕ) (number : ℕ) (image' figures' : List ℕ) → ShortfallsReturned image figures number image' figures'
    → FiguresLeft image figures number image' figures'
figures_left image figures number image' figures' R = rw (ap (λ (r : Return). r.0) R, ap (λ (r : Return). r.1) R, ap (λ (r : Return). r.2) R) (entry_left image figures)

-- the image stays, whatever is returned
pub image_left : (image figures : List ℕ) (number : ℕ) (image' figures' : List ℕ) → ShortfallsReturned image figures number image' figures' → image' ≡ image
image_left image figures number image' figures' R = go (figures_left image figures number image' figures' R)
  where
    go : {n : ℕ} {i f : List ℕ} → FiguresLeft image figures n i f → i ≡ image
    go (too_short h) = refl
    go (bad_image_lem h v) = refl
    go (written h v) = refl
