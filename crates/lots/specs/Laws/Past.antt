-- Who has no place in a table reads its default.
-- Assumes nothing.
use Rattle.std.specs.Prelude.{false, List, ◌≡◌, refl, ℕ, zero, suc, ◌≤◌, length}
use Rattle.std.proofs.Common.{true≢false, sym, ◌∙◌, arith}
use Rattle.std.proofs.Math.Decide.{dec_le}
use Rattle.std.proofs.lemmas.List.{get_or_past}
use Rattle.units.specs.Ranges.{within}
use Rattle.zone.specs.Laws.Tests.{inside}
use Rattle.rules.specs.Tables.{nth}

pub nth_outside : {A : Type 0} (d : A) (l : List A) (a : ℕ) → within 1 (length l) a ≡ false → nth d l a ≡ d
unfolding nth
nth_outside d l zero h = refl
nth_outside d l (suc k) h = get_or_past l k d (past (dec_le (length l) k))
  where
    past : Dec (length l ≤ k) → length l ≤ k
    past (yes q) = q
    past (no q) = absurd (true≢false (sym (inside 1 (length l) (suc k) (omega arith) (omega arith)) ∙ h))
