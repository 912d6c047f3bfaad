-- The code's sum of price, basis and premium as an unsigned number.
-- Assumes nothing.
use mathlib.Core.Path.{◌≡◌, refl}
use mathlib.Core.Bool.{Bool, true, false, cond}
use Prim.Native.Nat.{◌^◌, ◌<◌}
use native.Mathlib.Omega.{arith}
use borrow.Author.Tests.{le-leb, ltb-false}
use lib.Dec.{ltb}
use lib.IntN.{ℤ, pos, negsuc}
use lib.Signed.{le_z, mag}
use mir.Syntax.{w32, w64}
use mir.Val.{SFits, of_z}
use Rattle.std.specs.Int.{int_max}
use Rattle.units.specs.declared.Basis.{Basis}
use Rattle.units.specs.declared.Premium.{Premium}
use Rattle.units.specs.declared.YuanPerTonne.{YuanPerTonne}
use Rattle.units.specs.Payments.{at_least_0, unit_price}
use Rattle.units.specs.Laws.Bounds.{unit_at_most}

-- the larger of a number and 0 is what of it counts
pub natural : (z : ℤ) → of_z w64 (int_max z (pos 0)) ≡ at_least_0 z
natural (pos n) = larger (ltb 0 n) refl
  where
    larger : (above : Bool) → ltb 0 n ≡ above → of_z w64 (cond above (pos n) (pos 0)) ≡ n
    larger true is = refl
    larger false is = omega (arith, ltb-false 0 n is)
natural (negsuc n) = refl

mag_le : (b : ℤ) → le_z b (pos (mag b)) ≡ true
mag_le (pos n) = le-leb n n (omega arith)
mag_le (negsuc n) = refl

-- the sum of any price, basis and premium of the code's widths
pub unit_small : (price : YuanPerTonne) (basis : Basis) (premium : Premium) → price.0 < 2 ^ 32 → SFits w32 basis.0 → SFits w32 premium.0 →
    at_least_0 (unit_price price basis premium) < 2 ^ 33
unit_small price basis premium hp s t =
    omega (
      arith,
      s.sfits,
      t.sfits,
      unit_at_most price basis premium (mag basis.0) (mag premium.0) (mag_le basis.0) (mag_le premium.0),
    )
