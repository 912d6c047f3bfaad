-- What the code's comparisons say of a share of the rest. Assumes nothing.
use Rattle.std.specs.Prelude.{false, ◌&&◌, ◌≡◌, ℕ, ◌+◌, ◌*◌, ◌/◌, ◌≤◌, ◌<◌, ◌^◌, eqb}
use Rattle.std.specs.Ordering.{nat_cmp, is_le, is_lt}
use Rattle.std.proofs.Common.{arith, mul-le-mul, div-mul-le_self}
use Rattle.std.proofs.Math.Nat.{lt-div-mul-add, div-eq_of_lt-le}
use Rattle.std.proofs.lemmas.Bool.Decides.{nat_tests}
use Rattle.units.specs.declared.Fen.{Fen}
use Rattle.units.specs.Laws.Bounds.{so_far_le_rest}
use Rattle.units.specs.Payments.{rest_payment, paid_so_far}

-- a product of two numbers of 32 bits leaves room for a third
pub product_fits : (a b : ℕ) → a < 2 ^ 32 → b < 2 ^ 32 → a * b + 2 ^ 32 < 2 ^ 64
product_fits a b p q =
    let p' : a ≤ 4294967295 = omega arith in
    let q' : b ≤ 4294967295 = omega arith in
    omega (arith, mul-le-mul p' q')

-- what is above the rest is no share of it
pub above_rest : (paid full confirmed : Fen) → confirmed.0 ≤ full.0 → (rest_payment full).0 < paid.0 → eqb paid.0 (paid_so_far full confirmed).0 ≡ false
above_rest paid full confirmed part above = let most = so_far_le_rest full confirmed part in grind (arith, nat_tests)

-- a quotient known by two products
pub by_products : (x y k : ℕ) → 0 < k → eqb x (y / k) ≡ is_le (nat_cmp (x * k) y) && is_lt (nat_cmp y (x * k + k))
by_products x y k some = let least = div-mul-le_self y k in let more = lt-div-mul-add {a = y} some in let is = div-eq_of_lt-le {k = x} k {m = y} in grind (arith, nat_tests)
