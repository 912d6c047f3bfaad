-- Bounds of the payments, each proved once.
-- Assumes nothing.
use Rattle.std.specs.Prelude.{Bool, true, false, cond, ◌≡◌, ℕ, suc, ◌+◌, ◌-◌, ◌*◌, ◌/◌, ◌≤◌, ◌<◌, ltb, ℤ, pos, negsuc, ◌+ℤ◌}
use Rattle.std.proofs.Common.{ap, ◌∙◌, mul-le-mul, mul-le-mul_left, mul_comm, mul-zero, mul-div_cancel, div-mul-le_self, le-div_iff_mul-le, arith, leb-true}
use Rattle.std.proofs.Math.Nat.{zero-div, div-le_of_le-mul}
use Rattle.std.specs.Int.Signed.{le_z}
use Rattle.units.specs.declared.Basis.{Basis}
use Rattle.units.specs.declared.Fen.{Fen}
use Rattle.units.specs.declared.Kilograms.{Kilograms}
use Rattle.units.specs.declared.Premium.{Premium}
use Rattle.units.specs.declared.YuanPerTonne.{YuanPerTonne}
use Rattle.units.specs.Ranges.{most_price, most_basis, most_premium, most_weight, least_weight}
use Rattle.units.specs.Payments.{fen, unit_price, payable, at_least_0, full_payment, first_payment, rest_payment, paid_so_far, part_payment, penalty_passed, per_receipt}

-- ── price + basis + premium ────────────────────────────────────────────────────────────────────

sub_at_most : (p n : ℕ) (b : Bool) → at_least_0 (cond b (negsuc (suc n - suc p)) (pos (p - suc n))) ≤ p
sub_at_most p n true = omega arith
sub_at_most p n false = omega arith

-- a sum is at most the sum of what is above 0
sum_at_most : (x y : ℤ) → at_least_0 (x +ℤ y) ≤ at_least_0 x + at_least_0 y
sum_at_most (pos m) (pos n) = omega arith
sum_at_most (pos m) (negsuc n) = omega (arith, sub_at_most m n (ltb m (suc n)))
sum_at_most (negsuc m) (pos n) = omega (arith, sub_at_most n m (ltb n (suc m)))
sum_at_most (negsuc m) (negsuc n) = omega arith

natural_at_most : (z : ℤ) (m : ℕ) → le_z z (pos m) ≡ true → at_least_0 z ≤ m
natural_at_most (pos n) m h = leb-true n m h
natural_at_most (negsuc n) m h = omega arith

-- with a basis of at most b and a premium of at most p the sum is at most price + b + p
pub unit_at_most : (price : YuanPerTonne) (basis : Basis) (premium : Premium) (b p : ℕ) → le_z basis.0 (pos b) ≡ true → le_z premium.0 (pos p) ≡ true →
    at_least_0 (unit_price price basis premium) ≤ price.0 + b + p
unfolding unit_price
unit_at_most price basis premium b p hb hp =
    let listed : ℤ = pos price.0 +ℤ basis.0 in
    omega (
      arith,
      sum_at_most listed premium.0,
      sum_at_most (pos price.0) basis.0,
      natural_at_most basis.0 b hb,
      natural_at_most premium.0 p hp,
    )

-- what can be paid is at least 1 yuan per tonne
pub unit_at_least : (price : YuanPerTonne) (basis : Basis) (premium : Premium) → payable price basis premium ≡ true →
    1 ≤ at_least_0 (unit_price price basis premium)
unfolding payable
unit_at_least price basis premium h = go (unit_price price basis premium) h
  where
    go : (z : ℤ) → le_z (pos 1) z ≡ true → 1 ≤ at_least_0 z
    go (pos n) h = leb-true 1 n h
    go (negsuc n) h = let k : ◌≡◌ {A = ℕ} 0 1 = cc in absurd (omega arith)

-- ── full, first, rest ──────────────────────────────────────────────────────────────────────────

-- the largest full payment of fields in range (example 6, with the highest premium)
abbrev pub most_full : ℕ
most_full = ((most_price + most_basis + most_premium) * most_weight + 5) / 10

pub full_at_most : (price : YuanPerTonne) (basis : Basis) (premium : Premium) (weight : Kilograms) →
    price.0 ≤ most_price → le_z basis.0 (pos most_basis) ≡ true → le_z premium.0 (pos most_premium) ≡ true → weight.0 ≤ most_weight →
    (full_payment price basis premium weight).0 ≤ most_full
unfolding full_payment
full_at_most price basis premium weight hp hb hm hw =
    let u : at_least_0 (unit_price price basis premium) ≤ most_price + most_basis + most_premium = omega (arith, unit_at_most price basis premium most_basis most_premium hb hm) in
    omega (arith, mul-le-mul u hw)

-- where the sum can be paid and the weight is in range, full payment is at least 100 fen (example 3)
pub full_at_least : (price : YuanPerTonne) (basis : Basis) (premium : Premium) (weight : Kilograms) →
    payable price basis premium ≡ true → least_weight ≤ weight.0 → 100 ≤ (full_payment price basis premium weight).0
unfolding full_payment
full_at_least price basis premium weight h hw = omega (arith, mul-le-mul (unit_at_least price basis premium h) hw)

pub first_le : (full : Fen) → (first_payment full).0 ≤ full.0
unfolding first_payment
first_le full = omega arith

-- first and rest are full
pub first_rest : (full : Fen) → (first_payment full).0 + (rest_payment full).0 ≡ full.0
unfolding rest_payment
first_rest full = omega (arith, first_le full)

-- the rest is part of full
pub rest_le : (full : Fen) → (rest_payment full).0 ≤ full.0
rest_le full = omega (arith, first_rest full)

-- ── the parts of the rest ──────────────────────────────────────────────────────────────────────

-- nothing confirmed, nothing paid
pub so_far_none : (full : Fen) → (paid_so_far full (fen 0)).0 ≡ 0
unfolding paid_so_far
so_far_none full = ap (λ (n : ℕ). n / full.0) (mul-zero (rest_payment full).0) ∙ zero-div full.0

-- all confirmed, the whole rest paid
pub so_far_full : (full : Fen) → 0 < full.0 → (paid_so_far full full).0 ≡ (rest_payment full).0
unfolding paid_so_far
so_far_full full h = mul-div_cancel (rest_payment full).0 h

-- more confirmed, no less paid
pub so_far_up : (full c d : Fen) → 0 < full.0 → c.0 ≤ d.0 → (paid_so_far full c).0 ≤ (paid_so_far full d).0
unfolding paid_so_far
so_far_up full c d some h =
    (le-div_iff_mul-le some).1
    (omega (arith, div-mul-le_self ((rest_payment full).0 * c.0) full.0, mul-le-mul_left (rest_payment full).0 h))

-- never more than the rest
pub so_far_le_rest : (full c : Fen) → c.0 ≤ full.0 → (paid_so_far full c).0 ≤ (rest_payment full).0
unfolding paid_so_far
so_far_le_rest full c h =
    div-le_of_le-mul full.0 (rw (mul_comm full.0 (rest_payment full).0) (mul-le-mul_left (rest_payment full).0 h))

-- a confirmation brings what was paid to what the new sum is paid
pub part_brings : (full confirmed paid invoice : Fen) → 0 < full.0 → paid.0 ≡ (paid_so_far full confirmed).0 →
    paid.0 + (part_payment full confirmed paid invoice).0 ≡ (paid_so_far full (fen (confirmed.0 + invoice.0))).0
unfolding part_payment
part_brings full confirmed paid invoice some h =
    omega (arith, h, so_far_up full confirmed (fen (confirmed.0 + invoice.0)) some (omega arith))

-- ── the penalty ────────────────────────────────────────────────────────────────────────────────

pub penalty_at_most : (free : Fen) → ((penalty_passed free).0 ≤ free.0) × ((penalty_passed free).0 ≤ per_receipt)
unfolding penalty_passed
penalty_at_most free = (omega arith, omega arith)
