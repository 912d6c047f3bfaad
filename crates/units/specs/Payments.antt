-- The money of a trade (01 Money, with the premium of 02 2/12 and the parts of 02 3/12). Each unit is a type of its own, declared in
-- src/lib.rt, so that no price can stand where money is asked for.
-- Assumes nothing.
use Rattle.std.specs.Prelude.{Bool, ℕ, ◌+◌, ◌-◌, ◌*◌, ◌/◌, min, ℤ, pos, negsuc, ◌+ℤ◌}
use Rattle.std.specs.Int.Signed.{le_z}
use Rattle.units.specs.declared.Basis.{Basis}
use Rattle.units.specs.declared.Fen.{Fen}
use Rattle.units.specs.declared.Kilograms.{Kilograms}
use Rattle.units.specs.declared.Premium.{Premium}
use Rattle.units.specs.declared.YuanPerTonne.{YuanPerTonne}

-- a number of fen as money
abbrev pub fen : ℕ → Fen
fen n = record { 0 = n }

-- ── What a tonne costs ─────────────────────────────────────────────────────────────────────────

-- price + basis + premium, exact and signed (02 2/12)
unfoldable pub unit_price : YuanPerTonne → Basis → Premium → ℤ
unit_price price basis premium = pos price.0 +ℤ basis.0 +ℤ premium.0

-- a trade needs at least 1 yuan per tonne (01 Image 15, Answers 21)
unfoldable pub payable : YuanPerTonne → Basis → Premium → Bool
payable price basis premium = le_z (pos 1) (unit_price price basis premium)

-- A sum as a natural number. Below 0 it counts as 0; no trade of a valid zone has such a sum (`unit_at_least`, Laws/Bounds).
abbrev pub at_least_0 : ℤ → ℕ
at_least_0 (pos n) = n
at_least_0 (negsuc n) = 0

-- ── The payments ───────────────────────────────────────────────────────────────────────────────

-- full payment (01 Money 2, 02 2/12): a kilogram is a thousandth of a tonne and a yuan 100 fen, so a tenth of the product, rounded half up
unfoldable pub full_payment : YuanPerTonne → Basis → Premium → Kilograms → Fen
full_payment price basis premium weight = fen ((at_least_0 (unit_price price basis premium) * weight.0 + 5) / 10)

-- first payment (01 Money 3): 80 percent, the fraction dropped
unfoldable pub first_payment : Fen → Fen
first_payment full = fen (full.0 * 80 / 100)

-- the rest after it (01 Money 4). Nothing is taken that is not there: `first_le` (Laws/Bounds).
unfoldable pub rest_payment : Fen → Fen
rest_payment full = fen (full.0 - (first_payment full).0)

-- Of the rest, what invoices confirmed up to this sum have been paid together (02 3/12, in place of 01 Money 5 and 6): the share of the
-- rest that the sum has of full, the fraction dropped. At 0 it is nothing, at full the whole rest (`so_far_none`, `so_far_full`, Laws/Bounds).
unfoldable pub paid_so_far : Fen → Fen → Fen
paid_so_far full confirmed = fen ((rest_payment full).0 * confirmed.0 / full.0)

-- What the confirmation of an invoice pays, where `confirmed` and `paid` stand before it (02 3/12): the difference. Nothing is taken that
-- is not there: `part_brings` (Laws/Bounds).
unfoldable pub part_payment : Fen → Fen → Fen → Fen → Fen
part_payment full confirmed paid invoice = fen ((paid_so_far full (fen (confirmed.0 + invoice.0))).0 - paid.0)

-- ── Deposit and penalty ────────────────────────────────────────────────────────────────────────

-- fen for each receipt, the same for both (01 Money 7)
abbrev pub per_receipt : ℕ
per_receipt = 5000000

-- frozen from the buyer while a bid stands, and until its trade is settled or ends
abbrev pub deposit : Fen
deposit = fen per_receipt

-- owed by a seller who has not lodged
abbrev pub penalty : Fen
penalty = fen per_receipt

-- what of the penalty passes: no more than the seller has free (01 Calls 20)
unfoldable pub penalty_passed : Fen → Fen
penalty_passed free = fen (min free.0 penalty.0)
