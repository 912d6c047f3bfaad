-- The ranges of the numbers in calls and records (01 Image 17), and how many accounts, receipts and contracts a
-- zone has.
-- Assumes nothing.
use Rattle.std.specs.Prelude.{Bool, ◌&&◌, ◌||◌, ℕ, ◌%◌, ◌^◌, eqb, leb, ℤ, pos, neg_ℤ}
use Rattle.std.specs.Int.Signed.{le_z}

-- n lies from lo to hi
abbrev pub within : ℕ → ℕ → ℕ → Bool
within lo hi n = leb lo n && leb n hi

-- a signed number is 0
abbrev pub is_zero : ℤ → Bool
is_zero z = le_z (pos 0) z && le_z z (pos 0)

-- ── Counts, and the numbers that count from 1 ──────────────────────────────────────────────────

-- how many accounts, receipts and contracts there are (01 Image 1)
abbrev pub account_count : ℕ
account_count = 96

abbrev pub receipt_count : ℕ
receipt_count = 128

abbrev pub contract_count : ℕ
contract_count = 8

-- an account; 0 is nobody (01 Image 6)
abbrev pub is_account : ℕ → Bool
is_account n = within 1 account_count n

-- a receipt, and its lot
abbrev pub is_receipt : ℕ → Bool
is_receipt n = within 1 receipt_count n

-- a contract
abbrev pub is_contract : ℕ → Bool
is_contract n = within 1 contract_count n

-- ── Days, prices, weights, amounts ─────────────────────────────────────────────────────────────

-- the most days that a delivery may take
abbrev pub most_days : ℕ
most_days = 3

-- D, the days from strike to delivery
abbrev pub is_days : ℕ → Bool
is_days n = leb n most_days

-- the highest price
abbrev pub most_price : ℕ
most_price = 200000

-- from 5 yuan per tonne on, in steps of 5
abbrev pub is_price : ℕ → Bool
is_price n = within 5 most_price n && eqb (n % 5) 0

-- the best sell price of a contract: none, or a price (01 Image 3, 15)
abbrev pub is_ask : ℕ → Bool
is_ask n = eqb n 0 || is_price n

-- a signed number from -most to most
abbrev pub signed_within : ℕ → ℤ → Bool
signed_within most z = le_z (neg_ℤ (pos most)) z && le_z z (pos most)

-- the ends of a basis, yuan per tonne
abbrev pub most_basis : ℕ
most_basis = 50000

abbrev pub is_basis : ℤ → Bool
is_basis b = signed_within most_basis b

-- the ends of a premium, yuan per tonne (02 2/12)
abbrev pub most_premium : ℕ
most_premium = 5000

abbrev pub is_premium : ℤ → Bool
is_premium p = signed_within most_premium p

-- the lightest receipt, and the heaviest
abbrev pub least_weight : ℕ
least_weight = 1000

abbrev pub most_weight : ℕ
most_weight = 60000

-- a receipt's weight, a tonne at least
abbrev pub is_weight : ℕ → Bool
is_weight n = within least_weight most_weight n

-- fen that one call may name
abbrev pub is_amount : ℕ → Bool
is_amount n = within 1 (10 ^ 12) n

-- ── Limits of the zone ─────────────────────────────────────────────────────────────────────────

-- all money of a zone (01 Image 15)
abbrev pub money_limit : ℕ
money_limit = 10 ^ 15

-- the last day of the calendar (01 Image 1)
abbrev pub last_day : ℕ
last_day = 30000

-- the last day that a lot can be due (01 Image 15)
abbrev pub last_due : ℕ
last_due = 30003
