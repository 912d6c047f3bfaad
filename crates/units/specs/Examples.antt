-- The money of 01's bench examples 1, 2, 3 and 6, with premium 0, and of premiums at both ends, as one fact, by computing.
-- Assumes nothing.
use Rattle.std.specs.Prelude.{Bool, true, false, ◌≡◌, refl, ℕ, ℤ, pos, negsuc}
use Rattle.units.specs.declared.Fen.{Fen}
use Rattle.units.specs.Payments.{fen, unit_price, payable, full_payment, first_payment}

-- full payment at a price, a basis, a premium and a weight
abbrev full_with : ℕ → ℤ → ℤ → ℕ → Fen
full_with price basis premium weight = full_payment (record { 0 = price }) (record { 0 = basis }) (record { 0 = premium }) (record { 0 = weight })

-- without a premium
abbrev full : ℕ → ℤ → ℕ → Fen
full price basis weight = full_with price basis (pos 0) weight

-- whether there is anything to pay
abbrev pays : ℕ → ℤ → ℤ → Bool
pays price basis premium = payable (record { 0 = price }) (record { 0 = basis }) (record { 0 = premium })

pub record MoneyExamples : Type 0 where
  -- 1: 41,237 kilograms at 15,000 with basis 300
  pub full_1 : full 15000 (pos 300) 41237 ≡ fen 63092610
  pub first_1 : first_payment (full 15000 (pos 300) 41237) ≡ fen 50474088
  -- 2: the same at 15,005
  pub full_2 : full 15005 (pos 300) 41237 ≡ fen 63113229
  pub first_2 : first_payment (full 15005 (pos 300) 41237) ≡ fen 50490583
  -- 3: the smallest price that can be paid
  pub full_3 : full 5 (negsuc 3) 1000 ≡ fen 100
  pub first_3 : first_payment (full 5 (negsuc 3) 1000) ≡ fen 80
  -- 6: every field at its upper end
  pub full_6 : full 200000 (pos 50000) 60000 ≡ fen 1500000000
  -- example 1 with the lowest premium and with the highest
  pub full_down : full_with 15000 (pos 300) (negsuc 4999) 41237 ≡ fen 42474110
  pub full_up : full_with 15000 (pos 300) (pos 5000) 41237 ≡ fen 83711110
  -- the most that can be paid
  pub full_most : full_with 200000 (pos 50000) (pos 5000) 60000 ≡ fen 1530000000
  -- the sum of the three at 1 and at 0, by a premium of either sign
  pub one_down : pays 5005 (negsuc 3) (negsuc 4999) ≡ true
  pub none_down : pays 5005 (negsuc 4) (negsuc 4999) ≡ false
  pub one_up : pays 5 (negsuc 5003) (pos 5000) ≡ true
  pub none_up : pays 5 (negsuc 5004) (pos 5000) ≡ false

pub money_examples : MoneyExamples
unfolding full_payment payable unit_price first_payment
money_examples =
    record {
      full_1 = refl;
      first_1 = refl;
      full_2 = refl;
      first_2 = refl;
      full_3 = refl;
      first_3 = refl;
      full_6 = refl;
      full_down = refl;
      full_up = refl;
      full_most = refl;
      one_down = refl;
      none_down = refl;
      one_up = refl;
      none_up = refl;
    }
