-- The money of a lot: full payment and rest of its trade, and what it holds frozen, from whom (01 Image 15, 02 3/12).
-- Assumes nothing.
use Rattle.std.specs.Prelude.{cond, List, [], ◌∷◌, ℕ, ◌+◌, ◌-◌, eqb}
use Rattle.units.specs.declared.Fen.{Fen}
use Rattle.units.specs.Ranges.{within}
use Rattle.units.specs.Payments.{fen, full_payment, rest_payment, paid_so_far, deposit}
use Rattle.zone.specs.declared.Account.{Account}
use Rattle.zone.specs.declared.Hold.{Hold}
use Rattle.zone.specs.declared.Record.{Record}

-- full payment of the lot's trade (01 Money 2)
unfoldable pub full : Record → Fen
full r = full_payment r.price r.basis r.premium r.weight

-- the rest after its first payment (01 Money 4)
abbrev pub rest : Record → Fen
rest r = rest_payment (full r)

-- What the lot holds: the deposit in states 2 to 4, full once it is settled, then the rest less what its confirmed invoices have been
-- paid (02 3/12). Nothing is taken that is not there: `so_far_le_rest` (units, Laws/Bounds).
unfoldable pub held : Record → Fen
held r =
    cond (within 2 4 r.state) deposit
    (cond (eqb r.state 5) (full r)
    (cond (eqb r.state 6) (fen ((rest r).0 - (paid_so_far (full r) r.confirmed).0))
    (fen 0)))

-- from whom, and how much: a lot holds from its buyer
abbrev pub hold_of : Record → Hold
hold_of r = record { from = r.buyer; fen = held r }

-- n for account a, nothing for any other account x
unfoldable pub fen_from : ℕ → ℕ → ℕ → ℕ
fen_from x a n = cond (eqb x a) n 0

-- what the lot holds from account x
unfoldable pub held_from : ℕ → Record → ℕ
held_from x r = fen_from x (hold_of r).from (hold_of r).fen.0

-- what the lots hold from account x; `rec` reads an element of the list as a record
module _ {A : Type 0} (rec : A → Record) where
  unfoldable pub held_sum : ℕ → List A → ℕ
  held_sum x [] = 0
  held_sum x (r ∷ rs) = held_from x (rec r) + held_sum x rs

-- all free and all frozen money
unfoldable pub all_money : List Account → ℕ
all_money [] = 0
all_money (a ∷ l) = a.free.0 + a.frozen.0 + all_money l
