-- Bounds of a record's weight, of the full payment of its trade and of what was paid, by which no sum wraps; and what was paid is what is due.
-- Assumes nothing.
use mathlib.Core.Bool.{true}
use mathlib.Core.Path.{◌≡◌, sym}
use Prim.Native.Nat.{◌≤◌, ◌<◌, ◌^◌}
use native.Mathlib.Omega.{arith}
use borrow.Author.Tests.{eq-eqb}
use Rattle.units.specs.Payments.{paid_so_far}
use Rattle.units.specs.Ranges.{most_weight}
use Rattle.zone.specs.declared.Record.{Record}
use Rattle.zone.specs.Held.{full, rest}
use Rattle.zone.specs.Record.{invoices_of}
use Rattle.zone.specs.Valid.{fields_ok, record_valid}
use Rattle.zone.specs.Laws.Facts.{InvoicesIn, bounds, known, owner_some, fields_in, fields_bounds}
use Rattle.zone.specs.Laws.Held.{full_le, paid_le_rest}

module _ (r : Record) where
  pub weight_in : fields_ok r ≡ true → r.weight.0 ≤ most_weight
  weight_in h = (fields_in r h).owned.weight.high

  pub full_in : fields_ok r ≡ true → (full r).0 < 2 ^ 32
  full_in h = omega (arith, full_le r (fields_bounds r (fields_in r h)))

  -- of a valid record
  pub weight_valid : record_valid r ≡ true → r.weight.0 ≤ most_weight
  weight_valid h = (bounds r h).weight

  pub full_valid : record_valid r ≡ true → (full r).0 < 2 ^ 32
  full_valid h = omega (arith, full_le r (bounds r h))

  invoices : record_valid r ≡ true → r.state ≡ 6 → InvoicesIn (full r) (invoices_of r)
  invoices h e = (known r h (owner_some r h (omega arith))).invoices.yes (eq-eqb r.state 6 e)

  pub paid_valid : record_valid r ≡ true → r.state ≡ 6 → r.paid.0 ≤ (rest r).0
  paid_valid h e = paid_le_rest (full r) (invoices_of r) (invoices h e)

  pub paid_as_due : record_valid r ≡ true → r.state ≡ 6 → (paid_so_far (full r) r.confirmed).0 ≡ r.paid.0
  paid_as_due h e = sym ((invoices h e).paid)
