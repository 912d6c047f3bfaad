-- A valid record in state 6 gives what `part_payment` asks and that the sums fit.
-- Every goal is written out, for the edits that bring a `part_payment` of their own: they are refused there, and not here too.
use mathlib.Core.Path.{◌≡◌}
use native.Mathlib.Omega.{arith}
use Rattle.units.specs.Payments.{part_payment}
use Rattle.zone.specs.Held.{full}
use Rattle.rules.specs.Effects.{confirm}
use Rattle.rules.specs.Laws.Receipts.{PartPaid, part_paid}
use Rattle.trades.proofs.Fits.{valid_weight}
use Rattle.trades.proofs.confirm_at.Goals as goal
use Rattle.trades.proofs.confirm_at.Goals.{Start, After-part_payment-part}

-- the record is valid and in state 6
here : (c : Start) → PartPaid c.args.f
here c = part_paid c.args.f c.requires.0 c.requires.1

-- what the code pays is the definition's part
part_here : (c : After-part_payment-part) →
    let f = c.args.f in
    c.part_payment-part.result.0 ≡ (part_payment (full f) f.confirmed f.paid f.pending).0
part_here c = rw (c.part_payment-part.ensures, c.full_of-full.ensures)

pub full_of-full-requires : goal.full_of-full-requires
full_of-full-requires c = valid_weight c.args.f c.requires.0

pub part_payment-part-requires : goal.part_payment-part-requires
part_payment-part-requires c =
    let i = here c.before.before.before.before in
    rw c.full_of-full.ensures (omega (arith, i), c.requires.2, i.invoices.pending, i.invoices.paid)

pub overflow_cast-part : goal.overflow_cast-part
overflow_cast-part c = omega (arith, here c.before.before.before.before.before.before, part_here c.before)

pub confirmed_lot-requires : goal.confirmed_lot-requires
confirmed_lot-requires c =
    let i = here c.before.before.before.before.before.before.before in
    let p = part_here c.before.before in
    (omega (arith, i), omega (arith, i, p))

pub returns : goal.returns
unfolding confirm
returns c = rw (c.with_lot.ensures, c.by_buyer.ensures, c.confirmed_lot.ensures, c.part_payment-part.ensures, c.full_of-full.ensures)
