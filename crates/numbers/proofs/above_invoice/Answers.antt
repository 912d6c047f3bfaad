use Prim.Native.Nat.{◌^◌}
use Rattle.std.proofs.Common.{◌≡◌, ap, ◌∙◌, arith}
use Rattle.rules.specs.Kinds.{kind_number}
use Rattle.zone.specs.Laws.Facts.{bounds}
use Rattle.zone.specs.Laws.Held.{invoice_bounds}
use Rattle.zone.specs.Laws.Tests.{range_in}
use Rattle.numbers.proofs.above_invoice.Goals as goal

pub full_of-requires : goal.full_of-requires
full_of-requires c = (bounds c.args.f c.requires.valid).weight

pub overflow_add-result : goal.overflow_add-result
overflow_add-result c =
    let invoice : c.args.c.call.kind ≡ 13 = c.args.c.same ∙ ap kind_number c.in-Invoice.is in
    omega (arith, (invoice_bounds c.args.f c.requires.valid).confirmed, (range_in {lo = 1} {hi = 10 ^ 12} {n = c.args.c.call.amount} (c.requires.amount invoice)).high)
