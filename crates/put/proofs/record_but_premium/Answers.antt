-- Five runs, one behind the other.
use Rattle.put.proofs.Runs.{but_premium}
use Rattle.put.proofs.record_but_premium.Goals as goal

pub returns : goal.returns
returns c =
    but_premium c.args.at c.args.r c.args.image.now c.low_half.result c.low_half-2.result c.low_half-3.result c.low_half.ensures c.low_half-2.ensures c.low_half-3.ensures
    c.record_first_fields.ensures c.put_u32.ensures c.put_u32-2.ensures c.put_u32-3.ensures c.put_u32-4.ensures
