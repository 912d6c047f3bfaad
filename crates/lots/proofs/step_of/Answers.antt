use Rattle.std.proofs.Common.{sym}
use Rattle.image.specs.Image.{decode}
use Rattle.image.specs.Laws.RoundTrip.{encode_decode, valid_long, valid_decode, valid_fits}
use Rattle.rules.specs.Laws.Good.{Good}
use Rattle.rules.specs.Laws.Ready.{ready_at}
use Rattle.events.specs.Laws.Moved.{record_valid_lem}
use Rattle.lots.specs.Laws.Visits.{good_decode, none_idle}
use Rattle.lots.proofs.step_of.Goals as goal

pub record_of_receipt-f-requires : goal.record_of_receipt-f-requires
record_of_receipt-f-requires c = (sym (encode_decode _ c.requires (λ k. (c.type_inv.image k).fits)), valid_fits _ (valid_decode _ c.requires))

pub view_of-requires : goal.view_of-requires
view_of-requires c = (valid_long _ c.requires, rw c.record_of_receipt-f.ensures (record_valid_lem _ (valid_fits _ (valid_decode _ c.requires)) _))

pub step_at-requires : goal.step_at-requires
step_at-requires c =
    let z = decode c.args.image.now in
    let G : Good z = good_decode _ (valid_decode _ c.requires) in
    rw (c.view_of.ensures, c.record_of_receipt-f.ensures)
    (ready_at z G c.args.c c.args.c.receipt, none_idle z c.args.c.receipt)

pub returns : goal.returns
returns c = rw (c.view_of.ensures, c.record_of_receipt-f.ensures) at c.step_at.ensures
