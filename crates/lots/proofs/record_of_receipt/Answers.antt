-- Who is no receipt has the record of none.
use Rattle.std.proofs.Common.{false, ◌≡◌, sym, ap, ◌∙◌}
use Rattle.units.specs.Ranges.{is_receipt, receipt_count}
use Rattle.zone.specs.Laws.Tests.{InRange, range_in}
use Rattle.zone.specs.Record.{record_of}
use Rattle.zone.specs.Valid.{no_receipt}
use Rattle.image.specs.Image.{decode}
use Rattle.image.specs.Laws.RoundTrip.{decode_sized}
use Rattle.rules.specs.View.{receipt_of_number}
use Rattle.events.specs.Laws.Moved.{record_in_place}
use Rattle.lots.specs.Laws.Past.{nth_outside}
use Rattle.lots.proofs.record_of_receipt.Goals as goal
use Rattle.lots.proofs.record_of_receipt.Goals.{Else-not-is_receipt}

inside : (c : Else-not-is_receipt) → InRange 1 receipt_count c.args.n
inside c = range_in (sym c.is_receipt.ensures ∙ c.if-not-is_receipt.false)

pub returns-then-not-is_receipt : goal.returns-then-not-is_receipt
unfolding receipt_of_number
returns-then-not-is_receipt c =
    let s = c.args.image.now in
    let out : is_receipt c.args.n ≡ false = sym c.is_receipt.ensures ∙ c.if-not-is_receipt.true in
    c.record_of.ensures ∙ sym (ap record_of (nth_outside no_receipt (decode s).receipts c.args.n (rw (decode_sized s).receipts out)))

pub returns : goal.returns
returns c =
    let in_table = inside (goal.at.returns c).Else-not-is_receipt in
    c.record_at.ensures ∙ rw c.from.ensures (record_in_place _ c.requires.0 c.requires.1 c.args.n in_table.low in_table.high)
