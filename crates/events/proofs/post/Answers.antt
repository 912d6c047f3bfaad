-- The receipt is changed, and each move of money finds what it needs.
use mathlib.Core.Path.{◌≡◌, ap, ◌∙◌}
use native.Mathlib.Omega.{arith}
use Rattle.zone.specs.declared.Zone.{Zone}
use Rattle.zone.specs.Held.{hold_of}
use Rattle.zone.specs.Parts.{with_accounts}
use Rattle.zone.specs.Record.{record_of}
use Rattle.image.specs.Image.{decode, encode}
use Rattle.image.specs.Laws.RoundTrip.{same_long}
use Rattle.rules.specs.Events.{money_moved, accounts_after, posted}
use Rattle.rules.specs.View.{record_of_receipt}
use Rattle.events.specs.Laws.Moved.{ReceiptPut, record_put, record_kept, encoded, record_valid_lem, record_in_place}
use Rattle.events.proofs.post.Goals as goal
use Rattle.events.proofs.post.Goals.{After-record_at, After-hold_of-old, After-hold_of-new, After-receipt_record}

-- the record that was read is the lot's
read : (c : After-record_at) → c.record_at.result ≡ record_of_receipt (decode c.args.image.now) c.args.event.entry.lot
read c = rw (c.record_at.ensures, c.from-k.ensures) (record_in_place _ c.requires.0 c.requires.1.fits c.args.event.entry.lot c.requires.1.low c.requires.1.high)

-- what the lot held, and what it holds after
held : (c : After-hold_of-old) → c.hold_of-old.result ≡ hold_of (record_of_receipt (decode c.args.image.now) c.args.event.entry.lot)
held c = c.hold_of-old.ensures ∙ ap hold_of (read c.before)

holds : (c : After-hold_of-new) → c.hold_of-new.result ≡ hold_of (record_of c.args.event.receipt)
holds c = c.hold_of-new.ensures ∙ ap hold_of c.record_of-after.ensures

-- the image with the lot's receipt changed
receipt_changed : (c : After-receipt_record) → ReceiptPut c.args.image.now c.receipt_record.new.image c.args.event.entry.lot c.args.event.receipt
receipt_changed c = record_put c.requires.1.fits c.requires.1.valid c.requires.1.low c.record_of-after.ensures (rw c.from-k.ensures at c.receipt_record.ensures)

pub record_at-requires : goal.record_at-requires
record_at-requires c = (same_long _ c.requires.0, omega (arith, c.requires.1.high))

pub hold_of-old-requires : goal.hold_of-old-requires
hold_of-old-requires c = rw (read (goal.at.hold_of-old-requires c).After-record_at) (record_valid_lem _ c.requires.1.fits c.args.event.entry.lot)

pub hold_of-new-requires : goal.hold_of-new-requires
hold_of-new-requires c = rw c.record_of-after.ensures c.requires.1.valid

pub receipt_record-requires : goal.receipt_record-requires
receipt_record-requires c = (c.requires.0, omega (arith, c.requires.1.high), record_kept _ c.record_of-after.ensures)

pub move_money-requires : goal.move_money-requires
move_money-requires c =
    let at = goal.at.move_money-requires c in
    let C = receipt_changed at.After-receipt_record in (
      encoded _ _ C.is C.zone,
      rw C.zone C.fits,
      rw (C.zone, c.money_of.ensures, holds at.After-hold_of-new, held at.After-hold_of-old) c.requires.1.funded,
    )

pub returns : goal.returns
unfolding posted accounts_after
returns c =
    c.move_money.ensures
    ∙ ap (λ (y : Zone). encode (with_accounts y (money_moved c.hold_of-old.result c.args.event.entry.from c.args.event.entry.to c.money_of.result c.hold_of-new.result y.accounts)))
    (receipt_changed (goal.at.returns c).After-receipt_record).zone
    ∙ rw (c.money_of.ensures, holds (goal.at.returns c).After-hold_of-new, held (goal.at.returns c).After-hold_of-old)
