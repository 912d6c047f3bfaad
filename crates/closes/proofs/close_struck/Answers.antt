-- In both cases the record is put and the deposit freed; nothing passes, and the lot holds nothing after.
use Rattle.std.proofs.Common.{◌≡◌, sym, ap, ◌∙◌, ℕ, ◌+◌, arith}
use Rattle.units.specs.Payments.{fen}
use Rattle.zone.specs.declared.Lot.TheVariants.{Idle, PenaltyDue}
use Rattle.zone.specs.Record.{record_of}
use Rattle.image.specs.Image.{decode}
use Rattle.image.specs.Laws.RoundTrip.{valid_fits}
use Rattle.rules.specs.Effects.{entry_of, with_lot}
use Rattle.rules.specs.Events.{release}
use Rattle.closes.specs.Laws.Closing.{affords, Begun, tells_money, hold_from, seller_begun, both_begun, seller_defaults, both_default, worked, ended, only_released, old_in}
use Rattle.closes.proofs.close_struck.Goals as goal
use Rattle.closes.proofs.close_struck.Goals.{After-day_in-tomorrow, After-has_money, After-receipt_record, After-receipt_record-2}

today : (c : After-day_in-tomorrow) → c.day_in-tomorrow.result ≡ (decode c.args.image.now).day
unfolding decode
today c = c.day_in-tomorrow.ensures

tested : (c : After-has_money) → c.has_money.result ≡ affords c.args.image.now c.args.f
tested c = tells_money c.requires.0 c.has_money.ensures c.full_of.ensures c.free_of.ensures

owing : (c : After-receipt_record) →
    Begun c.args.image.now c.receipt_record.new.image (entry_of c.args.n 13 c.args.f.seller c.args.f.buyer 0) (with_lot c.args.f (PenaltyDue c.args.f.seller c.args.f.buyer ((decode c.args.image.now).day + 1))) (hold_from c.args.f.buyer c.deposit_per_receipt-held.result) (fen 0) (hold_from c.args.f.buyer (fen 0))
owing c =
    seller_begun c.requires.0 (rw c.from-k.ensures at c.receipt_record.ensures) c.requires.1 (sym (tested c.before.before.before.before) ∙ c.if-has_money.true) c.deposit_per_receipt-held.ensures
    (c.penalty_record.ensures ∙ ap (λ (d : ℕ). record_of (with_lot c.args.f (PenaltyDue c.args.f.seller c.args.f.buyer (d + 1)))) (today c.before.before.before.before.before.before.before.before))

over : (c : After-receipt_record-2) →
    Begun c.args.image.now c.receipt_record-2.new.image (entry_of c.args.n 14 c.args.f.seller c.args.f.buyer 0) (with_lot c.args.f Idle) (hold_from c.args.f.buyer c.deposit_per_receipt-held.result) (fen 0) (hold_from 0 (fen 0))
over c = both_begun c.requires.0 (rw c.from-k.ensures at c.receipt_record-2.ensures) c.requires.1 (sym (tested c.before.before.before.before) ∙ c.if-has_money.false) c.deposit_per_receipt-held.ensures c.idle_record.ensures

pub overflow_add-tomorrow : goal.overflow_add-tomorrow
overflow_add-tomorrow c = omega (arith, today (goal.at.overflow_add-tomorrow c).After-day_in-tomorrow, (valid_fits _ c.requires.0.at.valid).day)

pub release_to-requires : goal.release_to-requires
release_to-requires c =
    let B = owing (goal.at.release_to-requires c).After-receipt_record in
    (B.encoded, B.fits, old_in B, B.funds.frozen_fits)

pub returns-then-has_money : goal.returns-then-has_money
returns-then-has_money c =
    let h = sym (tested (goal.at.returns-then-has_money c).After-has_money) ∙ c.if-has_money.true in
    let a = c.args in
    λ call kind. worked call a.n a.image.now (seller_defaults c.requires.0 call kind c.requires.1 h)
    (ended (owing (goal.at.returns-then-has_money c).After-receipt_record) (release a.f.buyer c.deposit_per_receipt-held.result) (only_released (hold_from a.f.buyer c.deposit_per_receipt-held.result) a.f.seller a.f.buyer a.f.buyer) c.release_to.ensures)
    c.by_seller.ensures

pub release_to-requires-2 : goal.release_to-requires-2
release_to-requires-2 c =
    let B = over (goal.at.release_to-requires-2 c).After-receipt_record-2 in
    (B.encoded, B.fits, old_in B, B.funds.frozen_fits)

pub returns : goal.returns
returns c =
    let h = sym (tested (goal.at.returns c).After-has_money) ∙ c.if-has_money.false in
    let a = c.args in
    λ call kind. worked call a.n a.image.now (both_default c.requires.0 call kind c.requires.1 h)
    (ended (over (goal.at.returns c).After-receipt_record-2) (release a.f.buyer c.deposit_per_receipt-held.result) (only_released (hold_from a.f.buyer c.deposit_per_receipt-held.result) a.f.buyer a.f.seller 0) c.release_to-2.ensures)
    c.by_buyer.ensures
