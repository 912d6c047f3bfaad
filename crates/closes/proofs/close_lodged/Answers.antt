-- The record is put. With the money the deposit is freed and full is frozen; without it the deposit passes.
use Rattle.std.proofs.Common.{◌≡◌, sym, ap, ◌∙◌, arith}
use Rattle.units.specs.declared.Fen.{Fen}
use Rattle.units.specs.Payments.{fen, deposit}
use Rattle.zone.specs.declared.Lot.TheVariants.{Idle, Settled}
use Rattle.zone.specs.Held.{full}
use Rattle.zone.specs.Laws.Facts.{bounds}
use Rattle.zone.specs.Laws.Held.{full_le}
use Rattle.zone.specs.Record.{trade_of}
use Rattle.image.specs.Image.{decode}
use Rattle.rules.specs.Effects.{entry_of, owned_by, with_lot}
use Rattle.rules.specs.Events.{credit, debit, release, freeze}
use Rattle.rules.specs.Laws.Funded.{pass_free, hold_free, all_debited}
use Rattle.events.specs.Laws.Moved.{Moved, next, released, debited, credited}
use Rattle.events.specs.Laws.Nothing.{debit_nothing, credit_nothing}
use Rattle.closes.specs.Laws.Closing.{affords, Begun, tells_money, hold_from, settled_begun, buyer_begun, settles, buyer_defaults, worked, ended, held_anew, passed_on, old_in, from_in, to_in, new_in, asked, due_valid}
use Rattle.closes.proofs.close_lodged.Goals as goal
use Rattle.closes.proofs.close_lodged.Goals.{After-has_money, After-receipt_record, After-release_to, After-receipt_record-2, After-release_to-2, After-debit_from}

tested : (c : After-has_money) → c.has_money.result ≡ affords c.args.image.now c.args.f
tested c = tells_money c.requires.0 c.has_money.ensures c.full_of-full.ensures c.free_of.ensures

-- ── With the money ─────────────────────────────────────────────────────────────────────────────
bought : (c : After-receipt_record) →
    Begun c.args.image.now c.receipt_record.new.image (entry_of c.args.n 8 c.args.f.seller c.args.f.buyer (full c.args.f).0) (owned_by c.args.f.buyer c.args.f (Settled (trade_of c.args.f))) (hold_from c.args.f.buyer c.deposit_per_receipt-held.result) (fen 0) (hold_from c.args.f.buyer c.full_of-full.result)
bought c = settled_begun c.requires.0 (rw c.from-k.ensures at c.receipt_record.ensures) c.requires.1 (sym (tested c.before.before.before.before) ∙ c.if-has_money.true) c.deposit_per_receipt-held.ensures c.full_of-full.ensures c.settled_record.ensures

freed : (c : After-release_to) → Moved c.receipt_record.new.image c.release_to.new.image (release c.args.f.buyer c.deposit_per_receipt-held.result (decode c.receipt_record.new.image).accounts)
freed c =
    let B = bought c.before.before.before.before in
    released _ B.fits B.funds c.release_to.ensures

-- ── Without ────────────────────────────────────────────────────────────────────────────────────
lost : (c : After-receipt_record-2) →
    Begun c.args.image.now c.receipt_record-2.new.image (entry_of c.args.n 12 c.args.f.seller c.args.f.buyer deposit.0) (with_lot c.args.f Idle) (hold_from c.args.f.buyer c.deposit_per_receipt-held.result) c.deposit_per_receipt-held.result (hold_from 0 (fen 0))
lost c = buyer_begun c.requires.0 (rw c.from-k.ensures at c.receipt_record-2.ensures) c.requires.1 (sym (tested c.before.before.before.before) ∙ c.if-has_money.false) c.deposit_per_receipt-held.ensures c.idle_record.ensures

freed_2 : (c : After-release_to-2) → Moved c.receipt_record-2.new.image c.release_to-2.new.image (release c.args.f.buyer c.deposit_per_receipt-held.result (decode c.receipt_record-2.new.image).accounts)
freed_2 c =
    let B = lost c.before.before.before.before in
    released _ B.fits B.funds c.release_to-2.ensures

taken : (c : After-debit_from) →
    Moved c.receipt_record-2.new.image c.debit_from.new.image (debit c.args.f.buyer c.deposit_per_receipt-held.result (release c.args.f.buyer c.deposit_per_receipt-held.result (decode c.receipt_record-2.new.image).accounts))
taken c =
    let B = lost c.before.before.before.before.before.before.before.before in
    debited _ B.fits B.funds (freed_2 c.before.before.before.before) c.debit_from.ensures

-- ── Needs ──────────────────────────────────────────────────────────────────────────────────────

pub release_to-requires : goal.release_to-requires
release_to-requires c =
    let B = bought (goal.at.release_to-requires c).After-receipt_record in
    (B.encoded, B.fits, old_in B, B.funds.frozen_fits)

pub freeze_from-requires : goal.freeze_from-requires
freeze_from-requires c =
    let B = bought (goal.at.freeze_from-requires c).After-receipt_record in
    let M = freed (goal.at.freeze_from-requires c).After-release_to in
    let l = release c.args.f.buyer c.deposit_per_receipt-held.result (decode c.receipt_record.new.image).accounts in
    let there = rw (credit_nothing c.args.f.seller (debit c.args.f.buyer (fen 0) l), debit_nothing c.args.f.buyer l) at (hold_free B.funds) in
    ((asked M).0, (asked M).1, new_in B, rw M.zone there)

pub overflow_cast-full : goal.overflow_cast-full
overflow_cast-full c = rw c.full_of-full.ensures (omega (arith, full_le c.args.f (bounds c.args.f (due_valid c.requires.0))))

pub returns-then-has_money : goal.returns-then-has_money
returns-then-has_money c =
    let h = sym (tested (goal.at.returns-then-has_money c).After-has_money) ∙ c.if-has_money.true in
    let a = c.args in
    let held = c.deposit_per_receipt-held.result in
    let whole = c.full_of-full.result in
    λ call kind. worked call a.n a.image.now (settles c.requires.0 call kind c.requires.1 h)
    (ended (bought (goal.at.returns-then-has_money c).After-receipt_record) (λ l. freeze a.f.buyer whole (release a.f.buyer held l))
    (held_anew (hold_from a.f.buyer held) a.f.buyer a.f.seller (hold_from a.f.buyer whole))
    (next (freeze a.f.buyer whole) (freed (goal.at.returns-then-has_money c).After-release_to) c.freeze_from.ensures))
    (c.by_buyer.ensures ∙ ap (λ (x : Fen). entry_of a.n 8 a.f.seller a.f.buyer x.0) c.full_of-full.ensures)

pub release_to-requires-2 : goal.release_to-requires-2
release_to-requires-2 c =
    let B = lost (goal.at.release_to-requires-2 c).After-receipt_record-2 in
    (B.encoded, B.fits, old_in B, B.funds.frozen_fits)

pub debit_from-requires : goal.debit_from-requires
debit_from-requires c =
    let B = lost (goal.at.debit_from-requires c).After-receipt_record-2 in
    let M = freed_2 (goal.at.debit_from-requires c).After-release_to-2 in
    ((asked M).0, (asked M).1, from_in B, rw M.zone (λ _. pass_free B.funds))

pub credit_to-requires : goal.credit_to-requires
credit_to-requires c =
    let B = lost (goal.at.credit_to-requires c).After-receipt_record-2 in
    let M = taken (goal.at.credit_to-requires c).After-debit_from in
    ((asked M).0, (asked M).1, omega (arith, from_in B, to_in B), λ _. omega (arith, all_debited B.funds, B.fits.money))

pub returns : goal.returns
returns c =
    let B = lost (goal.at.returns c).After-receipt_record-2 in
    let h = sym (tested (goal.at.returns c).After-has_money) ∙ c.if-has_money.false in
    let a = c.args in
    let held = c.deposit_per_receipt-held.result in
    λ call kind. worked call a.n a.image.now (buyer_defaults c.requires.0 call kind c.requires.1 h)
    (ended B (λ l. credit a.f.seller held (debit a.f.buyer held (release a.f.buyer held l)))
    (passed_on (hold_from a.f.buyer held) a.f.buyer a.f.seller held 0)
    (credited _ B.fits B.funds (taken (goal.at.returns c).After-debit_from) c.credit_to.ensures).is)
    c.by_buyer-2.ensures
