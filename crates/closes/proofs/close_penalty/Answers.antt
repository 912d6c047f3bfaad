-- The record is put, and what the seller can pay passes to the buyer. The lot held nothing.
use Rattle.std.proofs.Common.{◌≡◌, ap, ◌∙◌, ◌≤◌, arith}
use Rattle.units.specs.declared.Fen.{Fen}
use Rattle.units.specs.Laws.Bounds.{penalty_at_most}
use Rattle.units.specs.Payments.{fen, per_receipt, penalty_passed}
use Rattle.zone.specs.declared.Lot.TheVariants.{Idle}
use Rattle.image.specs.Image.{decode}
use Rattle.rules.specs.Effects.{entry_of, with_lot}
use Rattle.rules.specs.Events.{credit, debit, release}
use Rattle.rules.specs.Laws.Funded.{pass_free, all_debited}
use Rattle.rules.specs.View.{free_of}
use Rattle.events.specs.Laws.Moved.{Moved, debited, credited}
use Rattle.events.specs.Laws.Nothing.{release_nothing}
use Rattle.closes.specs.Laws.Closing.{Begun, hold_from, penalty_begun, pays_penalty, worked, ended, passed_on, from_in, to_in, nothing_freed, asked}
use Rattle.closes.proofs.close_penalty.Goals as goal
use Rattle.closes.proofs.close_penalty.Goals.{After-penalty_passed-passed, After-receipt_record, After-debit_from}

-- what passes
pass : (c : After-penalty_passed-passed) → c.penalty_passed-passed.result ≡ penalty_passed (free_of (decode c.args.image.now).accounts c.args.f.seller)
pass c = c.penalty_passed-passed.ensures ∙ ap penalty_passed c.free_of.ensures

begun : (c : After-receipt_record) →
    Begun c.args.image.now c.receipt_record.new.image (entry_of c.args.n 15 c.args.f.seller c.args.f.buyer (penalty_passed (free_of (decode c.args.image.now).accounts c.args.f.seller)).0) (with_lot c.args.f Idle) (hold_from c.args.f.buyer (fen 0)) c.penalty_passed-passed.result (hold_from 0 (fen 0))
begun c = penalty_begun c.requires.0 (rw c.from-k.ensures at c.receipt_record.ensures) c.requires.1 (pass c.before.before.before) c.idle_record.ensures

taken : (c : After-debit_from) →
    Moved c.receipt_record.new.image c.debit_from.new.image (debit c.args.f.seller c.penalty_passed-passed.result (release c.args.f.buyer (fen 0) (decode c.receipt_record.new.image).accounts))
taken c =
    let B = begun c.before.before.before.before in
    debited _ B.fits B.funds (nothing_freed B) c.debit_from.ensures

pub debit_from-requires : goal.debit_from-requires
debit_from-requires c =
    let B = begun (goal.at.debit_from-requires c).After-receipt_record in
    (B.encoded, B.fits, from_in B, λ _. rw (release_nothing c.args.f.buyer (decode c.receipt_record.new.image).accounts) at (pass_free B.funds))

pub credit_to-requires : goal.credit_to-requires
credit_to-requires c =
    let B = begun (goal.at.credit_to-requires c).After-receipt_record in
    let A = asked (taken (goal.at.credit_to-requires c).After-debit_from) in
    (A.0, A.1, omega (arith, from_in B, to_in B), λ _. omega (arith, all_debited B.funds, B.fits.money))

pub overflow_cast-passed : goal.overflow_cast-passed
overflow_cast-passed c =
    let most : c.penalty_passed-passed.result.0 ≤ per_receipt = rw c.penalty_passed-passed.ensures (penalty_at_most _).1 in
    omega arith

pub returns : goal.returns
returns c =
    let B = begun (goal.at.returns c).After-receipt_record in
    let M = credited _ B.fits B.funds (taken (goal.at.returns c).After-debit_from) c.credit_to.ensures in
    λ call kind. worked call c.args.n c.args.image.now (pays_penalty c.requires.0 call kind c.requires.1)
    (ended B (λ l. credit c.args.f.buyer c.penalty_passed-passed.result (debit c.args.f.seller c.penalty_passed-passed.result (release c.args.f.buyer (fen 0) l)))
    (passed_on (hold_from c.args.f.buyer (fen 0)) c.args.f.seller c.args.f.buyer c.penalty_passed-passed.result 0) M.is)
    (c.by_seller.ensures ∙ ap (λ (x : Fen). entry_of c.args.n 15 c.args.f.seller c.args.f.buyer x.0) (pass (goal.at.returns c).After-penalty_passed-passed))
