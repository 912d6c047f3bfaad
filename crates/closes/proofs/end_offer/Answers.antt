-- The record is put; the deposit of a bid is freed.
use Rattle.std.proofs.Common.{◌≡◌, ap, sym, ◌∙◌}
use Rattle.zone.specs.declared.State.TheVariants.{Listed, BidStands}
use Rattle.zone.specs.Laws.States.{is_state}
use Rattle.zone.specs.State.{state_number}
use Rattle.image.specs.Image.{decode}
use Rattle.image.specs.Laws.RoundTrip.{valid_fits}
use Rattle.units.specs.Payments.{fen}
use Rattle.zone.specs.declared.Lot.TheVariants.{Idle}
use Rattle.rules.specs.Effects.{entry_of, with_lot}
use Rattle.rules.specs.Events.{release}
use Rattle.rules.specs.View.{record_of_receipt}
use Rattle.events.specs.Laws.Moved.{record_in_place}
use Rattle.closes.specs.Laws.Closing.{Begun, Offer, listed_offer, bid_offer, no_offer, offer_begun, idle_worked, worked, ended, only_released, old_in, ends, hold_from, other_state, another_state}
use Rattle.closes.proofs.end_offer.Goals as goal
use Rattle.closes.proofs.end_offer.Goals.{After-record_at-f, After-receipt_record, Joined-state, in-Listed, in-BidStands}

read : (c : After-record_at-f) → c.record_at-f.result ≡ record_of_receipt (decode c.args.image.now) c.args.n
read c = c.record_at-f.ensures ∙ rw c.from-k.ensures (record_in_place _ c.requires.encoded (valid_fits _ c.requires.valid) c.args.n c.requires.low c.requires.high)

-- with no bid nothing was held, with one the deposit
offer : (c : Joined-state) → Offer c.record_at-f.result c.match-state.frozen
offer c =
    let number : c.record_at-f.result.state ≡ state_number c.in-Ok.state = is_state _ _ (sym c.try_from.ensures ∙ c.in-Ok.is) in
    elim c.match-state.branch [
      | in-Listed w ↦ rw w.frozen-is (listed_offer (number ∙ ap state_number w.in-Listed.is))
      | in-BidStands w ↦ bid_offer (number ∙ ap state_number w.in-BidStands.is) (w.frozen-is ∙ w.deposit_per_receipt-frozen.ensures)
    ]

begun : (c : After-receipt_record) → c.record_at-f.result ≡ record_of_receipt (decode c.args.image.now) c.args.n → Offer c.record_at-f.result c.match-state.frozen
    → Begun c.args.image.now c.receipt_record.new.image (entry_of c.args.n 3 c.record_at-f.result.seller c.record_at-f.result.buyer 0) (with_lot c.record_at-f.result Idle) (hold_from c.record_at-f.result.buyer c.match-state.frozen) (fen 0) (hold_from 0 (fen 0))
begun c r o = offer_begun c.args.n c.args.image.now r c.requires (rw c.from-k.ensures at c.receipt_record.ensures) c.idle_record.ensures o

pub returns-in_default : goal.returns-in_default
returns-in_default c =
    λ call kind. idle_worked call c.args.n c.args.image.now c.requires.encoded
    (no_offer c.args.n c.args.image.now (read (goal.at.returns-in_default c).After-record_at-f) call kind
    (other_state Listed c.try_from.ensures (c.in_default.not-Ok _)) (other_state BidStands c.try_from.ensures (c.in_default.not-Ok _)))

pub release_to-requires : goal.release_to-requires
release_to-requires c =
    let B = begun (goal.at.release_to-requires c).After-receipt_record (read (goal.at.release_to-requires c).After-record_at-f) (offer (goal.at.release_to-requires c).Joined-state) in
    (B.encoded, B.fits, old_in B, B.funds.frozen_fits)

pub returns : goal.returns
returns c =
    let f = c.record_at-f.result in
    let r = read (goal.at.returns c).After-record_at-f in
    let o = offer (goal.at.returns c).Joined-state in
    let B = begun (goal.at.returns c).After-receipt_record r o in
    λ call kind. worked call c.args.n c.args.image.now (ends c.args.n c.args.image.now r call kind o.state)
    (ended B (release f.buyer c.match-state.frozen) (only_released (hold_from f.buyer c.match-state.frozen) f.seller 0 0) c.release_to.ensures)
    c.by_owner.ensures

pub returns-in_default-state : goal.returns-in_default-state
returns-in_default-state c =
    let d = c.in_default-state in
    λ call kind. idle_worked call c.args.n c.args.image.now c.requires.encoded
    (no_offer c.args.n c.args.image.now (read (goal.at.returns-in_default-state c).After-record_at-f) call kind
    (another_state Listed c.try_from.ensures c.in-Ok.is d.not-Listed) (another_state BidStands c.try_from.ensures c.in-Ok.is d.not-BidStands))
