-- A lot that is not due, or in another state, is left as it is.
use Rattle.std.proofs.Common.{◌≡◌, ◌<◌, sym, ap, ◌∙◌, arith}
use Rattle.zone.specs.declared.State.TheVariants.{Struck, Lodged, PenaltyDue}
use Rattle.zone.specs.Laws.States.{is_state}
use Rattle.zone.specs.State.{state_number}
use Rattle.image.specs.Image.{decode}
use Rattle.image.specs.Laws.RoundTrip.{valid_fits}
use Rattle.rules.specs.View.{record_of_receipt}
use Rattle.events.specs.Laws.Moved.{record_in_place}
use Rattle.closes.specs.Laws.Closing.{not_due, no_close, idle_worked, other_state, another_state}
use Rattle.closes.specs.Visited.{Due}
use Rattle.closes.proofs.close_lot.Goals as goal
use Rattle.closes.proofs.close_lot.Goals.{After-record_at-f, After-day_in, Else-day_in-f}

read : (c : After-record_at-f) → c.record_at-f.result ≡ record_of_receipt (decode c.args.image.now) c.args.n
read c = c.record_at-f.ensures ∙ rw c.from.ensures (record_in_place _ c.requires.encoded (valid_fits _ c.requires.valid) c.args.n c.requires.low c.requires.high)

today : (c : After-day_in) → c.day_in.result ≡ (decode c.args.image.now).day
unfolding decode
today c = c.day_in.ensures

-- on its due day or later
due : (c : Else-day_in-f) → Due c.args.n c.args.image.now c.record_at-f.result
due c = record { at = c.requires; read = read c.before.before.before; day = omega (arith, today c.before.before, c.if-day_in-f.false) }

pub returns-then-day_in-f : goal.returns-then-day_in-f
returns-then-day_in-f c =
    let early : (decode c.args.image.now).day < c.record_at-f.result.due = omega (arith, today (goal.at.returns-then-day_in-f c).After-day_in, c.if-day_in-f.true) in
    λ call kind. idle_worked call c.args.n c.args.image.now c.requires.encoded (not_due call c.args.n c.args.image.now kind (read (goal.at.returns-then-day_in-f c).After-record_at-f) early)

pub close_lodged-requires : goal.close_lodged-requires
close_lodged-requires c = (due (goal.at.close_lodged-requires c).Else-day_in-f, is_state _ _ (sym c.try_from.ensures ∙ c.in-Ok.is) ∙ ap state_number c.in-Lodged.is)

pub close_struck-requires : goal.close_struck-requires
close_struck-requires c = (due (goal.at.close_struck-requires c).Else-day_in-f, is_state _ _ (sym c.try_from.ensures ∙ c.in-Ok.is) ∙ ap state_number c.in-Struck.is)

pub close_penalty-requires : goal.close_penalty-requires
close_penalty-requires c = (due (goal.at.close_penalty-requires c).Else-day_in-f, is_state _ _ (sym c.try_from.ensures ∙ c.in-Ok.is) ∙ ap state_number c.in-PenaltyDue.is)

pub returns-in_default : goal.returns-in_default
returns-in_default c =
    λ call kind. idle_worked call c.args.n c.args.image.now c.requires.encoded
    (no_close (due (goal.at.returns-in_default c).Else-day_in-f) call kind
    (other_state Lodged c.try_from.ensures (c.in_default.not-Ok _)) (other_state Struck c.try_from.ensures (c.in_default.not-Ok _))
    (other_state PenaltyDue c.try_from.ensures (c.in_default.not-Ok _)))

pub returns-in_default-state : goal.returns-in_default-state
returns-in_default-state c =
    let d = c.in_default-state in
    λ call kind. idle_worked call c.args.n c.args.image.now c.requires.encoded
    (no_close (due (goal.at.returns-in_default-state c).Else-day_in-f) call kind
    (another_state Lodged c.try_from.ensures c.in-Ok.is d.not-Lodged) (another_state Struck c.try_from.ensures c.in-Ok.is d.not-Struck)
    (another_state PenaltyDue c.try_from.ensures c.in-Ok.is d.not-PenaltyDue))
