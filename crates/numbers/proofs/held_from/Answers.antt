use mathlib.Core.Bool.{true}
use mathlib.Core.Path.{◌≡◌, sym, ap, ◌∙◌}
use native.Mathlib.Omega.{arith}
use borrow.Author.Tests.{eq-eqb, ne_eqb}
use lib.Dec.{eqb}
use Rattle.zone.specs.declared.Hold.{Hold}
use Rattle.zone.specs.Held.{held_from, fen_from}
use Rattle.zone.specs.Laws.Held.{held_from_le}
use Rattle.numbers.proofs.held_from.Goals as goal
use Rattle.numbers.proofs.held_from.Goals.{After-hold_of-held}

-- a lot holds from its buyer
by_buyer : (c : After-hold_of-held) → c.hold_of-held.result.from ≡ c.args.f.buyer
by_buyer c = ap (λ (h : Hold). h.from) c.hold_of-held.ensures

pub returns-then-a-held : goal.returns-then-a-held
unfolding held_from fen_from
returns-then-a-held c =
    let a = c.args.a in
    let f = c.args.f in
    let same : eqb a f.buyer ≡ true = eq-eqb _ _ (c.if-a-held.true ∙ by_buyer (goal.at.returns-then-a-held c).After-hold_of-held) in
    let e : c.hold_of-held.result.fen.0 ≡ held_from a f = rw (same, c.hold_of-held.ensures) in
    (e, rw e (omega (arith, held_from_le a f c.requires)))

pub returns-else-a-held : goal.returns-else-a-held
unfolding held_from fen_from
returns-else-a-held c =
    let a = c.args.a in
    let f = c.args.f in
    (rw (ne_eqb a f.buyer (λ e. c.if-a-held.false (e ∙ sym (by_buyer (goal.at.returns-else-a-held c).After-hold_of-held)))), omega arith)
