-- A valid record has a state's number.
use Rattle.std.proofs.Common.{sym, ◌∙◌}
use Rattle.zone.specs.Laws.Facts.{bounds}
use Rattle.zone.specs.Laws.States.{is_state}
use Rattle.verdict.specs.Laws.States.{known_state}
use Rattle.shortfalls.proofs.owed_of.Goals as goal

pub unreachable-requires : goal.unreachable-requires
unreachable-requires c =
    let s = known_state c.args.r.state (bounds c.args.r c.requires).state in
    c.in_default.not-Ok s.0 (c.try_from.ensures ∙ s.1)

pub owed_when_due-requires : goal.owed_when_due-requires
owed_when_due-requires c = (c.requires, is_state _ _ (sym c.try_from.ensures ∙ c.in-Ok.is))
