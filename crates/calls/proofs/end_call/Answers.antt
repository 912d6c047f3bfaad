-- Only a morning close and a day close have an ending.
use Rattle.std.proofs.Common.{false, ap, ◌∙◌, ◌+◌, ◌≤◌, arith}
use Rattle.units.specs.Ranges.{last_day}
use Rattle.zone.specs.declared.Zone.{Zone}
use Rattle.zone.specs.Parts.{with_clock}
use Rattle.image.specs.Image.{decode, encode}
use Rattle.rules.specs.Effects.{ending}
use Rattle.events.specs.Laws.Moved.{encoded}
use Rattle.calls.specs.Laws.Good.{cleared}
use Rattle.calls.proofs.end_call.Goals as goal

pub overflow_add-day : goal.overflow_add-day
unfolding decode
overflow_add-day c =
    let h : c.day_in-day.result ≤ last_day = rw c.day_in-day.ensures c.requires.1.day in
    omega arith

pub clock-requires-in-DayClose : goal.clock-requires-in-DayClose
clock-requires-in-DayClose c = encoded _ _ c.no_asks.ensures (cleared c.args.image.now _ c.requires.1 c.no_asks.ensures)

pub returns-in-MorningClose : goal.returns-in-MorningClose
unfolding ending decode
returns-in-MorningClose c = λ call kind. c.clock.ensures ∙ rw (c.day_in-day.ensures, kind, c.in-MorningClose.is)

pub returns-in-DayClose : goal.returns-in-DayClose
unfolding ending decode
returns-in-DayClose c =
    λ call kind. c.clock-in-DayClose.ensures
    ∙ ap (λ (y : Zone). encode (with_clock y (c.day_in-day.result + 1) false)) (cleared c.args.image.now _ c.requires.1 c.no_asks.ensures)
    ∙ rw (c.day_in-day.ensures, kind, c.in-DayClose.is)
