-- What a rule does at a lot: nothing, or an event.
-- Assumes nothing.
use Rattle.std.specs.Prelude.{Option, Some}
use Rattle.rules.specs.declared.Entry.{Entry}
use Rattle.rules.specs.declared.Event.{Event}
use Rattle.zone.specs.declared.Receipt.{Receipt}

abbrev pub AtLot : Type 0
AtLot = Option Event

-- the event with this entry, after which the receipt is r
abbrev pub one_event : Entry → Receipt → AtLot
one_event e r = Some (record { entry = e; receipt = r })
