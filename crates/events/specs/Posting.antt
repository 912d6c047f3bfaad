-- When an event can be posted.
-- Assumes nothing.
use Rattle.std.specs.Prelude.{true, ◌≡◌, ◌≤◌, Some, None}
use Rattle.units.specs.Ranges.{receipt_count}
use Rattle.zone.specs.declared.Receipt.{Receipt}
use Rattle.zone.specs.declared.Zone.{Zone}
use Rattle.zone.specs.Record.{record_of}
use Rattle.zone.specs.Valid.{record_valid}
use Rattle.image.specs.Image.{Fits}
use Rattle.rules.specs.AtLot.{AtLot}
use Rattle.rules.specs.declared.Entry.{Entry}
use Rattle.rules.specs.Ready.{Funded}
use Rattle.rules.specs.View.{record_of_receipt}

-- The entry names a lot, the receipt after it is valid, and each move finds its money.
pub record Postable (z : Zone) (e : Entry) (r : Receipt) : Type 0 where
  pub fits : Fits z
  pub low : 1 ≤ e.lot
  pub high : e.lot ≤ receipt_count
  pub valid : record_valid (record_of r) ≡ true
  pub funded : Funded z.accounts (record_of_receipt z e.lot) e (record_of r)

-- an event at a lot, if there is one, can be posted
abbrev pub CanPost : Zone → AtLot → Type 0
CanPost z None = Unit {0}
CanPost z (Some x) = Postable z x.entry x.receipt
