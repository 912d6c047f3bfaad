-- The days of a valid record.
use Rattle.std.specs.Prelude.{true, ◌≡◌, ◌≤◌}
use Rattle.units.specs.Ranges.{most_days}
use Rattle.zone.specs.declared.Record.{Record}
use Rattle.zone.specs.Laws.Facts.{bounds}
use Rattle.zone.specs.Valid.{record_valid}

pub valid_days : (f : Record) → record_valid f ≡ true → f.days ≤ most_days
valid_days f h = (bounds f h).days
