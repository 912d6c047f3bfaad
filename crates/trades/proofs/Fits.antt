-- What a valid record's trade costs fits an entry.
use Rattle.std.specs.Prelude.{true, ◌≡◌, ◌≤◌, ◌<◌, ◌^◌}
use Rattle.std.proofs.Common.{arith}
use Rattle.units.specs.Laws.Bounds.{first_le}
use Rattle.units.specs.Payments.{first_payment}
use Rattle.units.specs.Ranges.{most_weight}
use Rattle.zone.specs.declared.Record.{Record}
use Rattle.zone.specs.Held.{full}
use Rattle.zone.specs.Laws.Facts.{bounds}
use Rattle.zone.specs.Laws.Held.{full_le}
use Rattle.zone.specs.Valid.{record_valid}

pub valid_weight : (f : Record) → record_valid f ≡ true → f.weight.0 ≤ most_weight
valid_weight f h = (bounds f h).weight

pub full_fits : (f : Record) → record_valid f ≡ true → (full f).0 < 2 ^ 32
full_fits f h = omega (arith, full_le f (bounds f h))

pub first_fits : (f : Record) → record_valid f ≡ true → (first_payment (full f)).0 < 2 ^ 32
first_fits f h = omega (arith, first_le (full f), full_fits f h)
