use Rattle.zone.specs.Laws.Facts.{bounds}
use Rattle.shortfalls.proofs.owed_when_due.Goals as goal

pub full_of-requires : goal.full_of-requires
full_of-requires c = (bounds c.args.r c.requires.0).weight
