-- The claims of FrozenSums, each a law of the walk (verdict, Laws/) on the records of an image.
-- Assumes nothing.
use Rattle.image.specs.Layout.{records_in}
use Rattle.verdict.specs.Sums.{valid_hold}
use Rattle.verdict.specs.Laws.Sums.{sums_length, sum_valid, sum_held}
use Rattle.verdict.specs.Laws.Verdict.{by_sums}
use Rattle.claims.specs.FrozenSums.{OneSumEach, SumsAsked, ValidAsked, SameVerdict}

pub one_sum_each : OneSumEach
one_sum_each image = sums_length valid_hold (records_in image)

pub sums_asked : SumsAsked
sums_asked image v p h = sum_held (records_in image) v p h

pub valid_asked : ValidAsked
valid_asked image p h = sum_valid (records_in image) p h

pub same_verdict : SameVerdict
same_verdict image = by_sums image
