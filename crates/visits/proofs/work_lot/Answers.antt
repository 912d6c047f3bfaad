-- A call that goes through all lots is a quote, a morning close or a day close.
use Rattle.std.proofs.Common.{arith}
use Rattle.rules.specs.declared.Kind.TheVariants.{Quote, MorningClose, DayClose}
use Rattle.lots.specs.Laws.Over.{swept_kind, read_as, read_otherwise}
use Rattle.visits.proofs.work_lot.Goals as goal

pub unreachable-requires : goal.unreachable-requires
unreachable-requires c =
    swept_kind c.args.c.kind c.requires.1 c.try_from.ensures (c.in_default.not-Ok _) (c.in_default.not-Ok _) (c.in_default.not-Ok _)

pub strike_lot-requires : goal.strike_lot-requires
strike_lot-requires c =
    let at = c.requires.0 in
    (record { encoded = at.encoded; valid = at.valid; low = omega (arith, at.low); high = omega (arith, at.high) }, read_as c.try_from.ensures c.in-Ok.is c.in-Quote.is)

pub close_lot-requires : goal.close_lot-requires
close_lot-requires c =
    let at = c.requires.0 in
    record { encoded = at.encoded; valid = at.valid; low = omega (arith, at.low); high = omega (arith, at.high) }

pub returns-in-MorningClose : goal.returns-in-MorningClose
returns-in-MorningClose c = c.close_lot.ensures c.args.c (read_as c.try_from.ensures c.in-Ok.is c.in-MorningClose.is)

pub returns-in-DayClose : goal.returns-in-DayClose
returns-in-DayClose c = c.end_offer.ensures c.args.c (read_as c.try_from.ensures c.in-Ok.is c.in-DayClose.is)

pub unreachable-requires-in_default-kind : goal.unreachable-requires-in_default-kind
unreachable-requires-in_default-kind c =
    let d = c.in_default-kind in
    let is = c.in-Ok.is in
    swept_kind c.args.c.kind c.requires.1 c.try_from.ensures (read_otherwise Quote is d.not-Quote) (read_otherwise MorningClose is d.not-MorningClose) (read_otherwise DayClose is d.not-DayClose)
