-- What is owed for the lots from k on is added up.
use Rattle.std.proofs.Common.{◌≡◌, true, ◌-◌, ◌≤◌, ◌<◌, length, sym, ap, ◌∙◌, arith}
use Rattle.units.specs.Laws.Bounds.{most_full}
use Rattle.units.specs.Ranges.{account_count, receipt_count}
use Rattle.zone.specs.Valid.{record_valid}
use Rattle.image.specs.Laws.RoundTrip.{valid_long, record_ok}
use Rattle.verdict.specs.Sums.{add_to}
use Rattle.verdict.specs.Laws.Sums.{sums_length, hold_valid}
use Rattle.verdict.specs.Laws.Walk.{rec, last_records, sums_none, sums_turn, sum_room}
use Rattle.shortfalls.specs.Walk.{owed_of, valid_owed}
use Rattle.shortfalls.specs.Laws.Owed.{owed_known, owed_small}
use Rattle.shortfalls.proofs.owed_sums.Goals as goal
use Rattle.shortfalls.proofs.owed_sums.Goals.{After-owed_of-owed}

pub loop-k-init : goal.loop-k-init
loop-k-init c = sums_none c.args.image.now (valid_owed c.args.day)

pub record_at-requires : goal.record_at-requires
record_at-requires c = (valid_long _ c.requires, omega arith)

pub owed_of-owed-requires : goal.owed_of-owed-requires
owed_of-owed-requires c = ap record_valid c.record_at.ensures ∙ record_ok _ c.requires (c.loop-k.k - 1) (omega arith)

-- what is owed for the lot, as the walk has it
walked : (c : After-owed_of-owed) →
    c.owed_of-owed.result ≡ valid_owed c.args.day (rec c.args.image.now (c.loop-k.k - 1))
walked c =
    let s = c.args.image.now in
    let v : record_valid (rec s (c.loop-k.k - 1)) ≡ true = record_ok s c.requires (c.loop-k.k - 1) (omega arith) in
    c.owed_of-owed.ensures ∙ ap (owed_of c.args.day) c.record_at.ensures ∙ sym (hold_valid (owed_of c.args.day) _ v)

-- it is from an account or from nobody, and small
from_known : (c : After-owed_of-owed) → c.owed_of-owed.result.from ≤ account_count
from_known c = rw (walked c) (owed_known _ _)

fen_small : (c : After-owed_of-owed) → c.owed_of-owed.result.fen.0 ≤ most_full
fen_small c = rw (walked c) (owed_small _ _)

pub add_hold-requires-clause-known : goal.add_hold-requires-clause-known
add_hold-requires-clause-known c =
    let long : length c.loop-k.sums ≡ account_count = ap length c.loop-k.invariant ∙ sums_length (valid_owed c.args.day) (last_records c.args.image.now c.loop-k.k) in
    omega (arith, long, from_known (goal.at.add_hold-requires-clause-known c).After-owed_of-owed)

pub add_hold-requires-clause-room : goal.add_hold-requires-clause-room
add_hold-requires-clause-room c =
    let day = c.args.day in
    let known = from_known (goal.at.add_hold-requires-clause-room c).After-owed_of-owed in
    sum_room c.args.image.now (valid_owed day) (owed_known day) (owed_small day) c.loop-k.k _ c.loop-k.invariant _ (omega (arith, known)) _
    (fen_small (goal.at.add_hold-requires-clause-room c).After-owed_of-owed)

pub loop-k-preserved : goal.loop-k-preserved
loop-k-preserved c =
    let s = c.args.image.now in
    let l = c.loop-k in
    let h = c.owed_of-owed.result in
    let some : 0 < l.k = omega (arith, c.loop-k-test.true) in
    let inside : l.k ≤ receipt_count = omega (arith, l.auto.k) in
    c.add_hold.ensures ∙ ap (add_to h.from h.fen.0) l.invariant
    ∙ sums_turn s (valid_owed c.args.day) l.k some inside h (walked (goal.at.loop-k-preserved c).After-owed_of-owed)
