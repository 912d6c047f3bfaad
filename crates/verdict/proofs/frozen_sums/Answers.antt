-- The records from k on are judged, and what they hold is added up.
use Rattle.std.proofs.Common.{◌<◌, length, ◌≡◌, ℕ, ◌-◌, ◌≤◌, Bool, List, sym, ap, ◌∙◌, arith}
use Rattle.units.specs.Laws.Bounds.{most_full}
use Rattle.units.specs.Ranges.{account_count, receipt_count}
use Rattle.zone.specs.Valid.{record_valid}
use Rattle.verdict.specs.Sums.{valid_hold, add_to, sums_by}
use Rattle.verdict.specs.Walk.{marks_from, marked}
use Rattle.verdict.specs.Laws.Sums.{sums_length, hold_known, hold_small}
use Rattle.verdict.specs.Laws.Walk.{rec, last_records, sums_start, sums_turn, sum_room, marks_start, marks_turn, marks_end}
use Rattle.verdict.proofs.frozen_sums.Goals as goal
use Rattle.verdict.proofs.frozen_sums.Goals.{After-hold_at-hold}

pub loop-k-init : goal.loop-k-init
loop-k-init c =
    let s = c.args.image.now in
    let n = c.registered_end-k.result in
    let e = c.registered_end-k.ensures in
    record { added = sym (sums_start s n e.0 e.1); judged = c.requires.1 ∙ marks_start s n e.1 }

-- the walk's hold is from an account or from nobody, and small
from_known : (c : After-hold_at-hold) → c.hold_at-hold.result.from ≤ account_count
from_known c = rw c.hold_at-hold.ensures.0 (hold_known _)

fen_small : (c : After-hold_at-hold) → c.hold_at-hold.result.fen.0 ≤ most_full
fen_small c = rw c.hold_at-hold.ensures.0 (hold_small _)

pub add_hold-requires-clause-known : goal.add_hold-requires-clause-known
add_hold-requires-clause-known c =
    let long : length c.loop-k.sums ≡ account_count = ap length c.loop-k.invariant.added ∙ sums_length valid_hold (last_records c.args.image.now c.loop-k.k) in
    omega (arith, long, from_known (goal.at.add_hold-requires-clause-known c).After-hold_at-hold)

pub add_hold-requires-clause-room : goal.add_hold-requires-clause-room
add_hold-requires-clause-room c =
    let known = from_known (goal.at.add_hold-requires-clause-room c).After-hold_at-hold in
    sum_room c.args.image.now valid_hold hold_known hold_small c.loop-k.k _ c.loop-k.invariant.added _ (omega (arith, known)) _
    (fen_small (goal.at.add_hold-requires-clause-room c).After-hold_at-hold)

pub loop-k-preserved : goal.loop-k-preserved
loop-k-preserved c =
    let s = c.args.image.now in
    let l = c.loop-k in
    let h = c.hold_at-hold.result in
    let some : 0 < l.k = omega (arith, c.loop-k-test.true) in
    let inside : l.k ≤ receipt_count = omega (arith, c.registered_end-k.ensures.0, l.auto.k) in
    record {
      added = c.add_hold.ensures ∙ ap (add_to h.from h.fen.0) l.invariant.added ∙ sums_turn s valid_hold l.k some inside h c.hold_at-hold.ensures.0;
      judged =
          c.hold_at-hold.ensures.1 ∙ ap (λ (m : List Bool). marked m (l.k - 1) (record_valid (rec s (l.k - 1)))) l.invariant.judged
          ∙ marks_turn s l.k some inside;
    }

pub returns : goal.returns
returns c =
    let s = c.args.image.now in
    let l = c.loop-k in
    let e : l.k ≡ 0 = omega arith in
    (l.invariant.added ∙ ap (λ (n : ℕ). sums_by valid_hold (last_records s n)) e, l.invariant.judged ∙ ap (λ (n : ℕ). marks_from n s) e ∙ marks_end s)
