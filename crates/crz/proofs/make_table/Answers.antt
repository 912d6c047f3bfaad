-- Lengths that do not fit leave all buffers; else the image is judged once, the records are read, and the calls are made in turn.
use mathlib.Core.Bool.{true}
use mathlib.Core.List.{List}
use mathlib.Core.Path.{◌≡◌, sym, ap, ◌∙◌}
use Prim.Native.Nat.{ℕ, ◌*◌, ◌≤◌}
use native.Mathlib.Omega.{arith}
use lib.ListN.{length, take}
use Rattle.std.proofs.lemmas.List.{length-take, length-take-le}
use Rattle.answers.specs.Buffers.{call_count, answer_length}
use Rattle.rules.specs.declared.Call.{Call}
use Rattle.crz.specs.CallTable.{in_turn, table_fits}
use Rattle.crz.specs.Laws.CallTable.{Fitting, fitting, calls_read, table_refused, table_made}
use Rattle.crz.specs.Returned.{call_with}
use Rattle.crz.proofs.make_table.Goals as goal
use Rattle.crz.proofs.make_table.Goals.{Else-not-table_fits, After-read_calls-table}

fits : (c : Else-not-table_fits) → table_fits (length c.args.calls.now) (length c.args.answers.now) ≡ true
fits c = sym c.table_fits.ensures ∙ c.if-not-table_fits.false

fit : (c : Else-not-table_fits) → Fitting (length c.args.calls.now) (length c.args.answers.now)
fit c = fitting _ _ (fits c)

pub returns-then-not-table_fits : goal.returns-then-not-table_fits
returns-then-not-table_fits c =
    let a = c.args in
    table_refused a.image.now a.calls.now a.answers.now (sym c.table_fits.ensures ∙ c.if-not-table_fits.true)

pub read_calls-table-requires : goal.read_calls-table-requires
read_calls-table-requires c = (fit (goal.at.read_calls-table-requires c).Else-not-table_fits).bytes

-- the array has the calls of the table, and others behind them
enough : (c : After-read_calls-table) → call_count c.args.calls.now ≤ length c.read_calls-table.result
enough c = omega (arith, calls_read c.args.calls.now _ c.read_calls-table.ensures, length-take (call_count c.args.calls.now) c.read_calls-table.result)

-- room for some of the calls
room_left : {k n room : ℕ} (cs : List Call) → k ≤ n → n * answer_length ≤ room → length (take k cs) * answer_length ≤ room
room_left {k} cs le h = omega (arith, length-take k cs, le, h)

pub slice_bounds-table-end : goal.slice_bounds-table-end
slice_bounds-table-end c = omega (arith, enough (goal.at.slice_bounds-table-end c).After-read_calls-table)

pub slice_bounds-make_calls-end : goal.slice_bounds-make_calls-end
slice_bounds-make_calls-end c = sym (length-take-le _ _ (omega (arith, enough (goal.at.slice_bounds-make_calls-end c).After-read_calls-table)))

pub make_calls-requires : goal.make_calls-requires
make_calls-requires c =
    let f = fit (goal.at.make_calls-requires c).Else-not-table_fits in
    (c.image_ok-valid.ensures, room_left _ (omega arith) f.room)

pub returns : goal.returns
returns c =
    let a = c.args in
    table_made a.image.now a.calls.now a.answers.now (fits (goal.at.returns c).Else-not-table_fits)
    (c.make_calls.ensures ∙ ap (λ (cs : List Call). in_turn call_with a.image.now cs a.answers.now) c.read_calls-table.ensures)
