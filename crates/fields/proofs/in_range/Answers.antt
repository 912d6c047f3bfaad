use Rattle.std.proofs.Common.{sym, ap, ◌∙◌}
use Rattle.rules.specs.Numbers.{in_range, values}
use Rattle.fields.proofs.Rows.{row_read, no_row}
use Rattle.fields.proofs.in_range.Goals as goal

pub returns-in-Ok : goal.returns-in-Ok
returns-in-Ok c =
    c.ranges_of.ensures ∙ ap (λ row. in_range row (values c.args.c)) (row_read _ _ (sym c.try_from.ensures ∙ c.in-Ok.is))

pub returns-in-Err : goal.returns-in-Err
returns-in-Err c = ap (λ row. in_range row (values c.args.c)) (no_row _ _ (sym c.try_from.ensures ∙ c.in-Err.is))
