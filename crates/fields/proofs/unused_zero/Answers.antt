use Rattle.std.proofs.Common.{sym, ap, ◌∙◌, ◌&&◌, eqb}
use Rattle.rules.specs.Numbers.{unused_zero, values}
use Rattle.fields.proofs.Rows.{row_read, no_row}
use Rattle.fields.proofs.unused_zero.Goals as goal
use Rattle.fields.proofs.unused_zero.Goals.{in-Ok, in-Err}

pub returns : goal.returns
returns c =
    let a = c.args.c in
    elim c.match-try_from.branch [
      | in-Ok w ↦
          ap (λ b. b && eqb a.spare 0) w.named-is
          ∙ w.named_zero-named.ensures
          ∙ ap (λ row. unused_zero row 0 (values a)) (row_read _ _ (sym c.try_from.ensures ∙ w.in-Ok.is))
      | in-Err w ↦
          ap (λ b. b && eqb a.spare 0) w.named-is
          ∙ w.none_named-named.ensures
          ∙ ap (λ row. unused_zero row 0 (values a)) (no_row _ _ (sym c.try_from.ensures ∙ w.in-Err.is))
    ]
