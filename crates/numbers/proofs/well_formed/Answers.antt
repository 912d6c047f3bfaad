use Rattle.std.proofs.Common.{sym, ◌∙◌}
use Rattle.std.proofs.lemmas.Result.{err_from_is_err_and}
use Rattle.rules.specs.Numbers.{ill_formed}
use Rattle.rules.specs.Laws.Numbered.{unread_outside}
use Rattle.numbers.proofs.well_formed.Goals as goal

pub returns-in_err-kind : goal.returns-in_err-kind
unfolding ill_formed
returns-in_err-kind c =
    let unread = unread_outside _ _ (sym c.try_from.ensures ∙ c.in_err-kind.was) in
    let same = err_from_is_err_and c.from_residual.result c.from_residual.ensures.1 in
    rw (same.1, same.2) (unread.0, rw unread.1)
