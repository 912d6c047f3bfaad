use Rattle.std.proofs.Common.{rules, ◌&&◌, true, ◌∙◌}
use Rattle.std.proofs.lemmas.Iterator.{YieldsList-from_slice}
use Rattle.std.proofs.lemmas.Iterator.Consumers.{fold_from_yields_List}
use Rattle.verdict.specs.Laws.Turns.{all_folded}
use Rattle.verdict.proofs.all_set.Goals as goal

pub returns : goal.returns
returns c =
    fold_from_yields_List _ (λ ok mark. ok && mark) true c.fold.result c.fold.ensures.ran (YieldsList-from_slice c.args.marks.now cc) (λ a x b q k. search rules)
    ∙ all_folded true c.args.marks.now
