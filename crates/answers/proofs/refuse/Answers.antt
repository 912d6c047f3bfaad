use Rattle.std.proofs.Common.{List, [], ◌∷◌, refl, sym, ap, ◌∙◌, ℕ, arith}
use Rattle.std.proofs.lemmas.List.Edits.{sets}
use Rattle.answers.specs.Laws.Answer.{run_over_zeros}
use Rattle.answers.proofs.refuse.Goals as goal

pub returns : goal.returns
returns c =
    let a = c.args in (
      c.from.ensures,
      ap (λ (s : List ℕ). sets s 0 (a.n ∷ [])) (sym c.requires.1)
          ∙ run_over_zeros a.answer.now (a.n ∷ []) c.requires.0 (omega arith),
    )
