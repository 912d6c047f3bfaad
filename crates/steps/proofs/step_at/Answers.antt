-- Refused by its number, or accepted with what its rule does at the receipt that it names; a quote or a close names none.
use Rattle.std.proofs.Common.{false, ◌≡◌, refl, sym, ap, ◌∙◌, eqb}
use Rattle.std.proofs.lemmas.Result.{err_from_is_err_and}
use Rattle.rules.specs.declared.Refusal.{Refusal}
use Rattle.rules.specs.declared.Refusal.TheVariants.{ShortAnswer, BadImage, BadCall, OutOfRange, WrongPhase, WrongState, WrongParty, NotAbove, NoAsk, NothingToPay, NoMoney, OverLimit, OverInvoice, BadTable}
use Rattle.rules.specs.Effects.{sweeps, rule_of}
use Rattle.rules.specs.Kinds.{refusal_number}
use Rattle.rules.specs.Laws.Passed.{passed_all, names_none}
use Rattle.rules.specs.Laws.Ready.{ready_with}
use Rattle.rules.specs.Steps.{step_at, Accepted}
use Rattle.steps.proofs.step_at.Goals as goal

-- no refusal has number 0
not_accepted : (r : Refusal) → eqb (refusal_number r) 0 ≡ false
not_accepted ShortAnswer = refl
not_accepted BadImage = refl
not_accepted BadCall = refl
not_accepted OutOfRange = refl
not_accepted WrongPhase = refl
not_accepted WrongState = refl
not_accepted WrongParty = refl
not_accepted NotAbove = refl
not_accepted NoAsk = refl
not_accepted NothingToPay = refl
not_accepted NoMoney = refl
not_accepted OverLimit = refl
not_accepted OverInvoice = refl
not_accepted BadTable = refl

pub returns-in_err-kind : goal.returns-in_err-kind
unfolding step_at
returns-in_err-kind c =
    let p = err_from_is_err_and c.from_residual.result c.from_residual.ensures.1 in
    rw (p.1, p.2, c.in_err-kind.ensures.number, not_accepted c.in_err-kind.field-0.0)

pub rule_of-requires-clause-tested : goal.rule_of-requires-clause-tested
rule_of-requires-clause-tested c =
    let a = c.args in
    ready_with a.v a.c a.f c.requires.0.valid (passed_all a.v a.c a.f c.in_ok-kind.ensures.number)

pub rule_of-requires-clause-idle : goal.rule_of-requires-clause-idle
rule_of-requires-clause-idle c =
    let a = c.args in
    λ s. c.requires.1 (names_none a.c (ap sweeps c.in_ok-kind.ensures.kind ∙ s) (passed_all a.v a.c a.f c.in_ok-kind.ensures.number))

pub returns : goal.returns
unfolding step_at
returns c =
    let a = c.args in
    rw c.in_ok-kind.ensures.number
    (ap Accepted (c.rule_of.ensures ∙ ap (λ k. rule_of k a.v a.c a.c.receipt a.f) (sym c.in_ok-kind.ensures.kind)))
