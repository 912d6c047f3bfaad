-- An image that is not valid, a step that refuses, or the call carried out, each over the cleared answer.
use Rattle.std.proofs.Common.{rules, true, false, ◌≡◌, ℕ, List, refl, sym, ap, ◌∙◌, arith}
use Rattle.std.proofs.lemmas.Result.{err_from_is_err_and}
use Rattle.image.specs.Image.{valid_image, decode}
use Rattle.rules.specs.Laws.Steps.{accepted_as}
use Rattle.rules.specs.Steps.{told}
use Rattle.answers.specs.Buffers.{padded, cleared}
use Rattle.answers.specs.Laws.Answer.{cleared_twice, cleared_under}
use Rattle.crz.specs.Laws.Numbers.{refused_by}
use Rattle.crz.specs.Laws.Returned.{image_with, call_with_lem, refusal_written, refused_with_lem, done_with}
use Rattle.crz.proofs.carry.Goals as goal
use Rattle.crz.proofs.carry.Goals.{Else-not-valid, After-clear}

valid : (c : Else-not-valid) → valid_image c.args.image.now ≡ true
valid c = sym c.requires.verdict ∙ c.if-not-valid.false

-- a cleared answer stays so when it is cleared again
blank : (c : After-clear) → cleared c.clear.new.answer ≡ c.clear.new.answer
blank c = ap cleared c.clear.ensures ∙ cleared_twice c.args.answer.now c.requires.long ∙ sym c.clear.ensures

-- what is written over the cleared answer is written over the answer
over : (c : After-clear) (bytes : List ℕ) → padded bytes c.clear.new.answer ≡ padded bytes c.args.answer.now
over c bytes = ap (padded bytes) c.clear.ensures ∙ cleared_under c.args.answer.now c.requires.long bytes

pub returns-then-not-valid-clause-left : goal.returns-then-not-valid-clause-left
returns-then-not-valid-clause-left c =
    let a = c.args in
    let v : valid_image a.image.now ≡ false = sym c.requires.verdict ∙ c.if-not-valid.true in
    refused_with_lem a.image.now a.c a.answer.now 2 _ (sym (image_with a.image.now a.c a.answer.now c.requires.long v)) (omega arith)
    (refusal_written 2 2 a.answer.now _ refl (omega arith) (over (goal.at.returns-then-not-valid-clause-left c).After-clear _))

pub step_of-requires : goal.step_of-requires
step_of-requires c = valid (goal.at.step_of-requires c).Else-not-valid

pub returns-in_err-at-clause-left : goal.returns-in_err-at-clause-left
returns-in_err-at-clause-left c =
    let a = c.args in
    let p = err_from_is_err_and c.from_residual.result c.from_residual.ensures.1 in
    let R = refused_by (decode a.image.now) a.c _ (sym c.step_of.ensures ∙ ap told c.in_err-at.was) in
    rw (p.1, p.2)
    (refused_with_lem a.image.now a.c a.answer.now _ _
    (sym R.number ∙ sym (call_with_lem a.image.now a.c a.answer.now c.requires.long (valid (goal.at.returns-in_err-at-clause-left c).Else-not-valid)))
    (λ z. omega (arith, R.high)) (refusal_written _ _ a.answer.now _ refl (λ o. omega (arith, R.high)) (over (goal.at.returns-in_err-at-clause-left c).After-clear _)))

pub carry_out-requires : goal.carry_out-requires
carry_out-requires c =
    (search rules, blank (goal.at.carry_out-requires c).After-clear, valid (goal.at.carry_out-requires c).Else-not-valid, sym c.step_of.ensures ∙ ap told c.in_ok-at.was)

pub returns-clause-left : goal.returns-clause-left
returns-clause-left c =
    let a = c.args in
    let P = accepted_as (decode a.image.now) a.c _ (sym c.step_of.ensures ∙ ap told c.in_ok-at.was) in
    let e = c.carry_out.ensures in
    done_with a.image.now a.c a.answer.now _ _ _ refl (sym P.number ∙ sym (call_with_lem a.image.now a.c a.answer.now c.requires.long (valid (goal.at.returns-clause-left c).Else-not-valid))) e.0 (e.1 ∙ over (goal.at.returns-clause-left c).After-clear _)
