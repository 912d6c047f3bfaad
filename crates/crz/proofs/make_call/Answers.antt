-- A short answer, or what the call has come to; a refusal's number is written before the zeros.
use Rattle.std.proofs.Common.{rules, sym, ap, ◌∙◌, arith}
use Rattle.answers.specs.Buffers.{cleared}
use Rattle.answers.specs.Laws.Answer.{cleared_twice}
use Rattle.crz.specs.Laws.Returned.{short_with, refusal_short, refused_with_lem}
use Rattle.crz.proofs.make_call.Goals as goal

pub returns-then-answer-lt-ANSWER_LENGTH : goal.returns-then-answer-lt-ANSWER_LENGTH
returns-then-answer-lt-ANSWER_LENGTH c =
    let a = c.args in
    refused_with_lem a.image.now a.c a.answer.now 1 _ (sym (short_with a.image.now a.c a.answer.now (omega (arith, c.if-answer-lt-ANSWER_LENGTH.true)))) (omega arith) (sym (refusal_short a.answer.now))

pub refuse-requires : goal.refuse-requires
refuse-requires c =
    let zeros = c.in-Err.ensures.zeros in
    (search rules, ap cleared zeros ∙ cleared_twice c.args.answer.now c.if-answer-lt-ANSWER_LENGTH.false ∙ sym zeros)

pub returns-in-Err : goal.returns-in-Err
returns-in-Err c = rw (c.refuse.ensures.0, c.refuse.ensures.1, c.number.ensures) c.in-Err.ensures.left
