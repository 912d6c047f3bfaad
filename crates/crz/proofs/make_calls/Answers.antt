-- One call more, on its own part of the answers; the last one leaves what all of them leave.
use Rattle.std.proofs.Common.{◌≡◌, suc, ℕ, ◌+◌, ◌-◌, ◌*◌, ◌≤◌, length, drop, List, ◌∙◌, arith, length-drop, length-take-le}
use Rattle.answers.specs.Buffers.{answer_length}
use Rattle.crz.specs.Laws.CallTable.{one_made, all_made}
use Rattle.crz.proofs.make_calls.Goals as goal

pub loop-i-preserved : goal.loop-i-preserved
loop-i-preserved c =
    let s = c.args in
    let l = c.loop-i in
    let ahead : List ℕ = drop (l.i * answer_length) l.answers in
    let part : l.i * answer_length + answer_length - l.i * answer_length ≡ answer_length = omega arith in
    let room : l.i * answer_length + answer_length ≤ length l.answers = omega arith in
    let left : answer_length ≤ length ahead = simp length-drop (omega arith) in
    let own : length c.make_call.new.answer ≡ answer_length = (rw part at c.make_call.auto.answer) ∙ length-take-le answer_length ahead left in
    let next : suc l.i ≡ l.i + 1 = omega arith in
    rw (part, ← next)
    (one_made s.calls.now s.image.now s.answers.now l.i c.loop-i-test.true room l.invariant own (rw part at c.make_call.ensures))

pub returns : goal.returns
returns c =
    let s = c.args in
    let e : c.loop-i.i ≡ length s.calls.now = omega arith in
    all_made s.calls.now s.image.now s.answers.now (rw e at c.loop-i.invariant)
