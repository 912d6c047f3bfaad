-- An opening, the lots that the call names, an ending; each leaves the image of a good zone. The entries are put in order last.
use Rattle.std.proofs.Common.{List, length, ◌≡◌, sym, ap, ◌∙◌, subst, ℕ, arith}
use Rattle.std.proofs.Math.Seq.{length-sets}
use Rattle.units.specs.Ranges.{receipt_count}
use Rattle.zone.specs.declared.Zone.{Zone}
use Rattle.image.specs.Image.{decode, encode}
use Rattle.image.specs.Laws.RoundTrip.{encode_decode, valid_decode}
use Rattle.rules.specs.Effects.{rule_at, sweeps, opening, ending, at_lots, effect}
use Rattle.rules.specs.Events.{Done, after_lot, sweep}
use Rattle.rules.specs.Kinds.{kind_number}
use Rattle.rules.specs.Laws.Numbered.{is_kind}
use Rattle.rules.specs.Laws.Order.{length_answer}
use Rattle.rules.specs.Order.{answer_order}
use Rattle.events.specs.Posting.{CanPost}
use Rattle.answers.specs.Buffers.{entries_from, with_entries, listed}
use Rattle.calls.specs.Laws.Good.{Of, bytes_of}
use Rattle.calls.specs.Laws.Lots.{all_lots}
use Rattle.calls.specs.Laws.Ordered.{at_lots_few, numbered_lots, ordered_entries}
use Rattle.calls.specs.Laws.Performed.{accepted, good, passed, of_kind, good_opened, good_lots, at_its_receipt, its_own}
use Rattle.calls.specs.Laws.Swept.{same_listed}
use Rattle.calls.proofs.perform.Goals as goal
use Rattle.calls.proofs.perform.Goals.{After-sweeps, After-open_call, Joined-sweeps, After-end_call, then-sweeps, else-sweeps}

opened : (c : After-open_call) → Of c.open_call.new.image (opening c.args.c (decode c.args.image.now))
opened c = bytes_of _ _ c.open_call.ensures (good_opened _ c.args.c c.args.at c.requires.0 c.requires.1)

-- whether it goes through all lots, by its kind
swept : (c : After-sweeps) → c.sweeps.result ≡ sweeps c.args.c.kind
swept c = c.sweeps.ensures ∙ ap sweeps (sym (is_kind _ _ (sym c.try_from.ensures ∙ c.in-Ok.is)))

record Left (image : List ℕ) (made : ℕ × List ℕ) (answer : List ℕ) (d : Done) : Type 0 where
  zone : image ≡ encode d.zone
  entries : made ≡ listed d.entries answer

left : (c : Joined-sweeps) → c.sweeps.result ≡ sweeps c.args.c.kind → Left c.if-sweeps.image (c.if-sweeps.count, c.if-sweeps.answer) c.args.answer.now (at_lots (decode c.args.image.now) c.args.c)
left c s =
    let O = bytes_of _ _ c.open_call.ensures (good_opened _ c.args.c c.args.at c.requires.0 c.requires.1) in
    let answer = c.args.answer.now in
    elim c.if-sweeps.branch [
      | then-sweeps w ↦
          let A = all_lots c.args.c (sym s ∙ w.if-sweeps.true) in
          record {
            zone = w.image-is ∙ w.sweep_lots-count.ensures.0 ∙ ap (λ (y : Zone). encode (sweep (rule_at c.args.c) receipt_count 1 y).zone) O.zone ∙ rw (A.0, A.1);
            entries = same_listed w.count-is w.answer-is ∙ w.sweep_lots-count.ensures.1 ∙ ap (λ (y : Zone). listed (sweep (rule_at c.args.c) receipt_count 1 y).entries answer) O.zone ∙ rw (A.0, A.1);
          }
      | else-sweeps w ↦
          let e = its_own _ c.args.c c.args.at c.requires.0 c.requires.1 (sym s ∙ w.if-sweeps.false) in
          record {
            zone = w.image-is ∙ w.post_one-count.ensures.0 ∙ ap (λ (y : Zone). encode (after_lot y c.args.at).zone) O.zone ∙ ap (λ (d : Done). encode d.zone) (sym e);
            entries = same_listed w.count-is w.answer-is ∙ w.post_one-count.ensures.1 ∙ ap (λ (y : Zone). listed (after_lot y c.args.at).entries answer) O.zone ∙ ap (λ (d : Done). listed d.entries answer) (sym e);
          }
    ]

pub unreachable-requires : goal.unreachable-requires
unreachable-requires c = of_kind _ c.args.c c.args.at c.requires.0 c.requires.1 c.try_from.ensures c.in_default.is

pub open_call-requires : goal.open_call-requires
open_call-requires c =
    (sym (encode_decode _ c.requires.0 (λ k. (c.slice_known-1.given k).fits)), valid_decode _ c.requires.0, (accepted _ c.args.c c.args.at c.requires.0 c.requires.1).number, is_kind _ _ (sym c.try_from.ensures ∙ c.in-Ok.is))

pub sweep_lots-count-requires : goal.sweep_lots-count-requires
sweep_lots-count-requires c =
    let O = opened (goal.at.sweep_lots-count-requires c).After-open_call in
    (O.encoded, O.valid, sym (swept (goal.at.sweep_lots-count-requires c).After-sweeps) ∙ c.if-sweeps.true, c.requires.2)

pub post_one-count-requires : goal.post_one-count-requires
post_one-count-requires c =
    let O = opened (goal.at.post_one-count-requires c).After-open_call in
    let R = at_its_receipt _ c.args.c c.args.at c.requires.0 c.requires.1 (sym (swept (goal.at.post_one-count-requires c).After-sweeps) ∙ c.if-sweeps.false) in
    (O.encoded, rw O.zone (subst (CanPost _) (accepted _ c.args.c c.args.at c.requires.0 c.requires.1).rule R.posts), c.requires.2)

pub end_call-requires : goal.end_call-requires
end_call-requires c =
    let L = left (goal.at.end_call-requires c).Joined-sweeps (swept (goal.at.end_call-requires c).After-sweeps) in
    let O = bytes_of _ _ L.zone (good_lots _ c.args.c c.args.at c.requires.0 c.requires.1) in
    (O.encoded, O.fits)

pub answer_order-requires : goal.answer_order-requires
answer_order-requires c =
    let L = left (goal.at.answer_order-requires c).Joined-sweeps (swept (goal.at.answer_order-requires c).After-sweeps) in
    let long : length c.if-sweeps.answer ≡ length c.args.answer.now = ap (λ (s : ℕ × List ℕ). length s.1) L.entries ∙ simp length-sets in
    (omega (arith, long, c.requires.2), omega (arith, ap (λ (s : ℕ × List ℕ). s.0) L.entries, at_lots_few (decode c.args.image.now) c.args.c))

pub returns : goal.returns
unfolding effect
returns c =
    let L = left (goal.at.returns c).Joined-sweeps (swept (goal.at.returns c).After-sweeps) in
    let z = decode c.args.image.now in
    let kind : c.args.c.kind ≡ kind_number c.in-Ok.kind = is_kind _ _ (sym c.try_from.ensures ∙ c.in-Ok.is) in
    let es = (at_lots z c.args.c).entries in
    let answer = c.args.answer.now in (
      c.end_call.ensures c.args.c kind ∙ ap (λ (z : Zone). encode (ending c.args.c z)) (bytes_of _ _ L.zone (good_lots _ c.args.c c.args.at c.requires.0 c.requires.1)).zone,
      same_listed (ap (λ (s : ℕ × List ℕ). s.0) L.entries ∙ sym (length_answer c.args.c.kind es))
          ((rw (← kind) at c.answer_order.ensures)
          ∙ ap (λ (s : ℕ × List ℕ). with_entries 0 (answer_order c.args.c.kind (entries_from 0 s.0 s.1)) s.1) L.entries
          ∙ ordered_entries c.args.c.kind es answer (numbered_lots z c.args.c (good _ c.args.c c.args.at c.requires.0 c.requires.1) (passed _ c.args.c c.args.at c.requires.0 c.requires.1)) (at_lots_few z c.args.c) c.requires.2),
    )
