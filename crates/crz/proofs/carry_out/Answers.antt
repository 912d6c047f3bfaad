-- The entries over zeros, and the header in front of them. The call leaves a good zone, so that its image gives back phase and total.
use mathlib.Core.List.{List}
use mathlib.Core.Path.{sym, ap, ◌∙◌}
use Prim.Native.Nat.{ℕ}
use native.Mathlib.Omega.{arith}
use lib.ListN.{length}
use lib.Seq.{sets}
use Rattle.zone.specs.declared.Zone.{Zone}
use Rattle.image.specs.Image.{decode}
use Rattle.image.specs.Laws.RoundTrip.{length_encode, valid_decode}
use Rattle.rules.specs.Effects.{effect}
use Rattle.rules.specs.Laws.Chain.{taken}
use Rattle.rules.specs.Laws.Good.{Good}
use Rattle.rules.specs.Laws.Keeps.{taken_good}
use Rattle.rules.specs.Laws.Steps.{accepted_as}
use Rattle.answers.specs.Buffers.{header_of, with_entries}
use Rattle.answers.specs.Laws.Answer.{answer_padded}
use Rattle.lots.specs.Laws.Visits.{good_decode}
use Rattle.calls.specs.Laws.Good.{bytes_of}
use Rattle.calls.specs.Laws.Ordered.{effect_few}
use borrow.Author.Rules.{rules}
use Rattle.crz.proofs.carry_out.Goals as goal
use Rattle.crz.proofs.carry_out.Goals.{Start}

-- the zone after the call
good : (c : Start) → Good (effect (decode c.args.image.now) c.args.c).zone
good c =
    let z = decode c.args.image.now in
    taken_good (taken z c.args.c (accepted_as z c.args.c c.args.at c.requires.3).number) (good_decode _ (valid_decode _ c.requires.2))

pub put_header-requires : goal.put_header-requires
put_header-requires c =
    let e = c.perform-count.ensures in
    let few = effect_few (decode c.args.image.now) c.args.c in
    (search rules, ap length e.0 ∙ length_encode _ (good (goal.at.put_header-requires c).Start).sized, omega (arith, ap (λ (s : ℕ × List ℕ). s.0) e.1, few))

pub returns : goal.returns
returns c =
    let e = c.perform-count.ensures in
    let d = effect (decode c.args.image.now) c.args.c in
    let answer = c.args.answer.now in (
      e.0,
      c.put_header.ensures
          ∙ ap (λ (z : Zone). sets c.perform-count.new.answer 0 (header_of z.afternoon c.perform-count.result z.total.0)) (bytes_of _ d.zone e.0 (good (goal.at.returns c).Start)).zone
          ∙ ap (λ (s : ℕ × List ℕ). sets s.1 0 (header_of d.zone.afternoon s.0 d.zone.total.0)) e.1
          ∙ ap (λ (s : List ℕ). sets (with_entries 0 d.entries s) 0 (header_of d.zone.afternoon (length d.entries) d.zone.total.0)) (sym c.requires.1)
          ∙ answer_padded answer d.zone d.entries c.requires.0 (effect_few (decode c.args.image.now) c.args.c),
    )
