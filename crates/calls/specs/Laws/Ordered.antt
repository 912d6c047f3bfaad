-- The entries of a call: at most one a lot, with numbers that fit, and still there when they are put in order.
-- Assumes nothing.
use Rattle.std.specs.Prelude.{Bool, true, false, cond, List, [], ◌∷◌, ◌≡◌, ℕ, ◌≤◌, length}
use Rattle.std.proofs.Common.{ap, ◌∙◌, arith}
use Rattle.units.specs.Ranges.{receipt_count}
use Rattle.zone.specs.declared.Zone.{Zone}
use Rattle.rules.specs.declared.Call.{Call}
use Rattle.rules.specs.declared.Entry.{Entry}
use Rattle.rules.specs.Effects.{rule_at, opening, first_lot, lot_count, at_lots, effect, sweep_kinds}
use Rattle.rules.specs.Laws.Chain.{taken_of}
use Rattle.rules.specs.Laws.Good.{Good}
use Rattle.rules.specs.Laws.Keeps.{opening_good}
use Rattle.rules.specs.Laws.Links.{good_walk}
use Rattle.rules.specs.Laws.Order.{length_answer}
use Rattle.rules.specs.Laws.Passed.{PassedAt}
use Rattle.rules.specs.Order.{answer_order}
use Rattle.rules.specs.Tables.{among}
use Rattle.answers.specs.Buffers.{answer_length, entries_from, with_entries}
use Rattle.answers.specs.Laws.Entries.{Numbered, entries_there, put_over}
use Rattle.calls.specs.Laws.Swept.{sweep_few}

-- ── At most one a lot ──────────────────────────────────────────────────────────────────────────

lots_few : (c : Call) → lot_count c ≤ receipt_count
unfolding lot_count
lots_few c = go (among c.kind (1 ∷ 2 ∷ [])) (among c.kind sweep_kinds)
  where
    go : (a b : Bool) → cond a 0 (cond b receipt_count 1) ≤ receipt_count
    go true b = omega arith
    go false true = omega arith
    go false false = omega arith

pub at_lots_few : (z : Zone) (c : Call) → length (at_lots z c).entries ≤ receipt_count
at_lots_few z c = omega (arith, lots_few c, sweep_few (rule_at c) (lot_count c) (first_lot c) (opening c z))

pub effect_few : (z : Zone) (c : Call) → length (effect z c).entries ≤ receipt_count
unfolding effect
effect_few z c = omega (arith, length_answer c.kind (at_lots z c).entries, at_lots_few z c)

-- ── In order ───────────────────────────────────────────────────────────────────────────────────

-- the numbers of the entries fit
pub numbered_lots : (z : Zone) (c : Call) → Good z → PassedAt c z c.receipt → Numbered (at_lots z c).entries
numbered_lots z c G P =
    good_walk {c = c} {P = λ lo z es last. Numbered es} (record { end = λ G. tt; step = λ L f. (L.fit.entry.number, f) })
    (taken_of z c P).chain (opening_good z G c P)

-- what is put in order where they were put
pub ordered_entries : (kind : ℕ) (es : List Entry) (answer : List ℕ) → Numbered es → length es ≤ receipt_count → answer_length ≤ length answer
    → with_entries 0 (answer_order kind (entries_from 0 (length es) (with_entries 0 es answer))) (with_entries 0 es answer) ≡ with_entries 0 (answer_order kind es) answer
ordered_entries kind es answer f few room =
    let long : length (answer_order kind es) ≡ length es = length_answer kind es in
    ap (λ (l : List Entry). with_entries 0 (answer_order kind l) (with_entries 0 es answer)) (entries_there es 0 answer (omega arith) f)
    ∙ put_over es (answer_order kind es) 0 0 answer (omega arith) (omega arith) (omega arith)
