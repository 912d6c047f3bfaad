-- Every accepted call keeps what Kept.antt says: the zone stays valid, the entries fit, no lot is listed twice.
-- Assumes nothing.
use Rattle.std.specs.Prelude.{List, [], ◌∷◌, ℕ, suc, ◌+◌, ◌≤◌, length}
use Rattle.std.proofs.Common.{sym, subst, arith}
use Rattle.units.specs.Ranges.{receipt_count}
use Rattle.zone.specs.declared.Receipt.{Receipt}
use Rattle.zone.specs.declared.Zone.{Zone}
use Rattle.rules.specs.declared.Call.{Call}
use Rattle.rules.specs.declared.Entry.{Entry}
use Rattle.rules.specs.Effects.{at_lots, effect}
use Rattle.rules.specs.Laws.Chain.{Taken, taken}
use Rattle.rules.specs.Laws.Fit.{EntryOk}
use Rattle.rules.specs.Laws.Good.{Good, good_of, valid_of_lem}
use Rattle.rules.specs.Laws.Keeps.{opening_good, taken_good}
use Rattle.rules.specs.Laws.Links.{Linked, Walk, good_walk}
use Rattle.rules.specs.Laws.Order.{length_answer}
use Rattle.rules.specs.Order.{answer_order}
use Rattle.claims.specs.Kept.{EntryFits, Ascending, KeepsValid}
use Rattle.claims.specs.PriceOrder.{EachEntry, Permuted}
use Rattle.claims.specs.Laws.Order.{ascending_apart, permuted_each, permuted_apart, answer_permuted, other_kind}

entry_fits : {n : ℕ} {e : Entry} → 1 ≤ n → n ≤ receipt_count → EntryOk n e → EntryFits e
entry_fits a b E =
    record {
      lot = omega (arith, E.lot);
      outcome = omega (arith, E.outcome);
      from = omega (arith, E.from);
      to = E.to;
      number = E.number;
    }

-- the lots of a chain ascend from lo, and each is in range
pub record Ordered (lo : ℕ) (es : List Entry) : Type 0 where
  pub ascending : Ascending lo es
  pub count : lo ≤ receipt_count + 1 → length es + lo ≤ receipt_count + 1

ordered : (c : Call) → Walk c (λ lo z es last. Ordered lo es)
ordered c =
    record {
      end = λ G. record { ascending = tt; count = λ h. omega arith };
      step = λ L K. one L K;
    }
  where
    one : {lo : ℕ} {z : Zone} {es : List Entry} {n : ℕ} {e : Entry} {r : Receipt} → Linked c lo z n e r → Ordered (suc n) es → Ordered lo (e ∷ es)
    one {lo} {z} {es} {n} {e} L K =
        let E : EntryOk n e = L.fit.entry in
        record {
          ascending = (omega (arith, E.lot, L.above), entry_fits L.low L.high E, rw E.lot K.ascending);
          count = λ h. omega (arith, K.count (omega (arith, L.high)), L.above);
        }

-- what a call does at its lots
pub lots_ordered : (z : Zone) (c : Call) → Good z → Taken z c → Ordered 1 (at_lots z c).entries
lots_ordered z c G T = good_walk (ordered c) T.chain (opening_good z G c T.passed)

each_fits : (n : ℕ) (es : List Entry) → Ascending n es → EachEntry EntryFits es
each_fits n [] a = tt
each_fits n (e ∷ es) a = (a.1, each_fits (suc e.lot) es a.2)

-- a valid zone stays valid over every accepted call
pub keeps_valid : KeepsValid
unfolding effect
keeps_valid z c s e h =
    let es : List Entry = (at_lots z c).entries in
    let T : Taken z c = taken z c h in
    let G : Good z = good_of z s e in
    let N : Good (effect z c).zone = taken_good T G in
    let K : Ordered 1 es = lots_ordered z c G T in
    let p : Permuted es (answer_order c.kind es) = answer_permuted c.kind es in
    record {
      sized = N.sized;
      valid = valid_of_lem (effect z c).zone N;
      ascending = λ n. subst (Ascending 1) (sym (other_kind c.kind es n)) K.ascending;
      once = permuted_apart p (ascending_apart 1 es K.ascending);
      fit = permuted_each EntryFits p (each_fits 1 es K.ascending);
      count = omega (arith, K.count (omega arith), length_answer c.kind es);
    }
