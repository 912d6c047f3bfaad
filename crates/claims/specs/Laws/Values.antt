-- On values: over every accepted call zone and history table stay in step, and each strike is fair.
-- Assumes nothing.
use Rattle.std.specs.Prelude.{true, List, [], ◌∷◌, ◌≡◌, refl, ℕ, ◌≤◌, ◌<◌}
use Rattle.std.proofs.Common.{sym, ◌∙◌}
use Rattle.std.proofs.Math.Path.{subst}
use Rattle.units.specs.Ranges.{receipt_count}
use Rattle.zone.specs.declared.Receipt.{Receipt}
use Rattle.zone.specs.declared.Zone.{Zone}
use Rattle.zone.specs.Laws.Back.{own_fields}
use Rattle.zone.specs.Laws.Valid.{fresh_valid}
use Rattle.zone.specs.Valid.{Sized, valid_zone, fresh_zone}
use Rattle.rules.specs.declared.Call.{Call}
use Rattle.rules.specs.declared.Entry.{Entry}
use Rattle.rules.specs.Effects.{opening, ending, at_lots, effect}
use Rattle.rules.specs.Events.{posted}
use Rattle.rules.specs.Laws.Chain.{Taken, taken}
use Rattle.rules.specs.Laws.Fit.{funded, fit_lot}
use Rattle.rules.specs.Laws.Good.{Good, good_of, valid_at}
use Rattle.rules.specs.Laws.Keeps.{opening_good}
use Rattle.rules.specs.Laws.Links.{Linked, Walk, good_walk}
use Rattle.rules.specs.Steps.{number_on}
use Rattle.rules.specs.View.{receipt_of_number}
use Rattle.claims.specs.Demand.{Holds}
use Rattle.claims.specs.History.{Reply, refused_with, accepted_with, HistoryTable, enter, enter_all, paid_in_or_out, history, EachOwnAct, EachStrikeOwnAct}
use Rattle.claims.specs.Kept.{Kept}
use Rattle.claims.specs.Laws.InStep.{InStep, event_kept, opening_kept, ending_kept, fresh_in_step, sum_kept}
use Rattle.claims.specs.Laws.Kept.{lots_ordered, keeps_valid}
use Rattle.claims.specs.Laws.Knows.{exact}
use Rattle.claims.specs.Laws.Order.{ascending_apart, answer_permuted, permuted_enter, permuted_fair}
use Rattle.claims.specs.PriceOrder.{Permuted, Apart}
use Rattle.claims.specs.Laws.Told.{Told, link_told}

-- the entries es of call c bring the table h into step with the zone z, and each strike among them is fair
pub record Fed (c : Call) (es : List Entry) (z : Zone) (h : HistoryTable) : Type 0 where
  pub in_step : InStep z (enter_all c es h)
  pub fair : EachOwnAct c es h

-- ── One call ───────────────────────────────────────────────────────────────────────────────────

module _ (c : Call) where
  -- one event, then the others
  link_fed : {lo : ℕ} {z : Zone} {n : ℕ} {e : Entry} {r : Receipt} {es : List Entry} {last : Zone} → Linked c lo z n e r →
      ((h : HistoryTable) → InStep (posted z e r) h → Fed c es last h) → (h : HistoryTable) → InStep z h → Fed c (e ∷ es) last h
  unfolding enter_all EachOwnAct
  link_fed {z = z} {n = n} {e = e} {r = r} L others h I =
      let low : 0 < e.lot = rw L.fit.entry.lot L.low in
      let high : e.lot ≤ receipt_count = rw L.fit.entry.lot L.high in
      let T : Told c (h.lots e.lot) e r
      = subst (λ (m : ℕ). Told c (h.lots m) e r) (sym L.fit.entry.lot)
      (link_told c z (h.lots n) n (valid_at z L.good n) (I.linked n L.low L.high) L.visit L.rule) in
      let F = funded z e r low high L.good (fit_lot z n e r L.low L.high L.good L.fit) in
      let K = others (enter c e h) (event_kept c z h e r L.good.sized low high I F T) in
      record { in_step = K.in_step; fair = (T.fair, K.fair) }

  feeds : Walk c (λ lo z es last. (h : HistoryTable) → InStep z h → Fed c es last h)
  unfolding enter_all EachOwnAct
  feeds = record { end = λ G h I. record { in_step = I; fair = tt }; step = λ L others. link_fed L others }

-- opening, events, ending
call_fed : (z : Zone) (c : Call) (h : HistoryTable) → number_on z c ≡ 0 → Good z → InStep z h →
    Fed c (at_lots z c).entries (effect z c).zone (paid_in_or_out c h)
call_fed z c h q G I =
    let es : List Entry = (at_lots z c).entries in
    let T : Taken z c = taken z c q in
    let J : InStep (opening c z) (paid_in_or_out c h) = opening_kept c z h G.sized I T.passed in
    let K : Fed c es T.last (paid_in_or_out c h) = good_walk (feeds c) T.chain (opening_good z G c T.passed) (paid_in_or_out c h) J in
    let E : InStep (ending c T.last) (enter_all c es (paid_in_or_out c h)) = ending_kept c T.last _ K.in_step in
    record { in_step = subst (λ (y : Zone). InStep y (enter_all c es (paid_in_or_out c h))) (sym T.zone) E; fair = K.fair }

-- the history does not depend on the order of a quote's entries
ordered_fed : {c : Call} {es fs : List Entry} {z : Zone} {h : HistoryTable} → Permuted es fs → Apart es → Fed c es z h → Fed c fs z h
ordered_fed {c} {es} {fs} {z} {h} p A K =
    record { in_step = subst (InStep z) (permuted_enter c p A h) K.in_step; fair = permuted_fair c p A h K.fair }

-- ── Every list of calls ────────────────────────────────────────────────────────────────────────

-- what holds after the list
pub record After (list : List (Call × Reply)) (z : Zone) : Type 0 where
  pub sized : Sized z
  pub valid : valid_zone z ≡ true
  pub in_step : InStep z (history list)
  pub fair : EachStrikeOwnAct list

-- a refused call changes nothing
pub after_refused : {list : List (Call × Reply)} {z : Zone} (c : Call) (n : ℕ) → After list z → After ((c, refused_with n) ∷ list) z
unfolding history EachStrikeOwnAct
after_refused c n A = record { sized = A.sized; valid = A.valid; in_step = A.in_step; fair = (tt, A.fair) }

pub after_accepted : {list : List (Call × Reply)} {z : Zone} (c : Call) → After list z → number_on z c ≡ 0
    → After ((c, accepted_with (effect z c).entries) ∷ list) (effect z c).zone
unfolding history EachStrikeOwnAct effect
after_accepted {list} {z} c A q =
    let d = effect z c in
    let es : List Entry = (at_lots z c).entries in
    let W : Kept c.kind d = keeps_valid z c A.sized A.valid q in
    let G : Good z = good_of z A.sized A.valid in
    let F : Fed c es d.zone (paid_in_or_out c (history list)) = call_fed z c (history list) q G A.in_step in
    let apart : Apart es = ascending_apart 1 es (lots_ordered z c G (taken z c q)).ascending in
    let K : Fed c d.entries d.zone (paid_in_or_out c (history list)) = ordered_fed (answer_permuted c.kind es) apart F in
    record { sized = W.sized; valid = W.valid; in_step = K.in_step; fair = (K.fair, A.fair) }

pub after_fresh : After [] fresh_zone
unfolding history EachStrikeOwnAct fresh_zone
after_fresh =
    record { sized = record { accounts = refl; receipts = refl; asks = refl }; valid = fresh_valid; in_step = fresh_in_step; fair = tt }

-- what holds after the list is what the claim says
pub holds : (list : List (Call × Reply)) (z : Zone) → After list z → Holds list z
holds list z A =
    let G = good_of z A.sized A.valid in
    record {
      books = λ x a b. A.in_step.money x a;
      frozen = λ x a b. G.frozen x a b ∙ sym (sum_kept z (history list) A.sized A.in_step x);
      exact = λ k a b. exact (A.in_step.linked k a b);
      owners = λ k a b. sym (own_fields (receipt_of_number z.receipts k)).owner ∙ (A.in_step.linked k a b).rest.owner;
      strikes = A.fair;
    }
