-- Every accepted call leaves a good zone good.
-- Assumes nothing.
use Rattle.std.specs.Prelude.{Bool, not, ◌||◌, List, [], ◌∷◌, ◌≢◌, ◌≡◌, ℕ, ◌≤◌, eqb}
use Rattle.std.proofs.Math.Bool.{true, false}
use Rattle.std.proofs.Common.{true≢false, sym, ap, ◌∙◌, subst, arith}
use Rattle.std.proofs.Math.Path.{refl}
use borrow.Author.Tests.{ltb-false, eqb-false}
use Rattle.std.proofs.Math.ListN.{length}
use Rattle.units.specs.Payments.{fen}
use Rattle.units.specs.Ranges.{account_count, last_day}
use Rattle.zone.specs.declared.Receipt.{Receipt}
use Rattle.zone.specs.declared.Zone.{Zone}
use Rattle.zone.specs.Laws.Tests.{InRange, range_in}
use Rattle.zone.specs.Valid.{all, ask_ok}
use Rattle.rules.specs.declared.Call.{Call}
use Rattle.rules.specs.declared.Entry.{Entry}
use Rattle.rules.specs.Effects.{opening, ending, at_lots, effect}
use Rattle.rules.specs.Events.{posted}
use Rattle.rules.specs.Laws.Chain.{Chain, Taken, taken, walk}
use Rattle.rules.specs.Laws.Good.{Good}
use Rattle.rules.specs.Laws.Kinds.{with_kind}
use Rattle.rules.specs.Laws.Links.{Walk, good_walk, last_good}
use Rattle.rules.specs.Laws.Moves.{frozen_credit, frozen_debit, length_credit, length_debit, all_credit, all_debit}
use Rattle.rules.specs.Laws.Passed.{PassedAt, ranges}
use Rattle.rules.specs.Laws.Tables.{length_put, all_put, special, among_none}
use Rattle.rules.specs.Numbers.{wrong_phase, lacks_money, above_limit}
use Rattle.rules.specs.Steps.{number_on}
use Rattle.rules.specs.Tables.{among}
use Rattle.rules.specs.View.{free_of, view_of}

-- ── What an opening and an ending leave ────────────────────────────────────────────────────────

-- only kinds 1, 2 and 9 have an opening, only kinds 11 and 15 an ending
pub no_opening : (c : Call) (z : Zone) → among c.kind (1 ∷ 2 ∷ 9 ∷ []) ≡ false → opening c z ≡ z
unfolding opening
no_opening c z h =
    let t = among_none c.kind (1 ∷ 2 ∷ 9 ∷ []) h in
    rw (t.0, t.1.0, t.1.1.0)

pub no_ending : (c : Call) (z : Zone) → among c.kind (11 ∷ 15 ∷ []) ≡ false → ending c z ≡ z
unfolding ending
no_ending c z h =
    let t = among_none c.kind (11 ∷ 15 ∷ []) h in
    rw (t.0, t.1.0)

-- an opening moves neither the clock nor a receipt
pub record Opened (c : Call) (z : Zone) : Type 0 where
  pub day : (opening c z).day ≡ z.day
  pub afternoon : (opening c z).afternoon ≡ z.afternoon
  pub receipts : (opening c z).receipts ≡ z.receipts

pub opened : (c : Call) (z : Zone) → Opened c z
unfolding opening
opened c z =
    special (λ k. Opened (with_kind c k) z) (1 ∷ 2 ∷ 9 ∷ []) c.kind
    (as_was refl refl refl, (as_was refl refl refl, (as_was refl refl refl, tt)))
    λ h.
    let e : opening c z ≡ z = no_opening c z h in
    as_was (ap (λ (y : Zone). y.day) e) (ap (λ (y : Zone). y.afternoon) e) (ap (λ (y : Zone). y.receipts) e)
  where
    as_was : {b : Call} → (opening b z).day ≡ z.day → (opening b z).afternoon ≡ z.afternoon → (opening b z).receipts ≡ z.receipts → Opened b z
    as_was d a r = record { day = d; afternoon = a; receipts = r }

-- an ending moves neither money nor receipts
pub record Ended (c : Call) (z : Zone) : Type 0 where
  pub accounts : (ending c z).accounts ≡ z.accounts
  pub receipts : (ending c z).receipts ≡ z.receipts
  pub total : (ending c z).total ≡ z.total

pub ended : (c : Call) (z : Zone) → Ended c z
unfolding ending
ended c z =
    special (λ k. Ended (with_kind c k) z) (11 ∷ 15 ∷ []) c.kind
    (as_was refl refl refl, (as_was refl refl refl, tt))
    λ h.
    let e : ending c z ≡ z = no_ending c z h in
    as_was (ap (λ (y : Zone). y.accounts) e) (ap (λ (y : Zone). y.receipts) e) (ap (λ (y : Zone). y.total) e)
  where
    as_was : {b : Call} → (ending b z).accounts ≡ z.accounts → (ending b z).receipts ≡ z.receipts → (ending b z).total ≡ z.total → Ended b z
    as_was a r t = record { accounts = a; receipts = r; total = t }

-- an event does not move the clock
pub chain_day : {c : Call} {lo : ℕ} {z : Zone} {es : List Entry} {last : Zone} → Chain c lo z es last → last.day ≡ z.day
unfolding posted
chain_day {z = z} t = walk (λ y. y.day ≡ z.day) (λ y n e r a h v q i. i) t refl

-- ── The opening of a good zone ─────────────────────────────────────────────────────────────────

module _ (z : Zone) (G : Good z) (c : Call) where
  abbrev Opens : ℕ → Type 0
  Opens k = PassedAt (with_kind c k) z c.receipt → Good (opening (with_kind c k) z)

  paid_in : Opens 1
  unfolding opening view_of above_limit
  paid_in P =
      let a : InRange 1 account_count c.account = range_in (ranges P).0 in
      let i : c.account ≤ length z.accounts = rw G.sized.accounts a.high in
      record {
        sized = record {
          accounts = length_credit z.accounts c.account (fen c.amount) ∙ G.sized.accounts;
          receipts = G.sized.receipts;
          asks = G.sized.asks;
        };
        day = G.day;
        asks = G.asks;
        records = G.records;
        frozen = λ x p q. frozen_credit z.accounts x c.account p i (fen c.amount) ∙ G.frozen x p q;
        total = omega (arith, G.total, all_credit z.accounts c.account (fen c.amount) a.low i);
        limit = ltb-false _ _ P.limit;
      }

  taken_out : Opens 2
  unfolding opening view_of lacks_money
  taken_out P =
      let a : InRange 1 account_count c.account = range_in (ranges P).0 in
      let i : c.account ≤ length z.accounts = rw G.sized.accounts a.high in
      let m : c.amount ≤ (free_of z.accounts c.account).0 = ltb-false _ _ P.money in
      record {
        sized = record {
          accounts = length_debit z.accounts c.account (fen c.amount) ∙ G.sized.accounts;
          receipts = G.sized.receipts;
          asks = G.sized.asks;
        };
        day = G.day;
        asks = G.asks;
        records = G.records;
        frozen = λ x p q. frozen_debit z.accounts x c.account p i (fen c.amount) ∙ G.frozen x p q;
        total = omega (arith, G.total, all_debit z.accounts c.account (fen c.amount) a.low i m);
        limit = omega (arith, G.limit);
      }

  ask_set : Opens 9
  unfolding opening ask_ok
  ask_set P =
      record {
        sized = record {
          accounts = G.sized.accounts;
          receipts = G.sized.receipts;
          asks = length_put z.asks c.contract _ ∙ G.sized.asks;
        };
        day = G.day;
        asks = all_put ask_ok z.asks c.contract (record { 0 = c.amount }) (ranges P).1.0 G.asks;
        records = G.records;
        frozen = G.frozen;
        total = G.total;
        limit = G.limit;
      }

  pub opening_good : PassedAt c z c.receipt → Good (opening c z)
  opening_good =
      special Opens (1 ∷ 2 ∷ 9 ∷ []) c.kind (paid_in, (taken_out, (ask_set, tt))) λ h P. subst Good (sym (no_opening c z h)) G

-- ── The ending ─────────────────────────────────────────────────────────────────────────────────

-- the last zone has the day of the zone that was tested
module _ (z last : Zone) (same : last.day ≡ z.day) (G : Good last) (c : Call) where
  abbrev Ends : ℕ → Type 0
  Ends k = PassedAt (with_kind c k) z c.receipt → Good (ending (with_kind c k) last)

  noon : Ends 11
  unfolding ending
  noon P =
      record {
        sized = record { accounts = G.sized.accounts; receipts = G.sized.receipts; asks = G.sized.asks };
        day = G.day;
        asks = G.asks;
        records = G.records;
        frozen = G.frozen;
        total = G.total;
        limit = G.limit;
      }

  night : Ends 15
  unfolding ending all ask_ok wrong_phase view_of
  night P =
      let n : z.day ≢ last_day = eqb-false _ _ (neither (not z.afternoon) (eqb z.day last_day) P.phase) in
      record {
        sized = record { accounts = G.sized.accounts; receipts = G.sized.receipts; asks = refl };
        day = omega (arith, G.day);
        asks = refl;
        records = G.records;
        frozen = G.frozen;
        total = G.total;
        limit = G.limit;
      }
    where
      neither : (a b : Bool) → a || b ≡ false → b ≡ false
      neither true b e = absurd (true≢false e)
      neither false b e = e

  pub ending_good : PassedAt c z c.receipt → Good (ending c last)
  ending_good = special Ends (11 ∷ 15 ∷ []) c.kind (noon, (night, tt)) λ h P. subst Good (sym (no_ending c last h)) G

-- ── A whole call ───────────────────────────────────────────────────────────────────────────────

pub taken_good : {z : Zone} {c : Call} → Taken z c → Good z → Good (effect z c).zone
taken_good {z} {c} T G =
    let P : PassedAt c z c.receipt = T.passed in
    let O : Good (opening c z) = opening_good z G c P in
    subst Good (sym T.zone)
    (ending_good z T.last (chain_day T.chain ∙ (opened c z).day) (last_good T.chain O) c P)

-- What a walk tells of receipts and entries holds over a whole accepted call: its opening and its ending leave every receipt.
pub call_walk : (P : ℕ → List Receipt → List Entry → List Receipt → Type 0) (z : Zone) (c : Call) → Good z → number_on z c ≡ 0
    → Walk c (λ lo y es last. P lo y.receipts es last.receipts) → P 1 z.receipts (at_lots z c).entries (effect z c).zone.receipts
call_walk P z c G q W =
    let T : Taken z c = taken z c q in
    let es : List Entry = (at_lots z c).entries in
    let K : P 1 (opening c z).receipts es T.last.receipts = good_walk W T.chain (opening_good z G c T.passed) in
    let left : (effect z c).zone.receipts ≡ T.last.receipts = ap (λ (y : Zone). y.receipts) T.zone ∙ (ended c T.last).receipts in
    subst (λ (rs : List Receipt). P 1 z.receipts es rs) (sym left)
    (subst (λ (rs : List Receipt). P 1 rs es T.last.receipts) (opened c z).receipts K)
