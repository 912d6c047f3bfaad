-- The morning close and an account that has what is asked of it, or lacks it: on values, lot by lot.
-- Assumes nothing.
use Rattle.std.specs.Prelude.{Bool, true, false, cond, ◌&&◌, ◌||◌, List, [], ◌∷◌, ◌++◌, ◌≢◌, ◌≡◌, eqb, leb, length, get_or, Some, None}
use Rattle.std.proofs.Common.{true≢false, sym, ◌∙◌, subst, add-zero, ne_eqb, eqb-true, leb-false}
use Rattle.std.proofs.Math.Path.{refl, ap}
use Prim.Native.Nat.{ℕ, zero, suc, ◌+◌, ◌≤◌, ◌<◌}
use Rattle.std.proofs.Math.Decide.{ℕ_discrete}
use native.Mathlib.Omega.{arith}
use Rattle.std.proofs.lemmas.Bool.{eqb-false, lt-leb}
use Rattle.units.specs.Payments.{deposit, penalty, per_receipt, penalty_passed}
use Rattle.units.specs.Laws.Bounds.{penalty_at_most}
use Rattle.units.specs.Ranges.{within, receipt_count}
use Rattle.zone.specs.declared.Lot.TheVariants.{Idle, Settled, PenaltyDue}
use Rattle.zone.specs.declared.Receipt.{Receipt}
use Rattle.zone.specs.declared.Record.{Record}
use Rattle.zone.specs.declared.Zone.{Zone}
use Rattle.zone.specs.Held.{full, held, fen_from, held_from}
use Rattle.zone.specs.Laws.Held.{fen_from_same, fen_from_other, fen_from_le}
use Rattle.zone.specs.Laws.Tests.{both, InRange, range_in}
use Rattle.zone.specs.Record.{record_of, trade_of}
use Rattle.zone.specs.Valid.{no_receipt}
use Rattle.rules.specs.AtLot.{AtLot, one_event}
use Rattle.rules.specs.declared.Call.{Call}
use Rattle.rules.specs.declared.Entry.{Entry}
use Rattle.rules.specs.Effects.{entry_of, owned_by, event_of, has_money, close_lot, rule_of, rule_at}
use Rattle.rules.specs.Events.{money_of, posted, after_lot, sweep}
use Rattle.rules.specs.Laws.Chain.{On, event, chosen, only, on_event, Visit, swept}
use Rattle.rules.specs.Laws.Funded.{booked}
use Rattle.rules.specs.Laws.Good.{Good}
use Rattle.rules.specs.Laws.Links.{Linked, linked, link_funded, receipt_beside}
use Rattle.rules.specs.Laws.Moves.{fen_from_zero}
use Rattle.rules.specs.Laws.Tables.{among_one, nth_put_other}
use Rattle.rules.specs.Tables.{among, nth, put}
use Rattle.rules.specs.View.{free_of, receipt_of_number, record_of_receipt, view_of}
use Rattle.shortfalls.specs.Laws.Owed.{excess_covers, excess_exact}
use Rattle.shortfalls.specs.Shortfalls.{excess, is_due, owes_penalty, buys_due, penalties_due, payments_due}
use Rattle.claims.specs.Shortfalls.{is_default_of, NoDefaultOf, DefaultOf, here, later, has_part}

-- ── What a lot asks ────────────────────────────────────────────────────────────────────────────

-- what the lot of a record asks of account x
abbrev owed_for : ℕ → ℕ → Record → ℕ
owed_for day x r = cond (owes_penalty day x r) penalty.0 0 + cond (buys_due day x r) (excess (full r).0 deposit.0) 0

-- what full has above the deposit
abbrev above_deposit : Record → ℕ
above_deposit r = excess (full r).0 deposit.0

-- of a trade, in state 3 or 4
trade_owes : (day x : ℕ) (r : Record) (s : ℕ) → within 3 4 s ≡ true → eqb s 7 ≡ false → r.state ≡ s → is_due day r ≡ true
    → owed_for day x r ≡ fen_from x r.buyer (above_deposit r)
unfolding fen_from
trade_owes day x r s t p e d = rw (e, t, p, d) (omega arith)

penalty_owes : (day x : ℕ) (r : Record) → r.state ≡ 7 → is_due day r ≡ true → owed_for day x r ≡ fen_from x r.seller per_receipt
unfolding fen_from
penalty_owes day x r s d = rw (s, d) (omega arith)

-- ── Lots from n on ─────────────────────────────────────────────────────────────────────────────

-- what `more` lots from number n on ask of account x
unfoldable owed_from : ℕ → ℕ → ℕ → ℕ → List Receipt → ℕ
owed_from day x zero n l = 0
owed_from day x (suc more) n l = owed_for day x (record_of (receipt_of_number l n)) + owed_from day x more (suc n) l

owed_list : (day x : ℕ) (l : List Receipt) (n : ℕ) (m : List Receipt) → ((k : ℕ) → receipt_of_number l (n + k) ≡ get_or m k no_receipt) →
    owed_from day x (length m) n l ≡ penalties_due day x m + payments_due day x m
unfolding owed_from penalties_due payments_due
owed_list day x l n [] h = refl
owed_list day x l n (r ∷ m) h =
    let a : receipt_of_number l n ≡ r = rw add-zero at (h 0) in
    let others : owed_from day x (length m) (suc n) l ≡ penalties_due day x m + payments_due day x m =
    owed_list day x l (suc n) m (λ k. ap (receipt_of_number l) (omega arith) ∙ h (suc k)) in
    rw a (omega (arith, others))

-- all lots
owed_all : (day x : ℕ) (l : List Receipt) → length l ≡ receipt_count → owed_from day x receipt_count 1 l ≡ penalties_due day x l + payments_due day x l
unfolding receipt_of_number nth
owed_all day x l e = rw e at (owed_list day x l 1 l (λ k. let q : 1 + k ≡ suc k = omega arith in ap (nth no_receipt l) q))

-- a lot before n changes nothing
owed_put : (day x more n : ℕ) (l : List Receipt) (k : ℕ) (r : Receipt) → k < n → owed_from day x more n (put l k r) ≡ owed_from day x more n l
unfolding owed_from receipt_of_number
owed_put day x zero n l k r h = refl
owed_put day x (suc more) n l k r h =
    rw (nth_put_other no_receipt l n k r (omega arith), owed_put day x more (suc n) l k r (omega arith))

-- ── The close at one lot ───────────────────────────────────────────────────────────────────────

-- n fen are covered by m and what n passes m by
covered_by : (x a n m : ℕ) → fen_from x a n ≤ fen_from x a m + fen_from x a (excess n m)
unfolding fen_from
covered_by x a n m = go (eqb x a)
  where
    go : (b : Bool) → cond b n 0 ≤ cond b m 0 + cond b (excess n m) 0
    go true = excess_covers n m
    go false = omega arith

-- less of the same account is not more
fen_from_up : (x a n m : ℕ) → n ≤ m → fen_from x a n ≤ fen_from x a m
unfolding fen_from
fen_from_up x a n m h = go (eqb x a)
  where
    go : (b : Bool) → cond b n 0 ≤ cond b m 0
    go true = h
    go false = omega arith

-- An account that has what the lot asks is not named in a default, and what the lot takes from its free money is no more than asked.
record TakesAtMost (day x free : ℕ) (f : Record) (e : Entry) (r : Receipt) : Type 0 where
  takes : held_from x (record_of r) + fen_from x e.from (money_of e).0 ≤ held_from x f + fen_from x e.to (money_of e).0 + owed_for day x f
  no_default : owed_for day x f ≤ free → is_default_of x e ≡ false

module _ (z : Zone) (c : Call) (n x : ℕ) (f : Record) (due : is_due z.day f ≡ true) where
  abbrev Takes : Entry → Receipt → Type 0
  Takes e r = TakesAtMost z.day x (free_of z.accounts x).0 f e r

  -- a buyer that lacks the money is another account
  another : fen_from x f.buyer (above_deposit f) ≤ (free_of z.accounts x).0 → leb (full f).0 ((free_of z.accounts f.buyer).0 + per_receipt) ≡ false →
      eqb x f.buyer ≡ false
  another h m = go (ℕ_discrete x f.buyer)
    where
      go : Dec (x ≡ f.buyer) → eqb x f.buyer ≡ false
      go (yes e) =
          let own : fen_from x f.buyer (full f).0 ≡ (full f).0 = ap (λ (a : ℕ). fen_from x a (full f).0) (sym e) ∙ fen_from_same x (full f).0 in
          let lacks : (free_of z.accounts x).0 + per_receipt < (full f).0 = rw e (leb-false _ _ m) in
          absurd (omega (arith, own, lacks, h, covered_by x f.buyer (full f).0 per_receipt, fen_from_le x f.buyer per_receipt))
      go (no e) = ne_eqb x f.buyer e

  -- what the lot holds from x before the close
  lodged_held : f.state ≡ 4 → held_from x f ≡ fen_from x f.buyer per_receipt
  unfolding held_from held
  lodged_held s = rw s

  settles : f.state ≡ 4 → On Takes (one_event (entry_of n 8 f.seller f.buyer (full f).0) (owned_by f.buyer f (Settled (trade_of f))))
  unfolding money_of held_from held full record_of
  settles s =
      event (record {
        takes = omega (
          arith,
          fen_from_zero x f.buyer,
          fen_from_zero x f.seller,
          covered_by x f.buyer (full f).0 per_receipt,
          lodged_held s,
          trade_owes z.day x f 4 refl refl s due,
        );
        no_default = λ h. refl;
      })

  defaults : f.state ≡ 4 → leb (full f).0 ((free_of z.accounts f.buyer).0 + per_receipt) ≡ false → On Takes (event_of n f Idle 12 deposit.0)
  unfolding money_of held_from held record_of
  defaults s m =
      event (record {
        takes = omega (arith, fen_from_zero x 0, lodged_held s);
        no_default = λ h. another (omega (arith, trade_owes z.day x f 4 refl refl s due)) m;
      })

  penalises : f.state ≡ 3 → On Takes (event_of n f (PenaltyDue f.seller f.buyer (z.day + 1)) 13 0)
  unfolding money_of held_from held record_of
  penalises s =
      event (record {
        takes = omega (arith, fen_from_zero x f.buyer, fen_from_zero x f.seller);
        no_default = λ h. refl;
      })

  cancels : f.state ≡ 3 → leb (full f).0 ((free_of z.accounts f.buyer).0 + per_receipt) ≡ false → On Takes (event_of n f Idle 14 0)
  unfolding money_of held_from held record_of
  cancels s m =
      event (record {
        takes = omega (arith, fen_from_zero x 0, fen_from_zero x f.buyer, fen_from_zero x f.seller);
        no_default = λ h. another (omega (arith, trade_owes z.day x f 3 refl refl s due)) m;
      })

  fines : f.state ≡ 7 → On Takes (event_of n f Idle 15 (penalty_passed (free_of z.accounts f.seller)).0)
  unfolding money_of held_from held record_of
  fines s =
      let p : ℕ = (penalty_passed (free_of z.accounts f.seller)).0 in
      let q = penalty_at_most (free_of z.accounts f.seller) in
      event (record {
        takes = omega (arith, fen_from_zero x 0, fen_from_up x f.seller p per_receipt q.1, penalty_owes z.day x f s due);
        no_default = λ h. refl;
      })

close_takes : (z : Zone) (c : Call) (n x : ℕ) (f : Record) → On (TakesAtMost z.day x (free_of z.accounts x).0 f) (close_lot (view_of z c.account f) n f)
unfolding close_lot view_of
close_takes z c n x f =
    let money : Bool = has_money (view_of z c.account f) f in
    only (leb f.due z.day) _ λ due.
    chosen (among f.state (4 ∷ [])) _ _
    (λ h. chosen money _ _ (λ _. settles z c n x f due (among_one 4 h)) (λ m. defaults z c n x f due (among_one 4 h) m)) λ _.
    chosen (among f.state (3 ∷ [])) _ _
    (λ h. chosen money _ _ (λ _. penalises z c n x f due (among_one 3 h)) (λ m. cancels z c n x f due (among_one 3 h) m)) λ _.
    only (among f.state (7 ∷ [])) _ (λ h. fines z c n x f due (among_one 7 h))

-- ── Over an event ──────────────────────────────────────────────────────────────────────────────

-- the rule of a morning close
close_rule : (c : Call) → c.kind ≡ 11 → (z : Zone) (n : ℕ) → rule_at c z n ≡ close_lot (view_of z c.account (record_of_receipt z n)) n (record_of_receipt z n)
unfolding rule_of
close_rule c k z n = ap (λ (j : ℕ). rule_of j (view_of z c.account (record_of_receipt z n)) c n (record_of_receipt z n)) k

-- it goes through all lots
close_visits : (c : Call) → c.kind ≡ 11 → (z : Zone) (n : ℕ) → Visit c z n
close_visits c k z n = swept (rw k)

module _ (x : ℕ) (px : 0 < x) where
  -- the free money of x after the event of a link
  free_after_lem : {c : Call} {lo : ℕ} {z : Zone} {n : ℕ} {e : Entry} {r : Receipt} → Linked c lo z n e r →
      (free_of (posted z e r).accounts x).0 + held_from x (record_of r) + fen_from x e.from (money_of e).0
      ≡ (free_of z.accounts x).0 + held_from x (record_of_receipt z n) + fen_from x e.to (money_of e).0
  unfolding posted
  free_after_lem {z = z} {n = n} {e = e} {r = r} L =
      let B = booked z.accounts (record_of_receipt z e.lot) e (record_of r) (link_funded L) x px in
      let same : held_from x (record_of_receipt z e.lot) ≡ held_from x (record_of_receipt z n) = ap (λ (k : ℕ). held_from x (record_of_receipt z k)) L.fit.entry.lot in
      omega (arith, B.money, B.frozen, same)

  -- ── An account that has what is asked ──

  -- after the event of lot n it has what the lots behind it ask
  still_covered : {c : Call} {lo : ℕ} {z : Zone} {n : ℕ} {e : Entry} {r : Receipt} (more : ℕ) → Linked c lo z n e r
      → TakesAtMost z.day x (free_of z.accounts x).0 (record_of_receipt z n) e r
      → owed_for z.day x (record_of_receipt z n) + owed_from z.day x more (suc n) z.receipts ≤ (free_of z.accounts x).0
      → owed_from (posted z e r).day x more (suc n) (posted z e r).receipts ≤ (free_of (posted z e r).accounts x).0
  unfolding posted
  still_covered {z = z} {n = n} {e = e} {r = r} more L B h =
      let same : owed_from z.day x more (suc n) (put z.receipts e.lot r) ≡ owed_from z.day x more (suc n) z.receipts =
      owed_put z.day x more (suc n) z.receipts e.lot r (omega (arith, L.fit.entry.lot)) in
      omega (arith, same, free_after_lem L, B.takes)

  module _ (c : Call) (k : c.kind ≡ 11) where
    sweep_no_default : (more n : ℕ) (z : Zone) → 0 < n → n + more ≤ receipt_count + 1 → Good z → owed_from z.day x more n z.receipts ≤ (free_of z.accounts x).0
        → NoDefaultOf x (sweep (rule_at c) more n z).entries
    unfolding sweep owed_from
    sweep_no_default zero n z a b G h = tt
    sweep_no_default (suc more) n z a b G h =
        go (rule_at c z n) refl (λ y Y q. sweep_no_default more (suc n) y (omega arith) (omega arith) Y q)
      where
        go : (s : AtLot) → rule_at c z n ≡ s
            → ((y : Zone) → Good y → owed_from y.day x more (suc n) y.receipts ≤ (free_of y.accounts x).0 → NoDefaultOf x (sweep (rule_at c) more (suc n) y).entries)
            → NoDefaultOf x ((after_lot z s).entries ++ (sweep (rule_at c) more (suc n) (after_lot z s).zone).entries)
        go None q g = g z G (omega arith)
        go (Some event) q g =
            let e : Entry = event.entry in
            let r : Receipt = event.receipt in
            let L : Linked c n z n e r = linked n e r a (omega arith) (omega arith) (close_visits c k z n) q G in
            let B : TakesAtMost z.day x (free_of z.accounts x).0 (record_of_receipt z n) e r = on_event (close_takes z c n x (record_of_receipt z n)) (sym (close_rule c k z n) ∙ q) in
            (B.no_default (omega arith), g (posted z e r) L.next (still_covered more L B h))

    pub close_no_default : (z : Zone) → Good z → penalties_due z.day x z.receipts + payments_due z.day x z.receipts ≤ (free_of z.accounts x).0
        → NoDefaultOf x (sweep (rule_at c) receipt_count 1 z).entries
    close_no_default z G h = sweep_no_default receipt_count 1 z (omega arith) (omega arith) G (omega (arith, owed_all z.day x z.receipts G.sized.receipts))

-- ── An account without a part in a lot ─────────────────────────────────────────────────────────

-- neither seller nor buyer
record Apart (x : ℕ) (f : Record) : Type 0 where
  seller : x ≢ f.seller
  buyer : x ≢ f.buyer

apart : (day x : ℕ) (f : Record) → within 3 4 f.state || eqb f.state 7 ≡ true → is_due day f ≡ true → has_part day x f ≡ false → Apart x f
apart day x f s d h =
    let t : eqb x f.seller || eqb x f.buyer ≡ false = rw (s, d) at h in
    let e = neither (eqb x f.seller) (eqb x f.buyer) t in
    record { seller = eqb-false x f.seller e.0; buyer = eqb-false x f.buyer e.1 }
  where
    neither : (a b : Bool) → a || b ≡ false → (a ≡ false) × (b ≡ false)
    neither true b q = absurd (true≢false q)
    neither false b q = (refl, q)

-- a state that the close works
worked : (f : Record) (s : ℕ) → within 3 4 s || eqb s 7 ≡ true → f.state ≡ s → within 3 4 f.state || eqb f.state 7 ≡ true
worked f s h e = rw e h

-- the close leaves the free money of x as it was
record FreeKept (x : ℕ) (f : Record) (e : Entry) (r : Receipt) : Type 0 where
  kept : held_from x (record_of r) + fen_from x e.from (money_of e).0 ≡ held_from x f + fen_from x e.to (money_of e).0

module _ (x n : ℕ) (f : Record) (A : Apart x f) where
  none_bought : (m : ℕ) → fen_from x f.buyer m ≡ 0
  none_bought m = fen_from_other x f.buyer m A.buyer

  none_sold : (m : ℕ) → fen_from x f.seller m ≡ 0
  none_sold m = fen_from_other x f.seller m A.seller

  none_held : held_from x f ≡ 0
  unfolding held_from
  none_held = none_bought (held f).0

  -- whatever becomes of the lot, with the same parties or none
  settles_kept : On (FreeKept x f) (one_event (entry_of n 8 f.seller f.buyer (full f).0) (owned_by f.buyer f (Settled (trade_of f))))
  unfolding money_of held_from held full record_of
  settles_kept = event (record { kept = omega (arith, none_held, none_bought 0, none_sold 0, none_bought (full f).0) })

  defaults_kept : On (FreeKept x f) (event_of n f Idle 12 deposit.0)
  unfolding money_of held_from held record_of
  defaults_kept = event (record { kept = omega (arith, none_held, none_bought per_receipt, none_sold per_receipt, fen_from_zero x 0) })

  penalises_kept : (due : ℕ) → On (FreeKept x f) (event_of n f (PenaltyDue f.seller f.buyer due) 13 0)
  unfolding money_of held_from held record_of
  penalises_kept due = event (record { kept = omega (arith, none_held, none_bought 0, none_sold 0) })

  cancels_kept : On (FreeKept x f) (event_of n f Idle 14 0)
  unfolding money_of held_from held record_of
  cancels_kept = event (record { kept = omega (arith, none_held, none_bought 0, none_sold 0, fen_from_zero x 0) })

  fines_kept : (passed : ℕ) → On (FreeKept x f) (event_of n f Idle 15 passed)
  unfolding money_of held_from held record_of
  fines_kept passed = event (record { kept = omega (arith, none_held, none_bought passed, none_sold passed, fen_from_zero x 0) })

close_free_kept : (z : Zone) (c : Call) (n x : ℕ) (f : Record) → has_part z.day x f ≡ false → On (FreeKept x f) (close_lot (view_of z c.account f) n f)
unfolding close_lot view_of
close_free_kept z c n x f h =
    let money : Bool = has_money (view_of z c.account f) f in
    only (leb f.due z.day) _ λ due.
    chosen (among f.state (4 ∷ [])) _ _
    (λ s. let A = apart z.day x f (worked f 4 refl (among_one 4 s)) due h in chosen money _ _ (λ _. settles_kept x n f A) (λ _. defaults_kept x n f A)) λ _.
    chosen (among f.state (3 ∷ [])) _ _
    (λ s. let A = apart z.day x f (worked f 3 refl (among_one 3 s)) due h in chosen money _ _ (λ _. penalises_kept x n f A _) (λ _. cancels_kept x n f A)) λ _.
    only (among f.state (7 ∷ [])) _ (λ s. fines_kept x n f (apart z.day x f (worked f 7 refl (among_one 7 s)) due h) _)

-- who is asked for something has a part
owing_part : (day x : ℕ) (f : Record) → owes_penalty day x f ≡ true → has_part day x f ≡ true
owing_part day x f h =
    let t = both (eqb f.state 7 && is_due day f) (eqb x f.seller) h in
    let u = both (eqb f.state 7) (is_due day f) t.0 in
    let s : f.state ≡ 7 = eqb-true f.state 7 u.0 in
    rw (s, u.1, t.1)

buying_part : (day x : ℕ) (f : Record) → buys_due day x f ≡ true → has_part day x f ≡ true
buying_part day x f h =
    let t = both (within 3 4 f.state && is_due day f) (eqb x f.buyer) h in
    let u = both (within 3 4 f.state) (is_due day f) t.0 in
    rw (u.0, u.1, t.1) (either (eqb x f.seller))
  where
    either : (b : Bool) → b || true ≡ true
    either true = refl
    either false = refl

-- a lot in which x has no part asks it for nothing
none_owed : (day x : ℕ) (f : Record) → has_part day x f ≡ false → owed_for day x f ≡ 0
none_owed day x f h =
    omega (arith, no_more (owes_penalty day x f) per_receipt (λ e. sym (owing_part day x f e) ∙ h), no_more (buys_due day x f) (above_deposit f) (λ e. sym (buying_part day x f e) ∙ h))
  where
    no_more : (b : Bool) (n : ℕ) → (b ≡ true → true ≡ false) → cond b n 0 ≡ 0
    no_more true n q = absurd (true≢false (q refl))
    no_more false n q = refl

-- ── An account that lacks the money of its one trade ───────────────────────────────────────────

-- the close of a due trade whose buyer lacks the money has a default of it
close_default : (z : Zone) (c : Call) (n x : ℕ) (f : Record) (es : List Entry) → buys_due z.day x f ≡ true → (free_of z.accounts x).0 + per_receipt < (full f).0 →
    DefaultOf x n ((after_lot z (close_lot (view_of z c.account f) n f)).entries ++ es)
unfolding close_lot view_of
close_default z c n x f es h lacks =
    let t = both (within 3 4 f.state && is_due z.day f) (eqb x f.buyer) h in
    let u = both (within 3 4 f.state) (is_due z.day f) t.0 in
    let short : (free_of z.accounts f.buyer).0 + per_receipt < (full f).0 = subst (λ (a : ℕ). (free_of z.accounts a).0 + per_receipt < (full f).0) (eqb-true x f.buyer t.1) lacks in
    let m : leb (full f).0 ((free_of z.accounts f.buyer).0 + per_receipt) ≡ false = lt-leb _ _ short in
    go (ℕ_discrete f.state 3) (range_in u.0) u.1 m t.1
  where
    go : Dec (f.state ≡ 3) → InRange 3 4 f.state → is_due z.day f ≡ true → leb (full f).0 ((free_of z.accounts f.buyer).0 + per_receipt) ≡ false
        → eqb x f.buyer ≡ true → DefaultOf x n ((after_lot z (close_lot (view_of z c.account f) n f)).entries ++ es)
    go (yes e) R d m own = rw (m, d, e) (here refl own)
    go (no e) R d m own =
        let four : f.state ≡ 4 = omega arith in
        rw (m, d, four) (here refl own)

module _ (x k : ℕ) (px : 0 < x) where
  -- x is the buyer of lot k, lacks its money, and has no part in another due lot from n on
  record Short (n : ℕ) (z : Zone) : Type 0 where
    trade : buys_due z.day x (record_of_receipt z k) ≡ true
    lacks : (free_of z.accounts x).0 + per_receipt < (full (record_of_receipt z k)).0
    others : (j : ℕ) → n ≤ j → j ≤ receipt_count → j ≢ k → has_part z.day x (record_of_receipt z j) ≡ false

  -- so it is after a lot that has no event
  passed_over : {n : ℕ} {z : Zone} → Short n z → Short (suc n) z
  passed_over S = record { trade = S.trade; lacks = S.lacks; others = λ j a b q. S.others j (omega arith) b q }

  -- and after the event of another lot
  still_short : {c : Call} {lo : ℕ} {z : Zone} {n : ℕ} {e : Entry} {r : Receipt} → Linked c lo z n e r → n ≢ k → FreeKept x (record_of_receipt z n) e r
      → Short n z → Short (suc n) (posted z e r)
  unfolding posted
  still_short {z = z} {n = n} {e = e} {r = r} L o E S =
      let free : (free_of (posted z e r).accounts x).0 ≡ (free_of z.accounts x).0 = omega (arith, free_after_lem x px L, E.kept) in
      record {
        trade = rw (day, same k (λ q. o (sym q))) S.trade;
        lacks = rw (free, same k (λ q. o (sym q))) S.lacks;
        others = λ j a b q. rw (day, same j (λ q. omega arith)) (S.others j (omega arith) b q);
      }
    where
      day : (posted z e r).day ≡ z.day
      day = refl

      same : (j : ℕ) → j ≢ n → record_of_receipt (posted z e r) j ≡ record_of_receipt z j
      same j q = ap record_of (receipt_beside z e r j (rw L.fit.entry.lot q))

  -- where no lot from n on asks anything but lot k, they ask no more than it does
  none_more : (day more n : ℕ) (l : List Receipt) → ((j : ℕ) → n ≤ j → j < n + more → owed_for day x (record_of (receipt_of_number l j)) ≡ 0) → owed_from day x more n l ≡ 0
  unfolding owed_from
  none_more day zero n l h = refl
  none_more day (suc more) n l h = omega (arith, h n (omega arith) (omega arith), none_more day more (suc n) l (λ j a b. h j (omega arith) (omega arith)))

  one_owed : (day more n : ℕ) (l : List Receipt) → ((j : ℕ) → n ≤ j → j < n + more → j ≢ k → owed_for day x (record_of (receipt_of_number l j)) ≡ 0)
      → owed_from day x more n l ≤ owed_for day x (record_of (receipt_of_number l k))
  unfolding owed_from
  one_owed day zero n l h = omega arith
  one_owed day (suc more) n l h = go (ℕ_discrete n k) (one_owed day more (suc n) l (λ j a b. h j (omega arith) (omega arith)))
    where
      go : Dec (n ≡ k) → owed_from day x more (suc n) l ≤ owed_for day x (record_of (receipt_of_number l k))
          → owed_for day x (record_of (receipt_of_number l n)) + owed_from day x more (suc n) l ≤ owed_for day x (record_of (receipt_of_number l k))
      go (yes e) i =
          let none : owed_from day x more (suc n) l ≡ 0 = none_more day more (suc n) l (λ j a b. h j (omega arith) (omega arith) (omega arith)) in
          let same : owed_for day x (record_of (receipt_of_number l n)) ≡ owed_for day x (record_of (receipt_of_number l k)) = ap (λ (j : ℕ). owed_for day x (record_of (receipt_of_number l j))) e in
          omega (arith, none, same)
      go (no e) i = omega (arith, h n (omega arith) (omega arith) e)

  -- a buyer with less free money than its trade asks lacks the trade's money
  lacking : (day : ℕ) (f : Record) (free : ℕ) → buys_due day x f ≡ true → free < owed_for day x f → free + per_receipt < (full f).0
  lacking day f free h l =
      let t = both (within 3 4 f.state && is_due day f) (eqb x f.buyer) h in
      let u = both (within 3 4 f.state) (is_due day f) t.0 in
      let R : InRange 3 4 f.state = range_in u.0 in
      let other : eqb f.state 7 ≡ false = ne_eqb f.state 7 (λ e. omega (arith, R.high, e)) in
      let l' : free < 0 + above_deposit f = rw (other, h) at l in
      omega (arith, excess_exact (full f).0 per_receipt (omega arith))

  module _ (c : Call) (kind : c.kind ≡ 11) where
    sweep_default : (more n : ℕ) (z : Zone) → 0 < n → n + more ≤ receipt_count + 1 → n ≤ k → k < n + more → Good z → Short n z
        → DefaultOf x k (sweep (rule_at c) more n z).entries
    unfolding sweep
    sweep_default zero n z a b l h G S = absurd (omega arith)
    sweep_default (suc more) n z a b l h G S =
        by_lot (ℕ_discrete n k) (λ y o Y T. sweep_default more (suc n) y (omega arith) (omega arith) (omega arith) (omega arith) Y T)
      where
        -- the lots behind, after what another lot has left
        go : n ≢ k → (s : AtLot) → rule_at c z n ≡ s → ((y : Zone) → Good y → Short (suc n) y → DefaultOf x k (sweep (rule_at c) more (suc n) y).entries)
            → DefaultOf x k ((after_lot z s).entries ++ (sweep (rule_at c) more (suc n) (after_lot z s).zone).entries)
        go o None q g = g z G (passed_over S)
        go o (Some event) q g =
            let e : Entry = event.entry in
            let r : Receipt = event.receipt in
            let L : Linked c n z n e r = linked n e r a (omega arith) (omega arith) (close_visits c kind z n) q G in
            let E : FreeKept x (record_of_receipt z n) e r = on_event (close_free_kept z c n x (record_of_receipt z n) (S.others n (omega arith) (omega arith) o)) (sym (close_rule c kind z n) ∙ q) in
            later (g (posted z e r) L.next (still_short L o E S))

        -- its own lot, or another
        by_lot : Dec (n ≡ k) → ((y : Zone) → n ≢ k → Good y → Short (suc n) y → DefaultOf x k (sweep (rule_at c) more (suc n) y).entries)
            → DefaultOf x k ((after_lot z (rule_at c z n)).entries ++ (sweep (rule_at c) more (suc n) (after_lot z (rule_at c z n)).zone).entries)
        by_lot (yes e) g =
            let rest : List Entry = (sweep (rule_at c) more (suc n) (after_lot z (rule_at c z n)).zone).entries in
            let D : DefaultOf x k ((after_lot z (close_lot (view_of z c.account (record_of_receipt z k)) k (record_of_receipt z k))).entries ++ rest) =
            close_default z c k x (record_of_receipt z k) rest S.trade S.lacks in
            subst (λ (s : AtLot). DefaultOf x k ((after_lot z s).entries ++ rest)) (sym (close_rule c kind z k) ∙ ap (rule_at c z) (sym e)) D
        by_lot (no o) g = go o (rule_at c z n) refl (λ y Y T. g y o Y T)

    -- of all lots
    pub close_short : (z : Zone) → Good z → 1 ≤ k → k ≤ receipt_count → buys_due z.day x (record_of_receipt z k) ≡ true
        → ((j : ℕ) → 1 ≤ j → j ≤ receipt_count → j ≢ k → has_part z.day x (record_of_receipt z j) ≡ false)
        → (free_of z.accounts x).0 < penalties_due z.day x z.receipts + payments_due z.day x z.receipts
        → DefaultOf x k (sweep (rule_at c) receipt_count 1 z).entries
    close_short z G low high trade others h =
        let f : Record = record_of_receipt z k in
        let all = owed_all z.day x z.receipts G.sized.receipts in
        let one = one_owed z.day receipt_count 1 z.receipts (λ j a b q. none_owed z.day x (record_of_receipt z j) (others j a (omega arith) q)) in
        sweep_default receipt_count 1 z (omega arith) (omega arith) low (omega arith) G
        (record {
          trade = trade;
          lacks = lacking z.day f (free_of z.accounts x).0 trade (omega (arith, all, one));
          others = λ j a b q. others j a b q;
        })
