-- Entries put in order by price: the same ones, and each below the one in front of it. They go into the history table in any order: the table
-- keeps each lot apart.
-- Assumes nothing.
use Rattle.std.specs.Prelude.{Bool, cond, ◌&&◌, ◌||◌, List, [], ◌∷◌, ◌≢◌, ◌≡◌, ℕ, suc, ◌<◌}
use Rattle.std.proofs.Math.Bool.{true, false}
use Rattle.std.proofs.Common.{true≢false, sym, ap, ◌∙◌, subst}
use Rattle.std.proofs.lemmas.Bool.{false≢true}
use Rattle.std.proofs.Math.Path.{refl}
use Rattle.std.proofs.Math.Decide.{ℕ_discrete}
use native.Mathlib.Omega.{arith}
use borrow.Author.Tests.{eqb-true, eqb-false, eq-eqb, ne_eqb, ltb-true, ltb-false}
use Rattle.std.proofs.Math.Dec.{eqb, ltb}
use Rattle.rules.specs.declared.Call.{Call}
use Rattle.rules.specs.declared.Entry.{Entry}
use Rattle.rules.specs.Order.{stands_before, put_in, by_price, answer_order}
use Rattle.claims.specs.History.{HistoryTable, with_entry, enter, enter_all, OwnAct, EachOwnAct}
use Rattle.claims.specs.Kept.{Ascending}
use Rattle.claims.specs.PriceOrder.{Permuted, none, keep, swap, via, EachEntry, Without, Apart, Above, higher, lower_lot, Descending}

-- ── Different lots ─────────────────────────────────────────────────────────────────────────────

ascending_without : (k n : ℕ) (es : List Entry) → k < n → Ascending n es → Without k es
ascending_without k n [] h a = tt
ascending_without k n (e ∷ es) h a = (omega (arith, a.0), ascending_without k (suc e.lot) es (omega (arith, a.0)) a.2)

-- lots that ascend are different
pub ascending_apart : (n : ℕ) (es : List Entry) → Ascending n es → Apart es
ascending_apart n [] a = tt
ascending_apart n (e ∷ es) a = (ascending_without e.lot (suc e.lot) es (omega arith) a.2, ascending_apart (suc e.lot) es a.2)

-- what follows of each entry
pub each_map : (P Q : Entry → Type 0) → ((e : Entry) → P e → Q e) → (es : List Entry) → EachEntry P es → EachEntry Q es
each_map P Q f [] s = tt
each_map P Q f (e ∷ es) s = (f e s.0, each_map P Q f es s.1)

-- what is said of each entry, in any order
pub permuted_each : (P : Entry → Type 0) {es fs : List Entry} → Permuted es fs → EachEntry P es → EachEntry P fs
permuted_each P none s = tt
permuted_each P (keep p) s = (s.0, permuted_each P p s.1)
permuted_each P swap s = (s.1.0, (s.0, s.1.1))
permuted_each P (via p q) s = permuted_each P q (permuted_each P p s)

pub permuted_apart : {es fs : List Entry} → Permuted es fs → Apart es → Apart fs
permuted_apart none a = tt
permuted_apart (keep {e = e} p) a = (permuted_each (λ f. f.lot ≢ e.lot) p a.0, permuted_apart p a.1)
permuted_apart swap a = (((λ q. a.0.0 (sym q)), a.1.0), (a.0.1, a.1.1))
permuted_apart (via p q) a = permuted_apart q (permuted_apart p a)

-- ── By price ───────────────────────────────────────────────────────────────────────────────────

permuted_refl : (es : List Entry) → Permuted es es
permuted_refl [] = none
permuted_refl (e ∷ es) = keep (permuted_refl es)

put_permuted : (e : Entry) (es : List Entry) → Permuted (e ∷ es) (put_in e es)
unfolding put_in
put_permuted e [] = keep none
put_permuted e (f ∷ fs) = go (stands_before e f) (put_permuted e fs)
  where
    go : (b : Bool) → Permuted (e ∷ fs) (put_in e fs) → Permuted (e ∷ f ∷ fs) (cond b (e ∷ f ∷ fs) (f ∷ put_in e fs))
    go true p = permuted_refl (e ∷ f ∷ fs)
    go false p = via swap (keep p)

pub price_permuted : (es : List Entry) → Permuted es (by_price es)
unfolding by_price
price_permuted [] = none
price_permuted (e ∷ es) = via (keep (price_permuted es)) (put_permuted e (by_price es))

pub answer_permuted : (kind : ℕ) (es : List Entry) → Permuted es (answer_order kind es)
unfolding answer_order
answer_permuted kind es = go (eqb kind 9)
  where
    go : (b : Bool) → Permuted es (cond b (by_price es) es)
    go true = price_permuted es
    go false = permuted_refl es

-- as they are, but for a quote
pub other_kind : (kind : ℕ) (es : List Entry) → kind ≢ 9 → answer_order kind es ≡ es
unfolding answer_order
other_kind kind es n = rw (ne_eqb kind 9 n)

-- the test and its two ways
module _ (a b : Entry) where
  stands_above : stands_before a b ≡ true → Above a b
  unfolding stands_before
  stands_above h = go (ltb b.number a.number) (eqb a.number b.number) (ltb a.lot b.lot) refl refl refl h
    where
      go : (x y z : Bool) → ltb b.number a.number ≡ x → eqb a.number b.number ≡ y → ltb a.lot b.lot ≡ z
          → x || (y && z) ≡ true → Above a b
      go true y z p q r h = higher (ltb-true _ _ p)
      go false true true p q r h = lower_lot (eqb-true _ _ q) (ltb-true _ _ r)
      go false true false p q r h = absurd (false≢true h)
      go false false z p q r h = absurd (false≢true h)

  stands_below : stands_before a b ≡ false → b.lot ≢ a.lot → Above b a
  unfolding stands_before
  stands_below h n = go (ltb b.number a.number) (eqb a.number b.number) (ltb a.lot b.lot) refl refl refl h
    where
      go : (x y z : Bool) → ltb b.number a.number ≡ x → eqb a.number b.number ≡ y → ltb a.lot b.lot ≡ z
          → x || (y && z) ≡ false → Above b a
      go true y z p q r h = absurd (true≢false h)
      go false true true p q r h = absurd (true≢false h)
      go false true false p q r h = lower_lot (sym (eqb-true _ _ q)) (omega (arith, ltb-false a.lot b.lot r, n))
      go false false z p q r h = higher (omega (arith, ltb-false b.number a.number p, eqb-false a.number b.number q))

-- put in behind g, which stays in front
put_behind : (e g : Entry) (es : List Entry) → Above g e → Descending (g ∷ es) → Without e.lot es → Descending (g ∷ put_in e es)
unfolding put_in
put_behind e g [] h d w = (h, tt)
put_behind e g (f ∷ fs) h d w = go (stands_before e f) refl (λ u. put_behind e f fs u d.1 w.1)
  where
    go : (b : Bool) → stands_before e f ≡ b → (Above f e → Descending (f ∷ put_in e fs)) → Descending (g ∷ cond b (e ∷ f ∷ fs) (f ∷ put_in e fs))
    go true q rest = (h, (stands_above e f q, d.1))
    go false q rest = (d.0, rest (stands_below e f q w.0))

put_descending : (e : Entry) (es : List Entry) → Descending es → Without e.lot es → Descending (put_in e es)
unfolding put_in
put_descending e [] d w = tt
put_descending e (f ∷ fs) d w = go (stands_before e f) refl
  where
    go : (b : Bool) → stands_before e f ≡ b → Descending (cond b (e ∷ f ∷ fs) (f ∷ put_in e fs))
    go true q = (stands_above e f q, d)
    go false q = put_behind e f fs (stands_below e f q w.0) d w.1

pub price_descending : (es : List Entry) → Apart es → Descending (by_price es)
unfolding by_price
price_descending [] a = tt
price_descending (e ∷ es) a = put_descending e (by_price es) (price_descending es a.1) (permuted_each (λ f. f.lot ≢ e.lot) (price_permuted es) a.0)

-- ── Two entries ────────────────────────────────────────────────────────────────────────────────

-- an entry leaves the other lots
pub other_lot : (c : Call) (e : Entry) (h : HistoryTable) (k : ℕ) → k ≢ e.lot → (enter c e h).lots k ≡ h.lots k
unfolding enter
other_lot c e h k n = rw (ne_eqb k e.lot n)

pub same_lot : (c : Call) (e : Entry) (h : HistoryTable) → (enter c e h).lots e.lot ≡ with_entry c e (h.lots e.lot)
unfolding enter
same_lot c e h = rw (eq-eqb e.lot e.lot refl)

module _ (c : Call) (a b : Entry) (h : HistoryTable) (n : b.lot ≢ a.lot) where
  abbrev ab : HistoryTable
  ab = enter c b (enter c a h)

  abbrev ba : HistoryTable
  ba = enter c a (enter c b h)

  lots_swap : (k : ℕ) → ab.lots k ≡ ba.lots k
  lots_swap k = go (ℕ_discrete k a.lot) (ℕ_discrete k b.lot)
    where
      go : Dec (k ≡ a.lot) → Dec (k ≡ b.lot) → ab.lots k ≡ ba.lots k
      go (yes p) (yes q) = absurd (n (sym q ∙ p))
      go (yes p) (no q) =
          rw p (other_lot c b (enter c a h) a.lot (λ e. n (sym e)) ∙ same_lot c a h
          ∙ sym (same_lot c a (enter c b h) ∙ ap (with_entry c a) (other_lot c b h a.lot (λ e. n (sym e)))))
      go (no p) (yes q) =
          rw q (same_lot c b (enter c a h) ∙ ap (with_entry c b) (other_lot c a h b.lot n)
          ∙ sym (other_lot c a (enter c b h) b.lot n ∙ same_lot c b h))
      go (no p) (no q) =
          other_lot c b (enter c a h) k q ∙ other_lot c a h k p ∙ sym (other_lot c a (enter c b h) k p ∙ other_lot c b h k q)

  sent_swap : (x : ℕ) → ab.sent x ≡ ba.sent x
  unfolding enter
  sent_swap x = omega arith

  got_swap : (x : ℕ) → ab.got x ≡ ba.got x
  unfolding enter
  got_swap x = omega arith

  enter_swap : ab ≡ ba
  unfolding enter
  enter_swap =
      λ i. record {
        lots = λ k. lots_swap k i;
        pay_ins = h.pay_ins;
        take_outs = h.take_outs;
        sent = λ x. sent_swap x i;
        got = λ x. got_swap x i;
      }

-- ── A whole answer ─────────────────────────────────────────────────────────────────────────────

-- the table is the same
pub permuted_enter : (c : Call) {es fs : List Entry} → Permuted es fs → Apart es → (h : HistoryTable) → enter_all c es h ≡ enter_all c fs h
unfolding enter_all
permuted_enter c none a h = refl
permuted_enter c (keep {e = e} p) a h = permuted_enter c p a.1 (enter c e h)
permuted_enter c (swap {a = x} {b = y} {es = es}) a h = ap (enter_all c es) (enter_swap c x y h a.0.0)
permuted_enter c (via p q) a h = permuted_enter c p a h ∙ permuted_enter c q (permuted_apart p a) h

-- and each strike is as fair
pub permuted_fair : (c : Call) {es fs : List Entry} → Permuted es fs → Apart es → (h : HistoryTable) → EachOwnAct c es h → EachOwnAct c fs h
unfolding EachOwnAct
permuted_fair c none a h f = tt
permuted_fair c (keep {e = e} p) a h f = (f.0, permuted_fair c p a.1 (enter c e h) f.1)
permuted_fair c (swap {a = x} {b = y} {es = es}) a h f = (
  subst (OwnAct c y) (other_lot c x h y.lot a.0.0) f.1.0,
  (
    subst (OwnAct c x) (sym (other_lot c y h x.lot (λ e. a.0.0 (sym e)))) f.0,
    subst (EachOwnAct c es) (enter_swap c x y h a.0.0) f.1.1,
  ),
)
permuted_fair c (via p q) a h f = permuted_fair c q (permuted_apart p a) h (permuted_fair c p a h f)
