-- Laws of the tables that count from 1: what stands in them after a change, and where an entry stands in an array.
-- Assumes nothing.
use Rattle.std.specs.Prelude.{Bool, false, cond, ◌||◌, ◌≢◌, ◌≡◌, eqb, length}
use Rattle.std.proofs.Math.Bool.{true, or-false}
use Rattle.std.proofs.lemmas.Bool.{false≢true}
use mathlib.Core.List.{List, [], ◌∷◌}
use Rattle.std.proofs.Math.Path.{refl, ap}
use Rattle.std.proofs.Common.{sym, ◌∙◌, subst, not-suc-le-zero, arith, eqb-true}
use Prim.Native.Nat.{ℕ, zero, suc, ◌-◌, ◌≤◌, ◌<◌}
use Rattle.std.proofs.Math.ListN.{get_or, set, length-set}
use Rattle.std.proofs.Math.Seq.{get_or-set_same, get_or-set_other}
use Rattle.zone.specs.Laws.Tests.{both}
use Rattle.zone.specs.Laws.Valid.{all_set}
use Rattle.zone.specs.Valid.{all}
use Rattle.rules.specs.Tables.{among, nth, put}

module _ {A : Type 0} where
  -- ── After a change ───────────────────────────────────────────────────────────────────────────

  pub length_put : (l : List A) (a : ℕ) (v : A) → length (put l a v) ≡ length l
  unfolding put
  length_put l zero v = refl
  length_put l (suc k) v = length-set l k v

  pub nth_put_same : (d : A) (l : List A) (a : ℕ) (v : A) → 0 < a → a ≤ length l → nth d (put l a v) a ≡ v
  unfolding nth put
  nth_put_same d l zero v p h = absurd (not-suc-le-zero p)
  nth_put_same d l (suc k) v p h = get_or-set_same l k v d h

  pub nth_put_other : (d : A) (l : List A) (x a : ℕ) (v : A) → x ≢ a → nth d (put l a v) x ≡ nth d l x
  unfolding nth put
  nth_put_other d l zero a v n = refl
  nth_put_other d l (suc j) zero v n = refl
  nth_put_other d l (suc j) (suc k) v n = get_or-set_other l k j v d (λ e. n (ap suc e))

  -- ── By the index of an array ─────────────────────────────────────────────────────────────────

  pub nth_index : (d : A) (l : List A) (a : ℕ) → 0 < a → nth d l a ≡ get_or l (a - 1) d
  unfolding nth
  nth_index d l zero p = absurd (not-suc-le-zero p)
  nth_index d l (suc k) p = ap (λ (i : ℕ). get_or l i d) (omega arith)

  pub put_index : (l : List A) (a : ℕ) (v : A) → 0 < a → put l a v ≡ set l (a - 1) v
  unfolding put
  put_index l zero v p = absurd (not-suc-le-zero p)
  put_index l (suc k) v p = ap (λ (i : ℕ). set l i v) (omega arith)

  -- nobody's entry is never changed
  pub put_none : (l : List A) (a : ℕ) (v : A) → a ≡ 0 → put l a v ≡ l
  unfolding put
  put_none l a v e = ap (λ (k : ℕ). put l k v) e

  -- ── A test that every entry passes ───────────────────────────────────────────────────────────

  -- each entry passes it, and nobody does too where the default does
  pub all_nth : (f : A → Bool) (d : A) (l : List A) (k : ℕ) → f d ≡ true → all f l ≡ true → f (nth d l k) ≡ true
  unfolding nth all
  all_nth f d l zero q e = q
  all_nth f d l (suc k) q e = go l k e
    where
      go : (l : List A) (k : ℕ) → all f l ≡ true → f (get_or l k d) ≡ true
      go [] k e = q
      go (x ∷ l) zero e = (both (f x) (all f l) e).0
      go (x ∷ l) (suc k) e = go l k (both (f x) (all f l) e).1

  -- a change to what passes it keeps it
  pub all_put : (f : A → Bool) (l : List A) (k : ℕ) (v : A) → f v ≡ true → all f l ≡ true → all f (put l k v) ≡ true
  unfolding put
  all_put f l zero v q e = e
  all_put f l (suc k) v q e = all_set f l k v e q

-- ── One of a list of numbers ───────────────────────────────────────────────────────────────────

abbrev pub Each : (ℕ → Type 0) → List ℕ → Type 0
Each P [] = Unit {0}
Each P (k ∷ ks) = P k × Each P ks

-- what holds of each number of the list holds of n
pub among_each : (P : ℕ → Type 0) (n : ℕ) (ks : List ℕ) → Each P ks → among n ks ≡ true → P n
among_each P n [] p h = absurd (false≢true h)
among_each P n (k ∷ ks) p h = go (eqb n k) refl (λ i. among_each P n ks p.1 i) h
  where
    go : (b : Bool) → eqb n k ≡ b → (among n ks ≡ true → P n) → cond b true (among n ks) ≡ true → P n
    go true e f h = subst P (sym (eqb-true n k e)) p.0
    go false e f h = f h

pub among_one : {n : ℕ} (k : ℕ) → among n (k ∷ []) ≡ true → n ≡ k
among_one {n} k h = among_each (λ j. j ≡ k) n (k ∷ []) (refl, tt) h

-- a claim about every number: at those of the list, and at the others
pub special : (P : ℕ → Type 0) (ks : List ℕ) (n : ℕ) → Each P ks → (among n ks ≡ false → P n) → P n
special P ks n p f = go (among n ks) refl
  where
    go : (b : Bool) → among n ks ≡ b → P n
    go true e = among_each P n ks p e
    go false e = f e

-- none of the numbers
pub among_none : (n : ℕ) (ks : List ℕ) → among n ks ≡ false → Each (λ k. eqb n k ≡ false) ks
among_none n [] h = tt
among_none n (k ∷ ks) h = go (eqb n k) refl (λ i. among_none n ks i) h
  where
    go : (b : Bool) → eqb n k ≡ b → (among n ks ≡ false → Each (λ k. eqb n k ≡ false) ks) → cond b true (among n ks) ≡ false
        → (eqb n k ≡ false) × Each (λ k. eqb n k ≡ false) ks
    go true e f h = absurd (false≢true (sym h))
    go false e f h = (e, f h)

-- ── A table's test, and tests joined by `|` ────────────────────────────────────────────────────

-- the same either way
pub cond_same : {A : Type 0} (b : Bool) (x : A) → cond b x x ≡ x
cond_same true x = refl
cond_same false x = refl

pub cond_or : (a b : Bool) → cond a true b ≡ a || b
cond_or true b = refl
cond_or false b = refl

-- from the left, as code joins them
abbrev pub joined : Bool → ℕ → List ℕ → Bool
joined b n [] = b
joined b n (k ∷ ks) = joined (b || eqb n k) n ks

or_among : (b : Bool) (n : ℕ) (ks : List ℕ) → b || among n ks ≡ joined b n ks
or_among b n [] = or-false b
or_among b n (k ∷ ks) = go b ∙ or_among (b || eqb n k) n ks
  where
    go : (b : Bool) → b || cond (eqb n k) true (among n ks) ≡ b || eqb n k || among n ks
    go true = refl
    go false = cond_or (eqb n k) (among n ks)

-- one of the numbers
pub among_joined : (n k : ℕ) (ks : List ℕ) → among n (k ∷ ks) ≡ joined (eqb n k) n ks
among_joined n k ks = cond_or (eqb n k) (among n ks) ∙ or_among (eqb n k) n ks
