-- What an arm of a `match` on a number knows of the number n.
-- Assumes nothing.
use Rattle.std.specs.Prelude.{true, false, List, [], ◌∷◌, ◌≢◌, ◌≡◌, ℕ, zero, suc, ◌+◌, ◌≤◌, ◌<◌, T, eqb, leb, ltb}
use Rattle.std.proofs.Common.{inl, inr, sym, ap, ◌∙◌, subst, arith, ne_eqb, leb-true, ltb-true}
use Rattle.std.proofs.Math.Decide.{ℕ_discrete}
use mir.Val.{has_key}
use types.Run.{OneOf, hit}
use Rattle.rules.specs.Laws.Tables.{Each}

-- ── One of its numbers: what f is at each of them it is at n ───────────────────────────────────

-- m numbers from lo on, which the code tests as a range
abbrev pub run : ℕ → ℕ → List ℕ
run lo zero = []
run lo (suc m) = lo ∷ run (suc lo) m

module _ {A : Type 0} (f : ℕ → A) {x : A} where
  pub at_keys : (ks : List ℕ) {n : ℕ} → Each (λ k. x ≡ f k) ks → OneOf ks n → x ≡ f n
  at_keys [] p h = absurd h
  at_keys (k ∷ []) p e = p.0 ∙ ap f (sym e)
  at_keys (k ∷ j ∷ ks) p (inl e) = p.0 ∙ ap f (sym e)
  at_keys (k ∷ j ∷ ks) p (inr h) = at_keys (j ∷ ks) p.1 h

  pub at_run : (lo m : ℕ) {n : ℕ} → Each (λ k. x ≡ f k) (run lo m) → lo ≤ n → n < lo + m → x ≡ f n
  at_run lo zero p le lt = absurd (omega arith)
  at_run lo (suc m) {n} p le lt = go (ℕ_discrete n lo) (at_run (suc lo) m p.1)
    where
      go : Dec (n ≡ lo) → (suc lo ≤ n → n < suc lo + m → x ≡ f n) → x ≡ f n
      go (yes e) later = p.0 ∙ ap f (sym e)
      go (no ne) later = later (omega arith) (omega arith)

-- A range's lower bound in the code may lie below it, at keys of other arms: it goes up past each.
pub past : {n lo : ℕ} → lo ≤ n → n ≢ lo → suc lo ≤ n
past le ne = omega arith

-- ── None of them: rules for `simp`, which computes their premise at a number written out ───────

module _ (n : ℕ) where
  pub no_key : (ks : List ℕ) → (OneOf ks n → ⊥) → (k : ℕ) → has_key ks k ≡ true → eqb n k ≡ false
  no_key ks none k h = ne_eqb n k (λ e. none (subst (OneOf ks) (sym e) (hit ks k (subst T (sym h) tt))))

  pub above : (m : ℕ) → m ≤ n → (k : ℕ) → ltb k m ≡ true → eqb n k ≡ false
  above m le k h = ne_eqb n k (omega (arith, ltb-true k m h))

  pub below : (m : ℕ) → n < m → (k : ℕ) → leb m k ≡ true → eqb n k ≡ false
  below m lt k h = ne_eqb n k (omega (arith, leb-true m k h))
