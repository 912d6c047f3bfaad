-- What single tests tell, and what makes them pass.
-- Assumes nothing.
use Rattle.std.specs.Prelude.{Bool, true, false, ◌&&◌, ◌≡◌, refl, ℕ, ◌≤◌, leb, ℤ, pos, negsuc, neg_ℤ}
use Rattle.std.proofs.Common.{true≢false, sym, ap, ◌∙◌, arith, leb-true, le-leb}
use Rattle.std.proofs.lemmas.Bool.{false≢true}
use Rattle.std.proofs.Math.Bool.{and-eq-true_iff}
use Rattle.std.specs.Int.Signed.{le_z}
use Rattle.units.specs.Ranges.{within, is_zero, most_price, is_price, signed_within}
use Rattle.zone.specs.Valid.{filled, in_states}

-- both parts of a test that passes
pub both : (a b : Bool) → a && b ≡ true → (a ≡ true) × (b ≡ true)
both a b = (and-eq-true_iff a b).0

-- two tests that pass, joined
pub join : {a b : Bool} → a ≡ true → b ≡ true → a && b ≡ true
join {a} {b} p q = (and-eq-true_iff a b).1 (p, q)

-- a number from lo to hi
pub record InRange (lo hi n : ℕ) : Type 0 where
  pub low : lo ≤ n
  pub high : n ≤ hi

-- what the test of a range tells, and what makes it pass
pub range_in : {lo hi n : ℕ} → within lo hi n ≡ true → InRange lo hi n
range_in {lo} {hi} {n} h =
    let t = both (leb lo n) (leb n hi) h in
    record { low = leb-true lo n t.0; high = leb-true n hi t.1 }

pub inside : (lo hi n : ℕ) → lo ≤ n → n ≤ hi → within lo hi n ≡ true
inside lo hi n p q = rw (le-leb lo n p, le-leb n hi q)

pub in_range_lem : {lo hi n : ℕ} → InRange lo hi n → within lo hi n ≡ true
in_range_lem {lo} {hi} {n} h = inside lo hi n h.low h.high

-- no price is above the largest
pub price_at_most : (n : ℕ) → is_price n ≡ true → n ≤ most_price
price_at_most n h =
    let r : InRange 5 most_price n = range_in (both _ _ h).0 in
    r.high

-- no basis and no premium is above the largest
pub signed_at_most : (most : ℕ) (z : ℤ) → signed_within most z ≡ true → le_z z (pos most) ≡ true
signed_at_most most z h = (both (le_z (neg_ℤ (pos most)) z) _ h).1

-- what the test of a signed zero tells, and what makes it pass
pub zero_is : (z : ℤ) → is_zero z ≡ true → z ≡ pos 0
zero_is (pos n) h = ap pos (omega (arith, leb-true n 0 (both (leb 0 n) (leb n 0) h).1))
zero_is (negsuc n) h = absurd (false≢true h)

pub is_zero_lem : (z : ℤ) → z ≡ pos 0 → is_zero z ≡ true
is_zero_lem z e = rw e

-- ── A field that some states fill ──────────────────────────────────────────────────────────────

-- where the state fills the field it is in its range, and else it is not filled
pub record Filled (s : Bool) (In None : Type 0) : Type 0 where
  pub yes : s ≡ true → In
  pub no : s ≡ false → None

-- in a state that fills it, and in a state that does not
pub fills : {s : Bool} {In None : Type 0} → s ≡ true → In → Filled s In None
fills t h = record { yes = λ _. h; no = λ e. absurd (true≢false (sym t ∙ e)) }

pub leaves : {s : Bool} {In None : Type 0} → s ≡ false → None → Filled s In None
leaves f h = record { yes = λ e. absurd (true≢false (sym e ∙ f)); no = λ _. h }

module _ {In None : Type 0} where
  -- what follows in range and from zero follows in every state
  pub filled_either : {P : Type 0} (s : Bool) → (In → P) → (None → P) → Filled s In None → P
  filled_either true f g F = f (F.yes refl)
  filled_either false f g F = g (F.no refl)

  module _ {x y : Bool} where
    -- what the test of such a field tells, and what makes it pass
    pub filled_in : (s : Bool) → (x ≡ true → In) → (y ≡ true → None) → filled s x y ≡ true → Filled s In None
    filled_in true f g h = fills refl (f (go x h))
      where
        go : (x : Bool) → filled true x y ≡ true → x ≡ true
        go true h = refl
        go false h = h
    filled_in false f g h = leaves refl (g h)

    pub in_filled : (s : Bool) → (In → x ≡ true) → (None → y ≡ true) → Filled s In None → filled s x y ≡ true
    in_filled true f g F = rw (f (F.yes refl))
    in_filled false f g F = g (F.no refl)

-- what a test of some states tells, and what makes it pass
pub states_in : (s t : Bool) → in_states s t ≡ true → s ≡ true → t ≡ true
states_in true t h e = h
states_in false t h e = absurd (false≢true e)

pub in_states_lem : (s t : Bool) → (s ≡ true → t ≡ true) → in_states s t ≡ true
in_states_lem true t f = f refl
in_states_lem false t f = refl
