-- The money of a lot: its bounds, what a lot holds in each state, and sums over the lots and the accounts.
-- Assumes nothing.
use Rattle.std.specs.Prelude.{Bool, true, false, cond, ◌≢◌, ◌≡◌, refl, eqb, length, get_or, set}
use mathlib.Core.List.{List, [], ◌∷◌}
use Rattle.std.proofs.Common.{sym, ap, subst, not-suc-le-zero, le_of_suc-le-suc, eq-eqb, ne_eqb}
use Prim.Native.Nat.{ℕ, zero, suc, ◌+◌, ◌-◌, ◌≤◌, ◌<◌}
use Rattle.std.proofs.Math.Decide.{ℕ_discrete}
use native.Mathlib.Omega.{arith}
use Rattle.units.specs.declared.Fen.{Fen}
use Rattle.units.specs.Payments.{fen, rest_payment, paid_so_far, deposit}
use Rattle.units.specs.Laws.Bounds.{full_at_most, full_at_least, rest_le, so_far_le_rest, most_full}
use Rattle.units.specs.Ranges.{within, most_basis, most_premium}
use Rattle.zone.specs.declared.Account.{Account}
use Rattle.zone.specs.declared.Invoices.{Invoices}
use Rattle.zone.specs.declared.Record.{Record}
use Rattle.zone.specs.Held.{full, rest, held, fen_from, held_from, held_sum, all_money}
use Rattle.zone.specs.Record.{record_of}
use Rattle.zone.specs.Valid.{empty_account, record_valid}
use Rattle.zone.specs.Laws.Tests.{signed_at_most, InRange, in_range_lem, filled_either}
use Rattle.zone.specs.Laws.Facts.{InvoicesIn, known, owner_some, unregistered, Bounds, bounds}

-- ── One lot ────────────────────────────────────────────────────────────────────────────────────

-- full payment of a record within its bounds
pub full_le : (r : Record) → Bounds r → (full r).0 ≤ most_full
unfolding full
full_le r B =
    full_at_most r.price r.basis r.premium r.weight B.price (signed_at_most most_basis r.basis.0 B.basis)
    (signed_at_most most_premium r.premium.0 B.premium) B.weight

-- full payment of a valid record with a bid is not nothing
pub full_ge : (r : Record) → record_valid r ≡ true → InRange 2 6 r.state → 100 ≤ (full r).0
unfolding full
full_ge r h s =
    let F = (known r h (owner_some r h (omega arith))).fields in
    full_at_least r.price r.basis r.premium r.weight (F.bid.pays (in_range_lem s)) F.owned.weight.low

-- what the invoices have paid is part of the rest
pub paid_le_rest : (f : Fen) (i : Invoices) → InvoicesIn f i → i.paid.0 ≤ (rest_payment f).0
paid_le_rest f i I = omega (arith, I.paid, so_far_le_rest f i.confirmed (omega (arith, I.confirmed)))

-- no invoice passes the largest full payment
pub record InvoiceBounds (r : Record) : Type 0 where
  pub pending : r.pending.0 ≤ most_full
  pub confirmed : r.confirmed.0 ≤ most_full
  pub paid : r.paid.0 ≤ most_full

-- the invoices of a valid record
pub invoice_bounds : (r : Record) → record_valid r ≡ true → InvoiceBounds r
unfolding record_of
invoice_bounds r h = go (ℕ_discrete r.owner 0)
  where
    go : Dec (r.owner ≡ 0) → InvoiceBounds r
    go (yes e) = subst InvoiceBounds (sym (unregistered r h e)) (omega arith)
    go (no n) =
        filled_either _
        (λ I. let f = full_le r (bounds r h) in
        record {
          pending = omega (arith, I.pending);
          confirmed = omega (arith, I.confirmed);
          paid = omega (arith, paid_le_rest (full r) _ I, rest_le (full r));
        })
        (λ e. record {
          pending = omega (arith, ap (λ (i : Invoices). i.pending.0) e);
          confirmed = omega (arith, ap (λ (i : Invoices). i.confirmed.0) e);
          paid = omega (arith, ap (λ (i : Invoices). i.paid.0) e);
        })
        (known r h n).invoices

-- what a valid record holds is at most the largest full payment
pub held_le : (r : Record) → record_valid r ≡ true → (held r).0 ≤ most_full
unfolding held
held_le r h = go (within 2 4 r.state) (eqb r.state 5) (eqb r.state 6) (full_le r (bounds r h))
  where
    go : (a b c : Bool) → (full r).0 ≤ most_full → (cond a deposit (cond b (full r) (cond c (fen ((rest r).0 - (paid_so_far (full r) r.confirmed).0)) (fen 0)))).0 ≤ most_full
    go true b c f = omega arith
    go false true c f = f
    go false false true f = omega (arith, rest_le (full r))
    go false false false f = omega arith

-- ── From one account ───────────────────────────────────────────────────────────────────────────

-- the whole for the account named and nothing for any other
pub fen_from_same : (x n : ℕ) → fen_from x x n ≡ n
unfolding fen_from
fen_from_same x n = rw (eq-eqb x x refl)

pub fen_from_other : (x a n : ℕ) → x ≢ a → fen_from x a n ≡ 0
unfolding fen_from
fen_from_other x a n h = rw (ne_eqb x a h)

pub fen_from_le : (x a n : ℕ) → fen_from x a n ≤ n
unfolding fen_from
fen_from_le x a n = go (eqb x a)
  where
    go : (b : Bool) → cond b n 0 ≤ n
    go true = omega arith
    go false = omega arith

-- what a valid record holds from one account
pub held_from_le : (x : ℕ) (r : Record) → record_valid r ≡ true → held_from x r ≤ most_full
unfolding held_from
held_from_le x r h = omega (arith, fen_from_le x r.buyer (held r).0, held_le r h)

module _ {A : Type 0} (rec : A → Record) (x : ℕ) where
  -- the sum after one lot has changed
  pub held_sum_set : (l : List A) (k : ℕ) (r d : A) → k < length l → held_sum rec x (set l k r) + held_from x (rec (get_or l k d)) ≡ held_sum rec x l + held_from x (rec r)
  unfolding held_sum
  held_sum_set [] k r d h = absurd (not-suc-le-zero h)
  held_sum_set (a ∷ l) zero r d h = omega arith
  held_sum_set (a ∷ l) (suc k) r d h = omega (arith, held_sum_set l k r d (le_of_suc-le-suc h))

  -- what one lot holds is part of the sum
  pub held_sum_at : (l : List A) (k : ℕ) (d : A) → k < length l → held_from x (rec (get_or l k d)) ≤ held_sum rec x l
  unfolding held_sum
  held_sum_at [] k d h = absurd (not-suc-le-zero h)
  held_sum_at (a ∷ l) zero d h = omega arith
  held_sum_at (a ∷ l) (suc k) d h = omega (arith, held_sum_at l k d (le_of_suc-le-suc h))

-- ── The accounts ───────────────────────────────────────────────────────────────────────────────

-- free and frozen money of one account
abbrev pub money : Account → ℕ
money a = a.free.0 + a.frozen.0

-- all money after one account has changed
pub all_money_set : (l : List Account) (k : ℕ) (a d : Account) → k < length l → all_money (set l k a) + money (get_or l k d) ≡ all_money l + money a
unfolding all_money
all_money_set [] k a d h = absurd (not-suc-le-zero h)
all_money_set (b ∷ l) zero a d h = omega arith
all_money_set (b ∷ l) (suc k) a d h = omega (arith, all_money_set l k a d (le_of_suc-le-suc h))

-- the money of one account is part of all money
pub money_le : (l : List Account) (k : ℕ) → money (get_or l k empty_account) ≤ all_money l
unfolding all_money
money_le [] k = omega arith
money_le (b ∷ l) zero = omega arith
money_le (b ∷ l) (suc k) = omega (arith, money_le l k)
