-- What the walk adds up is what each account owes by the definition.
-- Assumes nothing.
use Rattle.std.specs.Prelude.{Bool, true, false, cond, ◌&&◌, List, [], ◌∷◌, map, ◌≡◌, refl, ℕ, ◌+◌, ◌-◌, ◌≤◌, ◌<◌, eqb, ltb}
use Rattle.std.proofs.Common.{◌∙◌, arith, eqb-true, ltb-true, ltb-false}
use Rattle.units.specs.Laws.Bounds.{most_full}
use Rattle.units.specs.Payments.{deposit, penalty}
use Rattle.units.specs.Ranges.{within, account_count}
use Rattle.zone.specs.declared.Hold.{Hold}
use Rattle.zone.specs.declared.Receipt.{Receipt}
use Rattle.zone.specs.declared.Record.{Record}
use Rattle.zone.specs.Held.{full, fen_from}
use Rattle.zone.specs.Laws.Facts.{bounds}
use Rattle.zone.specs.Laws.Held.{full_le}
use Rattle.zone.specs.Laws.Tests.{both}
use Rattle.zone.specs.Record.{record_of}
use Rattle.zone.specs.Valid.{all, record_valid}
use Rattle.rules.specs.Laws.Moves.{fen_from_zero}
use Rattle.verdict.specs.Laws.Sums.{asked, by_verdict, hold_valid}
use Rattle.verdict.specs.Sums.{no_hold}
use Rattle.shortfalls.specs.Shortfalls.{excess, is_due, owes_penalty, buys_due, penalties_due, payments_due}
use Rattle.shortfalls.specs.Walk.{penalty_owed, payment_owed, owed_of, valid_owed}

-- ── One lot ────────────────────────────────────────────────────────────────────────────────────

-- by whether there is one
by_excess : (P : ℕ → Type 0) (n m : ℕ) → (m < n → P (n - m)) → (n ≤ m → P 0) → P (excess n m)
unfolding excess
by_excess P n m f g = go (ltb m n) refl
  where
    go : (b : Bool) → ltb m n ≡ b → P (cond b (n - m) 0)
    go true e = f (ltb-true m n e)
    go false e = g (ltb-false m n e)

pub excess_le : (n m : ℕ) → excess n m ≤ n
excess_le n m = by_excess (λ d. d ≤ n) n m (λ h. omega arith) (λ h. omega arith)

-- with m it covers n, and just so where it is above 0
pub excess_covers : (n m : ℕ) → n ≤ m + excess n m
excess_covers n m = by_excess (λ d. n ≤ m + d) n m (λ h. omega arith) (λ h. omega arith)

pub excess_exact : (n m : ℕ) → 0 < excess n m → n ≡ m + excess n m
excess_exact n m = by_excess (λ d. 0 < d → n ≡ m + d) n m (λ h q. omega arith) (λ h q. absurd (omega arith))

-- by the due day and the state
by_state : (P : Hold → Type 0) (day : ℕ) (r : Record) → P (penalty_owed r) → P (payment_owed r) → P no_hold → P (owed_of day r)
unfolding owed_of
by_state P day r p b n = due (is_due day r)
  where
    trade : (t : Bool) → P (cond t (payment_owed r) no_hold)
    trade true = b
    trade false = n

    state : (t : Bool) → P (cond t (penalty_owed r) (cond (within 3 4 r.state) (payment_owed r) no_hold))
    state true = p
    state false = trade (within 3 4 r.state)

    due : (t : Bool) → P (cond t (cond (eqb r.state 7) (penalty_owed r) (cond (within 3 4 r.state) (payment_owed r) no_hold)) no_hold)
    due true = state (eqb r.state 7)
    due false = n

pub owed_known : (day : ℕ) (r : Record) → (valid_owed day r).from ≤ account_count
owed_known day r =
    by_verdict (λ h. h.from ≤ account_count) (owed_of day) r
    (λ v. by_state (λ h. h.from ≤ account_count) day r (bounds r v).seller (bounds r v).buyer (omega arith)) (omega arith)

pub owed_small : (day : ℕ) (r : Record) → (valid_owed day r).fen.0 ≤ most_full
owed_small day r =
    by_verdict (λ h. h.fen.0 ≤ most_full) (owed_of day) r
    (λ v. by_state (λ h. h.fen.0 ≤ most_full) day r (omega arith) (omega (arith, excess_le (full r).0 deposit.0, full_le r (bounds r v))) (omega arith))
    (omega arith)

-- ── Account by account ─────────────────────────────────────────────────────────────────────────

-- a lot in state 7 is in no other state
seven : (s : ℕ) → eqb s 7 ≡ true → within 3 4 s ≡ false
seven s e = rw (eqb-true s 7 e)

-- what account x owes for a lot, by its two sorts
lot_owes : (day x : ℕ) (r : Record) →
    fen_from x (owed_of day r).from (owed_of day r).fen.0
    ≡ cond (owes_penalty day x r) penalty.0 0 + cond (buys_due day x r) (excess (full r).0 deposit.0) 0
unfolding owed_of fen_from
lot_owes day x r = go (eqb r.state 7) refl (is_due day r)
  where
    n : ℕ
    n = excess (full r).0 deposit.0

    from : Hold → ℕ
    from h = fen_from x h.from h.fen.0

    trade : (t : Bool) → from (cond t (payment_owed r) no_hold) ≡ cond (t && true && eqb x r.buyer) n 0
    trade true = refl
    trade false = fen_from_zero x 0

    early : (t : Bool) → 0 ≡ 0 + cond (t && false && eqb x r.buyer) n 0
    early true = refl
    early false = refl

    go : (s : Bool) → eqb r.state 7 ≡ s → (d : Bool) →
        from (cond d (cond s (penalty_owed r) (cond (within 3 4 r.state) (payment_owed r) no_hold)) no_hold)
        ≡ cond (s && d && eqb x r.seller) penalty.0 0 + cond (within 3 4 r.state && d && eqb x r.buyer) n 0
    go true e true = rw (seven r.state e) (omega arith)
    go true e false = rw (seven r.state e) (omega (arith, fen_from_zero x 0))
    go false e true = trade (within 3 4 r.state) ∙ omega arith
    go false e false = fen_from_zero x 0 ∙ early (within 3 4 r.state)

-- over receipts whose records are valid
pub owed_due : (day x : ℕ) (rs : List Receipt) → all (λ r. record_valid (record_of r)) rs ≡ true →
    asked (valid_owed day) x (map record_of rs) ≡ penalties_due day x rs + payments_due day x rs
unfolding asked penalties_due payments_due all
owed_due day x [] v = refl
owed_due day x (r ∷ rs) v =
    let t = both (record_valid (record_of r)) (all (λ r. record_valid (record_of r)) rs) v in
    rw (hold_valid (owed_of day) (record_of r) t.0, lot_owes day x (record_of r), owed_due day x rs t.1) (omega arith)
