-- What the moves of money do: to each account, to the sums, and to the length of the table. Equations without subtraction.
-- Assumes nothing.
use Rattle.std.specs.Prelude.{Bool, true, false, cond, List, ◌≢◌, ◌≡◌, refl, ℕ, zero, suc, ◌+◌, ◌-◌, ◌≤◌, ◌<◌, eqb, length, get_or}
use Rattle.std.proofs.Math.Path.{ap}
use Rattle.std.proofs.Math.Decide.{ℕ_discrete}
use Rattle.std.proofs.Common.{not-suc-le-zero, arith}
use Rattle.units.specs.declared.Fen.{Fen}
use Rattle.units.specs.Payments.{fen}
use Rattle.zone.specs.declared.Account.{Account}
use Rattle.zone.specs.Held.{fen_from, all_money}
use Rattle.zone.specs.Laws.Held.{fen_from_same, fen_from_other, all_money_set, money_le}
use Rattle.zone.specs.Valid.{empty_account}
use Rattle.rules.specs.Events.{credit, debit, release, freeze}
use Rattle.rules.specs.Laws.Tables.{length_put, nth_put_same, nth_put_other, nth_index}
use Rattle.rules.specs.Tables.{nth, put}
use Rattle.rules.specs.View.{free_of, frozen_of}

pub fen_from_zero : (x a : ℕ) → fen_from x a 0 ≡ 0
unfolding fen_from
fen_from_zero x a = go (eqb x a)
  where
    go : (b : Bool) → ◌≡◌ {A = ℕ} (cond b 0 0) 0
    go true = refl
    go false = refl

-- ── One move ───────────────────────────────────────────────────────────────────────────────────

-- account x, and a move at account a; nobody's money never moves
module _ (l : List Account) (x a : ℕ) (px : 0 < x) (h : a ≤ length l) where
  at_put : (v : Account) (P : Account → ℕ → Type 0) (n : ℕ) → (x ≡ a → P v n) → (x ≢ a → P (nth empty_account l x) 0)
      → P (nth empty_account (put l a v) x) (fen_from x a n)
  at_put v P n f g = go (ℕ_discrete x a)
    where
      go : Dec (x ≡ a) → P (nth empty_account (put l a v) x) (fen_from x a n)
      go (yes e) =
          let pa : 0 < a = rw e at px in
          rw e (rw (fen_from_same, nth_put_same empty_account l a v) (f e))
      go (no e) = rw (fen_from_other x a n e, nth_put_other empty_account l x a v e) (g e)

  pub free_credit : (n : Fen) → (free_of (credit a n l) x).0 ≡ (free_of l x).0 + fen_from x a n.0
  unfolding credit free_of frozen_of
  free_credit n = at_put _ (λ v s. v.free.0 ≡ (free_of l x).0 + s) n.0 (λ e. rw e) (λ e. omega arith)

  pub frozen_credit : (n : Fen) → (frozen_of (credit a n l) x).0 ≡ (frozen_of l x).0
  unfolding credit free_of frozen_of
  frozen_credit n = at_put _ (λ v s. v.frozen.0 ≡ (frozen_of l x).0) n.0 (λ e. rw e) (λ e. refl)

  pub free_debit : (n : Fen) → (0 < a → n.0 ≤ (free_of l a).0) → (free_of (debit a n l) x).0 + fen_from x a n.0 ≡ (free_of l x).0
  unfolding debit free_of frozen_of
  free_debit n k = at_put _ (λ v s. v.free.0 + s ≡ (free_of l x).0) n.0 (λ e. rw e (omega (arith, k (rw e at px)))) (λ e. omega arith)

  pub frozen_debit : (n : Fen) → (frozen_of (debit a n l) x).0 ≡ (frozen_of l x).0
  unfolding debit free_of frozen_of
  frozen_debit n = at_put _ (λ v s. v.frozen.0 ≡ (frozen_of l x).0) n.0 (λ e. rw e) (λ e. refl)

  pub free_release : (n : Fen) → (free_of (release a n l) x).0 ≡ (free_of l x).0 + fen_from x a n.0
  unfolding release free_of frozen_of
  free_release n = at_put _ (λ v s. v.free.0 ≡ (free_of l x).0 + s) n.0 (λ e. rw e) (λ e. omega arith)

  pub frozen_release : (n : Fen) → (0 < a → n.0 ≤ (frozen_of l a).0) → (frozen_of (release a n l) x).0 + fen_from x a n.0 ≡ (frozen_of l x).0
  unfolding release free_of frozen_of
  frozen_release n k =
      at_put _ (λ v s. v.frozen.0 + s ≡ (frozen_of l x).0) n.0 (λ e. rw e (omega (arith, k (rw e at px)))) (λ e. omega arith)

  pub free_freeze : (n : Fen) → (0 < a → n.0 ≤ (free_of l a).0) → (free_of (freeze a n l) x).0 + fen_from x a n.0 ≡ (free_of l x).0
  unfolding freeze free_of frozen_of
  free_freeze n k = at_put _ (λ v s. v.free.0 + s ≡ (free_of l x).0) n.0 (λ e. rw e (omega (arith, k (rw e at px)))) (λ e. omega arith)

  pub frozen_freeze : (n : Fen) → (frozen_of (freeze a n l) x).0 ≡ (frozen_of l x).0 + fen_from x a n.0
  unfolding freeze free_of frozen_of
  frozen_freeze n = at_put _ (λ v s. v.frozen.0 ≡ (frozen_of l x).0 + s) n.0 (λ e. rw e) (λ e. omega arith)

module _ (l : List Account) (a : ℕ) (n : Fen) where
  pub length_credit : length (credit a n l) ≡ length l
  unfolding credit
  length_credit = length_put l a _

  pub length_debit : length (debit a n l) ≡ length l
  unfolding debit
  length_debit = length_put l a _

  pub length_release : length (release a n l) ≡ length l
  unfolding release
  length_release = length_put l a _

  pub length_freeze : length (freeze a n l) ≡ length l
  unfolding freeze
  length_freeze = length_put l a _

-- ── The sum over the accounts ──────────────────────────────────────────────────────────────────

pub all_money_put : (l : List Account) (a : ℕ) (v : Account) → 0 < a → a ≤ length l →
    all_money (put l a v) + (free_of l a).0 + (frozen_of l a).0 ≡ all_money l + v.free.0 + v.frozen.0
unfolding nth put free_of frozen_of
all_money_put l zero v p h = absurd (not-suc-le-zero p)
all_money_put l (suc k) v p h = omega (arith, all_money_set l k v empty_account h)

-- no account has more than all
pub at_most : (l : List Account) (a : ℕ) → (free_of l a).0 + (frozen_of l a).0 ≤ all_money l
unfolding nth free_of frozen_of
at_most l zero = omega arith
at_most l (suc k) = money_le l k

module _ (l : List Account) (a : ℕ) (n : Fen) (p : 0 < a) (h : a ≤ length l) where
  pub all_credit : all_money (credit a n l) ≡ all_money l + n.0
  unfolding credit
  all_credit = omega (arith, all_money_put l a (record { free = fen ((free_of l a).0 + n.0); frozen = frozen_of l a }) p h)

  pub all_debit : n.0 ≤ (free_of l a).0 → all_money (debit a n l) + n.0 ≡ all_money l
  unfolding debit
  all_debit k = omega (arith, all_money_put l a (record { free = fen ((free_of l a).0 - n.0); frozen = frozen_of l a }) p h)

  all_release' : n.0 ≤ (frozen_of l a).0 → all_money (release a n l) ≡ all_money l
  unfolding release
  all_release' k = omega (arith, all_money_put l a (record { free = fen ((free_of l a).0 + n.0); frozen = fen ((frozen_of l a).0 - n.0) }) p h)

  all_freeze' : n.0 ≤ (free_of l a).0 → all_money (freeze a n l) ≡ all_money l
  unfolding freeze
  all_freeze' k = omega (arith, all_money_put l a (record { free = fen ((free_of l a).0 - n.0); frozen = fen ((frozen_of l a).0 + n.0) }) p h)

pub all_release : (l : List Account) (a : ℕ) (n : Fen) → a ≤ length l → (0 < a → n.0 ≤ (frozen_of l a).0) → all_money (release a n l) ≡ all_money l
unfolding release put
all_release l zero n h k = refl
all_release l (suc a) n h k = all_release' l (suc a) n (omega arith) h (k (omega arith))

pub all_freeze : (l : List Account) (a : ℕ) (n : Fen) → a ≤ length l → (0 < a → n.0 ≤ (free_of l a).0) → all_money (freeze a n l) ≡ all_money l
unfolding freeze put
all_freeze l zero n h k = refl
all_freeze l (suc a) n h k = all_freeze' l (suc a) n (omega arith) h (k (omega arith))

-- n passes from one account to another, or nothing passes
pub all_pass : (l : List Account) (a b : ℕ) (n : Fen) → 0 < a → a ≤ length l → b ≤ length l → (0 < n.0 → 0 < b) → n.0 ≤ (free_of l a).0 →
    all_money (credit b n (debit a n l)) ≡ all_money l
unfolding credit put
all_pass l a zero n pa ha hb s k =
    let none : n.0 ≡ 0 = go n.0 s in
    omega (arith, all_debit l a n pa ha k)
  where
    go : (m : ℕ) → (0 < m → 0 < 0) → m ≡ 0
    go zero s = refl
    go (suc m) s = absurd (omega (arith, s (omega arith)))
all_pass l a (suc b) n pa ha hb s k =
    omega (arith, all_credit (debit a n l) (suc b) n (omega arith) (rw (length_debit l a n) hb), all_debit l a n pa ha k)

-- ── By the index of an array ───────────────────────────────────────────────────────────────────

module _ (l : List Account) (a : ℕ) (p : 0 < a) where
  pub free_index : free_of l a ≡ (get_or l (a - 1) empty_account).free
  unfolding free_of
  free_index = ap (λ (v : Account). v.free) (nth_index empty_account l a p)

  pub frozen_index : frozen_of l a ≡ (get_or l (a - 1) empty_account).frozen
  unfolding frozen_of
  frozen_index = ap (λ (v : Account). v.frozen) (nth_index empty_account l a p)
