-- The numbers of kinds: what a number that was read as a kind is, and what one that was not read as it is not.
-- Assumes nothing.
use Rattle.std.specs.Prelude.{Bool, true, false, ◌⊎◌, ◌≡◌, refl, ℕ, ◌≤◌, ◌<◌, Result, Ok, Err}
use Rattle.std.proofs.Common.{true≢false, inl, inr, sym, ap, ◌∙◌, arith}
use Rattle.std.proofs.Math.Decide.{ℕ_discrete}
use Rattle.std.proofs.lemmas.List.{get_or_past}
use Rattle.std.proofs.lemmas.Bool.{cases_lt}
use Rattle.units.specs.Ranges.{within}
use Rattle.zone.specs.Laws.Tests.{inside}
use Rattle.rules.specs.declared.Kind.{Kind}
use Rattle.rules.specs.declared.Refusal.{Refusal}
use Rattle.rules.specs.declared.Refusal.TheVariants.{BadCall}
use Rattle.rules.specs.Kinds.{kind_number, kinds_read, kind_of}
use Rattle.rules.specs.Laws.Kinds.{by_kind}

-- the number of what was read
number_read : Result Kind Refusal → ℕ
number_read (Ok k) = kind_number k
number_read (Err r) = 0

-- no number from 16 on is a kind's, and 0 is none
pub no_kind_of : (n : ℕ) → within 1 15 n ≡ false → kind_of n ≡ Err BadCall
unfolding kind_of
no_kind_of n h = go (ℕ_discrete n 0)
  where
    go : Dec (n ≡ 0) → kind_of n ≡ Err BadCall
    go (yes e) = ap kind_of e
    go (no ne) = get_or_past kinds_read n (Err BadCall) (past (cases_lt 15 n))
      where
        past : (15 < n) ⊎ (n ≤ 15) → 16 ≤ n
        past (inl l) = omega arith
        past (inr m) = absurd (true≢false (sym (inside 1 15 n (omega arith) m) ∙ h))

pub is_kind : (n : ℕ) (k : Kind) → kind_of n ≡ Ok k → n ≡ kind_number k
unfolding kind_of number_read
is_kind n k e =
    by_kind {P = λ n. kind_of n ≡ Ok k → n ≡ kind_number k}
    (record {
      pay_in = λ e. ap number_read e;
      take_out = λ e. ap number_read e;
      register = λ e. ap number_read e;
      list = λ e. ap number_read e;
      withdraw_listing = λ e. ap number_read e;
      limit_bid = λ e. ap number_read e;
      market_bid = λ e. ap number_read e;
      withdraw_bid = λ e. ap number_read e;
      quote = λ e. ap number_read e;
      lodge = λ e. ap number_read e;
      morning_close = λ e. ap number_read e;
      first_payment = λ e. ap number_read e;
      invoice = λ e. ap number_read e;
      confirm = λ e. ap number_read e;
      day_close = λ e. ap number_read e;
      no_kind = λ n h e. let no : Err BadCall ≡ Ok k = sym (no_kind_of n h) ∙ e in cc;
    })
    n e

-- a number that was read is a kind's
pub read_within : (n : ℕ) (k : Kind) → kind_of n ≡ Ok k → within 1 15 n ≡ true
read_within n k e = go (within 1 15 n) refl
  where
    go : (b : Bool) → within 1 15 n ≡ b → within 1 15 n ≡ true
    go true h = h
    go false h = let no : Err BadCall ≡ Ok k = sym (no_kind_of n h) ∙ e in cc

-- a number that was not read is none, and is refused by 3
pub unread_outside : (n : ℕ) (r : Refusal) → kind_of n ≡ Err r → (r ≡ BadCall) × (within 1 15 n ≡ false)
unfolding kind_of
unread_outside n r e =
    by_kind {P = λ n. kind_of n ≡ Err r → (r ≡ BadCall) × (within 1 15 n ≡ false)}
    (record {
      pay_in = λ e. cc;
      take_out = λ e. cc;
      register = λ e. cc;
      list = λ e. cc;
      withdraw_listing = λ e. cc;
      limit_bid = λ e. cc;
      market_bid = λ e. cc;
      withdraw_bid = λ e. cc;
      quote = λ e. cc;
      lodge = λ e. cc;
      morning_close = λ e. cc;
      first_payment = λ e. cc;
      invoice = λ e. cc;
      confirm = λ e. cc;
      day_close = λ e. cc;
      no_kind = λ n h e. let same : Err r ≡ Err BadCall = sym e ∙ no_kind_of n h in (cc, h);
    })
    n e
