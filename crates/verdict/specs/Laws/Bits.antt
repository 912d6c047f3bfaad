-- What the loop over the accounts gathers: the bits of free money, the bits in which frozen money differs from its sum, and all money in
-- a sum that may wrap. At the end these decide as the definition does.
-- Assumes nothing.
use Rattle.std.specs.Prelude.{◌≡◌, ℕ, zero, suc, ◌+◌, ◌*◌, ◌%◌, ◌^◌, ◌<◌, ◌≤◌, Bool, true, false, ◌&&◌, List, [], ◌∷◌, ◌++◌, length, ◌==◌, bit_or, bit_xor, nat_eq, nat_lt, slice_index_or}
use Rattle.std.proofs.Math.Bool.{and-false}
use Rattle.std.proofs.Math.Path.{refl, sym, ap}
use Rattle.std.proofs.Common.{subst, ◌∙◌, add-one, eq-eqb, ne_eqb, eqb-true, ltb-true, ltb-false}
use Rattle.std.proofs.Math.Nat.{add-mod}
use Rattle.std.proofs.Math.Decide.{ℕ_discrete, dec_le}
use native.Mathlib.Omega.{arith}
use Rattle.std.specs.Int.Bits.{or_lt, or_add_and, xor_self, xor_add_and}
use Rattle.std.proofs.lemmas.Nat.{and_le_l, and_le_r}
use Rattle.units.specs.declared.Fen.{Fen}
use Rattle.units.specs.Payments.{fen}
use Rattle.units.specs.Laws.Bounds.{most_full}
use Rattle.units.specs.Ranges.{account_count, receipt_count, money_limit}
use Rattle.zone.specs.declared.Account.{Account}
use Rattle.zone.specs.Held.{all_money}
use Rattle.image.specs.Layout.{receipt_run, record_in, records_in}
use Rattle.image.specs.Table.{table}
use Rattle.image.specs.Laws.Table.{length_table}
use Rattle.verdict.specs.Sums.{valid_hold, frozen_sums, frozen_from}
use Rattle.verdict.specs.Laws.Sums.{sum_le, hold_known, hold_small}
use Rattle.verdict.specs.Laws.Turns.{money_one, frozen_one}

-- ── Bits ───────────────────────────────────────────────────────────────────────────────────────

-- `|` is no less than either side
le_or : (a b : ℕ) → (a ≤ bit_or a b) × (b ≤ bit_or a b)
le_or a b = (omega (arith, or_add_and a b, and_le_r a b), omega (arith, or_add_and a b, and_le_l a b))

-- `^` has no bit where its sides are equal, and only there
xor_same : (a b : ℕ) → bit_xor a b ≡ 0 → a ≡ b
xor_same a b e = omega (arith, xor_add_and a b, and_le_l a b, and_le_r a b, e)

xor_none : (a b : ℕ) → (bit_xor a b == 0) ≡ (a == b)
xor_none a b = go (ℕ_discrete a b)
  where
    go : Dec (a ≡ b) → (bit_xor a b == 0) ≡ (a == b)
    go (yes e) = eq-eqb (bit_xor a b) 0 (ap (bit_xor a) (sym e) ∙ xor_self a) ∙ sym (eq-eqb a b e)
    go (no n) = ne_eqb (bit_xor a b) 0 (λ z. n (xor_same a b z)) ∙ sym (ne_eqb a b n)

-- `|` has no bit where neither side has one
or_none : (a b : ℕ) → (bit_or a b == 0) ≡ (a == 0) && b == 0
or_none a b = go (ℕ_discrete a 0)
  where
    go : Dec (a ≡ 0) → (bit_or a b == 0) ≡ (a == 0) && b == 0
    go (yes e) = subst (λ (x : ℕ). (bit_or x b == 0) ≡ (x == 0) && b == 0) (sym e) refl
    go (no n) = ne_eqb (bit_or a b) 0 (λ z. n (omega (arith, le_or a b, z))) ∙ rw (ne_eqb a 0 n)

-- ── What is gathered ───────────────────────────────────────────────────────────────────────────

-- the code's limit for the bits of free money: above the limit of all money, and so low that no sum below it wraps
abbrev pub above_limit : ℕ
above_limit = 2 ^ 50

-- what the lots can hold from one account at most
abbrev pub most_held : ℕ
most_held = most_full * receipt_count

-- no sum of an image is above it
pub sum_small : (s : List ℕ) (p : ℕ) → p < account_count → (slice_index_or (frozen_sums s) p (fen 0)).0 ≤ most_held
unfolding records_in
sum_small s p h =
    let count = length_table receipt_count (λ k. record_in (receipt_run s k)) in
    omega (arith, sum_le valid_hold hold_known most_full hold_small (records_in s) p h, count)

module _ (f : ℕ → Account) where
  -- the bits of free money of the first n accounts
  unfoldable pub free_bits : ℕ → ℕ
  free_bits zero = 0
  free_bits (suc n) = bit_or (free_bits n) (f n).free.0

  -- one account more
  pub free_more : (n : ℕ) → free_bits (n + 1) ≡ bit_or (free_bits n) (f n).free.0
  unfolding free_bits
  free_more n = ap free_bits (add-one n)

  -- with a bit from the limit on, all money is at the limit or above it
  free_above : (n : ℕ) → above_limit ≤ free_bits n → above_limit ≤ all_money (table n f)
  unfolding free_bits table
  free_above zero h = absurd (omega arith)
  free_above (suc n) h = go (dec_le above_limit (free_bits n)) (dec_le above_limit (f n).free.0) (λ b. free_above n b)
    where
      go : Dec (above_limit ≤ free_bits n) → Dec (above_limit ≤ (f n).free.0) → (above_limit ≤ free_bits n → above_limit ≤ all_money (table n f)) →
          above_limit ≤ all_money (table n f ++ (f n ∷ []))
      go (yes b) d before = omega (arith, before b, money_one (table n f) (f n))
      go (no b) (yes d) before = omega (arith, d, money_one (table n f) (f n))
      go (no b) (no d) before = absurd (omega (arith, or_lt 50 (free_bits n) (f n).free.0 (omega arith) (omega arith), h))

  module _ (sums : List Fen) where
    -- the sum of account n
    abbrev held_at : ℕ → ℕ
    held_at n = (slice_index_or sums n (fen 0)).0

    -- the bits in which the frozen money of the first n accounts differs from its sum
    unfoldable pub other_bits : ℕ → ℕ
    other_bits zero = 0
    other_bits (suc n) = bit_or (other_bits n) (bit_xor (f n).frozen.0 (held_at n))

    -- their free money and their sums together, in 64 bits
    unfoldable pub wrapped : ℕ → ℕ
    wrapped zero = 0
    wrapped (suc n) = (wrapped n + ((f n).free.0 + held_at n) % 2 ^ 64) % 2 ^ 64

    -- one account more
    pub other_more : (n : ℕ) → other_bits (n + 1) ≡ bit_or (other_bits n) (bit_xor (f n).frozen.0 (held_at n))
    unfolding other_bits
    other_more n = ap other_bits (add-one n)

    pub wrapped_more : (n : ℕ) → wrapped (n + 1) ≡ (wrapped n + ((f n).free.0 + held_at n) % 2 ^ 64) % 2 ^ 64
    unfolding wrapped
    wrapped_more n = ap wrapped (add-one n)

    -- no bit: each frozen money is its sum
    other_none : (n : ℕ) → (other_bits n == 0) ≡ frozen_from 0 (table n f) sums
    unfolding other_bits table frozen_from
    other_none zero = refl
    other_none (suc n) =
        let place : 0 + length (table n f) ≡ n = omega (arith, length_table n f) in
        rw (or_none (other_bits n) (bit_xor (f n).frozen.0 (held_at n)), other_none n, xor_none, frozen_one, place)

    -- none with account n: none before it, and its frozen money is its sum
    none_before : (n : ℕ) → other_bits (suc n) ≡ 0 → (other_bits n ≡ 0) × ((f n).frozen.0 ≡ held_at n)
    unfolding other_bits
    none_before n o =
        let b = le_or (other_bits n) (bit_xor (f n).frozen.0 (held_at n)) in
        (omega (arith, b, o), xor_same (f n).frozen.0 (held_at n) (omega (arith, b, o)))

    -- then the sum is all money, up to wraps
    wrapped_all : (n : ℕ) → other_bits n ≡ 0 → wrapped n ≡ all_money (table n f) % 2 ^ 64
    unfolding wrapped table all_money
    wrapped_all zero o = refl
    wrapped_all (suc n) o =
        let t = none_before n o in
        ap (λ (m : ℕ). (m + ((f n).free.0 + held_at n) % 2 ^ 64) % 2 ^ 64) (wrapped_all n t.0)
        ∙ sym (add-mod (all_money (table n f)) ((f n).free.0 + held_at n) (2 ^ 64))
        ∙ ap (λ (m : ℕ). m % 2 ^ 64) (omega (arith, money_one (table n f) (f n), t.1))

    -- and small, where no free money has a bit from the limit on
    free_below : ((k : ℕ) → k < account_count → held_at k ≤ most_held) → (n : ℕ) → n ≤ account_count → other_bits n ≡ 0 →
        free_bits n < above_limit → all_money (table n f) ≤ (above_limit + most_held) * n
    unfolding free_bits table all_money
    free_below small zero c o h = omega arith
    free_below small (suc n) c o h =
        let t = none_before n o in
        let b = le_or (free_bits n) (f n).free.0 in
        let before = free_below small n (omega arith) t.0 (omega (arith, b, h)) in
        omega (arith, before, money_one (table n f) (f n), t.1, small n (omega arith), b, h)

    -- for a total within its limit, bits and sum decide as the definition does
    pub bits_decide : ((k : ℕ) → k < account_count → held_at k ≤ most_held) → (total : ℕ) → total ≤ money_limit → (n : ℕ) → n ≤ account_count →
        nat_lt (free_bits n) above_limit && other_bits n == 0 && total == wrapped n
        ≡ frozen_from 0 (table n f) sums && total == all_money (table n f)
    bits_decide small total t n c =
        go (other_bits n == 0) refl (nat_lt (free_bits n) above_limit) refl
        ∙ ap (λ (b : Bool). b && total == all_money (table n f)) (other_none n)
      where
        go : (o : Bool) → (other_bits n == 0) ≡ o → (b : Bool) → nat_lt (free_bits n) above_limit ≡ b →
            b && o && (total == wrapped n) ≡ o && total == all_money (table n f)
        go false o b h = rw and-false
        go true o true h =
            let none = eqb-true (other_bits n) 0 o in
            ap (nat_eq total) (omega (arith, wrapped_all n none, free_below small n c none (ltb-true (free_bits n) above_limit h), c))
        go true o false h =
            let more = free_above n (ltb-false (free_bits n) above_limit h) in
            sym (ne_eqb total (all_money (table n f)) (λ e. omega (arith, more, t, e)))
