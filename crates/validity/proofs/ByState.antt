-- The tests of a record's fields, state by state: which are left, and that the others pass; and that these and the invoices decide.
-- Assumes nothing.
use Rattle.units.specs.Ranges.{account_count, is_account, is_weight, is_premium}
use mathlib.Core.Bool.{Bool, true, false, ◌&&◌, or-false, and-true, and_assoc}
use mathlib.Core.Logic.{◌⊎◌, inl, inr, ◌≢◌}
use mathlib.Core.Path.{◌≡◌, refl, ◌∙◌}
use Prim.Native.Nat.{ℕ, ◌+◌, ◌≤◌}
use native.Mathlib.Decide.{ℕ_discrete}
use native.Mathlib.Omega.{arith}
use borrow.Author.Tests.{ne_eqb}
use lib.Dec.{eqb, leb}
use Rattle.zone.specs.declared.Record.{Record}
use Rattle.validity.specs.ByState.{kept_ok, listing_fits, listing_zero, bid_fits, bid_zero, due_fits, buyer_fits}
use Rattle.zone.specs.Valid.{listing_ok, bid_ok, due_ok, owner_ok, no_invoices_ok, invoices_ok, fields_ok, record_valid}
use Rattle.zone.specs.Laws.Tests.{InRange, both, range_in}

one_of_two : (s k : ℕ) → k ≤ s → s ≤ k + 1 → (s ≡ k) ⊎ (s ≡ k + 1)
one_of_two s k l h = go (ℕ_discrete s k)
  where
    go : Dec (s ≡ k) → (s ≡ k) ⊎ (s ≡ k + 1)
    go (yes e) = inl e
    go (no n) = inr (omega arith)

module _ (r : Record) where
  -- what is left to test of a record once its state, owner, weight and premium are in range
  abbrev pub fields : Bool
  fields = listing_ok r && bid_ok r && due_ok r && owner_ok r

  pub idle : r.state ≡ 0 → eqb r.seller 0 && listing_zero r && bid_zero r && eqb r.due 0 ≡ fields
  unfolding listing_ok bid_ok due_ok owner_ok
  idle e = rw e (simp (and-true, and_assoc))

  pub listed : r.state ≡ 1 → listing_fits r && bid_zero r && eqb r.due 0 && eqb r.owner r.seller ≡ fields
  unfolding listing_ok bid_ok due_ok owner_ok
  listed e = rw e (simp (or-false, and-true, and_assoc))

  pub standing : r.state ≡ 2 → listing_fits r && bid_fits r && eqb r.due 0 && eqb r.owner r.seller ≡ fields
  unfolding listing_ok bid_ok due_ok owner_ok
  standing e = rw e (simp (or-false, and-true, and_assoc))

  in_trade : (s : ℕ) → r.state ≡ s → (s ≡ 3) ⊎ (s ≡ 4) → listing_fits r && bid_fits r && due_fits r && eqb r.owner r.seller ≡ fields
  unfolding listing_ok bid_ok due_ok owner_ok
  in_trade s e (inl q) = rw (e ∙ q) (simp (or-false, and-true, and_assoc))
  in_trade s e (inr q) = rw (e ∙ q) (simp (or-false, and-true, and_assoc))

  bought_in : (s : ℕ) → r.state ≡ s → (s ≡ 5) ⊎ (s ≡ 6) → listing_fits r && bid_fits r && due_fits r && eqb r.owner r.buyer ≡ fields
  unfolding listing_ok bid_ok due_ok owner_ok
  bought_in s e (inl q) = rw (e ∙ q) (simp (or-false, and_assoc))
  bought_in s e (inr q) = rw (e ∙ q) (simp (or-false, and_assoc))

  pub struck : 3 ≤ r.state → r.state ≤ 4 → listing_fits r && bid_fits r && due_fits r && eqb r.owner r.seller ≡ fields
  struck l h = in_trade r.state refl (one_of_two r.state 3 l h)

  pub bought : 5 ≤ r.state → r.state ≤ 6 → listing_fits r && bid_fits r && due_fits r && eqb r.owner r.buyer ≡ fields
  bought l h = bought_in r.state refl (one_of_two r.state 5 l h)

  pub owing : r.state ≡ 7 → is_account r.seller && listing_zero r && buyer_fits r && due_fits r && eqb r.owner r.seller ≡ fields
  unfolding listing_ok bid_ok due_ok owner_ok
  owing e = rw e (simp (or-false, and-true, and_assoc))

  -- ── With state, owner, weight and premium in range ──

  pub fields_decide : kept_ok r ≡ true → fields_ok r ≡ fields
  unfolding fields_ok
  fields_decide k = rw k

  -- the state's tests and those of the invoices decide
  pub tests_decide : kept_ok r ≡ true → record_valid r ≡ fields && invoices_ok r
  unfolding record_valid
  tests_decide k =
      let first = leb r.state 7 in
      let named = (both first (is_account r.owner) (both _ (is_weight r.weight.0) (both _ (is_premium r.premium.0) k).0).0).1 in
      let some : InRange 1 account_count r.owner = range_in named in
      let owner : eqb r.owner 0 ≡ false = ne_eqb r.owner 0 (λ z. omega (arith, some.low)) in
      rw (owner, fields_decide k)

  -- a state other than 6 has no invoices
  pub judged : (tests : Bool) → tests ≡ fields → kept_ok r ≡ true → r.state ≢ 6 → tests && no_invoices_ok r ≡ record_valid r
  unfolding invoices_ok
  judged tests e k n = rw (e, tests_decide k, ne_eqb _ _ n)
