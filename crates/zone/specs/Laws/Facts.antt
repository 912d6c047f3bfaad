-- What a valid record knows, as named facts, and that these facts make it valid.
-- Assumes nothing.
use Rattle.std.specs.Prelude.{Bool, not, ◌||◌, ◌≢◌, ◌≡◌, ℕ, ◌+◌, ◌≤◌, ◌<◌, eqb, pos}
use Rattle.std.proofs.Math.Bool.{true, false, cond, false≢true}
use Rattle.std.proofs.Math.Path.{refl}
use Rattle.std.proofs.Common.{sym, ap, subst}
use Rattle.std.proofs.Math.Decide.{ℕ_discrete}
use native.Mathlib.Omega.{arith}
use borrow.Author.Tests.{leb-true, le-leb, ltb-true, lt-ltb, eqb-true, eqb-false, eq-eqb, ne_eqb, not-true}
use Rattle.units.specs.declared.Fen.{Fen}
use Rattle.units.specs.declared.Kilograms.{Kilograms}
use Rattle.units.specs.declared.Premium.{Premium}
use Rattle.units.specs.Payments.{fen, payable, paid_so_far}
use Rattle.units.specs.Ranges.{within, is_price, is_basis, is_premium, account_count, contract_count, most_price, most_weight, last_due, most_days, least_weight}
use Rattle.zone.specs.declared.Bid.{Bid}
use Rattle.zone.specs.declared.Invoices.{Invoices}
use Rattle.zone.specs.declared.Listing.{Listing}
use Rattle.zone.specs.declared.Record.{Record}
use Rattle.zone.specs.Held.{full}
use Rattle.zone.specs.Record.{no_invoices, record_of, listing_of, bid_of, invoices_of}
use Rattle.zone.specs.Valid.{blank, listing_ok, bid_ok, due_ok, owner_ok, invoices_within, no_invoices_ok, invoices_ok, fields_ok, record_valid, no_receipt}
use Rattle.zone.specs.Laws.Tests.{both, join, InRange, range_in, in_range_lem, price_at_most, zero_is, is_zero_lem, Filled, fills, leaves, filled_either, filled_in, in_filled, states_in, in_states_lem}

-- ── By the number of the state ─────────────────────────────────────────────────────────────────

-- the fields of a listing in state n
pub record ListingAt (n : ℕ) (l : Listing) : Type 0 where
  pub seller : Filled (within 1 7 n) (InRange 1 account_count l.seller) (l.seller ≡ 0)
  pub contract : Filled (within 1 6 n) (InRange 1 contract_count l.contract) (l.contract ≡ 0)
  pub days : Filled (within 1 6 n) (l.days ≤ most_days) (l.days ≡ 0)
  pub basis : Filled (within 1 6 n) (is_basis l.basis.0 ≡ true) (l.basis.0 ≡ pos 0)

-- the fields of a bid in state n, on a listing of a receipt with this premium
pub record BidAt (n : ℕ) (p : Premium) (l : Listing) (b : Bid) : Type 0 where
  pub buyer : Filled (within 2 7 n) (InRange 1 account_count b.buyer) (b.buyer ≡ 0)
  pub price : Filled (within 2 6 n) (is_price b.price.0 ≡ true) (b.price.0 ≡ 0)
  pub differ : within 2 7 n ≡ true → b.buyer ≢ l.seller
  pub pays : within 2 6 n ≡ true → payable b.price l.basis p ≡ true

-- whose the receipt is in state n
pub record OwnerAt (n owner seller buyer : ℕ) : Type 0 where
  pub is_seller : within 1 4 n || eqb n 7 ≡ true → owner ≡ seller
  pub is_buyer : within 5 6 n ≡ true → owner ≡ buyer

-- the invoices of a lot in state 6
pub record InvoicesIn (full : Fen) (i : Invoices) : Type 0 where
  pub confirmed : i.confirmed.0 < full.0
  pub pending : i.confirmed.0 + i.pending.0 ≤ full.0
  pub paid : i.paid.0 ≡ (paid_so_far full i.confirmed).0

-- the owner, the weight and the premium of a registered receipt
pub record Owned (o : ℕ) (w : Kilograms) (p : Premium) : Type 0 where
  pub owner : InRange 1 account_count o
  pub weight : InRange least_weight most_weight w.0
  pub premium : is_premium p.0 ≡ true

-- what is known of a valid record with an owner, besides its invoices
pub record FieldsIn (r : Record) : Type 0 where
  pub state : r.state ≤ 7
  pub owned : Owned r.owner r.weight r.premium
  pub listing : ListingAt r.state (listing_of r)
  pub bid : BidAt r.state r.premium (listing_of r) (bid_of r)
  pub due : Filled (within 3 7 r.state) (InRange 1 last_due r.due) (r.due ≡ 0)
  pub owner : OwnerAt r.state r.owner r.seller r.buyer

-- what is known of a valid record with an owner
pub record Known (r : Record) : Type 0 where
  pub fields : FieldsIn r
  pub invoices : Filled (eqb r.state 6) (InvoicesIn (full r) (invoices_of r)) (no_invoices ≡ invoices_of r)

-- invoices of nothing are none
no_money : {p c d : Fen} → p.0 ≡ 0 → c.0 ≡ 0 → d.0 ≡ 0 → no_invoices ≡ record { pending = p; confirmed = c; paid = d }
no_money e f g = λ j. record { pending = fen (sym e j); confirmed = fen (sym f j); paid = fen (sym g j) }

module _ (r : Record) where
  -- what each group of tests tells
  listing_at : listing_ok r ≡ true → ListingAt r.state (listing_of r)
  unfolding listing_ok
  listing_at h =
      let t1 = both _ _ h in
      let t2 = both _ _ t1.0 in
      let t3 = both _ _ t2.0 in
      record {
        seller = filled_in _ range_in (eqb-true _ _) t3.0;
        contract = filled_in _ range_in (eqb-true _ _) t3.1;
        days = filled_in _ (leb-true _ _) (eqb-true _ _) t2.1;
        basis = filled_in _ (λ e. e) (zero_is _) t1.1;
      }

  bid_at : bid_ok r ≡ true → BidAt r.state r.premium (listing_of r) (bid_of r)
  unfolding bid_ok
  bid_at h =
      let t1 = both _ _ h in
      let t2 = both _ _ t1.0 in
      let t3 = both _ _ t2.0 in
      record {
        buyer = filled_in _ range_in (eqb-true _ _) t3.0;
        price = filled_in _ (λ e. e) (eqb-true _ _) t3.1;
        differ = λ s. eqb-false _ _ (not-true _ (states_in _ _ t2.1 s));
        pays = states_in _ _ t1.1;
      }

  owner_at : owner_ok r ≡ true → OwnerAt r.state r.owner r.seller r.buyer
  unfolding owner_ok
  owner_at h =
      let t1 = both _ _ h in
      record { is_seller = λ s. eqb-true _ _ (states_in _ _ t1.0 s); is_buyer = λ s. eqb-true _ _ (states_in _ _ t1.1 s) }

  -- what the tests of the fields tell
  pub fields_in : fields_ok r ≡ true → FieldsIn r
  unfolding fields_ok due_ok
  fields_in h =
      let t1 = both _ _ h in
      let t2 = both _ _ t1.0 in
      let t3 = both _ _ t2.0 in
      let t4 = both _ _ t3.0 in
      let t5 = both _ _ t4.0 in
      let t6 = both _ _ t5.0 in
      let t7 = both _ _ t6.0 in
      record {
        state = leb-true _ _ t7.0;
        owned = record { owner = range_in t7.1; weight = range_in t6.1; premium = t5.1 };
        listing = listing_at t4.1;
        bid = bid_at t3.1;
        due = filled_in _ range_in (eqb-true _ _) t2.1;
        owner = owner_at t1.1;
      }

  invoices_at : invoices_ok r ≡ true → Filled (eqb r.state 6) (InvoicesIn (full r) (invoices_of r)) (no_invoices ≡ invoices_of r)
  unfolding invoices_ok invoices_within no_invoices_ok
  invoices_at h = go (eqb r.state 6) h
    where
      go : (s : Bool) → cond s (invoices_within r) (no_invoices_ok r) ≡ true → Filled s (InvoicesIn (full r) (invoices_of r)) (no_invoices ≡ invoices_of r)
      go true h =
          let t1 = both _ _ h in
          let t2 = both _ _ t1.0 in
          fills refl (record { confirmed = ltb-true _ _ t2.0; pending = leb-true _ _ t2.1; paid = eqb-true _ _ t1.1 })
      go false h =
          let t1 = both _ _ h in
          let t2 = both _ _ t1.0 in
          leaves refl (no_money (eqb-true r.pending.0 0 t2.0) (eqb-true r.confirmed.0 0 t2.1) (eqb-true r.paid.0 0 t1.1))

  -- what a valid record with an owner knows
  pub known : record_valid r ≡ true → r.owner ≢ 0 → Known r
  unfolding record_valid
  known h o =
      let t = both _ _ (rw (ne_eqb r.owner 0 o) at h) in
      record { fields = fields_in t.0; invoices = invoices_at t.1 }

  -- the other way, group by group
  listing_ok_lem : ListingAt r.state (listing_of r) → listing_ok r ≡ true
  unfolding listing_ok
  listing_ok_lem L =
      join
      (join
      (join (in_filled _ in_range_lem (eq-eqb _ _) L.seller) (in_filled _ in_range_lem (eq-eqb _ _) L.contract))
      (in_filled _ (le-leb _ _) (eq-eqb _ _) L.days))
      (in_filled _ (λ e. e) (is_zero_lem _) L.basis)

  bid_ok_lem : BidAt r.state r.premium (listing_of r) (bid_of r) → bid_ok r ≡ true
  unfolding bid_ok
  bid_ok_lem B =
      join
      (join
      (join (in_filled _ in_range_lem (eq-eqb _ _) B.buyer) (in_filled _ (λ e. e) (eq-eqb _ _) B.price))
      (in_states_lem _ (not (eqb r.buyer r.seller)) (λ s. rw (ne_eqb r.buyer r.seller (B.differ s)))))
      (in_states_lem _ _ B.pays)

  owner_ok_lem : OwnerAt r.state r.owner r.seller r.buyer → owner_ok r ≡ true
  unfolding owner_ok
  owner_ok_lem O = join (in_states_lem _ _ (λ s. eq-eqb _ _ (O.is_seller s))) (in_states_lem _ _ (λ s. eq-eqb _ _ (O.is_buyer s)))

  fields_ok_lem : FieldsIn r → fields_ok r ≡ true
  unfolding fields_ok due_ok
  fields_ok_lem F =
      let owned = join (join (join (le-leb _ _ F.state) (in_range_lem F.owned.owner)) (in_range_lem F.owned.weight)) F.owned.premium in
      join
      (join
      (join
      (join owned (listing_ok_lem F.listing))
      (bid_ok_lem F.bid))
      (in_filled _ in_range_lem (eq-eqb _ _) F.due))
      (owner_ok_lem F.owner)

  invoices_ok_lem : Filled (eqb r.state 6) (InvoicesIn (full r) (invoices_of r)) (no_invoices ≡ invoices_of r) → invoices_ok r ≡ true
  unfolding invoices_ok invoices_within no_invoices_ok
  invoices_ok_lem F = go (eqb r.state 6) F
    where
      go : (s : Bool) → Filled s (InvoicesIn (full r) (invoices_of r)) (no_invoices ≡ invoices_of r) → cond s (invoices_within r) (no_invoices_ok r) ≡ true
      go true F =
          let I = F.yes refl in
          join (join (lt-ltb _ _ I.confirmed) (le-leb _ _ I.pending)) (eq-eqb _ _ I.paid)
      go false F =
          let e = F.no refl in
          join
          (join (eq-eqb _ _ (ap (λ (i : Invoices). i.pending.0) (sym e))) (eq-eqb _ _ (ap (λ (i : Invoices). i.confirmed.0) (sym e))))
          (eq-eqb _ _ (ap (λ (i : Invoices). i.paid.0) (sym e)))

  -- what is known of a record makes it valid
  pub known_valid : Known r → record_valid r ≡ true
  unfolding record_valid
  known_valid K =
      let o : r.owner ≢ 0 = λ e. omega (arith, K.fields.owned.owner.low) in
      rw (ne_eqb r.owner 0 o) (join (fields_ok_lem K.fields) (invoices_ok_lem K.invoices))

  -- a valid record in a state from 1 on has an owner
  pub owner_some : record_valid r ≡ true → 1 ≤ r.state → r.owner ≢ 0
  unfolding record_valid blank
  owner_some h s o =
      let n : r.state ≢ 0 = λ e. omega arith in
      false≢true (rw (eq-eqb r.owner 0 o, ne_eqb r.state 0 n) at h)

  -- a record whose fields are all zero is that of no receipt
  pub blank_is : blank r ≡ true → r ≡ record_of no_receipt
  unfolding blank record_of
  blank_is h =
      let t1 = both _ _ h in
      let t2 = both _ _ t1.0 in
      let t3 = both _ _ t2.0 in
      let t4 = both _ _ t3.0 in
      let t5 = both _ _ t4.0 in
      let t6 = both _ _ t5.0 in
      let t7 = both _ _ t6.0 in
      let t8 = both _ _ t7.0 in
      let t9 = both _ _ t8.0 in
      let t10 = both _ _ t9.0 in
      let t11 = both _ _ t10.0 in
      let t12 = both _ _ t11.0 in
      let t13 = both _ _ t12.0 in
      λ j.
      record {
        owner = eqb-true r.owner 0 t13.0 j;
        state = eqb-true r.state 0 t13.1 j;
        seller = eqb-true r.seller 0 t12.1 j;
        buyer = eqb-true r.buyer 0 t11.1 j;
        contract = eqb-true r.contract 0 t10.1 j;
        days = eqb-true r.days 0 t9.1 j;
        due = eqb-true r.due 0 t8.1 j;
        weight = record { 0 = eqb-true r.weight.0 0 t7.1 j };
        basis = record { 0 = zero_is r.basis.0 t2.1 j };
        price = record { 0 = eqb-true r.price.0 0 t6.1 j };
        pending = fen (eqb-true r.pending.0 0 t5.1 j);
        confirmed = fen (eqb-true r.confirmed.0 0 t4.1 j);
        paid = fen (eqb-true r.paid.0 0 t3.1 j);
        premium = record { 0 = zero_is r.premium.0 t1.1 j };
      }

  -- a receipt without an owner is none
  pub unregistered : record_valid r ≡ true → r.owner ≡ 0 → r ≡ record_of no_receipt
  unfolding record_valid
  unregistered h o = blank_is (rw (eq-eqb r.owner 0 o) at h)

-- the other way: the record of no receipt has only zeros, and is valid
pub none_blank : blank (record_of no_receipt) ≡ true
unfolding blank record_of
none_blank = refl

pub none_valid : record_valid (record_of no_receipt) ≡ true
unfolding record_valid blank record_of
none_valid = refl

-- ── Bounds that hold in every state ────────────────────────────────────────────────────────────

-- the largest that each field can be
pub record Bounds (r : Record) : Type 0 where
  pub owner : r.owner ≤ account_count
  pub state : r.state ≤ 7
  pub seller : r.seller ≤ account_count
  pub buyer : r.buyer ≤ account_count
  pub contract : r.contract ≤ contract_count
  pub days : r.days ≤ most_days
  pub due : r.due ≤ last_due
  pub weight : r.weight.0 ≤ most_weight
  pub basis : is_basis r.basis.0 ≡ true
  pub price : r.price.0 ≤ most_price
  pub premium : is_premium r.premium.0 ≡ true

-- the bounds of a record whose fields pass their tests
pub fields_bounds : (r : Record) → FieldsIn r → Bounds r
fields_bounds r F =
    record {
      owner = F.owned.owner.high;
      state = F.state;
      seller = filled_either _ (λ h. h.high) (λ e. omega arith) F.listing.seller;
      buyer = filled_either _ (λ h. h.high) (λ e. omega arith) F.bid.buyer;
      contract = filled_either _ (λ h. h.high) (λ e. omega arith) F.listing.contract;
      days = filled_either _ (λ h. h) (λ e. omega arith) F.listing.days;
      due = filled_either _ (λ h. h.high) (λ e. omega arith) F.due;
      weight = F.owned.weight.high;
      basis = filled_either _ (λ h. h) (λ e. ap is_basis e) F.listing.basis;
      price = filled_either _ (price_at_most _) (λ e. omega arith) F.bid.price;
      premium = F.owned.premium;
    }

-- the bounds of a valid record, registered or not
pub bounds : (r : Record) → record_valid r ≡ true → Bounds r
unfolding record_of
bounds r h = go (ℕ_discrete r.owner 0)
  where
    go : Dec (r.owner ≡ 0) → Bounds r
    go (yes e) =
        subst Bounds (sym (unregistered r h e))
        (record {
          owner = omega arith;
          state = omega arith;
          seller = omega arith;
          buyer = omega arith;
          contract = omega arith;
          days = omega arith;
          due = omega arith;
          weight = omega arith;
          basis = refl;
          price = omega arith;
          premium = refl;
        })
    go (no n) = fields_bounds r (known r h n).fields
