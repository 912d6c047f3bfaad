-- What the rules of registration, listings and bids keep: kinds 3 to 9 and 15.
-- Assumes nothing.
use Rattle.std.proofs.Math.Bool.{Bool, true, false}
use Rattle.std.specs.Prelude.{cond, ◌&&◌, ◌||◌, [], ◌∷◌, ◌≡◌, ℕ, ◌+◌, ◌≤◌}
use Rattle.std.proofs.Common.{true≢false, arith}
use Rattle.std.proofs.Math.Path.{refl, sym}
use borrow.Author.Tests.{ltb-false, leb-true, not-false, not-true, eqb-true, eqb-false}
use Rattle.std.proofs.Math.Dec.{eqb}
use Rattle.units.specs.Payments.{per_receipt}
use Rattle.units.specs.Ranges.{account_count, most_price, is_price, last_day, last_due, most_days}
use Rattle.zone.specs.declared.Bid.{Bid}
use Rattle.zone.specs.declared.Lot.TheVariants.{Idle}
use Rattle.zone.specs.declared.Record.{Record}
use Rattle.zone.specs.declared.Zone.{Zone}
use Rattle.zone.specs.Held.{held, held_from}
use Rattle.zone.specs.Laws.Lots.{ListingIn, BidIn}
use Rattle.zone.specs.Laws.Tests.{both, InRange, range_in, price_at_most}
use Rattle.zone.specs.Record.{record_of, listing_of, bid_of}
use Rattle.zone.specs.Valid.{record_valid, ask_ok}
use Rattle.rules.specs.declared.Call.{Call}
use Rattle.rules.specs.AtLot.{AtLot}
use Rattle.rules.specs.declared.View.{View}
use Rattle.rules.specs.Effects.{event_of, due_day, meets_ask, bid_stands, bid_struck, register, list_for, withdraw_listing, limit_bid, market_bid, withdraw_bid, quote_lot, day_close_lot}
use Rattle.rules.specs.Events.{money_of}
use Rattle.rules.specs.Laws.Chain.{On, event, chosen, only}
use Rattle.rules.specs.Laws.Fit.{Fit, quiet, holding, idle_in}
use Rattle.rules.specs.Laws.Kinds.{with_kind}
use Rattle.rules.specs.Laws.Passed.{Passed, ranges, in_state, by_party}
use Rattle.rules.specs.Laws.Receipts.{seller_in, buyer_in, listing_in, bid_in, owned_in, owned_some, sellers, held_deposit, held_own}
use Rattle.rules.specs.Laws.Tables.{among_one, among_each}
use Rattle.rules.specs.Numbers.{lacks_ask, not_payable, lacks_money}
use Rattle.rules.specs.Tables.{among}
use Rattle.rules.specs.View.{free_of, ask_of, view_of}

-- what is done at lot n, of record f, keeps what it has to
abbrev pub FitsAt : Zone → ℕ → Record → AtLot → Type 0
FitsAt z n f a = On (Fit z.accounts n f) a

-- call c, as one of kind k, passes the tests at a lot of record f
abbrev pub Tested : Zone → Call → Record → ℕ → Type 0
Tested z c f k = Passed (view_of z c.account f) (with_kind c k) f

-- states 1 and 2
pub offered : {s : ℕ} → among s (1 ∷ 2 ∷ []) ≡ true → InRange 1 2 s
offered {s} h = among_each (InRange 1 2) s (1 ∷ 2 ∷ []) (omega arith, (omega arith, tt)) h

-- the due day of a trade struck on a valid day
pub due_in : (v : View) (days : ℕ) → InRange 1 last_day v.day → days ≤ most_days → InRange 1 last_due (due_day v days)
due_in v days d h = go (v.afternoon && eqb days 0)
  where
    go : (b : Bool) → InRange 1 last_due (cond b (v.day + 1) (v.day + days))
    go true = omega arith
    go false = omega arith

module _ (z : Zone) (day : InRange 1 last_day z.day) (c : Call) (n : ℕ) (f : Record) (ok : record_valid f ≡ true) where
  -- ── Registration and listings ────────────────────────────────────────────────────────────────

  pub register_fit : Tested z c f 3 → FitsAt z n f (register (with_kind c 3) n)
  unfolding register money_of held record_of
  register_fit P =
      let R = ranges P in
      let a : InRange 1 account_count c.account = range_in R.0 in
      event (record {
        entry = omega arith;
        pays = quiet refl refl;
        known = idle_in (record { owner = a; weight = range_in R.1.1.1.0; premium = R.1.1.0 });
      })

  pub list_fit : Tested z c f 4 → FitsAt z n f (list_for (with_kind c 4) n f)
  unfolding list_for money_of held record_of
  list_fit P =
      let R = ranges P in
      let a : InRange 1 account_count c.account = range_in R.0 in
      let o : f.owner ≡ c.account = sym (eqb-true c.account f.owner (by_party P)) in
      event (record {
        entry = omega arith;
        pays = quiet refl refl;
        known = record {
          owned = owned_some f ok (λ e. omega arith);
          owner = o;
          listing = record { seller = a; contract = range_in R.1.1.0; days = leb-true _ _ R.1.1.1.0; basis = R.1.1.1.1.0 };
        };
      })

  -- a listing ends: kinds 5 and 15
  ended : InRange 1 2 f.state → FitsAt z n f (event_of n f Idle 3 0)
  unfolding money_of held record_of
  ended s =
      let a : InRange 1 account_count f.seller = seller_in f ok s.low in
      event (record { entry = omega arith; pays = quiet refl refl; known = idle_in (owned_in f ok s.low) })

  pub withdraw_listing_fit : Tested z c f 5 → FitsAt z n f (withdraw_listing n f)
  unfolding withdraw_listing
  withdraw_listing_fit P = ended (offered (in_state P))

  pub day_close_fit : FitsAt z n f (day_close_lot n f)
  unfolding day_close_lot
  day_close_fit = only (among f.state (1 ∷ 2 ∷ [])) _ λ h. ended (offered h)

  -- ── Bids ─────────────────────────────────────────────────────────────────────────────────────

  -- a bid on a listing with the money for its deposit, struck and standing
  module _ (b : Bid) (s : InRange 1 2 f.state) (B : BidIn f.premium (listing_of f) b)
      (m : per_receipt ≤ (free_of z.accounts b.buyer).0 + held_from b.buyer f) where
    struck_fit : FitsAt z n f (bid_struck (view_of z c.account f) n f b)
    unfolding money_of held record_of view_of
    struck_fit =
        let L : ListingIn (listing_of f) = listing_in f ok s.low (omega arith) in
        let a : InRange 1 account_count b.buyer = B.buyer in
        let t : InRange 1 account_count f.seller = L.seller in
        let p : b.price.0 ≤ most_price = price_at_most _ B.price in
        event (record {
          entry = omega arith;
          pays = holding refl m;
          known = record {
            owned = owned_in f ok s.low;
            owner = sellers f ok s.low (omega arith);
            trade = record { listing = L; bid = B; due = due_in (view_of z c.account f) f.days day L.days };
          };
        })

    stands_fit : FitsAt z n f (bid_stands n f b)
    unfolding money_of held record_of
    stands_fit =
        let L : ListingIn (listing_of f) = listing_in f ok s.low (omega arith) in
        let a : InRange 1 account_count b.buyer = B.buyer in
        let t : InRange 1 account_count f.seller = L.seller in
        let p : b.price.0 ≤ most_price = price_at_most _ B.price in
        event (record {
          entry = omega arith;
          pays = holding refl m;
          known = record { owned = owned_in f ok s.low; owner = sellers f ok s.low (omega arith); listing = L; bid = B };
        })

  pub limit_bid_fit : Tested z c f 6 → FitsAt z n f (limit_bid (view_of z c.account f) (with_kind c 6) n f)
  unfolding limit_bid not_payable lacks_money view_of
  limit_bid_fit P =
      let R = ranges P in
      let b : Bid = record { buyer = c.account; price = record { 0 = c.amount } } in
      let s : InRange 1 2 f.state = offered (in_state P) in
      let B : BidIn f.premium (listing_of f) b = record {
        buyer = range_in R.0;
        price = R.1.1.0;
        differ = eqb-false _ _ (not-true _ (by_party P));
        pays = not-false _ P.payable;
      } in
      let m : per_receipt ≤ (free_of z.accounts c.account).0 + held_from c.account f = ltb-false _ _ P.money in
      chosen (meets_ask (view_of z c.account f) b.price) _ _ (λ _. struck_fit b s B m) (λ _. stands_fit b s B m)

  pub market_bid_fit : ask_ok (ask_of z.asks f.contract) ≡ true → Tested z c f 7
      → FitsAt z n f (market_bid (view_of z c.account f) (with_kind c 7) n f)
  unfolding market_bid not_payable lacks_money lacks_ask view_of ask_ok
  market_bid_fit q P =
      let R = ranges P in
      let b : Bid = record { buyer = c.account; price = ask_of z.asks f.contract } in
      struck_fit b (offered (in_state P))
      (record {
        buyer = range_in R.0;
        price = other (eqb b.price.0 0) (is_price b.price.0) P.ask q;
        differ = eqb-false _ _ (not-true _ (by_party P));
        pays = not-false _ P.payable;
      })
      (ltb-false _ _ P.money)
    where
      other : (x y : Bool) → x ≡ false → x || y ≡ true → y ≡ true
      other true y e h = absurd (true≢false e)
      other false y e h = h

  pub withdraw_bid_fit : Tested z c f 8 → FitsAt z n f (withdraw_bid n f)
  unfolding withdraw_bid money_of held record_of
  withdraw_bid_fit P =
      let s : f.state ≡ 2 = among_one 2 (in_state P) in
      let b : InRange 1 account_count f.buyer = buyer_in f ok (omega arith) in
      let L : ListingIn (listing_of f) = listing_in f ok (omega arith) (omega arith) in
      let t : InRange 1 account_count f.seller = L.seller in
      event (record {
        entry = omega arith;
        pays = quiet refl refl;
        known = record { owned = owned_in f ok (omega arith); owner = sellers f ok (omega arith) (omega arith); listing = L };
      })

  pub quote_fit : FitsAt z n f (quote_lot (view_of z c.account f) (with_kind c 9) n f)
  unfolding quote_lot
  quote_fit =
      let two : Bool = eqb f.state 2 in
      let same : Bool = eqb f.contract c.contract in
      let meets : Bool = meets_ask (view_of z c.account f) f.price in
      only (two && same && meets) _ λ h.
      let s : f.state ≡ 2 = eqb-true _ _ (both two same (both (two && same) meets h).0).0 in
      struck_fit (bid_of f) (omega arith) (bid_in f ok (omega arith) (omega arith))
      (omega (arith, held_own f, held_deposit f (omega arith) (omega arith)))
