-- A quote lists the strikes of its sweep by price: from what its answer gives back, and the laws of the order.
-- Assumes nothing.
use Rattle.std.specs.Prelude.{List, ◌∷◌, ◌≢◌, ◌≡◌, refl, ℕ, suc, ◌≤◌}
use Rattle.std.proofs.Common.{sym, ap, ◌∙◌, subst, arith, eqb-true, eq-eqb}
use Rattle.zone.specs.declared.Receipt.{Receipt}
use Rattle.zone.specs.declared.Record.{Record}
use Rattle.zone.specs.declared.Zone.{Zone}
use Rattle.zone.specs.Laws.Tests.{both}
use Rattle.zone.specs.Record.{record_of}
use Rattle.rules.specs.declared.Call.{Call}
use Rattle.rules.specs.declared.Entry.{Entry}
use Rattle.rules.specs.declared.View.{View}
use Rattle.rules.specs.Effects.{quote_meets, quote_lot, rule_at, at_lots, effect, lot_count, opening}
use Rattle.rules.specs.Events.{posted, sweep}
use Rattle.rules.specs.Laws.Chain.{On, event, only, on_event, taken}
use Rattle.rules.specs.Laws.Good.{Good}
use Rattle.rules.specs.Laws.Keeps.{opened, opening_good}
use Rattle.rules.specs.Laws.Links.{Linked, Walk, good_walk, receipt_beside}
use Rattle.rules.specs.Order.{by_price, answer_order}
use Rattle.rules.specs.View.{receipt_of_number, view_of, record_of_receipt}
use Rattle.image.specs.Image.{decode}
use Rattle.answers.specs.Buffers.{call_in, entries_in}
use Rattle.calls.specs.Laws.Lots.{all_lots}
use Rattle.visits.specs.Laws.Strikes.{by_quote}
use Rattle.claims.specs.PriceOrder.{EachEntry, Apart, StrikesBid, ByPrice, strikes_of, QuoteByPrice}
use Rattle.crz.specs.Laws.Valid.{good_image, Zero}
use Rattle.claims.specs.Laws.Calls.{accepted_call, read_back}
use Rattle.claims.specs.Laws.Kept.{lots_ordered}
use Rattle.claims.specs.Laws.Order.{ascending_apart, each_map, permuted_apart, permuted_each, price_permuted, price_descending}

-- ── Records that an event leaves ───────────────────────────────────────────────────────────────

other_record : (z : Zone) (e : Entry) (r : Receipt) (k : ℕ) → k ≢ e.lot → record_of_receipt (posted z e r) k ≡ record_of_receipt z k
unfolding posted receipt_of_number
other_record z e r k n = ap record_of (receipt_beside z e r k n)

opened_record : (c : Call) (z : Zone) (k : ℕ) → record_of_receipt (opening c z) k ≡ record_of_receipt z k
opened_record c z k = ap (λ (rs : List Receipt). record_of (receipt_of_number rs k)) (opened c z).receipts

-- ── A quote strikes bids that stand ────────────────────────────────────────────────────────────

-- the entry of lot n strikes the bid of record f
record StrikesAt (n : ℕ) (f : Record) (e : Entry) : Type 0 where
  lot : e.lot ≡ n
  outcome : e.outcome ≡ 6
  stood : f.state ≡ 2
  bidder : e.from ≡ f.buyer
  price : e.number ≡ f.price.0

quote_strikes : (v : View) (c : Call) (n : ℕ) (f : Record) → On (λ e r. StrikesAt n f e) (quote_lot v c n f)
unfolding quote_lot
quote_strikes v c n f =
    only (quote_meets v c f) _ λ t.
    event (record { lot = refl; outcome = refl; stood = eqb-true _ 2 (both _ _ (both _ _ t).0).0; bidder = refl; price = refl })

rule_strikes : (c : Call) → c.kind ≡ 9 → (z : Zone) (n : ℕ) → On (λ e r. StrikesAt n (record_of_receipt z n) e) (rule_at c z n)
rule_strikes c k z n =
    let f : Record = record_of_receipt z n in
    subst (On (λ e r. StrikesAt n f e)) (sym (by_quote c k z n)) (quote_strikes (view_of z c.account f) c n f)

-- of the record as it is in another zone
strikes_in : (y z : Zone) (e : Entry) → record_of_receipt y e.lot ≡ record_of_receipt z e.lot → StrikesBid y e → StrikesBid z e
strikes_in y z e q S =
    record {
      outcome = S.outcome;
      stood = ap (λ (f : Record). f.state) (sym q) ∙ S.stood;
      bidder = S.bidder ∙ ap (λ (f : Record). f.buyer) q;
      price = S.price ∙ ap (λ (f : Record). f.price.0) q;
    }

-- lots from n on, each with its bid
abbrev From : ℕ → Zone → List Entry → Type 0
From n z es = EachEntry (λ e. (n ≤ e.lot) × StrikesBid z e) es

-- an event at lot n leaves the records of the lots behind it
behind : (z : Zone) (n m : ℕ) (e : Entry) (r : Receipt) → e.lot ≡ n → m ≤ n → (es : List Entry) → From (suc n) (posted z e r) es → From m z es
behind z n m e r q h =
    each_map (λ x. (suc n ≤ x.lot) × StrikesBid (posted z e r) x) (λ x. (m ≤ x.lot) × StrikesBid z x)
    λ x K. (omega (arith, K.0), strikes_in (posted z e r) z x (other_record z e r x.lot (omega (arith, K.0))) K.1)

strikes : (c : Call) → c.kind ≡ 9 → Walk c (λ lo z es last. From lo z es)
strikes c k = record { end = λ G. tt; step = λ {lo} {z} {es} L K. one es L K }
  where
    one : {lo : ℕ} {z : Zone} (es : List Entry) {n : ℕ} {e : Entry} {r : Receipt} → Linked c lo z n e r → From (suc n) (posted z e r) es → From lo z (e ∷ es)
    one {lo} {z} es {n} {e} {r} L K =
        let S : StrikesAt n (record_of_receipt z n) e = on_event (rule_strikes c k z n) L.rule in
        let q : e.lot ≡ n = S.lot in (
          (
            omega (arith, L.above),
            record {
              outcome = S.outcome;
              stood = rw q S.stood;
              bidder = rw q S.bidder;
              price = rw q S.price;
            },
          ),
          behind z n lo e r q L.above es K,
        )

bids_of : (n : ℕ) (y z : Zone) → ((m : ℕ) → record_of_receipt y m ≡ record_of_receipt z m) → (es : List Entry) → From n y es → EachEntry (StrikesBid z) es
bids_of n y z q = each_map (λ e. (n ≤ e.lot) × StrikesBid y e) (StrikesBid z) λ e K. strikes_in y z e (q e.lot) K.1

-- ── The claim ──────────────────────────────────────────────────────────────────────────────────

module _ (image : List ℕ) (c : Call) (ok : Zero image c) (k : c.kind ≡ 9) where
  abbrev z : Zone
  z = decode image

  abbrev swept : List Entry
  swept = (at_lots z c).entries

  good : Good z
  good = good_image image ok.valid

  all_swept : swept ≡ strikes_of image c
  all_swept =
      let A = all_lots c (rw k) in
      ap (λ (n : ℕ). (sweep (rule_at c) (lot_count c) n (opening c z)).entries) A.0
      ∙ ap (λ (n : ℕ). (sweep (rule_at c) n 1 (opening c z)).entries) A.1

  in_price_order : ByPrice z (strikes_of image c) (by_price (strikes_of image c))
  in_price_order =
      subst (λ (es : List Entry). ByPrice z es (by_price es)) all_swept
      (let T = taken z c ok.number in
      let apart : Apart swept = ascending_apart 1 swept (lots_ordered z c good T).ascending in
      let found : From 1 (opening c z) swept = good_walk (strikes c k) T.chain (opening_good z good c T.passed) in
      let struck : EachEntry (StrikesBid z) swept = bids_of 1 (opening c z) z (λ m. opened_record c z m) swept found in
      record {
        same = price_permuted swept;
        once = permuted_apart (price_permuted swept) apart;
        struck = permuted_each (StrikesBid z) (price_permuted swept) struck;
        order = price_descending swept apart;
      })

  listed : (effect z c).entries ≡ by_price (strikes_of image c)
  unfolding effect answer_order
  listed = rw (eq-eqb c.kind 9 k) (ap by_price all_swept)

pub quote_by_price : QuoteByPrice
quote_by_price image call answer image' answer' R k =
    let A = accepted_call image call answer image' answer' R in
    let c : Call = call_in call in
    let Z : Zero image c = A.zero in
    subst (ByPrice (decode image) (strikes_of image c)) (sym (ap entries_in A.answer_is ∙ read_back image c Z answer ∙ listed image c Z k)) (in_price_order image c Z k)
