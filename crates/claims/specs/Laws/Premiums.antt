-- The premium of a receipt: from the rule of each kind to every call, and from there to every list of calls.
-- Assumes nothing.
use Rattle.std.proofs.Math.Bool.{Bool, and-false}
use Rattle.std.specs.Prelude.{List, [], ◌∷◌, map, ◌≡◌, refl, ℕ, eqb, leb, ℤ, pos}
use Rattle.std.proofs.Common.{true≢false, sym, ap, ◌∙◌, subst, eq-eqb, ne_eqb}
use Rattle.std.proofs.Math.Logic.{◌≢◌}
use Rattle.std.proofs.Math.Decide.{ℕ_discrete}
use native.Mathlib.Omega.{arith}
use Rattle.units.specs.declared.Premium.{Premium}
use Rattle.units.specs.Ranges.{account_count, receipt_count}
use Rattle.zone.specs.declared.Lot.{Lot}
use Rattle.zone.specs.declared.Lot.TheVariants.{Idle}
use Rattle.zone.specs.declared.Receipt.{Receipt}
use Rattle.zone.specs.declared.Record.{Record}
use Rattle.zone.specs.declared.Zone.{Zone}
use Rattle.zone.specs.Laws.Back.{own_fields}
use Rattle.zone.specs.Laws.Tests.{InRange, range_in}
use Rattle.zone.specs.Laws.Valid.{fresh_valid}
use Rattle.zone.specs.Valid.{no_receipt, fresh_zone}
use Rattle.rules.specs.AtLot.{one_event}
use Rattle.rules.specs.declared.Call.{Call}
use Rattle.rules.specs.declared.Entry.{Entry}
use Rattle.rules.specs.declared.View.{View}
use Rattle.rules.specs.Effects.{with_lot, meets_ask, quote_meets, register, list_for, withdraw_listing, limit_bid, market_bid, withdraw_bid, quote_lot, lodge, has_money, close_lot, pay_first, send_invoice, confirm, day_close_lot, no_rule, rule_of, rule_at, opening, ending, first_lot, lot_count, effect}
use Rattle.rules.specs.Events.{posted, sweep}
use Rattle.rules.specs.Laws.Chain.{On, none, event, chosen, only, on_event, Visit}
use Rattle.rules.specs.Laws.Good.{Good, valid_at}
use Rattle.rules.specs.Laws.Keeps.{call_walk}
use Rattle.rules.specs.Laws.Kinds.{with_kind, ByKind, by_kind}
use Rattle.rules.specs.Laws.Links.{tested, visit_kind, Linked, receipt_at, receipt_beside, linked_receipt}
use Rattle.rules.specs.Laws.Passed.{PassedAt, passed_at, as_kind, ranges, unowned}
use Rattle.rules.specs.Laws.Receipts.{buyer_in}
use Rattle.rules.specs.Laws.Tables.{among_one}
use Rattle.rules.specs.Steps.{number_on}
use Rattle.rules.specs.Tables.{among}
use Rattle.rules.specs.View.{view_of, receipt_of_number, record_of_receipt}
use Rattle.image.specs.Image.{decode, encode}
use Rattle.image.specs.Laws.RoundTrip.{decode_encode, fresh_sized}
use Rattle.answers.specs.Buffers.{call_in}
use Rattle.crz.specs.Laws.Returned.{Left, refused, accepted, returned_case}
use Rattle.crz.specs.Laws.Valid.{good_image, Zero}
use Rattle.crz.specs.Returned.{record_number}
use Rattle.claims.specs.Demand.{Exchange, fed}
use Rattle.claims.specs.Laws.Calls.{zero_for, new_zone, accepted_call}
use Rattle.claims.specs.Laws.Singly.{OneByOne, none_made, then, one_by_one}
use Rattle.claims.specs.Laws.InStep.{nth_replicate}
use Rattle.claims.specs.History.{accepted_with}
use Rattle.claims.specs.Premiums.{receipt_in, Graded, PremiumGiven, PremiumStays, premium_by, premium_after, PremiumsKnown}

-- ── The rule of each kind ──────────────────────────────────────────────────────────────────────

-- The receipt after an event of kind k at record f: only a registration gives a premium, and it finds no owner; an owner is there where there
-- was one.
record Carries (k : ℕ) (f : Record) (r : Receipt) : Type 0 where
  premium : k ≢ 3 → r.premium ≡ f.premium
  unowned : k ≡ 3 → f.owner ≡ 0
  owned : f.owner ≢ 0 → r.owner ≢ 0

abbrev CarriesAt : ℕ → Record → Entry → Receipt → Type 0
CarriesAt k f e r = Carries k f r

-- with another lot alone it keeps both
kept : (k : ℕ) → k ≢ 3 → (f : Record) {e : Entry} {lot : Lot} → On (CarriesAt k f) (one_event e (with_lot f lot))
kept k n f = event (record { premium = λ _. refl; unowned = λ e. absurd (n e); owned = λ o. o })

module _ (z : Zone) (G : Good z) (c : Call) (n : ℕ) where
  abbrev f : Record
  f = record_of_receipt z n

  -- the buyer of a settled lot is its new owner
  settled : f.state ≡ 4 → f.buyer ≢ 0
  settled s e =
      let b : InRange 1 account_count f.buyer = buyer_in f (valid_at z G n) (omega arith) in
      omega (arith, b.low)

  abbrev Carrying : ℕ → Type 0
  Carrying k = Visit (with_kind c k) z n → On (CarriesAt k f) (rule_at (with_kind c k) z n)

  morning_close_lem : On (CarriesAt 11 f) (close_lot (view_of z c.account f) n f)
  unfolding close_lot view_of
  morning_close_lem =
      let money : Bool = has_money (view_of z c.account f) f in
      let other : ◌≢◌ {A = ℕ} 11 3 = λ e. omega arith in
      only (leb f.due z.day) _ λ _.
      chosen (among f.state (4 ∷ [])) _ _
      (λ h. chosen money _ _
      (λ _. event (record { premium = λ _. refl; unowned = λ e. absurd (other e); owned = λ _. settled (among_one 4 h) }))
      (λ _. kept 11 other f)) λ _.
      chosen (among f.state (3 ∷ [])) _ _
      (λ h. chosen money _ _ (λ _. kept 11 other f) (λ _. kept 11 other f)) λ _.
      only (among f.state (7 ∷ [])) _ (λ _. kept 11 other f)

  registration : Visit (with_kind c 3) z n → f.owner ≡ 0
  registration v = unowned c (tested refl v)

  by_rule : ByKind Carrying
  unfolding rule_of no_rule register list_for withdraw_listing limit_bid market_bid withdraw_bid quote_lot lodge pay_first send_invoice confirm day_close_lot
  by_rule =
      let view : View = view_of z c.account f in
      record {
        pay_in = λ v. none;
        take_out = λ v. none;
        register = λ v. event (record { premium = λ n. absurd (n refl); unowned = λ _. registration v; owned = λ o. absurd (o (registration v)) });
        list = λ v. kept 4 (λ e. omega arith) f;
        withdraw_listing = λ v. kept 5 (λ e. omega arith) f;
        limit_bid = λ v. chosen (meets_ask view (record { 0 = c.amount })) _ _ (λ _. kept 6 (λ e. omega arith) f) (λ _. kept 6 (λ e. omega arith) f);
        market_bid = λ v. kept 7 (λ e. omega arith) f;
        withdraw_bid = λ v. kept 8 (λ e. omega arith) f;
        quote = λ v. only (quote_meets view (with_kind c 9) f) _ (λ _. kept 9 (λ e. omega arith) f);
        lodge = λ v. kept 10 (λ e. omega arith) f;
        morning_close = λ v. morning_close_lem;
        first_payment = λ v. kept 12 (λ e. omega arith) f;
        invoice = λ v. kept 13 (λ e. omega arith) f;
        confirm = λ v. kept 14 (λ e. omega arith) f;
        day_close = λ v. only (among f.state (1 ∷ 2 ∷ [])) _ (λ _. kept 15 (λ e. omega arith) f);
        no_kind = λ k h v. absurd (true≢false (sym (visit_kind v) ∙ h));
      }

  carries : Visit c z n → On (CarriesAt c.kind f) (rule_at c z n)
  carries v = by_kind by_rule c.kind v

-- ── One call ───────────────────────────────────────────────────────────────────────────────────

-- receipt k has an owner and premium p
record GradedAt (rs : List Receipt) (k : ℕ) (p : Premium) : Type 0 where
  registered : (receipt_of_number rs k).owner ≢ 0
  premium : (receipt_of_number rs k).premium ≡ p

-- what receipt k of the next zone is: another than before only at the lot of the event
data Next (z : Zone) (e : Entry) (r : Receipt) (k : ℕ) (kind : ℕ) (x : Receipt) : Type 0 where
  same : x ≡ receipt_of_number z.receipts k → Next z e r k kind x
  changed : x ≡ r → Carries kind (record_of_receipt z k) r → Next z e r k kind x

next_receipt : {c : Call} {lo : ℕ} {z : Zone} {n : ℕ} {e : Entry} {r : Receipt} → Linked c lo z n e r → (k : ℕ)
    → Next z e r k c.kind (receipt_of_number (posted z e r).receipts k)
next_receipt {c} {lo} {z} {n} {e} {r} L k = go (ℕ_discrete n k)
  where
    go : Dec (n ≡ k) → Next z e r k c.kind (receipt_of_number (posted z e r).receipts k)
    go (yes q) =
        subst (λ (j : ℕ). Next z e r j c.kind (receipt_of_number (posted z e r).receipts j)) q
        (changed (linked_receipt L) (on_event (carries z L.good c n L.visit) L.rule))
    go (no o) = same (receipt_beside z e r k (λ q. o (sym (q ∙ L.fit.entry.lot))))

-- over an event
posted_graded : {c : Call} {lo : ℕ} {z : Zone} {n : ℕ} {e : Entry} {r : Receipt} → Linked c lo z n e r → (k : ℕ) (p : Premium)
    → GradedAt z.receipts k p → GradedAt (posted z e r).receipts k p
posted_graded {c} {lo} {z} {n} {e} {r} L k p S = go (next_receipt L k)
  where
    go : Next z e r k c.kind (receipt_of_number (posted z e r).receipts k) → GradedAt (posted z e r).receipts k p
    go (same q) =
        record {
          registered = λ o. S.registered (ap (λ (x : Receipt). x.owner) (sym q) ∙ o);
          premium = ap (λ (x : Receipt). x.premium) q ∙ S.premium;
        }
    go (changed q K) =
        let F = own_fields (receipt_of_number z.receipts k) in
        let o : (record_of_receipt z k).owner ≢ 0 = λ e. S.registered (sym F.owner ∙ e) in
        record {
          registered = λ e. K.owned o (ap (λ (x : Receipt). x.owner) (sym q) ∙ e);
          premium = ap (λ (x : Receipt). x.premium) q ∙ K.premium (λ e. o (K.unowned e)) ∙ F.premium ∙ S.premium;
        }

-- over an accepted call
call_graded : (z : Zone) (c : Call) → Good z → number_on z c ≡ 0 → (k : ℕ) (p : Premium) → GradedAt z.receipts k p → GradedAt (effect z c).zone.receipts k p
call_graded z c G q k p =
    call_walk (λ lo rs es last. GradedAt rs k p → GradedAt last k p) z c G q
    (record { end = λ G S. S; step = λ L K S. K (posted_graded L k p S) })

-- over every kind but a registration no receipt has another premium
other_premium : (z : Zone) (c : Call) → Good z → c.kind ≢ 3 → number_on z c ≡ 0 → (k : ℕ)
    → (receipt_of_number (effect z c).zone.receipts k).premium ≡ (receipt_of_number z.receipts k).premium
other_premium z c G o q k =
    call_walk (λ lo rs es last. (receipt_of_number last k).premium ≡ (receipt_of_number rs k).premium) z c G q
    (record { end = λ G. refl; step = λ L K. K ∙ one L k (next_receipt L k) })
  where
    one : {lo : ℕ} {z : Zone} {n : ℕ} {e : Entry} {r : Receipt} → Linked c lo z n e r → (k : ℕ)
        → Next z e r k c.kind (receipt_of_number (posted z e r).receipts k)
        → (receipt_of_number (posted z e r).receipts k).premium ≡ (receipt_of_number z.receipts k).premium
    one {z = z} L k (same q) = ap (λ (x : Receipt). x.premium) q
    one {z = z} L k (changed q K) = ap (λ (x : Receipt). x.premium) q ∙ K.premium o ∙ (own_fields (receipt_of_number z.receipts k)).premium

-- the receipts after a registration
module _ (z : Zone) (c : Call) (G : Good z) (P : PassedAt (with_kind c 3) z c.receipt) where
  registered_at : receipt_of_number (effect z (with_kind c 3)).zone.receipts c.receipt
      ≡ record { owner = c.account; weight = record { 0 = c.weight }; premium = record { 0 = c.basis }; lot = Idle }
  unfolding effect opening ending first_lot lot_count sweep rule_of register
  registered_at =
      let n : InRange 1 receipt_count c.receipt = range_in (ranges P).1.0 in
      receipt_at z _ _ G.sized n.low n.high

  beside : (k : ℕ) → k ≢ c.receipt → receipt_of_number (effect z (with_kind c 3)).zone.receipts k ≡ receipt_of_number z.receipts k
  unfolding effect opening ending first_lot lot_count sweep rule_of register
  beside k n = receipt_beside z _ _ k n

register_graded : (z : Zone) (c : Call) → Good z → c.kind ≡ 3 → number_on z c ≡ 0 → GradedAt (effect z c).zone.receipts c.receipt (record { 0 = c.basis })
register_graded z c G e q =
    let P : PassedAt (with_kind c 3) z c.receipt = as_kind c 3 e (passed_at z c q) in
    let at = registered_at z c G P in
    let a : InRange 1 account_count c.account = range_in (ranges P).0 in
    subst (λ (k : ℕ). GradedAt (effect z (with_kind c k)).zone.receipts c.receipt (record { 0 = c.basis })) (sym e)
    (record {
      registered = λ o. let none : c.account ≡ 0 = ap (λ (x : Receipt). x.owner) (sym at) ∙ o in omega (arith, a.low);
      premium = ap (λ (x : Receipt). x.premium) at;
    })

-- of every accepted call: what the claim over lists says of one
call_premium : (z : Zone) (c : Call) (es : List Entry) → Good z → number_on z c ≡ 0 → (k : ℕ)
    → (receipt_of_number (effect z c).zone.receipts k).premium.0 ≡ premium_by k c (accepted_with es) (receipt_of_number z.receipts k).premium.0
call_premium z c es G q k = go (ℕ_discrete c.kind 3) (ℕ_discrete k c.receipt)
  where
    go : Dec (c.kind ≡ 3) → Dec (k ≡ c.receipt)
        → (receipt_of_number (effect z c).zone.receipts k).premium.0 ≡ premium_by k c (accepted_with es) (receipt_of_number z.receipts k).premium.0
    go (no n) d = rw (ne_eqb c.kind 3 n) (ap (λ (x : Premium). x.0) (other_premium z c G n q k))
    go (yes e) (yes h) =
        rw (eq-eqb c.kind 3 e, eq-eqb c.receipt k (sym h), h) (ap (λ (x : Premium). x.0) (register_graded z c G e q).premium)
    go (yes e) (no n) =
        let P : PassedAt (with_kind c 3) z c.receipt = as_kind c 3 e (passed_at z c q) in
        rw (ne_eqb c.receipt k (λ h. n (sym h)), and-false (eqb c.kind 3))
        (subst (λ (j : ℕ). (receipt_of_number (effect z (with_kind c j)).zone.receipts k).premium.0 ≡ (receipt_of_number z.receipts k).premium.0) (sym e)
        (ap (λ (x : Receipt). x.premium.0) (beside z c G P k n)))

-- ── On bytes ───────────────────────────────────────────────────────────────────────────────────

-- of an image, from its zone
graded_in : {z : Zone} {image : List ℕ} {k : ℕ} {p : ℤ} → decode image ≡ z → GradedAt z.receipts k (record { 0 = p }) → Graded image k p
graded_in {z} {image} {k} {p} e S =
    let T : GradedAt (decode image).receipts k (record { 0 = p }) = subst (λ (y : Zone). GradedAt y.receipts k (record { 0 = p })) (sym e) S in
    record { registered = T.registered; premium = ap (λ (x : Premium). x.0) T.premium }

in_graded : {image : List ℕ} {k : ℕ} {p : ℤ} → Graded image k p → GradedAt (decode image).receipts k (record { 0 = p })
in_graded S = record { registered = S.registered; premium = ap (λ (x : ℤ). record { 0 = x }) S.premium }

-- an accepted call on an image
module _ (image : List ℕ) (c : Call) (Z : Zero image c) where
  good : Good (decode image)
  good = good_image image Z.valid

  given : c.kind ≡ 3 → Graded (encode (effect (decode image) c).zone) c.receipt c.basis
  given k = graded_in (new_zone image c Z) (register_graded (decode image) c good k Z.number)

  stays : (k : ℕ) (p : ℤ) → Graded image k p → Graded (encode (effect (decode image) c).zone) k p
  stays k p S = graded_in (new_zone image c Z) (call_graded (decode image) c good Z.number k _ (in_graded S))

pub premium_given : PremiumGiven
premium_given image call answer image' answer' R k =
    let A = accepted_call image call answer image' answer' R in
    subst (λ (i : List ℕ). Graded i (call_in call).receipt (call_in call).basis) (sym A.image_is) (given image (call_in call) A.zero k)

-- over one call, accepted or refused
next_graded : {image : List ℕ} (call answer : List ℕ) {number : ℕ} {image' answer' : List ℕ} → Left image (call_in call) answer number image' answer'
    → number ≡ record_number image call answer → (k : ℕ) (p : ℤ) → Graded image k p → Graded image' k p
next_graded call answer (refused n) e k p S = S
next_graded {image} call answer accepted e k p S = stays image (call_in call) (zero_for image call answer e) k p S

graded_after : {start : List ℕ} {list : List Exchange} {image : List ℕ} → OneByOne start list image → (k : ℕ) (p : ℤ) → Graded start k p → Graded image k p
graded_after none_made k p S = S
graded_after (then {list} {image} m call answer number image' answer' R) k p S =
    let C = returned_case image call answer number image' answer' R in
    next_graded call answer C.left C.is k p (graded_after m k p S)

pub premium_stays : PremiumStays
premium_stays start list image m = graded_after (one_by_one m)

-- ── From a fresh image ─────────────────────────────────────────────────────────────────────────

fresh_none : (k : ℕ) → receipt_of_number fresh_zone.receipts k ≡ no_receipt
unfolding receipt_of_number fresh_zone
fresh_none k = nth_replicate no_receipt receipt_count k

fresh_premium : (k : ℕ) → (receipt_in (encode fresh_zone) k).premium.0 ≡ pos 0
fresh_premium k =
    ap (λ (z : Zone). (receipt_of_number z.receipts k).premium.0) (decode_encode fresh_zone fresh_sized fresh_valid)
    ∙ ap (λ (r : Receipt). r.premium.0) (fresh_none k)

-- over one call
next_known : (list : List Exchange) {image : List ℕ} (call answer : List ℕ) {number : ℕ} {image' answer' : List ℕ}
    → Left image (call_in call) answer number image' answer' → number ≡ record_number image call answer → (k : ℕ)
    → (receipt_in image k).premium.0 ≡ premium_after k (map fed list)
    → (receipt_in image' k).premium.0 ≡ premium_after k (map fed (record { call = call; number = number; answer = answer' } ∷ list))
unfolding premium_after
next_known list call answer (refused n) e k S = S
next_known list {image} call answer accepted e k S =
    let c : Call = call_in call in
    let Z : Zero image c = zero_for image call answer e in
    ap (λ (z : Zone). (receipt_of_number z.receipts k).premium.0) (new_zone image c Z)
    ∙ call_premium (decode image) c [] (good image c Z) Z.number k
    ∙ ap (premium_by k c (accepted_with [])) S

known_after : {list : List Exchange} {image : List ℕ} → OneByOne (encode fresh_zone) list image → (k : ℕ) → (receipt_in image k).premium.0 ≡ premium_after k (map fed list)
unfolding premium_after
known_after none_made k = fresh_premium k
known_after (then {list} {image} m call answer number image' answer' R) k =
    let C = returned_case image call answer number image' answer' R in
    next_known list call answer C.left C.is k (known_after m k)

pub premiums_known : PremiumsKnown
premiums_known list image m = known_after (one_by_one m)
