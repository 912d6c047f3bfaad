-- A trade in state 6: from the rule of each kind to every call, and from there to every list of calls.
-- Assumes nothing.
use Rattle.std.specs.Prelude.{Bool, true, false, cond, List, [], ◌∷◌, ◌≢◌, ◌≡◌, ℕ, zero, suc, ◌+◌, ◌<◌, eqb, leb, take, drop}
use Rattle.std.proofs.Common.{true≢false, sym, ap, ◌∙◌, subst, arith, eqb-true, eq-eqb, ne_eqb}
use Rattle.std.proofs.Math.Path.{refl}
use Rattle.std.proofs.Math.Decide.{ℕ_discrete}
use Rattle.units.specs.declared.Fen.{Fen}
use Rattle.units.specs.Laws.Bounds.{so_far_full}
use Rattle.units.specs.Payments.{fen, rest_payment, paid_so_far}
use Rattle.zone.specs.declared.Lot.TheVariants.{Idle, FirstPaid}
use Rattle.zone.specs.declared.Receipt.{Receipt}
use Rattle.zone.specs.declared.Record.{Record}
use Rattle.zone.specs.declared.Zone.{Zone}
use Rattle.zone.specs.Held.{full, rest}
use Rattle.zone.specs.Laws.Facts.{owner_some}
use Rattle.zone.specs.Laws.Tests.{both}
use Rattle.zone.specs.Record.{record_of, trade_of}
use Rattle.rules.specs.declared.Call.{Call}
use Rattle.rules.specs.declared.Entry.{Entry}
use Rattle.rules.specs.declared.View.{View}
use Rattle.rules.specs.Effects.{event_of, quote_meets, register, list_for, withdraw_listing, limit_bid, market_bid, withdraw_bid, quote_lot, lodge, close_lot, pay_first, send_invoice, confirm, day_close_lot, no_rule, rule_of, rule_at, at_lots, effect}
use Rattle.rules.specs.Events.{posted, Done}
use Rattle.rules.specs.Laws.Chain.{On, none, event, only, chosen, on_event, Visit}
use Rattle.rules.specs.Laws.Good.{Good, valid_at}
use Rattle.rules.specs.Laws.Keeps.{call_walk}
use Rattle.rules.specs.Laws.Kinds.{with_kind, ByKind, by_kind}
use Rattle.rules.specs.Laws.Links.{tested, visit_kind, at_named, Linked, Walk, receipt_beside, linked_receipt}
use Rattle.rules.specs.Laws.Passed.{in_state, by_party, unowned}
use Rattle.rules.specs.Laws.Receipts.{PartPaid, part_paid, part_of, confirmed_invoices}
use Rattle.rules.specs.Steps.{number_on}
use Rattle.rules.specs.Tables.{among}
use Rattle.rules.specs.View.{view_of, receipt_of_number, record_of_receipt}
use Rattle.image.specs.Image.{valid_image, decode, encode}
use Rattle.answers.specs.Buffers.{call_in, call_records, answer_length}
use Rattle.crz.specs.CallTable.{in_turn}
use Rattle.crz.specs.Laws.CallTable.{table_taken, table_left}
use Rattle.crz.specs.Laws.Figures.{image_left}
use Rattle.crz.specs.Laws.Returned.{Left, refused, accepted, returned_case}
use Rattle.crz.specs.Laws.Valid.{good_image, Zero}
use Rattle.crz.specs.Returned.{record_number, Return, call_entry, Returned}
use Rattle.claims.specs.Cutting.{lot_in, part_in, parts_in, Followed, after_call, after_calls, follow, PartsBySum, CutAlike, Proceeds, goes_on, is_over, OverAtFull}
use Rattle.claims.specs.Demand.{Handed, MadeFrom, no_calls, next, next_table, next_figures, reply_of}
use Rattle.claims.specs.History.{accepted_with}
use Rattle.claims.specs.Laws.Calls.{zero_for, new_zone, read_back}
use Rattle.claims.specs.Laws.Demand.{stays_valid}
use Rattle.claims.specs.Laws.Order.{answer_permuted}
use Rattle.claims.specs.PriceOrder.{Permuted, none as no_more, keep, swap, via}

-- ── The rule of each kind ──────────────────────────────────────────────────────────────────────

-- Record f of lot k in state 6 becomes f' by a call that pays `parts` of the rest: its trade goes on, or the call was the confirmation that
-- brings it to full.
data Becomes (c : Call) (k : ℕ) (f : Record) (parts : ℕ) (f' : Record) : Type 0 where
  remains : f'.state ≡ 6 → trade_of f' ≡ trade_of f → full f' ≡ full f → f.paid.0 + parts ≡ f'.paid.0 → Becomes c k f parts f'
  ends : c.kind ≡ 14 → c.receipt ≡ k → c.account ≡ f.buyer → f.confirmed.0 + f.pending.0 ≡ (full f).0 → f'.state ≡ 0
      → f.paid.0 + parts ≡ (rest f).0 → Becomes c k f parts f'

-- what an entry of the lot pays of the rest
abbrev own_part : Entry → ℕ
own_part e = cond (eqb e.outcome 11) e.number 0

abbrev BecomesAt : Call → ℕ → Record → Entry → Receipt → Type 0
BecomesAt c n f e r = Becomes c n f (own_part e) (record_of r)

module _ (z : Zone) (G : Good z) (c : Call) (n : ℕ) (six : (record_of_receipt z n).state ≡ 6) where
  abbrev f : Record
  f = record_of_receipt z n

  -- a kind whose states have no 6 among them does not pass its test
  other_state : {X : Type 0} (l : List ℕ) → among 6 l ≡ false → among f.state l ≡ true → X
  other_state l e h = absurd (true≢false (sym h ∙ ap (λ (s : ℕ). among s l) six ∙ e))

  abbrev Becoming : ℕ → Type 0
  Becoming k = Visit (with_kind c k) z n → On (BecomesAt (with_kind c k) n f) (rule_at (with_kind c k) z n)

  registration : {X : Type 0} → Visit (with_kind c 3) z n → X
  registration v = absurd (owner_some f (valid_at z G n) (omega arith) (unowned c (tested refl v)))

  morning_close_lem : On (BecomesAt (with_kind c 11) n f) (close_lot (view_of z c.account f) n f)
  unfolding close_lot
  morning_close_lem =
      only (leb f.due (view_of z c.account f).day) _ λ _.
      chosen (among f.state (4 ∷ [])) _ _ (other_state (4 ∷ []) refl) λ _.
      chosen (among f.state (3 ∷ [])) _ _ (other_state (3 ∷ []) refl) λ _.
      only (among f.state (7 ∷ [])) _ (other_state (7 ∷ []) refl)

  confirmation : Visit (with_kind c 14) z n → On (BecomesAt (with_kind c 14) n f) (confirm n f)
  unfolding confirm record_of full
  confirmation v = go (eqb (f.confirmed.0 + f.pending.0) (full f).0) refl
    where
      P : PartPaid f
      P = part_paid f (valid_at z G n) six

      go : (b : Bool) → eqb (f.confirmed.0 + f.pending.0) (full f).0 ≡ b →
          On (BecomesAt (with_kind c 14) n f) (event_of n f (cond b Idle (FirstPaid (trade_of f) (confirmed_invoices f))) 11 (part_of f).0)
      go true q =
          let sum : f.confirmed.0 + f.pending.0 ≡ (full f).0 = eqb-true _ _ q in
          event (ends refl (sym (at_named refl v)) (eqb-true _ _ (by_party (tested refl v))) sum refl (P.last sum))
      go false q = event (remains refl refl refl refl)

  by_rule : ByKind Becoming
  unfolding rule_of no_rule register list_for withdraw_listing limit_bid market_bid withdraw_bid quote_lot lodge pay_first send_invoice day_close_lot record_of full
  by_rule =
      let view : View = view_of z c.account f in
      record {
        pay_in = λ v. none;
        take_out = λ v. none;
        register = λ v. registration v;
        list = λ v. other_state (0 ∷ []) refl (both _ _ (in_state (tested refl v))).0;
        withdraw_listing = λ v. other_state (1 ∷ 2 ∷ []) refl (in_state (tested refl v));
        limit_bid = λ v. other_state (1 ∷ 2 ∷ []) refl (in_state (tested refl v));
        market_bid = λ v. other_state (1 ∷ 2 ∷ []) refl (in_state (tested refl v));
        withdraw_bid = λ v. other_state (2 ∷ []) refl (in_state (tested refl v));
        quote = λ v. only (quote_meets view (with_kind c 9) f) _ (λ h. absurd (true≢false (sym h ∙ rw six)));
        lodge = λ v. other_state (3 ∷ []) refl (in_state (tested refl v));
        morning_close = λ v. morning_close_lem;
        first_payment = λ v. other_state (5 ∷ []) refl (in_state (tested refl v));
        invoice = λ v. event (remains refl refl refl (omega arith));
        confirm = λ v. confirmation v;
        day_close = λ v. only (among f.state (1 ∷ 2 ∷ [])) _ (other_state (1 ∷ 2 ∷ []) refl);
        no_kind = λ k h v. absurd (true≢false (sym (visit_kind v) ∙ h));
      }

  becomes : Visit c z n → On (BecomesAt c n f) (rule_at c z n)
  becomes v = by_kind by_rule c.kind v

-- ── One call ───────────────────────────────────────────────────────────────────────────────────

-- an entry of another lot pays nothing of this one's rest
part_beside : (k : ℕ) (e : Entry) → e.lot ≢ k → part_in k e ≡ 0
part_beside k e n = rw (ne_eqb e.lot k n)

part_own : (k : ℕ) (e : Entry) → e.lot ≡ k → part_in k e ≡ own_part e
part_own k e q = rw (eq-eqb e.lot k q)

-- in any order the parts add up to the same
parts_permuted : (k : ℕ) {es fs : List Entry} → Permuted es fs → parts_in k es ≡ parts_in k fs
unfolding parts_in
parts_permuted k no_more = refl
parts_permuted k (keep {e = e} p) = ap (λ (n : ℕ). part_in k e + n) (parts_permuted k p)
parts_permuted k swap = omega arith
parts_permuted k (via p q) = parts_permuted k p ∙ parts_permuted k q

becomes_as : {c : Call} {k : ℕ} {f : Record} {a b : ℕ} {f' f'' : Record} → a ≡ b → f' ≡ f'' → Becomes c k f a f' → Becomes c k f b f''
becomes_as {c} {k} {f} {a} {b} {f'} {f''} p q T = subst (λ (g : Record). Becomes c k f b g) q (subst (λ (n : ℕ). Becomes c k f n f') p T)

-- a chain from lot lo on leaves a lot below lo; what it makes of a trade that it finds in state 6
record OverChain (c : Call) (k lo : ℕ) (rs : List Receipt) (es : List Entry) (last : List Receipt) : Type 0 where
  untouched : k < lo → (receipt_of_number last k ≡ receipt_of_number rs k) × (parts_in k es ≡ 0)
  becomes : (record_of (receipt_of_number rs k)).state ≡ 6 → Becomes c k (record_of (receipt_of_number rs k)) (parts_in k es) (record_of (receipt_of_number last k))

module _ {c : Call} {k lo : ℕ} {z : Zone} {es : List Entry} {last : List Receipt} {n : ℕ} {e : Entry} {r : Receipt} (L : Linked c lo z n e r)
    (K : OverChain c k (suc n) (posted z e r).receipts es last) where
  abbrev After : Type 0
  After = Becomes c k (record_of_receipt z k) (part_in k e + parts_in k es) (record_of (receipt_of_number last k))

  lot_is : e.lot ≡ n
  lot_is = L.fit.entry.lot

  beside : k ≢ e.lot → (record_of_receipt z k).state ≡ 6 → After
  beside o s =
      let none_here : part_in k e ≡ 0 = part_beside k e (λ q. o (sym q)) in
      becomes_as (omega (arith, none_here)) refl
      (subst (λ (x : Receipt). (record_of x).state ≡ 6 → Becomes c k (record_of x) (parts_in k es) (record_of (receipt_of_number last k))) (receipt_beside z e r k o)
      K.becomes s)

  here : n ≡ k → (record_of_receipt z k).state ≡ 6 → After
  here m s =
      let after = K.untouched (omega (arith, m)) in
      let at : receipt_of_number (posted z e r).receipts k ≡ r = subst (λ (j : ℕ). receipt_of_number (posted z e r).receipts j ≡ r) m (linked_receipt L) in
      let six : (record_of_receipt z n).state ≡ 6 = rw m s in
      let T : Becomes c n (record_of_receipt z n) (own_part e) (record_of r) = on_event (becomes z L.good c n six L.visit) L.rule in
      becomes_as (omega (arith, part_own k e (lot_is ∙ m), after.1)) (sym (ap record_of (after.0 ∙ at)))
      (subst (λ (j : ℕ). Becomes c j (record_of_receipt z j) (own_part e) (record_of r)) m T)

  over_event : OverChain c k lo z.receipts (e ∷ es) last
  unfolding parts_in
  over_event =
      record {
        untouched = λ h.
            let o : k ≢ e.lot = λ q. omega (arith, L.above, lot_is) in
            let after = K.untouched (omega (arith, L.above)) in
            (after.0 ∙ receipt_beside z e r k o, omega (arith, part_beside k e (λ q. o (sym q)), after.1));
        becomes = λ s. go s (ℕ_discrete n k);
      }
    where
      go : (record_of_receipt z k).state ≡ 6 → Dec (n ≡ k) → After
      go s (yes m) = here m s
      go s (no o) = beside (λ q. o (sym (q ∙ lot_is))) s

over_chain : (c : Call) (k : ℕ) → Walk c (λ lo z es last. OverChain c k lo z.receipts es last.receipts)
unfolding parts_in
over_chain c k =
    record {
      end = λ G. record { untouched = λ h. (refl, refl); becomes = λ s. remains s refl refl (omega arith) };
      step = λ L K. over_event L K;
    }

call_becomes : (z : Zone) (c : Call) → Good z → number_on z c ≡ 0 → (k : ℕ) → (record_of_receipt z k).state ≡ 6
    → Becomes c k (record_of_receipt z k) (parts_in k (effect z c).entries) (record_of_receipt (effect z c).zone k)
unfolding effect
call_becomes z c G q k s =
    becomes_as (parts_permuted k (answer_permuted c.kind (at_lots z c).entries)) refl ((call_walk (OverChain c k) z c G q (over_chain c k)).becomes s)

-- ── On bytes ───────────────────────────────────────────────────────────────────────────────────

-- an accepted call on an image
becomes_on : (image : List ℕ) (c : Call) → Zero image c → (k : ℕ) → (lot_in image k).state ≡ 6
    → Becomes c k (lot_in image k) (parts_in k (effect (decode image) c).entries) (lot_in (encode (effect (decode image) c).zone) k)
becomes_on image c Z k s =
    becomes_as refl (ap (λ (z : Zone). record_of_receipt z k) (sym (new_zone image c Z)))
    (call_becomes (decode image) c (good_image image Z.valid) Z.number k s)

pub over_at_full : OverAtFull
over_at_full image call answer number image' answer' R k s =
    let C = returned_case image call answer number image' answer' R in
    go C.left C.is
  where
    proceeds : {parts : ℕ} {i : List ℕ} → Becomes (call_in call) k (lot_in image k) parts (lot_in i k) → Proceeds k image (call_in call) 0 i
    proceeds (remains six trade same paid) = goes_on six trade same
    proceeds (ends kind at by sum idle paid) = is_over refl kind at by sum idle

    go : {n : ℕ} {i a : List ℕ} → Left image (call_in call) answer n i a → n ≡ record_number image call answer → Proceeds k image (call_in call) n i
    go (refused n) e = goes_on s refl refl
    go accepted e = proceeds (becomes_on image (call_in call) (zero_for image call answer e) k s)

-- ── A list of calls ────────────────────────────────────────────────────────────────────────────

-- How far a trade that is followed has come in an image: in state 6, with what its outcomes 11 have added to what was paid; or over, with
-- all of the rest.
data Reached (k : ℕ) (start image : List ℕ) (c : Followed) : Type 0 where
  unfinished : c.over ≡ false → (lot_in image k).state ≡ 6 → full (lot_in image k) ≡ full (lot_in start k)
      → (lot_in start k).paid.0 + c.parts ≡ (lot_in image k).paid.0 → Reached k start image c
  finished : c.over ≡ true → (lot_in start k).paid.0 + c.parts ≡ (rest (lot_in start k)).0 → Reached k start image c

-- over an accepted call on a trade that was not over
accepted_reached : (k : ℕ) (start image : List ℕ) (c : Followed) (es : List Entry) (image' : List ℕ) {call : Call} → c.over ≡ false
    → full (lot_in image k) ≡ full (lot_in start k) → (lot_in start k).paid.0 + c.parts ≡ (lot_in image k).paid.0
    → Becomes call k (lot_in image k) (parts_in k es) (lot_in image' k) → Reached k start image' (after_call k image' (accepted_with es) c)
accepted_reached k start image c es image' o same paid (remains six trade same' paid') =
    rw o (unfinished (rw six) six (same' ∙ same) (omega (arith, paid, paid')))
accepted_reached k start image c es image' o same paid (ends kind at by sum idle paid') =
    rw o (finished (rw idle) (omega (arith, paid, paid', ap (λ (f : Fen). (rest_payment f).0) same)))

-- over one call, accepted or refused
next_reached : (k : ℕ) {start image : List ℕ} {c : Followed} (call answer : List ℕ) {number : ℕ} {image' answer' : List ℕ}
    → Left image (call_in call) answer number image' answer' → number ≡ record_number image call answer → Reached k start image c
    → Reached k start image' (after_call k image' (reply_of number answer') c)
next_reached k call answer l e (finished o paid) = rw o (finished refl paid)
next_reached k call answer (refused n) e (unfinished o six same paid) = rw (o, eq-eqb _ 6 six) (unfinished refl six same (omega (arith, paid)))
next_reached k {start} {image} {c} call answer accepted e (unfinished o six same paid) =
    let Z : Zero image (call_in call) = zero_for image call answer e in
    let d : Done = effect (decode image) (call_in call) in
    subst (λ (es : List Entry). Reached k start (encode d.zone) (after_call k (encode d.zone) (accepted_with es) c)) (sym (read_back image (call_in call) Z answer))
    (accepted_reached k start image c d.entries (encode d.zone) o same paid (becomes_on image (call_in call) Z k six))

one_reached : (k : ℕ) {start image : List ℕ} {c : Followed} (call answer : List ℕ) (number : ℕ) (image' answer' : List ℕ)
    → Returned image call answer number image' answer' → Reached k start image c → Reached k start image' (after_call k image' (reply_of number answer') c)
one_reached k {start} {image} call answer number image' answer' R =
    let C = returned_case image call answer number image' answer' R in
    next_reached k call answer C.left C.is

-- over the calls of a table
calls_reached : (k : ℕ) {start : List ℕ} (calls : List (List ℕ)) (image answers : List ℕ) (c : Followed) → Reached k start image c
    → Reached k start (in_turn call_entry image calls answers).0 (after_calls k image calls answers c)
unfolding in_turn after_calls
calls_reached k [] image answers c S = S
calls_reached k (call ∷ calls) image answers c S =
    let r : Return = call_entry image call (take answer_length answers) in
    calls_reached k calls r.1 (drop answer_length answers) _ (one_reached k call (take answer_length answers) r.0 r.1 r.2 refl S)

reached : (k : ℕ) {start : List ℕ} {list : List Handed} {image : List ℕ} (made : MadeFrom start list image) → (lot_in start k).state ≡ 6
    → Reached k start image (follow k made)
unfolding follow
reached k no_calls s = unfinished refl s refl (omega arith)
reached k (next m call answer number image' answer' R) s = one_reached k call answer number image' answer' R (reached k m s)
reached k {start} (next_table {image = image} m calls answers zero image' answers' R) s =
    let c : Followed = after_calls k image (call_records calls) answers (follow k m) in
    subst (λ (i : List ℕ). Reached k start i c) (sym (table_taken image calls answers image' answers' R).image_is)
    (calls_reached k (call_records calls) image answers (follow k m) (reached k m s))
reached k {start} (next_table {image = image} m calls answers (suc n) image' answers' R) s =
    subst (λ (i : List ℕ). Reached k start i (follow k m)) (sym (table_left image calls answers n image' answers' R).1) (reached k m s)
reached k {start} (next_figures {image = image} m figures number image' figures' R) s =
    subst (λ (i : List ℕ). Reached k start i (follow k m)) (sym (image_left image figures number image' figures' R)) (reached k m s)

-- lot k of a valid image in state 6
part_paid_in : (image : List ℕ) (k : ℕ) → valid_image image ≡ true → (lot_in image k).state ≡ 6 → PartPaid (lot_in image k)
part_paid_in image k ok s = part_paid (lot_in image k) (valid_at (decode image) (good_image image ok) k) s

pub parts_by_sum : PartsBySum
parts_by_sum start list image made ok k s = go (follow k made) (reached k made s)
  where
    go : (c : Followed) → Reached k start image c → (lot_in start k).paid.0 + c.parts
        ≡ (paid_so_far (full (lot_in start k)) (fen (cond c.over (full (lot_in start k)).0 (lot_in image k).confirmed.0))).0
    go c (unfinished o six same paid) =
        rw o (paid ∙ (part_paid_in image k (stays_valid start list image ok made) six).invoices.paid ∙ ap (λ (f : Fen). (paid_so_far f (lot_in image k).confirmed).0) same)
    go c (finished o paid) = rw o (paid ∙ sym (so_far_full (full (lot_in start k)) (omega (arith, (part_paid_in start k ok s).full_in.low))))

pub cut_alike : CutAlike
cut_alike start ok k s list₁ image₁ made₁ list₂ image₂ made₂ e =
    omega (
      arith,
      parts_by_sum start list₁ image₁ made₁ ok k s,
      parts_by_sum start list₂ image₂ made₂ ok k s,
      ap (λ (n : ℕ). (paid_so_far (full (lot_in start k)) (fen n)).0) e,
    )
