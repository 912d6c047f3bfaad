-- A lot that a close works: the rule's event there, the record put, and the money that moves.
-- Assumes nothing.
use Rattle.std.specs.Prelude.{Result, Ok, Some, None, Bool, true, false, pos, List, [], ◌∷◌, ◌≡◌, ℕ, ◌+◌, ◌-◌, ◌≤◌, ◌<◌, leb, set}
use Rattle.std.proofs.Common.{refl, sym, ap, ◌∙◌, subst, le-leb, ne_eqb}
use Rattle.std.proofs.lemmas.Bool.{lt-leb}
use Rattle.units.specs.declared.Fen.{Fen}
use Rattle.units.specs.Payments.{fen, deposit, penalty_passed}
use Rattle.units.specs.Ranges.{account_count, money_limit, most_weight}
use Rattle.zone.specs.declared.Account.{Account}
use Rattle.zone.specs.declared.Hold.{Hold}
use Rattle.zone.specs.declared.Lot.TheVariants.{Idle, Settled, PenaltyDue}
use Rattle.zone.specs.declared.Receipt.{Receipt}
use Rattle.zone.specs.declared.Record.{Record}
use Rattle.zone.specs.declared.Zone.{Zone}
use Rattle.zone.specs.Held.{full, held, hold_of}
use Rattle.zone.specs.Laws.Facts.{bounds}
use Rattle.zone.specs.Parts.{with_accounts, with_receipts}
use Rattle.zone.specs.Record.{record_of, receipt_of, trade_of}
use Rattle.zone.specs.declared.State.{State}
use Rattle.zone.specs.declared.State.TheVariants.{Idle as IdleState, Listed, BidStands, Struck, Lodged, Settled as SettledState, FirstPaid, PenaltyDue as PenaltyDueState}
use Rattle.zone.specs.declared.UnknownState.{UnknownState}
use Rattle.zone.specs.State.{state_number, state_of}
use Rattle.zone.specs.Valid.{record_valid}
use Rattle.image.specs.Image.{decode, encode, Encoded, Fits}
use Rattle.image.specs.Laws.RoundTrip.{decode_sized, valid_fits}
use Rattle.rules.specs.AtLot.{AtLot, one_event}
use Rattle.rules.specs.declared.Call.{Call}
use Rattle.rules.specs.declared.Entry.{Entry}
use Rattle.rules.specs.Effects.{entry_of, owned_by, with_lot, close_lot, close_lodged, close_struck, close_penalty, day_close_lot, rule_of, rule_at, sweeps}
use Rattle.rules.specs.Events.{credit, debit, release, freeze, money_moved, money_of, accounts_after, posted, after_lot}
use Rattle.rules.specs.Laws.Chain.{swept}
use Rattle.rules.specs.Laws.Ready.{ready_at}
use Rattle.rules.specs.Laws.Trades.{close_none}
use Rattle.rules.specs.Ready.{Funds}
use Rattle.rules.specs.Tables.{among}
use Rattle.rules.specs.View.{free_of, view_of, record_of_receipt}
use Rattle.events.specs.Laws.Moved.{Moved, ReceiptPut, record_put, record_valid_lem, encoded, released}
use Rattle.events.specs.Laws.Nothing.{debit_nothing, credit_nothing, release_nothing, freeze_nothing}
use Rattle.events.specs.Posting.{Postable}
use Rattle.lots.specs.Laws.Posts.{visit_posts}
use Rattle.lots.specs.Laws.Visits.{good_decode, rule_by}
use Rattle.lots.specs.Noted.{Worked}
use Rattle.closes.specs.Visited.{Visited, Due}

-- ── Calls ──────────────────────────────────────────────────────────────────────────────────────

-- some call of a kind: what a close does at a lot is by the lot, whichever call it is of
abbrev some_call : ℕ → Call
some_call kind =
    record { kind = kind; account = 0; receipt = 0; contract = 0; days = 0; spare = 0; amount = 0; basis = pos 0; weight = 0 }

abbrev morning : Call
morning = some_call 11

abbrev day_end : Call
day_end = some_call 15

-- ── States ─────────────────────────────────────────────────────────────────────────────────────

read_back : (t : State) → state_of (state_number t) ≡ Ok t
unfolding state_of
read_back IdleState = refl
read_back Listed = refl
read_back BidStands = refl
read_back Struck = refl
read_back Lodged = refl
read_back SettledState = refl
read_back FirstPaid = refl
read_back PenaltyDueState = refl

-- a number that was read as something else is not that of the state
pub other_state : {r : Result State UnknownState} {n : ℕ} (t : State) → r ≡ state_of n → (r ≡ Ok t → ⊥) → n ≡ state_number t → ⊥
other_state t e other q = other (e ∙ ap state_of q ∙ read_back t)

pub another_state : {r : Result State UnknownState} {n : ℕ} {s : State} (t : State) → r ≡ state_of n → r ≡ Ok s → (s ≡ t → ⊥) → n ≡ state_number t → ⊥
another_state {r} {n} {s} t e is other = other_state t e (λ q. other (let same : Ok s ≡ Ok t = sym is ∙ q in cc))

-- ── The event ──────────────────────────────────────────────────────────────────────────────────

-- the event of a close at a lot can be posted
can_post : (c : Call) (n : ℕ) (s : List ℕ) {e : Entry} {r : Receipt} → Visited n s → sweeps c.kind ≡ true
    → rule_at c (decode s) n ≡ one_event e r → Postable (decode s) e r
can_post c n s at w q = visit_posts (good_decode s at.valid) at.low at.high (swept w) q

-- the buyer's free money and the deposit reach full
abbrev pub affords : List ℕ → Record → Bool
affords s f = leb (full f).0 ((free_of (decode s).accounts f.buyer).0 + deposit.0)

module _ {n : ℕ} {s : List ℕ} {f : Record} (D : Due n s f) where
  -- what the code finds of it
  pub tells_money : {b : Bool} {whole free : Fen} → b ≡ leb whole.0 (free.0 + deposit.0) → whole ≡ full f
      → free ≡ free_of (decode s).accounts f.buyer → b ≡ affords s f
  tells_money e w q = e ∙ (λ i. leb (w i).0 ((q i).0 + deposit.0))

  -- the record is valid, and the buyer's money within its limit
  pub due_valid : record_valid f ≡ true
  due_valid = rw D.read (record_valid_lem (decode s) (valid_fits (decode s) D.at.valid) n)

  pub due_weight : f.weight.0 ≤ most_weight
  due_weight = (bounds f due_valid).weight

  pub buyer_limit : (free_of (decode s).accounts f.buyer).0 ≤ money_limit
  unfolding view_of
  buyer_limit = rw D.read (ready_at (decode s) (good_decode s D.at.valid) morning n).buyer

  -- what a morning close does at a lot that is due, by its state
  module _ (c : Call) (k : c.kind ≡ 11) where
    by_close : rule_at c (decode s) n ≡ close_lot (view_of (decode s) c.account f) n f
    unfolding rule_of
    by_close = rule_by c (decode s) n 11 k ∙ ap (λ (g : Record). close_lot (view_of (decode s) c.account g) n g) (sym D.read)

    lodged : f.state ≡ 4 → rule_at c (decode s) n ≡ close_lodged (view_of (decode s) c.account f) n f
    unfolding close_lot view_of
    lodged e = by_close ∙ rw (e, le-leb _ _ D.day)

    struck : f.state ≡ 3 → rule_at c (decode s) n ≡ close_struck (view_of (decode s) c.account f) n f
    unfolding close_lot view_of
    struck e = by_close ∙ rw (e, le-leb _ _ D.day)

    penalty : f.state ≡ 7 → rule_at c (decode s) n ≡ close_penalty (view_of (decode s) c.account f) n f
    unfolding close_lot view_of
    penalty e = by_close ∙ rw (e, le-leb _ _ D.day)

    -- the five events
    pub settles : f.state ≡ 4 → affords s f ≡ true
        → rule_at c (decode s) n ≡ one_event (entry_of n 8 f.seller f.buyer (full f).0) (owned_by f.buyer f (Settled (trade_of f)))
    unfolding view_of
    settles e h = lodged e ∙ rw h

    pub buyer_defaults : f.state ≡ 4 → affords s f ≡ false
        → rule_at c (decode s) n ≡ one_event (entry_of n 12 f.seller f.buyer deposit.0) (with_lot f Idle)
    unfolding view_of
    buyer_defaults e h = lodged e ∙ rw h

    pub seller_defaults : f.state ≡ 3 → affords s f ≡ true
        → rule_at c (decode s) n ≡ one_event (entry_of n 13 f.seller f.buyer 0) (with_lot f (PenaltyDue f.seller f.buyer ((decode s).day + 1)))
    unfolding view_of
    seller_defaults e h = struck e ∙ rw h

    pub both_default : f.state ≡ 3 → affords s f ≡ false
        → rule_at c (decode s) n ≡ one_event (entry_of n 14 f.seller f.buyer 0) (with_lot f Idle)
    unfolding view_of
    both_default e h = struck e ∙ rw h

    pub pays_penalty : f.state ≡ 7 → rule_at c (decode s) n
        ≡ one_event (entry_of n 15 f.seller f.buyer (penalty_passed (free_of (decode s).accounts f.seller)).0) (with_lot f Idle)
    unfolding view_of
    pays_penalty e = penalty e

    -- a lot in another state is no lot that the morning close works
    pub no_close : (f.state ≡ 4 → ⊥) → (f.state ≡ 3 → ⊥) → (f.state ≡ 7 → ⊥) → rule_at c (decode s) n ≡ None
    no_close a b d = by_close ∙ close_none (view_of (decode s) c.account f) n f (rw (ne_eqb f.state 3 b, ne_eqb f.state 4 a, ne_eqb f.state 7 d))

-- nor is one that is not due
pub not_due : (c : Call) (n : ℕ) (s : List ℕ) {f : Record} → c.kind ≡ 11 → f ≡ record_of_receipt (decode s) n → (decode s).day < f.due
    → rule_at c (decode s) n ≡ None
unfolding rule_of close_lot view_of
not_due c n s {f} k i h = rule_by c (decode s) n 11 k ∙ rw (lt-leb (record_of_receipt (decode s) n).due (decode s).day (rw i at h))

-- where the rule has no event, the image stays and nothing is listed
pub idle_worked : (c : Call) (n : ℕ) (s : List ℕ) → Encoded s → rule_at c (decode s) n ≡ None → Worked c n s s None
idle_worked c n s e q =
    (e ∙ ap (λ (a : AtLot). encode (after_lot (decode s) a).zone) (sym q), ap (λ (a : AtLot). (after_lot (decode s) a).entries) (sym q))

-- an event that is posted, and its entry
pub worked : (c : Call) (n : ℕ) (s : List ℕ) {s' : List ℕ} {e e' : Entry} {r : Receipt} → rule_at c (decode s) n ≡ one_event e r
    → s' ≡ encode (posted (decode s) e r) → e' ≡ e → Worked c n s s' (Some e')
worked c n s q is i =
    (is ∙ ap (λ (a : AtLot). encode (after_lot (decode s) a).zone) (sym q), ap (λ (x : Entry). x ∷ []) i ∙ ap (λ (a : AtLot). (after_lot (decode s) a).entries) (sym q))

-- ── The record put, then the money ─────────────────────────────────────────────────────────────

-- Image s₁ is s with the receipt after the event; the money of the event is there: what the lot held, what passes, what it holds after.
pub record Begun (s s₁ : List ℕ) (e : Entry) (r : Receipt) (old : Hold) (k : Fen) (new : Hold) : Type 0 where
  pub put : ReceiptPut s s₁ e.lot r
  pub encoded : Encoded s₁
  pub fits : Fits (decode s₁)
  pub funds : Funds (decode s₁).accounts old e.from e.to k new
  pub moves : accounts_after (record_of_receipt (decode s) e.lot) e (record_of r) (decode s).accounts
      ≡ money_moved old e.from e.to k new (decode s).accounts

begun : {s s₁ : List ℕ} {e : Entry} {r : Receipt} {f : Record} {old : Hold} {k : Fen} {new : Hold} → Postable (decode s) e r → f ≡ record_of r
    → s₁ ≡ encode (with_receipts (decode s) (set (decode s).receipts (e.lot - 1) (receipt_of f)))
    → hold_of (record_of_receipt (decode s) e.lot) ≡ old → money_of e ≡ k → hold_of (record_of r) ≡ new → Begun s s₁ e r old k new
unfolding accounts_after
begun {s} {s₁} {e} {r} {f} {old} {k} {new} P i is o m w =
    let R : ReceiptPut s s₁ e.lot r = record_put P.fits P.valid P.low i is in
    let l : List Account = (decode s).accounts in
    let F : Funds l old e.from e.to k new =
    subst (λ (h : Hold). Funds l h e.from e.to k new) o
    (subst (λ (h : Fen). Funds l (hold_of (record_of_receipt (decode s) e.lot)) e.from e.to h new) m
    (subst (λ (h : Hold). Funds l (hold_of (record_of_receipt (decode s) e.lot)) e.from e.to (money_of e) h) w P.funded)) in
    record {
      put = R;
      encoded = encoded s₁ _ R.is R.zone;
      fits = rw R.zone R.fits;
      funds = rw R.zone F;
      moves = λ i. money_moved (o i) e.from e.to (m i) (w i) (decode s).accounts;
    }

module _ {s s₁ : List ℕ} {e : Entry} {r : Receipt} {old : Hold} {k : Fen} {new : Hold} (B : Begun s s₁ e r old k new) where
  -- the accounts of the event's parties are there
  pub old_in : old.from ≤ account_count
  old_in = rw (← (decode_sized s₁).accounts) B.funds.old_in

  pub from_in : e.from ≤ account_count
  from_in = rw (← (decode_sized s₁).accounts) B.funds.from_in

  pub to_in : e.to ≤ account_count
  to_in = rw (← (decode_sized s₁).accounts) B.funds.to_in

  pub new_in : new.from ≤ account_count
  new_in = rw (← (decode_sized s₁).accounts) B.funds.new_in

  -- the moves that were made are those of the event
  pub ended : {s₂ : List ℕ} (moved : List Account → List Account) → ((l : List Account) → money_moved old e.from e.to k new l ≡ moved l)
      → s₂ ≡ encode (with_accounts (decode s₁) (moved (decode s₁).accounts)) → s₂ ≡ encode (posted (decode s) e r)
  unfolding posted
  ended moved same is =
      is
      ∙ ap (λ (y : Zone). encode (with_accounts y (moved y.accounts))) B.put.zone
      ∙ ap (λ (l : List Account). encode (with_accounts (posted (decode s) e r) l)) (sym (B.moves ∙ same (decode s).accounts))

-- what a move asks of the image that the one before it left
pub asked : {s s' : List ℕ} {l : List Account} → Moved s s' l → Encoded s' × Fits (decode s')
asked {s' = s'} M = (encoded s' _ M.is M.zone, rw M.zone M.fits)

-- of a lot that held nothing, nothing is freed
pub nothing_freed : {s s₁ : List ℕ} {e : Entry} {r : Receipt} {a : ℕ} {k : Fen} {new : Hold} → Begun s s₁ e r (record { from = a; fen = fen 0 }) k new
    → Moved s₁ s₁ (release a (fen 0) (decode s₁).accounts)
nothing_freed {s₁ = s₁} {a = a} B =
    released s₁ B.fits B.funds (B.encoded ∙ ap (λ (l : List Account). encode (with_accounts (decode s₁) l)) (sym (release_nothing a (decode s₁).accounts)))

-- ── The moves that are left ────────────────────────────────────────────────────────────────────

-- nothing passes and nothing is held after
pub only_released : (old : Hold) (from to a : ℕ) (l : List Account)
    → money_moved old from to (fen 0) (record { from = a; fen = fen 0 }) l ≡ release old.from old.fen l
only_released old from to a l =
    let m : List Account = release old.from old.fen l in
    freeze_nothing a (credit to (fen 0) (debit from (fen 0) m)) ∙ credit_nothing to (debit from (fen 0) m) ∙ debit_nothing from m

-- nothing passes
pub held_anew : (old : Hold) (from to : ℕ) (new : Hold) (l : List Account)
    → money_moved old from to (fen 0) new l ≡ freeze new.from new.fen (release old.from old.fen l)
held_anew old from to new l =
    let m : List Account = release old.from old.fen l in
    ap (freeze new.from new.fen) (credit_nothing to (debit from (fen 0) m) ∙ debit_nothing from m)

-- money passes, and nothing is held after
pub passed_on : (old : Hold) (from to : ℕ) (k : Fen) (a : ℕ) (l : List Account)
    → money_moved old from to k (record { from = a; fen = fen 0 }) l ≡ credit to k (debit from k (release old.from old.fen l))
passed_on old from to k a l = freeze_nothing a (credit to k (debit from k (release old.from old.fen l)))

-- ── What a lot holds ───────────────────────────────────────────────────────────────────────────

-- h fen from account a
abbrev pub hold_from : ℕ → Fen → Hold
hold_from a h = record { from = a; fen = h }

-- the hold of the record that was read, by its amount
had : (z : Zone) (n : ℕ) (f : Record) {h : Fen} → f ≡ record_of_receipt z n → held f ≡ h → hold_of (record_of_receipt z n) ≡ hold_from f.buyer h
had z n f r e = ap hold_of (sym r) ∙ (λ i. hold_from f.buyer (e i))

-- ── The five events of a morning close, begun ──────────────────────────────────────────────────

-- image s₁ is s with record g put at lot n
abbrev pub RecordPut : ℕ → List ℕ → Record → List ℕ → Type 0
RecordPut n s g s₁ = s₁ ≡ encode (with_receipts (decode s) (set (decode s).receipts (n - 1) (receipt_of g)))

module _ {n : ℕ} {s : List ℕ} {f : Record} (D : Due n s f) {g : Record} {s₁ : List ℕ} (p : RecordPut n s g s₁) {h : Fen} where
  pub settled_begun : {w : Fen} → f.state ≡ 4 → affords s f ≡ true → h ≡ deposit → w ≡ full f
      → g ≡ record_of (owned_by f.buyer f (Settled (trade_of f)))
      → Begun s s₁ (entry_of n 8 f.seller f.buyer (full f).0) (owned_by f.buyer f (Settled (trade_of f))) (hold_from f.buyer h) (fen 0) (hold_from f.buyer w)
  unfolding money_of record_of held full
  settled_begun e m q u i =
      let d : held f ≡ deposit = rw e in
      begun (can_post morning n s D.at refl (settles D morning refl e m)) i p (had (decode s) n f D.read (d ∙ sym q)) refl (λ i. hold_from f.buyer (sym u i))

  pub buyer_begun : f.state ≡ 4 → affords s f ≡ false → h ≡ deposit → g ≡ record_of (with_lot f Idle)
      → Begun s s₁ (entry_of n 12 f.seller f.buyer deposit.0) (with_lot f Idle) (hold_from f.buyer h) h (hold_from 0 (fen 0))
  unfolding money_of record_of held
  buyer_begun e m q i =
      let d : held f ≡ deposit = rw e in
      begun (can_post morning n s D.at refl (buyer_defaults D morning refl e m)) i p (had (decode s) n f D.read (d ∙ sym q)) (sym q) refl

  pub seller_begun : f.state ≡ 3 → affords s f ≡ true → h ≡ deposit
      → g ≡ record_of (with_lot f (PenaltyDue f.seller f.buyer ((decode s).day + 1)))
      → Begun s s₁ (entry_of n 13 f.seller f.buyer 0) (with_lot f (PenaltyDue f.seller f.buyer ((decode s).day + 1))) (hold_from f.buyer h) (fen 0)
      (hold_from f.buyer (fen 0))
  unfolding money_of record_of held
  seller_begun e m q i =
      let d : held f ≡ deposit = rw e in
      begun (can_post morning n s D.at refl (seller_defaults D morning refl e m)) i p (had (decode s) n f D.read (d ∙ sym q)) refl refl

  pub both_begun : f.state ≡ 3 → affords s f ≡ false → h ≡ deposit → g ≡ record_of (with_lot f Idle)
      → Begun s s₁ (entry_of n 14 f.seller f.buyer 0) (with_lot f Idle) (hold_from f.buyer h) (fen 0) (hold_from 0 (fen 0))
  unfolding money_of record_of held
  both_begun e m q i =
      let d : held f ≡ deposit = rw e in
      begun (can_post morning n s D.at refl (both_default D morning refl e m)) i p (had (decode s) n f D.read (d ∙ sym q)) refl refl

  pub penalty_begun : f.state ≡ 7 → h ≡ penalty_passed (free_of (decode s).accounts f.seller) → g ≡ record_of (with_lot f Idle)
      → Begun s s₁ (entry_of n 15 f.seller f.buyer (penalty_passed (free_of (decode s).accounts f.seller)).0) (with_lot f Idle)
      (hold_from f.buyer (fen 0)) h (hold_from 0 (fen 0))
  unfolding money_of record_of held
  penalty_begun e q i =
      let d : held f ≡ fen 0 = rw e in
      begun (can_post morning n s D.at refl (pays_penalty D morning refl e)) i p (had (decode s) n f D.read d) (sym q) refl

-- ── The day close ──────────────────────────────────────────────────────────────────────────────

-- a listing, with what it holds: nothing with no bid, with one the deposit
pub record Offer (f : Record) (h : Fen) : Type 0 where
  pub state : among f.state (1 ∷ 2 ∷ []) ≡ true
  pub held : held f ≡ h

pub listed_offer : {f : Record} → f.state ≡ 1 → Offer f (fen 0)
unfolding held
listed_offer e = record { state = rw e; held = rw e }

pub bid_offer : {f : Record} {h : Fen} → f.state ≡ 2 → h ≡ deposit → Offer f h
unfolding held
bid_offer {f} {h} e q = let d : held f ≡ deposit = rw e in record { state = rw e; held = d ∙ sym q }

module _ (n : ℕ) (s : List ℕ) {f : Record} (r : f ≡ record_of_receipt (decode s) n) where
  module _ (c : Call) (k : c.kind ≡ 15) where
    by_day : rule_at c (decode s) n ≡ day_close_lot n f
    unfolding rule_of
    by_day = rule_by c (decode s) n 15 k ∙ ap (day_close_lot n) (sym r)

    -- an offer ends, and nothing else
    pub ends : among f.state (1 ∷ 2 ∷ []) ≡ true → rule_at c (decode s) n ≡ one_event (entry_of n 3 f.seller f.buyer 0) (with_lot f Idle)
    unfolding day_close_lot
    ends w = by_day ∙ rw w

    pub no_offer : (f.state ≡ 1 → ⊥) → (f.state ≡ 2 → ⊥) → rule_at c (decode s) n ≡ None
    unfolding day_close_lot
    no_offer a b = by_day ∙ rw (ne_eqb _ 1 a, ne_eqb _ 2 b)

  pub offer_begun : Visited n s → {g : Record} {s₁ : List ℕ} → RecordPut n s g s₁ → g ≡ record_of (with_lot f Idle) → {h : Fen} → Offer f h
      → Begun s s₁ (entry_of n 3 f.seller f.buyer 0) (with_lot f Idle) (hold_from f.buyer h) (fen 0) (hold_from 0 (fen 0))
  unfolding money_of record_of held
  offer_begun at p i O = begun (can_post day_end n s at refl (ends day_end refl O.state)) i p (had (decode s) n f r O.held) refl refl
