-- Every event of an accepted call on a good zone fits, and leaves a good zone: one walk that tells all that is known at each link.
-- Assumes nothing.
use Rattle.std.proofs.Math.Bool.{true}
use Rattle.std.specs.Prelude.{false, List, [], ◌∷◌, ◌≢◌, ◌≡◌, ℕ, suc, ◌≤◌, ◌<◌, Some, None}
use Rattle.std.proofs.Common.{true≢false, sym, ◌∙◌, subst}
use Rattle.std.proofs.Math.Path.{refl}
use Rattle.units.specs.Ranges.{within, receipt_count, last_day}
use Rattle.zone.specs.declared.Receipt.{Receipt}
use Rattle.zone.specs.declared.Record.{Record}
use Rattle.zone.specs.declared.Zone.{Zone}
use Rattle.zone.specs.Laws.Tests.{InRange}
use Rattle.zone.specs.Record.{record_of}
use Rattle.zone.specs.Valid.{Sized, record_valid, no_receipt}
use Rattle.rules.specs.declared.Call.{Call}
use Rattle.rules.specs.declared.Entry.{Entry}
use Rattle.rules.specs.AtLot.{AtLot, one_event}
use Rattle.rules.specs.Effects.{rule_of, rule_at, sweeps, no_rule, sweep_kinds}
use Rattle.rules.specs.Events.{posted, after_lot}
use Rattle.rules.specs.Laws.Chain.{none, on_event, Visit, swept, named, Chain, stop, link}
use Rattle.rules.specs.Laws.Fit.{Fit, funded, fit_lot, good_stays}
use Rattle.rules.specs.Ready.{Funded}
use Rattle.rules.specs.Laws.Good.{Good, valid_at, ask_at}
use Rattle.rules.specs.Laws.Kinds.{with_kind, ByKind, by_kind}
use Rattle.rules.specs.Laws.Offers.{FitsAt, register_fit, list_fit, withdraw_listing_fit, limit_bid_fit, market_bid_fit, withdraw_bid_fit, quote_fit, day_close_fit}
use Rattle.rules.specs.Laws.Passed.{PassedAt, kind_in}
use Rattle.rules.specs.Laws.Tables.{among_each, nth_put_same, nth_put_other}
use Rattle.rules.specs.Laws.Trades.{lodge_fit, close_fit, pay_first_fit, invoice_fit, confirm_fit}
use Rattle.rules.specs.View.{receipt_of_number, record_of_receipt}

-- a kind that does not go through all lots has passed the tests at the lot it visits
pub tested : {c : Call} {z : Zone} {n : ℕ} → sweeps c.kind ≡ false → Visit c z n → PassedAt c z n
tested e (swept h) = absurd (true≢false (sym h ∙ e))
tested e (named q P) = P

-- and this is the lot that the call names
pub at_named : {c : Call} {z : Zone} {n : ℕ} → sweeps c.kind ≡ false → Visit c z n → n ≡ c.receipt
at_named e (swept h) = absurd (true≢false (sym h ∙ e))
at_named e (named q P) = q

-- only a kind visits lots
pub visit_kind : {c : Call} {z : Zone} {n : ℕ} → Visit c z n → within 1 15 c.kind ≡ true
visit_kind {c} (swept h) = among_each (λ k. within 1 15 k ≡ true) c.kind sweep_kinds (refl, (refl, (refl, tt))) h
visit_kind (named q P) = kind_in P

module _ (z : Zone) (G : Good z) (c : Call) (n : ℕ) where
  abbrev f : Record
  f = record_of_receipt z n

  abbrev Fitting : ℕ → Type 0
  Fitting k = Visit (with_kind c k) z n → FitsAt z n (record_of_receipt z n) (rule_at (with_kind c k) z n)

  by_rule : ByKind Fitting
  unfolding rule_of no_rule
  by_rule =
      let d : InRange 1 last_day z.day = G.day in
      let ok : record_valid (record_of_receipt z n) ≡ true = valid_at z G n in
      record {
        pay_in = λ v. none;
        take_out = λ v. none;
        register = λ v. register_fit z d c n f ok (tested refl v);
        list = λ v. list_fit z d c n f ok (tested refl v);
        withdraw_listing = λ v. withdraw_listing_fit z d c n f ok (tested refl v);
        limit_bid = λ v. limit_bid_fit z d c n f ok (tested refl v);
        market_bid = λ v. market_bid_fit z d c n f ok (ask_at z G (record_of_receipt z n).contract) (tested refl v);
        withdraw_bid = λ v. withdraw_bid_fit z d c n f ok (tested refl v);
        quote = λ v. quote_fit z d c n f ok;
        lodge = λ v. lodge_fit z d c n f ok (tested refl v);
        morning_close = λ v. close_fit z d c n f ok;
        first_payment = λ v. pay_first_fit z d c n f ok (tested refl v);
        invoice = λ v. invoice_fit z d c n f ok (tested refl v);
        confirm = λ v. confirm_fit z d c n f ok (tested refl v);
        day_close = λ v. day_close_fit z d c n f ok;
        no_kind = λ k h v. absurd (true≢false (sym (visit_kind v) ∙ h));
      }

  pub fits : Visit c z n → FitsAt z n (record_of_receipt z n) (rule_at c z n)
  fits v = by_kind by_rule c.kind v

-- ── What is known at a link ────────────────────────────────────────────────────────────────────

-- lot n of zone z, from lot lo on, has the event with entry e and receipt r
pub record Linked (c : Call) (lo : ℕ) (z : Zone) (n : ℕ) (e : Entry) (r : Receipt) : Type 0 where
  pub low : 0 < n
  pub above : lo ≤ n
  pub high : n ≤ receipt_count
  pub visit : Visit c z n
  pub rule : rule_at c z n ≡ one_event e r
  pub good : Good z
  pub fit : Fit z.accounts n (record_of_receipt z n) e r
  pub next : Good (posted z e r)

pub linked : {c : Call} {lo : ℕ} {z : Zone} (n : ℕ) (e : Entry) (r : Receipt) → 0 < n → lo ≤ n → n ≤ receipt_count → Visit c z n
    → rule_at c z n ≡ one_event e r → Good z → Linked c lo z n e r
linked {c} {lo} {z} n e r a b h v q G =
    let F : Fit z.accounts n (record_of_receipt z n) e r = on_event (fits z G c n v) q in
    record { low = a; above = b; high = h; visit = v; rule = q; good = G; fit = F; next = good_stays z n e r a h G F }

-- the money of its event is there
pub link_funded : {c : Call} {lo : ℕ} {z : Zone} {n : ℕ} {e : Entry} {r : Receipt} → Linked c lo z n e r
    → Funded z.accounts (record_of_receipt z e.lot) e (record_of r)
link_funded {z = z} {n = n} {e = e} {r = r} L =
    let q = L.fit.entry.lot in
    funded z e r (rw q L.low) (rw q L.high) L.good (fit_lot z n e r L.low L.high L.good L.fit)

-- what a visited lot leaves is good, whether it has an event or not
pub after_good : (z : Zone) → Good z → (c : Call) (n : ℕ) → 0 < n → n ≤ receipt_count → Visit c z n → Good (after_lot z (rule_at c z n)).zone
after_good z G c n a h v = go (rule_at c z n) (fits z G c n v)
  where
    go : (s : AtLot) → FitsAt z n (record_of_receipt z n) s → Good (after_lot z s).zone
    go None F = G
    go (Some x) F = good_stays z n x.entry x.receipt a h G F.is

-- the receipt of the event's lot after it, and any other
pub receipt_at : (z : Zone) (e : Entry) (r : Receipt) → Sized z → 0 < e.lot → e.lot ≤ receipt_count → receipt_of_number (posted z e r).receipts e.lot ≡ r
unfolding posted receipt_of_number
receipt_at z e r S low high = nth_put_same no_receipt z.receipts e.lot r low (rw S.receipts high)

pub receipt_beside : (z : Zone) (e : Entry) (r : Receipt) (k : ℕ) → k ≢ e.lot → receipt_of_number (posted z e r).receipts k ≡ receipt_of_number z.receipts k
unfolding posted receipt_of_number
receipt_beside z e r k n = nth_put_other no_receipt z.receipts k e.lot r n

-- at a link, by the lot that has the event
pub linked_receipt : {c : Call} {lo : ℕ} {z : Zone} {n : ℕ} {e : Entry} {r : Receipt} → Linked c lo z n e r → receipt_of_number (posted z e r).receipts n ≡ r
linked_receipt {z = z} {e = e} {r = r} L =
    let q = L.fit.entry.lot in
    subst (λ (j : ℕ). receipt_of_number (posted z e r).receipts j ≡ r) q (receipt_at z e r L.good.sized (rw q L.low) (rw q L.high))

-- A claim about chains from a good zone: it holds where there is no event, and over an event where it holds after it.
pub record Walk (c : Call) (P : ℕ → Zone → List Entry → Zone → Type 0) : Type 0 where
  pub end : {lo : ℕ} {z : Zone} → Good z → P lo z [] z
  pub step : {lo : ℕ} {z : Zone} {es : List Entry} {last : Zone} {n : ℕ} {e : Entry} {r : Receipt} → Linked c lo z n e r
      → P (suc n) (posted z e r) es last → P lo z (e ∷ es) last

pub good_walk : {c : Call} {P : ℕ → Zone → List Entry → Zone → Type 0} → Walk c P
    → {lo : ℕ} {z : Zone} {es : List Entry} {last : Zone} → Chain c lo z es last → Good z → P lo z es last
good_walk W stop G = W.end G
good_walk W (link {lo = lo} n e r a b h v q t) G =
    let L = linked {lo = lo} n e r a b h v q G in
    W.step L (good_walk W t L.next)

-- the last zone of a chain from a good zone is good
pub last_good : {c : Call} {lo : ℕ} {z : Zone} {es : List Entry} {last : Zone} → Chain c lo z es last → Good z → Good last
last_good {c} t G = good_walk {c = c} {P = λ lo z es last. Good last} (record { end = λ G. G; step = λ L G. G }) t G
