-- A standing bid that is struck moves no money: what its lot held is what it holds.
-- Assumes nothing.
use Rattle.std.specs.Prelude.{None, true, false, ◌≡◌, ℕ, ◌≤◌, ◌<◌}
use Rattle.std.proofs.Common.{sym, ap, subst, ◌∙◌, eqb-true}
use Rattle.units.specs.Payments.{fen, deposit}
use Rattle.units.specs.Ranges.{receipt_count}
use Rattle.zone.specs.declared.Hold.{Hold}
use Rattle.zone.specs.declared.Receipt.{Receipt}
use Rattle.zone.specs.declared.Record.{Record}
use Rattle.zone.specs.declared.Zone.{Zone}
use Rattle.zone.specs.Held.{held, hold_of}
use Rattle.zone.specs.Laws.Tests.{both}
use Rattle.zone.specs.Parts.{with_receipts}
use Rattle.zone.specs.Record.{record_of, bid_of}
use Rattle.rules.specs.AtLot.{one_event}
use Rattle.rules.specs.declared.Call.{Call}
use Rattle.rules.specs.declared.Entry.{Entry}
use Rattle.rules.specs.declared.View.{View}
use Rattle.rules.specs.Effects.{entry_of, struck_receipt, quote_meets, quote_lot, rule_of, rule_at}
use Rattle.rules.specs.Events.{money_moved, money_of, accounts_after, posted}
use Rattle.rules.specs.Laws.Chain.{swept}
use Rattle.rules.specs.Laws.Good.{Good}
use Rattle.rules.specs.Ready.{Funds}
use Rattle.rules.specs.Tables.{put}
use Rattle.rules.specs.View.{view_of, record_of_receipt}
use Rattle.events.specs.Laws.Nothing.{nothing_moved}
use Rattle.lots.specs.Laws.Posts.{visit_posts}
use Rattle.lots.specs.Laws.Visits.{rule_by}

-- ── The rule of a quote at a lot ───────────────────────────────────────────────────────────────

module _ (c : Call) (k : c.kind ≡ 9) (z : Zone) (n : ℕ) where
  abbrev f : Record
  f = record_of_receipt z n

  abbrev v : View
  v = view_of z c.account f

  abbrev e : Entry
  e = entry_of n 6 f.seller f.buyer f.price.0

  abbrev r : Receipt
  r = struck_receipt v f (bid_of f)

  pub by_quote : rule_at c z n ≡ quote_lot v c n f
  unfolding rule_of
  by_quote = rule_by c z n 9 k

  pub not_met : quote_meets v c f ≡ false → rule_at c z n ≡ None
  unfolding quote_lot
  not_met h = by_quote ∙ rw h

  module _ (h : quote_meets v c f ≡ true) where
    pub met : rule_at c z n ≡ one_event e r
    unfolding quote_lot
    met = by_quote ∙ rw h

    -- the deposit before and after
    same_hold : hold_of f ≡ hold_of (record_of r)
    unfolding held record_of
    same_hold =
        let two : f.state ≡ 2 = eqb-true _ 2 (both _ _ (both _ _ h).0).0 in
        let waits : held f ≡ deposit = rw two in
        λ i. record { from = f.buyer; fen = waits i }

    pub money_stays : Good z → 0 < n → n ≤ receipt_count → posted z e r ≡ with_receipts z (put z.receipts n r)
    unfolding posted accounts_after money_of
    money_stays G a b =
        let P = visit_posts G a b (swept (rw k)) met in
        let F : Funds z.accounts (hold_of f) f.buyer f.seller (fen 0) (hold_of f)
        = subst (Funds z.accounts (hold_of f) f.buyer f.seller (fen 0)) (sym same_hold) P.funded in
        let same : money_moved (hold_of f) f.buyer f.seller (fen 0) (hold_of (record_of r)) z.accounts ≡ z.accounts
        = ap (λ (h : Hold). money_moved (hold_of f) f.buyer f.seller (fen 0) h z.accounts) (sym same_hold) ∙ nothing_moved F in
        λ i. record { day = z.day; afternoon = z.afternoon; asks = z.asks; accounts = same i; receipts = put z.receipts n r; total = z.total }
