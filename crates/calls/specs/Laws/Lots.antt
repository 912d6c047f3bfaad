-- The lots of an accepted call: all of them, or what the rule did at the receipt that the call names.
-- Assumes nothing.
use Rattle.std.specs.Prelude.{Some, None, true, false, [], ◌∷◌, ◌≡◌, refl, ℕ}
use Rattle.std.proofs.Common.{true≢false, append-nil, sym, ap, ◌∙◌}
use Rattle.units.specs.Ranges.{is_receipt, receipt_count}
use Rattle.zone.specs.declared.Zone.{Zone}
use Rattle.zone.specs.Laws.Tests.{InRange, range_in}
use Rattle.rules.specs.AtLot.{AtLot}
use Rattle.rules.specs.declared.Call.{Call}
use Rattle.rules.specs.Effects.{rule_at, rule_of, no_rule, sweeps, opening, first_lot, lot_count, sweep_kinds}
use Rattle.rules.specs.Events.{after_lot, sweep}
use Rattle.rules.specs.Laws.Chain.{named}
use Rattle.rules.specs.Laws.Good.{Good}
use Rattle.rules.specs.Laws.Kinds.{with_kind, ByKind, by_kind}
use Rattle.rules.specs.Laws.Passed.{PassedAt, ranges, kind_in}
use Rattle.rules.specs.Laws.Tables.{among_each}
use Rattle.rules.specs.Tables.{among}
use Rattle.events.specs.Posting.{CanPost}
use Rattle.lots.specs.Laws.Posts.{visit_posts}

-- ── All lots ───────────────────────────────────────────────────────────────────────────────────

pub all_lots : (c : Call) → sweeps c.kind ≡ true → (first_lot c ≡ 1) × (lot_count c ≡ receipt_count)
unfolding first_lot lot_count
all_lots c h =
    let none : among c.kind (1 ∷ 2 ∷ []) ≡ false =
    among_each (λ k. among k (1 ∷ 2 ∷ []) ≡ false) c.kind sweep_kinds (refl, (refl, (refl, tt))) h in
    (rw h, rw (none, h))

-- ── The receipt named ──────────────────────────────────────────────────────────────────────────

-- the lots of a call leave what the rule did at its receipt on the zone before the opening, and that can be posted after it
pub record AtReceipt (c : Call) (z : Zone) : Type 0 where
  pub lots : sweep (rule_at c) (lot_count c) (first_lot c) (opening c z) ≡ after_lot (opening c z) (rule_at c z c.receipt)
  pub posts : CanPost (opening c z) (rule_at c z c.receipt)

one_lot : (rule : Zone → ℕ → AtLot) (n : ℕ) (z : Zone) → sweep rule 1 n z ≡ after_lot z (rule z n)
unfolding sweep
one_lot rule n z =
    let d = after_lot z (rule z n) in
    ap (λ es. record { zone = d.zone; entries = es }) (append-nil d.entries)

can_post : {c : Call} {z : Zone} → Good z → PassedAt c z c.receipt → is_receipt c.receipt ≡ true → CanPost z (rule_at c z c.receipt)
can_post {c} {z} G P h = go (rule_at c z c.receipt) refl
  where
    R : InRange 1 receipt_count c.receipt
    R = range_in h

    go : (a : AtLot) → rule_at c z c.receipt ≡ a → CanPost z a
    go None q = tt
    go (Some event) q = visit_posts G R.low R.high (named refl P) q

module _ (z : Zone) (G : Good z) (c : Call) where
  one_here : (b : Call) → opening b z ≡ z → lot_count b ≡ 1 → first_lot b ≡ b.receipt → PassedAt b z b.receipt
      → is_receipt b.receipt ≡ true → AtReceipt b z
  one_here b o l f P h = record { lots = rw (l, f, o) (one_lot (rule_at b) b.receipt z); posts = rw o (can_post G P h) }

  none_here : (b : Call) → lot_count b ≡ 0 → rule_at b z b.receipt ≡ None → AtReceipt b z
  unfolding sweep
  none_here b l q = record { lots = rw (l, q); posts = rw q tt }

  AtKind : ℕ → Type 0
  AtKind k = let b : Call = with_kind c k in PassedAt b z c.receipt → sweeps k ≡ false → AtReceipt b z

  at_kind : ByKind AtKind
  unfolding AtKind opening first_lot lot_count rule_of no_rule
  at_kind =
      record {
        pay_in = λ P s. none_here _ refl refl;
        take_out = λ P s. none_here _ refl refl;
        register = λ P s. one_here _ refl refl refl P (ranges P).1.0;
        list = λ P s. one_here _ refl refl refl P (ranges P).1.0;
        withdraw_listing = λ P s. one_here _ refl refl refl P (ranges P).1.0;
        limit_bid = λ P s. one_here _ refl refl refl P (ranges P).1.0;
        market_bid = λ P s. one_here _ refl refl refl P (ranges P).1.0;
        withdraw_bid = λ P s. one_here _ refl refl refl P (ranges P).1.0;
        quote = λ P s. absurd (true≢false s);
        lodge = λ P s. one_here _ refl refl refl P (ranges P).1.0;
        morning_close = λ P s. absurd (true≢false s);
        first_payment = λ P s. one_here _ refl refl refl P (ranges P).1.0;
        invoice = λ P s. one_here _ refl refl refl P (ranges P).1.0;
        confirm = λ P s. one_here _ refl refl refl P (ranges P).1.0;
        day_close = λ P s. absurd (true≢false s);
        no_kind = λ k h P s. absurd (true≢false (sym (kind_in P) ∙ h));
      }

  pub at_receipt : PassedAt c z c.receipt → sweeps c.kind ≡ false → AtReceipt c z
  unfolding AtKind
  at_receipt = by_kind at_kind c.kind
