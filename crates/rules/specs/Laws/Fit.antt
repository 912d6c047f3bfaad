-- What a rule has to show of its event, and that such an event leaves a good zone good. Proved once, for every event.
-- Assumes nothing.
use Rattle.std.specs.Prelude.{true, List, ◌≡◌, ℕ, ◌+◌, ◌^◌, ◌≤◌, ◌<◌}
use Rattle.std.proofs.Math.Path.{sym}
use Rattle.std.proofs.Common.{ap, ◌∙◌, subst}
use native.Mathlib.Omega.{arith}
use Rattle.units.specs.declared.Kilograms.{Kilograms}
use Rattle.units.specs.declared.Premium.{Premium}
use Rattle.units.specs.Ranges.{account_count, receipt_count}
use Rattle.zone.specs.declared.Account.{Account}
use Rattle.zone.specs.declared.Receipt.{Receipt}
use Rattle.zone.specs.declared.Record.{Record}
use Rattle.zone.specs.declared.Zone.{Zone}
use Rattle.zone.specs.Held.{fen_from, held, held_from}
use Rattle.zone.specs.Laws.Facts.{Owned, bounds}
use Rattle.zone.specs.Laws.Held.{fen_from_same}
use Rattle.zone.specs.Laws.Lots.{LotIn, IdleIn, receipt_valid}
use Rattle.zone.specs.Laws.Tests.{InRange}
use Rattle.zone.specs.Record.{record_of}
use Rattle.zone.specs.Valid.{record_valid}
use Rattle.rules.specs.declared.Entry.{Entry}
use Rattle.rules.specs.Events.{money_of, posted}
use Rattle.rules.specs.Laws.Funded.{booked, total_after, length_after, held_sum_put, held_sum_nth}
use Rattle.rules.specs.Laws.Good.{Good, valid_at}
use Rattle.rules.specs.Laws.Moves.{fen_from_zero}
use Rattle.rules.specs.Laws.Receipts.{held_own}
use Rattle.rules.specs.Laws.Tables.{length_put, all_put}
use Rattle.rules.specs.Ready.{Funded}
use Rattle.rules.specs.View.{free_of, record_of_receipt}

-- an entry that stands in an answer, for lot n
pub record EntryOk (n : ℕ) (e : Entry) : Type 0 where
  pub lot : e.lot ≡ n
  pub outcome : InRange 1 15 e.outcome
  pub from : InRange 1 account_count e.from
  pub to : e.to ≤ account_count
  pub number : e.number < 2 ^ 32

-- The money of an event is there: of accounts l, the lot of record f becomes r'. What the lot held counts as free.
pub record Pays (l : List Account) (f : Record) (e : Entry) (r' : Receipt) : Type 0 where
  pub to_some : 0 < (money_of e).0 → 0 < e.to
  pub pass_fits : (money_of e).0 ≤ (free_of l e.from).0 + held_from e.from f
  pub hold_fits : 0 < (record_of r').buyer → (held (record_of r')).0 + fen_from (record_of r').buyer e.from (money_of e).0
      ≤ (free_of l (record_of r').buyer).0 + held_from (record_of r').buyer f + fen_from (record_of r').buyer e.to (money_of e).0

pub record Fit (l : List Account) (n : ℕ) (f : Record) (e : Entry) (r' : Receipt) : Type 0 where
  pub entry : EntryOk n e
  pub pays : Pays l f e r'
  pub known : LotIn r'.owner r'.weight r'.premium r'.lot

-- the receipt after the event is valid
pub fit_valid : {l : List Account} {n : ℕ} {f : Record} {e : Entry} {r' : Receipt} → Fit l n f e r' → record_valid (record_of r') ≡ true
fit_valid {r' = r'} F = receipt_valid r' F.known

-- from its buyer a lot holds all that it holds
held_from_lem : {x : ℕ} (f : Record) → x ≡ f.buyer → held_from x f ≡ (held f).0
held_from_lem f b = ap (λ (x : ℕ). held_from x f) b ∙ held_own f

-- ── Common shapes ──────────────────────────────────────────────────────────────────────────────

module _ {l : List Account} {f : Record} {e : Entry} {r' : Receipt} (p : (money_of e).0 ≡ 0) where
  -- nothing passes, and what the lot now holds its buyer has
  pub holding : (held (record_of r')).0 ≤ (free_of l (record_of r').buyer).0 + held_from (record_of r').buyer f → Pays l f e r'
  holding h =
      record {
        to_some = λ q. absurd (omega arith);
        pass_fits = omega arith;
        hold_fits = λ q. rw p (omega (arith, fen_from_zero (record_of r').buyer e.from));
      }

  -- nothing passes, and the lot now holds nothing
  pub quiet : (held (record_of r')).0 ≡ 0 → Pays l f e r'
  quiet h = holding (omega arith)

  -- nothing passes, and the lot holds what it held, from the same buyer
  pub kept : (record_of r').buyer ≡ f.buyer → (held (record_of r')).0 ≤ (held f).0 → Pays l f e r'
  kept b h = holding (omega (arith, held_from_lem f b))

-- the payer has what passes, and the lot now holds nothing from anybody
pub ending : {l : List Account} {f : Record} {e : Entry} {r' : Receipt} → 0 < e.to → (record_of r').buyer ≡ 0
    → (money_of e).0 ≤ (free_of l e.from).0 + held_from e.from f → Pays l f e r'
ending t b h = record { to_some = λ q. t; pass_fits = h; hold_fits = λ q. absurd (omega arith) }

-- the buyer pays out of what the lot held, and the lot holds the rest, or no more than the rest
pub paying : {l : List Account} {f : Record} {e : Entry} {r' : Receipt} → 0 < e.to
    → e.from ≡ f.buyer → e.from ≡ (record_of r').buyer → (held (record_of r')).0 + (money_of e).0 ≤ (held f).0 → Pays l f e r'
paying {l} {f} {e} {r'} t a b h =
    record {
      to_some = λ q. t;
      pass_fits = omega (arith, held_from_lem f a);
      hold_fits = λ q.
          subst
          (λ (x : ℕ). (held (record_of r')).0 + fen_from x e.from (money_of e).0 ≤ (free_of l x).0 + held_from x f + fen_from x e.to (money_of e).0)
          b (omega (arith, held_from_lem f a, fen_from_same e.from (money_of e).0));
    }

-- a registered receipt with no lot
pub idle_in : {o : ℕ} {w : Kilograms} {p : Premium} → Owned o w p → IdleIn o w p
idle_in O = record { unregistered = λ e. absurd (omega (arith, O.owner.low)); registered = λ _. O }

-- ── A good zone stays good ─────────────────────────────────────────────────────────────────────

module _ (z : Zone) (e : Entry) (r' : Receipt) (low : 0 < e.lot) (high : e.lot ≤ receipt_count) (G : Good z)
    (F : Fit z.accounts e.lot (record_of_receipt z e.lot) e r') where
  pub funded : Funded z.accounts (record_of_receipt z e.lot) e (record_of r')
  unfolding held_from
  funded =
      let f : Record = record_of_receipt z e.lot in
      let P : Pays z.accounts f e r' = F.pays in
      let i : f.buyer ≤ account_count = (bounds f (valid_at z G e.lot)).buyer in
      record {
        old_in = rw G.sized.accounts i;
        from_in = rw G.sized.accounts F.entry.from.high;
        to_in = rw G.sized.accounts F.entry.to;
        new_in = rw G.sized.accounts (bounds (record_of r') (fit_valid F)).buyer;
        from_some = F.entry.from.low;
        to_some = P.to_some;
        frozen_fits = λ q.
            rw (G.frozen f.buyer q i)
            (rw (held_own f) at (held_sum_nth f.buyer z.receipts e.lot low (rw G.sized.receipts high)));
        pass_fits = P.pass_fits;
        hold_fits = P.hold_fits;
      }

  stays : Good (posted z e r')
  unfolding posted
  stays =
      let f : Record = record_of_receipt z e.lot in
      record {
        sized = record {
          accounts = length_after z.accounts f e (record_of r') ∙ G.sized.accounts;
          receipts = length_put z.receipts e.lot r' ∙ G.sized.receipts;
          asks = G.sized.asks;
        };
        day = G.day;
        asks = G.asks;
        records = all_put (λ r. record_valid (record_of r)) z.receipts e.lot r' (fit_valid F) G.records;
        frozen = λ x q v.
            omega (
              arith,
              (booked z.accounts f e (record_of r') funded x q).frozen,
              G.frozen x q v,
              held_sum_put x z.receipts e.lot r' low (rw G.sized.receipts high),
            );
        total = G.total ∙ sym (total_after z.accounts f e (record_of r') funded);
        limit = G.limit;
      }

module _ (z : Zone) (n : ℕ) (e : Entry) (r' : Receipt) (low : 0 < n) (high : n ≤ receipt_count) (G : Good z)
    (F : Fit z.accounts n (record_of_receipt z n) e r') where
  pub fit_lot : Fit z.accounts e.lot (record_of_receipt z e.lot) e r'
  fit_lot = subst (λ (k : ℕ). Fit z.accounts k (record_of_receipt z k) e r') (sym F.entry.lot) F

  pub good_stays : Good (posted z e r')
  good_stays = stays z e r' (rw F.entry.lot low) (rw F.entry.lot high) G fit_lot
