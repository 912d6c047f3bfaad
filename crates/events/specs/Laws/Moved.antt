-- An image while an event is posted in it: the zone is had back after each move of money, and with the receipt changed.
-- Assumes nothing.
use Rattle.std.specs.Prelude.{true, List, ◌≡◌, ℕ, ◌-◌, ◌≤◌, ◌<◌, length, set}
use Rattle.std.proofs.Common.{sym, ap, ◌∙◌, arith}
use Rattle.units.specs.declared.Fen.{Fen}
use Rattle.units.specs.Ranges.{account_count, receipt_count, money_limit}
use Rattle.zone.specs.declared.Account.{Account}
use Rattle.zone.specs.declared.Hold.{Hold}
use Rattle.zone.specs.declared.Receipt.{Receipt}
use Rattle.zone.specs.declared.Record.{Record}
use Rattle.zone.specs.declared.Zone.{Zone}
use Rattle.zone.specs.Held.{all_money}
use Rattle.zone.specs.Laws.Back.{receipt_back}
use Rattle.zone.specs.Laws.Facts.{none_valid}
use Rattle.zone.specs.Parts.{with_accounts, with_receipts}
use Rattle.zone.specs.Record.{record_of, receipt_of}
use Rattle.zone.specs.Valid.{Sized, no_receipt, record_valid}
use Rattle.image.specs.Image.{decode, encode, Encoded, Fits}
use Rattle.image.specs.Layout.{record_in, receipt_run}
use Rattle.image.specs.Laws.RoundTrip.{decode_fits, decode_sized, record_here}
use Rattle.rules.specs.Events.{credit, debit, release}
use Rattle.rules.specs.Laws.Funded.{all_released, all_debited, all_credited}
use Rattle.rules.specs.Laws.Moves.{length_credit, length_debit, length_release}
use Rattle.rules.specs.Laws.Tables.{length_put, nth_index, put_index, all_nth, all_put}
use Rattle.rules.specs.Ready.{Funds}
use Rattle.rules.specs.Tables.{put}
use Rattle.rules.specs.View.{receipt_of_number, record_of_receipt}

-- ── What stands in an image ────────────────────────────────────────────────────────────────────

-- each record of a zone is valid
pub record_valid_lem : (z : Zone) → Fits z → (n : ℕ) → record_valid (record_of_receipt z n) ≡ true
unfolding receipt_of_number
record_valid_lem z F n = all_nth (λ r. record_valid (record_of r)) no_receipt z.receipts n none_valid F.records

-- the record in its place is that of the receipt
pub record_in_place : (s : List ℕ) → Encoded s → Fits (decode s) → (n : ℕ) → 0 < n → n ≤ receipt_count
    → record_in (receipt_run s (n - 1)) ≡ record_of_receipt (decode s) n
unfolding receipt_of_number
record_in_place s e F n a b =
    let z = decode s in
    ap (λ (t : List ℕ). record_in (receipt_run t (n - 1))) e
    ∙ record_here z (decode_sized s) F (n - 1) (omega arith)
    ∙ ap record_of (sym (nth_index no_receipt z.receipts n a))

-- bytes of a zone that is had back are those of their zone
pub encoded : (s : List ℕ) (z : Zone) → s ≡ encode z → decode s ≡ z → Encoded s
encoded s z e d = e ∙ ap encode (sym d)

-- ── A zone whose money is being moved ──────────────────────────────────────────────────────────

-- s' is the image s with the accounts l
pub record Moved (s s' : List ℕ) (l : List Account) : Type 0 where
  pub is : s' ≡ encode (with_accounts (decode s) l)
  pub zone : decode s' ≡ with_accounts (decode s) l
  pub fits : Fits (with_accounts (decode s) l)

pub moved : {s s' : List ℕ} {l : List Account} → Fits (decode s) → s' ≡ encode (with_accounts (decode s) l) → length l ≡ account_count
    → all_money l ≤ money_limit → Moved s s' l
moved {s} {s'} {l} F e n h =
    let S : Sized (with_accounts (decode s) l) =
    record { accounts = n; receipts = (decode_sized s).receipts; asks = (decode_sized s).asks } in
    let T : Fits (with_accounts (decode s) l) = record { day = F.day; asks = F.asks; records = F.records; money = h; total = F.total } in
    record { is = e; zone = ap decode e ∙ decode_fits (with_accounts (decode s) l) S T; fits = T }

-- one move more
pub next : {s s₁ s₂ : List ℕ} {l : List Account} (f : List Account → List Account) → Moved s s₁ l
    → s₂ ≡ encode (with_accounts (decode s₁) (f (decode s₁).accounts)) → s₂ ≡ encode (with_accounts (decode s) (f l))
next f M e = e ∙ ap (λ (y : Zone). encode (with_accounts y (f y.accounts))) M.zone

-- the moves of an event, one after the other
module _ (s : List ℕ) (F : Fits (decode s)) {old : Hold} {f t : ℕ} {k : Fen} {new : Hold} (P : Funds (decode s).accounts old f t k new) where
  abbrev l : List Account
  l = (decode s).accounts

  abbrev l1 : List Account
  l1 = release old.from old.fen l

  long : length (release old.from old.fen (decode s).accounts) ≡ account_count
  long = length_release l old.from old.fen ∙ (decode_sized s).accounts

  pub released : {s₁ : List ℕ} → s₁ ≡ encode (with_accounts (decode s) (release old.from old.fen (decode s).accounts))
      → Moved s s₁ (release old.from old.fen (decode s).accounts)
  released e = moved F e long (omega (arith, all_released P, F.money))

  pub debited : {s₁ s₂ : List ℕ} → Moved s s₁ (release old.from old.fen (decode s).accounts)
      → s₂ ≡ encode (with_accounts (decode s₁) (debit f k (decode s₁).accounts))
      → Moved s s₂ (debit f k (release old.from old.fen (decode s).accounts))
  debited M e = moved F (next (debit f k) M e) (length_debit l1 f k ∙ long) (omega (arith, all_debited P, F.money))

  pub credited : {s₁ s₂ : List ℕ} → Moved s s₁ (debit f k (release old.from old.fen (decode s).accounts))
      → s₂ ≡ encode (with_accounts (decode s₁) (credit t k (decode s₁).accounts))
      → Moved s s₂ (credit t k (debit f k (release old.from old.fen (decode s).accounts)))
  credited M e =
      moved F (next (credit t k) M e) (length_credit (debit f k l1) t k ∙ length_debit l1 f k ∙ long) (omega (arith, all_credited P, F.money))

-- ── A zone with another receipt ────────────────────────────────────────────────────────────────

-- s' is the image s with receipt n changed to r
pub record ReceiptPut (s s' : List ℕ) (n : ℕ) (r : Receipt) : Type 0 where
  pub is : s' ≡ encode (with_receipts (decode s) (put (decode s).receipts n r))
  pub zone : decode s' ≡ with_receipts (decode s) (put (decode s).receipts n r)
  pub fits : Fits (with_receipts (decode s) (put (decode s).receipts n r))

pub receipt_put : {s s' : List ℕ} {n : ℕ} {r : Receipt} → Fits (decode s) → record_valid (record_of r) ≡ true
    → s' ≡ encode (with_receipts (decode s) (put (decode s).receipts n r)) → ReceiptPut s s' n r
receipt_put {s} {s'} {n} {r} F v e =
    let z : Zone = with_receipts (decode s) (put (decode s).receipts n r) in
    let S : Sized z =
    record {
      accounts = (decode_sized s).accounts;
      receipts = length_put (decode s).receipts n r ∙ (decode_sized s).receipts;
      asks = (decode_sized s).asks;
    } in
    let T : Fits z =
    record {
      day = F.day;
      asks = F.asks;
      records = all_put (λ r. record_valid (record_of r)) (decode s).receipts n r v F.records;
      money = F.money;
      total = F.total;
    } in
    record { is = e; zone = ap decode e ∙ decode_fits z S T; fits = T }

-- a record that is the receipt's is had back from its receipt
pub record_kept : {f : Record} (r : Receipt) → f ≡ record_of r → record_of (receipt_of f) ≡ f
record_kept r e = ap (λ (g : Record). record_of (receipt_of g)) e ∙ ap record_of (receipt_back r) ∙ sym e

-- the receipt changed by its record
pub record_put : {s s' : List ℕ} {n : ℕ} {r : Receipt} {f : Record} → Fits (decode s) → record_valid (record_of r) ≡ true → 0 < n → f ≡ record_of r
    → s' ≡ encode (with_receipts (decode s) (set (decode s).receipts (n - 1) (receipt_of f))) → ReceiptPut s s' n r
record_put {s} {s'} {n} {r} {f} F v low e is =
    receipt_put F v
    (is
    ∙ ap (λ (x : Receipt). encode (with_receipts (decode s) (set (decode s).receipts (n - 1) x))) (ap receipt_of e ∙ receipt_back r)
    ∙ ap (λ (l : List Receipt). encode (with_receipts (decode s) l)) (sym (put_index (decode s).receipts n r low)))
