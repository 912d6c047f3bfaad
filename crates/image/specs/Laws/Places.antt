-- What is put in one place of a zone's bytes is the zone with that part changed.
-- Assumes nothing.
use Rattle.std.specs.Prelude.{Bool, ◌≡◌, refl, drop}
use mathlib.Core.List.{List, [], ◌∷◌, ◌++◌, append_assoc, append-nil}
use Rattle.std.proofs.Math.Path.{sym, ap}
use Rattle.std.proofs.Common.{◌∙◌, suc-mul, add_comm, zero-add, arith, length-append, length-set, drop_at}
use Prim.Native.Nat.{ℕ, zero, suc, ◌+◌, ◌*◌, ◌≤◌, ◌<◌}
use Rattle.std.proofs.Math.Nat.{zero-mul}
use Rattle.std.proofs.Math.ListN.{length, set, replicate}
use Rattle.std.proofs.Math.Seq.{sets}
use Rattle.std.proofs.lemmas.List.Edits.{sets-eq}
use Rattle.units.specs.declared.Fen.{Fen}
use Rattle.units.specs.declared.YuanPerTonne.{YuanPerTonne}
use Rattle.wire.specs.LittleEndian.{le_bytes}
use Rattle.zone.specs.declared.Account.{Account}
use Rattle.zone.specs.declared.Receipt.{Receipt}
use Rattle.zone.specs.declared.Zone.{Zone}
use Rattle.zone.specs.Parts.{with_clock, with_asks, with_accounts, with_receipts, with_total}
use Rattle.image.specs.Table.{table_bytes}
use Rattle.units.specs.Ranges.{account_count, receipt_count, contract_count}
use Rattle.zone.specs.Valid.{Sized, no_asks}
use Rattle.image.specs.Layout.{account_length, ask_length, receipt_length, account_start, contract_start, receipt_start, day_place, phase_place, total_place, phase_byte, header_bytes, account_bytes, ask_bytes, receipt_bytes}
use Rattle.image.specs.Image.{decode, encode, Encoded}
use Rattle.image.specs.Laws.Table.{length_table_bytes}
use Rattle.image.specs.Laws.Layout.{account_wide, ask_wide, receipt_wide}
use Rattle.image.specs.Laws.RoundTrip.{decode_sized, header_part, accounts_part, asks_part, receipts_part, header_first, accounts_first, header_long, accounts_long, asks_long}

-- ── A run in the middle of a list ──────────────────────────────────────────────────────────────

-- behind a front it is put into the rest
sets_behind : (p s : List ℕ) (i : ℕ) (b : List ℕ) → sets (p ++ s) (length p + i) b ≡ p ++ sets s i b
sets_behind p s i [] = refl
sets_behind p s i (x ∷ b) =
    let e : suc (length p + i) ≡ length p + suc i = omega arith in
    rw (set_behind p s i x, e) (sets_behind p (set s i x) (suc i) b)
  where
    set_behind : (p s : List ℕ) (i x : ℕ) → set (p ++ s) (length p + i) x ≡ p ++ set s i x
    set_behind [] s i x = rw zero-add
    set_behind (y ∷ p) s i x =
        let e : length (y ∷ p) + i ≡ suc (length p + i) = omega arith in
        rw e (ap (λ (t : List ℕ). y ∷ t) (set_behind p s i x))

-- at the front it stands before the rest
pub put_front : (s p : List ℕ) → length p ≤ length s → sets s 0 p ≡ p ++ drop (length p) s
put_front s p h = let k : 0 + length p ≤ length s = omega arith in sets-eq p s 0 k ∙ rw zero-add

-- and takes the place of as many
sets_front : (m q b : List ℕ) → length b ≡ length m → sets (m ++ q) 0 b ≡ b ++ q
sets_front m q b e =
    let h : length b ≤ length (m ++ q) = rw (length-append, e) (omega arith) in
    put_front (m ++ q) b h ∙ rw (drop_at m q (length b) (sym e))

-- in the middle it takes the place of as many
sets_middle : (p m q b : List ℕ) (at : ℕ) → length p ≡ at → length b ≡ length m → sets (p ++ m ++ q) at b ≡ p ++ b ++ q
sets_middle p m q b at n e =
    let k : at ≡ length p + 0 = omega arith in
    ap (λ (t : List ℕ). sets t at b) (append_assoc p m q)
    ∙ ap (λ (i : ℕ). sets (p ++ (m ++ q)) i b) k
    ∙ sets_behind p (m ++ q) 0 b
    ∙ ap (λ (t : List ℕ). p ++ t) (sets_front m q b e)
    ∙ sym (append_assoc p b q)

-- ── A record of a table ────────────────────────────────────────────────────────────────────────

module _ {A : Type 0} (f : A → List ℕ) (size : ℕ) (wide : (x : A) → length (f x) ≡ size) where
  record_put : (l : List A) (i : ℕ) (x : A) (q : List ℕ) → i < length l →
      sets (table_bytes f l ++ q) (i * size) (f x) ≡ table_bytes f (set l i x) ++ q
  unfolding table_bytes
  record_put [] i x q h = absurd (omega arith)
  record_put (y ∷ l) zero x q h =
      ap (λ (t : List ℕ). sets t (0 * size) (f x)) (append_assoc (f y) (table_bytes f l) q)
      ∙ rw zero-mul (sets_front (f y) (table_bytes f l ++ q) (f x) (wide x ∙ sym (wide y)))
      ∙ sym (append_assoc (f x) (table_bytes f l) q)
  record_put (y ∷ l) (suc i) x q h =
      let e : suc i * size ≡ length (f y) + i * size = rw (suc-mul, wide y) (add_comm (i * size) size) in
      ap (λ (t : List ℕ). sets t (suc i * size) (f x)) (append_assoc (f y) (table_bytes f l) q)
      ∙ ap (λ (k : ℕ). sets (f y ++ (table_bytes f l ++ q)) k (f x)) e
      ∙ sets_behind (f y) (table_bytes f l ++ q) (i * size) (f x)
      ∙ ap (λ (t : List ℕ). f y ++ t) (record_put l i x q (omega arith))
      ∙ sym (append_assoc (f y) (table_bytes f (set l i x)) q)

  -- of a table between other bytes
  table_put : (p q : List ℕ) (l : List A) (at i : ℕ) (x : A) → length p ≡ at → i < length l →
      sets (p ++ table_bytes f l ++ q) (at + i * size) (f x) ≡ p ++ table_bytes f (set l i x) ++ q
  table_put p q l at i x n h =
      ap (λ (t : List ℕ). sets t (at + i * size) (f x)) (append_assoc p (table_bytes f l) q)
      ∙ ap (λ (k : ℕ). sets (p ++ (table_bytes f l ++ q)) (k + i * size) (f x)) (sym n)
      ∙ sets_behind p (table_bytes f l ++ q) (i * size) (f x)
      ∙ ap (λ (t : List ℕ). p ++ t) (record_put l i x q h)
      ∙ sym (append_assoc p (table_bytes f (set l i x)) q)

no_asks_lem : replicate (contract_count * ask_length) 0 ≡ table_bytes ask_bytes no_asks
unfolding table_bytes ask_bytes le_bytes
no_asks_lem = refl

-- ── A zone's bytes ─────────────────────────────────────────────────────────────────────────────

-- a zone with one part changed has tables of the same lengths
module _ (z : Zone) (S : Sized z) where
  accounts_set : (k : ℕ) (a : Account) → Sized (with_accounts z (set z.accounts k a))
  accounts_set k a = record { accounts = length-set z.accounts k a ∙ S.accounts; receipts = S.receipts; asks = S.asks }

  total_set : (t : Fen) → Sized (with_total z t)
  total_set t = record { accounts = S.accounts; receipts = S.receipts; asks = S.asks }

  clock_set : (day : ℕ) (afternoon : Bool) → Sized (with_clock z day afternoon)
  clock_set day afternoon = record { accounts = S.accounts; receipts = S.receipts; asks = S.asks }

-- the image s of the zone that it is read as
module _ (s : List ℕ) (e : Encoded s) where
  abbrev z : Zone
  z = decode s

  S : Sized (decode s)
  S = decode_sized s

  pub account_put : (k : ℕ) (a : Account) → k < account_count →
      sets s (account_start + k * account_length) (account_bytes a) ≡ encode (with_accounts (decode s) (set (decode s).accounts k a))
  account_put k a h =
      ap (λ (t : List ℕ). sets t (account_start + k * account_length) (account_bytes a)) (e ∙ accounts_first z S)
      ∙ table_put account_bytes account_length account_wide (header_part z) ((asks_part z) ++ (receipts_part z)) z.accounts account_start k a
      (header_long z S) (omega (arith, S.accounts))
      ∙ sym (accounts_first (with_accounts z (set z.accounts k a)) (accounts_set z S k a))

  pub ask_put : (k : ℕ) (a : YuanPerTonne) → k < contract_count →
      sets s (contract_start + k * ask_length) (ask_bytes a) ≡ encode (with_asks (decode s) (set (decode s).asks k a))
  unfolding encode
  ask_put k a h =
      ap (λ (t : List ℕ). sets t (contract_start + k * ask_length) (ask_bytes a)) e
      ∙ table_put ask_bytes ask_length ask_wide ((header_part z) ++ (accounts_part z)) (receipts_part z) z.asks contract_start k a
      (accounts_long z S) (omega (arith, S.asks))

  pub receipt_put : (k : ℕ) (r : Receipt) → k < receipt_count →
      sets s (receipt_start + k * receipt_length) (receipt_bytes r) ≡ encode (with_receipts (decode s) (set (decode s).receipts k r))
  unfolding encode
  receipt_put k r h =
      let before = (header_part z) ++ (accounts_part z) ++ (asks_part z) in
      ap (λ (t : List ℕ). sets t (receipt_start + k * receipt_length) (receipt_bytes r)) (e ∙ sym (append-nil (before ++ (receipts_part z))))
      ∙ table_put receipt_bytes receipt_length receipt_wide before [] z.receipts receipt_start k r (asks_long z S) (omega (arith, S.receipts))
      ∙ append-nil (before ++ table_bytes receipt_bytes (set z.receipts k r))

  pub asks_cleared : sets s contract_start (replicate (contract_count * ask_length) 0) ≡ encode (with_asks (decode s) no_asks)
  unfolding encode
  asks_cleared =
      let zeros : List ℕ = replicate (contract_count * ask_length) 0 in
      let n : length (asks_part z) ≡ contract_count * ask_length =
      length_table_bytes ask_bytes ask_length ask_wide z.asks ∙ ap (λ (k : ℕ). k * ask_length) S.asks in
      ap (λ (t : List ℕ). sets t contract_start zeros) e
      ∙ sets_middle ((header_part z) ++ (accounts_part z)) (asks_part z) (receipts_part z) zeros contract_start (accounts_long z S) (sym n)
      ∙ ap (λ (t : List ℕ). (header_part z) ++ (accounts_part z) ++ t ++ (receipts_part z)) no_asks_lem

  pub total_put : (t : Fen) → sets s total_place (le_bytes 8 t.0) ≡ encode (with_total (decode s) t)
  unfolding header_bytes le_bytes
  total_put t =
      ap (λ (l : List ℕ). sets l total_place (le_bytes 8 t.0)) (e ∙ header_first z S) ∙ sym (header_first (with_total z t) (total_set z S t))

  pub clock_put : (day : ℕ) (afternoon : Bool) →
      set (sets s day_place (le_bytes 2 day)) phase_place (phase_byte afternoon) ≡ encode (with_clock (decode s) day afternoon)
  unfolding header_bytes le_bytes
  clock_put day afternoon =
      ap (λ (l : List ℕ). set (sets l day_place (le_bytes 2 day)) phase_place (phase_byte afternoon)) (e ∙ header_first z S)
      ∙ sym (header_first (with_clock z day afternoon) (clock_set z S day afternoon))
