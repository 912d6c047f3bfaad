-- The walk from the last record to the first: its start, where the records behind are blank, a turn, and its end.
-- Assumes nothing.
use Rattle.std.specs.Prelude.{◌≡◌, ℕ, suc, ◌+◌, ◌-◌, ◌*◌, ◌^◌, ◌<◌, ◌≤◌, Bool, true, false, ◌||◌, ◌≢◌, List, [], ◌∷◌, length, drop, replicate, nat_lt, slice_index_or, refl}
use Rattle.std.proofs.Math.Path.{sym, ap}
use Rattle.std.proofs.Common.{◌∙◌, arith, lt-ltb, le-ltb, ltb-true, ltb-false, length-drop, get_or-drop}
use Rattle.std.proofs.Math.Decide.{ℕ_discrete}
use Rattle.std.proofs.lemmas.List.{length-replicate, get_or-replicate}
use Rattle.std.proofs.Math.Seq.{drop-length}
use Rattle.units.specs.declared.Fen.{Fen}
use Rattle.units.specs.Laws.Bounds.{most_full}
use Rattle.units.specs.Ranges.{account_count, receipt_count}
use Rattle.zone.specs.declared.Hold.{Hold}
use Rattle.zone.specs.declared.Record.{Record}
use Rattle.zone.specs.Record.{record_of}
use Rattle.zone.specs.Valid.{blank, record_valid, no_receipt}
use Rattle.image.specs.Layout.{receipt_run, record_in, records_in}
use Rattle.image.specs.Laws.Table.{length_table, get_d_table, is_table, table_cong, set_table, map_table}
use Rattle.verdict.specs.Sums.{valid_hold, add_to, no_sums, sums_by, valid_records}
use Rattle.verdict.specs.Walk.{BlankFrom, marks_from, marked}
use Rattle.verdict.specs.Laws.Sums.{sum_at, sum_le, sums_more, blank_valid, blank_hold}

-- ── The sums ───────────────────────────────────────────────────────────────────────────────────

-- any record, where a list has none
abbrev none : Record
none = record_of no_receipt

blank_sums : (l : List Record) → ((k : ℕ) → k < length l → blank (slice_index_or l k none) ≡ true) → sums_by valid_hold l ≡ no_sums
unfolding sums_by add_to
blank_sums [] h = refl
blank_sums (r ∷ l) h =
    rw (blank_hold r (h 0 (omega arith)), blank_sums l (λ k p. h (suc k) (omega arith)))

module _ (s : List ℕ) where
  -- record k of the image
  abbrev pub rec : ℕ → Record
  rec k = record_in (receipt_run s k)

  -- behind the last record there is none
  pub blank_none : BlankFrom s receipt_count
  blank_none = record { at = λ k l h. absurd (omega arith) }

  -- one blank record more in front
  pub blank_more : (n k : ℕ) → k + 1 ≡ n → blank (rec k) ≡ true → BlankFrom s n → BlankFrom s k
  blank_more n k e h b = record { at = λ i l p. go i l p (ℕ_discrete i k) }
    where
      go : (i : ℕ) → k ≤ i → i < receipt_count → Dec (i ≡ k) → blank (rec i) ≡ true
      go i l p (yes q) = rw q h
      go i l p (no q) = b.at i (omega arith) p

  -- the records from n on
  abbrev pub last_records : ℕ → List Record
  last_records n = drop n (records_in s)

  record_is : (k : ℕ) → k < receipt_count → slice_index_or (records_in s) k none ≡ rec k
  unfolding records_in
  record_is k h = get_d_table receipt_count rec k none h

  count : length (records_in s) ≡ receipt_count
  unfolding records_in
  count = length_table receipt_count rec

  pub sums_start : (n : ℕ) → n ≤ receipt_count → BlankFrom s n → sums_by valid_hold (last_records n) ≡ no_sums
  sums_start n h b = blank_sums (last_records n) go
    where
      go : (k : ℕ) → k < length (last_records n) → blank (slice_index_or (last_records n) k none) ≡ true
      go k p =
          let inside : n + k < receipt_count = omega (arith, length-drop n (records_in s), count) in
          ap blank (get_or-drop n (records_in s) k none ∙ record_is (n + k) inside) ∙ b.at (n + k) (omega arith) inside

  -- behind the last record there is nothing to add up
  pub sums_none : (holds : Record → Hold) → no_sums ≡ sums_by holds (last_records receipt_count)
  unfolding sums_by
  sums_none holds =
      let past : last_records receipt_count ≡ [] = ap (λ (n : ℕ). drop n (records_in s)) (sym count) ∙ drop-length (records_in s) in
      sym (ap (sums_by holds) past)

  -- a turn at record i - 1, whatever a record holds
  pub sums_turn : (holds : Record → Hold) (i : ℕ) → 0 < i → i ≤ receipt_count → (h : Hold) → h ≡ holds (rec (i - 1)) →
      add_to h.from h.fen.0 (sums_by holds (last_records i)) ≡ sums_by holds (last_records (i - 1))
  sums_turn holds i p q h e =
      let k = i - 1 in
      let next : suc k ≡ i = omega arith in
      let inside : k < receipt_count = omega arith in
      let had : holds (slice_index_or (records_in s) k none) ≡ h = ap holds (record_is k inside) ∙ sym e in
      sym (sums_more holds (records_in s) k none (rw count inside)
      ∙ ap (λ (g : Hold). add_to g.from g.fen.0 (sums_by holds (last_records (suc k)))) had
      ∙ ap (λ (j : ℕ). add_to h.from h.fen.0 (sums_by holds (last_records j))) next)

  -- a sum on the way, and what one lot adds to it, fit 64 bits together
  pub sum_room : (holds : Record → Hold) → ((r : Record) → (holds r).from ≤ account_count) → ((r : Record) → (holds r).fen.0 ≤ most_full)
      → (i : ℕ) (sums : List Fen) → sums ≡ sums_by holds (last_records i) → (p : ℕ) → p < account_count → (n : ℕ) → n ≤ most_full →
      sum_at sums p + n < 2 ^ 64
  sum_room holds known small i sums e p h n q =
      let m : sum_at sums p ≤ most_full * length (last_records i) = rw e (sum_le holds known most_full small (last_records i) p h) in
      omega (arith, m, length-drop i (records_in s), count)

  -- ── The marks ──

  abbrev mark : ℕ → ℕ → Bool
  mark n k = nat_lt k n || record_valid (rec k)

  pub marks_length : (n : ℕ) → length (marks_from n s) ≡ receipt_count
  marks_length n = length_table receipt_count (mark n)

  pub marks_start : (n : ℕ) → BlankFrom s n → replicate receipt_count true ≡ marks_from n s
  marks_start n b =
      is_table true (replicate receipt_count true) receipt_count (mark n) (length-replicate receipt_count true)
      (λ k h. get_or-replicate receipt_count k true true h ∙ sym (go k h (nat_lt k n) refl))
    where
      go : (k : ℕ) → k < receipt_count → (t : Bool) → nat_lt k n ≡ t → t || record_valid (rec k) ≡ true
      go k h true e = refl
      go k h false e = blank_valid (rec k) (b.at k (ltb-false k n e) h)

  -- beside record k its turn changes nothing
  beside : (k j : ℕ) → j ≢ k → mark (suc k) j ≡ mark k j
  beside k j n = ap (λ (t : Bool). t || record_valid (rec j)) (go (nat_lt j k) refl)
    where
      go : (t : Bool) → nat_lt j k ≡ t → nat_lt j (suc k) ≡ t
      go true e = lt-ltb j (suc k) (omega (arith, ltb-true j k e))
      go false e = le-ltb j (suc k) (omega (arith, ltb-false j k e))

  marks_at : (k : ℕ) → k < receipt_count → marked (marks_from (suc k) s) k (record_valid (rec k)) ≡ marks_from k s
  marks_at k h = go (record_valid (rec k)) refl
    where
      here : mark k k ≡ record_valid (rec k)
      here = rw (le-ltb k k (omega arith))

      same : record_valid (rec k) ≡ true → (j : ℕ) → Dec (j ≡ k) → mark (suc k) j ≡ mark k j
      same v j (yes e) = rw (e, lt-ltb k (suc k) (omega arith)) (sym (here ∙ v))
      same v j (no e) = beside k j e

      go : (b : Bool) → record_valid (rec k) ≡ b → marked (marks_from (suc k) s) k b ≡ marks_from k s
      go true v = table_cong receipt_count (mark (suc k)) (mark k) (λ j p. same v j (ℕ_discrete j k))
      go false v = set_table receipt_count (mark (suc k)) (mark k) k false false h (sym (here ∙ v)) (λ j p e. beside k j e)

  -- a turn at record i - 1
  pub marks_turn : (i : ℕ) → 0 < i → i ≤ receipt_count → marked (marks_from i s) (i - 1) (record_valid (rec (i - 1))) ≡ marks_from (i - 1) s
  marks_turn i p q =
      let k = i - 1 in
      let next : suc k ≡ i = omega arith in
      ap (λ (j : ℕ). marked (marks_from j s) k (record_valid (rec k))) (sym next) ∙ marks_at k (omega arith)

  pub marks_end : marks_from 0 s ≡ valid_records s
  unfolding records_in
  marks_end = table_cong receipt_count (mark 0) (λ (k : ℕ). record_valid (rec k)) (λ k p. rw (le-ltb k 0 (omega arith))) ∙ sym (map_table record_valid receipt_count rec)
