-- The figures of an image, by what the walk has added up, and as they stand in bytes.
-- Assumes nothing.
use Rattle.std.specs.Prelude.{Bool, true, false, cond, ◌≡◌, refl, ℕ, suc, ◌+◌, ◌*◌, ◌^◌, ◌≤◌, ◌<◌, length, take, get_or, drop, replicate}
use mathlib.Core.List.{List, [], ◌++◌, map, append-nil}
use Rattle.std.proofs.Common.{sym, ◌∙◌, arith, take-append-drop}
use Rattle.std.proofs.Math.Path.{ap}
use Rattle.std.proofs.lemmas.List.{length-map}
use Rattle.std.proofs.lemmas.List.Edits.{sets}
use Rattle.units.specs.Laws.Bounds.{most_full}
use Rattle.units.specs.Ranges.{account_count}
use Rattle.wire.specs.LittleEndian.{le_at, le_bytes}
use Rattle.wire.specs.Laws.Bytes.{length_le_bytes, le_at_le_bytes}
use Rattle.wire.specs.Laws.Runs.{run_there, behind_run}
use Rattle.zone.specs.declared.Receipt.{Receipt}
use Rattle.zone.specs.declared.Record.{Record}
use Rattle.zone.specs.declared.Zone.{Zone}
use Rattle.zone.specs.Record.{record_of}
use Rattle.zone.specs.Valid.{all, record_valid}
use Rattle.zone.specs.Laws.Valid.{zone_in}
use Rattle.image.specs.Image.{valid_image, decode}
use Rattle.image.specs.Laws.RoundTrip.{valid_decode, records_same, account_in_place}
use Rattle.image.specs.Laws.Table.{length_table, get_d_table, length_table_bytes, record_back, le_at_part}
use Rattle.image.specs.Layout.{day_in, afternoon_in, account_run, account_in, receipts_in}
use Rattle.image.specs.Table.{table, table_bytes}
use Rattle.rules.specs.Laws.Good.{Good}
use Rattle.rules.specs.Tables.{nth}
use Rattle.rules.specs.View.{free_of}
use Rattle.verdict.specs.Laws.Sums.{sum_at, sum_is, asked_le}
use Rattle.verdict.specs.Sums.{sums_by}
use Rattle.shortfalls.specs.Shortfalls.{excess, penalties_due, payments_due, shortfall, figure_length, figures_length, figures_of, figure_bytes}
use Rattle.shortfalls.specs.Walk.{valid_owed, owed_sums}
use Rattle.shortfalls.specs.Laws.Owed.{excess_le, owed_known, owed_small, owed_due}

-- ── By the walk's sums ─────────────────────────────────────────────────────────────────────────

module _ (s : List ℕ) (ok : valid_image s ≡ true) where
  -- what account suc p owes is its sum
  sum_owed : (p : ℕ) → p < account_count →
      sum_at (owed_sums (day_in s) s) p ≡ penalties_due (day_in s) (suc p) (receipts_in s) + payments_due (day_in s) (suc p) (receipts_in s)
  unfolding decode
  sum_owed p h =
      let day = day_in s in
      ap (λ (l : List Record). sum_at (sums_by (valid_owed day) l) p) (sym (records_same s ok))
      ∙ sum_is (valid_owed day) (owed_known day) (map record_of (receipts_in s)) p h
      ∙ owed_due day (suc p) (receipts_in s) (zone_in (decode s) (valid_decode s ok)).records

  -- in a morning its figure is what that has above its free money
  pub morning_figure : afternoon_in s ≡ false → (p : ℕ) → p < account_count →
      shortfall (decode s) (suc p) ≡ excess (sum_at (owed_sums (day_in s) s) p) (account_in (account_run s p)).free.0
  unfolding shortfall free_of nth decode
  morning_figure m p h = rw (m, sum_owed p h, account_in_place s p h)

-- ── In bytes ───────────────────────────────────────────────────────────────────────────────────

-- zeros in an afternoon
pub no_figures : (z : Zone) → z.afternoon ≡ true → figure_bytes z ≡ replicate figures_length 0
unfolding figure_bytes shortfall table table_bytes le_bytes
no_figures z e = rw e

pub figure_wide : (n : ℕ) → length (le_bytes figure_length n) ≡ figure_length
figure_wide n = length_le_bytes figure_length n

pub length_figures : (z : Zone) → length (figure_bytes z) ≡ figures_length
unfolding figure_bytes
length_figures z = length_table_bytes (le_bytes figure_length) figure_length figure_wide (figures_of z) ∙ ap (λ (n : ℕ). n * figure_length) (length_table account_count _)

-- put into a buffer that has room for them, they stand before what was behind them
pub figures_put : (z : Zone) (old : List ℕ) → figures_length ≤ length old → sets old 0 (figure_bytes z) ≡ figure_bytes z ++ drop figures_length old
figures_put z old h =
    let b = figure_bytes z in
    let n : length b ≡ figures_length = length_figures z in
    let front : take figures_length (sets old 0 b) ≡ b = ap (λ (m : ℕ). take m (sets old 0 b)) (sym n) ∙ run_there b old 0 (omega arith) in
    let back : drop figures_length (sets old 0 b) ≡ drop figures_length old = behind_run b old 0 figures_length (omega arith) in
    sym (take-append-drop figures_length (sets old 0 b)) ∙ rw (front, back)

-- ── As a host reads them ───────────────────────────────────────────────────────────────────────

-- what one account owes for valid receipts is no more than their full payments can be together
due_le : (day x : ℕ) (rs : List Receipt) → all (λ r. record_valid (record_of r)) rs ≡ true → penalties_due day x rs + payments_due day x rs ≤ most_full * length rs
due_le day x rs v =
    omega (arith, owed_due day x rs v, asked_le (valid_owed day) (owed_known day) most_full (owed_small day) x (map record_of rs), length-map rs record_of)

-- so that a figure is an amount that one call may name
pub shortfall_le : (z : Zone) → Good z → (x : ℕ) → shortfall z x ≤ 10 ^ 12
unfolding shortfall
shortfall_le z G x = go z.afternoon
  where
    go : (b : Bool) → cond b 0 (excess (penalties_due z.day x z.receipts + payments_due z.day x z.receipts) (free_of z.accounts x).0) ≤ 10 ^ 12
    go true = omega arith
    go false =
        omega (
          arith,
          excess_le (penalties_due z.day x z.receipts + payments_due z.day x z.receipts) (free_of z.accounts x).0,
          due_le z.day x z.receipts G.records,
          G.sized.receipts,
        )

-- the figure of account suc k, where it stands
pub figure_there : (z : Zone) (rest : List ℕ) (k : ℕ) → k < account_count → shortfall z (suc k) < 2 ^ 64 →
    le_at figure_length (figure_bytes z ++ rest) (k * figure_length) ≡ shortfall z (suc k)
unfolding figure_bytes
figure_there z rest k h small =
    let l = figures_of z in
    let s : List ℕ = table_bytes (le_bytes figure_length) l ++ rest in
    let n : ℕ = shortfall z (suc k) in
    let place : 0 + k * figure_length ≡ k * figure_length = omega arith in
    let part : take figure_length (drop (k * figure_length) s) ≡ le_bytes figure_length (get_or l k 0) =
    rw place at (record_back (le_bytes figure_length) figure_length figure_wide 0 [] rest l 0 k refl (omega (arith, length_table account_count (λ j. shortfall z (suc j))))) in
    let there : get_or l k 0 ≡ n = get_d_table account_count (λ j. shortfall z (suc j)) k 0 h in
    let end : k * figure_length + 0 ≡ k * figure_length = omega arith in
    ap (le_at figure_length s) (sym end)
    ∙ sym (le_at_part figure_length s (k * figure_length) 0 figure_length (omega arith))
    ∙ ap (λ (b : List ℕ). le_at figure_length b 0) (part ∙ ap (le_bytes figure_length) there ∙ sym (append-nil (le_bytes figure_length n)))
    ∙ le_at_le_bytes figure_length n [] [] small
