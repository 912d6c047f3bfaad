-- What the walk over the records carries on its way. No promise of a public function cites it.
-- Assumes nothing.
use Rattle.std.specs.Prelude.{◌≡◌, ℕ, ◌<◌, ◌≤◌, Bool, true, false, cond, ◌||◌, List, nat_lt, slice_set}
use Rattle.units.specs.Ranges.{receipt_count}
use Rattle.zone.specs.Valid.{blank, record_valid}
use Rattle.image.specs.Table.{table}
use Rattle.image.specs.Layout.{receipt_run, record_in}

-- the records from n on are blank
pub record BlankFrom (s : List ℕ) (n : ℕ) : Type 0 where
  pub at : (k : ℕ) → n ≤ k → k < receipt_count → blank (record_in (receipt_run s k)) ≡ true

-- the marks once the records from n on are judged: those before it still have theirs
abbrev pub marks_from : ℕ → List ℕ → List Bool
marks_from n s = table receipt_count (λ k. nat_lt k n || record_valid (record_in (receipt_run s k)))

-- record k is judged: it keeps its mark, or loses it
abbrev pub marked : List Bool → ℕ → Bool → List Bool
marked marks k ok = cond ok marks (slice_set marks k false)
