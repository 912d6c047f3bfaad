-- A list by its elements, and the bytes of a table of records.
-- Assumes nothing.
use Rattle.std.specs.Prelude.{List, [], ◌∷◌, ◌++◌, ℕ, zero, suc, ◌+◌, ◌*◌, take, drop}

-- f 0 to f (n - 1)
module _ {A : Type 0} where
  unfoldable pub table : ℕ → (ℕ → A) → List A
  table zero f = []
  table (suc n) f = table n f ++ (f n ∷ [])

  -- the bytes of a table, record after record
  unfoldable pub table_bytes : (A → List ℕ) → List A → List ℕ
  table_bytes bytes [] = []
  table_bytes bytes (x ∷ xs) = bytes x ++ table_bytes bytes xs

-- record i of a table that starts at `at` and whose records have `size` bytes
abbrev pub run_at : ℕ → ℕ → List ℕ → ℕ → List ℕ
run_at at size s i = take size (drop (at + i * size) s)
