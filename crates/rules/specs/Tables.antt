-- How the tables of the rules are read.
-- Assumes nothing.
use Rattle.std.specs.Prelude.{Bool, true, false, cond, List, [], ◌∷◌, ℕ, zero, suc, eqb, get_or, set}

-- n is one of the numbers
abbrev pub among : ℕ → List ℕ → Bool
among n [] = false
among n (k ∷ ks) = cond (eqb n k) true (among n ks)

-- what the first row that names n has, else d
abbrev pub row : {A : Type 0} → ℕ → A → List (List ℕ × A) → A
row n d [] = d
row n d (r ∷ rs) = cond (among n r.0) r.1 (row n d rs)

-- the number of the first row whose test applies, 0 where none does (01 Answers 26)
abbrev pub first_that_applies : List (ℕ × Bool) → ℕ
first_that_applies [] = 0
first_that_applies (r ∷ rs) = cond r.1 r.0 (first_that_applies rs)

-- Accounts, receipts and contracts count from 1 (01 Image 6): element n of a table, and d for 0, which is nobody.
module _ {A : Type 0} where
  unfoldable pub nth : A → List A → ℕ → A
  nth d l zero = d
  nth d l (suc k) = get_or l k d

  -- the table with v as its element n; of nobody nothing is changed
  unfoldable pub put : List A → ℕ → A → List A
  put l zero v = l
  put l (suc k) v = set l k v
