-- What a row of `brackets` asks to be zero, with the tests joined from the left, as the code joins them: at a row written out it computes
-- to the code's own expression.
-- Assumes nothing.
use mathlib.Core.Bool.{Bool, true, false, cond, ◌&&◌, ◌||◌, and-true, and-false, and_assoc, and_comm}
use mathlib.Core.List.{List, [], ◌∷◌}
use mathlib.Core.Path.{◌≡◌, refl, sym, ap, ◌∙◌}
use Prim.Native.Nat.{ℕ, zero, suc}
use lib.Dec.{eqb, leb-zero, leb-suc-zero, eqb-suc-zero}
use lib.IntN.{pos}
use Rattle.units.specs.Ranges.{is_zero}
use Rattle.rules.specs.declared.Call.{Call}
use Rattle.rules.specs.declared.Kind.{Kind}
use Rattle.rules.specs.Kinds.{kind_number}
use Rattle.rules.specs.Numbers.{Field, brackets, is_used, unused_zero, values}

-- fields, each as whether the row uses it and whether it is zero
abbrev used_or_zero : List (Bool × Bool) → Bool
used_or_zero [] = true
used_or_zero (f ∷ fs) = (f.0 || f.1) && used_or_zero fs

-- without the tests of those that it uses
abbrev pub zeros : Bool → List (Bool × Bool) → Bool
zeros b [] = b
zeros b (f ∷ fs) = zeros (cond f.0 b (b && f.1)) fs

zeros_all : (b : Bool) (fs : List (Bool × Bool)) → zeros b fs ≡ b && used_or_zero fs
zeros_all b [] = sym (and-true b)
zeros_all b (f ∷ fs) = zeros_all (cond f.0 b (b && f.1)) fs ∙ go f.0 f.1
  where
    go : (u z : Bool) → cond u b (b && z) && used_or_zero fs ≡ b && ((u || z) && used_or_zero fs)
    go true z = refl
    go false z = and_assoc b z (used_or_zero fs)

is_zero_lem : (n : ℕ) → eqb n 0 ≡ is_zero (pos n)
is_zero_lem zero = refl
is_zero_lem (suc n) = rw (leb-zero (suc n), leb-suc-zero n, eqb-suc-zero n)

and_left : (a b c : Bool) → a && (b && c) ≡ b && (a && c)
and_left true b c = refl
and_left false b c = sym (and-false b)

-- the fields of a call in the code's order: those of `no_terms` first
module _ (c : Call) (fs : List Field) where
  abbrev pub fields : List (Bool × Bool)
  fields =
      (is_used 2 fs, eqb c.contract 0)
      ∷ (is_used 3 fs, eqb c.days 0)
      ∷ (is_used 5 fs, is_zero c.basis)
      ∷ (is_used 6 fs, eqb c.weight 0)
      ∷ (is_used 0 fs, eqb c.account 0)
      ∷ (is_used 1 fs, eqb c.receipt 0)
      ∷ (is_used 4 fs, eqb c.amount 0)
      ∷ (is_used 7 fs, eqb c.spare 0)
      ∷ []

  pub zeros_unused : zeros true fields ≡ unused_zero fs 0 (values c)
  zeros_unused = zeros_all true fields ∙ simp (is_zero_lem, and_comm, and_left)

pub outside_row : (c : Call) (kind : Kind) {fs : List Field} → fs ≡ brackets (kind_number kind) →
    zeros true (fields c fs) ≡ unused_zero (brackets (kind_number kind)) 0 (values c)
outside_row c kind {fs} e = zeros_unused c fs ∙ ap (λ (row : List Field). unused_zero row 0 (values c)) e
