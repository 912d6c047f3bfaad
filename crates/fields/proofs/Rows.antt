-- The row of a number that was read as a kind, and of one that is no kind's.
-- Assumes nothing.
use Rattle.std.proofs.Common.{Ok, Err, ℕ, ◌≡◌, true, false, sym, ap, ◌∙◌, [], eqb, ne_eqb, true≢false}
use Rattle.units.specs.Ranges.{within}
use Rattle.rules.specs.declared.Kind.{Kind}
use Rattle.rules.specs.declared.Refusal.{Refusal}
use Rattle.rules.specs.Kinds.{kind_number, kind_of}
use Rattle.rules.specs.Laws.Numbered.{is_kind, unread_outside}
use Rattle.rules.specs.Numbers.{brackets}

pub row_read : (n : ℕ) (k : Kind) → kind_of n ≡ Ok k → brackets (kind_number k) ≡ brackets n
row_read n k e = ap brackets (sym (is_kind n k e))

-- no kind's number, for `simp`, which computes the premise at a number written out
outside : (n : ℕ) → within 1 15 n ≡ false → (k : ℕ) → within 1 15 k ≡ true → eqb n k ≡ false
outside n h k in_kinds = ne_eqb n k (λ e. true≢false (sym in_kinds ∙ (ap (within 1 15) (sym e) ∙ h)))

pub no_row : (n : ℕ) (r : Refusal) → kind_of n ≡ Err r → [] ≡ brackets n
no_row n r e = simp (outside n (unread_outside n r e).1)
