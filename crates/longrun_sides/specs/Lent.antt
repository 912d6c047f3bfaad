-- The first bytes of a buffer, lent: as many as were asked for. Assumes nothing.
use Rattle.std.specs.Prelude.{◌≡◌, List, ℕ, ◌≤◌, length, take}
use Rattle.std.proofs.Common.{sym, length-take-le}

pub lent : {A : Type 0} (n : ℕ) (s : List A) → n ≤ length s → n ≡ length (take n s)
lent n s fits = sym (length-take-le n s fits)
