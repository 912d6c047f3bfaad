-- The bits and the money of the first i accounts are gathered, in 64 bits.
use Rattle.std.proofs.Common.{◌≡◌, ℕ, List}
use Rattle.zone.specs.declared.Account.{Account}
use Rattle.image.specs.Layout.{account_run, account_in}
use Rattle.verdict.specs.Laws.Bits.{free_bits, other_bits, wrapped}
use Rattle.verdict.proofs.books_ok.Given as goal

-- account k of the image
abbrev pub account_of : List ℕ → ℕ → Account
account_of s k = account_in (account_run s k)

abbrev pub invariant-loop-i : goal.invariant-loop-i
invariant-loop-i l = record {
  free : l.free_bits ≡ free_bits (account_of l.image) l.i;
  other : l.other_bits ≡ other_bits (account_of l.image) l.held-items l.i;
  all : l.money ≡ wrapped (account_of l.image) l.held-items l.i;
}
