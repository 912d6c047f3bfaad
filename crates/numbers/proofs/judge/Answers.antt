use Rattle.std.proofs.Common.{false, ◌≡◌, sym, ◌∙◌}
use Rattle.zone.specs.Laws.Tests.{price_at_most}
use Rattle.rules.specs.Laws.Passed.{ranges_at}
use Rattle.rules.specs.Numbers.{out_of_range}
use Rattle.numbers.proofs.judge.Goals as goal
use Rattle.numbers.proofs.judge.Goals.{Else-out_of_range}

-- the call passes the test of ranges
in_ranges : (c : Else-out_of_range) → out_of_range c.in_ok-known.known.call ≡ false
in_ranges c = sym c.out_of_range.ensures ∙ c.if-out_of_range.false

pub not_payable-requires : goal.not_payable-requires
not_payable-requires c = λ e. price_at_most _ (ranges_at _ 6 e (in_ranges (goal.at.not_payable-requires c).Else-out_of_range)).1.1.0

pub above_limit-requires : goal.above_limit-requires
above_limit-requires c = record { total = c.requires.total; amount = λ e. (ranges_at _ 1 e (in_ranges (goal.at.above_limit-requires c).Else-out_of_range)).1.0 }

pub above_invoice-requires : goal.above_invoice-requires
above_invoice-requires c = record { valid = c.requires.valid; amount = λ e. (ranges_at _ 13 e (in_ranges (goal.at.above_invoice-requires c).Else-out_of_range)).1.1.0 }
