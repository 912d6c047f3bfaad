-- The measure of every loop over a counter of 64 bits, whatever it counts to: lengths stand in the code alone. Assumes nothing.
use Rattle.std.specs.Prelude.{ℕ, ◌-◌}

abbrev pub left : ℕ → ℕ
left counter = 18446744073709551616 - counter
