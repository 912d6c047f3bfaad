-- What each account has to pay in before the morning close (02 6/12), account by account.
-- Assumes nothing.
use Rattle.std.specs.Prelude.{Bool, cond, ◌&&◌, List, [], ◌∷◌, ℕ, suc, ◌+◌, ◌-◌, ◌*◌, eqb, leb, ltb}
use Rattle.units.specs.Payments.{deposit, penalty}
use Rattle.units.specs.Ranges.{within, account_count}
use Rattle.wire.specs.LittleEndian.{le_bytes}
use Rattle.zone.specs.declared.Receipt.{Receipt}
use Rattle.zone.specs.declared.Record.{Record}
use Rattle.zone.specs.declared.Zone.{Zone}
use Rattle.zone.specs.Held.{full}
use Rattle.zone.specs.Record.{record_of}
use Rattle.image.specs.Table.{table, table_bytes}
use Rattle.rules.specs.View.{free_of}

-- the amount by which n passes m; where it does not, nothing, and never less. The test keeps the difference from stopping at 0.
unfoldable pub excess : ℕ → ℕ → ℕ
excess n m = cond (ltb m n) (n - m) 0

-- ── One lot, for account x on a day (02 6/12) ──────────────────────────────────────────────────

-- due today or earlier
abbrev pub is_due : ℕ → Record → Bool
is_due day r = leb r.due day

-- x owes the penalty of the lot: it is the seller, in state 7, and the penalty is due
abbrev pub owes_penalty : ℕ → ℕ → Record → Bool
owes_penalty day x r = eqb r.state 7 && is_due day r && eqb x r.seller

-- x is the buyer of a trade in state 3 or 4 that is due
abbrev pub buys_due : ℕ → ℕ → Record → Bool
buys_due day x r = within 3 4 r.state && is_due day r && eqb x r.buyer

-- ── Over all lots ──────────────────────────────────────────────────────────────────────────────

-- the penalties due from x as seller
unfoldable pub penalties_due : ℕ → ℕ → List Receipt → ℕ
penalties_due day x [] = 0
penalties_due day x (r ∷ rs) = cond (owes_penalty day x (record_of r)) penalty.0 0 + penalties_due day x rs

-- Of each due trade that x buys, what full has above the deposit. A trade that costs less asks for nothing and helps no other.
unfoldable pub payments_due : ℕ → ℕ → List Receipt → ℕ
payments_due day x [] = 0
payments_due day x (r ∷ rs) = cond (buys_due day x (record_of r)) (excess (full (record_of r)).0 deposit.0) 0 + payments_due day x rs

-- ── The figures ────────────────────────────────────────────────────────────────────────────────

-- all less the free money of x, and never below 0; in an afternoon it is 0, whatever is due
unfoldable pub shortfall : Zone → ℕ → ℕ
shortfall z x =
    cond z.afternoon 0
    (excess (penalties_due z.day x z.receipts + payments_due z.day x z.receipts) (free_of z.accounts x).0)

-- how many bytes a figure takes, and all of them
abbrev pub figure_length : ℕ
figure_length = 8

abbrev pub figures_length : ℕ
figures_length = account_count * figure_length

-- the figures of all accounts, that of account 1 first
abbrev pub figures_of : Zone → List ℕ
figures_of z = table account_count (λ k. shortfall z (suc k))

-- their bytes, lowest first
unfoldable pub figure_bytes : Zone → List ℕ
figure_bytes z = table_bytes (le_bytes figure_length) (figures_of z)
