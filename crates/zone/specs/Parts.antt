-- A zone with one of its parts changed.
-- Assumes nothing.
use Rattle.std.specs.Prelude.{Bool, List, ℕ}
use Rattle.units.specs.declared.Fen.{Fen}
use Rattle.units.specs.declared.YuanPerTonne.{YuanPerTonne}
use Rattle.zone.specs.declared.Account.{Account}
use Rattle.zone.specs.declared.Receipt.{Receipt}
use Rattle.zone.specs.declared.Zone.{Zone}

-- another day and phase
abbrev pub with_clock : Zone → ℕ → Bool → Zone
with_clock z day afternoon =
    record { day = day; afternoon = afternoon; asks = z.asks; accounts = z.accounts; receipts = z.receipts; total = z.total }

-- other asks
abbrev pub with_asks : Zone → List YuanPerTonne → Zone
with_asks z asks =
    record { day = z.day; afternoon = z.afternoon; asks = asks; accounts = z.accounts; receipts = z.receipts; total = z.total }

-- other accounts
abbrev pub with_accounts : Zone → List Account → Zone
with_accounts z accounts =
    record { day = z.day; afternoon = z.afternoon; asks = z.asks; accounts = accounts; receipts = z.receipts; total = z.total }

-- other receipts
abbrev pub with_receipts : Zone → List Receipt → Zone
with_receipts z receipts =
    record { day = z.day; afternoon = z.afternoon; asks = z.asks; accounts = z.accounts; receipts = receipts; total = z.total }

-- another total
abbrev pub with_total : Zone → Fen → Zone
with_total z total =
    record { day = z.day; afternoon = z.afternoon; asks = z.asks; accounts = z.accounts; receipts = z.receipts; total = total }
