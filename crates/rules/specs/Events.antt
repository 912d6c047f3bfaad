-- An event at a lot is an entry and the receipt as it is after; the money follows from it. A sweep visits lots in ascending order.
-- Assumes nothing.
use Rattle.std.specs.Prelude.{cond, List, [], ◌∷◌, ◌++◌, ℕ, zero, suc, ◌+◌, ◌-◌, Some, None}
use Rattle.units.specs.declared.Fen.{Fen}
use Rattle.units.specs.Payments.{fen}
use Rattle.zone.specs.declared.Account.{Account}
use Rattle.zone.specs.declared.Hold.{Hold}
use Rattle.zone.specs.declared.Receipt.{Receipt}
use Rattle.zone.specs.declared.Record.{Record}
use Rattle.zone.specs.declared.Zone.{Zone}
use Rattle.zone.specs.Held.{hold_of}
use Rattle.zone.specs.Record.{record_of}
use Rattle.rules.specs.AtLot.{AtLot}
use Rattle.rules.specs.declared.Entry.{Entry}
use Rattle.rules.specs.Tables.{among, put}
use Rattle.rules.specs.View.{free_of, frozen_of, record_of_receipt}

-- ── Four moves of money ────────────────────────────────────────────────────────────────────────
-- n fen of account a. Nothing is taken that is not there: of an event `funded` (Laws/Fit) says that each move finds its money, and of a
-- take-out number 11 (`money_out`, Laws/Ready).

-- more free money
unfoldable pub credit : ℕ → Fen → List Account → List Account
credit a n l = put l a (record { free = fen ((free_of l a).0 + n.0); frozen = frozen_of l a })

-- less free money
unfoldable pub debit : ℕ → Fen → List Account → List Account
debit a n l = put l a (record { free = fen ((free_of l a).0 - n.0); frozen = frozen_of l a })

-- frozen money becomes free
unfoldable pub release : ℕ → Fen → List Account → List Account
release a n l = put l a (record { free = fen ((free_of l a).0 + n.0); frozen = fen ((frozen_of l a).0 - n.0) })

-- free money is frozen
unfoldable pub freeze : ℕ → Fen → List Account → List Account
freeze a n l = put l a (record { free = fen ((free_of l a).0 - n.0); frozen = fen ((frozen_of l a).0 + n.0) })

-- The four in order, of what a lot held before, n fen that pass from one account to another, and what the lot holds after.
abbrev pub money_moved : Hold → ℕ → ℕ → Fen → Hold → List Account → List Account
money_moved old from to n new l = freeze new.from new.fen (credit to n (debit from n (release old.from old.fen l)))

-- ── An event ───────────────────────────────────────────────────────────────────────────────────

-- The money that an entry passes from its from to its to. The number of a first payment (9), a part payment (11), a buyer default (12)
-- and a penalty (15) is fen; that of a bid or a strike is a price, and no money.
unfoldable pub money_of : Entry → Fen
money_of e = cond (among e.outcome (9 ∷ 11 ∷ 12 ∷ 15 ∷ [])) (fen e.number) (fen 0)

-- The accounts after the event with entry e, by which a lot of record f has record f': what the lot held is freed, the entry's money
-- passes, what the lot now holds is frozen.
unfoldable pub accounts_after : Record → Entry → Record → List Account → List Account
accounts_after f e f' l = money_moved (hold_of f) e.from e.to (money_of e) (hold_of f') l

-- the zone with an event posted: the lot's receipt changed, and its money moved
unfoldable pub posted : Zone → Entry → Receipt → Zone
posted z e r =
    record {
      day = z.day;
      afternoon = z.afternoon;
      asks = z.asks;
      accounts = accounts_after (record_of_receipt z e.lot) e (record_of r) z.accounts;
      receipts = put z.receipts e.lot r;
      total = z.total;
    }

-- ── Lots in ascending order ────────────────────────────────────────────────────────────────────

-- the zone after, and the entries in the order of the events
pub record Done : Type 0 where
  pub zone : Zone
  pub entries : List Entry

-- after what a rule does at one lot
abbrev pub after_lot : Zone → AtLot → Done
after_lot z None = record { zone = z; entries = [] }
after_lot z (Some x) = record { zone = posted z x.entry x.receipt; entries = x.entry ∷ [] }

-- a rule at `more` lots from number n on, each on the zone that the lots before it left
unfoldable pub sweep : (Zone → ℕ → AtLot) → ℕ → ℕ → Zone → Done
sweep rule zero n z = record { zone = z; entries = [] }
sweep rule (suc more) n z =
    let first = after_lot z (rule z n) in
    let others = sweep rule more (suc n) first.zone in
    record { zone = others.zone; entries = first.entries ++ others.entries }
