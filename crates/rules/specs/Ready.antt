-- What the code asks of its callers, who have it from a valid zone and a call of number 0.
-- Assumes nothing.
use Rattle.std.specs.Prelude.{true, List, ◌≡◌, ℕ, ◌+◌, ◌≤◌, ◌<◌, ◌^◌, length}
use Rattle.units.specs.declared.Fen.{Fen}
use Rattle.units.specs.Ranges.{most_price, money_limit, last_day}
use Rattle.zone.specs.declared.Account.{Account}
use Rattle.zone.specs.declared.Hold.{Hold}
use Rattle.zone.specs.declared.Record.{Record}
use Rattle.zone.specs.Held.{hold_of, fen_from}
use Rattle.zone.specs.Valid.{record_valid}
use Rattle.rules.specs.declared.Call.{Call}
use Rattle.rules.specs.declared.Entry.{Entry}
use Rattle.rules.specs.declared.View.{View}
use Rattle.rules.specs.Events.{money_of}
use Rattle.rules.specs.View.{free_of, frozen_of}

-- the lot's record is valid, and the view's day and money are within their limits, as in a valid zone
pub record Ready (v : View) (f : Record) : Type 0 where
  pub valid : record_valid f ≡ true
  pub day : v.day ≤ last_day
  pub caller : v.free.caller.0 ≤ money_limit
  pub buyer : v.free.buyer.0 ≤ money_limit
  pub total : v.total.0 ≤ money_limit

-- what the numbers have tested of a call at one lot
pub record ReadyCall (c : Call) (f : Record) : Type 0 where
  pub price : c.kind ≡ 6 → c.amount ≤ most_price
  pub invoice : c.kind ≡ 13 → c.amount < 2 ^ 32
  pub pending : c.kind ≡ 14 → (f.state ≡ 6) × (0 < f.pending.0)

-- The money of an event is there: `old` is freed, n passes from account s to account t, then `new` is frozen.
pub record Funds (l : List Account) (old : Hold) (s t : ℕ) (n : Fen) (new : Hold) : Type 0 where
  pub old_in : old.from ≤ length l
  pub from_in : s ≤ length l
  pub to_in : t ≤ length l
  pub new_in : new.from ≤ length l
  pub from_some : 0 < s
  pub to_some : 0 < n.0 → 0 < t
  pub frozen_fits : 0 < old.from → old.fen.0 ≤ (frozen_of l old.from).0
  pub pass_fits : n.0 ≤ (free_of l s).0 + fen_from s old.from old.fen.0
  pub hold_fits : 0 < new.from →
      new.fen.0 + fen_from new.from s n.0 ≤ (free_of l new.from).0 + fen_from new.from old.from old.fen.0 + fen_from new.from t n.0

-- the money of the event with entry e, by which a lot of record f has record f'
abbrev pub Funded : List Account → Record → Entry → Record → Type 0
Funded l f e f' = Funds l (hold_of f) e.from e.to (money_of e) (hold_of f')
