-- The four moves of money as one change of an account.
-- Assumes nothing.
use Rattle.std.specs.Prelude.{List, ℕ, ◌+◌, ◌-◌, ◌≤◌, ◌<◌}
use Rattle.units.specs.Payments.{fen}
use Rattle.units.specs.Ranges.{account_count, money_limit}
use Rattle.zone.specs.declared.Account.{Account}
use Rattle.zone.specs.Held.{all_money}
use Rattle.rules.specs.Tables.{put}
use Rattle.rules.specs.View.{free_of, frozen_of}
use Rattle.events.specs.declared.money.Change.{Change}

-- Added to and taken from the free money of account a, held and freed of its frozen money. Nothing is taken that is not there: the code asks
-- for `Affords`, which its callers have from `funded` (rules, Laws/Fit), and of a take-out from `money_out` (rules, Laws/Ready).
unfoldable pub changed : ℕ → Change → List Account → List Account
changed a by l =
    put l a (record {
      free = fen ((free_of l a).0 + by.added.0 - by.taken.0);
      frozen = fen ((frozen_of l a).0 + by.held.0 - by.freed.0);
    })

-- a is nobody or an account that has what is taken and freed, and all money keeps its limit
pub record Affords (l : List Account) (a : ℕ) (by : Change) : Type 0 where
  pub place : a ≤ account_count
  pub added_in : 0 < a → by.added.0 ≤ money_limit
  pub held_in : 0 < a → by.held.0 ≤ money_limit
  pub free : 0 < a → by.taken.0 ≤ (free_of l a).0 + by.added.0
  pub frozen : 0 < a → by.freed.0 ≤ (frozen_of l a).0 + by.held.0
  pub all : all_money l ≤ money_limit
