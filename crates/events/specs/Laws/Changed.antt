-- One change of an account by the index of the table, and the four moves of money as such changes.
-- Assumes nothing.
use Rattle.std.specs.Prelude.{List, ◌≡◌, ℕ, ◌+◌, ◌-◌, ◌≤◌, ◌<◌, get_or, set}
use Rattle.std.proofs.Common.{ap, arith}
use Rattle.units.specs.declared.Fen.{Fen}
use Rattle.units.specs.Payments.{fen}
use Rattle.zone.specs.declared.Account.{Account}
use Rattle.zone.specs.Held.{all_money}
use Rattle.zone.specs.Valid.{empty_account}
use Rattle.rules.specs.Events.{credit, debit, release, freeze}
use Rattle.rules.specs.Laws.Moves.{free_index, frozen_index, at_most}
use Rattle.rules.specs.Laws.Tables.{put_index, put_none}
use Rattle.rules.specs.Tables.{put}
use Rattle.rules.specs.View.{free_of, frozen_of}
use Rattle.events.specs.declared.money.Change.{Change}
use Rattle.events.specs.Money.{changed}

-- an account at its place in the table, in numbers
pub record AtIndex (l : List Account) (a : ℕ) : Type 0 where
  pub free : (free_of l a).0 ≡ (get_or l (a - 1) empty_account).free.0
  pub frozen : (frozen_of l a).0 ≡ (get_or l (a - 1) empty_account).frozen.0
  pub sum : (free_of l a).0 + (frozen_of l a).0 ≤ all_money l

pub at_index : (l : List Account) (a : ℕ) → 0 < a → AtIndex l a
at_index l a p =
    record {
      free = ap (λ (n : Fen). n.0) (free_index l a p);
      frozen = ap (λ (n : Fen). n.0) (frozen_index l a p);
      sum = at_most l a;
    }

-- frozen money is part of all money
pub frozen_at_most : (l : List Account) (a : ℕ) → (frozen_of l a).0 ≤ all_money l
frozen_at_most l a = omega (arith, at_most l a)

pub changed_nobody : (l : List Account) (a : ℕ) (by : Change) → a ≡ 0 → changed a by l ≡ l
unfolding changed
changed_nobody l a by z = put_none l a _ z

pub changed_index : (l : List Account) (a : ℕ) (by : Change) → 0 < a → changed a by l
    ≡ set l (a - 1) (record {
      free = fen ((get_or l (a - 1) empty_account).free.0 + by.added.0 - by.taken.0);
      frozen = fen ((get_or l (a - 1) empty_account).frozen.0 + by.held.0 - by.freed.0);
    })
unfolding changed
changed_index l a by p = rw (free_index l a p, frozen_index l a p, put_index l a)

-- ── The four moves ─────────────────────────────────────────────────────────────────────────────

same : (l : List Account) (a : ℕ) {x x' y y' : ℕ} → x ≡ x' → y ≡ y'
    → put l a (record { free = fen x; frozen = fen y }) ≡ put l a (record { free = fen x'; frozen = fen y' })
same l a e f = λ i. put l a (record { free = fen (e i); frozen = fen (f i) })

module _ (a : ℕ) (n : Fen) (l : List Account) where
  pub release_changed : changed a (record { added = n; taken = fen 0; held = fen 0; freed = n }) l ≡ release a n l
  unfolding changed release
  release_changed = same l a (omega arith) (omega arith)

  pub debit_changed : changed a (record { added = fen 0; taken = n; held = fen 0; freed = fen 0 }) l ≡ debit a n l
  unfolding changed debit
  debit_changed = same l a (omega arith) (omega arith)

  pub credit_changed : changed a (record { added = n; taken = fen 0; held = fen 0; freed = fen 0 }) l ≡ credit a n l
  unfolding changed credit
  credit_changed = same l a (omega arith) (omega arith)

  pub freeze_changed : changed a (record { added = fen 0; taken = n; held = n; freed = fen 0 }) l ≡ freeze a n l
  unfolding changed freeze
  freeze_changed = same l a (omega arith) (omega arith)
