-- What every accepted call keeps: a valid zone stays valid, the entries fit an answer, and no lot is listed twice. The proofs are in
-- Laws/.
-- Assumes nothing.
use Rattle.std.specs.Prelude.{true, List, [], ◌∷◌, ◌≢◌, ◌≡◌, ℕ, suc, ◌≤◌, ◌<◌, ◌^◌, length}
use Rattle.units.specs.Ranges.{account_count, receipt_count}
use Rattle.zone.specs.declared.Zone.{Zone}
use Rattle.zone.specs.Valid.{Sized, valid_zone}
use Rattle.rules.specs.declared.Call.{Call}
use Rattle.rules.specs.declared.Entry.{Entry}
use Rattle.rules.specs.Effects.{effect}
use Rattle.rules.specs.Events.{Done}
use Rattle.rules.specs.Steps.{number_on}
use Rattle.claims.specs.PriceOrder.{EachEntry, Apart}

-- a lot, an outcome, an account and an account or nobody, and a number of four bytes (01 Answers 3)
pub record EntryFits (e : Entry) : Type 0 where
  pub lot : (1 ≤ e.lot) × (e.lot ≤ receipt_count)
  pub outcome : (1 ≤ e.outcome) × (e.outcome ≤ 15)
  pub from : (1 ≤ e.from) × (e.from ≤ account_count)
  pub to : e.to ≤ account_count
  pub number : e.number < 2 ^ 32

-- the number of each entry fits its four bytes
abbrev pub NumbersFit : List Entry → Type 0
NumbersFit es = EachEntry (λ e. e.number < 2 ^ 32) es

-- the entries are of lots from n on, each above the one before it (01 Answers 4), with fields in their ranges
abbrev pub Ascending : ℕ → List Entry → Type 0
Ascending n [] = Unit {0}
Ascending n (e ∷ es) = (n ≤ e.lot) × EntryFits e × Ascending (suc e.lot) es

-- What holds of the zone and the entries that a call of this kind leaves: the lengths of the tables, validity, the entries and their room in
-- an answer. The lots of a quote do not ascend (02 1/12); it lists no lot twice either (01 Answers 5), see PriceOrder.
pub record Kept (kind : ℕ) (d : Done) : Type 0 where
  pub sized : Sized d.zone
  pub valid : valid_zone d.zone ≡ true
  pub ascending : kind ≢ 9 → Ascending 1 d.entries
  pub once : Apart d.entries
  pub fit : EachEntry EntryFits d.entries
  pub count : length d.entries ≤ receipt_count

-- every accepted call keeps it
abbrev pub KeepsValid : Type 0
KeepsValid = (z : Zone) (c : Call) → Sized z → valid_zone z ≡ true → number_on z c ≡ 0 → Kept c.kind (effect z c)
