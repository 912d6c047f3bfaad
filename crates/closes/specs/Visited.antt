-- What a close asks of the lot that it comes by, and what it leaves there.
-- Assumes nothing.
use Rattle.std.specs.Prelude.{true, List, Option, ◌≡◌, ℕ, ◌≤◌}
use Rattle.units.specs.Ranges.{receipt_count}
use Rattle.zone.specs.declared.Record.{Record}
use Rattle.zone.specs.Valid.{valid_zone}
use Rattle.image.specs.Image.{decode, Encoded}
use Rattle.rules.specs.declared.Call.{Call}
use Rattle.rules.specs.declared.Entry.{Entry}
use Rattle.rules.specs.View.{record_of_receipt}
use Rattle.lots.specs.Noted.{Worked}

-- lot n of the image of a valid zone
pub record Visited (n : ℕ) (image : List ℕ) : Type 0 where
  pub encoded : Encoded image
  pub valid : valid_zone (decode image) ≡ true
  pub low : 1 ≤ n
  pub high : n ≤ receipt_count

-- of record f, on its due day or later
pub record Due (n : ℕ) (image : List ℕ) (f : Record) : Type 0 where
  pub at : Visited n image
  pub read : f ≡ record_of_receipt (decode image) n
  pub day : f.due ≤ (decode image).day

-- what every call of this kind does at the lot
abbrev pub Closed : ℕ → ℕ → List ℕ → List ℕ → Option Entry → Type 0
Closed kind n image image' noted = (c : Call) → c.kind ≡ kind → Worked c n image image' noted
