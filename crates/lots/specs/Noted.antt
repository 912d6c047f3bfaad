-- What a sweep leaves at a lot that it comes by: the image, and the entry that is to be listed.
-- Assumes nothing.
use Rattle.std.specs.Prelude.{Option, Some, None, List, [], ◌∷◌, ◌≡◌, ℕ}
use Rattle.image.specs.Image.{decode, encode}
use Rattle.rules.specs.declared.Call.{Call}
use Rattle.rules.specs.declared.Entry.{Entry}
use Rattle.rules.specs.Effects.{rule_at}
use Rattle.rules.specs.Events.{Done, after_lot}

-- as a list
abbrev pub entries_of : Option Entry → List Entry
entries_of (Some e) = e ∷ []
entries_of None = []

-- what the call's rule does at lot n of the image's zone
abbrev pub lot_done : Call → ℕ → List ℕ → Done
lot_done c n image = after_lot (decode image) (rule_at c (decode image) n)

-- the image after it, and what is listed
abbrev pub Worked : Call → ℕ → List ℕ → List ℕ → Option Entry → Type 0
Worked c n image image' noted = (image' ≡ encode (lot_done c n image).zone) × (entries_of noted ≡ (lot_done c n image).entries)
