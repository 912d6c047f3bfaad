-- What a quote lists (02 1/12), said without the function that puts entries in order: the strikes of the sweep, each lot once, each at the
-- price that was bid on its lot; and of any two neighbours the first has the higher price, or the same price and the lower lot. The proof is
-- in Laws/.
-- Assumes nothing.
use Rattle.std.specs.Prelude.{List, [], ◌∷◌, ◌≢◌, ◌≡◌, ℕ, ◌<◌}
use Rattle.units.specs.Ranges.{receipt_count}
use Rattle.zone.specs.declared.Zone.{Zone}
use Rattle.rules.specs.declared.Call.{Call}
use Rattle.rules.specs.declared.Entry.{Entry}
use Rattle.rules.specs.Effects.{opening, rule_at}
use Rattle.rules.specs.Events.{sweep}
use Rattle.rules.specs.View.{record_of_receipt}
use Rattle.image.specs.Image.{decode}
use Rattle.answers.specs.Buffers.{call_in, entries_in}
use Rattle.crz.specs.Returned.{Returned}

-- ── The same strikes ───────────────────────────────────────────────────────────────────────────

-- the same entries, each as often, in some order
pub data Permuted : List Entry → List Entry → Type 0 where
  none : Permuted [] []
  keep : {e : Entry} {es fs : List Entry} → Permuted es fs → Permuted (e ∷ es) (e ∷ fs)
  swap : {a b : Entry} {es : List Entry} → Permuted (a ∷ b ∷ es) (b ∷ a ∷ es)
  via : {es fs gs : List Entry} → Permuted es fs → Permuted fs gs → Permuted es gs

-- what is said of an entry, of each one
abbrev pub EachEntry : (Entry → Type 0) → List Entry → Type 0
EachEntry P [] = Unit {0}
EachEntry P (e ∷ es) = P e × EachEntry P es

-- no entry is of lot k
abbrev pub Without : ℕ → List Entry → Type 0
Without k es = EachEntry (λ e. e.lot ≢ k) es

-- no two entries are of one lot
abbrev pub Apart : List Entry → Type 0
Apart [] = Unit {0}
Apart (e ∷ es) = Without e.lot es × Apart es

-- a strike of the bid that stood on its lot: by its bidder, at its price
pub record StrikesBid (z : Zone) (e : Entry) : Type 0 where
  pub outcome : e.outcome ≡ 6
  pub stood : (record_of_receipt z e.lot).state ≡ 2
  pub bidder : e.from ≡ (record_of_receipt z e.lot).buyer
  pub price : e.number ≡ (record_of_receipt z e.lot).price.0

-- ── Their order ────────────────────────────────────────────────────────────────────────────────

-- of two neighbours; the number of a strike is its price
pub data Above (a b : Entry) : Type 0 where
  higher : b.number < a.number → Above a b
  lower_lot : a.number ≡ b.number → a.lot < b.lot → Above a b

-- each neighbour below the one in front of it
abbrev pub Descending : List Entry → Type 0
Descending [] = Unit {0}
Descending (a ∷ []) = Unit {0}
Descending (a ∷ b ∷ es) = Above a b × Descending (b ∷ es)

-- ── The claim ──────────────────────────────────────────────────────────────────────────────────

-- what is listed of the strikes of a sweep, on the zone before the call
pub record ByPrice (z : Zone) (strikes listed : List Entry) : Type 0 where
  pub same : Permuted strikes listed
  pub once : Apart listed
  pub struck : EachEntry (StrikesBid z) listed
  pub order : Descending listed

-- the strikes of a quote: all lots in ascending order, on the zone with the new ask (01 Calls 12)
abbrev pub strikes_of : List ℕ → Call → List Entry
strikes_of image c = (sweep (rule_at c) receipt_count 1 (opening c (decode image))).entries

-- of every accepted quote, by the entries that a host reads in its answer
abbrev pub QuoteByPrice : Type 0
QuoteByPrice =
    (image call answer image' answer' : List ℕ) → Returned image call answer 0 image' answer' → (call_in call).kind ≡ 9
    → ByPrice (decode image) (strikes_of image (call_in call)) (entries_in answer')
