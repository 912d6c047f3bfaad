-- The premium of a receipt over calls (02 2/12), on bytes: the call that registers it gives it, and from then on it stays with the receipt
-- whoever owns it and whatever becomes of its lot. The proofs are in Laws/.
-- Assumes nothing.
use Rattle.std.specs.Prelude.{cond, ◌&&◌, List, [], ◌∷◌, map, ◌≢◌, ◌≡◌, ℕ, eqb, ℤ, pos}
use Rattle.zone.specs.declared.Receipt.{Receipt}
use Rattle.zone.specs.Valid.{fresh_zone}
use Rattle.rules.specs.declared.Call.{Call}
use Rattle.rules.specs.View.{receipt_of_number}
use Rattle.image.specs.Image.{decode, encode}
use Rattle.answers.specs.Buffers.{call_in}
use Rattle.crz.specs.Returned.{Returned}
use Rattle.claims.specs.Demand.{Handed, MadeFrom, calls_of, fed}
use Rattle.claims.specs.History.{Reply, refused_with, accepted_with}

-- receipt k of an image; a number that is none has the receipt that nobody owns
abbrev pub receipt_in : List ℕ → ℕ → Receipt
receipt_in image k = receipt_of_number (decode image).receipts k

-- somebody owns receipt k, and its premium is p
pub record Graded (image : List ℕ) (k : ℕ) (p : ℤ) : Type 0 where
  pub registered : (receipt_in image k).owner ≢ 0
  pub premium : (receipt_in image k).premium.0 ≡ p

-- of every accepted registration: the receipt has the premium that stands in the call's basis field
abbrev pub PremiumGiven : Type 0
PremiumGiven =
    (image call answer image' answer' : List ℕ) → Returned image call answer 0 image' answer' → (call_in call).kind ≡ 3
    → Graded image' (call_in call).receipt (call_in call).basis

-- of every list of what is handed over from an image on, refused ones among them: a registered receipt keeps its premium
abbrev pub PremiumStays : Type 0
PremiumStays =
    (start : List ℕ) (list : List Handed) (image : List ℕ) → MadeFrom start list image → (k : ℕ) (p : ℤ) → Graded start k p → Graded image k p

-- ── By the accepted calls alone ────────────────────────────────────────────────────────────────

-- what a call makes of the premium p of receipt k: an accepted registration of k gives its own, all else leaves it
abbrev pub premium_by : ℕ → Call → Reply → ℤ → ℤ
premium_by k c (refused_with n) p = p
premium_by k c (accepted_with es) p = cond (eqb c.kind 3 && eqb c.receipt k) c.basis p

-- the premium of receipt k after a list of calls, the newest first; before any registration it is 0
unfoldable pub premium_after : ℕ → List (Call × Reply) → ℤ
premium_after k [] = pos 0
premium_after k (a ∷ list) = premium_by k a.0 a.1 (premium_after k list)

-- of every list of what is handed over from a fresh image on, refused ones among them: every receipt has the premium that the accepted calls say
abbrev pub PremiumsKnown : Type 0
PremiumsKnown =
    (list : List Handed) (image : List ℕ) → MadeFrom (encode fresh_zone) list image → (k : ℕ)
    → (receipt_in image k).premium.0 ≡ premium_after k (map fed (calls_of list))
