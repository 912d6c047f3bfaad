-- However the invoices of a trade are cut (02 3/12), on bytes: over any calls, tables of calls and shortfalls from an image on, a trade in state 6 that
-- has come to some confirmed sum has been paid what the formula says of that sum. The proofs are in Laws/.
-- Assumes nothing.
use Rattle.std.specs.Prelude.{Bool, true, false, not, cond, ◌&&◌, List, [], ◌∷◌, ◌≡◌, ℕ, zero, suc, ◌+◌, eqb, take, drop}
use Rattle.units.specs.Payments.{fen, paid_so_far}
use Rattle.zone.specs.declared.Record.{Record}
use Rattle.zone.specs.Held.{full}
use Rattle.zone.specs.Record.{trade_of}
use Rattle.rules.specs.declared.Call.{Call}
use Rattle.rules.specs.declared.Entry.{Entry}
use Rattle.rules.specs.View.{record_of_receipt}
use Rattle.image.specs.Image.{valid_image, decode}
use Rattle.answers.specs.Buffers.{call_in, call_records, answer_length}
use Rattle.crz.specs.Returned.{call_entry, Returned}
use Rattle.claims.specs.Demand.{Handed, MadeFrom, no_calls, next, next_table, next_figures, reply_of}
use Rattle.claims.specs.History.{Reply, refused_with, accepted_with}

-- ── What calls pay of a rest ───────────────────────────────────────────────────────────────────

-- the record of lot k of an image; a number that is none has a lot in state 0
abbrev pub lot_in : List ℕ → ℕ → Record
lot_in image k = record_of_receipt (decode image) k

-- the fen of an entry that is an outcome 11 of lot k; any other entry counts 0
abbrev pub part_in : ℕ → Entry → ℕ
part_in k e = cond (eqb e.lot k && eqb e.outcome 11) e.number 0

-- of all entries together
unfoldable pub parts_in : ℕ → List Entry → ℕ
parts_in k [] = 0
parts_in k (e ∷ es) = part_in k e + parts_in k es

-- of a reply; a refused call pays nothing
abbrev pub parts_of : ℕ → Reply → ℕ
parts_of k (refused_with n) = 0
parts_of k (accepted_with es) = parts_in k es

-- ── A trade followed over calls ────────────────────────────────────────────────────────────────

-- what became of a trade that was in state 6: whether it is over, and the sum of its outcomes 11 up to then
pub record Followed : Type 0 where
  pub over : Bool
  pub parts : ℕ

-- One call more, by the image that it left and its reply. Once the lot is not in state 6 the trade is over, and nothing is counted from
-- then on: a later trade of the same receipt is another one.
abbrev pub after_call : ℕ → List ℕ → Reply → Followed → Followed
after_call k image reply t = cond t.over t (record { over = not (eqb (lot_in image k).state 6); parts = t.parts + parts_of k reply })

-- over the calls of a table on an image, the oldest first: each is made on the image that the one before it left
unfoldable pub after_calls : ℕ → List ℕ → List (List ℕ) → List ℕ → Followed → Followed
after_calls k image [] answers t = t
after_calls k image (call ∷ calls) answers t =
    let r = call_entry image call (take answer_length answers) in
    after_calls k r.1 calls (drop answer_length answers) (after_call k r.1 (reply_of r.0 r.2) t)

-- a table that was refused made no call
abbrev pub after_table : ℕ → ℕ → List ℕ → List ℕ → List ℕ → Followed → Followed
after_table k zero image calls answers t = after_calls k image (call_records calls) answers t
after_table k (suc n) image calls answers t = t

-- the trade of lot k over a list of what is handed over, the oldest first
unfoldable pub follow : (k : ℕ) {start : List ℕ} {list : List Handed} {image : List ℕ} → MadeFrom start list image → Followed
follow k no_calls = record { over = false; parts = 0 }
follow k (next m call answer number image' answer' R) = after_call k image' (reply_of number answer') (follow k m)
follow k (next_table {image = image} m calls answers number image' answers' R) = after_table k number image calls answers (follow k m)
follow k (next_figures m figures number image' figures' R) = follow k m

-- Its confirmed sum: while it goes on the image's, and full payment once it is over, because nothing but the confirmation that brings it
-- to full ends it (`OverAtFull`).
abbrev pub confirmed_sum : (k : ℕ) {start : List ℕ} {list : List Handed} {image : List ℕ} → MadeFrom start list image → ℕ
confirmed_sum k {start} {list} {image} m = cond (follow k m).over (full (lot_in start k)).0 (lot_in image k).confirmed.0

-- ── The claims ─────────────────────────────────────────────────────────────────────────────────

-- Of every list of what is handed over from a valid image on: what the trade had been paid and what its outcomes 11 have paid since is the
-- formula at its confirmed sum.
abbrev pub PartsBySum : Type 0
PartsBySum =
    (start : List ℕ) (list : List Handed) (image : List ℕ) (made : MadeFrom start list image) → valid_image start ≡ true
    → (k : ℕ) → (lot_in start k).state ≡ 6
    → (lot_in start k).paid.0 + (follow k made).parts ≡ (paid_so_far (full (lot_in start k)) (fen (confirmed_sum k made))).0

-- of two lists from one image: those that bring the trade to the same confirmed sum have paid the same
abbrev pub CutAlike : Type 0
CutAlike =
    (start : List ℕ) → valid_image start ≡ true → (k : ℕ) → (lot_in start k).state ≡ 6
    → (list₁ : List Handed) (image₁ : List ℕ) (made₁ : MadeFrom start list₁ image₁)
    → (list₂ : List Handed) (image₂ : List ℕ) (made₂ : MadeFrom start list₂ image₂)
    → confirmed_sum k made₁ ≡ confirmed_sum k made₂
    → (follow k made₁).parts ≡ (follow k made₂).parts

-- What a call makes of lot k in state 6 (01 Calls 24): the same trade goes on in state 6, or its buyer has confirmed the invoice that
-- brings it to full.
pub data Proceeds (k : ℕ) (image : List ℕ) (c : Call) (number : ℕ) (image' : List ℕ) : Type 0 where
  goes_on : (lot_in image' k).state ≡ 6 → trade_of (lot_in image' k) ≡ trade_of (lot_in image k) → full (lot_in image' k) ≡ full (lot_in image k)
      → Proceeds k image c number image'
  is_over : number ≡ 0 → c.kind ≡ 14 → c.receipt ≡ k → c.account ≡ (lot_in image k).buyer
      → (lot_in image k).confirmed.0 + (lot_in image k).pending.0 ≡ (full (lot_in image k)).0 → (lot_in image' k).state ≡ 0
      → Proceeds k image c number image'

-- of every call: a trade that is followed is over where a confirmation brought it to full, and nowhere else
abbrev pub OverAtFull : Type 0
OverAtFull =
    (image call answer : List ℕ) (number : ℕ) (image' answer' : List ℕ) → Returned image call answer number image' answer'
    → (k : ℕ) → (lot_in image k).state ≡ 6 → Proceeds k image (call_in call) number image'
