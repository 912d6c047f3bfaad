-- Demand 3, the third of what the library owes its desk (README): after every list of calls on a fresh image, refused ones, tables of calls
-- and shortfalls among them, with buffers of any length and content, four sentences hold by the accepted calls and their answers alone. 01 History 8 to 11
-- says what their words mean. The history is fed from the call records and the answers as they were on return; nothing comes from the
-- image. Free, frozen and owner are those of the image after the list. The proof is in Laws/; nothing of it is needed to read this page.
-- Assumes nothing.
use Rattle.std.specs.Prelude.{true, List, [], ◌∷◌, map, ◌≡◌, ℕ, zero, suc, ◌+◌, ◌≤◌, get_or, take, drop}
use Rattle.units.specs.Ranges.{account_count, receipt_count}
use Rattle.zone.specs.declared.Zone.{Zone}
use Rattle.zone.specs.Valid.{fresh_zone}
use Rattle.rules.specs.declared.Call.{Call}
use Rattle.rules.specs.View.{free_of, frozen_of, receipt_of_number}
use Rattle.image.specs.Image.{valid_image, decode, encode}
use Rattle.answers.specs.Buffers.{call_in, call_records, answer_length, answer_number_place, entries_in}
use Rattle.crz.specs.CallTable.{TableReturned}
use Rattle.crz.specs.Figures.{ShortfallsReturned}
use Rattle.crz.specs.Returned.{Returned}
use Rattle.claims.specs.History.{Reply, refused_with, accepted_with, history, held_over, Exact, belongs, EachStrikeOwnAct}

-- ── What a host hands over, the newest first, and the image after it ──────────────────────────

-- one call of the host's: the record handed over, the number returned, the answer buffer on return
pub record Exchange : Type 0 where
  pub call : List ℕ
  pub number : ℕ
  pub answer : List ℕ

-- A call by itself; a table of calls (02 5/12), with its records, the number that the table returned, and all its answers on return; or
-- shortfalls that were asked for (02 6/12), with the number returned and the figures on return. An entry that is added later has a case of its
-- own here.
pub data Handed : Type 0 where
  one_call : Exchange → Handed
  call_table : (calls : List ℕ) (number : ℕ) (answers : List ℕ) → Handed
  shortfalls_asked : (number : ℕ) (figures : List ℕ) → Handed

-- What is handed over from an image on, each on the image that the one before it left. `Returned`, `TableReturned` and `ShortfallsReturned`
-- are what the contracts of `crz_call`, `crz_table` and `crz_shortfalls` promise, of every buffer.
pub data MadeFrom (start : List ℕ) : List Handed → List ℕ → Type 0 where
  no_calls : MadeFrom start [] start
  next : {list : List Handed} {image : List ℕ} → MadeFrom start list image → (call answer : List ℕ) (number : ℕ) (image' answer' : List ℕ)
      → Returned image call answer number image' answer'
      → MadeFrom start (one_call (record { call = call; number = number; answer = answer' }) ∷ list) image'
  next_table : {list : List Handed} {image : List ℕ} → MadeFrom start list image → (calls answers : List ℕ) (number : ℕ) (image' answers' : List ℕ)
      → TableReturned image calls answers number image' answers' → MadeFrom start (call_table calls number answers' ∷ list) image'
  next_figures : {list : List Handed} {image : List ℕ} → MadeFrom start list image → (figures : List ℕ) (number : ℕ) (image' figures' : List ℕ)
      → ShortfallsReturned image figures number image' figures' → MadeFrom start (shortfalls_asked number figures' ∷ list) image'

-- ── The calls of a list, one by one ────────────────────────────────────────────────────────────

-- The calls of a table, put in front of those before it. Each has its own part of the answers, and the first byte of that is its number.
unfoldable pub calls_of_table : List (List ℕ) → List ℕ → List Exchange → List Exchange
calls_of_table [] answers before = before
calls_of_table (call ∷ calls) answers before =
    let own : List ℕ = take answer_length answers in
    calls_of_table calls (drop answer_length answers) (record { call = call; number = get_or own answer_number_place 0; answer = own } ∷ before)

-- one that is handed over more; a table that was refused has no calls, whatever its answers held before, and to ask for shortfalls is none
abbrev pub with_calls : Handed → List Exchange → List Exchange
with_calls (one_call x) before = x ∷ before
with_calls (call_table calls zero answers) before = calls_of_table (call_records calls) answers before
with_calls (call_table calls (suc n) answers) before = before
with_calls (shortfalls_asked number figures) before = before

-- all of them
unfoldable pub calls_of : List Handed → List Exchange
calls_of [] = []
calls_of (h ∷ list) = with_calls h (calls_of list)

-- ── What the history table is fed ──────────────────────────────────────────────────────────────

-- of an accepted call the entries of its answer, of a refused one its number alone
abbrev pub reply_of : ℕ → List ℕ → Reply
reply_of zero answer = accepted_with (entries_in answer)
reply_of (suc n) answer = refused_with (suc n)

-- the fields of the call record, and the reply (01 History 1)
abbrev pub fed : Exchange → Call × Reply
fed x = (call_in x.call, reply_of x.number x.answer)

-- ── The four sentences ─────────────────────────────────────────────────────────────────────────

-- What the history of a list says of the zone after it, a field for each sentence, and `exact` beside them, so that no sentence rests on a
-- difference that stops at 0. Accounts and receipts are those that there are; `history` takes the newest call first.
pub record Holds (list : List (Call × Reply)) (z : Zone) : Type 0 where
  -- the books balance for every account: what it has, took out and passed on is what it paid in and was passed
  pub books : (x : ℕ) → 1 ≤ x → x ≤ account_count →
      (free_of z.accounts x).0 + (frozen_of z.accounts x).0 + (history list).take_outs x + (history list).sent x ≡ (history list).pay_ins x + (history list).got x
  -- frozen money is what the history table holds
  pub frozen : (x : ℕ) → 1 ≤ x → x ≤ account_count → (frozen_of z.accounts x).0 ≡ held_over x receipt_count 1 (history list)
  -- and the table holds it exactly: of no lot was more paid than its settlement said
  pub exact : (k : ℕ) → 1 ≤ k → k ≤ receipt_count → Exact ((history list).lots k)
  -- every receipt belongs to its latest settled buyer or its registrant
  pub owners : (k : ℕ) → 1 ≤ k → k ≤ receipt_count → (receipt_of_number z.receipts k).owner ≡ belongs ((history list).lots k)
  -- every struck buyer made that call or placed the standing bid that is the lot's last entry before it
  pub strikes : EachStrikeOwnAct list

-- ── The claims ─────────────────────────────────────────────────────────────────────────────────

-- an accepted call leaves a valid image; any other leaves the image as it was
pub record KeepsImage (image : List ℕ) (number : ℕ) (image' : List ℕ) : Type 0 where
  pub accepted : number ≡ 0 → valid_image image' ≡ true
  pub refused : (n : ℕ) → number ≡ suc n → image' ≡ image

-- of every call that meets the contract of `crz_call`
abbrev pub ImageKept : Type 0
ImageKept =
    (image call answer : List ℕ) (number : ℕ) (image' answer' : List ℕ) → Returned image call answer number image' answer'
    → KeepsImage image number image'

-- a valid image stays one over every list
abbrev pub StaysValid : Type 0
StaysValid = (start : List ℕ) (list : List Handed) (image : List ℕ) → valid_image start ≡ true → MadeFrom start list image → valid_image image ≡ true

-- the image that demand 3's lists start from is valid, and with `StaysValid` every image after them
abbrev pub FreshIsValid : Type 0
FreshIsValid = valid_image (encode fresh_zone) ≡ true

-- demand 3: the four sentences, for every list from a fresh image on
abbrev pub Demand3 : Type 0
Demand3 = (list : List Handed) (image : List ℕ) → MadeFrom (encode fresh_zone) list image → Holds (map fed (calls_of list)) (decode image)
