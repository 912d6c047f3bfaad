-- What the figures of an image promise (02 6/12), on bytes, by what `crz_shortfalls` and `crz_call` promise. The proofs are in Laws/.
-- Assumes nothing.
use Rattle.std.specs.Prelude.{Bool, true, false, ◌&&◌, ◌||◌, List, [], ◌∷◌, ◌≢◌, ◌≡◌, ℕ, zero, suc, ◌*◌, ◌^◌, ◌≤◌, ◌<◌, eqb, length, drop}
use Rattle.units.specs.Ranges.{within, account_count, receipt_count}
use Rattle.wire.specs.LittleEndian.{le_at}
use Rattle.zone.specs.declared.Record.{Record}
use Rattle.rules.specs.declared.Entry.{Entry}
use Rattle.rules.specs.Tables.{among}
use Rattle.image.specs.Image.{valid_image, decode}
use Rattle.image.specs.Layout.{day_in, afternoon_in}
use Rattle.answers.specs.Buffers.{call_in, entries_in}
use Rattle.shortfalls.specs.Shortfalls.{is_due, buys_due, shortfall, figure_length, figures_length}
use Rattle.crz.specs.Figures.{ShortfallsReturned}
use Rattle.crz.specs.Returned.{Returned}
use Rattle.claims.specs.Cutting.{lot_in}
use Rattle.claims.specs.PriceOrder.{EachEntry}

-- ── What the entry leaves ──────────────────────────────────────────────────────────────────────

-- the image, whatever is returned
abbrev pub ImageLeft : Type 0
ImageLeft =
    (image figures : List ℕ) (number : ℕ) (image' figures' : List ℕ) → ShortfallsReturned image figures number image' figures'
    → image' ≡ image

-- what lies past the figures, whatever is returned
abbrev pub PastLeft : Type 0
PastLeft =
    (image figures : List ℕ) (number : ℕ) (image' figures' : List ℕ) → ShortfallsReturned image figures number image' figures'
    → drop figures_length figures' ≡ drop figures_length figures

-- A refusal is by 1, and then the buffer is too short, or by 2, and then it is not and the image is not valid. It writes nothing.
pub data RefusedBy (image figures : List ℕ) : ℕ → List ℕ → Type 0 where
  too_short : length figures < figures_length → RefusedBy image figures 1 figures
  bad_image : figures_length ≤ length figures → valid_image image ≡ false → RefusedBy image figures 2 figures

abbrev pub RefusesAlone : Type 0
RefusesAlone =
    (image figures : List ℕ) (n : ℕ) (image' figures' : List ℕ) → ShortfallsReturned image figures (suc n) image' figures'
    → RefusedBy image figures (suc n) figures'

-- ── The figures that a host reads ──────────────────────────────────────────────────────────────

-- the figure of an account, where account 1 stands first; nobody has none
abbrev pub figure_in : List ℕ → ℕ → ℕ
figure_in figures zero = 0
figure_in figures (suc k) = le_at figure_length figures (k * figure_length)

-- Each is the shortfall of its account. It is in the range of an amount or 0, so that one call pays it in where the zone's total allows it.
pub record FigureOf (image figures' : List ℕ) (x : ℕ) : Type 0 where
  pub is : figure_in figures' x ≡ shortfall (decode image) x
  pub payable : figure_in figures' x ≤ 10 ^ 12

abbrev pub FiguresRead : Type 0
FiguresRead =
    (image figures image' figures' : List ℕ) → ShortfallsReturned image figures 0 image' figures'
    → (x : ℕ) → 1 ≤ x → x ≤ account_count → FigureOf image figures' x

-- in an afternoon each is 0, whatever is due
abbrev pub NoneInAfternoon : Type 0
NoneInAfternoon =
    (image figures image' figures' : List ℕ) → ShortfallsReturned image figures 0 image' figures' → afternoon_in image ≡ true
    → (x : ℕ) → x ≤ account_count → figure_in figures' x ≡ 0

-- ── Paid in, and closed ────────────────────────────────────────────────────────────────────────

-- n fen paid in by account x, and the image after it: one accepted pay-in, and no call where n is 0
pub data PaidIn (image : List ℕ) (x : ℕ) : ℕ → List ℕ → Type 0 where
  no_call : PaidIn image x 0 image
  by_call : (call answer image' answer' : List ℕ) → Returned image call answer 0 image' answer' → (call_in call).kind ≡ 1 → (call_in call).account ≡ x
      → PaidIn image x (call_in call).amount image'

-- a morning close that was accepted, and its answer; none is in an afternoon
pub record Closed (image answer' : List ℕ) : Type 0 where
  pub call : List ℕ
  pub answer : List ℕ
  pub image' : List ℕ
  pub returned : Returned image call answer 0 image' answer'
  pub kind : (call_in call).kind ≡ 11

-- An entry that names x as buyer in a buyer default or a double default (01 Answers 6, 7). The buyer is its from.
abbrev pub is_default_of : ℕ → Entry → Bool
is_default_of x e = among e.outcome (12 ∷ 14 ∷ []) && eqb x e.from

-- none of the entries does
abbrev pub NoDefaultOf : ℕ → List Entry → Type 0
NoDefaultOf x es = EachEntry (λ e. is_default_of x e ≡ false) es

-- one of them does, at lot k
pub data DefaultOf (x k : ℕ) : List Entry → Type 0 where
  here : {e : Entry} {es : List Entry} → e.lot ≡ k → is_default_of x e ≡ true → DefaultOf x k (e ∷ es)
  later : {e : Entry} {es : List Entry} → DefaultOf x k es → DefaultOf x k (e ∷ es)

-- Once x has paid its figure in and nothing else is called, the close lists no default from it, whoever else is short.
abbrev pub PaidInSuffices : Type 0
PaidInSuffices =
    (image figures image' figures' : List ℕ) → ShortfallsReturned image figures 0 image' figures'
    → (x : ℕ) → 1 ≤ x → x ≤ account_count → (paid : List ℕ) → PaidIn image x (figure_in figures' x) paid
    → (answer' : List ℕ) → Closed paid answer' → NoDefaultOf x (entries_in answer')

-- ── A fen less ─────────────────────────────────────────────────────────────────────────────────

-- a lot in state 3, 4 or 7 that is due, of which x is the seller or the buyer
abbrev pub has_part : ℕ → ℕ → Record → Bool
has_part day x r = (within 3 4 r.state || eqb r.state 7) && is_due day r && (eqb x r.seller || eqb x r.buyer)

-- lot k is a due trade of x as buyer, and x has no part in any other due lot
pub record OneTrade (image : List ℕ) (x k : ℕ) : Type 0 where
  pub low : 1 ≤ k
  pub high : k ≤ receipt_count
  pub trade : buys_due (day_in image) x (lot_in image k) ≡ true
  pub others : (j : ℕ) → 1 ≤ j → j ≤ receipt_count → j ≢ k → has_part (day_in image) x (lot_in image j) ≡ false

-- A figure above 0 of such an account is the least that suffices: with a fen less the close has a default of that lot from x.
abbrev pub FenLessDefaults : Type 0
FenLessDefaults =
    (image figures image' figures' : List ℕ) → ShortfallsReturned image figures 0 image' figures'
    → (x : ℕ) → 1 ≤ x → x ≤ account_count → (k : ℕ) → OneTrade image x k → (n : ℕ) → figure_in figures' x ≡ suc n
    → (paid : List ℕ) → PaidIn image x n paid → (answer' : List ℕ) → Closed paid answer' → DefaultOf x k (entries_in answer')
