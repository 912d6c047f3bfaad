-- What the figures promise, on bytes: a pay-in and a morning close by what the calls promise, and what holds of them on values.
-- Assumes nothing.
use Rattle.std.specs.Prelude.{true, false, List, ◌++◌, ◌≡◌, refl, ℕ, zero, suc, ◌+◌, ◌^◌, ◌≤◌, drop}
use Rattle.std.proofs.Common.{sym, ap, ◌∙◌, subst, arith, drop_at}
use Rattle.units.specs.Payments.{fen}
use Rattle.units.specs.Ranges.{account_count, receipt_count}
use Rattle.zone.specs.declared.Receipt.{Receipt}
use Rattle.zone.specs.declared.Zone.{Zone}
use Rattle.zone.specs.Laws.Held.{fen_from_same}
use Rattle.zone.specs.Laws.Tests.{InRange, range_in}
use Rattle.zone.specs.Record.{record_of}
use Rattle.rules.specs.declared.Call.{Call}
use Rattle.rules.specs.Effects.{rule_at, opening, first_lot, lot_count, ending, effect}
use Rattle.rules.specs.Events.{sweep}
use Rattle.rules.specs.Laws.Good.{Good}
use Rattle.rules.specs.Laws.Kinds.{with_kind}
use Rattle.rules.specs.Laws.Moves.{free_credit}
use Rattle.rules.specs.Laws.Passed.{passed_at, as_kind, ranges_at}
use Rattle.rules.specs.Numbers.{wrong_phase}
use Rattle.rules.specs.Order.{answer_order}
use Rattle.rules.specs.Steps.{number_on}
use Rattle.rules.specs.View.{free_of, receipt_of_number, record_of_receipt, view_of}
use Rattle.image.specs.Image.{valid_image, decode}
use Rattle.answers.specs.Buffers.{call_in, entries_in}
use Rattle.shortfalls.specs.Laws.Owed.{excess_covers, excess_exact}
use Rattle.shortfalls.specs.Laws.Figures.{length_figures, figure_there, shortfall_le}
use Rattle.shortfalls.specs.Shortfalls.{excess, penalties_due, payments_due, shortfall, figures_length, figure_bytes}
use Rattle.crz.specs.Figures.{ShortfallsReturned}
use Rattle.crz.specs.Laws.Figures.{FiguresLeft, too_short, bad_image_lem, written, figures_left, image_left}
use Rattle.crz.specs.Laws.Valid.{good_image}
use Rattle.claims.specs.Cutting.{lot_in}
use Rattle.claims.specs.Laws.Calls.{accepted_call, new_zone, read_back}
use Rattle.claims.specs.Laws.Covered.{close_no_default, close_short}
use Rattle.claims.specs.Shortfalls.{ImageLeft, PastLeft, RefusedBy, too_short, bad_image, RefusesAlone, figure_in, FiguresRead, NoneInAfternoon, PaidIn, no_call, by_call, Closed, NoDefaultOf, PaidInSuffices, DefaultOf, FenLessDefaults}

-- ── What the entry leaves ──────────────────────────────────────────────────────────────────────

pub left_image : ImageLeft
left_image = image_left

pub left_past : PastLeft
left_past image figures number image' figures' R = go (figures_left image figures number image' figures' R)
  where
    go : {n : ℕ} {i f : List ℕ} → FiguresLeft image figures n i f → drop figures_length f ≡ drop figures_length figures
    go (too_short h) = refl
    go (bad_image_lem h v) = refl
    go (written h v) = drop_at (figure_bytes (decode image)) (drop figures_length figures) figures_length (length_figures (decode image))

pub refuses_alone : RefusesAlone
refuses_alone image figures n image' figures' R = go (figures_left image figures (suc n) image' figures' R) refl
  where
    go : {m : ℕ} {i f : List ℕ} → FiguresLeft image figures m i f → m ≡ suc n → RefusedBy image figures m f
    go (too_short h) e = too_short h
    go (bad_image_lem h v) e = bad_image h v
    go (written h v) e = absurd (omega arith)

-- ── The figures ────────────────────────────────────────────────────────────────────────────────

-- what was written: an image that is valid, and its figures before the rest
record Written (image figures figures' : List ℕ) : Type 0 where
  valid : valid_image image ≡ true
  bytes : figures' ≡ figure_bytes (decode image) ++ drop figures_length figures

was_written : (image figures image' figures' : List ℕ) → ShortfallsReturned image figures 0 image' figures' → Written image figures figures'
was_written image figures image' figures' R = go (figures_left image figures 0 image' figures' R) refl
  where
    go : {m : ℕ} {i f : List ℕ} → FiguresLeft image figures m i f → m ≡ 0 → Written image figures f
    go (too_short h) e = absurd (omega arith)
    go (bad_image_lem h v) e = absurd (omega arith)
    go (written h v) e = record { valid = v; bytes = refl }

pub figures_read : FiguresRead
figures_read image figures image' figures' R zero a b = absurd (omega arith)
figures_read image figures image' figures' R (suc k) a b =
    let W = was_written image figures image' figures' R in
    let G : Good (decode image) = good_image image W.valid in
    let small : shortfall (decode image) (suc k) ≤ 10 ^ 12 = shortfall_le (decode image) G (suc k) in
    let is : figure_in figures' (suc k) ≡ shortfall (decode image) (suc k) = rw W.bytes (figure_there (decode image) (drop figures_length figures) k (omega arith) (omega arith)) in
    record { is = is; payable = omega (arith, is, small) }

pub none_in_afternoon : NoneInAfternoon
unfolding shortfall decode
none_in_afternoon image figures image' figures' R e zero h = refl
none_in_afternoon image figures image' figures' R e (suc k) h = (figures_read image figures image' figures' R (suc k) (omega arith) h).is ∙ rw e

-- ── A pay-in ───────────────────────────────────────────────────────────────────────────────────

-- zone y is z with n fen more for account x
record PaidZone (z : Zone) (x n : ℕ) (y : Zone) : Type 0 where
  day : y.day ≡ z.day
  afternoon : y.afternoon ≡ z.afternoon
  receipts : y.receipts ≡ z.receipts
  free : (free_of y.accounts x).0 ≡ (free_of z.accounts x).0 + n

pay_in_lem : (z : Zone) (c : Call) → Good z → number_on z c ≡ 0 → c.kind ≡ 1 → PaidZone z c.account c.amount (effect z c).zone
unfolding effect lot_count sweep opening ending
pay_in_lem z c G q k =
    let R : InRange 1 account_count c.account = range_in (ranges_at c 1 k (passed_at z c q).range).0 in
    let more = free_credit z.accounts c.account c.account R.low (rw G.sized.accounts R.high) (fen c.amount) in
    subst (λ (j : ℕ). PaidZone z c.account c.amount (effect z (with_kind c j)).zone) (sym k)
    (record { day = refl; afternoon = refl; receipts = refl; free = omega (arith, more, fen_from_same c.account c.amount) })

paid_zone : {image : List ℕ} {x n : ℕ} {paid : List ℕ} → valid_image image ≡ true → PaidIn image x n paid → PaidZone (decode image) x n (decode paid)
paid_zone v no_call = record { day = refl; afternoon = refl; receipts = refl; free = omega arith }
paid_zone {image} v (by_call call answer image' answer' R k a) =
    let c : Call = call_in call in
    let A = accepted_call image call answer image' answer' R in
    let y : decode image' ≡ (effect (decode image) c).zone = ap decode A.image_is ∙ new_zone image c A.zero in
    subst (λ (i : ℕ). PaidZone (decode image) i c.amount (decode image')) a
    (subst (PaidZone (decode image) c.account c.amount) (sym y) (pay_in_lem (decode image) c (good_image image v) A.zero.number k))

-- ── A morning close ────────────────────────────────────────────────────────────────────────────

close_entries : (z : Zone) (c : Call) → c.kind ≡ 11 → (effect z c).entries ≡ (sweep (rule_at c) receipt_count 1 z).entries
unfolding effect answer_order lot_count first_lot opening
close_entries z c k = subst (λ (j : ℕ). (effect z (with_kind c j)).entries ≡ (sweep (rule_at (with_kind c j)) receipt_count 1 z).entries) (sym k) refl

in_morning : (z : Zone) (c : Call) → c.kind ≡ 11 → number_on z c ≡ 0 → z.afternoon ≡ false
unfolding wrong_phase view_of
in_morning z c k q = (as_kind c 11 k (passed_at z c q)).phase

-- what an accepted close tells
record ClosedZone (paid answer' : List ℕ) : Type 0 where
  call : Call
  kind : call.kind ≡ 11
  good : Good (decode paid)
  morning : (decode paid).afternoon ≡ false
  entries : entries_in answer' ≡ (sweep (rule_at call) receipt_count 1 (decode paid)).entries

closed_zone : (paid answer' : List ℕ) → Closed paid answer' → ClosedZone paid answer'
closed_zone paid answer' C =
    let c : Call = call_in C.call in
    let A = accepted_call paid C.call C.answer C.image' answer' C.returned in
    record {
      call = c;
      kind = C.kind;
      good = good_image paid A.zero.valid;
      morning = in_morning (decode paid) c C.kind A.zero.number;
      entries = ap entries_in A.answer_is ∙ read_back paid c A.zero C.answer ∙ close_entries (decode paid) c C.kind;
    }

-- ── The two claims ─────────────────────────────────────────────────────────────────────────────

-- what x owes
abbrev owed : Zone → ℕ → ℕ
owed z x = penalties_due z.day x z.receipts + payments_due z.day x z.receipts

-- in a morning the figure is what that passes the free money by
morning_shortfall : (z : Zone) (x : ℕ) → z.afternoon ≡ false → shortfall z x ≡ excess (owed z x) (free_of z.accounts x).0
unfolding shortfall
morning_shortfall z x m = rw m

-- a pay-in moves nothing of it
owed_same : {z : Zone} {x n : ℕ} {y : Zone} → PaidZone z x n y → owed y x ≡ owed z x
owed_same P = rw (P.day, P.receipts)

pub paid_in_suffices : PaidInSuffices
paid_in_suffices image figures image' figures' R x a b paid I answer' C =
    let z : Zone = decode image in
    let K = closed_zone paid answer' C in
    let P : PaidZone z x (figure_in figures' x) (decode paid) = paid_zone (was_written image figures image' figures' R).valid I in
    let figure : figure_in figures' x ≡ excess (owed z x) (free_of z.accounts x).0 =
    (figures_read image figures image' figures' R x a b).is ∙ morning_shortfall z x (sym P.afternoon ∙ K.morning) in
    subst (NoDefaultOf x) (sym K.entries)
    (close_no_default x a K.call K.kind (decode paid) K.good
    (omega (arith, owed_same P, P.free, figure, excess_covers (owed z x) (free_of z.accounts x).0)))

pub fen_less_defaults : FenLessDefaults
unfolding decode
fen_less_defaults image figures image' figures' R x a b k O n e paid I answer' C =
    let z : Zone = decode image in
    let K = closed_zone paid answer' C in
    let P : PaidZone z x n (decode paid) = paid_zone (was_written image figures image' figures' R).valid I in
    let figure : suc n ≡ excess (owed z x) (free_of z.accounts x).0 =
    sym e ∙ (figures_read image figures image' figures' R x a b).is ∙ morning_shortfall z x (sym P.afternoon ∙ K.morning) in
    let same : (j : ℕ) → record_of_receipt (decode paid) j ≡ lot_in image j = λ j. ap (λ (l : List Receipt). record_of (receipt_of_number l j)) P.receipts in
    subst (DefaultOf x k) (sym K.entries)
    (close_short x k a K.call K.kind (decode paid) K.good O.low O.high
    (rw (P.day, same k) O.trade)
    (λ j p q o. rw (P.day, same j) (O.others j p q o))
    (omega (arith, owed_same P, P.free, figure, excess_exact (owed z x) (free_of z.accounts x).0 (omega (arith, figure)))))
