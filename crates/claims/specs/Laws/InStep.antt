-- Zone and history table in step: the books balance and the table knows every lot. Each event, opening and ending keeps them so.
-- Assumes nothing.
use Rattle.std.specs.Prelude.{false, cond, List, [], ◌∷◌, ◌≡◌, ℕ, zero, suc, ◌+◌, ◌≤◌, ◌<◌, eqb, get_or, replicate}
use Rattle.std.proofs.Math.Path.{refl}
use Rattle.std.proofs.Common.{sym, ap, subst, subst₂, arith}
use Rattle.std.proofs.Math.Decide.{ℕ_discrete}
use borrow.Author.Tests.{eq-eqb, ne_eqb, ltb-false}
use Rattle.std.proofs.Math.ListN.{length}
use Rattle.units.specs.Payments.{fen}
use Rattle.units.specs.Ranges.{account_count, receipt_count}
use Rattle.zone.specs.declared.Account.{Account}
use Rattle.zone.specs.declared.Receipt.{Receipt}
use Rattle.zone.specs.declared.Zone.{Zone}
use Rattle.zone.specs.Held.{held_sum}
use Rattle.zone.specs.Laws.Tests.{range_in}
use Rattle.zone.specs.Record.{record_of}
use Rattle.zone.specs.Valid.{Sized, empty_account, no_receipt, fresh_zone}
use Rattle.rules.specs.declared.Call.{Call}
use Rattle.rules.specs.declared.Entry.{Entry}
use Rattle.rules.specs.Effects.{opening, ending}
use Rattle.rules.specs.Events.{posted}
use Rattle.rules.specs.Laws.Funded.{booked}
use Rattle.rules.specs.Laws.Keeps.{no_opening, ended}
use Rattle.rules.specs.Laws.Kinds.{with_kind}
use Rattle.rules.specs.Laws.Moves.{free_credit, frozen_credit, free_debit, frozen_debit}
use Rattle.rules.specs.Laws.Passed.{PassedAt, ranges}
use Rattle.rules.specs.Laws.Links.{receipt_at, receipt_beside}
use Rattle.rules.specs.Laws.Tables.{special, among_none}
use Rattle.rules.specs.Numbers.{lacks_money}
use Rattle.rules.specs.Ready.{Funded}
use Rattle.rules.specs.Tables.{nth, put}
use Rattle.rules.specs.View.{free_of, frozen_of, receipt_of_number, record_of_receipt, view_of}
use Rattle.claims.specs.History.{HistoryTable, empty, with_entry, enter, paid_in_or_out, held_over}
use Rattle.claims.specs.Laws.Knows.{fen_same, fen_zero, transferred_money, Known, known_sum}
use Rattle.claims.specs.Laws.Told.{Told}

-- accounts l and receipts rs, and the table h
pub record InStepOf (l : List Account) (rs : List Receipt) (h : HistoryTable) : Type 0 where
  pub money : (x : ℕ) → 0 < x → (free_of l x).0 + (frozen_of l x).0 + h.take_outs x + h.sent x ≡ h.pay_ins x + h.got x
  pub linked : (k : ℕ) → 0 < k → k ≤ receipt_count → Known (record_of (receipt_of_number rs k)) (h.lots k)

abbrev pub InStep : Zone → HistoryTable → Type 0
InStep z h = InStepOf z.accounts z.receipts h

-- ── An event ───────────────────────────────────────────────────────────────────────────────────

module _ (c : Call) (z : Zone) (h : HistoryTable) (e : Entry) (r' : Receipt) (S : Sized z) (low : 0 < e.lot) (high : e.lot ≤ receipt_count) (I : InStep z h)
    (F : Funded z.accounts (record_of_receipt z e.lot) e (record_of r')) (T : Told c (h.lots e.lot) e r') where
  pub event_kept : InStep (posted z e r') (enter c e h)
  unfolding posted enter receipt_of_number
  event_kept =
      record {
        money = λ x q.
            let B = booked z.accounts (record_of_receipt z e.lot) e (record_of r') F x q in
            rw (transferred_money e, fen_same x e.from, fen_same x e.to) (omega (arith, B.money, I.money x q));
        linked = λ k a b. go k a b (ℕ_discrete k e.lot);
      }
    where
      go : (k : ℕ) → 0 < k → k ≤ receipt_count → Dec (k ≡ e.lot) →
          Known (record_of (nth no_receipt (put z.receipts e.lot r') k)) (cond (eqb k e.lot) (with_entry c e (h.lots k)) (h.lots k))
      go k a b (yes q) =
          rw (eq-eqb k e.lot q) (rw q (rw (receipt_at z e r' S low high) T.known))
      go k a b (no q) = rw (ne_eqb k e.lot q, receipt_beside z e r' k q) (I.linked k a b)

-- ── Opening and ending ─────────────────────────────────────────────────────────────────────────

module _ (c : Call) (z : Zone) (h : HistoryTable) (S : Sized z) (I : InStep z h) where
  abbrev Opens : ℕ → Type 0
  Opens k = PassedAt (with_kind c k) z c.receipt → InStep (opening (with_kind c k) z) (paid_in_or_out (with_kind c k) h)

  paid_in : Opens 1
  unfolding opening paid_in_or_out
  paid_in P =
      let i : c.account ≤ length z.accounts = rw S.accounts (range_in (ranges P).0).high in
      record {
        money = λ x q.
            rw (fen_zero x c.account, fen_same x c.account c.amount)
            (omega (arith, I.money x q, free_credit z.accounts x c.account q i (fen c.amount), frozen_credit z.accounts x c.account q i (fen c.amount)));
        linked = I.linked;
      }

  taken_out : Opens 2
  unfolding opening paid_in_or_out view_of lacks_money
  taken_out P =
      let i : c.account ≤ length z.accounts = rw S.accounts (range_in (ranges P).0).high in
      let m : c.amount ≤ (free_of z.accounts c.account).0 = ltb-false _ _ P.money in
      record {
        money = λ x q.
            rw (fen_zero x c.account, fen_same x c.account c.amount)
            (omega (arith, I.money x q, free_debit z.accounts x c.account q i (fen c.amount) (λ _. m), frozen_debit z.accounts x c.account q i (fen c.amount)));
        linked = I.linked;
      }

  -- neither pay-in nor take-out
  no_paid_in_or_out : (b : Call) → eqb b.kind 1 ≡ false → eqb b.kind 2 ≡ false → InStep z (paid_in_or_out b h)
  unfolding paid_in_or_out
  no_paid_in_or_out b e1 e2 = record { money = λ x q. rw (e1, e2, fen_zero x b.account) (omega (arith, I.money x q)); linked = I.linked }

  ask_set : Opens 9
  unfolding opening
  ask_set P = no_paid_in_or_out (with_kind c 9) refl refl

  pub opening_kept : PassedAt c z c.receipt → InStep (opening c z) (paid_in_or_out c h)
  opening_kept =
      special Opens (1 ∷ 2 ∷ 9 ∷ []) c.kind (paid_in, (taken_out, (ask_set, tt))) λ e P.
      let t = among_none c.kind (1 ∷ 2 ∷ 9 ∷ []) e in
      subst (λ (y : Zone). InStep y (paid_in_or_out c h)) (sym (no_opening c z e)) (no_paid_in_or_out c t.0 t.1.0)

pub ending_kept : (c : Call) (z : Zone) (h : HistoryTable) → InStep z h → InStep (ending c z) h
ending_kept c z h I = subst₂ (λ (l : List Account) (rs : List Receipt). InStepOf l rs h) (sym (ended c z).accounts) (sym (ended c z).receipts) I

-- ── The start ──────────────────────────────────────────────────────────────────────────────────

pub nth_replicate : {A : Type 0} (d : A) (n k : ℕ) → nth d (replicate n d) k ≡ d
unfolding nth
nth_replicate d n zero = refl
nth_replicate d n (suc k) = go n k
  where
    go : (n k : ℕ) → get_or (replicate n d) k d ≡ d
    go zero k = refl
    go (suc n) zero = refl
    go (suc n) (suc k) = go n k

pub fresh_in_step : InStep fresh_zone empty
unfolding fresh_zone free_of frozen_of receipt_of_number record_of
fresh_in_step =
    record {
      money = λ x q.
          omega (arith, ap (λ (a : Account). a.free.0) (nth_replicate empty_account account_count x), ap (λ (a : Account). a.frozen.0) (nth_replicate empty_account account_count x));
      linked = λ k a b. rw (nth_replicate no_receipt receipt_count k) (record { lot = λ x. refl; rest = record { owner = refl; registered = λ _. refl; paid = omega arith } });
    }

-- ── What it says ───────────────────────────────────────────────────────────────────────────────

-- the table's sum is the lots' sum
pub sum_kept : (z : Zone) (h : HistoryTable) → Sized z → InStep z h → (x : ℕ) → held_over x receipt_count 1 h ≡ held_sum record_of x z.receipts
unfolding receipt_of_number nth
sum_kept z h S I x =
    rw S.receipts at (known_sum x z.receipts 1 h λ k b.
    subst (λ (m : ℕ). Known (record_of (get_or z.receipts k no_receipt)) (h.lots m)) (omega arith) (I.linked (suc k) (omega arith) (omega (arith, S.receipts))))
