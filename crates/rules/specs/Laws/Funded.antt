-- The money of an event, in numbers: what the four moves need, that each finds its money, and what they leave.
-- Assumes nothing.
use Rattle.std.specs.Prelude.{List, ◌≡◌, ℕ, zero, suc, ◌+◌, ◌≤◌, ◌<◌, length}
use Rattle.std.proofs.Common.{◌∙◌, not-suc-le-zero, arith}
use Rattle.units.specs.declared.Fen.{Fen}
use Rattle.zone.specs.declared.Account.{Account}
use Rattle.zone.specs.declared.Hold.{Hold}
use Rattle.zone.specs.declared.Receipt.{Receipt}
use Rattle.zone.specs.declared.Record.{Record}
use Rattle.zone.specs.Held.{fen_from, held_from, held_sum, all_money}
use Rattle.zone.specs.Laws.Held.{held_sum_set, held_sum_at}
use Rattle.zone.specs.Record.{record_of}
use Rattle.zone.specs.Valid.{no_receipt}
use Rattle.rules.specs.declared.Entry.{Entry}
use Rattle.rules.specs.Events.{credit, debit, release, freeze, money_of, accounts_after}
use Rattle.rules.specs.Laws.Moves.{free_credit, frozen_credit, free_debit, frozen_debit, free_release, frozen_release, free_freeze, frozen_freeze, length_credit, length_debit, length_release, length_freeze, all_debit, all_release, all_freeze, all_pass}
use Rattle.rules.specs.Ready.{Funds, Funded}
use Rattle.rules.specs.Tables.{nth, put}
use Rattle.rules.specs.View.{free_of, frozen_of, receipt_of_number}

module _ {l : List Account} {old : Hold} {s t : ℕ} {n : Fen} {new : Hold} (F : Funds l old s t n new) where
  abbrev l1 : List Account
  l1 = release old.from old.fen l

  abbrev l2 : List Account
  l2 = debit s n l1

  abbrev l3 : List Account
  l3 = credit t n l2

  from_in1 : s ≤ length (release old.from old.fen l)
  from_in1 = rw (length_release l old.from old.fen) F.from_in

  to_in1 : t ≤ length (release old.from old.fen l)
  to_in1 = rw (length_release l old.from old.fen) F.to_in

  to_in2 : t ≤ length (debit s n (release old.from old.fen l))
  to_in2 = rw (length_debit l1 s n) to_in1

  new_in3 : new.from ≤ length (credit t n (debit s n (release old.from old.fen l)))
  new_in3 = rw (length_credit l2 t n, length_debit l1 s n, length_release l old.from old.fen) F.new_in

  freed : (x : ℕ) → 0 < x → (free_of (release old.from old.fen l) x).0 ≡ (free_of l x).0 + fen_from x old.from old.fen.0
  freed x p = free_release l x old.from p F.old_in old.fen

  -- the payer has what passes, once the old hold is freed
  pub pass_free : n.0 ≤ (free_of (release old.from old.fen l) s).0
  pass_free = rw (freed s F.from_some) F.pass_fits

  -- the new holder has what is frozen, once the rest is done
  pub hold_free : 0 < new.from → new.fen.0 ≤ (free_of (credit t n (debit s n (release old.from old.fen l))) new.from).0
  hold_free p =
      omega (arith, freed new.from p, free_debit l1 new.from s p from_in1 n (λ _. pass_free), free_credit l2 new.from t p to_in2 n, F.hold_fits p)

  -- all money, after each move
  pub all_released : all_money (release old.from old.fen l) ≡ all_money l
  all_released = all_release l old.from old.fen F.old_in F.frozen_fits

  pub all_debited : all_money (debit s n (release old.from old.fen l)) + n.0 ≡ all_money l
  all_debited = omega (arith, all_released, all_debit l1 s n F.from_some from_in1 pass_free)

  pub all_credited : all_money (credit t n (debit s n (release old.from old.fen l))) ≡ all_money l
  all_credited = all_pass l1 s t n F.from_some from_in1 to_in1 F.to_some pass_free ∙ all_released

  pub all_frozen : all_money (freeze new.from new.fen (credit t n (debit s n (release old.from old.fen l)))) ≡ all_money l
  all_frozen = all_freeze l3 new.from new.fen new_in3 hold_free ∙ all_credited

  -- what account x has, and has frozen, after it
  pub money_after : (x : ℕ) → 0 < x →
      (free_of (freeze new.from new.fen (credit t n (debit s n (release old.from old.fen l)))) x).0
      + (frozen_of (freeze new.from new.fen (credit t n (debit s n (release old.from old.fen l)))) x).0 + fen_from x s n.0
      ≡ (free_of l x).0 + (frozen_of l x).0 + fen_from x t n.0
  money_after x p =
      omega (
        arith,
        freed x p,
        free_debit l1 x s p from_in1 n (λ _. pass_free),
        free_credit l2 x t p to_in2 n,
        free_freeze l3 x new.from p new_in3 new.fen hold_free,
        frozen_freeze l3 x new.from p new_in3 new.fen,
        frozen_credit l2 x t p to_in2 n,
        frozen_debit l1 x s p from_in1 n,
        frozen_release l x old.from p F.old_in old.fen F.frozen_fits,
      )

  pub frozen_after_lem : (x : ℕ) → 0 < x →
      (frozen_of (freeze new.from new.fen (credit t n (debit s n (release old.from old.fen l)))) x).0 + fen_from x old.from old.fen.0
      ≡ (frozen_of l x).0 + fen_from x new.from new.fen.0
  frozen_after_lem x p =
      omega (
        arith,
        frozen_freeze l3 x new.from p new_in3 new.fen,
        frozen_credit l2 x t p to_in2 n,
        frozen_debit l1 x s p from_in1 n,
        frozen_release l x old.from p F.old_in old.fen F.frozen_fits,
      )

-- ── An event ───────────────────────────────────────────────────────────────────────────────────

module _ (l : List Account) (f : Record) (e : Entry) (f' : Record) where
  pub length_after : length (accounts_after f e f' l) ≡ length l
  unfolding accounts_after
  length_after = simp (length_freeze, length_credit, length_debit, length_release)

  -- what each account has, and has frozen, after it
  pub record Booked (x : ℕ) : Type 0 where
    pub money : (free_of (accounts_after f e f' l) x).0 + (frozen_of (accounts_after f e f' l) x).0 + fen_from x e.from (money_of e).0
        ≡ (free_of l x).0 + (frozen_of l x).0 + fen_from x e.to (money_of e).0
    pub frozen : (frozen_of (accounts_after f e f' l) x).0 + held_from x f ≡ (frozen_of l x).0 + held_from x f'

  pub booked : Funded l f e f' → (x : ℕ) → 0 < x → Booked x
  unfolding accounts_after held_from
  booked F x p = record { money = money_after F x p; frozen = frozen_after_lem F x p }

  pub total_after : Funded l f e f' → all_money (accounts_after f e f' l) ≡ all_money l
  unfolding accounts_after
  total_after F = all_frozen F

-- ── The sums held, when one lot changes ────────────────────────────────────────────────────────

pub held_sum_put : (x : ℕ) (l : List Receipt) (k : ℕ) (r : Receipt) → 0 < k → k ≤ length l →
    held_sum record_of x (put l k r) + held_from x (record_of (receipt_of_number l k)) ≡ held_sum record_of x l + held_from x (record_of r)
unfolding receipt_of_number nth put
held_sum_put x l zero r p h = absurd (not-suc-le-zero p)
held_sum_put x l (suc k) r p h = held_sum_set record_of x l k r no_receipt h

pub held_sum_nth : (x : ℕ) (l : List Receipt) (k : ℕ) → 0 < k → k ≤ length l → held_from x (record_of (receipt_of_number l k)) ≤ held_sum record_of x l
unfolding receipt_of_number nth
held_sum_nth x l zero p h = absurd (not-suc-le-zero p)
held_sum_nth x l (suc k) p h = held_sum_at record_of x l k no_receipt h
