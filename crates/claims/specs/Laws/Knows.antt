-- What the history table knows of a lot in each state; it then holds what the lot holds, from the same account.
-- Assumes nothing.
use Rattle.std.specs.Prelude.{Bool, true, false, cond, List, [], ◌∷◌, ◌≡◌, refl, ℕ, zero, suc, ◌+◌, ◌-◌, ◌≤◌, ◌<◌, eqb, length, get_or}
use Rattle.std.proofs.Common.{sym, ap, ◌∙◌, subst, add-zero, arith, le-leb, ne_eqb}
use Rattle.std.proofs.lemmas.Bool.{lt-leb}
use Rattle.units.specs.declared.Fen.{Fen}
use Rattle.units.specs.Payments.{fen, deposit, first_payment, rest_payment, paid_so_far}
use Rattle.units.specs.Ranges.{within}
use Rattle.zone.specs.declared.Receipt.{Receipt}
use Rattle.zone.specs.declared.Record.{Record}
use Rattle.zone.specs.Held.{full, rest, held, fen_from, held_from, held_sum}
use Rattle.zone.specs.Record.{record_of}
use Rattle.zone.specs.Valid.{no_receipt}
use Rattle.rules.specs.declared.Entry.{Entry}
use Rattle.rules.specs.Events.{money_of}
use Rattle.rules.specs.Laws.Moves.{fen_from_zero}
use Rattle.claims.specs.History.{one_of, fen_of, Past, HistoryTable, transferred, after_settlement, held_in, Exact, held_over, belongs}

-- ── The history's own words are the rules' ─────────────────────────────────────────────────────

pub fen_same : (x a n : ℕ) → fen_of x a n ≡ fen_from x a n
unfolding fen_of fen_from
fen_same x a n = refl

pub transferred_money : (e : Entry) → transferred e ≡ (money_of e).0
unfolding transferred money_of
transferred_money e = go (one_of e.outcome (9 ∷ 11 ∷ 12 ∷ 15 ∷ []))
  where
    go : (b : Bool) → cond b e.number 0 ≡ (cond b (fen e.number) (fen 0)).0
    go true = refl
    go false = refl

pub fen_zero : (x a : ℕ) → fen_of x a 0 ≡ 0
fen_zero x a = fen_same x a 0 ∙ fen_from_zero x a

-- ── What the table knows ───────────────────────────────────────────────────────────────────────

-- it holds nothing for the lot
abbrev pub Nil : Past → Type 0
Nil p = (x : ℕ) → held_in x p ≡ 0

-- it holds a deposit from b, the last entry being an o
pub record Deposit (o b : ℕ) (p : Past) : Type 0 where
  pub last : p.last ≡ o
  pub bidder : p.bidder ≡ b

-- the last entry is of b's own limit bid
pub record Own (b : ℕ) (p : Past) : Type 0 where
  pub from : p.from ≡ b
  pub kind : p.kind ≡ 6
  pub account : p.account ≡ b

-- it holds what is left of n, of which m is paid, from b
pub record Unpaid (b n m : ℕ) (p : Past) : Type 0 where
  pub last : one_of p.last (4 ∷ 6 ∷ 7 ∷ []) ≡ false
  pub paying : after_settlement p ≡ true
  pub buyer : p.buyer ≡ b
  pub full : p.full ≡ n
  pub since : p.since ≡ m

-- by the number of the state of the record f
abbrev pub KnowsAt : ℕ → Record → Past → Type 0
KnowsAt zero f p = Nil p
KnowsAt (suc zero) f p = Nil p
KnowsAt (suc (suc zero)) f p = Deposit 4 f.buyer p × Own f.buyer p
KnowsAt (suc (suc (suc zero))) f p = Deposit 6 f.buyer p
KnowsAt (suc (suc (suc (suc zero)))) f p = Deposit 7 f.buyer p
KnowsAt (suc (suc (suc (suc (suc zero))))) f p = Unpaid f.buyer (full f).0 0 p
KnowsAt (suc (suc (suc (suc (suc (suc zero)))))) f p = Unpaid f.buyer (full f).0 ((first_payment (full f)).0 + (paid_so_far (full f) f.confirmed).0) p
KnowsAt (suc (suc (suc (suc (suc (suc (suc n))))))) f p = Nil p

-- whatever the state: whom the receipt belongs to, that a buyer came after a registration, and that no more was paid than settled
pub record Rest (o : ℕ) (p : Past) : Type 0 where
  pub owner : o ≡ belongs p
  pub registered : p.registrant ≡ 0 → p.buyer ≡ 0
  pub paid : p.since ≤ p.full

pub record Known (f : Record) (p : Past) : Type 0 where
  pub lot : KnowsAt f.state f p
  pub rest : Rest f.owner p

-- of a lot that is in state n
pub known_at : {f : Record} {p : Past} → Known f p → (n : ℕ) → f.state ≡ n → KnowsAt n f p
known_at {f} {p} K n e = subst (λ (k : ℕ). KnowsAt k f p) e K.lot

-- no more was paid than settled, so nothing is lost where the one is taken from the other
pub exact : {f : Record} {p : Past} → Known f p → Exact p
exact {f} {p} K = record { paid = K.rest.paid; left = λ _. omega (arith, K.rest.paid) }

-- ── It holds what the lot holds ────────────────────────────────────────────────────────────────

deposit_held : (x o b : ℕ) (p : Past) → one_of o (4 ∷ 6 ∷ 7 ∷ []) ≡ true → Deposit o b p → held_in x p ≡ fen_of x b deposit.0
deposit_held x o b p h d = rw (d.last, h, d.bidder)

left_held : (x b n m : ℕ) (p : Past) → Unpaid b n m p → held_in x p ≡ fen_of x b (n - m)
left_held x b n m p l = rw (l.last, l.paying, l.buyer, l.full, l.since)

-- what a record holds, its state apart
abbrev held_at : ℕ → Record → Fen
held_at n f = cond (within 2 4 n) deposit (cond (eqb n 5) (full f) (cond (eqb n 6) (fen ((rest f).0 - (paid_so_far (full f) f.confirmed).0)) (fen 0)))

at_held : (n : ℕ) (f : Record) (p : Past) → KnowsAt n f p → (x : ℕ) → held_in x p ≡ fen_of x f.buyer (held_at n f).0
unfolding rest_payment
at_held zero f p k x = k x ∙ sym (fen_zero x f.buyer)
at_held (suc zero) f p k x = k x ∙ sym (fen_zero x f.buyer)
at_held (suc (suc zero)) f p k x = deposit_held x 4 _ p refl k.0
at_held (suc (suc (suc zero))) f p k x = deposit_held x 6 _ p refl k
at_held (suc (suc (suc (suc zero)))) f p k x = deposit_held x 7 _ p refl k
at_held (suc (suc (suc (suc (suc zero))))) f p k x = left_held x _ _ _ p k ∙ ap (fen_of x f.buyer) (omega arith)
at_held (suc (suc (suc (suc (suc (suc zero)))))) f p k x = left_held x _ _ _ p k ∙ ap (fen_of x f.buyer) (omega arith)
at_held (suc (suc (suc (suc (suc (suc (suc n))))))) f p k x =
    let s : ℕ = suc (suc (suc (suc (suc (suc (suc n)))))) in
    rw (lt-leb s 4 (omega arith), le-leb 2 s (omega arith), ne_eqb s 5 (omega arith), ne_eqb s 6 (omega arith)) (k x ∙ sym (fen_zero x f.buyer))

pub known_held : {f : Record} {p : Past} → Known f p → (x : ℕ) → held_in x p ≡ held_from x f
unfolding held_from held fen_of fen_from
known_held {f} {p} K = at_held f.state f p K.lot

-- the table's sum over lots from n on is the lots' sum
pub known_sum : (x : ℕ) (l : List Receipt) (n : ℕ) (h : HistoryTable) → ((k : ℕ) → k < length l → Known (record_of (get_or l k no_receipt)) (h.lots (n + k))) →
    held_over x (length l) n h ≡ held_sum record_of x l
unfolding held_over held_sum
known_sum x [] n h f = refl
known_sum x (r ∷ l) n h f =
    let K : Known (record_of r) (h.lots n) = rw add-zero at (f 0 (omega arith)) in
    let g : (k : ℕ) → k < length l → Known (record_of (get_or l k no_receipt)) (h.lots (suc n + k))
    = λ k b. subst (λ (m : ℕ). Known (record_of (get_or l k no_receipt)) (h.lots m)) (omega arith) (f (suc k) (omega arith)) in
    omega (arith, known_held K x, known_sum x l (suc n) h g)
