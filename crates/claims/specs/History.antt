-- The history table (01 History): fed with call records and the entries of answers alone. Of the rules it has no more than what a call and
-- an entry are, and the deposit.
-- Assumes nothing.
use Rattle.std.specs.Prelude.{Bool, true, false, cond, List, [], ◌∷◌, ◌≢◌, ◌≡◌, ℕ, zero, suc, ◌+◌, ◌-◌, ◌≤◌, eqb, T}
use Rattle.units.specs.Payments.{deposit}
use Rattle.rules.specs.declared.Call.{Call}
use Rattle.rules.specs.declared.Entry.{Entry}

-- n is one of the numbers
abbrev pub one_of : ℕ → List ℕ → Bool
one_of n [] = false
one_of n (k ∷ ks) = cond (eqb n k) true (one_of n ks)

-- what account x has of n fen that are account a's
unfoldable pub fen_of : ℕ → ℕ → ℕ → ℕ
fen_of x a n = cond (eqb x a) n 0

-- ── The table ──────────────────────────────────────────────────────────────────────────────────

-- what the table has of one lot; each field is 0 until an entry gives it
pub record Past : Type 0 where
  pub last : ℕ  -- the outcome of the last entry
  pub from : ℕ  -- its from
  pub kind : ℕ  -- the kind of the call that it answers
  pub account : ℕ  -- that call's account
  pub bidder : ℕ  -- from, of the latest 4 or 6
  pub registrant : ℕ  -- from, of the latest 1
  pub buyer : ℕ  -- from, of the latest 8
  pub full : ℕ  -- number, of the latest 8
  pub since : ℕ  -- the numbers of 9s and 11s since the latest 8

-- the table: what it has of each lot, and of each account its pay-ins, its take-outs and what it sent and got by transfers
pub record HistoryTable : Type 0 where
  pub lots : ℕ → Past
  pub pay_ins : ℕ → ℕ
  pub take_outs : ℕ → ℕ
  pub sent : ℕ → ℕ
  pub got : ℕ → ℕ

-- at the start (01 History 1)
abbrev pub no_past : Past
no_past =
    record { last = 0; from = 0; kind = 0; account = 0; bidder = 0; registrant = 0; buyer = 0; full = 0; since = 0 }

-- no entry, no money
abbrev pub empty : HistoryTable
empty = record { lots = λ k. no_past; pay_ins = λ x. 0; take_outs = λ x. 0; sent = λ x. 0; got = λ x. 0 }

-- a lot with one entry more, which is now its last (01 History 4, 6)
abbrev pub with_entry : Call → Entry → Past → Past
with_entry c e p =
    let o : ℕ = e.outcome in
    record {
      last = o;
      from = e.from;
      kind = c.kind;
      account = c.account;
      bidder = cond (one_of o (4 ∷ 6 ∷ [])) e.from p.bidder;
      registrant = cond (eqb o 1) e.from p.registrant;
      buyer = cond (eqb o 8) e.from p.buyer;
      full = cond (eqb o 8) e.number p.full;
      since = cond (eqb o 8) 0 (p.since + cond (one_of o (9 ∷ 11 ∷ [])) e.number 0);
    }

-- the fen that an entry passes (01 History 5)
unfoldable pub transferred : Entry → ℕ
transferred e = cond (one_of e.outcome (9 ∷ 11 ∷ 12 ∷ 15 ∷ [])) e.number 0

-- an entry goes in: its lot has it, and what it transfers is sent and got
unfoldable pub enter : Call → Entry → HistoryTable → HistoryTable
enter c e h =
    record {
      lots = λ k. cond (eqb k e.lot) (with_entry c e (h.lots k)) (h.lots k);
      pay_ins = h.pay_ins;
      take_outs = h.take_outs;
      sent = λ x. h.sent x + fen_of x e.from (transferred e);
      got = λ x. h.got x + fen_of x e.to (transferred e);
    }

-- entries one by one
unfoldable pub enter_all : Call → List Entry → HistoryTable → HistoryTable
enter_all c [] h = h
enter_all c (e ∷ es) h = enter_all c es (enter c e h)

-- pay-ins and take-outs (01 History 3)
unfoldable pub paid_in_or_out : Call → HistoryTable → HistoryTable
paid_in_or_out c h =
    record {
      lots = h.lots;
      pay_ins = λ x. h.pay_ins x + fen_of x c.account (cond (eqb c.kind 1) c.amount 0);
      take_outs = λ x. h.take_outs x + fen_of x c.account (cond (eqb c.kind 2) c.amount 0);
      sent = h.sent;
      got = h.got;
    }

-- ── A list of calls, the newest first ──────────────────────────────────────────────────────────

-- what a host has of a call: another number than 0, or the entries of its answer
pub data Reply : Type 0 where
  refused_with : ℕ → Reply
  accepted_with : List Entry → Reply

-- a refused call changes nothing (01 History 2)
abbrev pub feed : Call → Reply → HistoryTable → HistoryTable
feed c (refused_with n) h = h
feed c (accepted_with es) h = enter_all c es (paid_in_or_out c h)

-- the table after a list
unfoldable pub history : List (Call × Reply) → HistoryTable
history [] = empty
history (a ∷ list) = feed a.0 a.1 (history list)

-- ── What the table holds (01 History 7) ────────────────────────────────────────────────────────

-- the lot's last entry is the settlement or one that follows it; after the last 11 nothing of its number is left
abbrev pub after_settlement : Past → Bool
after_settlement p = one_of p.last (8 ∷ 9 ∷ 10 ∷ 11 ∷ [])

-- What is held from account x: the deposit while a bid stands or a trade waits; from the settlement on its number, less what was paid
-- since. Nothing is taken that is not there: `Exact`, which demand 3 has of every lot.
abbrev pub held_in : ℕ → Past → ℕ
held_in x p =
    cond (one_of p.last (4 ∷ 6 ∷ 7 ∷ [])) (fen_of x p.bidder deposit.0)
    (cond (after_settlement p) (fen_of x p.buyer (p.full - p.since))
    0)

-- no more was paid since the latest settlement than its number, and where `held_in` takes the one from the other, nothing is lost
pub record Exact (p : Past) : Type 0 where
  pub paid : p.since ≤ p.full
  pub left : T (after_settlement p) → p.full - p.since + p.since ≡ p.full

-- over `more` lots from number n on
unfoldable pub held_over : ℕ → ℕ → ℕ → HistoryTable → ℕ
held_over x zero n h = 0
held_over x (suc more) n h = held_in x (h.lots n) + held_over x more (suc n) h

-- ── Whom a receipt belongs to (01 History 10) ──────────────────────────────────────────────────

-- nobody before a registration, else its latest settled buyer, else its registrant
abbrev pub belongs : Past → ℕ
belongs p = cond (eqb p.registrant 0) 0 (cond (eqb p.buyer 0) p.registrant p.buyer)

-- ── Strikes (01 History 11) ────────────────────────────────────────────────────────────────────

-- the struck buyer made this call, a limit or market bid
pub record OwnCall (c : Call) (e : Entry) : Type 0 where
  pub by : c.account ≡ e.from
  pub kind : T (one_of c.kind (6 ∷ 7 ∷ []))

-- a quote strikes the bid that stands: the lot's last entry is the buyer's own 4, which answered its limit bid
pub record OwnBid (c : Call) (e : Entry) (p : Past) : Type 0 where
  pub quote : c.kind ≡ 9
  pub stands : p.last ≡ 4
  pub from : p.from ≡ e.from
  pub limit : p.kind ≡ 6
  pub by : p.account ≡ e.from

-- an entry that is no strike, or strikes a buyer who made this call or whose bid stands
pub data OwnAct (c : Call) (e : Entry) (p : Past) : Type 0 where
  no_strike : e.outcome ≢ 6 → OwnAct c e p
  own_call : OwnCall c e → OwnAct c e p
  own_bid : OwnBid c e p → OwnAct c e p

-- each entry of an answer, on the table as it is when the entry goes in
unfoldable pub EachOwnAct : Call → List Entry → HistoryTable → Type 0
EachOwnAct c [] h = Unit {0}
EachOwnAct c (e ∷ es) h = OwnAct c e (h.lots e.lot) × EachOwnAct c es (enter c e h)

-- the entries of an accepted call
abbrev pub OwnActReply : Call → Reply → HistoryTable → Type 0
OwnActReply c (refused_with n) h = Unit {0}
OwnActReply c (accepted_with es) h = EachOwnAct c es (paid_in_or_out c h)

-- each call of a list
unfoldable pub EachStrikeOwnAct : List (Call × Reply) → Type 0
EachStrikeOwnAct [] = Unit {0}
EachStrikeOwnAct (a ∷ list) = OwnActReply a.0 a.1 (history list) × EachStrikeOwnAct list
