-- Calls and replies in words: what the examples are written with. Each name is the call of one kind, with its fields in 01's order.
-- Assumes nothing.
use Rattle.std.specs.Prelude.{[], ◌∷◌, ℕ, ℤ, pos}
use Rattle.rules.specs.declared.Call.{Call}
use Rattle.claims.specs.History.{Reply, accepted_with}

-- ── Calls ──────────────────────────────────────────────────────────────────────────────────────

-- a call of any kind, field by field; the spare bytes are zero
abbrev pub call : ℕ → ℕ → ℕ → ℕ → ℕ → ℕ → ℤ → ℕ → Call
call kind account receipt contract days amount basis weight =
    record {
      kind = kind;
      account = account;
      receipt = receipt;
      contract = contract;
      days = days;
      spare = 0;
      amount = amount;
      basis = basis;
      weight = weight;
    }

-- a call with an account, a receipt and an amount or a price at most
abbrev pub simple_call : ℕ → ℕ → ℕ → ℕ → Call
simple_call kind account receipt amount = call kind account receipt 0 0 amount (pos 0) 0

abbrev pub pay_in : ℕ → ℕ → Call
pay_in account amount = simple_call 1 account 0 amount

-- with a premium (02 2/12), and with none
abbrev pub registers_graded : ℕ → ℕ → ℕ → ℤ → Call
registers_graded account receipt weight premium = call 3 account receipt 0 0 0 premium weight

abbrev pub registers : ℕ → ℕ → ℕ → Call
registers account receipt weight = registers_graded account receipt weight (pos 0)

abbrev pub lists : ℕ → ℕ → ℕ → ℕ → ℤ → Call
lists account receipt contract days basis = call 4 account receipt contract days 0 basis 0

abbrev pub withdraws_listing : ℕ → ℕ → Call
withdraws_listing account receipt = simple_call 5 account receipt 0

abbrev pub bids : ℕ → ℕ → ℕ → Call
bids account receipt price = simple_call 6 account receipt price

abbrev pub bids_market : ℕ → ℕ → Call
bids_market account receipt = simple_call 7 account receipt 0

abbrev pub withdraws_bid : ℕ → ℕ → Call
withdraws_bid account receipt = simple_call 8 account receipt 0

abbrev pub quote : ℕ → ℕ → Call
quote contract price = call 9 0 0 contract 0 price (pos 0) 0

abbrev pub lodges : ℕ → ℕ → Call
lodges account receipt = simple_call 10 account receipt 0

abbrev pub morning_close : Call
morning_close = simple_call 11 0 0 0

abbrev pub takes_first_payment : ℕ → ℕ → Call
takes_first_payment account receipt = simple_call 12 account receipt 0

abbrev pub sends_invoice : ℕ → ℕ → ℕ → Call
sends_invoice account receipt amount = simple_call 13 account receipt amount

abbrev pub confirms : ℕ → ℕ → Call
confirms account receipt = simple_call 14 account receipt 0

abbrev pub day_close : Call
day_close = simple_call 15 0 0 0

-- ── Replies ────────────────────────────────────────────────────────────────────────────────────

-- of an accepted call without an entry, and with one
abbrev pub no_entries : Reply
no_entries = accepted_with []

abbrev pub one_entry : ℕ → ℕ → ℕ → ℕ → ℕ → Reply
one_entry lot outcome from to number = accepted_with (record { lot = lot; outcome = outcome; from = from; to = to; number = number } ∷ [])
