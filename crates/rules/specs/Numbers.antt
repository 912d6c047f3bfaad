-- The numbers 3 to 13 (01 Answers 14 to 24, with the premium of 02 2/12): one test for each, and the table. The byte buffers' own
-- numbers, 1 and 2, stand with the entry (crz, Returned).
-- Assumes nothing.
use Rattle.std.specs.Prelude.{Bool, true, false, not, ◌&&◌, ◌||◌, List, [], ◌∷◌, ℕ, suc, ◌+◌, eqb, ltb, ℤ, pos, negsuc, get_or}
use Rattle.units.specs.Payments.{payable, deposit}
use Rattle.units.specs.Ranges.{within, is_zero, is_account, is_receipt, is_contract, is_days, is_price, is_ask, is_basis, is_premium, is_weight, is_amount, money_limit, last_day}
use Rattle.zone.specs.declared.Record.{Record}
use Rattle.zone.specs.Held.{full, held_from}
use Rattle.rules.specs.declared.Call.{Call}
use Rattle.rules.specs.declared.View.{View}
use Rattle.rules.specs.Tables.{among, row, first_that_applies}

-- ── The fields of a call ───────────────────────────────────────────────────────────────────────

-- A field of a call: its index in `values`, and its range where a kind uses it
pub record Field : Type 0 where
  pub index : ℕ
  pub range : ℤ → Bool

-- the fields in the order of their indices
abbrev pub values : Call → List ℤ
values c =
    pos c.account ∷ pos c.receipt ∷ pos c.contract ∷ pos c.days ∷ pos c.amount ∷ c.basis ∷ pos c.weight
    ∷ pos c.spare ∷ []

-- a test of natural numbers, which no number below 0 passes
abbrev pub natural : (ℕ → Bool) → ℤ → Bool
natural f (pos n) = f n
natural f (negsuc n) = false

-- The fields, each with the range of its numbers (01 Image 17). One field is an amount, a price, or a price or 0, by its kind, and one a
-- basis or a premium.
abbrev pub account : Field
account = record { index = 0; range = natural is_account }

abbrev pub receipt : Field
receipt = record { index = 1; range = natural is_receipt }

abbrev pub contract : Field
contract = record { index = 2; range = natural is_contract }

abbrev pub D : Field
D = record { index = 3; range = natural is_days }

abbrev pub amount : Field
amount = record { index = 4; range = natural is_amount }

abbrev pub price : Field
price = record { index = 4; range = natural is_price }

abbrev pub price_or_0 : Field
price_or_0 = record { index = 4; range = natural is_ask }

abbrev pub basis : Field
basis = record { index = 5; range = is_basis }

abbrev pub premium : Field
premium = record { index = 5; range = is_premium }

abbrev pub weight : Field
weight = record { index = 6; range = natural is_weight }

-- the fields that each kind uses, those in its brackets (01 Calls 4 to 25; a registration has a premium, 02 2/12); the spare bytes are in
-- none
abbrev pub brackets : ℕ → List Field
brackets kind =
    row kind []
    ((1 ∷ 2 ∷ [], account ∷ amount ∷ [])
    ∷ (3 ∷ [], account ∷ receipt ∷ premium ∷ weight ∷ [])
    ∷ (4 ∷ [], account ∷ receipt ∷ contract ∷ D ∷ basis ∷ [])
    ∷ (5 ∷ 7 ∷ 8 ∷ 10 ∷ 12 ∷ 14 ∷ [], account ∷ receipt ∷ [])
    ∷ (6 ∷ [], account ∷ receipt ∷ price ∷ [])
    ∷ (9 ∷ [], contract ∷ price_or_0 ∷ [])
    ∷ (13 ∷ [], account ∷ receipt ∷ amount ∷ [])
    ∷ [])

-- a field of that index is among them
abbrev pub is_used : ℕ → List Field → Bool
is_used i [] = false
is_used i (f ∷ fs) = eqb i f.index || is_used i fs

-- from index i on, each value is used or zero (01 Calls 3)
abbrev pub unused_zero : List Field → ℕ → List ℤ → Bool
unused_zero fs i [] = true
unused_zero fs i (v ∷ vs) = (is_used i fs || is_zero v) && unused_zero fs (suc i) vs

-- each of the fields is in its range; every index has its value, so that 0 stands for none
abbrev pub in_range : List Field → List ℤ → Bool
in_range [] vs = true
in_range (f ∷ fs) vs = f.range (get_or vs f.index (pos 0)) && in_range fs vs

-- ── One test for each number ───────────────────────────────────────────────────────────────────
-- f is the record of the receipt that the call names, v what the rules read beside it

-- 3 (01 Answers 14): a kind that is none, or a field that the kind does not use and that is not zero
unfoldable pub ill_formed : Call → Bool
ill_formed c = not (within 1 15 c.kind && unused_zero (brackets c.kind) 0 (values c))

-- 4 (01 Answers 15): a field that the kind uses is not in its range
unfoldable pub out_of_range : Call → Bool
out_of_range c = not (in_range (brackets c.kind) (values c))

-- 5 (01 Answers 16): the morning close belongs to a morning, the day close to an afternoon, and the last day has none
unfoldable pub wrong_phase : View → Call → Bool
wrong_phase v c =
    row c.kind false
    ((11 ∷ [], v.afternoon)
    ∷ (15 ∷ [], not v.afternoon || eqb v.day last_day)
    ∷ [])

-- the state named, for each kind that names one; a registered receipt has an owner
abbrev pub in_state_named : Call → Record → Bool
in_state_named c f =
    let isIn : List ℕ → Bool = among f.state in
    let registered : Bool = not (eqb f.owner 0) in
    let pending : Bool = not (eqb f.pending.0 0) in
    row c.kind true
    ((3 ∷ [], not registered)
    ∷ (4 ∷ [], isIn (0 ∷ []) && registered)
    ∷ (5 ∷ 6 ∷ 7 ∷ [], isIn (1 ∷ 2 ∷ []))
    ∷ (8 ∷ [], isIn (2 ∷ []))
    ∷ (10 ∷ [], isIn (3 ∷ []))
    ∷ (12 ∷ [], isIn (5 ∷ []))
    ∷ (13 ∷ [], isIn (6 ∷ []) && not pending)
    ∷ (14 ∷ [], isIn (6 ∷ []) && pending)
    ∷ [])

-- 6 (01 Answers 17): the receipt is not in the state that the kind names; an invoice waits already, or none waits for its confirmation
unfoldable pub wrong_state : Call → Record → Bool
wrong_state c f = not (in_state_named c f)

-- the party named: the owner lists, the seller and the buyer act on their lot; the seller does not bid
abbrev pub is_party_named : Call → Record → Bool
is_party_named c f =
    let by : ℕ → Bool = eqb c.account in
    row c.kind true
    ((4 ∷ [], by f.owner)
    ∷ (5 ∷ 10 ∷ 12 ∷ 13 ∷ [], by f.seller)
    ∷ (8 ∷ 14 ∷ [], by f.buyer)
    ∷ (6 ∷ 7 ∷ [], not (by f.seller))
    ∷ [])

-- 7 (01 Answers 18): the caller is not the party that the kind names, or bids on its own listing
unfoldable pub wrong_party : Call → Record → Bool
wrong_party c f = not (is_party_named c f)

-- 8 (01 Answers 19): a limit bid must be above the standing one; with none the price of the record is 0
unfoldable pub not_above : Call → Record → Bool
not_above c f = eqb c.kind 6 && not (ltb f.price.0 c.amount)

-- 9 (01 Answers 20): a market bid needs an ask
unfoldable pub lacks_ask : View → Call → Bool
lacks_ask v c = eqb c.kind 7 && eqb v.ask.0 0

-- 10 (01 Answers 21, 02 2/12): price or ask, basis and premium leave less than 1 yuan per tonne to pay
unfoldable pub not_payable : View → Call → Record → Bool
not_payable v c f =
    row c.kind false
    ((6 ∷ [], not (payable (record { 0 = c.amount }) f.basis f.premium))
    ∷ (7 ∷ [], not (payable v.ask f.basis f.premium))
    ∷ [])

-- 11 (01 Answers 22): free money is short of what is taken out, or of the deposit of a bid. The bid that stood is over first, so what the lot holds from
-- the caller counts as free.
unfoldable pub lacks_money : View → Call → Record → Bool
lacks_money v c f =
    row c.kind false
    ((2 ∷ [], ltb v.free.caller.0 c.amount)
    ∷ (6 ∷ 7 ∷ [], ltb (v.free.caller.0 + held_from c.account f) deposit.0)
    ∷ [])

-- 12 (01 Answers 23): all money would pass its limit
unfoldable pub above_limit : View → Call → Bool
above_limit v c = eqb c.kind 1 && ltb money_limit (v.total.0 + c.amount)

-- 13 (01 Answers 24): with this invoice more would be invoiced than full
unfoldable pub above_invoice : Call → Record → Bool
above_invoice c f = eqb c.kind 13 && ltb (full f).0 (f.confirmed.0 + c.amount)

-- ── The table ──────────────────────────────────────────────────────────────────────────────────

-- the numbers in their order, each with its test
abbrev pub number_rows : View → Call → Record → List (ℕ × Bool)
number_rows v c f =
    (3, ill_formed c)
    ∷ (4, out_of_range c)
    ∷ (5, wrong_phase v c)
    ∷ (6, wrong_state c f)
    ∷ (7, wrong_party c f)
    ∷ (8, not_above c f)
    ∷ (9, lacks_ask v c)
    ∷ (10, not_payable v c f)
    ∷ (11, lacks_money v c f)
    ∷ (12, above_limit v c)
    ∷ (13, above_invoice c f)
    ∷ []

-- the first row that applies, 0 where none does (01 Answers 26)
unfoldable pub first_number : View → Call → Record → ℕ
first_number v c f = first_that_applies (number_rows v c f)
