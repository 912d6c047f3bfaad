-- The numbers of kinds, outcomes and refusals (01 Calls 3 to 25, Answers 6 to 24).
-- Assumes nothing.
use Rattle.std.specs.Prelude.{Result, Ok, Err, List, [], ◌∷◌, ℕ, get_or}
use Rattle.rules.specs.declared.Kind.{Kind}
use Rattle.rules.specs.declared.Kind.TheVariants.{PayIn, TakeOut, Register, List as ListFor, WithdrawListing, LimitBid, MarketBid, WithdrawBid, Quote, Lodge, MorningClose, FirstPayment, Invoice, Confirm, DayClose}
use Rattle.rules.specs.declared.Outcome.{Outcome}
use Rattle.rules.specs.declared.Outcome.TheVariants.{Registered, Listed, Ended, BidStands, BidWithdrawn, Struck, Lodged, Settled, FirstPaid, Invoiced, PartPaid, BuyerDefault, SellerDefault, BothDefaulted, Penalty}
use Rattle.rules.specs.declared.Refusal.{Refusal}
use Rattle.rules.specs.declared.Refusal.TheVariants.{ShortAnswer, BadImage, BadCall, OutOfRange, WrongPhase, WrongState, WrongParty, NotAbove, NoAsk, NothingToPay, NoMoney, OverLimit, OverInvoice, BadTable}

abbrev pub kind_number : Kind → ℕ
kind_number PayIn = 1
kind_number TakeOut = 2
kind_number Register = 3
kind_number ListFor = 4
kind_number WithdrawListing = 5
kind_number LimitBid = 6
kind_number MarketBid = 7
kind_number WithdrawBid = 8
kind_number Quote = 9
kind_number Lodge = 10
kind_number MorningClose = 11
kind_number FirstPayment = 12
kind_number Invoice = 13
kind_number Confirm = 14
kind_number DayClose = 15

-- what each number from 0 on is read as
abbrev pub kinds_read : List (Result Kind Refusal)
kinds_read =
    Err BadCall ∷ Ok PayIn ∷ Ok TakeOut ∷ Ok Register ∷ Ok ListFor ∷ Ok WithdrawListing ∷ Ok LimitBid ∷ Ok MarketBid ∷ Ok WithdrawBid ∷ Ok Quote ∷ Ok Lodge
    ∷ Ok MorningClose ∷ Ok FirstPayment ∷ Ok Invoice ∷ Ok Confirm ∷ Ok DayClose ∷ []

-- the kind of a number; a number that is no kind's is refused by 3
unfoldable pub kind_of : ℕ → Result Kind Refusal
kind_of n = get_or kinds_read n (Err BadCall)

abbrev pub outcome_number : Outcome → ℕ
outcome_number Registered = 1
outcome_number Listed = 2
outcome_number Ended = 3
outcome_number BidStands = 4
outcome_number BidWithdrawn = 5
outcome_number Struck = 6
outcome_number Lodged = 7
outcome_number Settled = 8
outcome_number FirstPaid = 9
outcome_number Invoiced = 10
outcome_number PartPaid = 11
outcome_number BuyerDefault = 12
outcome_number SellerDefault = 13
outcome_number BothDefaulted = 14
outcome_number Penalty = 15

abbrev pub refusal_number : Refusal → ℕ
refusal_number ShortAnswer = 1
refusal_number BadImage = 2
refusal_number BadCall = 3
refusal_number OutOfRange = 4
refusal_number WrongPhase = 5
refusal_number WrongState = 6
refusal_number WrongParty = 7
refusal_number NotAbove = 8
refusal_number NoAsk = 9
refusal_number NothingToPay = 10
refusal_number NoMoney = 11
refusal_number OverLimit = 12
refusal_number OverInvoice = 13
refusal_number BadTable = 14

-- the number returned: that of a refusal, 0 where there is none
abbrev pub returned : Result (Unit {0}) Refusal → ℕ
returned (Ok _) = 0
returned (Err r) = refusal_number r
