-- Lists of calls replayed on a zone by computing. The line of names says which definitions are computed with.
-- Assumes nothing.
use Rattle.std.specs.Prelude.{List, [], ◌∷◌, ℕ}
use Rattle.units.specs.Payments.{unit_price, payable, full_payment, first_payment, rest_payment, paid_so_far, part_payment, penalty_passed}
use Rattle.zone.specs.declared.Record.{Record}
use Rattle.zone.specs.declared.Zone.{Zone}
use Rattle.zone.specs.Held.{full, held, fen_from, held_from}
use Rattle.zone.specs.Record.{record_of}
use Rattle.zone.specs.Valid.{fresh_zone}
use Rattle.rules.specs.declared.Call.{Call}
use Rattle.rules.specs.Steps.{Refused, Accepted, step_at, step_on}
use Rattle.rules.specs.Effects.{register, list_for, withdraw_listing, limit_bid, market_bid, withdraw_bid, quote_lot, lodge, close_lot, pay_first, send_invoice, confirm, day_close_lot, no_rule, rule_of, opening, first_lot, lot_count, ending, effect}
use Rattle.rules.specs.Events.{credit, debit, release, freeze, money_of, accounts_after, posted, sweep}
use Rattle.rules.specs.Numbers.{ill_formed, out_of_range, wrong_phase, wrong_state, wrong_party, not_above, lacks_ask, not_payable, lacks_money, above_limit, above_invoice, first_number}
use Rattle.rules.specs.Order.{stands_before, put_in, by_price, answer_order}
use Rattle.rules.specs.Tables.{nth, put}
use Rattle.rules.specs.View.{free_of, frozen_of, receipt_of_number, ask_of, view_of, record_of_receipt}
use Rattle.claims.specs.History.{Reply, refused_with, accepted_with}

-- the reply to a call, and the zone after it
unfoldable pub reply_to : Zone → Call → Reply × Zone
unfolding step_at first_number ill_formed out_of_range wrong_phase wrong_state wrong_party not_above lacks_ask not_payable lacks_money above_limit above_invoice effect answer_order by_price put_in stands_before opening ending first_lot lot_count rule_of register list_for withdraw_listing limit_bid market_bid withdraw_bid quote_lot lodge close_lot pay_first send_invoice confirm day_close_lot no_rule credit debit release freeze money_of accounts_after posted sweep nth put free_of frozen_of receipt_of_number ask_of view_of fen_from held full held_from record_of unit_price payable full_payment first_payment rest_payment paid_so_far part_payment penalty_passed
reply_to z c =
    elim (step_on z c) [ Refused n ↦ (refused_with n, z) | Accepted a ↦ (accepted_with (effect z c).entries, (effect z c).zone) ]

unfoldable pub replay : List Call → Zone → List Reply
unfolding reply_to
replay [] z = []
replay (c ∷ cs) z =
    let m = reply_to z c in
    m.0 ∷ replay cs m.1

-- the zone after the calls
unfoldable pub zone_after : List Call → Zone → Zone
unfolding reply_to
zone_after [] z = z
zone_after (c ∷ cs) z = zone_after cs (reply_to z c).1

-- ── After calls on a fresh zone ────────────────────────────────────────────────────────────────

-- the record of a receipt, and free and frozen money of an account
abbrev pub record_after : ℕ → List Call → Record
record_after receipt calls = record_of_receipt (zone_after calls fresh_zone) receipt

abbrev pub free_after : ℕ → List Call → ℕ
free_after account calls = (free_of (zone_after calls fresh_zone).accounts account).0

abbrev pub frozen_after : ℕ → List Call → ℕ
frozen_after account calls = (frozen_of (zone_after calls fresh_zone).accounts account).0
