-- What a rule reads of the zone beside the record of its lot.
-- Assumes nothing.
use Rattle.std.specs.Prelude.{List, ℕ}
use Rattle.units.specs.declared.Fen.{Fen}
use Rattle.units.specs.declared.YuanPerTonne.{YuanPerTonne}
use Rattle.zone.specs.declared.Account.{Account}
use Rattle.zone.specs.declared.Receipt.{Receipt}
use Rattle.zone.specs.declared.Record.{Record}
use Rattle.zone.specs.declared.Zone.{Zone}
use Rattle.zone.specs.Record.{record_of}
use Rattle.zone.specs.Valid.{empty_account, no_receipt, no_ask}
use Rattle.rules.specs.declared.View.{View}
use Rattle.rules.specs.Tables.{nth}

-- free money of account a; nobody has none
unfoldable pub free_of : List Account → ℕ → Fen
free_of l a = (nth empty_account l a).free

-- and its frozen money
unfoldable pub frozen_of : List Account → ℕ → Fen
frozen_of l a = (nth empty_account l a).frozen

-- the receipt of a number; 0 names none
unfoldable pub receipt_of_number : List Receipt → ℕ → Receipt
receipt_of_number l k = nth no_receipt l k

-- the record of a receipt's number
abbrev pub record_of_receipt : Zone → ℕ → Record
record_of_receipt z n = record_of (receipt_of_number z.receipts n)

-- the ask of a contract; contract 0 has none
unfoldable pub ask_of : List YuanPerTonne → ℕ → YuanPerTonne
ask_of l k = nth no_ask l k

-- of a zone, for a call of account a at a lot of record f: the clock, the ask of the lot's contract, the free money of those concerned
-- and the total
unfoldable pub view_of : Zone → ℕ → Record → View
view_of z a f =
    record {
      day = z.day;
      afternoon = z.afternoon;
      ask = ask_of z.asks f.contract;
      free = record {
        caller = free_of z.accounts a;
        buyer = free_of z.accounts f.buyer;
        seller = free_of z.accounts f.seller;
      };
      total = z.total;
    }
