-- A record is its fields.
-- Assumes nothing.
use Rattle.std.specs.Prelude.{◌≡◌, ℕ, ℤ}
use Rattle.units.specs.Payments.{fen}
use Rattle.zone.specs.declared.Record.{Record}

-- a record with these six bytes and these numbers
abbrev pub fields : ℕ → ℕ → ℕ → ℕ → ℕ → ℕ → ℕ → ℕ → ℤ → ℕ → ℕ → ℕ → ℕ → ℤ → Record
fields owner state seller buyer contract days due weight basis price pending confirmed paid premium =
    record {
      owner = owner;
      state = state;
      seller = seller;
      buyer = buyer;
      contract = contract;
      days = days;
      due = due;
      weight = record { 0 = weight };
      basis = record { 0 = basis };
      price = record { 0 = price };
      pending = fen pending;
      confirmed = fen confirmed;
      paid = fen paid;
      premium = record { 0 = premium };
    }

pub record_eq : {o s a b c d due due' w w' p p' i i' j j' k k' : ℕ} {y y' z z' : ℤ} →
    due ≡ due' → w ≡ w' → y ≡ y' → p ≡ p' → i ≡ i' → j ≡ j' → k ≡ k' → z ≡ z' →
    fields o s a b c d due w y p i j k z ≡ fields o s a b c d due' w' y' p' i' j' k' z'
record_eq {o} {s} {a} {b} {c} {d} e1 e2 e3 e4 e5 e6 e7 e8 = λ t. fields o s a b c d (e1 t) (e2 t) (e3 t) (e4 t) (e5 t) (e6 t) (e7 t) (e8 t)
