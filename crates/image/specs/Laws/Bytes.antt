-- Lists of bytes: what is made of bytes is bytes.
-- Assumes nothing.
use Rattle.std.specs.Prelude.{List, [], ◌∷◌, ◌++◌, ℕ, zero, suc, ◌+◌, ◌<◌, length, take, drop, get_or}
use Rattle.std.proofs.Common.{arith, lit<, get_or-drop}
use Rattle.wire.specs.LittleEndian.{Bytes}
use Rattle.image.specs.Table.{table_bytes}

pub bytes_cons : (x : ℕ) (s : List ℕ) → x < 256 → Bytes s → Bytes (x ∷ s)
bytes_cons x s h b zero = h
bytes_cons x s h b (suc k) = b k

pub bytes_append : (p q : List ℕ) → Bytes p → Bytes q → Bytes (p ++ q)
bytes_append [] q b c k = c k
bytes_append (x ∷ p) q b c zero = b 0
bytes_append (x ∷ p) q b c (suc k) = bytes_append p q (λ j. b (suc j)) c k

bytes_take : (n : ℕ) (s : List ℕ) → Bytes s → Bytes (take n s)
bytes_take zero s b k = lit< tt
bytes_take (suc n) [] b k = lit< tt
bytes_take (suc n) (x ∷ s) b zero = b 0
bytes_take (suc n) (x ∷ s) b (suc k) = bytes_take n s (λ j. b (suc j)) k

-- a part of bytes
pub bytes_part : (n a : ℕ) (s : List ℕ) → Bytes s → Bytes (take n (drop a s))
bytes_part n a s b = bytes_take n (drop a s) (λ k. rw (get_or-drop a s k 0) (b (a + k)))

-- a table whose records are bytes
pub bytes_table : {A : Type 0} (f : A → List ℕ) (l : List A) (d : A) → ((k : ℕ) → k < length l → Bytes (f (get_or l k d))) → Bytes (table_bytes f l)
unfolding table_bytes
bytes_table f [] d h = λ k. lit< tt
bytes_table f (x ∷ l) d h = bytes_append (f x) (table_bytes f l) (h 0 (omega arith)) (bytes_table f l d (λ k p. h (suc k) (omega arith)))
