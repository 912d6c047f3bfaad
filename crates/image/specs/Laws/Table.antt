-- The laws of `table`, a list by its elements, and of `table_bytes`, the bytes of a table; the loop that writes one.
-- Assumes nothing.
use Rattle.std.specs.Prelude.{◌≡◌, Bool, true, false, ◌≢◌, eqb, take, drop, get_or, set}
use Rattle.std.proofs.Math.Path.{refl}
use Rattle.std.proofs.Common.{sym, ap, ◌∙◌, le_of_lt, add_comm, mul-le-mul_right, eqb-true, length-append, length-drop, length-set, take-suc, take_at, length-take-le, get_or-take, get_or-drop, get_or-set_same, get_or-set_other, ext_get_or}
use mathlib.Core.List.{List, [], ◌∷◌, ◌++◌, map, append-nil, append_assoc}
use Prim.Native.Nat.{ℕ, zero, suc, ◌+◌, ◌-◌, ◌*◌, ◌≤◌, ◌<◌}
use Rattle.std.proofs.Math.Nat.{suc-mul, zero-mul}
use Rattle.std.proofs.Math.Numerals.{add-one}
use Rattle.std.proofs.Math.Decide.{ℕ_discrete}
use native.Mathlib.Omega.{arith}
use Rattle.std.proofs.lemmas.Bool.{eqb-false}
use Rattle.std.proofs.Math.ListN.{length, get_or-append}
use Rattle.std.proofs.lemmas.List.{length-map, take-append-le, drop-append-le, get_or_at}
use Rattle.std.proofs.lemmas.List.Edits.{sets}
use Rattle.std.proofs.Math.Seq.{take-add, drop-drop, drop-append-add}
use Rattle.wire.specs.LittleEndian.{le_at}
use Rattle.wire.specs.Laws.Bytes.{sets_append}
use Rattle.image.specs.Table.{table, table_bytes, run_at}

-- ── A list by its elements ─────────────────────────────────────────────────────────────────────

module _ {A : Type 0} where
  pub length_table : (n : ℕ) (f : ℕ → A) → length (table n f) ≡ n
  unfolding table
  length_table zero f = refl
  length_table (suc n) f = rw (length-append, length_table n f) (omega arith)

  -- element k of one element more
  get_d_more : (n : ℕ) (f : ℕ → A) (k : ℕ) (d : A) (b : Bool) → eqb k n ≡ b → k < n + 1 → (k < n → get_or (table n f) k d ≡ f k) →
      get_or (table n f ++ (f n ∷ [])) k d ≡ f k
  get_d_more n f k d true e h ih =
      let q : k ≡ n = eqb-true k n e in
      get_or_at (table n f) (f n) [] d k (length_table n f ∙ sym q) ∙ ap f (sym q)
  get_d_more n f k d false e h ih =
      let q : k ≡ n → ⊥ = eqb-false k n e in
      let lt : k < n = omega arith in
      let inside : k < length (table n f) = rw (length_table n f) lt in
      get_or-append (table n f) (f n ∷ []) d k inside ∙ ih lt

  -- element k is f k
  pub get_d_table : (n : ℕ) (f : ℕ → A) (k : ℕ) (d : A) → k < n → get_or (table n f) k d ≡ f k
  unfolding table
  get_d_table zero f k d h = absurd (omega arith)
  get_d_table (suc n) f k d h = get_d_more n f k d (eqb k n) refl (omega arith) (get_d_table n f k d)

  -- a list of n elements, each f of its place
  pub is_table : (d : A) (l : List A) (n : ℕ) (f : ℕ → A) → length l ≡ n → ((k : ℕ) → k < n → get_or l k d ≡ f k) → l ≡ table n f
  is_table d l n f e h =
      ext_get_or d l (table n f) (e ∙ sym (length_table n f))
      (λ k l'. let hk : k < n = omega arith in h k hk ∙ sym (get_d_table n f k d hk))

  pub table_cong : (n : ℕ) (f g : ℕ → A) → ((k : ℕ) → k < n → f k ≡ g k) → table n f ≡ table n g
  unfolding table
  table_cong zero f g e = refl
  table_cong (suc n) f g e = rw (table_cong n f g (λ k h. e k (omega arith)), e n (omega arith))

  -- one element changed
  pub set_table : (n : ℕ) (f g : ℕ → A) (i : ℕ) (x d : A) → i < n → x ≡ g i → ((k : ℕ) → k < n → k ≢ i → f k ≡ g k) → set (table n f) i x ≡ table n g
  set_table n f g i x d h e o =
      is_table d _ n g (length-set (table n f) i x ∙ length_table n f) (λ k p. go k p (ℕ_discrete k i))
    where
      go : (k : ℕ) → k < n → Dec (k ≡ i) → get_or (set (table n f) i x) k d ≡ g k
      go k p (yes q) =
          let inside : i < length (table n f) = rw (length_table n f) h in
          rw (q, get_or-set_same (table n f) i x d inside) e
      go k p (no q) = get_or-set_other (table n f) i k x d q ∙ get_d_table n f k d p ∙ o k p q

  -- one element more, as the loop counts
  pub table_suc : (n : ℕ) (f : ℕ → A) → table (n + 1) f ≡ table n f ++ (f n ∷ [])
  unfolding table
  table_suc n f = rw add-one

map_snoc : {A B : Type 0} (f : A → B) (l : List A) (x : A) → map f (l ++ (x ∷ [])) ≡ map f l ++ (f x ∷ [])
map_snoc f [] x = refl
map_snoc f (y ∷ l) x = ap (λ (t : List _). f y ∷ t) (map_snoc f l x)

pub map_table : {A B : Type 0} (f : A → B) (n : ℕ) (g : ℕ → A) → map f (table n g) ≡ table n (λ k. f (g k))
unfolding table
map_table f zero g = refl
map_table f (suc n) g = map_snoc f (table n g) (g n) ∙ ap (λ (t : List _). t ++ (f (g n) ∷ [])) (map_table f n g)

-- the length of a list by that of its image under a map, as a struct's array comes
pub length_of_map : (X Y : Type 0) (f : X → Y) (l : List X) (n : ℕ) → length (map f l) ≡ n → length l ≡ n
length_of_map X Y f l n e = sym (length-map l f) ∙ e

-- ── A part of a list ───────────────────────────────────────────────────────────────────────────

-- n elements from a place on, as a slice from there to n further is
pub part_wide : (at n : ℕ) (s : List ℕ) → take (at + n - at) (drop at s) ≡ take n (drop at s)
part_wide at n s = let e : at + n - at ≡ n = omega arith in ap (λ (m : ℕ). take m (drop at s)) e

-- byte o of record k of a table
pub byte_in : (at size k o : ℕ) (s : List ℕ) → o < size → get_or (run_at at size s k) o 0 ≡ get_or s (at + o + k * size) 0
byte_in at size k o s h =
    let e : at + k * size + o ≡ at + o + k * size = omega arith in
    get_or-take size (drop (at + k * size) s) o 0 h ∙ get_or-drop (at + k * size) s o 0 ∙ ap (λ (i : ℕ). get_or s i 0) e

-- a number in a part of a list
pub le_at_part : (w : ℕ) (s : List ℕ) (a o n : ℕ) → o + w ≤ n → le_at w (take n (drop a s)) o ≡ le_at w s (a + o)
unfolding le_at
le_at_part zero s a o n h = refl
le_at_part (suc w) s a o n h =
    let e : a + (o + 1) ≡ a + o + 1 = omega arith in
    rw (get_or-take n (drop a s) o 0 (omega arith), get_or-drop, le_at_part w s a (o + 1) n (omega arith), e)

-- ── The bytes of a table ───────────────────────────────────────────────────────────────────────

module _ {A : Type 0} (f : A → List ℕ) where
  pub table_bytes_append : (l m : List A) → table_bytes f (l ++ m) ≡ table_bytes f l ++ table_bytes f m
  unfolding table_bytes
  table_bytes_append [] m = refl
  table_bytes_append (x ∷ l) m = rw (table_bytes_append l m, append_assoc)

  table_bytes_one : (l : List A) (x : A) → table_bytes f (l ++ (x ∷ [])) ≡ table_bytes f l ++ f x
  unfolding table_bytes
  table_bytes_one l x = rw (table_bytes_append, append-nil)

  -- the bytes of a table whose records are those of a list
  pub table_bytes_table : (g : ℕ → A) (at size : ℕ) (s : List ℕ) (n : ℕ) → ((i : ℕ) → i < n → f (g i) ≡ run_at at size s i) →
      table_bytes f (table n g) ≡ take (n * size) (drop at s)
  unfolding table_bytes table
  table_bytes_table g at size s zero e = rw zero-mul
  table_bytes_table g at size s (suc n) e =
      rw (
        table_bytes_one (table n g) (g n),
        table_bytes_table g at size s n (λ i h. e i (omega arith)),
        e n (omega arith),
        suc-mul,
        take-add,
        drop-drop,
      )

  module _ (size : ℕ) (wide : (x : A) → length (f x) ≡ size) where
    pub length_table_bytes : (l : List A) → length (table_bytes f l) ≡ length l * size
    unfolding table_bytes
    length_table_bytes [] = omega arith
    length_table_bytes (x ∷ l) = rw (length-append, wide x, length_table_bytes l, suc-mul) (omega arith)

    -- the loop that writes a table: one turn
    pub put_more : (s : List ℕ) (at : ℕ) (l : List A) (i : ℕ) (d : A) → i < length l →
        sets (sets s at (table_bytes f (take i l))) (at + i * size) (f (get_or l i d)) ≡ sets s at (table_bytes f (take (i + 1) l))
    put_more s at l i d h =
        let e : length (take i l) ≡ i = length-take-le i l (le_of_lt h) in
        let n : length (table_bytes f (take i l)) ≡ i * size = length_table_bytes (take i l) ∙ ap (λ (j : ℕ). j * size) e in
        rw (add-one, take-suc l i d h, table_bytes_one (take i l) (get_or l i d), sets_append, n)

    record_in_lem : (d : A) (l : List A) (i : ℕ) → i < length l → take size (drop (i * size) (table_bytes f l)) ≡ f (get_or l i d)
    unfolding table_bytes
    record_in_lem d [] i h = absurd (omega arith)
    record_in_lem d (x ∷ l) zero h = rw zero-mul (take_at (f x) (table_bytes f l) size (wide x))
    record_in_lem d (x ∷ l) (suc i) h =
        let e : suc i * size ≡ length (f x) + i * size = rw (suc-mul, wide x) (add_comm (i * size) size) in
        rw (e, drop-append-add (f x) (table_bytes f l) (i * size)) (record_in_lem d l i (omega arith))

    -- record i of a table between other bytes
    pub record_back : (d : A) (p q : List ℕ) (l : List A) (at i : ℕ) → length p ≡ at → i < length l →
        run_at at size (p ++ table_bytes f l ++ q) i ≡ f (get_or l i d)
    record_back d p q l at i hp h =
        let n : length (table_bytes f l) ≡ length l * size = length_table_bytes l in
        let m : suc i * size ≤ length l * size = mul-le-mul_right size h in
        let m' : i * size + size ≤ length l * size = rw suc-mul at m in
        let inside : i * size ≤ length (table_bytes f l) = omega arith in
        let whole : size ≤ length (drop (i * size) (table_bytes f l)) = rw length-drop (omega arith) in
        let e : at + i * size ≡ length p + i * size = ap (λ (b : ℕ). b + i * size) (sym hp) in
        rw (
          e,
          append_assoc,
          drop-append-add p (table_bytes f l ++ q) (i * size),
          drop-append-le (i * size) (table_bytes f l) q inside,
          take-append-le size (drop (i * size) (table_bytes f l)) q whole,
        ) (record_in_lem d l i h)
