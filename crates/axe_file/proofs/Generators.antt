-- Generators of a module, and the rows of all of them as one list.
use Rattle.std.proofs.Common.{◌≡◌, ℕ, zero, suc, ◌+◌, ◌*◌, ◌/◌, ◌%◌, ◌<◌, ◌≤◌, List, [], ◌∷◌, ◌++◌, length, get_or, take, drop, refl, sym, ap, ◌∙◌, subst, append_assoc, arith}
use Rattle.std.specs.List.{flat_map, All}
use Rattle.std.proofs.lemmas.List.{length-append, append-nil, take_at, drop_at}
use Rattle.std.proofs.lemmas.List.Concat.{flat_map-append}
use Rattle.std.proofs.lemmas.List.Elements.{All-nil, All-head, All-tail, All-append}
use Rattle.std.proofs.lemmas.List.FromFn.{map-range_with_len_more}
use Rattle.axe_algebra.specs.Lists.{listed, table}
use Rattle.axe_algebra.proofs.ListEntries.{listed_length, listed_at}
use Rattle.axe_field.specs.Order.{Order, order_number}
use Rattle.axe_row.specs.ByteDigits.{digits_per_byte}
use Rattle.axe_matrix.specs.Matrices.{MatrixValue}
use Rattle.axe_matrix.specs.Limits.{most_rows}
use Rattle.axe_file.specs.Marks.{mark_of, bytes_per_row}
use Rattle.axe_file.specs.Packed.{packed_row, packed_rows, data_length, mark_at, matrix_at}
use Rattle.axe_file.specs.PackedModules.{IsGenerator, generator_at}
use Rattle.axe_file.proofs.Lists.{listed_same}
use Rattle.axe_file.proofs.Respelling.{matrix_at_is_matrix}
use Rattle.axe_file.proofs.RowBytes.{AreRows, rows_of_matrix}

-- the rows of all of the matrices, in order
abbrev pub rows_of_all : List MatrixValue → List (List ℕ)
rows_of_all matrices = flat_map (λ (m : MatrixValue). m.rows) matrices

-- ---- generators over the order o, of dimension n

module _ (o : Order) (n : ℕ) where
  pub length-rows_of_all : (matrices : List MatrixValue) → All (IsGenerator o n) matrices → length (rows_of_all matrices) ≡ length matrices * n
  length-rows_of_all [] h = omega arith
  length-rows_of_all (m ∷ rest) h =
      let first = All-head (IsGenerator o n) m rest h in
      let others = length-rows_of_all rest (All-tail (IsGenerator o n) m rest h) in
      let whole = length-append m.rows (rows_of_all rest) in
      omega (arith, first.rows)

  rows_of_generator : (m : MatrixValue) → IsGenerator o n m → AreRows o n m.rows
  rows_of_generator m h = subst (λ q. AreRows q n m.rows) h.field (subst (λ k. AreRows m.order k m.rows) h.columns (rows_of_matrix m h.well_formed))

  pub rows_of_generators : (matrices : List MatrixValue) → All (IsGenerator o n) matrices → AreRows o n (rows_of_all matrices)
  rows_of_generators [] h = record { lengths = All-nil (λ row. length row ≡ n); elements = All-nil (All (λ a. a < order_number o)) }
  rows_of_generators (m ∷ rest) h =
      let first = rows_of_generator m (All-head (IsGenerator o n) m rest h) in
      let others = rows_of_generators rest (All-tail (IsGenerator o n) m rest h) in
      record {
        lengths = All-append (λ row. length row ≡ n) m.rows (rows_of_all rest) first.lengths others.lengths;
        elements = All-append (All (λ a. a < order_number o)) m.rows (rows_of_all rest) first.elements others.elements;
      }

  -- the bytes of the rows of each, one after the other, are those of all rows
  pub bytes_of_all : (matrices : List MatrixValue) → All (IsGenerator o n) matrices
      → flat_map packed_rows matrices ≡ flat_map (packed_row o n) (rows_of_all matrices)
  bytes_of_all [] h = refl
  bytes_of_all (m ∷ rest) h =
      let first = All-head (IsGenerator o n) m rest h in
      let others = bytes_of_all rest (All-tail (IsGenerator o n) m rest h) in
      (λ i. flat_map (packed_row (first.field i) (first.columns i)) m.rows ++ others i)
      ∙ sym (flat_map-append (packed_row o n) m.rows (rows_of_all rest))

  -- as many generators with the same rows in all are the same
  pub same_generators : (a b : List MatrixValue) → All (IsGenerator o n) a → All (IsGenerator o n) b → length a ≡ length b → rows_of_all a ≡ rows_of_all b
      → a ≡ b
  same_generators [] [] ha hb count e = refl
  same_generators [] (y ∷ ys) ha hb count e = absurd (omega arith)
  same_generators (x ∷ xs) [] ha hb count e = absurd (omega arith)
  same_generators (x ∷ xs) (y ∷ ys) ha hb count e =
      let fx = All-head (IsGenerator o n) x xs ha in
      let fy = All-head (IsGenerator o n) y ys hb in
      let rows : x.rows ≡ y.rows =
      sym (take_at x.rows (rows_of_all xs) n fx.rows) ∙ ap (λ (rs : List (List ℕ)). take n rs) e ∙ take_at y.rows (rows_of_all ys) n fy.rows in
      let others : rows_of_all xs ≡ rows_of_all ys =
      sym (drop_at x.rows (rows_of_all xs) n fx.rows) ∙ ap (λ (rs : List (List ℕ)). drop n rs) e ∙ drop_at y.rows (rows_of_all ys) n fy.rows in
      let order : x.order ≡ y.order = fx.field ∙ sym fy.field in
      let cols : x.cols ≡ y.cols = fx.columns ∙ sym fy.columns in
      let rest = same_generators xs ys (All-tail (IsGenerator o n) x xs ha) (All-tail (IsGenerator o n) y ys hb) (omega arith) others in
      λ i. record { order = order i; cols = cols i; rows = rows i } ∷ rest i

-- ---- generators that are read from an offset on

listed_push : {X : Type 0} (f : ℕ → X) (n : ℕ) → listed (n + 1) f ≡ listed n f ++ f n ∷ []
listed_push f n = map-range_with_len_more f 0 n n (omega arith)

listed-append : {X : Type 0} (f : ℕ → X) (a b : ℕ) → listed (a + b) f ≡ listed a f ++ listed b (λ i. f (a + i))
listed-append f a zero = ap (λ (n : ℕ). listed n f) (omega arith) ∙ sym (append-nil (listed a f))
listed-append f a (suc b) =
    let more : a + suc b ≡ a + b + 1 = omega arith in
    let one : b + 1 ≡ suc b = omega arith in
    ap (λ (n : ℕ). listed n f) more
    ∙ listed_push f (a + b)
    ∙ (λ i. listed-append f a b i ++ f (a + b) ∷ [])
    ∙ append_assoc (listed a f) (listed b (λ i. f (a + i))) (f (a + b) ∷ [])
    ∙ ap (λ (xs : List _). listed a f ++ xs) (sym (listed_push (λ i. f (a + i)) b) ∙ ap (λ (n : ℕ). listed n (λ i. f (a + i))) one)

module _ (o : Order) (n : ℕ) (bytes : List ℕ) (offset : ℕ) where
  generator_rows : (k : ℕ) → (generator_at o n bytes offset k).rows ≡ listed n (λ i. listed n (mark_at o n bytes offset (k * n + i)))
  unfolding generator_at matrix_at mark_at data_length
  generator_rows k =
      let w = bytes_per_row o n in
      let m = digits_per_byte o in
      listed_same n _ _ [] (λ i inside. listed_same n _ _ 0 (λ j lt.
      let place : offset + k * (n * w) + (i * w + j / m) ≡ offset + ((k * n + i) * w + j / m) = omega arith in
      ap (λ (p : ℕ). mark_of o (get_or bytes p 0) (j % m)) place))

  pub rows_read : (g : ℕ) → rows_of_all (listed g (generator_at o n bytes offset)) ≡ table (g * n) n (mark_at o n bytes offset)
  rows_read zero =
      let none : 0 * n ≡ 0 = omega arith in
      ap (λ (k : ℕ). table k n (mark_at o n bytes offset)) (sym none)
  rows_read (suc g) =
      let generator = generator_at o n bytes offset in
      let row = λ (i : ℕ). listed n (mark_at o n bytes offset i) in
      let one : suc g ≡ g + 1 = omega arith in
      let size : g * n + n ≡ suc g * n = omega arith in
      ap (λ (k : ℕ). rows_of_all (listed k generator)) one
      ∙ ap rows_of_all (listed_push generator g)
      ∙ flat_map-append (λ (m : MatrixValue). m.rows) (listed g generator) (generator g ∷ [])
      ∙ (λ i. rows_read g i ++ append-nil (generator g).rows i)
      ∙ ap (λ (rs : List (List ℕ)). listed (g * n) row ++ rs) (generator_rows g)
      ∙ sym (listed-append row (g * n) n)
      ∙ ap (λ (k : ℕ). listed k row) size

  is_generator : 1 ≤ n → n ≤ most_rows → (k : ℕ) → IsGenerator o n (generator_at o n bytes offset k)
  unfolding generator_at matrix_at
  is_generator some fits k = record {
    field = refl;
    columns = refl;
    rows = listed_length n (λ i. listed n (mark_at o n bytes (offset + k * data_length o n n) i));
    well_formed = matrix_at_is_matrix o n bytes (offset + k * data_length o n n) n some (omega (arith, fits)) fits;
  }

  pub are_generators : 1 ≤ n → n ≤ most_rows → (g : ℕ) → All (IsGenerator o n) (listed g (generator_at o n bytes offset))
  are_generators some fits g =
      let generator = generator_at o n bytes offset in
      let count : length (listed g generator) ≡ g = listed_length g generator in
      λ k d lt. subst (IsGenerator o n) (sym (listed_at g generator k d (omega arith))) (is_generator some fits k)
