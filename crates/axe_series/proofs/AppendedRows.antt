-- Rows that are appended to rows: as matrices they are stacked. What spans of appended rows have, and their blocks.
use Rattle.std.specs.Prelude.{◌≡◌, ℕ, ◌<◌, ◌+◌, ◌-◌, List, [], ◌∷◌, ◌++◌, length, get_or}
use Rattle.std.proofs.lemmas.List.{length-append, get_or_append_left, get_or-append-add, ext_get_or}
use Rattle.axe_algebra.specs.NumberField.{NumberField}
use Rattle.axe_algebra.specs.Field.{Field}
use Rattle.axe_algebra.specs.Vectors.{Vector}
use Rattle.axe_algebra.specs.Spans.{InSpan, SpanWithin}
use Rattle.axe_algebra.specs.Bridge.{field_of, vector_of, matrix_of}
use Rattle.axe_algebra.specs.Lists.{entry, listed, table, IsVectorOver, IsMatrixOver}
use Rattle.axe_algebra.specs.ListArithmetic.{product, product_entry}
use Rattle.axe_algebra.specs.SpansOfLists.{SpansEverything}
use Rattle.axe_algebra.proofs.Spanning.{span_row, span_within, within_trans}
use Rattle.axe_algebra.proofs.Spaces.{stacked, stacked_first, stacked_second, each_stacked, first_in_stacked, second_in_stacked}
use Rattle.axe_algebra.proofs.ListEntries.{listed_length, listed_at, table_length, table_row, row_over}
use mathlib.Core.Path.{sym, ◌∙◌, ap, subst, fun_ext}
use native.Mathlib.Omega.{arith}
use native.Mathlib.Decide.{dec_lt}

-- the span of the rows lies in that of the others
abbrev pub IsWithin : NumberField → List (List ℕ) → List (List ℕ) → Type 0
IsWithin K a b = SpanWithin (field_of K) (length a) (matrix_of K a) (length b) (matrix_of K b)

-- what holds of each of two lists of rows holds of the appended rows
pub over_appended : (K : NumberField) (n : ℕ) (a b : List (List ℕ)) → IsMatrixOver K n a → IsMatrixOver K n b → IsMatrixOver K n (a ++ b)
over_appended K n a b over_a over_b i d below = at (dec_lt i (length a))
  where
    at : Dec (i < length a) → IsVectorOver K n (get_or (a ++ b) i d)
    at (yes before) = subst (IsVectorOver K n) (sym (get_or_append_left a b d i before)) (over_a i d before)
    at (no past) =
        let place : length a + (i - length a) ≡ i = omega arith in
        subst (λ k. IsVectorOver K n (get_or (a ++ b) k d)) place
        (subst (IsVectorOver K n) (sym (get_or-append-add a b (i - length a) d)) (over_b (i - length a) d (omega (arith, length-append a b))))

module _ (K : NumberField) where
  abbrev F : Field
  F = field_of K

  pub matrix_of_appended : (a b : List (List ℕ)) → matrix_of K (a ++ b) ≡ stacked F (length a) (matrix_of K a) (matrix_of K b)
  matrix_of_appended a b = fun_ext λ t. at t (dec_lt t (length a))
    where
      at : (t : ℕ) → Dec (t < length a) → matrix_of K (a ++ b) t ≡ stacked F (length a) (matrix_of K a) (matrix_of K b) t
      at t (yes before) = ap (vector_of K) (get_or_append_left a b [] t before) ∙ sym (stacked_first F (length a) (matrix_of K a) (matrix_of K b) t before)
      at t (no past) =
          let place : t ≡ length a + (t - length a) = omega arith in
          ap (matrix_of K (a ++ b)) place
          ∙ ap (vector_of K) (get_or-append-add a b (t - length a) [])
          ∙ sym (stacked_second F (length a) (matrix_of K a) (matrix_of K b) (t - length a))
          ∙ ap (stacked F (length a) (matrix_of K a) (matrix_of K b)) (sym place)

  -- the span of appended rows is that of the stacked ones
  pub span_of_appended : (a b : List (List ℕ)) (x : Vector F) → InSpan F (length a + length b) (stacked F (length a) (matrix_of K a) (matrix_of K b)) x →
      InSpan F (length (a ++ b)) (matrix_of K (a ++ b)) x
  span_of_appended a b x in_span =
      subst (λ v. InSpan F (length (a ++ b)) v x) (sym (matrix_of_appended a b))
      (subst (λ k. InSpan F k (stacked F (length a) (matrix_of K a) (matrix_of K b)) x) (sym (length-append a b)) in_span)

  pub within_refl : (a : List (List ℕ)) → IsWithin K a a
  within_refl a = span_row F (length a) (matrix_of K a)

  pub within_then : (a b c : List (List ℕ)) → IsWithin K a b → IsWithin K b c → IsWithin K a c
  within_then a b c first second = within_trans F (length a) (matrix_of K a) (length b) (matrix_of K b) (length c) (matrix_of K c) first second

  pub within_first : (a b : List (List ℕ)) → IsWithin K a (a ++ b)
  within_first a b t below =
      span_of_appended a b (matrix_of K a t)
      (first_in_stacked F (length a) (length b) (matrix_of K a) (matrix_of K b) (matrix_of K a t) (span_row F (length a) (matrix_of K a) t below))

  pub within_second : (a b : List (List ℕ)) → IsWithin K b (a ++ b)
  within_second a b t below =
      span_of_appended a b (matrix_of K b t)
      (second_in_stacked F (length a) (length b) (matrix_of K a) (matrix_of K b) (matrix_of K b t) (span_row F (length b) (matrix_of K b) t below))

  -- appended rows are within others where both are
  pub within_of_both : (a b c : List (List ℕ)) → IsWithin K a c → IsWithin K b c → IsWithin K (a ++ b) c
  within_of_both a b c first second t below =
      subst (λ v. InSpan F (length c) (matrix_of K c) (v t)) (sym (matrix_of_appended a b))
      (each_stacked F (InSpan F (length c) (matrix_of K c)) (length a) (length b) (matrix_of K a) (matrix_of K b) first second t
      (omega (arith, length-append a b)))

  pub within_appended : (a b c d : List (List ℕ)) → IsWithin K a c → IsWithin K b d → IsWithin K (a ++ b) (c ++ d)
  within_appended a b c d first second =
      within_of_both a b (c ++ d) (within_then a c (c ++ d) first (within_first c d)) (within_then b d (c ++ d) second (within_second c d))

  -- rows that are within others span no more
  pub spans_more : (n : ℕ) (a b : List (List ℕ)) → IsWithin K a b → SpansEverything K n a → SpansEverything K n b
  spans_more n a b within all x long = span_within F (length a) (matrix_of K a) (length b) (matrix_of K b) x within (all x long)

  -- a row that is made of the entries of a row
  pub row_again : (n : ℕ) (row : List ℕ) (f : ℕ → ℕ) → length row ≡ n → ((j : ℕ) → j < n → f j ≡ get_or row j 0) → listed n f ≡ row
  row_again n row f long same = ext_get_or 0 (listed n f) row (listed_length n f ∙ sym long) (λ j below.
      let small : j < n = omega (arith, listed_length n f) in
      listed_at n f j 0 small ∙ same j small)

  -- the blocks of appended rows of one length
  pub first_block : (n : ℕ) (a b : List (List ℕ)) → IsMatrixOver K n a → table (length a) n (λ i j. entry (a ++ b) (0 + i) (0 + j)) ≡ a
  first_block n a b over =
      ext_get_or [] (table (length a) n (λ i j. entry (a ++ b) (0 + i) (0 + j))) a (table_length (length a) n (λ i j. entry (a ++ b) (0 + i) (0 + j)))
      (λ i below.
      let small : i < length a = omega (arith, table_length (length a) n (λ i j. entry (a ++ b) (0 + i) (0 + j))) in
      let v : IsVectorOver K n (get_or a i []) = row_over K n a i over small in
      table_row (length a) n (λ i j. entry (a ++ b) (0 + i) (0 + j)) i small
      ∙ row_again n (get_or a i []) (λ j. entry (a ++ b) (0 + i) (0 + j)) v.length_is
      (λ j inside.
      let row : 0 + i ≡ i = omega arith in
      let column : 0 + j ≡ j = omega arith in
      ap (λ k. entry (a ++ b) k (0 + j)) row ∙ ap (entry (a ++ b) i) column
      ∙ ap (λ (r : List ℕ). get_or r j 0) (get_or_append_left a b [] i small)))

  pub second_block : (n : ℕ) (a b : List (List ℕ)) → IsMatrixOver K n b → table (length b) n (λ i j. entry (a ++ b) (length a + i) (0 + j)) ≡ b
  second_block n a b over =
      ext_get_or [] (table (length b) n f) b (table_length (length b) n f)
      (λ i below.
      let small : i < length b = omega (arith, table_length (length b) n f) in
      let v : IsVectorOver K n (get_or b i []) = row_over K n b i over small in
      table_row (length b) n f i small
      ∙ row_again n (get_or b i []) (f i) v.length_is
      (λ j inside.
      let column : 0 + j ≡ j = omega arith in
      ap (entry (a ++ b) (length a + i)) column
      ∙ ap (λ (r : List ℕ). get_or r j 0) (get_or-append-add a b i [])))
    where
      f : ℕ → ℕ → ℕ
      f i j = entry (a ++ b) (length a + i) (0 + j)

  -- the product of appended rows is the products, appended
  pub product_of_appended : (p : ℕ) (a b c : List (List ℕ)) → product K p (a ++ b) c ≡ product K p a c ++ product K p b c
  unfolding product product_entry
  product_of_appended p a b c =
      ext_get_or [] (table (length (a ++ b)) p f) (table (length a) p g ++ table (length b) p h)
      (table_length (length (a ++ b)) p f ∙ length-append a b
      ∙ (let first : length (table (length a) p g) ≡ length a = table_length (length a) p g in
      let second : length (table (length b) p h) ≡ length b = table_length (length b) p h in
      omega (arith, first, second, length-append (table (length a) p g) (table (length b) p h))))
      (λ i below. at i (omega (arith, table_length (length (a ++ b)) p f, length-append a b)) (dec_lt i (length a)))
    where
      f : ℕ → ℕ → ℕ
      f = product_entry K (a ++ b) c (length c)

      g : ℕ → ℕ → ℕ
      g = product_entry K a c (length c)

      h : ℕ → ℕ → ℕ
      h = product_entry K b c (length c)

      at : (i : ℕ) → i < length a + length b → Dec (i < length a) →
          get_or (table (length (a ++ b)) p f) i [] ≡ get_or (table (length a) p g ++ table (length b) p h) i []
      at i below (yes before) =
          table_row (length (a ++ b)) p f i (omega (arith, length-append a b))
          ∙ row_again p (listed p (g i)) (f i) (listed_length p (g i)) (λ j inside. same j ∙ sym (listed_at p (g i) j 0 inside))
          ∙ sym (table_row (length a) p g i before)
          ∙ sym (get_or_append_left (table (length a) p g) (table (length b) p h) [] i (omega (arith, table_length (length a) p g)))
        where
          same : (j : ℕ) → f i j ≡ g i j
          same j = ap (λ (r : List ℕ). product_entry K (r ∷ []) c (length c) 0 j) (get_or_append_left a b [] i before)
      at i below (no past) =
          let place : i ≡ length a + (i - length a) = omega arith in
          let small : i - length a < length b = omega arith in
          let shifted : length (table (length a) p g) + (i - length a) ≡ i = omega (arith, table_length (length a) p g) in
          table_row (length (a ++ b)) p f i (omega (arith, length-append a b))
          ∙ row_again p (listed p (h (i - length a))) (f i) (listed_length p (h (i - length a)))
          (λ j inside.
          ap (λ (r : List ℕ). product_entry K (r ∷ []) c (length c) 0 j) (ap (λ k. get_or (a ++ b) k []) place ∙ get_or-append-add a b (i - length a) [])
          ∙ sym (listed_at p (h (i - length a)) j 0 inside))
          ∙ sym (table_row (length b) p h (i - length a) small)
          ∙ sym (get_or-append-add (table (length a) p g) (table (length b) p h) (i - length a) [])
          ∙ ap (λ k. get_or (table (length a) p g ++ table (length b) p h) k []) shifted
