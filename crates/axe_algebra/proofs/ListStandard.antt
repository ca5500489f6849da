-- Standard bases of lists: rows that are one, and only one list of rows; isomorphisms from sub actions.
use Rattle.std.specs.Prelude.{◌≡◌, ℕ, ◌<◌, ◌≤◌, List, [], length, get_or, take}
use Rattle.std.specs.List.{All}
use Rattle.axe_algebra.specs.NumberField.{NumberField}
use Rattle.axe_algebra.specs.Field.{Field}
use Rattle.axe_algebra.specs.Vectors.{Vector, Matrix}
use Rattle.axe_algebra.specs.Spans
use Rattle.axe_algebra.specs.Modules.{image}
use Rattle.axe_algebra.specs.Standard.{Precedes, InSpanUpTo}
use Rattle.axe_algebra.specs.Bridge.{field_of, vector_of, matrix_of, module_of}
use Rattle.axe_algebra.specs.Lists.{IsMatrixOver, IsSquareOver}
use Rattle.axe_algebra.specs.ListArithmetic.{combination}
use Rattle.axe_algebra.specs.SpansOfLists.{IsSpanned, IsIndependent}
use Rattle.axe_algebra.specs.ModulesOfLists.{IsStandardBasis}
use Rattle.axe_algebra.proofs.ProductLaws.{times_longer}
use Rattle.axe_algebra.proofs.Exchange.{cut, cut_length, times_cut, span_of_same_rows}
use Rattle.axe_algebra.proofs.StandardBases.{standard_basis_size_is_unique, standard_basis_is_unique}
use Rattle.axe_algebra.proofs.ListEntries.{row_over, same_vector}
use Rattle.axe_algebra.proofs.ListModules.{vector_of_image}
use Rattle.std.proofs.lemmas.List.{ext_get_or, get_or-take, length-take-le}
use mathlib.Core.Path.{sym, ◌∙◌, ap, subst}
use native.Mathlib.Omega.{arith}
use native.Mathlib.Decide.{dec_lt}

-- a vector in the span of the first l rows, none of which has a greater pair than (r, i)
pub up_to_prefix : (F : Field) (m l : ℕ) (b : Matrix F) (rows generators : ℕ → ℕ) (r i : ℕ) (x : Vector F) → l ≤ m → Spans.InSpan F l b x →
    ((t : ℕ) → 0 < t → t < l → ¬ (Precedes r i (rows t) (generators t))) → InSpanUpTo F m b rows generators r i x
up_to_prefix F m l b rows generators r i x within in_span earlier = record {
  coefficients = cut F l in_span.coefficients;
  combines = in_span.combines ∙ sym (times_cut F l in_span.coefficients b)
      ∙ sym (times_longer F l m (cut F l in_span.coefficients) b within (λ t from below. cut_length F l in_span.coefficients t from));
  later = λ t positive below after. at t positive after (dec_lt t l);
}
  where
    at : (t : ℕ) → 0 < t → Precedes r i (rows t) (generators t) → Dec (t < l) → cut F l in_span.coefficients t ≡ F.zero
    at t positive after (yes inside) = absurd (earlier t positive inside after)
    at t positive after (no past) = cut_length F l in_span.coefficients t (omega arith)

-- the first l rows of a list and their pairs, as the search for a standard basis makes them
pub record IsStandardSearch (K : NumberField) (n : ℕ) (generators : List (List (List ℕ))) (v : List ℕ) (rows : List (List ℕ))
    (sources numbers : ℕ → ℕ) : Type 0 where
  pub nonempty : 0 < length rows
  pub first : get_or rows 0 [] ≡ v
  pub independent : IsIndependent K rows
  pub earlier : (t : ℕ) → 0 < t → t < length rows → sources t < t
  pub number-below : (t : ℕ) → 0 < t → t < length rows → numbers t < length generators
  pub ascending : (s t : ℕ) → 0 < s → s < t → t < length rows → Precedes (sources s) (numbers s) (sources t) (numbers t)
  pub equals : (t : ℕ) → 0 < t → t < length rows →
      get_or rows t [] ≡ combination K n (get_or rows (sources t) []) (get_or generators (numbers t) [])

-- the image of row r under generator i is in the span of the first l rows, none of which has a greater pair
pub record IsCovered (K : NumberField) (n : ℕ) (generators : List (List (List ℕ))) (rows : List (List ℕ)) (sources numbers : ℕ → ℕ) (r i : ℕ) : Type 0 where
  pub size : ℕ
  pub within : size ≤ length rows
  pub spanned : IsSpanned K (take size rows) (combination K n (get_or rows r []) (get_or generators i []))
  pub before : (t : ℕ) → 0 < t → t < size → ¬ (Precedes r i (sources t) (numbers t))

module _ (K : NumberField) where
  abbrev F : Field
  F = field_of K

  -- what the first rows of a list span
  pub span_of_taken : (rows : List (List ℕ)) (l : ℕ) (x : Vector F) → l ≤ length rows →
      Spans.InSpan F (length (take l rows)) (matrix_of K (take l rows)) x → Spans.InSpan F l (matrix_of K rows) x
  span_of_taken rows l x within in_span =
      span_of_same_rows F l (matrix_of K (take l rows)) (matrix_of K rows) x (λ t below. ap (vector_of K) (get_or-take l rows t [] below))
      (subst (λ k. Spans.InSpan F k (matrix_of K (take l rows)) x) (length-take-le l rows within) in_span)

  module _ (n : ℕ) (generators : List (List (List ℕ))) (v : List ℕ) where
    -- a search that has covered every image has found the standard basis
    pub standard_basis_by_search : (rows : List (List ℕ)) (sources numbers : ℕ → ℕ) → All (IsSquareOver K n) generators → IsMatrixOver K n rows →
        IsStandardSearch K n generators v rows sources numbers →
        ((r i : ℕ) → r < length rows → i < length generators → IsCovered K n generators rows sources numbers r i) → IsStandardBasis K n generators v rows
    standard_basis_by_search rows sources numbers square over search covered = record {
      nonempty = search.nonempty;
      first = ap (vector_of K) search.first;
      independent = search.independent;
      rows = sources;
      generators = numbers;
      earlier = search.earlier;
      generator-below = search.number-below;
      ascending = search.ascending;
      equals = λ t positive below.
          let before = search.earlier t positive below in
          ap (vector_of K) (search.equals t positive below)
          ∙ image_of (sources t) (numbers t) (omega arith) (search.number-below t positive below);
      images = λ r i inside below.
          let found = covered r i inside below in
          up_to_prefix F (length rows) found.size (matrix_of K rows) sources numbers r i _ found.within
          (subst (Spans.InSpan F found.size (matrix_of K rows)) (image_of r i inside below)
          (span_of_taken rows found.size _ found.within found.spanned))
          found.before;
    }
      where
        image_of : (r i : ℕ) → r < length rows → i < length generators →
            vector_of K (combination K n (get_or rows r []) (get_or generators i [])) ≡ image F (module_of K n generators) (matrix_of K rows r) i
        image_of r i inside below = vector_of_image K n generators (get_or rows r []) i square below (row_over K n rows r over inside)

    -- a vector has one standard basis
    pub standard_basis_list_is_unique : (a b : List (List ℕ)) → IsMatrixOver K n a → IsMatrixOver K n b →
        IsStandardBasis K n generators v a → IsStandardBasis K n generators v b → a ≡ b
    standard_basis_list_is_unique a b over_a over_b first second =
        ext_get_or [] a b
        (standard_basis_size_is_unique F (module_of K n generators) (vector_of K v) (length a) (length b) (matrix_of K a) (matrix_of K b) first second)
        (λ t below. same_vector K n (get_or a t []) (get_or b t []) (row_over K n a t over_a below)
        (row_over K n b t over_b (omega (
          arith,
          standard_basis_size_is_unique F (module_of K n generators) (vector_of K v) (length a) (length b) (matrix_of K a) (matrix_of K b) first second,
        )))
        (standard_basis_is_unique F (module_of K n generators) (vector_of K v) (length a) (length b) (matrix_of K a) (matrix_of K b) first second t below))
