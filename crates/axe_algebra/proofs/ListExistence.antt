-- Every seed has rows that span what it generates, and every vector other than zero has a standard basis, as lists.
use Rattle.std.specs.Prelude.{◌≡◌, ◌≢◌, ℕ, zero, suc, ◌+◌, ◌-◌, ◌<◌, ◌⊎◌, List, [], ◌∷◌, ◌++◌, length, get_or}
use Rattle.std.specs.List.{All}
use Rattle.std.proofs.lemmas.List.{length-append, get_or_append_left, get_or-append-add}
use Rattle.std.proofs.lemmas.List.Elements.{All-append, All-nil, All-head, All-tail}
use Rattle.axe_algebra.specs.NumberField.{NumberField}
use Rattle.axe_algebra.specs.Field.{Field}
use Rattle.axe_algebra.specs.Vectors.{Vector, Matrix, HasRowsOfLength, zero_vector}
use Rattle.axe_algebra.specs.Reduced.{LeadsAt}
use Rattle.axe_algebra.specs.Modules.{Module, InGenerated, image}
use Rattle.axe_algebra.specs.Standard.{InSpanUpTo}
use Rattle.axe_algebra.specs.Standard
use Rattle.axe_algebra.specs.Bridge.{field_of, vector_of, matrix_of, module_of}
use Rattle.axe_algebra.specs.Lists.{rows_of, IsVectorOver, IsMatrixOver, IsSquareOver}
use Rattle.axe_algebra.specs.ListArithmetic.{combination}
use Rattle.axe_algebra.specs.SpansOfLists.{IsSpanned, IsReducedBasis}
use Rattle.axe_algebra.specs.ModulesOfLists.{IsInvariant, IsGenerated, Generates, IsGeneratedBasis, IsStandardBasis}
use Rattle.axe_algebra.proofs.ProductLaws.{times_same}
use Rattle.axe_algebra.proofs.Spanning.{span_row, span_zero, span_same, span_within}
use Rattle.axe_algebra.proofs.Elimination.{is_zero_or_leads}
use Rattle.axe_algebra.proofs.Generated.{generated_is_invariant, generated_is_least}
use Rattle.axe_algebra.proofs.StandardExistence.{standard_basis_exists}
use Rattle.axe_algebra.proofs.StandardBases.{standard_basis_is_invariant}
use Rattle.axe_algebra.proofs.Duality.{standard_row_in_generated}
use Rattle.axe_algebra.proofs.ListEntries.{table_length, table_row, rows_length, rows_over, vector_length, vector_of_entries}
use Rattle.axe_algebra.proofs.ListSpans.{row_spanned}
use Rattle.axe_algebra.proofs.ListModules.{module_shape, invariant_by_images, images_of_invariant}
use Rattle.axe_algebra.proofs.ListGenerated.{seed_row_generated, generates, generated_basis, generated_is_invariant_span}
use Rattle.axe_algebra.proofs.ListReduced.{reduced_basis_list}
use mathlib.Core.Logic.{inl, inr}
use mathlib.Core.Path.{refl, sym, ◌∙◌, ap, subst}
use native.Mathlib.Omega.{arith}
use native.Mathlib.Decide.{dec_lt}

-- the same rows are a standard basis
standard_of_same_rows : (F : Field) (M : Module F) (v : Vector F) (m : ℕ) (b d : Matrix F) → ((t : ℕ) → t < m → b t ≡ d t) →
    Standard.IsStandardBasis F M v m b → Standard.IsStandardBasis F M v m d
standard_of_same_rows F M v m b d same S = record {
  nonempty = S.nonempty;
  first = sym (same 0 S.nonempty) ∙ S.first;
  independent = record {
    only_zero = λ c vanishes t below. S.independent.only_zero c (times_same F m c c b d (λ s small. refl) same ∙ vanishes) t below;
  };
  rows = S.rows;
  generators = S.generators;
  earlier = S.earlier;
  generator-below = S.generator-below;
  ascending = S.ascending;
  equals = λ t positive below.
      let before = S.earlier t positive below in
      sym (same t below) ∙ S.equals t positive below ∙ ap (λ (x : Vector F). image F M x (S.generators t)) (same (S.rows t) (omega arith));
  images = λ r i inside below.
      let up_to = S.images r i inside below in
      record {
        coefficients = up_to.coefficients;
        combines = ap (λ (x : Vector F). image F M x i) (sym (same r inside)) ∙ up_to.combines
            ∙ times_same F m up_to.coefficients up_to.coefficients b d (λ s small. refl) same;
        later = up_to.later;
      };
}

module _ (K : NumberField) (n : ℕ) (generators : List (List (List ℕ))) (square : All (IsSquareOver K n) generators) where
  abbrev F : Field
  F = field_of K

  abbrev M : Module F
  M = module_of K n generators

  -- ---- standard bases

  pub standard_rows : (v : List ℕ) → length v ≡ n → vector_of K v ≢ zero_vector F →
      (rows : List (List ℕ)) × IsMatrixOver K n rows × IsStandardBasis K n generators v rows
  standard_rows v long nonzero = from (standard_basis_exists F M (vector_of K v) (module_shape K n generators square) (vector_length K n v long) nonzero)
    where
      from : (m : ℕ) × (b : Matrix F) × HasRowsOfLength F n b × Standard.IsStandardBasis F M (vector_of K v) m b →
          (rows : List (List ℕ)) × IsMatrixOver K n rows × IsStandardBasis K n generators v rows
      from (m, b, lengths, standard) = (
        rows_of K m n b,
        rows_over K m n b,
        subst (λ k. Standard.IsStandardBasis F M (vector_of K v) k (matrix_of K (rows_of K m n b))) (sym (table_length m n (λ i j. (b i j).0)))
            (standard_of_same_rows F M (vector_of K v) m b (matrix_of K (rows_of K m n b))
            (λ t below. sym (vector_of_entries K n (b t) (lengths t)) ∙ ap (vector_of K) (sym (table_row m n (λ i j. (b i j).0) t below))) standard),
      )

  -- ---- rows one after the other

  left_spanned : (a b : List (List ℕ)) (v : List ℕ) → IsSpanned K a v → IsSpanned K (a ++ b) v
  left_spanned a b v spanned =
      span_within F (length a) (matrix_of K a) (length (a ++ b)) (matrix_of K (a ++ b)) (vector_of K v)
      (λ t below. subst (IsSpanned K (a ++ b)) (get_or_append_left a b [] t below) (row_spanned K (a ++ b) t (omega (arith, length-append a b)))) spanned

  right_spanned : (a b : List (List ℕ)) (v : List ℕ) → IsSpanned K b v → IsSpanned K (a ++ b) v
  right_spanned a b v spanned =
      span_within F (length b) (matrix_of K b) (length (a ++ b)) (matrix_of K (a ++ b)) (vector_of K v)
      (λ t below. subst (IsSpanned K (a ++ b)) (get_or-append-add a b t []) (row_spanned K (a ++ b) (length a + t) (omega (arith, length-append a b)))) spanned

  -- what holds of each row of two lists holds of those of both
  each_of_both : (P : List ℕ → Type 0) (a b : List (List ℕ)) → ((t : ℕ) → t < length a → P (get_or a t [])) → ((t : ℕ) → t < length b → P (get_or b t [])) →
      (t : ℕ) → t < length (a ++ b) → P (get_or (a ++ b) t [])
  each_of_both P a b first second t below = cases (dec_lt t (length a))
    where
      cases : Dec (t < length a) → P (get_or (a ++ b) t [])
      cases (yes inside) = subst P (sym (get_or_append_left a b [] t inside)) (first t inside)
      cases (no past) =
          let rest : ℕ = t - length a in
          subst (λ k. P (get_or (a ++ b) k [])) (let e : length a + rest ≡ t = omega arith in e)
          (subst P (sym (get_or-append-add a b rest [])) (second rest (omega (arith, length-append a b))))

  invariant_both : (a b : List (List ℕ)) → IsMatrixOver K n a → IsMatrixOver K n b → IsInvariant K n generators a → IsInvariant K n generators b →
      IsInvariant K n generators (a ++ b)
  invariant_both a b over_a over_b first second =
      invariant_by_images K n generators (a ++ b) square (All-append (IsVectorOver K n) a b over_a over_b)
      (λ t i inside below. each_of_both (λ row. IsSpanned K (a ++ b) (combination K n row (get_or generators i []))) a b
      (λ s small. left_spanned a b _ (images_of_invariant K n generators a square over_a first s i small below))
      (λ s small. right_spanned a b _ (images_of_invariant K n generators b square over_b second s i small below)) t inside)

  -- ---- generated spaces

  -- rows with an invariant span that holds a vector, each of them generated by it
  record Spun (v : List ℕ) (rows : List (List ℕ)) : Type 0 where
    over : IsMatrixOver K n rows
    invariant : IsInvariant K n generators rows
    holds : IsSpanned K rows v
    each : (t : ℕ) → t < length rows → InGenerated F M 1 (λ s. vector_of K v) (matrix_of K rows t)

  spun_rows : (v : List ℕ) → length v ≡ n → (rows : List (List ℕ)) × Spun v rows
  spun_rows v long = cases (is_zero_or_leads F n (vector_of K v) (vector_length K n v long))
    where
      from : (rows : List (List ℕ)) × IsMatrixOver K n rows × IsStandardBasis K n generators v rows → (rows : List (List ℕ)) × Spun v rows
      from (rows, over, standard) = (
        rows,
        record {
          over = over;
          invariant = standard_basis_is_invariant F M (vector_of K v) (length rows) (matrix_of K rows) standard;
          holds = span_same F (length rows) (matrix_of K rows) (vector_of K v) (matrix_of K rows 0) (sym standard.first)
              (span_row F (length rows) (matrix_of K rows) 0 standard.nonempty);
          each = standard_row_in_generated F M (module_shape K n generators square) (vector_of K v) (vector_length K n v long) (length rows) (matrix_of K rows) standard;
        },
      )

      cases : (vector_of K v ≡ zero_vector F) ⊎ ((j : ℕ) × (j < n) × LeadsAt F (vector_of K v) j) → (rows : List (List ℕ)) × Spun v rows
      cases (inl is_zero) = (
        [],
        record {
          over = All-nil (IsVectorOver K n);
          invariant = record { images = λ t i inside below. absurd (omega arith) };
          holds = span_same F 0 (matrix_of K []) (vector_of K v) (zero_vector F) is_zero (span_zero F 0 (matrix_of K []));
          each = λ t below. absurd (omega arith);
        },
      )
      cases (inr (j, below, leads)) = from (standard_rows v long (λ e. leads.nonzero (ap (λ (x : Vector F). x j) e)))

  -- what a vector generates is generated by a seed that has it, and what a seed generates by a seed that has its rows
  generated_more : (k : ℕ) (v : Matrix F) (seed : List (List ℕ)) → HasRowsOfLength F n v →
      ((t : ℕ) → t < k → InGenerated F M (length seed) (matrix_of K seed) (v t)) → (x : Vector F) → InGenerated F M k v x →
      InGenerated F M (length seed) (matrix_of K seed) x
  generated_more k v seed lengths each =
      generated_is_least F M (module_shape K n generators square) (InGenerated F M (length seed) (matrix_of K seed))
      (generated_is_invariant F M (module_shape K n generators square) (length seed) (matrix_of K seed)) k v lengths each

  pub generated_rows : (seed : List (List ℕ)) → IsMatrixOver K n seed → (rows : List (List ℕ)) × IsMatrixOver K n rows × Generates K n generators seed rows
  generated_rows [] over = (
    [],
    over,
    generates K n generators square [] [] over (record { images = λ t i inside below. absurd (omega arith) }) (λ t below. absurd (omega arith))
        (λ t below. absurd (omega arith)),
  )
  generated_rows (v ∷ rest) over = both (spun_rows v first.length_is) (generated_rows rest others)
    where
      first : IsVectorOver K n v
      first = All-head (IsVectorOver K n) v rest over

      others : IsMatrixOver K n rest
      others = All-tail (IsVectorOver K n) v rest over

      both : (a : List (List ℕ)) × Spun v a → (b : List (List ℕ)) × IsMatrixOver K n b × Generates K n generators rest b →
          (rows : List (List ℕ)) × IsMatrixOver K n rows × Generates K n generators (v ∷ rest) rows
      both (a, spun) (b, over_b, spans) = (
        a ++ b,
        All-append (IsVectorOver K n) a b spun.over over_b,
        generates K n generators square (v ∷ rest) (a ++ b) over
            (invariant_both a b spun.over over_b spun.invariant (generated_is_invariant_span K n generators square rest b spans)) holds
            (each_of_both (IsGenerated K n generators (v ∷ rest)) a b
            (λ t below. generated_more 1 (λ s. vector_of K v) (v ∷ rest) (λ t. vector_length K n v first.length_is)
            (λ s small. seed_row_generated K n generators (v ∷ rest) 0 over (omega arith)) (matrix_of K a t) (spun.each t below))
            (λ t below. generated_more (length rest) (matrix_of K rest) (v ∷ rest) (rows_length K n rest others)
            (λ s small. seed_row_generated K n generators (v ∷ rest) (suc s) over (omega arith)) (matrix_of K b t)
            (spans.forth (matrix_of K b t) (span_row F (length b) (matrix_of K b) t below)))),
      )
        where
          holds : (t : ℕ) → t < length (v ∷ rest) → IsSpanned K (a ++ b) (get_or (v ∷ rest) t [])
          holds zero below = left_spanned a b v spun.holds
          holds (suc t) below =
              right_spanned a b (get_or rest t []) (spans.back (vector_of K (get_or rest t [])) (seed_row_generated K n generators rest t others (omega arith)))

  pub generated_basis_list : (seed : List (List ℕ)) → IsMatrixOver K n seed →
      (basis : List (List ℕ)) × IsMatrixOver K n basis × IsGeneratedBasis K n generators seed basis
  generated_basis_list seed over = from (generated_rows seed over)
    where
      reduce : (rows : List (List ℕ)) → IsMatrixOver K n rows → Generates K n generators seed rows →
          (basis : List (List ℕ)) × IsMatrixOver K n basis × IsReducedBasis K rows basis →
          (basis : List (List ℕ)) × IsMatrixOver K n basis × IsGeneratedBasis K n generators seed basis
      reduce rows over_rows spans (basis, over_basis, reduced) = (basis, over_basis, generated_basis K n generators seed rows basis over_rows spans reduced)

      from : (rows : List (List ℕ)) × IsMatrixOver K n rows × Generates K n generators seed rows →
          (basis : List (List ℕ)) × IsMatrixOver K n basis × IsGeneratedBasis K n generators seed basis
      from (rows, over_rows, spans) = reduce rows over_rows spans (reduced_basis_list K n rows over_rows)
