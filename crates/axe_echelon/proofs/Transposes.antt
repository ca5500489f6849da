-- The space of the vectors that are orthogonal to rows is the null space of their transpose.
use Rattle.std.specs.Prelude.{◌≡◌, ℕ, ◌<◌, List, length}
use Rattle.axe_algebra.specs.NumberField.{NumberField}
use Rattle.axe_algebra.specs.Field.{Field}
use Rattle.axe_algebra.specs.Vectors.{Vector, Matrix, zero_vector, transposed, times, dot}
use Rattle.axe_algebra.specs.Spans
use Rattle.axe_algebra.specs.Irreducible
use Rattle.axe_algebra.specs.Reduced
use Rattle.axe_algebra.specs.Bridge.{field_of, matrix_of}
use Rattle.axe_algebra.specs.Lists.{IsMatrixOver}
use Rattle.axe_algebra.specs.ListArithmetic.{transpose}
use Rattle.axe_algebra.specs.SpansOfLists.{HaveSameSpan, IsAnnihilatorBasis, IsNullSpaceBasis}
use Rattle.axe_algebra.proofs.Annihilators.{dot-zero, annihilator_within}
use Rattle.axe_algebra.proofs.ListEntries
use Rattle.axe_algebra.proofs.ListEntries.{row_past}
use Rattle.axe_algebra.proofs.ListIrreducible.{transpose_length}
use Rattle.axe_algebra.proofs.ListProducts.{matrix_of_transpose, transpose_over}
use Rattle.axe_algebra.proofs.ProductLaws.{times-at, dot-at, dot_comm}
use Rattle.axe_field.specs.Order.{Order}
use Rattle.axe_field.specs.NumberFields.{number_field, gf}
use Rattle.axe_matrix.specs.Matrices.{MatrixValue, IsMatrix, transposed_matrix}
use Rattle.axe_matrix.proofs.MatrixLaws.{same_matrix}
use Rattle.axe_echelon.specs.Echelons.{EchelonValue, IsRowSpace, IsNullSpaceMatrix}
use Rattle.axe_echelon.specs.Mirrored.{mirrored, IsMirrored, IsOrthogonalMirrored}
use Rattle.axe_echelon.specs.Orthogonal.{IsOrthogonalToSpace}
use Rattle.axe_echelon.proofs.InverseLaws.{matrix_over}
use Rattle.axe_echelon.proofs.MirroredLaws.{orthogonal_of_mirrored, mirrored_of_orthogonal}
use mathlib.Core.Path.{refl, sym, ◌∙◌, ap, subst, fun_ext}
use native.Mathlib.Omega.{arith}
use native.Mathlib.Decide.{dec_lt}

module _ (K : NumberField) where
  abbrev F : Field
  F = field_of K

  -- the vectors whose product with the transpose is zero are those orthogonal to each row
  product_with_transpose : (n : ℕ) (rows : List (List ℕ)) (x : Vector F) (t : ℕ) → IsMatrixOver K n rows →
      times F n x (matrix_of K (transpose n rows)) t ≡ dot F n (matrix_of K rows t) x
  product_with_transpose n rows x t over =
      ap (λ (a : Matrix F). times F n x a t) (matrix_of_transpose K n rows over)
      ∙ times-at F n x (transposed F (matrix_of K rows)) t ∙ sym (dot-at F n x (matrix_of K rows t)) ∙ dot_comm F n x (matrix_of K rows t)

  annihilated_of_null : (n : ℕ) (rows : List (List ℕ)) (x : Vector F) → IsMatrixOver K n rows →
      Spans.IsNullVector F n (matrix_of K (transpose n rows)) x → Irreducible.InAnnihilator F n (length rows) (matrix_of K rows) x
  annihilated_of_null n rows x over null = record {
    length = null.length;
    orthogonal = λ t below. sym (product_with_transpose n rows x t over) ∙ ap (λ (y : Vector F). y t) null.vanishes;
  }

  null_of_annihilated : (n : ℕ) (rows : List (List ℕ)) (x : Vector F) → IsMatrixOver K n rows →
      Irreducible.InAnnihilator F n (length rows) (matrix_of K rows) x → Spans.IsNullVector F n (matrix_of K (transpose n rows)) x
  null_of_annihilated n rows x over within = record {
    length = within.length;
    vanishes = fun_ext λ t. product_with_transpose n rows x t over ∙ at t (dec_lt t (length rows));
  }
    where
      at : (t : ℕ) → Dec (t < length rows) → dot F n (matrix_of K rows t) x ≡ F.zero
      at t (yes below) = within.orthogonal t below
      at t (no past) =
          ap (λ (y : Vector F). dot F n y x) (fun_ext λ j. row_past K rows t (omega arith) j)
          ∙ dot_comm F n (zero_vector F) x ∙ dot-zero F n x

  -- so their reduced basis is that of the null space of the transpose
  null_space_by_annihilator : (n : ℕ) (rows basis : List (List ℕ)) → IsMatrixOver K n rows → IsAnnihilatorBasis K n rows basis →
      IsNullSpaceBasis K (transpose n rows) basis
  null_space_by_annihilator n rows basis over orthogonal = subst (λ k. Reduced.IsReducedBasisOf F (Spans.IsNullVector F k (matrix_of K (transpose n rows))) (length basis) (matrix_of K basis)) (sym (transpose_length n rows)) (record {
    forth = λ x in_span. null_of_annihilated n rows x over (orthogonal.forth x in_span);
    back = λ x null. orthogonal.back x (annihilated_of_null n rows x over null);
    reduced = orthogonal.reduced;
  })

  annihilator_by_null_space : (n : ℕ) (rows basis : List (List ℕ)) → IsMatrixOver K n rows → IsNullSpaceBasis K (transpose n rows) basis →
      IsAnnihilatorBasis K n rows basis
  annihilator_by_null_space n rows basis over null = record {
    forth = λ x in_span. annihilated_of_null n rows x over (by_columns.forth x in_span);
    back = λ x within. by_columns.back x (null_of_annihilated n rows x over within);
    reduced = null.reduced;
  }
    where
      by_columns : Reduced.IsReducedBasisOf F (Spans.IsNullVector F n (matrix_of K (transpose n rows))) (length basis) (matrix_of K basis)
      by_columns = subst (λ k. Reduced.IsReducedBasisOf F (Spans.IsNullVector F k (matrix_of K (transpose n rows))) (length basis) (matrix_of K basis))
          (transpose_length n rows) null

-- rows, and others that have the span of the rows read from the last entry to the first
module _ (o : Order) (n : ℕ) (rows turned others : List (List ℕ))
    (is : matrix_of (number_field o) turned ≡ (λ t. mirrored (gf o) n (matrix_of (number_field o) rows t))) (count : length turned ≡ length rows)
    (same : HaveSameSpan (number_field o) turned others) where
  -- the vectors that are orthogonal to those when they are read so are orthogonal to the rows
  orthogonal_to_own : (x : Vector (gf o)) → IsOrthogonalMirrored (gf o) n (length others) (matrix_of (number_field o) others) x →
      Irreducible.InAnnihilator (gf o) n (length rows) (matrix_of (number_field o) rows) x
  orthogonal_to_own x given = orthogonal_of_mirrored (gf o) n (length rows) (matrix_of (number_field o) rows) x (record {
    length = given.length;
    orthogonal = subst (λ (a : Matrix (gf o)). Irreducible.InAnnihilator (gf o) n (length rows) a (mirrored (gf o) n x)) is
        (subst (λ k. Irreducible.InAnnihilator (gf o) n k (matrix_of (number_field o) turned) (mirrored (gf o) n x)) count
        (annihilator_within (gf o) n (length turned) (matrix_of (number_field o) turned) (length others) (matrix_of (number_field o) others) same.forth
        (mirrored (gf o) n x) given.orthogonal));
  })

  -- and the other way round
  orthogonal_to_others : (x : Vector (gf o)) → Irreducible.InAnnihilator (gf o) n (length rows) (matrix_of (number_field o) rows) x →
      IsOrthogonalMirrored (gf o) n (length others) (matrix_of (number_field o) others) x
  orthogonal_to_others x within = record {
    length = within.length;
    orthogonal = annihilator_within (gf o) n (length others) (matrix_of (number_field o) others) (length turned) (matrix_of (number_field o) turned) same.back
        (mirrored (gf o) n x)
        (subst (λ k. Irreducible.InAnnihilator (gf o) n k (matrix_of (number_field o) turned) (mirrored (gf o) n x)) (sym count)
        (subst (λ (a : Matrix (gf o)). Irreducible.InAnnihilator (gf o) n (length rows) a (mirrored (gf o) n x)) (sym is)
        (mirrored_of_orthogonal (gf o) n (length rows) (matrix_of (number_field o) rows) x within).orthogonal));
  }

  -- so they have one reduced basis
  annihilator_by_mirrored : (basis : List (List ℕ)) →
      Reduced.IsReducedBasisOf (gf o) (IsOrthogonalMirrored (gf o) n (length others) (matrix_of (number_field o) others)) (length basis)
      (matrix_of (number_field o) basis) → IsAnnihilatorBasis (number_field o) n rows basis
  annihilator_by_mirrored basis orthogonal = record {
    forth = λ x in_span. orthogonal_to_own x (orthogonal.forth x in_span);
    back = λ x within. orthogonal.back x (orthogonal_to_others x within);
    reduced = orthogonal.reduced;
  }

  mirrored_by_annihilator : (basis : List (List ℕ)) → IsAnnihilatorBasis (number_field o) n rows basis →
      Reduced.IsReducedBasisOf (gf o) (IsOrthogonalMirrored (gf o) n (length others) (matrix_of (number_field o) others)) (length basis)
      (matrix_of (number_field o) basis)
  mirrored_by_annihilator basis orthogonal = record {
    forth = λ x in_span. orthogonal_to_others x (orthogonal.forth x in_span);
    back = λ x given. orthogonal.back x (orthogonal_to_own x given);
    reduced = orthogonal.reduced;
  }

module _ (m turned basis : MatrixValue) (e : EchelonValue) (h : IsMatrixOver (number_field m.order) m.cols m.rows) (mirrored_rows : IsMirrored m turned)
    (space : IsRowSpace turned e) (orthogonal : IsOrthogonalToSpace e basis) where
  pub orthogonal_to_rows : IsAnnihilatorBasis (number_field m.order) m.cols m.rows basis.rows
  orthogonal_to_rows =
      annihilator_by_mirrored m.order m.cols m.rows turned.rows e.rows mirrored_rows.rows mirrored_rows.count
      (subst (λ o. HaveSameSpan (number_field o) turned.rows e.rows) mirrored_rows.field space.same) basis.rows
      (subst (λ o. Reduced.IsReducedBasisOf (gf o) (IsOrthogonalMirrored (gf o) m.cols (length e.rows) (matrix_of (number_field o) e.rows))
      (length basis.rows) (matrix_of (number_field o) basis.rows)) (space.field ∙ mirrored_rows.field)
      (subst (λ n. Reduced.IsReducedBasisOf (gf e.order) (IsOrthogonalMirrored (gf e.order) n (length e.rows) (matrix_of (number_field e.order) e.rows))
      (length basis.rows) (matrix_of (number_field e.order) basis.rows)) (space.columns ∙ mirrored_rows.columns) orthogonal.basis))

  pub null_space_of_transpose : IsNullSpaceMatrix (transposed_matrix m) basis
  null_space_of_transpose = record {
    field = orthogonal.field ∙ space.field ∙ mirrored_rows.field;
    columns = orthogonal.columns ∙ space.columns ∙ mirrored_rows.columns ∙ sym (transpose_length m.cols m.rows);
    basis_of_null_space = null_space_by_annihilator (number_field m.order) m.cols m.rows basis.rows h orthogonal_to_rows;
  }

-- the null space of the transpose is the space of these vectors
pub orthogonal_of_null_space : (m turned basis : MatrixValue) (e : EchelonValue) → IsMatrixOver (number_field m.order) m.cols m.rows → IsMirrored m turned →
    IsRowSpace turned e → IsNullSpaceMatrix (transposed_matrix m) basis → IsOrthogonalToSpace e basis
orthogonal_of_null_space m turned basis e h mirrored_rows space null = record {
  field = null.field ∙ sym (space.field ∙ mirrored_rows.field);
  columns = null.columns ∙ transpose_length m.cols m.rows ∙ sym (space.columns ∙ mirrored_rows.columns);
  basis = subst (λ o. Reduced.IsReducedBasisOf (gf o) (IsOrthogonalMirrored (gf o) e.cols (length e.rows) (matrix_of (number_field o) e.rows))
      (length basis.rows) (matrix_of (number_field o) basis.rows)) (sym (space.field ∙ mirrored_rows.field))
      (subst (λ n. Reduced.IsReducedBasisOf (gf m.order) (IsOrthogonalMirrored (gf m.order) n (length e.rows) (matrix_of (number_field m.order) e.rows))
      (length basis.rows) (matrix_of (number_field m.order) basis.rows)) (sym (space.columns ∙ mirrored_rows.columns))
      (mirrored_by_annihilator m.order m.cols m.rows turned.rows e.rows mirrored_rows.rows mirrored_rows.count
      (subst (λ o. HaveSameSpan (number_field o) turned.rows e.rows) mirrored_rows.field space.same) basis.rows
      (annihilator_by_null_space (number_field m.order) m.cols m.rows basis.rows h null.basis_of_null_space)));
}

-- the transpose of the transpose is the matrix
pub twice_transposed : (m : MatrixValue) → IsMatrix m → transposed_matrix (transposed_matrix m) ≡ m
twice_transposed m h = same_matrix (transposed_matrix (transposed_matrix m)) m refl (transpose_length m.cols m.rows)
    (ListEntries.same_matrix K m.cols (transpose (length m.rows) (transpose m.cols m.rows)) m.rows (transpose_length (length m.rows) (transpose m.cols m.rows))
    (subst (λ n. IsMatrixOver K n (transpose (length m.rows) (transpose m.cols m.rows))) (transpose_length m.cols m.rows)
    (transpose_over K (length m.rows) (transpose m.cols m.rows) over))
    (matrix_over m h)
    (matrix_of_transpose K (length m.rows) (transpose m.cols m.rows) over
    ∙ ap (transposed (gf m.order)) (matrix_of_transpose K m.cols m.rows (matrix_over m h))))
  where
    K : NumberField
    K = number_field m.order

    over : IsMatrixOver K (length m.rows) (transpose m.cols m.rows)
    over = transpose_over K m.cols m.rows (matrix_over m h)

-- the null space, by the columns
pub null_space_by_columns : (m turned basis : MatrixValue) (e : EchelonValue) → IsMatrix m → IsMirrored (transposed_matrix m) turned → IsRowSpace turned e →
    IsOrthogonalToSpace e basis → IsNullSpaceMatrix m basis
null_space_by_columns m turned basis e h mirrored_rows space orthogonal =
    subst (λ (x : MatrixValue). IsNullSpaceMatrix x basis) (twice_transposed m h)
    (null_space_of_transpose (transposed_matrix m) turned basis e (transpose_over (number_field m.order) m.cols m.rows (matrix_over m h)) mirrored_rows space orthogonal)
