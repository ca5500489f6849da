-- Modules that are made of matrices: the constituents, and the conjugates of a module.
use Rattle.std.proofs.Common.{◌≡◌, ℕ, ◌<◌, ◌≤◌, List, [], length, get_or, All, refl, sym, ap, subst, ◌∙◌, arith}
use Rattle.std.proofs.lemmas.List.{length-map, get_or-map}
use Rattle.std.proofs.lemmas.List.Elements.{All-map, All-get_or}
use Rattle.axe_algebra.specs.Lists.{listed, IsSquareOver}
use Rattle.axe_algebra.proofs.ListEntries.{listed_length, listed_at}
use Rattle.axe_algebra.specs.ListArithmetic.{IsConjugate}
use Rattle.axe_field.specs.Order.{Order}
use Rattle.axe_field.specs.NumberFields.{number_field}
use Rattle.axe_matrix.specs.Limits.{most_columns}
use Rattle.axe_matrix.specs.Matrices.{MatrixValue, IsMatrix, matrix_product}
use Rattle.axe_matrix.proofs.ProductLaws.{IsMatrix-product}
use Rattle.axe_reduction.specs.Solutions.{IsInverseMatrix}
use Rattle.axe_echelon.proofs.SomeMatrix.{matrix_of_rows_over}
use Rattle.axe_spin.specs.Generators.{IsGeneratorMatrix}
use Rattle.axe_spin.specs.Limits.{most_generators}
use Rattle.axe_spin.specs.Modules.{ModuleValue, IsModule, generator_of, rows_of_each}
use Rattle.axe_action.specs.Actions.{IsConjugateModule}
use Rattle.axe_action.proofs.ConjugateLaws.{IsBasisFor, conjugate_of_generator, conjugate_is_generator}
use Rattle.axe_norton.proofs.TruthLaws.{rows_over_field}
use Rattle.axe_check.specs.Certificates.{HasShape, IsSquareOfSize, IsBasisOf, module_with}

-- some generators over one field and of one dimension make a module
made_is_module : (o : Order) (dim : ℕ) (matrices : List MatrixValue) → 1 ≤ dim → dim ≤ most_columns → 1 ≤ length matrices → length matrices ≤ most_generators →
    All (IsGeneratorMatrix o dim) matrices → IsModule (record { order = o; dim = dim; generators = rows_of_each matrices })
made_is_module o dim matrices some fits one few each = record {
  over = record {
    positive = omega (arith, some);
    square = All-map (IsSquareOver (number_field o) dim) (λ (x : MatrixValue). x.rows) matrices (λ i d inside.
        let is : IsGeneratorMatrix o dim (get_or matrices i d) = each i d inside in
        record { length_is = is.rows; matrix = rows_over_field o dim (get_or matrices i d) is.field is.columns is.well_formed });
  };
  dim_fits = fits;
  some_generator = omega (arith, one, length-map matrices (λ (x : MatrixValue). x.rows));
  generators_fit = omega (arith, few, length-map matrices (λ (x : MatrixValue). x.rows));
}

-- matrices of a shape make one
pub shaped_is_module : (m : ModuleValue) (dim : ℕ) (matrices : List MatrixValue) → IsModule m → 1 ≤ dim → dim ≤ most_columns → All IsMatrix matrices → HasShape m dim matrices →
    IsModule (module_with m.order dim matrices)
shaped_is_module m dim matrices is some fits formed shape =
    made_is_module m.order dim matrices some fits (omega (arith, shape.count, is.some_generator)) (omega (arith, shape.count, is.generators_fit)) (λ i d inside.
    let square : IsSquareOfSize m.order dim (get_or matrices i d) = shape.squares i d inside in
    record { field = square.field; columns = square.columns; rows = square.rows; well_formed = formed i d inside })

-- ---- conjugates

module _ (m : ModuleValue) (p q : MatrixValue) (is : IsModule m) (formed : IsMatrix p) (basis : IsBasisOf m p) (inverse : IsInverseMatrix p q) where
  fits : IsBasisFor m p
  fits = record { field = basis.field; rows = basis.rows; columns = basis.columns }

  generator_formed : (i : ℕ) → i < length m.generators → IsMatrix (generator_of m i)
  generator_formed i below =
      let square : IsSquareOver (number_field m.order) m.dim (get_or m.generators i []) = All-get_or (IsSquareOver (number_field m.order) m.dim) m.generators i [] below is.over.square in
      matrix_of_rows_over m.order m.dim (get_or m.generators i []) (omega (arith, is.over.positive)) is.dim_fits (omega (arith, square.length_is, is.dim_fits)) square.matrix

  inverse_formed : IsMatrix q
  inverse_formed =
      let made : IsMatrix (record { order = p.order; cols = p.cols; rows = q.rows }) =
      matrix_of_rows_over p.order p.cols q.rows formed.some_column formed.columns_fit (omega (arith, inverse.square.length_is, formed.columns_fit)) inverse.square.matrix in
      subst IsMatrix (λ i. record { order = (sym inverse.field) i; cols = (sym inverse.columns) i; rows = q.rows }) made

  abbrev conjugate_at : ℕ → MatrixValue
  conjugate_at i = matrix_product (matrix_product p (generator_of m i)) q

  conjugate_formed : (i : ℕ) → i < length m.generators → IsMatrix (conjugate_at i)
  conjugate_formed i below =
      IsMatrix-product (matrix_product p (generator_of m i)) q (IsMatrix-product p (generator_of m i) formed (generator_formed i below) basis.field) inverse_formed (sym inverse.field)

  abbrev conjugate_list : List MatrixValue
  conjugate_list = listed (length m.generators) conjugate_at

  abbrev conjugates : ModuleValue
  conjugates = record { order = m.order; dim = m.dim; generators = rows_of_each conjugate_list }

  count : length conjugate_list ≡ length m.generators
  count = listed_length (length m.generators) conjugate_at

  are_generators : All (IsGeneratorMatrix m.order m.dim) conjugate_list
  are_generators i d inside =
      let below : i < length m.generators = omega (arith, inside, count) in
      subst (IsGeneratorMatrix m.order m.dim) (sym (listed_at (length m.generators) conjugate_at i d below))
      (conjugate_is_generator m p q fits inverse i (conjugate_at i) refl (conjugate_formed i below))

  conjugates_are : IsModule conjugates
  conjugates_are = made_is_module m.order m.dim conjugate_list (omega (arith, is.over.positive)) is.dim_fits (omega (arith, count, is.some_generator))
      (omega (arith, count, is.generators_fit)) are_generators

  is_conjugate : IsConjugateModule m p conjugates
  is_conjugate = record {
    field = refl;
    dimension = refl;
    count = length-map conjugate_list (λ (x : MatrixValue). x.rows) ∙ count;
    each = λ i below.
        subst (IsConjugate (number_field m.order) m.dim p.rows (get_or m.generators i []))
        (sym (get_or-map (λ (x : MatrixValue). x.rows) conjugate_list i (conjugate_at i) [] (omega (arith, below, count))
        ∙ ap (λ (x : MatrixValue). x.rows) (listed_at (length m.generators) conjugate_at i (conjugate_at i) below)))
        (conjugate_of_generator m p q fits inverse i (conjugate_at i) refl);
  }

-- a module has conjugates by each basis
pub some_conjugates : (m : ModuleValue) (p : MatrixValue) → IsModule m → IsMatrix p → IsBasisOf m p → (made : ModuleValue) × IsConjugateModule m p made × IsModule made
some_conjugates m p is formed basis =
    let (q, inverse) = basis.invertible in
    (conjugates m p q is formed basis inverse, is_conjugate m p q is formed basis inverse, conjugates_are m p q is formed basis inverse)
