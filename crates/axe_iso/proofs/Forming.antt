-- The form of a module from a vector keeps what a form has to.
use Rattle.std.proofs.Common.{◌≡◌, ℕ, ◌≤◌, length, All, Option, refl, sym, ap, subst, ◌∙◌}
use Rattle.axe_algebra.specs.NumberField.{NumberField}
use Rattle.axe_algebra.specs.Field.{Field}
use Rattle.axe_algebra.specs.Vectors.{Matrix, HasLength, HasShape, unit_vector}
use Rattle.axe_algebra.specs.Spans.{IsNullVector, IsInvertible}
use Rattle.axe_algebra.specs.Modules.{Module}
use Rattle.axe_algebra.specs.Modules
use Rattle.axe_algebra.specs.Actions
use Rattle.axe_algebra.specs.Standard
use Rattle.axe_algebra.specs.Standard.{AreStandardMatrices}
use Rattle.axe_algebra.specs.Irreducible.{IsIsomorphism}
use Rattle.axe_algebra.specs.Words.{Word, IsWordOf, word_value}
use Rattle.axe_algebra.specs.Bridge.{vector_of, matrix_of, module_of}
use Rattle.axe_algebra.specs.Lists.{IsMatrixOver, IsSquareOver}
use Rattle.axe_algebra.specs.ModulesOfLists.{GeneratesEverything, AreIsomorphic}
use Rattle.axe_algebra.proofs.ListEntries.{vector_length, square_shape}
use Rattle.axe_algebra.proofs.ListModules.{module_shape}
use Rattle.axe_algebra.proofs.Isomorphisms.{standard_basis_is_square, standard_basis_is_isomorphism}
use Rattle.axe_algebra.proofs.Matching.{standard_matrices_of_unit, unit_is_null_vector}
use Rattle.axe_algebra.proofs.FormMatches.{standard_matrices_keep_null_space}
use Rattle.axe_echelon.proofs.InverseLaws.{matrix_over}
use Rattle.axe_field.specs.NumberFields.{number_field, gf}
use Rattle.axe_row.specs.Rows.{RowValue}
use Rattle.axe_matrix.specs.Matrices.{MatrixValue}
use Rattle.axe_matrix.specs.Matrices
use Rattle.axe_poly.specs.Polys.{PolyValue}
use Rattle.axe_spin.specs.Modules.{ModuleValue}
use Rattle.axe_spin.specs.Modules as Values
use Rattle.axe_spin.specs.Spinning.{IsStandardMatrix}
use Rattle.axe_spin.specs.SpinLaws.{IsVectorOf}
use Rattle.axe_action.specs.Actions.{IsBasisAction}
use Rattle.axe_iso.specs.Forms.{FormValue, HasNullity, HasSmallNullSpaceOf, IsNullVectorOf, IsFormOver, IsForm, IsFormFrom, deciding_matrix}
use Rattle.axe_iso.proofs.DecidingWords.{deciding_word, is_deciding_word, deciding_value}
use Rattle.axe_iso.proofs.SmallSpaces.{small_dimension, small_nullity, small_elsewhere}

module _ (m : ModuleValue) (v : RowValue) (basis : MatrixValue) (is_module : Values.IsModule m) (of : IsVectorOf m v)
    (standard : IsStandardMatrix m v basis) (well : Matrices.IsMatrix basis)
    (generates : GeneratesEverything (number_field m.order) m.dim m.generators v.entries) where
  abbrev K : NumberField
  K = number_field m.order

  abbrev F : Field
  F = gf m.order

  abbrev M : Module F
  M = module_of K m.dim m.generators

  M_is_module : Modules.HasSquareMatrices F M
  M_is_module = module_shape K m.dim m.generators is_module.over.square

  long : HasLength F m.dim (vector_of K v.entries)
  long = vector_length K m.dim v.entries of.fits

  pub basis_is_square : length basis.rows ≡ m.dim
  basis_is_square = standard_basis_is_square F M (vector_of K v.entries) M_is_module long generates (length basis.rows) (matrix_of K basis.rows) standard.standard

  square : IsSquareOver K m.dim basis.rows
  square = record {
    length_is = basis_is_square;
    matrix = subst (λ o. IsMatrixOver (number_field o) m.dim basis.rows) standard.field
        (subst (λ n. IsMatrixOver (number_field basis.order) n basis.rows) standard.columns (matrix_over basis well));
  }

  whole : Standard.IsStandardBasis F M (vector_of K v.entries) m.dim (matrix_of K basis.rows)
  whole = subst (λ k. Standard.IsStandardBasis F M (vector_of K v.entries) k (matrix_of K basis.rows)) basis_is_square standard.standard

  module _ (action : ModuleValue) (acts : IsBasisAction m basis action) where
    abbrev A : Module F
    A = module_of K action.dim action.generators

    acts_on : Actions.IsSubAction F M m.dim (matrix_of K basis.rows) A
    acts_on =
        subst (λ k. Actions.IsSubAction F M m.dim (matrix_of K basis.rows) (module_of K k action.generators)) (sym (acts.dimension ∙ basis_is_square))
        (subst (λ k. Actions.IsSubAction F M k (matrix_of K basis.rows) (module_of K k action.generators)) basis_is_square acts.acts)

    shape : HasShape F m.dim m.dim (matrix_of K basis.rows)
    shape = square_shape K m.dim basis.rows square

    iso : IsIsomorphism F A M (matrix_of K basis.rows)
    iso = standard_basis_is_isomorphism F M (vector_of K v.entries) M_is_module long (matrix_of K basis.rows) A shape whole acts_on

    pub basis_is_invertible : IsInvertible F m.dim (matrix_of K basis.rows)
    basis_is_invertible = subst (λ k. IsInvertible F k (matrix_of K basis.rows)) (acts.dimension ∙ basis_is_square) iso.invertible

    pub action_is_isomorphic : AreIsomorphic K action.dim action.generators m.dim m.generators
    action_is_isomorphic = record { matrix = matrix_of K basis.rows; isomorphism = iso }

    -- the form that is made of them is the form of the module from v
    pub form_made : (seed number : ℕ) (poly copy : Option PolyValue) → copy ≡ poly → Values.IsModule action →
        IsFormFrom m seed number poly v (record { matrices = action; basis = basis; word = number; poly = copy; seed = seed })
    form_made seed number poly copy same is_action = record {
      standard = standard;
      well_formed = well;
      square = basis_is_square;
      invertible = basis_is_invertible;
      acts = acts;
      matrices_well_formed = is_action;
      word_is = refl;
      poly_is = same;
      seed_is = refl;
    }

    -- the deciding matrices of the module and of the action are values of one word
    module _ (seed number : ℕ) (poly : Option PolyValue) where
      word : Word F
      word = deciding_word m.order (length m.generators) seed number poly

      of_word : IsWordOf F M word
      unfolding word
      of_word = is_deciding_word m.order m.dim m.generators is_module.some_generator seed number poly

      value_in_M : word_value F M word ≡ deciding_matrix m.order m.dim m.generators seed number poly
      unfolding word
      value_in_M = deciding_value m.order m.dim m.generators is_module.some_generator seed number is_module.over.square poly

      value_in_A : All (IsSquareOver K action.dim) action.generators →
          word_value F A word ≡ deciding_matrix m.order action.dim action.generators seed number poly
      unfolding word
      value_in_A squares =
          ap (λ k. word_value F A (deciding_word m.order k seed number poly)) (sym acts.acts.count)
          ∙ deciding_value m.order action.dim action.generators (subst (λ k. 1 ≤ k) (sym acts.acts.count) is_module.some_generator) seed number squares poly

      module _ (squares : All (IsSquareOver K action.dim) action.generators) (null : IsNullVectorOf m seed number poly v.entries)
          (small : HasSmallNullSpaceOf m seed number poly) where
        null_over : IsNullVector F action.dim (deciding_matrix m.order action.dim action.generators seed number poly) (unit_vector F 0)
        null_over =
            subst (λ (x : Matrix F). IsNullVector F action.dim x (unit_vector F 0)) (value_in_A squares)
            (unit_is_null_vector F M (vector_of K v.entries) M_is_module long (matrix_of K basis.rows) A shape whole acts_on word of_word
            (subst (λ (x : Matrix F). IsNullVector F m.dim x (vector_of K v.entries)) (sym value_in_M) null))

        -- the null spaces have one dimension
        abbrev dimension : ℕ
        dimension = small_dimension m.order seed number m.dim m.generators poly small

        nullity : HasNullity m.order m.dim (word_value F M word) dimension
        nullity =
            subst (λ (x : Matrix F). HasNullity m.order m.dim x dimension) (sym value_in_M)
            (small_nullity m.order seed number m.dim m.generators poly small)

        nullity_over : HasNullity m.order action.dim (deciding_matrix m.order action.dim action.generators seed number poly) dimension
        nullity_over =
            let (e, e_spans, e_independent) = standard_matrices_keep_null_space F M A (vector_of K v.entries) (matrix_of K basis.rows) M_is_module long shape
            whole acts_on word of_word dimension nullity.basis nullity.spans nullity.independent in
            subst (λ (x : Matrix F). HasNullity m.order action.dim x dimension) (value_in_A squares)
            (record { basis = e; spans = e_spans; independent = e_independent })

        form_over : IsFormOver m.order action.dim action.generators seed number poly
        form_over = record {
          standard = standard_matrices_of_unit F M (vector_of K v.entries) M_is_module long (matrix_of K basis.rows) A shape whole acts_on;
          null = null_over;
          small = small_elsewhere m.order seed number m.dim m.generators poly small action.dim action.generators nullity_over;
        }

      form_over_action : Values.HasSquareGenerators action → IsNullVectorOf m seed number poly v.entries → HasSmallNullSpaceOf m seed number poly →
          IsFormOver action.order action.dim action.generators seed number poly
      form_over_action squares null small =
          subst (λ o. IsFormOver o action.dim action.generators seed number poly) (sym acts.field)
          (form_over (subst (λ o. All (IsSquareOver (number_field o) action.dim) action.generators) acts.field squares) null small)

-- what a form's type keeps holds of the form of a module from a vector
pub form_is_kept : (m : ModuleValue) (seed number : ℕ) (poly : Option PolyValue) (v : RowValue) (form : FormValue) → Values.IsModule m → IsVectorOf m v →
    GeneratesEverything (number_field m.order) m.dim m.generators v.entries → IsNullVectorOf m seed number poly v.entries →
    HasSmallNullSpaceOf m seed number poly → IsFormFrom m seed number poly v form → IsForm form
form_is_kept m seed number poly v form is_module of_module generates null small from = record {
  well_formed = from.matrices_well_formed;
  over =
      subst (λ k. IsFormOver form.matrices.order form.matrices.dim form.matrices.generators k form.word form.poly) (sym from.seed_is)
      (subst (λ k. IsFormOver form.matrices.order form.matrices.dim form.matrices.generators seed k form.poly) (sym from.word_is)
      (subst (λ p. IsFormOver form.matrices.order form.matrices.dim form.matrices.generators seed number p) (sym from.poly_is)
      (form_over_action m v form.basis is_module of_module from.standard from.well_formed generates form.matrices from.acts seed number poly
      from.matrices_well_formed.over.square null small)));
}
