-- Standard bases of images under isomorphisms and of nonzero multiples, as lists.
use Rattle.std.specs.Prelude.{◌≡◌, ◌≢◌, ℕ, ◌<◌, List, length, get_or}
use Rattle.std.specs.List.{All}
use Rattle.axe_algebra.specs.NumberField.{NumberField}
use Rattle.axe_algebra.specs.Field.{Field}
use Rattle.axe_algebra.specs.Vectors.{Vector, Matrix, HasLength, scale, times, multiply}
use Rattle.axe_algebra.specs.Modules.{Module, HasSquareMatrices}
use Rattle.axe_algebra.specs.Actions.{IsSubAction}
use Rattle.axe_algebra.specs.Standard.{IsStandardBasis}
use Rattle.axe_algebra.specs.Bridge.{field_of, element, vector_of, matrix_of, module_of}
use Rattle.axe_algebra.specs.ModulesOfLists as lists
use Rattle.axe_algebra.specs.Lists.{IsVectorOver, IsMatrixOver, IsSquareOver}
use Rattle.axe_algebra.specs.ListArithmetic.{combination, product}
use Rattle.axe_algebra.specs.ModulesOfLists.{IsIsomorphism}
use Rattle.axe_algebra.proofs.FieldLaws.{mul-zero, one-mul, inv-mul, inv_nonzero}
use Rattle.axe_algebra.proofs.SubActions.{sub_action_of_same_rows}
use Rattle.axe_algebra.proofs.StandardBases.{standard_basis_size_is_unique, standard_basis_is_unique}
use Rattle.axe_algebra.proofs.StandardImages.{carried_standard_basis, carried_sub_action, multiple_carries, isomorphism_carries_standard_basis}
use Rattle.axe_algebra.proofs.ElementNumbers.{element_zero, same_number, zero-below, entry-below}
use Rattle.axe_algebra.proofs.ListEntries.{vector_length, listed_over}
use Rattle.axe_algebra.proofs.ListProducts.{vector_of_combination, product_length}
use Rattle.axe_algebra.proofs.ListLaws.{matrix_of_product_of}
use Rattle.axe_algebra.proofs.ListModules.{module_shape}
use Rattle.axe_algebra.proofs.ListVectors.{vector_of_scaled}
use Rattle.axe_field.specs.NumberFields.{number_field}
use Rattle.axe_row.specs.Rows.{RowValue}
use Rattle.axe_row.specs.Operations.{multiple}
use Rattle.axe_row.proofs.OperationLaws.{get_or-multiple}
use Rattle.axe_echelon.proofs.StepLaws.{over_of_row, below_of_element}
use Rattle.axe_echelon.proofs.InverseLaws.{matrix_over}
use Rattle.axe_spin.specs.Modules.{ModuleValue}
use Rattle.axe_spin.specs.SpinLaws.{IsVectorOf, IsomorphismCarriesStandardBasis, MultipleHasTheSameStandardMatrices}
use mathlib.Core.Path.{sym, ◌∙◌, ap, subst, fun_ext}
use native.Mathlib.Omega.{arith}

module _ (F : Field) where
  -- the sub action on the standard basis of v is that on the standard basis of a nonzero multiple
  pub action_of_multiple : (M : Module F) (c : F.Element) (v w : Vector F) → c ≢ F.zero → HasSquareMatrices F M → HasLength F M.dimension v → w ≡ scale F c v →
      (k l : ℕ) (b d : Matrix F) (A : ℕ → Module F) → IsStandardBasis F M v k b → IsStandardBasis F M w l d → IsSubAction F M k b (A k) →
      IsSubAction F M l d (A l)
  action_of_multiple M c v w nonzero is length w_is k l b d A own other acts =
      subst (λ j. IsSubAction F M j d (A j)) (standard_basis_size_is_unique F M (scale F c v) k l carried d own_carried other_too)
      (sub_action_of_same_rows F M k carried d (A k) (standard_basis_is_unique F M (scale F c v) k l carried d own_carried other_too)
      (carried_sub_action F M M (scale F c) (multiple_carries F M c nonzero) k b (A k) acts))
    where
      carried : Matrix F
      carried = λ t. scale F c (b t)

      own_carried : IsStandardBasis F M (scale F c v) k carried
      own_carried = carried_standard_basis F M M (scale F c) (multiple_carries F M c nonzero) is v length k b own

      other_too : IsStandardBasis F M (scale F c v) l d
      other_too = subst (λ x. IsStandardBasis F M x l d) w_is other

  -- a vector is a multiple of its nonzero multiples
  pub back_from_multiple : (c : F.Element) (v w : Vector F) → c ≢ F.zero → w ≡ scale F c v → v ≡ scale F (F.inv c) w
  back_from_multiple c v w nonzero w_is =
      fun_ext λ j. sym (ap (λ (x : Vector F). F.mul (F.inv c) (x j)) w_is ∙ sym (F.mul_assoc (F.inv c) c (v j))
      ∙ ap (λ x. F.mul x (v j)) (inv-mul F c nonzero) ∙ one-mul F (v j))

  pub multiple_length : (n : ℕ) (c : F.Element) (v w : Vector F) → HasLength F n v → w ≡ scale F c v → HasLength F n w
  multiple_length n c v w length w_is = subst (HasLength F n) (sym w_is) (λ j past. ap (F.mul c) (length j past) ∙ mul-zero F c)

module _ (K : NumberField) where
  abbrev F : Field
  F = field_of K

  -- the standard basis of a vector times an isomorphism is that of the vector times it
  pub carried_list : (n : ℕ) (generators others : List (List (List ℕ))) (t basis : List (List ℕ)) (v : List ℕ) → All (IsSquareOver K n) generators →
      IsMatrixOver K n basis → IsVectorOver K n v → IsIsomorphism K n generators others t →
      lists.IsStandardBasis K n generators v basis → lists.IsStandardBasis K n others (combination K n v t) (product K n basis t)
  carried_list n generators others t basis v square over over_v iso standard =
      subst (λ (b : Matrix F). IsStandardBasis F N (vector_of K (combination K n v t)) (length (product K n basis t)) b)
      (sym (matrix_of_product_of K n n basis t iso.square.length_is over iso.square.matrix))
      (subst (λ k. IsStandardBasis F N (vector_of K (combination K n v t)) k image_rows) (sym (product_length K n basis t))
      (subst (λ (x : Vector F). IsStandardBasis F N x (length basis) image_rows) (sym vector)
      (isomorphism_carries_standard_basis F (module_of K n generators) N (matrix_of K t) (module_shape K n generators square) iso.isomorphism (vector_of K v)
      (vector_length K n v over_v.length_is) (length basis) (matrix_of K basis) standard)))
    where
      N : Module F
      N = module_of K n others

      image_rows : Matrix F
      image_rows = multiply F n (matrix_of K basis) (matrix_of K t)

      vector : vector_of K (combination K n v t) ≡ times F n (vector_of K v) (matrix_of K t)
      vector =
          vector_of_combination K n v t (subst (λ k. IsVectorOver K k v) (sym iso.square.length_is) over_v) iso.square.matrix
          ∙ ap (λ k. times F k (vector_of K v) (matrix_of K t)) iso.square.length_is

  -- a multiple of a vector
  multiple_over : (n c : ℕ) (v : List ℕ) → IsVectorOver K n v → c < K.order → IsVectorOver K n (multiple K c v)
  unfolding multiple
  multiple_over n c v over below =
      subst (λ k. IsVectorOver K k (multiple K c v)) over.length_is
      (listed_over K (length v) (λ j. K.mul c (get_or v j 0)) (λ j inside. K.mul-below c (get_or v j 0) below (entry-below K v j over.elements)))

  vector_of_multiple : (n c : ℕ) (v : List ℕ) → IsVectorOver K n v → c < K.order →
      vector_of K (multiple K c v) ≡ scale F (element K c) (vector_of K v)
  vector_of_multiple n c v over below =
      vector_of_scaled K n c v (multiple K c v) over (multiple_over n c v over below) below
      (λ j inside. get_or-multiple K c v j (omega (arith, over.length_is)))

-- a vector of a module, as a list
vector_over : (m : ModuleValue) (v : RowValue) → IsVectorOf m v → IsVectorOver (number_field m.order) m.dim v.entries
vector_over m v is = over_of_row m.order m.dim v is.field is.well_formed is.fits

pub isomorphism_carries_matrix : IsomorphismCarriesStandardBasis
isomorphism_carries_matrix m n t v basis is_m iso of well_formed standard =
    let K : NumberField = number_field m.order in
    let over : IsMatrixOver K m.dim basis.rows =
    subst (λ k. IsMatrixOver K k basis.rows) standard.columns
    (subst (λ o. IsMatrixOver (number_field o) basis.cols basis.rows) standard.field (matrix_over basis well_formed)) in
    let carried = carried_list K m.dim m.generators n.generators t.rows basis.rows v.entries is_m.over.square over (vector_over m v of)
    iso.isomorphism standard.standard in
    record {
      field = standard.field ∙ sym iso.one_field;
      columns = iso.columns ∙ sym iso.one_dimension;
      standard = rw (iso.one_field, iso.one_dimension, iso.field, iso.columns, standard.field) carried;
    }

pub multiple_has_same_matrices : MultipleHasTheSameStandardMatrices
multiple_has_same_matrices m c v basis other matrices is_m element_c nonzero of own others = (
  action_of_multiple F M scalar x w scalar_nonzero shape length_x w_is (length basis.rows) (length other.rows) (matrix_of K basis.rows) (matrix_of K other.rows) A
      own.standard others_standard,
  action_of_multiple F M (F.inv scalar) w x (inv_nonzero F scalar scalar_nonzero) shape (multiple_length F m.dim scalar x w length_x w_is)
      (back_from_multiple F scalar x w scalar_nonzero w_is)
      (length other.rows) (length basis.rows) (matrix_of K other.rows) (matrix_of K basis.rows) A others_standard own.standard,
)
  where
    K : NumberField
    K = number_field m.order

    F : Field
    F = field_of K

    M : Module F
    M = module_of K m.dim m.generators

    A : ℕ → Module F
    A = λ k. module_of K k matrices

    scalar : F.Element
    scalar = element K c

    below : c < K.order
    below = below_of_element m.order c element_c

    scalar_nonzero : scalar ≢ F.zero
    scalar_nonzero e = nonzero (same_number K c 0 below (zero-below K) (e ∙ sym (element_zero K)))

    multiplied : List ℕ
    multiplied = multiple (number_field v.order) c v.entries

    x : Vector F
    x = vector_of K v.entries

    w : Vector F
    w = vector_of K multiplied

    shape : HasSquareMatrices F M
    shape = module_shape K m.dim m.generators is_m.over.square

    over_v : IsVectorOver K m.dim v.entries
    over_v = vector_over m v of

    length_x : HasLength F m.dim x
    length_x = vector_length K m.dim v.entries over_v.length_is

    w_is : w ≡ scale F scalar x
    w_is = subst (λ o. vector_of K (multiple (number_field o) c v.entries) ≡ scale F scalar x) (sym of.field)
        (vector_of_multiple K m.dim c v.entries over_v below)

    others_standard : IsStandardBasis F M w (length other.rows) (matrix_of K other.rows)
    others_standard = others.standard
