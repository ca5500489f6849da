-- Rows on which a module acts, lifted from a sub action, a quotient action and an isomorphism, as lists.
use Rattle.std.specs.Prelude.{◌≡◌, ℕ, ◌<◌, ◌+◌, List, [], ◌++◌, map, length, get_or, Bool, true, false, cond, eqb}
use Rattle.std.proofs.lemmas.List.{length-append, length-map, get_or-map}
use Rattle.axe_algebra.specs.NumberField.{NumberField}
use Rattle.axe_algebra.specs.Field.{Field}
use Rattle.axe_algebra.specs.Vectors.{Matrix, times, multiply}
use Rattle.axe_algebra.specs.Spans.{InSpan}
use Rattle.axe_algebra.specs.Modules.{Module}
use Rattle.axe_algebra.specs.Bridge.{field_of, vector_of, matrix_of, module_of}
use Rattle.axe_algebra.specs.Lists.{unit_row, IsVectorOver, IsMatrixOver}
use Rattle.axe_algebra.specs.ListArithmetic.{product}
use Rattle.axe_algebra.specs.SpansOfLists.{IsIndependent, SpansEverything, IsExtendedBasis}
use Rattle.axe_algebra.specs.ModulesOfLists.{IsSubAction, IsQuotientAction}
use Rattle.axe_algebra.specs.Actions.{IsFree}
use Rattle.axe_algebra.proofs.ElementNumbers.{zero-below}
use Rattle.axe_algebra.proofs.ProductLaws.{times_unit}
use Rattle.axe_algebra.proofs.ReducedBases.{same_size, same_places}
use Rattle.axe_algebra.proofs.Spaces.{stacked}
use Rattle.axe_algebra.proofs.Sections.{ActsModulo, sub_section, quotient_section, lifted_spans}
use Rattle.axe_algebra.proofs.ListProducts.{product_length}
use Rattle.axe_algebra.proofs.ListLaws.{matrix_of_product_of, product_over_of}
use Rattle.axe_algebra.proofs.ListEntries.{listed_over}
use Rattle.axe_algebra.proofs.ListVectors.{vector_of_unit_row}
use Rattle.axe_algebra.proofs.ListExtended.{extended_length, extended_spans_everything, extended_is_square}
use Rattle.axe_series.proofs.AppendedRows.{IsWithin, over_appended, matrix_of_appended, product_of_appended}
use Rattle.axe_series.proofs.ActingRows.{ActsOn, acts_on_same_rows}
use mathlib.Core.Path.{sym, ◌∙◌, ap, subst}
use native.Mathlib.Omega.{arith}

module _ (K : NumberField) (n : ℕ) (generators : List (List (List ℕ))) (before rows : List (List ℕ)) (d : ℕ) (action : List (List (List ℕ)))
    (over : IsMatrixOver K n rows) (size : length rows ≡ d) where
  abbrev F : Field
  F = field_of K

  abbrev M : Module F
  M = module_of K n generators

  abbrev D : Module F
  D = module_of K d action

  abbrev l : Matrix F
  l = matrix_of K before

  abbrev r : Matrix F
  r = matrix_of K rows

  bit : (b : Bool) → cond b 1 0 < K.order
  bit true = K.one-below
  bit false = zero-below K

  unit_over : (i : ℕ) → IsVectorOver K d (unit_row d i)
  unit_over i = listed_over K d (λ j. cond (eqb i j) 1 0) (λ j below. bit (eqb i j))

  -- rows lifted: taken as combinations of the section's rows
  lifted : (u : List (List ℕ)) → IsMatrixOver K d u → matrix_of K (product K n u rows) ≡ multiply F d (matrix_of K u) r
  lifted u over_u = matrix_of_product_of K d n u rows size over_u over

  pub lifted_over : (u : List (List ℕ)) → IsMatrixOver K d u → IsMatrixOver K n (product K n u rows)
  lifted_over u over_u = product_over_of K d n u rows size over_u over

  -- rows lifted by ones that span everything span what the section's rows span
  pub within_lifted : (u : List (List ℕ)) → IsMatrixOver K d u → SpansEverything K d u → IsWithin K rows (product K n u rows)
  within_lifted u over_u all t below =
      subst (λ k. InSpan F k (matrix_of K (product K n u rows)) (r t)) (sym (product_length K n u rows))
      (subst (λ (v : Matrix F). InSpan F (length u) v (r t)) (sym (lifted u over_u))
      (lifted_spans F d (length u) (matrix_of K u) r all t (omega (arith, size))))

  -- the module acts on the lifted rows of a sub action by that
  pub acts_on_lifted : (u : List (List ℕ)) (sub : List (List (List ℕ))) → IsMatrixOver K d u → IsSubAction K d action u sub →
      ActsOn K n generators before rows d action → ActsOn K n generators before (product K n u rows) (length u) sub
  acts_on_lifted u sub over_u acts section =
      subst (λ (v : Matrix F). ActsModulo F M (length before) l v (module_of K (length u) sub)) (sym (lifted u over_u))
      (sub_section F M (length before) l r D section (length u) (matrix_of K u) (module_of K (length u) sub) acts)

  module _ (space : List (List ℕ)) (over_space : IsMatrixOver K d space) (m : ℕ) (quotient : List (List (List ℕ)))
      (acts : IsQuotientAction K d action space m quotient) (extended : List (List ℕ)) (extends : IsExtendedBasis K d space extended) where
    -- the unit vectors of the columns that are no pivots
    abbrev pub units : List (List ℕ)
    units = map (unit_row d) extends.columns

    pub count_of_columns : m ≡ length extends.columns
    count_of_columns = same_size (IsFree F d (length space) (matrix_of K space)) m acts.columns (length extends.columns) (λ t. get_or extends.columns t 0) acts.free extends.free

    pub units_length : length units ≡ m
    units_length = length-map extends.columns (unit_row d) ∙ sym count_of_columns

    pub units_over : IsMatrixOver K d units
    units_over i row below =
        subst (IsVectorOver K d) (sym (get_or-map (unit_row d) extends.columns i 0 row (omega (arith, length-map extends.columns (unit_row d)))))
        (unit_over (get_or extends.columns i 0))

    pub extended_over : IsMatrixOver K d extended
    extended_over = subst (IsMatrixOver K d) (sym extends.equals) (over_appended K d space units over_space units_over)

    -- and acts on the lifted unit vectors by the quotient action, modulo the space's lifted rows, too
    pub acts_on_units : ActsOn K n generators before rows d action →
        ActsOn K n generators (before ++ product K n space rows) (product K n units rows) m quotient
    acts_on_units section =
        acts_on_same_rows F M (length (before ++ product K n space rows)) (matrix_of K (before ++ product K n space rows)) (λ t. r (acts.columns t))
        (matrix_of K (product K n units rows)) (module_of K m quotient) row
        (subst (λ k. ActsModulo F M k (matrix_of K (before ++ product K n space rows)) (λ t. r (acts.columns t)) (module_of K m quotient))
        (ap (λ k. length before + k) (sym (product_length K n space rows)) ∙ sym (length-append before (product K n space rows)))
        (subst (λ (v : Matrix F). ActsModulo F M (length before + length space) v (λ t. r (acts.columns t)) (module_of K m quotient))
        (ap (stacked F (length before) l) (sym (lifted space over_space)) ∙ sym (matrix_of_appended K before (product K n space rows)))
        (quotient_section F M (length before) l r D section (length space) (matrix_of K space) m (module_of K m quotient) acts)))
      where
        row : (t : ℕ) → t < m → r (acts.columns t) ≡ matrix_of K (product K n units rows) t
        row t inside =
            let small : t < length extends.columns = omega (arith, count_of_columns) in
            let same : acts.columns t ≡ get_or extends.columns t 0 = same_places (IsFree F d (length space) (matrix_of K space)) m acts.columns
            (length extends.columns) (λ s. get_or extends.columns s 0) acts.free extends.free t inside in
            ap r same
            ∙ sym (times_unit F d (get_or extends.columns t 0) r (extends.free.each t small).below)
            ∙ ap (λ x. times F d x r) (sym (vector_of_unit_row K d (get_or extends.columns t 0) (extends.free.each t small).below))
            ∙ ap (λ (v : List ℕ). times F d (vector_of K v) r) (sym (get_or-map (unit_row d) extends.columns t 0 [] small))
            ∙ ap (λ (v : Matrix F). v t) (sym (lifted units units_over))

    -- the lifted rows of both are the lifted extended rows, as many as the section's, and span as much
    pub lifted_extended : product K n extended rows ≡ product K n space rows ++ product K n units rows
    lifted_extended = ap (λ (u : List (List ℕ)). product K n u rows) extends.equals ∙ product_of_appended K n space units rows

    pub within_both : IsWithin K rows (product K n space rows ++ product K n units rows)
    within_both = subst (IsWithin K rows) lifted_extended
        (within_lifted extended extended_over (extended_spans_everything K d space extended over_space extends))

    pub sizes_of_both : IsIndependent K space → length space + m ≡ d
    sizes_of_both independent =
        ap (λ k. length space + k) count_of_columns ∙ sym (extended_length K d space extended over_space extends)
        ∙ extended_is_square K d space extended over_space extends independent
