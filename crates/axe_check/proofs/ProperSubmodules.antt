-- A module with a submodule other than zero and everything is reducible.
use Rattle.std.proofs.Common.{ℕ, ◌<◌, ◌≤◌, ◌⊎◌, inl, inr, length, sym, ◌∙◌, arith}
use Rattle.axe_algebra.specs.Field.{Field}
use Rattle.axe_algebra.specs.Vectors.{Matrix, unit_vector, unit_matrix}
use Rattle.axe_algebra.specs.Spans.{IsIndependent, SpansZero, SpansAll}
use Rattle.axe_algebra.specs.Bridge.{matrix_of}
use Rattle.axe_algebra.specs.Lists.{IsMatrixOver}
use Rattle.axe_algebra.proofs.ProductLaws.{unit_is_matrix, unit_at, times_unit}
use Rattle.axe_algebra.proofs.Exchange.{exchange}
use Rattle.axe_algebra.proofs.Isomorphisms.{unit_rows_independent}
use Rattle.axe_algebra.proofs.ListEntries.{rows_length}
use Rattle.axe_field.specs.NumberFields.{number_field, gf}
use Rattle.axe_matrix.specs.Matrices.{MatrixValue}
use Rattle.axe_spin.specs.Modules.{ModuleValue}
use Rattle.axe_norton.specs.Spaces.{IsIrreducibleModule, IsProperSubmodule}
use Rattle.axe_norton.proofs.TruthLaws.{rows_over_field}

-- independent rows, one at least, don't span zero, and fewer than n rows of length n don't span everything
some_rows_not_zero : (F : Field) (k : ℕ) (v : Matrix F) → IsIndependent F k v → 0 < k → ¬ (SpansZero F k v)
some_rows_not_zero F k v independent some zeros =
    F.one-not-zero
    (sym (unit_at F 0) ∙ independent.only_zero (unit_vector F 0) (times_unit F k 0 v some ∙ zeros 0 some) 0 some)

few_rows_not_all : (F : Field) (n k : ℕ) (v : Matrix F) → k < n → ¬ (SpansAll F n k v)
few_rows_not_all F n k v few all =
    let many : n ≤ k = exchange F n (unit_matrix F n) k v (unit_rows_independent F n)
    (λ t below. all (unit_matrix F n t) ((unit_is_matrix F n).columns t)) in
    omega (arith, many, few)

module _ (m : ModuleValue) (space : MatrixValue) (proper : IsProperSubmodule m space) where
  abbrev v : Matrix (gf m.order)
  v = matrix_of (number_field m.order) space.rows

  over : IsMatrixOver (number_field m.order) m.dim space.rows
  over = rows_over_field m.order m.dim space proper.field proper.columns proper.well_formed

  not_both : SpansZero (gf m.order) (length space.rows) v ⊎ SpansAll (gf m.order) m.dim (length space.rows) v → ⊥
  not_both (inl zeros) = some_rows_not_zero (gf m.order) (length space.rows) v proper.independent proper.nonzero zeros
  not_both (inr all) = few_rows_not_all (gf m.order) m.dim (length space.rows) v proper.proper all

  pub proper_is_reducible : ¬ (IsIrreducibleModule m)
  proper_is_reducible irreducible =
      not_both (irreducible.spans (length space.rows) v (rows_length (number_field m.order) m.dim space.rows over) proper.invariant)
