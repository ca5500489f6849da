-- A submodule that a verdict gives cuts a section in two, and their dimensions add up to the section's.
use Rattle.std.specs.Prelude.{◌≡◌, ℕ, ◌+◌, ◌<◌, List, ◌++◌, length, map, get_or}
use Rattle.axe_algebra.specs.NumberField.{NumberField}
use Rattle.axe_algebra.specs.Reduced.{IsAscendingListOf}
use Rattle.axe_algebra.specs.Actions.{IsFree}
use Rattle.axe_algebra.specs.Bridge.{field_of, matrix_of}
use Rattle.axe_algebra.specs.Lists.{listed, unit_row, IsMatrixOver}
use Rattle.axe_algebra.specs.SpansOfLists.{IsExtendedBasis}
use Rattle.axe_algebra.proofs.FreeColumns.{free_columns_count}
use Rattle.axe_algebra.proofs.ListEntries.{listed_length, listed_at, rows_length}
use Rattle.axe_field.specs.NumberFields.{number_field}
use Rattle.axe_matrix.specs.Matrices.{MatrixValue, IsMatrix, matrix_block}
use Rattle.axe_spin.specs.Modules.{ModuleValue, IsModule, HasSquareGenerators}
use Rattle.axe_action.specs.Actions.{IsBasisAction, IsActionModulo, IsExtendedMatrix}
use Rattle.axe_action.proofs.SomeAction.{some_basis_action, some_quotient}
use Rattle.axe_norton.specs.Spaces.{IsProperSubmodule}
use Rattle.axe_norton.proofs.TruthLaws.{rows_over_field}
use Rattle.axe_series.specs.Sections.{SectionValue, IsCut, lifted_rows}
use mathlib.Core.Path.{refl, sym, ◌∙◌, subst}
use native.Mathlib.Omega.{arith}

-- the dimensions of a submodule and of the quotient by it add up to the module's
pub dimensions_add_up : (m : ModuleValue) (space : MatrixValue) (quotient : ModuleValue) → IsProperSubmodule m space →
    IsMatrix space → IsActionModulo m space quotient → length space.rows + quotient.dim ≡ m.dim
dimensions_add_up m space quotient proper well modulo =
    free_columns_count (field_of (number_field m.order)) m.dim (length space.rows) (matrix_of (number_field m.order) space.rows)
    (rows_length (number_field m.order) m.dim space.rows
    (rows_over_field m.order m.dim space proper.field proper.columns well)) quotient.dim
    modulo.acts.columns modulo.acts.free proper.independent

-- rows with the unit vectors of some columns, where these are the free ones
pub extended_by_columns : (K : NumberField) (n : ℕ) (rows : List (List ℕ)) (count : ℕ) (columns : ℕ → ℕ) →
    IsAscendingListOf (IsFree (field_of K) n (length rows) (matrix_of K rows)) count columns →
    IsExtendedBasis K n rows (rows ++ map (unit_row n) (listed count columns))
extended_by_columns K n rows count columns free = record {
  columns = listed count columns;
  free = record {
    ascending = λ s t before below.
        let within : t < count = omega (arith, listed_length count columns) in
        subst (λ a. a < get_or (listed count columns) t 0) (sym (at s (omega arith)))
        (subst (λ b. columns s < b) (sym (at t within)) (free.ascending s t before within));
    each = λ t below.
        let within : t < count = omega (arith, listed_length count columns) in
        subst (IsFree (field_of K) n (length rows) (matrix_of K rows)) (sym (at t within)) (free.each t within);
    all = λ j is_free. found j (free.all j is_free);
  };
  equals = refl;
}
  where
    at : (t : ℕ) → t < count → get_or (listed count columns) t 0 ≡ columns t
    at t below = listed_at count columns t 0 below

    found : (j : ℕ) → (t : ℕ) × (t < count) × (columns t ≡ j) →
        (t : ℕ) × (t < length (listed count columns)) × (get_or (listed count columns) t 0 ≡ j)
    found j (t, below, same) = (t, omega (arith, listed_length count columns), at t below ∙ same)

-- the parts of a section and their dimensions
pub record AreParts (section : SectionValue) (space : MatrixValue) (sub quotient : SectionValue) : Type 0 where
  pub cut : IsCut section space sub quotient
  pub dimensions : sub.action.dim + quotient.action.dim ≡ section.action.dim
  pub sub_field : sub.action.order ≡ section.action.order
  pub sub_count : length sub.action.generators ≡ length section.action.generators
  pub quotient_field : quotient.action.order ≡ section.action.order
  pub quotient_count : length quotient.action.generators ≡ length section.action.generators

-- a proper submodule cuts a section in two
pub some_cut : (section : SectionValue) (space : MatrixValue) → IsModule section.action →
    IsProperSubmodule section.action space → IsMatrix space →
    (sub : SectionValue) × (quotient : SectionValue) × AreParts section space sub quotient
some_cut section space is proper well =
    from (some_basis_action section.action space proper.invariant) (some_quotient section.action space is.over.square over)
  where
    over : IsMatrixOver (number_field section.action.order) section.action.dim space.rows
    over = rows_over_field section.action.order section.action.dim space proper.field proper.columns well

    from : (action : ModuleValue) × (IsBasisAction section.action space action × HasSquareGenerators action) →
        (action : ModuleValue) × (IsActionModulo section.action space action × HasSquareGenerators action) →
        (sub : SectionValue) × (quotient : SectionValue) × AreParts section space sub quotient
    from (sub, (acts, sub_square)) (quotient, (modulo, quotient_square)) = (
      record { action = sub; rows = matrix_block (lifted_rows section extended) 0 sub.dim 0 section.rows.cols },
      record {
        action = quotient;
        rows = matrix_block (lifted_rows section extended) sub.dim quotient.dim 0 section.rows.cols;
      },
      record {
        cut = record {
          sub_action = acts;
          sub_module = record {
            over = record { positive = omega (arith, acts.dimension, proper.nonzero); square = sub_square };
            dim_fits = omega (arith, acts.dimension, proper.proper, is.dim_fits);
            some_generator = omega (arith, acts.acts.count, is.some_generator);
            generators_fit = omega (arith, acts.acts.count, is.generators_fit);
          };
          quotient_action = modulo;
          quotient_module = record {
            over = record { positive = omega (arith, sizes, proper.proper); square = quotient_square };
            dim_fits = omega (arith, sizes, is.dim_fits);
            some_generator = omega (arith, modulo.acts.count, is.some_generator);
            generators_fit = omega (arith, modulo.acts.count, is.generators_fit);
          };
          extended = extended;
          extends = extends;
          sub_rows = refl;
          quotient_rows = refl;
        };
        dimensions = omega (arith, acts.dimension, sizes);
        sub_field = acts.field;
        sub_count = acts.acts.count;
        quotient_field = modulo.field;
        quotient_count = modulo.acts.count;
      },
    )
      where
        sizes : length space.rows + quotient.dim ≡ section.action.dim
        sizes = dimensions_add_up section.action space quotient proper well modulo

        extended : MatrixValue
        extended = record {
          order = space.order;
          cols = space.cols;
          rows = space.rows ++ map (unit_row section.action.dim) (listed quotient.dim modulo.acts.columns);
        }

        extends : IsExtendedMatrix space extended
        extends = record {
          field = refl;
          columns = refl;
          extends = subst (λ n. IsExtendedBasis (number_field space.order) n space.rows extended.rows) (sym proper.columns)
              (subst (λ o. IsExtendedBasis (number_field o) section.action.dim space.rows extended.rows) (sym proper.field)
              (extended_by_columns (number_field section.action.order) section.action.dim space.rows quotient.dim
              modulo.acts.columns modulo.acts.free));
        }
