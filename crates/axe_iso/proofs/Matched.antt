-- What holds of the point that an iterator gives: it is a vector of the module, and its standard basis matches the form or doesn't.
use Rattle.std.proofs.Common.{◌≡◌, ℕ, List, [], length, get_or, Some, Ok, Result, sym, subst, ◌∙◌}
use Rattle.axe_algebra.specs.NumberField.{NumberField}
use Rattle.axe_algebra.specs.Lists.{IsMatrixOver}
use Rattle.axe_algebra.specs.ModulesOfLists.{IsIsomorphism, IsStandardBasis}
use Rattle.axe_algebra.specs.PointTheorems.{IsNonzeroSpanned}
use Rattle.axe_algebra.specs.SpansOfLists.{IsSpanned}
use Rattle.axe_algebra.proofs.ListEntries.{vector_length}
use Rattle.axe_echelon.proofs.InverseLaws.{matrix_over}
use Rattle.axe_field.specs.NumberFields.{number_field}
use Rattle.axe_row.specs.Rows.{RowValue}
use Rattle.axe_row.specs.declared.refusals.Refusal.{Refusal}
use Rattle.axe_matrix.specs.Matrices.{MatrixValue}
use Rattle.axe_spin.specs.Modules.{ModuleValue, IsModule}
use Rattle.axe_word.specs.PointsOfMatrix.{PointsLeft, points_of, GivesNext}
use Rattle.axe_iso.specs.Forms.{FormValue, IsNullSpaceOf}
use Rattle.axe_iso.specs.Matches.{HasStandardMatrices, IsFirstMatch}
use Rattle.axe_iso.specs.Following.{IsBasisWithMatrices}
use Rattle.axe_iso.proofs.FormLaws.{IsDecidingSpace, deciding_space, point_in_module, AreTried, tried_inside, tried_point, tried_more}
use Rattle.axe_iso.proofs.MatchLaws.{rows_of_standard_matrices, action_of_standard_matrices, isomorphism_of_action}

module _ (form : FormValue) (m : ModuleValue) (space : MatrixValue) (is_module : IsModule m) (is_space : IsNullSpaceOf m form.seed form.word form.poly space)
    (field : m.order ≡ form.matrices.order) (dimension : m.dim ≡ form.matrices.dim)
    (s t : PointsLeft) (point : RowValue) (before : AreTried form m space s) (gives : GivesNext s (Some (Ok point)) t) where
  abbrev K : NumberField
  K = number_field m.order

  facts : IsDecidingSpace m form.seed form.word form.poly space
  facts = deciding_space m form.seed form.word form.poly space is_space

  entries : get_or (points_of space) before.place [] ≡ point.entries
  entries = tried_point form m space s t point before gives

  nonzero_spanned : IsNonzeroSpanned K m.dim space.rows point.entries
  nonzero_spanned = subst (IsNonzeroSpanned K m.dim space.rows) entries
      (point_in_module m _ space facts before.place
      (tried_inside form m space s t point before gives))

  pub point_field : point.order ≡ m.order
  point_field = gives.1 ∙ before.field ∙ facts.field

  pub point_fits : length point.entries ≡ m.dim
  point_fits = nonzero_spanned.over.length_is

  module _ (basis : MatrixValue) (is_basis : IsBasisWithMatrices m point form.matrices basis) where
    standard : IsStandardBasis K m.dim m.generators point.entries basis.rows
    standard = is_basis.standard.standard

    over : IsMatrixOver K m.dim basis.rows
    over = subst (λ o. IsMatrixOver (number_field o) m.dim basis.rows) is_basis.standard.field
        (subst (λ n. IsMatrixOver (number_field basis.order) n basis.rows) is_basis.standard.columns (matrix_over basis is_basis.well_formed))

    isomorphism : IsIsomorphism K m.dim form.matrices.generators m.generators basis.rows
    isomorphism = isomorphism_of_action K m.dim m.generators point.entries basis.rows form.matrices.dim form.matrices.generators (sym dimension)
        standard is_module.over.square (vector_length K m.dim point.entries point_fits) over
        (rows_of_standard_matrices K m.dim m.generators point.entries basis.rows form.matrices.dim form.matrices.generators (sym dimension) standard is_basis.matches)
        (action_of_standard_matrices K m.dim m.generators point.entries basis.rows form.matrices.dim form.matrices.generators (sym dimension) standard is_basis.matches)

    pub matched : IsFirstMatch form m basis
    matched = record {
      well_formed = is_basis.well_formed;
      isomorphism = record {
        one_field = field;
        one_dimension = dimension;
        field = is_basis.standard.field ∙ field;
        columns = is_basis.standard.columns ∙ dimension;
        isomorphism =
            subst (λ o. IsIsomorphism (number_field o) form.matrices.dim form.matrices.generators m.generators basis.rows) field
            (subst (λ n. IsIsomorphism K n form.matrices.generators m.generators basis.rows) dimension isomorphism);
      };
      space = space;
      is_space = is_space;
      place = before.place;
      inside = tried_inside form m space s t point before gives;
      standard = record {
        field = is_basis.standard.field;
        columns = is_basis.standard.columns;
        standard = subst (λ (v : List ℕ). IsStandardBasis K m.dim m.generators v basis.rows) (sym entries) standard;
      };
      matches = subst (λ (v : List ℕ). HasStandardMatrices m v form.matrices) (sym entries) is_basis.matches;
      first = before.tried;
    }

-- the same of an item that was read
module _ (form : FormValue) (m : ModuleValue) (space : MatrixValue) (is_module : IsModule m) (is_space : IsNullSpaceOf m form.seed form.word form.poly space)
    (field : m.order ≡ form.matrices.order) (dimension : m.dim ≡ form.matrices.dim)
    (s t : PointsLeft) (item : Result RowValue Refusal) (point : RowValue) (before : AreTried form m space s) (was : item ≡ Ok point)
    (gives : GivesNext s (Some item) t) where
  given : GivesNext s (Some (Ok point)) t
  given = subst (λ r. GivesNext s (Some r) t) was gives

  pub item_field : point.order ≡ m.order
  item_field = point_field form m space is_module is_space field dimension s t point before given

  pub item_fits : length point.entries ≡ m.dim
  item_fits = point_fits form m space is_module is_space field dimension s t point before given

  pub item_spanned : IsSpanned (number_field m.order) space.rows point.entries
  item_spanned = (nonzero_spanned form m space is_module is_space field dimension s t point before given).spanned

  pub item_unmatched : ¬ (HasStandardMatrices m point.entries form.matrices) → AreTried form m space t
  item_unmatched fails = tried_more form m space s t point before given fails

  pub item_matched : (basis : MatrixValue) → IsBasisWithMatrices m point form.matrices basis → IsFirstMatch form m basis
  item_matched = matched form m space is_module is_space field dimension s t point before given
