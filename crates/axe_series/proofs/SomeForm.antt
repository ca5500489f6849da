-- A module has a form from the vector by which a word, or a polynomial at its value, showed it to be irreducible.
use Rattle.std.specs.Prelude.{ℕ, Option, Some, None}
use Rattle.axe_algebra.specs.ModulesOfLists.{GeneratesEverything}
use Rattle.axe_field.specs.NumberFields.{number_field}
use Rattle.axe_row.specs.Rows.{RowValue}
use Rattle.axe_poly.specs.Polys.{PolyValue}
use Rattle.axe_spin.specs.Modules.{ModuleValue, IsModule}
use Rattle.axe_spin.specs.SpinLaws.{IsVectorOf}
use Rattle.axe_word.specs.declared.tested.Tested.{Tested}
use Rattle.axe_norton.specs.declared.verdicts.At
use Rattle.axe_norton.specs.declared.verdicts.Verdict.TheVariants.{Irreducible}
use Rattle.axe_norton.specs.Spaces.{GeneratesModule}
use Rattle.axe_norton.specs.SmallFactors.{IsFittingFactor}
use Rattle.axe_norton.specs.OneVector.{ShowsIrreducibleByOne}
use Rattle.axe_norton.specs.Verdicts.{ShowsIrreducible, TellsByFactor, Says, Decides, word_of_seed}
use Rattle.axe_iso.specs.Forms.{FormValue, HasSmallNullSpaceOf, IsNullVectorOf, IsNullSpaceOf}
use Rattle.axe_iso.specs.Forms.{IsFormFrom}
use Rattle.axe_iso.proofs.Forming.{form_is_kept}
use Rattle.axe_iso.proofs.SomeForm.{some_form}
use Rattle.axe_iso.proofs.PointForms.{few_null_points, fitting_is_small, point_is_null_vector, point_is_vector}
use Rattle.axe_series.specs.Runs.{IsNewForm}
use mathlib.Core.Logic.{inl}
use mathlib.Core.Path.{refl, sym, subst}

-- what the vector of an irreducible verdict is
pub record IsShownBy (m : ModuleValue) (seed number : ℕ) (poly : Option PolyValue) (v : RowValue) : Type 0 where
  pub of_module : IsVectorOf m v
  pub generates : GeneratesEverything (number_field m.order) m.dim m.generators v.entries
  pub null : IsNullVectorOf m seed number poly v.entries
  pub small : HasSmallNullSpaceOf m seed number poly

-- ---- by the points of a word's value

shown_by_points : (m : ModuleValue) (seed number : ℕ) (v : RowValue) →
    Says m (word_of_seed m seed number) (At.TheVariants.Irreducible None v) → IsShownBy m seed number None v
shown_by_points m seed number v says = record {
  of_module =
      point_is_vector m seed number None t.null_space space 0 shows.some_point v shows.first shows.field;
  generates = subst (GeneratesModule m) (sym shows.first)
      (shows.generate 0 (record { below = shows.some_point; first_or_few = inl refl }));
  null = point_is_null_vector m seed number None t.null_space space 0 shows.some_point v shows.first;
  small = few_null_points m seed number t.null_space space shows.few;
}
  where
    t : Tested
    t = says.tested

    space : IsNullSpaceOf m seed number None t.null_space
    space = record { matrix = t.matrix; is_tested = says.is_tested }

    shows : ShowsIrreducible m t.matrix t.null_space v
    shows = says.tells

-- ---- by a polynomial

module _ (m : ModuleValue) (seed number : ℕ) (p : PolyValue) (v : RowValue)
    (says : Says m (word_of_seed m seed number) (At.TheVariants.Irreducible (Some p) v)) where
  abbrev told : TellsByFactor m says.tested.matrix says.tested.null_space
      (At.TheVariants.Irreducible (Some p) v)
  told = says.tells

  abbrev q : PolyValue
  q = told.poly

  abbrev fitting : IsFittingFactor says.tested.matrix q
  fitting = told.first.fitting

  space_by_poly : IsNullSpaceOf m seed number (Some q) told.tested.null_space
  space_by_poly = record {
    matrix = told.tested.matrix;
    is_tested = record {
      argument = says.tested.matrix;
      is_value = says.is_tested.value;
      tested_at = told.is_tested;
    };
  }

  shown_by_first : ShowsIrreducibleByOne m told.tested.matrix told.tested.null_space v →
      IsShownBy m seed number (Some q) v
  shown_by_first shows = record {
    of_module =
        point_is_vector m seed number (Some q) told.tested.null_space space_by_poly 0 shows.some_point v shows.first
        shows.field;
    generates = subst (GeneratesModule m) (sym shows.first) shows.generates;
    null =
        point_is_null_vector m seed number (Some q) told.tested.null_space space_by_poly 0 shows.some_point v
        shows.first;
    small =
        fitting_is_small m seed number q says.tested.matrix says.is_tested.value fitting.factor.field
        fitting.factor.factor.irreducible fitting.factor.factor.bound fitting.fits;
  }

  shown_by_poly : IsShownBy m seed number (Some p) v
  shown_by_poly =
      subst (λ (by : PolyValue). IsShownBy m seed number (Some by) v) (sym told.tells.0) (shown_by_first told.tells.1)

-- ---- both

-- a word that shows the module to be irreducible gives such a vector
pub said_is_shown : (m : ModuleValue) (seed number : ℕ) (poly : Option PolyValue) (v : RowValue) →
    Says m (word_of_seed m seed number) (At.TheVariants.Irreducible poly v) → IsShownBy m seed number poly v
said_is_shown m seed number None v says = shown_by_points m seed number v says
said_is_shown m seed number (Some p) v says = shown_by_poly m seed number p v says

-- so does an irreducible verdict
pub irreducible_is_shown : (m : ModuleValue) (seed words number : ℕ) (poly : Option PolyValue) (v : RowValue) →
    Decides m seed words (Irreducible number poly v) → IsShownBy m seed number poly v
irreducible_is_shown m seed words number poly v decides = said_is_shown m seed number poly v decides.says

-- a module that is shown to be irreducible has a form
pub some_new_form : (m : ModuleValue) (seed words number : ℕ) (poly : Option PolyValue) (v : RowValue) → IsModule m →
    Decides m seed words (Irreducible number poly v) → (form : FormValue) × IsNewForm m seed number poly v form
some_new_form m seed words number poly v is decides =
    made (some_form m seed number poly v is shown.of_module shown.generates)
  where
    shown : IsShownBy m seed number poly v
    shown = irreducible_is_shown m seed words number poly v decides

    made : (form : FormValue) × IsFormFrom m seed number poly v form →
        (form : FormValue) × IsNewForm m seed number poly v form
    made (form, from) = (
      form,
      record {
        is_form =
            form_is_kept m seed number poly v form is shown.of_module shown.generates shown.null shown.small from;
        from = from;
      },
    )
