-- How a composition series is found: sections are decided in turn, from the bottom; a reducible one is cut in two, and
-- an irreducible one is a known factor or a new one (Parker 1984).
use Rattle.std.specs.Prelude.{◌≡◌, ℕ, List, [], ◌∷◌, ◌++◌, length, Option, Some, None}
use Rattle.std.specs.List.{All}
use Rattle.axe_row.specs.Rows.{RowValue}
use Rattle.axe_matrix.specs.Matrices.{MatrixValue}
use Rattle.axe_poly.specs.Polys.{PolyValue}
use Rattle.axe_spin.specs.Modules.{ModuleValue}
use Rattle.axe_norton.specs.declared.verdicts.Verdict.TheVariants.{Irreducible, Reducible, Undecided}
use Rattle.axe_norton.specs.Verdicts.{Decides}
use Rattle.axe_iso.specs.Forms.{FormValue, IsForm, IsFormFrom}
use Rattle.axe_iso.specs.Matches.{IsMatch}
use Rattle.axe_series.specs.Sections.{SectionValue, IsCut, rows_of_sections, lifted_rows, whole_section}

-- what is found so far: the rows of the basis, the forms of the factors in order of first appearance, and for each
-- place of the series, from the bottom, the number of its factor
pub record FoundValue : Type 0 where
  pub rows : List (List ℕ)
  pub forms : List FormValue
  pub places : List ℕ

-- nothing is found yet: no rows, no forms and no places
abbrev pub nothing_found : FoundValue
nothing_found = record { rows = []; forms = []; places = [] }

-- what comes of it in the end: all is found, or a section stays undecided: then the rows so far, the section's and
-- those of the sections after it are a basis, `offset` rows stand before the section's, and these are as many as `dim`
pub data Outcome : Type 0 where
  complete : FoundValue → Outcome
  open_section : List (List ℕ) → ℕ → ℕ → Outcome

-- one more place: of factor `number`, with these rows
abbrev pub with_place : FoundValue → List (List ℕ) → ℕ → FoundValue
with_place found rows number =
    record { rows = found.rows ++ rows; forms = found.forms; places = found.places ++ number ∷ [] }

-- one more factor, with its form, and its first place
abbrev pub with_factor : FoundValue → List (List ℕ) → FormValue → FoundValue
with_factor found rows form =
    record {
      rows = found.rows ++ rows;
      forms = found.forms ++ form ∷ [];
      places = found.places ++ length found.forms ∷ [];
    }

-- none of the forms is one of the module: their factors are not isomorphic to it
abbrev pub AreOfOthers : List FormValue → ModuleValue → Type 0
AreOfOthers forms m = All (λ form. IsMatch form m None) forms

-- form `number` is the first of the forms that is one of the module, and t is the isomorphism that it gives
pub record IsKnownAs (forms : List FormValue) (m : ModuleValue) (number : ℕ) (t : MatrixValue) : Type 0 where
  pub earlier : List FormValue
  pub form : FormValue
  pub later : List FormValue
  pub among : forms ≡ earlier ++ form ∷ later
  pub number_is : number ≡ length earlier
  pub others : AreOfOthers earlier m
  pub matches : IsMatch form m (Some t)

-- the form is that of the module from the vector by which word `number` of the seed, and a polynomial where one decided
-- by it, showed it to be irreducible
pub record IsNewForm (m : ModuleValue) (seed number : ℕ) (poly : Option PolyValue) (v : RowValue) (form : FormValue) :
    Type 0 where
  pub is_form : IsForm form
  pub from : IsFormFrom m seed number poly v form

-- what becomes of sections that are still to be decided, by the words 0 to `words` of a seed, after what is found so
-- far: without a section all is found. Else the first section is decided. Where it stays undecided this is the end.
-- Where it is reducible the two sections into which the submodule cuts it take its place. Where it is irreducible its
-- place is that of a known factor, lifted by the isomorphism to it, or of a new one, lifted by the standard basis of
-- its form
pub data Runs (seed words : ℕ) : List SectionValue → FoundValue → Outcome → Type 0 where
  all_found : {found : FoundValue} → Runs seed words [] found (complete found)
  undecided : {section : SectionValue} {rest : List SectionValue} {found : FoundValue} →
      Decides section.action seed words Undecided →
      Runs seed words (section ∷ rest) found
      (open_section (found.rows ++ rows_of_sections (section ∷ rest)) (length found.rows) section.action.dim)
  reducible : {section : SectionValue} {rest : List SectionValue} {found : FoundValue} {outcome : Outcome}
      (space : MatrixValue) (sub quotient : SectionValue) →
      Decides section.action seed words (Reducible space) → IsCut section space sub quotient →
      Runs seed words (sub ∷ quotient ∷ rest) found outcome → Runs seed words (section ∷ rest) found outcome
  known : {section : SectionValue} {rest : List SectionValue} {found : FoundValue} {outcome : Outcome}
      (word : ℕ) (poly : Option PolyValue) (v : RowValue) (number : ℕ) (t : MatrixValue) →
      Decides section.action seed words (Irreducible word poly v) → IsKnownAs found.forms section.action number t →
      Runs seed words rest (with_place found (lifted_rows section t).rows number) outcome →
      Runs seed words (section ∷ rest) found outcome
  new : {section : SectionValue} {rest : List SectionValue} {found : FoundValue} {outcome : Outcome}
      (word : ℕ) (poly : Option PolyValue) (v : RowValue) (form : FormValue) →
      Decides section.action seed words (Irreducible word poly v) → AreOfOthers found.forms section.action →
      IsNewForm section.action seed word poly v form →
      Runs seed words rest (with_factor found (lifted_rows section form.basis).rows form) outcome →
      Runs seed words (section ∷ rest) found outcome

-- what the words 0 to `words` of a seed find of a module
abbrev pub RunOf : ModuleValue → ℕ → ℕ → Outcome → Type 0
RunOf m seed words outcome = Runs seed words (whole_section m ∷ []) nothing_found outcome
