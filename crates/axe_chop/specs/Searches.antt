-- What the steps of the search find, and what it answers.
use Rattle.std.specs.Prelude.{◌≡◌, ℕ, ◌+◌, ◌≤◌, List, [], ◌∷◌, length, All, Option, Some, None}
use Rattle.axe_row.specs.Rows.{RowValue}
use Rattle.axe_matrix.specs.Limits.{most_rows}
use Rattle.axe_matrix.specs.Matrices.{MatrixValue, IsMatrix}
use Rattle.axe_poly.specs.Polys.{PolyValue}
use Rattle.axe_spin.specs.Modules.{ModuleValue}
use Rattle.axe_norton.specs.Spaces.{IsProperSubmodule}
use Rattle.axe_norton.specs.Verdicts.{Decides}
use Rattle.axe_norton.specs.declared.verdicts.Verdict.TheVariants.{Irreducible, Reducible, Undecided}
use Rattle.axe_iso.specs.Forms.{FormValue}
use Rattle.axe_series.specs.Sections.{SectionValue, IsCut, lifted_rows}
use Rattle.axe_series.specs.Runs.{FoundValue, with_place, with_factor, complete, open_section, AreOfOthers, IsKnownAs}
use Rattle.axe_series.specs.Runs.{IsNewForm, RunOf}
use Rattle.axe_series.specs.Series.{basis_of_rows}
use Rattle.axe_chop.specs.Stages.{IsRowsLike, sections_dim, with_sections}
use Rattle.axe_chop.specs.declared.found.Found
use Rattle.axe_chop.specs.declared.search.Searched.{Searched}
use Rattle.axe_chop.specs.declared.search.Searched.TheVariants.{Complete, Open}

-- what is found, as the definitions speak of it
abbrev pub found_value : Found.Found → FoundValue
found_value found = record { rows = found.basis.rows; forms = found.forms.items; places = found.places.items }

-- whether one of the forms is one of the module: the number of the first, with the isomorphism that it gives
abbrev pub FindsKnown : List FormValue → ModuleValue → Option (ℕ × MatrixValue) → Type 0
FindsKnown forms m None = AreOfOthers forms m
FindsKnown forms m (Some found) = IsKnownAs forms m found.0 found.1

-- one more place, for an irreducible section: that of a known factor, or that of a new one
pub data IsPlacedIn (found : FoundValue) (section : SectionValue) (seed word : ℕ) (poly : Option PolyValue)
    (v : RowValue) : FoundValue → Type 0 where
  as_known : (number : ℕ) (t : MatrixValue) → IsKnownAs found.forms section.action number t →
      IsPlacedIn found section seed word poly v (with_place found (lifted_rows section t).rows number)
  as_new : (form : FormValue) → AreOfOthers found.forms section.action →
      IsNewForm section.action seed word poly v form →
      IsPlacedIn found section seed word poly v (with_factor found (lifted_rows section form.basis).rows form)

-- the two parts into which a submodule cuts a section stand before the other sections, the submodule's first
pub record ArePartsBefore (section : SectionValue) (space : MatrixValue) (others all : List SectionValue) : Type 0 where
  pub sub : SectionValue
  pub quotient : SectionValue
  pub cut : IsCut section space sub quotient
  pub order : all ≡ sub ∷ quotient ∷ others

-- what becomes of a section that is decided, of what is found and of the sections after it: an irreducible one has the
-- next place, the parts of a reducible one stand before the others, and one that stays undecided is left
pub data IsDecided (seed words : ℕ) (section : SectionValue) (found : Found.Found) (others : List SectionValue) :
    Found.Found → List SectionValue → Option SectionValue → Type 0 where
  as_irreducible : (word : ℕ) (poly : Option PolyValue) (v : RowValue) (next : Found.Found) →
      Decides section.action seed words (Irreducible word poly v) →
      IsPlacedIn (found_value found) section seed word poly v (found_value next) →
      next.basis ≡ record found.basis { rows = next.basis.rows } → IsMatrix next.basis →
      IsDecided seed words section found others next others None
  as_reducible : (space : MatrixValue) (all : List SectionValue) →
      Decides section.action seed words (Reducible space) → IsProperSubmodule section.action space →
      ArePartsBefore section space others all →
      IsDecided seed words section found others found all None
  as_undecided : Decides section.action seed words Undecided →
      IsDecided seed words section found others found others (Some section)

-- nothing of m is found yet
pub record IsNothingFound (m : ModuleValue) (found : Found.Found) : Type 0 where
  pub basis : found.basis ≡ basis_of_rows m []
  pub forms : found.forms.items ≡ []
  pub places : found.places.items ≡ []
  pub well_formed : IsMatrix found.basis

-- what a search gives is what a run finds, the basis being over the module's field and of its columns
abbrev pub IsSearched : ModuleValue → ℕ → ℕ → Searched → Type 0
IsSearched m seed words (Complete found) =
    RunOf m seed words (complete (found_value found)) × (found.basis ≡ basis_of_rows m found.basis.rows)
    × IsMatrix found.basis
IsSearched m seed words (Open basis offset dim) =
    RunOf m seed words (open_section basis.rows offset dim) × (basis ≡ basis_of_rows m basis.rows) × IsMatrix basis

-- a section stays undecided, with the sections after it: there is room for the rows of all, and where these make a
-- matrix that is what a search gives
pub record IsLeftOpen (m : ModuleValue) (seed words : ℕ) (found : Found.Found) (after : List SectionValue)
    (section : SectionValue)
    : Type 0 where
  pub like : IsRowsLike found.basis section
  pub after_like : All (IsRowsLike found.basis) after
  pub room : length found.basis.rows + sections_dim (section ∷ after) ≤ most_rows
  pub searched : IsMatrix (with_sections found.basis (section ∷ after)) →
      IsSearched m seed words
      (Open (with_sections found.basis (section ∷ after)) (length found.basis.rows) section.action.dim)

-- the sections of m are decided, but for one that is left
abbrev pub AreDecided : ModuleValue → ℕ → ℕ → Found.Found → List SectionValue → Option SectionValue → Type 0
AreDecided m seed words found after None = IsSearched m seed words (Complete found)
AreDecided m seed words found after (Some section) = IsLeftOpen m seed words found after section

-- the sections of some module are decided by some words of some seed, but for one that is left
pub record AreDecidedSomehow (found : Found.Found) (after : List SectionValue) (left : Option SectionValue)
    : Type 0 where
  pub whole : ModuleValue
  pub seed : ℕ
  pub words : ℕ
  pub decided : AreDecided whole seed words found after left
