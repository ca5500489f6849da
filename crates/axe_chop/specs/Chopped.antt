-- The answer: the factors of a composition series under their names.
use Rattle.std.specs.Prelude.{◌≡◌, ℕ, ◌≤◌, List, map, length, All, string_bytes, String}
use Rattle.std.specs.Map.{keys_of, values_of}
use Rattle.std.specs.declared.alloc.Global.{Global}
use Rattle.indexmap.specs.IndexMap.{keys, values}
use Rattle.axe_iso.specs.Forms.{FormValue}
use Rattle.axe_series.specs.Runs.{FoundValue}
use Rattle.axe_report.specs.Limits.{most_dimension}
use Rattle.axe_report.specs.Names.{names_of}
use Rattle.axe_report.specs.Reports.{counts_in}
use Rattle.axe_chop.specs.declared.chopped.Factor.{Factor}
use Rattle.axe_chop.specs.declared.chopped.Chopped.{Chopped}

-- the dimensions of factors with these forms
abbrev pub dims_of : List FormValue → List ℕ
dims_of forms = map (λ (form : FormValue). form.matrices.dim) forms

-- factors in order, with their keys: they have these forms, the names of these dimensions, and their multiplicities in
-- a series with these places
pub record AreFactorsOf (forms : List FormValue) (places : List ℕ) (names : List (String Global))
    (factors : List Factor)
    : Type 0 where
  pub forms_are : map (λ (factor : Factor). factor.form) factors ≡ forms
  pub names_are : map string_bytes names ≡ names_of (dims_of forms)
  pub multiplicities_are :
      map (λ (factor : Factor). factor.multiplicity) factors ≡ counts_in places (length forms)

-- entries are the first factors, of which the dimensions are known
pub record AreFirst (forms : List FormValue) (places dims : List ℕ) (entries : List (String Global × Factor))
    : Type 0 where
  pub factors : AreFactorsOf forms places (keys_of entries) (values_of entries)
  pub dims_are : dims ≡ dims_of forms
  pub small : All (λ d. d ≤ most_dimension) dims

-- the answer is what was found: its rows and places, and its factors in their order, under their names
pub record IsNamed (found : FoundValue) (chopped : Chopped) : Type 0 where
  pub rows : chopped.basis.rows ≡ found.rows
  pub factors : AreFactorsOf found.forms found.places (keys chopped.factors) (values chopped.factors)
  pub series : chopped.series.items ≡ found.places
