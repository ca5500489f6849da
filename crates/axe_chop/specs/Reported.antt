-- The report of a composition series.
use Rattle.std.specs.Prelude.{◌≡◌, ℕ, List, [], length, map, get_or, slice_get, string_bytes, String, All}
use Rattle.std.specs.Prelude.{Some, option_map}
use Rattle.std.specs.declared.alloc.Global.{Global}
use Rattle.indexmap.specs.IndexMap.{values}
use Rattle.axe_algebra.specs.Lists.{listed}
use Rattle.axe_poly.specs.Polys.{PolyValue}
use Rattle.axe_spin.specs.Modules.{ModuleValue, IsModule}
use Rattle.axe_iso.specs.Forms.{FormValue}
use Rattle.axe_report.specs.Names.{count_of, names_of}
use Rattle.axe_report.specs.Reports.{WitnessValue, FactorValue, ReportValue, IsWitnessUnder}
use Rattle.axe_report.specs.declared.report.ReportHeader.{ReportHeader}
use Rattle.axe_report.specs.declared.report.Version.TheVariants.{Two}
use Rattle.axe_chop.specs.Answers.{IsChopped}
use Rattle.axe_chop.specs.declared.chopped.Factor.{Factor}
use Rattle.axe_chop.specs.declared.chopped.Chopped.{Chopped}

-- the dimensions of factors
abbrev pub dims_of_factors : List ModuleValue → List ℕ
dims_of_factors factors = map (λ (factor : ModuleValue). factor.dim) factors

-- by what a form shows its factor to be irreducible: its word, and, where it has a polynomial, the digits of that
abbrev pub witness_of : FormValue → WitnessValue
witness_of form = record {
  word = form.word;
  poly = option_map (λ (p : PolyValue). p.coefficients) form.poly;
}

-- the witnesses of forms, in their order
abbrev pub witnesses_of_forms : List FormValue → List WitnessValue
witnesses_of_forms forms = map witness_of forms

-- the witnesses of the factors, in their order
abbrev pub factor_witnesses : Chopped → List WitnessValue
factor_witnesses chopped = map (λ (factor : Factor). witness_of factor.form) (values chopped.factors)

-- witnesses of these factors under a header: one for each, with a word that the header names and, where it has one, a
-- polynomial over its field
pub record AreWitnessesOf (header : ReportHeader) (factors : List ModuleValue) (witnesses : List WitnessValue) :
    Type 0 where
  pub count : length witnesses ≡ length factors
  pub each : All (IsWitnessUnder header) witnesses

-- what a report says of factor `number`: its name by the rule, its dimension, how often it stands among the places, and
-- its witness
abbrev pub reported_factor : List ModuleValue → List WitnessValue → List ℕ → ℕ → FactorValue
reported_factor factors witnesses places number = record {
  name = get_or (names_of (dims_of_factors factors)) number [];
  dim = get_or (dims_of_factors factors) number 0;
  multiplicity = count_of number places;
  witness = slice_get witnesses number;
}

-- the header of the report, of version 2, of a composition series of m that the words 0 to `words` of a seed find
abbrev pub module_header : ModuleValue → ℕ → ℕ → ReportHeader
module_header m seed words =
    record {
      version = Two;
      field = m.order;
      dim = m.dim;
      gens = length m.generators;
      seed = seed;
      words = words;
    }

-- the report of a composition series with these factors, their witnesses, and these places, under a header
unfoldable pub series_report : ReportHeader → List ModuleValue → List WitnessValue → List ℕ → ReportValue
series_report header factors witnesses places = record {
  header = header;
  factors = listed (length factors) (reported_factor factors witnesses places);
  series = places;
}

-- the composition series is what the words find of a module with this header
pub record IsFoundUnder (header : ReportHeader) (chopped : Chopped) : Type 0 where
  pub m : ModuleValue
  pub is_module : IsModule m
  pub header_is : header ≡ module_header m header.seed header.words
  pub chopped_is : IsChopped m header.seed header.words chopped

-- what a report says of a factor under its name
abbrev pub entry_factor : String Global × Factor → FactorValue
entry_factor entry = record {
  name = string_bytes entry.0;
  dim = entry.1.form.matrices.dim;
  multiplicity = entry.1.multiplicity;
  witness = Some (witness_of entry.1.form);
}
