-- The report of a composition series: its fields, and the relations between them.
use Rattle.std.specs.Prelude.{◌≡◌, ℕ, ◌+◌, ◌-◌, ◌*◌, ◌^◌, ◌<◌, ◌≤◌, not, ◌==◌, List, [], ◌∷◌, length, map, filter, All}
use Rattle.std.specs.Prelude.{sum_by, Option, Some, None, slice_index_or}
use Rattle.std.specs.List.{range_with_len}
use Rattle.axe_field.specs.Order.{order_number}
use Rattle.axe_report.specs.Limits.{most_dimension, most_generators, most_words, most_polynomials}
use Rattle.axe_report.specs.Names.{constituent_name, count_of, names_of}
use Rattle.axe_report.specs.declared.report.ReportHeader.{ReportHeader}
use Rattle.axe_report.specs.declared.report.Version.{Version}
use Rattle.axe_report.specs.declared.report.Version.TheVariants.{One, Two}

-- the number of a version, as the first line names it
abbrev pub version_number : Version → ℕ
version_number One = 1
version_number Two = 2

-- by what a constituent was seen to be irreducible: the number of a word, and, where a polynomial decided at the word's
-- value, its digits, the numbers of its coefficients, the constant one first (Holt and Rees 1994)
pub record WitnessValue : Type 0 where
  pub word : ℕ
  pub poly : Option (List ℕ)

-- a constituent: its name, its dimension, how often it stands in the series, and by what it was seen to be irreducible,
-- where that is told
pub record FactorValue : Type 0 where
  pub name : List ℕ
  pub dim : ℕ
  pub multiplicity : ℕ
  pub witness : Option WitnessValue

-- a report: of which module and words it is, the constituents in order of first appearance, and for each constituent of
-- the series, from the bottom, its place among these, counted from 0
pub record ReportValue : Type 0 where
  pub header : ReportHeader
  pub factors : List FactorValue
  pub series : List ℕ

-- the names of the constituents, in their order
abbrev pub names : List FactorValue → List (List ℕ)
names factors = map (λ (factor : FactorValue). factor.name) factors

-- their dimensions
abbrev pub dims : List FactorValue → List ℕ
dims factors = map (λ (factor : FactorValue). factor.dim) factors

-- their multiplicities
abbrev pub multiplicities : List FactorValue → List ℕ
multiplicities factors = map (λ (factor : FactorValue). factor.multiplicity) factors

-- the sum of dimension times multiplicity
unfoldable pub total_dim : List FactorValue → ℕ
total_dim factors = sum_by (λ (factor : FactorValue). factor.dim * factor.multiplicity) factors

-- numbers that a module and a run have
pub record IsReportHeader (header : ReportHeader) : Type 0 where
  pub some_dim : 1 ≤ header.dim
  pub dim : header.dim ≤ most_dimension
  pub some_generator : 1 ≤ header.gens
  pub gens : header.gens ≤ most_generators
  pub seed : header.seed < 2 ^ 64
  pub words : header.words ≤ most_words

-- the header has these numbers
pub record HasNumbers (header : ReportHeader) (version order dim gens seed words : ℕ) : Type 0 where
  pub version_is : version_number header.version ≡ version
  pub field : order_number header.field ≡ order
  pub dim_is : header.dim ≡ dim
  pub gens_is : header.gens ≡ gens
  pub seed_is : header.seed ≡ seed
  pub words_is : header.words ≡ words

-- constituents that may be the first ones of a report on a module of this dimension: names by the rule, no dimension or
-- multiplicity of 0, and no more dimensions than the module has
pub record AreFactors (dim : ℕ) (factors : List FactorValue) : Type 0 where
  pub named : names factors ≡ names_of (dims factors)
  pub some_dims : All (λ one. 1 ≤ one) (dims factors)
  pub some_multiplicities : All (λ multiplicity. 1 ≤ multiplicity) (multiplicities factors)
  pub fits : total_dim factors ≤ dim

-- the factor is a constituent that may come after these: it has the next name for its dimension
pub record IsFactorAfter (dim : ℕ) (earlier : List FactorValue) (factor : FactorValue) : Type 0 where
  pub name : factor.name ≡ constituent_name factor.dim (count_of factor.dim (dims earlier))
  pub some_dim : 1 ≤ factor.dim
  pub some_multiplicity : 1 ≤ factor.multiplicity
  pub fits : total_dim earlier + factor.dim * factor.multiplicity ≤ dim

-- ---- by what constituents were seen to be irreducible

-- the digits of a monic polynomial of small degree over the field of this order, the constant one first: its degree is
-- at least 1, and order ^ degree at most 4,096
pub record AreDigits (order : ℕ) (digits : List ℕ) : Type 0 where
  pub some_degree : 2 ≤ length digits
  pub small : order ^ (length digits - 1) ≤ most_polynomials
  pub elements : All (λ digit. digit < order) digits
  pub monic : slice_index_or digits (length digits - 1) 0 ≡ 1

-- where there are digits, each is below this number
abbrev pub AreDigitsOf : ℕ → Option (List ℕ) → Type 0
AreDigitsOf base None = Unit {0}
AreDigitsOf base (Some digits) = All (λ digit. digit < base) digits

-- where there is a polynomial, it is one over the field of this order
abbrev pub IsPolyOver : ℕ → Option (List ℕ) → Type 0
IsPolyOver order None = Unit {0}
IsPolyOver order (Some digits) = AreDigits order digits

-- a witness under a header: its word is one of those that the header names, and its polynomial is one over its field
pub record IsWitnessUnder (header : ReportHeader) (witness : WitnessValue) : Type 0 where
  pub word : witness.word ≤ header.words
  pub poly : IsPolyOver (order_number header.field) witness.poly

-- whether there is a witness goes by the version: none in version 1, and one under the header in version 2
abbrev pub IsWitnessIn : Version → ReportHeader → Option WitnessValue → Type 0
IsWitnessIn One header None = Unit {0}
IsWitnessIn One header (Some witness) = ⊥
IsWitnessIn Two header None = ⊥
IsWitnessIn Two header (Some witness) = IsWitnessUnder header witness

-- the constituent has its witness by the version of the header
abbrev pub IsWitnessed : ReportHeader → FactorValue → Type 0
IsWitnessed header factor = IsWitnessIn header.version header factor.witness

-- each of the constituents has
abbrev pub AreWitnessed : ReportHeader → List FactorValue → Type 0
AreWitnessed header factors = All (IsWitnessed header) factors

-- the number of the word of a witness
abbrev pub word_of : Option WitnessValue → Option ℕ
word_of None = None
word_of (Some witness) = Some witness.word

-- the digits of its polynomial
abbrev pub poly_of : Option WitnessValue → Option (List ℕ)
poly_of None = None
poly_of (Some witness) = witness.poly

-- ---- the series

-- the different members of a list, in order of first appearance
abbrev pub first_appearances : List ℕ → List ℕ
first_appearances [] = []
first_appearances (x ∷ xs) = x ∷ filter (λ y. not (y == x)) (first_appearances xs)

-- how often each of the first numbers stands in a list
unfoldable pub counts_in : List ℕ → ℕ → List ℕ
counts_in series count = map (λ place. count_of place series) (range_with_len 0 count)

-- the series belongs to the constituents: these stand in order of first appearance, and their multiplicities count
pub record IsSeriesOf (factors : List FactorValue) (series : List ℕ) : Type 0 where
  pub order : first_appearances series ≡ range_with_len 0 (length factors)
  pub counted : multiplicities factors ≡ counts_in series (length factors)

-- a report: a header with numbers in range, constituents by the rule, each with its witness by the version, whose
-- dimensions, so often as they stand in the series, make up the module's, and a series that belongs to them
pub record IsReport (report : ReportValue) : Type 0 where
  pub header : IsReportHeader report.header
  pub factors : AreFactors report.header.dim report.factors
  pub witnessed : AreWitnessed report.header report.factors
  pub whole : total_dim report.factors ≡ report.header.dim
  pub series : IsSeriesOf report.factors report.series
