-- The bytes of a report: its lines, each ended by a line feed. Numbers are decimal, without leading zeros.
use Rattle.std.specs.Prelude.{ℕ, ◌+◌, List, [], ◌∷◌, ◌++◌, map, slice_index_or, codes, decimal, Option, Some, None}
use Rattle.std.specs.List.{flat_map}
use Rattle.axe_field.specs.Order.{order_number}
use Rattle.axe_report.specs.Reports.{WitnessValue, FactorValue, ReportValue, names, version_number}
use Rattle.axe_report.specs.declared.report.ReportHeader.{ReportHeader}

-- the first line: the version, and what the report is of
unfoldable pub header_line : ReportHeader → List ℕ
header_line header =
    codes "chop " ++ decimal (version_number header.version) ++ codes " field=" ++ decimal (order_number header.field)
    ++ codes " dim=" ++ decimal header.dim ++ codes " gens=" ++ decimal header.gens ++ codes " seed="
    ++ decimal header.seed ++ codes " words=" ++ decimal header.words ++ 10 ∷ []

-- digits from 0 to 9, one after another
unfoldable pub digit_bytes : List ℕ → List ℕ
digit_bytes digits = map (λ digit. 48 + digit) digits

-- the digits of a polynomial after their word, where there is one
unfoldable pub poly_bytes : Option (List ℕ) → List ℕ
poly_bytes None = []
poly_bytes (Some digits) = codes " poly=" ++ digit_bytes digits

-- what the line of a constituent has after its multiplicity: the witness, where there is one
unfoldable pub witness_bytes : Option WitnessValue → List ℕ
witness_bytes None = []
witness_bytes (Some witness) = codes " word=" ++ decimal witness.word ++ poly_bytes witness.poly

-- the line of a constituent
unfoldable pub factor_line : FactorValue → List ℕ
factor_line factor =
    codes "factor " ++ factor.name ++ codes " dim=" ++ decimal factor.dim ++ codes " mult="
    ++ decimal factor.multiplicity ++ witness_bytes factor.witness ++ 10 ∷ []

-- what the line of a constituent has before its multiplicity
unfoldable pub factor_start : List ℕ → ℕ → List ℕ
factor_start name dim = codes "factor " ++ name ++ codes " dim=" ++ decimal dim ++ codes " mult="

-- the name of the constituent at a place among these, after a space
unfoldable pub place_bytes : List FactorValue → ℕ → List ℕ
place_bytes factors place = 32 ∷ slice_index_or (names factors) place []

-- the last line: for each constituent of the series its name, after a space
unfoldable pub series_line : List FactorValue → List ℕ → List ℕ
series_line factors series = codes "series" ++ flat_map (place_bytes factors) series ++ 10 ∷ []

-- the first lines: that of the header, and those of some constituents
unfoldable pub opening_bytes : ReportHeader → List FactorValue → List ℕ
opening_bytes header factors = header_line header ++ flat_map factor_line factors

-- the whole report
unfoldable pub report_bytes : ReportValue → List ℕ
report_bytes report = opening_bytes report.header report.factors ++ series_line report.factors report.series
