-- A composition series has a report, and what is named is reported so.
use Rattle.std.proofs.Common.{◌≡◌, ℕ, zero, suc, All, Some, ◌+◌, ◌^◌, ◌<◌, ◌≤◌, List, [], ◌∷◌, length, map, get_or, sum_by, refl, sym, ap, ap₂, subst, ◌∙◌, string_bytes, String, arith}
use Rattle.std.specs.declared.alloc.Global.{Global}
use Rattle.std.proofs.lemmas.List.{length-map, get_or-map}
use Rattle.std.specs.List.{slice_get}
use Rattle.std.proofs.lemmas.List.Elements.{All-head, All-tail}
use Rattle.std.proofs.lemmas.List.Sums.{sum_by-cons}
use Rattle.std.proofs.lemmas.Option.{slice_get_within, slice_get-get_or, get_or_from_slice_get}
use mathlib.Core.List.{map-map}
use Rattle.indexmap.specs.IndexMap.{values}
use Rattle.axe_algebra.specs.Blocks.{block_start}
use Rattle.axe_algebra.specs.Lists.{listed}
use Rattle.axe_matrix.specs.Matrices.{MatrixValue}
use Rattle.axe_spin.specs.Modules.{ModuleValue, IsModule}
use Rattle.axe_iso.specs.Forms.{FormValue}
use Rattle.axe_series.specs.Runs.{FoundValue}
use Rattle.axe_series.specs.Series.{IsSeries, IsPlaceOf, AreInOrderOfAppearance, sizes_of_places}
use Rattle.axe_report.specs.Limits.{most_words}
use Rattle.axe_report.specs.Names.{names_of}
use Rattle.axe_report.specs.Reports.{WitnessValue, FactorValue, ReportValue, names, dims, multiplicities, counts_in, IsReportHeader, IsWitnessUnder, IsWitnessIn, IsReport}
use Rattle.axe_report.specs.declared.report.ReportHeader.{ReportHeader}
use Rattle.axe_report.specs.declared.report.Version.TheVariants.{Two}
use Rattle.axe_report.proofs.NumberedFactors.{AreNumbered, numbered_report, numbered_by_parts}
use Rattle.axe_chop.specs.Chopped.{dims_of, IsNamed}
use Rattle.axe_chop.specs.Answers.{factor_modules}
use Rattle.axe_chop.specs.Reported.{dims_of_factors, reported_factor, entry_factor, module_header, series_report, IsFoundUnder, witness_of, factor_witnesses, AreWitnessesOf}
use Rattle.axe_chop.specs.declared.chopped.Factor.{Factor}
use Rattle.axe_chop.specs.declared.chopped.Chopped.{Chopped}
use Rattle.axe_chop.proofs.AnswerLaws.{chopped_is_series}
use Rattle.axe_chop.proofs.FormWitnesses.{chopped_has_witnesses}

-- ---- a series has a report

-- the number at a place
place_number : (places : List ℕ) (a : ℕ) → a < length places → IsPlaceOf places a (get_or places a 0)
place_number places a inside = slice_get-get_or places a 0 inside

numbered_from_order : (count : ℕ) (places : List ℕ) → AreInOrderOfAppearance count places → AreNumbered count places
numbered_from_order count places order = record {
  within = λ i inside. order.within i 0 inside;
  appear = λ k below.
      let place : (a : ℕ) × IsPlaceOf places a k = order.appear k below in
      (place.0, slice_get_within places place.0 k place.1, get_or_from_slice_get places place.0 k 0 place.1);
  ascend = λ i k inside less.
      let place : (a : ℕ) × (a < i) × IsPlaceOf places a k = order.ascend i (get_or places i 0) k (place_number places i inside) less in
      (place.0, place.1, get_or_from_slice_get places place.0 k 0 place.2);
}

-- the sizes of blocks add up to where the block after the last begins
sizes_add_up : (f : ℕ → ℕ) (places : List ℕ) → block_start (map f places) (length (map f places)) ≡ sum_by f places
sizes_add_up f [] = refl
sizes_add_up f (p ∷ places) = ap (λ n. f p + n) (sizes_add_up f places) ∙ sym (sum_by-cons f p places)

-- each of so many witnesses is one under the header
witness_at : (header : ReportHeader) (witnesses : List WitnessValue) → All (IsWitnessUnder header) witnesses → (k : ℕ) → k < length witnesses →
    IsWitnessIn Two header (slice_get witnesses k)
witness_at header [] all k below = absurd (omega (arith, below))
witness_at header (w ∷ ws) all zero below = All-head (IsWitnessUnder header) w ws all
witness_at header (w ∷ ws) all (suc k) below = witness_at header ws (All-tail (IsWitnessUnder header) w ws all) k (omega (arith, below))

-- the header of a module keeps its relations
pub header_fits : (m : ModuleValue) (seed words : ℕ) → IsModule m → seed < 2 ^ 64 → words ≤ most_words →
    IsReportHeader (module_header m seed words)
header_fits m seed words is small few = record {
  some_dim = omega (arith, is.over.positive);
  dim = is.dim_fits;
  some_generator = is.some_generator;
  gens = is.generators_fit;
  seed = small;
  words = few;
}

module _ (m : ModuleValue) (seed words : ℕ) (basis : MatrixValue) (factors : List ModuleValue) (witnesses : List WitnessValue) (places : List ℕ)
    (is : IsModule m) (small : seed < 2 ^ 64) (few : words ≤ most_words) (series : IsSeries m basis factors places) (seen : AreWitnessesOf (module_header m seed words) factors witnesses) where
  abbrev ds : List ℕ
  ds = dims_of_factors factors

  abbrev header : ReportHeader
  header = module_header m seed words

  count : length ds ≡ length factors
  count = length-map factors (λ (factor : ModuleValue). factor.dim)

  numbered : AreNumbered (length ds) places
  numbered = subst (λ n. AreNumbered n places) (sym count) (numbered_from_order (length factors) places series.order)

  whole : sum_by (λ p. get_or ds p 0) places ≡ m.dim
  whole = sym (sizes_add_up (λ p. get_or ds p 0) places) ∙ series.triangular.sizes_are.total

  -- each dimension is the size of a block
  some_dimension : (k : ℕ) → k < length ds → 1 ≤ get_or ds k 0
  some_dimension k below =
      let at : (a : ℕ) × (a < length places) × (get_or places a 0 ≡ k) = numbered.appear k below in
      let inside : at.0 < length (sizes_of_places factors places) =
      omega (arith, at.1, length-map places (λ p. get_or ds p 0)) in
      let positive : 0 < get_or (sizes_of_places factors places) at.0 0 = series.triangular.sizes_are.positive at.0 inside in
      let size : get_or (sizes_of_places factors places) at.0 0 ≡ get_or ds k 0 =
      get_or-map (λ p. get_or ds p 0) places at.0 0 0 at.1 ∙ ap (λ p. get_or ds p 0) at.2 in
      omega (arith, positive, size)

  each_witness : (k : ℕ) → k < length ds → IsWitnessIn Two header (slice_get witnesses k)
  each_witness k below = witness_at header witnesses seen.each k (omega (arith, below, count, seen.count))

  pub series_has_report : IsReport (series_report (module_header m seed words) factors witnesses places)
  unfolding series_report
  series_has_report =
      subst (λ n. IsReport (record { header = header; factors = listed n (reported_factor factors witnesses places); series = places })) count
      (numbered_report ds witnesses places numbered some_dimension header (header_fits m seed words is small few) each_witness whole)

-- ---- what is named is reported so

-- the factors' dimensions are those of their forms
dims_of_named : (found : FoundValue) (chopped : Chopped) → IsNamed found chopped → dims_of found.forms ≡ dims_of_factors (factor_modules chopped)
dims_of_named found chopped named =
    ap dims_of (sym named.factors.forms_are)
    ∙ map-map (λ (form : FormValue). form.matrices.dim) (λ (factor : Factor). factor.form) (values chopped.factors)
    ∙ sym (map-map (λ (m : ModuleValue). m.dim) (λ (factor : Factor). factor.form.matrices) (values chopped.factors))

module _ (found : FoundValue) (chopped : Chopped) (named : IsNamed found chopped) where
  abbrev entries : List (String Global × Factor)
  entries = chopped.factors.entries

  abbrev ds_of_named : List ℕ
  ds_of_named = dims_of_factors (factor_modules chopped)

  names_of_entries : names (map entry_factor entries) ≡ names_of ds_of_named
  names_of_entries =
      map-map (λ (f : FactorValue). f.name) entry_factor entries
      ∙ sym (map-map string_bytes (λ (e : String Global × Factor). e.0) entries)
      ∙ named.factors.names_are ∙ ap names_of (dims_of_named found chopped named)

  dims_of_entries : dims (map entry_factor entries) ≡ ds_of_named
  dims_of_entries =
      map-map (λ (f : FactorValue). f.dim) entry_factor entries
      ∙ sym (map-map (λ (factor : Factor). factor.form.matrices.dim) (λ (e : String Global × Factor). e.1) entries)
      ∙ sym (map-map (λ (m : ModuleValue). m.dim) (λ (factor : Factor). factor.form.matrices) (values chopped.factors))

  counts_of_entries : multiplicities (map entry_factor entries) ≡ counts_in chopped.series.items (length ds_of_named)
  unfolding counts_in
  counts_of_entries =
      map-map (λ (f : FactorValue). f.multiplicity) entry_factor entries
      ∙ sym (map-map (λ (factor : Factor). factor.multiplicity) (λ (e : String Global × Factor). e.1) entries)
      ∙ named.factors.multiplicities_are
      ∙ ap₂ counts_in (sym named.series) count_of_forms
    where
      count_of_forms : length found.forms ≡ length ds_of_named
      count_of_forms =
          sym (length-map found.forms (λ (form : FormValue). form.matrices.dim))
          ∙ ap (λ (l : List ℕ). length l) (dims_of_named found chopped named)

  witnesses_of_entries : map (λ (f : FactorValue). f.witness) (map entry_factor entries) ≡ map (λ (w : WitnessValue). Some w) (factor_witnesses chopped)
  witnesses_of_entries =
      map-map (λ (f : FactorValue). f.witness) entry_factor entries
      ∙ sym (map-map (λ (factor : Factor). Some (witness_of factor.form)) (λ (e : String Global × Factor). e.1) entries)
      ∙ sym (map-map (λ (w : WitnessValue). Some w) (λ (factor : Factor). witness_of factor.form) (values chopped.factors))

  pub named_is_reported : map entry_factor entries ≡ listed (length (factor_modules chopped)) (reported_factor (factor_modules chopped) (factor_witnesses chopped) chopped.series.items)
  named_is_reported =
      numbered_by_parts ds_of_named (factor_witnesses chopped) chopped.series.items (map entry_factor entries) names_of_entries dims_of_entries counts_of_entries witnesses_of_entries
      ∙ ap (λ n. listed n (reported_factor (factor_modules chopped) (factor_witnesses chopped) chopped.series.items))
      (length-map (factor_modules chopped) (λ (m : ModuleValue). m.dim))

-- what a report says under a header, of factors as they are named and of their places
module _ (header : ReportHeader) (chopped : Chopped) (found : IsFoundUnder header chopped) (factors : List FactorValue) (series : List ℕ)
    (factors_are : factors ≡ map entry_factor chopped.factors.entries) (series_is : series ≡ chopped.series.items) where
  abbrev report : ReportValue
  report = record { header = header; factors = factors; series = series }

  pub reported : report ≡ series_report header (factor_modules chopped) (factor_witnesses chopped) chopped.series.items
  unfolding series_report
  reported =
      let all : factors ≡ listed (length (factor_modules chopped)) (reported_factor (factor_modules chopped) (factor_witnesses chopped) chopped.series.items) =
      factors_are ∙ named_is_reported found.chopped_is.found chopped found.chopped_is.named in
      λ i. record { header = header; factors = all i; series = series_is i }

  pub reported_is_report : IsReportHeader header → IsReport report
  reported_is_report formed =
      let under : ReportHeader → ReportValue = λ h. series_report h (factor_modules chopped) (factor_witnesses chopped) chopped.series.items in
      subst IsReport (sym (reported ∙ ap under found.header_is))
      (series_has_report found.m header.seed header.words chopped.basis (factor_modules chopped) (factor_witnesses chopped) chopped.series.items found.is_module formed.seed formed.words
      (chopped_is_series found.m found.is_module header.seed header.words chopped found.chopped_is)
      (chopped_has_witnesses found.m found.is_module header.seed header.words chopped found.chopped_is))
