-- The series of a report: its constituents appear in their order, and their dimensions make up that of the module.
use Rattle.std.proofs.Common.{◌≡◌, ℕ, zero, suc, ◌+◌, ◌*◌, ◌<◌, ◌≤◌, eqb, cond, List, [], ◌∷◌, length, map, take, get_or, slice_get, Some, sum_by, ext_get_or, inl, inr, refl, sym, ap, subst, ◌∙◌, arith}
use Rattle.std.specs.List.{range_with_len}
use Rattle.std.proofs.lemmas.Bool.{cases_lt}
use Rattle.std.proofs.lemmas.List.{length-map, get_or-map}
use Rattle.std.proofs.lemmas.List.Sums.{sum_by-cons}
use Rattle.std.proofs.lemmas.Option.{slice_get_within, get_or_from_slice_get}
use Rattle.axe_algebra.specs.Blocks.{block_start, AreBlockSizes}
use Rattle.axe_algebra.specs.Lists.{listed}
use Rattle.axe_algebra.proofs.ListEntries.{listed_length, listed_at}
use Rattle.axe_report.specs.Names.{count_of}
use Rattle.axe_report.specs.Reports.{FactorValue, ReportValue, dims, multiplicities, total_dim, first_appearances, counts_in, IsReport}
use Rattle.axe_report.proofs.NumberedFactors.{AreNumbered, numbered_factor, numbered_total}
use Rattle.axe_report.proofs.Plain.{total_cons}
use Rattle.axe_report.proofs.Orders.{Has, has_from_first, has_range, InOrderTo, in_order_begun, in_order_more, out_of_order}
use Rattle.axe_report.proofs.Members.{places_fit}
use Rattle.axe_series.specs.Series.{IsPlaceOf, AreInOrderOfAppearance}

-- ---- order of appearance

-- what stands in a list has a place there
has_place : (xs : List ℕ) (p : ℕ) → Has xs p → (a : ℕ) × (slice_get xs a ≡ Some p)
has_place [] p h = absurd h
has_place (x ∷ xs) p (inl e) = (0, ap (λ (k : ℕ). Some k) e)
has_place (x ∷ xs) p (inr h) = let (a, at) = has_place xs p h in (suc a, at)

-- and what stands among the first ones has an early place
has_early_place : (xs : List ℕ) (i p : ℕ) → Has (take i xs) p → (a : ℕ) × (a < i) × (slice_get xs a ≡ Some p)
has_early_place [] zero p h = absurd h
has_early_place [] (suc i) p h = absurd h
has_early_place (x ∷ xs) zero p h = absurd h
has_early_place (x ∷ xs) (suc i) p (inl e) = (0, omega arith, ap (λ (k : ℕ). Some k) e)
has_early_place (x ∷ xs) (suc i) p (inr h) = let (a, early, at) = has_early_place xs i p h in (suc a, omega (arith, early), at)

module _ (series : List ℕ) (count : ℕ) (order : first_appearances series ≡ range_with_len 0 count) where
  -- no place is past the next new one
  no_gap : (i seen : ℕ) → i < length series → InOrderTo series i seen → get_or series i 0 ≤ seen
  no_gap i seen inside inv = elim (cases_lt seen (get_or series i 0)) [
    | inl more ↦ absurd (out_of_order series i seen count inside more inv order)
    | inr ge ↦ omega arith
  ]

  seen_to : (i : ℕ) → i ≤ length series → (seen : ℕ) × InOrderTo series i seen
  seen_to zero fits = (0, in_order_begun series)
  seen_to (suc i) fits = next (seen_to i (omega arith))
    where
      next : (seen : ℕ) × InOrderTo series i seen → (seen : ℕ) × InOrderTo series (suc i) seen
      next (seen, inv) =
          let one_more : i + 1 ≡ suc i = omega arith in
          let more : ℕ = cond (eqb (get_or series i 0) seen) 1 0 in (
            seen + more,
            subst (λ (k : ℕ). InOrderTo series k (seen + more)) one_more
                (in_order_more series i seen more (omega arith) (no_gap i seen (omega arith) inv) refl inv),
          )

  earlier_place : (b smaller : ℕ) → b < length series → smaller < get_or series b 0 → (a : ℕ) × (a < b) × IsPlaceOf series a smaller
  earlier_place b smaller inside less = by_seen (seen_to b (omega arith))
    where
      by_seen : (seen : ℕ) × InOrderTo series b seen → (a : ℕ) × (a < b) × IsPlaceOf series a smaller
      by_seen (seen, inv) =
          let small : smaller < seen = omega (arith, no_gap b seen inside inv, less) in
          let listed_there : Has (range_with_len 0 seen) smaller = has_range 0 seen smaller (omega arith) (omega (arith, small)) in
          has_early_place series b smaller
          (has_from_first smaller (take b series) (subst (λ (l : List ℕ). Has l smaller) (sym inv.first) listed_there))

  pub appear_in_order : AreInOrderOfAppearance count series
  appear_in_order = record {
    within = places_fit series count order;
    appear = λ number below.
        has_place series number
        (has_from_first number series (subst (λ (l : List ℕ). Has l number) (sym order) (has_range 0 count number (omega arith) (omega (arith, below)))));
    ascend = λ b number smaller place less.
        let is : get_or series b 0 ≡ number = get_or_from_slice_get series b number 0 place in
        earlier_place b smaller (slice_get_within series b number place) (omega (arith, is, less));
  }

-- ---- dimensions

-- the sizes of blocks add up to where the block after the last begins
sizes_add_up : (f : ℕ → ℕ) (places : List ℕ) → block_start (map f places) (length (map f places)) ≡ sum_by f places
sizes_add_up f [] = refl
sizes_add_up f (p ∷ places) = ap (λ n. f p + n) (sizes_add_up f places) ∙ sym (sum_by-cons f p places)

-- the dimensions of the constituents of the places, in turn
abbrev pub place_sizes : List FactorValue → List ℕ → List ℕ
place_sizes factors places = map (λ number. get_or (dims factors) number 0) places

-- constituents with the same dimensions and multiplicities have one total
total_same : (fs gs : List FactorValue) → dims fs ≡ dims gs → multiplicities fs ≡ multiplicities gs → total_dim fs ≡ total_dim gs
total_same [] [] ds ms = refl
total_same [] (g ∷ gs) ds ms = absurd cc
total_same (f ∷ fs) [] ds ms = absurd cc
total_same (f ∷ fs) (g ∷ gs) ds ms =
    let dim : f.dim ≡ g.dim = cc in
    let multiplicity : f.multiplicity ≡ g.multiplicity = cc in
    let more_dims : dims fs ≡ dims gs = cc in
    let more : multiplicities fs ≡ multiplicities gs = cc in
    total_cons f fs
    ∙ (λ i. dim i * multiplicity i + total_same fs gs more_dims more i)
    ∙ sym (total_cons g gs)

module _ (report : ReportValue) (is : IsReport report) where
  abbrev ds : List ℕ
  ds = dims report.factors

  abbrev listed_factors : List FactorValue
  listed_factors = listed (length ds) (numbered_factor ds [] report.series)

  count : length ds ≡ length report.factors
  count = length-map report.factors (λ (f : FactorValue). f.dim)

  pub reported_order : AreInOrderOfAppearance (length report.factors) report.series
  reported_order = appear_in_order report.series (length report.factors) is.series.order

  numbered : AreNumbered (length ds) report.series
  numbered = subst (λ n. AreNumbered n report.series) (sym count) (record {
    within = λ i inside. reported_order.within i 0 inside;
    appear = λ k below.
        let (a, at) = reported_order.appear k below in
        (a, slice_get_within report.series a k at, get_or_from_slice_get report.series a k 0 at);
    ascend = λ i k inside less.
        let (a, early, at) = earlier_place report.series (length report.factors) is.series.order i k inside less in
        (a, early, get_or_from_slice_get report.series a k 0 at);
  })

  pub some_dimension : (k : ℕ) → k < length report.factors → 1 ≤ get_or ds k 0
  some_dimension k below = is.factors.some_dims k 0 (omega (arith, below, count))

  dims_listed : dims listed_factors ≡ ds
  dims_listed =
      ext_get_or 0 (dims listed_factors) ds
      (length-map listed_factors (λ (f : FactorValue). f.dim) ∙ listed_length (length ds) (numbered_factor ds [] report.series))
      (λ k inside. at k (omega (arith, inside, length-map listed_factors (λ (f : FactorValue). f.dim), listed_length (length ds) (numbered_factor ds [] report.series))))
    where
      at : (k : ℕ) → k < length ds → get_or (dims listed_factors) k 0 ≡ get_or ds k 0
      at k below =
          get_or-map (λ (f : FactorValue). f.dim) listed_factors k (numbered_factor ds [] report.series k) 0
          (omega (arith, below, listed_length (length ds) (numbered_factor ds [] report.series)))
          ∙ ap (λ (f : FactorValue). f.dim) (listed_at (length ds) (numbered_factor ds [] report.series) k (numbered_factor ds [] report.series k) below)

  multiplicities_listed : multiplicities listed_factors ≡ counts_in report.series (length ds)
  unfolding counts_in
  multiplicities_listed =
      ext_get_or 0 (multiplicities listed_factors) (listed (length ds) (λ place. count_of place report.series))
      (length-map listed_factors (λ (f : FactorValue). f.multiplicity) ∙ listed_length (length ds) (numbered_factor ds [] report.series)
      ∙ sym (listed_length (length ds) (λ place. count_of place report.series)))
      (λ k inside. at k (omega (arith, inside, length-map listed_factors (λ (f : FactorValue). f.multiplicity), listed_length (length ds) (numbered_factor ds [] report.series))))
    where
      at : (k : ℕ) → k < length ds → get_or (multiplicities listed_factors) k 0 ≡ get_or (listed (length ds) (λ place. count_of place report.series)) k 0
      at k below =
          get_or-map (λ (f : FactorValue). f.multiplicity) listed_factors k (numbered_factor ds [] report.series k) 0
          (omega (arith, below, listed_length (length ds) (numbered_factor ds [] report.series)))
          ∙ ap (λ (f : FactorValue). f.multiplicity) (listed_at (length ds) (numbered_factor ds [] report.series) k (numbered_factor ds [] report.series k) below)
          ∙ sym (listed_at (length ds) (λ place. count_of place report.series) k 0 below)

  -- the dimensions of the places make up that of the module
  pub whole : sum_by (λ number. get_or ds number 0) report.series ≡ report.header.dim
  whole =
      sym (numbered_total ds [] report.series numbered (λ k below. some_dimension k (omega (arith, below, count))))
      ∙ total_same listed_factors report.factors dims_listed
      (multiplicities_listed ∙ ap (counts_in report.series) count ∙ sym is.series.counted)
      ∙ is.whole

  pub reported_sizes : AreBlockSizes report.header.dim (place_sizes report.factors report.series)
  reported_sizes = record {
    positive = λ b inside.
        let short : b < length report.series = omega (arith, inside, length-map report.series (λ number. get_or ds number 0)) in
        let size : get_or (place_sizes report.factors report.series) b 0 ≡ get_or ds (get_or report.series b 0) 0 =
        get_or-map (λ number. get_or ds number 0) report.series b 0 0 short in
        let some : 1 ≤ get_or ds (get_or report.series b 0) 0 = some_dimension (get_or report.series b 0) (reported_order.within b 0 short) in
        omega (arith, size, some);
    total = sizes_add_up (λ number. get_or ds number 0) report.series ∙ whole;
  }
