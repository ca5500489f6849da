-- A series whose numbers appear in their order is that of a report: of constituents with so many dimensions, listed by number.
use Rattle.std.proofs.Common.{◌≡◌, ℕ, zero, suc, ◌+◌, ◌*◌, ◌<◌, ◌≤◌, eqb, cond, List, [], ◌∷◌, length, map, take, get_or, sum_by, ext_get_or, All, Option, Some, None, inl, inr, refl, sym, ap, ap₂, subst, ◌∙◌, arith}
use Rattle.std.specs.List.{range_with_len, slice_get}
use Rattle.std.proofs.lemmas.Bool.{cases_lt}
use Rattle.std.proofs.lemmas.List.{length-map, get_or-map}
use Rattle.std.proofs.lemmas.List.Elements.{All-from_get_or}
use Rattle.std.proofs.lemmas.List.FromFn.{fill_by_all, get_or-map-range_with_len, length-map-range_with_len, sum_by-map-range_with_len_more}
use Rattle.std.proofs.lemmas.List.Sums.{sum_by-cons}
use Rattle.axe_algebra.specs.Lists.{listed}
use Rattle.axe_report.specs.Names.{count_of, names_of}
use Rattle.axe_report.specs.Reports.{FactorValue, names, dims, multiplicities, total_dim, first_appearances, counts_in, IsReportHeader, AreFactors, IsReport}
use Rattle.axe_report.specs.Reports.{WitnessValue, IsWitnessIn, IsWitnessed, AreWitnessed}
use Rattle.axe_report.specs.declared.report.ReportHeader.{ReportHeader}
use Rattle.axe_report.proofs.Orders.{Has, has_from_first, first_from_has, has_range, range_has, InOrderTo, in_order_begun, in_order_more, in_order_done}
use Rattle.axe_report.proofs.Counts.{count_begun, count_here, count_there, counted_once}
use Rattle.axe_report.proofs.Plain.{length_of}

-- numbers below a count, each of which appears, and after all smaller ones
pub record AreNumbered (count : ℕ) (series : List ℕ) : Type 0 where
  pub within : (i : ℕ) → i < length series → get_or series i 0 < count
  pub appear : (k : ℕ) → k < count → (i : ℕ) × (i < length series) × (get_or series i 0 ≡ k)
  pub ascend : (i k : ℕ) → i < length series → k < get_or series i 0 → (j : ℕ) × (j < i) × (get_or series j 0 ≡ k)

-- ---- first appearances

has_taken : (xs : List ℕ) (i j : ℕ) → j < i → j < length xs → Has (take i xs) (get_or xs j 0)
has_taken [] i j before inside = absurd (omega (arith, inside))
has_taken (x ∷ xs) zero j before inside = absurd (omega (arith, before))
has_taken (x ∷ xs) (suc i) zero before inside = inl refl
has_taken (x ∷ xs) (suc i) (suc j) before inside = inr (has_taken xs i j (omega (arith, before)) (omega (arith, inside)))

has_within : (xs : List ℕ) (bound p : ℕ) → ((i : ℕ) → i < length xs → get_or xs i 0 < bound) → Has xs p → p < bound
has_within [] bound p within h = absurd h
has_within (x ∷ xs) bound p within (inl e) = subst (λ k. k < bound) e (within 0 (omega arith))
has_within (x ∷ xs) bound p within (inr h) = has_within xs bound p (λ i inside. within (suc i) (omega (arith, inside))) h

module _ (count : ℕ) (series : List ℕ) (are : AreNumbered count series) where
  -- what stands among places of which so many numbers appeared is one of these
  seen_before : (i seen p : ℕ) → InOrderTo series i seen → Has (take i series) p → p < seen
  seen_before i seen p inv h =
      let there = range_has 0 seen p (subst (λ (l : List ℕ). Has l p) inv.first (first_from_has p (take i series) h)) in
      omega (arith, there)

  no_gap : (i seen : ℕ) → i < length series → InOrderTo series i seen → get_or series i 0 ≤ seen
  no_gap i seen inside inv = elim (cases_lt seen (get_or series i 0)) [
    | inl less ↦
        let earlier = are.ascend i seen inside less in
        let place : earlier.0 < i = earlier.1 in
        let there : Has (take i series) seen =
        subst (λ (k : ℕ). Has (take i series) k) earlier.2 (has_taken series i earlier.0 place (omega (arith, place, inside))) in
        absurd (omega (arith, seen_before i seen seen inv there))
    | inr ge ↦ omega arith
  ]

  seen_next : (i : ℕ) → i < length series → (seen : ℕ) × InOrderTo series i seen → (seen : ℕ) × InOrderTo series (suc i) seen
  seen_next i inside (seen, inv) =
      let next : i + 1 ≡ suc i = omega arith in
      let more : ℕ = cond (eqb (get_or series i 0) seen) 1 0 in
      (seen + more, subst (λ (k : ℕ). InOrderTo series k (seen + more)) next (in_order_more series i seen more inside (no_gap i seen inside inv) refl inv))

  seen_to : (i : ℕ) → i ≤ length series → (seen : ℕ) × InOrderTo series i seen
  seen_to zero fits = (0, in_order_begun series)
  seen_to (suc i) fits = seen_next i (omega arith) (seen_to i (omega arith))

  all_seen : (seen : ℕ) → InOrderTo series (length series) seen → seen ≡ count
  all_seen seen inv = elim (cases_lt seen count) [
    | inl less ↦
        let at = are.appear seen less in
        let there : Has (take (length series) series) seen =
        subst (λ (k : ℕ). Has (take (length series) series) k) at.2 (has_taken series (length series) at.0 at.1 at.1) in
        absurd (omega (arith, seen_before (length series) seen seen inv there))
    | inr ge ↦ elim (cases_lt count seen) [
      | inl more ↦
          let listed_there : Has (range_with_len 0 seen) count = has_range 0 seen count (omega arith) (omega arith) in
          let there : Has series count =
          has_from_first count series (subst (λ (l : List ℕ). Has l count) (sym (in_order_done series (length series) seen (omega arith) inv)) listed_there) in
          absurd (omega (arith, has_within series count count are.within there))
      | inr le ↦ omega arith
    ]
  ]

  pub numbered_first : first_appearances series ≡ range_with_len 0 count
  numbered_first =
      let end = seen_to (length series) (omega arith) in
      in_order_done series (length series) end.0 (omega arith) end.1
      ∙ ap (λ (k : ℕ). range_with_len 0 k) (all_seen end.0 end.1)

-- ---- constituents by their numbers

-- what a report says of constituent `number` of a series, of constituents of these dimensions
abbrev pub numbered_factor : List ℕ → List WitnessValue → List ℕ → ℕ → FactorValue
numbered_factor ds ws series number = record {
  name = get_or (names_of ds) number [];
  dim = get_or ds number 0;
  multiplicity = count_of number series;
  witness = slice_get ws number;
}

total_more : (ds : List ℕ) (ws : List WitnessValue) (series : List ℕ) (n : ℕ) → total_dim (listed (n + 1) (numbered_factor ds ws series)) ≡ total_dim (listed n (numbered_factor ds ws series)) + get_or ds n 0 * count_of n series
unfolding total_dim
total_more ds ws series n = sum_by-map-range_with_len_more (λ (f : FactorValue). f.dim * f.multiplicity) (numbered_factor ds ws series) 0 n n (omega arith)

total_zero : (ds : List ℕ) (ws : List WitnessValue) (series : List ℕ) → total_dim (listed 0 (numbered_factor ds ws series)) ≡ 0
unfolding total_dim
total_zero ds ws series = refl

-- no place, and one place more: of a later constituent, and of one of these
total_of_none : (ds : List ℕ) (ws : List WitnessValue) (n : ℕ) → total_dim (listed n (numbered_factor ds ws [])) ≡ 0
total_of_none ds ws zero = total_zero ds ws []
total_of_none ds ws (suc n) =
    let next : n + 1 ≡ suc n = omega arith in
    let none : get_or ds n 0 * count_of n [] ≡ 0 = ap (λ k. get_or ds n 0 * k) (sym (count_begun n)) ∙ grind arith in
    let more = total_more ds ws [] n in
    let before : total_dim (listed n (numbered_factor ds ws [])) ≡ 0 = total_of_none ds ws n in
    subst (λ k. total_dim (listed k (numbered_factor ds ws [])) ≡ 0) next (omega (arith, more, none, before))

total_past : (ds : List ℕ) (ws : List WitnessValue) (series : List ℕ) (p n : ℕ) → n ≤ p →
    total_dim (listed n (numbered_factor ds ws (p ∷ series))) ≡ total_dim (listed n (numbered_factor ds ws series))
total_past ds ws series p zero late = total_zero ds ws (p ∷ series) ∙ sym (total_zero ds ws series)
total_past ds ws series p (suc n) late =
    let next : n + 1 ≡ suc n = omega arith in
    let count : count_of n (p ∷ series) ≡ count_of n series = count_there n p series (λ same. omega (arith, same, late)) in
    subst (λ k. total_dim (listed k (numbered_factor ds ws (p ∷ series))) ≡ total_dim (listed k (numbered_factor ds ws series))) next
    (total_more ds ws (p ∷ series) n
    ∙ ap₂ (λ a b. a + get_or ds n 0 * b) (total_past ds ws series p n (omega arith)) count
    ∙ sym (total_more ds ws series n))

times_more : (a b : ℕ) → a * (1 + b) ≡ a + a * b
times_more a b = grind arith

total_with : (ds : List ℕ) (ws : List WitnessValue) (series : List ℕ) (p n : ℕ) → p < n →
    total_dim (listed n (numbered_factor ds ws (p ∷ series))) ≡ get_or ds p 0 + total_dim (listed n (numbered_factor ds ws series))
total_with ds ws series p zero below = absurd (omega (arith, below))
total_with ds ws series p (suc n) below =
    let next : n + 1 ≡ suc n = omega arith in
    let more = total_more ds ws (p ∷ series) n in
    let old = total_more ds ws series n in
    subst (λ k. total_dim (listed k (numbered_factor ds ws (p ∷ series))) ≡ get_or ds p 0 + total_dim (listed k (numbered_factor ds ws series))) next
    (elim (cases_lt p n) [
      | inl before ↦
          let count : get_or ds n 0 * count_of n (p ∷ series) ≡ get_or ds n 0 * count_of n series =
          ap (λ k. get_or ds n 0 * k) (count_there n p series (λ same. omega (arith, same, before))) in
          let rest : total_dim (listed n (numbered_factor ds ws (p ∷ series))) ≡ get_or ds p 0 + total_dim (listed n (numbered_factor ds ws series)) =
          total_with ds ws series p n before in
          omega (arith, more, old, count, rest)
      | inr ge ↦
          let same : n ≡ p = omega arith in
          let count : get_or ds n 0 * count_of n (p ∷ series) ≡ get_or ds n 0 + get_or ds n 0 * count_of n series =
          ap (λ k. get_or ds n 0 * count_of n (k ∷ series)) (sym same) ∙ ap (λ k. get_or ds n 0 * k) (count_here n series)
          ∙ times_more (get_or ds n 0) (count_of n series) in
          let here : get_or ds n 0 ≡ get_or ds p 0 = ap (λ k. get_or ds k 0) same in
          let rest : total_dim (listed n (numbered_factor ds ws (p ∷ series))) ≡ total_dim (listed n (numbered_factor ds ws series)) =
          total_past ds ws series p n ge in
          omega (arith, more, old, count, rest, here)
    ])

-- dimension times multiplicity add up to the dimensions of the places
total_of_places : (ds : List ℕ) (ws : List WitnessValue) (n : ℕ) (series : List ℕ) → ((i : ℕ) → i < length series → get_or series i 0 < n) →
    total_dim (listed n (numbered_factor ds ws series)) ≡ sum_by (λ p. get_or ds p 0) series
total_of_places ds ws n [] within = total_of_none ds ws n
total_of_places ds ws n (p ∷ series) within =
    total_with ds ws series p n (within 0 (omega arith))
    ∙ ap (λ k. get_or ds p 0 + k) (total_of_places ds ws n series (λ i inside. within (suc i) (omega (arith, inside))))
    ∙ sym (sum_by-cons (λ (q : ℕ). get_or ds q 0) p series)

-- ---- the report

module _ (ds : List ℕ) (ws : List WitnessValue) (series : List ℕ) (are : AreNumbered (length ds) series) (some : (k : ℕ) → k < length ds → 1 ≤ get_or ds k 0) where
  abbrev factors : List FactorValue
  factors = listed (length ds) (numbered_factor ds ws series)

  factor_count : length factors ≡ length ds
  factor_count = length-map-range_with_len (numbered_factor ds ws series) 0 (length ds)

  factor_at : (k : ℕ) (e : FactorValue) → k < length ds → get_or factors k e ≡ numbered_factor ds ws series k
  factor_at k e below = get_or-map-range_with_len (numbered_factor ds ws series) 0 (length ds) k k e below (omega arith)

  -- a list with an entry for each constituent
  entries_are : {X : Type 0} (f : FactorValue → X) (xs : List X) (d : X) → length xs ≡ length ds →
      ((k : ℕ) → k < length ds → f (numbered_factor ds ws series k) ≡ get_or xs k d) → map f factors ≡ xs
  entries_are f xs d count each =
      let same : length (map f factors) ≡ length xs = length-map factors f ∙ factor_count ∙ sym count in
      ext_get_or d (map f factors) xs same (λ k inside.
      let below : k < length ds = omega (arith, same, count, inside) in
      get_or-map f factors k (numbered_factor ds ws series k) d (omega (arith, below, factor_count))
      ∙ ap f (factor_at k (numbered_factor ds ws series k) below) ∙ each k below)

  dims_are : dims factors ≡ ds
  dims_are = entries_are (λ (f : FactorValue). f.dim) ds 0 refl (λ k below. refl)

  names_are : names factors ≡ names_of ds
  names_are = entries_are (λ (f : FactorValue). f.name) (names_of ds) [] (length_of ds) (λ k below. refl)

  multiplicities_are : multiplicities factors ≡ counts_in series (length ds)
  unfolding counts_in
  multiplicities_are =
      entries_are (λ (f : FactorValue). f.multiplicity) (map (λ k. count_of k series) (range_with_len 0 (length ds))) 0
      (length-map-range_with_len (λ (k : ℕ). count_of k series) 0 (length ds))
      (λ k below. sym (get_or-map-range_with_len (λ (j : ℕ). count_of j series) 0 (length ds) k k 0 below (omega arith)))

  pub numbered_total : total_dim factors ≡ sum_by (λ p. get_or ds p 0) series
  numbered_total = total_of_places ds ws (length ds) series are.within

  -- each multiplicity is at least 1
  some_multiplicity : (k : ℕ) → k < length ds → 1 ≤ get_or (multiplicities factors) k 0
  unfolding counts_in
  some_multiplicity k below =
      let at = are.appear k below in
      rw (multiplicities_are, get_or-map-range_with_len (λ (j : ℕ). count_of j series) 0 (length ds) k k 0 below (omega arith))
      (counted_once series at.0 k at.1 at.2)

  numbered_factors : (dim : ℕ) → sum_by (λ p. get_or ds p 0) series ≡ dim → AreFactors dim factors
  numbered_factors dim whole = record {
    named = names_are ∙ ap names_of (sym dims_are);
    some_dims = subst (λ (l : List ℕ). All (λ one. 1 ≤ one) l) (sym dims_are) (All-from_get_or (λ one. 1 ≤ one) ds 0 some);
    some_multiplicities = All-from_get_or (λ one. 1 ≤ one) (multiplicities factors) 0
        (λ k inside. some_multiplicity k (omega (arith, inside, length-map factors (λ (f : FactorValue). f.multiplicity), factor_count)));
    fits = omega (arith, numbered_total, whole);
  }

  -- each has its witness
  numbered_witnessed : (header : ReportHeader) → ((k : ℕ) → k < length ds → IsWitnessIn header.version header (slice_get ws k)) → AreWitnessed header factors
  numbered_witnessed header each = All-from_get_or (IsWitnessed header) factors (numbered_factor ds ws series 0) (λ k inside.
      let below : k < length ds = omega (arith, inside, factor_count) in
      subst (IsWitnessed header) (sym (factor_at k (numbered_factor ds ws series 0) below)) (each k below))

  -- the dimensions of the places make up that of the module
  pub numbered_report : (header : ReportHeader) → IsReportHeader header → ((k : ℕ) → k < length ds → IsWitnessIn header.version header (slice_get ws k)) → sum_by (λ p. get_or ds p 0) series ≡ header.dim →
      IsReport (record { header = header; factors = factors; series = series })
  numbered_report header is each whole = record {
    header = is;
    factors = numbered_factors header.dim whole;
    witnessed = numbered_witnessed header each;
    whole = numbered_total ∙ whole;
    series = record {
      order = numbered_first (length ds) series are ∙ ap (λ (k : ℕ). range_with_len 0 k) (sym factor_count);
      counted = multiplicities_are ∙ ap (counts_in series) (sym factor_count);
    };
  }

some_at : (ws : List WitnessValue) (k : ℕ) → get_or (map (λ (w : WitnessValue). Some w) ws) k None ≡ slice_get ws k
some_at [] k = refl
some_at (w ∷ ws) zero = refl
some_at (w ∷ ws) (suc k) = some_at ws k

-- constituents with the names of these dimensions, the dimensions, how often each stands in the series, and these
-- witnesses are these
pub numbered_by_parts : (ds : List ℕ) (ws : List WitnessValue) (series : List ℕ) (fs : List FactorValue) → names fs ≡ names_of ds → dims fs ≡ ds →
    multiplicities fs ≡ counts_in series (length ds) → map (λ (f : FactorValue). f.witness) fs ≡ map (λ (w : WitnessValue). Some w) ws → fs ≡ listed (length ds) (numbered_factor ds ws series)
unfolding counts_in
numbered_by_parts ds ws series fs named sized counted seen = fill_by_all (numbered_factor ds ws series) fs (length ds) none count each
  where
    none : FactorValue
    none = record { name = []; dim = 0; multiplicity = 0; witness = None }

    count : length fs ≡ length ds
    count = sym (length-map fs (λ (f : FactorValue). f.dim)) ∙ ap (λ (l : List ℕ). length l) sized

    each : (k : ℕ) → k < length ds → get_or fs k none ≡ numbered_factor ds ws series k
    each k below =
        let inside : k < length fs = omega (arith, count, below) in
        let name : (get_or fs k none).name ≡ get_or (names_of ds) k [] =
        sym (get_or-map (λ (f : FactorValue). f.name) fs k none [] inside) ∙ ap (λ (l : List (List ℕ)). get_or l k []) named in
        let dim : (get_or fs k none).dim ≡ get_or ds k 0 =
        sym (get_or-map (λ (f : FactorValue). f.dim) fs k none 0 inside) ∙ ap (λ (l : List ℕ). get_or l k 0) sized in
        let multiplicity : (get_or fs k none).multiplicity ≡ count_of k series =
        sym (get_or-map (λ (f : FactorValue). f.multiplicity) fs k none 0 inside) ∙ ap (λ (l : List ℕ). get_or l k 0) counted
        ∙ get_or-map-range_with_len (λ (j : ℕ). count_of j series) 0 (length ds) k k 0 below (omega arith) in
        let witness : (get_or fs k none).witness ≡ slice_get ws k =
        sym (get_or-map (λ (f : FactorValue). f.witness) fs k none None inside) ∙ ap (λ (l : List (Option WitnessValue)). get_or l k None) seen ∙ some_at ws k in
        λ i. record { name = name i; dim = dim i; multiplicity = multiplicity i; witness = witness i }
