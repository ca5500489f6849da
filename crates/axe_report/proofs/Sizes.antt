-- How long a report is.
use Rattle.std.proofs.Common.{◌≡◌, ℕ, zero, suc, ◌+◌, ◌*◌, ◌^◌, ◌<◌, ◌≤◌, cond, eqb, ltb, List, [], ◌∷◌, ◌++◌, length, map, get_or, decimal, sum, Option, Some, None, refl, sym, ap, ◌∙◌, inl, inr, arith, length-append}
use Rattle.std.specs.List.{AllByRecursion, flat_map, range_with_len}
use Rattle.std.proofs.lemmas.Bool.{cases_lt, ne_eqb, eq-eqb, lt-ltb, le-ltb}
use Rattle.std.proofs.lemmas.Fmt.{length-decimal-le}
use Rattle.std.proofs.lemmas.List.Sums.{sum_by-cons, count_by-le-length}
use Rattle.std.proofs.lemmas.List.{length-map}
use Rattle.std.proofs.lemmas.List.Elements.{All-head, All-tail}
use Rattle.axe_field.specs.Order.{Order, order_number}
use Rattle.axe_field.proofs.Orders.{order_number-at_least}
use Rattle.axe_report.specs.Limits.{most_dimension, most_report_bytes}
use Rattle.axe_report.specs.Names.{letters, constituent_name, count_of, names_after, names_of}
use Rattle.axe_report.specs.Reports.{WitnessValue, FactorValue, ReportValue, names, dims, multiplicities, total_dim, counts_in, version_number, IsReportHeader, AreFactors, IsReport}
use Rattle.axe_report.specs.Reports.{IsPolyOver, IsWitnessIn, IsWitnessed, AreWitnessed}
use Rattle.axe_report.specs.Spelling.{header_line, digit_bytes, poly_bytes, witness_bytes, factor_line, place_bytes, series_line, opening_bytes, report_bytes}
use Rattle.axe_report.specs.declared.report.ReportHeader.{ReportHeader}
use Rattle.axe_report.specs.declared.report.Version.{Version}
use Rattle.axe_report.specs.declared.report.Version.TheVariants.{One, Two}
use Rattle.axe_report.proofs.Counts.{count_cons}
use Rattle.axe_report.proofs.Letters.{three_letters}
use Rattle.axe_report.proofs.Plain.{IsPlain, product_some, product_most, all_plain, total_cons, total_none, names_more}
use Rattle.axe_report.proofs.Members.{places_in_range}
use Rattle.axe_report.proofs.Unique.{InRange, version_small, order_small}
use Rattle.axe_report.proofs.WitnessLaws.{few_digits}

-- ---- numbers of constituents

-- each constituent takes at least one dimension
pub length_total : (fs : List FactorValue) → AllByRecursion IsPlain fs → length fs ≤ total_dim fs
length_total [] h = rw total_none (omega arith)
length_total (f ∷ fs) h =
    let total = total_cons f fs in
    let rest = length_total fs h.1 in
    let one = product_some f.dim f.multiplicity h.0.some_dim h.0.some_multiplicity in
    omega (arith, total, rest, one)

sum_multiplicities : (fs : List FactorValue) → AllByRecursion IsPlain fs → sum (multiplicities fs) ≤ total_dim fs
sum_multiplicities [] h = rw total_none (omega arith)
sum_multiplicities (f ∷ fs) h =
    let total = total_cons f fs in
    let rest = sum_multiplicities fs h.1 in
    let one = product_most f.dim f.multiplicity h.0.some_dim in
    let cons : sum (multiplicities (f ∷ fs)) ≡ f.multiplicity + sum (multiplicities fs) = sum_by-cons (λ (x : ℕ). x) f.multiplicity (multiplicities fs) in
    omega (arith, total, rest, one, cons)

-- ---- the length of the series

-- how many members are below a number
abbrev below : ℕ → List ℕ → ℕ
below n [] = 0
below n (x ∷ s) = cond (ltb x n) 1 0 + below n s

below_all : (n : ℕ) (s : List ℕ) → InRange n s → below n s ≡ length s
below_all n [] h = refl
below_all n (x ∷ s) h =
    let rest = below_all n s h.1 in
    rw (lt-ltb x n h.0) (omega (arith, rest))

below_none : (s : List ℕ) → below 0 s ≡ 0
below_none [] = refl
below_none (x ∷ s) =
    let rest = below_none s in
    rw (le-ltb x 0 (omega arith)) (omega (arith, rest))

count_none : (n : ℕ) → count_of n [] ≡ 0
unfolding count_of
count_none n = refl

one_below : (n x : ℕ) → cond (ltb x (n + 1)) 1 0 ≡ cond (ltb x n) 1 0 + cond (eqb x n) 1 0
one_below n x = elim (cases_lt x n) [
  | inl lt ↦ rw (lt-ltb x (n + 1) (omega arith), lt-ltb x n lt, ne_eqb x n (λ e. omega arith)) (omega arith)
  | inr ge ↦ elim (cases_lt n x) [
    | inl lt ↦ rw (le-ltb x (n + 1) (omega arith), le-ltb x n ge, ne_eqb x n (λ e. omega arith)) (omega arith)
    | inr le ↦ rw (lt-ltb x (n + 1) (omega arith), le-ltb x n ge, eq-eqb x n (omega arith)) (omega arith)
  ]
]

below_step : (n : ℕ) (s : List ℕ) → below (n + 1) s ≡ below n s + count_of n s
below_step n [] = rw (count_none n) (omega arith)
below_step n (x ∷ s) =
    let rest = below_step n s in
    let one = one_below n x in
    let count = count_cons n x s in
    omega (arith, rest, one, count)

below_counts : (a n : ℕ) (s : List ℕ) → below (a + n) s ≡ below a s + sum (map (λ (k : ℕ). count_of k s) (range_with_len a n))
below_counts a zero s =
    let place : a + 0 ≡ a = omega arith in
    rw place (omega arith)
below_counts a (suc n) s =
    let place : a + suc n ≡ a + 1 + n = omega arith in
    let rest = below_counts (a + 1) n s in
    let step = below_step a s in
    let cons : sum (map (λ (k : ℕ). count_of k s) (range_with_len a (suc n))) ≡ count_of a s + sum (map (λ (k : ℕ). count_of k s) (range_with_len (a + 1) n)) =
    sum_by-cons (λ (x : ℕ). x) (count_of a s) (map (λ (k : ℕ). count_of k s) (range_with_len (a + 1) n)) in
    ap (λ (k : ℕ). below k s) place ∙ omega (arith, rest, step, cons)

pub series_length : (n : ℕ) (s : List ℕ) → InRange n s → length s ≡ sum (counts_in s n)
unfolding counts_in
series_length n s h =
    let all = below_all n s h in
    let counts = below_counts 0 n s in
    let none = below_none s in
    let place : 0 + n ≡ n = omega arith in
    let counts' = rw place at counts in
    omega (arith, all, counts', none)

-- ---- the lengths of lines

small_decimal : (n : ℕ) → n ≤ most_dimension → length (decimal n) ≤ 4
small_decimal n le = length-decimal-le 4 n (omega arith) (omega arith) (omega arith)

any_decimal : (n : ℕ) → n < 2 ^ 64 → length (decimal n) ≤ 20
any_decimal n lt = length-decimal-le 20 n (omega arith) (omega arith) lt

name_short : (d k : ℕ) → d ≤ most_dimension → k < most_dimension → length (constituent_name d k) ≤ 7
unfolding constituent_name
name_short d k le lt = rw (length-append (decimal d) (letters k)) (omega (arith, small_decimal d le, three_letters k lt))

count_small : (d : ℕ) (ds : List ℕ) → count_of d ds ≤ length ds
unfolding count_of
count_small d ds = count_by-le-length (λ other. eqb other d) ds

abbrev AreShort : List FactorValue → Type 0
AreShort fs = AllByRecursion (λ (f : FactorValue). length f.name ≤ 7) fs

names_short : (fs : List FactorValue) (earlier : List ℕ) → names fs ≡ names_after earlier (dims fs) → AllByRecursion IsPlain fs → length earlier + length fs ≤ most_dimension → AreShort fs
names_short [] earlier n h le = tt
names_short (f ∷ fs) earlier n h le =
    let whole : f.name ∷ names fs ≡ constituent_name f.dim (count_of f.dim earlier) ∷ names_after (earlier ++ f.dim ∷ []) (dims fs) = n ∙ names_more earlier f.dim (dims fs) in
    let one : f.name ≡ constituent_name f.dim (count_of f.dim earlier) = cc in
    let rest : names fs ≡ names_after (earlier ++ f.dim ∷ []) (dims fs) = cc in
    let few : count_of f.dim earlier < most_dimension = omega (arith, count_small f.dim earlier, le) in
    let longer = length-append earlier (f.dim ∷ []) in
    (rw one (name_short f.dim (count_of f.dim earlier) h.0.dim few), names_short fs (earlier ++ f.dim ∷ []) rest h.1 (omega (arith, longer, le)))

-- word= and poly= take 6 bytes each, the number of a word at most 5 and a polynomial at most 13
poly_short : (o : Order) (poly : Option (List ℕ)) → IsPolyOver (order_number o) poly → length (poly_bytes poly) ≤ 19
unfolding poly_bytes digit_bytes
poly_short o None is = omega arith
poly_short o (Some digits) is =
    simp length-append (omega (arith, few_digits (order_number o) digits (order_number-at_least o) is, length-map digits (λ (digit : ℕ). 48 + digit)))

witness_short : (h : ReportHeader) → IsReportHeader h → (v : Version) (witness : Option WitnessValue) → IsWitnessIn v h witness → length (witness_bytes witness) ≤ 30
unfolding witness_bytes
witness_short h formed One None is = omega arith
witness_short h formed One (Some witness) is = absurd is
witness_short h formed Two None is = absurd is
witness_short h formed Two (Some witness) is =
    let word : length (decimal witness.word) ≤ 5 =
    length-decimal-le 5 witness.word (omega arith) (omega (arith, is.word, formed.words)) (omega (arith, is.word, formed.words)) in
    simp length-append (omega (arith, word, poly_short h.field witness.poly is.poly))

factor_short : (h : ReportHeader) (f : FactorValue) → IsReportHeader h → IsWitnessed h f → IsPlain f → length f.name ≤ 7 → length (factor_line f) ≤ 64
unfolding factor_line
factor_short h f formed seen p n =
    simp length-append (omega (arith, n, small_decimal f.dim p.dim, small_decimal f.multiplicity p.multiplicity, witness_short h formed h.version f.witness seen))

factors_short : (h : ReportHeader) (fs : List FactorValue) → IsReportHeader h → AreWitnessed h fs → AllByRecursion IsPlain fs → AreShort fs → length (flat_map factor_line fs) ≤ 64 * length fs
factors_short h [] formed seen p s = omega arith
factors_short h (f ∷ fs) formed seen p s =
    let one = factor_short h f formed (All-head (IsWitnessed h) f fs seen) p.0 s.0 in
    let rest = factors_short h fs formed (All-tail (IsWitnessed h) f fs seen) p.1 s.1 in
    rw (length-append (factor_line f) (flat_map factor_line fs)) (omega (arith, one, rest))

name_at_short : (fs : List FactorValue) (p : ℕ) → AreShort fs → p < length fs → length (get_or (names fs) p []) ≤ 7
name_at_short [] p h lt = absurd (omega (arith, lt))
name_at_short (f ∷ fs) zero h lt = h.0
name_at_short (f ∷ fs) (suc p) h lt = name_at_short fs p h.1 (omega (arith, lt))

places_short : (fs : List FactorValue) (s : List ℕ) → AreShort fs → InRange (length fs) s → length (flat_map (place_bytes fs) s) ≤ 8 * length s
unfolding place_bytes
places_short fs [] h r = omega arith
places_short fs (p ∷ s) h r = rw (length-append (place_bytes fs p) (flat_map (place_bytes fs) s)) (omega (arith, name_at_short fs p h r.0, places_short fs s h r.1))

series_short : (fs : List FactorValue) (s : List ℕ) → AreShort fs → InRange (length fs) s → length (series_line fs s) ≤ 7 + 8 * length s
unfolding series_line
series_short fs s h r = simp length-append (omega (arith, places_short fs s h r))

header_short : (h : ReportHeader) → IsReportHeader h → length (header_line h) ≤ 170
unfolding header_line
header_short h is =
    let v = any_decimal (version_number h.version) (version_small h.version) in
    let q = any_decimal (order_number h.field) (order_small h.field) in
    let d = any_decimal h.dim (omega (arith, is.dim)) in
    let g = any_decimal h.gens (omega (arith, is.gens)) in
    let s = any_decimal h.seed is.seed in
    let w = any_decimal h.words (omega (arith, is.words)) in
    simp length-append (omega (arith, v, q, d, g, s, w))

pub report_within : (r : ReportValue) → IsReport r → length (report_bytes r) ≤ most_report_bytes
unfolding report_bytes opening_bytes names_of
report_within r is =
    let plain = all_plain r.header.dim r.factors is.header.dim is.factors in
    let few = length_total r.factors plain in
    let most = is.header.dim in
    let short = names_short r.factors [] is.factors.named plain (omega (arith, few, is.whole, most)) in
    let range = places_in_range r.series (length r.factors) is.series.order in
    let long : length r.series ≡ sum (multiplicities r.factors) = series_length (length r.factors) r.series range ∙ ap (λ (l : List ℕ). sum l) (sym is.series.counted) in
    let sums = sum_multiplicities r.factors plain in
    let h = header_short r.header is.header in
    let f = factors_short r.header r.factors is.header is.witnessed plain short in
    let s = series_short r.factors r.series short range in
    simp length-append (omega (arith, few, long, sums, h, f, s, is.whole, most))

pub few_factors : (fs : List FactorValue) → AreFactors most_dimension fs → length fs ≤ most_dimension
few_factors fs h = omega (arith, length_total fs (all_plain most_dimension fs (omega arith) h), h.fits)
