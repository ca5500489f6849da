-- Bytes are the spelling of a report, or some line of them is the first that fails.
use Rattle.std.proofs.Common.{◌≡◌, ◌≢◌, ℕ, zero, suc, ◌+◌, ◌-◌, ◌*◌, ◌^◌, ◌<◌, ◌≤◌, ◌⊎◌, List, [], ◌∷◌, ◌++◌, length, map, All, Option, Some, None, slice_index_or, codes, refl, sym, ap, subst, ◌∙◌, inl, inr, append_assoc, append-nil, length-append, arith}
use Rattle.std.specs.List.{AllByRecursion, flat_map, range_with_len}
use Rattle.std.proofs.Math.Decide.{ℕ_discrete, dec_lt, map_dec}
use Rattle.std.proofs.lemmas.List.Elements.{All-push}
use Rattle.axe_field.specs.Order.{Order, Two, Three, Four, Five, Seven, Eight, Nine, order_number}
use Rattle.axe_field.proofs.Orders.{order_number-at_least}
use Rattle.axe_report.specs.Limits.{most_dimension, most_generators, most_words, most_polynomials}
use Rattle.axe_report.specs.Names.{constituent_name, count_of}
use Rattle.axe_report.specs.Reports.{WitnessValue, FactorValue, ReportValue, dims, multiplicities, total_dim, counts_in, first_appearances}
use Rattle.axe_report.specs.Reports.{IsReportHeader, AreFactors, IsFactorAfter, AreDigits, IsPolyOver, IsWitnessUnder, IsWitnessIn, IsWitnessed, AreWitnessed}
use Rattle.axe_report.specs.Reports.{IsSeriesOf, IsReport}
use Rattle.axe_report.specs.Spelling.{header_line, factor_line, place_bytes, series_line, report_bytes}
use Rattle.axe_report.specs.Passing.{IsSpelling, FailsFirstAt}
use Rattle.axe_report.specs.declared.report.ReportHeader.{ReportHeader}
use Rattle.axe_report.specs.declared.report.Version.{Version}
use Rattle.axe_report.specs.declared.report.Version.TheVariants as version
use Rattle.axe_report.proofs.Searching.{dec_both, dec_le, same_list, dec_all, rest_after, some_number, some_list}
use Rattle.axe_report.proofs.Plain.{product_bounds, product_some, total_append, total_one, no_factors, factors_push}
use Rattle.axe_report.proofs.Members.{places_fit}
use Rattle.axe_report.proofs.WitnessLaws.{few_digits, none_witnessed}
use Rattle.axe_report.proofs.Failing.{Opened, fails_header, fails_series, fails_rest, whole_report, flat_map_last}

-- ---- a header

-- a header stands at the front of bytes
abbrev HasHeader : List ℕ → ReportHeader → Type 0
HasHeader bytes h = IsReportHeader h × ((rest : List ℕ) × (bytes ≡ header_line h ++ rest))

formed_header : (h : ReportHeader) → Dec (IsReportHeader h)
formed_header h =
    map_dec
    (λ s. record { some_dim = s.0; dim = s.1.0; some_generator = s.1.1.0; gens = s.1.1.1.0; seed = s.1.1.1.1.0; words = s.1.1.1.1.1 })
    (λ f. (f.some_dim, (f.dim, (f.some_generator, (f.gens, (f.seed, f.words))))))
    (dec_both (dec_le 1 h.dim) (dec_both (dec_le h.dim most_dimension) (dec_both (dec_le 1 h.gens) (dec_both (dec_le h.gens most_generators) (dec_both (dec_lt h.seed (2 ^ 64)) (dec_le h.words most_words))))))

-- the header with these numbers
abbrev with_numbers : Version → Order → ℕ → ℕ → ℕ → ℕ → ReportHeader
with_numbers v o d g s w = record { version = v; field = o; dim = d; gens = g; seed = s; words = w }

of_versions : (P : Version → Type 0) → ((v : Version) → Dec (P v)) → Dec ((v : Version) × P v)
of_versions P each = elim (each version.One) [
  | yes p ↦ yes (version.One, p)
  | no first ↦ elim (each version.Two) [ yes p ↦ yes (version.Two, p) | no second ↦ no (λ s. neither first second s.0 s.1) ]
]
  where
    neither : ¬ (P version.One) → ¬ (P version.Two) → (v : Version) → P v → ⊥
    neither first second version.One p = first p
    neither first second version.Two p = second p

of_orders : (P : Order → Type 0) → ((o : Order) → Dec (P o)) → Dec ((o : Order) × P o)
of_orders P each = elim (each Two) [
  | yes p ↦ yes (Two, p)
  | no two ↦
      elim (each Three) [
        | yes p ↦ yes (Three, p)
        | no three ↦
            elim (each Four) [
              | yes p ↦ yes (Four, p)
              | no four ↦
                  elim (each Five) [
                    | yes p ↦ yes (Five, p)
                    | no five ↦
                        elim (each Seven) [
                          | yes p ↦ yes (Seven, p)
                          | no seven ↦
                              elim (each Eight) [
                                | yes p ↦ yes (Eight, p)
                                | no eight ↦
                                    elim (each Nine) [ yes p ↦ yes (Nine, p) | no nine ↦ no (λ s. none two three four five seven eight nine s.0 s.1) ]
                              ]
                        ]
                  ]
            ]
      ]
]
  where
    none : ¬ (P Two) → ¬ (P Three) → ¬ (P Four) → ¬ (P Five) → ¬ (P Seven) → ¬ (P Eight) → ¬ (P Nine) → (o : Order) → P o → ⊥
    none two three four five seven eight nine Two p = two p
    none two three four five seven eight nine Three p = three p
    none two three four five seven eight nine Four p = four p
    none two three four five seven eight nine Five p = five p
    none two three four five seven eight nine Seven p = seven p
    none two three four five seven eight nine Eight p = eight p
    none two three four five seven eight nine Nine p = nine p

some_header : (bytes : List ℕ) → Dec ((h : ReportHeader) × HasHeader bytes h)
some_header bytes =
    map_dec
    (λ s. (with_numbers s.0 s.1.0 s.1.1.0 s.1.1.1.0 s.1.1.1.1.0 s.1.1.1.1.1.0, s.1.1.1.1.1.1))
    (λ s. (s.0.version, (s.0.field, (s.0.dim, (s.0.gens, (s.0.seed, (s.0.words, s.1)))))))
    (of_versions _ (λ v. of_orders _ (λ o.
    some_number (λ d. (g : ℕ) × ((s : ℕ) × ((w : ℕ) × HasHeader bytes (with_numbers v o d g s w)))) (λ d.
    some_number (λ g. (s : ℕ) × ((w : ℕ) × HasHeader bytes (with_numbers v o d g s w))) (λ g.
    some_number (λ s. (w : ℕ) × HasHeader bytes (with_numbers v o d g s w)) (λ s.
    some_number (λ w. HasHeader bytes (with_numbers v o d g s w)) (λ w.
    dec_both (formed_header (with_numbers v o d g s w)) (rest_after (header_line (with_numbers v o d g s w)) bytes))
    (most_words + 1) (λ w at. omega (arith, at.0.words)))
    (2 ^ 64) (λ s at. at.1.0.seed))
    (most_generators + 1) (λ g at. omega (arith, at.1.1.0.gens)))
    (most_dimension + 1) (λ d at. omega (arith, at.1.1.1.0.dim)))))

-- ---- a witness

digits_are : (order : ℕ) (digits : List ℕ) → Dec (AreDigits order digits)
digits_are order digits =
    map_dec
    (λ s. record { some_degree = s.0; small = s.1.0; elements = s.1.1.0; monic = s.1.1.1 })
    (λ a. (a.some_degree, (a.small, (a.elements, a.monic))))
    (dec_both (dec_le 2 (length digits)) (dec_both (dec_le (order ^ (length digits - 1)) most_polynomials)
    (dec_both (dec_all (λ digit. digit < order) (λ digit. dec_lt digit order) digits) (ℕ_discrete (slice_index_or digits (length digits - 1) 0) 1))))

some_digits : (order : ℕ) → 2 ≤ order → (P : List ℕ → Type 0) → ((l : List ℕ) → Dec (P l)) → Dec ((l : List ℕ) × (AreDigits order l × P l))
some_digits order least P each =
    some_list order 13 (λ l. AreDigits order l × P l) (λ l. dec_both (digits_are order l) (each l)) (λ l s. (few_digits order l least s.0, s.0.elements))

some_poly : (order : ℕ) → 2 ≤ order → (P : Option (List ℕ) → Type 0) → ((p : Option (List ℕ)) → Dec (P p)) → Dec ((p : Option (List ℕ)) × IsPolyOver order p × P p)
some_poly order least P each = elim (each None) [
  | yes p ↦ yes (None, tt, p)
  | no first ↦ elim (some_digits order least (λ l. P (Some l)) (λ l. each (Some l))) [
    | yes s ↦ yes (Some s.0, s.1.0, s.1.1)
    | no second ↦ no (λ s. neither first second s.0 s.1 s.2)
  ]
]
  where
    neither : ¬ (P None) → ¬ ((l : List ℕ) × (AreDigits order l × P (Some l))) → (p : Option (List ℕ)) → IsPolyOver order p → P p → ⊥
    neither first second None is p = first p
    neither first second (Some l) is p = second (l, (is, p))

some_witness : (v : Version) (h : ReportHeader) (P : Option WitnessValue → Type 0) → ((w : Option WitnessValue) → Dec (P w)) → Dec ((w : Option WitnessValue) × IsWitnessIn v h w × P w)
some_witness version.One h P each = elim (each None) [
  | yes p ↦ yes (None, tt, p)
  | no first ↦ no (λ s. never first s.0 s.1 s.2)
]
  where
    never : ¬ (P None) → (w : Option WitnessValue) → IsWitnessIn version.One h w → P w → ⊥
    never first None is p = first p
    never first (Some w) is p = is
some_witness version.Two h P each =
    map_dec
    (λ s. (Some (record { word = s.0; poly = s.1.0 }), record { word = s.1.2.0; poly = s.1.1 }, s.1.2.1))
    (λ s. parts s.0 s.1 s.2)
    (some_number (λ n. (poly : Option (List ℕ)) × IsPolyOver (order_number h.field) poly × ((n ≤ h.words) × P (Some (record { word = n; poly = poly })))) (λ n.
    some_poly (order_number h.field) (order_number-at_least h.field) (λ poly. (n ≤ h.words) × P (Some (record { word = n; poly = poly }))) (λ poly.
    dec_both (dec_le n h.words) (each (Some (record { word = n; poly = poly })))))
    (h.words + 1) (λ n s. omega (arith, s.2.0)))
  where
    parts : (w : Option WitnessValue) → IsWitnessIn version.Two h w → P w → (n : ℕ) × ((poly : Option (List ℕ)) × IsPolyOver (order_number h.field) poly × ((n ≤ h.words) × P (Some (record { word = n; poly = poly }))))
    parts None is p = absurd is
    parts (Some w) is p = (w.word, (w.poly, is.poly, (is.word, p)))

-- ---- the next constituent

-- the line of a constituent stands at the front of bytes that may come after these
abbrev IsNext : ReportHeader → List FactorValue → List ℕ → FactorValue → Type 0
IsNext h fs text f = IsFactorAfter h.dim fs f × IsWitnessed h f × ((rest : List ℕ) × (text ≡ factor_line f ++ rest))

abbrev next_with : List FactorValue → ℕ → ℕ → Option WitnessValue → FactorValue
next_with fs d m w = record { name = constituent_name d (count_of d (dims fs)); dim = d; multiplicity = m; witness = w }

comes_after : (dim : ℕ) (fs : List FactorValue) (d m : ℕ) (w : Option WitnessValue) → Dec (IsFactorAfter dim fs (next_with fs d m w))
comes_after dim fs d m w =
    map_dec
    (λ s. record { name = refl; some_dim = s.0; some_multiplicity = s.1.0; fits = s.1.1 })
    (λ a. (a.some_dim, (a.some_multiplicity, a.fits)))
    (dec_both (dec_le 1 d) (dec_both (dec_le 1 m) (dec_le (total_dim fs + d * m) dim)))

small_dim : (dim : ℕ) (fs : List FactorValue) (f : FactorValue) → IsFactorAfter dim fs f → (f.dim < dim + 1) × (f.multiplicity < dim + 1)
small_dim dim fs f a =
    let bounds = product_bounds f.dim f.multiplicity dim a.some_dim a.some_multiplicity (omega (arith, a.fits)) in
    (omega (arith, bounds.0), omega (arith, bounds.1))

named_next : (h : ReportHeader) (fs : List FactorValue) (text : List ℕ) (f : FactorValue) → IsNext h fs text f → IsNext h fs text (next_with fs f.dim f.multiplicity f.witness)
named_next h fs text f is = subst (IsNext h fs text) (λ i. record { name = is.0.name i; dim = f.dim; multiplicity = f.multiplicity; witness = f.witness }) is

-- the line of a constituent with these numbers stands there
abbrev IsNextWith : ReportHeader → List FactorValue → List ℕ → ℕ → ℕ → Option WitnessValue → Type 0
IsNextWith h fs text d m w = IsFactorAfter h.dim fs (next_with fs d m w) × ((rest : List ℕ) × (text ≡ factor_line (next_with fs d m w) ++ rest))

next_numbers : (h : ReportHeader) (fs : List FactorValue) (text : List ℕ) →
    Dec ((d : ℕ) × ((m : ℕ) × ((w : Option WitnessValue) × IsWitnessIn h.version h w × IsNextWith h fs text d m w)))
next_numbers h fs text =
    some_number (λ d. (m : ℕ) × ((w : Option WitnessValue) × IsWitnessIn h.version h w × IsNextWith h fs text d m w)) (λ d.
    some_number (λ m. (w : Option WitnessValue) × IsWitnessIn h.version h w × IsNextWith h fs text d m w) (λ m.
    some_witness h.version h (λ w. IsNextWith h fs text d m w) (λ w.
    dec_both (comes_after h.dim fs d m w) (rest_after (factor_line (next_with fs d m w)) text)))
    (h.dim + 1) (λ m s. (small_dim h.dim fs (next_with fs d m s.0) s.2.0).1))
    (h.dim + 1) (λ d s. (small_dim h.dim fs (next_with fs d s.0 s.1.0) s.1.2.0).0)

some_next : (h : ReportHeader) (fs : List FactorValue) (text : List ℕ) → Dec ((f : FactorValue) × IsNext h fs text f)
some_next h fs text =
    map_dec
    (λ s. (next_with fs s.0 s.1.0 s.1.1.0, (s.1.1.2.0, s.1.1.1, s.1.1.2.1)))
    (λ s. let is = named_next h fs text s.0 s.1 in (s.0.dim, (s.0.multiplicity, (s.0.witness, is.1, (is.0, is.2)))))
    (next_numbers h fs text)

-- ---- the series

places_within : (fs : List FactorValue) (s : List ℕ) → length s ≤ length (flat_map (place_bytes fs) s)
unfolding place_bytes
places_within fs [] = omega arith
places_within fs (x ∷ s) =
    let rest = places_within fs s in
    let both = length-append (place_bytes fs x) (flat_map (place_bytes fs) s) in
    omega (arith, rest, both)

series_within : (fs : List FactorValue) (s rest : List ℕ) → length s ≤ length (series_line fs s ++ rest)
unfolding series_line
series_within fs s rest =
    let places = places_within fs s in
    let all = length-append (codes "series" ++ flat_map (place_bytes fs) s ++ 10 ∷ []) rest in
    let most = length-append (codes "series" ++ flat_map (place_bytes fs) s) (10 ∷ []) in
    let first = length-append (codes "series") (flat_map (place_bytes fs) s) in
    omega (arith, places, all, most, first)

series_of : (fs : List FactorValue) (s : List ℕ) → Dec (IsSeriesOf fs s)
series_of fs s =
    map_dec (λ p. record { order = p.0; counted = p.1 }) (λ is. (is.order, is.counted))
    (dec_both (same_list (first_appearances s) (range_with_len 0 (length fs))) (same_list (multiplicities fs) (counts_in s (length fs))))

some_series : (fs : List FactorValue) (text : List ℕ) → Dec ((s : List ℕ) × (IsSeriesOf fs s × ((rest : List ℕ) × (text ≡ series_line fs s ++ rest))))
some_series fs text =
    some_list (length fs) (length text) (λ s. IsSeriesOf fs s × ((rest : List ℕ) × (text ≡ series_line fs s ++ rest)))
    (λ s. dec_both (series_of fs s) (rest_after (series_line fs s) text))
    (λ s is.
    let most = series_within fs s is.1.0 in
    let same : length text ≡ length (series_line fs s ++ is.1.0) = ap (λ (l : List ℕ). length l) is.1.1 in
    (omega (arith, most, same), places_fit s (length fs) is.0.order))

-- ---- the whole

-- a spelling, or a line that is the first that fails
abbrev pub IsAnswered : List ℕ → Type 0
IsAnswered bytes = IsSpelling bytes ⊎ ((line : ℕ) × FailsFirstAt bytes line)

-- all constituents that stand there are found
last_answered : (bytes : List ℕ) (h : ReportHeader) (fs : List FactorValue) (text : List ℕ) → Opened bytes h fs text → IsAnswered bytes
last_answered bytes h fs text o = elim (ℕ_discrete (total_dim fs) h.dim) [
  | no less ↦ inr (length fs + 2, fails_series bytes h fs text o (λ s x is whole. absurd (less whole)) (length fs + 2) refl)
  | yes whole ↦ elim (some_series fs text) [
    | no none ↦ inr (length fs + 2, fails_series bytes h fs text o (λ s x is whole e. none (s, (is, (x, e)))) (length fs + 2) refl)
    | yes found ↦ rest_answered bytes h fs found.0 text found.1.1.0 o found.1.0 whole found.1.1.1
  ]
]
  where
    rest_answered : (bytes : List ℕ) (h : ReportHeader) (fs : List FactorValue) (s text rest : List ℕ) → Opened bytes h fs text → IsSeriesOf fs s → total_dim fs ≡ h.dim → text ≡ series_line fs s ++ rest → IsAnswered bytes
    rest_answered bytes h fs s text [] o is whole e =
        inl (record { header = h; factors = fs; series = s }, record { header = o.is_header; factors = o.factors; witnessed = o.witnessed; whole = whole; series = is }, whole_report bytes (record { header = h; factors = fs; series = s }) text o e)
    rest_answered bytes h fs s text (x ∷ rest) o is whole e =
        inr (
          length fs + 3,
          fails_rest bytes (record { header = h; factors = fs; series = s }) text (x ∷ rest) o
              (record { header = o.is_header; factors = o.factors; witnessed = o.witnessed; whole = whole; series = is }) e (λ none. absurd cc) (length fs + 3) refl,
        )

-- these constituents stand there, and `room` more dimensions are left
next_answered : (room : ℕ) (bytes : List ℕ) (h : ReportHeader) (fs : List FactorValue) (text : List ℕ) → IsReportHeader h → AreFactors h.dim fs → AreWitnessed h fs → bytes ≡ header_line h ++ (flat_map factor_line fs ++ text)
    → h.dim ≤ total_dim fs + room → IsAnswered bytes
next_answered zero bytes h fs text formed are seen e few = elim (some_next h fs text) [
  | no none ↦ last_answered bytes h fs text (record { is_header = formed; factors = are; witnessed = seen; spelled = e; all = λ f x after is there. none (f, (after, is, (x, there))) })
  | yes next ↦
      let f = next.0 in
      let after = next.1.0 in
      absurd (omega (arith, few, after.fits, product_some f.dim f.multiplicity after.some_dim after.some_multiplicity))
]
next_answered (suc room) bytes h fs text formed are seen e few = elim (some_next h fs text) [
  | no none ↦ last_answered bytes h fs text (record { is_header = formed; factors = are; witnessed = seen; spelled = e; all = λ f x after is there. none (f, (after, is, (x, there))) })
  | yes next ↦
      let f = next.0 in
      let after = next.1.0 in
      let rest = next.1.2.0 in
      let total : total_dim (fs ++ f ∷ []) ≡ total_dim fs + f.dim * f.multiplicity = total_append fs (f ∷ []) ∙ ap (λ (n : ℕ). total_dim fs + n) (total_one f) in
      let some = product_some f.dim f.multiplicity after.some_dim after.some_multiplicity in
      let spelled : bytes ≡ header_line h ++ (flat_map factor_line (fs ++ f ∷ []) ++ rest) =
      e ∙ ap (λ (l : List ℕ). header_line h ++ (flat_map factor_line fs ++ l)) next.1.2.1 ∙ ap (λ (l : List ℕ). header_line h ++ l) (sym (flat_map_last fs f rest)) in
      next_answered room bytes h (fs ++ f ∷ []) rest formed (factors_push h.dim fs f are after) (All-push (IsWitnessed h) fs f seen next.1.1) spelled (omega (arith, few, total, some))
]

pub answered : (bytes : List ℕ) → IsAnswered bytes
answered bytes = elim (some_header bytes) [
  | no none ↦ inr (1, fails_header bytes (λ h x formed e. none (h, (formed, (x, e)))))
  | yes found ↦ next_answered found.0.dim bytes found.0 [] found.1.1.0 found.1.0 (no_factors found.0.dim) (none_witnessed found.0) found.1.1.1 (omega arith)
]
