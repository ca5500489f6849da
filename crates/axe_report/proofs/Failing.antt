-- The first line that fails.
use Rattle.std.proofs.Common.{◌≡◌, ◌≢◌, ℕ, Bool, true, false, eqb, zero, suc, ◌+◌, ◌-◌, ◌<◌, ◌≤◌, ◌⊎◌, List, [], ◌∷◌, ◌++◌, length, refl, sym, ap, subst, ◌∙◌, inl, inr, append_assoc, append-nil, length-append, arith}
use Rattle.std.specs.List.{flat_map}
use Rattle.std.proofs.lemmas.Bool.{cases_lt, eqb-true, eq-eqb}
use Rattle.std.proofs.lemmas.List.{nil_from_length}
use Rattle.axe_report.specs.Limits.{most_dimension}
use Rattle.axe_report.specs.Reports.{FactorValue, ReportValue, total_dim, IsReportHeader, AreFactors, IsFactorAfter, IsWitnessed, AreWitnessed, IsSeriesOf, IsReport}
use Rattle.axe_report.specs.Spelling.{header_line, factor_line, series_line, opening_bytes, report_bytes}
use Rattle.axe_report.specs.Passing.{LinesPass, FailsFirstAt}
use Rattle.axe_report.specs.declared.report.ReportHeader.{ReportHeader}
use Rattle.axe_report.proofs.Members.{places_in_range}
use Rattle.axe_report.proofs.Plain.{all_plain, all_distinct, factors_front, factor_after, no_factors}
use Rattle.axe_report.proofs.WitnessLaws.{all_lines, none_witnessed, next_witnessed, first_witnessed}
use Rattle.axe_report.proofs.Unique.{InRange, header_unique, lines_front, none_between, series_unique, opening_open, report_open, report_unique}

-- ---- the first line

pub fails_header : (bytes : List ℕ) → ((h : ReportHeader) (x : List ℕ) → IsReportHeader h → bytes ≢ header_line h ++ x) → FailsFirstAt bytes 1
fails_header bytes none = record {
  some_line = omega arith;
  no_report = λ s. none s.0.header _ s.1.header (s.2 ∙ sym (append-nil (report_bytes s.0)) ∙ report_open s.0 []);
  before = inl refl;
  fails = λ pass. elim pass [
    | inl none ↦ omega (arith, none)
    | inr (inl o) ↦ none o.header _ o.is_header (o.spelled ∙ opening_open o.header o.factors o.rest)
    | inr (inr r) ↦ none r.report.header _ r.is_report.header (r.spelled ∙ report_open r.report r.rest)
  ];
}

-- where the line of a header stands at the front, the first line does not fail
pub header_passes : (bytes : List ℕ) (h : ReportHeader) (x : List ℕ) → IsReportHeader h → bytes ≡ header_line h ++ x → FailsFirstAt bytes 1 → ⊥
header_passes bytes h x is e bad =
    bad.fails (inr (inl (record { header = h; factors = []; rest = x; is_header = is; are_factors = no_factors h.dim; are_witnessed = none_witnessed h; count = refl; spelled = e ∙ sym (opening_open h [] x) })))

-- ---- the lines of the constituents are read

-- the header and these constituents stand at the front, and no further one follows
pub record Opened (bytes : List ℕ) (h : ReportHeader) (fs : List FactorValue) (text : List ℕ) : Type 0 where
  pub is_header : IsReportHeader h
  pub factors : AreFactors h.dim fs
  pub witnessed : AreWitnessed h fs
  pub spelled : bytes ≡ header_line h ++ (flat_map factor_line fs ++ text)
  pub all : (f : FactorValue) (x : List ℕ) → IsFactorAfter h.dim fs f → IsWitnessed h f → text ≢ factor_line f ++ x

-- no more constituents stand there
no_more : (h : ReportHeader) (fs hs : List FactorValue) (text y : List ℕ) → ((f : FactorValue) (x : List ℕ) → IsFactorAfter h.dim fs f → IsWitnessed h f → text ≢ factor_line f ++ x)
    → AreFactors h.dim (fs ++ hs) → AreWitnessed h (fs ++ hs) → text ≡ flat_map factor_line hs ++ y → hs ≡ []
no_more h fs [] text y all are seen e = refl
no_more h fs (f ∷ hs) text y all are seen e =
    let shape : fs ++ f ∷ hs ≡ (fs ++ f ∷ []) ++ hs = sym (append_assoc fs (f ∷ []) hs) in
    let front = factors_front h.dim (fs ++ f ∷ []) hs (subst (λ (l : List FactorValue). AreFactors h.dim l) shape are) in
    absurd (all f _ (factor_after h.dim fs f front) (next_witnessed h fs f hs seen) (e ∙ append_assoc (factor_line f) (flat_map factor_line hs) y))

-- the constituents of any opening are among these
few_lines : (bytes : List ℕ) (h g : ReportHeader) (fs gs : List FactorValue) (text y : List ℕ) → Opened bytes h fs text → IsReportHeader g → AreFactors g.dim gs → AreWitnessed g gs → bytes ≡ header_line g ++ (flat_map factor_line gs ++ y)
    → length gs ≤ length fs
few_lines bytes h g fs gs text y o ig ag wg e = elim (cases_lt (length fs) (length gs)) [
  | inr le ↦ le
  | inl lt ↦
      let same = header_unique h g _ _ o.is_header ig (sym o.spelled ∙ e) in
      let ag' : AreFactors h.dim gs = subst (λ (k : ReportHeader). AreFactors k.dim gs) (sym same.0) ag in
      let wg' : AreWitnessed h gs = subst (λ (k : ReportHeader). AreWitnessed k gs) (sym same.0) wg in
      let front = lines_front fs gs text y (omega arith) (all_lines h fs o.is_header o.factors o.witnessed) (all_lines h gs o.is_header ag' wg') same.1 in
      let none =
      no_more h fs front.0 text y o.all (subst (λ (l : List FactorValue). AreFactors h.dim l) front.1 ag') (subst (λ (l : List FactorValue). AreWitnessed h l) front.1 wg') front.2 in
      let count : length gs ≡ length fs = ap (λ (l : List FactorValue). length l) (front.1 ∙ ap (λ (l : List FactorValue). fs ++ l) none ∙ append-nil fs) in
      omega (arith, count)
]

-- any report at the front has these constituents, and its series comes next
pub only_report : (bytes : List ℕ) (h : ReportHeader) (fs : List FactorValue) (text : List ℕ) (r : ReportValue) (x : List ℕ) → Opened bytes h fs text → IsReport r → bytes ≡ report_bytes r ++ x
    → (h ≡ r.header) × (fs ≡ r.factors) × (text ≡ series_line fs r.series ++ x)
only_report bytes h fs text r x o is e =
    let same = header_unique h r.header _ _ o.is_header is.header (sym o.spelled ∙ e ∙ report_open r x) in
    let are : AreFactors h.dim r.factors = subst (λ (k : ReportHeader). AreFactors k.dim r.factors) (sym same.0) is.factors in
    let seen : AreWitnessed h r.factors = subst (λ (k : ReportHeader). AreWitnessed k r.factors) (sym same.0) is.witnessed in
    let few = few_lines bytes h r.header fs r.factors text _ o is.header is.factors is.witnessed (e ∙ report_open r x) in
    let front = lines_front r.factors fs _ text few (all_lines h r.factors o.is_header are seen) (all_lines h fs o.is_header o.factors o.witnessed) (sym same.1) in
    let none = none_between front.0 r.factors r.series x text front.2 in
    let factors : fs ≡ r.factors = front.1 ∙ ap (λ (l : List FactorValue). r.factors ++ l) none ∙ append-nil r.factors in
    (same.0, factors, sym (front.2 ∙ ap (λ (l : List FactorValue). flat_map factor_line l ++ text) none) ∙ ap (λ (l : List FactorValue). series_line l r.series ++ x) (sym factors))

-- the next line is no series line of a report
pub fails_series : (bytes : List ℕ) (h : ReportHeader) (fs : List FactorValue) (text : List ℕ) → Opened bytes h fs text
    → ((s x : List ℕ) → IsSeriesOf fs s → total_dim fs ≡ h.dim → text ≢ series_line fs s ++ x) → (line : ℕ) → line ≡ length fs + 2 → FailsFirstAt bytes line
fails_series bytes h fs text o none line e =
    let never : (r : ReportValue) (x : List ℕ) → IsReport r → bytes ≡ report_bytes r ++ x → ⊥ = λ r x is there.
    let only = only_report bytes h fs text r x o is there in
    let whole : total_dim fs ≡ h.dim = ap total_dim only.1 ∙ is.whole ∙ ap (λ (k : ReportHeader). k.dim) (sym only.0) in
    none r.series x (subst (λ (l : List FactorValue). IsSeriesOf l r.series) (sym only.1) is.series) whole only.2 in
    record {
      some_line = omega arith;
      no_report = λ s. never s.0 [] s.1 (s.2 ∙ sym (append-nil (report_bytes s.0)));
      before = inr (inl (record { header = h; factors = fs; rest = text; is_header = o.is_header; are_factors = o.factors; are_witnessed = o.witnessed; count = omega arith; spelled = o.spelled ∙ sym (opening_open h fs text) }));
      fails = λ pass. elim pass [
        | inl none ↦ omega (arith, none)
        | inr (inl p) ↦
            let few = few_lines bytes h p.header fs p.factors text p.rest o p.is_header p.are_factors p.are_witnessed (p.spelled ∙ opening_open p.header p.factors p.rest) in
            omega (arith, few, p.count)
        | inr (inr r) ↦ never r.report r.rest r.is_report r.spelled
      ];
    }

-- bytes stand after a whole report
pub fails_rest : (bytes : List ℕ) (r : ReportValue) (text rest : List ℕ) → Opened bytes r.header r.factors text → IsReport r → text ≡ series_line r.factors r.series ++ rest → (rest ≡ [] → ⊥)
    → (line : ℕ) → line ≡ length r.factors + 3 → FailsFirstAt bytes line
fails_rest bytes r text rest o is there some line e =
    let whole : bytes ≡ report_bytes r ++ rest = o.spelled ∙ ap (λ (l : List ℕ). header_line r.header ++ (flat_map factor_line r.factors ++ l)) there ∙ sym (report_open r rest) in
    record {
      some_line = omega arith;
      no_report = λ s. some (report_unique r s.0 rest [] is s.1 (sym whole ∙ s.2 ∙ sym (append-nil (report_bytes s.0)))).1;
      before = inr (inr (record { report = r; rest = rest; is_report = is; count = omega arith; spelled = whole }));
      fails = λ pass. elim pass [
        | inl none ↦ omega (arith, none)
        | inr (inl p) ↦
            let few = few_lines bytes r.header p.header r.factors p.factors text p.rest o p.is_header p.are_factors p.are_witnessed (p.spelled ∙ opening_open p.header p.factors p.rest) in
            omega (arith, few, p.count)
        | inr (inr q) ↦
            let only = only_report bytes r.header r.factors text q.report q.rest o q.is_report q.spelled in
            let count : length r.factors ≡ length q.report.factors = ap (λ (l : List FactorValue). length l) only.1 in
            omega (arith, count, q.count)
      ];
    }

-- ---- what the checks say

pub whole_report : (bytes : List ℕ) (r : ReportValue) (text : List ℕ) → Opened bytes r.header r.factors text → text ≡ series_line r.factors r.series ++ [] → bytes ≡ report_bytes r
whole_report bytes r text o there =
    o.spelled ∙ ap (λ (l : List ℕ). header_line r.header ++ (flat_map factor_line r.factors ++ l)) there ∙ sym (report_open r []) ∙ append-nil (report_bytes r)

-- another series does not stand there
pub other_series : (dim : ℕ) (fs : List FactorValue) (text s rest : List ℕ) → dim ≤ most_dimension → AreFactors dim fs → InRange (length fs) s → text ≡ series_line fs s ++ rest → (IsSeriesOf fs s → ⊥)
    → (t x : List ℕ) → IsSeriesOf fs t → text ≢ series_line fs t ++ x
other_series dim fs text s rest small are range there wrong t x is e =
    let same = series_unique fs s t rest x (all_plain dim fs small are) (all_distinct dim fs small are) range (places_in_range t (length fs) is.order) (sym there ∙ e) in
    wrong (subst (λ (l : List ℕ). IsSeriesOf fs l) (sym same.0) is)

pub no_series : (fs : List FactorValue) (text : List ℕ) → ((t x : List ℕ) → InRange (length fs) t → text ≢ series_line fs t ++ x) → (t x : List ℕ) → IsSeriesOf fs t → text ≢ series_line fs t ++ x
no_series fs text none t x is = none t x (places_in_range t (length fs) is.order)

-- ---- there is one such line

last_of : (fs : List FactorValue) → (fs ≡ []) ⊎ ((gs : List FactorValue) × (f : FactorValue) × (fs ≡ gs ++ f ∷ []))
last_of [] = inl refl
last_of (f ∷ fs) = elim (last_of fs) [
  | inl e ↦ inr ([], f, ap (λ (l : List FactorValue). f ∷ l) e)
  | inr s ↦ inr (f ∷ s.0, s.1, ap (λ (l : List FactorValue). f ∷ l) s.2)
]

pub flat_map_last : (gs : List FactorValue) (f : FactorValue) (y : List ℕ) → flat_map factor_line (gs ++ f ∷ []) ++ y ≡ flat_map factor_line gs ++ (factor_line f ++ y)
flat_map_last [] f y = ap (λ (l : List ℕ). l ++ y) (append-nil (factor_line f))
flat_map_last (g ∷ gs) f y =
    append_assoc (factor_line g) (flat_map factor_line (gs ++ f ∷ [])) y
    ∙ ap (λ (l : List ℕ). factor_line g ++ l) (flat_map_last gs f y)
    ∙ sym (append_assoc (factor_line g) (flat_map factor_line gs) (factor_line f ++ y))

-- fewer lines pass, too
one_less : (bytes : List ℕ) (k : ℕ) → LinesPass bytes (k + 1) → LinesPass bytes k
one_less bytes k (inl none) = absurd (omega (arith, none))
one_less bytes k (inr (inr r)) =
    let open' = r.spelled ∙ report_open r.report r.rest ∙ sym (opening_open r.report.header r.report.factors (series_line r.report.factors r.report.series ++ r.rest)) in
    inr (inl (record {
      header = r.report.header;
      factors = r.report.factors;
      rest = series_line r.report.factors r.report.series ++ r.rest;
      is_header = r.is_report.header;
      are_factors = r.is_report.factors;
      are_witnessed = r.is_report.witnessed;
      count = omega (arith, r.count);
      spelled = open';
    }))
one_less bytes k (inr (inl o)) = elim (last_of o.factors) [
  | inl e ↦
      let count : length o.factors ≡ 0 = ap (λ (l : List FactorValue). length l) e in
      inl (omega (arith, count, o.count))
  | inr s ↦
      let count : length o.factors ≡ length s.0 + 1 = ap (λ (l : List FactorValue). length l) s.2 ∙ length-append s.0 (s.1 ∷ []) in
      let are : AreFactors o.header.dim (s.0 ++ s.1 ∷ []) = subst (λ (l : List FactorValue). AreFactors o.header.dim l) s.2 o.are_factors in
      let spelled : bytes ≡ opening_bytes o.header s.0 ++ (factor_line s.1 ++ o.rest) =
      o.spelled
      ∙ opening_open o.header o.factors o.rest
      ∙ ap (λ (l : List FactorValue). header_line o.header ++ (flat_map factor_line l ++ o.rest)) s.2
      ∙ ap (λ (l : List ℕ). header_line o.header ++ l) (flat_map_last s.0 s.1 o.rest)
      ∙ sym (opening_open o.header s.0 (factor_line s.1 ++ o.rest)) in
      inr (inl (record {
        header = o.header;
        factors = s.0;
        rest = factor_line s.1 ++ o.rest;
        is_header = o.is_header;
        are_factors = factors_front o.header.dim s.0 (s.1 ∷ []) are;
        are_witnessed = first_witnessed o.header s.0 (s.1 ∷ []) (subst (λ (l : List FactorValue). AreWitnessed o.header l) s.2 o.are_witnessed);
        count = omega (arith, count, o.count);
        spelled = spelled;
      }))
]

fewer_pass : (bytes : List ℕ) (k more : ℕ) → LinesPass bytes (k + more) → LinesPass bytes k
fewer_pass bytes k zero pass =
    let place : k + 0 ≡ k = omega arith in
    subst (λ (n : ℕ). LinesPass bytes n) place pass
fewer_pass bytes k (suc more) pass =
    let place : k + suc more ≡ k + more + 1 = omega arith in
    fewer_pass bytes k more (one_less bytes (k + more) (subst (λ (n : ℕ). LinesPass bytes n) place pass))

not_before : (bytes : List ℕ) (i j : ℕ) → FailsFirstAt bytes i → FailsFirstAt bytes j → i < j → ⊥
not_before bytes i j a b lt =
    let place : j - 1 ≡ i + (j - 1 - i) = omega arith in
    a.fails (fewer_pass bytes i (j - 1 - i) (subst (λ (n : ℕ). LinesPass bytes n) place b.before))

pub one_line : (bytes : List ℕ) (i j : ℕ) → FailsFirstAt bytes i → FailsFirstAt bytes j → i ≡ j
one_line bytes i j a b = elim (cases_lt i j) [
  | inl lt ↦ absurd (not_before bytes i j a b lt)
  | inr ge ↦ elim (cases_lt j i) [ inl lt ↦ absurd (not_before bytes j i b a lt) | inr le ↦ omega arith ]
]

-- ---- whether bytes are left

pub empty : (xs : List ℕ) (r : Bool) → r ≡ eqb (length xs) 0 → r ≡ true → xs ≡ []
empty xs r says t = nil_from_length xs (eqb-true (length xs) 0 (sym says ∙ t))

pub not_empty : (xs : List ℕ) (r : Bool) → r ≡ eqb (length xs) 0 → r ≡ false → xs ≡ [] → ⊥
not_empty xs r says f e =
    let none : length xs ≡ 0 = ap (λ (l : List ℕ). length l) e in
    let yes = eq-eqb (length xs) 0 none in
    absurd (cc (says, f, yes))
