-- Bytes that begin with lines tell what the lines say.
use Rattle.std.proofs.Common.{◌≡◌, ℕ, zero, suc, ◌^◌, ◌<◌, ◌≤◌, List, [], ◌∷◌, ◌++◌, length, get_or, decimal, codes, refl, sym, ap, ap₂, subst, ◌∙◌, inl, inr, append_assoc, append-nil, arith}
use Rattle.std.specs.List.{AllByRecursion, flat_map}
use Rattle.std.proofs.lemmas.Bool.{cases_lt}
use Rattle.std.proofs.lemmas.List.{length-map}
use Rattle.axe_field.specs.Order.{Order, order_number}
use Rattle.axe_field.proofs.Orders.{order_number-at_most, order_number-injective}
use Rattle.axe_report.specs.Fronts.{is_no_separator, Stops}
use Rattle.axe_report.specs.Reports.{FactorValue, ReportValue, names, version_number, IsReportHeader, IsReport}
use Rattle.axe_report.specs.Spelling.{header_line, witness_bytes, factor_line, place_bytes, series_line, opening_bytes, report_bytes}
use Rattle.axe_report.specs.declared.report.Version.{Version}
use Rattle.axe_report.specs.declared.report.Version.TheVariants.{One, Two}
use Rattle.axe_report.specs.declared.report.ReportHeader.{ReportHeader}
use Rattle.axe_report.proofs.Fronts.{Passes, front_unique, cancel_front}
use Rattle.axe_report.proofs.Numerals.{numeral_unique}
use Rattle.axe_report.proofs.Plain.{IsPlain, AreDistinct, all_plain, all_distinct}
use Rattle.axe_report.proofs.Members.{places_in_range}
use Rattle.axe_report.proofs.WitnessLaws.{IsLine, all_lines, witness_stops, witness_unique}

-- ---- the header

pub header_open : (h : ReportHeader) (x : List ℕ) → header_line h ++ x
    ≡ codes "chop " ++ (decimal (version_number h.version) ++ (codes " field=" ++ (decimal (order_number h.field) ++ (codes " dim=" ++ (decimal h.dim ++ (codes " gens=" ++ (decimal h.gens ++ (codes " seed=" ++ (decimal h.seed ++ (codes " words=" ++ (decimal h.words ++ (10 ∷ x))))))))))))
unfolding header_line
header_open h x = simp append_assoc

pub order_small : (o : Order) → order_number o < 2 ^ 64
order_small o = let most = order_number-at_most o in omega (arith, most)

pub version_small : (v : Version) → version_number v < 2 ^ 64
version_small One = omega arith
version_small Two = omega arith

version_injective : (v w : Version) → version_number v ≡ version_number w → v ≡ w
version_injective One One e = refl
version_injective One Two e = absurd (omega (arith, e))
version_injective Two One e = absurd (omega (arith, e))
version_injective Two Two e = refl

pub header_unique : (h g : ReportHeader) (x y : List ℕ) → IsReportHeader h → IsReportHeader g → header_line h ++ x ≡ header_line g ++ y → (h ≡ g) × (x ≡ y)
header_unique h g x y ih ig e =
    let e0 = cancel_front (codes "chop ") _ _ (sym (header_open h x) ∙ e ∙ header_open g y) in
    let v = numeral_unique (version_number h.version) (version_number g.version) _ _ (version_small h.version) (version_small g.version) refl refl e0 in
    let e1 = numeral_unique (order_number h.field) (order_number g.field) _ _ (order_small h.field) (order_small g.field) refl refl (cancel_front (codes " field=") _ _ v.1) in
    let e2 = numeral_unique h.dim g.dim _ _ (omega (arith, ih.dim)) (omega (arith, ig.dim)) refl refl (cancel_front (codes " dim=") _ _ e1.1) in
    let e3 = numeral_unique h.gens g.gens _ _ (omega (arith, ih.gens)) (omega (arith, ig.gens)) refl refl (cancel_front (codes " gens=") _ _ e2.1) in
    let e4 = numeral_unique h.seed g.seed _ _ ih.seed ig.seed refl refl (cancel_front (codes " seed=") _ _ e3.1) in
    let e5 = numeral_unique h.words g.words _ _ (omega (arith, ih.words)) (omega (arith, ig.words)) refl refl (cancel_front (codes " words=") _ _ e4.1) in
    let field = order_number-injective h.field g.field e1.0 in
    let version = version_injective h.version g.version v.0 in
    (λ i. record { version = version i; field = field i; dim = e2.0 i; gens = e3.0 i; seed = e4.0 i; words = e5.0 i }, cancel_front (10 ∷ []) x y e5.1)

-- ---- constituents

pub factor_open : (f : FactorValue) (x : List ℕ) → factor_line f ++ x ≡ codes "factor " ++ (f.name ++ (codes " dim=" ++ (decimal f.dim ++ (codes " mult=" ++ (decimal f.multiplicity ++ (witness_bytes f.witness ++ (10 ∷ x)))))))
unfolding factor_line
factor_open f x = simp append_assoc

pub factor_unique : (f g : FactorValue) (x y : List ℕ) → IsLine f → IsLine g → factor_line f ++ x ≡ factor_line g ++ y → (f ≡ g) × (x ≡ y)
factor_unique f g x y pf pg e =
    let e0 = cancel_front (codes "factor ") _ _ (sym (factor_open f x) ∙ e ∙ factor_open g y) in
    let e1 = front_unique is_no_separator f.name g.name _ _ pf.plain.name pg.plain.name refl refl e0 in
    let e2 = numeral_unique f.dim g.dim _ _ (omega (arith, pf.plain.dim)) (omega (arith, pg.plain.dim)) refl refl (cancel_front (codes " dim=") _ _ e1.1) in
    let e3 = numeral_unique f.multiplicity g.multiplicity _ _ (omega (arith, pf.plain.multiplicity)) (omega (arith, pg.plain.multiplicity)) (witness_stops f.witness x) (witness_stops g.witness y)
    (cancel_front (codes " mult=") _ _ e2.1) in
    let e4 = witness_unique f.witness g.witness x y pf.witness pg.witness e3.1 in
    (λ i. record { name = e1.0 i; dim = e2.0 i; multiplicity = e3.0 i; witness = e4.0 i }, e4.1)

-- lines of constituents before others, the shorter list of them first
pub lines_front : (fs gs : List FactorValue) (x y : List ℕ) → length fs ≤ length gs → AllByRecursion IsLine fs → AllByRecursion IsLine gs
    → flat_map factor_line fs ++ x ≡ flat_map factor_line gs ++ y → (hs : List FactorValue) × (gs ≡ fs ++ hs) × (x ≡ flat_map factor_line hs ++ y)
lines_front [] gs x y le pf pg e = (gs, refl, e)
lines_front (f ∷ fs) [] x y le pf pg e = absurd (omega (arith, le))
lines_front (f ∷ fs) (g ∷ gs) x y le pf pg e =
    let one = factor_unique f g _ _ pf.0 pg.0 (sym (append_assoc (factor_line f) (flat_map factor_line fs) x) ∙ e ∙ append_assoc (factor_line g) (flat_map factor_line gs) y) in
    let rest = lines_front fs gs x y (omega (arith, le)) pf.1 pg.1 one.1 in
    (rest.0, ap₂ (λ (a : FactorValue) (l : List FactorValue). a ∷ l) (sym one.0) rest.1, rest.2)

-- the line of the series is no line of a constituent
pub series_is_no_factor : (f : FactorValue) (fs : List FactorValue) (s x y : List ℕ) → series_line fs s ++ x ≡ factor_line f ++ y → ⊥
unfolding series_line factor_line
series_is_no_factor f fs s x y e =
    let differ : ◌≡◌ {A = ℕ} 115 102 = cc in
    omega (arith, differ)

-- ---- the series

pub places_open : (fs : List FactorValue) (p : ℕ) (s x : List ℕ) → flat_map (place_bytes fs) (p ∷ s) ++ x ≡ 32 ∷ (get_or (names fs) p [] ++ (flat_map (place_bytes fs) s ++ x))
unfolding place_bytes
places_open fs p s x = ap (λ (l : List ℕ). 32 ∷ l) (append_assoc (get_or (names fs) p []) (flat_map (place_bytes fs) s) x)

pub series_open : (fs : List FactorValue) (s x : List ℕ) → series_line fs s ++ x ≡ codes "series" ++ (flat_map (place_bytes fs) s ++ (10 ∷ x))
unfolding series_line
series_open fs s x = simp append_assoc

-- what follows a place is a space or a line feed
pub places_stop : (fs : List FactorValue) (s x : List ℕ) → Stops is_no_separator (flat_map (place_bytes fs) s ++ (10 ∷ x))
places_stop fs [] x = refl
places_stop fs (p ∷ s) x = subst (λ (l : List ℕ). Stops is_no_separator l) (sym (places_open fs p s (10 ∷ x))) refl

pub name_of_plain : (fs : List FactorValue) (p : ℕ) → AllByRecursion IsPlain fs → p < length fs → Passes is_no_separator (get_or (names fs) p [])
name_of_plain [] p h lt = absurd (omega (arith, lt))
name_of_plain (f ∷ fs) zero h lt = h.0.name
name_of_plain (f ∷ fs) (suc p) h lt = name_of_plain fs p h.1 (omega (arith, lt))

-- a name before a space or a line feed tells the place
pub place_unique : (fs : List FactorValue) (p q : ℕ) (x y : List ℕ) → AllByRecursion IsPlain fs → AreDistinct (names fs) → p < length fs → q < length fs → Stops is_no_separator x → Stops is_no_separator y
    → get_or (names fs) p [] ++ x ≡ get_or (names fs) q [] ++ y → (p ≡ q) × (x ≡ y)
place_unique fs p q x y plain distinct lp lq sx sy e =
    let parts = front_unique is_no_separator (get_or (names fs) p []) (get_or (names fs) q []) x y (name_of_plain fs p plain lp) (name_of_plain fs q plain lq) sx sy e in
    let count : length (names fs) ≡ length fs = length-map fs (λ (g : FactorValue). g.name) in
    (distinct p q (omega arith) (omega arith) parts.0, parts.1)

abbrev pub InRange : ℕ → List ℕ → Type 0
InRange count s = AllByRecursion (λ place. place < count) s

places_unique : (fs : List FactorValue) (s t x y : List ℕ) → AllByRecursion IsPlain fs → AreDistinct (names fs) → InRange (length fs) s → InRange (length fs) t
    → flat_map (place_bytes fs) s ++ (10 ∷ x) ≡ flat_map (place_bytes fs) t ++ (10 ∷ y) → (s ≡ t) × (x ≡ y)
places_unique fs [] [] x y plain distinct rs rt e = (refl, cancel_front (10 ∷ []) x y e)
places_unique fs [] (q ∷ t) x y plain distinct rs rt e =
    let open' = e ∙ places_open fs q t (10 ∷ y) in
    let differ : ◌≡◌ {A = ℕ} 10 32 = cc in
    absurd (omega (arith, differ))
places_unique fs (p ∷ s) [] x y plain distinct rs rt e =
    let open' = sym (places_open fs p s (10 ∷ x)) ∙ e in
    let differ : ◌≡◌ {A = ℕ} 32 10 = cc in
    absurd (omega (arith, differ))
places_unique fs (p ∷ s) (q ∷ t) x y plain distinct rs rt e =
    let rest = cancel_front (32 ∷ []) _ _ (sym (places_open fs p s (10 ∷ x)) ∙ e ∙ places_open fs q t (10 ∷ y)) in
    let one = place_unique fs p q _ _ plain distinct rs.0 rt.0 (places_stop fs s x) (places_stop fs t y) rest in
    let others = places_unique fs s t x y plain distinct rs.1 rt.1 one.1 in
    (ap₂ (λ (a : ℕ) (l : List ℕ). a ∷ l) one.0 others.0, others.1)

pub series_unique : (fs : List FactorValue) (s t x y : List ℕ) → AllByRecursion IsPlain fs → AreDistinct (names fs) → InRange (length fs) s → InRange (length fs) t
    → series_line fs s ++ x ≡ series_line fs t ++ y → (s ≡ t) × (x ≡ y)
series_unique fs s t x y plain distinct rs rt e =
    places_unique fs s t x y plain distinct rs rt (cancel_front (codes "series") _ _ (sym (series_open fs s x) ∙ e ∙ series_open fs t y))

-- ---- whole reports

pub opening_open : (h : ReportHeader) (fs : List FactorValue) (x : List ℕ) → opening_bytes h fs ++ x ≡ header_line h ++ (flat_map factor_line fs ++ x)
unfolding opening_bytes
opening_open h fs x = append_assoc (header_line h) (flat_map factor_line fs) x

pub report_open : (r : ReportValue) (x : List ℕ) → report_bytes r ++ x ≡ header_line r.header ++ (flat_map factor_line r.factors ++ (series_line r.factors r.series ++ x))
unfolding report_bytes
report_open r x = append_assoc (opening_bytes r.header r.factors) (series_line r.factors r.series) x ∙ opening_open r.header r.factors (series_line r.factors r.series ++ x)

-- no line of a constituent comes before the series
pub none_between : (hs fs : List FactorValue) (s x y : List ℕ) → series_line fs s ++ x ≡ flat_map factor_line hs ++ y → hs ≡ []
none_between [] fs s x y e = refl
none_between (h ∷ hs) fs s x y e = absurd (series_is_no_factor h fs s x _ (e ∙ append_assoc (factor_line h) (flat_map factor_line hs) y))

lines_unique : (fs gs : List FactorValue) (s t x y : List ℕ) → AllByRecursion IsLine fs → AllByRecursion IsLine gs
    → flat_map factor_line fs ++ (series_line fs s ++ x) ≡ flat_map factor_line gs ++ (series_line gs t ++ y) → (fs ≡ gs) × (series_line fs s ++ x ≡ series_line gs t ++ y)
lines_unique fs gs s t x y pf pg e = elim (cases_lt (length gs) (length fs)) [
  | inr le ↦
      let front = lines_front fs gs _ _ le pf pg e in
      let none = none_between front.0 fs s x _ front.2 in
      (sym (front.1 ∙ ap (λ (l : List FactorValue). fs ++ l) none ∙ append-nil fs), front.2 ∙ ap (λ (l : List FactorValue). flat_map factor_line l ++ (series_line gs t ++ y)) none)
  | inl lt ↦
      let front = lines_front gs fs _ _ (omega arith) pg pf (sym e) in
      let none = none_between front.0 gs t y _ front.2 in
      (front.1 ∙ ap (λ (l : List FactorValue). gs ++ l) none ∙ append-nil gs, sym (front.2 ∙ ap (λ (l : List FactorValue). flat_map factor_line l ++ (series_line fs s ++ x)) none))
]

pub report_unique : (a b : ReportValue) (x y : List ℕ) → IsReport a → IsReport b → report_bytes a ++ x ≡ report_bytes b ++ y → (a ≡ b) × (x ≡ y)
report_unique a b x y ia ib e =
    let e0 = header_unique a.header b.header _ _ ia.header ib.header (sym (report_open a x) ∙ e ∙ report_open b y) in
    let pa = all_plain a.header.dim a.factors ia.header.dim ia.factors in
    let la = all_lines a.header a.factors ia.header ia.factors ia.witnessed in
    let lb = all_lines b.header b.factors ib.header ib.factors ib.witnessed in
    let e1 = lines_unique a.factors b.factors a.series b.series x y la lb e0.1 in
    let ra = places_in_range a.series (length a.factors) ia.series.order in
    let rb = places_in_range b.series (length b.factors) ib.series.order in
    let rb' : InRange (length a.factors) b.series = subst (λ (l : List FactorValue). InRange (length l) b.series) (sym e1.0) rb in
    let same : series_line a.factors a.series ++ x ≡ series_line a.factors b.series ++ y = e1.1 ∙ ap (λ (l : List FactorValue). series_line l b.series ++ y) (sym e1.0) in
    let e2 = series_unique a.factors a.series b.series x y pa (all_distinct a.header.dim a.factors ia.header.dim ia.factors) ra rb' same in
    (λ i. record { header = e0.0 i; factors = e1.0 i; series = e2.0 i }, e2.1)

pub report_apart : (a b : ReportValue) → IsReport a → IsReport b → report_bytes a ≡ report_bytes b → a ≡ b
report_apart a b ia ib e = (report_unique a b [] [] ia ib (append-nil (report_bytes a) ∙ e ∙ sym (append-nil (report_bytes b)))).0

pub no_prefix : (a b : ReportValue) (rest : List ℕ) → IsReport a → IsReport b → report_bytes a ++ rest ≡ report_bytes b → rest ≡ []
no_prefix a b rest ia ib e = (report_unique a b rest [] ia ib (e ∙ sym (append-nil (report_bytes b)))).1
