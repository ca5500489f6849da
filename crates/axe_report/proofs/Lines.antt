-- Lines, piece after piece, as the code writes them.
use Rattle.std.proofs.Common.{◌≡◌, ℕ, ◌+◌, ◌-◌, ◌<◌, List, [], ◌∷◌, ◌++◌, length, take, get_or, ◌≤◌, Option, Some, None, arith, refl, append-nil, sym, ap, ap₂, ◌∙◌, append_assoc, take_all, codes, decimal}
use Rattle.std.specs.List.{flat_map}
use Rattle.std.proofs.lemmas.List.{get_or-map, take_more, map-append, flat_map_more}
use Rattle.axe_field.specs.Order.{order_number}
use Rattle.axe_report.specs.Reports.{WitnessValue, FactorValue, ReportValue, names, version_number, word_of, poly_of}
use Rattle.axe_report.specs.Spelling.{header_line, digit_bytes, poly_bytes, witness_bytes, factor_line, place_bytes, series_line, opening_bytes, report_bytes}
use Rattle.axe_report.specs.declared.report.ReportHeader.{ReportHeader}

header_shape : (v a b c d e : List ℕ) → (codes "chop " ++ (v ++ (codes " field=" ++ (a ++ (codes " dim=" ++ (b ++ (codes " gens=" ++ c))))))) ++ (codes " seed=" ++ (d ++ (codes " words=" ++ (e ++ 10 ∷ []))))
    ≡ codes "chop " ++ v ++ codes " field=" ++ a ++ codes " dim=" ++ b ++ codes " gens=" ++ c ++ codes " seed=" ++ d ++ codes " words=" ++ e ++ 10 ∷ []
header_shape v a b c d e = simp append_assoc

pub header_written : (h : ReportHeader) (v q : ℕ) (start end line : List ℕ) → v ≡ version_number h.version → q ≡ order_number h.field
    → start ≡ codes "chop " ++ (decimal v ++ (codes " field=" ++ (decimal q ++ (codes " dim=" ++ (decimal h.dim ++ (codes " gens=" ++ decimal h.gens))))))
    → end ≡ codes " seed=" ++ (decimal h.seed ++ (codes " words=" ++ (decimal h.words ++ 10 ∷ []))) → line ≡ start ++ end → line ≡ header_line h
unfolding header_line
header_written h v q start end line f e a b l =
    l
    ∙ ap₂ (λ (x : List ℕ) (y : List ℕ). x ++ y) (a ∙ (λ i. codes "chop " ++ (decimal (f i) ++ (codes " field=" ++ (decimal (e i) ++ (codes " dim=" ++ (decimal h.dim ++ (codes " gens=" ++ decimal h.gens)))))))) b
    ∙ header_shape (decimal (version_number h.version)) (decimal (order_number h.field)) (decimal h.dim) (decimal h.gens) (decimal h.seed) (decimal h.words)

factor_shape : (a b c w : List ℕ) → ((codes "factor " ++ (a ++ (codes " dim=" ++ (b ++ (codes " mult=" ++ c))))) ++ w) ++ 10 ∷ []
    ≡ codes "factor " ++ a ++ codes " dim=" ++ b ++ codes " mult=" ++ c ++ w ++ 10 ∷ []
factor_shape a b c w = simp append_assoc

pub factor_written : (f : FactorValue) (start witnessed line : List ℕ) → start ≡ codes "factor " ++ (f.name ++ (codes " dim=" ++ (decimal f.dim ++ (codes " mult=" ++ decimal f.multiplicity))))
    → witnessed ≡ start ++ witness_bytes f.witness → line ≡ witnessed ++ 10 ∷ [] → line ≡ factor_line f
unfolding factor_line
factor_written f start witnessed line s w l =
    l
    ∙ ap (λ (x : List ℕ). x ++ 10 ∷ []) (w ∙ ap (λ (x : List ℕ). x ++ witness_bytes f.witness) s)
    ∙ factor_shape f.name (decimal f.dim) (decimal f.multiplicity) (witness_bytes f.witness)

pub name_at : (factors : List FactorValue) (p : ℕ) (f : FactorValue) → p < length factors → f ≡ get_or factors p f → get_or (names factors) p [] ≡ f.name
name_at factors p f lt e = get_or-map (λ (g : FactorValue). g.name) factors p f [] lt ∙ ap (λ (g : FactorValue). g.name) (sym e)

pub place_is : (factors : List FactorValue) (p : ℕ) (f : FactorValue) → p < length factors → f ≡ get_or factors p f → place_bytes factors p ≡ 32 ∷ f.name
unfolding place_bytes
place_is factors p f lt e = ap (λ (x : List ℕ). 32 ∷ x) (name_at factors p f lt e)

-- one more place of the series
pub place_more : (factors : List FactorValue) (series : List ℕ) (i p : ℕ) (f : FactorValue) (first items pushed next : List ℕ) → i < length series → p ≡ get_or series i 0
    → p < length factors → f ≡ get_or factors p f → items ≡ first ++ flat_map (place_bytes factors) (take i series) → pushed ≡ items ++ 32 ∷ [] → next ≡ pushed ++ f.name
    → next ≡ first ++ flat_map (place_bytes factors) (take (i + 1) series)
place_more factors series i p f first items pushed next lt place fits here inv space name =
    name
    ∙ ap (λ (x : List ℕ). x ++ f.name) space
    ∙ append_assoc items (32 ∷ []) f.name
    ∙ ap (λ (x : List ℕ). items ++ x) (sym (place_is factors p f fits here))
    ∙ ap (λ (x : List ℕ). x ++ place_bytes factors p) inv
    ∙ flat_map_more (place_bytes factors) first (take i series) p
    ∙ ap (λ (k : ℕ). first ++ flat_map (place_bytes factors) (take i series ++ k ∷ [])) place
    ∙ ap (λ (x : List ℕ). first ++ flat_map (place_bytes factors) x) (sym (take_more series i 0 lt))

pub series_ended : (factors : List FactorValue) (series : List ℕ) (i : ℕ) (old begun items next : List ℕ) → length series ≤ i → begun ≡ old ++ codes "series"
    → items ≡ begun ++ flat_map (place_bytes factors) (take i series) → next ≡ items ++ 10 ∷ [] → next ≡ old ++ series_line factors series
unfolding series_line
series_ended factors series i old begun items next le e inv new =
    new
    ∙ ap (λ (x : List ℕ). x ++ 10 ∷ []) (inv ∙ ap₂ (λ (x : List ℕ) (s : List ℕ). x ++ flat_map (place_bytes factors) s) e (take_all i series le))
    ∙ simp append_assoc

pub report_ended : (r : ReportValue) (i : ℕ) (items next : List ℕ) → length r.factors ≤ i → items ≡ header_line r.header ++ flat_map factor_line (take i r.factors)
    → next ≡ items ++ series_line r.factors r.series → next ≡ report_bytes r
unfolding report_bytes opening_bytes
report_ended r i items next le inv new =
    new ∙ ap (λ (x : List ℕ). x ++ series_line r.factors r.series) (inv ∙ ap (λ (x : List FactorValue). header_line r.header ++ flat_map factor_line x) (take_all i r.factors le))

-- ---- digits

-- one more digit of a polynomial
pub digit_more : (digits : List ℕ) (i d : ℕ) (first items next : List ℕ) → i < length digits → d ≡ get_or digits i 0 → items ≡ first ++ digit_bytes (take i digits) → next ≡ items ++ (48 + d) ∷ []
    → next ≡ first ++ digit_bytes (take (i + 1) digits)
unfolding digit_bytes
digit_more digits i d first items next lt here inv new =
    new
    ∙ ap₂ (λ (x : List ℕ) (k : ℕ). x ++ (48 + k) ∷ []) inv here
    ∙ append_assoc first (digit_bytes (take i digits)) ((48 + get_or digits i 0) ∷ [])
    ∙ ap (λ (x : List ℕ). first ++ x) (sym (ap (λ (x : List ℕ). digit_bytes x) (take_more digits i 0 lt) ∙ map-append (λ (digit : ℕ). 48 + digit) (take i digits) (get_or digits i 0 ∷ [])))

pub digits_begun : (first : List ℕ) → first ≡ first ++ digit_bytes []
unfolding digit_bytes
digits_begun first = sym (append-nil first)

-- one more digit of which the spelling is read
pub digit_read : (numeral digits pushed : List ℕ) (i byte : ℕ) → i < length numeral → byte ≡ get_or numeral i 0 → 48 ≤ byte → digit_bytes digits ≡ take i numeral → pushed ≡ digits ++ (byte - 48) ∷ []
    → digit_bytes pushed ≡ take (i + 1) numeral
unfolding digit_bytes
digit_read numeral digits pushed i byte lt here least inv new =
    let back : 48 + (byte - 48) ≡ get_or numeral i 0 = omega (arith, here) in
    ap (λ (x : List ℕ). digit_bytes x) new
    ∙ map-append (λ (digit : ℕ). 48 + digit) digits ((byte - 48) ∷ [])
    ∙ ap₂ (λ (x : List ℕ) (k : ℕ). x ++ k ∷ []) inv back
    ∙ sym (take_more numeral i 0 lt)

pub no_digits_read : (digits : List ℕ) → digits ≡ [] → digit_bytes digits ≡ []
unfolding digit_bytes
no_digits_read digits e = rw e refl

-- ---- the witness

pub nothing_written : (witness : Option WitnessValue) (old : List ℕ) → None ≡ word_of witness → old ≡ old ++ witness_bytes witness
unfolding witness_bytes
nothing_written None old none = sym (append-nil old)
nothing_written (Some witness) old none = absurd cc

no_poly_shape : (old word : List ℕ) → old ++ (codes " word=" ++ word) ≡ old ++ (codes " word=" ++ (word ++ []))
no_poly_shape old word = simp append-nil

pub word_written : (witness : Option WitnessValue) (n : ℕ) (old setting next : List ℕ) → Some n ≡ word_of witness → None ≡ poly_of witness → setting ≡ codes " word=" ++ decimal n → next ≡ old ++ setting
    → next ≡ old ++ witness_bytes witness
unfolding witness_bytes poly_bytes
word_written None n old setting next word poly e new = absurd cc
word_written (Some witness) n old setting next word poly e new =
    let same : n ≡ witness.word = cc in
    let none : witness.poly ≡ None = sym poly in
    rw none (new ∙ ap (λ (x : List ℕ). old ++ x) (e ∙ ap (λ (k : ℕ). codes " word=" ++ decimal k) same) ∙ no_poly_shape old (decimal witness.word))

poly_shape : (old word digits : List ℕ) → ((old ++ (codes " word=" ++ word)) ++ codes " poly=") ++ digits ≡ old ++ (codes " word=" ++ (word ++ (codes " poly=" ++ digits)))
poly_shape old word digits = simp append_assoc

pub poly_written : (witness : Option WitnessValue) (n : ℕ) (digits old setting first second next : List ℕ) → Some n ≡ word_of witness → Some digits ≡ poly_of witness → setting ≡ codes " word=" ++ decimal n
    → first ≡ old ++ setting → second ≡ first ++ codes " poly=" → next ≡ second ++ digit_bytes digits → next ≡ old ++ witness_bytes witness
unfolding witness_bytes poly_bytes
poly_written None n digits old setting first second next word poly e a b new = absurd cc
poly_written (Some witness) n digits old setting first second next word poly e a b new =
    let same : n ≡ witness.word = cc in
    let some : witness.poly ≡ Some digits = sym poly in
    let begun : first ≡ old ++ (codes " word=" ++ decimal witness.word) = a ∙ ap (λ (x : List ℕ). old ++ x) (e ∙ ap (λ (k : ℕ). codes " word=" ++ decimal k) same) in
    rw some (new ∙ ap (λ (x : List ℕ). x ++ digit_bytes digits) (b ∙ ap (λ (x : List ℕ). x ++ codes " poly=") begun) ∙ poly_shape old (decimal witness.word) (digit_bytes digits))
