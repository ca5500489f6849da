-- By what constituents were seen to be irreducible: what stands of it in a line tells it.
use Rattle.std.proofs.Common.{◌≡◌, ◌≢◌, ℕ, ◌+◌, ◌-◌, ◌^◌, ◌<◌, ◌≤◌, Bool, true, leb, ltb, List, [], ◌∷◌, ◌++◌, length, All, Option, Some, None, inl, inr, decimal, codes, refl, sym, ap, ap₂, subst, ◌∙◌, append_assoc, take, drop, take-append-drop, arith}
use Rattle.std.specs.List.{AllByRecursion, prefix_len}
use Rattle.std.proofs.Math.Nat.{pow-le-pow_left, pow-le-pow_right}
use Rattle.std.proofs.Math.Pow.{pow_mono}
use Rattle.std.proofs.lemmas.Bool.{cases_lt, and_parts, leb-true}
use Rattle.std.proofs.lemmas.List.{length-map}
use Rattle.std.proofs.lemmas.List.Elements.{All-head, All-tail, All-nil, All-cons}
use Rattle.axe_field.specs.Order.{Order, order_number}
use Rattle.axe_field.proofs.Orders.{order_number-at_most}
use Rattle.axe_report.specs.Fronts.{is_digit, Stops}
use Rattle.axe_report.specs.Reports.{WitnessValue, FactorValue, AreDigits, AreDigitsOf, IsPolyOver, IsReportHeader, AreFactors}
use Rattle.axe_report.specs.Reports.{IsWitnessUnder, IsWitnessIn, IsWitnessed, AreWitnessed, poly_of}
use Rattle.axe_report.specs.Spelling.{digit_bytes, poly_bytes, witness_bytes}
use Rattle.axe_report.specs.declared.report.ReportHeader.{ReportHeader}
use Rattle.axe_report.specs.declared.report.Version.{Version}
use Rattle.axe_report.specs.declared.report.Version.TheVariants.{One, Two}
use Rattle.axe_report.proofs.Fronts.{Passes, front_unique, cancel_front, front_is_prefix, prefix_passes}
use Rattle.axe_report.proofs.Numerals.{digit_passes, numeral_unique, setting_unique}
use Rattle.axe_report.proofs.Plain.{IsPlain, all_plain}

-- ---- digits

pub digits_pass : (digits : List ℕ) → All (λ digit. digit < 10) digits → Passes is_digit (digit_bytes digits)
unfolding digit_bytes
digits_pass [] small = tt
digits_pass (d ∷ ds) small = (digit_passes d (All-head (λ digit. digit < 10) d ds small), digits_pass ds (All-tail (λ digit. digit < 10) d ds small))

pub digits_injective : (a b : List ℕ) → digit_bytes a ≡ digit_bytes b → a ≡ b
unfolding digit_bytes
digits_injective [] [] e = refl
digits_injective [] (y ∷ b) e = absurd cc
digits_injective (x ∷ a) [] e = absurd cc
digits_injective (x ∷ a) (y ∷ b) e =
    let same : 48 + x ≡ 48 + y = cc in
    let rest : digit_bytes a ≡ digit_bytes b = cc in
    let one : x ≡ y = omega (arith, same) in
    ap₂ (λ (n : ℕ) (l : List ℕ). n ∷ l) one (digits_injective a b rest)

-- order ^ degree is no greater than 4,096 = 2 ^ 12, and the order is at least 2
pub few_digits : (order : ℕ) (digits : List ℕ) → 2 ≤ order → AreDigits order digits → length digits ≤ 13
few_digits order digits some are = elim (cases_lt 13 (length digits)) [
  | inl many ↦
      let bound : 13 ≤ length digits - 1 = omega arith in
      let power : 2 ^ 13 ≤ 2 ^ (length digits - 1) = pow_mono bound in
      let larger : 2 ^ (length digits - 1) ≤ order ^ (length digits - 1) = pow-le-pow_left some (length digits - 1) in
      absurd (omega (arith, power, larger, are.small))
  | inr few ↦ few
]

digits_below : (bound order : ℕ) (digits : List ℕ) → order ≤ bound → All (λ digit. digit < order) digits → All (λ digit. digit < bound) digits
digits_below bound order [] le all = All-nil (λ digit. digit < bound)
digits_below bound order (d ∷ ds) le all =
    let one : d < order = All-head (λ digit. digit < order) d ds all in
    All-cons (λ digit. digit < bound) d ds (omega arith) (digits_below bound order ds le (All-tail (λ digit. digit < order) d ds all))

pub poly_below_ten : (o : Order) (poly : Option (List ℕ)) → IsPolyOver (order_number o) poly → AreDigitsOf 10 poly
poly_below_ten o None is = tt
poly_below_ten o (Some digits) is =
    let most : order_number o ≤ 9 = order_number-at_most o in
    digits_below 10 (order_number o) digits (omega arith) is.elements

pub digit_least : (byte : ℕ) → is_digit byte ≡ true → 48 ≤ byte
digit_least byte is = leb-true 48 byte (and_parts (leb 48 byte) (ltb byte 58) is).0

-- the powers that are looked at fit 64 bits
pub power_fits : (order count : ℕ) → order ≤ 9 → count ≤ 13 → order ^ (count - 1) < 2 ^ 64
power_fits order count small few =
    let nine : 0 < 9 = omega arith in
    let one : order ^ (count - 1) ≤ 9 ^ (count - 1) = pow-le-pow_left small (count - 1) in
    let most : count - 1 ≤ 12 = omega arith in
    let other : 9 ^ (count - 1) ≤ 9 ^ 12 = pow-le-pow_right nine most in
    omega (arith, one, other)

-- ---- what stands in a line

-- a witness as it may stand in a line
abbrev pub IsPlainWitness : Option WitnessValue → Type 0
IsPlainWitness None = Unit {0}
IsPlainWitness (Some witness) = (witness.word < 2 ^ 64) × AreDigitsOf 10 witness.poly

pub poly_plain : (witness : Option WitnessValue) → IsPlainWitness witness → AreDigitsOf 10 (poly_of witness)
poly_plain None plain = tt
poly_plain (Some witness) plain = plain.1

pub witness_plain : (h : ReportHeader) → IsReportHeader h → (v : Version) (witness : Option WitnessValue) → IsWitnessIn v h witness → IsPlainWitness witness
witness_plain h formed One None is = tt
witness_plain h formed One (Some witness) is = absurd is
witness_plain h formed Two None is = absurd is
witness_plain h formed Two (Some witness) is = (omega (arith, is.word, formed.words), poly_below_ten h.field witness.poly is.poly)

-- what follows a number is no digit
pub poly_stops : (poly : Option (List ℕ)) (x : List ℕ) → Stops is_digit (poly_bytes poly ++ (10 ∷ x))
unfolding poly_bytes
poly_stops None x = refl
poly_stops (Some digits) x = refl

pub witness_stops : (witness : Option WitnessValue) (x : List ℕ) → Stops is_digit (witness_bytes witness ++ (10 ∷ x))
unfolding witness_bytes
witness_stops None x = refl
witness_stops (Some witness) x = refl

pub poly_open : (digits x : List ℕ) → poly_bytes (Some digits) ++ (10 ∷ x) ≡ codes " poly=" ++ (digit_bytes digits ++ (10 ∷ x))
unfolding poly_bytes
poly_open digits x = append_assoc (codes " poly=") (digit_bytes digits) (10 ∷ x)

pub witness_open : (witness : WitnessValue) (x : List ℕ) → witness_bytes (Some witness) ++ (10 ∷ x) ≡ codes " word=" ++ (decimal witness.word ++ (poly_bytes witness.poly ++ (10 ∷ x)))
unfolding witness_bytes
witness_open witness x = simp append_assoc

pub no_poly : (x : List ℕ) → poly_bytes None ++ (10 ∷ x) ≡ 10 ∷ x
unfolding poly_bytes
no_poly x = refl

pub no_witness : (x : List ℕ) → witness_bytes None ++ (10 ∷ x) ≡ 10 ∷ x
unfolding witness_bytes
no_witness x = refl

feed_differs : (word x y : List ℕ) → 10 ∷ x ≡ 32 ∷ (word ++ y) → ⊥
feed_differs word x y e =
    let differ : ◌≡◌ {A = ℕ} 10 32 = cc in
    absurd (omega (arith, differ))

pub poly_unique : (p q : Option (List ℕ)) (x y : List ℕ) → AreDigitsOf 10 p → AreDigitsOf 10 q → poly_bytes p ++ (10 ∷ x) ≡ poly_bytes q ++ (10 ∷ y) → (p ≡ q) × (x ≡ y)
poly_unique None None x y pp pq e = (refl, cancel_front (10 ∷ []) x y (sym (no_poly x) ∙ e ∙ no_poly y))
poly_unique None (Some b) x y pp pq e = absurd (feed_differs (codes "poly=") x _ (sym (no_poly x) ∙ e ∙ poly_open b y))
poly_unique (Some a) None x y pp pq e = absurd (feed_differs (codes "poly=") y _ (sym (no_poly y) ∙ sym e ∙ poly_open a x))
poly_unique (Some a) (Some b) x y pp pq e =
    let after = cancel_front (codes " poly=") _ _ (sym (poly_open a x) ∙ e ∙ poly_open b y) in
    let parts = front_unique is_digit (digit_bytes a) (digit_bytes b) (10 ∷ x) (10 ∷ y) (digits_pass a pp) (digits_pass b pq) refl refl after in
    (ap (λ (l : List ℕ). Some l) (digits_injective a b parts.0), cancel_front (10 ∷ []) x y parts.1)

pub witness_unique : (v w : Option WitnessValue) (x y : List ℕ) → IsPlainWitness v → IsPlainWitness w → witness_bytes v ++ (10 ∷ x) ≡ witness_bytes w ++ (10 ∷ y) → (v ≡ w) × (x ≡ y)
witness_unique None None x y pv pw e = (refl, cancel_front (10 ∷ []) x y (sym (no_witness x) ∙ e ∙ no_witness y))
witness_unique None (Some w) x y pv pw e = absurd (feed_differs (codes "word=") x _ (sym (no_witness x) ∙ e ∙ witness_open w y))
witness_unique (Some v) None x y pv pw e = absurd (feed_differs (codes "word=") y _ (sym (no_witness y) ∙ sym e ∙ witness_open v x))
witness_unique (Some v) (Some w) x y pv pw e =
    let after = cancel_front (codes " word=") _ _ (sym (witness_open v x) ∙ e ∙ witness_open w y) in
    let number = numeral_unique v.word w.word _ _ pv.0 pw.0 (poly_stops v.poly x) (poly_stops w.poly y) after in
    let rest = poly_unique v.poly w.poly x y pv.1 pw.1 number.1 in
    (λ i. Some (record { word = number.0 i; poly = rest.0 i }), rest.1)

-- ---- constituents with theirs

-- a constituent with its witness as they may stand in a line
pub record IsLine (f : FactorValue) : Type 0 where
  pub plain : IsPlain f
  pub witness : IsPlainWitness f.witness

lines_from : (h : ReportHeader) (fs : List FactorValue) → IsReportHeader h → AllByRecursion IsPlain fs → AreWitnessed h fs → AllByRecursion IsLine fs
lines_from h [] formed plain seen = tt
lines_from h (f ∷ fs) formed plain seen = (
  record { plain = plain.0; witness = witness_plain h formed h.version f.witness (All-head (IsWitnessed h) f fs seen) },
  lines_from h fs formed plain.1 (All-tail (IsWitnessed h) f fs seen),
)

pub all_lines : (h : ReportHeader) (fs : List FactorValue) → IsReportHeader h → AreFactors h.dim fs → AreWitnessed h fs → AllByRecursion IsLine fs
all_lines h fs formed are seen = lines_from h fs formed (all_plain h.dim fs formed.dim are) seen

pub none_witnessed : (h : ReportHeader) → AreWitnessed h []
none_witnessed h = All-nil (IsWitnessed h)

pub next_witnessed : (h : ReportHeader) (fs : List FactorValue) (f : FactorValue) (hs : List FactorValue) → AreWitnessed h (fs ++ f ∷ hs) → IsWitnessed h f
next_witnessed h [] f hs seen = All-head (IsWitnessed h) f hs seen
next_witnessed h (g ∷ fs) f hs seen = next_witnessed h fs f hs (All-tail (IsWitnessed h) g (fs ++ f ∷ hs) seen)

pub first_witnessed : (h : ReportHeader) (fs gs : List FactorValue) → AreWitnessed h (fs ++ gs) → AreWitnessed h fs
first_witnessed h [] gs seen = none_witnessed h
first_witnessed h (f ∷ fs) gs seen =
    All-cons (IsWitnessed h) f fs (All-head (IsWitnessed h) f (fs ++ gs) seen) (first_witnessed h fs gs (All-tail (IsWitnessed h) f (fs ++ gs) seen))

-- ---- what the reader of a polynomial says

pub digits_length : (digits : List ℕ) → length (digit_bytes digits) ≡ length digits
unfolding digit_bytes
digits_length digits = length-map digits (λ (digit : ℕ). 48 + digit)

-- so many digits are those of no polynomial
pub too_many : (order : ℕ) (numeral : List ℕ) → 2 ≤ order → 13 < length numeral → (digits : List ℕ) → AreDigits order digits → numeral ≢ digit_bytes digits
too_many order numeral some many digits are e =
    let count : length numeral ≡ length (digit_bytes digits) = ap (λ (l : List ℕ). length l) e in
    omega (arith, many, few_digits order digits some are, count, digits_length digits)

pub few_read : (numeral digits : List ℕ) → length numeral ≤ 13 → digit_bytes digits ≡ numeral → length digits ≤ 13
few_read numeral digits few e =
    let count : length (digit_bytes digits) ≡ length numeral = ap (λ (l : List ℕ). length l) e in
    omega (arith, few, count, digits_length digits)

-- other digits do not stand there
pub other_digits : (order : ℕ) (numeral read : List ℕ) → digit_bytes read ≡ numeral → (AreDigits order read → ⊥) → (digits : List ℕ) → AreDigits order digits → numeral ≢ digit_bytes digits
other_digits order numeral read there wrong digits are e = wrong (subst (λ (l : List ℕ). AreDigits order l) (sym (digits_injective read digits (there ∙ e))) are)

pub no_poly_word : (order : ℕ) (text : List ℕ) → ((y : List ℕ) → text ≢ 10 ∷ y) → ((y : List ℕ) → text ≢ codes " poly=" ++ y)
    → (poly : Option (List ℕ)) (x : List ℕ) → IsPolyOver order poly → text ≢ poly_bytes poly ++ (10 ∷ x)
no_poly_word order text feed word None x is e = feed x (e ∙ no_poly x)
no_poly_word order text feed word (Some digits) x is e = word _ (e ∙ poly_open digits x)

-- the digits of a polynomial that stand there before a line feed
pub record PolyParts (order : ℕ) (after x : List ℕ) : Type 0 where
  pub digits : List ℕ
  pub are : AreDigits order digits
  pub front : take (prefix_len is_digit after) after ≡ digit_bytes digits
  pub back : drop (prefix_len is_digit after) after ≡ 10 ∷ x

pub poly_parts : (o : Order) (text after : List ℕ) → ((y : List ℕ) → text ≢ 10 ∷ y) → text ≡ codes " poly=" ++ after
    → (poly : Option (List ℕ)) (x : List ℕ) → IsPolyOver (order_number o) poly → text ≡ poly_bytes poly ++ (10 ∷ x) → PolyParts (order_number o) after x
poly_parts o text after feed there None x is e = absurd (feed x (e ∙ no_poly x))
poly_parts o text after feed there (Some digits) x is e =
    let rest = cancel_front (codes " poly=") _ _ (sym there ∙ e ∙ poly_open digits x) in
    let parts = front_is_prefix is_digit after (digit_bytes digits) (10 ∷ x) (digits_pass digits (poly_below_ten o (Some digits) is)) refl rest in
    record { digits = digits; are = is; front = parts.0; back = parts.1 }

pub passes_all : (test : ℕ → Bool) (xs : List ℕ) → Passes test xs → All (λ byte. test byte ≡ true) xs
passes_all test [] passes = All-nil (λ byte. test byte ≡ true)
passes_all test (x ∷ xs) passes = All-cons (λ byte. test byte ≡ true) x xs passes.0 (passes_all test xs passes.1)

-- the digits at the front are digits
pub front_digits : (text front : List ℕ) (k : ℕ) → k ≡ prefix_len is_digit text → front ≡ take k text → All (λ byte. is_digit byte ≡ true) front
front_digits text front k count e =
    passes_all is_digit front (subst (λ (l : List ℕ). Passes is_digit l) (sym (e ∙ ap (λ (i : ℕ). take i text) count)) (prefix_passes is_digit text))

pub poly_there : (text after numeral end digits rest : List ℕ) (k : ℕ) → text ≡ codes " poly=" ++ after → numeral ≡ take k after → end ≡ drop k after → end ≡ 10 ∷ rest → numeral ≡ digit_bytes digits
    → text ≡ poly_bytes (Some digits) ++ (10 ∷ rest)
poly_there text after numeral end digits rest k there front back feed spelled =
    let parts : after ≡ digit_bytes digits ++ (10 ∷ rest) =
    sym (take-append-drop k after) ∙ ap₂ (λ (x : List ℕ) (y : List ℕ). x ++ y) (sym front ∙ spelled) (sym back ∙ feed) in
    there ∙ ap (λ (l : List ℕ). codes " poly=" ++ l) parts ∙ sym (poly_open digits rest)

-- ---- what the reader of a witness says

pub word_is : (text left : List ℕ) (n : ℕ) (h : ReportHeader) (w : WitnessValue) (x : List ℕ) → IsReportHeader h → n < 2 ^ 64 → text ≡ codes " word=" ++ (decimal n ++ left) → Stops is_digit left → IsWitnessUnder h w
    → text ≡ witness_bytes (Some w) ++ (10 ∷ x) → (n ≡ w.word) × (left ≡ poly_bytes w.poly ++ (10 ∷ x))
word_is text left n h w x formed fits there stops is e =
    setting_unique (codes " word=") text n w.word left (poly_bytes w.poly ++ (10 ∷ x)) fits (omega (arith, is.word, formed.words)) stops (poly_stops w.poly x) there (e ∙ witness_open w x)

pub witness_there : (text left rest : List ℕ) (w : WitnessValue) → text ≡ codes " word=" ++ (decimal w.word ++ left) → left ≡ poly_bytes w.poly ++ (10 ∷ rest) → text ≡ witness_bytes (Some w) ++ (10 ∷ rest)
witness_there text left rest w there poly = there ∙ ap (λ (l : List ℕ). codes " word=" ++ (decimal w.word ++ l)) poly ∙ sym (witness_open w rest)

-- ---- by the version

one_none : (h : ReportHeader) (w : Option WitnessValue) → IsWitnessIn One h w → w ≡ None
one_none h None is = refl
one_none h (Some w) is = absurd is

pub no_feed : (h : ReportHeader) (text : List ℕ) → h.version ≡ One → ((y : List ℕ) → text ≢ 10 ∷ y) → (w : Option WitnessValue) (x : List ℕ) → IsWitnessIn h.version h w → text ≢ witness_bytes w ++ (10 ∷ x)
no_feed h text one feed w x is e =
    let none = one_none h w (subst (λ (v : Version). IsWitnessIn v h w) one is) in
    feed x (e ∙ ap (λ (k : Option WitnessValue). witness_bytes k ++ (10 ∷ x)) none ∙ no_witness x)

pub feed_there : (h : ReportHeader) (text x : List ℕ) → h.version ≡ One → text ≡ 10 ∷ x → IsWitnessIn h.version h None × (text ≡ witness_bytes None ++ (10 ∷ x))
feed_there h text x one e = (subst (λ (v : Version). IsWitnessIn v h None) (sym one) tt, e ∙ sym (no_witness x))
