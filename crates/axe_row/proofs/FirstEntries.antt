-- The first entry of a row that is not zero, by its planes.
use Rattle.std.proofs.Common.{◌≡◌, ◌≢◌, ℕ, ◌+◌, ◌<◌, ◌≤◌, ltb, Option, Some, None, List, length, get_or, min, refl, sym, ap, ap₂, subst, ◌∙◌, arith, inl, inr, MatchOption}
use Rattle.std.specs.List.{All}
use Rattle.std.proofs.lemmas.Bool.{cases_lt}
use Rattle.std.proofs.lemmas.List.{get_or_past}
use Rattle.std.proofs.lemmas.List.Elements.{All-get_or, All-from_get_or}
use native.Mathlib.Decide.{dec_lt}
use Rattle.axe_field.specs.Order.{Order, Two, Three, Four, Five, Seven, Eight, Nine, degree_of}
use Rattle.axe_field.specs.Arithmetic.{polynomial_of, coefficients}
use Rattle.axe_field.specs.Planes.{coefficient, element_of}
use Rattle.axe_lane.specs.Entries as lane
use Rattle.axe_plane.specs.Planes.{digits_of}
use Rattle.axe_plane.specs.declared.Plane.{Plane}
use Rattle.axe_lane.specs.Entries.{IsFirstNonzero}
use Rattle.axe_row.specs.Operations.{IsZeroVector}
use Rattle.axe_layer.specs.Earlier.{earlier_of}
use Rattle.axe_row.specs.Planes.{ArePlanes, HaveZerosBefore}
use Rattle.axe_row.specs.Rows.{RowValue}
use Rattle.axe_row.proofs.RowPlanes.{entries_of, length-entries, entries-at, element_at, element_of-zeros, no_longer}

-- the values of a function of indices, of which the first other than 0 stands at this index
record IsFirst (f : ℕ → ℕ) (i : ℕ) : Type 0 where
  nonzero : f i ≢ 0
  zeros_before : (j : ℕ) → j < i → f j ≡ 0

abbrev Finds : Option ℕ → (ℕ → ℕ) → Type 0
Finds r f = MatchOption r ((j : ℕ) → f j ≡ 0) (IsFirst f)

-- the entries of a list, with 0 past its end
abbrev pub at : List ℕ → ℕ → ℕ
at xs j = get_or xs j 0

finds_digit : (r : Option ℕ) (xs : List ℕ) → MatchOption r (All (λ x. x ≡ 0) xs) (lane.IsFirstNonzero xs) → Finds r (at xs)
finds_digit None xs zeros = λ j. elim (dec_lt j (length xs)) [
  | yes inside ↦ All-get_or (λ x. x ≡ 0) xs j 0 inside zeros
  | no outside ↦ get_or_past xs j 0 (omega arith)
]
finds_digit (Some i) xs h = record { nonzero = h.nonzero; zeros_before = h.zeros_before }

-- the earlier of two is the first where one of both is not zero
finds_earlier : (r s : Option ℕ) (f g : ℕ → ℕ) → Finds r f → Finds s g → Finds (earlier_of r s) (λ j. f j + g j)
finds_earlier None None f g hf hg = λ j. omega (arith, hf j, hg j)
finds_earlier None (Some k) f g hf hg = record {
  nonzero = λ none. hg.nonzero (omega arith);
  zeros_before = λ j before. omega (arith, hf j, hg.zeros_before j before);
}
finds_earlier (Some i) None f g hf hg = record {
  nonzero = λ none. hf.nonzero (omega arith);
  zeros_before = λ j before. omega (arith, hg j, hf.zeros_before j before);
}
finds_earlier (Some i) (Some k) f g hf hg = record {
  nonzero = λ none. elim (cases_lt i k) [
    | inl l ↦ let first : min i k ≡ i = omega arith in hf.nonzero (omega (arith, sym (ap (λ j. f j + g j) first) ∙ none))
    | inr l ↦ let first : min i k ≡ k = omega arith in hg.nonzero (omega (arith, sym (ap (λ j. f j + g j) first) ∙ none))
  ];
  zeros_before = λ j before.
      let left : j < i = omega arith in
      let right : j < k = omega arith in
      omega (arith, hf.zeros_before j left, hg.zeros_before j right);
}

-- ---- entries

abbrev pub digit_sum : Plane → Plane → Plane → ℕ → ℕ
digit_sum c l q j = at (digits_of c) j + (at (digits_of l) j + at (digits_of q) j)

pub entry_zero : (o : Order) (n : ℕ) (c l q : Plane) (j : ℕ) → j < length (digits_of c) → digit_sum c l q j ≡ 0 → at (entries_of o c l q) j ≡ 0
entry_zero o n c l q j inside none =
    let constant : at (digits_of c) j ≡ 0 = omega arith in
    let linear : at (digits_of l) j ≡ 0 = omega arith in
    let quadratic : at (digits_of q) j ≡ 0 = omega arith in
    entries-at o (digits_of c) (digits_of l) (digits_of q) j 0 inside
    ∙ ap (λ x. element_of o x (at (digits_of l) j) (at (digits_of q) j)) constant
    ∙ ap₂ (element_of o 0) linear quadratic ∙ element_of-zeros o

zero_has_none : (o : Order) → (coefficient o 0 0 ≡ 0) × ((coefficient o 0 1 ≡ 0) × (coefficient o 0 2 ≡ 0))
unfolding polynomial_of coefficients
zero_has_none Two = (refl, (refl, refl))
zero_has_none Three = (refl, (refl, refl))
zero_has_none Four = (refl, (refl, refl))
zero_has_none Five = (refl, (refl, refl))
zero_has_none Seven = (refl, (refl, refl))
zero_has_none Eight = (refl, (refl, refl))
zero_has_none Nine = (refl, (refl, refl))

-- an element that is 0 has no coefficients
pub digits_zero : (o : Order) (n : ℕ) (c l q : Plane) (j : ℕ) → ArePlanes o n c l q → j < length (digits_of c) → at (entries_of o c l q) j ≡ 0 →
    digit_sum c l q j ≡ 0
digits_zero o n c l q j h inside none =
    let e = element_at o n c l q j h in
    let z = zero_has_none o in
    let is : element_of o (at (digits_of c) j) (at (digits_of l) j) (at (digits_of q) j) ≡ 0 =
    sym (entries-at o (digits_of c) (digits_of l) (digits_of q) j 0 inside) ∙ none in
    omega (
      arith,
      sym e.first ∙ ap (λ x. coefficient o x 0) is ∙ z.0,
      sym e.second ∙ ap (λ x. coefficient o x 1) is ∙ z.1.0,
      sym e.third ∙ ap (λ x. coefficient o x 2) is ∙ z.1.1,
    )

pub digits_past : (o : Order) (n : ℕ) (c l q : Plane) (j : ℕ) → ArePlanes o n c l q → length (digits_of c) ≤ j → digit_sum c l q j ≡ 0
digits_past o n c l q j h past =
    omega (
      arith,
      get_or_past (digits_of c) j 0 past,
      get_or_past (digits_of l) j 0 (omega (arith, h.constant.long, h.linear.long, no_longer (ltb 1 (degree_of o)) n)),
      get_or_past (digits_of q) j 0 (omega (arith, h.constant.long, h.quadratic.long, no_longer (ltb 2 (degree_of o)) n)),
    )

-- a digit of a row whose entries before an index are 0
zero_before : (o : Order) (c l q : Plane) (start j : ℕ) → ArePlanes o (length (digits_of c)) c l q → lane.AreZerosBefore (entries_of o c l q) start →
    j < start → digit_sum c l q j ≡ 0
zero_before o c l q start j h zeros before = elim (dec_lt j (length (digits_of c))) [
  | yes inside ↦ digits_zero o (length (digits_of c)) c l q j h inside (zeros j before)
  | no outside ↦ digits_past o (length (digits_of c)) c l q j h (omega arith)
]

-- the planes of such a row
pub zeros_before_in_planes : (o : Order) (c l q : Plane) (start : ℕ) (self : RowValue) → ArePlanes o (length (digits_of c)) c l q →
    record { order = o; entries = entries_of o c l q } ≡ self → lane.AreZerosBefore self.entries start → HaveZerosBefore start c l q
zeros_before_in_planes o c l q start self h self_is zeros = record {
  constant = λ j before. omega (arith, zero_before o c l q start j h here before);
  linear = λ j before. omega (arith, zero_before o c l q start j h here before);
  quadratic = λ j before. omega (arith, zero_before o c l q start j h here before);
}
  where
    here : lane.AreZerosBefore (entries_of o c l q) start
    here = subst (λ (row : RowValue). lane.AreZerosBefore row.entries start) (sym self_is) zeros

digits_are_zero : (o : Order) (n : ℕ) (c l q : Plane) → ArePlanes o n c l q → IsZeroVector (entries_of o c l q) → (j : ℕ) → digit_sum c l q j ≡ 0
digits_are_zero o n c l q h zeros j = elim (dec_lt j (length (digits_of c))) [
  | yes inside ↦
      digits_zero o n c l q j h inside
      (All-get_or (λ x. x ≡ 0) (entries_of o c l q) j 0 (omega (arith, length-entries o (digits_of c) (digits_of l) (digits_of q))) zeros)
  | no outside ↦ digits_past o n c l q j h (omega arith)
]

entries_are_zero : (o : Order) (n : ℕ) (c l q : Plane) → ArePlanes o n c l q → ((j : ℕ) → digit_sum c l q j ≡ 0) → IsZeroVector (entries_of o c l q)
entries_are_zero o n c l q h none =
    All-from_get_or (λ x. x ≡ 0) (entries_of o c l q) 0 (λ j inside.
    entry_zero o n c l q j (omega (arith, length-entries o (digits_of c) (digits_of l) (digits_of q))) (none j))

first_entry : (o : Order) (n : ℕ) (c l q : Plane) (i : ℕ) → ArePlanes o n c l q → IsFirst (digit_sum c l q) i → IsFirstNonzero (entries_of o c l q) i
first_entry o n c l q i h first =
    let long = length-entries o (digits_of c) (digits_of l) (digits_of q) in
    let inside : i < length (digits_of c) = elim (dec_lt i (length (digits_of c))) [
      | yes here ↦ here
      | no outside ↦ absurd (first.nonzero (digits_past o n c l q i h (omega arith)))
    ] in
    record {
      within = omega (arith, long);
      nonzero = λ none. first.nonzero (digits_zero o n c l q i h inside none);
      zeros_before = λ j before. entry_zero o n c l q j (omega arith) (first.zeros_before j before);
    }

finds_entry : (r : Option ℕ) (o : Order) (n : ℕ) (c l q : Plane) → ArePlanes o n c l q → Finds r (digit_sum c l q) →
    MatchOption r (IsZeroVector (entries_of o c l q)) (IsFirstNonzero (entries_of o c l q))
finds_entry None o n c l q h none = entries_are_zero o n c l q h none
finds_entry (Some i) o n c l q h first = first_entry o n c l q i h first

-- what a plane answers of its digits
abbrev pub FindsDigit : Option ℕ → Plane → Type 0
FindsDigit r plane = MatchOption r (All (λ digit. digit ≡ 0) (digits_of plane)) (lane.IsFirstNonzero (digits_of plane))

-- the earliest of the planes' first digits is the first entry
pub first_of_planes : (r s t : Option ℕ) (o : Order) (n : ℕ) (c l q : Plane) → ArePlanes o n c l q →
    FindsDigit r c → FindsDigit s l → FindsDigit t q →
    MatchOption (earlier_of r (earlier_of s t)) (IsZeroVector (entries_of o c l q)) (IsFirstNonzero (entries_of o c l q))
first_of_planes r s t o n c l q h hr hs ht =
    finds_entry (earlier_of r (earlier_of s t)) o n c l q h
    (finds_earlier r (earlier_of s t) (at (digits_of c)) (λ j. at (digits_of l) j + at (digits_of q) j) (finds_digit r (digits_of c) hr)
    (finds_earlier s t (at (digits_of l)) (at (digits_of q)) (finds_digit s (digits_of l) hs) (finds_digit t (digits_of q) ht)))

-- ---- rows of zeros

abbrev pub IsZeroPlane : Plane → Type 0
IsZeroPlane plane = All (λ digit. digit ≡ 0) (digits_of plane)

pub record AreZeroPlanes (c l q : Plane) : Type 0 where
  pub constant : IsZeroPlane c
  pub linear : IsZeroPlane l
  pub quadratic : IsZeroPlane q

pub zero_entries_of_planes : (o : Order) (n : ℕ) (c l q : Plane) → ArePlanes o n c l q → IsZeroPlane c → IsZeroPlane l → IsZeroPlane q →
    IsZeroVector (entries_of o c l q)
zero_entries_of_planes o n c l q h hc hl hq =
    entries_are_zero o n c l q h (λ j. omega (arith, finds_digit None (digits_of c) hc j, finds_digit None (digits_of l) hl j, finds_digit None (digits_of q) hq j))

pub zero_planes_of_entries : (o : Order) (n : ℕ) (c l q : Plane) → ArePlanes o n c l q → IsZeroVector (entries_of o c l q) →
    AreZeroPlanes c l q
zero_planes_of_entries o n c l q h zeros =
    let none = digits_are_zero o n c l q h zeros in
    record {
      constant = All-from_get_or (λ x. x ≡ 0) (digits_of c) 0 (λ j inside. omega (arith, none j));
      linear = All-from_get_or (λ x. x ≡ 0) (digits_of l) 0 (λ j inside. omega (arith, none j));
      quadratic = All-from_get_or (λ x. x ≡ 0) (digits_of q) 0 (λ j inside. omega (arith, none j));
    }

-- the same of the row that they are seen as
pub zero_planes_of_row : (o : Order) (c l q : Plane) (self : RowValue) → ArePlanes o (length (digits_of c)) c l q →
    record { order = o; entries = entries_of o c l q } ≡ self → IsZeroVector self.entries → AreZeroPlanes c l q
zero_planes_of_row o c l q self h self_is zeros =
    zero_planes_of_entries o _ c l q h (subst (λ (row : RowValue). IsZeroVector row.entries) (sym self_is) zeros)

pub zero_row_of_planes : (o : Order) (c l q : Plane) (self : RowValue) → ArePlanes o (length (digits_of c)) c l q →
    record { order = o; entries = entries_of o c l q } ≡ self → IsZeroPlane c → IsZeroPlane l → IsZeroPlane q → IsZeroVector self.entries
zero_row_of_planes o c l q self h self_is hc hl hq =
    subst (λ (row : RowValue). IsZeroVector row.entries) self_is (zero_entries_of_planes o _ c l q h hc hl hq)
