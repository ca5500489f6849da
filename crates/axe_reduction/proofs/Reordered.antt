-- Reduced rows and their pivots, of which the last was moved to another place.
use Rattle.std.proofs.Common.{◌≡◌, ℕ, ◌+◌, ◌-◌, ◌<◌, ◌≤◌, List, [], ◌∷◌, ◌++◌, length, get_or, map, take, drop, refl, sym, ap, ap₂, subst, ◌∙◌, arith, inl, inr, length-append}
use Rattle.std.specs.Prelude.{cond, eqb, ltb}
use Rattle.std.specs.List.{All, insert}
use Rattle.std.proofs.lemmas.Bool.{cases_order, lt-ltb, le-ltb, eq-eqb, ne_eqb}
use Rattle.std.proofs.lemmas.List.{map-append, take-map, drop-map, get_or_append_left, get_or-append-add}
use Rattle.std.proofs.lemmas.List.Edits.{length-insert, get_or-insert_below, get_or-insert_at, get_or-insert_above}
use native.Mathlib.Decide.{dec_lt}
use Rattle.axe_algebra.specs.Bridge.{field_of, element, vector_of, matrix_of}
use Rattle.axe_algebra.specs.Field.{Field}
use Rattle.axe_algebra.specs.Lists.{IsVectorOver}
use Rattle.axe_algebra.specs.NumberField.{NumberField}
use Rattle.axe_algebra.specs.SpansOfLists.{IsSpanned}
use Rattle.axe_algebra.proofs.ListVectors.{same_span_by_rows, same_span_trans}
use Rattle.axe_algebra.proofs.Spanning.{span_row, span_same}
use Rattle.axe_reduction.specs.Forms.{AreReduced}

-- ---- places

-- after the last of n + 1 was moved to place i: where what is at place t was, and where what was at place t is
abbrev pub was_at : ℕ → ℕ → ℕ → ℕ
was_at n i t = cond (ltb t i) t (cond (eqb t i) n (t - 1))

abbrev pub is_at : ℕ → ℕ → ℕ → ℕ
is_at n i t = cond (ltb t i) t (cond (eqb t n) i (t + 1))

was_below : (n i t : ℕ) → t < i → was_at n i t ≡ t
was_below n i t below = rw (lt-ltb t i below) refl

was_last : (n i t : ℕ) → t ≡ i → was_at n i t ≡ n
was_last n i t here = rw (le-ltb t i (omega (arith, here)), eq-eqb t i here) refl

was_above : (n i t : ℕ) → i < t → was_at n i t ≡ t - 1
was_above n i t above = rw (le-ltb t i (omega arith), ne_eqb t i (λ e. omega (arith, e))) refl

is_below : (n i t : ℕ) → t < i → is_at n i t ≡ t
is_below n i t below = rw (lt-ltb t i below) refl

is_moved : (n i t : ℕ) → i ≤ n → t ≡ n → is_at n i t ≡ i
is_moved n i t within last = rw (le-ltb t i (omega (arith, last)), eq-eqb t n last) refl

is_above : (n i t : ℕ) → i ≤ t → t < n → is_at n i t ≡ t + 1
is_above n i t above before = rw (le-ltb t i above, ne_eqb t n (λ e. omega (arith, e))) refl

was_within : (n i t : ℕ) → i ≤ n → t < n + 1 → was_at n i t < n + 1
was_within n i t within below = elim (cases_order t i) [
  | inl here ↦ omega (arith, was_last n i t here)
  | inr (inl earlier) ↦ omega (arith, was_below n i t earlier)
  | inr (inr later) ↦ omega (arith, was_above n i t later)
]

is_within : (n i t : ℕ) → i ≤ n → t < n + 1 → is_at n i t < n + 1
is_within n i t within below = elim (dec_lt t i) [
  | yes earlier ↦ omega (arith, is_below n i t earlier)
  | no later ↦ elim (dec_lt t n) [
    | yes before ↦ omega (arith, is_above n i t (omega arith) before)
    | no last ↦ omega (arith, is_moved n i t within (omega arith))
  ]
]

is_where_it_was : (n i t : ℕ) → i ≤ n → t < n + 1 → is_at n i (was_at n i t) ≡ t
is_where_it_was n i t within below = elim (cases_order t i) [
  | inl here ↦ ap (is_at n i) (was_last n i t here) ∙ is_moved n i n within refl ∙ sym here
  | inr (inl earlier) ↦ ap (is_at n i) (was_below n i t earlier) ∙ is_below n i t earlier
  | inr (inr later) ↦ ap (is_at n i) (was_above n i t later) ∙ is_above n i (t - 1) (omega arith) (omega arith) ∙ omega arith
]

was_where_it_is : (n i t : ℕ) → i ≤ n → t < n + 1 → was_at n i (is_at n i t) ≡ t
was_where_it_is n i t within below = elim (dec_lt t i) [
  | yes earlier ↦ ap (was_at n i) (is_below n i t earlier) ∙ was_below n i t earlier
  | no later ↦ elim (dec_lt t n) [
    | yes before ↦ ap (was_at n i) (is_above n i t (omega arith) before) ∙ was_above n i (t + 1) (omega arith) ∙ omega arith
    | no last ↦ ap (was_at n i) (is_moved n i t within (omega arith)) ∙ was_last n i i refl ∙ omega arith
  ]
]

-- ---- items

module _ {X : Type 0} where
  inserted_item : (xs : List X) (i : ℕ) (y d : X) (t : ℕ) → i ≤ length xs → t < length xs + 1 →
      get_or (insert xs i y) t d ≡ get_or (xs ++ y ∷ []) (was_at (length xs) i t) d
  inserted_item xs i y d t within below = elim (cases_order t i) [
    | inl here ↦
        let last : length xs + 0 ≡ was_at (length xs) i t = omega (arith, was_last (length xs) i t here) in
        ap (λ k. get_or (insert xs i y) k d) here ∙ get_or-insert_at xs i y d within ∙ sym (get_or-append-add xs (y ∷ []) 0 d)
        ∙ ap (λ k. get_or (xs ++ y ∷ []) k d) last
    | inr (inl earlier) ↦
        get_or-insert_below xs i y d t earlier within ∙ sym (get_or_append_left xs (y ∷ []) d t (omega arith))
        ∙ ap (λ k. get_or (xs ++ y ∷ []) k d) (sym (was_below (length xs) i t earlier))
    | inr (inr later) ↦
        let whole : t ≡ t - 1 + 1 = omega arith in
        ap (λ k. get_or (insert xs i y) k d) whole ∙ get_or-insert_above xs i y d (t - 1) (omega arith) within
        ∙ sym (get_or_append_left xs (y ∷ []) d (t - 1) (omega arith))
        ∙ ap (λ k. get_or (xs ++ y ∷ []) k d) (sym (was_above (length xs) i t later))
  ]

  -- what holds of each item of a list and of a further one
  pub All-insert : (P : X → Type 0) (xs : List X) (i : ℕ) (y : X) → i ≤ length xs → All P (xs ++ y ∷ []) → All P (insert xs i y)
  All-insert P xs i y within all t d below =
      let long = length-insert xs i y within in
      let inside : t < length xs + 1 = omega (arith, below, long) in
      subst P (sym (inserted_item xs i y d t within inside))
      (all (was_at (length xs) i t) d (omega (arith, was_within (length xs) i t within inside, length-append xs (y ∷ []))))

  pub All-others : (P : X → Type 0) (xs : List X) (i : ℕ) (y : X) → i ≤ length xs → All P (insert xs i y) → All P xs
  All-others P xs i y within all t d below =
      let long = length-insert xs i y within in
      elim (dec_lt t i) [
        | yes earlier ↦ subst P (get_or-insert_below xs i y d t earlier within) (all t d (omega (arith, below, long)))
        | no later ↦ subst P (get_or-insert_above xs i y d t (omega arith) within) (all (t + 1) d (omega (arith, below, long)))
      ]

  pub All-inserted : (P : X → Type 0) (xs : List X) (i : ℕ) (y : X) → i ≤ length xs → All P (insert xs i y) → P y
  All-inserted P xs i y within all =
      let long = length-insert xs i y within in
      subst P (get_or-insert_at xs i y y within) (all i y (omega (arith, within, long)))

pub map-insert : {X Y : Type 0} (f : X → Y) (xs : List X) (i : ℕ) (y : X) → map f (insert xs i y) ≡ insert (map f xs) i (f y)
map-insert f xs i y =
    map-append f (take i xs) (y ∷ drop i xs)
    ∙ ap₂ (λ a b. a ++ f y ∷ b) (sym (take-map f i xs)) (sym (drop-map f i xs))

-- ---- reduced rows

module _ (K : NumberField) where
  abbrev F : Field
  F = field_of K

  spanned_row : (rows : List (List ℕ)) (x : List ℕ) (t : ℕ) → t < length rows → x ≡ get_or rows t [] → IsSpanned K rows x
  spanned_row rows x t below is =
      span_same F (length rows) (matrix_of K rows) (vector_of K x) (vector_of K (get_or rows t [])) (ap (vector_of K) is)
      (span_row F (length rows) (matrix_of K rows) t below)

  -- rows that are among others, before the same further ones
  spanned_before : (a b z : List (List ℕ)) (at : ℕ → ℕ) → length b ≡ length a → ((t : ℕ) → t < length a → at t < length a) →
      ((t : ℕ) → t < length a → get_or a t [] ≡ get_or b (at t) []) → (t : ℕ) → t < length (a ++ z) → IsSpanned K (b ++ z) (get_or (a ++ z) t [])
  spanned_before a b z at as_many within same t below =
      let all = length-append a z in
      let long = length-append b z in
      elim (dec_lt t (length a)) [
        | yes first ↦
            let small = within t first in
            spanned_row (b ++ z) (get_or (a ++ z) t []) (at t) (omega (arith, small, long, as_many))
            (get_or_append_left a z [] t first ∙ same t first ∙ sym (get_or_append_left b z [] (at t) (omega (arith, small, as_many))))
        | no further ↦
            let k : ℕ = t - length a in
            let here : t ≡ length a + k = omega arith in
            let there : length b + k ≡ t = omega (arith, as_many) in
            spanned_row (b ++ z) (get_or (a ++ z) t []) t (omega (arith, below, all, long, as_many))
            (ap (λ j. get_or (a ++ z) j []) here ∙ get_or-append-add a z k [] ∙ sym (get_or-append-add b z k [])
            ∙ ap (λ j. get_or (b ++ z) j []) there)
      ]

  -- the last of the reduced rows moves to another place, and its pivot with it
  pub moved_are_reduced : (left columns i q : ℕ) (u : List (List ℕ)) (p : List ℕ) (v z : List (List ℕ)) (w : List ℕ) → i ≤ length v →
      length p ≡ length v → AreReduced K left columns u (p ++ q ∷ []) (v ++ w ∷ []) z → AreReduced K left columns u (insert p i q) (insert v i w) z
  moved_are_reduced left columns i q u p v z w within as_many h = record {
    over = All-insert (IsVectorOver K columns) v i w within h.over;
    count = omega (arith, h.count, now, then);
    pivot_count = omega (arith, now, length-insert p i q pivots_within, as_many);
    pivots_left = All-insert (λ pivot. pivot < left) p i q pivots_within h.pivots_left;
    are_reduced = record {
      one = λ t below.
          let inside : t < n + 1 = omega (arith, below, now) in
          ap₂ at (row t inside) (pivot t inside) ∙ h.are_reduced.one (was_at n i t) (was_inside t inside);
      before = λ t j below earlier.
          let inside : t < n + 1 = omega (arith, below, now) in
          ap (λ (r : List ℕ). at r j) (row t inside)
          ∙ h.are_reduced.before (was_at n i t) j (was_inside t inside) (subst (λ c. j < c) (pivot t inside) earlier);
      zero = λ s t s-below t-below other.
          let s-inside : s < n + 1 = omega (arith, s-below, now) in
          let t-inside : t < n + 1 = omega (arith, t-below, now) in
          ap₂ at (row s s-inside) (pivot t t-inside)
          ∙ h.are_reduced.zero (was_at n i s) (was_at n i t) (was_inside s s-inside) (was_inside t t-inside)
          (λ e. other (sym (is_where_it_was n i s within s-inside) ∙ ap (is_at n i) e ∙ is_where_it_was n i t within t-inside));
    };
    rest_zero = h.rest_zero;
    same = same_span_trans K u (v ++ w ∷ [] ++ z) (insert v i w ++ z) h.same
        (same_span_by_rows K (v ++ w ∷ [] ++ z) (insert v i w ++ z)
        (spanned_before (v ++ w ∷ []) (insert v i w) z (is_at n i) (now ∙ sym then)
        (λ t below. let small = is_within n i t within (omega (arith, below, then)) in omega (arith, small, then))
        (λ t below.
        let inside : t < n + 1 = omega (arith, below, then) in
        ap (λ k. get_or (v ++ w ∷ []) k []) (sym (was_where_it_is n i t within inside)) ∙ sym (row (is_at n i t) (is_within n i t within inside))))
        (spanned_before (insert v i w) (v ++ w ∷ []) z (was_at n i) (then ∙ sym now)
        (λ t below. let small = was_within n i t within (omega (arith, below, now)) in omega (arith, small, now))
        (λ t below. row t (omega (arith, below, now)))));
  }
    where
      n : ℕ
      n = length v

      at : List ℕ → ℕ → F.Element
      at r j = element K (get_or r j 0)

      now : length (insert v i w) ≡ n + 1
      now = length-insert v i w within

      then : length (v ++ w ∷ []) ≡ n + 1
      then = length-append v (w ∷ [])

      pivots_within : i ≤ length p
      pivots_within = omega (arith, within, as_many)

      was_inside : (t : ℕ) → t < n + 1 → was_at n i t < length (v ++ w ∷ [])
      was_inside t inside = let small = was_within n i t within inside in omega (arith, small, then)

      row : (t : ℕ) → t < n + 1 → get_or (insert v i w) t [] ≡ get_or (v ++ w ∷ []) (was_at n i t) []
      row t inside = inserted_item v i w [] t within inside

      pivot : (t : ℕ) → t < n + 1 → get_or (insert p i q) t 0 ≡ get_or (p ++ q ∷ []) (was_at n i t) 0
      pivot t inside =
          inserted_item p i q 0 t pivots_within (omega (arith, inside, as_many))
          ∙ ap (λ k. get_or (p ++ q ∷ []) (was_at k i t) 0) as_many
