-- Rows in which the digits of one word of a plane are replaced.
use Rattle.std.proofs.Common.{◌≡◌, ◌≢◌, ℕ, zero, suc, ◌<◌, ◌≤◌, Bool, true, false, List, [], length, get_or, map, cond, ltb, refl, sym, ap, subst, ◌∙◌, arith}
use Rattle.std.proofs.lemmas.Bool.{le-ltb}
use Rattle.std.proofs.lemmas.List.{ext_get_or, get_or-map, length-map}
use Rattle.axe_field.specs.Order.{Order, Two, Three, Four, Five, Seven, Eight, Nine, prime_of, degree_of}
use Rattle.axe_field.specs.Planes.{coefficient}
use Rattle.axe_layer.specs.Words.{digit_of_words, digits_with_word}
use Rattle.axe_plane.specs.Planes.{prime_of_plane, digits_of, IsPlane}
use Rattle.axe_plane.specs.declared.Plane.{Plane}
use Rattle.axe_plane.proofs.PlaneWords.{plane_of_word}
use Rattle.axe_row.specs.Planes.{ArePlanes, coefficients_at}
use Rattle.axe_row.specs.Rows.{RowValue}
use Rattle.axe_row.specs.Words.{HasWords}
use Rattle.axe_row.proofs.RowPlanes.{entries_of, length-entries, entries-at, element_at}

-- ---- the digits of the planes are the coefficients of the entries

-- the digits of the plane of the coefficients of x^j
abbrev pub digits_of_power : ℕ → Plane → Plane → Plane → List ℕ
digits_of_power zero c l q = digits_of c
digits_of_power (suc zero) c l q = digits_of l
digits_of_power (suc (suc zero)) c l q = digits_of q
digits_of_power (suc (suc (suc j))) c l q = []

these_digits : (o : Order) (j n : ℕ) (b : Bool) (entries digits : List ℕ) → length entries ≡ n → length digits ≡ cond b n 0 →
    ((e : ℕ) → e < n → coefficient o (get_or entries e 0) j ≡ get_or digits e 0) →
    cond b (map (λ a. coefficient o a j) entries) [] ≡ digits
these_digits o j n true entries digits long as_long at =
    ext_get_or 0 (map (λ a. coefficient o a j) entries) digits (length-map entries (λ a. coefficient o a j) ∙ long ∙ sym as_long) (λ e inside.
    let here : e < length entries = omega (arith, length-map entries (λ a. coefficient o a j)) in
    get_or-map (λ a. coefficient o a j) entries e 0 0 here ∙ at e (omega (arith, here, long)))
these_digits o j n false entries digits long as_long at =
    ext_get_or 0 [] digits (sym as_long) (λ e inside. absurd (omega arith))

-- no field has a greater degree
pub degree_small : (o : Order) → degree_of o ≤ 3
degree_small Two = omega arith
degree_small Three = omega arith
degree_small Four = omega arith
degree_small Five = omega arith
degree_small Seven = omega arith
degree_small Eight = omega arith
degree_small Nine = omega arith

no_more : (o : Order) (j : ℕ) (entries : List ℕ) → coefficients_at o (suc (suc (suc j))) entries ≡ []
no_more o j entries =
    ap (λ b. cond b (map (λ a. coefficient o a (suc (suc (suc j)))) entries) [])
    (le-ltb (suc (suc (suc j))) (degree_of o) (omega (arith, degree_small o)))

whole : (o : Order) (n : ℕ) → n ≡ cond (ltb 0 (degree_of o)) n 0
whole Two n = refl
whole Three n = refl
whole Four n = refl
whole Five n = refl
whole Seven n = refl
whole Eight n = refl
whole Nine n = refl

module _ (o : Order) (n : ℕ) (c l q : Plane) (h : ArePlanes o n c l q) where
  long_entries : length (entries_of o c l q) ≡ n
  long_entries = length-entries o (digits_of c) (digits_of l) (digits_of q) ∙ h.constant.long

  pub coefficients_are_digits : (j : ℕ) → coefficients_at o j (entries_of o c l q) ≡ digits_of_power j c l q
  coefficients_are_digits zero =
      these_digits o 0 n (ltb 0 (degree_of o)) (entries_of o c l q) (digits_of c) long_entries (h.constant.long ∙ whole o n) (λ e inside.
      ap (λ x. coefficient o x 0) (entries-at o (digits_of c) (digits_of l) (digits_of q) e 0 (omega (arith, h.constant.long)))
      ∙ (element_at o n c l q e h).first)
  coefficients_are_digits (suc zero) =
      these_digits o 1 n (ltb 1 (degree_of o)) (entries_of o c l q) (digits_of l) long_entries h.linear.long (λ e inside.
      ap (λ x. coefficient o x 1) (entries-at o (digits_of c) (digits_of l) (digits_of q) e 0 (omega (arith, h.constant.long)))
      ∙ (element_at o n c l q e h).second)
  coefficients_are_digits (suc (suc zero)) =
      these_digits o 2 n (ltb 2 (degree_of o)) (entries_of o c l q) (digits_of q) long_entries h.quadratic.long (λ e inside.
      ap (λ x. coefficient o x 2) (entries-at o (digits_of c) (digits_of l) (digits_of q) e 0 (omega (arith, h.constant.long)))
      ∙ (element_at o n c l q e h).third)
  coefficients_are_digits (suc (suc (suc j))) = no_more o j (entries_of o c l q)

  -- and those of the row that is seen
  pub digits_are_coefficients : (j power : ℕ) (self : RowValue) → record { order = o; entries = entries_of o c l q } ≡ self → power ≡ j →
      digits_of_power j c l q ≡ coefficients_at self.order power self.entries
  digits_are_coefficients j power self view_is same =
      sym (coefficients_are_digits j) ∙ ap (λ i. coefficients_at o i (entries_of o c l q)) (sym same)
      ∙ ap (λ (r : RowValue). coefficients_at r.order power r.entries) view_is

-- where a power is neither 0 nor 1, it is 2
pub third_power : (o : Order) (j : ℕ) → j < degree_of o → j ≢ 0 → j ≢ 1 → j ≡ 2
third_power Two j below not_first not_second = omega (arith, below, not_first, not_second)
third_power Three j below not_first not_second = omega (arith, below, not_first, not_second)
third_power Four j below not_first not_second = omega (arith, below, not_first, not_second)
third_power Five j below not_first not_second = omega (arith, below, not_first, not_second)
third_power Seven j below not_first not_second = omega (arith, below, not_first, not_second)
third_power Eight j below not_first not_second = omega (arith, below, not_first, not_second)
third_power Nine j below not_first not_second = omega (arith, below, not_first, not_second)

-- ---- the planes after

-- the planes after are those before, but for that of the coefficients of x^j
record AreOthers (j : ℕ) (c l q c' l' q' : Plane) : Type 0 where
  constant : 0 ≢ j → c' ≡ c
  linear : 1 ≢ j → l' ≡ l
  quadratic : 2 ≢ j → q' ≡ q

kept_digits : (i j : ℕ) (c l q c' l' q' : Plane) → AreOthers j c l q c' l' q' → i ≢ j → digits_of_power i c' l' q' ≡ digits_of_power i c l q
kept_digits zero j c l q c' l' q' h other = ap digits_of (h.constant other)
kept_digits (suc zero) j c l q c' l' q' h other = ap digits_of (h.linear other)
kept_digits (suc (suc zero)) j c l q c' l' q' h other = ap digits_of (h.quadratic other)
kept_digits (suc (suc (suc i))) j c l q c' l' q' h other = refl

row_has_words : (o : Order) (n j k : ℕ) (words : List ℕ) (c l q c' l' q' : Plane) (self : RowValue) → ArePlanes o n c l q → ArePlanes o n c' l' q' →
    record { order = o; entries = entries_of o c l q } ≡ self → AreOthers j c l q c' l' q' →
    digits_of_power j c' l' q' ≡ digits_with_word (digits_of_power j c l q) k (digit_of_words words) →
    HasWords j k words self (record { order = o; entries = entries_of o c' l' q' })
row_has_words o n j k words c l q c' l' q' self h h' view_is others written =
    subst (λ (r : RowValue). HasWords j k words r (record { order = o; entries = entries_of o c' l' q' })) view_is (record {
      order = refl;
      as_long = long_entries o n c' l' q' h' ∙ sym (long_entries o n c l q h);
      written = coefficients_are_digits o n c' l' q' h' j ∙ written
          ∙ ap (λ (x : List ℕ). digits_with_word x k (digit_of_words words)) (sym (coefficients_are_digits o n c l q h j));
      kept = λ i other.
          coefficients_are_digits o n c' l' q' h' i ∙ kept_digits i j c l q c' l' q' others other
          ∙ sym (coefficients_are_digits o n c l q h i);
    })

module _ (o : Order) (n power k : ℕ) (words : List ℕ) (c l q after : Plane) (self : RowValue) (h : ArePlanes o n c l q)
    (view_is : record { order = o; entries = entries_of o c l q } ≡ self)
    (small : (i : ℕ) → i < 64 → digit_of_words words i < prime_of self.order) where
  small_here : (i : ℕ) → i < 64 → digit_of_words words i < prime_of o
  small_here i low = subst (λ (r : RowValue). digit_of_words words i < prime_of r.order) (sym view_is) (small i low)

  pub constant_with_words : IsPlane (prime_of_plane c) (digits_with_word (digits_of c) k (digit_of_words words)) after → ArePlanes o n after l q
  constant_with_words is = record {
    constant = plane_of_word _ _ k (digit_of_words words) c after small_here h.constant is;
    linear = h.linear;
    quadratic = h.quadratic;
  }

  pub linear_with_words : IsPlane (prime_of_plane l) (digits_with_word (digits_of l) k (digit_of_words words)) after → ArePlanes o n c after q
  linear_with_words is = record {
    constant = h.constant;
    linear = plane_of_word _ _ k (digit_of_words words) l after small_here h.linear is;
    quadratic = h.quadratic;
  }

  pub quadratic_with_words : IsPlane (prime_of_plane q) (digits_with_word (digits_of q) k (digit_of_words words)) after → ArePlanes o n c l after
  quadratic_with_words is = record {
    constant = h.constant;
    linear = h.linear;
    quadratic = plane_of_word _ _ k (digit_of_words words) q after small_here h.quadratic is;
  }

  along : (j : ℕ) (next : RowValue) → power ≡ j → HasWords j k words self next → HasWords power k words self next
  along j next same has = subst (λ i. HasWords i k words self next) (sym same) has

  pub row_with_constant : power ≡ 0 → IsPlane (prime_of_plane c) (digits_with_word (digits_of c) k (digit_of_words words)) after →
      HasWords power k words self (record { order = o; entries = entries_of o after l q })
  row_with_constant same is =
      along 0 _ same
      (row_has_words o n 0 k words c l q after l q self h (constant_with_words is) view_is
      (record { constant = λ other. absurd (other refl); linear = λ _. refl; quadratic = λ _. refl }) is.digits_are)

  pub row_with_linear : power ≡ 1 → IsPlane (prime_of_plane l) (digits_with_word (digits_of l) k (digit_of_words words)) after →
      HasWords power k words self (record { order = o; entries = entries_of o c after q })
  row_with_linear same is =
      along 1 _ same
      (row_has_words o n 1 k words c l q c after q self h (linear_with_words is) view_is
      (record { constant = λ _. refl; linear = λ other. absurd (other refl); quadratic = λ _. refl }) is.digits_are)

  pub row_with_quadratic : power ≡ 2 → IsPlane (prime_of_plane q) (digits_with_word (digits_of q) k (digit_of_words words)) after →
      HasWords power k words self (record { order = o; entries = entries_of o c l after })
  row_with_quadratic same is =
      along 2 _ same
      (row_has_words o n 2 k words c l q c l after self h (quadratic_with_words is) view_is
      (record { constant = λ _. refl; linear = λ _. refl; quadratic = λ other. absurd (other refl) }) is.digits_are)
