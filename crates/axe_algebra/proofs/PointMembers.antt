-- The list of the coordinates of points has each list of digits whose first nonzero entry is 1 once, ascending; its first entry.
use Rattle.std.specs.Prelude.{◌≡◌, ℕ, zero, suc, ◌^◌, ◌<◌, ◌≤◌, true, cond, eqb, List, [], ◌∷◌, ◌++◌, map, length, get_or}
use Rattle.std.proofs.lemmas.Bool.{eq-eqb, ne_eqb, false≢true}
use Rattle.std.proofs.lemmas.List.{length-map, get_or-map, get_or_append_left, ext_get_or}
use Rattle.std.proofs.lemmas.List.Elements.{All-from_get_or}
use Rattle.axe_algebra.specs.Lists.{listed, unit_row}
use Rattle.axe_algebra.specs.Digits.{digits, number_with_digits}
use Rattle.axe_algebra.specs.PointsOfLists.{leads_with_one, point_coordinates}
use Rattle.axe_algebra.specs.PointTheorems.{IsMonicList, CoordinatesAreMonic, MonicListsAreCoordinates, CoordinatesAscend}
use Rattle.axe_algebra.proofs.ListEntries.{listed_length, listed_at}
use Rattle.axe_algebra.proofs.Digits.{digits_length, digits-below, number_with_digits-below, digits_of_their_number, number_of_its_digits}
use Rattle.axe_algebra.proofs.PointFilters.{IsFilteredRange, filtered_range}
use Rattle.axe_algebra.proofs.PointLists.{point_numbers, coordinates_are_digits, more_coordinates, no_coordinates, some_coordinates}
use mathlib.Core.Path.{refl, sym, ◌∙◌, ap, ap₂, subst}
use native.Mathlib.Nat.{pow-zero}
use native.Mathlib.Omega.{arith}
use native.Mathlib.Decide.{ℕ_discrete, dec_lt}

-- ---- members

pub numbers_filtered : (q m : ℕ) → IsFilteredRange (λ x. leads_with_one (digits q m x)) 0 (q ^ m) (point_numbers q m)
unfolding point_numbers
numbers_filtered q m = filtered_range (λ x. leads_with_one (digits q m x)) 0 (q ^ m)

pub numbers_length : (q m : ℕ) → length (point_coordinates q m) ≡ length (point_numbers q m)
numbers_length q m = ap length (coordinates_are_digits q m) ∙ length-map (point_numbers q m) (digits q m)

pub coordinates_at : (q m i : ℕ) → i < length (point_coordinates q m) → get_or (point_coordinates q m) i [] ≡ digits q m (get_or (point_numbers q m) i 0)
coordinates_at q m i inside =
    ap (λ (xs : List (List ℕ)). get_or xs i []) (coordinates_are_digits q m)
    ∙ get_or-map (digits q m) (point_numbers q m) i 0 [] (omega (arith, numbers_length q m))

module _ (q m i : ℕ) (large : 2 ≤ q) (inside : i < length (point_coordinates q m)) where
  pub number_at : ℕ
  number_at = get_or (point_numbers q m) i 0

  pub number_at-below : get_or (point_numbers q m) i 0 < q ^ m
  number_at-below = let h = (numbers_filtered q m).below i (omega (arith, numbers_length q m)) in omega arith

  pub number_of_coordinates : number_with_digits q (get_or (point_coordinates q m) i []) ≡ get_or (point_numbers q m) i 0
  number_of_coordinates =
      ap (number_with_digits q) (coordinates_at q m i inside)
      ∙ number_of_its_digits q m (get_or (point_numbers q m) i 0) (omega arith) number_at-below

  pub monic_at : IsMonicList q m (get_or (point_coordinates q m) i [])
  monic_at = subst (IsMonicList q m) (sym (coordinates_at q m i inside)) (record {
    length_is = digits_length q m (get_or (point_numbers q m) i 0);
    below = digits-below q m (get_or (point_numbers q m) i 0) (omega arith);
    leads = (numbers_filtered q m).passes i (omega (arith, numbers_length q m));
  })

pub coordinates_are_monic : CoordinatesAreMonic
coordinates_are_monic q m large =
    All-from_get_or (IsMonicList q m) (point_coordinates q m) [] (λ i inside. monic_at q m i large inside)

pub monic_lists_are_coordinates : MonicListsAreCoordinates
monic_lists_are_coordinates q m c large monic =
    found ((numbers_filtered q m).all x (omega arith) (omega (arith, small)) (ap leads_with_one same ∙ monic.leads))
  where
    x : ℕ
    x = number_with_digits q c

    small : x < q ^ m
    small = subst (λ k. x < q ^ k) monic.length_is (number_with_digits-below q c monic.below)

    same : digits q m x ≡ c
    same = ap (λ k. digits q k x) (sym monic.length_is) ∙ digits_of_their_number q c monic.below

    found : (i : ℕ) × (i < length (point_numbers q m)) × (get_or (point_numbers q m) i 0 ≡ x) →
        (i : ℕ) × (i < length (point_coordinates q m)) × (get_or (point_coordinates q m) i [] ≡ c)
    found (i, inside, e) =
        let here : i < length (point_coordinates q m) = omega (arith, numbers_length q m) in
        (i, here, coordinates_at q m i here ∙ ap (digits q m) e ∙ same)

pub coordinates_ascend : CoordinatesAscend
coordinates_ascend q m i j large ahead inside =
    let less = (numbers_filtered q m).ascending i j ahead (omega (arith, numbers_length q m)) in
    omega (arith, number_of_coordinates q m i large (omega arith), number_of_coordinates q m j large inside)

pub coordinates_are_once : (q m i j : ℕ) → 2 ≤ q → i < length (point_coordinates q m) → j < length (point_coordinates q m) →
    get_or (point_coordinates q m) i [] ≡ get_or (point_coordinates q m) j [] → i ≡ j
coordinates_are_once q m i j large i_inside j_inside same = cases (dec_lt i j) (dec_lt j i)
  where
    numbers : number_with_digits q (get_or (point_coordinates q m) i []) ≡ number_with_digits q (get_or (point_coordinates q m) j [])
    numbers = ap (number_with_digits q) same

    cases : Dec (i < j) → Dec (j < i) → i ≡ j
    cases (yes ahead) other = absurd (omega (arith, numbers, coordinates_ascend q m i j large ahead j_inside))
    cases (no behind) (yes ahead) = absurd (omega (arith, numbers, coordinates_ascend q m j i large ahead i_inside))
    cases (no behind) (no before) = omega arith

-- ---- where the first nonzero entry stands

-- the first entry other than 0 of c is a 1, at p
pub record LeadsWithOneAt (c : List ℕ) (p : ℕ) : Type 0 where
  pub inside : p < length c
  pub one : get_or c p 0 ≡ 1
  pub before : (i : ℕ) → i < p → get_or c i 0 ≡ 0

leads_at_next : (c : List ℕ) (p : ℕ) → LeadsWithOneAt c p → LeadsWithOneAt (0 ∷ c) (suc p)
leads_at_next c p at = record { inside = let h = at.inside in omega arith; one = at.one; before = before }
  where
    before : (i : ℕ) → i < suc p → get_or (0 ∷ c) i 0 ≡ 0
    before zero ahead = refl
    before (suc i) ahead = at.before i (omega arith)

pub leads_place : (c : List ℕ) → leads_with_one c ≡ true → (p : ℕ) × LeadsWithOneAt c p
unfolding leads_with_one
leads_place [] leads = absurd (false≢true leads)
leads_place (d ∷ rest) leads = cases (ℕ_discrete d 0) (ℕ_discrete d 1) (λ h. leads_place rest h)
  where
    cases : Dec (d ≡ 0) → Dec (d ≡ 1) → (leads_with_one rest ≡ true → (p : ℕ) × LeadsWithOneAt rest p) → (p : ℕ) × LeadsWithOneAt (d ∷ rest) p
    cases (yes e) other after =
        let found = after (sym (ap (λ b. cond b (leads_with_one rest) (eqb d 1)) (eq-eqb d 0 e)) ∙ leads) in
        (suc found.0, subst (λ k. LeadsWithOneAt (k ∷ rest) (suc found.0)) (sym e) (leads_at_next rest found.0 found.1))
    cases (no nonzero) (yes e) after = (0, record { inside = omega arith; one = e; before = λ i ahead. absurd (omega arith) })
    cases (no nonzero) (no other) after = absurd (false≢true
        (sym (ne_eqb d 1 other) ∙ sym (ap (λ b. cond b (leads_with_one rest) (eqb d 1)) (ne_eqb d 0 nonzero)) ∙ leads))

pub leads_from_place : (c : List ℕ) (p : ℕ) → LeadsWithOneAt c p → leads_with_one c ≡ true
unfolding leads_with_one
leads_from_place [] p at = absurd (let h = at.inside in omega arith)
leads_from_place (d ∷ rest) zero at = ap (λ k. cond (eqb k 0) (leads_with_one rest) (eqb k 1)) at.one
leads_from_place (d ∷ rest) (suc p) at =
    ap (λ k. cond (eqb k 0) (leads_with_one rest) (eqb k 1)) (at.before 0 (omega arith))
    ∙ leads_from_place rest p (record { inside = let h = at.inside in omega arith; one = at.one; before = λ i ahead. at.before (suc i) (omega arith) })

-- ---- the first

-- 1 where the indices agree, 0 elsewhere
abbrev delta : ℕ → ℕ → ℕ
delta i j = cond (eqb i j) 1 0

unit_row_next : (n i : ℕ) → i < n → 0 ∷ unit_row n i ≡ unit_row (suc n) (suc i)
unit_row_next n i inside =
    ext_get_or 0 (0 ∷ unit_row n i) (unit_row (suc n) (suc i))
    (ap suc (listed_length n (delta i)) ∙ sym (listed_length (suc n) (delta (suc i))))
    (λ j below. at j (omega (arith, listed_length n (delta i)))
    ∙ sym (listed_at (suc n) (delta (suc i)) j 0 (omega (arith, listed_length n (delta i)))))
  where
    next : (j : ℕ) → Dec (i ≡ j) → delta i j ≡ delta (suc i) (suc j)
    next j (yes e) = ap (λ b. cond b 1 0) (eq-eqb i j e ∙ sym (eq-eqb (suc i) (suc j) (ap suc e)))
    next j (no other) = ap (λ b. cond b 1 0) (ne_eqb i j other ∙ sym (ne_eqb (suc i) (suc j) (λ e. other (omega (arith, e)))))

    at : (j : ℕ) → j < suc n → get_or (0 ∷ unit_row n i) j 0 ≡ delta (suc i) j
    at zero below = sym (ap (λ b. cond b 1 0) (ne_eqb (suc i) 0 (λ e. omega (arith, e))))
    at (suc j) below = listed_at n (delta i) j 0 (omega arith) ∙ next j (ℕ_discrete i j)

-- the first coordinates are 0 .. 0 1
pub first_coordinates : (q m : ℕ) → 2 ≤ q → get_or (point_coordinates q (suc m)) 0 [] ≡ unit_row (suc m) m
unfolding digits
first_coordinates q zero large =
    ap (λ (xs : List (List ℕ)). get_or xs 0 []) (more_coordinates q 0 large
    ∙ ap₂ (λ (a : List (List ℕ)) (n : ℕ). map (λ c. 0 ∷ c) a ++ map (λ c. 1 ∷ c) (listed n (digits q 0))) (no_coordinates q) (pow-zero q))
first_coordinates q (suc m) large =
    ap (λ (xs : List (List ℕ)). get_or xs 0 []) (more_coordinates q (suc m) large)
    ∙ get_or_append_left (map (λ c. 0 ∷ c) (point_coordinates q (suc m))) (map (λ c. 1 ∷ c) (listed (q ^ suc m) (digits q (suc m)))) [] 0
    (omega (arith, some_coordinates q m large, length-map (point_coordinates q (suc m)) (λ (c : List ℕ). 0 ∷ c)))
    ∙ get_or-map (λ c. 0 ∷ c) (point_coordinates q (suc m)) 0 [] [] (some_coordinates q m large)
    ∙ ap (λ (c : List ℕ). 0 ∷ c) (first_coordinates q m large) ∙ unit_row_next (suc m) m (omega arith)
