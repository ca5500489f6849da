-- The points of the span of rows: nonzero vectors of it, one of each line; the first is the last row.
use Rattle.std.specs.Prelude.{◌≡◌, ◌≢◌, ℕ, suc, ◌-◌, ◌<◌, ◌≤◌, Bool, true, false, cond, eqb, List, [], length, get_or}
use Rattle.std.proofs.lemmas.List.{length-map, get_or-map}
use Rattle.std.proofs.lemmas.List.Elements.{All-from_get_or}
use Rattle.axe_algebra.specs.NumberField.{NumberField}
use Rattle.axe_algebra.specs.Field.{Field}
use Rattle.axe_algebra.specs.Vectors.{Vector, HasLength, zero_vector, scale, times}
use Rattle.axe_algebra.specs.Reduced.{LeadsAt}
use Rattle.axe_algebra.specs.Bridge.{ElementOf, field_of, element, vector_of, matrix_of}
use Rattle.axe_algebra.specs.Lists.{unit_row, entries_of, IsVectorOver, IsMatrixOver}
use Rattle.axe_algebra.specs.ListArithmetic.{combination}
use Rattle.axe_algebra.specs.SpansOfLists.{IsIndependent}
use Rattle.axe_algebra.specs.PointsOfLists.{leads_with_one, point_coordinates, points}
use Rattle.axe_algebra.specs.PointTheorems.{IsMonicList, IsNonzeroSpanned, IsMultipleOfPoint, PointsAreNonzeroSpanned, SpannedAreMultiplesOfPoints, MultiplesAreOfOnePoint, FirstPointIsLastRow}
use Rattle.axe_algebra.proofs.FieldLaws.{mul-zero, inv-mul, one-mul}
use Rattle.axe_algebra.proofs.ProductLaws.{times-scale, times_zero, times_unit}
use Rattle.axe_algebra.proofs.Spanning.{unique_coefficients}
use Rattle.axe_algebra.proofs.Exchange.{cut, cut_length, times_cut}
use Rattle.axe_algebra.proofs.ElementNumbers.{element_zero, element_one, zero-below}
use Rattle.axe_algebra.proofs.ListEntries.{listed_at, listed_over, row_over, vector_length, vector_of_entries, entries_over, same_vector}
use Rattle.axe_algebra.proofs.ListProducts.{vector_of_combination, combination_over}
use Rattle.axe_algebra.proofs.ListSpans.{spanned_by_coefficients}
use Rattle.axe_algebra.proofs.ListVectors.{vector_of_unit_row}
use Rattle.axe_algebra.proofs.Leading.{IsMultipleOfNormal, normal_multiple}
use Rattle.axe_algebra.proofs.PointLists.{some_coordinates}
use Rattle.axe_algebra.proofs.PointMembers.{monic_at, monic_lists_are_coordinates, coordinates_are_once, LeadsWithOneAt, leads_place, leads_from_place, first_coordinates}
use mathlib.Core.Path.{sym, ◌∙◌, ap, subst, fun_ext}
use native.Mathlib.Omega.{arith}
use native.Mathlib.Decide.{dec_lt}

module _ (K : NumberField) where
  abbrev F : Field
  F = field_of K

  -- ---- points and their coordinates

  pub points_length : (n : ℕ) (basis : List (List ℕ)) → length (points K n basis) ≡ length (point_coordinates K.order (length basis))
  unfolding points
  points_length n basis = length-map (point_coordinates K.order (length basis)) (λ c. combination K n c basis)

  module _ (n : ℕ) (basis : List (List ℕ)) (i : ℕ) (inside : i < length (points K n basis)) where
    within : i < length (point_coordinates K.order (length basis))
    within = omega (arith, points_length n basis)

    pub coordinates_of_point : List ℕ
    coordinates_of_point = get_or (point_coordinates K.order (length basis)) i []

    pub point_is_combination : get_or (points K n basis) i [] ≡ combination K n (get_or (point_coordinates K.order (length basis)) i []) basis
    unfolding points
    point_is_combination = get_or-map (λ c. combination K n c basis) (point_coordinates K.order (length basis)) i [] [] within

    pub point_coordinates_monic : IsMonicList K.order (length basis) (get_or (point_coordinates K.order (length basis)) i [])
    point_coordinates_monic = monic_at K.order (length basis) i K.one-below within

    pub point_coordinates_over : IsVectorOver K (length basis) (get_or (point_coordinates K.order (length basis)) i [])
    point_coordinates_over = record { length_is = point_coordinates_monic.length_is; elements = point_coordinates_monic.below }

    pub vector_of_point : IsMatrixOver K n basis →
        matrix_of K (points K n basis) i
        ≡ times F (length basis) (vector_of K (get_or (point_coordinates K.order (length basis)) i [])) (matrix_of K basis)
    vector_of_point over =
        ap (vector_of K) point_is_combination
        ∙ vector_of_combination K n (get_or (point_coordinates K.order (length basis)) i []) basis point_coordinates_over over

  -- the first coordinate other than 0 is the one of the field
  pub leading_element : (c : List ℕ) (p : ℕ) → LeadsWithOneAt c p → vector_of K c p ≡ F.one
  leading_element c p at = ap (element K) at.one ∙ element_one K

  pub before_leading : (c : List ℕ) (p i : ℕ) → LeadsWithOneAt c p → i < p → vector_of K c i ≡ F.zero
  before_leading c p i at ahead = ap (element K) (at.before i ahead) ∙ element_zero K

  -- ---- points are nonzero vectors of the span

  pub point_nonzero_spanned : (n : ℕ) (basis : List (List ℕ)) (i : ℕ) → IsMatrixOver K n basis → IsIndependent K basis →
      i < length (points K n basis) → IsNonzeroSpanned K n basis (get_or (points K n basis) i [])
  point_nonzero_spanned n basis i over independent inside = record {
    over = subst (IsVectorOver K n) (sym (point_is_combination n basis i inside)) (combination_over K n c basis over_c over);
    spanned = spanned_by_coefficients K n basis (get_or (points K n basis) i []) c over over_c (point_is_combination n basis i inside);
    nonzero = λ vanishes. nonzero vanishes (leads_place c (point_coordinates_monic n basis i inside).leads);
  }
    where
      c : List ℕ
      c = get_or (point_coordinates K.order (length basis)) i []

      over_c : IsVectorOver K (length basis) c
      over_c = point_coordinates_over n basis i inside

      nonzero : vector_of K (get_or (points K n basis) i []) ≡ zero_vector F → (p : ℕ) × LeadsWithOneAt c p → ⊥
      nonzero vanishes (p, at) = F.one-not-zero
          (sym (leading_element c p at)
          ∙ independent.only_zero (vector_of K c) (sym (vector_of_point n basis i inside over) ∙ vanishes) p
          (let h = at.inside in omega (arith, over_c.length_is)))

  pub points_are_nonzero_spanned : PointsAreNonzeroSpanned K
  points_are_nonzero_spanned n basis over independent =
      All-from_get_or (IsNonzeroSpanned K n basis) (points K n basis) [] (λ i inside. point_nonzero_spanned n basis i over independent inside)

  -- ---- each nonzero vector of the span is a multiple of a point

  -- a vector of length m whose first nonzero entry is one, as a list
  leading_place_below : (m p : ℕ) (y : Vector F) → HasLength F m y → y p ≡ F.one → p < m
  leading_place_below m p y length one = cases (dec_lt p m)
    where
      cases : Dec (p < m) → p < m
      cases (yes below) = below
      cases (no past) = absurd (F.one-not-zero (sym one ∙ length p (omega arith)))

  entries_monic : (m p : ℕ) (y : Vector F) → HasLength F m y → LeadsAt F y p → y p ≡ F.one → IsMonicList K.order m (entries_of K m y)
  entries_monic m p y length leads one = record {
    length_is = (entries_over K m y).length_is;
    below = (entries_over K m y).elements;
    leads = leads_from_place (entries_of K m y) p (record {
      inside = omega (arith, leading_place_below m p y length one, (entries_over K m y).length_is);
      one = listed_at m (λ j. (y j).0) p 0 (leading_place_below m p y length one) ∙ ap (λ (e : ElementOf K). e.0) one;
      before = λ i ahead.
          listed_at m (λ j. (y j).0) i 0 (omega (arith, leading_place_below m p y length one)) ∙ ap (λ (e : ElementOf K). e.0) (leads.before i ahead);
    });
  }

  -- a factor other than 0 of a vector of length m leaves its length
  length_of_factor : (m : ℕ) (s : F.Element) (y c : Vector F) → s ≢ F.zero → c ≡ scale F s y → HasLength F m c → HasLength F m y
  length_of_factor m s y c nonzero same length j past =
      sym (one-mul F (y j)) ∙ ap (λ e. F.mul e (y j)) (sym (inv-mul F s nonzero)) ∙ F.mul_assoc (F.inv s) s (y j)
      ∙ ap (F.mul (F.inv s)) (sym (ap (λ (x : Vector F). x j) same) ∙ length j past) ∙ mul-zero F (F.inv s)

  pub spanned_are_multiples : SpannedAreMultiplesOfPoints K
  spanned_are_multiples n basis x over spanned nonzero = from (normal_multiple F m c (cut_length F m spanned.coefficients) c_nonzero)
    where
      m : ℕ
      m = length basis

      c : Vector F
      c = cut F m spanned.coefficients

      combines : x ≡ times F m c (matrix_of K basis)
      combines = spanned.combines ∙ sym (times_cut F m spanned.coefficients (matrix_of K basis))

      c_nonzero : c ≢ zero_vector F
      c_nonzero e = nonzero (combines ∙ ap (λ (d : Vector F). times F m d (matrix_of K basis)) e ∙ times_zero F m (matrix_of K basis))

      from : IsMultipleOfNormal F c → IsMultipleOfPoint K n basis x
      from normal = found (monic_lists_are_coordinates K.order m (entries_of K m normal.vector) K.one-below
          (entries_monic m normal.place normal.vector lengths normal.leads normal.one))
        where
          lengths : HasLength F m normal.vector
          lengths = length_of_factor m normal.factor normal.vector c normal.nonzero normal.equals (cut_length F m spanned.coefficients)

          found : (i : ℕ) × (i < length (point_coordinates K.order m)) × (get_or (point_coordinates K.order m) i [] ≡ entries_of K m normal.vector) →
              IsMultipleOfPoint K n basis x
          found (i, inside, same) =
              let here : i < length (points K n basis) = omega (arith, points_length n basis) in
              record {
                place = i;
                inside = here;
                factor = normal.factor;
                nonzero = normal.nonzero;
                equals =
                    combines ∙ ap (λ (d : Vector F). times F m d (matrix_of K basis)) normal.equals
                    ∙ times-scale F m normal.factor normal.vector (matrix_of K basis)
                    ∙ ap (scale F normal.factor)
                    (ap (λ (d : Vector F). times F m d (matrix_of K basis)) (sym (vector_of_entries K m normal.vector lengths))
                    ∙ ap (λ (d : List ℕ). times F m (vector_of K d) (matrix_of K basis)) (sym same)
                    ∙ sym (vector_of_point n basis i here over));
              }

  -- ---- and, of independent rows, of only one

  -- lists that lead with one and have a common multiple begin at one place
  same_place : (c d : List ℕ) (s t : F.Element) (p r : ℕ) → s ≢ F.zero → LeadsWithOneAt c p → LeadsWithOneAt d r →
      F.mul s (vector_of K c p) ≡ F.mul t (vector_of K d p) → r ≤ p
  same_place c d s t p r nonzero first second same = cases (dec_lt p r)
    where
      cases : Dec (p < r) → r ≤ p
      cases (no behind) = omega arith
      cases (yes ahead) = absurd (nonzero
          (sym (F.mul-one s) ∙ ap (F.mul s) (sym (leading_element c p first)) ∙ same
          ∙ ap (F.mul t) (before_leading d r p second ahead) ∙ mul-zero F t))

  same_normal : (m : ℕ) (c d : List ℕ) (s t : F.Element) → IsVectorOver K m c → IsVectorOver K m d → s ≢ F.zero → t ≢ F.zero →
      leads_with_one c ≡ true → leads_with_one d ≡ true →
      ((j : ℕ) → j < m → F.mul s (vector_of K c j) ≡ F.mul t (vector_of K d j)) → c ≡ d
  same_normal m c d s t over_c over_d s_nonzero t_nonzero c_leads d_leads same = from (leads_place c c_leads) (leads_place d d_leads)
    where
      from : (p : ℕ) × LeadsWithOneAt c p → (r : ℕ) × LeadsWithOneAt d r → c ≡ d
      from (p, first) (r, second) = same_vector K m c d over_c over_d (fun_ext λ j. at j (dec_lt j m))
        where
          p_inside : p < m
          p_inside = let h = first.inside in omega (arith, over_c.length_is)

          r_inside : r < m
          r_inside = let h = second.inside in omega (arith, over_d.length_is)

          place : p ≡ r
          place =
              let ahead : r ≤ p = same_place c d s t p r s_nonzero first second (same p p_inside) in
              let behind : p ≤ r = same_place d c t s r p t_nonzero second first (sym (same r r_inside)) in
              omega arith

          factor : s ≡ t
          factor =
              sym (F.mul-one s) ∙ ap (F.mul s) (sym (leading_element c p first)) ∙ same p p_inside
              ∙ ap (F.mul t) (ap (vector_of K d) place ∙ leading_element d r second) ∙ F.mul-one t

          divided : (e : F.Element) → F.mul (F.inv s) (F.mul s e) ≡ e
          divided e = sym (F.mul_assoc (F.inv s) s e) ∙ ap (λ x. F.mul x e) (inv-mul F s s_nonzero) ∙ one-mul F e

          at : (j : ℕ) → Dec (j < m) → vector_of K c j ≡ vector_of K d j
          at j (yes inside) =
              sym (divided (vector_of K c j))
              ∙ ap (F.mul (F.inv s)) (same j inside ∙ ap (λ x. F.mul x (vector_of K d j)) (sym factor))
              ∙ divided (vector_of K d j)
          at j (no past) = vector_length K m c over_c.length_is j (omega arith) ∙ sym (vector_length K m d over_d.length_is j (omega arith))

  pub multiples_are_of_one_point : MultiplesAreOfOnePoint K
  multiples_are_of_one_point n basis x over independent one other =
      coordinates_are_once K.order m one.place other.place K.one-below
      (omega (arith, one.inside, points_length n basis)) (omega (arith, other.inside, points_length n basis))
      (same_normal m c d one.factor other.factor
      (point_coordinates_over n basis one.place one.inside) (point_coordinates_over n basis other.place other.inside) one.nonzero other.nonzero
      (point_coordinates_monic n basis one.place one.inside).leads (point_coordinates_monic n basis other.place other.inside).leads
      (λ j inside. unique_coefficients F m (matrix_of K basis) (scale F one.factor (vector_of K c)) (scale F other.factor (vector_of K d)) independent
      (as_times one ∙ sym (as_times other)) j inside))
    where
      m : ℕ
      m = length basis

      c : List ℕ
      c = get_or (point_coordinates K.order m) one.place []

      d : List ℕ
      d = get_or (point_coordinates K.order m) other.place []

      as_times : (found : IsMultipleOfPoint K n basis x) →
          times F m (scale F found.factor (vector_of K (get_or (point_coordinates K.order m) found.place []))) (matrix_of K basis) ≡ x
      as_times found =
          times-scale F m found.factor (vector_of K (get_or (point_coordinates K.order m) found.place [])) (matrix_of K basis)
          ∙ ap (scale F found.factor) (sym (vector_of_point n basis found.place found.inside over)) ∙ sym found.equals

  -- ---- the first point

  unit_row_over : (n i : ℕ) → IsVectorOver K n (unit_row n i)
  unit_row_over n i = listed_over K n (λ j. cond (eqb i j) 1 0) (λ j below. bit (eqb i j))
    where
      bit : (b : Bool) → cond b 1 0 < K.order
      bit true = K.one-below
      bit false = zero-below K

  -- the combination with a unit vector as coefficients is a row
  pub combination_with_unit : (n i : ℕ) (rows : List (List ℕ)) → IsMatrixOver K n rows → i < length rows →
      combination K n (unit_row (length rows) i) rows ≡ get_or rows i []
  combination_with_unit n i rows over inside =
      same_vector K n (combination K n (unit_row (length rows) i) rows) (get_or rows i [])
      (combination_over K n (unit_row (length rows) i) rows unit_over over) (row_over K n rows i over inside)
      (vector_of_combination K n (unit_row (length rows) i) rows unit_over over
      ∙ ap (λ (v : Vector F). times F (length rows) v (matrix_of K rows)) (vector_of_unit_row K (length rows) i inside)
      ∙ times_unit F (length rows) i (matrix_of K rows) inside)
    where
      unit_over : IsVectorOver K (length rows) (unit_row (length rows) i)
      unit_over = unit_row_over (length rows) i

  pub first_point_is_last_row : FirstPointIsLastRow K
  first_point_is_last_row n basis over some = (
    here,
    point_is_combination n basis 0 here ∙ ap (λ c. combination K n c basis) coordinates
        ∙ combination_with_unit n (length basis - 1) basis over (omega arith),
  )
    where
      next : suc (length basis - 1) ≡ length basis
      next = omega arith

      here : 0 < length (points K n basis)
      here = omega (
        arith,
        points_length n basis,
        subst (λ k. 0 < length (point_coordinates K.order k)) next
            (some_coordinates K.order (length basis - 1) K.one-below),
      )

      coordinates : get_or (point_coordinates K.order (length basis)) 0 [] ≡ unit_row (length basis) (length basis - 1)
      coordinates =
          subst (λ k. get_or (point_coordinates K.order k) 0 [] ≡ unit_row k (length basis - 1)) next
          (first_coordinates K.order (length basis - 1) K.one-below)
