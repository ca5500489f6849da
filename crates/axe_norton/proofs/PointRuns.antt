-- The points of a space that were tried so far, while their coordinates are gone over: the points of the identity.
use Rattle.std.specs.Prelude.{◌≡◌, ℕ, ◌+◌, ◌<◌, ◌≤◌, List, [], ◌∷◌, ◌++◌, length, get_or, Option, Some, None, true, false}
use Rattle.std.proofs.lemmas.List.{ext_get_or, length-append, get_or_append_left, get_or-append-add, append_assoc}
use Rattle.std.specs.Option.{is_some}
use Rattle.axe_algebra.specs.NumberField.{NumberField}
use Rattle.axe_algebra.specs.Bridge.{field_of, vector_of, matrix_of}
use Rattle.axe_algebra.specs.Lists.{IsVectorOver}
use Rattle.axe_algebra.specs.ListArithmetic.{combination, identity}
use Rattle.axe_algebra.specs.Vectors.{Matrix, times}
use Rattle.axe_algebra.specs.PointsOfLists.{point_coordinates, points}
use Rattle.axe_algebra.proofs.ProductLaws.{times_identity}
use Rattle.axe_algebra.proofs.ListEntries.{same_vector, vector_length}
use Rattle.axe_algebra.proofs.ListProducts.{vector_of_combination, combination_over, matrix_of_identity, identity_over, identity_length}
use Rattle.axe_algebra.proofs.PointSpans.{points_length, point_is_combination, point_coordinates_over}
use Rattle.axe_field.specs.Order.{Order, order_number}
use Rattle.axe_field.specs.NumberFields.{number_field}
use Rattle.axe_row.specs.Rows.{RowValue}
use Rattle.axe_matrix.specs.Matrices.{MatrixValue, IsMatrix, identity_matrix}
use Rattle.axe_echelon.specs.Echelons.{EchelonValue}
use Rattle.axe_echelon.proofs.WholeSpace.{identity_is_reduced}
use Rattle.axe_echelon.proofs.ZeroMatrices.{units_independent}
use Rattle.axe_spin.specs.Modules.{ModuleValue}
use Rattle.axe_word.specs.Limits.{most_points_in_turn}
use Rattle.axe_word.specs.PointsOfMatrix.{IsReduced, PointsLeft, points_of, point_count}
use Rattle.axe_norton.specs.Spaces.{GeneratesModule, GeneratesProper, HasFewPoints, point_of}
use Rattle.axe_norton.specs.Searches.{IsReducedIn, FindsProper, FindsFirstOf}
use Rattle.axe_norton.specs.Pairings.{AreCoordinatesOfPoint}
use mathlib.Core.Path.{refl, sym, ◌∙◌, ap, ap₂, subst}
use native.Mathlib.Omega.{arith}
use native.Mathlib.Decide.{dec_lt}

-- ---- coordinates

module _ (K : NumberField) where
  -- the points of the space of all vectors of length n are the coordinates of the points of any space of dimension n
  pub points_of_identity : (n : ℕ) → points K n (identity n) ≡ point_coordinates K.order n
  points_of_identity n = ext_get_or [] (points K n (identity n)) (point_coordinates K.order n)
      (points_length K n (identity n) ∙ ap (λ k. length (point_coordinates K.order k)) (identity_length K n)) at
    where
      at : (i : ℕ) → i < length (points K n (identity n)) → get_or (points K n (identity n)) i [] ≡ get_or (point_coordinates K.order n) i []
      at i inside = point_is_combination K n (identity n) i inside ∙ itself ∙ ap (λ k. get_or (point_coordinates K.order k) i []) (identity_length K n)
        where
          c : List ℕ
          c = get_or (point_coordinates K.order (length (identity n))) i []

          over : IsVectorOver K (length (identity n)) c
          over = point_coordinates_over K n (identity n) i inside

          over_n : IsVectorOver K n c
          over_n = subst (λ k. IsVectorOver K k c) (identity_length K n) over

          itself : combination K n c (identity n) ≡ c
          itself = same_vector K n (combination K n c (identity n)) c (combination_over K n c (identity n) over (identity_over K n)) over_n
              (vector_of_combination K n c (identity n) over (identity_over K n)
              ∙ ap (λ k. times (field_of K) k (vector_of K c) (matrix_of K (identity n))) (identity_length K n)
              ∙ ap (λ (a : Matrix (field_of K)). times (field_of K) n (vector_of K c) a) (matrix_of_identity K n)
              ∙ times_identity (field_of K) n (vector_of K c) (vector_length K n c over_n.length_is))

-- the coordinates of the points of a space with this basis
abbrev pub coordinates_over : MatrixValue → List (List ℕ)
coordinates_over basis = point_coordinates (number_field basis.order).order (length basis.rows)

-- the vector with these coordinates over a basis
abbrev pub combined : MatrixValue → List ℕ → List ℕ
combined basis c = combination (number_field basis.order) basis.cols c basis.rows

pub identity_points : (basis units : MatrixValue) (o : Order) (n : ℕ) → o ≡ basis.order → n ≡ length basis.rows → units ≡ identity_matrix o n →
    points_of units ≡ coordinates_over basis
identity_points basis units o n field count is =
    ap points_of is ∙ points_of_identity (number_field o) n
    ∙ ap₂ (λ (p : Order) (k : ℕ). point_coordinates (number_field p).order k) field count

-- the identity is the reduced basis of that space
pub identity_reduced : (units : MatrixValue) (o : Order) (n : ℕ) → IsMatrix units → units ≡ identity_matrix o n → IsReduced units
identity_reduced units o n formed is = subst IsReduced (sym is)
    (identity_is_reduced whole (identity_matrix o n) o n (record {
      some_column = omega (arith, formed.some_column, columns);
      columns_fit = omega (arith, formed.columns_fit, columns);
      over = identity_over (number_field o) n;
      independent = units_independent (number_field o) n;
    }) refl refl (identity_length (number_field o) n) refl).basis
  where
    whole : EchelonValue
    whole = record { order = o; cols = n; rows = identity n }

    columns : units.cols ≡ n
    columns = ap (λ (m : MatrixValue). m.cols) is

-- and has as few points
pub identity_few : (basis units : MatrixValue) (o : Order) (n : ℕ) → o ≡ basis.order → n ≡ length basis.rows → units ≡ identity_matrix o n →
    HasFewPoints basis → point_count (order_number units.order) (length units.rows) ≤ most_points_in_turn
identity_few basis units o n field count is few =
    let same : point_count (order_number units.order) (length units.rows) ≡ point_count (order_number basis.order) (length basis.rows) =
    ap₂ (λ (p : Order) (k : ℕ). point_count (order_number p) k) (ap (λ (m : MatrixValue). m.order) is ∙ field)
    (ap (λ (m : MatrixValue). length m.rows) is ∙ identity_length (number_field o) n ∙ count) in
    omega (arith, same, few)

module _ (basis : MatrixValue) where
  pub coordinates_count : length (points_of basis) ≡ length (coordinates_over basis)
  coordinates_count = points_length (number_field basis.order) basis.cols basis.rows

  pub point_is_combined : (i : ℕ) → i < length (coordinates_over basis) → point_of basis i ≡ combined basis (get_or (coordinates_over basis) i [])
  point_is_combined i inside = point_is_combination (number_field basis.order) basis.cols basis.rows i (omega (arith, coordinates_count))

  pub coordinates_fit : (i : ℕ) → i < length (coordinates_over basis) → IsVectorOver (number_field basis.order) (length basis.rows) (get_or (coordinates_over basis) i [])
  coordinates_fit i inside = point_coordinates_over (number_field basis.order) basis.cols basis.rows i (omega (arith, coordinates_count))

-- ---- runs

-- these coordinates are left, and the points with those before them generate everything
pub record CoordinatesTried (m : ModuleValue) (basis : MatrixValue) (rest : PointsLeft) : Type 0 where
  pub tried : List (List ℕ)
  pub order : rest.order ≡ m.order
  pub split : coordinates_over basis ≡ tried ++ rest.left
  pub generate : (i : ℕ) → i < length tried → GeneratesModule m (combined basis (get_or tried i []))

module _ (m : ModuleValue) (basis : MatrixValue) where
  -- at first all are left
  pub none_tried : (all : PointsLeft) (units : MatrixValue) → all ≡ record { order = units.order; left = points_of units } → units.order ≡ m.order →
      points_of units ≡ coordinates_over basis → CoordinatesTried m basis all
  none_tried all units is field of_units = record {
    tried = [];
    order = ap (λ (points : PointsLeft). points.order) is ∙ field;
    split = sym of_units ∙ sym (ap (λ (points : PointsLeft). points.left) is);
    generate = λ i below. absurd (omega arith);
  }

  module _ (rest : PointsLeft) (so_far : CoordinatesTried m basis rest) where
    -- a tried point generates everything
    pub tried_generates : (i : ℕ) → i < length so_far.tried → GeneratesModule m (point_of basis i)
    tried_generates i below =
        subst (GeneratesModule m)
        (sym (point_is_combined basis i (omega (arith, ap length so_far.split, length-append so_far.tried rest.left))
        ∙ ap (combined basis) (ap (λ (cs : List (List ℕ)). get_or cs i []) so_far.split ∙ get_or_append_left so_far.tried rest.left [] i below)))
        (so_far.generate i below)

    module _ (c : List ℕ) (others : List (List ℕ)) (next : rest.left ≡ c ∷ others) where
      next_within : length so_far.tried < length (coordinates_over basis)
      next_within =
          let long : length (coordinates_over basis) ≡ length so_far.tried + length (c ∷ others) =
          ap length so_far.split ∙ length-append so_far.tried rest.left ∙ ap (λ (cs : List (List ℕ)). length so_far.tried + length cs) next in
          omega arith

      next_is : c ≡ get_or (coordinates_over basis) (length so_far.tried) []
      next_is =
          sym (ap (λ (cs : List (List ℕ)). get_or cs (length so_far.tried) []) (so_far.split ∙ ap (λ (cs : List (List ℕ)). so_far.tried ++ cs) next)
          ∙ ap (λ (k : ℕ). get_or (so_far.tried ++ (c ∷ others)) k []) (let e : length so_far.tried ≡ length so_far.tried + 0 = omega arith in e)
          ∙ get_or-append-add so_far.tried (c ∷ others) 0 [])

      next_point : combined basis c ≡ point_of basis (length so_far.tried)
      next_point = ap (combined basis) next_is ∙ sym (point_is_combined basis (length so_far.tried) next_within)

      -- the next coordinates are those of a point
      pub next_of_point : IsReducedIn m basis → (row : RowValue) → row.entries ≡ c → row.order ≡ rest.order → AreCoordinatesOfPoint m basis row
      next_of_point is row entries order = record {
        field = order ∙ so_far.order;
        over = subst (IsVectorOver (number_field m.order) (length basis.rows)) (sym (entries ∙ next_is))
            (subst (λ o. IsVectorOver (number_field o) (length basis.rows) (get_or (coordinates_over basis) (length so_far.tried) [])) is.field
            (coordinates_fit basis (length so_far.tried) next_within));
        number = length so_far.tried;
        below = omega (arith, coordinates_count basis, next_within);
        combine = ap (combined basis) entries ∙ next_point;
      }

      pub tried_until : (space : MatrixValue) → GeneratesProper m (combined basis c) space → FindsFirstOf m (points_of basis) (Some space)
      tried_until space proper = record {
        number = length so_far.tried;
        below = omega (arith, coordinates_count basis, next_within);
        before = tried_generates;
        proper = subst (λ (x : List ℕ). GeneratesProper m x space) next_point proper;
      }

      pub tried_more : (later : PointsLeft) → later.left ≡ others → later.order ≡ rest.order → GeneratesModule m (combined basis c) →
          CoordinatesTried m basis later
      tried_more later left order generates = record {
        tried = so_far.tried ++ c ∷ [];
        order = order ∙ so_far.order;
        split = so_far.split ∙ ap (λ (cs : List (List ℕ)). so_far.tried ++ cs) (next ∙ ap (λ (cs : List (List ℕ)). c ∷ cs) (sym left))
            ∙ sym (append_assoc so_far.tried (c ∷ []) later.left);
        generate = λ i below. at i below (dec_lt i (length so_far.tried));
      }
        where
          at : (i : ℕ) → i < length (so_far.tried ++ c ∷ []) → Dec (i < length so_far.tried) → GeneratesModule m (combined basis (get_or (so_far.tried ++ c ∷ []) i []))
          at i below (yes early) =
              subst (λ (d : List ℕ). GeneratesModule m (combined basis d)) (sym (get_or_append_left so_far.tried (c ∷ []) [] i early)) (so_far.generate i early)
          at i below (no late) =
              let here : i ≡ length so_far.tried + 0 = omega (arith, length-append so_far.tried (c ∷ [])) in
              subst (λ (d : List ℕ). GeneratesModule m (combined basis d))
              (sym (ap (λ (k : ℕ). get_or (so_far.tried ++ c ∷ []) k []) here ∙ get_or-append-add so_far.tried (c ∷ []) 0 [])) generates

    pub tried_all : rest.left ≡ [] → FindsFirstOf m (points_of basis) None
    tried_all none i below =
        tried_generates i
        (let long : length (coordinates_over basis) ≡ length so_far.tried + 0 =
        ap length so_far.split ∙ length-append so_far.tried rest.left ∙ ap (λ (cs : List (List ℕ)). length so_far.tried + length cs) none in
        omega (arith, coordinates_count basis))

-- what was found, by whether there is something
pub generates_where_none : (m : ModuleValue) (v : List ℕ) (found : Option MatrixValue) → false ≡ is_some found → FindsProper m v found → GeneratesModule m v
generates_where_none m v None none generates = generates
generates_where_none m v (Some space) none proper = absurd (let e : false ≡ true = none in cc)

pub found_where_some : (m : ModuleValue) (basis : MatrixValue) (rest : PointsLeft) (so_far : CoordinatesTried m basis rest) (c : List ℕ) (others : List (List ℕ)) →
    rest.left ≡ c ∷ others → (found : Option MatrixValue) → true ≡ is_some found → FindsProper m (combined basis c) found → FindsFirstOf m (points_of basis) found
found_where_some m basis rest so_far c others next None some generates = absurd (let e : true ≡ false = some in cc)
found_where_some m basis rest so_far c others next (Some space) some proper = tried_until m basis rest so_far c others next space proper
