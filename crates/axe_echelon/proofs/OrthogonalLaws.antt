-- Vectors that are orthogonal to some rows: one for each column that is no pivot of them, and that these span all.
use Rattle.std.specs.Prelude.{◌≡◌, ◌≢◌, ℕ, zero, suc, ◌+◌, ◌<◌, ◌≤◌, ◌⊎◌}
use Rattle.axe_algebra.specs.Field.{Field}
use Rattle.axe_algebra.specs.Vectors.{Vector, Matrix, HasLength, HasRowsOfLength, zero_vector, unit_vector, add_vectors, scale, dot}
use Rattle.axe_algebra.specs.Spans.{InSpan}
use Rattle.axe_algebra.specs.Reduced.{LeadsAt, IsPivot, IsAscendingListOf, IsReducedBasis}
use Rattle.axe_algebra.specs.Irreducible.{InAnnihilator}
use Rattle.axe_algebra.proofs.FieldLaws.{zero-add, zero-mul, one-mul, mul-zero, neg-mul, neg-zero, same_of_difference}
use Rattle.axe_algebra.proofs.Sums.{sum_same, sum_one}
use Rattle.axe_algebra.proofs.ProductLaws.{dot-at, unit_at, unit_off}
use Rattle.axe_algebra.proofs.Spanning.{span_row, span_zero, span_add, span_scale, span_length}
use Rattle.axe_algebra.proofs.Spaces.{space_has_span}
use Rattle.axe_algebra.proofs.Annihilators.{dot-add, dot-scale, dot-unit, annihilator_of_span, annihilator_within, annihilator_is_space}
use Rattle.axe_algebra.proofs.ReducedBases.{place_or_none, reduced_basis, reduced_spans}
use Rattle.axe_algebra.proofs.FreeColumns.{pivot_or_not}
use Rattle.axe_echelon.proofs.FormLaws.{below_or_at}
use mathlib.Core.Logic.{inl, inr}
use mathlib.Core.Path.{refl, sym, ◌∙◌, ap, ap₂, subst, fun_ext}
use native.Mathlib.Omega.{arith}
use native.Mathlib.Decide.{ℕ_discrete, dec_lt}

-- x is orthogonal to r rows of w, and at the columns that are no pivots of them it is the unit vector of one such column
pub record IsOrthogonalUnit (F : Field) (n r : ℕ) (w : Matrix F) (column : ℕ) (x : Vector F) : Type 0 where
  pub within : InAnnihilator F n r w x
  pub free : (j : ℕ) → ¬ (IsPivot F r w j) → x j ≡ unit_vector F column j

-- x is orthogonal to the rows of w from row i on, and the unit vector at the columns at which none of these leads
pub record IsOrthogonalFrom (F : Field) (n r : ℕ) (w : Matrix F) (column i : ℕ) (x : Vector F) : Type 0 where
  pub orthogonal : (t : ℕ) → i ≤ t → t < r → dot F n (w t) x ≡ F.zero
  pub others : (j : ℕ) → ((t : ℕ) → i ≤ t → t < r → ¬ (LeadsAt F (w t) j)) → x j ≡ unit_vector F column j

-- at the first i pivots x has the negatives of the entries of the reduced basis at the column, and is the unit vector at
-- all other columns
pub record IsOrthogonalUpTo (F : Field) (r : ℕ) (w : Matrix F) (m : ℕ) (b : Matrix F) (pivots : ℕ → ℕ) (column i : ℕ) (x : Vector F) : Type 0 where
  pub at_pivots : (t : ℕ) → t < i → x (pivots t) ≡ F.neg (b t column)
  pub others : (j : ℕ) → ((t : ℕ) → t < i → pivots t ≢ j) → x j ≡ unit_vector F column j

-- of m ascending pivots the first i are those before a column
pub record ArePlacesBefore (m : ℕ) (pivots : ℕ → ℕ) (column i : ℕ) : Type 0 where
  pub few : i ≤ m
  pub before : (t : ℕ) → t < i → pivots t < column
  pub after : (t : ℕ) → i ≤ t → t < m → column ≤ pivots t

pub no_places : (m : ℕ) (pivots : ℕ → ℕ) → ArePlacesBefore m pivots 0 0
no_places m pivots = record { few = omega arith; before = λ t none. absurd (omega arith); after = λ t above below. omega arith }

module _ (P : ℕ → Type 0) (m : ℕ) (pivots : ℕ → ℕ) (ascending : IsAscendingListOf P m pivots) (column i : ℕ)
    (places : ArePlacesBefore m pivots column i) where
  -- the next of them is the column, where that is one
  pub place_of_pivot : P column → (i < m) × (pivots i ≡ column)
  place_of_pivot is = found (ascending.all column is)
    where
      found : (t : ℕ) × (t < m) × (pivots t ≡ column) → (i < m) × (pivots i ≡ column)
      found (t, below, e) = at (ℕ_discrete t i)
        where
          at : Dec (t ≡ i) → (i < m) × (pivots i ≡ column)
          at (yes same) = (omega (arith, same, below), ap pivots (sym same) ∙ e)
          at (no other) = by_order (dec_lt t i)
            where
              by_order : Dec (t < i) → (i < m) × (pivots i ≡ column)
              by_order (yes earlier) = absurd (omega (arith, places.before t earlier, e))
              by_order (no later) =
                  absurd (omega (arith, ascending.ascending i t (omega (arith, later, other)) below, places.after i (omega arith) (omega (arith, later, other, below)), e))

  pub places_more : P column → ArePlacesBefore m pivots (column + 1) (i + 1)
  places_more is = from (place_of_pivot is)
    where
      from : (i < m) × (pivots i ≡ column) → ArePlacesBefore m pivots (column + 1) (i + 1)
      from (below, e) = record {
        few = omega (arith, below);
        before = λ t less. below_or_at (λ t. pivots t < column + 1) i (λ t earlier. let b = places.before t earlier in omega (arith, b)) (omega (arith, e)) t (omega (arith, less));
        after = λ t above inside. omega (arith, ascending.ascending i t (omega (arith, above)) inside, e);
      }

  pub places_same : ¬ (P column) → ArePlacesBefore m pivots (column + 1) i
  places_same none = record {
    few = places.few;
    before = λ t less. let b = places.before t less in omega (arith, b);
    after = λ t above inside.
        let other : pivots t ≢ column = λ e. none (subst P e (ascending.each t inside)) in
        let from = places.after t above inside in omega (arith, other, from);
  }

-- some vector of the span of s rows of z is the unit vector of a column at the columns that are no pivots of w
pub record IsReached (F : Field) (r : ℕ) (w : Matrix F) (s : ℕ) (z : Matrix F) (column : ℕ) : Type 0 where
  pub vector : Vector F
  pub in_span : InSpan F s z vector
  pub free : (j : ℕ) → ¬ (IsPivot F r w j) → vector j ≡ unit_vector F column j

module _ (F : Field) (n : ℕ) where
  -- a vector whose entry is set where it was 0
  set_entry : (x y : Vector F) (p : ℕ) (c : F.Element) → x p ≡ F.zero → y p ≡ c → ((j : ℕ) → j ≢ p → y j ≡ x j) →
      y ≡ add_vectors F x (scale F c (unit_vector F p))
  set_entry x y p c empty at others = fun_ext λ j. entry j (ℕ_discrete j p)
    where
      entry : (j : ℕ) → Dec (j ≡ p) → y j ≡ F.add (x j) (F.mul c (unit_vector F p j))
      entry j (yes e) =
          ap y e ∙ at
          ∙ sym (ap₂ F.add (ap x e ∙ empty) (ap (F.mul c) (ap (unit_vector F p) e ∙ unit_at F p) ∙ F.mul-one c) ∙ zero-add F c)
      entry j (no other) =
          others j other
          ∙ sym (ap (F.add (x j)) (ap (F.mul c) (unit_off F p j (λ e. other (sym e))) ∙ mul-zero F c) ∙ F.add-zero (x j))

  pub dot_of_set : (row x y : Vector F) (p : ℕ) (c : F.Element) → p < n → x p ≡ F.zero → y p ≡ c → ((j : ℕ) → j ≢ p → y j ≡ x j) →
      dot F n row y ≡ F.add (dot F n row x) (F.mul c (row p))
  dot_of_set row x y p c inside empty at others =
      ap (dot F n row) (set_entry x y p c empty at others) ∙ dot-add F n row x (scale F c (unit_vector F p))
      ∙ ap (F.add (dot F n row x)) (dot-scale F n row c (unit_vector F p) ∙ ap (F.mul c) (dot-unit F n row p inside))

  module _ (r : ℕ) (w : Matrix F) (column : ℕ) where
    -- ---- by the rows of an echelon form, from the last one to the first

    pub orthogonal_start : (i : ℕ) (x : Vector F) → r ≤ i → x ≡ unit_vector F column → IsOrthogonalFrom F n r w column i x
    orthogonal_start i x all is = record {
      orthogonal = λ t above below. absurd (omega arith);
      others = λ j none. ap (λ (y : Vector F). y j) is;
    }

    pub orthogonal_more : (i p : ℕ) (x y : Vector F) → IsOrthogonalFrom F n r w column (suc i) x → i < r → p < n → p ≢ column →
        LeadsAt F (w i) p → w i p ≡ F.one → ((t : ℕ) → i < t → t < r → w t p ≡ F.zero) →
        y p ≡ F.neg (dot F n (w i) x) → ((j : ℕ) → j ≢ p → y j ≡ x j) → IsOrthogonalFrom F n r w column i y
    orthogonal_more i p x y from inside place other leads one cleared at others = record {
      orthogonal = λ t above below. product t above below (ℕ_discrete t i);
      others = λ j none.
          others j (λ e. none i (omega arith) inside (subst (LeadsAt F (w i)) (sym e) leads))
          ∙ from.others j (λ t above below. none t (omega arith) below);
    }
      where
        at_place : x p ≡ F.zero
        at_place =
            from.others p (λ t above below lead. lead.nonzero (cleared t (omega arith) below))
            ∙ unit_off F column p (λ e. other (sym e))

        product : (t : ℕ) → i ≤ t → t < r → Dec (t ≡ i) → dot F n (w t) y ≡ F.zero
        product t above below (yes e) =
            ap (λ k. dot F n (w k) y) e ∙ dot_of_set (w i) x y p (F.neg (dot F n (w i) x)) place at_place at others
            ∙ ap (F.add (dot F n (w i) x)) (ap (F.mul (F.neg (dot F n (w i) x))) one ∙ F.mul-one (F.neg (dot F n (w i) x)))
            ∙ F.add-neg (dot F n (w i) x)
        product t above below (no later) =
            dot_of_set (w t) x y p (F.neg (dot F n (w i) x)) place at_place at others
            ∙ ap₂ F.add (from.orthogonal t (omega (arith, later)) below)
            (ap (F.mul (F.neg (dot F n (w i) x))) (cleared t (omega (arith, later)) below) ∙ mul-zero F (F.neg (dot F n (w i) x)))
            ∙ F.add-zero F.zero

    pub orthogonal_all : (x : Vector F) → IsOrthogonalFrom F n r w column 0 x → HasLength F n x → IsOrthogonalUnit F n r w column x
    orthogonal_all x from length = record {
      within = record { length = length; orthogonal = λ t below. from.orthogonal t (omega arith) below };
      free = λ j none. from.others j (λ t above below leads. none (record { vector = w t; in_span = span_row F r w t below; leads = leads }));
    }

    -- ---- by the reduced basis

    module _ (m : ℕ) (b : Matrix F) (basis : IsReducedBasis F r w m b) (rows : HasRowsOfLength F n w) (none : ¬ (IsPivot F r w column)) where
      apart : (s t : ℕ) → s < m → t < m → s ≢ t → basis.pivots s ≢ basis.pivots t
      apart s t first second other = cases (dec_lt s t)
        where
          cases : Dec (s < t) → basis.pivots s ≢ basis.pivots t
          cases (yes before) e = let less = basis.are_pivots.ascending s t before second in omega (arith, e, less)
          cases (no after) e = let less = basis.are_pivots.ascending t s (omega (arith, other)) first in omega (arith, e, less)

      pub basis_start : (x : Vector F) → x ≡ unit_vector F column → IsOrthogonalUpTo F r w m b basis.pivots column 0 x
      basis_start x is = record {
        at_pivots = λ t below. absurd (omega arith);
        others = λ j outside. ap (λ (y : Vector F). y j) is;
      }

      pub basis_more : (i : ℕ) (x y : Vector F) → IsOrthogonalUpTo F r w m b basis.pivots column i x → i < m →
          y (basis.pivots i) ≡ F.neg (b i column) → ((j : ℕ) → j ≢ basis.pivots i → y j ≡ x j) →
          IsOrthogonalUpTo F r w m b basis.pivots column (suc i) y
      basis_more i x y so_far inside at others = record {
        at_pivots = below_or_at (λ t. y (basis.pivots t) ≡ F.neg (b t column)) i
            (λ t below. others (basis.pivots t) (apart t i (omega arith) inside (omega arith)) ∙ so_far.at_pivots t below) at;
        others = λ j outside.
            others j (λ e. outside i (omega arith) (sym e)) ∙ so_far.others j (λ t below. outside t (omega arith));
      }

      -- where the entry is 0 there is nothing to set
      pub basis_same : (i : ℕ) (x : Vector F) → IsOrthogonalUpTo F r w m b basis.pivots column i x → i < m → b i column ≡ F.zero →
          IsOrthogonalUpTo F r w m b basis.pivots column (suc i) x
      basis_same i x so_far inside none_there = basis_more i x x so_far inside
          (so_far.others (basis.pivots i) (λ t below. apart t i (omega arith) inside (omega arith))
          ∙ unit_off F column (basis.pivots i) (λ e. none (subst (IsPivot F r w) (sym e) (basis.are_pivots.each i inside)))
          ∙ sym (ap F.neg none_there ∙ neg-zero F))
          (λ j other. refl)

      -- a row of the basis is 0 before its pivot
      zero_before_pivot : (t i : ℕ) → t < m → ((k : ℕ) → k < i → b t k ≡ F.zero) → i < basis.pivots t → b t i ≡ F.zero
      zero_before_pivot t i inside before ahead = at (F.is_discrete (b t i) F.zero)
        where
          found : b t i ≢ F.zero → (s : ℕ) × (s < m) × (basis.pivots s ≡ i) → b t i ≡ F.zero
          found nonzero (s, below, e) = ap (b t) (sym e) ∙ basis.zero s t below inside (λ same. omega (arith, ahead, e, ap basis.pivots same))

          at : Dec (b t i ≡ F.zero) → b t i ≡ F.zero
          at (yes none_there) = none_there
          at (no nonzero) = found nonzero (basis.are_pivots.all i (record {
            vector = b t;
            in_span = basis.in_span t inside;
            leads = record { nonzero = nonzero; before = before };
          }))

      zeros_before_pivot : (t c : ℕ) → t < m → c ≤ basis.pivots t → (k : ℕ) → k < c → b t k ≡ F.zero
      zeros_before_pivot t zero inside up_to k before = absurd (omega arith)
      zeros_before_pivot t (suc c) inside up_to k before = below_or_at (λ k. b t k ≡ F.zero) c (zeros_before_pivot t c inside (omega arith))
          (zero_before_pivot t c inside (zeros_before_pivot t c inside (omega arith)) (omega arith)) k before

      -- so nothing is to be set for the rows with later pivots
      pub basis_rest : (i : ℕ) (x : Vector F) → IsOrthogonalUpTo F r w m b basis.pivots column i x → ArePlacesBefore m basis.pivots column i →
          IsOrthogonalUpTo F r w m b basis.pivots column m x
      basis_rest i x so_far places = record {
        at_pivots = λ t below. at t below (dec_lt t i);
        others = λ j outside. so_far.others j (λ t before. outside t (omega (arith, before, places.few)));
      }
        where
          at : (t : ℕ) → t < m → Dec (t < i) → x (basis.pivots t) ≡ F.neg (b t column)
          at t below (yes before) = so_far.at_pivots t before
          at t below (no later) =
              so_far.others (basis.pivots t) (λ s ahead. apart s t (omega (arith, ahead, places.few)) below (omega (arith, ahead, later)))
              ∙ unit_off F column (basis.pivots t) other
              ∙ sym (ap F.neg (zeros_before_pivot t (suc column) below (omega (arith, other, places.after t (omega (arith, later)) below)) column (omega arith)) ∙ neg-zero F)
            where
              other : column ≢ basis.pivots t
              other same = none (subst (IsPivot F r w) (sym same) (basis.are_pivots.each t below))

      pub basis_all : (x : Vector F) → column < n → IsOrthogonalUpTo F r w m b basis.pivots column m x → HasLength F n x →
          IsOrthogonalUnit F n r w column x
      basis_all x inside so_far length = record {
        within = annihilator_within F n r w m b (reduced_spans F n r w m b rows basis).forth x (record { length = length; orthogonal = orthogonal });
        free = λ j free. so_far.others j (λ t below e. free (subst (IsPivot F r w) e (basis.are_pivots.each t below)));
      }
        where
          orthogonal : (s : ℕ) → s < m → dot F n (b s) x ≡ F.zero
          orthogonal s below =
              dot-at F n (b s) x
              ∙ sum_same F n (λ j. F.mul (b s j) (x j)) (λ j. F.mul (b s j) (u j)) (λ j within. term j (place_or_none m basis.pivots j))
              ∙ sym (dot-at F n (b s) u)
              ∙ dot-add F n (b s) (unit_vector F column) (scale F c (unit_vector F p))
              ∙ ap₂ F.add (dot-unit F n (b s) column inside)
              (dot-scale F n (b s) c (unit_vector F p) ∙ ap (F.mul c) (dot-unit F n (b s) p place ∙ basis.one s below) ∙ F.mul-one c)
              ∙ F.add-neg (b s column)
            where
              p : ℕ
              p = basis.pivots s

              c : F.Element
              c = F.neg (b s column)

              u : Vector F
              u = add_vectors F (unit_vector F column) (scale F c (unit_vector F p))

              place : p < n
              place = cases (dec_lt p n)
                where
                  pivot : IsPivot F r w p
                  pivot = basis.are_pivots.each s below

                  cases : Dec (p < n) → p < n
                  cases (yes within) = within
                  cases (no past) = absurd (F.one-not-zero (sym (basis.one s below) ∙ span_length F n r w (b s) rows (basis.in_span s below) p (omega arith)))

              term : (j : ℕ) → ((t : ℕ) × (t < m) × (basis.pivots t ≡ j)) ⊎ ((t : ℕ) → t < m → basis.pivots t ≢ j) →
                  F.mul (b s j) (x j) ≡ F.mul (b s j) (u j)
              term j (inr outside) = ap (F.mul (b s j)) (so_far.others j outside
                  ∙ sym (ap (F.add (unit_vector F column j)) (ap (F.mul c) (unit_off F p j (outside s below)) ∙ mul-zero F c) ∙ F.add-zero (unit_vector F column j)))
              term j (inl (t, inside, e)) = cases (ℕ_discrete t s)
                where
                  cases : Dec (t ≡ s) → F.mul (b s j) (x j) ≡ F.mul (b s j) (u j)
                  cases (yes same) =
                      let at : basis.pivots s ≡ j = ap basis.pivots (sym same) ∙ e in
                      ap (F.mul (b s j)) (ap x (sym at) ∙ so_far.at_pivots s below
                      ∙ sym (ap₂ F.add (unit_off F column j (λ k. none (subst (IsPivot F r w) (at ∙ sym k) (basis.are_pivots.each s below))))
                      (ap (F.mul c) (ap (unit_vector F p) (sym at) ∙ unit_at F p) ∙ F.mul-one c) ∙ zero-add F c))
                  cases (no other) =
                      let off : b s j ≡ F.zero = ap (b s) (sym e) ∙ basis.zero t s inside below other in
                      ap (λ y. F.mul y (x j)) off ∙ zero-mul F (x j) ∙ sym (ap (λ y. F.mul y (u j)) off ∙ zero-mul F (u j))

  -- ---- all vectors that are orthogonal to the rows

  module _ (r : ℕ) (w : Matrix F) (rows : HasRowsOfLength F n w) where
    -- a vector that is orthogonal to the rows, and 0 at all columns that are no pivots, is 0
    pub zero_by_pivots : (x : Vector F) → InAnnihilator F n r w x → ((j : ℕ) → ¬ (IsPivot F r w j) → x j ≡ F.zero) → x ≡ zero_vector F
    zero_by_pivots x within free = by_basis (reduced_basis F n r w rows)
      where
        by_basis : (m : ℕ) × (b : Matrix F) × HasRowsOfLength F n b × IsReducedBasis F r w m b → x ≡ zero_vector F
        by_basis (m, b, lengths, basis) = fun_ext λ j. entry j (place_or_none m basis.pivots j)
          where
            outside : (j : ℕ) → ((t : ℕ) → t < m → basis.pivots t ≢ j) → x j ≡ F.zero
            outside j none = free j (λ pivot. found (basis.are_pivots.all j pivot))
              where
                found : (t : ℕ) × (t < m) × (basis.pivots t ≡ j) → ⊥
                found (t, below, e) = none t below e

            entry : (j : ℕ) → ((t : ℕ) × (t < m) × (basis.pivots t ≡ j)) ⊎ ((t : ℕ) → t < m → basis.pivots t ≢ j) → x j ≡ F.zero
            entry j (inr none) = outside j none
            entry j (inl (s, below, e)) = cases (dec_lt j n)
              where
                one : b s j ≡ F.one
                one = ap (b s) (sym e) ∙ basis.one s below

                term : (i : ℕ) → i < n → i ≢ j → F.mul (b s i) (x i) ≡ F.zero
                term i inside other = at (place_or_none m basis.pivots i)
                  where
                    at : ((t : ℕ) × (t < m) × (basis.pivots t ≡ i)) ⊎ ((t : ℕ) → t < m → basis.pivots t ≢ i) → F.mul (b s i) (x i) ≡ F.zero
                    at (inr none) = ap (F.mul (b s i)) (outside i none) ∙ mul-zero F (b s i)
                    at (inl (t, early, k)) =
                        ap (λ y. F.mul y (x i)) (ap (b s) (sym k) ∙ basis.zero t s early below (λ same. other (sym k ∙ ap basis.pivots same ∙ e)))
                        ∙ zero-mul F (x i)

                cases : Dec (j < n) → x j ≡ F.zero
                cases (no past) = within.length j (omega arith)
                cases (yes inside) =
                    sym (one-mul F (x j)) ∙ ap (λ y. F.mul y (x j)) (sym one)
                    ∙ sym (sum_one F n j (λ i. F.mul (b s i) (x i)) inside term) ∙ sym (dot-at F n (b s) x)
                    ∙ annihilator_of_span F n r w x within (b s) (basis.in_span s below)

    module _ (s : ℕ) (z : Matrix F) (each : (t : ℕ) → t < s → InAnnihilator F n r w (z t))
        (reached : (j : ℕ) → j < n → ¬ (IsPivot F r w j) → IsReached F r w s z j) where
      -- a vector of the span of z that agrees with x at the columns before c that are no pivots, and is 0 at those from c on
      record Agrees (x : Vector F) (c : ℕ) : Type 0 where
        pub vector : Vector F
        pub in_span : InSpan F s z vector
        pub before : (i : ℕ) → ¬ (IsPivot F r w i) → i < c → vector i ≡ x i
        pub after : (i : ℕ) → ¬ (IsPivot F r w i) → c ≤ i → vector i ≡ F.zero

      agrees : (x : Vector F) (c : ℕ) → c ≤ n → Agrees x c
      agrees x zero few = record {
        vector = zero_vector F;
        in_span = span_zero F s z;
        before = λ i free below. absurd (omega arith);
        after = λ i free above. refl;
      }
      agrees x (suc c) few = more (agrees x c (omega arith)) (pivot_or_not F n r w rows c)
        where
          more : Agrees x c → Dec (IsPivot F r w c) → Agrees x (suc c)
          more y (yes pivot) = record {
            vector = y.vector;
            in_span = y.in_span;
            before = λ i free below. y.before i free (omega (arith, (let other : i ≢ c = λ e. free (subst (IsPivot F r w) (sym e) pivot) in other)));
            after = λ i free above. y.after i free (omega arith);
          }
          more y (no none) = with_unit (reached c (omega arith) none)
            where
              with_unit : IsReached F r w s z c → Agrees x (suc c)
              with_unit u = record {
                vector = add_vectors F y.vector (scale F (x c) u.vector);
                in_span = span_add F s z y.vector (scale F (x c) u.vector) y.in_span (span_scale F s z (x c) u.vector u.in_span);
                before = λ i free below. earlier i free below (ℕ_discrete i c);
                after = λ i free above. ap₂ F.add (y.after i free (omega arith)) (off i free (omega arith)) ∙ F.add-zero F.zero;
              }
                where
                  off : (i : ℕ) → ¬ (IsPivot F r w i) → c ≢ i → F.mul (x c) (u.vector i) ≡ F.zero
                  off i free other = ap (F.mul (x c)) (u.free i free ∙ unit_off F c i other) ∙ mul-zero F (x c)

                  earlier : (i : ℕ) → ¬ (IsPivot F r w i) → i < suc c → Dec (i ≡ c) → F.add (y.vector i) (F.mul (x c) (u.vector i)) ≡ x i
                  earlier i free below (yes e) =
                      ap₂ F.add (y.after i free (omega arith)) (ap (F.mul (x c)) (u.free i free ∙ ap (unit_vector F c) e ∙ unit_at F c) ∙ F.mul-one (x c))
                      ∙ zero-add F (x c) ∙ ap x (sym e)
                  earlier i free below (no other) =
                      ap₂ F.add (y.before i free (omega (arith, other))) (off i free (λ e. other (sym e))) ∙ F.add-zero (x i)

      pub orthogonal_spanned : (x : Vector F) → InAnnihilator F n r w x → InSpan F s z x
      orthogonal_spanned x within = from (agrees x n (omega arith))
        where
          from : Agrees x n → InSpan F s z x
          from y = subst (InSpan F s z) (sym same) y.in_span
            where
              y_within : InAnnihilator F n r w y.vector
              y_within = space_has_span F (InAnnihilator F n r w) (annihilator_is_space F n r w) s z each y.vector y.in_span

              negative : (j : ℕ) → F.mul (F.neg F.one) (y.vector j) ≡ F.neg (y.vector j)
              negative j = neg-mul F F.one (y.vector j) ∙ ap F.neg (one-mul F (y.vector j))

              difference : add_vectors F x (scale F (F.neg F.one) y.vector) ≡ zero_vector F
              difference = zero_by_pivots (add_vectors F x (scale F (F.neg F.one) y.vector))
                  ((annihilator_is_space F n r w).sums x (scale F (F.neg F.one) y.vector) within
                  ((annihilator_is_space F n r w).multiples (F.neg F.one) y.vector y_within))
                  (λ j free. entry j free (dec_lt j n))
                where
                  entry : (j : ℕ) → ¬ (IsPivot F r w j) → Dec (j < n) → F.add (x j) (F.mul (F.neg F.one) (y.vector j)) ≡ F.zero
                  entry j free (yes inside) =
                      ap (F.add (x j)) (negative j ∙ ap F.neg (y.before j free inside)) ∙ F.add-neg (x j)
                  entry j free (no past) =
                      ap₂ F.add (within.length j (omega arith)) (ap (F.mul (F.neg F.one)) (y.after j free (omega arith)) ∙ mul-zero F (F.neg F.one))
                      ∙ F.add-zero F.zero

              same : x ≡ y.vector
              same = fun_ext λ j. same_of_difference F (x j) (y.vector j)
                  (ap (F.add (x j)) (sym (negative j)) ∙ ap (λ (v : Vector F). v j) difference)
