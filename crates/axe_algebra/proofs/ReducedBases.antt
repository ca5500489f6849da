-- Reduced bases: every span has exactly one, and each coset exactly one vector that is zero at every pivot.
use Rattle.std.specs.Prelude.{◌≡◌, ◌≢◌, ℕ, zero, suc, ◌<◌, ◌≤◌, ◌⊎◌}
use Rattle.axe_algebra.specs.Field.{Field}
use Rattle.axe_algebra.specs.Vectors.{Vector, Matrix, HasRowsOfLength, zero_vector, subtract, times}
use Rattle.axe_algebra.specs.Spans.{InSpan, IsIndependent, SpanWithin, SameSpan}
use Rattle.axe_algebra.specs.Reduced.{LeadsAt, IsPivot, IsAscendingListOf, IsReducedBasis, IsReducedBasisOf, IsZeroAtPivots, IsRepresentative}
use Rattle.axe_algebra.specs.Theorems.{ReducedBasis, ReducedBasisExists}
use Rattle.axe_algebra.proofs.FieldLaws.{zero-add, zero-mul, mul-zero, difference_of_same, same_of_difference, neg-neg, neg-sum_of_two, add_swap}
use Rattle.axe_algebra.proofs.Sums.{sum_zeros}
use Rattle.axe_algebra.proofs.ProductLaws.{times-at}
use Rattle.axe_algebra.proofs.Spanning.{span_row, span_same, span_subtract, span_times, span_within, span_length}
use Rattle.axe_algebra.proofs.Elimination.{is_zero_or_leads}
use Rattle.axe_algebra.proofs.Reducing.{IsReducedList, coefficient_at_pivot, reduced_list}
use mathlib.Core.Logic.{inl, inr}
use mathlib.Core.Path.{sym, ◌∙◌, ap, ap₂, fun_ext}
use native.Mathlib.Omega.{arith}
use native.Mathlib.Decide.{ℕ_discrete, dec_lt}

-- among p 0 to p (r - 1) one is j, or none
pub place_or_none : (r : ℕ) (p : ℕ → ℕ) (j : ℕ) → ((t : ℕ) × (t < r) × (p t ≡ j)) ⊎ ((t : ℕ) → t < r → p t ≢ j)
place_or_none zero p j = inr λ t below. absurd (omega arith)
place_or_none (suc r) p j = cases (place_or_none r p j) (ℕ_discrete (p r) j)
  where
    cases : ((t : ℕ) × (t < r) × (p t ≡ j)) ⊎ ((t : ℕ) → t < r → p t ≢ j) → Dec (p r ≡ j) →
        ((t : ℕ) × (t < suc r) × (p t ≡ j)) ⊎ ((t : ℕ) → t < suc r → p t ≢ j)
    cases (inl (t, below, e)) _ = inl (t, omega arith, e)
    cases (inr none) (yes e) = inl (r, omega arith, e)
    cases (inr none) (no other) = inr λ t below. at t below (ℕ_discrete t r)
      where
        at : (t : ℕ) → t < suc r → Dec (t ≡ r) → p t ≢ j
        at t below (yes e) = λ same. other (sym (ap p e) ∙ same)
        at t below (no earlier) = none t (omega arith)

-- two ascending lists of the same numbers agree
module _ (P : ℕ → Type 0) where
  not_before : (r : ℕ) (p : ℕ → ℕ) (s : ℕ) (q : ℕ → ℕ) → IsAscendingListOf P r p → IsAscendingListOf P s q →
      (t : ℕ) → t < r → t < s → ((i : ℕ) → i < t → p i ≡ q i) → q t ≤ p t
  not_before r p s q first second t below inside same = cases (second.all (p t) (first.each t below))
    where
      cases : (l : ℕ) × (l < s) × (q l ≡ p t) → q t ≤ p t
      cases (l, small, e) = compare_them (dec_lt l t) (ℕ_discrete l t)
        where
          compare_them : Dec (l < t) → Dec (l ≡ t) → q t ≤ p t
          compare_them (yes earlier) _ = absurd (omega (arith, same l earlier, first.ascending l t earlier below))
          compare_them (no later) (yes e') = omega (arith, ap q e')
          compare_them (no later) (no other) = omega (arith, second.ascending t l (omega arith) small)

  agree_below : (r : ℕ) (p : ℕ → ℕ) (s : ℕ) (q : ℕ → ℕ) → IsAscendingListOf P r p → IsAscendingListOf P s q →
      (m : ℕ) → m ≤ r → m ≤ s → (i : ℕ) → i < m → p i ≡ q i
  agree_below r p s q first second zero in_first in_second i below = absurd (omega arith)
  agree_below r p s q first second (suc m) in_first in_second i below =
      cases (agree_below r p s q first second m (omega arith) (omega arith)) (ℕ_discrete i m)
    where
      cases : ((i : ℕ) → i < m → p i ≡ q i) → Dec (i ≡ m) → p i ≡ q i
      cases earlier (no other) = earlier i (omega arith)
      cases earlier (yes e) = ap p e ∙ both ∙ ap q (sym e)
        where
          both : p m ≡ q m
          both = omega (
            arith,
            not_before r p s q first second m (omega arith) (omega arith) earlier,
            not_before s q r p second first m (omega arith) (omega arith) (λ l smaller. sym (earlier l smaller)),
          )

  not_longer : (r : ℕ) (p : ℕ → ℕ) (s : ℕ) (q : ℕ → ℕ) → IsAscendingListOf P r p → IsAscendingListOf P s q → r ≤ s
  not_longer r p s q first second = cases (dec_lt s r)
    where
      one_more : s < r → (l : ℕ) × (l < s) × (q l ≡ p s) → r ≤ s
      one_more longer (l, small, e) =
          absurd (omega (arith, agree_below r p s q first second s (omega arith) (omega arith) l small, first.ascending l s small longer))

      cases : Dec (s < r) → r ≤ s
      cases (yes longer) = one_more longer (second.all (p s) (first.each s longer))
      cases (no shorter) = omega arith

  pub same_size : (r : ℕ) (p : ℕ → ℕ) (s : ℕ) (q : ℕ → ℕ) → IsAscendingListOf P r p → IsAscendingListOf P s q → r ≡ s
  same_size r p s q first second = omega (arith, not_longer r p s q first second, not_longer s q r p second first)

  pub same_places : (r : ℕ) (p : ℕ → ℕ) (s : ℕ) (q : ℕ → ℕ) → IsAscendingListOf P r p → IsAscendingListOf P s q →
      (i : ℕ) → i < r → p i ≡ q i
  same_places r p s q first second i below =
      agree_below r p s q first second r (omega arith) (not_longer r p s q first second) i below

module _ (F : Field) where
  open F use {Element, zero as 𝟘, one as 𝟙, add as ◌⊕◌, mul as ◌⊗◌, neg, inv}

  infixl 60 ◌⊕◌
  infixl 70 ◌⊗◌
  pub pivot_of_same_span : (k : ℕ) (v : Matrix F) (r : ℕ) (w : Matrix F) (j : ℕ) → SpanWithin F k v r w → IsPivot F k v j → IsPivot F r w j
  pivot_of_same_span k v r w j within pivot = record {
    vector = pivot.vector;
    in_span = span_within F k v r w pivot.vector within pivot.in_span;
    leads = pivot.leads;
  }

  -- the pivots of a reduced list are the pivots of its span
  pivot_of_list : (r : ℕ) (w : Matrix F) (p : ℕ → ℕ) → IsReducedList F r w p → (t : ℕ) → t < r → IsPivot F r w (p t)
  pivot_of_list r w p reduced t below = record {
    vector = w t;
    in_span = span_row F r w t below;
    leads = record { nonzero = λ e. F.one-not-zero (sym (reduced.one t below) ∙ e); before = λ i ahead. reduced.before t i below ahead };
  }

  all_pivots_of_list : (r : ℕ) (w : Matrix F) (p : ℕ → ℕ) → IsReducedList F r w p → (j : ℕ) → IsPivot F r w j → (t : ℕ) × (t < r) × (p t ≡ j)
  all_pivots_of_list r w p reduced j pivot = cases (place_or_none r p j)
    where
      c : Vector F
      c = pivot.in_span.coefficients

      is_combination : (i : ℕ) → pivot.vector i ≡ times F r c w i
      is_combination i = ap (λ (x : Vector F). x i) pivot.in_span.combines

      coefficient : (t : ℕ) → t < r → c t ≡ pivot.vector (p t)
      coefficient t below = sym (is_combination (p t) ∙ coefficient_at_pivot F r w p c t below reduced.one reduced.zero)

      term : ((t : ℕ) → t < r → p t ≢ j) → (t : ℕ) → t < r → Dec (p t < j) → c t ⊗ w t j ≡ 𝟘
      term none t below (yes earlier) =
          ap (λ x. x ⊗ w t j) (coefficient t below ∙ pivot.leads.before (p t) earlier) ∙ zero-mul F (w t j)
      term none t below (no later) =
          ap (λ x. c t ⊗ x) (reduced.before t j below (omega (arith, none t below))) ∙ mul-zero F (c t)

      cases : ((t : ℕ) × (t < r) × (p t ≡ j)) ⊎ ((t : ℕ) → t < r → p t ≢ j) → (t : ℕ) × (t < r) × (p t ≡ j)
      cases (inl found) = found
      cases (inr none) = absurd (pivot.leads.nonzero
          (is_combination j ∙ times-at F r c w j ∙ sum_zeros F r (λ t. c t ⊗ w t j) (λ t below. term none t below (dec_lt (p t) j))))

  -- a reduced list with the same span is the reduced basis
  pub basis_of_list : (k : ℕ) (v : Matrix F) (r : ℕ) (w : Matrix F) (p : ℕ → ℕ) → IsReducedList F r w p → SameSpan F k v r w → IsReducedBasis F k v r w
  basis_of_list k v r w p reduced same = record {
    pivots = p;
    are_pivots = record {
      ascending = reduced.ascending;
      each = λ t below. pivot_of_same_span r w k v (p t) same.back (pivot_of_list r w p reduced t below);
      all = λ j pivot. all_pivots_of_list r w p reduced j (pivot_of_same_span k v r w j same.forth pivot);
    };
    in_span = same.back;
    one = reduced.one;
    zero = reduced.zero;
  }

  -- every span has a reduced basis
  pub reduced_basis : (n k : ℕ) (v : Matrix F) → HasRowsOfLength F n v →
      (r : ℕ) × (w : Matrix F) × HasRowsOfLength F n w × IsReducedBasis F k v r w
  reduced_basis n k v rows = from_list (reduced_list F n k v rows)
    where
      from_list : (r : ℕ) × (w : Matrix F) × (p : ℕ → ℕ) × HasRowsOfLength F n w × IsReducedList F r w p × SameSpan F k v r w →
          (r : ℕ) × (w : Matrix F) × HasRowsOfLength F n w × IsReducedBasis F k v r w
      from_list (r, w, p, lengths, reduced, same) = (r, w, lengths, basis_of_list k v r w p reduced same)

  -- a vector of the span that is zero at every pivot is zero
  pub zero_at_pivots_is_zero : (n k : ℕ) (v : Matrix F) (x : Vector F) → HasRowsOfLength F n v → InSpan F k v x → IsZeroAtPivots F k v x →
      x ≡ zero_vector F
  zero_at_pivots_is_zero n k v x rows in_span zeros = cases (is_zero_or_leads F n x (span_length F n k v x rows in_span))
    where
      cases : (x ≡ zero_vector F) ⊎ ((j : ℕ) × (j < n) × LeadsAt F x j) → x ≡ zero_vector F
      cases (inl e) = e
      cases (inr (j, below, leads)) = absurd (leads.nonzero (zeros j (record { vector = x; in_span = in_span; leads = leads })))

  same_of_zero_difference : (x y : Vector F) → subtract F x y ≡ zero_vector F → x ≡ y
  same_of_zero_difference x y e = fun_ext λ j. same_of_difference F (x j) (y j) (ap (λ (z : Vector F). z j) e)

  -- two vectors of the span that agree at every pivot are the same
  pub same_at_pivots : (n k : ℕ) (v : Matrix F) (x y : Vector F) → HasRowsOfLength F n v → InSpan F k v x → InSpan F k v y →
      ((j : ℕ) → IsPivot F k v j → x j ≡ y j) → x ≡ y
  same_at_pivots n k v x y rows in_x in_y same =
      same_of_zero_difference x y (zero_at_pivots_is_zero n k v (subtract F x y) rows (span_subtract F k v x y in_x in_y)
      (λ j pivot. difference_of_same F (x j) (y j) (same j pivot)))

  -- a vector of the span is the combination of the reduced basis with its entries at the pivots
  pub by_reduced_basis : (n k : ℕ) (v : Matrix F) (r : ℕ) (w : Matrix F) (x : Vector F) → HasRowsOfLength F n v →
      (basis : IsReducedBasis F k v r w) → InSpan F k v x → x ≡ times F r (λ t. x (basis.pivots t)) w
  by_reduced_basis n k v r w x rows basis in_span =
      same_at_pivots n k v x (times F r (λ t. x (basis.pivots t)) w) rows in_span
      (span_times F k v r (λ t. x (basis.pivots t)) w basis.in_span) (λ j pivot. at j (basis.are_pivots.all j pivot))
    where
      at : (j : ℕ) → (t : ℕ) × (t < r) × (basis.pivots t ≡ j) → x j ≡ times F r (λ t. x (basis.pivots t)) w j
      at j (t, below, e) =
          ap x (sym e) ∙ sym (coefficient_at_pivot F r w basis.pivots (λ s. x (basis.pivots s)) t below basis.one basis.zero)
          ∙ ap (times F r (λ s. x (basis.pivots s)) w) e

  pub reduced_spans : (n k : ℕ) (v : Matrix F) (r : ℕ) (w : Matrix F) → HasRowsOfLength F n v → IsReducedBasis F k v r w → SameSpan F k v r w
  reduced_spans n k v r w rows basis = record {
    forth = λ t below. record {
      coefficients = λ s. v t (basis.pivots s);
      combines = by_reduced_basis n k v r w (v t) rows basis (span_row F k v t below);
    };
    back = basis.in_span;
  }

  pub reduced_independent : (k : ℕ) (v : Matrix F) (r : ℕ) (w : Matrix F) → IsReducedBasis F k v r w → IsIndependent F r w
  reduced_independent k v r w basis = record {
    only_zero = λ c vanishes t below.
        sym (coefficient_at_pivot F r w basis.pivots c t below basis.one basis.zero) ∙ ap (λ (x : Vector F). x (basis.pivots t)) vanishes;
  }

  -- the reduced basis is unique
  pub reduced_size_is_unique : (k : ℕ) (v : Matrix F) (r : ℕ) (w : Matrix F) (s : ℕ) (u : Matrix F) →
      IsReducedBasis F k v r w → IsReducedBasis F k v s u → r ≡ s
  reduced_size_is_unique k v r w s u first second =
      same_size (IsPivot F k v) r first.pivots s second.pivots first.are_pivots second.are_pivots

  pub reduced_is_unique : (n k : ℕ) (v : Matrix F) (r : ℕ) (w : Matrix F) (s : ℕ) (u : Matrix F) → HasRowsOfLength F n v →
      IsReducedBasis F k v r w → IsReducedBasis F k v s u → (t : ℕ) → t < r → w t ≡ u t
  reduced_is_unique n k v r w s u rows first second t below =
      same_at_pivots n k v (w t) (u t) rows (first.in_span t below) (second.in_span t inside) (λ j pivot. at j (first.are_pivots.all j pivot))
    where
      inside : t < s
      inside = omega (arith, reduced_size_is_unique k v r w s u first second)

      place : (l : ℕ) → l < r → first.pivots l ≡ second.pivots l
      place = same_places (IsPivot F k v) r first.pivots s second.pivots first.are_pivots second.are_pivots

      at : (j : ℕ) → (l : ℕ) × (l < r) × (first.pivots l ≡ j) → w t j ≡ u t j
      at j (l, small, e) = cases (ℕ_discrete l t)
        where
          cases : Dec (l ≡ t) → w t j ≡ u t j
          cases (yes same) =
              ap (w t) (sym e ∙ ap first.pivots same) ∙ first.one t below
              ∙ sym (ap (u t) (sym e ∙ ap first.pivots same ∙ place t below) ∙ second.one t inside)
          cases (no other) =
              ap (w t) (sym e) ∙ first.zero l t small below other
              ∙ sym (ap (u t) (sym e ∙ place l small)
              ∙ second.zero l t (omega (arith, reduced_size_is_unique k v r w s u first second)) inside other)

  -- each coset has a representative that is zero at every pivot, and one only
  pub representative : (n k : ℕ) (v : Matrix F) (x : Vector F) → HasRowsOfLength F n v → (y : Vector F) × IsRepresentative F k v x y
  representative n k v x rows = by_basis (reduced_basis n k v rows)
    where
      by_basis : (r : ℕ) × (w : Matrix F) × HasRowsOfLength F n w × IsReducedBasis F k v r w → (y : Vector F) × IsRepresentative F k v x y
      by_basis (r, w, lengths, basis) = (
        subtract F x part,
        record {
          in_coset = span_same F k v (subtract F x (subtract F x part)) part (fun_ext λ j. back (x j) (part j))
              (span_times F k v r (λ t. x (basis.pivots t)) w basis.in_span);
          at_pivots = λ j pivot. at j (basis.are_pivots.all j pivot);
        },
      )
        where
          part : Vector F
          part = times F r (λ t. x (basis.pivots t)) w

          back : (a b : Element) → a ⊕ neg (a ⊕ neg b) ≡ b
          back a b =
              ap (λ y. a ⊕ y) (neg-sum_of_two F a (neg b) ∙ ap (λ y. neg a ⊕ y) (neg-neg F b)) ∙ sym (F.add_assoc a (neg a) b)
              ∙ ap (λ y. y ⊕ b) (F.add-neg a) ∙ zero-add F b

          at : (j : ℕ) → (t : ℕ) × (t < r) × (basis.pivots t ≡ j) → x j ⊕ neg (part j) ≡ 𝟘
          at j (t, below, e) =
              difference_of_same F (x j) (part j)
              (ap x (sym e) ∙ sym (coefficient_at_pivot F r w basis.pivots (λ s. x (basis.pivots s)) t below basis.one basis.zero) ∙ ap part e)

  pub representative_is_unique : (n k : ℕ) (v : Matrix F) (x y z : Vector F) → HasRowsOfLength F n v →
      IsRepresentative F k v x y → IsRepresentative F k v x z → y ≡ z
  representative_is_unique n k v x y z rows first second =
      same_of_zero_difference y z (zero_at_pivots_is_zero n k v (subtract F y z) rows
      (span_same F k v (subtract F y z) (subtract F (subtract F x z) (subtract F x y)) (fun_ext λ j. difference (x j) (y j) (z j))
      (span_subtract F k v (subtract F x z) (subtract F x y) second.in_coset first.in_coset))
      (λ j pivot. ap₂ (λ a b. a ⊕ neg b) (first.at_pivots j pivot) (second.at_pivots j pivot) ∙ F.add-neg 𝟘))
    where
      difference : (a b c : Element) → b ⊕ neg c ≡ (a ⊕ neg c) ⊕ neg (a ⊕ neg b)
      difference a b c = sym (
          ap (λ y. (a ⊕ neg c) ⊕ y) (neg-sum_of_two F a (neg b) ∙ ap (λ y. neg a ⊕ y) (neg-neg F b)) ∙ add_swap F a (neg c) (neg a) b
          ∙ ap (λ y. y ⊕ (neg c ⊕ b)) (F.add-neg a) ∙ zero-add F (neg c ⊕ b) ∙ F.add_comm (neg c) b)

  pub reduced_basis_exists : ReducedBasisExists F
  reduced_basis_exists n k v rows = from (reduced_basis n k v rows)
    where
      from : (r : ℕ) × (w : Matrix F) × HasRowsOfLength F n w × IsReducedBasis F k v r w → ReducedBasis F n k v
      from (r, w, lengths, reduced) = record { size = r; rows = w; lengths = lengths; reduced = reduced }

  -- lists of rows with one span have one reduced basis
  pub reduced_of_same_span : (k : ℕ) (v : Matrix F) (m : ℕ) (u : Matrix F) (r : ℕ) (w : Matrix F) → SameSpan F k v m u →
      IsReducedBasis F k v r w → IsReducedBasis F m u r w
  reduced_of_same_span k v m u r w same basis = record {
    pivots = basis.pivots;
    are_pivots = record {
      ascending = basis.are_pivots.ascending;
      each = λ t below. pivot_of_same_span k v m u (basis.pivots t) same.forth (basis.are_pivots.each t below);
      all = λ j pivot. basis.are_pivots.all j (pivot_of_same_span m u k v j same.back pivot);
    };
    in_span = λ t below. span_within F k v m u (w t) same.forth (basis.in_span t below);
    one = basis.one;
    zero = basis.zero;
  }

  -- the reduced basis of the span of rows is that of the space they span, and the other way round
  pub reduced_of_span : (n k : ℕ) (v : Matrix F) (r : ℕ) (w : Matrix F) → HasRowsOfLength F n v → IsReducedBasis F k v r w →
      IsReducedBasisOf F (InSpan F k v) r w
  reduced_of_span n k v r w rows basis = record {
    forth = λ x in_span. span_within F r w k v x basis.in_span in_span;
    back = λ x in_span. span_within F k v r w x (reduced_spans n k v r w rows basis).forth in_span;
    reduced = reduced_of_same_span k v r w r w (reduced_spans n k v r w rows basis) basis;
  }

  -- a space has one reduced basis
  spaces_within : (P : Vector F → Type 0) (r : ℕ) (w : Matrix F) (s : ℕ) (u : Matrix F) → IsReducedBasisOf F P r w → IsReducedBasisOf F P s u →
      SpanWithin F r w s u
  spaces_within P r w s u first second t below = second.back (w t) (first.forth (w t) (span_row F r w t below))

  spaces_same : (P : Vector F → Type 0) (r : ℕ) (w : Matrix F) (s : ℕ) (u : Matrix F) → IsReducedBasisOf F P r w → IsReducedBasisOf F P s u →
      SameSpan F s u r w
  spaces_same P r w s u first second = record {
    forth = spaces_within P s u r w second first;
    back = spaces_within P r w s u first second;
  }

  pub space_size_is_unique : (P : Vector F → Type 0) (r : ℕ) (w : Matrix F) (s : ℕ) (u : Matrix F) →
      IsReducedBasisOf F P r w → IsReducedBasisOf F P s u → r ≡ s
  space_size_is_unique P r w s u first second =
      reduced_size_is_unique r w r w s u first.reduced (reduced_of_same_span s u r w s u (spaces_same P r w s u first second) second.reduced)

  pub space_rows_are_unique : (P : Vector F → Type 0) (n r : ℕ) (w : Matrix F) (s : ℕ) (u : Matrix F) → HasRowsOfLength F n w →
      IsReducedBasisOf F P r w → IsReducedBasisOf F P s u → (t : ℕ) → t < r → w t ≡ u t
  space_rows_are_unique P n r w s u rows first second =
      reduced_is_unique n r w r w s u rows first.reduced (reduced_of_same_span s u r w s u (spaces_same P r w s u first second) second.reduced)
