-- Sections of a module: rows on which it acts modulo an invariant span, and what becomes of them under a sub action, a
-- quotient action and an isomorphism. The steps by which a composition series is made.
use Rattle.std.specs.Prelude.{◌≡◌, ℕ, ◌<◌, ◌+◌}
use Rattle.axe_algebra.specs.Field.{Field}
use Rattle.axe_algebra.specs.Vectors.{Vector, Matrix, zero_vector, unit_vector, unit_matrix, add_vectors, subtract, times, multiply}
use Rattle.axe_algebra.specs.Spans.{InSpan, SpanWithin, SpansAll}
use Rattle.axe_algebra.specs.Modules.{Module, HasSquareMatrices, image, IsInvariant}
use Rattle.axe_algebra.specs.Actions.{IsSubAction, IsQuotientAction, unit_vectors}
use Rattle.axe_algebra.specs.Irreducible.{IsIsomorphism}
use Rattle.axe_algebra.proofs.FieldLaws.{mul-neg, zero-add, difference_of_same}
use Rattle.axe_algebra.proofs.Sums.{sum_same, sum-add, neg-sum}
use Rattle.axe_algebra.proofs.ProductLaws.{times-at, times_same, times_times, times_unit, times-subtract, times_identity, identity_row, unit_length}
use Rattle.axe_algebra.proofs.Spanning.{span_row, span_zero, span_same, span_add, span_times}
use Rattle.axe_algebra.proofs.Spaces.{stacked, each_stacked, first_in_stacked, second_in_stacked}
use Rattle.axe_algebra.proofs.Generated.{image-times}
use mathlib.Core.Path.{refl, sym, ◌∙◌, ap, ap₂, fun_ext}
use native.Mathlib.Omega.{arith}

-- the module acts on the rows r, as many as the dimension of D, by D modulo the c rows of l
pub record ActsModulo (F : Field) (M : Module F) (c : ℕ) (l r : Matrix F) (D : Module F) : Type 0 where
  pub count : D.count ≡ M.count
  pub acts : (i t : ℕ) → i < M.count → t < D.dimension →
      InSpan F c l (subtract F (image F M (r t) i) (times F D.dimension (D.generator i t) r))

module _ (F : Field) where
  -- a combination of differences of rows
  pub times-subtracted_rows : (n : ℕ) (x : Vector F) (a b : Matrix F) →
      times F n x (λ t. subtract F (a t) (b t)) ≡ subtract F (times F n x a) (times F n x b)
  times-subtracted_rows n x a b = fun_ext λ j.
      times-at F n x (λ t. subtract F (a t) (b t)) j
      ∙ sum_same F n _ (λ t. F.add (F.mul (x t) (a t j)) (F.neg (F.mul (x t) (b t j))))
      (λ t below. F.mul-add (x t) (a t j) (F.neg (b t j)) ∙ ap (F.add (F.mul (x t) (a t j))) (mul-neg F (x t) (b t j)))
      ∙ sum-add F n (λ t. F.mul (x t) (a t j)) (λ t. F.neg (F.mul (x t) (b t j)))
      ∙ ap₂ F.add (sym (times-at F n x a j)) (sym (neg-sum F n (λ t. F.mul (x t) (b t j))) ∙ ap F.neg (sym (times-at F n x b j)))

  -- x - z = (x - y) + (y - z)
  subtract_by_way_of : (x y z : Vector F) → subtract F x z ≡ add_vectors F (subtract F x y) (subtract F y z)
  subtract_by_way_of x y z = fun_ext λ j. sym (
      F.add_assoc (x j) (F.neg (y j)) (F.add (y j) (F.neg (z j)))
      ∙ ap (F.add (x j)) (sym (F.add_assoc (F.neg (y j)) (y j) (F.neg (z j)))
      ∙ ap (λ e. F.add e (F.neg (z j))) (F.add_comm (F.neg (y j)) (y j) ∙ F.add-neg (y j)) ∙ zero-add F (F.neg (z j))))

  nothing_left : (k : ℕ) (v : Matrix F) (x y : Vector F) → x ≡ y → InSpan F k v (subtract F x y)
  nothing_left k v x y same = span_same F k v (subtract F x y) (zero_vector F) (fun_ext λ j. difference_of_same F (x j) (y j) (ap (λ (z : Vector F). z j) same)) (span_zero F k v)

  module _ (M : Module F) (c : ℕ) (l r : Matrix F) (D : Module F) (section : ActsModulo F M c l r D) where
    -- the image of a combination of the rows is the combination by D's image, modulo l
    pub lifted_image : (x : Vector F) (i : ℕ) → i < M.count →
        InSpan F c l (subtract F (image F M (times F D.dimension x r) i) (times F D.dimension (image F D x i) r))
    lifted_image x i below =
        span_same F c l _ (times F D.dimension x differences)
        (ap₂ (subtract F) (image-times F M D.dimension x r i) (times_times F D.dimension D.dimension x (D.generator i) r)
        ∙ sym (times-subtracted_rows D.dimension x (λ t. image F M (r t) i) (multiply F D.dimension (D.generator i) r)))
        (span_times F c l D.dimension x differences (λ t inside. section.acts i t below inside))
      where
        differences : Matrix F
        differences = λ t. subtract F (image F M (r t) i) (times F D.dimension (D.generator i t) r)

    -- a combination of the rows of u, lifted: taken as combinations of the rows r
    lifted_combination : (k : ℕ) (y : Vector F) (u : Matrix F) → times F k y (multiply F D.dimension u r) ≡ times F D.dimension (times F k y u) r
    lifted_combination k y u = sym (times_times F D.dimension k y u r)

    -- on a sub action's rows, lifted, the module acts by the sub action
    pub sub_section : (k : ℕ) (u : Matrix F) (A : Module F) → IsSubAction F D k u A → ActsModulo F M c l (multiply F D.dimension u r) A
    sub_section k u A action = record {
      count = action.count ∙ section.count;
      acts = λ i t below inside.
          span_same F c l _ _ (ap (subtract F (image F M (multiply F D.dimension u r t) i)) (by_action i t below inside)) (lifted_image (u t) i below);
    }
      where
        by_action : (i t : ℕ) → i < M.count → t < A.dimension →
            times F A.dimension (A.generator i t) (multiply F D.dimension u r) ≡ times F D.dimension (image F D (u t) i) r
        by_action i t below inside =
            lifted_combination A.dimension (A.generator i t) u
            ∙ ap (λ (x : Vector F). times F D.dimension x r)
            (ap (λ k'. times F k' (A.generator i t) u) action.dimension
            ∙ sym (action.acts i t (omega (arith, section.count)) (omega (arith, action.dimension))))

    -- on a quotient action's columns, lifted, it acts by the quotient action modulo l and the lifted rows
    pub quotient_section : (k : ℕ) (u : Matrix F) (m : ℕ) (Q : Module F) → (action : IsQuotientAction F D k u m Q) →
        ActsModulo F M (c + k) (stacked F c l (multiply F D.dimension u r)) (λ t. r (action.columns t)) Q
    quotient_section k u m Q action = record {
      count = action.count ∙ section.count;
      acts = λ i t below inside. act i t below (omega (arith, action.dimension));
    }
      where
        row : (t : ℕ) → t < m → r (action.columns t) ≡ times F D.dimension (unit_vector F (action.columns t)) r
        row t inside = sym (times_unit F D.dimension (action.columns t) r (action.free.each t inside).below)

        combination : (y : Vector F) → times F Q.dimension y (λ t. r (action.columns t)) ≡ times F D.dimension (times F m y (unit_vectors F action.columns)) r
        combination y =
            ap (λ m'. times F m' y (λ t. r (action.columns t))) action.dimension
            ∙ times_same F m y y (λ t. r (action.columns t)) (multiply F D.dimension (unit_vectors F action.columns) r) (λ t below. refl) row
            ∙ sym (times_times F D.dimension m y (unit_vectors F action.columns) r)

        act : (i t : ℕ) → i < M.count → t < m →
            InSpan F (c + k) (stacked F c l (multiply F D.dimension u r))
            (subtract F (image F M (r (action.columns t)) i) (times F Q.dimension (Q.generator i t) (λ s. r (action.columns s))))
        act i t below inside =
            span_same F (c + k) (stacked F c l (multiply F D.dimension u r)) _ _
            (ap₂ (subtract F) (ap (λ (x : Vector F). image F M x i) (row t inside)) (combination (Q.generator i t))
            ∙ subtract_by_way_of _ (times F D.dimension (image F D e i) r) _)
            (span_add F (c + k) (stacked F c l (multiply F D.dimension u r)) _ _
            (first_in_stacked F c k l (multiply F D.dimension u r) _ (lifted_image e i below))
            (second_in_stacked F c k l (multiply F D.dimension u r) _ difference))
          where
            e : Vector F
            e = unit_vector F (action.columns t)

            in_u : InSpan F k u (subtract F (image F D e i) (times F m (Q.generator i t) (unit_vectors F action.columns)))
            in_u = action.acts i t (omega (arith, section.count)) inside

            difference : InSpan F k (multiply F D.dimension u r) (subtract F (times F D.dimension (image F D e i) r)
                (times F D.dimension (times F m (Q.generator i t) (unit_vectors F action.columns)) r))
            difference = record {
              coefficients = in_u.coefficients;
              combines =
                  sym (times-subtract F D.dimension (image F D e i) (times F m (Q.generator i t) (unit_vectors F action.columns)) r)
                  ∙ ap (λ (x : Vector F). times F D.dimension x r) in_u.combines ∙ sym (lifted_combination k in_u.coefficients u);
            }

    -- l with all the rows has an invariant span where l has
    pub section_is_invariant : IsInvariant F M c l → IsInvariant F M (c + D.dimension) (stacked F c l r)
    section_is_invariant invariant = record {
      images = λ t i inside below. each_stacked F (λ x. InSpan F (c + D.dimension) (stacked F c l r) (image F M x i)) c D.dimension l r
          (λ s small. first_in_stacked F c D.dimension l r (image F M (l s) i) (invariant.images s i small below))
          (λ s small. upper s i small below) t inside;
    }
      where
        upper : (s i : ℕ) → s < D.dimension → i < M.count → InSpan F (c + D.dimension) (stacked F c l r) (image F M (r s) i)
        upper s i small below =
            span_same F (c + D.dimension) (stacked F c l r) (image F M (r s) i) (add_vectors F (subtract F (image F M (r s) i) combined) combined)
            (fun_ext λ j. sym (F.add_assoc (image F M (r s) i j) (F.neg (combined j)) (combined j)
            ∙ ap (F.add (image F M (r s) i j)) (F.add_comm (F.neg (combined j)) (combined j) ∙ F.add-neg (combined j)) ∙ F.add-zero (image F M (r s) i j)))
            (span_add F (c + D.dimension) (stacked F c l r) _ combined
            (first_in_stacked F c D.dimension l r _ (section.acts i s below small))
            (second_in_stacked F c D.dimension l r combined (span_times F D.dimension r D.dimension (D.generator i s) r (span_row F D.dimension r))))
          where
            combined : Vector F
            combined = times F D.dimension (D.generator i s) r

  -- the whole module acts on the unit vectors modulo nothing
  pub whole_section : (M : Module F) → HasSquareMatrices F M → (l : Matrix F) → ActsModulo F M 0 l (unit_matrix F M.dimension) M
  whole_section M is l = record {
    count = refl;
    acts = λ i t below inside. nothing_left 0 l _ _
        (ap (λ (x : Vector F). image F M x i) (identity_row F M.dimension t inside) ∙ times_unit F M.dimension t (M.generator i) inside
        ∙ sym (times_identity F M.dimension (M.generator i t) ((is.square i below).columns t)));
  }

  -- an isomorphism is a sub action on its own rows
  pub action_of_isomorphism : (A D : Module F) (T : Matrix F) → HasSquareMatrices F A → IsIsomorphism F A D T → IsSubAction F D A.dimension T A
  action_of_isomorphism A D T is iso = record {
    dimension = refl;
    count = iso.count;
    square = λ i below. is.square i (omega (arith, iso.count));
    acts = λ i t below inside.
        ap (λ n. times F n (T t) (D.generator i)) (sym iso.dimension)
        ∙ ap (λ (a : Matrix F). a t) (iso.intertwines i (omega (arith, iso.count)));
  }

  -- rows that span everything of length d, lifted, span what the d rows of r span
  pub lifted_spans : (d s : ℕ) (u r : Matrix F) → SpansAll F d s u → SpanWithin F d r s (multiply F d u r)
  lifted_spans d s u r all t below =
      let e : InSpan F s u (unit_vector F t) = all (unit_vector F t) (unit_length F d t below) in
      record {
        coefficients = e.coefficients;
        combines =
            sym (times_unit F d t r below) ∙ ap (λ (x : Vector F). times F d x r) e.combines ∙ times_times F d s e.coefficients u r;
      }
