-- Two lists of reduced rows joined, and what they span with the other rows, over any field.
use Rattle.std.specs.Prelude.{◌≡◌, ◌≢◌, ℕ, ◌<◌, ◌+◌, ◌-◌}
use Rattle.axe_algebra.specs.Field.{Field}
use Rattle.axe_algebra.specs.Vectors.{Vector, Matrix, add_vectors, times}
use Rattle.axe_algebra.specs.Spans.{InSpan, SpanWithin, SameSpan}
use Rattle.axe_algebra.proofs.FieldLaws.{mul-zero, zero-mul, neg-zero, neg-add, difference_of_same}
use Rattle.axe_algebra.proofs.Sums.{sum_zeros}
use Rattle.axe_algebra.proofs.ProductLaws.{times-at}
use Rattle.axe_algebra.proofs.Reducing.{coefficient_at_pivot, combination_zero_at}
use Rattle.axe_algebra.proofs.Spanning.{span_row, span_same, span_add, span_subtract, span_times, within_trans}
use Rattle.axe_reduction.specs.Forms.{AreReducedRows, less_rows}
use mathlib.Core.Path.{sym, ◌∙◌, ap, subst, fun_ext}
use native.Mathlib.Omega.{arith}
use native.Mathlib.Decide.{dec_lt}

-- what holds of the first k numbers and of the m after them
pub each_of_sum : (P : ℕ → Type 0) (k m : ℕ) → ((t : ℕ) → t < k → P t) → ((t : ℕ) → t < m → P (k + t)) →
    (t : ℕ) → t < k + m → P t
each_of_sum P k m first second t below = cases (dec_lt t k)
  where
    cases : Dec (t < k) → P t
    cases (yes inside) = first t inside
    cases (no past) =
        let rest : ℕ = t - k in
        subst P (let e : k + rest ≡ t = omega arith in e) (second rest (omega arith))

-- the n rows of s are the k rows of v and then the m rows of w
pub record AreStacked (F : Field) (k : ℕ) (v : Matrix F) (m : ℕ) (w : Matrix F) (n : ℕ) (s : Matrix F) : Type 0 where
  pub count : n ≡ k + m
  pub first : (t : ℕ) → t < k → s t ≡ v t
  pub second : (t : ℕ) → t < m → s (k + t) ≡ w t

module _ (F : Field) where
  -- ---- entries

  -- it is 0 at the pivots of reduced rows
  pub less_at_pivot : (k : ℕ) (p : ℕ → ℕ) (w : Matrix F) (x : Vector F) (s : ℕ) → AreReducedRows F k w p → s < k →
      less_rows F k p w x (p s) ≡ F.zero
  less_at_pivot k p w x s reduced below =
      difference_of_same F (x (p s)) (times F k (λ t. x (p t)) w (p s))
      (sym (coefficient_at_pivot F k w p (λ t. x (p t)) s below reduced.one
      (λ i t i_below t_below other. reduced.zero t i t_below i_below (λ e. other (sym e)))))

  -- where the combination is 0 it is x
  pub less_zero : (k : ℕ) (p : ℕ → ℕ) (w : Matrix F) (x : Vector F) (j : ℕ) → times F k (λ t. x (p t)) w j ≡ F.zero →
      less_rows F k p w x j ≡ x j
  less_zero k p w x j zero = ap (λ y. F.add (x j) (F.neg y)) zero ∙ ap (F.add (x j)) (neg-zero F) ∙ F.add-zero (x j)

  -- vectors of the span of rows that are 0 at j are 0 there
  pub span_zero_at : (k : ℕ) (v : Matrix F) (x : Vector F) (j : ℕ) → ((t : ℕ) → t < k → v t j ≡ F.zero) → InSpan F k v x →
      x j ≡ F.zero
  span_zero_at k v x j zeros in_span =
      ap (λ (y : Vector F). y j) in_span.combines ∙ combination_zero_at F k v in_span.coefficients j zeros

  -- before a column up to which x is 0 it is 0
  pub less_before : (k : ℕ) (p : ℕ → ℕ) (w : Matrix F) (x : Vector F) (q i : ℕ) → AreReducedRows F k w p →
      ((j : ℕ) → j < q → x j ≡ F.zero) → i < q → less_rows F k p w x i ≡ F.zero
  less_before k p w x q i reduced zeros below =
      less_zero k p w x i
      (times-at F k (λ t. x (p t)) w i ∙ sum_zeros F k (λ t. F.mul (x (p t)) (w t i)) (λ t inside. term t inside (dec_lt i (p t))))
      ∙ zeros i below
    where
      term : (t : ℕ) → t < k → Dec (i < p t) → F.mul (x (p t)) (w t i) ≡ F.zero
      term t inside (yes ahead) = ap (F.mul (x (p t))) (reduced.before t i inside ahead) ∙ mul-zero F (x (p t))
      term t inside (no past) = ap (λ y. F.mul y (w t i)) (zeros (p t) (omega arith)) ∙ zero-mul F (w t i)

  -- ---- reduced rows

  -- the reduced rows w1, less their combinations of the reduced rows w2, which are 0 at the pivots of w1, and then w2
  pub joined_are_reduced : (k : ℕ) (p : ℕ → ℕ) (v : Matrix F) (m : ℕ) (q : ℕ → ℕ) (w : Matrix F) (n : ℕ) (r : ℕ → ℕ) (s : Matrix F) →
      AreReducedRows F k v p → AreReducedRows F m w q → ((i t : ℕ) → i < m → t < k → w i (p t) ≡ F.zero) →
      AreStacked F k (λ t. less_rows F m q w (v t)) m w n s → ((t : ℕ) → t < k → r t ≡ p t) → ((t : ℕ) → t < m → r (k + t) ≡ q t) →
      AreReducedRows F n s r
  joined_are_reduced k p v m q w n r s first second zeros stacked first_at second_at = record {
    one = λ t below. each_of_sum (λ t. s t (r t) ≡ F.one) k m
        (λ t small. at_first t t small small ∙ cleared_at t t small small ∙ first.one t small)
        (λ t small. at_second t t small small ∙ second.one t small) t (small_enough t below);
    before = λ t i below. each_of_sum (λ t. i < r t → s t i ≡ F.zero) k m
        (λ t small ahead. ap (λ (x : Vector F). x i) (stacked.first t small)
        ∙ less_before m q w (v t) (p t) i second (λ j. first.before t j small) (omega (arith, first_at t small)))
        (λ t small ahead. ap (λ (x : Vector F). x i) (stacked.second t small) ∙ second.before t i small (omega (arith, second_at t small)))
        t (small_enough t below);
    zero = λ i t i_below t_below other. each_of_sum (λ i. (t : ℕ) → t < k + m → i ≢ t → s i (r t) ≡ F.zero) k m
        (λ i small. each_of_sum (λ t. i ≢ t → s i (r t) ≡ F.zero) k m
        (λ t inside other. at_first i t small inside ∙ cleared_at i t small inside ∙ first.zero i t small inside other)
        (λ t inside other. ap (λ (x : Vector F). x (r (k + t))) (stacked.first i small) ∙ ap (less_rows F m q w (v i)) (second_at t inside)
        ∙ less_at_pivot m q w (v i) t second inside))
        (λ i small. each_of_sum (λ t. k + i ≢ t → s (k + i) (r t) ≡ F.zero) k m
        (λ t inside other. ap (λ (x : Vector F). x (r t)) (stacked.second i small) ∙ ap (w i) (first_at t inside) ∙ zeros i t small inside)
        (λ t inside other. at_second i t small inside ∙ second.zero i t small inside (λ e. other (ap (λ j. k + j) e))))
        i (small_enough i i_below) t (small_enough t t_below) other;
  }
    where
      small_enough : (t : ℕ) → t < n → t < k + m
      small_enough t below = omega (arith, stacked.count)

      at_first : (i t : ℕ) → i < k → t < k → s i (r t) ≡ less_rows F m q w (v i) (p t)
      at_first i t small inside = ap (λ (x : Vector F). x (r t)) (stacked.first i small) ∙ ap (less_rows F m q w (v i)) (first_at t inside)

      at_second : (i t : ℕ) → i < m → t < m → s (k + i) (r (k + t)) ≡ w i (q t)
      at_second i t small inside = ap (λ (x : Vector F). x (r (k + t))) (stacked.second i small) ∙ ap (w i) (second_at t inside)

      cleared_at : (i t : ℕ) → i < k → t < k → less_rows F m q w (v i) (p t) ≡ v i (p t)
      cleared_at i t small inside =
          less_zero m q w (v i) (p t) (combination_zero_at F m w (λ t. v i (q t)) (p t) (λ i below. zeros i t below inside))

  -- ---- spans

  pub first_within : (k : ℕ) (v : Matrix F) (m : ℕ) (w : Matrix F) (n : ℕ) (s : Matrix F) → AreStacked F k v m w n s → SpanWithin F k v n s
  first_within k v m w n s stacked t below =
      span_same F n s (v t) (s t) (sym (stacked.first t below)) (span_row F n s t (omega (arith, stacked.count)))

  pub second_within : (k : ℕ) (v : Matrix F) (m : ℕ) (w : Matrix F) (n : ℕ) (s : Matrix F) → AreStacked F k v m w n s → SpanWithin F m w n s
  second_within k v m w n s stacked t below =
      span_same F n s (w t) (s (k + t)) (sym (stacked.second t below)) (span_row F n s (k + t) (omega (arith, stacked.count)))

  pub both_within : (k : ℕ) (v : Matrix F) (m : ℕ) (w : Matrix F) (n : ℕ) (s : Matrix F) (l : ℕ) (g : Matrix F) → AreStacked F k v m w n s →
      SpanWithin F k v l g → SpanWithin F m w l g → SpanWithin F n s l g
  both_within k v m w n s l g stacked first second t below =
      each_of_sum (λ t. InSpan F l g (s t)) k m
      (λ t small. span_same F l g (s t) (v t) (stacked.first t small) (first t small))
      (λ t small. span_same F l g (s (k + t)) (w t) (stacked.second t small) (second t small)) t (omega (arith, stacked.count))

  -- rows less combinations of others span no more than both, and the other way round
  pub less_within : (k : ℕ) (v : Matrix F) (m : ℕ) (q : ℕ → ℕ) (w : Matrix F) (n : ℕ) (g : Matrix F) → SpanWithin F k v n g →
      SpanWithin F m w n g → SpanWithin F k (λ t. less_rows F m q w (v t)) n g
  less_within k v m q w n g first second t below =
      span_subtract F n g (v t) (times F m (λ s. v t (q s)) w) (first t below) (span_times F n g m (λ s. v t (q s)) w second)

  pub whole_within : (k : ℕ) (v : Matrix F) (m : ℕ) (q : ℕ → ℕ) (w : Matrix F) (n : ℕ) (g : Matrix F) →
      SpanWithin F k (λ t. less_rows F m q w (v t)) n g → SpanWithin F m w n g → SpanWithin F k v n g
  whole_within k v m q w n g first second t below =
      span_same F n g (v t) (add_vectors F (less_rows F m q w (v t)) part)
      (fun_ext λ j. sym (F.add_assoc (v t j) (F.neg (part j)) (part j) ∙ ap (F.add (v t j)) (neg-add F (part j)) ∙ F.add-zero (v t j)))
      (span_add F n g (less_rows F m q w (v t)) part (first t below) (span_times F n g m (λ s. v t (q s)) w second))
    where
      part : Vector F
      part = times F m (λ s. v t (q s)) w

  -- the rows a are those of u and then those of l; u spans what w1 and z1 do, and l, less combinations of w1, what w2
  -- and z2 do: then a spans what w1, less combinations of w2, and w2, z1 and z2 do
  pub joined_same_span : (h : ℕ) (u : Matrix F) (o : ℕ) (l : Matrix F) (n : ℕ) (a : Matrix F)
      (k1 : ℕ) (p1 : ℕ → ℕ) (w1 : Matrix F) (m1 : ℕ) (z1 : Matrix F) (n1 : ℕ) (s1 : Matrix F)
      (k2 : ℕ) (p2 : ℕ → ℕ) (w2 : Matrix F) (m2 : ℕ) (z2 : Matrix F) (n2 : ℕ) (s2 : Matrix F)
      (k : ℕ) (w : Matrix F) (m : ℕ) (z : Matrix F) (d : ℕ) (s : Matrix F) →
      AreStacked F h u o l n a → AreStacked F k1 w1 m1 z1 n1 s1 → SameSpan F h u n1 s1 →
      AreStacked F k2 w2 m2 z2 n2 s2 → SameSpan F o (λ t. less_rows F k1 p1 w1 (l t)) n2 s2 →
      AreStacked F k1 (λ t. less_rows F k2 p2 w2 (w1 t)) k2 w2 k w → AreStacked F m1 z1 m2 z2 m z → AreStacked F k w m z d s →
      SameSpan F n a d s
  joined_same_span h u o l n a k1 p1 w1 m1 z1 n1 s1 k2 p2 w2 m2 z2 n2 s2 k w m z d s rows stack1 same1 stack2 same2 stack_w stack_z stack = record {
    forth = both_within h u o l n a d s rows u_in l_in;
    back = both_within k w m z d s n a stack
        (both_within k1 (λ t. less_rows F k2 p2 w2 (w1 t)) k2 w2 k w n a stack_w (less_within k1 w1 k2 p2 w2 n a w1_of w2_of) w2_of)
        (both_within m1 z1 m2 z2 m z n a stack_z z1_of z2_of);
  }
    where
      -- everything lies in the span of a
      s1_of : SpanWithin F n1 s1 n a
      s1_of = within_trans F n1 s1 h u n a same1.back (first_within h u o l n a rows)

      w1_of : SpanWithin F k1 w1 n a
      w1_of = within_trans F k1 w1 n1 s1 n a (first_within k1 w1 m1 z1 n1 s1 stack1) s1_of

      z1_of : SpanWithin F m1 z1 n a
      z1_of = within_trans F m1 z1 n1 s1 n a (second_within k1 w1 m1 z1 n1 s1 stack1) s1_of

      s2_of : SpanWithin F n2 s2 n a
      s2_of = within_trans F n2 s2 o (λ t. less_rows F k1 p1 w1 (l t)) n a same2.back
          (less_within o l k1 p1 w1 n a (second_within h u o l n a rows) w1_of)

      w2_of : SpanWithin F k2 w2 n a
      w2_of = within_trans F k2 w2 n2 s2 n a (first_within k2 w2 m2 z2 n2 s2 stack2) s2_of

      z2_of : SpanWithin F m2 z2 n a
      z2_of = within_trans F m2 z2 n2 s2 n a (second_within k2 w2 m2 z2 n2 s2 stack2) s2_of

      -- everything lies in the span of s
      w_in : SpanWithin F k w d s
      w_in = first_within k w m z d s stack

      z_in : SpanWithin F m z d s
      z_in = second_within k w m z d s stack

      w2_in : SpanWithin F k2 w2 d s
      w2_in = within_trans F k2 w2 k w d s (second_within k1 (λ t. less_rows F k2 p2 w2 (w1 t)) k2 w2 k w stack_w) w_in

      w1_in : SpanWithin F k1 w1 d s
      w1_in = whole_within k1 w1 k2 p2 w2 d s
          (within_trans F k1 (λ t. less_rows F k2 p2 w2 (w1 t)) k w d s
          (first_within k1 (λ t. less_rows F k2 p2 w2 (w1 t)) k2 w2 k w stack_w) w_in) w2_in

      s1_in : SpanWithin F n1 s1 d s
      s1_in = both_within k1 w1 m1 z1 n1 s1 d s stack1 w1_in
          (within_trans F m1 z1 m z d s (first_within m1 z1 m2 z2 m z stack_z) z_in)

      s2_in : SpanWithin F n2 s2 d s
      s2_in = both_within k2 w2 m2 z2 n2 s2 d s stack2 w2_in
          (within_trans F m2 z2 m z d s (second_within m1 z1 m2 z2 m z stack_z) z_in)

      u_in : SpanWithin F h u d s
      u_in = within_trans F h u n1 s1 d s same1.forth s1_in

      l_in : SpanWithin F o l d s
      l_in = whole_within o l k1 p1 w1 d s
          (within_trans F o (λ t. less_rows F k1 p1 w1 (l t)) n2 s2 d s same2.forth s2_in) w1_in
