-- The null space of a matrix, and so an annihilator, is the span of some rows.
use Rattle.std.specs.Prelude.{◌≡◌, ◌≢◌, ℕ, zero, suc, ◌<◌, ◌+◌}
use Rattle.axe_algebra.specs.Field.{Field}
use Rattle.axe_algebra.specs.Vectors.{Vector, Matrix, HasLength, HasRowsOfLength, HasShape, zero_vector, unit_vector, add_vectors, subtract, scale, transposed, times, dot}
use Rattle.axe_algebra.specs.Spans.{InSpan, IsIndependent, IsNullVector}
use Rattle.axe_algebra.specs.Irreducible.{InAnnihilator}
use Rattle.axe_algebra.specs.NortonTheorems.{SpansNullSpace, SpansAnnihilator}
use Rattle.axe_algebra.proofs.FieldLaws.{mul-zero, one-mul, neg-add, neg-zero, neg-mul, mul-neg, neg-neg, inv-mul, neg_is}
use Rattle.axe_algebra.proofs.ProductLaws.{times_more, times_none, times_longer, times_zero, times-add_vectors, times-subtract, times-scale, times_unit, times_length, times-at, dot-at, dot_comm, unit_at, unit_off, transposed_is_matrix}
use Rattle.axe_algebra.proofs.Sums.{sum_same}
use Rattle.axe_algebra.proofs.Spanning.{span_zero, span_same, span_add, span_scale, span_row}
use Rattle.axe_algebra.proofs.Exchange.{cut, cut_below, cut_length, times_cut, in_span_or_not}
use Rattle.axe_algebra.proofs.Cutting.{cut_matrix, cut_is_matrix, cut_matrix_row}
use Rattle.axe_algebra.proofs.Spaces.{IsSpace, space_has_span, stacked, each_stacked, first_in_stacked, second_in_stacked}
use mathlib.Core.Path.{refl, sym, ◌∙◌, ap, ap₂, subst, fun_ext}
use native.Mathlib.Omega.{arith}
use native.Mathlib.Decide.{dec_lt, ℕ_discrete}

module _ (F : Field) where
  -- the null space is a space
  pub null_space_is_space : (n : ℕ) (a : Matrix F) → IsSpace F (IsNullVector F n a)
  null_space_is_space n a = record {
    zero = record { length = λ j past. refl; vanishes = times_zero F n a };
    sums = λ x y p q. record {
      length = λ j past. ap₂ F.add (p.length j past) (q.length j past) ∙ F.add-zero F.zero;
      vanishes = times-add_vectors F n x y a ∙ ap₂ (add_vectors F) p.vanishes q.vanishes ∙ fun_ext λ j. F.add-zero F.zero;
    };
    multiples = λ c x p. record {
      length = λ j past. ap (F.mul c) (p.length j past) ∙ mul-zero F c;
      vanishes = times-scale F n c x a ∙ ap (scale F c) p.vanishes ∙ fun_ext λ j. mul-zero F c;
    };
  }

  -- a null vector with one more entry, which is 0
  pub null_vector_more : (n : ℕ) (a : Matrix F) (x : Vector F) → IsNullVector F n a x → IsNullVector F (suc n) a x
  null_vector_more n a x null = record {
    length = λ j past. null.length j (omega arith);
    vanishes = times_longer F n (suc n) x a (omega arith) (λ t from below. null.length t from) ∙ null.vanishes;
  }

  -- and with one less
  pub null_vector_less : (n : ℕ) (a : Matrix F) (x : Vector F) → x n ≡ F.zero → IsNullVector F (suc n) a x → IsNullVector F n a x
  null_vector_less n a x last null = record {
    length = at;
    vanishes = sym (times_longer F n (suc n) x a (omega arith) (λ t from below. at t from)) ∙ null.vanishes;
  }
    where
      at : HasLength F n x
      at j past = cases (ℕ_discrete j n)
        where
          cases : Dec (j ≡ n) → x j ≡ F.zero
          cases (yes e) = ap x e ∙ last
          cases (no other) = null.length j (omega arith)

  -- a null vector whose last entry is not 0 puts the last row into the span of those before it
  last_row_in_span : (n : ℕ) (a : Matrix F) (x : Vector F) → IsNullVector F (suc n) a x → x n ≢ F.zero → InSpan F n a (a n)
  last_row_in_span n a x null nonzero = record {
    coefficients = scale F (F.neg (F.inv (x n))) x;
    combines = fun_ext λ j. at j ∙ sym (ap (λ (y : Vector F). y j) (times-scale F n (F.neg (F.inv (x n))) x a));
  }
    where
      c : F.Element
      c = F.inv (x n)

      rest : (j : ℕ) → times F n x a j ≡ F.neg (F.mul (x n) (a n j))
      rest j = neg_is F (F.mul (x n) (a n j)) (times F n x a j)
          (F.add_comm (F.mul (x n) (a n j)) (times F n x a j)
          ∙ sym (ap (λ (y : Vector F). y j) (times_more F n x a)) ∙ ap (λ (y : Vector F). y j) null.vanishes)

      at : (j : ℕ) → a n j ≡ F.mul (F.neg c) (times F n x a j)
      at j =
          sym (one-mul F (a n j)) ∙ ap (λ y. F.mul y (a n j)) (sym (inv-mul F (x n) nonzero))
          ∙ F.mul_assoc c (x n) (a n j) ∙ sym (neg-neg F (F.mul c (F.mul (x n) (a n j))))
          ∙ ap F.neg (sym (mul-neg F c (F.mul (x n) (a n j))) ∙ ap (F.mul c) (sym (rest j)))
          ∙ sym (neg-mul F c (times F n x a j))

  -- the null vector of a last row in the span of those before it: 1 at n, and the coefficients taken away
  pub last_vector : (n : ℕ) → Vector F → Vector F
  last_vector n d = subtract F (unit_vector F n) (cut F n d)

  pub last_vector_at : (n : ℕ) (d : Vector F) → last_vector n d n ≡ F.one
  unfolding last_vector
  last_vector_at n d =
      ap₂ (λ x y. F.add x (F.neg y)) (unit_at F n) (cut_length F n d n (omega arith)) ∙ ap (F.add F.one) (neg-zero F) ∙ F.add-zero F.one

  pub last_vector_is_null : (n : ℕ) (a : Matrix F) (d : Vector F) → a n ≡ times F n d a → IsNullVector F (suc n) a (last_vector n d)
  unfolding last_vector
  last_vector_is_null n a d combine = record {
    length = λ j past.
        ap₂ (λ x y. F.add x (F.neg y)) (unit_off F n j (omega arith)) (cut_length F n d j (omega arith)) ∙ F.add-neg F.zero;
    vanishes =
        times-subtract F (suc n) (unit_vector F n) (cut F n d) a
        ∙ ap₂ (subtract F) (times_unit F (suc n) n a (omega arith) ∙ combine)
        (times_longer F n (suc n) (cut F n d) a (omega arith) (λ t from below. cut_length F n d t from) ∙ times_cut F n d a)
        ∙ fun_ext λ j. F.add-neg (times F n d a j);
  }

  -- no row of independent rows is a combination of those before it
  pub row_not_in_earlier_span : (m : ℕ) (b : Matrix F) → IsIndependent F m b → (t : ℕ) → t < m → (c : Vector F) → ¬ (b t ≡ times F t c b)
  row_not_in_earlier_span m b independent t below c combine =
      F.one-not-zero (sym (last_vector_at t c) ∙ independent.only_zero (last_vector t c) vanishes t below)
    where
      null : IsNullVector F (suc t) b (last_vector t c)
      null = last_vector_is_null t b c combine

      vanishes : times F m (last_vector t c) b ≡ zero_vector F
      vanishes = times_longer F (suc t) m (last_vector t c) b (omega arith) (λ s from inside. null.length s from) ∙ null.vanishes

  -- the null space of n rows of length k is the span of some rows
  pub null_space_basis : (k n : ℕ) (a : Matrix F) → HasRowsOfLength F k a → (r : ℕ) × (b : Matrix F) × SpansNullSpace F n a r b
  null_space_basis k zero a rows = (
    0,
    (λ i. zero_vector F),
    record {
      lengths = λ i j past. refl;
      forth = λ x within. subst (IsNullVector F 0 a) (sym (within.combines ∙ times_none F within.coefficients (λ i. zero_vector F))) (null_space_is_space 0 a).zero;
      back = λ x null. span_same F 0 (λ i. zero_vector F) x (zero_vector F) (fun_ext λ j. null.length j (omega arith)) (span_zero F 0 (λ i. zero_vector F));
    },
  )
  null_space_basis k (suc n) a rows = by_shorter (null_space_basis k n a rows) (in_span_or_not F k n a (a n) rows (rows n))
    where
      by_shorter : (r : ℕ) × (b : Matrix F) × SpansNullSpace F n a r b → Dec (InSpan F n a (a n)) →
          (r : ℕ) × (b : Matrix F) × SpansNullSpace F (suc n) a r b
      by_shorter (r, b, spans) (no out) = (
        r,
        b,
        record {
          lengths = λ i j past. spans.lengths i j (omega arith);
          forth = λ x within. null_vector_more n a x (spans.forth x within);
          back = λ x null. spans.back x (null_vector_less n a x (last_entry x null (F.is_discrete (x n) F.zero)) null);
        },
      )
        where
          last_entry : (x : Vector F) → IsNullVector F (suc n) a x → Dec (x n ≡ F.zero) → x n ≡ F.zero
          last_entry x null (yes e) = e
          last_entry x null (no nonzero) = absurd (out (last_row_in_span n a x null nonzero))
      by_shorter (r, b, spans) (yes within) = (
        r + 1,
        stacked F r b (λ s. e),
        record {
          lengths = λ i. each_stacked F (HasLength F (suc n)) r (suc i) b (λ s. e) (λ s below j past. spans.lengths s j (omega arith)) (λ s below. null.length) i (omega arith);
          forth = space_has_span F (IsNullVector F (suc n) a) (null_space_is_space (suc n) a) (r + 1) (stacked F r b (λ s. e))
              (each_stacked F (IsNullVector F (suc n) a) r 1 b (λ s. e)
              (λ s below. null_vector_more n a (b s) (spans.forth (b s) (span_row F r b s below))) (λ s below. null));
          back = back;
        },
      )
        where
          e : Vector F
          e = last_vector n within.coefficients

          null : IsNullVector F (suc n) a e
          null = last_vector_is_null n a within.coefficients within.combines

          back : (x : Vector F) → IsNullVector F (suc n) a x → InSpan F (r + 1) (stacked F r b (λ s. e)) x
          back x of_x =
              span_same F (r + 1) (stacked F r b (λ s. e)) x (add_vectors F y (scale F (x n) e)) (fun_ext λ j. sym (restored j))
              (span_add F (r + 1) (stacked F r b (λ s. e)) y (scale F (x n) e)
              (first_in_stacked F r 1 b (λ s. e) y (spans.back y (null_vector_less n a y last of_y)))
              (span_scale F (r + 1) (stacked F r b (λ s. e)) (x n) e (second_in_stacked F r 1 b (λ s. e) e (span_row F 1 (λ s. e) 0 (omega arith)))))
            where
              y : Vector F
              y = add_vectors F x (scale F (F.neg (x n)) e)

              of_y : IsNullVector F (suc n) a y
              of_y = (null_space_is_space (suc n) a).sums x (scale F (F.neg (x n)) e) of_x
                  ((null_space_is_space (suc n) a).multiples (F.neg (x n)) e null)

              last : y n ≡ F.zero
              last =
                  ap (λ z. F.add (x n) (F.mul (F.neg (x n)) z)) (last_vector_at n within.coefficients)
                  ∙ ap (F.add (x n)) (F.mul-one (F.neg (x n))) ∙ F.add-neg (x n)

              restored : (j : ℕ) → F.add (y j) (F.mul (x n) (e j)) ≡ x j
              restored j =
                  F.add_assoc (x j) (F.mul (F.neg (x n)) (e j)) (F.mul (x n) (e j))
                  ∙ ap (λ z. F.add (x j) (F.add z (F.mul (x n) (e j)))) (neg-mul F (x n) (e j))
                  ∙ ap (F.add (x j)) (neg-add F (F.mul (x n) (e j))) ∙ F.add-zero (x j)

  -- a list of rows that spans the annihilator of k rows of length n
  pub annihilator_basis : (n k : ℕ) (v : Matrix F) → HasRowsOfLength F n v →
      (r : ℕ) × (w : Matrix F) × HasRowsOfLength F n w × SpansAnnihilator F n k v r w
  annihilator_basis n k v rows = by_basis (null_space_basis k n (transposed F c) (transposed_is_matrix F k n c shape).columns)
    where
      c : Matrix F
      c = cut_matrix F k n v

      shape : HasShape F k n c
      shape = cut_is_matrix F k n v

      same_dot : (x : Vector F) (t : ℕ) → t < k → times F n x (transposed F c) t ≡ dot F n (v t) x
      same_dot x t below =
          times-at F n x (transposed F c) t
          ∙ sum_same F n _ (λ s. F.mul (x s) (v t s)) (λ s inside. ap (F.mul (x s)) (ap (λ (y : Vector F). y s) (cut_matrix_row F k n v t below) ∙ cut_below F n (v t) s inside))
          ∙ sym (dot-at F n x (v t)) ∙ dot_comm F n x (v t)

      annihilates : (x : Vector F) → IsNullVector F n (transposed F c) x → InAnnihilator F n k v x
      annihilates x null = record {
        length = null.length;
        orthogonal = λ t below. sym (same_dot x t below) ∙ ap (λ (y : Vector F). y t) null.vanishes;
      }

      is_null : (x : Vector F) → InAnnihilator F n k v x → IsNullVector F n (transposed F c) x
      is_null x within = record { length = within.length; vanishes = fun_ext λ t. at t (dec_lt t k) }
        where
          at : (t : ℕ) → Dec (t < k) → times F n x (transposed F c) t ≡ F.zero
          at t (yes below) = same_dot x t below ∙ within.orthogonal t below
          at t (no past) = times_length F n k x (transposed F c) (transposed_is_matrix F k n c shape).columns t (omega arith)

      by_basis : (r : ℕ) × (b : Matrix F) × SpansNullSpace F n (transposed F c) r b →
          (r : ℕ) × (w : Matrix F) × HasRowsOfLength F n w × SpansAnnihilator F n k v r w
      by_basis (r, b, spans) = (
        r,
        b,
        spans.lengths,
        record {
          forth = λ x within. annihilates x (spans.forth x within);
          back = λ x within. spans.back x (is_null x within);
        },
      )
