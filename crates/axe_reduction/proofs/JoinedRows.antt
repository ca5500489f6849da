-- Two reductions of lists of rows over a field of numbers, joined.
use Rattle.std.specs.Prelude.{◌≡◌, ℕ, ◌<◌, ◌+◌, List, [], ◌++◌, length, get_or}
use Rattle.std.proofs.lemmas.List.{length-append, get_or_append_left, get_or-append-add}
use Rattle.std.proofs.lemmas.List.Elements.{All-append}
use Rattle.axe_algebra.specs.NumberField.{NumberField}
use Rattle.axe_algebra.specs.Field.{Field}
use Rattle.axe_algebra.specs.Vectors.{Matrix}
use Rattle.axe_algebra.specs.Spans.{SpanWithin, SameSpan}
use Rattle.axe_algebra.proofs.Spanning.{within_trans}
use Rattle.axe_algebra.specs.Bridge.{field_of, element, vector_of, matrix_of}
use Rattle.axe_algebra.specs.Lists.{IsMatrixOver}
use Rattle.axe_algebra.specs.SpansOfLists.{HaveSameSpan}
use Rattle.axe_reduction.specs.Forms.{AreReduced}
use Rattle.axe_reduction.proofs.JoinedLaws.{each_of_sum, AreStacked, less_at_pivot, span_zero_at, joined_are_reduced, joined_same_span, first_within}
use Rattle.axe_reduction.proofs.ClearedLaws.{cleared_rows, less_reduced, matrix_of_cleared, cleared_length}
use mathlib.Core.Path.{sym, ◌∙◌, ap, subst}
use native.Mathlib.Omega.{arith}

module _ (K : NumberField) where
  abbrev F : Field
  F = field_of K

  pub append_stacked : (a b : List (List ℕ)) → AreStacked F (length a) (matrix_of K a) (length b) (matrix_of K b) (length (a ++ b)) (matrix_of K (a ++ b))
  append_stacked a b = record {
    count = length-append a b;
    first = λ t below. ap (vector_of K) (get_or_append_left a b [] t below);
    second = λ t below. ap (vector_of K) (get_or-append-add a b t []);
  }

  -- the cleared rows before others
  cleared_stacked : (columns c : ℕ) (pivots : List ℕ) (reduced rows : List (List ℕ)) → c < K.order → element K c ≡ F.neg F.one →
      length pivots ≡ length reduced → IsMatrixOver K columns reduced → IsMatrixOver K columns rows →
      AreStacked F (length rows) (less_reduced K pivots reduced rows) (length reduced) (matrix_of K reduced)
      (length (cleared_rows K columns c pivots reduced rows ++ reduced)) (matrix_of K (cleared_rows K columns c pivots reduced rows ++ reduced))
  cleared_stacked columns c pivots reduced rows small minus_one count over_reduced over_rows =
      let d : List (List ℕ) = cleared_rows K columns c pivots reduced rows in
      subst (λ (m : Matrix F). AreStacked F (length rows) m (length reduced) (matrix_of K reduced) (length (d ++ reduced)) (matrix_of K (d ++ reduced)))
      (matrix_of_cleared K columns c pivots reduced rows small minus_one count over_reduced over_rows)
      (subst (λ k. AreStacked F k (matrix_of K d) (length reduced) (matrix_of K reduced) (length (d ++ reduced)) (matrix_of K (d ++ reduced)))
      (cleared_length K columns c pivots reduced rows) (append_stacked d reduced))

  -- the span of the cleared rows
  cleared_same : (columns c : ℕ) (pivots : List ℕ) (reduced rows others : List (List ℕ)) → c < K.order → element K c ≡ F.neg F.one →
      length pivots ≡ length reduced → IsMatrixOver K columns reduced → IsMatrixOver K columns rows →
      HaveSameSpan K (cleared_rows K columns c pivots reduced rows) others →
      SameSpan F (length rows) (less_reduced K pivots reduced rows) (length others) (matrix_of K others)
  cleared_same columns c pivots reduced rows others small minus_one count over_reduced over_rows same =
      subst (λ (m : Matrix F). SameSpan F (length rows) m (length others) (matrix_of K others))
      (matrix_of_cleared K columns c pivots reduced rows small minus_one count over_reduced over_rows)
      (subst (λ k. SameSpan F k (matrix_of K (cleared_rows K columns c pivots reduced rows)) (length others) (matrix_of K others))
      (cleared_length K columns c pivots reduced rows) same)

  -- the reduction of the rows u, and that of the rows l cleared by it, give one of the rows a, which are u and then l
  pub join_are_reduced : (left columns c : ℕ) (a u l : List (List ℕ)) (p q : List ℕ) (v z w y : List (List ℕ)) →
      c < K.order → element K c ≡ F.neg F.one → IsMatrixOver K columns l →
      AreStacked F (length u) (matrix_of K u) (length l) (matrix_of K l) (length a) (matrix_of K a) →
      AreReduced K left columns u p v z → AreReduced K left columns (cleared_rows K columns c p v l) q w y →
      IsMatrixOver K columns (cleared_rows K columns c q w v ++ w) →
      AreReduced K left columns a (p ++ q) (cleared_rows K columns c q w v ++ w) (z ++ y)
  join_are_reduced left columns c a u l p q v z w y small minus_one over_l rows first second over = record {
    over = over;
    count = omega (arith, rows.count, first.count, second.count, cleared_length K columns c p v l, length-append z y, stacked.count);
    pivot_count = omega (arith, length-append p q, first.pivot_count, second.pivot_count, stacked.count);
    pivots_left = All-append (λ pivot. pivot < left) p q first.pivots_left second.pivots_left;
    are_reduced = joined_are_reduced F (length v) (λ t. get_or p t 0) (matrix_of K v) (length w) (λ t. get_or q t 0) (matrix_of K w)
        (length joined) (λ t. get_or (p ++ q) t 0) (matrix_of K joined) first.are_reduced second.are_reduced zero_at stacked
        (λ t below. get_or_append_left p q 0 t (omega (arith, first.pivot_count)))
        (λ t below. ap (λ k. get_or (p ++ q) (k + t) 0) (sym first.pivot_count) ∙ get_or-append-add p q t 0);
    rest_zero = λ i j below. each_of_sum (λ i. j < left → matrix_of K (z ++ y) i j ≡ F.zero) (length z) (length y)
        (λ i inside ahead. ap (λ (row : List ℕ). vector_of K row j) (get_or_append_left z y [] i inside) ∙ first.rest_zero i j inside ahead)
        (λ i inside ahead. ap (λ (row : List ℕ). vector_of K row j) (get_or-append-add z y i []) ∙ second.rest_zero i j inside ahead)
        i (omega (arith, length-append z y));
    same = joined_same_span F (length u) (matrix_of K u) (length l) (matrix_of K l) (length a) (matrix_of K a)
        (length v) (λ t. get_or p t 0) (matrix_of K v) (length z) (matrix_of K z) (length (v ++ z)) (matrix_of K (v ++ z))
        (length w) (λ t. get_or q t 0) (matrix_of K w) (length y) (matrix_of K y) (length (w ++ y)) (matrix_of K (w ++ y))
        (length joined) (matrix_of K joined) (length (z ++ y)) (matrix_of K (z ++ y)) (length (joined ++ (z ++ y))) (matrix_of K (joined ++ (z ++ y)))
        rows (append_stacked v z) first.same (append_stacked w y) same_l stacked (append_stacked z y) (append_stacked joined (z ++ y));
  }
    where
      joined : List (List ℕ)
      joined = cleared_rows K columns c q w v ++ w

      stacked : AreStacked F (length v) (less_reduced K q w v) (length w) (matrix_of K w) (length joined) (matrix_of K joined)
      stacked = cleared_stacked columns c q w v small minus_one second.pivot_count second.over first.over

      same_l : SameSpan F (length l) (less_reduced K p v l) (length (w ++ y)) (matrix_of K (w ++ y))
      same_l = cleared_same columns c p v l (w ++ y) small minus_one first.pivot_count first.over over_l second.same

      -- the rows of the second reduction are 0 at the pivots of the first
      zero_at : (i t : ℕ) → i < length w → t < length v → matrix_of K w i (get_or p t 0) ≡ F.zero
      zero_at i t below inside =
          span_zero_at F (length l) (less_reduced K p v l) (matrix_of K w i) (get_or p t 0)
          (λ s s_below. less_at_pivot F (length v) (λ t. get_or p t 0) (matrix_of K v) (matrix_of K l s) t first.are_reduced inside)
          (in_l i below)
        where
          in_l : SpanWithin F (length w) (matrix_of K w) (length l) (less_reduced K p v l)
          in_l = within_trans F (length w) (matrix_of K w) (length (w ++ y)) (matrix_of K (w ++ y)) (length l) (less_reduced K p v l)
              (first_within F (length w) (matrix_of K w) (length y) (matrix_of K y) (length (w ++ y)) (matrix_of K (w ++ y)) (append_stacked w y))
              same_l.back
