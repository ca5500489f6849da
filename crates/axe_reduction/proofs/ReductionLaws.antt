-- Two reductions joined: of the first rows, and of the other rows cleared by it.
use Rattle.std.specs.Prelude.{◌≡◌, ℕ, ◌+◌, ◌<◌, ◌≤◌, List, [], ◌++◌, length, get_or}
use Rattle.std.specs.List.{All}
use Rattle.axe_algebra.specs.NumberField.{NumberField}
use Rattle.axe_algebra.specs.Bridge.{element, vector_of, matrix_of}
use Rattle.axe_algebra.specs.Lists.{listed, IsVectorOver, IsMatrixOver}
use Rattle.axe_algebra.proofs.ElementNumbers.{element_one, element_neg}
use Rattle.axe_algebra.proofs.ListEntries.{listed_length, listed_at}
use Rattle.axe_field.specs.Order.{Order}
use Rattle.axe_field.specs.Arithmetic.{field_neg}
use Rattle.axe_field.specs.NumberFields.{number_field, gf}
use Rattle.axe_field.proofs.NumberFields.{number_field-neg}
use Rattle.axe_reduction.specs.Augmented.{AugmentedValue, IsAugmented, AreAlike, some_rows}
use Rattle.axe_reduction.specs.Forms.{AreReducedRows, AreReduced}
use Rattle.axe_reduction.specs.Reductions.{cleared, IsJoinOf, IsReductionOf}
use Rattle.axe_reduction.specs.declared.reduction.Reduction.{Reduction}
use Rattle.axe_reduction.proofs.JoinedLaws.{AreStacked}
use Rattle.axe_reduction.proofs.ClearLaws.{minus_one-below}
use Rattle.axe_reduction.proofs.ClearedLaws.{cleared_rows}
use Rattle.axe_reduction.proofs.JoinedRows.{join_are_reduced}
use mathlib.Core.Path.{sym, ◌∙◌, ap, subst}
use native.Mathlib.Omega.{arith}

-- ---- reductions as lists of rows

over_same : (o p : Order) (m n : ℕ) (rows : List (List ℕ)) → p ≡ o → n ≡ m → IsMatrixOver (number_field p) n rows →
    IsMatrixOver (number_field o) m rows
over_same o p m n rows field columns over =
    subst (λ k. IsMatrixOver (number_field o) k rows) columns (subst (λ q. IsMatrixOver (number_field q) n rows) field over)

reduced_same : (o p : Order) (k n : ℕ) (rows : List (List ℕ)) (pivots : ℕ → ℕ) → p ≡ o → n ≡ k →
    AreReducedRows (gf p) n (matrix_of (number_field p) rows) pivots → AreReducedRows (gf o) k (matrix_of (number_field o) rows) pivots
reduced_same o p k n rows pivots field count reduced =
    subst (λ l. AreReducedRows (gf o) l (matrix_of (number_field o) rows) pivots) count
    (subst (λ q. AreReducedRows (gf q) n (matrix_of (number_field q) rows) pivots) field reduced)

zero_same : (o p : Order) (k n : ℕ) (rows : List (List ℕ)) → p ≡ o → n ≡ k →
    ((i j : ℕ) → i < length rows → j < n → matrix_of (number_field p) rows i j ≡ (gf p).zero) →
    (i j : ℕ) → i < length rows → j < k → matrix_of (number_field o) rows i j ≡ (gf o).zero
zero_same o p k n rows field left zero i j below ahead =
    subst (λ q. matrix_of (number_field q) rows i j ≡ (gf q).zero) field (zero i j below (omega (arith, left)))

rows_of_reduction : (a : AugmentedValue) (r : Reduction) → IsReductionOf a r →
    AreReduced (number_field a.order) a.left a.cols a.rows r.pivots.items r.reduced.rows r.rest.rows
rows_of_reduction a r h = record {
  over = over_same a.order r.reduced.order a.cols r.reduced.cols r.reduced.rows h.reduced_alike.field h.reduced_alike.columns
      h.reduced_well_formed.over;
  count = h.count;
  pivot_count = h.are_reduced.count;
  pivots_left = subst (λ n. All (λ pivot. pivot < n) r.pivots.items) h.reduced_alike.left h.are_reduced.left;
  are_reduced = reduced_same a.order r.reduced.order (length r.reduced.rows) (length r.pivots.items) r.reduced.rows
      (λ t. get_or r.pivots.items t 0) h.reduced_alike.field h.are_reduced.count h.are_reduced.reduced;
  rest_zero = zero_same a.order r.rest.order a.left r.rest.left r.rest.rows h.rest_alike.field h.rest_alike.left h.rest_zero.zero;
  same = h.same;
}

pub reduction_of_rows : (a : AugmentedValue) (r : Reduction) → AreAlike a r.reduced → AreAlike a r.rest → IsAugmented r.reduced →
    IsAugmented r.rest → AreReduced (number_field a.order) a.left a.cols a.rows r.pivots.items r.reduced.rows r.rest.rows →
    IsReductionOf a r
reduction_of_rows a r reduced_alike rest_alike reduced_well_formed rest_well_formed h = record {
  reduced_alike = reduced_alike;
  rest_alike = rest_alike;
  reduced_well_formed = reduced_well_formed;
  rest_well_formed = rest_well_formed;
  count = h.count;
  are_reduced = record {
    count = h.pivot_count;
    left = subst (λ n. All (λ pivot. pivot < n) r.pivots.items) (sym reduced_alike.left) h.pivots_left;
    reduced = reduced_same r.reduced.order a.order (length r.pivots.items) (length r.reduced.rows) r.reduced.rows
        (λ t. get_or r.pivots.items t 0) (sym reduced_alike.field) (sym h.pivot_count) h.are_reduced;
  };
  rest_zero = record {
    zero = zero_same r.rest.order a.order r.rest.left a.left r.rest.rows (sym rest_alike.field) (sym rest_alike.left) h.rest_zero;
  };
  same = h.same;
}

-- ---- some of the rows

some_over : (a : AugmentedValue) (start count : ℕ) → IsAugmented a → start + count ≤ length a.rows →
    IsMatrixOver (number_field a.order) a.cols (some_rows a start count).rows
some_over a start count well_formed within i d below =
    let f : ℕ → List ℕ = λ i. get_or a.rows (start + i) [] in
    let small : i < count = omega (arith, listed_length count f) in
    subst (IsVectorOver (number_field a.order) a.cols) (sym (listed_at count f i d small))
    (well_formed.over (start + i) [] (omega arith))

halves_stacked : (a : AugmentedValue) (half others : ℕ) → half + others ≡ length a.rows →
    AreStacked (gf a.order) (length (some_rows a 0 half).rows) (matrix_of (number_field a.order) (some_rows a 0 half).rows)
    (length (some_rows a half others).rows) (matrix_of (number_field a.order) (some_rows a half others).rows)
    (length a.rows) (matrix_of (number_field a.order) a.rows)
halves_stacked a half others count = record {
  count = omega (arith, first_length, second_length);
  first = λ t below.
      let same : t ≡ 0 + t = omega arith in
      ap (matrix_of K a.rows) same ∙ ap (vector_of K) (sym (listed_at half f t [] (omega (arith, first_length))));
  second = λ t below.
      ap (λ k. matrix_of K a.rows (k + t)) first_length ∙ ap (vector_of K) (sym (listed_at others g t [] (omega (arith, second_length))));
}
  where
    K : NumberField
    K = number_field a.order

    f : ℕ → List ℕ
    f = λ i. get_or a.rows (0 + i) []

    g : ℕ → List ℕ
    g = λ i. get_or a.rows (half + i) []

    first_length : length (listed half f) ≡ half
    first_length = listed_length half f

    second_length : length (listed others g) ≡ others
    second_length = listed_length others g

-- ---- the number of -1

pub minus_one-is : (o : Order) → element (number_field o) (field_neg o 1) ≡ (gf o).neg (gf o).one
minus_one-is o =
    ap (element (number_field o)) (sym (number_field-neg o 1)) ∙ element_neg (number_field o) 1 (number_field o).one-below
    ∙ ap (gf o).neg (element_one (number_field o))

-- ---- joins

-- the join of the reduction of the first rows, and of that of the others, cleared by it, reduces all rows
pub join_reduces : (a : AugmentedValue) (half others : ℕ) (first further r : Reduction) →
    IsAugmented a → half + others ≡ length a.rows → IsReductionOf (some_rows a 0 half) first →
    IsReductionOf (cleared first.pivots.items first.reduced (some_rows a half others)) further →
    IsJoinOf first further r → IsReductionOf a r
join_reduces a half others first further r well_formed count of_first of_further join =
    reduction_of_rows a r reduced_alike rest_alike join.reduced_well_formed join.rest_well_formed
    (subst (λ pivots. AreReduced K a.left a.cols a.rows pivots r.reduced.rows r.rest.rows) (sym join.pivots)
    (subst (λ rows. AreReduced K a.left a.cols a.rows (p ++ q) rows r.rest.rows) (sym reduced_rows)
    (subst (λ rows. AreReduced K a.left a.cols a.rows (p ++ q) (cleared_rows K a.cols c q w v ++ w) rows) (sym rest_rows)
    (join_are_reduced K a.left a.cols c a.rows (some_rows a 0 half).rows (some_rows a half others).rows p q v first.rest.rows w further.rest.rows
    (minus_one-below a.order) (minus_one-is a.order) (some_over a half others well_formed (omega arith))
    (halves_stacked a half others count) (rows_of_reduction (some_rows a 0 half) first of_first)
    (rows_of_reduction (cleared p first.reduced (some_rows a half others)) further of_further) over))))
  where
    K : NumberField
    K = number_field a.order

    c : ℕ
    c = field_neg a.order 1

    p : List ℕ
    p = first.pivots.items

    q : List ℕ
    q = further.pivots.items

    v : List (List ℕ)
    v = first.reduced.rows

    w : List (List ℕ)
    w = further.reduced.rows

    reduced_alike : AreAlike a r.reduced
    reduced_alike = record {
      field = ap (λ (x : AugmentedValue). x.order) join.reduced ∙ of_first.reduced_alike.field;
      left = ap (λ (x : AugmentedValue). x.left) join.reduced ∙ of_first.reduced_alike.left;
      columns = ap (λ (x : AugmentedValue). x.cols) join.reduced ∙ of_first.reduced_alike.columns;
    }

    rest_alike : AreAlike a r.rest
    rest_alike = record {
      field = ap (λ (x : AugmentedValue). x.order) join.rest ∙ of_first.rest_alike.field;
      left = ap (λ (x : AugmentedValue). x.left) join.rest ∙ of_first.rest_alike.left;
      columns = ap (λ (x : AugmentedValue). x.cols) join.rest ∙ of_first.rest_alike.columns;
    }

    reduced_rows : r.reduced.rows ≡ cleared_rows K a.cols c q w v ++ w
    reduced_rows =
        ap (λ (x : AugmentedValue). x.rows) join.reduced
        ∙ ap (λ (o : Order). cleared_rows (number_field o) first.reduced.cols (field_neg o 1) q w v ++ w) of_first.reduced_alike.field
        ∙ ap (λ (n : ℕ). cleared_rows K n c q w v ++ w) of_first.reduced_alike.columns

    rest_rows : r.rest.rows ≡ first.rest.rows ++ further.rest.rows
    rest_rows = ap (λ (x : AugmentedValue). x.rows) join.rest

    over : IsMatrixOver K a.cols (cleared_rows K a.cols c q w v ++ w)
    over = subst (IsMatrixOver K a.cols) reduced_rows
        (over_same a.order r.reduced.order a.cols r.reduced.cols r.reduced.rows reduced_alike.field reduced_alike.columns
        join.reduced_well_formed.over)
