-- Whether a certificate's header, basis, shapes and blocks are right.
use Rattle.std.proofs.Common.{◌≡◌, ℕ, zero, suc, ◌+◌, ◌<◌, ◌≤◌, ◌⊎◌, inl, inr, List, [], ◌∷◌, length, get_or, All, sym, ap, subst, ◌∙◌, arith}
use Rattle.std.proofs.Math.Decide.{ℕ_discrete, map_dec}
use Rattle.std.proofs.lemmas.List.Elements.{All-nil, All-cons, All-head, All-tail}
use Rattle.std.proofs.lemmas.Option.{slice_get-get_or, slice_get_within, get_or_from_slice_get}
use Rattle.axe_algebra.specs.Blocks.{block_start}
use Rattle.axe_algebra.specs.Lists.{entry}
use Rattle.axe_field.specs.Order.{Order, order_number}
use Rattle.axe_field.proofs.Orders.{order_number-injective}
use Rattle.axe_matrix.specs.Matrices.{MatrixValue, IsMatrix}
use Rattle.axe_reduction.specs.Solutions.{IsInvertibleMatrix}
use Rattle.axe_echelon.proofs.SomeMatrix.{inverse_or_none}
use Rattle.axe_spin.specs.Modules.{ModuleValue, generator_of}
use Rattle.axe_series.specs.Series.{sizes_of_places}
use Rattle.axe_report.proofs.Searching.{dec_both, dec_le}
use Rattle.axe_report.specs.declared.report.ReportHeader.{ReportHeader}
use Rattle.axe_check.specs.Certificates.{HasHeader, IsBasisOf, IsSquareOfSize, HasShape}
use Rattle.axe_check.specs.Steps.{HasZerosAt, HasBlockAt, HasBlocksAt, HasAllBlocks}

-- ---- numbers below a bound

-- where each number below a bound has one property or another, all have the first, or one has the other, and those
-- before it the first
pub first_other : (P Q : ℕ → Type 0) (n : ℕ) → ((k : ℕ) → k < n → P k ⊎ Q k) →
    ((k : ℕ) → k < n → P k) ⊎ ((k : ℕ) × (k < n) × ((i : ℕ) → i < k → P i) × Q k)
first_other P Q zero each = inl (λ k below. absurd (omega (arith, below)))
first_other P Q (suc n) each = by_last (first_other P Q n (λ k below. each k (omega (arith, below)))) (each n (omega arith))
  where
    by_last : ((k : ℕ) → k < n → P k) ⊎ ((k : ℕ) × (k < n) × ((i : ℕ) → i < k → P i) × Q k) → P n ⊎ Q n →
        ((k : ℕ) → k < suc n → P k) ⊎ ((k : ℕ) × (k < suc n) × ((i : ℕ) → i < k → P i) × Q k)
    by_last (inr (k, below, earlier, q)) _ = inr (k, omega (arith, below), earlier, q)
    by_last (inl all) (inr q) = inr (n, omega arith, all, q)
    by_last (inl all) (inl p) = inl (λ k below. by_place k below (ℕ_discrete k n))
      where
        by_place : (k : ℕ) → k < suc n → Dec (k ≡ n) → P k
        by_place k below (yes same) = subst P (sym same) p
        by_place k below (no other) = all k (omega (arith, below, other))

pub either : {P : Type 0} → Dec P → P ⊎ (¬ P)
either (yes p) = inl p
either (no none) = inr none

-- whether all numbers below a bound have a property
pub all_below : (P : ℕ → Type 0) → ((k : ℕ) → Dec (P k)) → (n : ℕ) → Dec ((k : ℕ) → k < n → P k)
all_below P each n = by_first (first_other P (λ k. ¬ (P k)) n (λ k below. either (each k)))
  where
    by_first : ((k : ℕ) → k < n → P k) ⊎ ((k : ℕ) × (k < n) × ((i : ℕ) → i < k → P i) × (¬ (P k))) → Dec ((k : ℕ) → k < n → P k)
    by_first (inl all) = yes all
    by_first (inr (k, below, earlier, none)) = no (λ all. none (all k below))

-- ---- the header, the basis and the shapes

pub same_order : (a b : Order) → Dec (a ≡ b)
same_order a b = map_dec (λ e. order_number-injective a b e) (λ e. ap order_number e) (ℕ_discrete (order_number a) (order_number b))

pub header_or_not : (header : ReportHeader) (m : ModuleValue) → Dec (HasHeader header m)
header_or_not header m =
    map_dec (λ s. record { field = s.0; dimension = s.1.0; count = s.1.1 }) (λ is. (is.field, (is.dimension, is.count)))
    (dec_both (same_order header.field m.order) (dec_both (ℕ_discrete header.dim m.dim) (ℕ_discrete header.gens (length m.generators))))

pub basis_or_not : (m : ModuleValue) (basis : MatrixValue) → IsMatrix basis → Dec (IsBasisOf m basis)
basis_or_not m basis formed = by_shape (dec_both (same_order basis.order m.order) (dec_both (ℕ_discrete (length basis.rows) m.dim) (ℕ_discrete basis.cols m.dim)))
  where
    by_inverse : (basis.order ≡ m.order) × ((length basis.rows ≡ m.dim) × (basis.cols ≡ m.dim)) → IsInvertibleMatrix basis ⊎ (¬ (IsInvertibleMatrix basis)) → Dec (IsBasisOf m basis)
    by_inverse (field, (rows, columns)) (inl invertible) = yes (record { field = field; rows = rows; columns = columns; invertible = invertible })
    by_inverse shape (inr none) = no (λ is. none is.invertible)

    by_shape : Dec ((basis.order ≡ m.order) × ((length basis.rows ≡ m.dim) × (basis.cols ≡ m.dim))) → Dec (IsBasisOf m basis)
    by_shape (no other) = no (λ is. other (is.field, (is.rows, is.columns)))
    by_shape (yes shape) = by_inverse shape (inverse_or_none basis formed (shape.1.0 ∙ sym shape.1.1))

square_or_not : (o : Order) (dim : ℕ) (x : MatrixValue) → Dec (IsSquareOfSize o dim x)
square_or_not o dim x =
    map_dec (λ s. record { field = s.0; rows = s.1.0; columns = s.1.1 }) (λ is. (is.field, (is.rows, is.columns)))
    (dec_both (same_order x.order o) (dec_both (ℕ_discrete (length x.rows) dim) (ℕ_discrete x.cols dim)))

squares_or_not : (o : Order) (dim : ℕ) (matrices : List MatrixValue) → Dec (All (IsSquareOfSize o dim) matrices)
squares_or_not o dim [] = yes (All-nil (IsSquareOfSize o dim))
squares_or_not o dim (x ∷ rest) =
    map_dec (λ s. All-cons (IsSquareOfSize o dim) x rest s.0 s.1) (λ all. (All-head (IsSquareOfSize o dim) x rest all, All-tail (IsSquareOfSize o dim) x rest all))
    (dec_both (square_or_not o dim x) (squares_or_not o dim rest))

pub shape_or_not : (m : ModuleValue) (dim : ℕ) (matrices : List MatrixValue) → Dec (HasShape m dim matrices)
shape_or_not m dim matrices =
    map_dec (λ s. record { count = s.0; squares = s.1 }) (λ is. (is.count, is.squares))
    (dec_both (ℕ_discrete (length matrices) (length m.generators)) (squares_or_not m.order dim matrices))

-- ---- the blocks

dec_follows : {P Q : Type 0} → Dec P → Dec Q → Dec (P → Q)
dec_follows (no none) q = yes (λ p. absurd (none p))
dec_follows (yes p) (yes q) = yes (λ _. q)
dec_follows (yes p) (no none) = no (λ f. none (f p))

zeros_or_not : (x : MatrixValue) (start size : ℕ) → Dec (HasZerosAt x start size)
zeros_or_not x start size =
    map_dec (λ all i j below from inside. all i below j inside from) (λ zeros i below j inside from. zeros i j below from inside)
    (all_below (λ i. (j : ℕ) → j < x.cols → start + size ≤ j → entry x.rows (start + i) j ≡ 0) (λ i.
    all_below (λ j. start + size ≤ j → entry x.rows (start + i) j ≡ 0) (λ j. dec_follows (dec_le (start + size) j) (ℕ_discrete (entry x.rows (start + i) j) 0)) x.cols) size)

block_or_not : (x : MatrixValue) (start : ℕ) (block : MatrixValue) → Dec (HasBlockAt x start block)
block_or_not x start block =
    map_dec (λ s. record { entries = λ i j below inside. s.0 i below j inside; zeros = s.1 }) (λ has. ((λ i below j inside. has.entries i j below inside), has.zeros))
    (dec_both
    (all_below (λ i. (j : ℕ) → j < length block.rows → entry x.rows (start + i) (start + j) ≡ entry block.rows i j) (λ i.
    all_below (λ j. entry x.rows (start + i) (start + j) ≡ entry block.rows i j) (λ j. ℕ_discrete (entry x.rows (start + i) (start + j)) (entry block.rows i j))
    (length block.rows)) (length block.rows)) (zeros_or_not x start (length block.rows)))

blocks_or_not : (m : ModuleValue) (start : ℕ) (factor : ModuleValue) → Dec (HasBlocksAt m start factor)
blocks_or_not m start factor =
    all_below (λ i. HasBlockAt (generator_of m i) start (generator_of factor i)) (λ i. block_or_not (generator_of m i) start (generator_of factor i)) (length m.generators)

pub all_blocks_or_not : (m : ModuleValue) (factors : List ModuleValue) (places : List ℕ) → All (λ number. number < length factors) places → Dec (HasAllBlocks m factors places)
all_blocks_or_not m factors places within = map_dec from to (all_below At (λ a. blocks_or_not m (start a) (factor a)) (length places))
  where
    start : ℕ → ℕ
    start a = block_start (sizes_of_places factors places) a

    factor : ℕ → ModuleValue
    factor a = get_or factors (get_or places a 0) m

    At : ℕ → Type 0
    At a = HasBlocksAt m (start a) (factor a)

    from : ((a : ℕ) → a < length places → At a) → HasAllBlocks m factors places
    from all a number f place there =
        subst (HasBlocksAt m (start a))
        (ap (λ k. get_or factors k m) (get_or_from_slice_get places a number 0 place) ∙ get_or_from_slice_get factors number f m there) (all a (slice_get_within places a number place))

    to : HasAllBlocks m factors places → (a : ℕ) → a < length places → At a
    to has a below =
        has a (get_or places a 0) (factor a) (slice_get-get_or places a 0 below) (slice_get-get_or factors (get_or places a 0) m (within a 0 below))
