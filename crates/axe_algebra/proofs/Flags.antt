-- Chains of invariant spaces are block lower triangular conjugates, with the section actions on the diagonal.
use Rattle.std.specs.Prelude.{◌≡◌, ℕ, zero, suc, ◌<◌, ◌≤◌, ◌+◌, ◌-◌, cond, ltb, List, [], ◌∷◌, length}
use Rattle.axe_algebra.specs.Field.{Field}
use Rattle.axe_algebra.specs.Vectors.{Vector, Matrix, HasLength, add_vectors, subtract, times}
use Rattle.axe_algebra.specs.Spans.{InSpan, IsInverse}
use Rattle.axe_algebra.specs.Modules.{Module, HasSquareMatrices, image, IsInvariant}
use Rattle.axe_algebra.specs.Actions.{IsSectionAction}
use Rattle.axe_algebra.specs.Blocks.{block_start, block_size, AreBlockSizes, IsBlockLowerTriangular, IsDiagonalBlock, conjugate}
use Rattle.axe_algebra.proofs.Sums.{sum_split}
use Rattle.axe_algebra.proofs.ProductLaws.{times-at, times_same, times_times, times_identity, times_length, times_longer}
use Rattle.axe_algebra.proofs.Exchange.{cut, cut_length, times_cut}
use Rattle.std.proofs.lemmas.Bool.{lt-ltb, le-ltb}
use mathlib.Core.Path.{refl, sym, ◌∙◌, ap, ap₂, fun_ext}
use native.Mathlib.Omega.{arith}
use native.Mathlib.Decide.{dec_lt}

-- a block begins where the one before it ends
pub block_start_next : (sizes : List ℕ) (b : ℕ) → b < length sizes → block_start sizes (suc b) ≡ block_start sizes b + block_size sizes b
block_start_next [] b below = absurd (omega arith)
block_start_next (size ∷ sizes) zero below = omega arith
block_start_next (size ∷ sizes) (suc b) below = let next = block_start_next sizes b (omega arith) in omega arith

-- later blocks begin later
pub block_start_mono : (sizes : List ℕ) (b c : ℕ) → b ≤ c → block_start sizes b ≤ block_start sizes c
block_start_mono sizes zero c within = omega arith
block_start_mono sizes (suc b) zero within = absurd (omega arith)
block_start_mono [] (suc b) (suc c) within = omega arith
block_start_mono (size ∷ sizes) (suc b) (suc c) within = let shorter = block_start_mono sizes b c (omega arith) in omega arith

-- the block of a row
pub block_of : (sizes : List ℕ) (c t : ℕ) → t < block_start sizes c →
    (b : ℕ) × (b < c) × (block_start sizes b ≤ t) × (t < block_start sizes (suc b))
block_of sizes zero t below = absurd (omega arith)
block_of sizes (suc c) t below = by_last (block_of sizes c t) (dec_lt t (block_start sizes c))
  where
    by_last : (t < block_start sizes c → (b : ℕ) × (b < c) × (block_start sizes b ≤ t) × (t < block_start sizes (suc b))) →
        Dec (t < block_start sizes c) → (b : ℕ) × (b < suc c) × (block_start sizes b ≤ t) × (t < block_start sizes (suc b))
    by_last earlier (yes before) = let (b, b-below, from, to) = earlier before in (b, omega arith, from, to)
    by_last earlier (no past) = (c, omega arith, omega arith, below)

module _ (F : Field) where
  -- a combination of c + d rows is one of the first c and one of the d after them
  pub times_split : (c d : ℕ) (x : Vector F) (a : Matrix F) →
      times F (c + d) x a ≡ add_vectors F (times F c x a) (times F d (λ s. x (c + s)) (λ s. a (c + s)))
  times_split c d x a = fun_ext λ j.
      times-at F (c + d) x a j ∙ sum_split F c d (λ t. F.mul (x t) (a t j))
      ∙ ap₂ F.add (sym (times-at F c x a j)) (sym (times-at F d (λ s. x (c + s)) (λ s. a (c + s)) j))

  pub add_then_subtract : (x y : Vector F) → subtract F (add_vectors F x y) y ≡ x
  add_then_subtract x y = fun_ext λ j.
      F.add_assoc (x j) (y j) (F.neg (y j)) ∙ ap (F.add (x j)) (F.add-neg (y j)) ∙ F.add-zero (x j)

  pub subtract_then_add : (x y : Vector F) → add_vectors F (subtract F x y) y ≡ x
  subtract_then_add x y = fun_ext λ j.
      F.add_assoc (x j) (F.neg (y j)) (y j) ∙ ap (F.add (x j)) (F.add_comm (F.neg (y j)) (y j) ∙ F.add-neg (y j)) ∙ F.add-zero (x j)

-- a basis of the module: the n rows of p, with the inverse q
module _ (F : Field) (M : Module F) (is : HasSquareMatrices F M) (p q : Matrix F) (inverts : IsInverse F M.dimension p q) where
  -- row t of the conjugate holds the coefficients of the image of row t of p
  conjugate_row : (i t : ℕ) → i < M.count →
      image F M (p t) i ≡ times F M.dimension (conjugate F M.dimension p (M.generator i) q t) p
  conjugate_row i t below =
      sym (times_identity F M.dimension (image F M (p t) i) (times_length F M.dimension M.dimension (p t) (M.generator i) (is.square i below).columns))
      ∙ ap (times F M.dimension (image F M (p t) i)) (sym inverts.left)
      ∙ sym (times_times F M.dimension M.dimension (image F M (p t) i) q p)

  -- and these alone
  conjugate_row_is : (i t : ℕ) (d : Vector F) → HasLength F M.dimension d → image F M (p t) i ≡ times F M.dimension d p →
      conjugate F M.dimension p (M.generator i) q t ≡ d
  conjugate_row_is i t d length combine =
      ap (λ (x : Vector F). times F M.dimension x q) combine ∙ times_times F M.dimension M.dimension d p q
      ∙ ap (times F M.dimension d) inverts.right ∙ times_identity F M.dimension d length

  -- an image in the span of the first c rows: the row is zero from c on
  zero_from_span : (i t c : ℕ) → c ≤ M.dimension → InSpan F c p (image F M (p t) i) → (j : ℕ) → c ≤ j →
      conjugate F M.dimension p (M.generator i) q t j ≡ F.zero
  zero_from_span i t c within in_span j past =
      ap (λ (x : Vector F). x j) (conjugate_row_is i t d (λ s later. cut_length F c in_span.coefficients s (omega arith)) combine)
      ∙ cut_length F c in_span.coefficients j past
    where
      d : Vector F
      d = cut F c in_span.coefficients

      combine : image F M (p t) i ≡ times F M.dimension d p
      combine =
          in_span.combines ∙ sym (times_cut F c in_span.coefficients p)
          ∙ sym (times_longer F c M.dimension d p within (λ s from below. cut_length F c in_span.coefficients s from))

  -- a row that is zero from c on: the image is in the span of the first c rows
  span_from_zero : (i t c : ℕ) → i < M.count → c ≤ M.dimension →
      ((j : ℕ) → c ≤ j → conjugate F M.dimension p (M.generator i) q t j ≡ F.zero) → InSpan F c p (image F M (p t) i)
  span_from_zero i t c below within zeros = record {
    coefficients = conjugate F M.dimension p (M.generator i) q t;
    combines = conjugate_row i t below ∙ times_longer F c M.dimension (conjugate F M.dimension p (M.generator i) q t) p within (λ s from inside. zeros s from);
  }

  module _ (sizes : List ℕ) (blocks : AreBlockSizes M.dimension sizes) where
    start_within : (b : ℕ) → b ≤ length sizes → block_start sizes b ≤ M.dimension
    start_within b within = let mono = block_start_mono sizes b (length sizes) within in omega (arith, blocks.total)

    -- a chain of invariant spaces gives block lower triangular conjugates
    pub flag_is_block_triangular : ((b : ℕ) → b ≤ length sizes → IsInvariant F M (block_start sizes b) p) →
        (i : ℕ) → i < M.count → IsBlockLowerTriangular F sizes (conjugate F M.dimension p (M.generator i) q)
    flag_is_block_triangular invariant i inside = record {
      right = λ b t j below from to past.
          zero_from_span i t (block_start sizes (suc b)) (start_within (suc b) below)
          ((invariant (suc b) below).images t i to inside) j past;
    }

    -- and block lower triangular conjugates come from such a chain
    pub block_triangular_is_flag : ((i : ℕ) → i < M.count → IsBlockLowerTriangular F sizes (conjugate F M.dimension p (M.generator i) q)) →
        (b : ℕ) → b ≤ length sizes → IsInvariant F M (block_start sizes b) p
    block_triangular_is_flag triangular b within = record { images = images }
      where
        images : (t i : ℕ) → t < block_start sizes b → i < M.count → InSpan F (block_start sizes b) p (image F M (p t) i)
        images t i below inside = by_block (block_of sizes b t below)
          where
            by_block : (c : ℕ) × (c < b) × (block_start sizes c ≤ t) × (t < block_start sizes (suc c)) →
                InSpan F (block_start sizes b) p (image F M (p t) i)
            by_block (c, before, from, to) =
                let mono = block_start_mono sizes (suc c) b before in
                span_from_zero i t (block_start sizes b) inside (start_within b within)
                (λ j past. (triangular i inside).right c t j (omega arith) from to (omega arith))

    -- the diagonal blocks are the actions on the sections
    pub diagonal_block_is_section : (b : ℕ) → b < length sizes → (D : Module F) →
        D.dimension ≡ block_size sizes b → D.count ≡ M.count →
        ((i : ℕ) → i < M.count → IsBlockLowerTriangular F sizes (conjugate F M.dimension p (M.generator i) q)) →
        ((i : ℕ) → i < M.count → IsDiagonalBlock F sizes b (conjugate F M.dimension p (M.generator i) q) (D.generator i)) →
        IsSectionAction F M p (block_start sizes b) (block_size sizes b) D
    diagonal_block_is_section b below D dimension count triangular diagonal = record {
      dimension = dimension;
      count = count;
      square = λ i inside. (diagonal i inside).shape;
      acts = acts;
    }
      where
        c : ℕ
        c = block_start sizes b

        d : ℕ
        d = block_size sizes b

        next : block_start sizes (suc b) ≡ c + d
        next = block_start_next sizes b below

        acts : (i t : ℕ) → i < M.count → t < d →
            InSpan F c p (subtract F (image F M (p (c + t)) i) (times F d (D.generator i t) (λ s. p (c + s))))
        acts i t inside under = record {
          coefficients = x;
          combines =
              ap (λ (y : Vector F). subtract F y (times F d (D.generator i t) (λ s. p (c + s))))
              (conjugate_row i (c + t) inside ∙ times_longer F (c + d) M.dimension x p within (λ j from past. zeros j from) ∙ times_split F c d x p)
              ∙ ap (λ (y : Vector F). subtract F (add_vectors F (times F c x p) (times F d (λ s. x (c + s)) (λ s. p (c + s)))) y)
              (times_same F d (D.generator i t) (λ s. x (c + s)) (λ s. p (c + s)) (λ s. p (c + s))
              (λ s small. (diagonal i inside).entries t s under small) (λ s small. refl))
              ∙ add_then_subtract F (times F c x p) (times F d (λ s. x (c + s)) (λ s. p (c + s)));
        }
          where
            x : Vector F
            x = conjugate F M.dimension p (M.generator i) q (c + t)

            within : c + d ≤ M.dimension
            within = let fits = start_within (suc b) below in omega (arith, next)

            zeros : (j : ℕ) → c + d ≤ j → x j ≡ F.zero
            zeros j from = (triangular i inside).right b (c + t) j below (omega arith) (omega (arith, next)) (omega (arith, next))

    -- and only they are
    pub section_is_diagonal_block : (b : ℕ) → b < length sizes → (D : Module F) →
        IsSectionAction F M p (block_start sizes b) (block_size sizes b) D →
        (i : ℕ) → i < M.count → IsDiagonalBlock F sizes b (conjugate F M.dimension p (M.generator i) q) (D.generator i)
    section_is_diagonal_block b below D section i inside = record {
      shape = section.square i inside;
      entries = entries;
    }
      where
        c : ℕ
        c = block_start sizes b

        d : ℕ
        d = block_size sizes b

        within : c + d ≤ M.dimension
        within = let fits = start_within (suc b) below in omega (arith, block_start_next sizes b below)

        entries : (t s : ℕ) → t < d → s < d → D.generator i t s ≡ conjugate F M.dimension p (M.generator i) q (c + t) (c + s)
        entries t s under small =
            sym (ap (λ (x : Vector F). x (c + s)) (conjugate_row_is i (c + t) y (λ j past. y_past j (omega (arith, within))) combine) ∙ y_second s)
          where
            e : InSpan F c p (subtract F (image F M (p (c + t)) i) (times F d (D.generator i t) (λ s. p (c + s))))
            e = section.acts i t inside under

            -- the coefficients of the earlier rows, and then those of the section
            y : Vector F
            y j = cond (ltb j c) (e.coefficients j) (D.generator i t (j - c))

            y_first : (j : ℕ) → j < c → y j ≡ e.coefficients j
            y_first j before = ap (λ b. cond b (e.coefficients j) (D.generator i t (j - c))) (lt-ltb j c before)

            y_second : (s : ℕ) → y (c + s) ≡ D.generator i t s
            y_second s =
                let back : (c + s) - c ≡ s = omega arith in
                ap (λ b. cond b (e.coefficients (c + s)) (D.generator i t ((c + s) - c))) (le-ltb (c + s) c (omega arith)) ∙ ap (D.generator i t) back

            y_past : (j : ℕ) → c + d ≤ j → y j ≡ F.zero
            y_past j past =
                ap (λ b. cond b (e.coefficients j) (D.generator i t (j - c))) (le-ltb j c (omega arith))
                ∙ (section.square i inside).columns t (j - c) (omega arith)

            combine : image F M (p (c + t)) i ≡ times F M.dimension y p
            combine =
                sym (subtract_then_add F (image F M (p (c + t)) i) (times F d (D.generator i t) (λ s. p (c + s))))
                ∙ ap₂ (add_vectors F)
                (e.combines ∙ times_same F c e.coefficients y p p (λ j before. sym (y_first j before)) (λ j before. refl))
                (times_same F d (D.generator i t) (λ s. y (c + s)) (λ s. p (c + s)) (λ s. p (c + s)) (λ s small. sym (y_second s)) (λ s small. refl))
                ∙ sym (times_split F c d y p)
                ∙ sym (times_longer F (c + d) M.dimension y p within (λ j from under. y_past j from))
