-- Transposes of matrices over fields whose prime is 2 or 3, by the coefficients of each power of x, block by block.
use Rattle.std.proofs.Common.{◌≡◌, ◌≢◌, ◌⊎◌, ℕ, ◌+◌, ◌-◌, ◌*◌, ◌/◌, ◌%◌, ◌<◌, ◌≤◌, List, [], ◌∷◌, length, get_or, set, replicate, sym, ap, subst, ◌∙◌, arith, inl, inr, get_or-set_other, get_or-set_same}
use Rattle.std.specs.Int.{bit_at}
use Rattle.std.proofs.lemmas.Bool.{cases_eq}
use Rattle.std.proofs.lemmas.List.{ext_get_or, get_or_past, length-map, length-set, length-replicate}
use Rattle.std.proofs.lemmas.Nat.Bits.{bit_at-zero}
use native.Mathlib.Decide.{dec_lt}
use Rattle.axe_algebra.specs.Lists.{entry, listed}
use Rattle.axe_algebra.specs.ListArithmetic.{transpose}
use Rattle.axe_algebra.proofs.ListEntries.{listed_length, listed_at, table_length, table_entry}
use Rattle.axe_field.specs.Order.{Order, prime_of, degree_of, IsElement}
use Rattle.axe_field.specs.Planes.{coefficient}
use Rattle.axe_layer.proofs.BitLaws.{get_or-zeros}
use Rattle.axe_layer.specs.Words.{digit_of_words, digits_with_word}
use Rattle.axe_layer.proofs.WordWrites.{get_or-digits_with_word_same, get_or-digits_with_word_other}
use Rattle.axe_row.specs.Planes.{coefficients_at}
use Rattle.axe_matrix.specs.Matrices.{MatrixValue, IsMatrix, row_of, zero_matrix, transposed_matrix}
use Rattle.axe_matrix.specs.Transposes.{coefficients_of, HasEntries, HasCoefficients, HasTransposed, HasRowWords, IsShapedAsTranspose, AreZerosWithin, digit_of_block}
use Rattle.axe_matrix.proofs.CoefficientWrites.{length-coefficients, coefficients-row, coefficients-at, coefficients-below, coefficients_all, coefficient-zero, same_element, coefficients_written, coefficients_kept, HasCoefficients-count, HasCoefficients-same, HasCoefficients-as, HasCoefficients-columns, HasCoefficients-rows}
use Rattle.axe_matrix.proofs.EntryWrites.{HasEntries-row}
use Rattle.axe_matrix.proofs.MatrixLaws.{same_matrix, length-row_of, entry-IsElement}
use Rattle.axe_matrix.proofs.VectorLaws.{is_listed}

-- ---- the words of a block

-- of 64 words of each layer the first have the digits at an index of the rows of a matrix from one on and before another
pub record HaveWordsBelow (m : MatrixValue) (from at until : ℕ) (ones twos : List ℕ) : Type 0 where
  pub long_ones : length ones ≡ 64
  pub long_twos : length twos ≡ 64
  pub done : (i j : ℕ) → i < 64 → j < 64 → from + i < until → digit_of_block ones twos i j ≡ entry m.rows (from + i) (at * 64 + j)
  pub left_ones : (i : ℕ) → i < 64 → until ≤ from + i → get_or ones i 0 ≡ 0
  pub left_twos : (i : ℕ) → i < 64 → until ≤ from + i → get_or twos i 0 ≡ 0

-- no word yet
pub HaveWordsBelow-none : (m : MatrixValue) (from at : ℕ) → HaveWordsBelow m from at from (replicate 64 0) (replicate 64 0)
HaveWordsBelow-none m from at = record {
  long_ones = length-replicate {A = ℕ} 64 0;
  long_twos = length-replicate {A = ℕ} 64 0;
  done = λ i j _ _ below. absurd (omega (arith, below));
  left_ones = λ i _ _. get_or-zeros 64 i;
  left_twos = λ i _ _. get_or-zeros 64 i;
}

-- one word of each more
pub HaveWordsBelow-more : (m : MatrixValue) (from at n one two : ℕ) (ones twos : List ℕ) → HaveWordsBelow m from at n ones twos → from ≤ n → n < from + 64 →
    ((j : ℕ) → j < 64 → digit_of_words (one ∷ two ∷ []) j ≡ entry m.rows n (at * 64 + j)) →
    HaveWordsBelow m from at (n + 1) (set ones (n - from) one) (set twos (n - from) two)
HaveWordsBelow-more m from at n one two ones twos h begun within is = record {
  long_ones = length-set ones (n - from) one ∙ h.long_ones;
  long_twos = length-set twos (n - from) two ∙ h.long_twos;
  done = λ i j low small below. elim (cases_eq i (n - from)) [
    | inl same ↦
        let here : n ≡ from + i = omega (arith, same) in
        ap (λ k. digit_of_block (set ones (n - from) one) (set twos (n - from) two) k j) same
        ∙ ap (λ w. digit_of_words (w ∷ get_or (set twos (n - from) two) (n - from) 0 ∷ []) j) (get_or-set_same ones (n - from) one 0 (omega (arith, h.long_ones)))
        ∙ ap (λ w. digit_of_words (one ∷ w ∷ []) j) (get_or-set_same twos (n - from) two 0 (omega (arith, h.long_twos)))
        ∙ is j small ∙ ap (λ k. entry m.rows k (at * 64 + j)) here
    | inr other ↦
        ap (λ w. digit_of_words (w ∷ get_or (set twos (n - from) two) i 0 ∷ []) j) (get_or-set_other ones (n - from) i one 0 other)
        ∙ ap (λ w. digit_of_words (get_or ones i 0 ∷ w ∷ []) j) (get_or-set_other twos (n - from) i two 0 other)
        ∙ h.done i j low small (omega (arith, below, other))
  ];
  left_ones = λ i low past.
      let other : i ≢ n - from = omega (arith, past) in
      get_or-set_other ones (n - from) i one 0 other ∙ h.left_ones i low (omega (arith, past));
  left_twos = λ i low past.
      let other : i ≢ n - from = omega (arith, past) in
      get_or-set_other twos (n - from) i two 0 other ∙ h.left_twos i low (omega (arith, past));
}

-- the digit of two words that are 0
no_digit : (one two j : ℕ) → one ≡ 0 → two ≡ 0 → digit_of_words (one ∷ two ∷ []) j ≡ 0
no_digit one two j none neither =
    let first = ap (λ w. bit_at w j) none ∙ bit_at-zero j in
    let second = ap (λ w. bit_at w j) neither ∙ bit_at-zero j in
    omega (arith, first, second)

-- all words
pub words_all : (m : MatrixValue) (from at n i j : ℕ) (ones twos : List ℕ) → HaveWordsBelow m from at n ones twos → i < 64 → j < 64 →
    (n ≡ from + 64) ⊎ (length m.rows ≤ n) → digit_of_block ones twos i j ≡ entry m.rows (from + i) (at * 64 + j)
words_all m from at n i j ones twos h low small ended = elim (dec_lt (from + i) n) [
  | yes inside ↦ h.done i j low small inside
  | no outside ↦
      let past : length m.rows ≤ from + i = elim ended [
        | inl full ↦ absurd (omega (arith, full))
        | inr all ↦ omega (arith, all)
      ] in
      no_digit (get_or ones i 0) (get_or twos i 0) j (h.left_ones i low (omega (arith, outside))) (h.left_twos i low (omega (arith, outside)))
      ∙ sym (ap (λ (r : List ℕ). get_or r (at * 64 + j) 0) (get_or_past m.rows (from + i) [] past))
]

-- ---- two words of a row are written

-- the digits that words are written as, into the columns of the words at an index of the rows from one on
abbrev pub digits_from : ℕ → List ℕ → List ℕ → ℕ → ℕ → ℕ
digits_from top ones twos i j = digit_of_block ones twos (i - top) (j % 64)

pub HasCoefficients-words : (k top at n : ℕ) (words ones twos : List ℕ) (a m next : MatrixValue) →
    HasCoefficients k (digits_from top ones twos) top n (at * 64) (at * 64 + 64) a m → IsMatrix m → k < degree_of m.order → top ≤ n → n < length a.rows →
    words ≡ get_or ones (n - top) 0 ∷ get_or twos (n - top) 0 ∷ [] → HasRowWords k n at words m next →
    HasCoefficients k (digits_from top ones twos) top (n + 1) (at * 64) (at * 64 + 64) a next
HasCoefficients-words k top at n words ones twos a m next h well_formed power begun below words_are has = record {
  power = HasEntries-row (digits_from top ones twos) top n (at * 64) (at * 64 + 64) (coefficients_of k a) (coefficients_of k m) (coefficients_of k next)
      (digits_with_word old at (digit_of_words words)) h.power begun (omega (arith, below, length-coefficients k a)) (coefficients_written k n at words m next has)
      (λ j column l r.
      let here : j / 64 ≡ at = omega (arith, l, r) in
      get_or-digits_with_word_same old at (digit_of_words words) j 0 (inside j column) here ∙ ap (λ (w : List ℕ). digit_of_words w (j % 64)) words_are)
      (λ j column out.
      get_or-digits_with_word_other old at (digit_of_words words) j 0 (inside j column)
      (λ here. out (omega (arith, here)) (omega (arith, here)))
      ∙ ap (λ (r : List ℕ). get_or r j 0) (sym (coefficients-row k n m in_rows)));
  others = λ x other. coefficients_kept k n at words m next has x other ∙ h.others x other;
}
  where
    old : List ℕ
    old = coefficients_at m.order k (row_of m n).entries

    in_rows : n < length m.rows
    in_rows = omega (arith, below, HasCoefficients-count k (digits_from top ones twos) top n (at * 64) (at * 64 + 64) a m h)

    inside : (j : ℕ) → j < a.cols → j < length old
    inside j column =
        let long = ap length (coefficients_all m.order k (row_of m n).entries power) ∙ length-map (row_of m n).entries (λ a. coefficient m.order a k)
        ∙ length-row_of m n well_formed in_rows in
        omega (arith, column, h.power.cols, long)

-- ---- a block

-- the words of a block, and the words of its transpose
module _ (k : ℕ) (m self : MatrixValue) (row_block column_block : ℕ) (ones twos : List ℕ)
    (words_are : (i j : ℕ) → i < 64 → j < 64 → digit_of_block ones twos i j ≡ entry (coefficients_of k m).rows (column_block * 64 + i) (row_block * 64 + j)) where
  -- the digit of a place in the block is the coefficient of the transpose
  digit_is : (i j : ℕ) → row_block * 64 ≤ i → i < row_block * 64 + 64 → column_block * 64 ≤ j → j < column_block * 64 + 64 →
      digit_of_block ones twos (j % 64) (i - row_block * 64) ≡ entry (coefficients_of k m).rows j i
  digit_is i j t b l r =
      let row : column_block * 64 + j % 64 ≡ j = omega (arith, l, r) in
      let column : row_block * 64 + (i - row_block * 64) ≡ i = omega (arith, t) in
      words_are (j % 64) (i - row_block * 64) (omega arith) (omega (arith, b, t))
      ∙ ap (λ e. entry (coefficients_of k m).rows e (row_block * 64 + (i - row_block * 64))) row ∙ ap (entry (coefficients_of k m).rows j) column

  -- where all words are 0, zeros are the transpose
  pub HasTransposed-zeros : ((e : ℕ) → get_or ones e 0 ≡ 0) → ((e : ℕ) → get_or twos e 0 ≡ 0) →
      AreZerosWithin (row_block * 64) (row_block * 64 + 64) (column_block * 64) (column_block * 64 + 64) (coefficients_of k self) →
      HasTransposed k m (row_block * 64) (row_block * 64 + 64) (column_block * 64) (column_block * 64 + 64) self self
  HasTransposed-zeros none neither zeros =
      HasCoefficients-same k (λ i j. entry (coefficients_of k m).rows j i) _ _ _ _ self (λ i j row column t b l r.
      zeros i j row column t b l r
      ∙ sym (no_digit (get_or ones (j % 64) 0) (get_or twos (j % 64) 0) (i - row_block * 64) (none (j % 64)) (neither (j % 64)))
      ∙ digit_is i j t b l r)

  -- else the words of the transposed layers are
  module _ (turned_ones turned_twos : List ℕ)
      (ones_are : (i j : ℕ) → i < 64 → j < 64 → bit_at (get_or turned_ones i 0) j ≡ bit_at (get_or ones j 0) i)
      (twos_are : (i j : ℕ) → i < 64 → j < 64 → bit_at (get_or turned_twos i 0) j ≡ bit_at (get_or twos j 0) i) where
    turned : (i j : ℕ) → i < 64 → j < 64 → digit_of_block turned_ones turned_twos i j ≡ digit_of_block ones twos j i
    turned i j low small = omega (arith, ones_are i j low small, twos_are i j low small)

    pub HasTransposed-words : (next : MatrixValue) →
        HasCoefficients k (digits_from (row_block * 64) turned_ones turned_twos) (row_block * 64) (row_block * 64 + 64) (column_block * 64) (column_block * 64 + 64) self next →
        HasTransposed k m (row_block * 64) (row_block * 64 + 64) (column_block * 64) (column_block * 64 + 64) self next
    HasTransposed-words next h =
        HasCoefficients-as k (digits_from (row_block * 64) turned_ones turned_twos) (λ i j. entry (coefficients_of k m).rows j i) _ _ _ _ self next h
        (λ i j row column t b l r.
        turned (i - row_block * 64) (j % 64) (omega (arith, t, b)) (omega arith) ∙ digit_is i j t b l r)

    -- their digits are coefficients
    pub turned-below : (o : Order) (i j : ℕ) → IsMatrix m → k < degree_of m.order → o ≡ m.order → i < 64 → j < 64 →
        digit_of_block turned_ones turned_twos i j < prime_of o
    turned-below o i j well_formed power same low small =
        subst (λ x. x < prime_of o) (sym (turned i j low small ∙ words_are j i small low))
        (subst (λ p. entry (coefficients_of k m).rows (column_block * 64 + j) (row_block * 64 + i) < prime_of p) (sym same)
        (coefficients-below k (column_block * 64 + j) (row_block * 64 + i) m well_formed power))

-- one block more in a block of rows
pub HasTransposed-column_block : (k : ℕ) (m a x next : MatrixValue) (top bottom n : ℕ) → HasTransposed k m top bottom 0 (n * 64) a x →
    HasTransposed k m top bottom (n * 64) (n * 64 + 64) x next → HasTransposed k m top bottom 0 ((n + 1) * 64) a next
HasTransposed-column_block k m a x next top bottom n h g =
    let end : n * 64 + 64 ≡ (n + 1) * 64 = omega arith in
    subst (λ right. HasTransposed k m top bottom 0 right a next) end
    (HasCoefficients-columns k (λ i j. entry (coefficients_of k m).rows j i) top bottom 0 (n * 64) (n * 64 + 64) a x next h g (omega arith) (omega arith))

-- one block of rows more
pub HasTransposed-row_block : (k : ℕ) (m a x next : MatrixValue) (n : ℕ) → HasTransposed k m 0 (n * 64) 0 a.cols a x →
    HasTransposed k m (n * 64) (n * 64 + 64) 0 x.cols x next → HasTransposed k m 0 ((n + 1) * 64) 0 a.cols a next
HasTransposed-row_block k m a x next n h g =
    let end : n * 64 + 64 ≡ (n + 1) * 64 = omega arith in
    let whole = subst (λ right. HasTransposed k m (n * 64) (n * 64 + 64) 0 right x next) h.power.cols g in
    subst (λ bottom. HasTransposed k m 0 bottom 0 a.cols a next) end
    (HasCoefficients-rows k (λ i j. entry (coefficients_of k m).rows j i) 0 (n * 64) (n * 64 + 64) 0 a.cols a x next h whole (omega arith) (omega arith))

-- ---- zeros that are not written over yet

-- the matrix of zeros of the transpose's shape
pub IsShapedAsTranspose-zeros : (m self : MatrixValue) → self ≡ zero_matrix m.order m.cols (length m.rows) → IsShapedAsTranspose m self
IsShapedAsTranspose-zeros m self e = record {
  order = ap (λ (x : MatrixValue). x.order) e;
  cols = ap (λ (x : MatrixValue). x.cols) e;
  count = ap (λ (x : MatrixValue). length x.rows) e ∙ table_length m.cols (length m.rows) (λ i j. 0);
}

-- coefficients don't change the shape
pub IsShapedAsTranspose-after : (k : ℕ) (f : ℕ → ℕ → ℕ) (top bottom left right : ℕ) (m a x : MatrixValue) → HasCoefficients k f top bottom left right a x →
    IsShapedAsTranspose m a → IsShapedAsTranspose m x
IsShapedAsTranspose-after k f top bottom left right m a x h shape = record {
  order = h.power.order ∙ shape.order;
  cols = h.power.cols ∙ shape.cols;
  count = HasCoefficients-count k f top bottom left right a x h ∙ shape.count;
}

-- the columns after those that are written
pub zeros_after_columns : (f : ℕ → ℕ → ℕ) (top bottom middle right : ℕ) (a x : MatrixValue) → HasEntries f top bottom 0 middle a x →
    AreZerosWithin top bottom 0 a.cols a → AreZerosWithin top bottom middle right x
zeros_after_columns f top bottom middle right a x h zeros i j row column t b l r =
    let in_rows : i < length a.rows = omega (arith, row, h.count) in
    let in_columns : j < a.cols = omega (arith, column, h.cols) in
    h.kept i j in_rows in_columns (λ _ _ _ before. omega (arith, l, before)) ∙ zeros i j in_rows in_columns t b (omega arith) in_columns

-- the rows after those that are written
pub zeros_after_rows : (f : ℕ → ℕ → ℕ) (rows middle bottom left right : ℕ) (a x : MatrixValue) → HasEntries f 0 middle 0 a.cols a x → rows ≡ length a.rows →
    AreZerosWithin 0 rows 0 a.cols a → AreZerosWithin middle bottom left right x
zeros_after_rows f rows middle bottom left right a x h all zeros i j row column t b l r =
    let in_rows : i < length a.rows = omega (arith, row, h.count) in
    let in_columns : j < a.cols = omega (arith, column, h.cols) in
    h.kept i j in_rows in_columns (λ _ before _ _. omega (arith, t, before))
    ∙ zeros i j in_rows in_columns (omega arith) (omega (arith, in_rows, all)) (omega arith) in_columns

-- ---- the powers of x one after another

-- a matrix of the shape of the transpose of m, whose coefficients of x^k are those of the transpose for k below n, and
-- zeros from n on
pub record IsTransposedBelow (n : ℕ) (m self : MatrixValue) : Type 0 where
  pub shape : IsShapedAsTranspose m self
  pub well_formed : IsMatrix self
  pub done : (k : ℕ) → k < n → k < degree_of m.order → (i j : ℕ) → i < m.cols → j < length m.rows →
      entry (coefficients_of k self).rows i j ≡ entry (coefficients_of k m).rows j i
  pub zeros : (k : ℕ) → n ≤ k → k < degree_of m.order → (i j : ℕ) → i < m.cols → j < length m.rows → entry (coefficients_of k self).rows i j ≡ 0

pub IsTransposedBelow-none : (m self : MatrixValue) → self ≡ zero_matrix m.order m.cols (length m.rows) → IsMatrix self → IsTransposedBelow 0 m self
IsTransposedBelow-none m self e well_formed = record {
  shape = shape;
  well_formed = well_formed;
  done = λ k below. absurd (omega (arith, below));
  zeros = λ k _ power i j row column.
      coefficients-at k i j self well_formed (subst (λ o. k < degree_of o) (sym shape.order) power) (omega (arith, row, shape.count)) (omega (arith, column, shape.cols))
      ∙ ap (λ a. coefficient self.order a k) (ap (λ (x : MatrixValue). entry x.rows i j) e ∙ table_entry m.cols (length m.rows) (λ i j. 0) i j row column)
      ∙ coefficient-zero self.order k (subst (λ o. k < degree_of o) (sym shape.order) power);
}
  where
    shape : IsShapedAsTranspose m self
    shape = IsShapedAsTranspose-zeros m self e

-- the next power holds zeros
pub IsTransposedBelow-zeros : (n rows : ℕ) (m self : MatrixValue) → IsTransposedBelow n m self → n < degree_of m.order →
    AreZerosWithin 0 rows 0 self.cols (coefficients_of n self)
IsTransposedBelow-zeros n rows m self h power i j row column _ _ _ _ =
    h.zeros n (omega arith) power i j (omega (arith, row, length-coefficients n self, h.shape.count)) (omega (arith, column, h.shape.cols))

-- one power more
pub IsTransposedBelow-more : (n : ℕ) (m self next : MatrixValue) → IsTransposedBelow n m self → n < degree_of m.order →
    HasTransposed n m 0 (length self.rows) 0 self.cols self next → IsMatrix next → IsTransposedBelow (n + 1) m next
IsTransposedBelow-more n m self next h power has well_formed = record {
  shape = IsShapedAsTranspose-after n _ _ _ _ _ m self next has h.shape;
  well_formed = well_formed;
  done = λ k lower below i j row column. elim (cases_eq k n) [
    | inl same ↦
        let in_rows : i < length self.rows = omega (arith, row, h.shape.count) in
        let in_columns : j < self.cols = omega (arith, column, h.shape.cols) in
        subst (λ e. entry (coefficients_of e next).rows i j ≡ entry (coefficients_of e m).rows j i) (sym same)
        (has.power.written i j (omega (arith, in_rows, length-coefficients n self)) in_columns (omega arith) in_rows (omega arith) in_columns)
    | inr other ↦ ap (λ (x : MatrixValue). entry x.rows i j) (has.others k other) ∙ h.done k (omega (arith, lower, other)) below i j row column
  ];
  zeros = λ k past below i j row column.
      let other : k ≢ n = omega (arith, past) in
      ap (λ (x : MatrixValue). entry x.rows i j) (has.others k other) ∙ h.zeros k (omega (arith, past)) below i j row column;
}

-- all powers
pub IsTransposedBelow-all : (n : ℕ) (m self : MatrixValue) → IsTransposedBelow n m self → IsMatrix m → degree_of m.order ≤ n → self ≡ transposed_matrix m
unfolding transpose
IsTransposedBelow-all n m self h well_formed all =
    let row : ℕ → List ℕ = λ i. listed (length m.rows) (λ j. entry m.rows j i) in
    same_matrix self (transposed_matrix m) h.shape.order h.shape.cols
    (ext_get_or [] self.rows (listed m.cols row) (h.shape.count ∙ sym (listed_length m.cols row)) (λ i below.
    let inside : i < m.cols = omega (arith, below, h.shape.count) in
    is_listed (length m.rows) (λ j. entry m.rows j i) (get_or self.rows i []) (length-row_of self i h.well_formed below ∙ h.shape.cols)
    (λ j column. same i j inside column)
    ∙ sym (listed_at m.cols row i [] inside)))
  where
    same : (i j : ℕ) → i < m.cols → j < length m.rows → entry self.rows i j ≡ entry m.rows j i
    same i j inside column =
        same_element m.order (entry self.rows i j) (entry m.rows j i)
        (subst (λ o. IsElement o (entry self.rows i j)) h.shape.order (entry-IsElement self i j h.well_formed)) (entry-IsElement m j i well_formed)
        (λ k power.
        ap (λ o. coefficient o (entry self.rows i j) k) (sym h.shape.order)
        ∙ sym (coefficients-at k i j self h.well_formed (subst (λ o. k < degree_of o) (sym h.shape.order) power) (omega (arith, inside, h.shape.count)) (omega (arith, column, h.shape.cols)))
        ∙ h.done k (omega (arith, power, all)) power i j inside column
        ∙ coefficients-at k j i m well_formed power column inside)
