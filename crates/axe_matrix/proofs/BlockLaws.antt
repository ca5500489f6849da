-- The combinations of pieces of rows that the tables of a product hold, and what adding them to a row makes of it.
use Rattle.std.proofs.Common.{◌≡◌, ℕ, ◌+◌, ◌-◌, ◌*◌, ◌<◌, ◌≤◌, List, [], length, get_or, min, drop, replicate, refl, sym, ap, ◌∙◌, arith, add-one}
use Rattle.std.specs.Simd.Lanes.{chunk}
use Rattle.std.proofs.lemmas.List.{ext_get_or, get_or-drop, get_or-take, get_or_past, get_or-replicate, length-drop, length-take}
use Rattle.axe_algebra.specs.Lists.{entry, AreElements}
use Rattle.axe_algebra.specs.ListArithmetic.{number_sum, combination_entry, combination}
use Rattle.axe_algebra.specs.NumberField.{NumberField}
use Rattle.axe_algebra.proofs.ElementNumbers.{entry-below, number_sum_same}
use Rattle.axe_algebra.proofs.ListEntries.{listed_length, listed_at}
use Rattle.axe_row.specs.Operations.{sum_with_multiple, multiple}
use Rattle.axe_row.proofs.OperationLaws.{length-sum_with_multiple, get_or-sum_with_multiple, get_or-multiple}
use Rattle.axe_matrix.specs.Products.{row_with_terms}
use Rattle.axe_row.proofs.CombinationLaws.{length-combination}
use Rattle.axe_matrix.proofs.ProductLaws.{get_or-combination}
use Rattle.axe_matrix.proofs.TermSums.{mul-zero, zero-mul, zero-add, one-mul, sum-below, mul-number_sum, number_sum_longer, add_terms}

-- a piece of a list has as many items as that of a list as long
pub length_of_piece : {A B : Type 0} (at n : ℕ) (xs : List A) (ys : List B) → length xs ≡ length ys → length (chunk at n xs) ≡ length (chunk at n ys)
length_of_piece at n xs ys same =
    length-take n (drop at xs) ∙ ap (min n) (length-drop at xs ∙ ap (λ k. k - at) same ∙ sym (length-drop at ys)) ∙ sym (length-take n (drop at ys))

pub piece_fits : {A : Type 0} (at n : ℕ) (xs : List A) → length (chunk at n xs) ≤ n
piece_fits at n xs = omega (arith, length-take n (drop at xs))

before_end : {A : Type 0} (at n : ℕ) (xs : List A) (t : ℕ) → t < length (chunk at n xs) → t < n
before_end at n xs t below = omega (arith, length-take n (drop at xs))

past_end : {A : Type 0} (at n : ℕ) (xs : List A) (t : ℕ) → length (chunk at n xs) ≤ t → t < n → length xs ≤ at + t
past_end at n xs t past below = omega (arith, length-take n (drop at xs), length-drop at xs)

piece_at : {A : Type 0} (at n : ℕ) (xs : List A) (t : ℕ) (d : A) → t < n → get_or (chunk at n xs) t d ≡ get_or xs (at + t) d
piece_at at n xs t d below = get_or-take n (drop at xs) t d below ∙ get_or-drop at xs t d

module _ (K : NumberField) where
  -- every entry of a matrix is an element
  abbrev pub HasElements : List (List ℕ) → Type 0
  HasElements b = (i j : ℕ) → entry b i j < K.order

  unfoldable pub terms : List ℕ → List (List ℕ) → ℕ → ℕ → ℕ → ℕ
  terms v b at j t = K.mul (get_or v (at + t) 0) (entry b (at + t) j)

  terms-below : (v : List ℕ) (b : List (List ℕ)) (at j t : ℕ) → AreElements K v → HasElements b → terms v b at j t < K.order
  unfolding terms
  terms-below v b at j t over_v over_b = K.mul-below _ _ (entry-below K v (at + t) over_v) (over_b (at + t) j)

  -- entry j of the combination of a piece of rows with c times that piece of a vector
  pub piece_entry : (columns c : ℕ) (at n : ℕ) (v : List ℕ) (b : List (List ℕ)) (j : ℕ) → c < K.order → AreElements K v → HasElements b →
      length v ≡ length b → j < columns →
      get_or (combination K columns (multiple K c (chunk at n v)) (chunk at n b)) j 0 ≡ K.mul c (number_sum K (terms v b at j) n)
  unfolding combination_entry terms
  piece_entry columns c at n v b j c_small over_v over_b same below =
      let small = λ (t : ℕ). terms-below v b at j t over_v over_b in
      let long : length (chunk at n v) ≡ length (chunk at n b) = length_of_piece at n v b same in
      get_or-combination K columns (multiple K c (chunk at n v)) (chunk at n b) j below
      ∙ number_sum_same K (length (chunk at n b)) _ (λ t. K.mul c (terms v b at j t)) (λ t inside.
      let within : t < n = before_end at n b t inside in
      ap (λ x. K.mul x (entry (chunk at n b) t j)) (get_or-multiple K c (chunk at n v) t (omega arith) ∙ ap (K.mul c) (piece_at at n v t 0 within))
      ∙ ap (λ (row : List ℕ). K.mul (K.mul c (get_or v (at + t) 0)) (get_or row j 0)) (piece_at at n b t [] within)
      ∙ K.mul_assoc c _ _ c_small (entry-below K v (at + t) over_v) (over_b (at + t) j))
      ∙ sym (number_sum_longer K (length (chunk at n b)) n (λ t. K.mul c (terms v b at j t)) (piece_fits at n b)
      (λ t. K.mul-below c _ c_small (small t))
      (λ t past within. ap (K.mul c) (ap (λ x. K.mul x (entry b (at + t) j)) (get_or_past v (at + t) 0 (omega (arith, past_end at n b t past within)))
      ∙ zero-mul K _ (over_b (at + t) j)) ∙ mul-zero K c c_small))
      ∙ sym (mul-number_sum K c (terms v b at j) n c_small small)

  pub length-row_with_terms : (columns : ℕ) (r : List ℕ) (c : ℕ) (v : List ℕ) (b : List (List ℕ)) (at n : ℕ) → length (row_with_terms K columns r c v b at n) ≡ columns
  unfolding row_with_terms
  length-row_with_terms columns r c v b at n = listed_length columns _

  pub get_or-row_with_terms : (columns : ℕ) (r : List ℕ) (c : ℕ) (v : List ℕ) (b : List (List ℕ)) (at n j : ℕ) → j < columns →
      get_or (row_with_terms K columns r c v b at n) j 0 ≡ K.add (get_or r j 0) (K.mul c (number_sum K (terms v b at j) n))
  unfolding row_with_terms terms
  get_or-row_with_terms columns r c v b at n j below = listed_at columns _ j 0 below

  -- a list with these entries
  pub is_row_with_terms : (columns : ℕ) (r : List ℕ) (c : ℕ) (v : List ℕ) (b : List (List ℕ)) (at n : ℕ) (xs : List ℕ) → length xs ≡ columns →
      ((j : ℕ) → j < columns → get_or xs j 0 ≡ K.add (get_or r j 0) (K.mul c (number_sum K (terms v b at j) n))) →
      xs ≡ row_with_terms K columns r c v b at n
  is_row_with_terms columns r c v b at n xs long same =
      ext_get_or 0 xs (row_with_terms K columns r c v b at n) (long ∙ sym (length-row_with_terms columns r c v b at n))
      (λ j below. let inside : j < columns = omega arith in same j inside ∙ sym (get_or-row_with_terms columns r c v b at n j inside))

  -- no terms
  pub row_with_no_terms : (columns : ℕ) (r : List ℕ) (c : ℕ) (v : List ℕ) (b : List (List ℕ)) (at : ℕ) → c < K.order → AreElements K r → length r ≡ columns →
      r ≡ row_with_terms K columns r c v b at 0
  unfolding number_sum
  row_with_no_terms columns r c v b at c_small over_r long =
      is_row_with_terms columns r c v b at 0 r long (λ j below.
      sym (ap (K.add (get_or r j 0)) (mul-zero K c c_small) ∙ K.add-zero _ (entry-below K r j over_r)))

  -- the terms from number m on, counted from `at` on
  later_terms : (v : List ℕ) (b : List (List ℕ)) (at m n j : ℕ) →
      number_sum K (terms v b (at + m) j) n ≡ number_sum K (λ t. terms v b at j (m + t)) n
  unfolding terms
  later_terms v b at m n j = number_sum_same K n _ _ (λ t below.
      ap (λ k. K.mul (get_or v k 0) (entry b k j)) (let same : at + m + t ≡ at + (m + t) = omega arith in same))

  -- n more terms by a combination of a piece of the rows
  pub row_with_piece : (columns : ℕ) (r : List ℕ) (c : ℕ) (v : List ℕ) (b : List (List ℕ)) (at m n : ℕ) → c < K.order →
      AreElements K r → AreElements K v → HasElements b → length v ≡ length b →
      sum_with_multiple K (row_with_terms K columns r c v b at m) 1
      (combination K columns (multiple K c (chunk (at + m) n v)) (chunk (at + m) n b))
      ≡ row_with_terms K columns r c v b at (m + n)
  row_with_piece columns r c v b at m n c_small over_r over_v over_b same =
      let before = row_with_terms K columns r c v b at m in
      let piece = combination K columns (multiple K c (chunk (at + m) n v)) (chunk (at + m) n b) in
      let long : length before ≡ columns = length-row_with_terms columns r c v b at m in
      is_row_with_terms columns r c v b at (m + n) (sum_with_multiple K before 1 piece) (length-sum_with_multiple K before 1 piece ∙ long) (λ j below.
      get_or-sum_with_multiple K before 1 piece j (omega arith)
      ∙ ap (λ x. K.add x (K.mul 1 (get_or piece j 0))) (get_or-row_with_terms columns r c v b at m j below)
      ∙ ap (λ x. K.add (K.add (get_or r j 0) (K.mul c (number_sum K (terms v b at j) m))) x)
      (ap (K.mul 1) (piece_entry columns c (at + m) n v b j c_small over_v over_b same below)
      ∙ one-mul K _ (K.mul-below c _ c_small (sum-below K (terms v b (at + m) j) n (λ t. terms-below v b (at + m) j t over_v over_b)))
      ∙ ap (K.mul c) (later_terms v b at m n j))
      ∙ add_terms K (get_or r j 0) c (terms v b at j) m n (entry-below K r j over_r) c_small (λ t. terms-below v b at j t over_v over_b))

  -- one more term of an entry
  next_term : (x c : ℕ) (v : List ℕ) (b : List (List ℕ)) (at n k j : ℕ) → at + n ≡ k → x < K.order → c < K.order → AreElements K v → HasElements b →
      K.add (K.add x (K.mul c (number_sum K (terms v b at j) n))) (K.mul (K.mul c (get_or v k 0)) (entry b k j))
      ≡ K.add x (K.mul c (number_sum K (terms v b at j) (n + 1)))
  unfolding terms number_sum
  next_term x c v b at n k j is x_small c_small over_v over_b =
      let small = λ (t : ℕ). terms-below v b at j t over_v over_b in
      let before = sum-below K (terms v b at j) n small in
      ap (K.add (K.add x (K.mul c (number_sum K (terms v b at j) n))))
      (K.mul_assoc c _ _ c_small (entry-below K v k over_v) (over_b k j)
      ∙ ap (λ (t : ℕ). K.mul c (K.mul (get_or v t 0) (entry b t j))) (sym is))
      ∙ K.add_assoc x _ _ x_small (K.mul-below c _ c_small before) (K.mul-below c _ c_small (small n))
      ∙ ap (K.add x) (sym (K.mul-add c _ _ c_small before (small n)) ∙ rw (add-one n) refl)

  -- one more term by a multiple of its row
  pub row_with_next_term : (columns : ℕ) (r : List ℕ) (c : ℕ) (v : List ℕ) (b : List (List ℕ)) (at n k : ℕ) → at + n ≡ k → c < K.order →
      AreElements K r → AreElements K v → HasElements b →
      sum_with_multiple K (row_with_terms K columns r c v b at n) (K.mul c (get_or v k 0)) (get_or b k []) ≡ row_with_terms K columns r c v b at (n + 1)
  row_with_next_term columns r c v b at n k is c_small over_r over_v over_b =
      let before = row_with_terms K columns r c v b at n in
      let factor = K.mul c (get_or v k 0) in
      let long : length before ≡ columns = length-row_with_terms columns r c v b at n in
      is_row_with_terms columns r c v b at (n + 1) (sum_with_multiple K before factor (get_or b k [])) (length-sum_with_multiple K before factor (get_or b k []) ∙ long) (λ j below.
      get_or-sum_with_multiple K before factor (get_or b k []) j (omega arith)
      ∙ ap (λ x. K.add x (K.mul factor (entry b k j))) (get_or-row_with_terms columns r c v b at n j below)
      ∙ next_term (get_or r j 0) c v b at n k j is (entry-below K r j over_r) c_small over_v over_b)

  -- more terms, whose factors are 0
  pub row_with_zero_terms : (columns : ℕ) (r : List ℕ) (c : ℕ) (v : List ℕ) (b : List (List ℕ)) (at m n : ℕ) → m ≤ n →
      AreElements K v → HasElements b → ((t : ℕ) → m ≤ t → t < n → get_or v (at + t) 0 ≡ 0) →
      row_with_terms K columns r c v b at m ≡ row_with_terms K columns r c v b at n
  unfolding terms
  row_with_zero_terms columns r c v b at m n more over_v over_b zeros =
      is_row_with_terms columns r c v b at n (row_with_terms K columns r c v b at m) (length-row_with_terms columns r c v b at m) (λ j below.
      get_or-row_with_terms columns r c v b at m j below
      ∙ ap (λ x. K.add (get_or r j 0) (K.mul c x))
      (sym (number_sum_longer K m n (terms v b at j) more (λ t. terms-below v b at j t over_v over_b)
      (λ t past within. ap (λ x. K.mul x (entry b (at + t) j)) (zeros t past within) ∙ zero-mul K _ (over_b (at + t) j)))))

  -- zeros plus all terms
  pub zeros_with_terms : (columns : ℕ) (v : List ℕ) (b : List (List ℕ)) → AreElements K v → HasElements b →
      row_with_terms K columns (replicate columns 0) 1 v b 0 (length b) ≡ combination K columns v b
  unfolding combination_entry terms
  zeros_with_terms columns v b over_v over_b =
      let entries = combination K columns v b in
      sym (is_row_with_terms columns (replicate columns 0) 1 v b 0 (length b) entries (length-combination K columns v b) (λ j below.
      let sum = number_sum K (terms v b 0 j) (length b) in
      let small : sum < K.order = sum-below K (terms v b 0 j) (length b) (λ t. terms-below v b 0 j t over_v over_b) in
      get_or-combination K columns v b j below
      ∙ number_sum_same K (length b) _ (terms v b 0 j) (λ t within. ap (λ k. K.mul (get_or v k 0) (entry b k j)) (let same : t ≡ 0 + t = omega arith in same))
      ∙ sym (ap (λ x. K.add x (K.mul 1 sum)) (get_or-replicate columns j 0 0 below) ∙ ap (K.add 0) (one-mul K sum small) ∙ zero-add K sum small)))

  -- terms after terms
  pub row_with_more_terms : (columns : ℕ) (r : List ℕ) (c : ℕ) (v : List ℕ) (b : List (List ℕ)) (at m n : ℕ) → c < K.order →
      AreElements K r → AreElements K v → HasElements b →
      row_with_terms K columns (row_with_terms K columns r c v b at m) c v b (at + m) n ≡ row_with_terms K columns r c v b at (m + n)
  row_with_more_terms columns r c v b at m n c_small over_r over_v over_b =
      is_row_with_terms columns r c v b at (m + n) _ (length-row_with_terms columns (row_with_terms K columns r c v b at m) c v b (at + m) n) (λ j below.
      get_or-row_with_terms columns (row_with_terms K columns r c v b at m) c v b (at + m) n j below
      ∙ ap (λ x. K.add x (K.mul c (number_sum K (terms v b (at + m) j) n))) (get_or-row_with_terms columns r c v b at m j below)
      ∙ ap (λ x. K.add (K.add (get_or r j 0) (K.mul c (number_sum K (terms v b at j) m))) (K.mul c x)) (later_terms v b at m n j)
      ∙ add_terms K (get_or r j 0) c (terms v b at j) m n (entry-below K r j over_r) c_small (λ t. terms-below v b at j t over_v over_b))

  -- the same, where the sums are numbers of their own
  row_with_piece_from : (columns : ℕ) (r : List ℕ) (c : ℕ) (v : List ℕ) (b : List (List ℕ)) (at m n from all : ℕ) → at + m ≡ from → m + n ≡ all →
      c < K.order → AreElements K r → AreElements K v → HasElements b → length v ≡ length b →
      sum_with_multiple K (row_with_terms K columns r c v b at m) 1 (combination K columns (multiple K c (chunk from n v)) (chunk from n b))
      ≡ row_with_terms K columns r c v b at all
  row_with_piece_from columns r c v b at m n from all begins ends c_small over_r over_v over_b same =
      ap (λ k. sum_with_multiple K (row_with_terms K columns r c v b at m) 1 (combination K columns (multiple K c (chunk k n v)) (chunk k n b))) (sym begins)
      ∙ row_with_piece columns r c v b at m n c_small over_r over_v over_b same
      ∙ ap (row_with_terms K columns r c v b at) ends

  -- the combinations of four pieces, one after another
  pub row_with_four_pieces : (columns : ℕ) (r : List ℕ) (c : ℕ) (v : List ℕ) (b : List (List ℕ)) (at n : ℕ) → c < K.order →
      AreElements K r → AreElements K v → HasElements b → length r ≡ columns → length v ≡ length b →
      sum_with_multiple K (sum_with_multiple K (sum_with_multiple K (sum_with_multiple K r
      1 (combination K columns (multiple K c (chunk at n v)) (chunk at n b)))
      1 (combination K columns (multiple K c (chunk (at + n) n v)) (chunk (at + n) n b)))
      1 (combination K columns (multiple K c (chunk (at + 2 * n) n v)) (chunk (at + 2 * n) n b)))
      1 (combination K columns (multiple K c (chunk (at + 3 * n) n v)) (chunk (at + 3 * n) n b))
      ≡ row_with_terms K columns r c v b at (4 * n)
  row_with_four_pieces columns r c v b at n c_small over_r over_v over_b long same =
      let piece = λ (from : ℕ). combination K columns (multiple K c (chunk from n v)) (chunk from n b) in
      let add = λ (x y : List ℕ). sum_with_multiple K x 1 y in
      let one = ap (λ x. add x (piece at)) (row_with_no_terms columns r c v b at c_small over_r long)
      ∙ row_with_piece_from columns r c v b at 0 n at n (omega arith) (omega arith) c_small over_r over_v over_b same in
      let two = ap (λ x. add x (piece (at + n))) one
      ∙ row_with_piece_from columns r c v b at n n (at + n) (2 * n) refl (omega arith) c_small over_r over_v over_b same in
      let three = ap (λ x. add x (piece (at + 2 * n))) two
      ∙ row_with_piece_from columns r c v b at (2 * n) n (at + 2 * n) (3 * n) refl (omega arith) c_small over_r over_v over_b same in
      ap (λ x. add x (piece (at + 3 * n))) three
      ∙ row_with_piece_from columns r c v b at (3 * n) n (at + 3 * n) (4 * n) refl (omega arith) c_small over_r over_v over_b same
