-- The terms of the product of a row vector and a matrix, by words of 64 entries of the vector.
use Rattle.std.proofs.Common.{◌≡◌, ℕ, ◌+◌, ◌-◌, ◌*◌, ◌<◌, ◌≤◌, List, length, get_or, sym, ap, ◌∙◌, subst, arith}
use Rattle.std.specs.List.{All}
use Rattle.std.proofs.lemmas.List.{get_or_past}
use native.Mathlib.Decide.{dec_lt}
use Rattle.axe_algebra.proofs.ListEntries.{listed_length, listed_at}
use Rattle.axe_field.specs.Arithmetic.{field_mul}
use Rattle.axe_field.specs.CheckedLaws.{field_mul_comm, field_mul-one}
use Rattle.axe_field.specs.NumberFields.{number_field}
use Rattle.axe_field.specs.Order.{Order, IsElement}
use Rattle.axe_field.proofs.Orders.{one_is_element}
use Rattle.axe_lane.specs.Entries.{AreZerosFrom, IsNextNonzero}
use Rattle.axe_row.specs.EntryWords.{entries_in_word}
use Rattle.axe_row.specs.Operations.{sum_with_multiple}
use Rattle.axe_row.specs.Rows.{RowValue}
use Rattle.axe_matrix.specs.Matrices.{MatrixValue, IsMatrix, row_of}
use Rattle.axe_matrix.specs.VectorTerms.{row_with_terms_between}
use Rattle.axe_matrix.proofs.DirectRows.{one_more_from, so_many_terms, terms_from, zeros_from}
use Rattle.axe_matrix.proofs.LastTerms.{further_terms}

-- nothing is changed by 1
pub times_one : (o : Order) (c a : ℕ) → IsElement o a → c ≡ 1 → a ≡ field_mul o c a
times_one o c a ha one =
    sym (ap (λ x. field_mul o x a) one ∙ field_mul_comm o 1 a (one_is_element o) ha ∙ field_mul-one o a ha)

-- ---- the entries of a word

module _ (v : List ℕ) (k : ℕ) (word : List ℕ) (is : word ≡ entries_in_word v k) where
  pub length-word : length word ≡ 64
  length-word = ap length is ∙ listed_length 64 (λ j. get_or v (k * 64 + j) 0)

  pub word-at : (i : ℕ) → i < 64 → get_or word i 0 ≡ get_or v (k * 64 + i) 0
  word-at i low = ap (λ (xs : List ℕ). get_or xs i 0) is ∙ listed_at 64 (λ j. get_or v (k * 64 + j) 0) i 0 low

  -- an entry other than 0 stands in the word and in the list
  pub place_inside : (start i : ℕ) → IsNextNonzero word start i → i < 64
  place_inside start i next = omega (arith, next.within, length-word)

  pub found_inside : (start i : ℕ) → IsNextNonzero word start i → k * 64 + i < length v
  found_inside start i next = elim (dec_lt (k * 64 + i) (length v)) [
    | yes inside ↦ inside
    | no outside ↦ absurd (next.nonzero (word-at i (place_inside start i next) ∙ get_or_past v (k * 64 + i) 0 (omega arith)))
  ]

  pub found_element : (o : Order) (start i e : ℕ) → All (IsElement o) v → IsNextNonzero word start i → e ≡ get_or word i 0 → IsElement o e
  found_element o start i e over_v next e_is =
      subst (IsElement o) (sym (e_is ∙ word-at i (place_inside start i next))) (over_v (k * 64 + i) 0 (found_inside start i next))

-- ---- the terms of one word

module _ (b : MatrixValue) (r : List ℕ) (c : ℕ) (v : List ℕ) (k start : ℕ) (word : List ℕ) (is : word ≡ entries_in_word v k) (hb : IsMatrix b)
    (over_v : All (IsElement b.order) v) where
  abbrev at : ℕ
  at = k * 64 + start

  -- an entry is found, and its row added
  pub found_in_word : (place i factor : ℕ) (before row : RowValue) → start ≤ place → IsElement b.order c → All (IsElement b.order) r →
      before.order ≡ b.order → before.entries ≡ terms_from b r c v at (place - start) → IsNextNonzero word place i →
      factor ≡ field_mul b.order c (get_or word i 0) → row ≡ row_of b (k * 64 + i) →
      sum_with_multiple (number_field before.order) before.entries factor row.entries ≡ terms_from b r c v at (i + 1 - start)
  found_in_word place i factor before row begun small over_r order so_far next factor_is row_is =
      let inside : i < 64 = place_inside v k word is place i next in
      let there : at + (i - start) ≡ k * 64 + i = omega (arith, begun, next.not_before) in
      let all : i - start + 1 ≡ i + 1 - start = omega (arith, begun, next.not_before) in
      let more : place - start ≤ i - start = omega (arith, begun, next.not_before) in
      let zeros = zeros_from b r c v at hb over_v (place - start) (i - start) more (λ t past below.
      let same : k * 64 + (start + t) ≡ at + t = omega arith in
      ap (λ j. get_or v j 0) (sym same) ∙ sym (word-at v k word is (start + t) (omega (arith, below, inside)))
      ∙ next.zeros_between (start + t) (omega (arith, past)) (omega (arith, below))) in
      one_more_from b r c v at hb over_v (i - start) (k * 64 + i) factor before row there small over_r order (so_far ∙ zeros)
      (factor_is ∙ ap (field_mul b.order c) (word-at v k word is i inside)) row_is
      ∙ ap (terms_from b r c v at) all

  -- none is left
  pub end_of_word : (place : ℕ) (after : List ℕ) → start ≤ place → place ≤ 64 → after ≡ terms_from b r c v at (place - start) →
      AreZerosFrom word place → after ≡ terms_from b r c v at (k * 64 + 64 - at)
  end_of_word place after begun fits so_far zeros =
      so_far
      ∙ zeros_from b r c v at hb over_v (place - start) (k * 64 + 64 - at) (omega (arith, begun, fits)) (λ t past below.
      let same : k * 64 + (start + t) ≡ at + t = omega arith in
      ap (λ j. get_or v j 0) (sym same) ∙ sym (word-at v k word is (start + t) (omega (arith, below)))
      ∙ zeros (start + t) (omega (arith, past)))

-- ---- word after word

-- the terms of one more word
pub word_of_terms : (b : MatrixValue) (r : List ℕ) (c : ℕ) (vector : RowValue) (k place : ℕ) (before after : RowValue) → IsMatrix b → IsElement b.order c →
    All (IsElement b.order) r → All (IsElement b.order) vector.entries → place ≤ 64 → before.order ≡ b.order →
    before.entries ≡ so_many_terms b r c vector.entries (k * 64 + place) →
    after ≡ row_with_terms_between before c vector b (k * 64 + place) (k * 64 + 64) →
    after.entries ≡ so_many_terms b r c vector.entries ((k + 1) * 64 + 0)
word_of_terms b r c vector k place before after hb small over_r over_v fits order so_far is =
    let at = k * 64 + place in
    let end = k * 64 + 64 in
    let next : end ≡ (k + 1) * 64 + 0 = omega arith in
    further_terms b r c vector at end before after hb small over_r over_v (omega (arith, fits)) order so_far is
    ∙ ap (so_many_terms b r c vector.entries) next

-- the terms of all words are those of all rows
pub all_words : (b : MatrixValue) (r : List ℕ) (c : ℕ) (v : List ℕ) (n : ℕ) → IsMatrix b → All (IsElement b.order) v → length v ≡ length b.rows →
    length b.rows ≤ n → so_many_terms b r c v n ≡ so_many_terms b r c v (length b.rows)
all_words b r c v n hb over_v same past =
    sym (zeros_from b r c v 0 hb over_v (length b.rows) n past (λ t from below. get_or_past v (0 + t) 0 (omega (arith, from, same))))
