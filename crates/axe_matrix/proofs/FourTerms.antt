-- A row to which multiples of rows of a matrix are added four at a time.
use Rattle.std.proofs.Common.{◌≡◌, ℕ, zero, suc, ◌+◌, ◌<◌, List, length, get_or, sym, ap, subst, ◌∙◌, arith}
use Rattle.std.specs.List.{All}
use Rattle.axe_layer.specs.Supports.{AreNextFour}
use Rattle.axe_field.specs.NumberFields.{number_field}
use Rattle.axe_field.specs.Order.{Order, order_number, IsElement}
use Rattle.axe_field.proofs.Laws.{field_one-mul}
use Rattle.axe_row.specs.Addends.{IsRowAddend}
use Rattle.axe_row.specs.Combinations.{row_with_four}
use Rattle.axe_lane.specs.Entries.{IsNextNonzero}
use Rattle.axe_row.specs.Operations.{row_with_multiple}
use Rattle.axe_row.specs.Rows.{RowValue, four_entries, IsRow}
use Rattle.axe_field.proofs.Orders.{one_is_element}
use Rattle.axe_matrix.specs.Matrices.{MatrixValue, IsMatrix, row_of}
use Rattle.axe_matrix.proofs.BlockLaws.{length-row_with_terms}
use Rattle.axe_matrix.proofs.DirectRows.{so_many_terms, one_more_term, zero_terms}

-- what is the same for all terms: a matrix, and a row and a vector over its field
pub record AreOverField (b : MatrixValue) (r v : List ℕ) : Type 0 where
  pub matrix : IsMatrix b
  pub row : All (IsElement b.order) r
  pub vector : All (IsElement b.order) v

pub over_field : (b : MatrixValue) (r v : RowValue) → IsMatrix b → IsRow r → IsRow v → r.order ≡ b.order → v.order ≡ b.order →
    AreOverField b r.entries v.entries
over_field b r v hb hr hv r_field v_field = record {
  matrix = hb;
  row = subst (λ (o : Order). All (IsElement o) r.entries) r_field hr.elements;
  vector = subst (λ (o : Order). All (IsElement o) v.entries) v_field hv.elements;
}

-- a row with the first n terms
pub record HasTerms (b : MatrixValue) (r v : List ℕ) (n : ℕ) (row : RowValue) : Type 0 where
  pub field : row.order ≡ b.order
  pub entries : row.entries ≡ so_many_terms b r 1 v n

-- the multiple of the next row was added
next_row : (b : MatrixValue) (r v : List ℕ) (at i factor : ℕ) (before row : RowValue) → AreOverField b r v → HasTerms b r v at before →
    IsNextNonzero v at i → factor ≡ get_or v i 0 → row ≡ row_of b i → HasTerms b r v (i + 1) (row_with_multiple before factor row)
next_row b r v at i factor before row h so_far next factor_is row_is = record {
  field = so_far.field;
  entries =
      one_more_term b r 1 v i factor before row h.matrix (one_is_element b.order) h.row h.vector so_far.field
      (so_far.entries ∙ zero_terms b r 1 v at i h.matrix h.vector next.not_before next.zeros_between)
      (factor_is ∙ sym (field_one-mul b.order (get_or v i 0) (h.vector i 0 next.within))) row_is;
}

-- the multiples of the next four rows were added
pub next_four_multiples : (b : MatrixValue) (r v : List ℕ) (at : ℕ) (four : List ℕ) (k0 k1 k2 k3 : ℕ) (before a c d e : RowValue) → AreOverField b r v →
    HasTerms b r v at before → AreNextFour v at four → k0 ≡ get_or v (get_or four 0 0) 0 → k1 ≡ get_or v (get_or four 1 0) 0 →
    k2 ≡ get_or v (get_or four 2 0) 0 → k3 ≡ get_or v (get_or four 3 0) 0 → a ≡ row_of b (get_or four 0 0) → c ≡ row_of b (get_or four 1 0) →
    d ≡ row_of b (get_or four 2 0) → e ≡ row_of b (get_or four 3 0) →
    HasTerms b r v (get_or four 3 0 + 1) (row_with_multiple (row_with_multiple (row_with_multiple (row_with_multiple before k0 a) k1 c) k2 d) k3 e)
next_four_multiples b r v at four k0 k1 k2 k3 before a c d e h so_far next is0 is1 is2 is3 a_is c_is d_is e_is =
    next_row b r v _ _ k3 _ e h
    (next_row b r v _ _ k2 _ d h
    (next_row b r v _ _ k1 _ c h (next_row b r v at _ k0 before a h so_far next.first is0 a_is) next.second is1 c_is) next.third is2 d_is)
    next.fourth is3 e_is

-- ---- over two elements

-- an element other than 0 of the field of two is 1
one_of_two : (x q : ℕ) → x < q → q ≡ 2 → (x ≡ 0 → ⊥) → 1 ≡ x
one_of_two x q below two nonzero = omega (arith, nonzero)

-- the next four rows were added
pub next_four_rows : (b : MatrixValue) (r v : List ℕ) (at : ℕ) (four : List ℕ) (before a c d e : RowValue) → order_number b.order ≡ 2 →
    AreOverField b r v → HasTerms b r v at before → AreNextFour v at four → a ≡ row_of b (get_or four 0 0) →
    c ≡ row_of b (get_or four 1 0) → d ≡ row_of b (get_or four 2 0) → e ≡ row_of b (get_or four 3 0) →
    HasTerms b r v (get_or four 3 0 + 1) (row_with_four before a c d e)
next_four_rows b r v at four before a c d e two h so_far next =
    let one : (start i : ℕ) → IsNextNonzero v start i → 1 ≡ get_or v i 0 =
    λ start i found. one_of_two (get_or v i 0) (order_number b.order) (h.vector i 0 found.within) two found.nonzero in
    next_four_multiples b r v at four 1 1 1 1 before a c d e h so_far next (one _ _ next.first) (one _ _ next.second) (one _ _ next.third)
    (one _ _ next.fourth)

-- ---- the next four entries

pub four_within : (v four : List ℕ) (at : ℕ) → AreNextFour v at four → (i : ℕ) → i < 4 → get_or four i 0 < length v
four_within v four at next zero below = next.first.within
four_within v four at next (suc zero) below = next.second.within
four_within v four at next (suc (suc zero)) below = next.third.within
four_within v four at next (suc (suc (suc zero))) below = next.fourth.within
four_within v four at next (suc (suc (suc (suc i)))) below = absurd (omega arith)

above_zero : (x : ℕ) → (x ≡ 0 → ⊥) → 0 < x
above_zero x nonzero = omega (arith, nonzero)

four_above_zero : (v four : List ℕ) (at : ℕ) → AreNextFour v at four → (i : ℕ) → i < 4 → 0 < get_or (four_entries v four) i 0
four_above_zero v four at next zero below = above_zero _ next.first.nonzero
four_above_zero v four at next (suc zero) below = above_zero _ next.second.nonzero
four_above_zero v four at next (suc (suc zero)) below = above_zero _ next.third.nonzero
four_above_zero v four at next (suc (suc (suc zero))) below = above_zero _ next.fourth.nonzero
four_above_zero v four at next (suc (suc (suc (suc i)))) below = absurd (omega arith)

-- they are elements other than 0
pub four_factors : (P : ℕ → Type 0) (v four factors : List ℕ) (at : ℕ) → factors ≡ four_entries v four → All P factors → AreNextFour v at four →
    (i : ℕ) → i < 4 → (0 < get_or factors i 0) × P (get_or factors i 0)
four_factors P v four factors at is all next i below = (
  subst (λ (x : List ℕ). 0 < get_or x i 0) (sym is) (four_above_zero v four at next i below),
  all i 0 (subst (λ (x : List ℕ). i < length x) (sym is) below),
)

-- ---- the rows that are added

-- a row of the matrix may be added to a row with some terms
pub row_for_row : (b : MatrixValue) (r : List ℕ) (c : ℕ) (v : List ℕ) (n i : ℕ) (before row : RowValue) → before.order ≡ b.order →
    before.entries ≡ so_many_terms b r c v n → row ≡ row_of b i → length row.entries ≡ b.cols → IsRowAddend before row
row_for_row b r c v n i before row order so_far row_is long = record {
  field = ap (λ (x : RowValue). x.order) row_is ∙ sym order;
  fits = long ∙ sym (ap length so_far ∙ length-row_with_terms (number_field b.order) b.cols r c v b.rows 0 n);
}
