-- Rows in the order of their pivots, one by one.
use Rattle.std.proofs.Common.{set, inl, inr, get_or-set_same, get_or-set_other}
use Rattle.std.specs.Prelude.{◌≡◌, ◌≢◌, ◌≤◌, ℕ, ◌+◌, ◌<◌, List, [], ◌∷◌, ◌++◌, length, get_or}
use Rattle.std.proofs.lemmas.List.{length-set, length-append, get_or_append_left, get_or-append-add}
use Rattle.std.proofs.lemmas.Bool.{cases_eq}
use Rattle.std.proofs.lemmas.List.Elements.{All-contains, All-from_get_or}
use Rattle.axe_field.specs.Order.{Order}
use Rattle.axe_row.specs.Rows.{RowValue}
use Rattle.axe_matrix.specs.Matrices.{MatrixValue, row_of}
use Rattle.axe_reduction.specs.Solutions.{ArePlacesOf, IsRowAtPivot, AreRowsByPivot}
use mathlib.Core.Path.{sym, ◌∙◌, ap, subst}
use native.Mathlib.Decide.{dec_lt, ℕ_discrete}
use native.Mathlib.Omega.{arith}

pub rows_none : (pivots : List ℕ) (m sorted : MatrixValue) (o : Order) (n : ℕ) → o ≡ m.order → n ≡ m.cols →
    sorted ≡ record { order = o; cols = n; rows = [] } → AreRowsByPivot pivots m 0 sorted
rows_none pivots m sorted o n field columns is = record {
  field = ap (λ (x : MatrixValue). x.order) is ∙ field;
  columns = ap (λ (x : MatrixValue). x.cols) is ∙ columns;
  count = ap (λ (x : MatrixValue). length x.rows) is;
  rows = λ j below. absurd (omega arith);
}

pub rows_more : (pivots : List ℕ) (m : MatrixValue) (j place : ℕ) (sorted next : MatrixValue) (row : RowValue) → AreRowsByPivot pivots m j sorted →
    place < length pivots → get_or pivots place 0 ≡ j → row ≡ row_of m place →
    next ≡ record { order = sorted.order; cols = sorted.cols; rows = sorted.rows ++ row.entries ∷ [] } → AreRowsByPivot pivots m (j + 1) next
rows_more pivots m j place sorted next row so_far within found row_is is = record {
  field = ap (λ (x : MatrixValue). x.order) is ∙ so_far.field;
  columns = ap (λ (x : MatrixValue). x.cols) is ∙ so_far.columns;
  count = ap (λ (x : MatrixValue). length x.rows) is
      ∙ (let grown : length (sorted.rows ++ row.entries ∷ []) ≡ j + 1 = omega (arith, so_far.count, length-append sorted.rows (row.entries ∷ [])) in grown);
  rows = λ i below. at i below (ℕ_discrete i j);
}
  where
    before : (i : ℕ) → i < j → get_or next.rows i [] ≡ get_or sorted.rows i []
    before i below = ap (λ (x : MatrixValue). get_or x.rows i []) is ∙ get_or_append_left sorted.rows (row.entries ∷ []) [] i (omega (arith, so_far.count, below))

    last : get_or next.rows j [] ≡ row.entries
    last =
        ap (λ (x : MatrixValue). get_or x.rows j []) is
        ∙ ap (λ k. get_or (sorted.rows ++ row.entries ∷ []) k []) (let same : j ≡ length sorted.rows + 0 = omega (arith, so_far.count) in same)
        ∙ get_or-append-add sorted.rows (row.entries ∷ []) 0 []

    at : (i : ℕ) → i < j + 1 → Dec (i ≡ j) → IsRowAtPivot pivots m.rows i (get_or next.rows i [])
    at i below (yes e) = record {
      place = place;
      within = within;
      pivot = found ∙ sym e;
      same = ap (λ k. get_or next.rows k []) e ∙ last ∙ ap (λ (r : RowValue). r.entries) row_is;
    }
    at i below (no other) =
        subst (IsRowAtPivot pivots m.rows i) (sym (before i (omega (arith, below, other)))) (so_far.rows i (omega (arith, below, other)))

-- ---- places of numbers in a list of them

-- where the first numbers stand is known
pub record ArePlacedBelow (numbers : List ℕ) (until : ℕ) (places : List ℕ) : Type 0 where
  pub count : length places ≡ length numbers
  pub within : (k : ℕ) → k < until → get_or places (get_or numbers k 0) 0 < length numbers
  pub found : (k : ℕ) → k < until → get_or numbers (get_or places (get_or numbers k 0) 0) 0 ≡ get_or numbers k 0

pub placed_more : (numbers places : List ℕ) (t number : ℕ) → t < length numbers → number ≡ get_or numbers t 0 → number < length numbers →
    ArePlacedBelow numbers t places → ArePlacedBelow numbers (t + 1) (set places number t)
placed_more numbers places t number below at small h = record {
  count = length-set places number t ∙ h.count;
  within = λ k before. elim (cases_eq (get_or numbers k 0) number) [
    | inl same ↦ omega (arith, here k same, below)
    | inr other ↦ omega (arith, there k other, h.within k (earlier k before other))
  ];
  found = λ k before. elim (cases_eq (get_or numbers k 0) number) [
    | inl same ↦ ap (λ j. get_or numbers j 0) (here k same) ∙ sym at ∙ sym same
    | inr other ↦ ap (λ j. get_or numbers j 0) (there k other) ∙ h.found k (earlier k before other)
  ];
}
  where
    here : (k : ℕ) → get_or numbers k 0 ≡ number → get_or (set places number t) (get_or numbers k 0) 0 ≡ t
    here k same = ap (λ j. get_or (set places number t) j 0) same ∙ get_or-set_same places number t 0 (omega (arith, small, h.count))

    there : (k : ℕ) → get_or numbers k 0 ≢ number → get_or (set places number t) (get_or numbers k 0) 0 ≡ get_or places (get_or numbers k 0) 0
    there k other = get_or-set_other places number (get_or numbers k 0) t 0 other

    earlier : (k : ℕ) → k < t + 1 → get_or numbers k 0 ≢ number → k < t
    earlier k before other = elim (dec_lt k t) [
      | yes less ↦ less
      | no last ↦ let same : k ≡ t = omega (arith, before, last) in absurd (other (ap (λ j. get_or numbers j 0) same ∙ sym at))
    ]

pub placed_all : (numbers places : List ℕ) (n : ℕ) → length numbers ≤ n → ArePlacedBelow numbers n places → ArePlacesOf numbers places
placed_all numbers places n all h = record {
  count = h.count;
  within = λ number. All-contains (λ number. get_or places number 0 < length numbers) numbers number
      (All-from_get_or (λ number. get_or places number 0 < length numbers) numbers 0 (λ k below. h.within k (omega arith)));
  found = λ number. All-contains (λ number. get_or numbers (get_or places number 0) 0 ≡ number) numbers number
      (All-from_get_or (λ number. get_or numbers (get_or places number 0) 0 ≡ number) numbers 0 (λ k below. h.found k (omega arith)));
}
