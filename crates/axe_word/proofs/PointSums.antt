-- How many points there are, step by step; the first point; a point as a sum of rows.
use Rattle.std.proofs.Common.{◌≡◌, ℕ, suc, ◌+◌, ◌-◌, ◌*◌, ◌/◌, ◌^◌, ◌<◌, ◌≤◌, [], length, get_or, refl, sym, ap, ◌∙◌, arith, add-one}
use Rattle.axe_algebra.proofs.Digits.{pow-positive}
use Rattle.axe_algebra.proofs.PointLists.{no_coordinates, count_next, count_grows}
use Rattle.axe_algebra.proofs.PointSpans.{first_point_is_last_row}
use Rattle.axe_echelon.proofs.InverseLaws.{matrix_over}
use Rattle.axe_field.specs.NumberFields.{number_field}
use Rattle.axe_row.proofs.RowLaws.{same_row}
use Rattle.axe_matrix.specs.Matrices.{MatrixValue, IsMatrix, row_of}
use Rattle.axe_word.specs.PointsOfMatrix.{point_count, points_of}
use native.Mathlib.Nat.{pow-suc, mul-div_left}

-- ---- counts

pub count_at_start : (q : ℕ) → 0 ≡ point_count q 0
count_at_start q = sym (ap length (no_coordinates q))

pub count_after : (q m : ℕ) → 2 ≤ q → point_count q (m + 1) ≡ point_count q m * q + 1
count_after q m large = ap (point_count q) (add-one m) ∙ count_next q m large

-- where the count of a smaller dimension passes the bound, so does this one
pub count_passed : (q m n bound : ℕ) → 2 ≤ q → m < n → bound ≤ point_count q m * q → point_count q n ≤ bound → ⊥
count_passed q m n bound large below passed few =
    let grows : point_count q (suc m) ≤ point_count q n = count_grows q (suc m) n large below in
    omega (arith, count_next q m large)

-- ---- the first point

pub last_row_is_first_point : (b : MatrixValue) (k : ℕ) → IsMatrix b → 0 < length b.rows → k ≡ length b.rows - 1 →
    row_of b k ≡ record { order = b.order; entries = get_or (points_of b) 0 [] }
last_row_is_first_point b k well some last =
    same_row _ _ refl
    (ap (λ i. get_or b.rows i []) last ∙ sym (first_point_is_last_row (number_field b.order) b.cols b.rows (matrix_over b well) some).1)

-- ---- places of digits

pub place_step : (q m i place divisor : ℕ) → 2 ≤ q → i < m → place ≡ q ^ (m - i) → divisor ≡ q → place / divisor ≡ q ^ (m - (i + 1))
place_step q m i place divisor large below is same =
    ap (λ p. p / divisor) (is ∙ ap (λ k. q ^ k) (let e : m - i ≡ suc (m - (i + 1)) = omega arith in e) ∙ pow-suc q (m - (i + 1)))
    ∙ ap (λ d. q ^ (m - (i + 1)) * q / d) same ∙ mul-div_left (q ^ (m - (i + 1))) (omega arith)

pub place-positive : (q m i place divisor : ℕ) → 2 ≤ q → i < m → place ≡ q ^ (m - i) → divisor ≡ q → 0 < place / divisor
place-positive q m i place divisor large below is same =
    omega (arith, place_step q m i place divisor large below is same, pow-positive q (m - (i + 1)) (omega arith))
