-- Rows of a matrix that are chosen by their places.
use Rattle.std.proofs.Common.{◌≡◌, ℕ, List, [], length, get_or, map, sym, ◌∙◌}
use Rattle.std.proofs.lemmas.List.{length-map, get_or-map}
use Rattle.std.proofs.lemmas.List.FromFn.{fill_by_all}
use Rattle.axe_algebra.specs.Lists.{listed}
use Rattle.axe_matrix.specs.Matrices.{MatrixValue, rows_at}
use Rattle.axe_matrix.proofs.PartialMatrices.{IsPartialMatrix, IsPartialMatrix-all}

-- the row at a place of a list
abbrev pub row_at_place : List (List ℕ) → List ℕ → ℕ → List ℕ
row_at_place rows places t = get_or rows (get_or places t 0) []

-- once a row is made for each place, these are the rows at the places
pub rows_at-all : (m : MatrixValue) (places : List ℕ) (n : ℕ) (chosen : MatrixValue) →
    IsPartialMatrix m.order m.cols (row_at_place m.rows places) n chosen → n ≡ length places → chosen ≡ rows_at places m
rows_at-all m places n chosen so_far all =
    IsPartialMatrix-all _ _ _ _ _ _ so_far all ∙ (λ k. record { order = m.order; cols = m.cols; rows = same k })
  where
    same : listed (length places) (row_at_place m.rows places) ≡ map (λ place. get_or m.rows place []) places
    same = sym (fill_by_all (row_at_place m.rows places) (map (λ place. get_or m.rows place []) places) (length places) []
        (length-map places (λ place. get_or m.rows place [])) (λ t below. get_or-map (λ place. get_or m.rows place []) places t 0 [] below))
