-- Matrices of which each entry is 0.
use Rattle.std.specs.Prelude.{◌≡◌, ℕ, ◌+◌, ◌<◌, ◌==◌, List, [], length, get_or, take, All, Bool, true, false}
use Rattle.std.specs.List.{list_all}
use Rattle.std.proofs.lemmas.Bool.{eq-eqb, eqb-true}
use Rattle.std.proofs.lemmas.List.Elements.{All-get_or, All-from_get_or}
use Rattle.std.proofs.lemmas.List.Folds.{list_all_at, list_all_more}
use Rattle.std.proofs.lemmas.List.Sums.{AllPass-from_list_all, list_all-from_AllPass}
use Rattle.axe_row.specs.Operations.{IsZeroVector}
use Rattle.axe_matrix.specs.Matrices.{has_only_zeros}
use mathlib.Core.Path.{refl, sym, ◌∙◌, ap}

pub zeros_pass : (entries : List ℕ) → IsZeroVector entries → list_all (λ number. number == 0) entries ≡ true
zeros_pass entries zeros = list_all-from_AllPass (λ number. number == 0) entries (λ i d below. eq-eqb _ _ (zeros i d below))

pub passed_zeros : (entries : List ℕ) → list_all (λ number. number == 0) entries ≡ true → IsZeroVector entries
passed_zeros entries pass = λ i d below. eqb-true _ _ (AllPass-from_list_all (λ number. number == 0) entries pass i d below)

-- a matrix has only zeros exactly where each of its rows is zero
pub only_zeros : (rows : List (List ℕ)) → ((i : ℕ) → i < length rows → IsZeroVector (get_or rows i [])) → has_only_zeros rows ≡ true
only_zeros rows zero =
    list_all-from_AllPass (list_all (λ number. number == 0)) rows
    (All-from_get_or (λ row. list_all (λ number. number == 0) row ≡ true) rows [] (λ i below. zeros_pass (get_or rows i []) (zero i below)))

pub row_of_zeros : (rows : List (List ℕ)) (i : ℕ) → has_only_zeros rows ≡ true → i < length rows → IsZeroVector (get_or rows i [])
row_of_zeros rows i zeros below =
    passed_zeros (get_or rows i [])
    (All-get_or (λ row. list_all (λ number. number == 0) row ≡ true) rows i [] below (AllPass-from_list_all (list_all (λ number. number == 0)) rows zeros))

pub all_rows_of_zeros : (rows : List (List ℕ)) → has_only_zeros rows ≡ true → All IsZeroVector rows
all_rows_of_zeros rows zeros = All-from_get_or IsZeroVector rows [] (λ i below. row_of_zeros rows i zeros below)

-- rows among which one is not zero
pub some_nonzero : (rows : List (List ℕ)) (i : ℕ) (row : List ℕ) (found : Bool) → i < length rows → row ≡ get_or rows i [] →
    (IsZeroVector row → found ≡ true) → found ≡ false → has_only_zeros rows ≡ false
some_nonzero rows i row found below row_is if_zero not_found =
    list_all_at (list_all (λ number. number == 0)) rows i [] below
    (ap (list_all (λ number. number == 0)) (sym row_is) ∙ cases (list_all (λ number. number == 0) row) refl)
  where
    both : found ≡ true → found ≡ false → ⊥
    both first second = cc

    cases : (passes : Bool) → list_all (λ number. number == 0) row ≡ passes → list_all (λ number. number == 0) row ≡ false
    cases true pass = absurd (both (if_zero (passed_zeros row pass)) not_found)
    cases false fail = fail

-- one more row that is zero
pub only_zeros_more : (rows : List (List ℕ)) (i : ℕ) (row : List ℕ) → i < length rows → row ≡ get_or rows i [] →
    has_only_zeros (take i rows) ≡ true → IsZeroVector row → has_only_zeros (take (i + 1) rows) ≡ true
only_zeros_more rows i row below row_is so_far zeros =
    list_all_more (list_all (λ number. number == 0)) rows i [] below
    ∙ rw (so_far, ← row_is) (zeros_pass row zeros)
