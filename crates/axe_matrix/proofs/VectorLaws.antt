-- Row vectors that the calls of matrices make: unit vectors, sums of rows, and the first terms of a vector times a matrix.
use Rattle.std.proofs.Common.{◌≡◌, ℕ, ◌+◌, ◌<◌, List, [], length, get_or, replicate, refl, sym, ap, ◌∙◌, arith, add-one}
use Rattle.std.proofs.lemmas.List.{ext_get_or, get_or-replicate, length-replicate}
use Rattle.std.proofs.lemmas.List.FromFn.{length-map-range_with_len}
use Rattle.axe_algebra.specs.Lists.{entry, listed}
use Rattle.axe_algebra.specs.ListArithmetic.{number_sum, combination_entry, combination}
use Rattle.axe_algebra.specs.NumberField.{NumberField}
use Rattle.axe_algebra.proofs.ListEntries.{listed_length, listed_at}
use Rattle.axe_row.specs.Operations.{sum_with_multiple}
use Rattle.axe_row.proofs.OperationLaws.{length-sum_with_multiple, get_or-sum_with_multiple}

-- a list with the entries of f is the list of them
pub is_listed : (n : ℕ) (f : ℕ → ℕ) (xs : List ℕ) → length xs ≡ n → ((j : ℕ) → j < n → get_or xs j 0 ≡ f j) → xs ≡ listed n f
is_listed n f xs long same =
    ext_get_or 0 xs (listed n f) (long ∙ sym (listed_length n f)) (λ j below.
    let inside : j < n = omega arith in same j inside ∙ sym (listed_at n f j 0 inside))

-- a list of one number n times
pub replicate-listed : (n a : ℕ) → replicate n a ≡ listed n (λ j. a)
replicate-listed n a = is_listed n (λ j. a) (replicate n a) (length-replicate n a) (λ j below. get_or-replicate n j a 0 below)

-- the sum of the first n rows of a matrix, each times its entry of the vector
unfoldable pub partial_combination : NumberField → ℕ → List ℕ → List (List ℕ) → ℕ → List ℕ
partial_combination K columns v rows n = listed columns (combination_entry K v rows n)

pub length-partial_combination : (K : NumberField) (columns : ℕ) (v : List ℕ) (rows : List (List ℕ)) (n : ℕ) → length (partial_combination K columns v rows n) ≡ columns
unfolding partial_combination
length-partial_combination K columns v rows n = length-map-range_with_len _ 0 columns

-- of no rows
pub partial_combination-none : (K : NumberField) (columns : ℕ) (v : List ℕ) (rows : List (List ℕ)) → replicate columns 0 ≡ partial_combination K columns v rows 0
unfolding partial_combination combination_entry number_sum
partial_combination-none K columns v rows = replicate-listed columns 0

-- one more term of an entry
combination_entry-next : (K : NumberField) (v : List ℕ) (rows : List (List ℕ)) (n j : ℕ) → combination_entry K v rows (n + 1) j ≡ K.add (combination_entry K v rows n j) (K.mul (get_or v n 0) (entry rows n j))
unfolding combination_entry number_sum
combination_entry-next K v rows n j = rw (add-one n) refl

-- of one more row
pub partial_combination-more : (K : NumberField) (columns : ℕ) (v : List ℕ) (rows : List (List ℕ)) (n : ℕ) → sum_with_multiple K (partial_combination K columns v rows n) (get_or v n 0) (get_or rows n []) ≡ partial_combination K columns v rows (n + 1)
unfolding partial_combination
partial_combination-more K columns v rows n =
    is_listed columns (combination_entry K v rows (n + 1)) _ (length-sum_with_multiple K _ _ _ ∙ listed_length columns _) (λ j below.
    let inside : j < length (listed columns (combination_entry K v rows n)) = omega (arith, listed_length columns (combination_entry K v rows n)) in
    get_or-sum_with_multiple K _ _ _ j inside
    ∙ ap (λ (e : ℕ). K.add e (K.mul (get_or v n 0) (entry rows n j))) (listed_at columns (combination_entry K v rows n) j 0 below)
    ∙ sym (combination_entry-next K v rows n j))

-- of all rows
pub partial_combination-all : (K : NumberField) (columns : ℕ) (v : List ℕ) (rows : List (List ℕ)) (n : ℕ) → n ≡ length rows → partial_combination K columns v rows n ≡ combination K columns v rows
unfolding partial_combination combination
partial_combination-all K columns v rows n all = ap (λ k. listed columns (combination_entry K v rows k)) all
