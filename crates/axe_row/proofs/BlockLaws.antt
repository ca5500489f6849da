-- Words of 64 entries of rows: those of a sum with a multiple are sums with multiples of those of both.
use Rattle.std.specs.Prelude.{◌≡◌, ℕ, ◌+◌, ◌*◌, ◌<◌, List, length, get_or}
use Rattle.std.proofs.lemmas.List.{get_or_past, ext_get_or}
use Rattle.axe_algebra.proofs.ListEntries.{listed_at, listed_length}
use Rattle.axe_field.specs.Order.{Order, IsElement}
use Rattle.axe_field.specs.Arithmetic.{field_add, field_mul}
use Rattle.axe_field.specs.CheckedLaws.{order_number-above, field_add-zero}
use Rattle.axe_field.specs.NumberFields.{number_field}
use Rattle.axe_field.proofs.Laws.{field_mul-zero}
use Rattle.axe_row.specs.EntryWords.{entries_in_word}
use Rattle.axe_row.specs.Operations.{sum_with_multiple}
use Rattle.axe_row.proofs.OperationLaws.{get_or-row_with_multiple, length-sum_with_multiple}
use mathlib.Core.Path.{sym, ◌∙◌, ap, ap₂}
use native.Mathlib.Omega.{arith}
use native.Mathlib.Decide.{dec_lt}

-- an entry of a word
pub entry_in_word : (entries : List ℕ) (k i : ℕ) → i < 64 → get_or (entries_in_word entries k) i 0 ≡ get_or entries (k * 64 + i) 0
entry_in_word entries k i low = listed_at 64 (λ i. get_or entries (k * 64 + i) 0) i 0 low

pub length-entries_in_word : (entries : List ℕ) (k : ℕ) → length (entries_in_word entries k) ≡ 64
length-entries_in_word entries k = listed_length 64 (λ i. get_or entries (k * 64 + i) 0)

-- an entry of a sum, and 0 past its end
sum_at : (o : Order) (a b : List ℕ) (c j : ℕ) → length b ≡ length a → IsElement o c →
    get_or (sum_with_multiple (number_field o) a c b) j 0 ≡ field_add o (get_or a j 0) (field_mul o c (get_or b j 0))
sum_at o a b c j long element = at (dec_lt j (length a))
  where
    at : Dec (j < length a) → get_or (sum_with_multiple (number_field o) a c b) j 0 ≡ field_add o (get_or a j 0) (field_mul o c (get_or b j 0))
    at (yes inside) = get_or-row_with_multiple o a c b j inside
    at (no past) =
        get_or_past (sum_with_multiple (number_field o) a c b) j 0 (omega (arith, past, length-sum_with_multiple (number_field o) a c b))
        ∙ sym (ap₂ (λ x y. field_add o x (field_mul o c y)) (get_or_past a j 0 (omega (arith, past))) (get_or_past b j 0 (omega (arith, past, long)))
        ∙ ap (field_add o 0) (field_mul-zero o c element) ∙ field_add-zero o 0 (omega (arith, order_number-above o)))

pub sum_in_word : (o : Order) (a b : List ℕ) (c k : ℕ) → length b ≡ length a → IsElement o c →
    entries_in_word (sum_with_multiple (number_field o) a c b) k ≡ sum_with_multiple (number_field o) (entries_in_word a k) c (entries_in_word b k)
sum_in_word o a b c k long element =
    ext_get_or 0 (entries_in_word (sum_with_multiple (number_field o) a c b) k) (sum_with_multiple (number_field o) (entries_in_word a k) c (entries_in_word b k))
    (length-entries_in_word (sum_with_multiple (number_field o) a c b) k
    ∙ sym (length-sum_with_multiple (number_field o) (entries_in_word a k) c (entries_in_word b k) ∙ length-entries_in_word a k))
    (λ i inside.
    let low : i < 64 = omega (arith, inside, length-entries_in_word (sum_with_multiple (number_field o) a c b) k) in
    entry_in_word (sum_with_multiple (number_field o) a c b) k i low ∙ sum_at o a b c (k * 64 + i) long element
    ∙ sym (get_or-row_with_multiple o (entries_in_word a k) c (entries_in_word b k) i (omega (arith, low, length-entries_in_word a k))
    ∙ ap₂ (λ x y. field_add o x (field_mul o c y)) (entry_in_word a k i low) (entry_in_word b k i low)))
