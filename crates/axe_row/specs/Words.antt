-- Rows in which the coefficients of one power of x are replaced, a word at a time.
use Rattle.std.specs.Prelude.{◌≡◌, ◌≢◌, ℕ, List, length}
use Rattle.axe_layer.specs.Words.{digit_of_words, digits_with_word}
use Rattle.axe_row.specs.Planes.{coefficients_at}
use Rattle.axe_row.specs.Rows.{RowValue}

-- the row after is the one before with the digits of two words as word k of its coefficients of x^j
pub record HasWords (j k : ℕ) (words : List ℕ) (before after : RowValue) : Type 0 where
  pub order : after.order ≡ before.order
  pub as_long : length after.entries ≡ length before.entries
  pub written : coefficients_at before.order j after.entries
      ≡ digits_with_word (coefficients_at before.order j before.entries) k (digit_of_words words)
  pub kept : (i : ℕ) → i ≢ j →
      coefficients_at before.order i after.entries ≡ coefficients_at before.order i before.entries
