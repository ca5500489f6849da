-- Readers of parts, one byte at a time.
use Rattle.std.proofs.Common.{◌≡◌, ℕ, zero, suc, ◌+◌, ◌*◌, true, false, eqb, List, [], ◌∷◌, Err, refl, arith}
use Rattle.axe_file.specs.TextGrammar.{is_white, is_digit, digit_value}
use Rattle.axe_file.specs.TextReading.{Reading, read_space, read_gap, read_word, read_digits, read_numeral}

pub space_on : (next : List ℕ → ℕ → Reading) (b : ℕ) (bytes : List ℕ) (at : ℕ) → is_white b ≡ true → read_space next (b ∷ bytes) at ≡ read_space next bytes (at + 1)
unfolding read_space
space_on next b bytes at e = rw e refl

pub space_ends : (next : List ℕ → ℕ → Reading) (b : ℕ) (bytes : List ℕ) (at : ℕ) → is_white b ≡ false → read_space next (b ∷ bytes) at ≡ next (b ∷ bytes) at
unfolding read_space
space_ends next b bytes at e = rw e refl

pub space_none : (next : List ℕ → ℕ → Reading) (at : ℕ) → read_space next [] at ≡ next [] at
unfolding read_space
space_none next at = refl

pub gap_on : (next : List ℕ → ℕ → Reading) (b : ℕ) (bytes : List ℕ) (at : ℕ) → is_white b ≡ true → read_gap next (b ∷ bytes) at ≡ read_space next bytes (at + 1)
unfolding read_gap
gap_on next b bytes at e = rw e refl

pub gap_fails : (next : List ℕ → ℕ → Reading) (b : ℕ) (bytes : List ℕ) (at : ℕ) → is_white b ≡ false → read_gap next (b ∷ bytes) at ≡ Err at
unfolding read_gap
gap_fails next b bytes at e = rw e refl

pub gap_none : (next : List ℕ → ℕ → Reading) (at : ℕ) → read_gap next [] at ≡ Err at
unfolding read_gap
gap_none next at = refl

pub word_on : (c : ℕ) (word : List ℕ) (next : List ℕ → ℕ → Reading) (b : ℕ) (bytes : List ℕ) (at : ℕ) → eqb b c ≡ true → read_word (c ∷ word) next (b ∷ bytes) at ≡ read_word word next bytes (at + 1)
unfolding read_word
word_on c word next b bytes at e = rw e refl

pub word_fails : (c : ℕ) (word : List ℕ) (next : List ℕ → ℕ → Reading) (b : ℕ) (bytes : List ℕ) (at : ℕ) → eqb b c ≡ false → read_word (c ∷ word) next (b ∷ bytes) at ≡ Err at
unfolding read_word
word_fails c word next b bytes at e = rw e refl

pub word_none : (c : ℕ) (word : List ℕ) (next : List ℕ → ℕ → Reading) (at : ℕ) → read_word (c ∷ word) next [] at ≡ Err at
unfolding read_word
word_none c word next at = refl

pub word_done : (next : List ℕ → ℕ → Reading) (bytes : List ℕ) (at : ℕ) → read_word [] next bytes at ≡ next bytes at
unfolding read_word
word_done next bytes at = refl

pub digits_on : (room value : ℕ) (next : ℕ → List ℕ → ℕ → Reading) (b : ℕ) (bytes : List ℕ) (at : ℕ) → is_digit b ≡ true
    → read_digits (suc room) value next (b ∷ bytes) at ≡ read_digits room (value * 10 + digit_value b) next bytes (at + 1)
unfolding read_digits
digits_on room value next b bytes at e = rw e refl

pub digits_end : (room value : ℕ) (next : ℕ → List ℕ → ℕ → Reading) (b : ℕ) (bytes : List ℕ) (at : ℕ) → is_digit b ≡ false → read_digits room value next (b ∷ bytes) at ≡ next value (b ∷ bytes) at
unfolding read_digits
digits_end zero value next b bytes at e = refl
digits_end (suc room) value next b bytes at e = rw e refl

pub digits_none : (room value : ℕ) (next : ℕ → List ℕ → ℕ → Reading) (at : ℕ) → read_digits room value next [] at ≡ next value [] at
unfolding read_digits
digits_none room value next at = refl

pub digits_full : (value : ℕ) (next : ℕ → List ℕ → ℕ → Reading) (bytes : List ℕ) (at : ℕ) → read_digits zero value next bytes at ≡ next value bytes at
unfolding read_digits
digits_full value next [] at = refl
digits_full value next (b ∷ bytes) at = refl

pub numeral_on : (next : ℕ → List ℕ → ℕ → Reading) (b : ℕ) (bytes : List ℕ) (at : ℕ) → is_digit b ≡ true → read_numeral next (b ∷ bytes) at ≡ read_digits 8 (digit_value b) next bytes (at + 1)
unfolding read_numeral
numeral_on next b bytes at e = rw e refl

pub numeral_fails : (next : ℕ → List ℕ → ℕ → Reading) (b : ℕ) (bytes : List ℕ) (at : ℕ) → is_digit b ≡ false → read_numeral next (b ∷ bytes) at ≡ Err at
unfolding read_numeral
numeral_fails next b bytes at e = rw e refl

pub numeral_none : (next : ℕ → List ℕ → ℕ → Reading) (at : ℕ) → read_numeral next [] at ≡ Err at
unfolding read_numeral
numeral_none next at = refl

pub digit_is_dark : (b : ℕ) → is_digit b ≡ true → is_white b ≡ false
unfolding is_digit is_white
digit_is_dark b e = grind arith
