-- Reserved bytes, found by going through their offsets.
use Rattle.std.proofs.Common.{◌≡◌, ℕ, zero, suc, ◌+◌, ◌<◌, true, false, not, eqb, List, [], ◌∷◌, length, get_or, take, refl, arith}
use Rattle.std.proofs.lemmas.Bool.{ne_eqb, or_left, or_right, not_from_false}
use Rattle.std.proofs.lemmas.List.{take_more}
use Rattle.std.proofs.lemmas.List.Folds.{list_any-append}
use Rattle.axe_file.specs.Packed.{has_reserved}
use Rattle.axe_file.proofs.Ranges.{or_false, or_of_false}
use Rattle.axe_file.proofs.Magic.{same_test, no_other}

pub reserved_is_zero : (offsets bytes : List ℕ) (i : ℕ) → has_reserved offsets bytes ≡ false → i < length offsets → get_or bytes (get_or offsets i 0) 0 ≡ 0
unfolding has_reserved
reserved_is_zero [] bytes i e lt = absurd (omega arith)
reserved_is_zero (at ∷ rest) bytes zero e lt = same_test _ _ (or_false (not (eqb (get_or bytes at 0) 0)) _ e).0
reserved_is_zero (at ∷ rest) bytes (suc i) e lt = reserved_is_zero rest bytes i (or_false (not (eqb (get_or bytes at 0) 0)) _ e).1 (omega arith)

pub no_offsets : (bytes : List ℕ) → has_reserved [] bytes ≡ false
unfolding has_reserved
no_offsets bytes = refl

-- one offset more
pub none_more : (offsets bytes : List ℕ) (i at : ℕ) → i < length offsets → at ≡ get_or offsets i 0 → has_reserved (take i offsets) bytes ≡ false
    → get_or bytes at 0 ≡ 0
    → has_reserved (take (i + 1) offsets) bytes ≡ false
unfolding has_reserved
none_more offsets bytes i at lt is before here =
    let test = λ (j : ℕ). not (eqb (get_or bytes j 0) 0) in
    let zero_there : get_or bytes (get_or offsets i 0) 0 ≡ 0 = rw (← is) here in
    rw (take_more offsets i 0 lt, list_any-append test (take i offsets) (get_or offsets i 0 ∷ []))
    (or_of_false _ _ before (or_of_false _ _ (no_other _ _ zero_there) refl))

-- a byte that is not 0 is found
pub found_reserved : (offsets bytes : List ℕ) (i at : ℕ) → i < length offsets → at ≡ get_or offsets i 0 → (get_or bytes at 0 ≡ 0 → ⊥)
    → has_reserved offsets bytes ≡ true
unfolding has_reserved
found_reserved [] bytes i at lt is other = absurd (omega arith)
found_reserved (first ∷ rest) bytes zero at lt is other =
    or_left _ _ (not_from_false _ (ne_eqb _ _ (λ e. other (rw is e))))
found_reserved (first ∷ rest) bytes (suc i) at lt is other =
    or_right (not (eqb (get_or bytes first 0) 0)) _ (found_reserved rest bytes i at (omega arith) is other)
