-- Numbers and their digits in base q, where the digits are the values of a function.
use Rattle.std.proofs.Common.{◌≡◌, ℕ, ◌+◌, ◌*◌, ◌^◌, ◌<◌, List, All, get_or, refl, sym, ap, subst, ◌∙◌, arith}
use Rattle.std.proofs.lemmas.List.FromFn.{map-range_with_len_more}
use Rattle.axe_algebra.specs.Digits.{digits, number_with_digits}
use Rattle.axe_algebra.specs.Lists.{listed}
use Rattle.axe_algebra.proofs.Digits.{digits_length, digits_of_their_number, number_with_digits-below, number_of_its_digits}
use Rattle.axe_algebra.proofs.ListEntries.{listed_length, listed_at}
use Rattle.axe_layer.proofs.PieceDigits.{number_with_digits-push}
use Rattle.axe_file.proofs.Lists.{listed_is}

-- one digit more
pub number_more : (q : ℕ) (d : ℕ → ℕ) (n : ℕ) → number_with_digits q (listed (n + 1) d) ≡ number_with_digits q (listed n d) * q + d n
number_more q d n = ap (number_with_digits q) (map-range_with_len_more d 0 n n (omega arith)) ∙ number_with_digits-push q (listed n d) (d n)

-- ---- digits below the base

listed_below : (q : ℕ) (d : ℕ → ℕ) (n : ℕ) → ((j : ℕ) → j < n → d j < q) → All (λ digit. digit < q) (listed n d)
listed_below q d n h j default lt =
    let inside : j < n = omega (arith, listed_length n d) in
    rw (listed_at n d j default inside) (h j inside)

pub number_below : (q : ℕ) (d : ℕ → ℕ) (n : ℕ) → ((j : ℕ) → j < n → d j < q) → number_with_digits q (listed n d) < q ^ n
number_below q d n h =
    subst (λ k. number_with_digits q (listed n d) < q ^ k) (listed_length n d) (number_with_digits-below q (listed n d) (listed_below q d n h))

-- the digits of a number that has these digits
pub digit_of_number : (q : ℕ) (d : ℕ → ℕ) (n j : ℕ) → ((k : ℕ) → k < n → d k < q) → j < n → get_or (digits q n (number_with_digits q (listed n d))) j 0 ≡ d j
digit_of_number q d n j h lt =
    let number = number_with_digits q (listed n d) in
    let same : digits q n number ≡ listed n d =
    ap (λ k. digits q k number) (sym (listed_length n d)) ∙ digits_of_their_number q (listed n d) (listed_below q d n h) in
    ap (λ (ds : List ℕ). get_or ds j 0) same ∙ listed_at n d j 0 lt

-- a number is that of its digits
pub number_of_digits : (q n b : ℕ) → 0 < q → b < q ^ n → number_with_digits q (listed n (λ j. get_or (digits q n b) j 0)) ≡ b
number_of_digits q n b positive below =
    ap (number_with_digits q) (sym (listed_is n (λ j. get_or (digits q n b) j 0) 0 (digits q n b) (digits_length q n b) (λ j lt. refl)))
    ∙ number_of_its_digits q n b positive below
