-- Unit vectors as lists.
use Rattle.std.proofs.Common.{◌≡◌, ◌≢◌, ℕ, ◌<◌, List, length, get_or, set, replicate, cond, eqb, inl, inr, refl, sym, ◌∙◌, arith, get_or-set_other, get_or-set_same}
use Rattle.std.proofs.lemmas.Bool.{cases_eq, eq-eqb, ne_eqb}
use Rattle.std.proofs.lemmas.List.{ext_get_or, get_or-replicate, length-replicate, length-set}
use Rattle.axe_algebra.specs.Lists.{unit_row}
use Rattle.axe_algebra.proofs.ListEntries.{listed_length, listed_at}

-- n zeros
abbrev pub zeros : ℕ → List ℕ
zeros n = replicate n 0

zeros-length : (n : ℕ) → length (zeros n) ≡ n
zeros-length n = length-replicate n 0

-- a list of zeros with a 1 at i
pub unit_row-set : (n i : ℕ) → i < n → set (zeros n) i 1 ≡ unit_row n i
unit_row-set n i inside =
    ext_get_or 0 (set (zeros n) i 1) (unit_row n i) (long ∙ sym (listed_length n (λ j. cond (eqb i j) 1 0))) (λ j below.
    let within : j < n = omega (arith, below, long) in at j within ∙ sym (listed_at n (λ j. cond (eqb i j) 1 0) j 0 within))
  where
    long : length (set (zeros n) i 1) ≡ n
    long = length-set (zeros n) i 1 ∙ zeros-length n

    at : (j : ℕ) → j < n → get_or (set (zeros n) i 1) j 0 ≡ cond (eqb i j) 1 0
    at j below =
        elim (cases_eq i j) [
          | inl e ↦
              let within : j < length (zeros n) = omega (arith, zeros-length n) in
              rw (e, eq-eqb j j refl) (get_or-set_same (zeros n) j 1 0 within)
          | inr other ↦
              let elsewhere : j ≢ i = omega arith in
              rw (ne_eqb i j other) (get_or-set_other (zeros n) i j 1 0 elsewhere ∙ get_or-replicate n j 0 0 below)
        ]
