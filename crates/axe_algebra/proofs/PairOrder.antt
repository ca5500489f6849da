-- The order of pairs of a row and a generator, in which the rows of a standard basis come.
use Rattle.std.proofs.Common.{◌≡◌, ℕ, suc, ◌+◌, ◌<◌, ◌≤◌, ◌⊎◌, inl, inr, refl, sym, subst, ◌∙◌, arith}
use Rattle.axe_algebra.specs.Standard.{Precedes}
use native.Mathlib.Decide.{dec_lt, ℕ_discrete}

-- the lexicographic order of pairs is transitive
pub precedes_trans : (a b c d e f : ℕ) → Precedes a b c d → Precedes c d e f → Precedes a b e f
precedes_trans a b c d e f (inl p) (inl q) = inl (omega arith)
precedes_trans a b c d e f (inl p) (inr q) = inl (omega arith)
precedes_trans a b c d e f (inr p) (inl q) = inl (omega arith)
precedes_trans a b c d e f (inr p) (inr q) = inr (omega arith, omega arith)

-- of two pairs one comes before the other, or they are the same
pub precedes_or_same : (a b c d : ℕ) → Precedes a b c d ⊎ (Precedes c d a b ⊎ ((a ≡ c) × (b ≡ d)))
precedes_or_same a b c d = by_first (dec_lt a c) (dec_lt c a) (dec_lt b d) (dec_lt d b)
  where
    by_first : Dec (a < c) → Dec (c < a) → Dec (b < d) → Dec (d < b) → Precedes a b c d ⊎ (Precedes c d a b ⊎ ((a ≡ c) × (b ≡ d)))
    by_first (yes p) _ _ _ = inl (inl p)
    by_first (no p) (yes q) _ _ = inr (inl (inl q))
    by_first (no p) (no q) (yes r) _ = inl (inr (omega arith, r))
    by_first (no p) (no q) (no r) (yes s) = inr (inl (inr (omega arith, s)))
    by_first (no p) (no q) (no r) (no s) = inr (inr (omega arith, omega arith))

pub not_both_precede : (a b c d : ℕ) → Precedes a b c d → ¬ (Precedes c d a b)
not_both_precede a b c d (inl e) (inl f) = omega arith
not_both_precede a b c d (inl e) (inr f) = omega (arith, f.0)
not_both_precede a b c d (inr e) (inl f) = omega (arith, e.0)
not_both_precede a b c d (inr e) (inr f) = omega (arith, e.1, f.1)

pub never_precedes_itself : (a b : ℕ) → ¬ (Precedes a b a b)
never_precedes_itself a b (inl e) = omega arith
never_precedes_itself a b (inr e) = omega (arith, e.1)

pub nothing_precedes_start : (a b : ℕ) → ¬ (Precedes a b 0 0)
nothing_precedes_start a b (inl e) = omega arith
nothing_precedes_start a b (inr e) = omega (arith, e.1)

pub precedes_next : (c d : ℕ) → Precedes c d c (suc d)
precedes_next c d = inr (refl, omega arith)

pub precedes_later : (a b c d : ℕ) → Precedes a b c d → Precedes a b c (suc d)
precedes_later a b c d (inl e) = inl e
precedes_later a b c d (inr e) = inr (e.0, omega (arith, e.1))

-- what precedes the next pair precedes this one, or is it
pub precedes_or_is : (a b c d : ℕ) → Precedes a b c (suc d) → Precedes a b c d ⊎ ((a ≡ c) × (b ≡ d))
precedes_or_is a b c d (inl e) = inl (inl e)
precedes_or_is a b c d (inr e) = elim (ℕ_discrete b d) [ yes same ↦ inr (e.0, same) | no other ↦ inl (inr (e.0, omega (arith, other, e.1))) ]

pub precedes_in_row : (a b c d : ℕ) → Precedes a b c d → Precedes a b (c + 1) 0
precedes_in_row a b c d (inl e) = inl (omega arith)
precedes_in_row a b c d (inr e) = inl (omega (arith, e.0))

-- what precedes the first pair of the next row precedes each pair that is not of this row
pub precedes_before_row : (a b c count : ℕ) → Precedes a b (c + 1) 0 → b < count → Precedes a b c count
precedes_before_row a b c count (inl e) below =
    elim (ℕ_discrete a c) [ yes same ↦ inr (same, below) | no other ↦ inl (omega (arith, other)) ]
precedes_before_row a b c count (inr e) below = absurd (omega (arith, e.1))

-- a pair precedes another, or what precedes the other precedes it
pub preceding_or_past : (r i c d : ℕ) → Precedes r i c d ⊎ ((a b : ℕ) → Precedes a b c d → Precedes a b r i)
preceding_or_past r i c d = at (dec_lt r c) (ℕ_discrete r c) (dec_lt i d)
  where
    same : (a b : ℕ) → r ≡ c → d ≤ i → Precedes a b c d → Precedes a b r i
    same a b e more (inl x) = inl (omega arith)
    same a b e more (inr x) = inr (x.0 ∙ sym e, omega (arith, x.1))

    later : (a b : ℕ) → c < r → Precedes a b c d → Precedes a b r i
    later a b more (inl x) = inl (omega arith)
    later a b more (inr x) = inl (omega (arith, x.0))

    at : Dec (r < c) → Dec (r ≡ c) → Dec (i < d) → Precedes r i c d ⊎ ((a b : ℕ) → Precedes a b c d → Precedes a b r i)
    at (yes less) _ _ = inl (inl less)
    at (no no_less) (yes e) (yes below) = inl (inr (e, below))
    at (no no_less) (yes e) (no past) = inr (λ a b. same a b e (omega (arith, past)))
    at (no no_less) (no other) _ = inr (λ a b. later a b (omega (arith, no_less, other)))

-- the row of a pair that precedes another
pub row_of_preceding : (a b c d n : ℕ) → Precedes a b c d → c < n → a < n
row_of_preceding a b c d n (inl e) below = omega arith
row_of_preceding a b c d n (inr e) below = omega (arith, e.0)

pub precedes_at : (a b c d e f g h : ℕ) → a ≡ e → b ≡ f → c ≡ g → d ≡ h → Precedes e f g h → Precedes a b c d
precedes_at a b c d e f g h p q r s (inl x) = inl (omega arith)
precedes_at a b c d e f g h p q r s (inr x) = inr (p ∙ x.0 ∙ sym r, omega (arith, x.1))

-- pairs that are equal to others
pub not_preceding_at : (r i c d g h : ℕ) → c ≡ g → d ≡ h → ¬ (Precedes r i g h) → ¬ (Precedes r i c d)
not_preceding_at r i c d g h p q never e = never (precedes_at r i g h r i c d refl refl (sym p) (sym q) e)

-- nothing is between a pair and the next
pub nothing_between : (r i a b : ℕ) → Precedes r i a b → ¬ (Precedes a b r (i + 1))
nothing_between r i a b (inl e) (inl f) = omega arith
nothing_between r i a b (inl e) (inr f) = omega (arith, f.0)
nothing_between r i a b (inr e) (inl f) = omega (arith, e.0)
nothing_between r i a b (inr e) (inr f) = omega (arith, e.1, f.1)

pub precedes_pair : (a b r i c d : ℕ) → (r ≡ c) × (i ≡ d) → Precedes a b r i → Precedes a b c d
precedes_pair a b r i c d same e = subst (λ x. Precedes a b x d) same.0 (subst (λ x. Precedes a b r x) same.1 e)

pub pair_precedes : (r i a b c d : ℕ) → (r ≡ c) × (i ≡ d) → Precedes r i a b → Precedes c d a b
pair_precedes r i a b c d same e = subst (λ x. Precedes x d a b) same.0 (subst (λ x. Precedes r x a b) same.1 e)
