-- Leaving one place out of a sequence, and putting one in.
use Rattle.std.specs.Prelude.{◌≡◌, ◌≢◌, ℕ, zero, suc, pred, ◌<◌, ◌≤◌, cond, eqb, ltb}
use Rattle.axe_algebra.specs.Field.{Field}
use Rattle.axe_algebra.specs.Vectors.{sum}
use Rattle.axe_algebra.proofs.Sums.{sum_same, sum_more, sum_none}
use Rattle.std.proofs.lemmas.Bool.{cond_both, eq-eqb, ne_eqb, lt-ltb, le-ltb}
use mathlib.Core.Path.{refl, sym, ◌∙◌, ap, ap₂}
use native.Mathlib.Omega.{arith}
use native.Mathlib.Decide.{ℕ_discrete, dec_lt}

-- the numbers other than p, in order
pub skip : ℕ → ℕ → ℕ
skip p i = cond (ltb i p) i (suc i)

pub skip_before : (p i : ℕ) → i < p → skip p i ≡ i
unfolding skip
skip_before p i before = ap (λ b. cond b i (suc i)) (lt-ltb i p before)

pub skip_after : (p i : ℕ) → p ≤ i → skip p i ≡ suc i
unfolding skip
skip_after p i after = ap (λ b. cond b i (suc i)) (le-ltb i p after)

pub skip-below : (p k i : ℕ) → i < k → skip p i < suc k
skip-below p k i below = cases (dec_lt i p)
  where
    cases : Dec (i < p) → skip p i < suc k
    cases (yes before) = omega (arith, skip_before p i before)
    cases (no after) = omega (arith, skip_after p i (omega arith))

pub skip_avoids : (p i : ℕ) → skip p i ≢ p
skip_avoids p i = cases (dec_lt i p)
  where
    cases : Dec (i < p) → skip p i ≢ p
    cases (yes before) = omega (arith, skip_before p i before)
    cases (no after) = omega (arith, skip_after p i (omega arith))

-- each other number is one of them
pub skipped : (p k i : ℕ) → p ≤ k → i < suc k → i ≢ p → (j : ℕ) × (j < k) × (skip p j ≡ i)
skipped p k i within below other = cases (dec_lt i p)
  where
    cases : Dec (i < p) → (j : ℕ) × (j < k) × (skip p j ≡ i)
    cases (yes before) = (i, omega arith, skip_before p i before)
    cases (no after) = (pred i, omega arith, skip_after p (pred i) (omega arith) ∙ omega arith)

-- f with x put in at place p
pub put_in : {A : Type 0} → ℕ → A → (ℕ → A) → ℕ → A
put_in p x f i = cond (eqb i p) x (cond (ltb i p) (f i) (f (pred i)))

pub put_in_at : {A : Type 0} (p : ℕ) (x : A) (f : ℕ → A) → put_in p x f p ≡ x
unfolding put_in
put_in_at p x f = ap (λ b. cond b x (cond (ltb p p) (f p) (f (pred p)))) (eq-eqb p p refl)

pub put_in_skip : {A : Type 0} (p : ℕ) (x : A) (f : ℕ → A) (i : ℕ) → put_in p x f (skip p i) ≡ f i
unfolding put_in
put_in_skip {A} p x f i =
    ap (λ b. cond b x (cond (ltb (skip p i) p) (f (skip p i)) (f (pred (skip p i))))) (ne_eqb (skip p i) p (skip_avoids p i))
    ∙ cases (dec_lt i p)
  where
    cases : Dec (i < p) → cond (ltb (skip p i) p) (f (skip p i)) (f (pred (skip p i))) ≡ f i
    cases (yes before) =
        ap (λ b. cond b (f (skip p i)) (f (pred (skip p i)))) (lt-ltb (skip p i) p (omega (arith, skip_before p i before)))
        ∙ ap f (skip_before p i before)
    cases (no after) =
        ap (λ b. cond b (f (skip p i)) (f (pred (skip p i)))) (le-ltb (skip p i) p (omega (arith, skip_after p i (omega arith))))
        ∙ ap f (ap pred (skip_after p i (omega arith)))

-- what holds of x and of each value of f holds of each value with x put in
pub put_in_all : {A : Type 0} (P : A → Type 0) (p : ℕ) (x : A) (f : ℕ → A) → P x → ((i : ℕ) → P (f i)) → (t : ℕ) → P (put_in p x f t)
unfolding put_in
put_in_all P p x f of_x of_f t =
    cond_both (eqb t p) x (cond (ltb t p) (f t) (f (pred t))) P (λ e. of_x)
    (λ e. cond_both (ltb t p) (f t) (f (pred t)) P (λ d. of_f t) (λ d. of_f (pred t)))

module _ (F : Field) where
  open F use {Element, add as ◌⊕◌}

  infixl 60 ◌⊕◌
  -- a sum by one of its terms and the others
  pub sum_skip : (k p : ℕ) (f : ℕ → Element) → p ≤ k → sum F (suc k) f ≡ f p ⊕ sum F k (λ i. f (skip p i))
  sum_skip zero p f within =
      sum_more F 0 f ∙ F.add_comm (sum F 0 f) (f 0)
      ∙ ap₂ ◌⊕◌ (let e : 0 ≡ p = omega arith in ap f e) (sum_none F f ∙ sym (sum_none F (λ i. f (skip p i))))
  sum_skip (suc k) p f within = sum_more F (suc k) f ∙ cases (sum_skip k p f) (ℕ_discrete p (suc k))
    where
      cases : (p ≤ k → sum F (suc k) f ≡ f p ⊕ sum F k (λ i. f (skip p i))) → Dec (p ≡ suc k) →
          sum F (suc k) f ⊕ f (suc k) ≡ f p ⊕ sum F (suc k) (λ i. f (skip p i))
      cases shorter (yes e) =
          F.add_comm (sum F (suc k) f) (f (suc k))
          ∙ ap₂ ◌⊕◌ (ap f (sym e)) (sum_same F (suc k) f (λ i. f (skip p i)) (λ i below. ap f (sym (skip_before p i (omega arith)))))
      cases shorter (no other) =
          ap₂ ◌⊕◌ (shorter (omega arith)) (ap f (sym (skip_after p k (omega arith))))
          ∙ F.add_assoc (f p) (sum F k (λ i. f (skip p i))) (f (skip p k))
          ∙ ap (λ x. f p ⊕ x) (sym (sum_more F k (λ i. f (skip p i))))
