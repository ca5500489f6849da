-- Sums with multiples and multiples of rows of bytes: which bytes they have, and what multiples by 0 and by 1 are.
use Rattle.std.proofs.Common.{◌≡◌, ℕ, ◌+◌, ◌*◌, ◌%◌, ◌<◌, List, [], ◌∷◌, length, replicate, refl, sym, ap, ap₂, subst, ◌∙◌, arith}
use Rattle.std.proofs.lemmas.List.Elements.{All-map, All-head, All-tail}
use Rattle.std.proofs.Math.Nat.{mod-eq_of_lt}
use Rattle.axe_lane.specs.Bytes.{AreDigits, sum_with_multiple_modulo, multiple_modulo}
use Rattle.axe_lane.proofs.Progress.{All-zip2}
use Rattle.axe_lane.proofs.ResidueLaws.{below_mod}

module _ (p q m : ℕ) (some : 1 < q) (same : p ≡ q) (new : List ℕ) where
  pub sum_is_below : (a b : List ℕ) → new ≡ sum_with_multiple_modulo q a m b → AreDigits p new
  sum_is_below a b is =
      subst (λ k. AreDigits k new) (sym same)
      (subst (AreDigits q) (sym is) (All-zip2 (λ x y. (x + m * y) % q) (λ x. x < q) (λ x y. below_mod q (x + m * y) some) a b))

  pub multiple_is_below : (a : List ℕ) → new ≡ multiple_modulo q m a → AreDigits p new
  multiple_is_below a is =
      subst (λ k. AreDigits k new) (sym same)
      (subst (AreDigits q) (sym is) (All-map (λ x. x < q) (λ x. (m * x) % q) a (λ k d h. below_mod q _ some)))

module _ (p m : ℕ) where
  pub multiple_by_one : m ≡ 1 → (a : List ℕ) → AreDigits p a → a ≡ multiple_modulo p m a
  multiple_by_one one [] below = refl
  multiple_by_one one (x ∷ a) below =
      let product : m * x ≡ 1 * x = ap (λ k. k * x) one in
      let same : m * x ≡ x = omega arith in
      ap₂ (λ y rest. y ∷ rest) (sym (ap (λ z. z % p) same ∙ mod-eq_of_lt (All-head (λ y. y < p) x a below)))
      (multiple_by_one one a (All-tail (λ y. y < p) x a below))

  pub multiple_by_zero : m ≡ 0 → 1 < p → (a : List ℕ) → replicate (length a) 0 ≡ multiple_modulo p m a
  multiple_by_zero none some [] = refl
  multiple_by_zero none some (x ∷ a) =
      let product : m * x ≡ 0 * x = ap (λ k. k * x) none in
      let same : m * x ≡ 0 = omega arith in
      let positive : 0 < p = omega arith in
      ap₂ (λ y rest. y ∷ rest) (sym (ap (λ z. z % p) same ∙ mod-eq_of_lt positive)) (multiple_by_zero none some a)
