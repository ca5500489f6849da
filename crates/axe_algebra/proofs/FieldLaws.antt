-- The laws of a field beyond those of its record.
use Rattle.std.specs.Prelude.{◌≡◌, ◌≢◌}
use Rattle.axe_algebra.specs.Field.{Field}
use mathlib.Core.Path.{sym, ◌∙◌, ap}

module _ (F : Field) where
  open F use {Element, zero as 𝟘, one as 𝟙, add as ◌⊕◌, mul as ◌⊗◌, neg, inv, add_comm, add_assoc, add-zero, add-neg, mul_comm, mul_assoc, mul-one, mul-add, mul-inv}

  infixl 60 ◌⊕◌
  infixl 70 ◌⊗◌
  pub zero-add : (a : Element) → 𝟘 ⊕ a ≡ a
  zero-add a = add_comm 𝟘 a ∙ add-zero a

  pub neg-add : (a : Element) → neg a ⊕ a ≡ 𝟘
  neg-add a = add_comm (neg a) a ∙ add-neg a

  pub add_left_comm : (a b c : Element) → a ⊕ (b ⊕ c) ≡ b ⊕ (a ⊕ c)
  add_left_comm a b c = sym (add_assoc a b c) ∙ ap (λ x. x ⊕ c) (add_comm a b) ∙ add_assoc b a c

  pub mul_left_comm : (a b c : Element) → a ⊗ (b ⊗ c) ≡ b ⊗ (a ⊗ c)
  mul_left_comm a b c = sym (mul_assoc a b c) ∙ ap (λ x. x ⊗ c) (mul_comm a b) ∙ mul_assoc b a c

  pub add_swap : (a b c d : Element) → (a ⊕ b) ⊕ (c ⊕ d) ≡ (a ⊕ c) ⊕ (b ⊕ d)
  add_swap a b c d = simp (add_assoc, add_left_comm)

  pub add_cancel : (a b c : Element) → a ⊕ b ≡ a ⊕ c → b ≡ c
  add_cancel a b c e = sym (back b) ∙ ap (λ x. neg a ⊕ x) e ∙ back c
    where
      back : (x : Element) → neg a ⊕ (a ⊕ x) ≡ x
      back x = sym (add_assoc (neg a) a x) ∙ ap (λ y. y ⊕ x) (neg-add a) ∙ zero-add x

  pub neg_is : (a b : Element) → a ⊕ b ≡ 𝟘 → b ≡ neg a
  neg_is a b e = add_cancel a b (neg a) (e ∙ sym (add-neg a))

  pub neg-neg : (a : Element) → neg (neg a) ≡ a
  neg-neg a = sym (neg_is (neg a) a (neg-add a))

  pub neg-zero : neg 𝟘 ≡ 𝟘
  neg-zero = sym (neg_is 𝟘 𝟘 (add-zero 𝟘))

  pub neg-sum_of_two : (a b : Element) → neg (a ⊕ b) ≡ neg a ⊕ neg b
  neg-sum_of_two a b = sym (neg_is (a ⊕ b) (neg a ⊕ neg b) (add_swap a b (neg a) (neg b) ∙ ap (λ x. x ⊕ (b ⊕ neg b)) (add-neg a) ∙ zero-add (b ⊕ neg b) ∙ add-neg b))

  pub same_of_difference : (a b : Element) → a ⊕ neg b ≡ 𝟘 → a ≡ b
  same_of_difference a b e = add_cancel (neg b) a b (add_comm (neg b) a ∙ e ∙ sym (neg-add b))

  pub difference_of_same : (a b : Element) → a ≡ b → a ⊕ neg b ≡ 𝟘
  difference_of_same a b e = ap (λ x. x ⊕ neg b) e ∙ add-neg b

  pub one-mul : (a : Element) → 𝟙 ⊗ a ≡ a
  one-mul a = mul_comm 𝟙 a ∙ mul-one a

  pub add-mul : (a b c : Element) → (a ⊕ b) ⊗ c ≡ a ⊗ c ⊕ b ⊗ c
  add-mul a b c = mul_comm (a ⊕ b) c ∙ mul-add c a b ∙ ap (λ x. x ⊕ c ⊗ b) (mul_comm c a) ∙ ap (λ x. a ⊗ c ⊕ x) (mul_comm c b)

  pub mul-zero : (a : Element) → a ⊗ 𝟘 ≡ 𝟘
  mul-zero a = add_cancel (a ⊗ 𝟘) (a ⊗ 𝟘) 𝟘 (sym (mul-add a 𝟘 𝟘) ∙ ap (λ x. a ⊗ x) (add-zero 𝟘) ∙ sym (add-zero (a ⊗ 𝟘)))

  pub zero-mul : (a : Element) → 𝟘 ⊗ a ≡ 𝟘
  zero-mul a = mul_comm 𝟘 a ∙ mul-zero a

  pub mul-neg : (a b : Element) → a ⊗ neg b ≡ neg (a ⊗ b)
  mul-neg a b = neg_is (a ⊗ b) (a ⊗ neg b) (sym (mul-add a b (neg b)) ∙ ap (λ x. a ⊗ x) (add-neg b) ∙ mul-zero a)

  pub neg-mul : (a b : Element) → neg a ⊗ b ≡ neg (a ⊗ b)
  neg-mul a b = mul_comm (neg a) b ∙ mul-neg b a ∙ ap neg (mul_comm b a)

  pub inv-mul : (a : Element) → a ≢ 𝟘 → inv a ⊗ a ≡ 𝟙
  inv-mul a nonzero = mul_comm (inv a) a ∙ mul-inv a nonzero

  pub other_factor : (a b : Element) → a ⊗ b ≡ 𝟘 → a ≢ 𝟘 → b ≡ 𝟘
  other_factor a b e nonzero =
      sym (one-mul b) ∙ ap (λ x. x ⊗ b) (sym (inv-mul a nonzero)) ∙ mul_assoc (inv a) a b ∙ ap (λ x. inv a ⊗ x) e ∙ mul-zero (inv a)

  pub neg_nonzero : (a : Element) → a ≢ 𝟘 → neg a ≢ 𝟘
  neg_nonzero a nonzero e = nonzero (sym (neg-neg a) ∙ ap neg e ∙ neg-zero)

  pub inv_nonzero : (a : Element) → a ≢ 𝟘 → inv a ≢ 𝟘
  inv_nonzero a nonzero e = F.one-not-zero (sym (mul-inv a nonzero) ∙ ap (λ x. a ⊗ x) e ∙ mul-zero a)
