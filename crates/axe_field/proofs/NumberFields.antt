-- What the fields of numbers are made of.
use Rattle.std.proofs.Common.{◌≡◌, ℕ, refl}
use Rattle.axe_field.specs.Order.{Order, order_number}
use Rattle.axe_field.specs.Arithmetic.{field_add, field_neg, field_mul, field_inv}
use Rattle.axe_field.specs.NumberFields.{number_field}

pub number_field-order : (o : Order) → (number_field o).order ≡ order_number o
unfolding number_field
number_field-order o = refl

pub number_field-add : (o : Order) (a b : ℕ) → (number_field o).add a b ≡ field_add o a b
unfolding number_field
number_field-add o a b = refl

pub number_field-neg : (o : Order) (a : ℕ) → (number_field o).neg a ≡ field_neg o a
unfolding number_field
number_field-neg o a = refl

pub number_field-mul : (o : Order) (a b : ℕ) → (number_field o).mul a b ≡ field_mul o a b
unfolding number_field
number_field-mul o a b = refl

pub number_field-inv : (o : Order) (a : ℕ) → (number_field o).inv a ≡ field_inv o a
unfolding number_field
number_field-inv o a = refl
