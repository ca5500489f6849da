-- The seven fields as fields whose elements are the numbers below their order.
use Rattle.axe_algebra.specs.Bridge.{field_of}
use Rattle.axe_algebra.specs.Field.{Field}
use Rattle.axe_algebra.specs.NumberField.{NumberField}
use Rattle.axe_field.specs.Order.{Order, order_number}
use Rattle.axe_field.specs.Arithmetic.{field_add, field_neg, field_mul, field_inv}
use Rattle.axe_field.specs.CheckedLaws.{order_number-above, field_add-below, field_neg-below, field_mul-below}
use Rattle.axe_field.specs.CheckedLaws.{field_inv-below, field_add_comm, field_add_assoc, field_add-zero, field_add-neg}
use Rattle.axe_field.specs.CheckedLaws.{field_mul_comm, field_mul_assoc, field_mul-one, field_mul-add, field_mul-inv}

-- the field of an order, with its laws
unfoldable pub number_field : Order → NumberField
number_field o = record {
  order = order_number o;
  add = field_add o;
  neg = field_neg o;
  mul = field_mul o;
  inv = field_inv o;
  one-below = order_number-above o;
  add-below = field_add-below o;
  neg-below = field_neg-below o;
  mul-below = field_mul-below o;
  inv-below = field_inv-below o;
  add_comm = field_add_comm o;
  add_assoc = field_add_assoc o;
  add-zero = field_add-zero o;
  add-neg = field_add-neg o;
  mul_comm = field_mul_comm o;
  mul_assoc = field_mul_assoc o;
  mul-one = field_mul-one o;
  mul-add = field_mul-add o;
  mul-inv = field_mul-inv o;
}

-- the finite field of an order, as the theory of linear algebra knows fields
abbrev pub gf : Order → Field
gf o = field_of (number_field o)
