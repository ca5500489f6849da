use Rattle.std.proofs.Common.{◌≡◌, ℕ, ◌<◌, ◌/◌, ◌%◌, ◌^◌, length, get_or}
use Rattle.axe_field.specs.Order.{order_number}
use Rattle.axe_poly.proofs.digits.Digits.set_number.Given as goal

abbrev pub invariant-loop-index : goal.invariant-loop-index
invariant-loop-index l = record {
  order : l.self.order ≡ l.fn.self.order;
  as_long : length l.self.entries ≡ length l.fn.self.entries;
  left_is : l.left ≡ l.number / order_number l.fn.self.order ^ l.index;
  digits : (j : ℕ) → j < l.index →
      get_or l.self.entries j 0 ≡ l.number / order_number l.fn.self.order ^ j % order_number l.fn.self.order;
}
