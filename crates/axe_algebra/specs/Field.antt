-- What a field is.
use Rattle.std.specs.Prelude.{◌≡◌, ◌≢◌}

-- a commutative ring with 1 other than 0 in which each nonzero element has an inverse (any algebra text);
-- equality of elements is decidable
pub record Field : Type 1 where
  pub Element : Type 0
  pub zero : Element
  pub one : Element
  pub add : Element → Element → Element
  pub neg : Element → Element
  pub mul : Element → Element → Element
  pub inv : Element → Element
  pub is_discrete : (a b : Element) → Dec (a ≡ b)
  pub one-not-zero : one ≢ zero
  pub add_comm : (a b : Element) → add a b ≡ add b a
  pub add_assoc : (a b c : Element) → add (add a b) c ≡ add a (add b c)
  pub add-zero : (a : Element) → add a zero ≡ a
  pub add-neg : (a : Element) → add a (neg a) ≡ zero
  pub mul_comm : (a b : Element) → mul a b ≡ mul b a
  pub mul_assoc : (a b c : Element) → mul (mul a b) c ≡ mul a (mul b c)
  pub mul-one : (a : Element) → mul a one ≡ a
  pub mul-add : (a b c : Element) → mul a (add b c) ≡ add (mul a b) (mul a c)
  pub mul-inv : (a : Element) → a ≢ zero → mul a (inv a) ≡ one
