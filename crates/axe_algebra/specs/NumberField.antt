-- A finite field whose elements are numbers: how the code knows its fields.
use Rattle.std.specs.Prelude.{◌≡◌, ◌≢◌, ℕ, ◌<◌}

-- a field whose elements are the numbers below its order, each law on elements alone
-- (a commutative ring with 1 other than 0 in which each nonzero element has an inverse)
pub record NumberField : Type 0 where
  pub order : ℕ
  pub add : ℕ → ℕ → ℕ
  pub neg : ℕ → ℕ
  pub mul : ℕ → ℕ → ℕ
  pub inv : ℕ → ℕ
  pub one-below : 1 < order
  pub add-below : (a b : ℕ) → a < order → b < order → add a b < order
  pub neg-below : (a : ℕ) → a < order → neg a < order
  pub mul-below : (a b : ℕ) → a < order → b < order → mul a b < order
  pub inv-below : (a : ℕ) → a < order → inv a < order
  pub add_comm : (a b : ℕ) → a < order → b < order → add a b ≡ add b a
  pub add_assoc : (a b c : ℕ) → a < order → b < order → c < order → add (add a b) c ≡ add a (add b c)
  pub add-zero : (a : ℕ) → a < order → add a 0 ≡ a
  pub add-neg : (a : ℕ) → a < order → add a (neg a) ≡ 0
  pub mul_comm : (a b : ℕ) → a < order → b < order → mul a b ≡ mul b a
  pub mul_assoc : (a b c : ℕ) → a < order → b < order → c < order → mul (mul a b) c ≡ mul a (mul b c)
  pub mul-one : (a : ℕ) → a < order → mul a 1 ≡ a
  pub mul-add : (a b c : ℕ) → a < order → b < order → c < order → mul a (add b c) ≡ add (mul a b) (mul a c)
  pub mul-inv : (a : ℕ) → a < order → a ≢ 0 → mul a (inv a) ≡ 1
