-- Polynomials by their numbers: products, by words of lanes and by bits; which polynomials of a degree are marked.
use Rattle.std.specs.Prelude.{◌≡◌, ℕ, ◌+◌, ◌-◌, ◌*◌, ◌/◌, ◌%◌, ◌^◌, ◌<◌, ◌≤◌, ◌↔◌, ◌⊎◌, min, List, [], length, get_or}
use Rattle.std.specs.Prelude.{Bool, false, IsTrue}
use Rattle.axe_algebra.specs.Bridge.{element, vector_of}
use Rattle.axe_algebra.specs.NumberField.{NumberField}
use Rattle.axe_algebra.specs.Vectors.{Vector}
use Rattle.axe_field.specs.NumberFields.{number_field, gf}
use Rattle.axe_field.specs.Order.{Order, order_number, prime_of}
use Rattle.axe_polynomial_algebra.specs.Polynomials.{convolution}
use Rattle.axe_polynomial_algebra.specs.PolynomialsOfLists.{Divides, IsIrreduciblePolynomial}
use Rattle.axe_poly.specs.Lanes.{lane_base, meaning, packed, term, IsLane, window}
use Rattle.axe_poly.specs.Numbering.{polynomial_with_number}
use Rattle.axe_poly.specs.Tables.{IrreduciblesValue}

-- the polynomial that has a number: its coefficient at j is digit j of the number, to the base of how many elements
-- there are
abbrev pub polynomial_of_number : (o : Order) → ℕ → Vector (gf o)
polynomial_of_number o x = λ j. element (number_field o) (x / order_number o ^ j % order_number o)

-- p times the polynomial with the number `cofactor` is the polynomial with the number `product`
pub record IsProductNumber (o : Order) (p : List ℕ) (cofactor product : ℕ) : Type 0 where
  pub equals : polynomial_of_number o product
      ≡ convolution (gf o) (vector_of (number_field o) p) (polynomial_of_number o cofactor)

-- the list has, for each element a, the word of the codes of a times the coefficients of p
pub record AreScalings (o : Order) (p : List ℕ) (scalings : List ℕ) : Type 0 where
  pub long : length scalings ≡ 9
  pub each : (a : ℕ) → a < order_number o →
      get_or scalings a 0 ≡ packed (lane_base o) (length p) (term o p a)

-- the lanes of a word, n of them, stand for the coefficients of p times the polynomial with the number `cofactor`: each
-- is a sum of no more codes than p has coefficients
pub record IsProductWord (o : Order) (p : List ℕ) (cofactor n word : ℕ) : Type 0 where
  pub lanes : ℕ → ℕ
  pub packed_is : word ≡ packed (lane_base o) n lanes
  pub each : (j : ℕ) → j < n → IsLane o (lanes j) (meaning o (lanes j)) ((prime_of o - 1) * min (j + 1) (length p))
  pub rest : vector_of (number_field o) (window o n lanes)
      ≡ convolution (gf o) (vector_of (number_field o) p) (polynomial_of_number o cofactor)

-- the number has as its digits, so many, what the lanes of a word stand for, from one on
pub record IsNumberOfLanes (o : Order) (from count word number : ℕ) : Type 0 where
  pub each : (j : ℕ) → j < count →
      number / order_number o ^ j % order_number o ≡ meaning o (word / lane_base o ^ (from + j) % lane_base o)
  pub small : number < order_number o ^ count

-- the number is that of a product of p and the polynomial with a number from `first` up to a bound
abbrev pub IsProductNumberBelow : Order → List ℕ → ℕ → ℕ → ℕ → Type 0
IsProductNumberBelow o p first bound number =
    (cofactor : ℕ) × (first ≤ cofactor) × (cofactor < bound) × IsProductNumber o p cofactor number

-- beside those that were marked before, the marked numbers from `start` on are those of products of p and the
-- polynomials with numbers from `first` up to a bound
pub record MarksProducts (o : Order) (p : List ℕ) (start first bound : ℕ) (before after : List Bool) : Type 0 where
  pub long : length after ≡ length before
  pub each : (index : ℕ) → index < length before →
      IsTrue (get_or after index false)
      ↔ (IsTrue (get_or before index false) ⊎ IsProductNumberBelow o p first bound (start + index))

-- the monic polynomial of degree d at an index: these polynomials by their numbers
abbrev pub monic_at : NumberField → ℕ → ℕ → List ℕ
monic_at K d index = polynomial_with_number K.order d (K.order ^ d + index)

-- beside those that were marked before, the marked monic polynomials of degree d are the multiples of p
pub record MarksMultiples (K : NumberField) (p : List ℕ) (d : ℕ) (before after : List Bool) : Type 0 where
  pub long : length after ≡ length before
  pub each : (index : ℕ) → index < length before →
      IsTrue (get_or after index false) ↔ (IsTrue (get_or before index false) ⊎ Divides K p (monic_at K d index))

-- the marked monic polynomials of the next degree are the multiples of the first so many polynomials of a table
pub record AreMarkedByFirst (t : IrreduciblesValue) (count : ℕ) (marks : List Bool) : Type 0 where
  pub long : let K = number_field t.order in length marks ≡ K.order ^ (t.degree + 1)
  pub each : let K = number_field t.order in (index : ℕ) → index < length marks →
      IsTrue (get_or marks index false)
      ↔ ((i : ℕ) × (i < count) × Divides K (get_or t.polynomials i []) (monic_at K (t.degree + 1) index))

-- a mark for each monic polynomial of degree d, by its number: whether it is reducible
pub record AreReducibleMarks (K : NumberField) (d : ℕ) (marks : List Bool) : Type 0 where
  pub long : length marks ≡ K.order ^ d
  pub each : (index : ℕ) → index < length marks →
      IsTrue (get_or marks index false) ↔ ¬ (IsIrreduciblePolynomial K (monic_at K d index))
