-- From lists of element numbers to vectors and matrices over the field that a field of numbers is.
use Prim.Native.Nat.{suc-le-suc, zero-le}
use Rattle.std.specs.Prelude.{◌≡◌, ◌≢◌, ℕ, ◌<◌, List, [], map, length, get_or}
use Rattle.axe_algebra.specs.NumberField.{NumberField}
use Rattle.axe_algebra.specs.Field.{Field}
use Rattle.axe_algebra.specs.Vectors.{Vector, Matrix}
use Rattle.axe_algebra.specs.Modules.{Module}
use Rattle.axe_algebra.specs.Words.{Word}
use mathlib.Core.Path.{ap}
use mathlib.Core.HLevel.{Σ_prop_path}
use native.Mathlib.Bridge.{le_prop}
use native.Mathlib.Decide.{ℕ_discrete, dec_lt, map_dec}
use native.Mathlib.Nat.{le_trans, suc-ne-zero}

-- an element of a field of numbers: a number below the order
abbrev pub ElementOf : NumberField → Type 0
ElementOf K = (number : ℕ) × (number < K.order)

-- elements with one number are the same
pub same_element : (K : NumberField) (a b : ElementOf K) → a.0 ≡ b.0 → a ≡ b
same_element K a b e = Σ_prop_path (λ n. le_prop) e

-- equality of elements is decided on their numbers
pub element_is_discrete : (K : NumberField) (a b : ElementOf K) → Dec (a ≡ b)
element_is_discrete K a b = map_dec (same_element K a b) (ap (λ (x : ElementOf K). x.0)) (ℕ_discrete a.0 b.0)

-- the element 0
abbrev pub zero_of : (K : NumberField) → ElementOf K
zero_of K = (0, le_trans (suc-le-suc zero-le) K.one-below)

-- the element 1
abbrev pub one_of : (K : NumberField) → ElementOf K
one_of K = (1, K.one-below)

-- the elements 0 and 1 differ
pub one_is_not_zero : (K : NumberField) → one_of K ≢ zero_of K
one_is_not_zero K e = suc-ne-zero 0 (ap (λ (x : ElementOf K). x.0) e)

-- the field whose elements are the numbers below the order
abbrev pub field_of : NumberField → Field
field_of K = record {
  Element = ElementOf K;
  zero = zero_of K;
  one = one_of K;
  add = λ a b. (K.add a.0 b.0, K.add-below a.0 b.0 a.1 b.1);
  neg = λ a. (K.neg a.0, K.neg-below a.0 a.1);
  mul = λ a b. (K.mul a.0 b.0, K.mul-below a.0 b.0 a.1 b.1);
  inv = λ a. (K.inv a.0, K.inv-below a.0 a.1);
  is_discrete = element_is_discrete K;
  one-not-zero = one_is_not_zero K;
  add_comm = λ a b. same_element K _ _ (K.add_comm a.0 b.0 a.1 b.1);
  add_assoc = λ a b c. same_element K _ _ (K.add_assoc a.0 b.0 c.0 a.1 b.1 c.1);
  add-zero = λ a. same_element K _ _ (K.add-zero a.0 a.1);
  add-neg = λ a. same_element K _ _ (K.add-neg a.0 a.1);
  mul_comm = λ a b. same_element K _ _ (K.mul_comm a.0 b.0 a.1 b.1);
  mul_assoc = λ a b c. same_element K _ _ (K.mul_assoc a.0 b.0 c.0 a.1 b.1 c.1);
  mul-one = λ a. same_element K _ _ (K.mul-one a.0 a.1);
  mul-add = λ a b c. same_element K _ _ (K.mul-add a.0 b.0 c.0 a.1 b.1 c.1);
  mul-inv = λ a nonzero. same_element K _ _ (K.mul-inv a.0 a.1 (λ e. nonzero (same_element K a (zero_of K) e)));
}

-- the element with a number, and 0 where no element has it
unfoldable pub element_by : (K : NumberField) (number : ℕ) → Dec (number < K.order) → ElementOf K
element_by K number (yes below) = (number, below)
element_by K number (no above) = zero_of K

-- the element with a number, and 0 where the number is too great
unfoldable pub element : (K : NumberField) → ℕ → ElementOf K
unfolding element_by
element K number = element_by K number (dec_lt number K.order)

-- the vector with the entries of a list: entry j is the element with the number at j, and 0 past the end
abbrev pub vector_of : (K : NumberField) → List ℕ → Vector (field_of K)
vector_of K entries = λ j. element K (get_or entries j 0)

-- the matrix with the rows of a list: entry i, j is the element with the number there, and 0 outside
abbrev pub matrix_of : (K : NumberField) → List (List ℕ) → Matrix (field_of K)
matrix_of K rows = λ i j. element K (get_or (get_or rows i []) j 0)

-- the module whose generators are listed, each as the list of its rows
abbrev pub module_of : (K : NumberField) → ℕ → List (List (List ℕ)) → Module (field_of K)
module_of K dimension generators = record {
  dimension = dimension;
  count = length generators;
  generator = λ i. matrix_of K (get_or generators i []);
}

-- the word whose terms are listed, each as the number of its coefficient and its generator numbers
abbrev pub word_of : (K : NumberField) → List (ℕ × List ℕ) → Word (field_of K)
word_of K terms = map (λ (term : ℕ × List ℕ). (element K term.0, term.1)) terms
