-- The deciding matrix is the value of a word, and that word is the same for all modules over one field with as many generators.
use Rattle.std.specs.Prelude.{◌≡◌, ℕ, ◌≤◌, List, All, length, Option, Some, None}
use Rattle.axe_algebra.specs.NumberField.{NumberField}
use Rattle.axe_algebra.specs.Modules.{Module}
use Rattle.axe_algebra.specs.Words.{Word, IsWordOf, word_value}
use Rattle.axe_algebra.specs.Bridge.{vector_of, module_of, word_of}
use Rattle.axe_algebra.specs.Lists.{IsSquareOver}
use Rattle.axe_algebra.proofs.ListModules.{module_shape}
use Rattle.axe_algebra.proofs.ListWords.{is_word}
use Rattle.axe_field.specs.Order.{Order, order_number}
use Rattle.axe_field.specs.NumberFields.{number_field, gf}
use Rattle.axe_poly.specs.Polys.{PolyValue}
use Rattle.axe_word.specs.Drawing.{drawn_word}
use Rattle.axe_word.proofs.DrawingLaws.{drawn_word-over}
use Rattle.axe_iso.specs.Forms.{deciding_matrix}
use Rattle.axe_iso.proofs.PolynomialWords.{polynomial_word, polynomial_word_is_word, polynomial_word_value}
use mathlib.Core.Path.{refl}

-- the drawn word, or a polynomial at it
abbrev pub deciding_word : (o : Order) → ℕ → ℕ → ℕ → Option PolyValue → Word (gf o)
deciding_word o count seed number None = word_of (number_field o) (drawn_word seed number (order_number o) count)
deciding_word o count seed number (Some p) =
    polynomial_word (gf o) (word_of (number_field o) (drawn_word seed number (order_number o) count)) (length p.coefficients)
    (vector_of (number_field o) p.coefficients)

module _ (o : Order) (dim : ℕ) (generators : List (List (List ℕ))) (some : 1 ≤ length generators) (seed number : ℕ) where
  abbrev K : NumberField
  K = number_field o

  abbrev M : Module (gf o)
  M = module_of K dim generators

  drawn_is_word : IsWordOf (gf o) M (word_of K (drawn_word seed number (order_number o) (length generators)))
  drawn_is_word = is_word K dim generators (drawn_word seed number (order_number o) (length generators))
      (drawn_word-over seed number (order_number o) (length generators) o refl some)

  -- it is a word in any generators that are as many
  pub is_deciding_word : (poly : Option PolyValue) → IsWordOf (gf o) M (deciding_word o (length generators) seed number poly)
  is_deciding_word None = drawn_is_word
  is_deciding_word (Some p) =
      polynomial_word_is_word (gf o) M (word_of K (drawn_word seed number (order_number o) (length generators))) drawn_is_word (length p.coefficients)
      (vector_of K p.coefficients)

  -- and its value is the deciding matrix
  pub deciding_value : All (IsSquareOver K dim) generators → (poly : Option PolyValue) →
      word_value (gf o) M (deciding_word o (length generators) seed number poly) ≡ deciding_matrix o dim generators seed number poly
  deciding_value squares None = refl
  deciding_value squares (Some p) =
      polynomial_word_value (gf o) M (module_shape K dim generators squares) (word_of K (drawn_word seed number (order_number o) (length generators)))
      drawn_is_word (length p.coefficients) (vector_of K p.coefficients)
