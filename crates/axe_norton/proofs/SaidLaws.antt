-- What a word says of a module is true of it.
use Rattle.std.specs.Prelude.{◌⊎◌, Some, None}
use Rattle.axe_spin.specs.Modules.{ModuleValue, IsModule}
use Rattle.axe_word.specs.Words.{WordValue, IsWordIn}
use Rattle.axe_word.specs.declared.tested.Tested.{Tested}
use Rattle.axe_word.specs.Tested.{IsTestedBy}
use Rattle.axe_norton.specs.declared.verdicts.At.{At}
use Rattle.axe_norton.specs.declared.verdicts.At.TheVariants.{Irreducible, Reducible, Left}
use Rattle.axe_norton.specs.Spaces.{IsProperSubmodule}
use Rattle.axe_norton.specs.Verdicts.{ShowsReducible, TellsByPoints, TellsByFactor, Tells, Says, IsTrueOf}
use Rattle.axe_norton.proofs.TestedLaws.{value_square}
use Rattle.axe_norton.proofs.TruthLaws.{irreducible_is_true, reducible_is_true}
use Rattle.axe_norton.proofs.OneVectorLaws.{told_is_true, fitting_fits_word, tested_at_value}
use mathlib.Core.Logic.{inl, inr}

module _ (m : ModuleValue) (is : IsModule m) where
  -- what points tell of a word's value
  pub points_are_true : (word : WordValue) (t : Tested) (answer : At) → IsWordIn m word → IsTestedBy m word t →
      TellsByPoints m t.matrix t.null_space answer → IsTrueOf m answer
  points_are_true word t (Irreducible None v) is_word is_tested tells = irreducible_is_true m is word t v is_word is_tested tells
  points_are_true word t (Irreducible (Some p) v) is_word is_tested tells = absurd tells
  points_are_true word t (Reducible space) is_word is_tested tells =
      reducible_is_true m is t space (value_square m word t.matrix is_tested.value) is_tested.tested tells
  points_are_true word t Left is_word is_tested tells = tt

  -- what the first small factor that fits tells of it
  pub factor_is_true : (word : WordValue) (t : Tested) (answer : At) → IsWordIn m word → IsTestedBy m word t →
      TellsByFactor m t.matrix t.null_space answer → IsTrueOf m answer
  factor_is_true word t answer is_word is_tested tells =
      told_is_true m word tells.poly (fitting_fits_word m word t.matrix is_tested.value tells.poly tells.first.fitting) tells.tested
      (tested_at_value m word t.matrix is_tested.value tells.poly tells.tested tells.is_tested) is is_word answer tells.tells

  -- what both tell of it
  pub tells_the_truth : (word : WordValue) (t : Tested) (answer : At) → IsWordIn m word → IsTestedBy m word t →
      Tells m t.matrix t.null_space answer → IsTrueOf m answer
  tells_the_truth word t (Irreducible None v) is_word is_tested tells = points_are_true word t (Irreducible None v) is_word is_tested tells
  tells_the_truth word t (Irreducible (Some p) v) is_word is_tested tells = factor_is_true word t (Irreducible (Some p) v) is_word is_tested tells
  tells_the_truth word t (Reducible space) is_word is_tested tells = by_reason tells
    where
      by_reason : ShowsReducible m t.matrix t.null_space space ⊎ TellsByFactor m t.matrix t.null_space (Reducible space) → IsProperSubmodule m space
      by_reason (inl shows) = points_are_true word t (Reducible space) is_word is_tested shows
      by_reason (inr factor) = factor_is_true word t (Reducible space) is_word is_tested factor
  tells_the_truth word t Left is_word is_tested tells = tt

  -- what a word says
  pub said_is_true : (word : WordValue) (answer : At) → IsWordIn m word → Says m word answer → IsTrueOf m answer
  said_is_true word answer is_word says = tells_the_truth word says.tested answer is_word says.is_tested says.tells
