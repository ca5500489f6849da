-- What the steps of the test tell, put together: what a word says, and what words decide.
use Rattle.std.specs.Prelude.{◌≡◌, ℕ, suc, ◌<◌, ◌≤◌, [], length, Some, None, Result}
use Rattle.axe_algebra.specs.Lists.{IsSquareOver}
use Rattle.axe_polynomial_algebra.specs.PolynomialsOfLists.{degree_of, IsMonicOver}
use Rattle.axe_field.specs.Order.{order_number}
use Rattle.axe_field.specs.NumberFields.{number_field}
use Rattle.axe_row.specs.Rows.{RowValue}
use Rattle.axe_row.specs.Refusals.{Answers}
use Rattle.axe_row.specs.declared.refusals.Refusal.{Refusal}
use Rattle.axe_matrix.specs.Matrices.{MatrixValue, IsMatrix}
use Rattle.axe_reduction.specs.Solutions.{IsInvertibleMatrix}
use Rattle.axe_echelon.specs.Echelons.{IsNullSpaceMatrix}
use Rattle.axe_echelon.proofs.Exits.{answers_more}
use Rattle.axe_poly.specs.Polys.{PolyValue}
use Rattle.axe_spin.specs.Modules.{ModuleValue, IsModule}
use Rattle.axe_word.specs.Words.{WordValue, IsWordIn}
use Rattle.axe_word.specs.declared.tested.Tested.{Tested}
use Rattle.axe_word.specs.Tested.{IsTestedAt, IsTestedBy}
use Rattle.axe_word.specs.Drawing.{drawn_word}
use Rattle.axe_word.specs.PointsOfMatrix.{most_points, point_count}
use Rattle.axe_norton.specs.declared.verdicts.At.{At}
use Rattle.axe_norton.specs.declared.verdicts.At.TheVariants.{Irreducible, Reducible, Left}
use Rattle.axe_norton.specs.Spaces.{HasFewPoints, TriedGenerate, TransposeGenerates, point_of}
use Rattle.axe_norton.specs.SmallFactors.{IsFittingFactor, IsFirstFitting}
use Rattle.axe_norton.specs.OneVector.{TellsByOne}
use Rattle.axe_norton.specs.declared.value_spaces.ValueSpaces.{ValueSpaces}
use Rattle.axe_norton.specs.ValueSpaces.{AreSpacesOf}
use Rattle.axe_norton.specs.Searches.{IsReducedIn, IsSquareIn, AreSingularSpaces, TellsByFirst}
use Rattle.axe_norton.specs.Verdicts.{IsLeftByPoints, TellsByPoints, Tells, Says, LeavesOpen, LeaveOpenBefore, DecidesAt, word_of_seed, IsTrueOf}
use Rattle.axe_norton.proofs.OpenLaws.{own_square, invertible_without_rows, no_rows_of_invertible, word_zero}
use Rattle.axe_norton.proofs.TestedLaws.{null_in_module}
use Rattle.axe_norton.proofs.SearchLaws.{some_point_in}
use Rattle.axe_norton.proofs.FactorLaws.{fits_by_rows}
use Rattle.axe_norton.proofs.SaidLaws.{said_is_true}
use mathlib.Core.Logic.{inl, inr}
use mathlib.Core.Path.{refl, sym, ◌∙◌, ap, subst}
use native.Mathlib.Omega.{arith}
use native.Mathlib.Decide.{dec_lt, ℕ_discrete}

-- ---- a square matrix and its null space

module _ (m : ModuleValue) (matrix null : MatrixValue) (square : IsSquareIn m matrix) (is : IsNullSpaceMatrix matrix null) (well_formed : IsMatrix null) where
  in_module : IsReducedIn m null
  in_module = null_in_module m matrix null square is

  pub left_without_rows : length null.rows ≡ 0 → TellsByPoints m matrix null Left
  left_without_rows none = inl (invertible_without_rows matrix null (own_square m matrix square) is none)

  pub singular_with_rows : 0 < length null.rows → ¬ (IsInvertibleMatrix matrix)
  singular_with_rows some invertible =
      let none : length null.rows ≡ 0 = no_rows_of_invertible matrix null (own_square m matrix square) is invertible in
      omega arith

  module _ (some : 0 < length null.rows) where
    pub irreducible_told : (v : RowValue) → HasFewPoints null → TriedGenerate m null → TransposeGenerates m matrix →
        v ≡ record { order = null.order; entries = point_of null 0 } → TellsByPoints m matrix null (Irreducible None v)
    irreducible_told v few generate transpose same = record {
      few = few;
      some_point = some_point_in m null in_module well_formed some;
      field = ap (λ (r : RowValue). r.order) same ∙ is.field ∙ square.field;
      first = ap (λ (r : RowValue). r.entries) same;
      generate = generate;
      transpose = transpose;
    }

    pub left_told : ¬ (HasFewPoints null) → TriedGenerate m null → TransposeGenerates m matrix → TellsByPoints m matrix null Left
    left_told many generate transpose = inr (record {
      many = by_size (dec_lt most_points (point_count (order_number null.order) (length null.rows)));
      first = generate 0 (record { below = some_point_in m null in_module well_formed some; first_or_few = inl refl });
      transpose = transpose;
    })
      where
        by_size : Dec (most_points < point_count (order_number null.order) (length null.rows)) →
            most_points < point_count (order_number null.order) (length null.rows)
        by_size (yes more) = more
        by_size (no not_more) = absurd (many (omega arith))

-- ---- the first small factor that fits

-- p(x), where p fits the square matrix x
module _ (m : ModuleValue) (x : MatrixValue) (square : IsSquareIn m x) (p : PolyValue) (fitting : IsFittingFactor x p) (t : Tested) (is : IsTestedAt p x t) where
  fitted_square : IsSquareIn m t.matrix
  fitted_square = record {
    field = is.value.field ∙ square.field;
    columns = is.value.columns ∙ square.columns;
    square = subst (λ n. IsSquareOver (number_field m.order) n t.matrix.rows) square.square.length_is
        (subst (λ o. IsSquareOver (number_field o) (length x.rows) t.matrix.rows) square.field is.value.value_is.square);
  }

  fitted_rows : 0 < length t.null_space.rows
  fitted_rows =
      let rows : length t.null_space.rows ≡ degree_of p.coefficients =
      (fits_by_rows x p t fitting.factor.field
      (subst (λ o. IsMonicOver (number_field o) p.coefficients) (sym fitting.factor.field) fitting.factor.factor.irreducible.over) is).0 fitting.fits in
      omega (arith, rows, fitting.factor.factor.irreducible.over.positive)

  -- it is singular
  pub fitted_spaces : (spaces : ValueSpaces) → AreSpacesOf t spaces → AreSingularSpaces m t spaces
  fitted_spaces spaces are = record { square = fitted_square; tested = is.tested; some_row = fitted_rows; of_tested = are }

module _ (m : ModuleValue) (x : MatrixValue) where
  -- it tells by one vector
  pub told_by_first : (p : PolyValue) (t : Tested) (result : Result At Refusal) → IsFirstFitting x p → IsTestedAt p x t →
      Answers None (TellsByOne m p t.matrix t.null_space) result → Answers None (TellsByFirst m x) result
  told_by_first p t result first is told = answers_more result (TellsByOne m p t.matrix t.null_space) (TellsByFirst m x) told told_so
    where
      told_so : (answer : At) → TellsByOne m p t.matrix t.null_space answer → TellsByFirst m x answer
      told_so (Irreducible by v) tells = record { poly = p; first = first; tested = t; is_tested = is; tells = tells }
      told_so (Reducible space) tells = record { poly = p; first = first; tested = t; is_tested = is; tells = tells }
      told_so Left tells = absurd tells

  -- and so does the matrix where the points leave the module open
  pub told_where_left : (null : MatrixValue) (result : Result At Refusal) → IsLeftByPoints m x null → Answers None (TellsByFirst m x) result →
      Answers None (Tells m x null) result
  told_where_left null result left told = answers_more result (TellsByFirst m x) (Tells m x null) told told_so
    where
      told_so : (answer : At) → TellsByFirst m x answer → Tells m x null answer
      told_so (Irreducible None v) found = absurd found.tells
      told_so (Irreducible (Some p) v) found =
          record { left = left; poly = found.poly; first = found.first; tested = found.tested; is_tested = found.is_tested; tells = found.tells }
      told_so (Reducible space) found =
          inr (record { left = left; poly = found.poly; first = found.first; tested = found.tested; is_tested = found.is_tested; tells = found.tells })
      told_so Left none = (left, none)

-- ---- a word

pub said_by : (m : ModuleValue) (word : WordValue) (t : Tested) (result : Result At Refusal) → IsTestedBy m word t →
    Answers None (Tells m t.matrix t.null_space) result → Answers None (Says m word) result
said_by m word t result is told = answers_more result (Tells m t.matrix t.null_space) (Says m word) told
    (λ answer tells. record { tested = t; is_tested = is; tells = tells })

pub truth_told : (m : ModuleValue) (word : WordValue) (result : Result At Refusal) → IsModule m → IsWordIn m word → Answers None (Says m word) result →
    Answers None (IsTrueOf m) result
truth_told m word result is is_word said = answers_more result (Says m word) (IsTrueOf m) said
    (λ answer says. said_is_true m is word answer is_word says)

-- ---- words of a seed

pub word_drawn : (m : ModuleValue) (seed j q k : ℕ) (word : WordValue) → word ≡ drawn_word seed j q k → q ≡ order_number m.order → k ≡ length m.generators →
    word ≡ word_of_seed m seed j
word_drawn m seed j q k word is order count = is ∙ ap (λ p. drawn_word seed j p k) order ∙ ap (drawn_word seed j (order_number m.order)) count

-- word 0 says what the word without terms says
pub said_by_word_zero : (m : ModuleValue) (seed j : ℕ) (answer : At) → j ≡ 0 → Says m [] answer → Says m (word_of_seed m seed j) answer
said_by_word_zero m seed j answer first says =
    subst (λ (w : WordValue). Says m w answer) (sym (ap (word_of_seed m seed) first ∙ word_zero m seed)) says

pub none_before : (m : ModuleValue) (seed : ℕ) → LeaveOpenBefore m seed 0
none_before m seed i before = absurd (omega arith)

-- one more word leaves the module open
pub open_more : (m : ModuleValue) (seed j next : ℕ) (word : WordValue) → next ≡ suc j → LeaveOpenBefore m seed j → word ≡ word_of_seed m seed j → LeavesOpen m word →
    LeaveOpenBefore m seed next
open_more m seed j next word is before same left i below = at (ℕ_discrete i j)
  where
    at : Dec (i ≡ j) → LeavesOpen m (word_of_seed m seed i)
    at (yes here) = subst (LeavesOpen m) (same ∙ ap (word_of_seed m seed) (sym here)) left
    at (no other) = before i (omega arith)

-- one more word, the first that does not leave it open, decides
pub decided_here : (m : ModuleValue) (seed words j : ℕ) (answer : At) → j ≤ words → LeaveOpenBefore m seed j → Says m (word_of_seed m seed j) answer →
    DecidesAt m seed words j answer
decided_here m seed words j answer within before says = record { within = within; before = before; says = says }

-- all words leave it open
pub undecided : (m : ModuleValue) (seed words j : ℕ) → words < j → LeaveOpenBefore m seed j → (i : ℕ) → i ≤ words → LeavesOpen m (word_of_seed m seed i)
undecided m seed words j all before i within = before i (omega arith)
