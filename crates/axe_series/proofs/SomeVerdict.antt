-- A word says something of every module, and the words of a seed decide something.
use Rattle.std.specs.Prelude.{ℕ, zero, suc, ◌<◌, ◌≤◌, ◌⊎◌, length, Some, None}
use Rattle.axe_algebra.specs.Lists.{IsSquareOver}
use Rattle.axe_algebra.proofs.ListVectors.{same_span_refl}
use Rattle.axe_field.specs.Order.{order_number}
use Rattle.axe_field.specs.NumberFields.{number_field}
use Rattle.axe_row.specs.Rows.{RowValue}
use Rattle.axe_matrix.specs.Matrices.{MatrixValue, IsMatrix}
use Rattle.axe_echelon.specs.Echelons.{IsNullSpaceMatrix}
use Rattle.axe_echelon.proofs.SomeMatrix.{some_null_space}
use Rattle.axe_poly.specs.Polys.{PolyValue}
use Rattle.axe_spin.specs.Modules.{ModuleValue, IsModule}
use Rattle.axe_word.specs.Words.{WordValue, IsWordIn, IsValueOf}
use Rattle.axe_word.specs.PointsOfMatrix.{points_of, point_count, most_points}
use Rattle.axe_word.proofs.TestedLaws.{tested_by}
use Rattle.axe_word.proofs.ValueLaws.{drawn_word-in}
use Rattle.axe_norton.specs.declared.verdicts.Verdict
use Rattle.axe_norton.specs.declared.verdicts.At.{At}
use Rattle.axe_norton.specs.declared.verdicts.At.TheVariants.{Irreducible, Reducible, Left}
use Rattle.axe_norton.specs.Spaces.{point_of, GeneratesModule, TriedGenerate}
use Rattle.axe_norton.specs.Searches.{FindsProper, FindsFirst, IsReducedIn, IsSquareIn, AreSingularSpaces}
use Rattle.axe_norton.specs.SmallFactors.{IsFirstFitting, NoneFits}
use Rattle.axe_norton.specs.OneVector.{TellsByOne}
use Rattle.axe_norton.specs.Verdicts.{IsLeftByPoints, TellsByPoints, TellsByFactor, Tells, Says, Decides, LeaveOpenBefore}
use Rattle.axe_norton.specs.Verdicts.{word_of_seed}
use Rattle.axe_norton.proofs.OpenLaws.{own_square}
use Rattle.axe_norton.proofs.SearchLaws.{point_in, some_point_in}
use Rattle.axe_norton.proofs.TestedLaws.{value_square, null_in_module}
use Rattle.axe_norton.proofs.DecisionLaws.{left_without_rows, singular_with_rows, irreducible_told, left_told}
use Rattle.axe_norton.proofs.DecisionLaws.{fitted_spaces, none_before, open_more, undecided}
use Rattle.axe_iso.proofs.SomeForm.{some_value}
use Rattle.axe_series.proofs.SomeFactor.{SomeTested, some_first_fitting, some_tested}
use Rattle.axe_series.proofs.SomeSearch.{SomeFound, SomeMatrix, FindsInTranspose, some_proper, some_first, some_transposed}
use mathlib.Core.Logic.{inl, inr}
use mathlib.Core.Path.{refl, ◌∙◌}
use native.Mathlib.Omega.{arith}
use native.Mathlib.Decide.{dec_lt}

-- what a tested matrix tells, by its points, by a first small factor that fits it, and by one vector of p(x)
abbrev pub SomeTold : ModuleValue → MatrixValue → MatrixValue → Type 0
SomeTold m matrix null = (answer : At) × Tells m matrix null answer

abbrev pub SomeToldByPoints : ModuleValue → MatrixValue → MatrixValue → Type 0
SomeToldByPoints m matrix null = (answer : At) × TellsByPoints m matrix null answer

abbrev pub SomeToldByFactor : ModuleValue → MatrixValue → MatrixValue → Type 0
SomeToldByFactor m matrix null = (answer : At) × TellsByFactor m matrix null answer

abbrev pub SomeToldByOne : ModuleValue → PolyValue → MatrixValue → MatrixValue → Type 0
SomeToldByOne m p matrix null = (answer : At) × TellsByOne m p matrix null answer

-- and what a word says
abbrev pub SomeSaid : ModuleValue → WordValue → Type 0
SomeSaid m word = (answer : At) × Says m word answer

-- what the words of a seed decide
abbrev pub SomeDecided : ModuleValue → ℕ → ℕ → Type 0
SomeDecided m seed words = (verdict : Verdict.Verdict) × Decides m seed words verdict

-- ---- a square matrix over the field of a module, and its null space

module _ (m : ModuleValue) (is : IsModule m) (matrix : MatrixValue) (in_module : IsSquareIn m matrix)
    (well : IsMatrix matrix) (null : MatrixValue) (is_null : IsNullSpaceMatrix matrix null) (formed : IsMatrix null) where
  reduced : IsReducedIn m null
  reduced = null_in_module m matrix null in_module is_null

  module _ (some : 0 < length null.rows) where
    some_point : 0 < length (points_of null)
    some_point = some_point_in m null reduced formed some

    abbrev first : RowValue
    first = record { order = null.order; entries = point_of null 0 }

    first_transposed : SomeFound (FindsInTranspose m matrix)
    first_transposed =
        some_transposed m is matrix in_module well (singular_with_rows m matrix null in_module is_null formed some)

    -- what the points tell, where no tried point generates a proper space
    tells_of_transposed : TriedGenerate m null → SomeFound (FindsInTranspose m matrix) → SomeToldByPoints m matrix null
    tells_of_transposed each (Some space, found) = (Reducible space, inr (each, found))
    tells_of_transposed each (None, transpose) =
        by_number (dec_lt most_points (point_count (order_number null.order) (length null.rows)))
      where
        by_number : Dec (most_points < point_count (order_number null.order) (length null.rows)) →
            SomeToldByPoints m matrix null
        by_number (yes many) = (
          Left,
          left_told m matrix null in_module is_null formed some (λ few. omega (arith, many, few)) each transpose,
        )
        by_number (no few) = (
          Irreducible None first,
          irreducible_told m matrix null in_module is_null formed some first (omega arith) each transpose refl,
        )

    tells_of_first : SomeFound (FindsFirst m null) → SomeToldByPoints m matrix null
    tells_of_first (Some space, found) = (Reducible space, inl found)
    tells_of_first (None, each) = tells_of_transposed each first_transposed

    -- what the first point tells as the one vector of p(x), where it generates everything
    one_of_transposed : (p : PolyValue) → GeneratesModule m (point_of null 0) → SomeFound (FindsInTranspose m matrix) →
        SomeToldByOne m p matrix null
    one_of_transposed p generates (Some space, found) = (Reducible space, inr (generates, found))
    one_of_transposed p generates (None, transpose) = (
      Irreducible (Some p) first,
      (
        refl,
        record {
          some_point = some_point;
          field = is_null.field ∙ in_module.field;
          first = refl;
          generates = generates;
          transpose = transpose;
        },
      ),
    )

    one_of_first : (p : PolyValue) → SomeFound (FindsProper m (point_of null 0)) → SomeToldByOne m p matrix null
    one_of_first p (Some space, proper) = (Reducible space, inl proper)
    one_of_first p (None, generates) = one_of_transposed p generates first_transposed

    -- one vector tells something
    pub some_told_by_one : (p : PolyValue) → SomeToldByOne m p matrix null
    some_told_by_one p =
        one_of_first p (some_proper m is (point_of null 0) (point_in m null reduced formed 0 some_point).over)

  -- the points tell something
  pub some_told_by_points : SomeToldByPoints m matrix null
  some_told_by_points = by_size (dec_lt 0 (length null.rows))
    where
      by_size : Dec (0 < length null.rows) → SomeToldByPoints m matrix null
      by_size (no none) = (Left, left_without_rows m matrix null in_module is_null formed (omega arith))
      by_size (yes some) = tells_of_first some (some_first m is null reduced formed some)

-- ---- a matrix that its points leave open

module _ (m : ModuleValue) (is : IsModule m) (matrix : MatrixValue) (in_module : IsSquareIn m matrix)
    (well : IsMatrix matrix) (null : MatrixValue) where
  square : IsSquareOver (number_field matrix.order) matrix.cols matrix.rows
  square = own_square m matrix in_module

  -- the first small factor that fits tells something
  told_by_factor : IsLeftByPoints m matrix null → (p : PolyValue) → IsFirstFitting matrix p → SomeTested p matrix →
      SomeToldByFactor m matrix null
  told_by_factor left p first (t, (is_tested, formed)) =
      from (some_told_by_one m is t.matrix singular.square formed t.null_space is_tested.tested.null_space
      is_tested.tested.well_formed singular.some_row p)
    where
      -- p(x) is singular, by its own rows
      singular : AreSingularSpaces m t (record { null_space = t.null_space; rows = t.matrix })
      singular = fitted_spaces m matrix in_module p first.fitting t is_tested _ (record {
        null_space = refl;
        field = refl;
        columns = refl;
        span = same_span_refl (number_field t.matrix.order) t.matrix.rows;
      })

      from : SomeToldByOne m p t.matrix t.null_space → SomeToldByFactor m matrix null
      from (answer, tells) = (
        answer,
        record {
          left = left;
          poly = p;
          first = first;
          tested = t;
          is_tested = is_tested;
          tells = tells;
        },
      )

  of_factor : SomeToldByFactor m matrix null → SomeTold m matrix null
  of_factor (Irreducible (Some p) v, tells) = (Irreducible (Some p) v, tells)
  of_factor (Irreducible None v, tells) = absurd tells.tells
  of_factor (Reducible space, tells) = (Reducible space, inr tells)
  of_factor (Left, tells) = absurd tells.tells

  -- where the points leave it open, the first small factor that fits tells something, or none fits
  told_when_left : IsLeftByPoints m matrix null → ((p : PolyValue) × IsFirstFitting matrix p) ⊎ NoneFits matrix →
      SomeTold m matrix null
  told_when_left left (inl (p, first)) =
      of_factor (told_by_factor left p first (some_tested matrix square well p))
  told_when_left left (inr none) = (Left, (left, none))

  of_points : SomeToldByPoints m matrix null → SomeTold m matrix null
  of_points (Irreducible None v, shows) = (Irreducible None v, shows)
  of_points (Irreducible (Some p) v, shows) = absurd shows
  of_points (Reducible space, shows) = (Reducible space, inl shows)
  of_points (Left, left) = told_when_left left (some_first_fitting matrix square well.some_column)

  -- the tested matrix tells something
  pub some_told : IsNullSpaceMatrix matrix null → IsMatrix null → SomeTold m matrix null
  some_told is_null formed = of_points (some_told_by_points m is matrix in_module well null is_null formed)

-- a word says something of a module
pub some_said : (m : ModuleValue) (word : WordValue) → IsModule m → IsWordIn m word → (answer : At) × Says m word answer
some_said m word is over = of_value (some_value m word is over)
  where
    of_null : (x : MatrixValue) → IsValueOf m word x → IsMatrix x → SomeMatrix (IsNullSpaceMatrix x) → SomeSaid m word
    of_null x value well (null, (is_null, formed)) =
        from (some_told m is x (value_square m word x value) well null is_null formed)
      where
        from : SomeTold m x null → SomeSaid m word
        from (answer, tells) = (
          answer,
          record {
            tested = record { matrix = x; null_space = null };
            is_tested = tested_by m word x null value is_null formed;
            tells = tells;
          },
        )

    of_value : SomeMatrix (IsValueOf m word) → SomeSaid m word
    of_value (x, (value, well)) =
        of_null x value well (some_null_space x well (omega (arith, value.value.square.length_is, is.over.positive)))

-- ---- the words of a seed

-- the words of a seed decide something
pub some_verdict : (m : ModuleValue) (seed words : ℕ) → IsModule m →
    (verdict : Verdict.Verdict) × Decides m seed words verdict
some_verdict m seed words is = done (search (suc words) (omega arith))
  where
    said : (j : ℕ) → SomeSaid m (word_of_seed m seed j)
    said j = some_said m (word_of_seed m seed j) is
        (drawn_word-in m seed j (order_number m.order) (length m.generators) refl refl is.some_generator)

    one_more : (j : ℕ) → j ≤ words → LeaveOpenBefore m seed j → SomeSaid m (word_of_seed m seed j) →
        LeaveOpenBefore m seed (suc j) ⊎ SomeDecided m seed words
    one_more j within before (Left, says) = inl (open_more m seed j (suc j) (word_of_seed m seed j) refl before refl says)
    one_more j within before (Irreducible p v, says) =
        inr (Verdict.TheVariants.Irreducible j p v, record { within = within; before = before; says = says })
    one_more j within before (Reducible space, says) =
        inr (Verdict.TheVariants.Reducible space, (j, record { within = within; before = before; says = says }))

    search : (j : ℕ) → j ≤ suc words → LeaveOpenBefore m seed j ⊎ SomeDecided m seed words
    search zero within = inl (none_before m seed)
    search (suc j) within = next (search j (omega arith))
      where
        next : LeaveOpenBefore m seed j ⊎ SomeDecided m seed words →
            LeaveOpenBefore m seed (suc j) ⊎ SomeDecided m seed words
        next (inl before) = one_more j (omega arith) before (said j)
        next (inr decided) = inr decided

    done : LeaveOpenBefore m seed (suc words) ⊎ SomeDecided m seed words → SomeDecided m seed words
    done (inl before) = (Verdict.TheVariants.Undecided, undecided m seed words (suc words) (omega arith) before)
    done (inr decided) = decided
