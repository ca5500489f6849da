-- What a word says of a module, and what words of one seed decide (Norton's test: Parker 1984; Holt and Rees 1994).
use Rattle.std.specs.Prelude.{◌≡◌, ℕ, ◌<◌, ◌≤◌, ◌⊎◌, length, ⊤, Some, None}
use Rattle.axe_field.specs.Order.{order_number}
use Rattle.axe_row.specs.Rows.{RowValue}
use Rattle.axe_matrix.specs.Matrices.{MatrixValue}
use Rattle.axe_reduction.specs.Solutions.{IsInvertibleMatrix}
use Rattle.axe_poly.specs.Polys.{PolyValue}
use Rattle.axe_spin.specs.Modules.{ModuleValue}
use Rattle.axe_word.specs.Words.{WordValue}
use Rattle.axe_word.specs.declared.tested.Tested.{Tested}
use Rattle.axe_word.specs.Tested.{IsTestedAt, IsTestedBy}
use Rattle.axe_word.specs.Drawing.{drawn_word}
use Rattle.axe_word.specs.PointsOfMatrix.{points_of, point_count, most_points}
use Rattle.axe_norton.specs.declared.verdicts.At.{At}
use Rattle.axe_norton.specs.declared.verdicts.At.TheVariants.{Irreducible, Reducible, Left}
use Rattle.axe_norton.specs.declared.verdicts.Verdict
use Rattle.axe_norton.specs.Spaces.{IsIrreducibleModule, IsProperSubmodule, HasFewPoints, point_of}
use Rattle.axe_norton.specs.Spaces.{GeneratesModule, TriedGenerate, IsFirstProperSpace, TransposeGenerates}
use Rattle.axe_norton.specs.Spaces.{IsTransposedSpace}
use Rattle.axe_norton.specs.SmallFactors.{IsFirstFitting, NoneFits}
use Rattle.axe_norton.specs.OneVector.{TellsByOne}

-- the greatest number of a last word
abbrev pub last_word : ℕ
last_word = 10000

-- the tested matrix shows the module to be irreducible: it is singular, its null space has few points, and all of them
-- generate everything, as does the first point of the null space of the transpose under the transposes; v is the first
-- point
pub record ShowsIrreducible (m : ModuleValue) (matrix null_space : MatrixValue) (v : RowValue) : Type 0 where
  pub few : HasFewPoints null_space
  pub some_point : 0 < length (points_of null_space)
  pub field : v.order ≡ m.order
  pub first : v.entries ≡ point_of null_space 0
  pub generate : TriedGenerate m null_space
  pub transpose : TransposeGenerates m matrix

-- the tested matrix shows it to be reducible: `space` is what the first tried point that generates a proper space
-- generates; or none does, and it is the annihilator of what the first point of the null space of the transpose
-- generates under the transposes, which is proper
abbrev pub ShowsReducible : ModuleValue → MatrixValue → MatrixValue → MatrixValue → Type 0
ShowsReducible m matrix null_space space =
    IsFirstProperSpace m null_space space ⊎ (TriedGenerate m null_space × IsTransposedSpace m matrix space)

-- its null space has more points than are all tried; the first generates everything, and so does the transpose's under
-- the transposes
pub record IsLeftWithMany (m : ModuleValue) (matrix null_space : MatrixValue) : Type 0 where
  pub many : most_points < point_count (order_number null_space.order) (length null_space.rows)
  pub first : GeneratesModule m (point_of null_space 0)
  pub transpose : TransposeGenerates m matrix

-- the points leave the module open: the tested matrix is invertible, or its null space has many points, the first of
-- which and that of the transpose generate everything
abbrev pub IsLeftByPoints : ModuleValue → MatrixValue → MatrixValue → Type 0
IsLeftByPoints m matrix null_space = IsInvertibleMatrix matrix ⊎ IsLeftWithMany m matrix null_space

-- what the points of the null spaces of the tested matrix and of its transpose tell of the module (Parker 1984)
abbrev pub TellsByPoints : ModuleValue → MatrixValue → MatrixValue → At → Type 0
TellsByPoints m matrix null_space (Irreducible None v) = ShowsIrreducible m matrix null_space v
TellsByPoints m matrix null_space (Irreducible (Some p) v) = ⊥
TellsByPoints m matrix null_space (Reducible space) = ShowsReducible m matrix null_space space
TellsByPoints m matrix null_space Left = IsLeftByPoints m matrix null_space

-- where they leave it open, p, the first small factor of the matrix x that fits it, tells by one vector (Holt and Rees
-- 1994)
pub record TellsByFactor (m : ModuleValue) (matrix null_space : MatrixValue) (answer : At) : Type 0 where
  pub left : IsLeftByPoints m matrix null_space
  pub poly : PolyValue
  pub first : IsFirstFitting matrix poly
  pub tested : Tested
  pub is_tested : IsTestedAt poly matrix tested
  pub tells : TellsByOne m poly tested.matrix tested.null_space answer

-- what the tested matrix, with its null space, tells of the module: what the points tell; where these leave it open, what
-- the first small factor that fits tells; and it stays open where none fits
abbrev pub Tells : ModuleValue → MatrixValue → MatrixValue → At → Type 0
Tells m matrix null_space (Irreducible None v) = ShowsIrreducible m matrix null_space v
Tells m matrix null_space (Irreducible (Some p) v) = TellsByFactor m matrix null_space (Irreducible (Some p) v)
Tells m matrix null_space (Reducible space) =
    ShowsReducible m matrix null_space space ⊎ TellsByFactor m matrix null_space (Reducible space)
Tells m matrix null_space Left = IsLeftByPoints m matrix null_space × NoneFits matrix

-- what a word says of a module by points alone: what the points of its value tell
pub record SaysByPoints (m : ModuleValue) (word : WordValue) (answer : At) : Type 0 where
  pub tested : Tested
  pub is_tested : IsTestedBy m word tested
  pub tells : TellsByPoints m tested.matrix tested.null_space answer

-- what a word says of a module: what its value tells, with the null space of that
pub record Says (m : ModuleValue) (word : WordValue) (answer : At) : Type 0 where
  pub tested : Tested
  pub is_tested : IsTestedBy m word tested
  pub tells : Tells m tested.matrix tested.null_space answer

-- the word leaves the module open
abbrev pub LeavesOpen : ModuleValue → WordValue → Type 0
LeavesOpen m word = Says m word Left

-- what is true of the module where a word says so
abbrev pub IsTrueOf : ModuleValue → At → Type 0
IsTrueOf m (Irreducible p v) = IsIrreducibleModule m
IsTrueOf m (Reducible space) = IsProperSubmodule m space
IsTrueOf m Left = ⊤

-- word number j of a seed, for the field and the generators of the module
abbrev pub word_of_seed : ModuleValue → ℕ → ℕ → WordValue
word_of_seed m seed j = drawn_word seed j (order_number m.order) (length m.generators)

-- the words before number j leave the module open
abbrev pub LeaveOpenBefore : ModuleValue → ℕ → ℕ → Type 0
LeaveOpenBefore m seed j = (i : ℕ) → i < j → LeavesOpen m (word_of_seed m seed i)

-- word number j, the first that does not leave the module open, is at most number `words`, and says this
pub record DecidesAt (m : ModuleValue) (seed words j : ℕ) (answer : At) : Type 0 where
  pub within : j ≤ words
  pub before : LeaveOpenBefore m seed j
  pub says : Says m (word_of_seed m seed j) answer

-- what the words 0 to `words` of a seed decide: what the first of them says that does not leave the module open;
-- nothing where each of them does
abbrev pub Decides : ModuleValue → ℕ → ℕ → Verdict.Verdict → Type 0
Decides m seed words (Verdict.TheVariants.Irreducible j p v) = DecidesAt m seed words j (Irreducible p v)
Decides m seed words (Verdict.TheVariants.Reducible space) = (j : ℕ) × DecidesAt m seed words j (Reducible space)
Decides m seed words Verdict.TheVariants.Undecided = (i : ℕ) → i ≤ words → LeavesOpen m (word_of_seed m seed i)

-- what is true of the module then; no verdict is missing where the module has at most `most_points` points
abbrev pub IsTrueVerdict : ModuleValue → Verdict.Verdict → Type 0
IsTrueVerdict m (Verdict.TheVariants.Irreducible j p v) = IsIrreducibleModule m
IsTrueVerdict m (Verdict.TheVariants.Reducible space) = IsProperSubmodule m space
IsTrueVerdict m Verdict.TheVariants.Undecided = most_points < point_count (order_number m.order) m.dim
