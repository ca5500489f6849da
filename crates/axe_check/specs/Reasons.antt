-- Why a certificate is not right: the first reason, in the order of the header, the basis, the shapes, the blocks, what
-- the words say of the constituents one after the other, and pairs of constituents.
use Rattle.std.specs.Prelude.{◌≡◌, ℕ, ◌<◌, ◌⊎◌, [], get_or, string_bytes, String}
use Rattle.std.specs.declared.alloc.Global.{Global}
use Rattle.axe_norton.specs.Spaces.{IsIrreducibleModule}
use Rattle.axe_report.specs.Reports.{names}
use Rattle.axe_series.specs.Series.{IsIsomorphicTo}
use Rattle.axe_check.specs.Certificates.{Certificate, HasHeader, IsBasisOf, factor_count, factor_of, IsShaped}
use Rattle.axe_check.specs.Certificates.{AreBlocked, IsLeftOpen}
use Rattle.axe_report.specs.declared.reasons.Reason.{Reason}
use Rattle.axe_report.specs.declared.reasons.Reason.TheVariants.{Header, Basis, Shape, Blocks, Open, Reducible, Same}

-- ---- what may be wrong

-- constituent `number` is irreducible
abbrev pub IsIrreducibleFactor : Certificate → ℕ → Type 0
IsIrreducibleFactor c number = IsIrreducibleModule (factor_of c number)

-- its word does not leave constituent `number` open, and that is irreducible
pub record IsSeenIrreducible (c : Certificate) (number : ℕ) : Type 0 where
  pub decided : ¬ (IsLeftOpen c number)
  pub irreducible : IsIrreducibleFactor c number

-- the constituents of two numbers are isomorphic
abbrev pub AreSameFactors : Certificate → ℕ → ℕ → Type 0
AreSameFactors c first second = IsIsomorphicTo (factor_of c first) (factor_of c second)

-- the pair (i, j) comes before the pair (first, second)
abbrev pub IsEarlierPair : ℕ → ℕ → ℕ → ℕ → Type 0
IsEarlierPair i j first second = (i < first) ⊎ ((i ≡ first) × (j < second))

-- ---- what is right before

-- the header and the basis are right
pub record HasRightBasis (c : Certificate) : Type 0 where
  pub header : HasHeader c.report.header c.m
  pub basis : IsBasisOf c.m c.basis

-- the header, the basis and the shapes are right
pub record HasRightShapes (c : Certificate) : Type 0 where
  pub before : HasRightBasis c
  pub shapes : (number : ℕ) → number < factor_count c → IsShaped c number

-- the header, the basis, the shapes and the blocks are right
pub record HasRightBlocks (c : Certificate) : Type 0 where
  pub before : HasRightShapes c
  pub blocks : AreBlocked c

-- all these are right, and the word of each constituent shows it to be irreducible
pub record HasRightFactors (c : Certificate) : Type 0 where
  pub before : HasRightBlocks c
  pub seen : (number : ℕ) → number < factor_count c → IsSeenIrreducible c number

-- ---- the first that is wrong

-- these bytes are the name that the report gives constituent `number`
abbrev pub IsNameOf : Certificate → ℕ → String Global → Type 0
IsNameOf c number name = string_bytes name ≡ get_or (names c.report.factors) number []

-- the constituent of this name is the first whose matrices have not their shape
pub record IsFirstMisshapen (c : Certificate) (name : String Global) : Type 0 where
  pub before : HasRightBasis c
  pub number : ℕ
  pub below : number < factor_count c
  pub named : IsNameOf c number name
  pub earlier : (i : ℕ) → i < number → IsShaped c i
  pub wrong : ¬ (IsShaped c number)

-- the constituent of this name is the first that is not seen to be irreducible, in this way
pub record IsFirstUnseen (c : Certificate) (name : String Global) (Wrong : ℕ → Type 0) : Type 0 where
  pub before : HasRightBlocks c
  pub number : ℕ
  pub below : number < factor_count c
  pub named : IsNameOf c number name
  pub earlier : (i : ℕ) → i < number → IsSeenIrreducible c i
  pub wrong : Wrong number

-- its word does not leave constituent `number` open, and that is reducible
pub record IsReducibleFactor (c : Certificate) (number : ℕ) : Type 0 where
  pub decided : ¬ (IsLeftOpen c number)
  pub reducible : ¬ (IsIrreducibleFactor c number)

-- the constituents of these names are the first pair that is isomorphic, in the order of the first and then of the
-- second
pub record IsFirstSame (c : Certificate) (a b : String Global) : Type 0 where
  pub before : HasRightFactors c
  pub first : ℕ
  pub second : ℕ
  pub ascending : first < second
  pub below : second < factor_count c
  pub first_named : IsNameOf c first a
  pub second_named : IsNameOf c second b
  pub earlier : (i j : ℕ) → i < j → j < factor_count c → IsEarlierPair i j first second → ¬ (AreSameFactors c i j)
  pub same : AreSameFactors c first second

-- this is the first reason why the certificate is not right: it holds, and those before it do not
abbrev pub IsFirstReason : Certificate → Reason → Type 0
IsFirstReason c Header = ¬ (HasHeader c.report.header c.m)
IsFirstReason c Basis = HasHeader c.report.header c.m × (¬ (IsBasisOf c.m c.basis))
IsFirstReason c (Shape name) = IsFirstMisshapen c name
IsFirstReason c Blocks = HasRightShapes c × (¬ (AreBlocked c))
IsFirstReason c (Open name) = IsFirstUnseen c name (IsLeftOpen c)
IsFirstReason c (Reducible name) = IsFirstUnseen c name (IsReducibleFactor c)
IsFirstReason c (Same a b) = IsFirstSame c a b
