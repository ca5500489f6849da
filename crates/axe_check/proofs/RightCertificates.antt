-- A right certificate has no reason, and one that passes each step is right.
use Rattle.std.proofs.Common.{◌≡◌, ℕ, ◌<◌, length, get_or, slice_get, Some, ap, subst, ◌∙◌, arith}
use Rattle.std.proofs.lemmas.Option.{slice_get-get_or}
use Rattle.axe_algebra.proofs.ListEntries.{listed_length, listed_at}
use Rattle.axe_spin.specs.Modules.{ModuleValue}
use Rattle.axe_norton.specs.Spaces.{IsIrreducibleModule}
use Rattle.axe_series.specs.Series.{IsBlockOf, IsPlaceOf, IsSeries, sizes_of_places}
use Rattle.axe_check.specs.Certificates.{Certificate, factor_count, factor_of, factors_of, IsCertified}
use Rattle.axe_check.specs.Reasons.{HasRightBasis, HasRightBlocks, HasRightFactors, AreSameFactors, IsFirstReason}
use Rattle.axe_report.specs.declared.reasons.Reason.{Reason}
use Rattle.axe_report.specs.declared.reasons.Reason.TheVariants.{Header, Basis, Shape, Blocks, Open, Reducible, Same}

-- ---- the constituents as modules

module _ (c : Certificate) where
  pub count_of_factors : length (factors_of c) ≡ factor_count c
  count_of_factors = listed_length (factor_count c) (factor_of c)

  pub factor_at : (i : ℕ) (d : ModuleValue) → i < factor_count c → get_or (factors_of c) i d ≡ factor_of c i
  factor_at i d below = listed_at (factor_count c) (factor_of c) i d below

  pub factor_is_listed : (i : ℕ) → i < factor_count c → slice_get (factors_of c) i ≡ Some (factor_of c i)
  factor_is_listed i below =
      slice_get-get_or (factors_of c) i (factor_of c i) (omega (arith, below, count_of_factors))
      ∙ ap (λ (m : ModuleValue). Some m) (factor_at i (factor_of c i) below)

-- ---- a right certificate

module _ (c : Certificate) (right : IsCertified c) where
  abbrev s : IsSeries c.m c.basis (factors_of c) c.report.series
  s = right.series

  right_basis : HasRightBasis c
  right_basis = record {
    header = right.header;
    basis = record {
      field = s.triangular.field;
      rows = s.triangular.rows;
      columns = s.triangular.columns;
      invertible = s.triangular.invertible;
    };
  }

  right_blocks : HasRightBlocks c
  right_blocks = record {
    before = record { before = right_basis; shapes = right.shapes };
    blocks = record {
      conjugates = s.conjugates;
      conjugate = s.triangular.conjugate;
      triangular = s.triangular.triangular;
      diagonal = s.diagonal;
    };
  }

  pub right_factors : HasRightFactors c
  right_factors = record {
    before = right_blocks;
    seen = λ i below. record {
      decided = right.decided i below;
      irreducible = subst IsIrreducibleModule (factor_at c i (factor_of c i) below)
          (s.irreducible i (factor_of c i) (omega (arith, below, count_of_factors c)));
    };
  }

  place_of : (i : ℕ) → i < factor_count c → (a : ℕ) × IsPlaceOf c.report.series a i
  place_of i below = s.order.appear i (omega (arith, below, count_of_factors c))

  block_of : (i a : ℕ) → i < factor_count c → IsPlaceOf c.report.series a i →
      IsBlockOf s.conjugates (sizes_of_places (factors_of c) c.report.series) a (factor_of c i)
  block_of i a below place = s.diagonal a i (factor_of c i) place (factor_is_listed c i below)

  pub factors_apart : (i j : ℕ) → i < j → j < factor_count c → ¬ (AreSameFactors c i j)
  factors_apart i j less below same =
      let early : i < factor_count c = omega arith in
      let (a, place) = place_of i early in
      let (b, other) = place_of j below in
      let one : i ≡ j = (s.one_number a b i j (factor_of c i) (factor_of c j) place other (block_of i a early place) (block_of j b below other)).1 same in
      omega (arith, one, less)

pub no_reason : (c : Certificate) (reason : Reason) → IsCertified c → ¬ (IsFirstReason c reason)
no_reason c Header right wrong = wrong right.header
no_reason c Basis right wrong = wrong.1 (right_factors c right).before.before.before.basis
no_reason c (Shape name) right wrong = wrong.wrong (right.shapes wrong.number wrong.below)
no_reason c Blocks right wrong = wrong.1 (right_factors c right).before.blocks
no_reason c (Open name) right wrong = right.decided wrong.number wrong.below wrong.wrong
no_reason c (Reducible name) right wrong = wrong.wrong.reducible ((right_factors c right).seen wrong.number wrong.below).irreducible
no_reason c (Same a b) right wrong = factors_apart c right wrong.first wrong.second wrong.ascending wrong.below wrong.same
