-- What is known in a check once the constituents are modules, and what comes of its further steps.
use Rattle.std.proofs.Common.{◌≡◌, ℕ, ◌<◌, List, length, get_or, None, Result, sym, ap, subst, ◌∙◌}
use Rattle.std.specs.List.{All}
use Rattle.std.specs.Prelude.{⊤}
use Rattle.std.specs.declared.alloc.Global.{Global}
use Rattle.std.specs.declared.vec.Vec.{Vec}
use Rattle.axe_algebra.specs.Blocks.{AreBlockSizes}
use Rattle.axe_field.specs.Order.{Order}
use Rattle.axe_matrix.specs.Matrices.{MatrixValue, IsMatrix}
use Rattle.axe_spin.specs.Modules.{ModuleValue, IsModule}
use Rattle.axe_action.specs.Actions.{IsConjugateModule}
use Rattle.axe_iso.specs.Forms.{FormValue}
use Rattle.axe_series.specs.Series.{sizes_of_places}
use Rattle.axe_report.specs.Reports.{FactorValue, ReportValue, IsReport}
use Rattle.axe_report.specs.declared.report.Version.TheVariants.{Two}
use Rattle.axe_check.specs.Certificates.{Certificate, certificate, lists_of, HasHeader, IsBasisOf, witnesses, IsCertified}
use Rattle.axe_check.specs.Reasons.{HasRightBasis, HasRightBlocks, HasRightFactors, IsFirstReason}
use Rattle.axe_check.specs.Steps.{Passes, AreShapedAs, IsFirstShapeReason, IsLikeModule, HasAllBlocks, IsBlockReason, IsWitnessOver, AreSeenAs, IsFirstUnseenReason, AreApartTo, IsFirstSameReason}
use Rattle.axe_report.specs.declared.reasons.Reason.{Reason}
use Rattle.axe_check.specs.declared.reasons.Stop.{Stop}
use Rattle.axe_check.proofs.ShapeLaws.{count_of_lists}
use Rattle.axe_check.proofs.StepLaws.{passes_more}
use Rattle.axe_check.proofs.Certifying.{shape_first, modules_count, like_modules, sizes_fit, places_fit, like_fit, block_first, right_blocks, witnesses_over, right_factors, unseen_first, same_first, certified}

-- what is known before the shapes are looked at
pub record IsBegun (report : ReportValue) (m : ModuleValue) (basis : MatrixValue) (factors : List (Vec MatrixValue Global)) : Type 0 where
  pub is_report : IsReport report
  pub is_module : IsModule m
  pub formed : IsMatrix basis
  pub count : length factors ≡ length report.factors
  pub header : HasHeader report.header m
  pub basis_is : IsBasisOf m basis

module _ (report : ReportValue) (m : ModuleValue) (basis : MatrixValue) (factors : List (Vec MatrixValue Global)) (begun : IsBegun report m basis factors) where
  abbrev c : Certificate
  c = certificate report m basis factors

  lists : length (lists_of factors) ≡ length report.factors
  lists = count_of_lists factors ∙ begun.count

  before : HasRightBasis c
  before = record { header = begun.header; basis = begun.basis_is }

  pub shapes_stopped : (reported : List FactorValue) → reported ≡ report.factors → (reason : Reason) →
      IsFirstShapeReason m reported (lists_of factors) reason → IsFirstReason c reason
  shapes_stopped reported reported_is reason found =
      shape_first c begun.is_report begun.is_module begun.formed lists reason before
      (subst (λ r. IsFirstShapeReason m r (lists_of factors) reason) reported_is found)

  -- the constituents as modules, where they are read
  module _ (reported : List FactorValue) (made read : List ModuleValue) (reported_is : reported ≡ report.factors) (read_is : read ≡ made)
      (shaped_read : AreShapedAs m reported (lists_of factors) made) (are_read : All IsModule made) where
    shaped : AreShapedAs m report.factors (lists_of factors) read
    shaped =
        subst (AreShapedAs m report.factors (lists_of factors)) (sym read_is) (subst (λ r. AreShapedAs m r (lists_of factors) made) reported_is shaped_read)

    pub are : All IsModule read
    are = subst (All IsModule) (sym read_is) are_read

    pub like : (x : ModuleValue) × All (IsLikeModule x) read
    like = (m, like_modules c begun.is_report begun.is_module begun.formed lists read shaped before are)

    pub fields_read : (order : Order) → order ≡ m.order → All (λ (f : ModuleValue). f.order ≡ order) read
    fields_read order order_is i d inside =
        (like_modules c begun.is_report begun.is_module begun.formed lists read shaped before are i d inside).field ∙ sym order_is

    pub count_read : (again : List FactorValue) → again ≡ report.factors → length read ≡ length again
    count_read again again_is =
        modules_count c begun.is_report begun.is_module begun.formed lists read shaped before are ∙ ap (λ (l : List FactorValue). length l) (sym again_is)

    pub witnesses_read : (again : List FactorValue) → again ≡ report.factors → report.header.version ≡ Two → (i : ℕ) (d : ModuleValue) → i < length read →
        IsWitnessOver (get_or read i d).order (get_or (witnesses again) i None)
    witnesses_read again again_is two i d inside =
        subst (λ r. IsWitnessOver (get_or read i d).order (get_or (witnesses r) i None)) (sym again_is)
        (witnesses_over c begun.is_report begun.is_module begun.formed lists read shaped before are two i d inside)

    -- ---- blocks

    module _ (conjugates : ModuleValue) (conjugate : IsConjugateModule m basis conjugates) (is_conjugates : IsModule conjugates) (series : List ℕ)
        (series_is : series ≡ report.series) where
      pub sizes_read : AreBlockSizes conjugates.dim (sizes_of_places read series)
      sizes_read =
          subst (λ s. AreBlockSizes conjugates.dim (sizes_of_places read s)) (sym series_is)
          (sizes_fit c begun.is_report begun.is_module begun.formed lists read shaped before are conjugates conjugate is_conjugates)

      pub places_read : All (λ number. number < length read) series
      places_read =
          subst (All (λ number. number < length read)) (sym series_is)
          (places_fit c begun.is_report begun.is_module begun.formed lists read shaped before are conjugates conjugate is_conjugates)

      pub like_read : All (IsLikeModule conjugates) read
      like_read = like_fit c begun.is_report begun.is_module begun.formed lists read shaped before are conjugates conjugate is_conjugates

      pub blocks_stopped : (reason : Reason) → IsBlockReason conjugates read series reason → IsFirstReason c reason
      blocks_stopped reason found =
          block_first c begun.is_report begun.is_module begun.formed lists read shaped before are conjugates conjugate is_conjugates reason
          (subst (λ s. IsBlockReason conjugates read s reason) series_is found)

      pub blocks_passed : HasAllBlocks conjugates read series → HasRightBlocks c
      blocks_passed has =
          right_blocks c begun.is_report begun.is_module begun.formed lists read shaped before are conjugates conjugate is_conjugates
          (subst (HasAllBlocks conjugates read) series_is has)

    -- ---- words and pairs

    module _ (blocks : HasRightBlocks c) (seed : ℕ) (seed_is : seed ≡ report.header.seed) (again : List FactorValue) (again_is : again ≡ report.factors) where
      pub words_stopped : (reason : Reason) → IsFirstUnseenReason read seed again reason → IsFirstReason c reason
      words_stopped reason found =
          unseen_first c begun.is_report begun.is_module begun.formed lists read shaped before are blocks reason
          (subst (λ r. IsFirstUnseenReason read report.header.seed r reason) again_is (subst (λ s. IsFirstUnseenReason read s again reason) seed_is found))

      module _ (forms : List FormValue) (seen : AreSeenAs read seed again forms) where
        factors_right : HasRightFactors c
        factors_right =
            right_factors c begun.is_report begun.is_module begun.formed lists read shaped before are blocks
            (subst (λ r. AreSeenAs read report.header.seed r forms) again_is (subst (λ s. AreSeenAs read s again forms) seed_is seen)).seen

        pub pairs_ended : (third : List FactorValue) → third ≡ report.factors → (result : Result ⊤ Stop) →
            Passes (λ x. AreApartTo read (length read)) (IsFirstSameReason read third) result → Passes (λ x. IsCertified c) (IsFirstReason c) result
        pairs_ended third third_is result passes =
            passes_more (λ x. AreApartTo read (length read)) (λ x. IsCertified c) (IsFirstSameReason read third) (IsFirstReason c) result passes
            (λ x apart. certified c begun.is_report begun.is_module begun.formed lists read shaped before are factors_right apart)
            (λ reason found. same_first c begun.is_report begun.is_module begun.formed lists read shaped before are reason factors_right
            (subst (λ r. IsFirstSameReason read r reason) third_is found))
