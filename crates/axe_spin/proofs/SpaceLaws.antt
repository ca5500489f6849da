-- Spaces of vectors of a module, enlarged by images, and the spaces that rows generate.
use Rattle.std.specs.Prelude.{◌≡◌, ℕ, suc, ◌+◌, ◌<◌, ◌≤◌, List, [], ◌∷◌, ◌++◌, length, get_or, Bool, true, false, if◌then◌else◌}
use Rattle.std.proofs.lemmas.List.{get_or_append_left, get_or_push, length_push}
use Rattle.axe_algebra.specs.NumberField.{NumberField}
use Rattle.axe_algebra.specs.Field.{Field}
use Rattle.axe_algebra.specs.Vectors.{Vector}
use Rattle.axe_algebra.specs.Modules.{Module, InGenerated}
use Rattle.axe_algebra.specs.Bridge.{field_of, matrix_of, module_of}
use Rattle.axe_algebra.specs.Lists.{IsMatrixOver}
use Rattle.axe_algebra.specs.ListArithmetic.{combination}
use Rattle.axe_algebra.specs.SpansOfLists.{IsSpanned, HaveSameSpan}
use Rattle.axe_algebra.specs.ModulesOfLists.{IsGenerated}
use Rattle.axe_algebra.proofs.Generated.{generated_is_invariant, generated_is_least}
use Rattle.axe_algebra.proofs.ListEntries.{row_over, rows_length}
use Rattle.axe_algebra.proofs.ListGenerated.{seed_row_generated, image_generated, spanned_generated, generates}
use Rattle.axe_algebra.proofs.ListModules.{module_shape, invariant_by_images}
use Rattle.axe_algebra.proofs.ListSpans.{row_spanned, appended_row_spanned}
use Rattle.axe_algebra.proofs.ListVectors.{spanned_within, same_span_sym}
use Rattle.axe_algebra.proofs.Spanning.{span_within}
use Rattle.axe_field.specs.NumberFields.{number_field}
use Rattle.axe_matrix.specs.Matrices.{MatrixValue}
use Rattle.axe_echelon.specs.Echelons.{EchelonValue, IsEchelon, IsRowSpace}
use Rattle.axe_echelon.specs.Subspaces.{SpansOneMore}
use Rattle.axe_echelon.proofs.EliminationLaws.{full_echelon_spans}
use Rattle.axe_echelon.proofs.FormLaws.{below_or_at}
use Rattle.axe_echelon.proofs.RowSpaces.{grown_span}
use Rattle.axe_spin.specs.Modules.{ModuleValue, IsModule}
use Rattle.axe_spin.specs.Spaces.{IsSubspaceOf, IsEnlarged, AreImagesSpanned}
use Rattle.axe_spin.specs.Spinning.{IsGeneratedSpace}
use Rattle.axe_spin.specs.Spun.{image_of_row}
use Rattle.axe_spin.proofs.SpunLaws.{image_over}
use mathlib.Core.Path.{refl, sym, ◌∙◌, ap, subst}
use native.Mathlib.Omega.{arith}

-- the row space of vectors of a module
pub subspace_of_rows : (m : ModuleValue) (rows : MatrixValue) (space : EchelonValue) → rows.order ≡ m.order → rows.cols ≡ m.dim → IsRowSpace rows space →
    IsSubspaceOf m space
subspace_of_rows m rows space field columns is = record {
  field = is.field ∙ field;
  columns = is.columns ∙ columns;
  well_formed = is.well_formed;
}

-- ---- spaces of vectors of a module

-- the rows of a subspace over the field and of the length of the module's vectors are such vectors
pub space_over : (m : ModuleValue) (space : EchelonValue) → space.order ≡ m.order → space.cols ≡ m.dim → IsEchelon space →
    IsMatrixOver (number_field m.order) m.dim space.rows
space_over m space field columns h =
    subst (λ n. IsMatrixOver (number_field m.order) n space.rows) columns (subst (λ o. IsMatrixOver (number_field o) space.cols space.rows) field h.over)

-- a space is enlarged by nothing
pub enlarged_by_nothing : (m : ModuleValue) (space : EchelonValue) → IsSubspaceOf m space → IsEnlarged m space space
enlarged_by_nothing m space h = record {
  subspace = h;
  grown = omega arith;
  begins = λ t below. refl;
  generated = λ t below. seed_row_generated (number_field m.order) m.dim m.generators space.rows t (space_over m space h.field h.columns h.well_formed) below;
}

module _ (m : ModuleValue) (is : IsModule m) where
  abbrev K : NumberField
  K = number_field m.order

  abbrev F : Field
  F = field_of K

  abbrev M : Module F
  M = module_of K m.dim m.generators

  over : (space : EchelonValue) → IsSubspaceOf m space → IsMatrixOver K m.dim space.rows
  over space h = space_over m space h.field h.columns h.well_formed

  -- what generated vectors generate is generated
  generated_by_generated : (rows others : List (List ℕ)) → IsMatrixOver K m.dim others →
      ((t : ℕ) → t < length others → IsGenerated K m.dim m.generators rows (get_or others t [])) →
      (x : Vector F) → InGenerated F M (length others) (matrix_of K others) x → InGenerated F M (length rows) (matrix_of K rows) x
  generated_by_generated rows others over_others each =
      generated_is_least F M (module_shape K m.dim m.generators is.over.square) (InGenerated F M (length rows) (matrix_of K rows))
      (generated_is_invariant F M (module_shape K m.dim m.generators is.over.square) (length rows) (matrix_of K rows))
      (length others) (matrix_of K others) (rows_length K m.dim others over_others) each

  -- a space that is enlarged twice is enlarged
  pub enlarged_on : (old mid new : EchelonValue) → IsEnlarged m old mid → IsEnlarged m mid new → IsEnlarged m old new
  enlarged_on old mid new first second = record {
    subspace = second.subspace;
    grown = omega (arith, first.grown, second.grown);
    begins = λ t below. second.begins t (omega (arith, below, first.grown)) ∙ first.begins t below;
    generated = λ t below.
        generated_by_generated old.rows mid.rows (over mid first.subspace) first.generated (matrix_of K new.rows t) (second.generated t below);
  }

  -- what is spanned stays spanned
  old_row_spanned : (old new : EchelonValue) → IsEnlarged m old new → (t : ℕ) → t < length old.rows → IsSpanned K new.rows (get_or old.rows t [])
  old_row_spanned old new enlarged t below =
      subst (IsSpanned K new.rows) (enlarged.begins t below) (row_spanned K new.rows t (omega (arith, below, enlarged.grown)))

  pub spanned_in_enlarged : (old new : EchelonValue) (v : List ℕ) → IsEnlarged m old new → IsSpanned K old.rows v → IsSpanned K new.rows v
  spanned_in_enlarged old new v enlarged spanned =
      span_within F (length old.rows) (matrix_of K old.rows) (length new.rows) (matrix_of K new.rows) _ (old_row_spanned old new enlarged) spanned

  -- and so do images of rows
  pub image_in_enlarged : (old new : EchelonValue) (r i : ℕ) → IsEnlarged m old new → r < length old.rows → IsSpanned K new.rows (image_of_row m old.rows r i) →
      IsSpanned K new.rows (image_of_row m new.rows r i)
  image_in_enlarged old new r i enlarged below =
      subst (λ (v : List ℕ). IsSpanned K new.rows (combination K m.dim v (get_or m.generators i []))) (sym (enlarged.begins r below))

  pub images_stay : (old new : EchelonValue) (r count : ℕ) → IsEnlarged m old new → r < length old.rows → AreImagesSpanned m old.rows r count →
      AreImagesSpanned m new.rows r count
  images_stay old new r count enlarged below images i inside =
      image_in_enlarged old new r i enlarged below (spanned_in_enlarged old new (image_of_row m old.rows r i) enlarged (images i inside))

  -- those of one more generator
  pub images_more : (old new : EchelonValue) (r count : ℕ) → IsEnlarged m old new → r < length old.rows → AreImagesSpanned m old.rows r count →
      IsSpanned K new.rows (image_of_row m new.rows r count) → AreImagesSpanned m new.rows r (count + 1)
  images_more old new r count enlarged below images image i less =
      below_or_at (λ i. IsSpanned K new.rows (image_of_row m new.rows r i)) count (images_stay old new r count enlarged below images) image i
      (omega (arith, less))

  -- no images of a row yet, and those of a row of the whole space
  pub images_of_whole : (space : EchelonValue) (r : ℕ) → IsSubspaceOf m space → length space.rows ≡ m.dim → r < length space.rows →
      AreImagesSpanned m space.rows r (length m.generators)
  images_of_whole space r h full below i inside =
      let long : length (image_of_row m space.rows r i) ≡ m.dim = (image_over m space.rows r i is (over space h) below inside).length_is in
      subst (λ o. IsSpanned (number_field o) space.rows (image_of_row m space.rows r i)) h.field
      (full_echelon_spans space (image_of_row m space.rows r i) h.well_formed (full ∙ sym h.columns) (long ∙ sym h.columns))

  -- the image of a row is inserted
  module _ (space next : EchelonValue) (image : List ℕ) (new : Bool) (source number : ℕ) (h : IsSubspaceOf m space) (below : source < length space.rows)
      (inside : number < length m.generators) (image_is : image ≡ image_of_row m space.rows source number) (one_more : SpansOneMore new space image next)
      (exactly : ¬ (IsSpanned (number_field space.order) space.rows image) → new ≡ true) (well_formed : IsEchelon next) where
    same : HaveSameSpan K (space.rows ++ image ∷ []) next.rows
    same = grown_span m.order space next image new h.field one_more h.well_formed long exactly
      where
        long : length image ≡ space.cols
        long = ap length image_is ∙ (image_over m space.rows source number is (over space h) below inside).length_is ∙ sym h.columns

    row_or_image_generated : (t : ℕ) → t < length (space.rows ++ image ∷ []) → IsGenerated K m.dim m.generators space.rows (get_or (space.rows ++ image ∷ []) t [])
    row_or_image_generated t within =
        below_or_at (λ t. IsGenerated K m.dim m.generators space.rows (get_or (space.rows ++ image ∷ []) t [])) (length space.rows)
        (λ t before. subst (IsGenerated K m.dim m.generators space.rows) (sym (get_or_append_left space.rows (image ∷ []) [] t before))
        (seed_row_generated K m.dim m.generators space.rows t (over space h) before))
        (subst (IsGenerated K m.dim m.generators space.rows) (sym (get_or_push space.rows image [] (length space.rows) refl ∙ image_is))
        (image_generated K m.dim m.generators is.over.square space.rows (get_or space.rows source []) number
        (row_over K m.dim space.rows source (over space h) below) inside
        (seed_row_generated K m.dim m.generators space.rows source (over space h) below)))
        t (omega (arith, within, length_push space.rows image))

    as_many : (b : Bool) → length next.rows ≡ (if b then suc (length space.rows) else length space.rows) → length space.rows ≤ length next.rows
    as_many true count = omega (arith, count)
    as_many false count = omega (arith, count)

    pub enlarged_by_image : IsEnlarged m space next
    enlarged_by_image = record {
      subspace = record { field = one_more.field ∙ h.field; columns = one_more.columns ∙ h.columns; well_formed = well_formed };
      grown = as_many new one_more.count;
      begins = one_more.begins;
      generated = λ t within.
          spanned_generated K m.dim m.generators space.rows (space.rows ++ image ∷ []) (get_or next.rows t []) row_or_image_generated (same.back t within);
    }

    -- and is spanned
    pub image_inserted : IsSpanned K next.rows (image_of_row m next.rows source number)
    image_inserted =
        image_in_enlarged space next source number enlarged_by_image below
        (subst (IsSpanned K next.rows) image_is
        (spanned_within K (space.rows ++ image ∷ []) next.rows image same (appended_row_spanned K space.rows image)))

  -- where the images of all rows are spanned, the space is what the old one generates
  pub generated_by_old : (old new : EchelonValue) (source : ℕ) → IsSubspaceOf m old → IsEnlarged m old new → length new.rows ≤ source →
      ((r : ℕ) → r < source → AreImagesSpanned m new.rows r (length m.generators)) → IsGeneratedSpace m old.rows new
  generated_by_old old new source h enlarged all images = record {
    field = enlarged.subspace.field;
    columns = enlarged.subspace.columns;
    generated = generates K m.dim m.generators is.over.square old.rows new.rows (over old h)
        (invariant_by_images K m.dim m.generators new.rows is.over.square (over new enlarged.subspace)
        (λ t i within inside. images t (omega (arith, within, all)) i inside))
        (old_row_spanned old new enlarged) enlarged.generated;
    well_formed = enlarged.subspace.well_formed;
  }

  -- rows with one span generate the same
  generated_by_same_span : (rows others : List (List ℕ)) → IsMatrixOver K m.dim rows → IsMatrixOver K m.dim others → HaveSameSpan K rows others →
      (x : Vector F) → InGenerated F M (length others) (matrix_of K others) x → InGenerated F M (length rows) (matrix_of K rows) x
  generated_by_same_span rows others over_rows over_others same =
      generated_by_generated rows others over_others (λ t below.
      spanned_generated K m.dim m.generators rows rows (get_or others t [])
      (λ s inside. seed_row_generated K m.dim m.generators rows s over_rows inside) (same.back t below))

  pub generated_by_rows : (rows : MatrixValue) (start space : EchelonValue) → rows.order ≡ m.order → IsMatrixOver K m.dim rows.rows →
      IsRowSpace rows start → IsSubspaceOf m start → IsGeneratedSpace m start.rows space → IsGeneratedSpace m rows.rows space
  generated_by_rows rows start space field over_rows row_space h generated = record {
    field = generated.field;
    columns = generated.columns;
    generated = record {
      forth = λ x in_span. generated_by_same_span rows.rows start.rows over_rows (over start h) same x (generated.generated.forth x in_span);
      back = λ x in_generated. generated.generated.back x
          (generated_by_same_span start.rows rows.rows (over start h) over_rows (same_span_sym K rows.rows start.rows same) x in_generated);
    };
    well_formed = generated.well_formed;
  }
    where
      same : HaveSameSpan K rows.rows start.rows
      same = subst (λ o. HaveSameSpan (number_field o) rows.rows start.rows) field row_space.same
