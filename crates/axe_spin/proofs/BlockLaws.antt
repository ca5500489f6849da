-- Blocks of rows, and spaces into which the images of a block are inserted.
use Rattle.std.specs.Prelude.{◌≡◌, ℕ, ◌+◌, ◌-◌, ◌<◌, ◌≤◌, List, [], ◌∷◌, ◌++◌, length, get_or, Bool, true, false, if◌then◌else◌, suc}
use Rattle.std.specs.Prelude.{None, Ok, Err}
use Rattle.std.proofs.lemmas.List.{append-nil, append_assoc, get_or_append_left, get_or_push, length_push, length-append, get_or-append-add}
use Rattle.std.proofs.lemmas.List.FromFn.{map-range_with_len_more}
use Rattle.axe_algebra.specs.NumberField.{NumberField}
use Rattle.axe_algebra.specs.Lists.{listed, IsMatrixOver}
use Rattle.axe_algebra.specs.ListArithmetic.{combination}
use Rattle.axe_algebra.specs.SpansOfLists.{IsSpanned, HaveSameSpan}
use Rattle.axe_algebra.specs.ModulesOfLists.{IsGenerated}
use Rattle.axe_algebra.proofs.ListEntries.{row_over, listed_at, listed_length}
use Rattle.axe_algebra.proofs.ListGenerated.{seed_row_generated, image_generated, spanned_generated}
use Rattle.axe_algebra.proofs.ListSpans.{appended_spans, appended_row_spanned}
use Rattle.axe_algebra.proofs.ListVectors.{same_span_refl, same_span_by_rows, same_span_trans}
use Rattle.axe_field.specs.Order.{order_number}
use Rattle.axe_field.specs.NumberFields.{number_field}
use Rattle.axe_row.specs.Refusals.{Answers}
use Rattle.axe_row.specs.declared.refusals.Refusal.{Refusal}
use Rattle.axe_row.specs.declared.refusals.Refusal.TheVariants.{Memory}
use Rattle.axe_matrix.specs.Matrices.{MatrixValue, matrix_product, product_refusal}
use Rattle.axe_matrix.proofs.ProductLaws.{get_or-product, length-product, product_refusal-none}
use Rattle.axe_echelon.specs.Echelons.{EchelonValue, IsEchelon}
use Rattle.axe_echelon.specs.Subspaces.{SpansOneMore}
use Rattle.axe_echelon.proofs.Exits.{memory_if_accepted}
use Rattle.axe_echelon.proofs.FormLaws.{below_or_at}
use Rattle.axe_echelon.proofs.RowSpaces.{grown_span}
use Rattle.axe_spin.specs.Blocks.{block_of_rows, SpansMore}
use Rattle.axe_spin.specs.Modules.{ModuleValue, IsModule, generator_of}
use Rattle.axe_spin.specs.Spaces.{IsSubspaceOf, IsEnlarged, AreImagesSpanned}
use Rattle.axe_spin.specs.Spun.{image_of_row}
use Rattle.axe_spin.proofs.SpaceLaws.{space_over, enlarged_on, images_stay, image_in_enlarged}
use mathlib.Core.Path.{refl, sym, ◌∙◌, ap, subst}
use native.Mathlib.Decide.{dec_lt}
use native.Mathlib.Omega.{arith}

-- ---- the block of rows

-- one row more
pub block_more : (space : EchelonValue) (source index : ℕ) (block next : MatrixValue) (row : List ℕ) → source ≤ index →
    block ≡ block_of_rows space source (index - source) → next ≡ record block { rows = block.rows ++ row ∷ [] } → row ≡ get_or space.rows index [] →
    next ≡ block_of_rows space source (index + 1 - source)
block_more space source index block next row begun so_far pushed row_is =
    pushed
    ∙ ap (λ (b : MatrixValue). record b { rows = b.rows ++ row ∷ [] }) so_far
    ∙ ap (λ (rows : List (List ℕ)). record { order = space.order; cols = space.cols; rows = rows }) rows_are
  where
    at : ℕ → List ℕ
    at i = get_or space.rows (source + i) []

    here : row ≡ at (index - source)
    here = row_is ∙ ap (λ (k : ℕ). get_or space.rows k []) (omega (arith, begun))

    rows_are : listed (index - source) at ++ row ∷ [] ≡ listed (index + 1 - source) at
    rows_are =
        ap (λ (r : List ℕ). listed (index - source) at ++ r ∷ []) here
        ∙ sym (map-range_with_len_more at 0 (index - source) (index - source) (omega arith))
        ∙ ap (λ (n : ℕ). listed n at) (omega (arith, begun))

-- how many there are, and each
pub block_count : (space : EchelonValue) (source count : ℕ) → length (block_of_rows space source count).rows ≡ count
block_count space source count = listed_length count (λ i. get_or space.rows (source + i) [])

pub block_row : (space : EchelonValue) (source count t : ℕ) → t < count →
    get_or (block_of_rows space source count).rows t [] ≡ get_or space.rows (source + t) []
block_row space source count t below = listed_at count (λ i. get_or space.rows (source + i) []) t [] below

-- ---- the span of rows and one more

module _ (K : NumberField) where
  -- rows that are spanned stay so with a vector beside both
  spanned_with : (a b : List (List ℕ)) (v : List ℕ) → ((t : ℕ) → t < length a → IsSpanned K b (get_or a t [])) →
      (t : ℕ) → t < length (a ++ v ∷ []) → IsSpanned K (b ++ v ∷ []) (get_or (a ++ v ∷ []) t [])
  spanned_with a b v each t below =
      below_or_at (λ t. IsSpanned K (b ++ v ∷ []) (get_or (a ++ v ∷ []) t [])) (length a)
      (λ t before. subst (IsSpanned K (b ++ v ∷ [])) (sym (get_or_append_left a (v ∷ []) [] t before))
      (appended_spans K b v (get_or a t []) (each t before)))
      (subst (IsSpanned K (b ++ v ∷ [])) (sym (get_or_push a v [] (length a) refl)) (appended_row_spanned K b v))
      t (omega (arith, below, length_push a v))

  same_span_with : (a b : List (List ℕ)) (v : List ℕ) → HaveSameSpan K a b → HaveSameSpan K (a ++ v ∷ []) (b ++ v ∷ [])
  same_span_with a b v same = same_span_by_rows K (a ++ v ∷ []) (b ++ v ∷ []) (spanned_with a b v same.forth) (spanned_with b a v same.back)

-- ---- more rows are inserted

-- none yet
pub spans_none : (e : EchelonValue) → SpansMore e [] e
spans_none e = record {
  field = refl;
  columns = refl;
  same = subst (λ rows. HaveSameSpan (number_field e.order) rows e.rows) (sym (append-nil e.rows)) (same_span_refl (number_field e.order) e.rows);
  grown = omega arith;
  begins = λ t below. refl;
}

-- and one more
pub spans_one_more : (old mid next : EchelonValue) (done : List (List ℕ)) (row : List ℕ) (new : Bool) → SpansMore old done mid → IsEchelon mid →
    length row ≡ mid.cols → SpansOneMore new mid row next → (¬ (IsSpanned (number_field mid.order) mid.rows row) → new ≡ true) →
    SpansMore old (done ++ row ∷ []) next
spans_one_more old mid next done row new more h long one_more exactly = record {
  field = one_more.field ∙ more.field;
  columns = one_more.columns ∙ more.columns;
  same = subst (λ rows. HaveSameSpan K rows next.rows) (append_assoc old.rows done (row ∷ []))
      (same_span_trans K ((old.rows ++ done) ++ row ∷ []) (mid.rows ++ row ∷ []) next.rows (same_span_with K (old.rows ++ done) mid.rows row more.same)
      (grown_span old.order mid next row new more.field one_more h long exactly));
  grown = let count : length mid.rows ≤ length next.rows = as_many new one_more.count in omega (arith, more.grown, count);
  begins = λ t below. one_more.begins t (omega (arith, below, more.grown)) ∙ more.begins t below;
}
  where
    K : NumberField
    K = number_field old.order

    as_many : (b : Bool) → length next.rows ≡ (if b then suc (length mid.rows) else length mid.rows) → length mid.rows ≤ length next.rows
    as_many true count = omega (arith, count)
    as_many false count = omega (arith, count)

-- ---- the product of a block and a generator

module _ (m : ModuleValue) (first : EchelonValue) (block generator : MatrixValue) (source count number : ℕ) (h : IsSubspaceOf m first)
    (block_is : block ≡ block_of_rows first source count) (generator_is : generator ≡ generator_of m number) (square : length generator.rows ≡ m.dim) where
  none_refused : product_refusal block generator ≡ None
  none_refused = product_refusal-none block generator
      (ap order_number (ap (λ (b : MatrixValue). b.order) block_is ∙ h.field ∙ sym (ap (λ (g : MatrixValue). g.order) generator_is)))
      (ap (λ (b : MatrixValue). b.cols) block_is ∙ h.columns ∙ sym square)

  pub images_given : (images : MatrixValue) → Answers (product_refusal block generator) (λ whole. whole ≡ matrix_product block generator) (Ok images) →
      images ≡ matrix_product block generator
  images_given images given = subst (λ why. Answers why (λ whole. whole ≡ matrix_product block generator) (Ok images)) none_refused given

  pub images_memory : (refusal : Refusal) → Answers (product_refusal block generator) (λ whole. whole ≡ matrix_product block generator) (Err refusal) →
      refusal ≡ Memory
  images_memory refusal given = memory_if_accepted (product_refusal block generator) (λ whole. whole ≡ matrix_product block generator) refusal none_refused given

  module _ (images : MatrixValue) (given : images ≡ matrix_product block generator) where
    pub images_field : images.order ≡ m.order
    images_field = ap (λ (b : MatrixValue). b.order) given ∙ ap (λ (b : MatrixValue). b.order) block_is ∙ h.field

    pub images_columns : images.cols ≡ m.dim
    images_columns = ap (λ (b : MatrixValue). b.cols) given ∙ ap (λ (g : MatrixValue). g.cols) generator_is

    block_rows : length block.rows ≡ count
    block_rows = ap (λ (b : MatrixValue). length b.rows) block_is ∙ block_count first source count

    pub images_count : length images.rows ≡ count
    images_count = ap (λ (b : MatrixValue). length b.rows) given ∙ length-product (number_field block.order) generator.cols block.rows generator.rows ∙ block_rows

    -- each of its rows is the image of a row, also where the space has more rows since
    pub images_each : (space : EchelonValue) → IsEnlarged m first space → source + count ≤ length first.rows → (t : ℕ) → t < count →
        get_or images.rows t [] ≡ image_of_row m space.rows (source + t) number
    images_each space enlarged within t below =
        ap (λ (b : MatrixValue). get_or b.rows t []) given
        ∙ get_or-product (number_field block.order) generator.cols block.rows generator.rows t (omega (arith, below, block_rows))
        ∙ ap (λ (g : MatrixValue). combination (number_field block.order) g.cols (get_or block.rows t []) g.rows) generator_is
        ∙ ap (λ (b : MatrixValue). combination (number_field b.order) m.dim (get_or b.rows t []) (get_or m.generators number [])) block_is
        ∙ ap (λ o. combination (number_field o) m.dim (get_or (block_of_rows first source count).rows t []) (get_or m.generators number [])) h.field
        ∙ ap (λ (v : List ℕ). combination (number_field m.order) m.dim v (get_or m.generators number []))
        (block_row first source count t below ∙ sym (enlarged.begins (source + t) (omega (arith, below, within))))

-- ---- the images of a block are inserted

module _ (m : ModuleValue) (is : IsModule m) (space next : EchelonValue) (images : List (List ℕ)) (source count number : ℕ) (h : IsSubspaceOf m space)
    (within : source + count ≤ length space.rows) (inside : number < length m.generators) (many : length images ≡ count)
    (each : (t : ℕ) → t < count → get_or images t [] ≡ image_of_row m space.rows (source + t) number) (more : SpansMore space images next)
    (well_formed : IsEchelon next) where
  abbrev K : NumberField
  K = number_field m.order

  over : IsMatrixOver K m.dim space.rows
  over = space_over m space h.field h.columns h.well_formed

  same : HaveSameSpan K (space.rows ++ images) next.rows
  same = subst (λ o. HaveSameSpan (number_field o) (space.rows ++ images) next.rows) h.field more.same

  -- the image at an index
  image_at : (t : ℕ) → t < count → get_or (space.rows ++ images) (length space.rows + t) [] ≡ image_of_row m space.rows (source + t) number
  image_at t below = get_or-append-add space.rows images t [] ∙ each t below

  image_spanned : (t : ℕ) → t < count → IsSpanned K next.rows (image_of_row m space.rows (source + t) number)
  image_spanned t below =
      subst (IsSpanned K next.rows) (image_at t below)
      (same.forth (length space.rows + t) (omega (arith, below, many, length-append space.rows images)))

  row_generated : (t : ℕ) → t < length space.rows → IsGenerated K m.dim m.generators space.rows (get_or space.rows t [])
  row_generated t below = seed_row_generated K m.dim m.generators space.rows t over below

  image_in_generated : (r : ℕ) → r < length space.rows → IsGenerated K m.dim m.generators space.rows (image_of_row m space.rows r number)
  image_in_generated r below =
      image_generated K m.dim m.generators is.over.square space.rows (get_or space.rows r []) number (row_over K m.dim space.rows r over below) inside
      (row_generated r below)

  row_or_image_generated : (t : ℕ) → t < length (space.rows ++ images) → IsGenerated K m.dim m.generators space.rows (get_or (space.rows ++ images) t [])
  row_or_image_generated t below = cases (dec_lt t (length space.rows))
    where
      cases : Dec (t < length space.rows) → IsGenerated K m.dim m.generators space.rows (get_or (space.rows ++ images) t [])
      cases (yes before) = subst (IsGenerated K m.dim m.generators space.rows) (sym (get_or_append_left space.rows images [] t before)) (row_generated t before)
      cases (no past) =
          let small : t - length space.rows < count = omega (arith, below, past, many, length-append space.rows images) in
          subst (IsGenerated K m.dim m.generators space.rows)
          (sym (ap (λ (k : ℕ). get_or (space.rows ++ images) k []) (omega (arith, past)) ∙ image_at (t - length space.rows) small))
          (image_in_generated (source + (t - length space.rows)) (omega (arith, small, within)))

  pub enlarged_by_images : IsEnlarged m space next
  enlarged_by_images = record {
    subspace = record { field = more.field ∙ h.field; columns = more.columns ∙ h.columns; well_formed = well_formed };
    grown = more.grown;
    begins = more.begins;
    generated = λ t below.
        spanned_generated K m.dim m.generators space.rows (space.rows ++ images) (get_or next.rows t []) row_or_image_generated (same.back t below);
  }

  -- the image of a row of the block is spanned, as those under the generators before are
  next_image : (r : ℕ) → source ≤ r → r < source + count → IsSpanned K next.rows (image_of_row m next.rows r number)
  next_image r begun below =
      image_in_enlarged_to r (omega (arith, below, within))
      (subst (λ (k : ℕ). IsSpanned K next.rows (image_of_row m space.rows k number)) (omega (arith, begun))
      (image_spanned (r - source) (omega (arith, begun, below))))
    where
      image_in_enlarged_to : (r : ℕ) → r < length space.rows → IsSpanned K next.rows (image_of_row m space.rows r number) →
          IsSpanned K next.rows (image_of_row m next.rows r number)
      image_in_enlarged_to r small = image_in_enlarged m is space next r number enlarged_by_images small

  pub images_of_more : ((r : ℕ) → source ≤ r → r < source + count → AreImagesSpanned m space.rows r number) →
      (r : ℕ) → source ≤ r → r < source + count → AreImagesSpanned m next.rows r (number + 1)
  images_of_more before r begun below i less =
      below_or_at (λ i. IsSpanned K next.rows (image_of_row m next.rows r i)) number
      (images_stay m is space next r number enlarged_by_images (omega (arith, below, within)) (before r begun below))
      (next_image r begun below) i (omega (arith, less))

-- ---- rows that were taken

-- the images of the first `taken` rows of the enlarged space are spanned
pub record AreTaken (m : ModuleValue) (old space : EchelonValue) (taken : ℕ) : Type 0 where
  pub enlarged : IsEnlarged m old space
  pub within : taken ≤ length space.rows
  pub images : (r : ℕ) → r < taken → AreImagesSpanned m space.rows r (length m.generators)

module _ (m : ModuleValue) (is : IsModule m) (old space next : EchelonValue) (taken count : ℕ) (before : IsEnlarged m old space)
    (within : taken + count ≤ length space.rows) (images : (r : ℕ) → r < taken → AreImagesSpanned m space.rows r (length m.generators))
    (enlarged : IsEnlarged m space next) where
  -- a block of rows more
  pub rows_taken : ((r : ℕ) → taken ≤ r → r < taken + count → AreImagesSpanned m next.rows r (length m.generators)) → AreTaken m old next (taken + count)
  rows_taken more = record {
    enlarged = enlarged_on m is old space next before enlarged;
    within = omega (arith, within, enlarged.grown);
    images = λ r below. cases r below (dec_lt r taken);
  }
    where
      cases : (r : ℕ) → r < taken + count → Dec (r < taken) → AreImagesSpanned m next.rows r (length m.generators)
      cases r below (yes first) =
          images_stay m is space next r (length m.generators) enlarged (omega (arith, first, within)) (images r first)
      cases r below (no past) = more r (omega (arith, past)) below

  -- one row more
  pub row_taken : count ≡ 1 → AreImagesSpanned m next.rows taken (length m.generators) → AreTaken m old next (taken + count)
  row_taken one more = rows_taken (λ r begun below.
      subst (λ (k : ℕ). AreImagesSpanned m next.rows k (length m.generators)) (omega (arith, one, begun, below)) more)
