-- The rows of a conjugate by a standard basis, sorted and made.
use Rattle.std.specs.Prelude.{◌≡◌, ℕ, ◌+◌, ◌<◌, List, [], ◌∷◌, ◌++◌, length, get_or, set, map, Option, Some, None}
use Rattle.std.specs.List.{All}
use Rattle.std.proofs.lemmas.List.{get_or_append_left, get_or_push, length_push, length-map, get_or-map, ext_get_or, length-set, get_or-set_same, get_or-set_other}
use Rattle.std.proofs.lemmas.List.Elements.{All-push, All-from_get_or}
use Rattle.std.proofs.lemmas.List.FromFn.{fill_by_all}
use Rattle.axe_algebra.specs.NumberField.{NumberField}
use Rattle.axe_algebra.specs.Lists.{unit_row, listed}
use Rattle.axe_algebra.specs.ListArithmetic.{product, combination, identity}
use Rattle.axe_algebra.proofs.ListEntries.{listed_at, listed_length}
use Rattle.axe_field.specs.Order.{Order}
use Rattle.axe_field.specs.NumberFields.{number_field}
use Rattle.axe_matrix.specs.Matrices.{MatrixValue, IsMatrix, matrix_product, rows_at}
use Rattle.axe_matrix.proofs.PartialMatrices.{IsPartialMatrix, IsPartialMatrix-all}
use Rattle.axe_matrix.proofs.ProductLaws.{length-product, get_or-product}
use Rattle.axe_reduction.specs.Solutions.{IsInverseMatrix}
use Rattle.axe_spin.specs.Modules.{ModuleValue, generator_of}
use Rattle.axe_spin.specs.Origins.{IsOriginOf, HaveOrigins}
use Rattle.axe_spin.specs.declared.spinning.Origin.{Origin}
use Rattle.axe_action.specs.declared.known_rows.KnownRow.{KnownRow}
use Rattle.axe_action.specs.declared.known_rows.KnownRow.TheVariants.{UnitVector, ProductRow}
use Rattle.axe_action.specs.KnownRows.{IsImageAmong, TellImages, HasOrigin, AreKnownImages, IsSortedAt, AreSorted, IsRowIn, row_in, rows_in}
use Rattle.axe_action.proofs.ConjugateLaws.{IsBasisFor}
use mathlib.Core.Path.{sym, ◌∙◌, ap, subst}
use native.Mathlib.Omega.{arith}
use native.Mathlib.Decide.{ℕ_discrete}

-- ---- known images

-- at first none is known
pub known_none : (origins : List Origin) (generator count : ℕ) (images : List (Option ℕ)) → length images ≡ count → All (λ image. image ≡ None) images →
    AreKnownImages origins generator count images
known_none origins generator count images many none = record {
  as_many = many;
  each = λ t k below is. absurd (nothing k (sym (none t None (omega (arith, below, many))) ∙ is));
}
  where
    nothing : (k : ℕ) → ¬ (◌≡◌ {A = Option ℕ} None (Some k))
    nothing k e = cc

-- one more
pub known_more : (origins : List Origin) (generator count : ℕ) (images : List (Option ℕ)) (place source : ℕ) → AreKnownImages origins generator count images →
    place < length origins → source < count → ((other : Origin) → (get_or origins place other).source ≡ source) →
    ((other : Origin) → (get_or origins place other).generator ≡ generator) →
    AreKnownImages origins generator count (set images source (Some (place + 1)))
known_more origins generator count images place source known below small from by = record {
  as_many = length-set images source (Some (place + 1)) ∙ known.as_many;
  each = λ t k inside is. at t k inside is (ℕ_discrete t source);
}
  where
    some : (a b : ℕ) → ◌≡◌ {A = Option ℕ} (Some a) (Some b) → a ≡ b
    some a b e = cc

    at : (t k : ℕ) → t < count → get_or (set images source (Some (place + 1))) t None ≡ Some k → Dec (t ≡ source) → HasOrigin origins generator t k
    at t k inside is (no other) = known.each t k inside (sym (get_or-set_other images source t (Some (place + 1)) None other) ∙ is)
    at t k inside is (yes same) = record {
      place = place;
      below = below;
      next = sym (some (place + 1) k
          (sym (ap (λ i. get_or (set images source (Some (place + 1))) i None) same
          ∙ get_or-set_same images source (Some (place + 1)) None (omega (arith, small, known.as_many))) ∙ is));
      source = λ other. from other ∙ sym same;
      number = by;
    }

-- ---- sorted rows

-- at first none is sorted
pub sorted_none : (images : List (Option ℕ)) (others : List ℕ) (rows : List KnownRow) → others ≡ [] → rows ≡ [] → AreSorted images 0 others rows
sorted_none images others rows no_others no_rows = record {
  within = λ i d below. absurd (omega (arith, below, ap (λ (l : List ℕ). length l) no_others));
  few = omega (arith, ap (λ (l : List ℕ). length l) no_others);
  as_many = ap (λ (l : List KnownRow). length l) no_rows;
  each = λ t other below. absurd (omega (arith, below));
}

-- with more others a row stays where it is sorted
sorted_still : (images : List (Option ℕ)) (others : List ℕ) (new t : ℕ) (row : KnownRow) → IsSortedAt images others t row →
    IsSortedAt images (others ++ new ∷ []) t row
sorted_still images others new t (UnitVector k) h = h
sorted_still images others new t (ProductRow i) h =
    (omega (arith, length_push others new, h.0), get_or_append_left others (new ∷ []) 0 i h.0 ∙ h.1)

-- one row more
sorted_push : (images : List (Option ℕ)) (count : ℕ) (others : List ℕ) (rows : List KnownRow) (row : KnownRow) →
    ((t : ℕ) (other : KnownRow) → t < count → IsSortedAt images others t (get_or rows t other)) → length rows ≡ count → IsSortedAt images others count row →
    (t : ℕ) (other : KnownRow) → t < count + 1 → IsSortedAt images others t (get_or (rows ++ row ∷ []) t other)
sorted_push images count others rows row each many is t other below = at (ℕ_discrete t count)
  where
    at : Dec (t ≡ count) → IsSortedAt images others t (get_or (rows ++ row ∷ []) t other)
    at (yes same) =
        subst (IsSortedAt images others t) (sym (get_or_push rows row other t (omega (arith, same, many))))
        (subst (λ i. IsSortedAt images others i row) (sym same) is)
    at (no different) =
        let less : t < count = omega (arith, below, different) in
        subst (IsSortedAt images others t) (sym (get_or_append_left rows (row ∷ []) other t (omega (arith, less, many)))) (each t other less)

-- those that were others are numbers below one more
within_more : (count : ℕ) (others : List ℕ) → All (λ other. other < count) others → All (λ other. other < count + 1) others
within_more count others within = λ i d below. let less : get_or others i d < count = within i d below in omega (arith, less)

pub sorted_unit : (images : List (Option ℕ)) (count : ℕ) (others : List ℕ) (rows more : List KnownRow) (column : ℕ) → AreSorted images count others rows →
    get_or images count None ≡ Some column → more ≡ rows ++ UnitVector column ∷ [] → AreSorted images (count + 1) others more
sorted_unit images count others rows more column sorted is pushed = subst (AreSorted images (count + 1) others) (sym pushed) (record {
  within = within_more count others sorted.within;
  few = omega (arith, sorted.few);
  as_many = omega (arith, length_push rows (UnitVector column), sorted.as_many);
  each = sorted_push images count others rows (UnitVector column) sorted.each sorted.as_many is;
})

pub sorted_product : (images : List (Option ℕ)) (count : ℕ) (others next : List ℕ) (rows more : List KnownRow) (number : ℕ) → AreSorted images count others rows →
    number ≡ length others → next ≡ others ++ count ∷ [] → more ≡ rows ++ ProductRow number ∷ [] → AreSorted images (count + 1) next more
sorted_product images count others next rows more number sorted last grown pushed =
    subst (AreSorted images (count + 1) next) (sym pushed)
    (subst (λ (l : List ℕ). AreSorted images (count + 1) l (rows ++ ProductRow number ∷ [])) (sym grown) (record {
      within = All-push (λ other. other < count + 1) others count (within_more count others sorted.within) (omega arith);
      few = omega (arith, sorted.few, length_push others count);
      as_many = omega (arith, length_push rows (ProductRow number), sorted.as_many);
      each = sorted_push images count (others ++ count ∷ []) rows (ProductRow number)
          (λ t other below. sorted_still images others count t (get_or rows t other) (sorted.each t other below)) sorted.as_many
          (omega (arith, last, length_push others count), get_or_push others count 0 number (sym last));
    }))

-- ---- the rows that are made

-- the row with a number
abbrev pub known_row_at : MatrixValue → List KnownRow → ℕ → List ℕ
known_row_at products rows t = row_in products (get_or rows t (UnitVector 0))

-- such a row is as long as the products have columns
pub row_in-length : (products : MatrixValue) (row : KnownRow) → IsMatrix products → IsRowIn products row → length (row_in products row) ≡ products.cols
row_in-length products (UnitVector k) h is = listed_length products.cols _
row_in-length products (ProductRow i) h is = h.row_lengths i [] is

-- once all are made, they make the matrix of these rows
pub rows_in-all : (products : MatrixValue) (rows : List KnownRow) (n : ℕ) (matrix : MatrixValue) →
    IsPartialMatrix products.order products.cols (known_row_at products rows) n matrix → n ≡ length rows → matrix ≡ rows_in products rows
rows_in-all products rows n matrix so_far all =
    IsPartialMatrix-all _ _ _ _ _ _ so_far all ∙ (λ k. record { order = products.order; cols = products.cols; rows = same k })
  where
    same : listed (length rows) (known_row_at products rows) ≡ map (row_in products) rows
    same = sym (fill_by_all (known_row_at products rows) (map (row_in products) rows) (length rows) [] (length-map rows (row_in products))
        (λ t below. get_or-map (row_in products) rows t (UnitVector 0) [] below))

-- ---- the conjugate

module _ (p g q products : MatrixValue) (origins : List Origin) (number : ℕ) (images : List (Option ℕ)) (others : List ℕ) (rows : List KnownRow)
    (square : length p.rows ≡ p.cols) (inverse : IsInverseMatrix p q) (tell : TellImages p g origins number)
    (known : AreKnownImages origins number (length p.rows) images) (sorted : AreSorted images (length images) others rows)
    (made : products ≡ matrix_product (matrix_product (rows_at others p) g) q) where
  K : NumberField
  K = number_field p.order

  -- a known image is a row of the basis
  known_below : (t k : ℕ) → t < length images → get_or images t None ≡ Some k → k < length p.rows
  known_below t k below is =
      let origin : HasOrigin origins number t k = known.each t k (omega (arith, below, known.as_many)) is in
      omega (arith, origin.next, origin.below, tell.count)

  known_image : (t k : ℕ) → t < length images → get_or images t None ≡ Some k → IsImageAmong p g t k
  known_image t k below is =
      let origin : HasOrigin origins number t k = known.each t k (omega (arith, below, known.as_many)) is in
      let other : Origin = record { source = 0; generator = 0 } in
      subst (λ r. IsImageAmong p g t r) (sym origin.next)
      (subst (λ s. IsImageAmong p g s (origin.place + 1)) (origin.source other) (tell.each origin.place other origin.below (origin.number other)))

  -- the products have a row for each of the other rows
  many_products : length products.rows ≡ length others
  unfolding K
  many_products =
      ap (λ (x : MatrixValue). length x.rows) made
      ∙ length-product K q.cols (product K g.cols (map (λ place. get_or p.rows place []) others) g.rows) q.rows
      ∙ length-product K g.cols (map (λ place. get_or p.rows place []) others) g.rows
      ∙ length-map others (λ place. get_or p.rows place [])

  product_columns : products.cols ≡ p.cols
  product_columns = ap (λ (x : MatrixValue). x.cols) made ∙ inverse.columns

  row_within : (t : ℕ) (row : KnownRow) → t < length images → IsSortedAt images others t row → IsRowIn products row
  row_within t (UnitVector k) below is = omega (arith, known_below t k below is, square, product_columns)
  row_within t (ProductRow i) below is = omega (arith, is.0, many_products)

  pub rows_within : All (IsRowIn products) rows
  rows_within =
      All-from_get_or (IsRowIn products) rows (UnitVector 0)
      (λ t below. let inside : t < length images = omega (arith, below, sorted.as_many) in
      row_within t (get_or rows t (UnitVector 0)) inside (sorted.each t (UnitVector 0) inside))

  -- row t of the conjugate
  conjugate_row : ℕ → List ℕ
  conjugate_row t = combination K q.cols (combination K g.cols (get_or p.rows t []) g.rows) q.rows

  conjugate_rows : List (List ℕ)
  conjugate_rows = product K q.cols (product K g.cols p.rows g.rows) q.rows

  conjugate_at : (t : ℕ) → t < length p.rows → get_or conjugate_rows t [] ≡ conjugate_row t
  unfolding conjugate_row conjugate_rows
  conjugate_at t below =
      get_or-product K q.cols (product K g.cols p.rows g.rows) q.rows t (omega (arith, below, length-product K g.cols p.rows g.rows))
      ∙ ap (λ (v : List ℕ). combination K q.cols v q.rows) (get_or-product K g.cols p.rows g.rows t below)

  -- row k of the basis times the inverse is unit vector k
  basis_row : (k : ℕ) → k < length p.rows → combination K q.cols (get_or p.rows k []) q.rows ≡ unit_row q.cols k
  unfolding K identity
  basis_row k below =
      sym (get_or-product K q.cols p.rows q.rows k below)
      ∙ ap (λ n. get_or (product K n p.rows q.rows) k []) inverse.columns
      ∙ ap (λ (l : List (List ℕ)). get_or l k []) inverse.inverts.right
      ∙ listed_at p.cols (unit_row p.cols) k [] (omega (arith, below, square))
      ∙ ap (λ n. unit_row n k) (sym inverse.columns)

  row_made : (t : ℕ) (row : KnownRow) → t < length images → IsSortedAt images others t row → row_in products row ≡ conjugate_row t
  unfolding K conjugate_row
  row_made t (UnitVector k) below is =
      ap (λ n. unit_row n k) (ap (λ (x : MatrixValue). x.cols) made) ∙ sym (basis_row k (known_below t k below is))
      ∙ ap (λ (v : List ℕ). combination K q.cols v q.rows) (sym (known_image t k below is))
  row_made t (ProductRow i) below is =
      ap (λ (x : MatrixValue). get_or x.rows i []) made
      ∙ get_or-product K q.cols (product K g.cols chosen g.rows) q.rows i (omega (arith, is.0, many, length-product K g.cols chosen g.rows))
      ∙ ap (λ (v : List ℕ). combination K q.cols v q.rows) (get_or-product K g.cols chosen g.rows i (omega (arith, is.0, many)))
      ∙ ap (λ (v : List ℕ). combination K q.cols (combination K g.cols v g.rows) q.rows)
      (get_or-map (λ place. get_or p.rows place []) others i 0 [] is.0 ∙ ap (λ place. get_or p.rows place []) is.1)
    where
      chosen : List (List ℕ)
      chosen = map (λ place. get_or p.rows place []) others

      many : length chosen ≡ length others
      many = length-map others (λ place. get_or p.rows place [])

  -- all of them make the conjugate
  pub rows_made : rows_in products rows ≡ matrix_product (matrix_product p g) q
  unfolding K conjugate_rows
  rows_made = λ i. record {
    order = (made i).order;
    cols = (made i).cols;
    rows = same i;
  }
    where
      same : map (row_in products) rows ≡ conjugate_rows
      same = ext_get_or [] (map (row_in products) rows) conjugate_rows
          (length-map rows (row_in products) ∙ sorted.as_many ∙ known.as_many
          ∙ sym (length-product K q.cols (product K g.cols p.rows g.rows) q.rows ∙ length-product K g.cols p.rows g.rows))
          (λ t below.
          let inside : t < length rows = omega (arith, below, length-map rows (row_in products)) in
          let small : t < length images = omega (arith, inside, sorted.as_many) in
          get_or-map (row_in products) rows t (UnitVector 0) [] inside
          ∙ row_made t (get_or rows t (UnitVector 0)) small (sorted.each t (UnitVector 0) small)
          ∙ sym (conjugate_at t (omega (arith, small, known.as_many))))

-- ---- the origins of a basis

-- they tell of images under each generator
pub images_told : (m : ModuleValue) (p g : MatrixValue) (origins : List Origin) (number : ℕ) → IsBasisFor m p → HaveOrigins m p.rows origins →
    g ≡ generator_of m number → TellImages p g origins number
images_told m p g origins number fits have g_is = record {
  count = omega (arith, have.count);
  within = λ k other below. let earlier = (have.each k other below).earlier in omega (arith, earlier, below, have.count);
  each = λ k other below is. image k (get_or origins k other) (have.each k other below) is;
}
  where
    image : (k : ℕ) (origin : Origin) → IsOriginOf m p.rows k origin → origin.generator ≡ number → IsImageAmong p g origin.source (k + 1)
    image k origin from is =
        ap (λ (x : MatrixValue). combination (number_field p.order) x.cols (get_or p.rows origin.source []) x.rows) g_is
        ∙ ap (λ (o : Order). combination (number_field o) m.dim (get_or p.rows origin.source []) (get_or m.generators number [])) fits.field
        ∙ ap (λ j. combination (number_field m.order) m.dim (get_or p.rows origin.source []) (get_or m.generators j [])) (sym is)
        ∙ sym from.image
