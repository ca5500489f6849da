-- What is true of an outcome, by a chain of sections whose rows are a basis.
use Rattle.std.specs.Prelude.{◌≡◌, ◌↔◌, ℕ, ◌<◌, ◌≤◌, ◌+◌, List, [], ◌∷◌, ◌++◌, length, get_or, slice_get, Some}
use Rattle.std.proofs.lemmas.List.{length-append, append_assoc, get_or_append_left}
use Rattle.std.proofs.lemmas.Option.{slice_get_within, slice_get-get_or, get_or_from_slice_get}
use Rattle.axe_algebra.specs.NumberField.{NumberField}
use Rattle.axe_algebra.specs.Field.{Field}
use Rattle.axe_algebra.specs.Modules.{Module}
use Rattle.axe_algebra.specs.Modules
use Rattle.axe_algebra.specs.Bridge.{vector_of, matrix_of, module_of}
use Rattle.axe_algebra.specs.Blocks.{block_start, AreBlockSizes}
use Rattle.axe_algebra.specs.Lists.{IsMatrixOver}
use Rattle.axe_algebra.specs.SpansOfLists.{SpansEverything}
use Rattle.axe_algebra.specs.ModulesOfLists.{IsInvariant, AreIsomorphic}
use Rattle.axe_algebra.specs.ModuleTheorems.{IsInvariantChain}
use Rattle.axe_algebra.proofs.Sections.{ActsModulo}
use Rattle.axe_algebra.proofs.SectionChains.{chain_of_sections, invariant_of_same_rows}
use Rattle.axe_algebra.proofs.IsomorphismLaws.{isomorphic_refl, isomorphic_sym}
use Rattle.axe_algebra.proofs.ListModules.{module_shape}
use Rattle.axe_field.specs.NumberFields.{number_field, gf}
use Rattle.axe_spin.specs.Modules.{ModuleValue, IsModule}
use Rattle.axe_norton.specs.Verdicts.{LeavesOpen, word_of_seed}
use Rattle.axe_series.specs.Sections.{SectionValue, rows_of_sections}
use Rattle.axe_series.specs.Series.{IsTriangularBy, IsBlockOf, IsIsomorphicTo, IsPlaceOf, AreInOrderOfAppearance, IsSeries, sizes_of_places, IsOpenSection, open_sizes, open_place, basis_of_rows}
use Rattle.axe_series.proofs.AppendedRows.{over_appended}
use Rattle.axe_series.proofs.SectionChain.{IsSectionOf, IsChain, sizes_of, action_at, chain_over, chain_invariant, sizes_length, sizes_add_up, action_dimension, action_field, action_is_module, module_at, acts_at, acts_at_start}
use Rattle.axe_series.proofs.TriangularBasis.{conjugates, triangular_by, block_by, block_is_one}
use Rattle.axe_series.proofs.ActingRows.{invariant_with_section}
use Rattle.axe_series.proofs.Places.{same_of_some}
use Rattle.axe_series.proofs.OpenSizes.{AreOpenSizes, open_sizes_fit}
use Rattle.axe_series.proofs.Factors.{AreFactors, ArePlaced, placed_sizes, placed_at}
use mathlib.Core.Path.{refl, sym, ◌∙◌, ap, subst}
use native.Mathlib.Omega.{arith}
use native.Mathlib.Decide.{dec_lt}

-- isomorphic modules over one field, the other way round
pub isomorphic_back : (m n : ModuleValue) → IsModule m → IsModule n → m.order ≡ n.order → IsIsomorphicTo m n → IsIsomorphicTo n m
isomorphic_back m n is_m is_n fields iso =
    subst (λ o. AreIsomorphic (number_field o) n.dim n.generators m.dim m.generators) fields
    (isomorphic_sym (gf m.order) (module_of (number_field m.order) m.dim m.generators) (module_of (number_field m.order) n.dim n.generators)
    (module_shape (number_field m.order) m.dim m.generators is_m.over.square)
    (subst (λ o. Modules.HasSquareMatrices (gf o) (module_of (number_field o) n.dim n.generators)) (sym fields) (module_shape (number_field n.order) n.dim n.generators is_n.over.square))
    iso)

pub isomorphic_to_itself : (m : ModuleValue) → IsModule m → IsIsomorphicTo m m
isomorphic_to_itself m is =
    isomorphic_refl (gf m.order) (module_of (number_field m.order) m.dim m.generators) (module_shape (number_field m.order) m.dim m.generators is.over.square)

module _ (m : ModuleValue) (is : IsModule m) where
  abbrev K : NumberField
  K = number_field m.order

  abbrev F : Field
  F = gf m.order

  abbrev M : Module F
  M = module_of K m.dim m.generators

  -- ---- a series

  module _ (done : List SectionValue) (chain : IsChain m [] done) (size : length (rows_of_sections done) ≡ m.dim)
      (spans : SpansEverything K m.dim (rows_of_sections done)) where
    over : IsMatrixOver K m.dim (rows_of_sections done)
    over = chain_over m [] done chain

    sizes_are : AreBlockSizes m.dim (sizes_of done)
    sizes_are = record {
      positive = λ b below.
          let small : b < length done = omega (arith, sizes_length m done) in
          let is_module : IsModule (action_at m done b) = action_is_module m [] done chain b small in
          omega (arith, action_dimension m done b small, is_module.over.positive);
      total = sizes_add_up m [] done chain ∙ size;
    }

    acts : (b : ℕ) → b < length (sizes_of done) → ActsModulo F M (block_start (sizes_of done) b) (matrix_of K (rows_of_sections done))
        (λ s. matrix_of K (rows_of_sections done) (block_start (sizes_of done) b + s)) (module_at m done b)
    acts b below =
        let none : length {A = List ℕ} [] + block_start (sizes_of done) b ≡ block_start (sizes_of done) b = omega arith in
        subst (λ c. ActsModulo F M c (matrix_of K (rows_of_sections done)) (λ s. matrix_of K (rows_of_sections done) (c + s)) (module_at m done b)) none
        (acts_at m [] done chain b (omega (arith, sizes_length m done)))

    invariant_chain : IsInvariantChain F M (sizes_of done) (matrix_of K (rows_of_sections done))
    invariant_chain =
        chain_of_sections F M (matrix_of K (rows_of_sections done)) (sizes_of done) (module_at m done)
        (λ b below. action_dimension m done b (omega (arith, sizes_length m done))) acts

    the_conjugates : ModuleValue
    the_conjugates = conjugates m is (rows_of_sections done) over size spans

    block_at : (a : ℕ) → a < length done → IsBlockOf the_conjugates (sizes_of done) a (action_at m done a)
    unfolding the_conjugates
    block_at a below =
        let small : a < length (sizes_of done) = omega (arith, sizes_length m done) in
        block_by m is (rows_of_sections done) over size spans (sizes_of done) sizes_are a small (action_at m done a)
        (action_is_module m [] done chain a below) (action_field m [] done chain a below) (action_dimension m done a below) (acts a small)

    module _ (factors : List ModuleValue) (places : List ℕ) (placed : ArePlaced factors done places) (are : AreFactors m factors)
        (order : AreInOrderOfAppearance (length factors) places) where
      same_sizes : sizes_of_places factors places ≡ sizes_of done
      same_sizes = placed_sizes factors done places placed

      factor_at : (a number : ℕ) (factor : ModuleValue) → IsPlaceOf places a number → slice_get factors number ≡ Some factor →
          IsBlockOf the_conjugates (sizes_of_places factors places) a factor
      factor_at a number factor place at =
          let there : (a < length done) × (action_at m done a ≡ factor) = placed_at m factors done places placed a number factor place at in
          subst (λ sizes. IsBlockOf the_conjugates sizes a factor) (sym same_sizes)
          (subst (IsBlockOf the_conjugates (sizes_of done) a) there.1 (block_at a there.0))

      -- the factor of a place
      factor_of : (a number : ℕ) → IsPlaceOf places a number → (factor : ModuleValue) × (slice_get factors number ≡ Some factor)
      factor_of a number place =
          let inside : a < length places = slice_get_within places a number place in
          let below : number < length factors = subst (λ k. k < length factors) (get_or_from_slice_get places a number number place) (order.within a number inside) in
          (get_or factors number m, slice_get-get_or factors number m below)

      -- equal numbers for isomorphic factors, and they alone
      numbers_of : (i j : ℕ) (f g : ModuleValue) → slice_get factors i ≡ Some f → slice_get factors j ≡ Some g → (i ≡ j) ↔ IsIsomorphicTo f g
      numbers_of i j f g at there = (forth, λ iso. same iso (dec_lt i j) (dec_lt j i))
        where
          forth : i ≡ j → IsIsomorphicTo f g
          forth e = subst (IsIsomorphicTo f) (same_of_some f g (sym at ∙ ap (slice_get factors) e ∙ there)) (isomorphic_to_itself f (are.each i f at).is_module)

          same : IsIsomorphicTo f g → Dec (i < j) → Dec (j < i) → i ≡ j
          same iso (yes before) _ = absurd (are.apart i j f g before at there iso)
          same iso (no late) (yes after) =
              absurd (are.apart j i g f after there at
              (isomorphic_back f g (are.each i f at).is_module (are.each j g there).is_module ((are.each i f at).field ∙ sym (are.each j g there).field) iso))
          same iso (no late) (no early) = omega arith

      one_number_of : (a b i j : ℕ) (block other : ModuleValue) → IsPlaceOf places a i → IsPlaceOf places b j →
          IsBlockOf the_conjugates (sizes_of_places factors places) a block → IsBlockOf the_conjugates (sizes_of_places factors places) b other →
          (i ≡ j) ↔ IsIsomorphicTo block other
      one_number_of a b i j block other place there is_block is_other = by_factors (factor_of a i place) (factor_of b j there)
        where
          by_factors : (factor : ModuleValue) × (slice_get factors i ≡ Some factor) → (factor : ModuleValue) × (slice_get factors j ≡ Some factor) →
              (i ≡ j) ↔ IsIsomorphicTo block other
          by_factors (f, at) (g, at_other) =
              subst (λ (x : ModuleValue). (i ≡ j) ↔ IsIsomorphicTo x other)
              (block_is_one the_conjugates (sizes_of_places factors places) a f block (factor_at a i f place at) is_block)
              (subst (λ (y : ModuleValue). (i ≡ j) ↔ IsIsomorphicTo f y)
              (block_is_one the_conjugates (sizes_of_places factors places) b g other (factor_at b j g there at_other) is_other)
              (numbers_of i j f g at at_other))

      pub series_of_chain : IsSeries m (basis_of_rows m (rows_of_sections done)) factors places
      unfolding the_conjugates
      series_of_chain = record {
        conjugates = the_conjugates;
        triangular = subst (λ sizes. IsTriangularBy m (basis_of_rows m (rows_of_sections done)) sizes the_conjugates) (sym same_sizes)
            (triangular_by m is (rows_of_sections done) over size spans (sizes_of done) sizes_are invariant_chain);
        diagonal = factor_at;
        irreducible = λ i d below. (are.each i (get_or factors i d) (slice_get-get_or factors i d below)).irreducible;
        one_number = one_number_of;
        order = order;
      }

  -- ---- an open section

  module _ (rows : List (List ℕ)) (over_rows : IsMatrixOver K m.dim rows) (invariant : IsInvariant K m.dim m.generators rows)
      (section : SectionValue) (rest : List SectionValue) (chain : IsChain m rows (section ∷ rest))
      (size : length (rows ++ rows_of_sections (section ∷ rest)) ≡ m.dim) (spans : SpansEverything K m.dim (rows ++ rows_of_sections (section ∷ rest))) where
    abbrev all_rows : List (List ℕ)
    all_rows = rows ++ rows_of_sections (section ∷ rest)

    abbrev after : ℕ
    after = length (rows_of_sections rest)

    over_all : IsMatrixOver K m.dim all_rows
    over_all = over_appended K m.dim rows (rows_of_sections (section ∷ rest)) over_rows (chain_over m rows (section ∷ rest) chain)

    of_section : IsSectionOf m section
    of_section = chain.0

    sum_of_sizes : length rows + section.action.dim + after ≡ m.dim
    sum_of_sizes =
        let one : length section.rows.rows ≡ section.action.dim = of_section.size in
        omega (arith, one, size, length-append rows (rows_of_sections (section ∷ rest)), length-append section.rows.rows (rows_of_sections rest))

    sizes_fit : AreOpenSizes (length rows) section.action.dim after (open_sizes (length rows) section.action.dim after)
    sizes_fit = open_sizes_fit (length rows) section.action.dim after of_section.is_module.over.positive

    open_sizes_are_sizes : AreBlockSizes m.dim (open_sizes (length rows) section.action.dim after)
    open_sizes_are_sizes = subst (λ k. AreBlockSizes k (open_sizes (length rows) section.action.dim after)) sum_of_sizes sizes_fit.sizes_are

    -- the first rows of all are invariant where they are all rows of a list that is
    first_invariant : (first more : List (List ℕ)) → first ++ more ≡ all_rows → IsInvariant K m.dim m.generators first → Modules.IsInvariant F M (length first) (matrix_of K all_rows)
    first_invariant first more same is_invariant =
        subst (λ (list : List (List ℕ)). Modules.IsInvariant F M (length first) (matrix_of K list)) same
        (invariant_of_same_rows F M (length first) (matrix_of K first) (matrix_of K (first ++ more))
        (λ t below. ap (vector_of K) (sym (get_or_append_left first more [] t below))) is_invariant)

    with_section : IsInvariant K m.dim m.generators (rows ++ section.rows.rows)
    with_section = invariant_with_section K m.dim m.generators rows section.rows.rows section.action.dim section.action.generators of_section.size chain.1 invariant

    open_chain : IsInvariantChain F M (open_sizes (length rows) section.action.dim after) (matrix_of K all_rows)
    open_chain =
        sizes_fit.starts (λ k. Modules.IsInvariant F M k (matrix_of K all_rows))
        (record { images = λ t i inside below. absurd (omega arith) })
        (first_invariant rows (rows_of_sections (section ∷ rest)) refl invariant)
        (subst (λ k. Modules.IsInvariant F M k (matrix_of K all_rows)) (length-append rows section.rows.rows ∙ ap (λ k. length rows + k) of_section.size)
        (first_invariant (rows ++ section.rows.rows) (rows_of_sections rest) (append_assoc rows section.rows.rows (rows_of_sections rest)) with_section))
        (subst (λ k. Modules.IsInvariant F M k (matrix_of K all_rows)) (size ∙ sym sum_of_sizes)
        (chain_invariant m rows (section ∷ rest) chain invariant))

    open_conjugates : ModuleValue
    open_conjugates = conjugates m is all_rows over_all size spans

    pub open_of_chain : (seed words : ℕ) → ((i : ℕ) → i ≤ words → LeavesOpen section.action (word_of_seed section.action seed i)) →
        IsOpenSection m seed words (basis_of_rows m all_rows) (length rows) section.action.dim
    unfolding open_conjugates
    open_of_chain seed words left_open = record {
      some = of_section.is_module.over.positive;
      after = after;
      conjugates = open_conjugates;
      triangular = triangular_by m is all_rows over_all size spans (open_sizes (length rows) section.action.dim after) open_sizes_are_sizes open_chain;
      block = section.action;
      is_block =
          block_by m is all_rows over_all size spans (open_sizes (length rows) section.action.dim after) open_sizes_are_sizes (open_place (length rows))
          sizes_fit.inside section.action of_section.is_module of_section.field (sym sizes_fit.size)
          (subst (λ c. ActsModulo F M c (matrix_of K all_rows) (λ s. matrix_of K all_rows (c + s)) (module_of K section.action.dim section.action.generators))
          (sym sizes_fit.start)
          (acts_at_start m rows section.rows.rows (rows_of_sections rest) section.action.dim section.action.generators of_section.size chain.1));
      left_open = left_open;
    }
