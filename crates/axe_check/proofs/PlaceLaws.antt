-- The blocks of places, one after the other.
use Rattle.std.proofs.Common.{◌≡◌, ℕ, suc, ◌+◌, ◌<◌, ◌≤◌, List, length, map, get_or, slice_get, Some, sym, ap, subst, ◌∙◌, arith}
use Rattle.std.proofs.lemmas.List.{length-map, get_or-map}
use Rattle.std.proofs.lemmas.Option.{slice_get_within, slice_get-get_or}
use Rattle.axe_algebra.specs.Blocks.{block_start, block_size, AreBlockSizes}
use Rattle.axe_algebra.proofs.Flags.{block_start_next, block_start_mono}
use Rattle.axe_spin.specs.Modules.{ModuleValue}
use Rattle.axe_series.specs.Series.{IsPlaceOf, sizes_of_places}
use Rattle.axe_check.specs.Steps.{HasBlocksAt, HasAllBlocks}
use native.Mathlib.Decide.{ℕ_discrete}

-- the generators have the blocks of the places before number k
abbrev pub HasBlocksTo : ModuleValue → List ModuleValue → List ℕ → ℕ → Type 0
HasBlocksTo m factors places k = (a number : ℕ) (factor : ModuleValue) → a < k → IsPlaceOf places a number →
    slice_get factors number ≡ Some factor → HasBlocksAt m (block_start (sizes_of_places factors places) a) factor

same_some : {A : Type 0} (x y : A) → Some x ≡ Some y → x ≡ y
same_some x y e = cc

module _ (m : ModuleValue) (factors : List ModuleValue) (places : List ℕ) where
  abbrev sizes : List ℕ
  sizes = sizes_of_places factors places

  count : length sizes ≡ length places
  count = length-map places (λ number. get_or (map (λ (f : ModuleValue). f.dim) factors) number 0)

  pub none_to : HasBlocksTo m factors places 0
  none_to a number factor below place at = absurd (omega (arith, below))

  pub all_to : (k : ℕ) → length places ≤ k → HasBlocksTo m factors places k → HasAllBlocks m factors places
  all_to k whole has a number factor place at = has a number factor (omega (arith, slice_get_within places a number place, whole)) place at

  -- the next place, with its factor
  module _ (k number : ℕ) (factor : ModuleValue) (inside : k < length places) (is : number ≡ get_or places k 0) (below : number < length factors)
      (factor_is : factor ≡ get_or factors number factor) where
    pub place_is : IsPlaceOf places k number
    place_is = slice_get-get_or places k 0 inside ∙ ap (λ (n : ℕ). Some n) (sym is)

    pub factor_is_there : slice_get factors number ≡ Some factor
    factor_is_there = slice_get-get_or factors number factor below ∙ ap (λ (f : ModuleValue). Some f) (sym factor_is)

    size : block_size sizes k ≡ factor.dim
    size =
        get_or-map (λ number. get_or (map (λ (f : ModuleValue). f.dim) factors) number 0) places k 0 0 inside
        ∙ ap (λ n. get_or (map (λ (f : ModuleValue). f.dim) factors) n 0) (sym is)
        ∙ get_or-map (λ (f : ModuleValue). f.dim) factors number factor 0 below
        ∙ ap (λ (f : ModuleValue). f.dim) (sym factor_is)

    pub next_start : block_start sizes (k + 1) ≡ block_start sizes k + factor.dim
    next_start =
        let next : k + 1 ≡ suc k = omega arith in
        ap (block_start sizes) next ∙ block_start_next sizes k (omega (arith, inside, count)) ∙ ap (λ n. block_start sizes k + n) size

    pub next_fits : AreBlockSizes m.dim sizes → block_start sizes k + factor.dim ≤ m.dim
    next_fits are =
        omega (arith, next_start, block_start_mono sizes (k + 1) (length sizes) (omega (arith, inside, count)), are.total)

    pub more_to : HasBlocksTo m factors places k → HasBlocksAt m (block_start sizes k) factor → HasBlocksTo m factors places (k + 1)
    more_to has here a other found before place at = cases (ℕ_discrete a k)
      where
        cases : Dec (a ≡ k) → HasBlocksAt m (block_start sizes a) found
        cases (no earlier) = has a other found (omega arith) place at
        cases (yes same) =
            let number_is : number ≡ other =
            same_some number other (sym place_is ∙ ap (slice_get places) (sym same) ∙ place) in
            let factor_same : factor ≡ found = same_some factor found (sym factor_is_there ∙ ap (slice_get factors) number_is ∙ at) in
            subst (λ (f : ModuleValue). HasBlocksAt m (block_start sizes a) f) factor_same
            (subst (λ b. HasBlocksAt m (block_start sizes b) factor) (sym same) here)

    pub wrong_here : ¬ (HasBlocksAt m (block_start sizes k) factor) → ¬ (HasAllBlocks m factors places)
    wrong_here wrong has = wrong (has k number factor place_is factor_is_there)
