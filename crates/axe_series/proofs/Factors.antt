-- Factors of a series: irreducible modules that are pairwise not isomorphic, and the sections that are placed by them.
use Rattle.std.specs.Prelude.{◌≡◌, ℕ, zero, suc, ◌<◌, ◌⊎◌, List, [], ◌∷◌, ◌++◌, map, length, get_or, slice_get, Some, ⊤}
use Rattle.std.proofs.lemmas.List.{get_or-map}
use Rattle.std.proofs.lemmas.Option.{slice_get_within, get_or_from_slice_get}
use Rattle.axe_spin.specs.Modules.{ModuleValue, IsModule}
use Rattle.axe_norton.specs.Spaces.{IsIrreducibleModule}
use Rattle.axe_series.specs.Sections.{SectionValue}
use Rattle.axe_series.specs.Series.{IsIsomorphicTo, IsPlaceOf, sizes_of_places}
use Rattle.axe_series.proofs.SectionChain.{sizes_of, action_at}
use Rattle.axe_series.proofs.Places.{same_of_some, still_there, before_or_last}
use mathlib.Core.Logic.{inl, inr}
use mathlib.Core.Path.{refl, sym, ◌∙◌, ap, ap₂, subst}
use native.Mathlib.Omega.{arith}

-- the module is irreducible, and over the field of m
pub record IsFactor (m factor : ModuleValue) : Type 0 where
  pub field : factor.order ≡ m.order
  pub is_module : IsModule factor
  pub irreducible : IsIrreducibleModule factor

-- all of the modules are such factors, and none is isomorphic to a later one
pub record AreFactors (m : ModuleValue) (factors : List ModuleValue) : Type 0 where
  pub each : (i : ℕ) (factor : ModuleValue) → slice_get factors i ≡ Some factor → IsFactor m factor
  pub apart : (i j : ℕ) (factor later : ModuleValue) → i < j → slice_get factors i ≡ Some factor → slice_get factors j ≡ Some later →
      ¬ (IsIsomorphicTo factor later)

pub no_factors : (m : ModuleValue) → AreFactors m []
no_factors m = record {
  each = λ i factor is. absurd (omega (arith, slice_get_within [] i factor is));
  apart = λ i j factor later before is. absurd (omega (arith, slice_get_within [] i factor is));
}

-- one more factor, to which none of the others is isomorphic
pub one_more_factor : (m : ModuleValue) (factors : List ModuleValue) (new : ModuleValue) → AreFactors m factors → IsFactor m new →
    ((i : ℕ) (factor : ModuleValue) → slice_get factors i ≡ Some factor → ¬ (IsIsomorphicTo factor new)) → AreFactors m (factors ++ new ∷ [])
one_more_factor m factors new are is others = record {
  each = λ i factor at. each i factor (before_or_last factors new factor i at);
  apart = λ i j factor later before at there. apart i j factor later before (before_or_last factors new factor i at) (before_or_last factors new later j there);
}
  where
    each : (i : ℕ) (factor : ModuleValue) → ((i < length factors) × (slice_get factors i ≡ Some factor)) ⊎ ((i ≡ length factors) × (factor ≡ new)) → IsFactor m factor
    each i factor (inl (inside, at)) = are.each i factor at
    each i factor (inr (end, same)) = subst (IsFactor m) (sym same) is

    apart : (i j : ℕ) (factor later : ModuleValue) → i < j →
        ((i < length factors) × (slice_get factors i ≡ Some factor)) ⊎ ((i ≡ length factors) × (factor ≡ new)) →
        ((j < length factors) × (slice_get factors j ≡ Some later)) ⊎ ((j ≡ length factors) × (later ≡ new)) → ¬ (IsIsomorphicTo factor later)
    apart i j factor later before (inl (inside, at)) (inl (within, there)) = are.apart i j factor later before at there
    apart i j factor later before (inl (inside, at)) (inr (end, same)) = λ iso. others i factor at (subst (IsIsomorphicTo factor) same iso)
    apart i j factor later before (inr (end, same)) (inl (within, there)) = absurd (omega arith)
    apart i j factor later before (inr (end, same)) (inr (last, that)) = absurd (omega arith)

-- ---- placed sections

-- the action of each section is the factor of the number at its place
abbrev pub ArePlaced : List ModuleValue → List SectionValue → List ℕ → Type 0
ArePlaced factors [] [] = ⊤
ArePlaced factors [] (number ∷ places) = ⊥
ArePlaced factors (s ∷ done) [] = ⊥
ArePlaced factors (s ∷ done) (number ∷ places) = (slice_get factors number ≡ Some s.action) × ArePlaced factors done places

pub placed_by_more : (factors further : List ModuleValue) (done : List SectionValue) (places : List ℕ) → ArePlaced factors done places →
    ArePlaced (factors ++ further) done places
placed_by_more factors further [] [] placed = placed
placed_by_more factors further [] (number ∷ places) placed = absurd placed
placed_by_more factors further (s ∷ done) [] placed = absurd placed
placed_by_more factors further (s ∷ done) (number ∷ places) (at, placed) =
    (still_there factors further number s.action at, placed_by_more factors further done places placed)

pub one_more_placed : (factors : List ModuleValue) (done : List SectionValue) (places : List ℕ) (s : SectionValue) (number : ℕ) → ArePlaced factors done places →
    slice_get factors number ≡ Some s.action → ArePlaced factors (done ++ s ∷ []) (places ++ number ∷ [])
one_more_placed factors [] [] s number placed is = (is, placed)
one_more_placed factors [] (k ∷ places) s number placed is = absurd placed
one_more_placed factors (t ∷ done) [] s number placed is = absurd placed
one_more_placed factors (t ∷ done) (k ∷ places) s number (at, placed) is = (at, one_more_placed factors done places s number placed is)

pub placed_sizes : (factors : List ModuleValue) (done : List SectionValue) (places : List ℕ) → ArePlaced factors done places →
    sizes_of_places factors places ≡ sizes_of done
placed_sizes factors [] [] placed = refl
placed_sizes factors [] (number ∷ places) placed = absurd placed
placed_sizes factors (s ∷ done) [] placed = absurd placed
placed_sizes factors (s ∷ done) (number ∷ places) (at, placed) = ap₂ (λ (k : ℕ) (sizes : List ℕ). k ∷ sizes) size (placed_sizes factors done places placed)
  where
    size : get_or (map (λ (factor : ModuleValue). factor.dim) factors) number 0 ≡ s.action.dim
    size =
        get_or-map (λ (factor : ModuleValue). factor.dim) factors number s.action 0 (slice_get_within factors number s.action at)
        ∙ ap (λ (factor : ModuleValue). factor.dim) (get_or_from_slice_get factors number s.action s.action at)

-- at a place of a factor stands a section with its action
pub placed_at : (m : ModuleValue) (factors : List ModuleValue) (done : List SectionValue) (places : List ℕ) → ArePlaced factors done places →
    (a number : ℕ) (factor : ModuleValue) → IsPlaceOf places a number → slice_get factors number ≡ Some factor →
    (a < length done) × (action_at m done a ≡ factor)
placed_at m factors [] [] placed a number factor place is = absurd (omega (arith, slice_get_within [] a number place))
placed_at m factors [] (k ∷ places) placed a number factor place is = absurd placed
placed_at m factors (s ∷ done) [] placed a number factor place is = absurd placed
placed_at m factors (s ∷ done) (k ∷ places) (at, placed) zero number factor place is = (
  omega arith,
  same_of_some s.action factor (sym at ∙ ap (slice_get factors) (same_of_some k number place) ∙ is),
)
placed_at m factors (s ∷ done) (k ∷ places) (at, placed) (suc a) number factor place is = further (placed_at m factors done places placed a number factor place is)
  where
    further : (a < length done) × (action_at m done a ≡ factor) → (suc a < length (s ∷ done)) × (action_at m done a ≡ factor)
    further (below, same) = (omega arith, same)
