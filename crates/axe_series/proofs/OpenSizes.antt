-- The sizes of the blocks before a section, of it, and after it, where empty ones are left out.
use Rattle.std.specs.Prelude.{◌≡◌, ℕ, zero, suc, ◌<◌, ◌≤◌, ◌+◌, List, [], ◌∷◌, length, not, ◌==◌, cond}
use Rattle.std.specs.List.{filter}
use Rattle.std.proofs.lemmas.Bool.{eq-eqb, ne_eqb}
use Rattle.axe_algebra.specs.Blocks.{block_start, block_size, AreBlockSizes}
use Rattle.axe_series.specs.Series.{open_sizes, open_place}
use mathlib.Core.Path.{refl, sym, ◌∙◌, ap, subst}
use native.Mathlib.Omega.{arith}

-- a size with the sizes after it, or these alone where it is 0
abbrev pub with_size : ℕ → List ℕ → List ℕ
with_size zero sizes = sizes
with_size (suc size) sizes = suc size ∷ sizes

filter_size : (size : ℕ) (sizes : List ℕ) → filter (λ s. not (s == 0)) (size ∷ sizes) ≡ with_size size (filter (λ s. not (s == 0)) sizes)
filter_size zero sizes = ap (λ b. cond (not b) (zero ∷ filter (λ s. not (s == 0)) sizes) (filter (λ s. not (s == 0)) sizes)) (eq-eqb 0 0 refl)
filter_size (suc size) sizes =
    ap (λ b. cond (not b) (suc size ∷ filter (λ s. not (s == 0)) sizes) (filter (λ s. not (s == 0)) sizes)) (ne_eqb (suc size) 0 (λ none. omega (arith, none)))

pub open_sizes_are : (before dim after : ℕ) → open_sizes before dim after ≡ with_size before (with_size dim (with_size after []))
open_sizes_are before dim after =
    filter_size before (dim ∷ after ∷ [])
    ∙ ap (with_size before) (filter_size dim (after ∷ []) ∙ ap (with_size dim) (filter_size after []))

-- what a section of this place has, and where the blocks begin
pub record AreOpenSizes (before dim after : ℕ) (sizes : List ℕ) : Type 1 where
  pub sizes_are : AreBlockSizes (before + dim + after) sizes
  pub inside : open_place before < length sizes
  pub start : block_start sizes (open_place before) ≡ before
  pub size : block_size sizes (open_place before) ≡ dim
  pub starts : (P : ℕ → Type 0) → P 0 → P before → P (before + dim) → P (before + dim + after) → (b : ℕ) → b ≤ length sizes → P (block_start sizes b)

moved : (P : ℕ → Type 0) (a b : ℕ) → a ≡ b → P a → P b
moved P a b same = subst P same

positive_sizes : (before d after : ℕ) (b : ℕ) → b < length (with_size before (suc d ∷ with_size after [])) →
    0 < block_size (with_size before (suc d ∷ with_size after [])) b
positive_sizes zero d after zero below = omega arith
positive_sizes zero d zero (suc b) below = absurd (omega arith)
positive_sizes zero d (suc a) (suc zero) below = omega arith
positive_sizes zero d (suc a) (suc (suc b)) below = absurd (omega arith)
positive_sizes (suc c) d after zero below = omega arith
positive_sizes (suc c) d after (suc zero) below = omega arith
positive_sizes (suc c) d zero (suc (suc b)) below = absurd (omega arith)
positive_sizes (suc c) d (suc a) (suc (suc zero)) below = omega arith
positive_sizes (suc c) d (suc a) (suc (suc (suc b))) below = absurd (omega arith)

total_sizes : (before d after : ℕ) →
    block_start (with_size before (suc d ∷ with_size after [])) (length (with_size before (suc d ∷ with_size after []))) ≡ before + suc d + after
total_sizes zero d zero = omega arith
total_sizes zero d (suc a) = omega arith
total_sizes (suc c) d zero = omega arith
total_sizes (suc c) d (suc a) = omega arith

place_inside : (before d after : ℕ) → open_place before < length (with_size before (suc d ∷ with_size after []))
place_inside zero d after = omega arith
place_inside (suc c) d after = omega arith

place_start : (before d after : ℕ) → block_start (with_size before (suc d ∷ with_size after [])) (open_place before) ≡ before
place_start zero d after = refl
place_start (suc c) d after = omega arith

place_size : (before d after : ℕ) → block_size (with_size before (suc d ∷ with_size after [])) (open_place before) ≡ suc d
place_size zero d after = refl
place_size (suc c) d after = refl

each_start : (before d after : ℕ) (P : ℕ → Type 0) → P 0 → P before → P (before + suc d) → P (before + suc d + after) → (b : ℕ) →
    b ≤ length (with_size before (suc d ∷ with_size after [])) → P (block_start (with_size before (suc d ∷ with_size after [])) b)
each_start before d after P none first second third zero within = none
each_start zero d after P none first second third (suc zero) within = moved P (zero + suc d) (suc d + 0) (omega arith) second
each_start zero d zero P none first second third (suc (suc b)) within = absurd (omega arith)
each_start zero d (suc a) P none first second third (suc (suc zero)) within = moved P (zero + suc d + suc a) (suc d + (suc a + 0)) (omega arith) third
each_start zero d (suc a) P none first second third (suc (suc (suc b))) within = absurd (omega arith)
each_start (suc c) d after P none first second third (suc zero) within = moved P (suc c) (suc c + 0) (omega arith) first
each_start (suc c) d after P none first second third (suc (suc zero)) within = moved P (suc c + suc d) (suc c + (suc d + 0)) (omega arith) second
each_start (suc c) d zero P none first second third (suc (suc (suc b))) within = absurd (omega arith)
each_start (suc c) d (suc a) P none first second third (suc (suc (suc zero))) within =
    moved P (suc c + suc d + suc a) (suc c + (suc d + (suc a + 0))) (omega arith) third
each_start (suc c) d (suc a) P none first second third (suc (suc (suc (suc b)))) within = absurd (omega arith)

pub open_sizes_fit : (before dim after : ℕ) → 0 < dim → AreOpenSizes before dim after (open_sizes before dim after)
open_sizes_fit before zero after some = absurd (omega arith)
open_sizes_fit before (suc d) after some = subst (AreOpenSizes before (suc d) after) (sym (open_sizes_are before (suc d) after)) (record {
  sizes_are = record { positive = positive_sizes before d after; total = total_sizes before d after };
  inside = place_inside before d after;
  start = place_start before d after;
  size = place_size before d after;
  starts = each_start before d after;
})
