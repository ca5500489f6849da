-- A chain of sections: rows on which the module acts block by block, each modulo the rows before, are an invariant chain with
-- these actions on its sections.
use Rattle.std.specs.Prelude.{◌≡◌, ℕ, zero, suc, ◌<◌, ◌+◌, ◌-◌, List, length}
use Rattle.axe_algebra.specs.Field.{Field}
use Rattle.axe_algebra.specs.Vectors.{Vector, Matrix}
use Rattle.axe_algebra.specs.Spans.{InSpan}
use Rattle.axe_algebra.specs.Modules.{Module, HasSquareMatrices, image, IsInvariant}
use Rattle.axe_algebra.specs.Actions.{IsSectionAction}
use Rattle.axe_algebra.specs.Blocks.{block_start, block_size}
use Rattle.axe_algebra.specs.ModuleTheorems.{IsInvariantChain}
use Rattle.axe_algebra.proofs.Exchange.{span_of_same_rows}
use Rattle.axe_algebra.proofs.Spaces.{stacked, stacked_first, stacked_second}
use Rattle.axe_algebra.proofs.Flags.{block_start_next}
use Rattle.axe_algebra.proofs.Sections.{ActsModulo, section_is_invariant}
use mathlib.Core.Path.{refl, sym, ◌∙◌, ap, subst}
use native.Mathlib.Omega.{arith}
use native.Mathlib.Decide.{dec_lt}

module _ (F : Field) (M : Module F) where
  -- rows that agree have invariant spans alike
  pub invariant_of_same_rows : (k : ℕ) (v w : Matrix F) → ((t : ℕ) → t < k → v t ≡ w t) → IsInvariant F M k v → IsInvariant F M k w
  invariant_of_same_rows k v w same invariant = record {
    images = λ t i inside below.
        subst (λ (x : Vector F). InSpan F k w (image F M x i)) (same t inside)
        (span_of_same_rows F k v w (image F M (v t) i) same (invariant.images t i inside below));
  }

  module _ (p : Matrix F) (sizes : List ℕ) (actions : ℕ → Module F)
      (dimension : (b : ℕ) → b < length sizes → (actions b).dimension ≡ block_size sizes b)
      (acts : (b : ℕ) → b < length sizes → ActsModulo F M (block_start sizes b) p (λ s. p (block_start sizes b + s)) (actions b)) where
    -- the rows are the rows before a block, and the block's after them
    stacked_block : (c t : ℕ) → stacked F c p (λ s. p (c + s)) t ≡ p t
    stacked_block c t = at (dec_lt t c)
      where
        at : Dec (t < c) → stacked F c p (λ s. p (c + s)) t ≡ p t
        at (yes before) = stacked_first F c p (λ s. p (c + s)) t before
        at (no past) =
            let place : c + (t - c) ≡ t = omega arith in
            ap (stacked F c p (λ s. p (c + s))) (sym place) ∙ stacked_second F c p (λ s. p (c + s)) (t - c) ∙ ap p place

    pub chain_of_sections : IsInvariantChain F M sizes p
    chain_of_sections zero within = record { images = λ t i inside below. absurd (omega arith) }
    chain_of_sections (suc b) within =
        subst (λ c. IsInvariant F M c p) next
        (invariant_of_same_rows (block_start sizes b + (actions b).dimension) (stacked F (block_start sizes b) p (λ s. p (block_start sizes b + s))) p
        (λ t below. stacked_block (block_start sizes b) t)
        (section_is_invariant F M (block_start sizes b) p (λ s. p (block_start sizes b + s)) (actions b) (acts b (omega arith))
        (chain_of_sections b (omega arith))))
      where
        next : block_start sizes b + (actions b).dimension ≡ block_start sizes (suc b)
        next = ap (λ d. block_start sizes b + d) (dimension b (omega arith)) ∙ sym (block_start_next sizes b (omega arith))

    pub section_of_chain : (b : ℕ) → b < length sizes → HasSquareMatrices F (actions b) →
        IsSectionAction F M p (block_start sizes b) (block_size sizes b) (actions b)
    section_of_chain b below is =
        subst (λ d. IsSectionAction F M p (block_start sizes b) d (actions b)) (dimension b below) (record {
          dimension = refl;
          count = (acts b below).count;
          square = λ i inside. is.square i (subst (λ k. i < k) (sym (acts b below).count) inside);
          acts = (acts b below).acts;
        })
