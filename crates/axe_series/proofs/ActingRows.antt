-- Rows on which a module acts modulo others, as lists.
use Rattle.std.specs.Prelude.{◌≡◌, ℕ, ◌<◌, ◌+◌, List, ◌++◌, length}
use Rattle.std.proofs.lemmas.List.{length-append}
use Rattle.axe_algebra.specs.NumberField.{NumberField}
use Rattle.axe_algebra.specs.Field.{Field}
use Rattle.axe_algebra.specs.Vectors.{Matrix, subtract}
use Rattle.axe_algebra.specs.Spans.{InSpan}
use Rattle.axe_algebra.specs.Modules.{Module, image}
use Rattle.axe_algebra.specs.Modules
use Rattle.axe_algebra.specs.Bridge.{field_of, matrix_of, module_of}
use Rattle.axe_algebra.specs.ModulesOfLists.{IsInvariant}
use Rattle.axe_algebra.proofs.ProductLaws.{times_same}
use Rattle.axe_algebra.proofs.Spanning.{span_within}
use Rattle.axe_algebra.proofs.Sections.{ActsModulo, section_is_invariant}
use Rattle.axe_series.proofs.AppendedRows.{IsWithin, matrix_of_appended}
use mathlib.Core.Path.{refl, sym, ◌∙◌, ap, ap₂, subst}

-- the module of dimension n acts on the rows modulo those before by these generators of a dimension
abbrev pub ActsOn : NumberField → ℕ → List (List (List ℕ)) → List (List ℕ) → List (List ℕ) → ℕ → List (List (List ℕ)) → Type 0
ActsOn K n generators before rows dim action =
    ActsModulo (field_of K) (module_of K n generators) (length before) (matrix_of K before) (matrix_of K rows) (module_of K dim action)

module _ (F : Field) (M : Module F) where
  -- only the rows of the dimension's number count
  pub acts_on_same_rows : (c : ℕ) (l r s : Matrix F) (D : Module F) → ((t : ℕ) → t < D.dimension → r t ≡ s t) → ActsModulo F M c l r D → ActsModulo F M c l s D
  acts_on_same_rows c l r s D same section = record {
    count = section.count;
    acts = λ i t below inside.
        subst (InSpan F c l)
        (ap₂ (subtract F) (ap (λ x. image F M x i) (same t inside))
        (times_same F D.dimension (D.generator i t) (D.generator i t) r s (λ k small. refl) same))
        (section.acts i t below inside);
  }

module _ (K : NumberField) (n : ℕ) (generators : List (List (List ℕ))) where
  abbrev F : Field
  F = field_of K

  abbrev M : Module F
  M = module_of K n generators

  -- modulo rows that span more
  pub acts_within : (before others rows : List (List ℕ)) (dim : ℕ) (action : List (List (List ℕ))) → IsWithin K before others →
      ActsOn K n generators before rows dim action → ActsOn K n generators others rows dim action
  acts_within before others rows dim action within section = record {
    count = section.count;
    acts = λ i t below inside.
        span_within F (length before) (matrix_of K before) (length others) (matrix_of K others) _ within (section.acts i t below inside);
  }

  -- the rows before with the section's have an invariant span
  pub invariant_with_section : (before rows : List (List ℕ)) (dim : ℕ) (action : List (List (List ℕ))) → length rows ≡ dim →
      ActsOn K n generators before rows dim action → IsInvariant K n generators before → IsInvariant K n generators (before ++ rows)
  invariant_with_section before rows dim action size section invariant =
      subst (λ k. Modules.IsInvariant F M k (matrix_of K (before ++ rows))) (ap (λ k. length before + k) (sym size) ∙ sym (length-append before rows))
      (subst (λ (v : Matrix F). Modules.IsInvariant F M (length before + dim) v) (sym (matrix_of_appended K before rows))
      (section_is_invariant F M (length before) (matrix_of K before) (matrix_of K rows) (module_of K dim action) section invariant))
