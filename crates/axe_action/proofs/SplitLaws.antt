-- The two actions that come of a submodule's reduced basis, generator by generator.
use Rattle.std.specs.Prelude.{◌≡◌, ℕ, ◌⊎◌, List, [], ◌∷◌, ◌++◌, length, Result, Ok, Err, None, IfOk, IfErr}
use Rattle.axe_row.specs.Refusals.{Answers}
use Rattle.axe_row.specs.declared.refusals.Refusal.{Refusal}
use Rattle.axe_matrix.specs.Matrices.{MatrixValue, IsMatrix, columns_at}
use Rattle.axe_echelon.proofs.InverseLaws.{matrix_over}
use Rattle.axe_spin.specs.Modules.{ModuleValue, IsModule, IsInvariantIn, generator_of, module_of_matrices}
use Rattle.axe_spin.specs.Generators.{IsGeneratorMatrix}
use Rattle.axe_action.specs.Actions.{IsBasisAction, IsActionModulo}
use Rattle.axe_action.specs.Coordinates.{HasImagesIn, HasActionRows}
use Rattle.axe_action.specs.FreeColumns.{AreFreeColumns, AreReducedAt, AreComplementary, HasRowsModulo, rows_to_span, row_at}
use Rattle.axe_action.specs.FreeColumns.{matrix_within, matrix_modulo}
use Rattle.axe_action.proofs.GeneratorLists.{AreGeneratorsOf, AreNewGenerators, generators_next, next_below, next_generator, next_is}
use Rattle.axe_action.proofs.GeneratorLists.{generators_whole, some_yielded, made_not_refused}
use Rattle.axe_action.proofs.SubRows.{IsActionOf, action_is_generator, module_rows_over, outside_invariant, action_made}
use Rattle.axe_action.proofs.QuotientRows.{IsQuotientOf, modulo_is_generator, modulo_made}
use Rattle.axe_action.proofs.CosetLaws.{AreCosets, rows_modulo}
use Rattle.axe_action.proofs.SubmoduleLaws.{at_columns_act, invariant_answers}
use Rattle.axe_action.proofs.ReducedProducts.{complementary, within_is_product}
use mathlib.Core.Logic.{inl, inr}
use mathlib.Core.Path.{refl, sym, ◌∙◌, subst}

-- the entries of the reduced basis at the columns that are no pivots
pub cosets_of_reduced : (rows : MatrixValue) (pivots columns : List ℕ) (entries : MatrixValue) → IsMatrix rows → AreReducedAt rows pivots →
    AreFreeColumns (rows_to_span rows) columns → entries ≡ columns_at columns rows → AreCosets (rows_to_span rows) pivots columns entries
cosets_of_reduced rows pivots columns entries rows_h reduced free is = record {
  basis = rows;
  basis_over = matrix_over rows rows_h;
  reduced = reduced.reduced;
  are_pivots = reduced.pivots;
  free = free;
  entries_are = is;
}

-- a submodule's reduced basis, and the next generator
module _ (m : ModuleValue) (rows : MatrixValue) (h : IsModule m) (rows_h : IsMatrix rows) (field : rows.order ≡ m.order) (fits : rows.cols ≡ m.dim)
    (invariant : IsInvariantIn m rows) (done rest : List MatrixValue) (are : AreGeneratorsOf m (done ++ rest)) (g : MatrixValue) (next : List MatrixValue)
    (is : rest ≡ g ∷ next) where
  at_generator : g ≡ generator_of m (length done)
  at_generator = next_is m done rest are g next is

  generator : IsGeneratorMatrix m.order m.dim g
  generator = next_generator m done rest are g next is

  within_next : HasImagesIn (generator_of m (length done)) rows.rows rows.rows
  within_next =
      outside_invariant m rows (length done) h (module_rows_over m rows rows_h field fits) (next_below m done rest are g next is) invariant

  images_of_next : HasImagesIn g rows.rows rows.rows
  images_of_next = subst (λ (x : MatrixValue). HasImagesIn x rows.rows rows.rows) (sym at_generator) within_next

  pub complementary_next : (pivots columns : List ℕ) → AreReducedAt rows pivots → AreFreeColumns (rows_to_span rows) columns →
      AreComplementary g.cols pivots columns
  complementary_next pivots columns reduced free =
      subst (λ n. AreComplementary n pivots columns) (fits ∙ sym generator.columns) (complementary rows pivots columns rows_h reduced free)

  -- its action on the submodule
  pub sub_next : (pivots columns : List ℕ) (entries : MatrixValue) (subs more : List MatrixValue) → AreReducedAt rows pivots →
      AreFreeColumns (rows_to_span rows) columns → entries ≡ columns_at columns rows → IsMatrix (matrix_within pivots columns entries g) →
      AreNewGenerators m.order (length rows.rows) (IsActionOf m rows.rows) (length done) subs → more ≡ subs ++ matrix_within pivots columns entries g ∷ [] →
      AreNewGenerators m.order (length rows.rows) (IsActionOf m rows.rows) (length (done ++ g ∷ [])) more
  sub_next pivots columns entries subs more reduced free entries_are formed so_far pushed =
      generators_next m.order (length rows.rows) (IsActionOf m rows.rows) done g subs more sub so_far pushed
      (action_is_generator (generator_of m (length done)) rows.rows sub all) all.each
    where
      sub : MatrixValue
      sub = matrix_within pivots columns entries g

      square : length g.rows ≡ g.cols
      square = generator.rows ∙ sym generator.columns

      acts : HasActionRows g rows.rows (length rows.rows) sub
      acts =
          at_columns_act rows g sub pivots (field ∙ sym generator.field) (fits ∙ sym generator.columns) rows_h generator.well_formed reduced.coordinates images_of_next
          (within_is_product rows g entries pivots columns rows_h generator.well_formed (generator.field ∙ sym field) (generator.columns ∙ sym fits)
          square reduced free entries_are)
          formed

      all : HasActionRows (generator_of m (length done)) rows.rows (length rows.rows) sub
      all = subst (λ (x : MatrixValue). HasActionRows x rows.rows (length rows.rows) sub) at_generator acts

  -- its action modulo it
  pub quotient_next : (pivots columns : List ℕ) (entries : MatrixValue) (quotients more : List MatrixValue) →
      AreCosets (rows_to_span rows) pivots columns entries → IsMatrix (matrix_modulo pivots columns entries g) →
      AreNewGenerators m.order (length columns) (IsQuotientOf m rows columns) (length done) quotients →
      more ≡ quotients ++ matrix_modulo pivots columns entries g ∷ [] →
      AreNewGenerators m.order (length columns) (IsQuotientOf m rows columns) (length (done ++ g ∷ [])) more
  quotient_next pivots columns entries quotients more cosets formed so_far pushed =
      generators_next m.order (length columns) (IsQuotientOf m rows columns) done g quotients more quotient so_far pushed
      (modulo_is_generator m rows columns (row_at (generator_of m (length done)).rows columns) quotient field all) (within_next, all.each)
    where
      quotient : MatrixValue
      quotient = matrix_modulo pivots columns entries g

      all : HasRowsModulo (rows_to_span rows) columns (row_at (generator_of m (length done)).rows columns) (length columns) quotient
      all = subst (λ (x : MatrixValue). HasRowsModulo (rows_to_span rows) columns (row_at x.rows columns) (length columns) quotient) at_generator
          (rows_modulo (rows_to_span rows) pivots columns entries g cosets (generator.field ∙ sym field) (generator.columns ∙ sym fits)
          (generator.rows ∙ sym generator.columns) generator.well_formed quotient refl formed)

-- an answer whose value and refusals are told by what it is made of, where nothing is refused
pub answers_if_made : {T : Type 0} (result : Result T Refusal) (Made P : T → Type 0) (Refused : Refusal → Type 0) → IfOk result Made →
    IfErr result Refused → ((value : T) → Made value → P value) → ((refusal : Refusal) → ¬ (Refused refusal)) → Answers None P result
answers_if_made (Ok value) Made P Refused made refused holds none = holds value made
answers_if_made (Err refusal) Made P Refused made refused holds none = absurd (none refusal refused)

-- all generators were taken
module _ (m : ModuleValue) (rows : MatrixValue) (columns : List ℕ) (h : IsModule m) (rows_h : IsMatrix rows) (field : rows.order ≡ m.order)
    (fits : rows.cols ≡ m.dim) (invariant : IsInvariantIn m rows) (done rest : List MatrixValue) (are : AreGeneratorsOf m (done ++ rest)) (none : rest ≡ [])
    (subs quotients : List MatrixValue) (are_subs : AreNewGenerators m.order (length rows.rows) (IsActionOf m rows.rows) (length done) subs)
    (are_quotients : AreNewGenerators m.order (length columns) (IsQuotientOf m rows columns) (length done) quotients) where
  pub sub_whole : (action : ModuleValue) → module_of_matrices subs ≡ Ok action → IsBasisAction m rows action
  sub_whole action is =
      invariant_answers m rows (IsBasisAction m rows) (Ok action) invariant
      (action_made m rows subs (Ok action) h (module_rows_over m rows rows_h field fits)
      (subst (λ k. AreNewGenerators m.order (length rows.rows) (IsActionOf m rows.rows) k subs) (generators_whole m done rest are none) are_subs) (sym is))

  pub quotient_whole : AreFreeColumns (rows_to_span rows) columns → (action : ModuleValue) → module_of_matrices quotients ≡ Ok action →
      IsActionModulo m rows action
  quotient_whole free action is =
      invariant_answers m rows (IsActionModulo m rows) (Ok action) invariant
      (modulo_made m rows columns quotients h field fits rows_h free
      (subst (λ k. AreNewGenerators m.order (length columns) (IsQuotientOf m rows columns) k quotients) (generators_whole m done rest are none) are_quotients)
      (Ok action) (sym is))

  pub none_refused : (refusal : Refusal) → (module_of_matrices subs ≡ Err refusal) ⊎ (module_of_matrices quotients ≡ Err refusal) → ⊥
  none_refused refusal (inl is) =
      made_not_refused m.order (length rows.rows) (IsActionOf m rows.rows) (length done) subs refusal are_subs (some_yielded m done rest h are none) (sym is)
  none_refused refusal (inr is) =
      made_not_refused m.order (length columns) (IsQuotientOf m rows columns) (length done) quotients refusal are_quotients (some_yielded m done rest h are none)
      (sym is)
