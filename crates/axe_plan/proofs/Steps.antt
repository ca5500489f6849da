-- Changes made one after the other.
use Rattle.std.proofs.Common.{◌≡◌, ℕ, ◌+◌, List, [], ◌∷◌, ◌++◌, append_assoc, map, refl, sym, ◌∙◌, ap, arith}
use Rattle.std.proofs.lemmas.List.{map-append}
use Rattle.std.proofs.lemmas.List.FromFn.{map-range_with_len_more}
use Rattle.axe_algebra.specs.Lists.{listed}
use Rattle.axe_matrix.specs.Matrices.{MatrixValue}
use Rattle.axe_spin.specs.Modules.{ModuleValue, generator_of}
use Rattle.axe_file.specs.Packed.{packed}
use Rattle.axe_folder.specs.Files.{Files}
use Rattle.axe_plan.specs.declared.draft.Change.{Change}
use Rattle.axe_plan.specs.Drafts.{step_in, with_step, with_steps}
use Rattle.axe_plan.specs.Plans.{Step, Put, step_applied, applied, Plan}
use Rattle.axe_plan.specs.Inputs.{numbered}
use Rattle.axe_plan.specs.Outputs.{put_generator}

-- one more change is made after the others
pub applied_more : (changes : List Change) (change : Change) (files : Files) → applied (map step_in (changes ++ change ∷ [])) files ≡ step_applied (step_in change) (applied (map step_in changes) files)
applied_more [] change files = refl
applied_more (first ∷ changes) change files = applied_more changes change (step_applied (step_in first) files)

-- one more change is planned after the others
pub change_added : (before after : List Change) (change : Change) (shown : List ℕ) → after ≡ before ++ change ∷ [] →
    record { steps = map step_in after; shown = shown } ≡ with_step (record { steps = map step_in before; shown = shown }) (step_in change)
change_added before after change shown added =
    ap (λ (steps : List Step). record { steps = steps; shown = shown }) (ap (map step_in) added ∙ map-append step_in before (change ∷ []))

-- one more generator is put after the others
pub generators_put_more : (before between after : Plan) (name file : List ℕ) (m : ModuleValue) (i : ℕ) (generator : MatrixValue) →
    between ≡ with_steps before (listed i (put_generator name m)) → after ≡ with_step between (Put file (packed generator)) →
    file ≡ numbered name (i + 1) → generator ≡ generator_of m i → after ≡ with_steps before (listed (i + 1) (put_generator name m))
generators_put_more before between after name file m i generator so_far put named is =
    put ∙ ap (λ plan. with_step plan (Put file (packed generator))) so_far
    ∙ ap (λ (steps : List Step). record { steps = steps; shown = before.shown })
    (append_assoc before.steps (listed i (put_generator name m)) (Put file (packed generator) ∷ [])
    ∙ ap (λ (steps : List Step). before.steps ++ steps)
    ((λ j. listed i (put_generator name m) ++ Put (named j) (packed (is j)) ∷ []) ∙ sym (map-range_with_len_more (put_generator name m) 0 i i (omega arith))))
