use Rattle.std.proofs.Common.{◌≡◌, sym, ◌∙◌, ap, subst, List, OnOk, string_bytes}
use Rattle.axe_matrix.specs.Matrices.{MatrixValue}
use Rattle.axe_file.specs.PackedModules.{AreGenerators, packed_module}
use Rattle.axe_plan.specs.Plans.{Put}
use Rattle.axe_plan.specs.Drafts.{plan_in, with_step}
use Rattle.axe_plan.proofs.WholeModules.{generators_are_those, generators_are_spelled}
use Rattle.axe_plan.proofs.draft.Draft.put_module_file.Goals as goal

pub write_module-requires : goal.write_module-requires
write_module-requires c =
    subst AreGenerators (sym c.deref.ensures.value)
    (generators_are_spelled c.args.module _ c.into_generators-generators.ensures.generators c.into_generators-generators.ensures.each
    c.into_generators-generators.ensures.well_formed)

pub returns-in-Ok-clause-put : goal.returns-in-Ok-clause-put
returns-in-Ok-clause-put c =
    subst (λ bytes. OnOk c.put.result (plan_in c.put.new.self ≡ with_step (plan_in c.args.self.now) (Put (string_bytes c.args.name) bytes)))
    (c.in-Ok.ensures.spelling ∙ ap (λ (matrices : List MatrixValue). packed_module matrices)
    (c.deref.ensures.value ∙ generators_are_those c.args.module _ c.into_generators-generators.ensures.generators c.into_generators-generators.ensures.each))
    c.put.ensures.put
