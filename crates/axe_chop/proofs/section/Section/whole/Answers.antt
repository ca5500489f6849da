use Rattle.std.proofs.Common.{subst, ◌∙◌, ap}
use Rattle.axe_spin.specs.Modules.{ModuleValue, IsModule}
use Rattle.axe_chop.specs.Kept.{acting_module}
use Rattle.axe_chop.proofs.Cutting.{whole_is_kept}
use Rattle.axe_chop.proofs.section.Section.whole.Goals as goal

pub invariant_of-result : goal.invariant_of-result
invariant_of-result c = record {
  section = whole_is_kept (acting_module c.args.action) c.identity-rows.result c.field.result.now c.dim.result
      (c.field.ensures.order ∙ ap (λ (m : ModuleValue). m.order) c.module-module.ensures)
      (c.dim.ensures.count ∙ ap (λ (m : ModuleValue). m.dim) c.module-module.ensures)
      c.identity-rows.ensures.identity (subst IsModule c.module-module.ensures c.dim.ensures.well_formed);
  is_known = c.nothing-known.ensures (acting_module c.args.action) c.args.seed;
}

pub returns-clause-well_formed : goal.returns-clause-well_formed
returns-clause-well_formed c =
    whole_is_kept (acting_module c.args.action) c.identity-rows.result c.field.result.now c.dim.result
    (c.field.ensures.order ∙ ap (λ (m : ModuleValue). m.order) c.module-module.ensures)
    (c.dim.ensures.count ∙ ap (λ (m : ModuleValue). m.dim) c.module-module.ensures)
    c.identity-rows.ensures.identity (subst IsModule c.module-module.ensures c.dim.ensures.well_formed)
