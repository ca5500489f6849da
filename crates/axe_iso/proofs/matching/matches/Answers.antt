use Rattle.std.proofs.Common.{sym, ap, ◌∙◌}
use Rattle.axe_spin.specs.Modules.{ModuleValue}
use Rattle.axe_iso.proofs.FormLaws.{space_of_numbers}
use Rattle.axe_iso.proofs.SmallSpaces.{form_polynomial_field}
use Rattle.axe_iso.proofs.matching.matches.Goals as goal

pub null_space_of-requires : goal.null_space_of-requires
null_space_of-requires c = record {
  field = form_polynomial_field c.args.form.now c.args.module.now.order _ c.poly.ensures.well_formed c.poly.ensures.value c.requires.field;
}

pub first_match-requires-clause-dimension : goal.first_match-requires-clause-dimension
first_match-requires-clause-dimension c =
    sym c.dim.ensures.count ∙ c.if-dim.false ∙ c.dim-2.ensures.count ∙ ap (λ (v : ModuleValue). v.dim) c.matrices.ensures.value

pub first_match-requires-clause-space : goal.first_match-requires-clause-space
first_match-requires-clause-space c = space_of_numbers _ _ _ _ _ _ _ _ c.seed.ensures.value c.word.ensures.value c.poly.ensures.value c.in_ok-space.ensures
