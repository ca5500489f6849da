use Rattle.std.proofs.Common.{◌∙◌}
use Rattle.axe_poly.proofs.CodeLaws.{code_of_parts}
use Rattle.axe_poly.proofs.lanes.code.Goals as goal

pub returns : goal.returns
returns c = record {
  value = code_of_parts c.args.field.now c.from-prime.result c.part_base-base.result c.from-element.result
      c.args.element (c.from-prime.ensures ∙ c.prime.ensures) c.part_base-base.ensures.value c.from-element.ensures;
}
