use Rattle.std.proofs.Common.{◌∙◌}
use Rattle.axe_poly.proofs.CodeLaws.{meaning_of_parts}
use Rattle.axe_poly.proofs.lanes.meaning.Goals as goal

pub returns : goal.returns
returns c = record {
  value = meaning_of_parts c.args.field.now c.from-prime.result c.part_base-base.result c.args.lane
      (c.from-prime.ensures ∙ c.prime.ensures) c.part_base-base.ensures.value;
}
