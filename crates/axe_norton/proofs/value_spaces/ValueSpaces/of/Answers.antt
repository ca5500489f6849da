use Rattle.std.proofs.Common.{refl}
use Rattle.axe_algebra.proofs.ListVectors.{same_span_refl}
use Rattle.axe_field.specs.NumberFields.{number_field}
use Rattle.axe_norton.proofs.value_spaces.ValueSpaces.of.Goals as goal

pub returns : goal.returns
returns c = record {
  null_space = refl;
  field = refl;
  columns = refl;
  span = same_span_refl (number_field c.args.tested.matrix.order) c.args.tested.matrix.rows;
}
