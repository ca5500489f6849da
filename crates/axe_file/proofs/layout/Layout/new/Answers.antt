use Rattle.std.proofs.Common.{◌∙◌}
use Rattle.axe_file.specs.Marks.{bytes_per_row}
use Rattle.axe_file.proofs.Layouts.{limit_by_power}
use Rattle.axe_file.proofs.layout.Layout.new.Goals as goal

pub invariant_of-result : goal.invariant_of-result
unfolding bytes_per_row
invariant_of-result c = record {
  columns_fit = c.requires;
  marks_is = c.digits_per_byte-marks.ensures.value;
  limit_is = limit_by_power c.args.field c.from.result c.digits_per_byte-marks.result c.pow-limit.result (c.from.ensures ∙ c.order.ensures.value) c.digits_per_byte-marks.ensures.value c.pow-limit.ensures;
  width_is = rw (← c.digits_per_byte-marks.ensures.value) c.div_ceil.ensures;
}
