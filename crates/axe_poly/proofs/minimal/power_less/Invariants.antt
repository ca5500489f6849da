use Rattle.std.proofs.Common.{◌≡◌, map, take}
use Rattle.axe_field.specs.Arithmetic.{field_neg}
use Rattle.axe_poly.proofs.minimal.power_less.Given as goal

abbrev pub invariant-loop-index : goal.invariant-loop-index
invariant-loop-index l = l.negatives.items ≡ map (field_neg l.coefficients.order) (take l.index l.coefficients.entries)
