use Rattle.std.proofs.Common.{◌≤◌, ◌++◌, ◌∷◌, [], length, map, ap, ◌∙◌, arith}
use Rattle.std.proofs.lemmas.List.{take_all}
use Rattle.axe_field.specs.Arithmetic.{field_neg}
use Rattle.axe_poly.proofs.PowerLaws.{less_is_poly}
use Rattle.axe_poly.proofs.minimal.power_less.Goals as goal

pub from_monic-requires : goal.from_monic-requires
from_monic-requires c =
    let row = c.args.coefficients.now in
    let all : length row.entries ≤ c.loop-index.index =
    omega (arith, c.loop-index-test.false, c.len-index-end.ensures.count) in
    less_is_poly row c.field.result.now c.push-2.new.self.items c.field.ensures.order c.field.ensures.well_formed
    c.requires.some
    (c.in_ok-push-2.ensures.items
    ∙ ap (λ list. list ++ 1 ∷ [])
    (c.loop-index.invariant ∙ ap (map (field_neg row.order)) (take_all c.loop-index.index row.entries all)))
