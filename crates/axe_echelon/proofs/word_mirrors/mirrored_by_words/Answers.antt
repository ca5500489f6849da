use Rattle.std.proofs.Common.{◌≤◌, arith, ap}
use Rattle.axe_field.specs.Order.{degree_of}
use Rattle.axe_echelon.proofs.Exits.{no_memory}
use Rattle.axe_echelon.proofs.MirroredWords.{mirrored_below_none, mirrored_below_more, mirrored_below_all}
use Rattle.axe_echelon.proofs.word_mirrors.mirrored_by_words.Goals as goal

pub loop-power-init : goal.loop-power-init
loop-power-init c =
    mirrored_below_none c.args.row.now c.in_ok-mirrored.mirrored _ _ c.in_ok-mirrored.ensures.zeros c.field.ensures.order c.len.ensures.count
    c.in_ok-mirrored.ensures.well_formed

pub loop-power-preserved : goal.loop-power-preserved
loop-power-preserved c =
    mirrored_below_more c.loop-power.power c.args.row.now c.loop-power.mirrored _ c.loop-power.invariant c.mirror_coefficients.ensures.written
    c.mirror_coefficients.ensures.well_formed

pub returns : goal.returns
returns c =
    let all : degree_of c.args.row.now.order ≤ c.loop-power.power =
    omega (arith, c.loop-power-test.false, c.degree-power-end.ensures, ap degree_of c.field-2.ensures.order) in
    mirrored_below_all c.loop-power.power c.args.row.now c.loop-power.mirrored c.loop-power.invariant c.len.ensures.well_formed all

pub returns-in_err-mirrored : goal.returns-in_err-mirrored
returns-in_err-mirrored c = no_memory _ c.from_residual.result _ c.from_residual.ensures.1 c.in_err-mirrored.ensures.zeros
