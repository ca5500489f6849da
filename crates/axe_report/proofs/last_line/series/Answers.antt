use Rattle.std.proofs.Common.{arith}
use Rattle.axe_report.proofs.LastLines.{series_begun, series_more, series_there, no_series_word, no_series_name, no_series_end}
use Rattle.axe_report.proofs.Sizes.{few_factors}
use Rattle.axe_report.proofs.last_line.series.Goals as goal

pub returns-in_default-clause-read : goal.returns-in_default-clause-read
returns-in_default-clause-read c t x r e = no_series_word c.args.text.now c.args.factors.now c.in_default.ensures t x r e

pub loop-name-init : goal.loop-name-init
loop-name-init c = rw c.new-series.ensures.items (series_begun c.args.text.now c.args.factors.now c.in-Some.rest.now c.in-Some.ensures)

pub returns-in_default-place-clause-read : goal.returns-in_default-place-clause-read
returns-in_default-place-clause-read c t x r e =
    no_series_name c.args.text.now c.args.factors.now c.loop-name.series.items c.loop-name.rest.now c.in-Some-after.name.now c.loop-name.invariant c.in-Some-after.ensures c.in_default-place.ensures t x r e

pub overflow_cast-place : goal.overflow_cast-place
overflow_cast-place c =
    let few = few_factors c.args.factors.now c.requires in
    omega (arith, few, c.in-Some-place.ensures.0)

pub loop-name-preserved : goal.loop-name-preserved
loop-name-preserved c =
    series_more c.args.text.now c.args.factors.now c.loop-name.series.items c.push.new.self.items c.loop-name.rest.now c.in-Some-after.name.now c.in-Some-place.next.now c.in-Some-place.place c.requires
    c.loop-name.invariant c.in-Some-after.ensures c.in-Some-place.ensures.0 c.in-Some-place.ensures.1 c.in-Some-place.ensures.2 c.in_ok-push.ensures.items

pub returns-in_default-after-2-clause-read : goal.returns-in_default-after-2-clause-read
returns-in_default-after-2-clause-read c t x r e =
    no_series_end c.args.text.now c.args.factors.now c.loop-name.series.items c.loop-name.rest.now c.loop-name.invariant c.in_default-after.ensures c.in_default-after-2.ensures t x r e

pub returns-clause-read : goal.returns-clause-read
returns-clause-read c = (
  c.loop-name.invariant.range,
  series_there c.args.text.now c.args.factors.now c.loop-name.series.items c.loop-name.rest.now c.in-Some-after-2.end.now c.loop-name.invariant c.in-Some-after-2.ensures,
)
