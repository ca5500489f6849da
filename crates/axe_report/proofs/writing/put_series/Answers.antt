use Rattle.std.proofs.Common.{rules, arith}
use Rattle.axe_report.proofs.Lines.{place_more, series_ended}
use Rattle.axe_report.proofs.writing.put_series.Goals as goal

pub loop-place-preserved : goal.loop-place-preserved
loop-place-preserved c =
    place_more c.args.factors.now c.args.series.now c.loop-place.place-index c.from.result c.index-factors-from.result _ c.loop-place.text.items c.push.new.self.items _
    (omega arith) (search rules) (search rules) c.index-factors-from.is c.loop-place.invariant c.in_ok-push.ensures.items (search rules)

pub returns : goal.returns
returns c =
    series_ended c.args.factors.now c.args.series.now c.loop-place.place-index c.args.text.now.items c.extend_from_slice.new.self.items c.loop-place.text.items _ (omega arith)
    c.in_ok-extend_from_slice.ensures.items c.loop-place.invariant c.in_ok-push-2.ensures.items
