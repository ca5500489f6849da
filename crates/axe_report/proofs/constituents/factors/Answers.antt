use Rattle.std.proofs.Common.{◌-◌, ◌*◌, ℕ, ap₂}
use Rattle.axe_report.proofs.NextLines.{lines_begun, lines_read_more}
use Rattle.axe_report.proofs.constituents.factors.Goals as goal

pub loop-factors-init : goal.loop-factors-init
loop-factors-init c = lines_begun c.args.text.now c.args.header.now c.new-factors.result.items c.new-factors.ensures.items

pub loop-factors-preserved : goal.loop-factors-preserved
loop-factors-preserved c =
    let found = rw (c.deref.ensures.value, c.in-Some.is) at c.in_ok-factor.ensures in
    lines_read_more c.args.text.now c.args.header.now c.loop-factors.factors.items c.push.new.self.items c.in-Some.factor c.loop-factors.rest.now c.in-Some.next.now c.loop-factors.room
    (c.loop-factors.room - c.dim.result * c.multiplicity.result) c.loop-factors.invariant found.0 found.1 found.2 c.in_ok-push.ensures.items
    (ap₂ (λ (a : ℕ) (b : ℕ). c.loop-factors.room - a * b) c.dim.ensures c.multiplicity.ensures)
