use Rattle.std.proofs.Common.{◌≡◌, ◌*◌, ◌/◌, ◌%◌, [], arith}
use Rattle.axe_file.specs.Marks.{mark_of, marks_of_bytes}
use Rattle.axe_file.proofs.Lists.{listed_more}
use Rattle.axe_file.proofs.reading.marks_of_bytes.Goals as goal

pub loop-index-preserved : goal.loop-index-preserved
loop-index-preserved c =
    let layout = c.args.layout.now in
    listed_more [] c.loop-index.table.items c.push.new.self.items (λ i. mark_of layout.field (i / layout.marks) (i % layout.marks)) c.loop-index.index c.mark_of.result c.loop-index.invariant c.mark_of.ensures.value c.in_ok-push.ensures.items

pub returns : goal.returns
unfolding marks_of_bytes
returns c =
    let all : c.loop-index.index ≡ 256 * c.args.layout.now.marks = omega arith in
    rw (← c.args.layout.now.marks_is, ← all) c.loop-index.invariant
