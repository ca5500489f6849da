use Rattle.std.proofs.Common.{get_or, refl, sym}
use Rattle.axe_file.proofs.Reserved.{no_offsets, none_more, found_reserved}
use Rattle.axe_file.proofs.reading.has_reserved.Goals as goal

pub loop-offset-init : goal.loop-offset-init
loop-offset-init c = no_offsets c.args.bytes.now

pub returns-then-bytes-offset-ne0 : goal.returns-then-bytes-offset-ne0
returns-then-bytes-offset-ne0 c =
    let i = c.loop-offset.offset-index in
    sym (found_reserved c.args.offsets.now c.args.bytes.now i (get_or c.args.offsets.now i 0) c.loop-offset-test.true refl c.if-bytes-offset-ne0.true)

pub loop-offset-preserved : goal.loop-offset-preserved
loop-offset-preserved c =
    let i = c.loop-offset.offset-index in
    none_more c.args.offsets.now c.args.bytes.now i (get_or c.args.offsets.now i 0) c.loop-offset-test.true refl c.loop-offset.invariant
    c.if-bytes-offset-ne0.false
