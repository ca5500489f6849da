use Rattle.std.proofs.Common.{◌*◌, arith}
use Rattle.axe_file.specs.TextWriting.{text_line}
use Rattle.axe_file.proofs.TextLines.{line_ended}
use Rattle.axe_file.proofs.text_writing.put_line.Goals as goal

pub returns : goal.returns
unfolding text_line
returns c =
    line_ended c.args.text.now.items _ c.push.new.self.items c.args.digits.now (80 * c.args.index) _ (omega arith) (omega arith) c.in_ok-extend_from_slice.ensures.items c.in_ok-push.ensures.items
