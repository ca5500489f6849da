use Rattle.std.proofs.Common.{◌≡◌, ◌++◌, ℕ, length, ap, ◌∙◌, arith}
use Rattle.std.specs.Int.{div_ceil}
use Rattle.std.specs.List.{flat_map, range_with_len}
use Rattle.axe_file.specs.TextWriting.{text_line, in_lines}
use Rattle.axe_file.proofs.TextLines.{piece_more}
use Rattle.axe_file.proofs.text_writing.put_lines.Goals as goal

pub loop-index-preserved : goal.loop-index-preserved
loop-index-preserved c =
    piece_more (text_line c.args.digits.now) c.args.text.now.items c.loop-index.text.items c.put_line.new.text.items c.loop-index.index c.loop-index.invariant c.in_ok-put_line.ensures

pub returns : goal.returns
unfolding in_lines
returns c =
    let digits = c.args.digits.now in
    let last : c.loop-index.index ≡ c.div_ceil-index-end.result = omega arith in
    let all : c.loop-index.index ≡ div_ceil (length digits) 80 = last ∙ c.div_ceil-index-end.ensures in
    c.loop-index.invariant ∙ ap (λ (n : ℕ). c.args.text.now.items ++ flat_map (text_line digits) (range_with_len 0 n)) all
