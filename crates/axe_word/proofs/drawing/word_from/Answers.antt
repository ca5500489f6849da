use Rattle.std.proofs.Common.{◌≡◌, ◌+◌, arith}
use Rattle.axe_word.proofs.DrawingLaws.{IsWordUpTo-none, IsWordUpTo-more, IsWordUpTo-all}
use Rattle.axe_word.proofs.drawing.word_from.Goals as goal

pub loop-init : goal.loop-init
loop-init c = IsWordUpTo-none _ _ _ _ c.zero-word.ensures

pub loop-preserved : goal.loop-preserved
loop-preserved c = IsWordUpTo-more _ _ _ _ _ _ _ _ _ c.loop.invariant c.draw_term-term.ensures.drawn c.push.ensures

pub returns : goal.returns
returns c =
    let all : c.loop.counter ≡ 1 + c.draw-count.result = omega arith in
    IsWordUpTo-all _ _ _ _ _ _ _ _ c.draw-count.ensures.drawn all c.loop.invariant
