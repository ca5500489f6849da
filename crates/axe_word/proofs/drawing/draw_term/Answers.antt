use Rattle.std.proofs.Common.{rules, ◌≡◌, ◌+◌, subst, arith}
use Rattle.axe_word.proofs.DrawingLaws.{IsDrawnUpTo, IsDrawnUpTo-none, IsDrawnUpTo-more, IsDrawnUpTo-all}
use Rattle.axe_word.proofs.drawing.draw_term.Goals as goal

pub loop-init : goal.loop-init
loop-init c = IsDrawnUpTo-none _ _ _ _ c.new-term.ensures

pub loop-preserved : goal.loop-preserved
loop-preserved c = IsDrawnUpTo-more _ _ _ _ _ _ _ _ _ c.loop.invariant c.draw-number.ensures.drawn c.push.ensures

pub returns-clause-drawn : goal.returns-clause-drawn
returns-clause-drawn c =
    let all : c.loop.counter ≡ c.draw-count.result = omega arith in
    let drawn = subst (λ count. IsDrawnUpTo count (1 + c.draw-coefficient.result) c.args.gens c.draw-count.new.generator c.loop.term c.loop.generator) all c.loop.invariant in
    IsDrawnUpTo-all _ _ _ _ _ _ _ _ _ c.draw-coefficient.ensures.drawn c.draw-count.ensures.drawn drawn

pub returns-clause-nonzero : goal.returns-clause-nonzero
returns-clause-nonzero c = search rules
