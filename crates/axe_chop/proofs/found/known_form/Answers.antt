use Rattle.axe_chop.proofs.Knowing.{others_more, known_here, others_all}
use Rattle.axe_echelon.proofs.Exits.{no_memory}
use Rattle.std.proofs.Common.{rules, arith}
use Rattle.axe_chop.proofs.found.known_form.Goals as goal

pub returns-in-Some : goal.returns-in-Some
returns-in-Some c =
    known_here c.args.forms.now c.args.action.now c.loop-number.number c.index-forms-number.result (omega (arith, c.loop-number-test.true)) c.index-forms-number.is
    c.loop-number.invariant c.in-Some.isomorphism (rw c.in-Some.is at c.in_ok-isomorphism.ensures.answer)

pub loop-number-preserved : goal.loop-number-preserved
loop-number-preserved c =
    others_more c.args.forms.now c.args.action.now c.loop-number.number c.index-forms-number.result (omega (arith, c.loop-number-test.true)) c.index-forms-number.is
    c.loop-number.invariant (rw c.in_default.is at c.in_ok-isomorphism.ensures.answer)

pub returns : goal.returns
returns c = others_all c.args.forms.now c.args.action.now c.loop-number.number c.loop-number.invariant (omega arith)

pub loop-number-init : goal.loop-number-init
loop-number-init c = search rules

pub returns-in_err-isomorphism : goal.returns-in_err-isomorphism
returns-in_err-isomorphism c =
    no_memory _ c.from_residual.result _ c.from_residual.ensures.1 c.in_err-isomorphism.ensures.answer
