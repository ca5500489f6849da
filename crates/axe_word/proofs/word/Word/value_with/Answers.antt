use Rattle.std.proofs.Common.{take, length, ◌≡◌, ap, ◌∙◌, subst, arith}
use Rattle.std.proofs.Math.Seq.{take-length}
use Rattle.axe_word.specs.Words.{IsValueOf}
use Rattle.axe_word.proofs.ValueLaws.{value-none}
use Rattle.axe_word.proofs.word.Word.value_with.Goals as goal

pub loop-index-init : goal.loop-index-init
loop-index-init c = record {
  value = value-none c.args.module.now _ _ _ c.in_ok-sum.sum c.in_ok-sum.ensures.zeros c.field.ensures.order c.dim.ensures.count c.dim-2.ensures.count;
  well_formed = c.in_ok-sum.ensures.well_formed;
  products = c.requires.products;
}

pub returns-clause-value : goal.returns-clause-value
returns-clause-value c =
    let end = c.loop-index.auto.index-end in
    let over = c.loop-index-test.false in
    let all : c.loop-index.index ≡ length c.args.self.now = omega (arith, c.len-index-end.ensures.count) in
    subst (λ word. IsValueOf c.args.module.now word c.loop-index.sum) (ap (λ k. take k c.args.self.now) all ∙ take-length c.args.self.now)
    c.loop-index.invariant.value
