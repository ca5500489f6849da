use Rattle.std.proofs.Common.{◌≡◌, ◌+◌, length, take, refl, sym, arith}
use Rattle.std.proofs.lemmas.Bool.{eqb-true}
use Rattle.axe_matrix.specs.Matrices.{identity_matrix}
use Rattle.axe_echelon.proofs.Exits.{answers_more}
use Rattle.axe_word.specs.Words.{IsValueOf}
use Rattle.axe_word.specs.KeptProducts.{IsMultipleAdded}
use Rattle.axe_word.proofs.ValueLaws.{value-more, product-none, coefficient-IsElement, numbers-below, value-is_square}
use Rattle.axe_word.proofs.word.Word.add_term.Goals as goal

pub add_to_diagonal-requires-clause-square : goal.add_to_diagonal-requires-clause-square
add_to_diagonal-requires-clause-square c = value-is_square c.args.module.now _ c.args.sum.now c.requires.before

pub add_to_diagonal-requires-clause-element : goal.add_to_diagonal-requires-clause-element
add_to_diagonal-requires-clause-element c =
    coefficient-IsElement c.args.module.now c.args.self.now c.args.index _ _ c.requires.word c.requires.index c.term-term.ensures.coefficient c.requires.before.field

pub returns-then-is_empty-clause-added : goal.returns-then-is_empty-clause-added
returns-then-is_empty-clause-added c =
    let one = identity_matrix c.args.sum.now.order c.args.sum.now.cols in
    let none : length c.term-term.result.gens.now ≡ 0 = eqb-true (length c.term-term.result.gens.now) 0 (sym c.if-is_empty.ensures) in
    value-more c.args.module.now c.args.self.now c.args.index c.args.sum.now _ one _ _ c.requires.word c.requires.index c.requires.before
    c.term-term.ensures.coefficient c.term-term.ensures.numbers
    (product-none c.args.module.now _ _ one _ refl c.requires.before.field c.requires.before.columns (omega (arith, none)))
    c.add_to_diagonal.ensures.sum

pub keep_pairs-requires-clause-numbers : goal.keep_pairs-requires-clause-numbers
keep_pairs-requires-clause-numbers c =
    numbers-below c.args.module.now c.args.self.now c.args.index c.term-term.result.gens.now c.requires.word c.requires.index c.term-term.ensures.numbers

pub add_multiple-requires-clause-numbers : goal.add_multiple-requires-clause-numbers
add_multiple-requires-clause-numbers c =
    numbers-below c.args.module.now c.args.self.now c.args.index c.term-term.result.gens.now c.requires.word c.requires.index c.term-term.ensures.numbers

pub add_multiple-requires-clause-element : goal.add_multiple-requires-clause-element
add_multiple-requires-clause-element c =
    coefficient-IsElement c.args.module.now c.args.self.now c.args.index _ _ c.requires.word c.requires.index c.term-term.ensures.coefficient c.requires.before.field

pub add_multiple-requires-clause-rows : goal.add_multiple-requires-clause-rows
add_multiple-requires-clause-rows c = c.requires.before.value.square.length_is

pub returns-clause-added : goal.returns-clause-added
returns-clause-added c =
    let m = c.args.module.now in
    answers_more c.add_multiple.result
    (λ _. IsMultipleAdded m c.term-term.result.coefficient c.term-term.result.gens.now c.args.sum.now c.add_multiple.new.sum)
    (λ _. IsValueOf m (take (c.args.index + 1) c.args.self.now) c.add_multiple.new.sum) c.add_multiple.ensures.added
    (λ _ h.
    value-more m c.args.self.now c.args.index c.args.sum.now _ h.matrix _ _ c.requires.word c.requires.index c.requires.before
    c.term-term.ensures.coefficient c.term-term.ensures.numbers h.product h.sum)
