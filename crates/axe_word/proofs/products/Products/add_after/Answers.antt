use Rattle.std.proofs.Common.{◌≡◌, length, sym, ap, ◌∙◌, subst, arith}
use Rattle.axe_field.specs.Order.{IsElement}
use Rattle.axe_matrix.specs.Matrices.{MatrixValue}
use Rattle.axe_matrix.specs.Products.{matrix_with_product}
use Rattle.axe_echelon.proofs.Exits.{answers_more}
use Rattle.axe_word.specs.KeptProducts.{IsMultipleAdded}
use Rattle.axe_word.proofs.KeptLaws.{factors-more, product-lent, added-last}
use Rattle.axe_word.proofs.products.Products.add_after.Goals as goal

pub add_product-requires-clause-a_field : goal.add_product-requires-clause-a_field
add_product-requires-clause-a_field c =
    let before = product-lent c.args.module.now _ c.loop.product c.as_ref.result c.args.begun.matrix c.unwrap_or-before.result c.as_ref.ensures.value
    c.unwrap_or-before.ensures c.loop.invariant.product in
    before.field ∙ sym c.requires.field ∙ sym (ap (λ (x : MatrixValue). x.order) c.loop.invariant.same)

pub add_product-requires-clause-b_field : goal.add_product-requires-clause-b_field
add_product-requires-clause-b_field c =
    c.factor_at-factor.ensures.factor.product.field ∙ sym c.requires.field ∙ sym (ap (λ (x : MatrixValue). x.order) c.loop.invariant.same)

pub add_product-requires-clause-rows_fit : goal.add_product-requires-clause-rows_fit
add_product-requires-clause-rows_fit c =
    let before = product-lent c.args.module.now _ c.loop.product c.as_ref.result c.args.begun.matrix c.unwrap_or-before.result c.as_ref.ensures.value
    c.unwrap_or-before.ensures c.loop.invariant.product in
    before.square.length_is ∙ sym c.requires.rows ∙ sym (ap (λ (x : MatrixValue). length x.rows) c.loop.invariant.same)

pub add_product-requires-clause-inner_fit : goal.add_product-requires-clause-inner_fit
add_product-requires-clause-inner_fit c =
    let before = product-lent c.args.module.now _ c.loop.product c.as_ref.result c.args.begun.matrix c.unwrap_or-before.result c.as_ref.ensures.value
    c.unwrap_or-before.ensures c.loop.invariant.product in
    before.columns ∙ sym c.factor_at-factor.ensures.factor.product.square.length_is

pub add_product-requires-clause-columns_fit : goal.add_product-requires-clause-columns_fit
add_product-requires-clause-columns_fit c =
    c.factor_at-factor.ensures.factor.product.columns ∙ sym c.requires.columns ∙ sym (ap (λ (x : MatrixValue). x.cols) c.loop.invariant.same)

pub add_product-requires-clause-element : goal.add_product-requires-clause-element
add_product-requires-clause-element c =
    subst (λ (x : MatrixValue). IsElement x.order c.args.coefficient) (sym c.loop.invariant.same) c.requires.element

pub returns-then-taken-gens-clause-added : goal.returns-then-taken-gens-clause-added
returns-then-taken-gens-clause-added c =
    let m = c.args.module.now in
    let before = product-lent m _ c.loop.product c.as_ref.result c.args.begun.matrix c.unwrap_or-before.result c.as_ref.ensures.value
    c.unwrap_or-before.ensures c.loop.invariant.product in
    let factor = c.factor_at-factor.result.matrix.now in
    answers_more c.add_product.result
    (λ _. c.add_product.new.self ≡ matrix_with_product c.loop.sum c.args.coefficient c.unwrap_or-before.result.now factor)
    (λ _. IsMultipleAdded m c.args.coefficient c.args.gens.now c.args.sum.now c.add_product.new.self) c.add_product.ensures.sum
    (λ _ is.
    added-last m c.args.coefficient c.args.gens.now c.loop.taken c.factor_at-factor.result.len c.args.sum.now c.unwrap_or-before.result.now factor _
    c.requires.field c.requires.columns c.requires.rows before c.factor_at-factor.ensures.factor c.if-taken-gens.true
    (is ∙ ap (λ (x : MatrixValue). matrix_with_product x c.args.coefficient c.unwrap_or-before.result.now factor) c.loop.invariant.same))

pub times-requires-clause-field : goal.times-requires-clause-field
times-requires-clause-field c =
    let before = product-lent c.args.module.now _ c.loop.product c.as_ref.result c.args.begun.matrix c.unwrap_or-before.result c.as_ref.ensures.value
    c.unwrap_or-before.ensures c.loop.invariant.product in
    c.factor_at-factor.ensures.factor.product.field ∙ sym before.field

pub times-requires-clause-inner_fit : goal.times-requires-clause-inner_fit
times-requires-clause-inner_fit c =
    let before = product-lent c.args.module.now _ c.loop.product c.as_ref.result c.args.begun.matrix c.unwrap_or-before.result c.as_ref.ensures.value
    c.unwrap_or-before.ensures c.loop.invariant.product in
    before.columns ∙ sym c.factor_at-factor.ensures.factor.product.square.length_is

pub loop-preserved : goal.loop-preserved
loop-preserved c =
    let before = product-lent c.args.module.now _ c.loop.product c.as_ref.result c.args.begun.matrix c.unwrap_or-before.result c.as_ref.ensures.value
    c.unwrap_or-before.ensures c.loop.invariant.product in
    let some = c.factor_at-factor.ensures.factor.some in
    let within = c.factor_at-factor.ensures.factor.within in
    let last = c.if-taken-gens.false in
    record {
      progress = omega (arith, c.loop.invariant.progress);
      inside = omega arith;
      product = factors-more c.args.module.now c.args.gens.now c.loop.taken c.factor_at-factor.result.len c.unwrap_or-before.result.now
          c.factor_at-factor.result.matrix.now c.in_ok-times.field-0 before c.factor_at-factor.ensures.factor c.in_ok-times.ensures.product;
      same = c.loop.invariant.same;
    }
