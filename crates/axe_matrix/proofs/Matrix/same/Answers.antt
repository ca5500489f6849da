use Rattle.std.proofs.Common.{rules, ◌≡◌, ◌≤◌, [], length, refl, sym, ◌∙◌, arith}
use Rattle.std.proofs.lemmas.List.{ext_get_or}
use Rattle.axe_matrix.proofs.MatrixLaws.{same_matrix, one_field}
use Rattle.axe_matrix.proofs.Matrix.same.Goals as goal

pub returns : goal.returns
returns c =
    let field = one_field _ _ _ _ c.field.ensures.order c.if-ne.ensures c.field-else-rows.ensures.order in
    let cols : c.args.self.now.cols ≡ c.args.other.now.cols =
    sym c.cols.ensures.count ∙ c.if-cols.false ∙ c.cols-2.ensures.count in
    let count : length c.args.self.now.rows ≡ length c.args.other.now.rows =
    sym c.rows.ensures.count ∙ c.if-rows.false ∙ c.rows-else-cols.ensures.count in
    let all : length c.args.self.now.rows ≤ c.loop-index.index = rw (← c.rows-index-end.ensures.count) c.loop-index-test.false in
    let rows = ext_get_or [] c.args.self.now.rows c.args.other.now.rows count (λ k below. c.loop-index.invariant k (omega arith)) in
    (λ _. same_matrix _ _ field cols rows, λ _. refl)

pub returns-then-cols : goal.returns-then-cols
returns-then-cols c = search rules

pub returns-then-not-same : goal.returns-then-not-same
returns-then-not-same c = search rules

pub loop-index-preserved : goal.loop-index-preserved
loop-index-preserved c = search rules
