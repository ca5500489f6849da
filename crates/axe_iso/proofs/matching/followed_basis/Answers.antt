use Rattle.std.proofs.Common.{◌≤◌, [], ◌∷◌, ◌++◌, refl, sym, ap, ◌∙◌, arith}
use Rattle.axe_matrix.specs.Matrices.{MatrixValue}
use Rattle.axe_matrix.proofs.MatrixLaws.{same_matrix}
use Rattle.axe_iso.proofs.FollowLaws.{first_followed, basis_followed, basis_not_followed}
use Rattle.axe_iso.proofs.matching.followed_basis.Goals as goal

pub loop-source-init : goal.loop-source-init
loop-source-init c =
    first_followed c.args.module.now c.args.matrices.now c.dim.ensures.well_formed c.requires.matrices c.args.point.entries c.append.new.self
    (c.in_ok-append.ensures.appended
    ∙ ap (λ (x : MatrixValue). record x { rows = x.rows ++ c.args.point.entries ∷ [] }) c.in_ok-basis.ensures.no_rows
    ∙ same_matrix _ _ c.field.ensures.order c.dim.ensures.count refl)
    c.in_ok-append.ensures.well_formed

pub returns-then-rank-dim : goal.returns-then-rank-dim
returns-then-rank-dim c =
    let all : c.args.module.now.dim ≤ c.loop-source.source = omega (arith, c.loop-source-test.false, c.dim-source-end.ensures.count) in
    basis_not_followed c.args.module.now c.args.matrices.now c.dim.ensures.well_formed c.requires.matrices c.args.point c.loop-source.basis c.loop-source.source
    all c.loop-source.invariant c.in_ok-span_of.field-0 c.in_ok-span_of.ensures.span
    (λ e. c.if-rank-dim.true (c.rank-2.ensures.count ∙ e ∙ sym c.dim-3.ensures.count))

pub returns : goal.returns
returns c =
    let all : c.args.module.now.dim ≤ c.loop-source.source = omega (arith, c.loop-source-test.false, c.dim-source-end.ensures.count) in
    basis_followed c.args.module.now c.args.matrices.now c.dim.ensures.well_formed c.requires.matrices c.args.point c.loop-source.basis c.loop-source.source
    all c.loop-source.invariant c.in_ok-span_of.field-0 c.in_ok-span_of.ensures.span
    (sym c.rank-2.ensures.count ∙ c.if-rank-dim.false ∙ c.dim-3.ensures.count)
