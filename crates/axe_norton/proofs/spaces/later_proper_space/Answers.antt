use Rattle.std.proofs.Common.{◌≡◌, ◌∷◌, refl, sym, ap, ◌∙◌}
use Rattle.axe_matrix.specs.Matrices.{MatrixValue}
use Rattle.axe_norton.proofs.SeenLaws.{basis_in}
use Rattle.axe_norton.proofs.PointRuns.{identity_points, identity_reduced, identity_few, none_tried, next_of_point, tried_more, tried_all, found_where_some, generates_where_none}
use Rattle.axe_norton.proofs.spaces.later_proper_space.Goals as goal

pub new-coordinates-items-requires-clause-reduced : goal.new-coordinates-items-requires-clause-reduced
new-coordinates-items-requires-clause-reduced c =
    identity_reduced c.in_ok-identity.identity _ _ c.in_ok-identity.ensures.well_formed c.in_ok-identity.ensures.identity

pub new-coordinates-items-requires-clause-few : goal.new-coordinates-items-requires-clause-few
new-coordinates-items-requires-clause-few c =
    identity_few c.args.null_space.now c.in_ok-identity.identity _ _
    (c.field.ensures.order ∙ sym (basis_in c.args.module.now c.args.null_space.now c.args.transposed.now c.requires.spaces).field) c.rows.ensures.count
    c.in_ok-identity.ensures.identity c.requires.few

pub loop-coordinates-init : goal.loop-coordinates-init
loop-coordinates-init c =
    none_tried c.args.module.now c.args.null_space.now c.into_iter-coordinates-iterator.result c.in_ok-identity.identity
    (c.into_iter-coordinates-iterator.ensures.into_iter_gives ∙ c.new-coordinates-items.ensures)
    (ap (λ (m : MatrixValue). m.order) c.in_ok-identity.ensures.identity ∙ c.field.ensures.order)
    (identity_points c.args.null_space.now c.in_ok-identity.identity _ _
    (c.field.ensures.order ∙ sym (basis_in c.args.module.now c.args.null_space.now c.args.transposed.now c.requires.spaces).field) c.rows.ensures.count
    c.in_ok-identity.ensures.identity)

pub proper_combination-requires-clause-coordinates : goal.proper_combination-requires-clause-coordinates
proper_combination-requires-clause-coordinates c =
    let steps = rw c.in_ok-coordinates.was at c.in-Some.ensures.steps in
    let next : c.loop-coordinates.coordinates-iterator.left ≡ c.in_ok-coordinates.coordinates.entries ∷ c.next.new.self.left = steps.0 in
    next_of_point c.args.module.now c.args.null_space.now c.loop-coordinates.coordinates-iterator c.loop-coordinates.invariant _ _ next
    (basis_in c.args.module.now c.args.null_space.now c.args.transposed.now c.requires.spaces) c.in_ok-coordinates.coordinates refl steps.1

pub returns-then-is_some : goal.returns-then-is_some
returns-then-is_some c =
    let steps = rw c.in_ok-coordinates.was at c.in-Some.ensures.steps in
    let next : c.loop-coordinates.coordinates-iterator.left ≡ c.in_ok-coordinates.coordinates.entries ∷ c.next.new.self.left = steps.0 in
    found_where_some c.args.module.now c.args.null_space.now c.loop-coordinates.coordinates-iterator c.loop-coordinates.invariant _ _ next c.in_ok-space.space
    c.if-is_some.ensures c.in_ok-space.ensures

pub loop-coordinates-preserved-else-is_some : goal.loop-coordinates-preserved-else-is_some
loop-coordinates-preserved-else-is_some c =
    let steps = rw c.in_ok-coordinates.was at c.in-Some.ensures.steps in
    let next : c.loop-coordinates.coordinates-iterator.left ≡ c.in_ok-coordinates.coordinates.entries ∷ c.next.new.self.left = steps.0 in
    tried_more c.args.module.now c.args.null_space.now c.loop-coordinates.coordinates-iterator c.loop-coordinates.invariant _ _ next c.next.new.self refl steps.2
    (generates_where_none c.args.module.now _ c.in_ok-space.space c.if-is_some.ensures c.in_ok-space.ensures)

pub loop-coordinates-preserved : goal.loop-coordinates-preserved
loop-coordinates-preserved c =
    let steps = rw c.in_ok-coordinates.was at c.in-Some.ensures.steps in
    let next : c.loop-coordinates.coordinates-iterator.left ≡ c.in_ok-coordinates.coordinates.entries ∷ c.next.new.self.left = steps.0 in
    tried_more c.args.module.now c.args.null_space.now c.loop-coordinates.coordinates-iterator c.loop-coordinates.invariant _ _ next c.next.new.self refl steps.2
    (generates_where_none c.args.module.now _ c.in_ok-space.space c.if-is_some.ensures c.in_ok-space.ensures)

pub returns : goal.returns
returns c =
    tried_all c.args.module.now c.args.null_space.now c.loop-coordinates.coordinates-iterator c.loop-coordinates.invariant c.in-None.ensures.steps.0
