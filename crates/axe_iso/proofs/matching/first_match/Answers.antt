use Rattle.std.proofs.Common.{◌≡◌, ◌≤◌, false, length, sym, ap, subst, ◌∙◌, rules}
use Rattle.axe_field.specs.Order.{order_number}
use Rattle.axe_spin.specs.Modules.{ModuleValue}
use Rattle.axe_word.specs.PointsOfMatrix.{point_count}
use Rattle.axe_iso.specs.Matches.{HasStandardMatrices}
use Rattle.axe_iso.specs.Following.{AreFormMatrices, IsBasisWithMatrices}
use Rattle.axe_iso.specs.Images.{IsSpaceOfImages}
use Rattle.axe_iso.proofs.FormLaws.{reduced_of_word, more_points, no_match, tried_all, form_matrices}
use Rattle.axe_iso.proofs.Matched.{item_field, item_fits, item_spanned, item_unmatched, item_matched}
use Rattle.axe_iso.proofs.SkippedPoints.{few_said, not_few, space_field, space_columns, skipped_unmatched, none_of_no_image}
use Rattle.axe_iso.proofs.matching.first_match.Goals as goal

pub returns-then-not-few_points : goal.returns-then-not-few_points
returns-then-not-few_points c =
    more_points c.args.form.now c.args.module.now c.matrices.ensures.well_formed c.dim.ensures.well_formed c.requires.field c.requires.generators
    c.args.space.now c.requires.space
    (not_few c.args.module.now.order (length c.args.space.now.rows) c.order.result c.rows.result 4095 c.few_points.result
    (c.order.ensures.value ∙ ap order_number c.field.ensures.order) c.rows.ensures.count c.few_points.ensures c.if-not-few_points.true)

pub new-point-items-requires-clause-reduced : goal.new-point-items-requires-clause-reduced
new-point-items-requires-clause-reduced c = reduced_of_word c.args.module.now c.args.form.now.seed c.args.form.now.word c.args.form.now.poly c.args.space.now c.requires.space

pub new-point-items-requires-clause-few : goal.new-point-items-requires-clause-few
new-point-items-requires-clause-few c =
    subst (λ o. point_count (order_number o) (length c.args.space.now.rows) ≤ 4095)
    (sym (space_field c.args.module.now c.args.form.now.seed c.args.form.now.word c.args.form.now.poly c.args.space.now c.requires.space))
    ((few_said c.args.module.now.order (length c.args.space.now.rows) c.order.result c.rows.result 4095 c.few_points.result
    (c.order.ensures.value ∙ ap order_number c.field.ensures.order) c.rows.ensures.count c.few_points.ensures).0 c.if-not-few_points.false)

pub followed_basis-requires-clause-matrices : goal.followed_basis-requires-clause-matrices
followed_basis-requires-clause-matrices c =
    subst (AreFormMatrices c.args.module.now) (sym c.matrices-in-loop-point.ensures.value)
    (form_matrices c.args.form.now c.args.module.now c.matrices.ensures.well_formed c.requires.field c.requires.generators c.requires.dimension)

pub followed_basis-requires-clause-field : goal.followed_basis-requires-clause-field
followed_basis-requires-clause-field c =
    item_field c.args.form.now c.args.module.now c.args.space.now c.dim.ensures.well_formed c.requires.space c.requires.field c.requires.dimension
    c.loop-point.point-iterator c.next.new.self c.in-Some.point c.in_ok-point.point c.loop-point.invariant c.in_ok-point.was c.in-Some.ensures.steps

pub followed_basis-requires-clause-fits : goal.followed_basis-requires-clause-fits
followed_basis-requires-clause-fits c =
    item_fits c.args.form.now c.args.module.now c.args.space.now c.dim.ensures.well_formed c.requires.space c.requires.field c.requires.dimension
    c.loop-point.point-iterator c.next.new.self c.in-Some.point c.in_ok-point.point c.loop-point.invariant c.in_ok-point.was c.in-Some.ensures.steps

pub returns-in-Some-2 : goal.returns-in-Some-2
returns-in-Some-2 c =
    let given = rw c.in-Some-2.is at c.in_ok-basis.ensures in
    item_matched c.args.form.now c.args.module.now c.args.space.now c.dim.ensures.well_formed c.requires.space c.requires.field c.requires.dimension
    c.loop-point.point-iterator c.next.new.self c.in-Some.point c.in_ok-point.point c.loop-point.invariant c.in_ok-point.was c.in-Some.ensures.steps
    c.in-Some-2.basis
    (subst (λ (x : ModuleValue). IsBasisWithMatrices c.args.module.now c.in_ok-point.point x c.in-Some-2.basis) c.matrices-in-loop-point.ensures.value given)

pub loop-point-preserved : goal.loop-point-preserved
loop-point-preserved c =
    let none = rw c.in_default.is at c.in_ok-basis.ensures in
    item_unmatched c.args.form.now c.args.module.now c.args.space.now c.dim.ensures.well_formed c.requires.space c.requires.field c.requires.dimension
    c.loop-point.point-iterator c.next.new.self c.in-Some.point c.in_ok-point.point c.loop-point.invariant c.in_ok-point.was c.in-Some.ensures.steps
    (subst (λ (x : ModuleValue). ¬ (HasStandardMatrices c.args.module.now c.in_ok-point.point.entries x)) c.matrices-in-loop-point.ensures.value none)

pub returns : goal.returns
returns c =
    no_match c.args.form.now c.args.module.now c.matrices.ensures.well_formed c.dim.ensures.well_formed c.requires.field c.requires.generators
    c.args.space.now c.requires.space
    (tried_all c.args.form.now c.args.module.now c.args.space.now c.loop-point.point-iterator c.loop-point.invariant c.in-None.ensures.steps.0)

-- ---- the points that are skipped

pub possible_images-requires-clause-matrices : goal.possible_images-requires-clause-matrices
possible_images-requires-clause-matrices c =
    subst (AreFormMatrices c.args.module.now) (sym c.matrices-2.ensures.value)
    (form_matrices c.args.form.now c.args.module.now c.matrices.ensures.well_formed c.requires.field c.requires.generators c.requires.dimension)

pub possible_images-requires-clause-field : goal.possible_images-requires-clause-field
possible_images-requires-clause-field c =
    space_field c.args.module.now c.args.form.now.seed c.args.form.now.word c.args.form.now.poly c.args.space.now c.requires.space

pub possible_images-requires-clause-columns : goal.possible_images-requires-clause-columns
possible_images-requires-clause-columns c =
    space_columns c.args.module.now c.args.form.now.seed c.args.form.now.word c.args.form.now.poly c.args.space.now c.requires.space

pub returns-then-dim-eq0 : goal.returns-then-dim-eq0
returns-then-dim-eq0 c =
    no_match c.args.form.now c.args.module.now c.matrices.ensures.well_formed c.dim.ensures.well_formed c.requires.field c.requires.generators
    c.args.space.now c.requires.space
    (none_of_no_image c.args.form.now c.args.module.now c.args.space.now c.in_ok-images.images c.requires.space
    (subst (λ (x : ModuleValue). IsSpaceOfImages c.args.module.now x c.args.space.now c.in_ok-images.images) c.matrices-2.ensures.value c.in_ok-images.ensures)
    (sym c.dim-3.ensures.count ∙ c.if-dim-eq0.true))

pub contains-requires-clause-field : goal.contains-requires-clause-field
contains-requires-clause-field c =
    item_field c.args.form.now c.args.module.now c.args.space.now c.dim.ensures.well_formed c.requires.space c.requires.field c.requires.dimension
    c.loop-point.point-iterator c.next.new.self c.in-Some.point c.in_ok-point.point c.loop-point.invariant c.in_ok-point.was c.in-Some.ensures.steps
    ∙ sym c.in_ok-images.ensures.field

pub contains-requires-clause-fits : goal.contains-requires-clause-fits
contains-requires-clause-fits c =
    item_fits c.args.form.now c.args.module.now c.args.space.now c.dim.ensures.well_formed c.requires.space c.requires.field c.requires.dimension
    c.loop-point.point-iterator c.next.new.self c.in-Some.point c.in_ok-point.point c.loop-point.invariant c.in_ok-point.was c.in-Some.ensures.steps
    ∙ sym c.in_ok-images.ensures.columns

pub loop-point-preserved-then-not-branch : goal.loop-point-preserved-then-not-branch
loop-point-preserved-then-not-branch c =
    item_unmatched c.args.form.now c.args.module.now c.args.space.now c.dim.ensures.well_formed c.requires.space c.requires.field c.requires.dimension
    c.loop-point.point-iterator c.next.new.self c.in-Some.point c.in_ok-point.point c.loop-point.invariant c.in_ok-point.was c.in-Some.ensures.steps
    (skipped_unmatched c.args.module.now c.args.form.now.matrices c.args.space.now c.in_ok-images.images
    (subst (λ (x : ModuleValue). IsSpaceOfImages c.args.module.now x c.args.space.now c.in_ok-images.images) c.matrices-2.ensures.value c.in_ok-images.ensures)
    c.in_ok-point.point.entries
    (item_spanned c.args.form.now c.args.module.now c.args.space.now c.dim.ensures.well_formed c.requires.space c.requires.field c.requires.dimension
    c.loop-point.point-iterator c.next.new.self c.in-Some.point c.in_ok-point.point c.loop-point.invariant c.in_ok-point.was c.in-Some.ensures.steps)
    c.in_ok-contains.field-0 c.in_ok-contains.ensures
    (let wrong : c.in_ok-contains.field-0 ≡ false = search rules in wrong))
