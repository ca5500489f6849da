use Rattle.std.proofs.Common.{[], ◌∷◌, sym, ◌∙◌}
use Rattle.axe_spin.specs.Spinning.{IsGeneratedSpace}
use Rattle.axe_norton.proofs.SearchLaws.{seed_of_row, seed_accepted, everything_generated, proper_generated}
use Rattle.axe_norton.proofs.spaces.proper_subspace.Goals as goal

pub returns-then-dim : goal.returns-then-dim
returns-then-dim c =
    let seed = seed_of_row c.args.module.now _ _ c.empty-seed.result c.append.new.self c.args.vector.entries c.field.ensures.order c.dim.ensures.count
    c.empty-seed.ensures.no_rows c.in_ok-append.ensures.appended in
    let is : IsGeneratedSpace c.args.module.now (c.args.vector.entries ∷ []) c.in_ok-space.space =
    seed_accepted c.args.module.now c.args.vector.entries c.append.new.self _ seed c.requires.nonzero c.in_ok-space.ensures in
    everything_generated c.args.module.now c.args.vector.entries c.in_ok-space.space is
    (sym c.dim-2.ensures.count ∙ c.if-dim.true ∙ c.dim-3.ensures.count)

pub returns : goal.returns
returns c =
    let seed = seed_of_row c.args.module.now _ _ c.empty-seed.result c.append.new.self c.args.vector.entries c.field.ensures.order c.dim.ensures.count
    c.empty-seed.ensures.no_rows c.in_ok-append.ensures.appended in
    let is : IsGeneratedSpace c.args.module.now (c.args.vector.entries ∷ []) c.in_ok-space.space =
    seed_accepted c.args.module.now c.args.vector.entries c.append.new.self _ seed c.requires.nonzero c.in_ok-space.ensures in
    proper_generated c.args.module.now c.args.vector.entries c.in_ok-space.space is
    (λ full. c.if-dim.false (c.dim-2.ensures.count ∙ full ∙ sym c.dim-3.ensures.count))
