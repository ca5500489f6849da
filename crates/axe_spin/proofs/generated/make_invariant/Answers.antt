use Rattle.std.proofs.Common.{◌≤◌, ℕ, List, Option, length, ap, sym, subst, ◌∙◌, arith}
use Rattle.axe_spin.specs.Postponed.{AreTakenBut}
use Rattle.axe_spin.proofs.SpaceLaws.{enlarged_on, generated_by_old}
use Rattle.axe_spin.proofs.generated.make_invariant.Goals as goal

pub insert_postponed-requires-clause-subspace : goal.insert_postponed-requires-clause-subspace
insert_postponed-requires-clause-subspace c = c.in_ok-postponed.ensures.enlarged.subspace

pub insert_postponed-requires-clause-within : goal.insert_postponed-requires-clause-within
insert_postponed-requires-clause-within c =
    subst (λ (l : List (Option ℕ)). length l ≤ length c.take_likely_images.new.space.rows) (sym c.deref.ensures.value) c.in_ok-postponed.ensures.within

pub insert_postponed-requires-clause-taken : goal.insert_postponed-requires-clause-taken
insert_postponed-requires-clause-taken c =
    subst (AreTakenBut c.args.module.now c.take_likely_images.new.space.rows) (sym c.deref.ensures.value) c.in_ok-postponed.ensures.taken

pub take_images_from-requires-clause-subspace : goal.take_images_from-requires-clause-subspace
take_images_from-requires-clause-subspace c = c.in_ok-insert_postponed.ensures.enlarged.subspace

pub take_images_from-requires-clause-within : goal.take_images_from-requires-clause-within
take_images_from-requires-clause-within c =
    omega (arith, c.len.ensures, c.in_ok-postponed.ensures.within, c.in_ok-insert_postponed.ensures.enlarged.grown)

pub take_images_from-requires-clause-images : goal.take_images_from-requires-clause-images
take_images_from-requires-clause-images c r below =
    c.in_ok-insert_postponed.ensures.images r (omega (arith, below, c.len.ensures, ap (λ (l : List (Option ℕ)). length l) c.deref.ensures.value))

pub returns-clause-generated : goal.returns-clause-generated
returns-clause-generated c =
    let m = c.args.module.now in
    let is = c.dim.ensures.well_formed in
    let likely = c.take_likely_images.new.space in
    let inserted = c.insert_postponed.new.space in
    let whole = c.take_images_from.new.space in
    generated_by_old m is c.args.space.now whole (length whole.rows) c.requires
    (enlarged_on m is c.args.space.now likely whole c.in_ok-postponed.ensures.enlarged
    (enlarged_on m is likely inserted whole c.in_ok-insert_postponed.ensures.enlarged c.in_ok-take_images_from.ensures.enlarged))
    (omega arith) c.in_ok-take_images_from.ensures.images
