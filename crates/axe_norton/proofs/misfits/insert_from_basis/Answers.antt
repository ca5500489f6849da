use Rattle.std.proofs.Common.{arith}
use Rattle.axe_norton.specs.NullRows.{AreNullPowers}
use Rattle.axe_norton.proofs.NullRowLaws.{null_power_inserted}
use Rattle.axe_norton.proofs.misfits.insert_from_basis.Goals as goal

pub loop-place-preserved : goal.loop-place-preserved
loop-place-preserved c =
    let are : AreNullPowers c.args.matrix.now c.args.poly.now c.in-Some.rows = rw c.in-Some.is at c.in_ok-rows.ensures in
    null_power_inserted c.args.matrix.now c.args.poly.now c.in-Some.rows c.loop-place.found c.insert.new.self
    c.in_ok-insert.field-0 c.loop-place.place c.row.result.now c.in_ok-row.row c.loop-place.invariant are
    (omega (arith, c.loop-place-test.true, c.degree-place-end.ensures.value)) c.row.ensures.value
    c.in_ok-row.ensures.copied c.in_ok-insert.ensures.inserted
