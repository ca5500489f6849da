use Rattle.std.proofs.Common.{◌++◌, arith, length-append}
use Rattle.std.proofs.lemmas.Result.{IfOk-from_err}
use Rattle.axe_folder.proofs.SourceLaws.{consumes-append, consumes-more, consumes-nothing, ReadsWithin-at_end, ReadsWithin-failed, says_nothing}
use Rattle.axe_folder.proofs.reading.read_within.Goals as goal

pub loop-init : goal.loop-init
loop-init g c = record { within = omega arith; taken = consumes-nothing _ _ c.new-bytes.ensures.items }

pub read_piece-requires : goal.read_piece-requires
read_piece-requires g c = c.loop.invariant.within

-- the piece stands after the bytes before it
pub loop-preserved : goal.loop-preserved
loop-preserved g c =
    let turn = c.in_ok-read_piece.ensures in
    record { within = omega (arith, turn.outcome.1); taken = consumes-more _ _ _ _ _ _ c.loop.invariant.taken turn.taken turn.outcome.0 }

-- the source has ended
pub returns-then-branch-clause-bounded : goal.returns-then-branch-clause-bounded
returns-then-branch-clause-bounded g c = omega (arith, c.in_ok-read_piece.ensures.outcome.1)

pub returns-then-branch-clause-exact : goal.returns-then-branch-clause-exact
returns-then-branch-clause-exact g c =
    let turn = c.in_ok-read_piece.ensures in
    ReadsWithin-at_end _ _ c.read_piece.new.bytes _ (consumes-more _ _ _ _ _ _ c.loop.invariant.taken turn.taken turn.outcome.0) (turn.outcome.2 c.if-branch.true) turn.outcome.1

pub returns-then-branch-clause-frugal : goal.returns-then-branch-clause-frugal
returns-then-branch-clause-frugal g c =
    let turn = c.in_ok-read_piece.ensures in (
      c.read_piece.new.bytes.items,
      (consumes-more _ _ _ _ _ _ c.loop.invariant.taken turn.taken turn.outcome.0, omega (arith, turn.outcome.1)),
    )

-- the last turn failed: the bytes so far and its piece were taken
pub returns-in_err-read_piece-clause-bounded : goal.returns-in_err-read_piece-clause-bounded
returns-in_err-read_piece-clause-bounded g c = IfOk-from_err c.from_residual.result _ c.from_residual.ensures.0

pub returns-in_err-read_piece-clause-exact : goal.returns-in_err-read_piece-clause-exact
returns-in_err-read_piece-clause-exact g c =
    ReadsWithin-failed c.from_residual.result _ _ _ _ _ _ _ c.from_residual.ensures.1 c.loop.invariant.taken c.in_err-read_piece.ensures

pub returns-in_err-read_piece-clause-frugal : goal.returns-in_err-read_piece-clause-frugal
returns-in_err-read_piece-clause-frugal g c =
    let last = c.read_piece.ensures in (
      c.loop.bytes.items ++ last.piece,
      (consumes-append _ _ _ _ _ c.loop.invariant.taken last.taken, omega (arith, last.frugal, length-append c.loop.bytes.items last.piece)),
    )

-- all turns were spent
pub returns-clause-exact : goal.returns-clause-exact
returns-clause-exact g c = says_nothing _

pub returns-clause-frugal : goal.returns-clause-frugal
returns-clause-frugal g c = (c.loop.bytes.items, (c.loop.invariant.taken, omega arith))
