use Rattle.axe_folder.proofs.SinkLaws.{keeps-self, keeps-kept, appends-kept}
use Rattle.axe_folder.proofs.directory.write_at_once.Goals as goal

pub loop-init : goal.loop-init
loop-init g c = keeps-self _

-- all bytes were taken
pub returns-in-Ok : goal.returns-in-Ok
returns-in-Ok g c = appends-kept _ _ _ _ _ c.loop.invariant c.if-count-bytes.true c.in-Ok.ensures.bytes

-- the write was interrupted
pub loop-preserved : goal.loop-preserved
loop-preserved g c = keeps-kept _ _ _ c.loop.invariant c.in-Err.ensures.bytes
