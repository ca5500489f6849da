use Rattle.std.proofs.Common.{arith}
use Rattle.axe_plane.proofs.Plane.cancel.Goals as goal

pub cancel_where_zeros-requires-clause-within : goal.cancel_where_zeros-requires-clause-within
cancel_where_zeros-requires-clause-within c = omega arith

pub cancel_where_zeros-requires-clause-zeros : goal.cancel_where_zeros-requires-clause-zeros
cancel_where_zeros-requires-clause-zeros c = λ j below. absurd (omega arith)
