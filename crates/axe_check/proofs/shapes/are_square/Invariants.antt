use Rattle.std.proofs.Common.{take}
use Rattle.std.specs.List.{All}
use Rattle.axe_check.specs.Certificates.{IsSquareOfSize}
use Rattle.axe_check.proofs.shapes.are_square.Given as goal

abbrev pub invariant-loop-matrix : goal.invariant-loop-matrix
invariant-loop-matrix l = All (IsSquareOfSize l.field l.dim) (take l.matrix-index l.matrices)
