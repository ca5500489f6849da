use Rattle.std.specs.Io.KnownBytes.{Keeps}
use Rattle.axe_folder.proofs.directory.write_at_once.Given as goal

-- no byte was taken yet
abbrev pub invariant-loop : goal.invariant-loop
invariant-loop g l = Keeps (g.F.Write.contents l.initial.file) (g.F.Write.contents l.file)
