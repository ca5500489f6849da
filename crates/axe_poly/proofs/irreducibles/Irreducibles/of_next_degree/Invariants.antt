use Rattle.std.proofs.Common.{◌≡◌, ◌+◌, length}
use Rattle.axe_poly.specs.Tables.{AreFoundBelow}
use Rattle.axe_poly.proofs.irreducibles.Irreducibles.of_next_degree.Given as goal

abbrev pub invariant-loop-number : goal.invariant-loop-number
invariant-loop-number l = record {
  candidate_field : l.candidate.order ≡ l.self.order;
  candidate_long : length l.candidate.entries ≡ l.self.degree + 2;
  found : AreFoundBelow l.self l.number l.found.items;
}
