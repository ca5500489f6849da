use Rattle.std.specs.Prelude.{◌≡◌, length}
use Rattle.std.specs.List.{All}
use Rattle.axe_norton.specs.Pairings.{IsPairing}
use Rattle.axe_norton.proofs.SeenLaws.{AreImages}
use Rattle.axe_norton.proofs.pairings.pairings.Given as goal

abbrev pub invariant-loop-place : goal.invariant-loop-place
invariant-loop-place l = record {
  images : AreImages l.module l.basis l.images;
  found : All (IsPairing l.module l.basis l.transposed) l.found.items;
  field : l.seen.order ≡ l.module.order;
  columns : l.seen.cols ≡ length l.transposed.rows;
}
