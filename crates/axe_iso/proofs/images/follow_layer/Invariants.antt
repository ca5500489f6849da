use Rattle.axe_iso.specs.Images.{AreLayersUpTo, KeepHomomorphisms}
use Rattle.axe_iso.proofs.images.follow_layer.Given as goal

abbrev pub invariant-loop-number : goal.invariant-loop-number
invariant-loop-number l = record {
  up_to : AreLayersUpTo l.module l.matrices l.layers.items l.source l.number;
  kept : KeepHomomorphisms l.module l.matrices l.fn.layers.items l.layers.items;
}
