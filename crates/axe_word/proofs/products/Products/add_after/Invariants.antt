use Rattle.std.proofs.Common.{◌≡◌, ◌≤◌, ◌<◌, length, take}
use Rattle.std.specs.Option.{unwrap_or}
use Rattle.axe_word.specs.Products.{IsProductOf}
use Rattle.axe_word.proofs.products.Products.add_after.Given as goal

abbrev pub invariant-loop : goal.invariant-loop
invariant-loop l = record {
  progress : l.counter ≤ l.taken;
  inside : l.taken < length l.gens;
  product : IsProductOf l.module (take l.taken l.gens) (unwrap_or l.product l.fn.begun.matrix.now);
  same : l.sum ≡ l.fn.sum;
}
