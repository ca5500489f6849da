use Rattle.std.proofs.Common.{take}
use Rattle.axe_matrix.specs.Matrices.{IsMatrix}
use Rattle.axe_word.specs.Words.{IsValueOf}
use Rattle.axe_word.specs.KeptProducts.{AreProductsOf}
use Rattle.axe_word.proofs.word.Word.value_with.Given as goal

abbrev pub invariant-loop-index : goal.invariant-loop-index
invariant-loop-index l = record {
  value : IsValueOf l.module (take l.index l.self) l.sum;
  well_formed : IsMatrix l.sum;
  products : AreProductsOf l.module l.products;
}
