use Rattle.std.proofs.Common.{[], get_or, set, ap, ◌∙◌, ◌+◌, arith}
use Rattle.axe_layer.specs.Digits.{digits_with_multiple}
use Rattle.axe_bits.proofs.EntrySums.{AreSumsOfCopies-none, AreSumsOfCopies-more, AreSumsOfCopies-all}
use Rattle.axe_plane.specs.Primes.{byte_prime}
use Rattle.axe_plane.proofs.byte_table.ByteTable.put_sums.Goals as goal

pub loop-index-init : goal.loop-index-init
loop-index-init c = record {
  prime = c.copy_entries.ensures.prime;
  sums = AreSumsOfCopies-none _ _ _ _ _ c.copy_entries.ensures.copies;
}

pub add_to_later-requires-clause-within : goal.add_to_later-requires-clause-within
add_to_later-requires-clause-within c =
    omega (arith, c.loop-index-test.true, c.requires.within, c.loop-index.invariant.sums.as_many)

pub loop-index-preserved : goal.loop-index-preserved
loop-index-preserved c =
    let to = c.args.start + c.loop-index.index in
    record {
      prime = c.add_to_later.ensures.prime ∙ c.loop-index.invariant.prime;
      sums =
          AreSumsOfCopies-more _ _ _ _ _ _ _ c.loop-index.invariant.sums c.loop-index.auto.index c.loop-index-test.true
          (omega (arith, c.loop-index-test.true, c.requires.within, c.loop-index.invariant.sums.as_many))
          (c.add_to_later.ensures.sum
          ∙ ap (λ q. set c.loop-index.self.entries to (digits_with_multiple (byte_prime q) (get_or c.loop-index.self.entries to []) 1
          (get_or c.loop-index.self.entries c.args.start []))) c.loop-index.invariant.prime);
    }

pub returns-clause-prime : goal.returns-clause-prime
returns-clause-prime c = c.loop-index.invariant.prime

pub returns-clause-sums : goal.returns-clause-sums
returns-clause-sums c = AreSumsOfCopies-all _ _ _ _ _ _ c.loop-index.invariant.sums (omega (arith, c.loop-index-test.false))
