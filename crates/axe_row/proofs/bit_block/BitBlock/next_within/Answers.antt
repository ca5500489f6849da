use Rattle.axe_field.specs.Order.{Two}
use Rattle.axe_row.proofs.BitBlockLaws.{bits_left, none_in_block, place_in_block, support_of_block}
use Rattle.axe_row.proofs.bit_block.BitBlock.next_within.Goals as goal

pub returns-in_default-clause-found : goal.returns-in_default-clause-found
returns-in_default-clause-found g c = λ o is prime.
    none_in_block o c.args.self.now c.args.places.now (c.in_default.ensures _ (support_of_block o c.args.self.now c.args.places.now))

pub overflow_shl-places : goal.overflow_shl-places
overflow_shl-places g c =
    place_in_block Two c.args.self.now c.args.places.now c.in-Some.place (c.in-Some.ensures _ (support_of_block Two c.args.self.now c.args.places.now))

pub entry-requires : goal.entry-requires
entry-requires g c =
    place_in_block Two c.args.self.now c.args.places.now c.in-Some.place (c.in-Some.ensures _ (support_of_block Two c.args.self.now c.args.places.now))

pub returns-clause-found : goal.returns-clause-found
returns-clause-found g c = λ o is prime. record {
  next = c.in-Some.ensures _ (support_of_block o c.args.self.now c.args.places.now);
  entry_is = c.entry.ensures o is prime;
}

pub returns-clause-rest : goal.returns-clause-rest
returns-clause-rest g c =
    bits_left c.args.places.now c.in-Some.place
    (place_in_block Two c.args.self.now c.args.places.now c.in-Some.place (c.in-Some.ensures _ (support_of_block Two c.args.self.now c.args.places.now)))
