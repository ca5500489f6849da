use Rattle.axe_row.proofs.HeldLaws.{three_of_size, two_of_size}
use Rattle.axe_row.proofs.HeldWrites.{bits_put, high_digits, trits_put}
use Rattle.axe_row.proofs.Row.put_block.Goals as goal

pub put_words-requires-then-this-eq3-clause-digits : goal.put_words-requires-then-this-eq3-clause-digits
put_words-requires-then-this-eq3-clause-digits g c = λ power i low.
    high_digits c.args.at i c.args.block.now c.args.self.now c.put_words.new.self
    (three_of_size c.args.self.now.order g.row.Q c.requires.order c.then-this-eq3.either) c.requires.elements
    (record { written = c.put_words.ensures.written; kept = c.put_words.ensures.kept }) low

pub returns-then-this-eq3-clause-written : goal.returns-then-this-eq3-clause-written
returns-then-this-eq3-clause-written g c =
    trits_put c.args.at c.args.block.now c.args.self.now c.put_words.new.self c.put_words-then-this-eq3.new.self
    (three_of_size c.args.self.now.order g.row.Q c.requires.order c.then-this-eq3.either) c.requires.elements
    c.put_words.ensures.was_well_formed c.put_words-then-this-eq3.ensures.well_formed
    (record { written = c.put_words.ensures.written; kept = c.put_words.ensures.kept })
    (record { written = c.put_words-then-this-eq3.ensures.written; kept = c.put_words-then-this-eq3.ensures.kept })

pub returns-clause-written : goal.returns-clause-written
returns-clause-written g c =
    bits_put c.args.at c.args.block.now c.args.self.now c.put_words-2.new.self c.put_words-3.new.self c.put_words-4.new.self
    (two_of_size c.args.self.now.order g.row.Q c.requires.order c.if-this-eq3.false c.if-this-eq9.false c.requires.characteristic) c.requires.elements
    c.put_words-2.ensures.was_well_formed c.put_words-4.ensures.well_formed
    (record { written = c.put_words-2.ensures.written; kept = c.put_words-2.ensures.kept })
    (record { written = c.put_words-3.ensures.written; kept = c.put_words-3.ensures.kept })
    (record { written = c.put_words-4.ensures.written; kept = c.put_words-4.ensures.kept })
