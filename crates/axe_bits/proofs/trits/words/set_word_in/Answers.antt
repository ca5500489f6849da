use Rattle.std.proofs.Common.{refl}
use Rattle.axe_layer.proofs.WordWrites.{IsCutWord, HoldsBits-cut, bits-cut}
use Rattle.axe_bits.proofs.trits.words.set_word_in.Goals as goal

pub returns-clause-holds : goal.returns-clause-holds
returns-clause-holds c = λ held.
    let cut : IsCutWord c.args.len c.args.words.now c.args.at c.args.word c.lowest.result = record {
      within = c.requires.within;
      fits = c.lowest.type_inv;
      kept = c.lowest.ensures.kept;
      cleared = c.lowest.ensures.cleared;
    } in
    HoldsBits-cut _ _ _ _ _ cut held

pub returns-clause-digits : goal.returns-clause-digits
returns-clause-digits c =
    let cut : IsCutWord c.args.len c.args.words.now c.args.at c.args.word c.lowest.result = record {
      within = c.requires.within;
      fits = c.lowest.type_inv;
      kept = c.lowest.ensures.kept;
      cleared = c.lowest.ensures.cleared;
    } in
    bits-cut _ _ _ _ _ _ cut refl
