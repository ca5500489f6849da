use Rattle.std.proofs.Common.{refl}
use Rattle.axe_plane.proofs.PlaneWords.{bits_with_word}
use Rattle.axe_plane.proofs.Plane.set_digit_words.Goals as goal

pub returns-in-Bits : goal.returns-in-Bits
returns-in-Bits c = bits_with_word _ _ _ c.args.words _ c.in-Bits.is c.requires.digits c.set_word.ensures

pub returns-in-Trits : goal.returns-in-Trits
returns-in-Trits c =
    rw c.in-Trits.is (record { prime = refl; digits_are = c.set_digit_words.ensures })
