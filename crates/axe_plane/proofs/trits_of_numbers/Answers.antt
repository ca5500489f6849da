use Rattle.std.proofs.Common.{◌≡◌, subst, sym, lit<, rules}
use Rattle.axe_lane.specs.Bytes.{AreDigits}
use Rattle.axe_layer.specs.Digits.{digits_at}
use Rattle.axe_layer.proofs.NumberDigits.{AreDigits-numbers}
use Rattle.axe_plane.proofs.trits_of_numbers.Goals as goal

pub of_digits-requires : goal.of_digits-requires
of_digits-requires c =
    let digits : c.match-place.digits.items ≡ digits_at 3 c.args.place c.args.numbers.now = search rules in
    subst (AreDigits 3) (sym c.deref.ensures.value)
    (AreDigits-numbers 3 c.args.place c.args.numbers.now c.match-place.digits.items (lit< tt) digits)

pub returns : goal.returns
returns c = search rules
