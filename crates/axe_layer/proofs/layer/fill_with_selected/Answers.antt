use Rattle.std.proofs.Common.{◌*◌, ◌<◌, ◌≤◌, ◌+◌, ◌/◌, length, refl, arith, sym, ap, ◌∙◌}
use Rattle.std.proofs.lemmas.List.{length-map}
use Rattle.axe_lane.specs.Words.{bit_of}
use Rattle.axe_layer.proofs.DigitWords.{have_no_digits, have_next_word, HoldsBits-digits, bits-digits}
use Rattle.axe_layer.proofs.RunLaws.{followed_in_word}
use Rattle.axe_layer.proofs.layer.fill_with_selected.Goals as goal

pub loop-at-init : goal.loop-at-init
loop-at-init c =
    have_no_digits _ _ _ (λ k. (c.type_inv.words k).fits)
    (c.requires.long ∙ ap (λ n. (n + 63) / 64) (sym (length-map c.args.indices.now (bit_of c.args.layer.now)))) refl

pub gathered-requires-clause-followed : goal.gathered-requires-clause-followed
gathered-requires-clause-followed c = λ i low inside one.
    followed_in_word c.args.indices.now c.args.followed.now c.loop-at.at _ i c.requires.followed c.word_at.ensures low inside one

pub loop-at-preserved : goal.loop-at-preserved
loop-at-preserved c =
    let within : c.loop-at.at < length c.loop-at.words =
    omega (arith, c.loop-at.invariant.long, c.loop-at-test.true, c.requires.long, length-map c.args.indices.now (bit_of c.args.layer.now)) in
    have_next_word _ c.loop-at.at _ _ _ c.loop-at.invariant within c.gathered.type_inv c.gathered.ensures refl

pub returns-clause-holds : goal.returns-clause-holds
returns-clause-holds c =
    let long = length-map c.args.indices.now (bit_of c.args.layer.now) in
    let all : length c.loop-at.words * 64 ≤ c.loop-at.at * 64 =
    omega (arith, c.loop-at.invariant.long, c.loop-at-test.false, c.requires.long, long) in
    HoldsBits-digits _ _ _ _ long c.loop-at.invariant all (omega arith)

pub returns-clause-digits : goal.returns-clause-digits
returns-clause-digits c =
    let long = length-map c.args.indices.now (bit_of c.args.layer.now) in
    let all : length c.loop-at.words * 64 ≤ c.loop-at.at * 64 =
    omega (arith, c.loop-at.invariant.long, c.loop-at-test.false, c.requires.long, long) in
    bits-digits _ _ _ _ long c.loop-at.invariant all
