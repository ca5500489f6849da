use Rattle.axe_layer.proofs.TurnedBytes.{turned_bit}
use Rattle.axe_layer.proofs.packed.with_turned_bytes.Goals as goal

pub returns : goal.returns
returns c = λ i low. turned_bit c.args.word i low
