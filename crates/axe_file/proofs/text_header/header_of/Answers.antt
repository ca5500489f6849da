use Rattle.std.proofs.Common.{◌≡◌, [], ◌∷◌, Ok, arith}
use Rattle.std.proofs.lemmas.List.Sums.{prefix_len-le-length}
use Rattle.axe_file.specs.TextGrammar.{is_white, plain_form}
use Rattle.axe_file.specs.TextReading.{read_header, read_parts}
use Rattle.axe_file.proofs.TextScans.{goes_on}
use Rattle.axe_file.proofs.TextHeads.{named_at, plain_at, plain_at_end, named_means}
use Rattle.axe_file.proofs.text_header.header_of.Goals as goal
use Rattle.axe_file.proofs.text_header.header_of.Goals.{else-start-bytes-via-then-start-bytes+else-bytes-start-eq109, else-start-bytes-via-else-start-bytes}

pub plain_header-requires : goal.plain_header-requires
plain_header-requires c = omega (arith, c.skip_space-start.ensures, prefix_len-le-length is_white c.args.bytes.now)

pub returns-then-bytes-start-eq109-clause-read : goal.returns-then-bytes-start-eq109-clause-read
returns-then-bytes-start-eq109-clause-read c =
    named_means c.named_header.result _ _ (named_at c.args.bytes.now c.skip_space-start.result c.skip_space-start.ensures c.if-start-bytes.true c.if-bytes-start-eq109.true)
    c.named_header.ensures.mode c.named_header.ensures.read

pub returns-else-start-bytes-clause-read : goal.returns-else-start-bytes-clause-read
returns-else-start-bytes-clause-read c =
    let same : read_header c.args.bytes.now ≡ read_parts plain_form _ c.skip_space-start.result = elim c.else-start-bytes.branch [
      | else-start-bytes-via-then-start-bytes+else-bytes-start-eq109 w ↦ plain_at c.args.bytes.now c.skip_space-start.result c.skip_space-start.ensures w.if-start-bytes.true w.if-bytes-start-eq109.false
      | else-start-bytes-via-else-start-bytes w ↦ plain_at_end c.args.bytes.now c.skip_space-start.result c.skip_space-start.ensures w.if-start-bytes.false
    ] in
    goes_on c.plain_header.result _ _ (λ header. Ok (record { values = header.mode ∷ header.order ∷ header.rows ∷ header.columns ∷ []; end = header.end })) same c.plain_header.ensures.read
