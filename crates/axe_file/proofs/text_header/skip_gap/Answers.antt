use Rattle.std.proofs.Common.{◌+◌, refl, sym, ◌∙◌, drop, length-drop, arith}
use Rattle.std.proofs.lemmas.List.Sums.{prefix_len-le-length}
use Rattle.axe_file.specs.TextGrammar.{is_white}
use Rattle.axe_file.proofs.TextScans.{gap_read, gap_unread, gap_at_end}
use Rattle.axe_file.proofs.text_header.skip_gap.Goals as goal
use Rattle.axe_file.proofs.text_header.skip_gap.Goals.{else-start-bytes-via-then-start-bytes+else-is_white, else-start-bytes-via-else-start-bytes}

pub returns-then-is_white-clause-within : goal.returns-then-is_white-clause-within
returns-then-is_white-clause-within c =
    omega (arith, c.skip_space.ensures, prefix_len-le-length is_white (drop (c.args.start + 1) c.args.bytes.now), length-drop (c.args.start + 1) c.args.bytes.now)

pub returns-then-is_white-clause-read : goal.returns-then-is_white-clause-read
returns-then-is_white-clause-read c next =
    gap_read next c.args.bytes.now c.args.start c.skip_space.result c.if-start-bytes.true (sym c.is_white.ensures ∙ c.if-is_white.true) c.skip_space.ensures

pub returns-else-start-bytes-clause-read : goal.returns-else-start-bytes-clause-read
returns-else-start-bytes-clause-read c next = elim c.else-start-bytes.branch [
  | else-start-bytes-via-then-start-bytes+else-is_white w ↦ (c.args.start, refl, gap_unread next c.args.bytes.now c.args.start (sym w.is_white.ensures ∙ w.if-is_white.false) w.if-start-bytes.true)
  | else-start-bytes-via-else-start-bytes w ↦ (c.args.start, refl, gap_at_end next c.args.bytes.now c.args.start w.if-start-bytes.false)
]
