use Rattle.std.proofs.Common.{refl, sym, ◌∙◌}
use Rattle.axe_file.proofs.TextScans.{end_read, end_at_end, end_unread}
use Rattle.axe_file.proofs.text_header.end_header.Goals as goal
use Rattle.axe_file.proofs.text_header.end_header.Goals.{else-at-bytes-via-then-at-bytes+else-not-is_white, else-at-bytes-via-else-at-bytes}

pub returns-then-not-is_white : goal.returns-then-not-is_white
returns-then-not-is_white c = (refl, end_unread c.args.bytes.now c.args.at c.if-at-bytes.true (sym c.is_white.ensures ∙ c.if-not-is_white.true))

pub returns-else-at-bytes : goal.returns-else-at-bytes
returns-else-at-bytes c = elim c.else-at-bytes.branch [
  | else-at-bytes-via-then-at-bytes+else-not-is_white w ↦ end_read c.args.bytes.now c.args.at w.if-at-bytes.true (sym w.is_white.ensures ∙ w.if-not-is_white.false)
  | else-at-bytes-via-else-at-bytes w ↦ end_at_end c.args.bytes.now c.args.at w.if-at-bytes.false
]
