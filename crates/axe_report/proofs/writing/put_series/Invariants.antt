use Rattle.std.proofs.Common.{◌≡◌, ◌++◌, take}
use Rattle.std.specs.List.{flat_map}
use Rattle.axe_report.specs.Spelling.{place_bytes}
use Rattle.axe_report.proofs.writing.put_series.Given as goal

abbrev pub invariant-loop-place : goal.invariant-loop-place
invariant-loop-place l = l.text.items ≡ l.initial.text.items ++ flat_map (place_bytes l.factors) (take l.place-index l.series)
