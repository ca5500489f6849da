use Rattle.std.proofs.Common.{◌≡◌, ◌/◌, length, rules}
use Rattle.axe_folder.proofs.FusedLaws.{half_put}
use Rattle.axe_folder.proofs.fused.FusedFolderFolder.put.Goals as goal

-- the first half was put inside, or there was no memory for it
pub returns-then-may_tear-clause-puts : goal.returns-then-may_tear-clause-puts
returns-then-may_tear-clause-puts c =
    let same : c.self-2.inside.inside ≡ c.args.self.now.inside = search rules in
    half_put c.keep.result c.self-2.inside.inside.files c.args.self.now.inside.files c.args.name.now c.args.bytes.now
    (length c.args.bytes.now / 2) c.keep.new.self.files (λ i. (same i).files) c.keep.ensures.puts c.keep.ensures.memory

pub returns-then-passes-clause-puts : goal.returns-then-passes-clause-puts
returns-then-passes-clause-puts c = search rules

pub returns-then-may_tear-clause-tears : goal.returns-then-may_tear-clause-tears
returns-then-may_tear-clause-tears c = search rules
