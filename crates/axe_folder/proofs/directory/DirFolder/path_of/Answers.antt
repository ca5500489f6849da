use Rattle.std.proofs.Common.{refl, sym, ◌∙◌}
use Rattle.std.proofs.lemmas.Bool.{true≢false}
use Rattle.std.specs.Path.{path_buf_bytes}
use Rattle.axe_folder.proofs.NameLaws.{path_join-plain}
use Rattle.axe_folder.proofs.directory.DirFolder.path_of.Goals as goal

-- a plain name is joined as it stands
pub returns-clause-inside : goal.returns-clause-inside
returns-clause-inside g c =
    c.in_ok-join.ensures ∙ path_join-plain (path_buf_bytes c.args.self.now.directory) c.args.name.now (sym c.is_plain_name.ensures ∙ c.if-not-is_plain_name.false)

-- and no other name comes so far
pub returns-clause-none : goal.returns-clause-none
returns-clause-none g c = λ bad.
    absurd (true≢false (sym (sym c.is_plain_name.ensures ∙ c.if-not-is_plain_name.false) ∙ bad))

pub returns-then-not-is_plain_name-clause-none : goal.returns-then-not-is_plain_name-clause-none
returns-then-not-is_plain_name-clause-none g c = λ _. refl

pub returns-then-not-is_plain_name-clause-inside : goal.returns-then-not-is_plain_name-clause-inside
returns-then-not-is_plain_name-clause-inside g c = tt
