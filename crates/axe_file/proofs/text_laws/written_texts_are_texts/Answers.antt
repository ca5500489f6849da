use Rattle.axe_file.proofs.TextSpellings.{written_text}
use Rattle.axe_file.proofs.text_laws.written_texts_are_texts.Goals as goal

pub returns : goal.returns
returns c = written_text
