use Rattle.axe_file.proofs.TextSpellings.{written_text_fits}
use Rattle.axe_file.proofs.text_laws.written_texts_keep_the_limit.Goals as goal

pub returns : goal.returns
returns c = written_text_fits
