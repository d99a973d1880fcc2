use Rattle.rc_text_laws.specs.HasFormLaws.{form_is_exact}
use Rattle.rc_text_laws.specs.LineFormLaws.{words_anew, form_tells_words}
use Rattle.rc_text_laws.proofs.specifications.forms_are_exact.Goals as goal

pub returns-clause-exact : goal.returns-clause-exact
returns-clause-exact c = form_is_exact

pub returns-clause-again : goal.returns-clause-again
returns-clause-again c = words_anew

pub returns-clause-same_words : goal.returns-clause-same_words
returns-clause-same_words c = form_tells_words
