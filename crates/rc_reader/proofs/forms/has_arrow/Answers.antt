use Rattle.std.proofs.Common.{◌||◌, ◌∙◌, refl, rules, tests}
use Rattle.std.specs.List.{list_any}
use Rattle.std.proofs.lemmas.Iterator.{YieldsList-from_slice}
use Rattle.std.proofs.lemmas.Iterator.Search.{any_from_yields_List}
use Rattle.std.proofs.lemmas.List.Recursion.{same_from_clauses}
use Rattle.rc_reader.specs.Forms.{texts, is_arrow}
use Rattle.rc_reader.proofs.forms.has_arrow.Goals as goal

pub returns : goal.returns
returns c =
    any_from_yields_List (λ word. is_arrow word.now) _ _ c.any.result c.any.ensures.ran (YieldsList-from_slice c.args.words.now cc) (λ x b q k. search (rules, tests))
    ∙ same_from_clauses (list_any (λ word. is_arrow word.now)) (λ words. list_any is_arrow (texts words)) (λ word found. is_arrow word.now || found) refl (λ _ _. refl) (λ _ _. refl) c.args.words.now
