use Rattle.std.proofs.Common.{◌≡◌, ◌∙◌, ap, get_or, sym}
use Rattle.rc_inline.proofs.Imports.{position, option_map_or, get_or_default, no_class, Class, is_widest}
use Rattle.rc_inline.proofs.placing.widest.Goals.{After-position_of_widest}
use Rattle.rc_inline.proofs.placing.widest.Goals as goal

-- the search was for the class's columns
found : (c : After-position_of_widest) → position (is_widest c.args.classes.now (get_or c.args.classes.now c.args.class no_class).cols) c.args.classes.now ≡ c.position_of_widest.result
found c =
    let classes = c.args.classes.now in
    let same = get_or_default classes c.args.class no_class c.index-classes-class.result c.requires.known in
    ap (λ (class : Class). position (is_widest classes class.cols) classes) same ∙ sym c.position_of_widest.ensures

pub returns-in-Some : goal.returns-in-Some
returns-in-Some c =
    sym (ap (λ o. option_map_or (λ k. k) o c.args.class) (found (goal.at.returns-in-Some c).After-position_of_widest ∙ c.in-Some.is))

pub returns-in-None : goal.returns-in-None
returns-in-None c =
    sym (ap (λ o. option_map_or (λ k. k) o c.args.class) (found (goal.at.returns-in-None c).After-position_of_widest ∙ c.in-None.is))
