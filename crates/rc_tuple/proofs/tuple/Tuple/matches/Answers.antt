use Rattle.std.proofs.Common.{◌∙◌, ap, subst}
use Rattle.rc_tuple.proofs.Imports.{list_all, IsTuple, has_pair, matches_has_pairs}
use Rattle.rc_tuple.proofs.tuple.Tuple.matches.Goals as goal

pub returns : goal.returns
returns c =
    c.has_pairs.ensures
    ∙ ap (λ l. list_all (has_pair l) c.deref-2.result.now) (c.deref.ensures.value ∙ c.self.view_is)
    ∙ ap (λ l. list_all (has_pair c.args.self.now) l) (c.deref-2.ensures.value ∙ c.pattern.view_is)
    ∙ matches_has_pairs c.args.pattern.now c.args.self.now (subst IsTuple c.pattern.view_is c.pattern.invariant) (subst IsTuple c.self.view_is c.self.invariant)
