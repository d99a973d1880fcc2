use Rattle.std.proofs.Common.{◌≡◌, sym, ap, subst, ◌∙◌}
use Rattle.rc_fragment.proofs.Imports.{had_in, HasRowOf, FragmentRows}
use Rattle.rc_fragment.proofs.cow.CowFragment.add_new_tuple.Goals as goal

pub returns-clause-there : goal.returns-clause-there
returns-clause-there c e =
    let there = c.add_new_tuple.ensures.there e in
    let seen : c.in-Alone.fragment ≡ c.args.self.now = ap had_in (sym c.in-Alone.is) ∙ c.self.view_is in
    (subst (λ (z : FragmentRows). HasRowOf z.table z.now c.args.edge c.args.tuple.now) seen there.0, there.1 ∙ seen)
