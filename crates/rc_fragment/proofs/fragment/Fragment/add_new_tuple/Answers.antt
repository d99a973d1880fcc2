use Rattle.std.proofs.Common.{subst, ◌∙◌}
use Rattle.rc_fragment.proofs.Imports.{HasRowOf, FragmentRows}
use Rattle.rc_fragment.proofs.fragment.Fragment.add_new_tuple.Goals as goal

pub returns-clause-there : goal.returns-clause-there
returns-clause-there c e =
    let there = c.add_new_kept_rows.ensures.there e in
    (subst (λ (z : FragmentRows). HasRowOf z.table z.now c.args.edge c.args.tuple.now) c.self.view_is there.0, there.1 ∙ c.self.view_is)
