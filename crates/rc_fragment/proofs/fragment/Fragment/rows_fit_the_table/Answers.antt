use Rattle.rc_fragment.proofs.Imports.{subst, AreRowsOf, FragmentRows, full_fit}
use Rattle.rc_fragment.proofs.fragment.Fragment.rows_fit_the_table.Goals as goal

pub returns-clause-now : goal.returns-clause-now
returns-clause-now c =
    let f : FragmentRows = c.self.inside.stored in
    subst (λ (z : FragmentRows). AreRowsOf z.table z.now) c.self.view_is (full_fit f.table c.self.invariant f.now c.rows_fit_the_table.ensures.now)

pub returns-clause-taken : goal.returns-clause-taken
returns-clause-taken c =
    let f : FragmentRows = c.self.inside.stored in
    subst (λ (z : FragmentRows). AreRowsOf z.table z.taken) c.self.view_is (full_fit f.table c.self.invariant f.taken c.rows_fit_the_table.ensures.taken)
