use Rattle.rc_fragment.proofs.Imports.{subst, List, now_in, AreRowsOf, FragmentRows, EdgeRows, listing, shapes, changes_of, Parts}
use Rattle.rc_fragment.proofs.PlaceLemmas.{noted_of_table}
use Rattle.rc_fragment.proofs.RowLemmas.{filed_now, rows_of_table}
use Rattle.rc_fragment.proofs.UndoLemmas.{rows_undone}
use Rattle.rc_fragment.proofs.stored.Stored.rows_fit_the_table.Goals as goal

pub returns-clause-now : goal.returns-clause-now
returns-clause-now c =
    let edges : List EdgeRows = c.self.inside.parts.value.edges.items in
    subst (λ (z : FragmentRows). AreRowsOf z.table z.now) c.self.view_is (rows_of_table now_in edges (filed_now edges c.self.invariant.fragment.stored))

pub returns-clause-taken : goal.returns-clause-taken
returns-clause-taken c =
    let p : Parts = c.self.inside.parts.value in
    let edges : List EdgeRows = p.edges.items in
    subst (λ (z : FragmentRows). AreRowsOf z.table z.taken) c.self.view_is
    (rows_undone (shapes edges) (changes_of (shapes edges) p.noted.items p.notes.items) (listing now_in edges)
    (noted_of_table edges p.noted.items p.notes.items c.self.invariant.fragment.noted) (rows_of_table now_in edges (filed_now edges c.self.invariant.fragment.stored)))
