use Rattle.std.proofs.Common.{◌≡◌, ◌≤◌, subst, ◌∙◌}
use Rattle.rc_row.proofs.Imports.{on_err_weaker, on_ok_weaker, ArePartlyAdded, changed_by, changes_of_class, with_tuple, HeldRows}
use Rattle.rc_row.proofs.TurnLemmas.{read_here}
use Rattle.rc_row.proofs.ChangeLemmas.{of_held_here, set_here}
use Rattle.rc_row.proofs.fragments.add_tuple_at.Goals as goal

pub returns-clause-ok : goal.returns-clause-ok
returns-clause-ok c =
    let h = c.place_of-at.ensures in
    let held = c.args.held.now.items in
    let at = c.place_of-at.result in
    let x = c.index_mut.result.now in
    let is : x ≡ h.here = c.index_mut.ensures.value ∙ read_here held c.args.stripe at h x in
    on_ok_weaker c.add_tuple.result (set_here held c.args.stripe at h c.requires.rising (with_tuple c.args.class c.args.tuple.now) x c.add_tuple.new.self is) c.add_tuple.ensures.ok

pub returns-clause-err : goal.returns-clause-err
returns-clause-err c =
    let h = c.place_of-at.ensures in
    let held = c.args.held.now.items in
    let at = c.place_of-at.result in
    let x = c.index_mut.result.now in
    let is : x ≡ h.here = c.index_mut.ensures.value ∙ read_here held c.args.stripe at h x in
    on_err_weaker c.add_tuple.result
    (λ partly. record {
      changes = partly.changes;
      few = of_held_here held c.args.stripe at h c.requires.rising (λ f. partly.changes ≤ changes_of_class f.table c.args.class) (subst (λ (y : HeldRows). partly.changes ≤ changes_of_class y.fragment.table c.args.class) is partly.few);
      rows = partly.rows;
      added = of_held_here held c.args.stripe at h c.requires.rising (λ f. ArePartlyAdded f.table c.args.class c.args.tuple.now f.now partly.rows)
          (subst (λ (y : HeldRows). ArePartlyAdded y.fragment.table c.args.class c.args.tuple.now y.fragment.now partly.rows) is partly.added);
      value = set_here held c.args.stripe at h c.requires.rising (changed_by partly.changes (λ _. partly.rows)) x c.add_tuple.new.self is partly.value;
    })
    c.add_tuple.ensures.err
