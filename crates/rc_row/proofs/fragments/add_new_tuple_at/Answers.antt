use Rattle.std.proofs.Common.{◌≡◌, ◌≤◌, sym, subst, ◌∙◌}
use Rattle.rc_row.proofs.Imports.{All-get_or, on_err_weaker, on_ok_weaker, ArePartlyAdded, changed_by, changes_of_class, with_tuple, HeldRows, CanAddNewTo, HasNoRowIn, HasRowIn}
use Rattle.rc_row.proofs.TurnLemmas.{place_inside, read_here}
use Rattle.rc_row.proofs.ChangeLemmas.{of_held_here, same_held, set_here}
use Rattle.rc_row.proofs.fragments.add_new_tuple_at.Goals as goal

pub add_new_tuple-requires-clause-can : goal.add_new_tuple-requires-clause-can
add_new_tuple-requires-clause-can c none =
    let h = c.place_of-at.ensures in
    let held = c.args.held.now.items in
    let at = c.place_of-at.result in
    let x = c.index_mut.result.now in
    let is : x ≡ h.here = c.index_mut.ensures.value ∙ read_here held c.args.stripe at h x in
    let can : CanAddNewTo c.args.class c.args.edge c.args.tuple.now h.here.fragment =
    subst (λ (y : HeldRows). y.stripe ≡ c.args.stripe → CanAddNewTo c.args.class c.args.edge c.args.tuple.now y.fragment) (read_here held c.args.stripe at h h.here)
    (All-get_or (λ (y : HeldRows). y.stripe ≡ c.args.stripe → CanAddNewTo c.args.class c.args.edge c.args.tuple.now y.fragment) held at h.here (place_inside held c.args.stripe at h) c.requires.can) h.stripe in
    (subst (λ (y : HeldRows). CanAddNewTo c.args.class c.args.edge c.args.tuple.now y.fragment) (sym is) can).can none

pub returns-clause-ok : goal.returns-clause-ok
returns-clause-ok c =
    let h = c.place_of-at.ensures in
    let held = c.args.held.now.items in
    let at = c.place_of-at.result in
    let x = c.index_mut.result.now in
    let is : x ≡ h.here = c.index_mut.ensures.value ∙ read_here held c.args.stripe at h x in
    on_ok_weaker c.add_new_tuple.result (set_here held c.args.stripe at h c.requires.rising (with_tuple c.args.class c.args.tuple.now) x c.add_new_tuple.new.self is) c.add_new_tuple.ensures.ok

pub returns-clause-err : goal.returns-clause-err
returns-clause-err c =
    let h = c.place_of-at.ensures in
    let held = c.args.held.now.items in
    let at = c.place_of-at.result in
    let x = c.index_mut.result.now in
    let is : x ≡ h.here = c.index_mut.ensures.value ∙ read_here held c.args.stripe at h x in
    on_err_weaker c.add_new_tuple.result
    (λ partly. record {
      changes = partly.changes;
      few = of_held_here held c.args.stripe at h c.requires.rising (λ f. partly.changes ≤ changes_of_class f.table c.args.class) (subst (λ (y : HeldRows). partly.changes ≤ changes_of_class y.fragment.table c.args.class) is partly.few);
      rows = partly.rows;
      added = of_held_here held c.args.stripe at h c.requires.rising (λ f. ArePartlyAdded f.table c.args.class c.args.tuple.now f.now partly.rows)
          (subst (λ (y : HeldRows). ArePartlyAdded y.fragment.table c.args.class c.args.tuple.now y.fragment.now partly.rows) is partly.added);
      value = set_here held c.args.stripe at h c.requires.rising (changed_by partly.changes (λ _. partly.rows)) x c.add_new_tuple.new.self is partly.value;
    })
    c.add_new_tuple.ensures.err

pub returns-clause-none : goal.returns-clause-none
returns-clause-none c =
    let h = c.place_of-at.ensures in
    let held = c.args.held.now.items in
    let at = c.place_of-at.result in
    let x = c.index_mut.result.now in
    let is : x ≡ h.here = c.index_mut.ensures.value ∙ read_here held c.args.stripe at h x in
    on_ok_weaker c.add_new_tuple.result
    (λ none. of_held_here held c.args.stripe at h c.requires.rising (HasNoRowIn c.args.edge c.args.tuple.now) (subst (λ (y : HeldRows). HasNoRowIn c.args.edge c.args.tuple.now y.fragment) is none))
    c.add_new_tuple.ensures.none

pub returns-clause-there : goal.returns-clause-there
returns-clause-there c e =
    let h = c.place_of-at.ensures in
    let held = c.args.held.now.items in
    let at = c.place_of-at.result in
    let x = c.index_mut.result.now in
    let is : x ≡ h.here = c.index_mut.ensures.value ∙ read_here held c.args.stripe at h x in
    let there = c.add_new_tuple.ensures.there e in (
      of_held_here held c.args.stripe at h c.requires.rising (HasRowIn c.args.edge c.args.tuple.now) (subst (λ (y : HeldRows). HasRowIn c.args.edge c.args.tuple.now y.fragment) is there.0),
      set_here held c.args.stripe at h c.requires.rising (λ f. f) x c.add_new_tuple.new.self is there.1 ∙ same_held c.args.stripe held,
    )
