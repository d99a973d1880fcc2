use Rattle.std.proofs.Common.{◌≡◌, ◌∙◌, Bool, List, ap, filter, map, subst, sym, ℕ}
use Rattle.rc_machine.proofs.Imports.{has, In, filter_in, has_in, in_filter, lowered, raised, edge_numbers, class_of, Spec, edge_table, HeldStripe, Holding, held_of, lowered_all, raised_all, CanAddTuple, HasTuple, AreTakenAlike, AreAllCounted, CanChange, all_changed, edges_with, has_column, place_in, classes_of}
use Rattle.rc_machine.proofs.ApplyLemmas.{CanAdd}
use Rattle.rc_machine.proofs.ChangeLemmas.{lowered_local}
use Rattle.rc_machine.proofs.ClassLemmas.{are_places, can_add_place, can_remove_place, changed_by_class, each_lowered, each_place, each_raised, no_column}
use Rattle.rc_machine.proofs.LentLemmas.{lent_table}
use Rattle.rc_machine.proofs.ReadLemmas.{at_err, on_err, on_ok}
use Rattle.rc_machine.proofs.RevertLemmas.{placed_alike}
use Rattle.rc_machine.proofs.SharedLemmas.{all_counted, can_add_kept, same_row, skipped_stay}
use Rattle.rc_machine.proofs.StripeLemmas.{no_stripes}
use Rattle.rc_machine.proofs.apply.replace.Given.{Over}
use Rattle.rc_machine.proofs.apply.replace.Goals.{After-deref, After-deref-2, In_ok-sub_placed}
use Rattle.rc_machine.proofs.apply.replace.Goals as goal

-- the edges with a column that changes are edges of the specification
among_all : (spec : Spec) (cols : List ℕ) (e : ℕ) → In e (edges_with spec cols) → In e (edge_numbers spec)
among_all spec cols e m = (in_filter (has_column spec cols) e (edge_numbers spec) m).0

-- whether the edge is of one of their classes
abbrev is_touched : Spec → List ℕ → ℕ → Bool
is_touched spec cols e = has (classes_of spec (edges_with spec cols)) (class_of spec e)

-- the places are those of their classes, on the stripes of the old tuple, and then on those of the new one
gone : (g : Over) (c : After-deref g) → c.deref.result.now ≡ map (place_in c.args.compiled.now.spec c.args.old.now) (classes_of c.args.compiled.now.spec (edges_with c.args.compiled.now.spec c.differing-cols.result))
gone g c = c.deref.ensures.value ∙ c.in_ok-place_classes_with.ensures

come : (g : Over) (c : After-deref-2 g) → c.deref-2.result.now ≡ map (place_in c.args.compiled.now.spec c.args.args.now) (classes_of c.args.compiled.now.spec (edges_with c.args.compiled.now.spec c.differing-cols.result))
come g c = c.deref-2.ensures.value ∙ c.in_ok-place_classes_with-2.ensures

-- the old tuple's rows in these classes are out
out : (g : Over) (c : In_ok-sub_placed g) → held_of (g.H.Holder.seen c.sub_placed.new.holder)
    ≡ all_changed lowered c.args.compiled.now.spec c.args.old.now (filter (is_touched c.args.compiled.now.spec c.differing-cols.result) (edge_numbers c.args.compiled.now.spec)) (held_of (g.H.Holder.seen c.args.holder.now))
out g c =
    let spec = c.args.compiled.now.spec in
    let s : Holding = g.H.Holder.seen c.args.holder.now in
    changed_by_class lowered lowered_all each_lowered spec c.args.old.now c.requires.sealed c.requires.can.out.whole (edges_with spec c.differing-cols.result) s.table c.deref.result.now (held_of s)
    (held_of (g.H.Holder.seen c.sub_placed.new.holder)) c.in_ok-sub_placed.ensures.ok c.requires.table (c.deref.ensures.value ∙ c.in_ok-place_classes_with.ensures) c.requires.can.out.counted

still_counted : (g : Over) (c : In_ok-sub_placed g) → AreAllCounted (held_of (g.H.Holder.seen c.sub_placed.new.holder))
still_counted g c =
    let spec = c.args.compiled.now.spec in
    subst AreAllCounted (sym (out g c)) (all_counted lowered lowered_local spec c.args.old.now (filter (is_touched spec c.differing-cols.result) (edge_numbers spec)) (held_of (g.H.Holder.seen c.args.holder.now)) c.requires.can.out.counted)

still_taken : (g : Over) (c : In_ok-sub_placed g) → AreTakenAlike (held_of (g.H.Holder.seen c.args.holder.now)) (held_of (g.H.Holder.seen c.sub_placed.new.holder))
still_taken g c =
    let s : Holding = g.H.Holder.seen c.args.holder.now in
    placed_alike lowered_all s.table c.args.old.now c.deref.result.now (held_of s) (held_of (g.H.Holder.seen c.sub_placed.new.holder)) c.in_ok-sub_placed.ensures.ok

same_table : (g : Over) (c : In_ok-sub_placed g) → (g.H.Holder.seen c.sub_placed.new.holder).table ≡ edge_table c.args.compiled.now.spec
same_table g c = lent_table (g.H.Holder.seen c.args.holder.now) (g.H.Holder.seen c.sub_placed.new.holder) c.in_ok-sub_placed.ensures.lent ∙ c.requires.table

pub place_classes_with-requires-clause-stripes : goal.place_classes_with-requires-clause-stripes
place_classes_with-requires-clause-stripes g c = no_stripes c.args.compiled.now.spec c.args.old.now _ c.clear.ensures.items

pub sub_placed-requires-clause-places : goal.sub_placed-requires-clause-places
sub_placed-requires-clause-places g c =
    let spec = c.args.compiled.now.spec in
    let cols = c.differing-cols.result in
    are_places spec c.requires.sealed c.args.old.now (edges_with spec cols) (among_all spec cols) c.deref.result.now (gone g c)

pub sub_placed-requires-clause-can : goal.sub_placed-requires-clause-can
sub_placed-requires-clause-can g c =
    let spec = c.args.compiled.now.spec in
    let o = c.args.old.now in
    let cols = c.differing-cols.result in
    let s : Holding = g.H.Holder.seen c.args.holder.now in
    each_place spec c.requires.sealed o (edges_with spec cols) (among_all spec cols) c.deref.result.now (gone g c) (CanChange HasTuple s.table (held_of s) o)
    (λ k m among. subst (λ z. CanChange HasTuple z (held_of s) o (place_in spec o k)) (sym c.requires.table) (can_remove_place spec c.requires.sealed o c.requires.can.out.whole (held_of s) k c.requires.can.out among))

pub place_classes_with-requires-2-clause-stripes : goal.place_classes_with-requires-2-clause-stripes
place_classes_with-requires-2-clause-stripes g c = no_stripes c.args.compiled.now.spec c.args.args.now _ c.clear-2.ensures.items

-- the rows as taken stay, whatever was taken out
pub returns-in_err-place_classes_with-2-clause-alike : goal.returns-in_err-place_classes_with-2-clause-alike
returns-in_err-place_classes_with-2-clause-alike g c = at_err _ (still_taken g (goal.at.returns-in_err-place_classes_with-2-clause-alike g c).In_ok-sub_placed)

pub add_placed-requires-clause-places : goal.add_placed-requires-clause-places
add_placed-requires-clause-places g c =
    let spec = c.args.compiled.now.spec in
    let cols = c.differing-cols.result in
    are_places spec c.requires.sealed c.args.args.now (edges_with spec cols) (among_all spec cols) c.deref-2.result.now (come g c)

pub add_placed-requires-clause-can : goal.add_placed-requires-clause-can
add_placed-requires-clause-can g c =
    let spec = c.args.compiled.now.spec in
    let o = c.args.old.now in
    let t = c.args.args.now in
    let cols = c.differing-cols.result in
    let touched : ℕ → Bool = is_touched spec cols in
    let held : List HeldStripe = held_of (g.H.Holder.seen c.args.holder.now) in
    let mid : Holding = g.H.Holder.seen c.sub_placed.new.holder in
    let at = (goal.at.add_placed-requires-clause-can g c).In_ok-sub_placed in
    each_place spec c.requires.sealed t (edges_with spec cols) (among_all spec cols) c.deref-2.result.now (come g c) (CanChange CanAddTuple mid.table (held_of mid) t)
    (λ k m among. subst (λ z. CanChange CanAddTuple z (held_of mid) t (place_in spec t k)) (sym (same_table g at))
    (can_add_place spec c.requires.sealed t c.requires.can.put.whole (held_of mid) k among
    (λ e n is. subst (λ z. CanAdd spec t z e) (sym (out g at)) (can_add_kept spec o t touched held c.requires.can.out.counted c.requires.can.put e
    (filter_in touched e (edge_numbers spec) n (has_in (classes_of spec (edges_with spec cols)) (class_of spec e) (subst (λ z. In z (classes_of spec (edges_with spec cols))) (sym is) m)))))))

pub returns-clause-ok : goal.returns-clause-ok
returns-clause-ok g c =
    let spec = c.args.compiled.now.spec in
    let o = c.args.old.now in
    let t = c.args.args.now in
    let cols = c.differing-cols.result in
    let touched : ℕ → Bool = is_touched spec cols in
    let held : List HeldStripe = held_of (g.H.Holder.seen c.args.holder.now) in
    let mid : Holding = g.H.Holder.seen c.sub_placed.new.holder in
    let at = goal.at.returns-clause-ok g c in
    on_ok c.add_placed.result (λ is.
    changed_by_class raised raised_all each_raised spec t c.requires.sealed c.requires.can.put.whole (edges_with spec cols) mid.table c.deref-2.result.now (held_of mid) (held_of (g.H.Holder.seen c.add_placed.new.holder)) is
    (same_table g at.In_ok-sub_placed) (come g at.After-deref-2) (still_counted g at.In_ok-sub_placed)
    ∙ ap (all_changed raised spec t (filter touched (edge_numbers spec))) (out g at.In_ok-sub_placed)
    ∙ skipped_stay spec o t touched held c.requires.can.out.counted (λ e l q. same_row spec o t cols c.differing-cols.ensures e (no_column spec cols e l q)) c.requires.can.out.there) c.add_placed.ensures.ok

pub returns-clause-alike : goal.returns-clause-alike
returns-clause-alike g c = on_err c.add_placed.result (λ alike. alike ∙ still_taken g (goal.at.returns-clause-alike g c).In_ok-sub_placed) c.add_placed.ensures.alike
