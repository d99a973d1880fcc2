use Rattle.std.proofs.Common.{◌≡◌, ◌<◌, [], ◌++◌, List, length, sym, ap, subst, ◌∙◌, refl, arith}
use Rattle.rc_journal.proofs.Imports.{into_iter_items, nil_from_length, In, append_in_left, append_in_right, Entry, Placed, PartEntries, IsMerged, placed_of, with_all, length-with_all, with_all-append, places_below, merged_with, merged_is_history}
use Rattle.rc_journal.proofs.MovesLemmas.{written}
use Rattle.rc_journal.proofs.journal.merge.Goals as goal

pub loop-part-init : goal.loop-part-init
loop-part-init c =
    let all = c.into_iter-part-iterator.ensures.into_iter_gives.0 in
    let len = c.into_iter-part-iterator.ensures.into_iter_gives.1 in record {
      rest = refl;
      count = len ∙ c.args.parts.ok.0 ∙ sym (ap length all);
      below = λ w m. subst (λ n. w.place < n) (sym c.room.view_is) (places_below c.args.room c.args.parts.items c.requires.places w (subst (λ l. In w (placed_of l)) all m));
    }

pub put_part-requires : goal.put_part-requires
put_part-requires c = λ w m.
    let at = c.loop-part in
    let part : PartEntries = c.in-Some.part in
    let here : In w part.list = subst (In w) c.into_placed.ensures m in
    let among : In w (placed_of (into_iter_items at.part-iterator)) =
    subst (λ l. In w (placed_of l)) (sym c.in-Some.ensures.steps.0) (append_in_left w part.list (placed_of (into_iter_items c.next.new.self)) here) in
    subst (λ l. w.place < length l) (sym c.deref_mut.ensures.value) (at.invariant.below w among)

pub loop-part-preserved : goal.loop-part-preserved
loop-part-preserved c =
    let at = c.loop-part in
    let part : PartEntries = c.in-Some.part in
    let more : List Placed = placed_of (into_iter_items c.next.new.self) in
    let steps : placed_of (into_iter_items at.part-iterator) ≡ part.list ++ more = ap placed_of c.in-Some.ensures.steps.0 in
    let put : c.put_part.new.entries ≡ with_all at.entries.items part.list =
    c.put_part.ensures ∙ ap (λ (l : List Entry). with_all l c.into_placed.result.items) c.deref_mut.ensures.value ∙ ap (with_all at.entries.items) c.into_placed.ensures in
    let long : length c.put_part.new.entries ≡ length at.entries.items = ap length put ∙ length-with_all part.list at.entries.items in
    let is = written at.entries.items c.put_part.new.entries at.entries.len at.entries.ok.0 long in record {
      rest = ap (λ (l : List Entry). with_all l more) (is ∙ put) ∙ sym (with_all-append part.list more at.entries.items) ∙ ap (with_all at.entries.items) (sym steps) ∙ at.invariant.rest;
      count = let gone = c.in-Some.ensures.steps.1 in
          let was = at.invariant.count in
          let short = ap length c.in-Some.ensures.steps.0 in
          omega arith;
      below = λ w m. subst (λ n. w.place < n) (sym long ∙ ap length (sym is)) (at.invariant.below w (subst (In w) (sym steps) (append_in_right w part.list more m)));
    }

-- after the loop each part has been put
all_put : (c : goal.After-drop-part-iterator) → c.loop-part.entries.items ≡ with_all c.room.inside.blanks.items (placed_of c.args.parts.items)
all_put c =
    let at = c.loop-part in
    let empty : into_iter_items at.part-iterator ≡ [] = nil_from_length (into_iter_items at.part-iterator) (sym at.invariant.count ∙ c.in-None.ensures.steps.0) in
    ap (λ l. with_all at.entries.items (placed_of l)) (sym empty) ∙ at.invariant.rest
    ∙ ap (λ l. with_all c.room.inside.blanks.items (placed_of l)) c.into_iter-part-iterator.ensures.into_iter_gives.0

merged : (c : goal.After-drop-part-iterator) → IsMerged c.args.parts.items c.loop-part.entries.items
merged c = subst (IsMerged c.args.parts.items) (sym (all_put c)) (merged_with c.args.room c.args.parts.items c.room.inside.blanks.items c.room.view_is c.requires.places)

pub returns-clause-length : goal.returns-clause-length
returns-clause-length c = ap length (all_put c) ∙ length-with_all (placed_of c.args.parts.items) c.room.inside.blanks.items ∙ c.room.view_is

pub returns-clause-merged : goal.returns-clause-merged
returns-clause-merged c = merged c

pub returns-clause-history : goal.returns-clause-history
returns-clause-history c = merged_is_history c.args.parts.items c.loop-part.entries.items (merged c)
