use Rattle.std.proofs.Common.{◌≡◌, ◌+◌, List, [], ◌∷◌, ◌++◌, length, take, sym, ap, subst, ◌∙◌, arith, length-append}
use Rattle.rc_journal.proofs.Imports.{slice_get, into_iter_items, append-nil, append_assoc, nil_from_length, Entry, placed, PartEntries, with_placed}
use Rattle.rc_journal.proofs.MovesLemmas.{written}
use Rattle.rc_journal.proofs.PartingLemmas.{HaveOwn, all_moved, among, length-pushed_at, one_moved, room_for_one, take_more}
use Rattle.rc_journal.proofs.parting.part_again.Goals as goal

pub put_own-requires-clause-there : goal.put_own-requires-clause-there
put_own-requires-clause-there c =
    let now : take c.loop-entry.place c.args.journal ++ c.in-Some.entry ∷ into_iter_items c.next.new.self ≡ c.args.journal = ap (λ l. take c.loop-entry.place c.args.journal ++ l) (sym c.in-Some.ensures.steps.0) ∙ c.loop-entry.invariant.left in
    let within = c.requires.passes c.in-Some.entry (among (take c.loop-entry.place c.args.journal) (into_iter_items c.next.new.self) c.args.journal c.in-Some.entry now) in
    let many = c.loop-entry.invariant.parts in
    let same = ap (λ (l : List PartEntries). length l) c.deref_mut.ensures.value in
    omega (arith, within, many, same)

pub put_own-requires-clause-room : goal.put_own-requires-clause-room
put_own-requires-clause-room c = λ part at.
    let now : take c.loop-entry.place c.args.journal ++ c.in-Some.entry ∷ into_iter_items c.next.new.self ≡ c.args.journal = ap (λ l. take c.loop-entry.place c.args.journal ++ l) (sym c.in-Some.ensures.steps.0) ∙ c.loop-entry.invariant.left in
    room_for_one (take c.loop-entry.place c.args.journal) (into_iter_items c.next.new.self) c.args.journal c.in-Some.entry c.loop-entry.parts.items now c.loop-entry.invariant.own part
    (ap (λ l. slice_get l c.in-Some.entry.pass) (sym c.deref_mut.ensures.value) ∙ at)

pub loop-entry-preserved : goal.loop-entry-preserved
loop-entry-preserved c =
    let now : take c.loop-entry.place c.args.journal ++ c.in-Some.entry ∷ into_iter_items c.next.new.self ≡ c.args.journal = ap (λ l. take c.loop-entry.place c.args.journal ++ l) (sym c.in-Some.ensures.steps.0) ∙ c.loop-entry.invariant.left in
    let at = c.loop-entry in
    let e : Entry = c.in-Some.entry in
    let more : List Entry = into_iter_items c.next.new.self in
    let before : List Entry = take at.place c.args.journal in
    let is : c.put_own.new.parts ≡ with_placed at.place e at.parts.items = c.put_own.ensures ∙ ap (with_placed at.place e) c.deref_mut.ensures.value in
    let long : length c.put_own.new.parts ≡ length at.parts.items = ap (λ (l : List PartEntries). length l) is ∙ length-pushed_at at.parts.items e.pass (placed at.place e) in
    let put = written at.parts.items c.put_own.new.parts at.parts.len at.parts.ok.0 long in
    let one = take_more c.args.journal more e at.place at.invariant.place now in record {
      left = ap (λ l. l ++ more) one ∙ append_assoc before (e ∷ []) more ∙ now;
      place = ap (λ (l : List Entry). length l) one ∙ length-append before (e ∷ []) ∙ ap (λ n. n + 1) at.invariant.place;
      count = let gone = c.in-Some.ensures.steps.1 in
          let was = at.invariant.count in
          let short = ap (λ (l : List Entry). length l) c.in-Some.ensures.steps.0 in
          omega arith;
      parts = ap (λ (l : List PartEntries). length l) put ∙ long ∙ at.invariant.parts;
      own = subst (λ (x : List Entry × List PartEntries). HaveOwn x.0 c.args.journal x.1) (λ i. (sym one i, sym (put ∙ is) i))
          (one_moved before more c.args.journal e at.parts.items now at.invariant.own at.place (sym at.invariant.place));
    }

pub returns-clause-own : goal.returns-clause-own
returns-clause-own c =
    let at = c.loop-entry in
    let empty : into_iter_items at.entry-iterator ≡ [] = nil_from_length (into_iter_items at.entry-iterator) (sym at.invariant.count ∙ c.in-None.ensures.steps.0) in
    all_moved (take at.place c.args.journal) c.args.journal at.parts.items
    (sym (append-nil (take at.place c.args.journal)) ∙ ap (λ l. take at.place c.args.journal ++ l) (sym empty) ∙ at.invariant.left) at.invariant.own
