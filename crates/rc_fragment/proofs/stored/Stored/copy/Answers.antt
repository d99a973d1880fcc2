use Rattle.std.proofs.Common.{◌≡◌, sym, ap, subst, ◌∙◌}
use Rattle.rc_fragment.proofs.Imports.{List, length, now_in, AreWhole, IsFragment, seen_parts, without_promise, AreStored, listing, changes_of, taken_rows, undone, EdgeRows, Parts}
use Rattle.rc_fragment.proofs.CopyLemmas.{same_fragment, same_rows_now}
use Rattle.rc_fragment.proofs.NoteLemmas.{zero_least}
use Rattle.rc_fragment.proofs.SourcesLemmas.{if_ok_from}
use Rattle.rc_fragment.proofs.stored.Stored.copy.Goals as goal
use Rattle.rc_fragment.proofs.stored.Stored.copy.Goals.{After-as_slice-2, After-deref}

-- what holds of the parts that are read
whole : (c : After-deref) → AreWhole c.deref.result.now
whole c = subst AreWhole (sym c.deref.ensures) c.self.invariant

-- the notes and the values that are copied are those of these parts
notes : (c : After-as_slice-2) → c.as_slice.result.now ≡ c.deref.result.now.notes.items
notes c = c.as_slice.ensures.value ∙ ap (λ (p : Parts). p.notes.items) (c.deref-2.ensures ∙ sym c.deref.ensures)

noted : (c : After-as_slice-2) → c.as_slice-2.result.now ≡ c.deref.result.now.noted.items
noted c = c.as_slice-2.ensures.value ∙ ap (λ (p : Parts). p.noted.items) (c.deref-3.ensures ∙ sym c.deref.ensures)

pub copy_edges-requires : goal.copy_edges-requires
copy_edges-requires c = (whole (goal.at.copy_edges-requires c).After-deref).fragment.stored

pub boxed-requires : goal.boxed-requires
boxed-requires c =
    let read : Parts = c.deref.result.now in
    let new : List EdgeRows = c.in_ok-copy_edges.field-0.items in
    let e = c.in_ok-copy_edges.ensures in
    let all : AreWhole read = whole (goal.at.boxed-requires c).After-deref in
    let n : c.in_ok-from_slice.field-0.items ≡ read.notes.items = c.in_ok-from_slice.ensures.items ∙ notes (goal.at.boxed-requires c).After-as_slice-2 in
    let p : c.in_ok-from_slice-2.field-0.items ≡ read.noted.items = c.in_ok-from_slice-2.ensures.items ∙ noted (goal.at.boxed-requires c).After-as_slice-2 in
    record {
      fragment = subst (IsFragment new c.in_ok-from_slice.field-0.items) (sym p)
          (subst (λ z. IsFragment new z read.noted.items) (sym n) (same_fragment read.edges.items new read.notes.items read.noted.items all.fragment e.shapes e.stored e.kept e.emptied));
      unnoted = λ none. p ∙ all.unnoted (sym n ∙ none);
      room = zero_least _;
    }

pub returns : goal.returns
returns c =
    let edges : List EdgeRows = c.deref.result.now.edges.items in
    let new : List EdgeRows = c.in_ok-copy_edges.field-0.items in
    let stored : AreStored edges = (whole (goal.at.returns c).After-deref).fragment.stored in
    let e = c.in_ok-copy_edges.ensures in
    let now : listing now_in new ≡ listing now_in edges = same_rows_now edges new stored e.stored e.shapes e.kept in
    let n : c.in_ok-from_slice.field-0.items ≡ c.deref.result.now.notes.items = c.in_ok-from_slice.ensures.items ∙ notes (goal.at.returns c).After-as_slice-2 in
    let p : c.in_ok-from_slice-2.field-0.items ≡ c.deref.result.now.noted.items = c.in_ok-from_slice-2.ensures.items ∙ noted (goal.at.returns c).After-as_slice-2 in
    let taken : taken_rows new c.in_ok-from_slice.field-0.items c.in_ok-from_slice-2.field-0.items ≡ taken_rows edges c.deref.result.now.notes.items c.deref.result.now.noted.items =
    (λ i. undone (changes_of (e.shapes i) (p i) (n i)) (now i)) in
    if_ok_from c.boxed.result c.boxed.ensures (λ copy is.
    is ∙ (λ i. record { table = e.shapes i; now = now i; taken = taken i; room = 0; changes = length (n i) })
    ∙ ap (λ (p : Parts). without_promise (seen_parts p)) c.deref.ensures ∙ ap without_promise c.self.view_is)
