use Rattle.std.proofs.Common.{[], sym, subst, ap, ◌∙◌}
use Rattle.rc_fragment.proofs.Imports.{length, now_in, IsFragment, FragmentRows, IsTable, shapes, changes_of, undone}
use Rattle.rc_fragment.proofs.NoteLemmas.{zero_least}
use Rattle.rc_fragment.proofs.SourcesLemmas.{if_ok_from}
use Rattle.rc_fragment.proofs.RowLemmas.{none_listed, empty_fragment}
use Rattle.rc_fragment.proofs.stored.Stored.empty.Goals as goal

pub boxed-requires : goal.boxed-requires
boxed-requires c = record {
  fragment = subst (λ z. IsFragment c.in_ok-empty_edges.field-0.items z c.new-2.result.items) (sym c.new.ensures.items)
      (subst (IsFragment c.in_ok-empty_edges.field-0.items []) (sym c.new-2.ensures.items) (empty_fragment c.in_ok-empty_edges.field-0.items c.in_ok-empty_edges.ensures.empty));
  unnoted = λ none. c.new-2.ensures.items;
  room = zero_least _;
}

pub returns-clause-value : goal.returns-clause-value
returns-clause-value c = if_ok_from c.boxed.result c.boxed.ensures (λ fragment is. is ∙ (λ i. record {
  table = c.in_ok-empty_edges.ensures.shapes i;
  now = none_listed now_in c.in_ok-empty_edges.field-0.items c.in_ok-empty_edges.ensures.empty i;
  taken = undone (changes_of (shapes c.in_ok-empty_edges.field-0.items) c.new-2.result.items (c.new.ensures.items i)) (none_listed now_in c.in_ok-empty_edges.field-0.items c.in_ok-empty_edges.ensures.empty i);
  room = 0;
  changes = ap length c.new.ensures.items i;
}))

pub returns-clause-table : goal.returns-clause-table
returns-clause-table c = if_ok_from c.boxed.result c.boxed.ensures (λ stored is. subst IsTable (sym (ap (λ (f : FragmentRows). f.table) is)) c.in_ok-empty_edges.ensures.table)
