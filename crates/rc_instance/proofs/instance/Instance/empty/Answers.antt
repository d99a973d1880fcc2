use Rattle.std.proofs.Common.{◌∙◌, sym, replicate, None}
use Rattle.rc_fragment.specs.Fragment.{edge_table}
use Rattle.rc_instance.proofs.EmptyLemmas.{empty_instance, empty_relation, is_empty}
use Rattle.rc_instance.proofs.NumberLemmas.{numbers-free}
use Rattle.rc_instance.proofs.StripesOfLemmas.{stripes_of-length, stripes_of-table}
use Rattle.rc_instance.proofs.instance.Instance.empty.Goals as goal

pub invariant_of-result : goal.invariant_of-result
invariant_of-result c =
    let e = c.in_ok-empty_fragments.ensures in
    record {
      stripes = empty_instance (edge_table c.args.accepted.now) c.in_ok-empty_fragments.field-0.items e.empty (replicate 256 None) e.table;
      few = e.few;
      numbers_held = c.none.ensures ∙ sym (numbers-free c.in_ok-empty_fragments.field-0.items 256);
    }

pub returns-clause-stripes : goal.returns-clause-stripes
returns-clause-stripes c = stripes_of-length c.in_ok-empty_fragments.field-0.items (replicate 256 None) ∙ c.in_ok-empty_fragments.ensures.stripes

pub returns-clause-table : goal.returns-clause-table
returns-clause-table c = stripes_of-table c.in_ok-empty_fragments.field-0.items (replicate 256 None) ∙ c.in_ok-empty_fragments.ensures.table

pub returns-clause-empty : goal.returns-clause-empty
returns-clause-empty c = is_empty (edge_table c.args.accepted.now) c.in_ok-empty_fragments.field-0.items c.in_ok-empty_fragments.ensures.empty 256

pub returns-clause-relation : goal.returns-clause-relation
returns-clause-relation c =
    let e = c.in_ok-empty_fragments.ensures in
    empty_relation c.args.accepted.now c.in_ok-empty_fragments.field-0.items (replicate 256 None) e.table e.stripes e.empty
