use Rattle.std.proofs.Common.{get_or, ap, sym, subst, ◌∙◌}
use Rattle.rc_tuple.proofs.Imports.{nat_cmp, put, get_or_in, nat_order, gather_next, IsColSet, IsColSet-none}
use Rattle.rc_tuple.proofs.col_set.ColSet.from_list.Goals as goal

pub loop-col-init : goal.loop-col-init
loop-col-init c = record { value = c.empty-set.ensures; set = subst IsColSet (sym c.empty-set.ensures) IsColSet-none }

pub with-set-requires : goal.with-set-requires
with-set-requires c = c.requires (get_or c.args.cols.now c.loop-col.col-index 0) (get_or_in c.args.cols.now c.loop-col.col-index 0 c.loop-col-test.true)

pub loop-col-preserved : goal.loop-col-preserved
loop-col-preserved c = record {
  value = c.with-set.ensures.value ∙ ap (put nat_cmp (get_or c.args.cols.now c.loop-col.col-index 0)) c.loop-col.invariant.value
      ∙ sym (gather_next nat_cmp nat_order c.args.cols.now c.loop-col.col-index 0 c.loop-col-test.true);
  set = c.with-set.ensures.set;
}
