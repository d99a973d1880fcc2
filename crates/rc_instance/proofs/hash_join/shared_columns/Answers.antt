use Rattle.rc_instance.proofs.Imports.{arith, sym, subst, take_all, In, Within, in_inter, Pairs, IsTuple, cols_of}
use Rattle.rc_instance.proofs.IndexLemmas.{in_more}
use Rattle.rc_instance.proofs.hash_join.shared_columns.Goals as goal

pub loop-tuple-preserved : goal.loop-tuple-preserved
loop-tuple-preserved c = record {
  shared = in_more (λ (t : Pairs). Within c.inter-columns.result (cols_of t)) c.args.tuples.now c.loop-tuple.tuple-index c.tuple-item.result c.loop-tuple-test.true c.tuple-item.is
      (λ t m k h. c.loop-tuple.invariant.shared t m k (in_inter c.loop-tuple.columns c.cols.result k (subst (In k) c.inter-columns.ensures.value h)).0)
      (λ k h. subst (In k) c.cols.ensures.cols (in_inter c.loop-tuple.columns c.cols.result k (subst (In k) c.inter-columns.ensures.value h)).1);
  tuples = in_more IsTuple c.args.tuples.now c.loop-tuple.tuple-index c.tuple-item.result c.loop-tuple-test.true c.tuple-item.is c.loop-tuple.invariant.tuples c.cols.ensures.tuple;
}

pub returns-clause-shared : goal.returns-clause-shared
returns-clause-shared c t m = c.loop-tuple.invariant.shared t (subst (In t) (sym (take_all c.loop-tuple.tuple-index c.args.tuples.now (omega arith))) m)

pub returns-clause-tuples : goal.returns-clause-tuples
returns-clause-tuples c t m = c.loop-tuple.invariant.tuples t (subst (In t) (sym (take_all c.loop-tuple.tuple-index c.args.tuples.now (omega arith))) m)
