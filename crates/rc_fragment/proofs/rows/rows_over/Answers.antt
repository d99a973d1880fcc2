use Rattle.std.proofs.Common.{◌<◌, ◌++◌, ◌∷◌, [], length, subst, ap, ◌∙◌}
use Rattle.std.specs.Slice.Iter.{chunks_exact_rest}
use Rattle.rc_fragment.proofs.OverLemmas.{AreCut, AreCut-all, AreCut-next}
use Rattle.rc_fragment.proofs.rows.rows_over.Goals as goal

pub row_over-requires : goal.row_over-requires
row_over-requires c = c.in-Some.ensures.steps.1.1 ∙ c.loop-row.invariant.size

pub loop-row-preserved : goal.loop-row-preserved
loop-row-preserved c = record {
  size = c.in-Some.ensures.steps.0 ∙ c.loop-row.invariant.size;
  cut = λ lists are width.
      let before = subst (λ l. AreCut c.args.cols l c.loop-row.rows lists) c.in-Some.ensures.steps.1.0 (c.loop-row.invariant.cut lists are width) in
      AreCut-next c.args.cols c.in-Some.row.now (chunks_exact_rest c.next.new.self) c.loop-row.rows c.push.new.self lists (c.in-Some.ensures.steps.1.1 ∙ c.loop-row.invariant.size) c.requires before
      (c.in_ok-push.ensures.ok ∙ ap (λ z. c.loop-row.rows ++ z ∷ []) c.in_ok-row_over.ensures);
}

pub returns : goal.returns
returns c lists are width =
    let rest = chunks_exact_rest c.loop-row.row-iterator in
    AreCut-all c.args.cols rest c.loop-row.rows lists (subst (λ n. length rest < n) c.loop-row.invariant.size c.in-None.ensures.steps.1.0) (c.loop-row.invariant.cut lists are width)
