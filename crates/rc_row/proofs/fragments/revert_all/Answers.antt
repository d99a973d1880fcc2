use Rattle.std.proofs.Common.{List, get_or, set, ap, ◌∙◌, arith}
use Rattle.rc_row.proofs.Imports.{FragmentRows, rolled_back, HeldRows}
use Rattle.rc_row.proofs.ChangeLemmas.{here_with, all_more}
use Rattle.rc_row.proofs.fragments.revert_all.Goals as goal

pub loop-i-preserved : goal.loop-i-preserved
loop-i-preserved c =
    let inv = c.loop-i.invariant in
    let old = c.args.held.now.items in
    let i = c.loop-i.i in
    let x = c.index_mut.result.now in
    let n = c.len-i-end.ensures in
    let m = c.args.held.now.ok.0 in
    let t = c.loop-i-test.true in (
      ap (λ (f : FragmentRows). set c.loop-i.held.items i (record x { fragment = f })) c.revert.ensures
          ∙ ap (λ (hs : List HeldRows). set hs i (here_with rolled_back x)) inv.0
          ∙ all_more rolled_back old i x x (omega arith) (c.index_mut.ensures.value ∙ ap (λ (hs : List HeldRows). get_or hs i x) inv.0),
      inv.1,
    )
