use Rattle.std.proofs.Common.{List, [], sym, subst}
use Rattle.rc_tuple.specs.RisingSet.{In}
use Rattle.rc_tuple.specs.RisingSetLaws.{in_slice_get}
use Rattle.rc_tuple.specs.Tuple.{Pairs}
use Rattle.rc_rel.specs.declared.entry.Placed.{Placed}
use Rattle.rc_rel.specs.OwnLaws.{own_stands}
use Rattle.rc_row.specs.Passes.{spec_of}
use Rattle.rc_scheduler.specs.Left.{ProcessesAreLeft}
use Rattle.rc_scheduler.proofs.LeftLemmas.{put_left}
use Rattle.rc_scheduler.proofs.laws.processes_are_left.Goals as goal

are_left : ProcessesAreLeft
are_left store passes left h w call has puts keeps =
    let k = in_slice_get has.pass passes has.is in
    let stands = (own_stands h.is.history k.0 w).0
    (subst (λ (l : List Placed). In w l) (h.is.own k.0 has.pass k.1) has.among) in
    subst (λ (l : List Pairs). In call.args l) (sym h.rows)
    (put_left (spec_of store.row) [] h.is.history w.place w.entry call h.is.leaves.good.legal stands.0 puts keeps)

pub returns : goal.returns
returns c = are_left
