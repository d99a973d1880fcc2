use Rattle.std.proofs.Common.{Some, None, subst, ◌∙◌}
use Rattle.rc_multi.proofs.Imports.{nat_cmp, IsPlace, stripes_of}
use Rattle.rc_multi.proofs.ClassLemmas.{put_new, put_old, tail_is}
use Rattle.rc_multi.proofs.locks.put_stripe.Goals as goal

pub returns-in_ok-insert : goal.returns-in_ok-insert
returns-in_ok-insert c first stripes before are =
    c.in_ok-insert.ensures.items
    ∙ put_new first stripes c.args.locks.now.items c.args.start c.args.stripe before are c.in-Some.at
    (subst (λ ls. IsPlace nat_cmp c.args.stripe (stripes_of ls) (Some c.in-Some.at)) (tail_is c.deref.result.now c.args.locks.now.items c.args.start c.deref.ensures.value) c.in-Some.ensures)

pub returns-in_default : goal.returns-in_default
returns-in_default c first stripes before are =
    put_old first stripes c.args.locks.now.items c.args.start c.args.stripe before are
    (subst (λ ls. IsPlace nat_cmp c.args.stripe (stripes_of ls) None) (tail_is c.deref.result.now c.args.locks.now.items c.args.start c.deref.ensures.value) c.in_default.ensures)
