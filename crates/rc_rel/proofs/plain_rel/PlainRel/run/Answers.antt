use Rattle.std.proofs.Common.{◌≡◌, List, sym, ap, subst, ◌∙◌}
use Rattle.rc_rel.proofs.Imports.{OnErr, get_or_from_slice_get, slice_get_in, Pairs, cols_of, Op, all_columns, GivesTuple, AreBelow, no_op, Outcome, plain, plain_by, plain-known, AreOver}
use Rattle.rc_rel.proofs.RunLemmas.{holds_after, same_outcome, pattern_below, over_arguments, over_outcome}
use Rattle.rc_rel.proofs.plain_rel.PlainRel.run.Goals as goal

pub step-requires-clause-pattern : goal.step-requires-clause-pattern
step-requires-clause-pattern c =
    let op : Op = c.requires.fits.0 in
    let read : c.op-op.result.now ≡ op = c.op-op.ensures.value ∙ get_or_from_slice_get c.args.spec.now.ops c.args.call.now.op op no_op c.requires.fits.1.known in
    subst (λ (o : Op). AreBelow 32 o.pattern) (sym read) (pattern_below c.args.spec.now op c.requires.range (slice_get_in c.args.spec.now.ops c.args.call.now.op op c.requires.fits.1.known))

pub step-requires-clause-over : goal.step-requires-clause-over
step-requires-clause-over c =
    let op : Op = c.requires.fits.0 in
    let read : c.op-op.result.now ≡ op = c.op-op.ensures.value ∙ get_or_from_slice_get c.args.spec.now.ops c.args.call.now.op op no_op c.requires.fits.1.known in
    λ e. subst (λ (r : List Pairs). AreOver (cols_of c.args.call.now.args) r) (sym c.self.view_is)
    (over_arguments c.args.spec.now c.args.call.now op c.args.self.now c.requires.fits.1 c.requires.over (subst (λ (o : Op). GivesTuple o.kind) read e))

pub returns-clause-ok : goal.returns-clause-ok
returns-clause-ok c =
    let op : Op = c.requires.fits.0 in
    let read : c.op-op.result.now ≡ op = c.op-op.ensures.value ∙ get_or_from_slice_get c.args.spec.now.ops c.args.call.now.op op no_op c.requires.fits.1.known in
    same_outcome c.step.result _ (plain c.args.spec.now c.args.self.now c.args.call.now) c.step.new.tuples.items
    (plain-known c.args.spec.now c.args.self.now c.args.call.now op c.requires.fits.1.known
    ∙ ap (λ (o : Op). plain_by c.args.spec.now.most_rows o.kind o.pattern c.args.spec.now.deps c.args.call.now.args c.args.call.now.ranges c.args.self.now) (sym read)
    ∙ ap (λ (r : List Pairs). plain_by c.args.spec.now.most_rows c.op-op.result.now.kind c.op-op.result.now.pattern c.args.spec.now.deps c.args.call.now.args c.args.call.now.ranges r) (sym c.self.view_is))
    c.step.ensures.ok

pub returns-clause-over : goal.returns-clause-over
returns-clause-over c =
    let op : Op = c.requires.fits.0 in
    holds_after (λ (r : List Pairs). AreOver (all_columns c.args.spec.now) r) c.step.result (plain c.args.spec.now c.args.self.now c.args.call.now) c.step.new.tuples.items c.args.self.now
    (returns-clause-ok c) (subst (λ (r : List Pairs). OnErr c.step.result (c.step.new.tuples.items ≡ r)) c.self.view_is c.step.ensures.err)
    (subst (λ (o : Outcome). AreOver (all_columns c.args.spec.now) o.relation) (sym (plain-known c.args.spec.now c.args.self.now c.args.call.now op c.requires.fits.1.known))
    (over_outcome c.args.spec.now c.args.call.now op c.args.self.now c.requires.fits.1 c.requires.over))
    c.requires.over
