use Rattle.rc_machine.proofs.Imports.{ap, subst, map, CanApply, held_of, reverted}
use Rattle.rc_machine.proofs.StripeLemmas.{no_stripes}
use Rattle.rc_machine.proofs.ReadLemmas.{on_err}
use Rattle.rc_machine.proofs.apply.apply.Goals as goal

pub returns-in-Remove-clause-alike : goal.returns-in-Remove-clause-alike
returns-in-Remove-clause-alike g c = on_err c.remove_least.result (ap (map reverted)) c.remove_least.ensures.err

pub add_rows-requires-clause-stripes : goal.add_rows-requires-clause-stripes
add_rows-requires-clause-stripes g c = no_stripes c.args.compiled.now.spec c.args.args.now _ c.clear.ensures.items

pub replace_old-requires-clause-can : goal.replace_old-requires-clause-can
replace_old-requires-clause-can g c = subst (λ k. CanApply c.args.compiled.now.spec k c.args.args.now c.args.space.now.old_tuple c.args.space.now.bindings.tuples (held_of (g.H.Holder.seen c.args.holder.now))) c.in-Update.is c.requires.can
