use Rattle.rc_fragment.specs.Holder.{held_of}
use Rattle.rc_machine.proofs.ReadLemmas.{is_held, lent_columns, on_ok, on_one}
use Rattle.rc_machine.proofs.read.push_found.Goals as goal

pub fragment-fragment-requires : goal.fragment-fragment-requires
fragment-fragment-requires g c = is_held (held_of (g.H.Holder.seen c.args.holder.now)) c.args.stripe c.requires.held

pub push_looked_up-requires-clause-columns : goal.push_looked_up-requires-clause-columns
push_looked_up-requires-clause-columns g c =
    lent_columns (g.H.Holder.seen c.args.holder.now) c.args.stripe c.fragment-fragment.result.now c.requires.held c.fragment-fragment.ensures c.args.read.now.spec.now c.requires.good

pub push_looked_up-requires-in-Scan-clause-columns : goal.push_looked_up-requires-in-Scan-clause-columns
push_looked_up-requires-in-Scan-clause-columns g c =
    lent_columns (g.H.Holder.seen c.args.holder.now) c.args.stripe c.fragment-fragment.result.now c.requires.held c.fragment-fragment.ensures c.args.read.now.spec.now c.requires.good

pub push_scanned-requires-clause-columns : goal.push_scanned-requires-clause-columns
push_scanned-requires-clause-columns g c =
    lent_columns (g.H.Holder.seen c.args.holder.now) c.args.stripe c.fragment-fragment.result.now c.requires.held c.fragment-fragment.ensures c.args.read.now.spec.now c.requires.good

pub returns-in-Lookup-clause-merged : goal.returns-in-Lookup-clause-merged
returns-in-Lookup-clause-merged g c =
    on_ok c.push_looked_up.result
    (on_one (g.H.Holder.seen c.args.holder.now) c.args.stripe c.fragment-fragment.result.now c.requires.held c.fragment-fragment.ensures c.args.binding.now.tuple c.args.read.now.edge c.args.found.now.tuples c.push_looked_up.new.found.tuples)
    c.push_looked_up.ensures.merged

pub returns-in-Scan-clause-merged : goal.returns-in-Scan-clause-merged
returns-in-Scan-clause-merged g c =
    on_ok c.push_looked_up-in-Scan.result
    (on_one (g.H.Holder.seen c.args.holder.now) c.args.stripe c.fragment-fragment.result.now c.requires.held c.fragment-fragment.ensures c.args.binding.now.tuple c.args.read.now.edge c.args.found.now.tuples c.push_looked_up-in-Scan.new.found.tuples)
    c.push_looked_up-in-Scan.ensures.merged

pub returns-in-Scan-2-clause-merged : goal.returns-in-Scan-2-clause-merged
returns-in-Scan-2-clause-merged g c =
    on_ok c.push_scanned.result
    (on_one (g.H.Holder.seen c.args.holder.now) c.args.stripe c.fragment-fragment.result.now c.requires.held c.fragment-fragment.ensures c.args.binding.now.tuple c.args.read.now.edge c.args.found.now.tuples c.push_scanned.new.found.tuples)
    c.push_scanned.ensures.merged
