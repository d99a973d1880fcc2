use Rattle.rc_rel.specs.History.{placed}
use Rattle.rc_journal.proofs.PartingLemmas.{pushed_is}
use Rattle.rc_journal.proofs.parting.put_own.Goals as goal

pub returns : goal.returns
returns c = pushed_is c.args.parts.now c.args.entry.pass (placed c.args.place c.args.entry) c.index-parts-entry.result c.push.new.self c.requires.there c.push.ensures
