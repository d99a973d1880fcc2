use Rattle.rc_reader.specs.Forms.{texts}
use Rattle.rc_handplan.proofs.ColumnLemmas.{columns_from-none}
use Rattle.rc_handplan.proofs.statements.columns_named.Goals as goal

pub loop-word-init : goal.loop-word-init
loop-word-init c = rw c.empty-columns.ensures (columns_from-none c.args.spec.now (texts c.args.words.now))
