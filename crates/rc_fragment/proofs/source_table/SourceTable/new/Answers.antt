use Rattle.rc_fragment.proofs.SourceTableLemmas.{root-empty}
use Rattle.rc_fragment.proofs.source_table.SourceTable.new.Goals as goal

pub returns-then-columns-eq0-clause-empty : goal.returns-then-columns-eq0-clause-empty
returns-then-columns-eq0-clause-empty c = root-empty
