use Rattle.rc_handplan.proofs.Imports.{take, HaveSets}
use Rattle.rc_handplan.proofs.printing.have_sets.Given as goal

-- the statements so far
abbrev pub invariant-loop-statement : goal.invariant-loop-statement
invariant-loop-statement l = HaveSets (take l.statement-index l.plan)
