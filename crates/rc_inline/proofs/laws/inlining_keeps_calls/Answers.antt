use Rattle.rc_inline.specs.InliningLaws as laws
use Rattle.rc_inline.proofs.laws.inlining_keeps_calls.Goals as goal

pub returns-clause-calls : goal.returns-clause-calls
returns-clause-calls c = laws.inlined_plain

pub returns-clause-fitting : goal.returns-clause-fitting
returns-clause-fitting c = laws.inlined_fits
