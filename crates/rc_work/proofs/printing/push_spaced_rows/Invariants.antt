use Rattle.std.proofs.Common.{◌≡◌, ◌++◌, take, map}
use Rattle.rc_work.proofs.Imports.{zip, spaced, row_text}
use Rattle.rc_work.proofs.printing.push_spaced_rows.Given as goal

abbrev pub invariant-loop-at : goal.invariant-loop-at
invariant-loop-at l = l.out.items ≡ l.fn.out.items ++ spaced (map (λ row. row_text l.spec l.ranks (zip l.outs row)) (take l.at l.rows))
