use Rattle.std.proofs.Common.{◌≡◌, drop}
use Rattle.rc_handplan.proofs.Imports.{texts, column_names, columns_named}
use Rattle.rc_handplan.proofs.ColumnLemmas.{columns_from}
use Rattle.rc_handplan.proofs.statements.columns_named.Given as goal

-- what the words that are left make of the columns so far is what all words name
abbrev pub invariant-loop-word : goal.invariant-loop-word
invariant-loop-word l =
    columns_from (column_names l.spec.columns) l.columns (texts (drop l.word-index l.words))
    ≡ columns_named l.spec (texts l.words)
