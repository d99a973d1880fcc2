-- What a step's answer says of the relation after it.
use Rattle.std.proofs.Common.{◌≡◌, ℕ, ◌<◌, ◌≤◌, List, length, Result, Ok, Err, sym, ap, ◌∙◌, subst, arith}
use Rattle.rc_rel.proofs.Imports.{IfOk, OnErr, In, each_in, in_each, Pairs, cols_of, Memory, Reply, Call, Op, Spec, all_columns, FitsAt, GivesTuple, tuple_columns, IsInRange, AreBelow, Outcome, plain_by, each_after, AreOver}

-- what holds of the relation of the outcome and of the relation before holds of the relation after
pub holds_after : (P : List Pairs → Type 0) (result : Result Reply Memory) (o : Outcome) (new old : List Pairs)
    → IfOk result (λ reply. o ≡ record { reply = reply; relation = new }) → OnErr result (new ≡ old) → P o.relation → P old → P new
holds_after P (Ok reply) o new old ok err p q = subst P (ap (λ (x : Outcome). x.relation) ok) p
holds_after P (Err e) o new old ok err p q = subst P (sym err) q

-- an outcome that is another's
pub same_outcome : (result : Result Reply Memory) (o p : Outcome) (new : List Pairs)
    → p ≡ o → IfOk result (λ reply. o ≡ record { reply = reply; relation = new }) → IfOk result (λ reply. p ≡ record { reply = reply; relation = new })
same_outcome (Ok reply) o p new e h = e ∙ h
same_outcome (Err x) o p new e h = tt

-- a pattern's columns are below 32
pub pattern_below : (spec : Spec) (op : Op) → IsInRange spec → In op spec.ops → AreBelow 32 op.pattern
pattern_below spec op range m = λ n k. let a : n < length spec.columns = (range.known_ops op m).pattern n k in let b : length spec.columns ≤ 32 = range.columns in omega arith

-- tuples over all columns are over those of a tuple that is given
pub over_arguments : (spec : Spec) (call : Call) (op : Op) (r : List Pairs) → FitsAt spec call op → AreOver (all_columns spec) r → GivesTuple op.kind → AreOver (cols_of call.args) r
over_arguments spec call op r fits over e = subst (λ (l : List ℕ). AreOver l r) (sym (tuple_columns spec call op fits e)) over

-- the relation after a call is over all columns
pub over_outcome : (spec : Spec) (call : Call) (op : Op) (r : List Pairs) → FitsAt spec call op → AreOver (all_columns spec) r
    → AreOver (all_columns spec) (plain_by spec.most_rows op.kind op.pattern spec.deps call.args call.ranges r).relation
over_outcome spec call op r fits over =
    in_each (λ (t : Pairs). all_columns spec ≡ cols_of t) (plain_by spec.most_rows op.kind op.pattern spec.deps call.args call.ranges r).relation
    (each_after (λ (t : Pairs). all_columns spec ≡ cols_of t) spec.most_rows op.kind op.pattern spec.deps call.args call.ranges r
    (λ e. sym (tuple_columns spec call op fits e))
    (each_in (λ (t : Pairs). all_columns spec ≡ cols_of t) r over))
