-- What a plan does on a list of rows: its reply, the stripes that it names, and the rows after it. (PLDI 2011 and PLDI 2012, evaluation of query plans.)
use Rattle.std.specs.Prelude.{ℕ, ◌-◌, Bool, true, false, ◌&&◌, List, [], ◌∷◌, ◌++◌, Option, None, Some, map, filter, not, is_some, if◌then◌else◌, get_or}
use Rattle.rc_plan.specs.Imports.{list_any, gather, Pairs, project, agree_on, Dep, Call, Reply, Rows, Many, Inserted, Present, Conflict, Removed, Updated, Absent, Op, OpKind, Query, Insert, Remove, Update, Mode, Range, Spec, join, EdgeRow, tuples_of_edge, all_rows, op_at, at_most, rows_of, in_ranges, physical_stripe, with_rows, without_rows, StripeLock}
use Rattle.rc_plan.specs.declared.statement.Statement.{Statement}
use Rattle.rc_plan.specs.declared.statement.Statement.TheVariants.{Lock, Probe, Read, CheckAbsent, CheckFound, CheckDep, Apply, Emit, Commit, Release}
use Rattle.rc_plan.specs.declared.statement.Which.{Which}
use Rattle.rc_plan.specs.declared.statement.Which.TheVariants as which
use Rattle.rc_plan.specs.StripeLocks.{stripe_lock_cmp, band}

-- where a run stands
pub record RunState : Type 0 where
  -- tuples over the columns known so far, rising
  pub bindings : List Pairs
  -- the stripes that the Locks named, each with its Lock's mode, rising
  pub named : List StripeLock
  -- the tuple that an update found
  pub old : Option Pairs
  pub reply : Option Reply
  pub rows : List EdgeRow

-- ---- what the statements speak of

-- the stripes of a class that a Lock takes: those on which the bindings fall, or all
abbrev pub stripes_locked : Spec → ℕ → Which → List Pairs → List ℕ
stripes_locked spec c which.Keyed bindings = map (physical_stripe spec c) bindings
stripes_locked spec c which.All bindings = band spec c

abbrev pub named_by : Spec → ℕ → Which → Mode → List Pairs → List StripeLock
named_by spec c choice mode bindings = map (λ stripe. (stripe, mode)) (stripes_locked spec c choice bindings)

-- what stands where there is no dependency
abbrev pub no_dep : Dep
no_dep = record { left = []; right = [] }

-- dependencies are numbered from 1
abbrev pub dep_at : Spec → ℕ → Dep
dep_at spec dep = get_or spec.deps (dep - 1) no_dep

abbrev pub some_left : List Pairs → Bool
some_left [] = false
some_left (b ∷ bindings) = true

-- whether a binding stays beside the call's tuple: in an update the old tuple doesn't, which alone has its pattern values
abbrev pub stays_beside : OpKind → List ℕ → Pairs → Pairs → Bool
stays_beside (Query outs ranges) pattern args b = true
stays_beside Insert pattern args b = true
stays_beside Remove pattern args b = true
stays_beside Update pattern args b = not (agree_on pattern b args)

-- a binding that stays beside the call's tuple differs from it on the dependency's right side
abbrev pub some_differs : Spec → Op → ℕ → Pairs → List Pairs → Bool
some_differs spec op dep args bindings = list_any (λ b. stays_beside op.kind op.pattern args b && not (agree_on (dep_at spec dep).right b args)) bindings

-- what a query answers from tuples: the distinct rows of the outputs, where there are so many at most
abbrev pub answer : ℕ → List ℕ → List Pairs → Reply
answer most outs tuples = at_most most (rows_of outs tuples)

-- ---- the statements

-- the least of the bindings goes, with its rows
abbrev pub remove_least : Spec → List Pairs → RunState → RunState
remove_least spec [] state = record state { reply = Some Absent }
remove_least spec (b ∷ bindings) state = record state { reply = Some (Removed b); rows = without_rows spec b state.rows }

-- the least of the bindings is the old tuple
abbrev pub keep_least : List Pairs → RunState → RunState
keep_least [] state = record state { reply = Some Absent }
keep_least (b ∷ bindings) state = record state { old = Some b }

-- the old tuple goes, with its rows, and then the call's comes
abbrev pub replace : Spec → Option Pairs → Pairs → RunState → RunState
replace spec None args state = record state { reply = Some Absent }
replace spec (Some old) args state = record state { reply = Some (Updated old); rows = with_rows spec args (without_rows spec old state.rows) }

abbrev pub apply : Spec → OpKind → Pairs → RunState → RunState
apply spec (Query outs ranges) args state = state
apply spec Insert args state = record state { reply = Some Inserted; rows = with_rows spec args state.rows }
apply spec Remove args state = remove_least spec state.bindings state
apply spec Update args state = replace spec state.old args state

-- from the bindings whose values are between the call's bounds
abbrev pub emit : ℕ → OpKind → List Range → RunState → RunState
emit most (Query outs cols) ranges state = record state { reply = Some (answer most outs (filter (in_ranges ranges) state.bindings)) }
emit most Insert ranges state = state
emit most Remove ranges state = state
emit most Update ranges state = state

-- one statement of the plan of an operation, at a call, where there is no reply yet
abbrev pub run_one : Spec → Op → Call → RunState → Statement → RunState
run_one spec op call state (Lock c choice mode) = record state { named = gather stripe_lock_cmp (state.named ++ named_by spec c choice mode state.bindings) }
run_one spec op call state (Probe cols) = record state { bindings = project cols call.args ∷ [] }
run_one spec op call state (Read e mode) = record state { bindings = join state.bindings (tuples_of_edge e state.rows) }
run_one spec op call state CheckAbsent = if some_left state.bindings then record state { reply = Some Present } else state
run_one spec op call state CheckFound = keep_least state.bindings state
run_one spec op call state (CheckDep dep) = if some_differs spec op dep call.args state.bindings then record state { reply = Some (Conflict dep) } else state
run_one spec op call state Apply = apply spec op.kind call.args state
run_one spec op call state Emit = emit spec.most_rows op.kind call.ranges state
run_one spec op call state Commit = state
run_one spec op call state (Release c) = state

-- after the reply nothing changes
abbrev pub run_next : Spec → Op → Call → RunState → Statement → RunState
run_next spec op call state x = if is_some state.reply then state else run_one spec op call state x

abbrev pub run : Spec → Op → Call → List Statement → RunState → RunState
run spec op call [] state = state
run spec op call (x ∷ plan) state = run spec op call plan (run_next spec op call state x)

-- ---- evaluation

-- a run begins with the call's tuple as its one binding
abbrev pub begun : Call → List EdgeRow → RunState
begun call rows = record { bindings = call.args ∷ []; named = []; old = None; reply = None; rows = rows }

-- the plan of the call's operation, on these rows
abbrev pub eval : Spec → List Statement → Call → List EdgeRow → RunState
eval spec plan call rows = run spec (op_at spec call.op) call plan (begun call rows)

-- the stripes that a call touches, each with its mode: those that evaluation on all rows names
abbrev pub touched : Spec → List Statement → Call → List Pairs → List StripeLock
touched spec plan call r = (eval spec plan call (all_rows spec r)).named

-- the rows with the effect of a reply to a call with these arguments taken back
abbrev pub rows_as_taken : Spec → Pairs → Reply → List EdgeRow → List EdgeRow
rows_as_taken spec args (Rows found) rows = rows
rows_as_taken spec args (Many count) rows = rows
rows_as_taken spec args Inserted rows = without_rows spec args rows
rows_as_taken spec args Present rows = rows
rows_as_taken spec args (Conflict dep) rows = rows
rows_as_taken spec args (Removed t) rows = with_rows spec t rows
rows_as_taken spec args (Updated t) rows = with_rows spec t (without_rows spec args rows)
rows_as_taken spec args Absent rows = rows
