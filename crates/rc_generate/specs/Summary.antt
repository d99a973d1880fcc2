-- The summary of a history: how many replies there are of each kind, how many rows in them, and how many tuples at last.
use Rattle.std.specs.Prelude.{ℕ, ◌+◌, ◌<◌, ◌^◌, List, [], length, sum_by}
use Rattle.rc_generate.specs.Imports.{Pairs, Call, Reply, Rows, Many, Inserted, Present, Conflict, Removed, Updated, Absent, Spec, Step, Entry, steps_of, plain_steps}
use Rattle.rc_generate.specs.declared.summary.Summary.{Summary}
use Rattle.rc_generate.specs.Shards.{after_calls}

-- ---- what one reply counts for

abbrev pub one_call : Reply → ℕ
one_call reply = 1

abbrev pub one_inserted : Reply → ℕ
one_inserted Inserted = 1
one_inserted _ = 0

abbrev pub one_present : Reply → ℕ
one_present Present = 1
one_present _ = 0

abbrev pub one_conflict : Reply → ℕ
one_conflict (Conflict dep) = 1
one_conflict _ = 0

abbrev pub one_removed : Reply → ℕ
one_removed (Removed tuple) = 1
one_removed _ = 0

abbrev pub one_updated : Reply → ℕ
one_updated (Updated tuple) = 1
one_updated _ = 0

abbrev pub one_absent : Reply → ℕ
one_absent Absent = 1
one_absent _ = 0

abbrev pub one_query : Reply → ℕ
one_query (Rows rows) = 1
one_query (Many count) = 1
one_query _ = 0

-- the rows that the reply lists
abbrev pub rows_in : Reply → ℕ
rows_in (Rows rows) = length rows
rows_in _ = 0

abbrev pub one_many : Reply → ℕ
one_many (Many count) = 1
one_many _ = 0

-- ---- the counts of all

-- the sum over the replies of some steps
abbrev pub counted : (Reply → ℕ) → List Step → ℕ
counted count steps = sum_by (λ s. count s.reply) steps

abbrev pub summary_of : List Step → List Pairs → Summary
summary_of steps tuples = record {
  calls = counted one_call steps;
  inserted = counted one_inserted steps;
  present = counted one_present steps;
  conflict = counted one_conflict steps;
  removed = counted one_removed steps;
  absent = counted one_absent steps;
  queries = counted one_query steps;
  rows = counted rows_in steps;
  many = counted one_many steps;
  tuples = length tuples;
}

-- the summary of a history and of the tuples of the last relation
abbrev pub summary : List Entry → List Pairs → Summary
summary history tuples = summary_of (steps_of history) tuples

-- the summary of one thread that makes the calls in order from the empty relation
abbrev pub one_thread_summary : Spec → List Call → Summary
one_thread_summary spec calls = summary_of (plain_steps spec [] calls) (after_calls spec [] calls)

-- ---- counting

-- the summary of no step
abbrev pub no_steps : ℕ → Summary
no_steps tuples = record { calls = 0; inserted = 0; present = 0; conflict = 0; removed = 0; absent = 0; queries = 0; rows = 0; many = 0; tuples = tuples }

-- the summary with the replies of more steps counted in
abbrev pub plus_steps : Summary → List Step → Summary
plus_steps s steps = record {
  calls = s.calls + counted one_call steps;
  inserted = s.inserted + counted one_inserted steps;
  present = s.present + counted one_present steps;
  conflict = s.conflict + counted one_conflict steps;
  removed = s.removed + counted one_removed steps;
  absent = s.absent + counted one_absent steps;
  queries = s.queries + counted one_query steps;
  rows = s.rows + counted rows_in steps;
  many = s.many + counted one_many steps;
  tuples = s.tuples;
}

-- each count is below 2^64
pub record IsSmall (s : Summary) : Type 0 where
  pub calls : s.calls < 2 ^ 64
  pub inserted : s.inserted < 2 ^ 64
  pub present : s.present < 2 ^ 64
  pub conflict : s.conflict < 2 ^ 64
  pub removed : s.removed < 2 ^ 64
  pub absent : s.absent < 2 ^ 64
  pub queries : s.queries < 2 ^ 64
  pub rows : s.rows < 2 ^ 64
  pub many : s.many < 2 ^ 64
