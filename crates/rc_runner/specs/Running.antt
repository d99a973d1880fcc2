-- Passes of a store that make the calls of a workload. (PLDI 2012, serializable transactions of threads that run beside
-- each other.)
use Rattle.std.specs.Prelude.{◌≡◌, ℕ, ◌+◌, ◌≤◌, List, Some, map, length}
use Rattle.rc_runner.specs.Imports.{Entry, PassSeen, core_of, ClosedSeen, Leaves, IsFree, StoreSeen, Work, Runs}
use Rattle.rc_runner.specs.Rounds.{Stand}

-- ---- passes

abbrev pub number_of : PassSeen → ℕ
number_of pass = (core_of pass).number

abbrev pub numbers_of : List PassSeen → List ℕ
numbers_of passes = map number_of passes

-- what a pass shows
abbrev pub stand_of : PassSeen → Stand
stand_of pass = record { own = (core_of pass).own; seen = (core_of pass).seen }

abbrev pub stands_of : List PassSeen → List Stand
stands_of passes = map stand_of passes

-- a free pass that may make so many calls more
pub record MayMake (store : StoreSeen) (calls : ℕ) (pass : PassSeen) : Type 0 where
  pub free : IsFree store pass
  pub left : length (core_of pass).own + calls ≤ store.limit

-- ---- the end

-- A closed store whose one history is a run of the workload, and is its journal.
pub record HasRun (work : Work) (closed : ClosedSeen) : Type 0 where
  pub history : List Entry
  pub journal : closed.journal ≡ Some history
  pub leaves : Leaves closed.compiled.spec work.threads history closed.instance
  pub runs : Runs closed.compiled.spec work history
