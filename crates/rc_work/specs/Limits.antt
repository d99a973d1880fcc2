-- What holds of each workload that is read: its limits, and that its texts are known.
use Rattle.std.specs.Prelude.{◌≡◌, ℕ, ◌<◌, ◌≤◌, List, length, sum_by}
use Rattle.rc_work.specs.Imports.{AllByRecursion, In, Pairs, Call, Text, Spec}
use Rattle.rc_work.specs.declared.work.Turn.{Turn}
use Rattle.rc_work.specs.declared.work.Work.{Work}
use Rattle.rc_work.specs.Printed.{bounds_given, kind_at}

-- how many calls some rounds have
abbrev pub count_calls : List (List Turn) → ℕ
count_calls rounds = sum_by (sum_by (λ t. length t.calls)) rounds

-- a turn has one call, or the 2 to 16 of a group
abbrev pub HasTurnSize : Turn → Type 0
HasTurnSize turn = (1 ≤ length turn.calls) × (length turn.calls ≤ 16)

-- 1 to 8 threads, at most 64 rounds, and at most 20,000 calls in them; 1 to 16 of each turn
pub record KeepsLimits (work : Work) : Type 0 where
  pub some_thread : 1 ≤ work.threads
  pub few_threads : work.threads ≤ 8
  pub few_rounds : length work.rounds ≤ 64
  pub few_calls : count_calls work.rounds ≤ 20000
  pub turns : AllByRecursion (AllByRecursion HasTurnSize) work.rounds

-- each turn has one call: it is no group
abbrev pub HasSingleTurns : Work → Type 0
HasSingleTurns work = AllByRecursion (AllByRecursion (λ t. length t.calls ≡ 1)) work.rounds

-- each value of a text column among the pairs is the rank of one of the texts
abbrev pub HasKnownTexts : Spec → List (List ℕ) → Pairs → Type 0
HasKnownTexts spec texts pairs = (p : ℕ × ℕ) → In p pairs → kind_at spec p.0 ≡ Text → p.1 < length texts

-- so in the call's tuple and among its bounds
pub record HasKnownValues (spec : Spec) (texts : List (List ℕ)) (call : Call) : Type 0 where
  pub args : HasKnownTexts spec texts call.args
  pub bounds : HasKnownTexts spec texts (bounds_given call.ranges)

-- so in each call of the workload
abbrev pub KnowsTexts : Spec → Work → Type 0
KnowsTexts spec work =
    AllByRecursion (AllByRecursion (λ t. AllByRecursion (HasKnownValues spec work.ranks) t.calls)) work.rounds
