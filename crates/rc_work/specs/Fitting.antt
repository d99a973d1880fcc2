-- Workloads whose calls fit a specification.
use Rattle.std.specs.Prelude.{◌<◌, List}
use Rattle.rc_work.specs.Imports.{AllByRecursion, Spec, IsTuple, Fits, AreBounded, Call}
use Rattle.rc_work.specs.declared.work.Turn.{Turn}
use Rattle.rc_work.specs.declared.work.Work.{Work}

-- the call's arguments are a tuple, and its bounds are values of one: each number has 64 bits
pub record IsOfWords (call : Call) : Type 0 where
  pub tuple : IsTuple call.args
  pub bounds : AreBounded call.ranges

-- each call of each turn fits
abbrev pub TurnsFit : Spec → List Turn → Type 0
TurnsFit spec turns = AllByRecursion (λ t. AllByRecursion (Fits spec) t.calls) turns

abbrev pub RoundsFit : Spec → List (List Turn) → Type 0
RoundsFit spec rounds = AllByRecursion (TurnsFit spec) rounds

-- each call of some rounds is of such numbers
abbrev pub AreOfWords : List (List Turn) → Type 0
AreOfWords rounds = AllByRecursion (AllByRecursion (λ t. AllByRecursion IsOfWords t.calls)) rounds

-- each turn's thread is one of the workload's
abbrev pub HasThreads : Work → Type 0
HasThreads work = AllByRecursion (λ round. AllByRecursion (λ t. t.thread < work.threads) round) work.rounds
