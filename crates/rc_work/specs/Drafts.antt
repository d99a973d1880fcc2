-- What holds of a draft: its lines broke no rule.
use Rattle.std.specs.Prelude.{◌≡◌, ℕ, ◌<◌, ◌≤◌, false, length, IfSome, None}
use Rattle.rc_work.specs.Imports.{AllByRecursion, Spec}
use Rattle.rc_work.specs.declared.also.Also.{Also}
use Rattle.rc_work.specs.declared.also.Also.TheVariants.{Nothing, Groups}
use Rattle.rc_work.specs.declared.raw.RawCall.{RawCall}
use Rattle.rc_work.specs.declared.raw.RawTurn.{RawTurn}
use Rattle.rc_work.specs.declared.draft.UnfilledGroup.{UnfilledGroup}
use Rattle.rc_work.specs.declared.draft.Draft.{Draft}
use Rattle.rc_work.specs.CallColumns.{written_columns_at}
use Rattle.rc_work.specs.LineRules.{has_wrong_kind}
use Rattle.rc_work.specs.UnfilledGroups.{count_in}

-- the operation is one of the specification's, with the columns of a call of it, and a value of the right kind for each
pub record IsRawCall (spec : Spec) (call : RawCall) : Type 0 where
  pub known : call.op < length spec.ops
  pub cols : call.cols ≡ written_columns_at spec call.op
  pub count : length call.values ≡ length (written_columns_at spec call.op)
  pub kinds : has_wrong_kind spec (written_columns_at spec call.op) call.values ≡ false

-- the turn has 1 to 16 calls, and each is right
pub record IsRawTurn (spec : Spec) (turn : RawTurn) : Type 0 where
  pub some : 1 ≤ length turn.calls
  pub few : length turn.calls ≤ 16
  pub calls : AllByRecursion (IsRawCall spec) turn.calls

-- the group is to have at most 16 calls, of which some are to come; those so far are right
pub record IsUnfilledGroup (spec : Spec) (threads : ℕ) (group : UnfilledGroup) : Type 0 where
  pub thread : group.turn.thread < threads
  pub few : group.size ≤ 16
  pub unfilled : length group.turn.calls < group.size
  pub calls : AllByRecursion (IsRawCall spec) group.turn.calls

-- the limits are kept, each thread is below their number, and each turn is right
pub record IsDraft (spec : Spec) (draft : Draft) : Type 0 where
  pub some_thread : 1 ≤ draft.threads
  pub few_threads : draft.threads ≤ 8
  pub few_rounds : length draft.rounds ≤ 64
  pub few_calls : count_in draft ≤ 20000
  pub threads : AllByRecursion (AllByRecursion (λ turn. turn.thread < draft.threads)) draft.rounds
  pub turns : AllByRecursion (AllByRecursion (IsRawTurn spec)) draft.rounds
  pub group : IfSome draft.group (IsUnfilledGroup spec draft.threads)

-- no group is unfilled, and each turn has one call
pub record HasNoGroup (draft : Draft) : Type 0 where
  pub none : draft.group ≡ None
  pub single : AllByRecursion (AllByRecursion (λ turn. length turn.calls ≡ 1)) draft.rounds

-- that is so where groups are not read
abbrev pub IsOfAlso : Also → Draft → Type 0
IsOfAlso Nothing draft = HasNoGroup draft
IsOfAlso Groups draft = Unit {0}
