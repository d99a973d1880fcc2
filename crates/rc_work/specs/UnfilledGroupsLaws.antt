-- What holds of each call that is read.
use Rattle.std.proofs.Common.{◌≡◌, ℕ, Bool, true, false, cond, [], ◌∷◌, ◌++◌, length, Option, Some, None, refl, subst}
use Rattle.std.specs.Prelude.{IfSome, ◌==◌}
use Rattle.std.specs.List.{AllByRecursion}
use Rattle.rc_work.specs.declared.raw.RawCall.{RawCall}
use Rattle.rc_work.specs.declared.raw.RawTurn.{RawTurn}
use Rattle.rc_work.specs.declared.draft.UnfilledGroup.{UnfilledGroup}
use Rattle.rc_work.specs.declared.draft.Draft.{Draft}
use Rattle.rc_work.specs.RawTurnsLaws.{each_push, each_onto_last}
use Rattle.rc_work.specs.UnfilledGroups.{with_next, with_turn, with_call_by, with_call}

-- it holds of each call of the rounds, and of each of the unfilled group
pub record HoldsOfCalls (P : RawCall → Type 0) (draft : Draft) : Type 0 where
  pub rounds : AllByRecursion (AllByRecursion (λ turn. AllByRecursion P turn.calls)) draft.rounds
  pub group : IfSome draft.group (λ group. AllByRecursion P group.turn.calls)

module _ (P : RawCall → Type 0) (draft : Draft) (holds : HoldsOfCalls P draft) where
  holds_turn : (turn : RawTurn) → AllByRecursion P turn.calls → HoldsOfCalls P (with_turn draft turn)
  holds_turn turn here = record {
    rounds = each_onto_last (λ (t : RawTurn). AllByRecursion P t.calls) draft.rounds turn holds.rounds here;
    group = tt;
  }

  holds_group : (group : UnfilledGroup) (filled : Bool) → AllByRecursion P group.turn.calls
      → HoldsOfCalls P (cond filled (with_turn draft group.turn) (record draft { group = Some group }))
  holds_group group true here = holds_turn group.turn here
  holds_group group false here = record { rounds = holds.rounds; group = here }

  holds_by : (found : Option UnfilledGroup) (thread : ℕ) (call : RawCall) → draft.group ≡ found → P call
      → HoldsOfCalls P (with_call_by found draft thread call)
  holds_by None thread call e here = holds_turn (record { thread = thread; calls = call ∷ [] }) (here, tt)
  holds_by (Some group) thread call e here =
      let calls = subst (λ found. IfSome found (λ (g : UnfilledGroup). AllByRecursion P g.turn.calls)) e holds.group in
      holds_group (with_next group call) (length (group.turn.calls ++ call ∷ []) == group.size) (each_push P group.turn.calls call calls here)

  -- and of one call more
  pub holds_call : (thread : ℕ) (call : RawCall) → P call → HoldsOfCalls P (with_call draft thread call)
  holds_call thread call here = holds_by draft.group thread call refl here
