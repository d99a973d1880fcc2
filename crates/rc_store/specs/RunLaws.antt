-- What a run of a plan over a lent row and pass leaves.
use Rattle.std.specs.Prelude.{◌≡◌, ℕ, Bool, List, [], ◌∷◌, Option, None, Some, Result, Ok, Err, IfOk, IfErr, false}
use Rattle.std.proofs.Common.{refl, sym, ap, subst, ◌∙◌}
use Rattle.rc_store.specs.Imports.{Call, Reply, Spec, Fits, Held, HeldStripe, Holding, IsCompiled, SpecWithPlans, plan_at, Stop, HasAnswered, HasRefusedCall, HasReplied, CountsOnlyHeld, IsPassOf, PassSeen, RowSeen, compiled_of, core_of, holds_taken, spec_of}
use Rattle.rc_machine.specs.declared.stop.Stop.TheVariants as stop
use Rattle.rc_store.specs.declared.lender.Refused.{Refused}
use Rattle.rc_store.specs.Busy.{IsBusy}
use Rattle.rc_store.specs.BusyLaws.{busy, none_waits, unrefused}
use Rattle.rc_store.specs.Lending.{IsLentBy, IsLentSo, IsOnTheWay, IsToldOf, IsUnrefused, Lent, held_stripes, lending}
use Rattle.rc_store.specs.LendingLaws.{held_of-lending, lent_first, lent_last}
use Rattle.rc_store.specs.Runs.{IsStoppedFor}

-- what holds of a value that there may be
pub each_ok : {T E : Type 0} {P Q : T → Type 0} (r : Result T E) → ((x : T) → P x → Q x) → IfOk r P → IfOk r Q
each_ok (Ok x) f h = f x h
each_ok (Err e) f h = tt

-- a run from a pass that holds nothing ends with a holder of what was lent
pub lent_run : (waits : Bool) (lent : Option Lent) (row other : RowSeen) (begun now : PassSeen) (first last : Option Refused)
    → lent ≡ Some (record { row = row; begun = begun }) → first ≡ None → holds_taken begun.held ≡ (core_of begun).held → begun.held ≡ []
    → ((spec : Spec) → IsLentSo waits lent row begun first spec → IsLentSo waits lent other now last spec)
    → IsLentBy waits (record { row = row; begun = begun }) other now last (spec_of row)
lent_run waits lent row other begun now first last e none agrees idle sound =
    lent_last waits lent row other begun now last (spec_of row) e
    (sound (spec_of row) (subst (λ (r : Option Refused). IsLentSo waits lent row begun r (spec_of row)) (sym none) (lent_first waits lent row begun (spec_of row) e refl agrees idle)))

module _ (waits : Bool) (row other : RowSeen) (begun now : PassSeen) (last : Option Refused) (l : IsLentBy waits (record { row = row; begun = begun }) other now last (spec_of row)) where
  pub of_row_so : IsPassOf other now → IsPassOf row now
  of_row_so of = subst (λ (r : RowSeen). IsPassOf r now) l.row_is of

  pub way_so : IsOnTheWay row begun now
  way_so = subst (λ (r : RowSeen). IsOnTheWay r begun now) l.row_is l.way

  told : IsToldOf waits row begun now last
  told = subst (λ (r : RowSeen). IsToldOf waits r begun now last) l.row_is l.told

  -- one after which as many refused takes are told as before had none
  pub unrefused_so : (first : Option Refused) (n m : ℕ) → first ≡ None → (lending other now last m).refusals ≡ (lending row begun first n).refusals → IsUnrefused waits begun now
  unrefused_so first n m none same =
      unrefused row other begun now n m waits last told (same ∙ ap (λ (r : Option Refused). (lending row begun r n).refusals) none)

  module _ (compiled : SpecWithPlans) (same : compiled_of row ≡ compiled) (call : Call) where
    pub replied_so : (n : ℕ) (reply : Reply) → HasAnswered compiled call (lending other now last n) reply
        → HasReplied (spec_of row) (plan_at (compiled_of row).plans call.op) call (held_stripes now.held) reply
    replied_so n reply is =
        subst (λ (c : SpecWithPlans). HasReplied c.spec (plan_at c.plans call.op) call (held_stripes now.held) reply) (sym same)
        (subst (λ (hs : List HeldStripe). HasReplied compiled.spec (plan_at compiled.plans call.op) call hs reply) (held_of-lending other now last n) is)

    -- a refused run, of the row and from the pass that were lent
    refused_run : (first : Option Refused) (n m : ℕ) → first ≡ None → (h : Held) → HasRefusedCall compiled call (lending row begun first n) (lending other now last m) h
        → HasRefusedCall (compiled_of row) call (lending row begun None n) (lending row now last m) h
    refused_run first n m none h is =
        subst (λ (x : SpecWithPlans × Option Refused × RowSeen). HasRefusedCall x.0 call (lending row begun x.1 n) (lending x.2 now last m) h)
        (λ i. (sym same i, none i, l.row_is i)) is

    pub none_waits_so : (first : Option Refused) (n m : ℕ) → first ≡ None → (h : Held) → HasRefusedCall compiled call (lending row begun first n) (lending other now last m) h → waits ≡ false
    none_waits_so first n m none h is = none_waits row call begun now n m waits last told h (refused_run first n m none h is)

    pub busy_so : (first : Option Refused) (n m : ℕ) → IsCompiled compiled.spec compiled.plans → Fits compiled.spec call → first ≡ None
        → (h : Held) → HasRefusedCall compiled call (lending row begun first n) (lending other now last m) h → IsBusy row call begun now h.stripe h.found
    busy_so first n m ok fits none h is =
        busy row call begun now n m waits
        (subst (λ (c : SpecWithPlans). IsCompiled c.spec c.plans) (sym same) ok)
        (subst (λ (c : SpecWithPlans). Fits c.spec call) (sym same) fits)
        last told h (refused_run first n m none h is)

module _ (waits : Bool) (row : RowSeen) (call : Call) (begun now : PassSeen) (old new : Holding) (quiet : new.refusals ≡ old.refusals → IsUnrefused waits begun now) where
  -- a run that was refused only for causes stopped for a cause
  pub stopped_so : {T : Type 0} (answer : Result T Stop) → CountsOnlyHeld answer old new
      → ((h : Held) → answer ≡ Err (stop.Held h) → (waits ≡ false) × IsBusy row call begun now h.stripe h.found) → IfErr answer (IsStoppedFor waits row (call ∷ []) begun now)
  stopped_so (Ok x) counted busy = tt
  stopped_so (Err stop.Memory) counted busy = quiet counted
  stopped_so (Err (stop.Held h)) counted busy = busy h refl

  -- and one that answered was not refused
  pub answered_so : {T : Type 0} (answer : Result T Stop) → CountsOnlyHeld answer old new → IfOk answer (λ _. IsUnrefused waits begun now)
  answered_so (Ok x) counted = quiet counted
  answered_so (Err stop) counted = tt
