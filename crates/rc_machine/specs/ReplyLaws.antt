-- Laws of answers whose replies are told into a place.
use Rattle.std.specs.Prelude.{◌≡◌, Result, Ok, Err, IfErr, IfOk, OnOk}
use Rattle.std.proofs.Common.{ap, subst}
use Rattle.rc_machine.specs.Imports.{Call, Reply, Holding, SpecWithPlans}
use Rattle.rc_machine.specs.Machine.{HasAnswered, HasRunCall, told_answer}
use Rattle.rc_machine.specs.Stopped.{CountsOnlyHeld}
use Rattle.rc_machine.specs.declared.stop.Stop.{Stop}

-- what follows of the place follows of the answer
pub told_answer_ok : {T E A : Type 0} (P : Reply → Type 0) (result : Result T E) (reply : Reply) → (A → P reply) → OnOk result A → IfOk (told_answer result reply) P
told_answer_ok P (Ok x) reply so is = so is
told_answer_ok P (Err e) reply so is = tt

-- and back
pub told_answer_from_ok : {T E : Type 0} (P : Reply → Type 0) (result : Result T E) (reply : Reply) → IfOk (told_answer result reply) P → OnOk result (P reply)
told_answer_from_ok P (Ok x) reply is = is
told_answer_from_ok P (Err e) reply is = tt

-- a fault is the same
pub told_answer_fault : {T E : Type 0} (P : E → Type 0) (result : Result T E) (reply : Reply) → IfErr result P → IfErr (told_answer result reply) P
told_answer_fault P (Ok x) reply is = tt
told_answer_fault P (Err e) reply is = is

pub told_answer_err : {T E : Type 0} (result : Result T E) (reply : Reply) (e : E) → result ≡ Err e → told_answer result reply ≡ Err e
told_answer_err result reply e is = ap (λ r. told_answer r reply) is

pub told_answer_counts : {T : Type 0} (result : Result T Stop) (reply : Reply) (old new : Holding) → CountsOnlyHeld (told_answer result reply) old new → CountsOnlyHeld result old new
told_answer_counts (Ok x) reply old new is = is
told_answer_counts (Err e) reply old new is = is

-- ---- a run that answered

pub replied_of : (compiled : SpecWithPlans) (call : Call) (old new : Holding) (result : Result Reply Stop) (reply : Reply) → result ≡ Ok reply
    → HasRunCall compiled call old new result → HasAnswered compiled call new reply
replied_of compiled call old new result reply is run = (subst (HasRunCall compiled call old new) is run).answered

pub answered_of : {T : Type 0} (compiled : SpecWithPlans) (call : Call) (old new : Holding) (result : Result T Stop) (x : T) (reply : Reply) → result ≡ Ok x
    → HasRunCall compiled call old new (told_answer result reply) → HasAnswered compiled call new reply
answered_of compiled call old new result x reply is = replied_of compiled call old new (told_answer result reply) reply (ap (λ r. told_answer r reply) is)
