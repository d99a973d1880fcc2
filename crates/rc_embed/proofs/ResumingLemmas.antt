-- What resuming a closed store answers.
use Rattle.std.proofs.Common.{◌≡◌, ℕ, List, Result, Ok, Err, IfOk, IfErr, inl, inr, sym, subst}
use Rattle.rc_embed.proofs.Imports.{SpecWithPlans, Extends, ClosedSeen, ResumeFault, Refused, Sessions, Limit, Other, OpenFrame, options_asked, AreInBounds, IsCompiledWith, OpenSeen, BreaksRuleOf, IsUnresumedBy, TellsResumeFault, IsOneOf, IsOneResumed, IsResumedOf, IsResumedWith, IsUnresumedFor, Suffices}
use Rattle.rc_embed.specs.declared.fault.OpenFault.TheVariants as faults
use Rattle.rc_embed.specs.declared.opening.Options as asked
use Rattle.rc_embed.proofs.PlanningLemmas.{memory_too, store_of_texts, tells_none}

-- what comes of what is so
pub ok_if : {A E : Type 0} (P Q : A → Type 0) (r : Result A E) → IfOk r P → ((x : A) → P x → Q x) → IfOk r Q
ok_if P Q (Ok x) is more = more x is
ok_if P Q (Err y) is more = tt

pub err_if : {A E : Type 0} (P Q : E → Type 0) (r : Result A E) → IfErr r P → ((y : E) → P y → Q y) → IfErr r Q
err_if P Q (Ok x) is more = tt
err_if P Q (Err y) is more = more y is

module _ (closed : ClosedSeen) (text shapes plans : List ℕ) (options : asked.Options) where
  module _ (bounds : AreInBounds options) (suffices : Suffices closed options) where
    module _ (compiled : SpecWithPlans) (with_plans : IsCompiledWith text shapes plans options compiled) where
      -- memory is wanted
      pub no_memory : (fault : ResumeFault) → fault ≡ Refused faults.Memory → IsUnresumedFor closed text shapes plans options fault
      no_memory fault is =
          subst (IsUnresumedFor closed text shapes plans options) (sym is) ((bounds, with_plans.short), λ _. suffices)

      module _ (further : Extends closed.compiled.spec compiled.spec) where
        -- a store goes on
        pub resumed_with : (opened : OpenSeen) → IsResumedOf closed compiled options opened
            → IsResumedWith closed text shapes plans options opened
        resumed_with opened of = record {
          texts = store_of_texts text shapes plans options bounds compiled with_plans opened of.made;
          suffices = suffices;
          further = subst (λ (z : SpecWithPlans). Extends closed.compiled.spec z.spec) (sym of.made.compiled_is) further;
          resumed = of.resumed;
          all = of.all;
        }

        pub one_resumed : (stores : List OpenSeen) → IsOneOf closed compiled options stores
            → IsOneResumed closed text shapes plans options stores
        one_resumed stores one = (one.0, one.1, resumed_with one.0 one.2)

-- ---- frames

module _ (closed : ClosedSeen) (text shapes plans : List ℕ) (options : asked.Options) where
  -- where memory is wanted for the refusal of a text, nothing else was wrong before
  pub memory_resumed : (fault : ResumeFault) → BreaksRuleOf fault → IsUnresumedFor closed text shapes plans options fault
      → IsUnresumedFor closed text shapes plans options (Refused faults.Memory)
  memory_resumed (Refused fault) breaks cause = (memory_too text shapes plans options fault breaks cause.0, cause.1)
  memory_resumed Sessions breaks cause = absurd breaks
  memory_resumed Limit breaks cause = absurd breaks
  memory_resumed Other breaks cause = absurd breaks

-- why a closed store doesn't go on, as the frame tells it
pub unresumed_by : (closed : ClosedSeen) (text shapes plans : List ℕ) (before after : OpenFrame) (options : asked.Options)
    → options ≡ options_asked before → (fault : ResumeFault) → IsUnresumedFor closed text shapes plans options fault
    → (code : ℕ) → TellsResumeFault fault after code → IsUnresumedBy closed text shapes plans before after code
unresumed_by closed text shapes plans before after options is fault cause code (inl (code_is, told)) = record {
  fault = fault;
  cause = subst (λ (o : asked.Options). IsUnresumedFor closed text shapes plans o fault) is cause;
  code_is = code_is;
  told = told;
}
unresumed_by closed text shapes plans before after options is fault cause code (inr (code_is, breaks, none)) = record {
  fault = Refused faults.Memory;
  cause = subst (λ (o : asked.Options). IsUnresumedFor closed text shapes plans o (Refused faults.Memory)) is
      (memory_resumed closed text shapes plans options fault breaks cause);
  code_is = code_is;
  told = tells_none after none;
}
