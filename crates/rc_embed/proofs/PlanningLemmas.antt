-- What opening a store with written plans answers.
use Rattle.std.proofs.Common.{◌≡◌, ℕ, ◌<◌, List, [], ◌∷◌, length, take, Result, Ok, Err, IfOk, IfErr, inl, inr, refl, sym, ap, ◌∙◌, subst, arith}
use Rattle.rc_embed.proofs.Imports.{In, append_in_right, Op, Spec, IsAccepted, IsWellNamed, embedded, embedded_schema, IsCompiled, SpecWithPlans, PlanRefusal, Hand, AllKeepRules, AreChosen, IsFirstRefused, plans_of, AreHands, OpenFault, Line, Options, Plan, PlanLine, Rule, ShapeLine, TooLong, text_version, compiled_of, HasKnownColumns, with_operations, shapes_of, OpenFrame, BreaksRule, HasRefusal, IsOpenedBy, IsOpenedWithBy, IsRefusedBy, IsRefusedWithBy, TellsFault, options_asked, opened_plans, refused_without_plans, AreInBounds, ArePlannedOf, AreShort, IsAskedBy, IsBuiltOf, IsCompiledWith, IsMadeOf, IsOfTexts, IsOpened, IsOpenedWith, IsStoreOfTexts, IsPlannedWith, IsRefusedFor, IsRefusedPlan, IsRefusedWith, IsUnplannedFor, OpenSeen}
use Rattle.rc_embed.specs.declared.fault.OpenFault.TheVariants.{Memory}
use Rattle.rc_embed.specs.declared.opening.Options as asked

-- its operation is one of the specification's
pub first_is_known : (spec : Spec) (hands : List Hand) (op : ℕ) (refusal : PlanRefusal) → AreHands spec hands
    → IsFirstRefused spec hands op refusal → op < length spec.ops
first_is_known spec hands op refusal are first =
    subst (λ (n : ℕ). n < length spec.ops) first.op_is
    (are.ops first.hand
    (subst (In first.hand) (sym first.whole) (append_in_right first.hand first.front (first.hand ∷ first.others) (inl refl))))

pub refused_plan : (declared spec own planned : Spec) (plans : List ℕ) (hands : List Hand) (op : ℕ) (refusal : PlanRefusal)
    → own ≡ embedded spec → plans_of (embedded declared) plans ≡ Ok hands → AreHands own hands → planned ≡ own
    → IsFirstRefused own hands op refusal → IsRefusedPlan declared spec plans planned op refusal
refused_plan declared spec own planned plans hands op refusal is read are same first = record {
  is = same ∙ is;
  hands = hands;
  read = read;
  known = subst (λ (s : Spec). op < length s.ops) (sym same) (first_is_known own hands op refusal are first);
  first = subst (λ (s : Spec). IsFirstRefused s hands op refusal) (sym same) first;
}

-- an accepted specification with further operations is planned
pub planned_with : (declared spec own : Spec) (plans : List ℕ) (hands : List Hand) (compiled : SpecWithPlans)
    → own ≡ embedded spec → plans_of (embedded declared) plans ≡ Ok hands → compiled.spec ≡ own
    → AllKeepRules own hands → AreChosen own hands compiled.plans → IsPlannedWith declared spec plans compiled
planned_with declared spec own plans hands compiled is read same kept chosen = record {
  hands = hands;
  spec_is = same ∙ is;
  written = record { read = read; kept = subst (λ (s : Spec). AllKeepRules s hands) is kept };
  chosen = subst (λ (s : Spec). AreChosen s hands compiled.plans) (sym same) chosen;
}

-- ---- what opening a store answers

module _ (text shapes plans : List ℕ) (options : asked.Options) (bounds : AreInBounds options) (short : AreShort text shapes plans) where
  module _ (spec : Spec) (from : IsAskedBy text options spec) (accepted : IsAccepted spec) (named : IsWellNamed spec) where
    module _ (further : List Op) (read : shapes_of (text_version text) spec shapes ≡ Ok further) where
      abbrev of_texts : IsOfTexts text shapes options (with_operations spec further)
      of_texts = record { declared = spec; further = further; from = from; accepted = accepted; named = named; read = read; is = refl }

      -- its operations aren't planned
      pub unplanned : (fault : OpenFault) → IsUnplannedFor spec (with_operations spec further) plans fault
          → IsRefusedWith text shapes plans options fault
      unplanned Memory cause = (bounds, short)
      unplanned Options cause = absurd cause
      unplanned TooLong cause = absurd cause
      unplanned (Line rule line) cause = absurd cause
      unplanned (Rule broken refusal) cause = absurd cause
      unplanned (ShapeLine rule line) cause = absurd cause
      unplanned (PlanLine rule line) cause =
          (bounds, short, record { spec = with_operations spec further; of = of_texts; broken = cause })
      unplanned (Plan planned op refusal) cause =
          (bounds, short, record { spec = with_operations spec further; of = of_texts; refused = cause })

      -- they are planned
      pub compiled_with : (compiled : SpecWithPlans) → IsPlannedWith spec (with_operations spec further) plans compiled
          → HasKnownColumns compiled.spec → IsCompiledWith text shapes plans options compiled
      compiled_with compiled planned columns = record {
        spec = with_operations spec further;
        short = short;
        of = of_texts;
        planned = planned;
        columns = columns;
      }

-- a store of what is planned is one of the texts
pub store_of_texts : (text shapes plans : List ℕ) (options : asked.Options) → AreInBounds options → (compiled : SpecWithPlans)
    → IsCompiledWith text shapes plans options compiled → (opened : OpenSeen) → IsMadeOf compiled options opened
    → IsStoreOfTexts text shapes plans options opened
store_of_texts text shapes plans options bounds compiled with_plans opened made =
    let of = ap (λ (z : SpecWithPlans). z.spec) made.compiled_is ∙ with_plans.planned.spec_is in
    record {
      spec = with_plans.spec;
      hands = with_plans.planned.hands;
      allowed = bounds;
      short = with_plans.short;
      of = with_plans.of;
      written = with_plans.planned.written;
      store = record {
        of_spec = of;
        columns = subst (λ (z : SpecWithPlans). HasKnownColumns z.spec) (sym made.compiled_is) with_plans.columns;
        most_rows = ap (λ (s : Spec). s.most_rows) of ∙ (embedded_schema with_plans.spec).most_rows;
        chosen = subst (λ (z : SpecWithPlans). AreChosen z.spec with_plans.planned.hands z.plans) (sym made.compiled_is) with_plans.planned.chosen;
        compiled = subst (λ (z : SpecWithPlans). IsCompiled z.spec z.plans) (sym made.compiled_is) made.accepted;
        counts = made.counts;
        number = made.number;
        limit = made.limit;
        seed = made.seed;
      };
    }

-- a new one is opened
pub opened_with : (text shapes plans : List ℕ) (options : asked.Options) → AreInBounds options → (compiled : SpecWithPlans)
    → IsCompiledWith text shapes plans options compiled → (opened : OpenSeen) → IsBuiltOf compiled options opened
    → IsOpenedWith text shapes plans options opened
opened_with text shapes plans options bounds compiled with_plans opened built = record {
  texts = store_of_texts text shapes plans options bounds compiled with_plans opened built.made;
  history = built.history;
  passes = built.passes;
}

-- a store that is opened without shapes, and without plans, and the faults of opening it
pub without_shapes : (text shapes plans : List ℕ) (options : asked.Options) (r : Result OpenSeen OpenFault) → shapes ≡ []
    → IfOk r (IsOpenedWith text shapes plans options) → IfOk r (IsOpenedWith text [] plans options)
without_shapes text shapes plans options (Ok opened) none is = subst (λ (l : List ℕ). IsOpenedWith text l plans options opened) none is
without_shapes text shapes plans options (Err fault) none is = tt

pub unshaped : (text shapes plans : List ℕ) (options : asked.Options) (r : Result OpenSeen OpenFault) → shapes ≡ []
    → IfErr r (IsRefusedWith text shapes plans options) → IfErr r (IsRefusedWith text [] plans options)
unshaped text shapes plans options (Ok opened) none cause = tt
unshaped text shapes plans options (Err fault) none cause = subst (λ (l : List ℕ). IsRefusedWith text l plans options fault) none cause

pub without_plans : (text plans : List ℕ) (options : asked.Options) (r : Result OpenSeen OpenFault) → plans ≡ []
    → IfOk r (IsOpenedWith text [] plans options) → IfOk r (IsOpened text options)
without_plans text plans options (Ok opened) none is = subst (λ (l : List ℕ). IsOpenedWith text [] l options opened) none is
without_plans text plans options (Err fault) none is = tt

pub plans_planned : (text : List ℕ) (options : asked.Options) (r : Result OpenSeen OpenFault)
    → IfOk r (IsOpened text options) → IfOk r (λ opened. ArePlannedOf (compiled_of opened.store.row))
plans_planned text options (Ok opened) is = opened_plans text options opened is.texts
plans_planned text options (Err fault) is = tt

pub none_refused : (text plans : List ℕ) (options : asked.Options) (r : Result OpenSeen OpenFault) → plans ≡ []
    → IfErr r (IsRefusedWith text [] plans options) → IfErr r (IsRefusedFor text options)
none_refused text plans options (Ok opened) none cause = tt
none_refused text plans options (Err fault) none cause =
    refused_without_plans text options fault (subst (λ (p : List ℕ). IsRefusedWith text [] p options fault) none cause)

-- what comes of what is planned
module _ (text shapes plans : List ℕ) (options : asked.Options) (bounds : AreInBounds options) (short : AreShort text shapes plans)
    (spec : Spec) (from : IsAskedBy text options spec) (accepted : IsAccepted spec) (named : IsWellNamed spec)
    (further : List Op) (read : shapes_of (text_version text) spec shapes ≡ Ok further) where
  pub compiled_if : (r : Result SpecWithPlans OpenFault) → IfOk r (IsPlannedWith spec (with_operations spec further) plans)
      → IfOk r (λ compiled. HasKnownColumns compiled.spec) → IfOk r (IsCompiledWith text shapes plans options)
  compiled_if (Ok compiled) planned columns =
      compiled_with text shapes plans options bounds short spec from accepted named further read compiled planned columns
  compiled_if (Err fault) planned columns = tt

  pub uncompiled_if : (r : Result SpecWithPlans OpenFault) → IfErr r (IsUnplannedFor spec (with_operations spec further) plans)
      → IfErr r (IsRefusedWith text shapes plans options)
  uncompiled_if (Ok compiled) cause = tt
  uncompiled_if (Err fault) cause = unplanned text shapes plans options bounds short spec from accepted named further read fault cause

-- what comes of a store that is built
pub opened_if : (P Q : OpenSeen → Type 0) (r : Result OpenSeen OpenFault) → IfOk r P
    → ((opened : OpenSeen) → P opened → Q opened) → IfOk r Q
opened_if P Q (Ok opened) is more = more opened is
opened_if P Q (Err fault) is more = tt

-- ---- frames

-- where memory is wanted for the refusal of a text, nothing else was wrong before
pub memory_too : (text shapes plans : List ℕ) (options : asked.Options) (fault : OpenFault) → BreaksRule fault
    → IsRefusedWith text shapes plans options fault → IsRefusedWith text shapes plans options Memory
memory_too text shapes plans options Memory breaks cause = absurd breaks
memory_too text shapes plans options Options breaks cause = absurd breaks
memory_too text shapes plans options TooLong breaks cause = absurd breaks
memory_too text shapes plans options (Line rule line) breaks cause = (cause.0, cause.1)
memory_too text shapes plans options (Rule spec refusal) breaks cause = (cause.0, cause.1)
memory_too text shapes plans options (ShapeLine rule line) breaks cause = (cause.0, cause.1)
memory_too text shapes plans options (PlanLine rule line) breaks cause = (cause.0, cause.1)
memory_too text shapes plans options (Plan spec op refusal) breaks cause = (cause.0, cause.1)

-- no refusal is told
pub tells_none : (frame : OpenFrame) → frame.length ≡ 0 → HasRefusal [] frame
tells_none frame none = record {
  told = λ short. (none, ap (λ (n : ℕ). take n frame.refusal) none);
  long = λ above. absurd (omega (arith, above));
}

-- why no store is opened, as the frame tells it
pub refused_with_by : (text shapes plans : List ℕ) (before after : OpenFrame) (options : asked.Options) → options ≡ options_asked before
    → (fault : OpenFault) → IsRefusedWith text shapes plans options fault → (code : ℕ) → TellsFault fault after code
    → IsRefusedWithBy text shapes plans before after code
refused_with_by text shapes plans before after options is fault cause code (inl (code_is, told)) = record {
  fault = fault;
  cause = subst (λ (o : asked.Options). IsRefusedWith text shapes plans o fault) is cause;
  code_is = code_is;
  told = told;
}
refused_with_by text shapes plans before after options is fault cause code (inr (code_is, breaks, none)) = record {
  fault = Memory;
  cause = subst (λ (o : asked.Options). IsRefusedWith text shapes plans o Memory) is
      (memory_too text shapes plans options fault breaks cause);
  code_is = code_is;
  told = tells_none after none;
}

-- what comes of a text without shapes, and without plans
module _ (text : List ℕ) (before after : OpenFrame) where
  pub unshaped_by : (shapes plans : List ℕ) (r : Result OpenSeen ℕ) → shapes ≡ []
      → IfErr r (IsRefusedWithBy text shapes plans before after) → IfErr r (IsRefusedWithBy text [] plans before after)
  unshaped_by shapes plans (Ok opened) none refused = tt
  unshaped_by shapes plans (Err code) none refused =
      subst (λ (l : List ℕ). IsRefusedWithBy text l plans before after code) none refused

  pub opened_unshaped : (shapes plans : List ℕ) (r : Result OpenSeen ℕ) → shapes ≡ []
      → IfOk r (IsOpenedWithBy text shapes plans before) → IfOk r (IsOpenedWithBy text [] plans before)
  opened_unshaped shapes plans (Ok opened) none is = subst (λ (l : List ℕ). IsOpenedWithBy text l plans before opened) none is
  opened_unshaped shapes plans (Err code) none is = tt

  pub opened_alone : (plans : List ℕ) (r : Result OpenSeen ℕ) → plans ≡ []
      → IfOk r (IsOpenedWithBy text [] plans before) → IfOk r (IsOpenedBy text before)
  opened_alone plans (Ok opened) none is = subst (λ (l : List ℕ). IsOpenedWithBy text [] l before opened) none is
  opened_alone plans (Err code) none is = tt

  pub refused_by : (plans : List ℕ) (r : Result OpenSeen ℕ) → plans ≡ []
      → IfErr r (IsRefusedWithBy text [] plans before after) → IfErr r (IsRefusedBy text before after)
  refused_by plans (Ok opened) none refused = tt
  refused_by plans (Err code) none refused = record {
    fault = refused.fault;
    cause = refused_without_plans text (options_asked before) refused.fault
        (subst (λ (p : List ℕ). IsRefusedWith text [] p (options_asked before) refused.fault) none refused.cause);
    code_is = refused.code_is;
    told = refused.told;
  }
