-- The plans that a store prints open a store with the same plans.
use Rattle.std.proofs.Common.{◌≡◌, ℕ, List, [], ◌∷◌, Result, Ok, Err, inl, refl, sym, ap, ◌∙◌, subst}
use Rattle.rc_text_laws.specs.Imports.{In, append_in_right, Spec, op_at, embedded, ArePlansOf, refused_law, PlanRefusal, Statement, Hand, AllKeepRules, AreChosen, IsFirstRefused, plans_of, compiled_of, spec_of, Line, Memory, Options, Plan, PlanLine, Rule, ShapeLine, TooLong, IsAskedBy, IsStoreOfTexts, OpenSeen, spec_asked, only_declared, opened_declared}
use Rattle.rc_reader.specs.Grammar as grammar
use Rattle.rc_handplan.specs.HandGrammar.{Broken}
use Rattle.rc_embed.specs.declared.opening.Options as asked
use Rattle.rc_text_laws.specs.PlansAloneLaws.{printed_plans_are_chosen, printed_plans_are_taken}
use Rattle.rc_text_laws.specs.PlansRead.{all_hands}
use Rattle.rc_text_laws.specs.StorePlans.{CanBeGivenBack, PrintedPlansAreNotRefused, PrintedPlansAreTheStores, plans_printed}

abbrev ok_of : {A E : Type 0} → A → Result A E
ok_of x = Ok x

same_Ok : {A E : Type 0} (x y : A) → ok_of {E = E} x ≡ Ok y → x ≡ y
same_Ok x y e = cc

-- a text gives one specification
one_asked : (text : List ℕ) (options : asked.Options) (spec other : Spec) → IsAskedBy text options spec
    → IsAskedBy text options other → spec ≡ other
one_asked text options spec other from also =
    let same : ok_of {E = grammar.Broken} from.written ≡ Ok also.written = sym from.read ∙ also.read in
    from.is ∙ ap (spec_asked options) (same_Ok from.written also.written same) ∙ sym also.is

-- a plan that is refused doesn't keep the rules
none_refused : (spec : Spec) (hands : List Hand) (op : ℕ) (refusal : PlanRefusal) → AllKeepRules spec hands
    → IsFirstRefused spec hands op refusal → ⊥
none_refused spec hands op refusal keep first =
    refused_law spec (op_at spec first.hand.op) first.hand.plan refusal first.first
    (keep first.hand
    (subst (In first.hand) (sym first.whole) (append_in_right first.hand first.front (first.hand ∷ first.others) (inl refl))))

module _ (text plans : List ℕ) (options : asked.Options) (opened : OpenSeen) (is : IsStoreOfTexts text [] plans options opened) (can : CanBeGivenBack opened) where
  abbrev own : Spec
  own = spec_of opened.store.row

  abbrev own_plans : List (List Statement)
  own_plans = (compiled_of opened.store.row).plans

  of_own : ArePlansOf own own_plans
  of_own = is.store.compiled.planned

  -- any store of the text and options has its specification
  own_is : (spec : Spec) → IsAskedBy text options spec → embedded spec ≡ own
  own_is spec from =
      let declared = opened_declared text plans options opened is in
      sym (is.store.of_spec ∙ ap embedded (declared.0 ∙ one_asked text options is.of.declared spec is.of.from from))

  -- what they are read as, by that specification
  read : (spec : Spec) → IsAskedBy text options spec
      → plans_of (embedded spec) (plans_printed opened) ≡ Ok (all_hands own own_plans)
  read spec from =
      ap (λ (s : Spec). plans_of s (plans_printed opened)) (own_is spec from)
      ∙ printed_plans_are_taken own own_plans is.store.compiled.sealed.in_range (opened_declared text plans options opened is).1 of_own can.sets can.short

  hands_are : (spec : Spec) (hands : List Hand) → IsAskedBy text options spec
      → plans_of (embedded spec) (plans_printed opened) ≡ Ok hands → hands ≡ all_hands own own_plans
  hands_are spec hands from e =
      let same : ok_of {E = Broken} hands ≡ Ok (all_hands own own_plans) = sym e ∙ read spec from in
      same_Ok hands (all_hands own own_plans) same

pub printed_plans_are_not_refused : PrintedPlansAreNotRefused
printed_plans_are_not_refused text plans options opened is can Memory cause = tt
printed_plans_are_not_refused text plans options opened is can Options cause = tt
printed_plans_are_not_refused text plans options opened is can TooLong cause = tt
printed_plans_are_not_refused text plans options opened is can (Line rule line) cause = tt
printed_plans_are_not_refused text plans options opened is can (Rule spec refusal) cause = tt
printed_plans_are_not_refused text plans options opened is can (ShapeLine rule line) cause = tt
printed_plans_are_not_refused text plans options opened is can (PlanLine rule line) cause =
    let broken = cause.2 in
    let same : ok_of {E = Broken} (all_hands (spec_of opened.store.row) (compiled_of opened.store.row).plans)
    ≡ Err (record { rule = rule; line = line }) =
    sym (read text plans options opened is can broken.of.declared broken.of.from) ∙ broken.broken in
    absurd cc
printed_plans_are_not_refused text plans options opened is can (Plan planned op refusal) cause =
    let given = cause.2 in
    let refused = given.refused in
    let here : planned ≡ spec_of opened.store.row =
    refused.is ∙ ap embedded (only_declared text options given.spec given.of)
    ∙ own_is text plans options opened is can given.of.declared given.of.from in
    let hands = hands_are text plans options opened is can given.of.declared refused.hands given.of.from refused.read in
    none_refused (spec_of opened.store.row) (all_hands (spec_of opened.store.row) (compiled_of opened.store.row).plans) op refusal
    (printed_plans_are_chosen (spec_of opened.store.row) (compiled_of opened.store.row).plans is.store.compiled.planned).0
    (subst (λ (h : List Hand). IsFirstRefused (spec_of opened.store.row) h op refusal) hands
    (subst (λ (s : Spec). IsFirstRefused s refused.hands op refusal) here refused.first))

pub printed_plans_are_the_stores : PrintedPlansAreTheStores
printed_plans_are_the_stores text plans options opened is can again also op below =
    let own = spec_of opened.store.row in
    let own_plans = (compiled_of opened.store.row).plans in
    let here : spec_of again.store.row ≡ own =
    also.store.of_spec ∙ ap embedded (only_declared text options also.spec also.of)
    ∙ own_is text plans options opened is can also.of.declared also.of.from in
    let hands = hands_are text plans options opened is can also.of.declared also.hands also.of.from also.written.read in
    (printed_plans_are_chosen own own_plans is.store.compiled.planned).1 (compiled_of again.store.row).plans
    (subst (λ (h : List Hand). AreChosen own h (compiled_of again.store.row).plans) hands
    (subst (λ (s : Spec). AreChosen s also.hands (compiled_of again.store.row).plans) here also.store.chosen)) op below
