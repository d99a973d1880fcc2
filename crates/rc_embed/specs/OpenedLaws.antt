-- What an open store has to do with the specification that its text gives, with the most rows of a reply that were asked for.
use Rattle.std.proofs.Common.{◌≡◌, ◌↔◌, ℕ, List, [], ◌∷◌, length, take, drop, Option, ◌++◌, Some, None, Result, Ok, Err, inl, inr, ap, ◌∙◌, refl, subst, sym, arith}
use Rattle.rc_embed.specs.Imports.{slice_get, option_map_or, Pairs, tuple_of, Call, Op, Spec, Fits, value_columns, IsWellNamed, plain, range_columns, HasItsSchema, embedded_named, embedded_schema, fits_same, fitting_of_one_schema, plain_same, value_columns_same, embedded, Hand, no_text_no_plans, IsChosenBy, IsFirstRefused, plan_for, Broken, plans_of, plan_at, PlanRefusal, text_version, Entry, Step, AllFit, AreLegalFrom, StepsFit, after_steps, replay, steps_of, IsGoodHistory, compiled_of, spec_of, call_of, columns_at, ranges_at, ranges_of, with_operations, shapes_of, no_shapes, with_none}
use Rattle.rc_reader.specs.Grammar as lines
use Rattle.rc_embed.specs.declared.opening.Options as asked
use Rattle.rc_embed.specs.declared.fault.OpenFault.{OpenFault}
use Rattle.rc_embed.specs.declared.fault.OpenFault.TheVariants.{Line, Memory, Options, Plan, PlanLine, Rule, ShapeLine, TooLong}
use Rattle.rc_embed.specs.Opened.{ArePlannedOf, IsOfTexts, IsRefusedFor, IsRefusedWith, IsStoreOfTexts, OpenSeen, most_rows_asked}

abbrev ok_of : {A E : Type 0} → A → Result A E
ok_of x = Ok x

same_Ok : {A E : Type 0} (x y : A) → ok_of {E = E} x ≡ Ok y → x ≡ y
same_Ok x y e = cc

-- ---- histories by two specifications of one schema

module _ (spec other : Spec) (same : HasItsSchema spec other) where
  legal_same : (r : List Pairs) (steps : List Step)
      → AreLegalFrom other r steps → AreLegalFrom spec r steps
  legal_same r [] legal = legal
  legal_same r (s ∷ steps) legal =
      let step = plain_same spec other same r s.call in (
        legal.0 ∙ ap (λ o. o.reply) step,
        subst (λ (q : List Pairs). AreLegalFrom spec q steps) (ap (λ o. o.relation) step)
            (legal_same (plain other r s.call).relation steps legal.1),
      )

  after_same : (r : List Pairs) (steps : List Step)
      → after_steps other r steps ≡ after_steps spec r steps
  after_same r [] = refl
  after_same r (s ∷ steps) =
      after_same (plain other r s.call).relation steps
      ∙ ap (λ q. after_steps spec q steps)
      (ap (λ o. o.relation) (plain_same spec other same r s.call))

  steps_fit : (steps : List Step) → StepsFit other steps → StepsFit spec steps
  steps_fit [] fit = fit
  steps_fit (s ∷ steps) fit = (fits_same spec other same s.call fit.0, steps_fit steps fit.1)

  all_fit : (history : List Entry) → AllFit other history → AllFit spec history
  all_fit [] fit = fit
  all_fit (e ∷ history) fit = (steps_fit e.steps fit.0, all_fit history fit.1)

  good_same : (passes : ℕ) (history : List Entry)
      → IsGoodHistory other passes history → IsGoodHistory spec passes history
  good_same passes history good = record {
    legal = legal_same [] (steps_of history) good.legal;
    fit = all_fit history good.fit;
    numbered = good.numbered;
    entries = good.entries;
  }

-- ---- the call that an operation's number and values make

module _ (spec other : Spec) (same : HasItsSchema spec other) where
  columns_of : (found : Option Op)
      → option_map_or (λ op. value_columns other op.pattern op.kind) found []
      ≡ option_map_or (λ op. value_columns spec op.pattern op.kind) found []
  columns_of None = refl
  columns_of (Some op) = value_columns_same spec other same op.pattern op.kind

  columns_same : (op : ℕ) → columns_at other op ≡ columns_at spec op
  columns_same op =
      ap (λ (ops : List Op). option_map_or (λ op. value_columns other op.pattern op.kind) (slice_get ops op) [])
      same.ops
      ∙ columns_of (slice_get spec.ops op)

  ranges_same : (op : ℕ) → ranges_at other op ≡ ranges_at spec op
  ranges_same op =
      ap (λ (ops : List Op). option_map_or (λ op. range_columns op.kind) (slice_get ops op) []) same.ops

  call_same : (op : ℕ) (values : List ℕ) → call_of other op values ≡ call_of spec op values
  call_same op values =
      let columns = columns_same op in
      let ranges = ranges_same op in
      λ i. record {
        op = op;
        args = tuple_of (columns i) (take (length (columns i)) values);
        ranges = ranges_of (ranges i) (drop (length (columns i)) values);
      }

-- ---- the specification of a store of texts, whether it is opened, or goes on from a closed one

-- that of its text with its singletons inlined and its edges placed together
abbrev pub store_spec : OpenSeen → Spec
store_spec opened = spec_of opened.store.row

-- a query answers as many rows one by one as was asked
abbrev pub OpenedRows : Type 0
OpenedRows = (text shapes plans : List ℕ) (options : asked.Options) (opened : OpenSeen) → IsStoreOfTexts text shapes plans options opened
    → (store_spec opened).most_rows ≡ most_rows_asked options

pub opened_rows : OpenedRows
opened_rows text shapes plans options opened is = is.store.most_rows ∙ ap (λ (s : Spec). s.most_rows) (is.of.is ∙ ap (λ (s : Spec). with_operations s is.of.further) is.of.from.is)

-- it has the schema of the text's
abbrev pub OpenedSchema : Type 0
OpenedSchema = (text shapes plans : List ℕ) (options : asked.Options) (opened : OpenSeen) (is : IsStoreOfTexts text shapes plans options opened)
    → HasItsSchema is.spec (store_spec opened)

pub opened_schema : OpenedSchema
opened_schema text shapes plans options opened is = subst (HasItsSchema is.spec) (sym is.store.of_spec) (embedded_schema is.spec)

-- an operation's number and values make one call by both
abbrev pub OpenedCalls : Type 0
OpenedCalls = (text shapes plans : List ℕ) (options : asked.Options) (opened : OpenSeen) (is : IsStoreOfTexts text shapes plans options opened)
    → (op : ℕ) (values : List ℕ) → call_of (store_spec opened) op values ≡ call_of is.spec op values

pub opened_calls : OpenedCalls
opened_calls text shapes plans options opened is =
    call_same is.spec (store_spec opened) (opened_schema text shapes plans options opened is)

-- a call fits one exactly where it fits the other
abbrev pub OpenedFits : Type 0
OpenedFits = (text shapes plans : List ℕ) (options : asked.Options) (opened : OpenSeen) (is : IsStoreOfTexts text shapes plans options opened)
    → (call : Call) → Fits (store_spec opened) call ↔ Fits is.spec call

pub opened_fits : OpenedFits
opened_fits text shapes plans options opened is =
    fitting_of_one_schema is.spec (store_spec opened) (opened_schema text shapes plans options opened is)

-- and does the same by both
abbrev pub OpenedPlain : Type 0
OpenedPlain = (text shapes plans : List ℕ) (options : asked.Options) (opened : OpenSeen) (is : IsStoreOfTexts text shapes plans options opened)
    → (r : List Pairs) (call : Call) → plain (store_spec opened) r call ≡ plain is.spec r call

pub opened_plain : OpenedPlain
opened_plain text shapes plans options opened is =
    plain_same is.spec (store_spec opened) (opened_schema text shapes plans options opened is)

-- a good history of the store is one of the text's specification, and leaves the same relation
abbrev pub HistoriesAreOfTheText : Type 0
HistoriesAreOfTheText = (text shapes plans : List ℕ) (options : asked.Options) (opened : OpenSeen)
    (is : IsStoreOfTexts text shapes plans options opened)
    → (passes : ℕ) (history : List Entry) → IsGoodHistory (store_spec opened) passes history
    → IsGoodHistory is.spec passes history × (replay (store_spec opened) history ≡ replay is.spec history)

pub histories_are_of_the_text : HistoriesAreOfTheText
histories_are_of_the_text text shapes plans options opened is passes history good =
    let same = opened_schema text shapes plans options opened is in (
      good_same is.spec (store_spec opened) same passes history good,
      after_same is.spec (store_spec opened) same [] (steps_of history),
    )

-- ---- operations that the text doesn't declare

-- they stand behind those that it declares, whose numbers don't change
abbrev pub OpenedOperations : Type 0
OpenedOperations = (text shapes plans : List ℕ) (options : asked.Options) (opened : OpenSeen) (is : IsStoreOfTexts text shapes plans options opened)
    → (store_spec opened).ops ≡ is.of.declared.ops ++ is.of.further

pub opened_operations : OpenedOperations
opened_operations text shapes plans options opened is =
    (opened_schema text shapes plans options opened is).ops ∙ ap (λ (s : Spec). s.ops) is.of.is

-- what an empty text of shapes gives
none_further : (text : List ℕ) (spec : Spec) (further : List Op) → shapes_of (text_version text) spec [] ≡ Ok further → further ≡ []
none_further text spec further e =
    let same : ok_of {E = lines.Broken} [] ≡ Ok further = sym (no_shapes (text_version text) spec) ∙ e in sym (same_Ok [] further same)

-- without it the specification is that of the text
pub only_declared : (text : List ℕ) (options : asked.Options) (spec : Spec) (of : IsOfTexts text [] options spec) → spec ≡ of.declared
only_declared text options spec of =
    of.is ∙ ap (with_operations of.declared) (none_further text of.declared of.further of.read) ∙ with_none of.declared

-- and names in the store's are kept apart
abbrev pub OpenedDeclared : Type 0
OpenedDeclared = (text plans : List ℕ) (options : asked.Options) (opened : OpenSeen) (is : IsStoreOfTexts text [] plans options opened)
    → (is.spec ≡ is.of.declared) × IsWellNamed (store_spec opened)

pub opened_declared : OpenedDeclared
opened_declared text plans options opened is =
    let same = only_declared text options is.spec is.of in (
      same,
      subst IsWellNamed (sym (is.store.of_spec ∙ ap embedded same)) (embedded_named is.of.declared is.of.named),
    )

-- ---- a store for which no plan is written

-- each operation has its planned plan
abbrev pub OpenedPlans : Type 0
OpenedPlans = (text : List ℕ) (options : asked.Options) (opened : OpenSeen) → IsStoreOfTexts text [] [] options opened
    → ArePlannedOf (compiled_of opened.store.row)

-- what an empty text gives
none_given : (spec : Spec) (hands : List Hand) → plans_of spec [] ≡ Ok hands → hands ≡ []
none_given spec hands e = let same : ok_of {E = Broken} [] ≡ Ok hands = sym (no_text_no_plans spec) ∙ e in sym (same_Ok [] hands same)

pub opened_plans : OpenedPlans
opened_plans text options opened is op below =
    subst (λ (hands : List Hand). IsChosenBy (store_spec opened) op (plan_for hands op) (plan_at (compiled_of opened.store.row).plans op))
    (none_given (embedded is.of.declared) is.hands is.written.read) (is.store.chosen.each op below)

-- and none of the faults of plans, nor of shapes where no further operation is asked for
pub refused_without_plans : (text : List ℕ) (options : asked.Options) (fault : OpenFault) → IsRefusedWith text [] [] options fault
    → IsRefusedFor text options fault
refused_without_plans text options Memory cause = (cause.0, cause.1.of_text)
refused_without_plans text options Options cause = cause
refused_without_plans text options TooLong (bounds, inl long) = (bounds, long)
refused_without_plans text options TooLong (bounds, inr (inl long)) = absurd (omega (arith, long))
refused_without_plans text options TooLong (bounds, inr (inr long)) = absurd (omega (arith, long))
refused_without_plans text options (Line rule line) (bounds, short, broken) = (bounds, short.of_text, broken)
refused_without_plans text options (Rule spec refusal) (bounds, short, broken) = (bounds, short.of_text, broken)
refused_without_plans text options (ShapeLine rule line) (bounds, short, broken) =
    let same : ok_of {E = lines.Broken} [] ≡ Err (record { rule = rule; line = line }) = sym (no_shapes (text_version text) broken.spec) ∙ broken.broken in
    absurd cc
refused_without_plans text options (PlanLine rule line) (bounds, short, broken) =
    let same : ok_of {E = Broken} [] ≡ Err (record { rule = rule; line = line }) = sym (no_text_no_plans (embedded broken.of.declared)) ∙ broken.broken in
    absurd cc
refused_without_plans text options (Plan spec op refusal) (bounds, short, broken) =
    absurd (none_broken spec op refusal broken.refused.hands
    (none_given (embedded broken.of.declared) broken.refused.hands broken.refused.read) broken.refused.first)
  where
    none_broken : (spec : Spec) (op : ℕ) (refusal : PlanRefusal) (hands : List Hand) → hands ≡ []
        → IsFirstRefused spec hands op refusal → ⊥
    none_broken spec op refusal hands none first =
        no_middle first.front first.hand first.others (sym none ∙ first.whole)
      where
        no_middle : (front : List Hand) (hand : Hand) (others : List Hand) → [] ≡ front ++ hand ∷ others → ⊥
        no_middle [] hand others e = absurd cc
        no_middle (x ∷ front) hand others e = absurd cc
