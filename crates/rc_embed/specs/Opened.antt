-- What opening a store answers, and what it hands out.
use Rattle.std.specs.Prelude.{◌≡◌, ◌⊎◌, ℕ, ◌-◌, ◌<◌, ◌≤◌, ◌^◌, List, [], ◌∷◌, Result, Ok, Err, IfSome, length, unwrap_or}
use Rattle.rc_embed.specs.Imports.{Spec, Refusal, IsAccepted, IsFirstBroken, IsItemOf, IsWellNamed, Op, op_at, embedded, Hand, HandRule, AllKeepRules, AreChosen, IsFirstRefused, plans_of, PlanRefusal, IsCompiled, SpecWithPlans, plan_at, IsPlanned, text_version, LineRule, Counts, history_by, PassSeen, compiled_of, new_passes, StoreSeen, HasKnownColumns, with_operations, shapes_of}
use Rattle.rc_reader.specs.Grammar.{spec_of}
use Rattle.rc_row.specs.Passes as rows
use Rattle.rc_embed.specs.declared.fault.OpenFault.{OpenFault}
use Rattle.rc_embed.specs.declared.fault.OpenFault.TheVariants.{Memory, Options, TooLong, Line}
use Rattle.rc_embed.specs.declared.fault.OpenFault.TheVariants.{Plan, PlanLine, Rule, ShapeLine}
use Rattle.rc_embed.specs.declared.opening.Options as asked
use Rattle.rc_embed.specs.declared.session.State.TheVariants.{Idle}
use Rattle.rc_embed.specs.Session.{SessionSeen}

-- an open store: the store, and the passes that no session has
pub record OpenSeen : Type 0 where
  pub store : StoreSeen
  pub passes : List PassSeen

-- 1 to 2^32 - 1 rows
abbrev pub AreRowsInBounds : ℕ → Type 0
AreRowsInBounds rows = (1 ≤ rows) × (rows < 2 ^ 32)

-- the passes, the limit and the rows, where these are limited, are in their ranges
pub record AreInBounds (options : asked.Options) : Type 0 where
  pub some : 1 ≤ options.passes
  pub passes : options.passes ≤ 255
  pub limited : 1 ≤ options.limit
  pub limit : options.limit ≤ 2 ^ 48
  pub rows : IfSome options.rows AreRowsInBounds

-- the most rows that a query answers one by one: as is asked, or else no limit
abbrev pub most_rows_asked : asked.Options → ℕ
most_rows_asked options = unwrap_or options.rows (2 ^ 64 - 1)

-- the specification with as many rows as is asked
abbrev pub spec_asked : asked.Options → Spec → Spec
spec_asked options spec = record spec { most_rows = most_rows_asked options }

-- each operation has its planned plan
abbrev pub ArePlannedOf : SpecWithPlans → Type 0
ArePlannedOf compiled = (op : ℕ) → op < length compiled.spec.ops
    → IsPlanned compiled.spec (op_at compiled.spec op) (plan_at compiled.plans op)

-- The plans that a text gives for the declared operations of the specification that a store has: of the one with its
-- singletons inlined and its edges placed together. Each keeps K1 to K7.
pub record AreWritten (declared spec : Spec) (plans : List ℕ) (hands : List Hand) : Type 0 where
  pub read : plans_of (embedded declared) plans ≡ Ok hands
  pub kept : AllKeepRules (embedded spec) hands

-- A store of the specification with its singletons inlined and its edges placed together, which keeps the most rows of a
-- reply, whose operations name no column twice in pattern and ranges, and have the plans that are written, and else their
-- planned plans, which are accepted, for as many passes as are asked for, with the limit and the seed that were given, of
-- whose passes none keeps its entries.
pub record IsStoreOf (spec : Spec) (hands : List Hand) (options : asked.Options) (opened : OpenSeen) : Type 0 where
  pub of_spec : rows.spec_of opened.store.row ≡ embedded spec
  pub columns : HasKnownColumns (rows.spec_of opened.store.row)
  pub most_rows : (rows.spec_of opened.store.row).most_rows ≡ spec.most_rows
  pub chosen : AreChosen (rows.spec_of opened.store.row) hands (compiled_of opened.store.row).plans
  pub compiled : IsCompiled (rows.spec_of opened.store.row) (compiled_of opened.store.row).plans
  pub counts : opened.store.row.keeping ≡ Counts
  pub number : opened.store.row.key.passes ≡ options.passes
  pub limit : opened.store.limit ≡ options.limit
  pub seed : opened.store.row.key.seed ≡ options.seed

-- the text gives the specification, but for the most rows of a reply, which are as is asked
pub record IsAskedBy (text : List ℕ) (options : asked.Options) (spec : Spec) : Type 0 where
  pub written : Spec
  pub read : spec_of text ≡ Ok written
  pub is : spec ≡ spec_asked options written

-- The text gives an accepted specification, the text of shapes gives further operations, and this is the
-- specification with them behind its own.
pub record IsOfTexts (text shapes : List ℕ) (options : asked.Options) (spec : Spec) : Type 0 where
  pub declared : Spec
  pub further : List Op
  pub from : IsAskedBy text options declared
  pub accepted : IsAccepted declared
  pub named : IsWellNamed declared
  pub read : shapes_of (text_version text) declared shapes ≡ Ok further
  pub is : spec ≡ with_operations declared further

-- each of the texts has at most 2^24 bytes
pub record AreShort (text shapes plans : List ℕ) : Type 0 where
  pub of_text : length text ≤ 2 ^ 24
  pub of_shapes : length shapes ≤ 2 ^ 24
  pub of_plans : length plans ≤ 2 ^ 24

-- The texts give an accepted specification with further operations, and plans of the operations that it declares, and this is a
-- store of all of it, with the most rows of a reply that are asked for. The laws of stores of texts want no more than this: so
-- they hold of a store that is opened, and of one that goes on from a closed one.
pub record IsStoreOfTexts (text shapes plans : List ℕ) (options : asked.Options) (opened : OpenSeen) : Type 0 where
  pub spec : Spec
  pub hands : List Hand
  pub allowed : AreInBounds options
  pub short : AreShort text shapes plans
  pub of : IsOfTexts text shapes options spec
  pub written : AreWritten of.declared spec plans hands
  pub store : IsStoreOf spec hands options opened

-- It is a new one: its history has no entry, and so it has no tuple; and it has all of its passes, by number. None of them has
-- made a call.
pub record IsOpenedWith (text shapes plans : List ℕ) (options : asked.Options) (opened : OpenSeen) : Type 0 where
  pub texts : IsStoreOfTexts text shapes plans options opened
  pub history : history_by opened.store.row.key ≡ []
  pub passes : opened.passes ≡ new_passes opened.store.row

-- So it is with no further operation, and with no plan written: each operation has its planned plan (`ArePlannedOf`).
abbrev pub IsOpened : List ℕ → asked.Options → OpenSeen → Type 0
IsOpened text options opened = IsOpenedWith text [] [] options opened

-- the text gives a specification that isn't accepted, and this is the first rule that it breaks,
-- with the first item that breaks it
pub record IsRuleOf (text : List ℕ) (options : asked.Options) (spec : Spec) (refusal : Refusal) : Type 0 where
  pub from : IsAskedBy text options spec
  pub first : IsFirstBroken spec refusal
  pub item : IsItemOf spec refusal.item

-- the text gives an accepted specification, and this is the first rule of the lines of shapes that the other text breaks, and
-- its line
pub record IsShapeLineOf (text shapes : List ℕ) (options : asked.Options) (rule : LineRule) (line : ℕ) : Type 0 where
  pub spec : Spec
  pub from : IsAskedBy text options spec
  pub accepted : IsAccepted spec
  pub broken : shapes_of (text_version text) spec shapes ≡ Err (record { rule = rule; line = line })

-- the texts give an accepted specification with further operations, and this is the first rule of the lines of plans that the
-- text of these breaks, for the declared operations of the specification that the store would have, and its line
pub record IsPlanLineOf (text shapes plans : List ℕ) (options : asked.Options) (rule : HandRule) (line : ℕ) : Type 0 where
  pub spec : Spec
  pub of : IsOfTexts text shapes options spec
  pub broken : plans_of (embedded of.declared) plans ≡ Err (record { rule = rule; line = line })

-- An accepted specification is refused with plans that a text gives: as a store would have it, with the operations that it
-- doesn't declare, that of this operation is the first that breaks one of K1 to K7, and this is the first rule that it breaks.
pub record IsRefusedPlan (declared spec : Spec) (plans : List ℕ) (planned : Spec) (op : ℕ) (refusal : PlanRefusal) : Type 0 where
  pub is : planned ≡ embedded spec
  pub hands : List Hand
  pub read : plans_of (embedded declared) plans ≡ Ok hands
  pub known : op < length planned.ops
  pub first : IsFirstRefused planned hands op refusal

-- so it is where texts give the specification
pub record IsPlanOf (text shapes plans : List ℕ) (options : asked.Options) (planned : Spec) (op : ℕ) (refusal : PlanRefusal) : Type 0 where
  pub spec : Spec
  pub of : IsOfTexts text shapes options spec
  pub refused : IsRefusedPlan of.declared spec plans planned op refusal

-- one of the texts has more than 2^24 bytes
abbrev pub IsLong : List ℕ → List ℕ → List ℕ → Type 0
IsLong text shapes plans = (2 ^ 24 < length text) ⊎ ((2 ^ 24 < length shapes) ⊎ (2 ^ 24 < length plans))

-- Why there is this fault: for the options first, then for the length of one of the texts, then for the first line rule
-- that the specification's breaks, then for the first rule of acceptance, then for the first rule of lines that the shapes'
-- text breaks, then for the first that the plans' text does, and then for the first rule that a plan does.
abbrev pub IsRefusedWith : List ℕ → List ℕ → List ℕ → asked.Options → OpenFault → Type 0
IsRefusedWith text shapes plans options Memory = AreInBounds options × AreShort text shapes plans
IsRefusedWith text shapes plans options Options = AreInBounds options → ⊥
IsRefusedWith text shapes plans options TooLong = AreInBounds options × IsLong text shapes plans
IsRefusedWith text shapes plans options (Line rule line) =
    AreInBounds options × AreShort text shapes plans
    × (spec_of text ≡ Err (record { rule = rule; line = line }))
IsRefusedWith text shapes plans options (Rule spec refusal) =
    AreInBounds options × AreShort text shapes plans × IsRuleOf text options spec refusal
IsRefusedWith text shapes plans options (ShapeLine rule line) =
    AreInBounds options × AreShort text shapes plans × IsShapeLineOf text shapes options rule line
IsRefusedWith text shapes plans options (PlanLine rule line) =
    AreInBounds options × AreShort text shapes plans × IsPlanLineOf text shapes plans options rule line
IsRefusedWith text shapes plans options (Plan spec op refusal) =
    AreInBounds options × AreShort text shapes plans × IsPlanOf text shapes plans options spec op refusal

-- why there is this fault where no further operation is asked for and no plan is written: for the options first, then for the text's length, then for its first
-- broken line rule
abbrev pub IsRefusedFor : List ℕ → asked.Options → OpenFault → Type 0
IsRefusedFor text options Memory = AreInBounds options × (length text ≤ 2 ^ 24)
IsRefusedFor text options Options = AreInBounds options → ⊥
IsRefusedFor text options TooLong = AreInBounds options × (2 ^ 24 < length text)
IsRefusedFor text options (Line rule line) =
    AreInBounds options × (length text ≤ 2 ^ 24)
    × (spec_of text ≡ Err (record { rule = rule; line = line }))
IsRefusedFor text options (Rule spec refusal) =
    AreInBounds options × (length text ≤ 2 ^ 24) × IsRuleOf text options spec refusal
IsRefusedFor text options (ShapeLine rule line) = ⊥
IsRefusedFor text options (PlanLine rule line) = ⊥
IsRefusedFor text options (Plan spec op refusal) = ⊥

-- why a specification isn't read
abbrev pub IsUnreadFor : List ℕ → OpenFault → Type 0
IsUnreadFor text Memory = Unit {0}
IsUnreadFor text Options = ⊥
IsUnreadFor text TooLong = ⊥
IsUnreadFor text (Line rule line) = spec_of text ≡ Err (record { rule = rule; line = line })
IsUnreadFor text (Rule spec refusal) = ⊥
IsUnreadFor text (ShapeLine rule line) = ⊥
IsUnreadFor text (PlanLine rule line) = ⊥
IsUnreadFor text (Plan spec op refusal) = ⊥

-- what reading an accepted specification answers
abbrev pub ReadsAccepted : List ℕ → asked.Options → Result Spec OpenFault → Type 0
ReadsAccepted text options (Ok spec) = IsAskedBy text options spec × IsAccepted spec
ReadsAccepted text options (Err Memory) = Unit {0}
ReadsAccepted text options (Err Options) = ⊥
ReadsAccepted text options (Err TooLong) = ⊥
ReadsAccepted text options (Err (Line rule line)) = spec_of text ≡ Err (record { rule = rule; line = line })
ReadsAccepted text options (Err (Rule spec refusal)) = IsRuleOf text options spec refusal
ReadsAccepted text options (Err (ShapeLine rule line)) = ⊥
ReadsAccepted text options (Err (PlanLine rule line)) = ⊥
ReadsAccepted text options (Err (Plan spec op refusal)) = ⊥

-- why a text of shapes isn't read
abbrev pub AreShapesUnreadFor : List ℕ → List ℕ → Spec → OpenFault → Type 0
AreShapesUnreadFor text shapes spec Memory = Unit {0}
AreShapesUnreadFor text shapes spec Options = ⊥
AreShapesUnreadFor text shapes spec TooLong = ⊥
AreShapesUnreadFor text shapes spec (Line rule line) = ⊥
AreShapesUnreadFor text shapes spec (Rule broken refusal) = ⊥
AreShapesUnreadFor text shapes spec (ShapeLine rule line) =
    shapes_of (text_version text) spec shapes ≡ Err (record { rule = rule; line = line })
AreShapesUnreadFor text shapes spec (PlanLine rule line) = ⊥
AreShapesUnreadFor text shapes spec (Plan planned op refusal) = ⊥

-- what reading the plans of a specification's operations answers, where they aren't read
abbrev pub AreUnreadFor : Spec → List ℕ → OpenFault → Type 0
AreUnreadFor spec plans Memory = Unit {0}
AreUnreadFor spec plans Options = ⊥
AreUnreadFor spec plans TooLong = ⊥
AreUnreadFor spec plans (Line rule line) = ⊥
AreUnreadFor spec plans (Rule broken refusal) = ⊥
AreUnreadFor spec plans (ShapeLine rule line) = ⊥
AreUnreadFor spec plans (PlanLine rule line) = plans_of spec plans ≡ Err (record { rule = rule; line = line })
AreUnreadFor spec plans (Plan planned op refusal) = ⊥

-- an accepted specification with further operations, as a store has it, with the plans that are written and else the planned
-- ones
pub record IsPlannedWith (declared spec : Spec) (plans : List ℕ) (compiled : SpecWithPlans) : Type 0 where
  pub hands : List Hand
  pub spec_is : compiled.spec ≡ embedded spec
  pub written : AreWritten declared spec plans hands
  pub chosen : AreChosen compiled.spec hands compiled.plans

-- why an accepted specification isn't planned with plans that are written
abbrev pub IsUnplannedFor : Spec → Spec → List ℕ → OpenFault → Type 0
IsUnplannedFor declared spec plans Memory = Unit {0}
IsUnplannedFor declared spec plans Options = ⊥
IsUnplannedFor declared spec plans TooLong = ⊥
IsUnplannedFor declared spec plans (Line rule line) = ⊥
IsUnplannedFor declared spec plans (Rule broken refusal) = ⊥
IsUnplannedFor declared spec plans (ShapeLine rule line) = ⊥
IsUnplannedFor declared spec plans (PlanLine rule line) = plans_of (embedded declared) plans ≡ Err (record { rule = rule; line = line })
IsUnplannedFor declared spec plans (Plan planned op refusal) = IsRefusedPlan declared spec plans planned op refusal

-- The texts give an accepted specification with further operations, and this is it as a store has it, with the plans that are
-- written for the operations that the text declares, and else the planned ones.
pub record IsCompiledWith (text shapes plans : List ℕ) (options : asked.Options) (compiled : SpecWithPlans) : Type 0 where
  pub spec : Spec
  pub short : AreShort text shapes plans
  pub of : IsOfTexts text shapes options spec
  pub planned : IsPlannedWith of.declared spec plans compiled
  pub columns : HasKnownColumns compiled.spec

-- a store of a specification with plans, for as many sessions and calls as is asked
pub record IsMadeOf (compiled : SpecWithPlans) (options : asked.Options) (opened : OpenSeen) : Type 0 where
  pub compiled_is : compiled_of opened.store.row ≡ compiled
  pub accepted : IsCompiled compiled.spec compiled.plans
  pub counts : opened.store.row.keeping ≡ Counts
  pub number : opened.store.row.key.passes ≡ options.passes
  pub limit : opened.store.limit ≡ options.limit
  pub seed : opened.store.row.key.seed ≡ options.seed

-- a new one, with no history, and with all of its passes
pub record IsBuiltOf (compiled : SpecWithPlans) (options : asked.Options) (opened : OpenSeen) : Type 0 where
  pub made : IsMadeOf compiled options opened
  pub history : history_by opened.store.row.key ≡ []
  pub passes : opened.passes ≡ new_passes opened.store.row

-- a session of the store with this pass: no call is prepared, and it tells no reply yet
abbrev pub new_session : StoreSeen → PassSeen → SessionSeen
new_session store pass = record { store = store; state = Idle pass; last = []; picked = 0 }

-- it is a new session, with the first of the passes
pub record HasDealt (old new : OpenSeen) (session : SessionSeen) : Type 0 where
  pub pass : PassSeen
  pub was : old.passes ≡ pass ∷ new.passes
  pub is : session ≡ new_session old.store pass
