-- Frames by which stores are opened and operations looked up.
use Rattle.std.specs.Prelude.{◌≡◌, ◌⊎◌, ℕ, ◌<◌, ◌≤◌, ◌==◌, List, [], ◌++◌, get_or, length, take, Option, Some, None, if◌then◌else◌}
use Rattle.std.specs.Prelude as text
use Rattle.rc_embed.specs.Imports.{Seed, seed_of, OpKind, Spec, IsItemOf, op_names, op_at, refusal_text, LineRule, number_among, line_rule_text, HandRule, hand_rule_text, plan_refusal_text, written_columns_at}
use Rattle.rc_spec.specs.declared.items.OpKind.TheVariants as kinds
use Rattle.rc_embed.specs.declared.fault.OpenFault.{OpenFault}
use Rattle.rc_embed.specs.declared.fault.OpenFault.TheVariants.{Memory, Options, TooLong, Line}
use Rattle.rc_embed.specs.declared.fault.OpenFault.TheVariants.{Plan, PlanLine, Rule, ShapeLine}
use Rattle.rc_embed.specs.declared.fault.SessionFault.{SessionFault}
use Rattle.rc_embed.specs.declared.fault.SessionFault.TheVariants as sessions
use Rattle.rc_embed.specs.declared.open_frame.OpenFrame.{OpenFrame}
use Rattle.rc_embed.specs.declared.open_frame.OperationFrame.{OperationFrame}
use Rattle.rc_embed.specs.declared.opening.Options as asked
use Rattle.rc_embed.specs.Codes as codes
use Rattle.rc_embed.specs.Declaring.{pattern_at}
use Rattle.rc_embed.specs.Opened.{IsOpenedWith, IsRefusedFor, IsRefusedWith, OpenSeen}

-- ---- stores

-- the most rows of a reply that a frame asks for; 0 asks for no limit
abbrev pub rows_asked : ℕ → Option ℕ
rows_asked rows = if rows == 0 then None else Some rows

-- the seed of a frame's two numbers
abbrev pub seed_asked : OpenFrame → Seed
seed_asked frame = seed_of (get_or frame.seed 0 0) (get_or frame.seed 1 0)

-- what a frame asks for
abbrev pub options_asked : OpenFrame → asked.Options
options_asked frame = record {
  passes = frame.passes;
  limit = frame.limit;
  rows = rows_asked frame.rows;
  seed = seed_asked frame;
}

-- the code of a fault
abbrev pub open_code : OpenFault → ℕ
open_code Memory = codes.memory
open_code Options = codes.options
open_code TooLong = codes.too_long
open_code (Line rule line) = codes.line
open_code (Rule spec refusal) = codes.rule
open_code (ShapeLine rule line) = codes.shape_line
open_code (PlanLine rule line) = codes.plan_line
open_code (Plan spec op refusal) = codes.plan

-- the code of a session that does not begin
abbrev pub session_code : SessionFault → ℕ
session_code sessions.Memory = codes.memory
session_code sessions.NoneLeft = codes.none_left

-- the refusal of a text for its first broken line rule
abbrev pub line_text : LineRule → ℕ → List ℕ
line_text rule line =
    text.codes "refused " ++ line_rule_text rule ++ text.codes " line " ++ text.decimal line

-- that of plans for the first broken rule of their lines
abbrev pub plan_line_text : HandRule → ℕ → List ℕ
plan_line_text rule line =
    text.codes "refused " ++ hand_rule_text rule ++ text.codes " line " ++ text.decimal line

-- the refusal of a text, as the command line prints it, and nothing for other faults
abbrev pub fault_text : OpenFault → List ℕ
fault_text Memory = []
fault_text Options = []
fault_text TooLong = []
fault_text (Line rule line) = line_text rule line
fault_text (Rule spec refusal) = refusal_text spec refusal
fault_text (ShapeLine rule line) = line_text rule line
fault_text (PlanLine rule line) = plan_line_text rule line
fault_text (Plan spec op refusal) = plan_refusal_text spec op refusal

-- the item that breaks a rule, or the operation whose plan does, is one of the specification's
abbrev pub HasItem : OpenFault → Type 0
HasItem Memory = Unit {0}
HasItem Options = Unit {0}
HasItem TooLong = Unit {0}
HasItem (Line rule line) = Unit {0}
HasItem (Rule spec refusal) = IsItemOf spec refusal.item
HasItem (ShapeLine rule line) = Unit {0}
HasItem (PlanLine rule line) = Unit {0}
HasItem (Plan spec op refusal) = op < length spec.ops

-- a text has the fault: it breaks a line rule, a rule of acceptance or one of plans, and its refusal is told
abbrev pub BreaksRule : OpenFault → Type 0
BreaksRule Memory = ⊥
BreaksRule Options = ⊥
BreaksRule TooLong = ⊥
BreaksRule (Line rule line) = Unit {0}
BreaksRule (Rule spec refusal) = Unit {0}
BreaksRule (ShapeLine rule line) = Unit {0}
BreaksRule (PlanLine rule line) = Unit {0}
BreaksRule (Plan spec op refusal) = Unit {0}

-- the frame tells the refusal, where it has room for it
pub record HasRefusal (text : List ℕ) (frame : OpenFrame) : Type 0 where
  pub told : length text ≤ 64
      → (frame.length ≡ length text) × (take frame.length frame.refusal ≡ text)
  pub long : 64 < length text → frame.length ≡ 0

-- the code and the frame tell the fault; or memory was wanted for the refusal of a text, and none is told
abbrev pub TellsFault : OpenFault → OpenFrame → ℕ → Type 0
TellsFault fault frame code =
    ((code ≡ open_code fault) × HasRefusal (fault_text fault) frame)
    ⊎ ((code ≡ codes.memory) × BreaksRule fault × (frame.length ≡ 0))

-- what the frame asks stays
pub record KeepsAsked (before after : OpenFrame) : Type 0 where
  pub passes : after.passes ≡ before.passes
  pub limit : after.limit ≡ before.limit
  pub rows : after.rows ≡ before.rows
  pub seed : after.seed ≡ before.seed

-- the text gives a specification that keeps all rules, the other texts give shapes and plans that do, and this is a new store
-- of all three, as the frame asks
abbrev pub IsOpenedWithBy : List ℕ → List ℕ → List ℕ → OpenFrame → OpenSeen → Type 0
IsOpenedWithBy text shapes plans frame store = IsOpenedWith text shapes plans (options_asked frame) store

-- so it is with no further operation, and no plan written
abbrev pub IsOpenedBy : List ℕ → OpenFrame → OpenSeen → Type 0
IsOpenedBy text frame store = IsOpenedWithBy text [] [] frame store

-- a store was opened by the texts, as the frame asks, and the frame tells no refusal
pub record HasOpenedWith (text shapes plans : List ℕ) (before after : OpenFrame) : Type 0 where
  pub store : OpenSeen
  pub opened : IsOpenedWithBy text shapes plans before store
  pub none : after.length ≡ 0

-- no store was opened, for a cause, which the code and the frame tell
pub record IsRefusedAs (IsCause : asked.Options → OpenFault → Type 0) (before after : OpenFrame) (code : ℕ) : Type 0 where
  pub fault : OpenFault
  pub cause : IsCause (options_asked before) fault
  pub code_is : code ≡ open_code fault
  pub told : HasRefusal (fault_text fault) after

abbrev pub IsRefusedWithBy : List ℕ → List ℕ → List ℕ → OpenFrame → OpenFrame → ℕ → Type 0
IsRefusedWithBy text shapes plans before after code = IsRefusedAs (IsRefusedWith text shapes plans) before after code

abbrev pub IsRefusedBy : List ℕ → OpenFrame → OpenFrame → ℕ → Type 0
IsRefusedBy text before after code = IsRefusedAs (IsRefusedFor text) before after code

-- ---- operations

abbrev pub op_kind_code : OpKind → ℕ
op_kind_code (kinds.Query outs ranges) = 0
op_kind_code kinds.Insert = 1
op_kind_code kinds.Remove = 2
op_kind_code kinds.Update = 3

-- how many values a row of the reply has
abbrev pub row_width : Spec → OpKind → ℕ
row_width spec (kinds.Query outs ranges) = length outs
row_width spec kinds.Insert = 0
row_width spec kinds.Remove = length spec.columns
row_width spec kinds.Update = length spec.columns

-- the frame tells of the operation with this number
pub record TellsOperation (spec : Spec) (op : ℕ) (frame : OperationFrame) : Type 0 where
  pub number : frame.op ≡ op
  pub kind : frame.kind ≡ op_kind_code (op_at spec op).kind
  pub count : frame.count ≡ length (written_columns_at spec op)
  pub width : frame.width ≡ row_width spec (op_at spec op).kind
  pub columns : take frame.count frame.columns ≡ written_columns_at spec op
  pub pattern_count : frame.pattern_count ≡ length (pattern_at spec op)
  pub pattern : take frame.pattern_count frame.pattern ≡ pattern_at spec op

-- the name that is asked for stays
pub record KeepsName (before after : OperationFrame) : Type 0 where
  pub length : after.length ≡ before.length
  pub name : after.name ≡ before.name

abbrev pub IsToldOperation : Spec → Option ℕ → OperationFrame → OperationFrame → ℕ → Type 0
IsToldOperation spec None before after code = (code ≡ codes.operation) × (after ≡ before)
IsToldOperation spec (Some op) before after code =
    (code ≡ codes.done) × TellsOperation spec op after × KeepsName before after

-- the operation that the frame names, where there is one
pub record AnswersOperation (spec : Spec) (before after : OperationFrame) (code : ℕ) : Type 0 where
  pub wide : 16 < before.length → (code ≡ codes.operation) × (after ≡ before)
  pub named : before.length ≤ 16
      → IsToldOperation spec
      (number_among (op_names spec.ops) (take before.length before.name)) before after code
