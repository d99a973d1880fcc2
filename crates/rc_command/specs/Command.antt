-- The command that the words of the command line give.
use Rattle.std.specs.Prelude.{ℕ, ◌<◌, ◌≤◌, ◌^◌, nat_le, nat_lt, ◌&&◌, List, [], ◌∷◌, Option, Some, None, option_map, Result, Ok, Err, codes, if◌then◌else◌}
use Rattle.std.specs.Str.{bytes_eq}
use Rattle.rc_text.specs.Numbers.{u64_of}
use Rattle.rc_text.specs.declared.numbers.NumFault.{NumFault}
use Rattle.rc_spec.specs.Names.{is_name}
use Rattle.rc_command.specs.declared.command.Command.{Command}
use Rattle.rc_command.specs.declared.command.Command.TheVariants.{OfText, Big}
use Rattle.rc_command.specs.declared.command.TextCommand.{TextCommand}
use Rattle.rc_command.specs.declared.command.TextCommand.TheVariants.{Check, Plan, Run, Group, Audit, AuditGroup, AuditJournal, Hand, Open, Dot, DotPlan}

-- the command of a name behind which no word may stand
abbrev pub command_named : List ℕ → Option TextCommand
command_named name = if bytes_eq name (codes "check") then Some Check
    else (if bytes_eq name (codes "plan") then Some Plan
    else (if bytes_eq name (codes "run") then Some Run
    else (if bytes_eq name (codes "hand") then Some Hand
    else (if bytes_eq name (codes "group") then Some Group
    else (if bytes_eq name (codes "open") then Some Open else None)))))

-- `dot` with a word that an operation can have as its name
abbrev pub dot_of : List ℕ → Option Command
dot_of op = if is_name op then Some (OfText (DotPlan op)) else None

-- `audit` with a word: what stands behind the workload is the journal alone, or what `group` is said to have printed
abbrev pub audit_of : List ℕ → Option Command
audit_of form = if bytes_eq form (codes "bare") then Some (OfText AuditJournal)
    else (if bytes_eq form (codes "group") then Some (OfText AuditGroup) else None)

-- a seed has 31 bits, and a generated workload 1 to 20,000 calls
abbrev pub big_within : ℕ → ℕ → Option Command
big_within seed calls = if nat_lt seed (2 ^ 31) && (nat_le 1 calls && nat_le calls 20000) then Some (Big seed calls) else None

abbrev pub big_of : Result ℕ NumFault → Result ℕ NumFault → Option Command
big_of (Ok seed) (Ok calls) = big_within seed calls
big_of (Ok seed) (Err fault) = None
big_of (Err fault) calls = None

-- The program's name, and then a name alone, `dot` with a name that an operation can have, `audit` with a form, or `big` with a
-- seed and a number of calls.
abbrev pub command_of : List (List ℕ) → Option Command
command_of [] = None
command_of (program ∷ []) = None
command_of (program ∷ name ∷ []) = if bytes_eq name (codes "dot") then Some (OfText Dot)
    else (if bytes_eq name (codes "audit") then Some (OfText Audit) else option_map OfText (command_named name))
command_of (program ∷ name ∷ word ∷ []) = if bytes_eq name (codes "dot") then dot_of word
    else (if bytes_eq name (codes "audit") then audit_of word else None)
command_of (program ∷ name ∷ seed ∷ calls ∷ []) = if bytes_eq name (codes "big") then big_of (u64_of seed) (u64_of calls) else None
command_of (program ∷ name ∷ seed ∷ calls ∷ other ∷ words) = None

-- what is generated keeps the limits
abbrev pub IsWithinLimits : Command → Type 0
IsWithinLimits (OfText command) = Unit {0}
IsWithinLimits (Big seed calls) = (seed < 2 ^ 31) × (1 ≤ calls) × (calls ≤ 20000)
