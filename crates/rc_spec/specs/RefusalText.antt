-- How a refusal is printed.
use Rattle.std.specs.Prelude.{ℕ, List, ◌++◌, codes, get_or}
use Rattle.rc_spec.specs.declared.items.Column.{Column}
use Rattle.rc_spec.specs.declared.items.ColKind.TheVariants.{Num}
use Rattle.rc_spec.specs.declared.refusal.Rule.{Rule}
use Rattle.rc_spec.specs.declared.refusal.Rule.TheVariants.{A1, A2, A3, A4, A5, A6, A7, P1, P2, P3, P4, P5, P6, O1, O2, O3}
use Rattle.rc_spec.specs.declared.refusal.Item.{Item}
use Rattle.rc_spec.specs.declared.refusal.Item.TheVariants.{Node, Edge, Column as Col, Lock, Operation}
use Rattle.rc_spec.specs.declared.refusal.Refusal.{Refusal}
use Rattle.rc_spec.specs.declared.spec.Spec.{Spec}
use Rattle.rc_spec.specs.Decomposition.{node_at, edge_at}
use Rattle.rc_spec.specs.Placement.{class_at, op_at}

abbrev pub rule_text : Rule → List ℕ
rule_text A1 = codes "A1"
rule_text A2 = codes "A2"
rule_text A3 = codes "A3"
rule_text A4 = codes "A4"
rule_text A5 = codes "A5"
rule_text A6 = codes "A6"
rule_text A7 = codes "A7"
rule_text P1 = codes "P1"
rule_text P2 = codes "P2"
rule_text P3 = codes "P3"
rule_text P4 = codes "P4"
rule_text P5 = codes "P5"
rule_text P6 = codes "P6"
rule_text O1 = codes "O1"
rule_text O2 = codes "O2"
rule_text O3 = codes "O3"

-- what kind of item it is
abbrev pub kind_text : Item → List ℕ
kind_text (Node n) = codes "node"
kind_text (Edge n) = codes "edge"
kind_text (Col n) = codes "column"
kind_text (Lock n) = codes "lock"
kind_text (Operation n) = codes "op"

-- what stands where there is no column
abbrev pub no_column : Column
no_column = record { name = codes ""; kind = Num }

abbrev pub item_name : Spec → Item → List ℕ
item_name spec (Node n) = (node_at spec n).name
item_name spec (Edge n) = (edge_at spec n).name
item_name spec (Col n) = (get_or spec.columns n no_column).name
item_name spec (Lock n) = (class_at spec n).name
item_name spec (Operation n) = (op_at spec n).name

-- `refused`, the rule, and the item with its name; without a line feed
abbrev pub refusal_text : Spec → Refusal → List ℕ
refusal_text spec refusal =
    codes "refused " ++ rule_text refusal.rule ++ codes " " ++ kind_text refusal.item ++ codes " " ++ item_name spec refusal.item
