-- Names, and when the items of a specification are well named.
use Rattle.std.specs.Prelude.{◌≡◌, ℕ, Bool, true, false, ◌==◌, ◌&&◌, ◌||◌, nat_le, List, [], ◌∷◌, ◌++◌, length, map}
use Rattle.rc_spec.specs.Imports.{list_all, is_ascii_digit, is_ascii_lowercase, In, AreDistinct}
use Rattle.rc_spec.specs.declared.items.Column.{Column}
use Rattle.rc_spec.specs.declared.items.Node.{Node}
use Rattle.rc_spec.specs.declared.items.Edge.{Edge}
use Rattle.rc_spec.specs.declared.items.Class.{Class}
use Rattle.rc_spec.specs.declared.items.Op.{Op}
use Rattle.rc_spec.specs.declared.spec.Spec.{Spec}
use Rattle.rc_spec.specs.Ranges.{range_columns}

-- a byte of a name: `a` to `z`, `0` to `9` and `_`
abbrev pub is_name_byte : ℕ → Bool
is_name_byte b = is_ascii_lowercase b || (is_ascii_digit b || b == 95)

abbrev pub begins_name : List ℕ → Bool
begins_name [] = false
begins_name (b ∷ bs) = is_ascii_lowercase b

-- 1 to 16 bytes of a name, the first of them a letter
abbrev pub is_name : List ℕ → Bool
is_name word = begins_name word && (nat_le (length word) 16 && list_all is_name_byte word)

abbrev pub column_names : List Column → List (List ℕ)
column_names columns = map (λ column. column.name) columns

abbrev pub node_names : List Node → List (List ℕ)
node_names nodes = map (λ node. node.name) nodes

abbrev pub edge_names : List Edge → List (List ℕ)
edge_names edges = map (λ edge. edge.name) edges

abbrev pub class_names : List Class → List (List ℕ)
class_names classes = map (λ class. class.name) classes

abbrev pub op_names : List Op → List (List ℕ)
op_names ops = map (λ op. op.name) ops

-- the names of the items of one kind: each is a name, and all differ
pub record AreNames (names : List (List ℕ)) : Type 0 where
  pub each : (name : List ℕ) → In name names → is_name name ≡ true
  pub distinct : AreDistinct names

-- the items of each kind have different names, and no operation's pattern and ranges name a column twice
pub record IsWellNamed (spec : Spec) : Type 0 where
  pub columns : AreNames (column_names spec.columns)
  pub nodes : AreNames (node_names spec.nodes)
  pub edges : AreNames (edge_names spec.edges)
  pub classes : AreNames (class_names spec.classes)
  pub ops : AreNames (op_names spec.ops)
  pub patterns : (op : Op) → In op spec.ops → AreDistinct (op.pattern ++ range_columns op.kind)
