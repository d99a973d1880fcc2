-- The drawing of a specification, and of the plan of one of its operations: meant as a digraph in the language of Graphviz. (PLDI 2011,
-- decompositions as graphs; PLDI 2012, lock placement.)
use Rattle.std.specs.Prelude.{ℕ, ◌+◌, ◌-◌, ◌%◌, ◌==◌, Bool, false, List, [], ◌∷◌, ◌++◌, codes, filter, get_or, length}
use Rattle.std.specs.List.{flat_map, range_with_len}
use Rattle.std.specs.Fmt.{decimal}
use Rattle.rc_spec.specs.declared.items.EdgeKind.{EdgeKind}
use Rattle.rc_spec.specs.declared.items.EdgeKind.TheVariants as kinds
use Rattle.rc_spec.specs.declared.items.Node.{Node}
use Rattle.rc_spec.specs.declared.spec.Spec.{Spec}
use Rattle.rc_spec.specs.Decomposition.{edge_at, node_at}
use Rattle.rc_spec.specs.Placement.{class_at, class_of, op_at}
use Rattle.rc_spec.specs.RefusalText.{no_column}
use Rattle.rc_spec.specs.Stripes.{band_start}
use Rattle.rc_plan.specs.declared.statement.Statement.{Statement}
use Rattle.rc_plan.specs.Access.{is_read_of}
use Rattle.rc_plan.specs.declared.statement.Statement.TheVariants.{Lock, Probe, Read, CheckAbsent, CheckFound, CheckDep, Apply, Emit, Commit, Release}
use Rattle.rc_plan.specs.PlanText.{column_text, statement_text}

-- ---- words

-- the colours of lock classes, by their numbers; behind the last the first comes again
abbrev pub colours : List (List ℕ)
colours =
    codes "#1b6ca8" ∷ codes "#b5442f" ∷ codes "#3c7d3c" ∷ codes "#7a4a9e" ∷ codes "#a0720b" ∷ codes "#0b7a75" ∷ codes "#a03668"
    ∷ codes "#555555" ∷ []

unfoldable pub colour_of : ℕ → List ℕ
colour_of class = get_or colours (class % length colours) []

-- the names of columns, parted by a space
abbrev pub columns_text : Spec → List ℕ → List ℕ
columns_text spec [] = []
columns_text spec (c ∷ cols) = (get_or spec.columns c no_column).name ++ flat_map (column_text spec) cols

-- the container of an edge in its label
abbrev pub container_text : EdgeKind → List ℕ
container_text kinds.Hash = codes " hash ("
container_text kinds.Ordered = codes " ordered ("
container_text kinds.List = codes " list ("
container_text kinds.Singleton = codes " singleton ("

-- how the arrow of an edge is drawn
abbrev pub stroke_text : EdgeKind → List ℕ
stroke_text kinds.Hash = codes "solid"
stroke_text kinds.Ordered = codes "dashed"
stroke_text kinds.List = codes "bold"
stroke_text kinds.Singleton = codes "dotted"

-- and how thick, where some statement reads the edge: a bold arrow is thicker than others
abbrev pub width_text : EdgeKind → List ℕ → List ℕ
width_text kind [] = []
width_text kinds.Hash (n ∷ numbers) = codes ", penwidth=3"
width_text kinds.Ordered (n ∷ numbers) = codes ", penwidth=3"
width_text kinds.List (n ∷ numbers) = codes ", penwidth=5"
width_text kinds.Singleton (n ∷ numbers) = codes ", penwidth=3"

-- ---- the statements that read an edge

-- the numbers, from 0, of the statements of a plan that read an edge
abbrev pub read_numbers : List Statement → ℕ → List ℕ
read_numbers plan e = filter (λ place. is_read_of e (get_or plan place Commit)) (range_with_len 0 (length plan))

abbrev pub number_text : ℕ → List ℕ
number_text n = codes " " ++ decimal n

-- a line of the label, where some statement reads the edge
abbrev pub reads_text : List ℕ → List ℕ
reads_text [] = []
reads_text (n ∷ numbers) = codes " read at" ++ flat_map number_text (n ∷ numbers) ++ codes "\\l"

-- ---- nodes and edges

-- a box with the node's name and its columns
abbrev pub node_line : Spec → Node → List ℕ
node_line spec node =
    codes "  \"" ++ node.name ++ codes "\" [label=\"" ++ node.name ++ codes "\\n{" ++ columns_text spec node.cols ++ codes "}\"];\n"

-- from the source to the target
abbrev pub ends_text : Spec → ℕ → List ℕ
ends_text spec e =
    codes "  \"" ++ (node_at spec (edge_at spec e).from).name ++ codes "\" -> \"" ++ (node_at spec (edge_at spec e).to).name ++ codes "\" [label=\" "

-- the edge's name, its container with the key, its lock class, and the statements that read it
abbrev pub label_text : Spec → ℕ → List ℕ → List ℕ
label_text spec e numbers =
    (edge_at spec e).name ++ container_text (edge_at spec e).kind ++ columns_text spec (edge_at spec e).key ++ codes ")\\l lock "
    ++ (class_at spec (class_of spec e)).name ++ codes "\\l" ++ reads_text numbers

-- the arrow by the container, and thick where it is read; the colour by the lock class
abbrev pub style_text : Spec → ℕ → List ℕ → List ℕ
style_text spec e numbers =
    codes "\", style=" ++ stroke_text (edge_at spec e).kind ++ width_text (edge_at spec e).kind numbers
    ++ codes ", color=\"" ++ colour_of (class_of spec e) ++ codes "\", fontcolor=\"" ++ colour_of (class_of spec e) ++ codes "\"];\n"

abbrev pub drawn_edge : Spec → ℕ → List ℕ → List ℕ
drawn_edge spec e numbers = ends_text spec e ++ label_text spec e numbers ++ style_text spec e numbers

-- the edge with what a plan reads of it
abbrev pub edge_line : Spec → List Statement → ℕ → List ℕ
edge_line spec plan e = drawn_edge spec e (read_numbers plan e)

unfoldable pub head_text : List ℕ
head_text =
    codes "digraph relc {\n  node [shape=box, style=rounded, fontname=\"Helvetica\", fontsize=11];\n"
    ++ codes "  edge [fontname=\"Helvetica\", fontsize=10, arrowsize=0.7];\n"

-- the nodes and the edges in written order, with what a plan reads
abbrev pub graph_text : Spec → List Statement → List ℕ
graph_text spec plan = head_text ++ flat_map (node_line spec) spec.nodes ++ flat_map (edge_line spec plan) (range_with_len 0 (length spec.edges))

-- ---- the table of lock classes

unfoldable pub classes_head : List ℕ
classes_head =
    codes "  \"lock classes\" [shape=plain, label=<\n"
    ++ codes "    <table border=\"0\" cellborder=\"1\" cellspacing=\"0\" cellpadding=\"4\">\n"
    ++ codes "    <tr><td colspan=\"4\">lock classes, in the order in which they are taken</td></tr>\n"
    ++ codes "    <tr><td>class</td><td>columns</td><td>stripes</td><td>physical stripes</td></tr>\n"

-- the end of a table
unfoldable pub table_end : List ℕ
table_end = codes "    </table>>];\n"

abbrev pub class_cell : Spec → ℕ → List ℕ
class_cell spec c =
    codes "    <tr><td bgcolor=\"" ++ colour_of c ++ codes "\"><font color=\"white\">" ++ (class_at spec c).name ++ codes "</font></td><td>("

-- how many stripes there are, and the first and the last of the band
abbrev pub stripes_cells : ℕ → ℕ → List ℕ
stripes_cells start stripes =
    codes ")</td><td>" ++ decimal stripes ++ codes "</td><td>" ++ decimal start ++ codes ".." ++ decimal (start + stripes - 1) ++ codes "</td></tr>\n"

-- a line with the class's name, its columns, its stripes and its band
abbrev pub class_line : Spec → ℕ → List ℕ
class_line spec c =
    class_cell spec c ++ columns_text spec (class_at spec c).cols ++ stripes_cells (band_start spec c) (class_at spec c).stripes

abbrev pub classes_table : Spec → List ℕ
classes_table spec = classes_head ++ flat_map (class_line spec) (range_with_len 0 (length spec.classes)) ++ table_end

-- ---- the table of a plan

unfoldable pub plan_head : List ℕ
plan_head =
    codes "  \"the plan\" [shape=plain, label=<\n"
    ++ codes "    <table border=\"0\" cellborder=\"1\" cellspacing=\"0\" cellpadding=\"4\">\n"
    ++ codes "    <tr><td align=\"right\" balign=\"right\"><br/>\n"

unfoldable pub plan_middle : List ℕ
plan_middle = codes "</td><td align=\"left\" balign=\"left\">"

unfoldable pub plan_end : List ℕ
plan_end = codes "</td></tr>\n    </table>>];\n"

-- a line within a cell
abbrev pub table_line : List ℕ → List ℕ
table_line text = text ++ codes "<br/>\n"

-- the number of a statement in a line of its own
abbrev pub number_line : ℕ → List ℕ
number_line n = table_line (decimal n)

abbrev pub statement_table_line : Spec → Statement → List ℕ
statement_table_line spec x = table_line (statement_text spec x)

-- `plan` and the operation's name, and then a line for each statement
abbrev pub plan_table_lines : Spec → ℕ → List Statement → List ℕ
plan_table_lines spec op plan = table_line (codes "plan " ++ (op_at spec op).name) ++ flat_map (statement_table_line spec) plan

-- the statements of the plan, numbered from 0 beside it
abbrev pub plan_table : Spec → ℕ → List Statement → List ℕ
plan_table spec op plan =
    plan_head ++ flat_map number_line (range_with_len 0 (length plan)) ++ plan_middle ++ plan_table_lines spec op plan ++ plan_end

-- ---- drawings

-- the end of a drawing
abbrev pub graph_end : List ℕ
graph_end = codes "}\n"

-- the nodes, the edges and the lock classes of a specification
abbrev pub drawing_text : Spec → List ℕ
drawing_text spec = graph_text spec [] ++ classes_table spec ++ graph_end

-- the same with the plan of an operation, and with what it reads
abbrev pub plan_drawing_text : Spec → ℕ → List Statement → List ℕ
plan_drawing_text spec op plan = graph_text spec plan ++ classes_table spec ++ plan_table spec op plan ++ graph_end
