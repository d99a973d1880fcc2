-- Laws of edges by number, and of the columns that they visit.
use Rattle.std.proofs.Common.{◌≡◌, ℕ, ◌+◌, ◌<◌, List, [], ◌∷◌, ◌++◌, length, take, get_or, sym, ap, ◌∙◌, subst}
use Rattle.rc_spec.specs.Imports.{flat_map, nat_cmp, In, gather, get_or_in, union, gather-union}
use Rattle.std.proofs.lemmas.List.{take_more, get_or_default, append-nil}
use Rattle.std.proofs.lemmas.Grind.{flat_map-append}
use Rattle.rc_spec.specs.declared.items.Edge.{Edge}
use Rattle.rc_spec.specs.declared.spec.Spec.{Spec}
use Rattle.rc_spec.specs.Adequacy.{visited}
use Rattle.rc_spec.specs.Decomposition.{bound, edge_at, no_edge}
use Rattle.rc_spec.specs.InRange.{IsInRange, IsEdgeAmong, IsOpAmong, IsSetBelow}
use Rattle.rc_spec.specs.Placement.{class_at, no_class, no_op, op_at}

-- what was found by its number is what has that number
pub at_found : {A : Type 0} (xs ys : List A) (n : ℕ) (d x : A) → xs ≡ ys → n < length ys → x ≡ get_or xs n x → get_or ys n d ≡ x
at_found xs ys n d x same l found = get_or_default ys n d x l ∙ ap (λ zs. get_or zs n x) (sym same) ∙ sym found

-- an edge that was found by its number is the edge with that number
pub edge_at_found : (spec : Spec) (edges : List Edge) (n : ℕ) (e : Edge) → edges ≡ spec.edges → n < length spec.edges → e ≡ get_or edges n e → edge_at spec n ≡ e
edge_at_found spec edges n e same l found = at_found edges spec.edges n no_edge e same l found

pub edge_at_in : (spec : Spec) (n : ℕ) → n < length spec.edges → In (edge_at spec n) spec.edges
edge_at_in spec n l = get_or_in spec.edges n no_edge l

-- the numbers of an edge that was found are the specification's
pub edge_known : (spec : Spec) (edges : List Edge) (n : ℕ) (e : Edge) → IsInRange spec → edges ≡ spec.edges → n < length spec.edges → e ≡ get_or edges n e
    → IsEdgeAmong (length spec.nodes) (length spec.columns) e
edge_known spec edges n e range same l found =
    range.known_edges e (subst (λ (x : Edge). In x spec.edges) (edge_at_found spec edges n e same l found) (edge_at_in spec n l))

-- the columns visited by one more edge
pub visited_more : (spec : Spec) (n : ℕ) → n < length spec.edges → visited spec (n + 1) ≡ union (visited spec n) (bound spec (edge_at spec n).to)
visited_more spec n l =
    let f : Edge → List ℕ = λ e. bound spec e.to in
    ap (λ es. gather nat_cmp (flat_map f es)) (take_more spec.edges n no_edge l)
    ∙ ap (gather nat_cmp) (flat_map-append f (take n spec.edges) (edge_at spec n ∷ []) ∙ ap (λ l. flat_map f (take n spec.edges) ++ l) (append-nil (f (edge_at spec n))))
    ∙ gather-union (flat_map f (take n spec.edges)) (f (edge_at spec n))

-- ---- what stands at a number below the count

pub edge_among : (spec : Spec) (n : ℕ) → IsInRange spec → n < length spec.edges → IsEdgeAmong (length spec.nodes) (length spec.columns) (edge_at spec n)
edge_among spec n range l = range.known_edges (edge_at spec n) (edge_at_in spec n l)

pub class_at_in : (spec : Spec) (n : ℕ) → n < length spec.classes → In (class_at spec n) spec.classes
class_at_in spec n l = get_or_in spec.classes n no_class l

pub class_among : (spec : Spec) (n : ℕ) → IsInRange spec → n < length spec.classes → IsSetBelow (length spec.columns) (class_at spec n).cols
class_among spec n range l = range.known_classes (class_at spec n) (class_at_in spec n l)

pub op_at_in : (spec : Spec) (n : ℕ) → n < length spec.ops → In (op_at spec n) spec.ops
op_at_in spec n l = get_or_in spec.ops n no_op l

pub op_among : (spec : Spec) (n : ℕ) → IsInRange spec → n < length spec.ops → IsOpAmong (length spec.columns) (op_at spec n)
op_among spec n range l = range.known_ops (op_at spec n) (op_at_in spec n l)
