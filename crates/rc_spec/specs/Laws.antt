-- Laws of adequacy, of stripes and of fragments, each named by the contract of a function.
use Rattle.std.specs.Prelude.{◌≡◌, ℕ, ◌<◌, true, List, [], ◌∷◌, length}
use Rattle.rc_spec.specs.Imports.{flat_map, In, gather, Within, Pairs, cols_of, project, agrees, IsRelation, Satisfies}
use Rattle.rc_spec.specs.declared.spec.Spec.{Spec}
use Rattle.rc_spec.specs.Adequacy.{IsAdequate}
use Rattle.rc_spec.specs.Calls.{all_columns}
use Rattle.rc_spec.specs.Contents.{contents, represented}
use Rattle.rc_spec.specs.Decomposition.{bound, edge_at}
use Rattle.rc_spec.specs.Fragments.{edge_row_cmp, all_rows, represented_by, row_stripe, on_stripes, rows_on, fragment_of, all_stripes}
use Rattle.rc_spec.specs.InRange.{IsInRange, HasColumnAndNode}
use Rattle.rc_spec.specs.Placement.{class_at, class_of, IsPlaced}
use Rattle.rc_spec.specs.Stripes.{physical_stripe}

-- the contents of each relation that satisfies the dependencies represent that relation
abbrev pub AdequacyLosesNoTuple : Type 0
AdequacyLosesNoTuple = (spec : Spec) → IsInRange spec → HasColumnAndNode spec → IsAdequate spec
    → (r : List Pairs) → IsRelation (all_columns spec) r → Satisfies r spec.deps → represented (contents spec r) ≡ r

-- ---- stripes

-- tuples that agree and have the class's columns fall on one stripe of it
abbrev pub AgreeingTuplesShareStripes : Type 0
AgreeingTuplesShareStripes = (spec : Spec) (c : ℕ) (t u : Pairs) → Within (class_at spec c).cols (cols_of t) → Within (class_at spec c).cols (cols_of u) → agrees t u ≡ true
    → physical_stripe spec c t ≡ physical_stripe spec c u

-- no stripe is of two classes
abbrev pub StripesAreOfOneClass : Type 0
StripesAreOfOneClass = (spec : Spec) → IsPlaced spec → (c d : ℕ) → c < length spec.classes → d < length spec.classes → (t u : Pairs) → physical_stripe spec c t ≡ physical_stripe spec d u → c ≡ d

-- the row of a tuple in an edge falls on the stripe of the edge's class on which the tuple falls
abbrev pub RowsFallWithTuples : Type 0
RowsFallWithTuples = (spec : Spec) → IsAdequate spec → IsPlaced spec → (e : ℕ) → e < length spec.edges → (t : Pairs) (count : ℕ)
    → row_stripe spec (e, project (bound spec (edge_at spec e).to) t, count) ≡ physical_stripe spec (class_of spec e) t

-- ---- fragments

-- each row falls on a stripe, so the fragments of all stripes together are all rows
abbrev pub StripesHoldAll : Type 0
StripesHoldAll = (spec : Spec) → IsInRange spec → IsPlaced spec → (r : List Pairs) → rows_on spec r (all_stripes spec) ≡ all_rows spec r

-- the fragments of several stripes are those of each, put together
abbrev pub FragmentsAreParts : Type 0
FragmentsAreParts = (spec : Spec) (r : List Pairs) (stripes : List ℕ) → gather edge_row_cmp (flat_map (fragment_of spec r) stripes) ≡ rows_on spec r stripes

-- of the fragments of several stripes, the rows on one of them are its fragment
abbrev pub FragmentsArePieces : Type 0
FragmentsArePieces = (spec : Spec) (r : List Pairs) (stripes : List ℕ) (stripe : ℕ) → In stripe stripes → on_stripes spec (stripe ∷ []) (rows_on spec r stripes) ≡ fragment_of spec r stripe

-- the rows of the fragments of all stripes, one fragment after the other, represent the relation
abbrev pub InstancesRepresent : Type 0
InstancesRepresent = (spec : Spec) → IsInRange spec → HasColumnAndNode spec → IsAdequate spec → IsPlaced spec
    → (r : List Pairs) → IsRelation (all_columns spec) r → Satisfies r spec.deps → represented_by spec (flat_map (fragment_of spec r) (all_stripes spec)) ≡ r

-- the fragments of the empty relation have no row
abbrev pub EmptyHasNoRows : Type 0
EmptyHasNoRows = (spec : Spec) (stripe : ℕ) → fragment_of spec [] stripe ≡ []
