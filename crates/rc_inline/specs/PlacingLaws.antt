-- What placing edges together keeps, and what it makes of their classes.
use Rattle.std.proofs.Common.{◌≡◌, ◌↔◌, ◌==◌, ℕ, ◌<◌, ◌≤◌, Bool, true, false, not, nat_le, if◌then◌else◌, List, [], ◌∷◌, Some, filter, length, map, suc, refl, sym, ap, ◌∙◌, subst, inl, inr, arith}
use Rattle.rc_inline.specs.Imports.{find, list_all, range_with_len, option_map_or, in_range_below, in_range_bounds, In, in_list_all, list_all_in, Pairs, Call, Class, Place, Spec, IsSealed, Fits, edge_at, IsInRange, IsWellNamed, KeepsP1, KeepsP3, class_at, class_of, places_of, striping, class_of_known, plain}
use Rattle.std.proofs.lemmas.Bool.{cases_eq, eqb-false, false_from_ne_true, le-leb, leb-true, ne_eqb, not-true, not_from_false, or_cases, or_left, or_right}
use Rattle.rc_inline.specs.Contraction.{first_inlinable}
use Rattle.rc_inline.specs.Inlining.{HasItsSchema, inlined}
use Rattle.rc_inline.specs.InliningLaws.{inlined_named, inlined_schema}
use Rattle.rc_inline.specs.Placing.{co_placed, embedded, is_in_order, is_ordered, moved, placed_together, widest}
use Rattle.rc_inline.specs.SchemaLaws.{fitting_of_one_schema, plain_same}
use Rattle.rc_inline.specs.WidestLaws.{one_widest, widest_columns, widest_most}

-- ---- the test of the order of classes

abbrev pub AreOrdered : Spec → Type 0
AreOrdered spec = (f : ℕ) → f < length spec.edges → KeepsP3 spec f

-- it tells where each edge keeps P3
abbrev pub OrderIsTested : Type 0
OrderIsTested = (spec : Spec) → (is_ordered spec ≡ true) ↔ AreOrdered spec

module _ (spec : Spec) where
  abbrev edges : List ℕ
  edges = range_with_len 0 (length spec.edges)

  pair_in_order : (f e : ℕ) → is_in_order spec f e ≡ true → (edge_at spec e).to ≡ (edge_at spec f).from → class_of spec e ≤ class_of spec f
  pair_in_order f e is meet =
      elim (or_cases (not ((edge_at spec e).to == (edge_at spec f).from)) (nat_le (class_of spec e) (class_of spec f)) is) [
        | inl apart ↦ absurd (eqb-false (edge_at spec e).to (edge_at spec f).from (not-true _ apart) meet)
        | inr low ↦ leb-true (class_of spec e) (class_of spec f) low
      ]

  pair_passes : (f e : ℕ) → ((edge_at spec e).to ≡ (edge_at spec f).from → class_of spec e ≤ class_of spec f) → is_in_order spec f e ≡ true
  pair_passes f e kept =
      elim (cases_eq (edge_at spec e).to (edge_at spec f).from) [
        | inl meet ↦ or_right (not ((edge_at spec e).to == (edge_at spec f).from)) (nat_le (class_of spec e) (class_of spec f)) (le-leb (class_of spec e) (class_of spec f) (kept meet))
        | inr apart ↦ or_left (not ((edge_at spec e).to == (edge_at spec f).from)) (nat_le (class_of spec e) (class_of spec f)) (not_from_false _ (ne_eqb (edge_at spec e).to (edge_at spec f).from apart))
      ]

  known : (n : ℕ) → In n edges → n < length spec.edges
  known n m = let within = (in_range_bounds 0 (length spec.edges) n m).1 in omega (arith, within)

  ordered_from_test : is_ordered spec ≡ true → AreOrdered spec
  ordered_from_test is f l e k meet =
      let row = list_all_in (λ f. list_all (is_in_order spec f) edges) edges is f (in_range_below (length spec.edges) f l) in
      pair_in_order f e (list_all_in (is_in_order spec f) edges row e (in_range_below (length spec.edges) e k)) meet

  test_from_ordered : AreOrdered spec → is_ordered spec ≡ true
  test_from_ordered kept =
      in_list_all (λ f. list_all (is_in_order spec f) edges) edges
      (λ f m. in_list_all (is_in_order spec f) edges (λ e n. pair_passes f e (kept f (known f m) e (known e n))))

pub order_tested : OrderIsTested
order_tested spec = (ordered_from_test spec, test_from_ordered spec)

-- ---- the schema and the names

pub together_schema : (spec : Spec) → HasItsSchema spec (placed_together spec)
unfolding placed_together
together_schema spec = go (is_ordered (co_placed spec))
  where
    go : (b : Bool) → HasItsSchema spec (if b then co_placed spec else spec)
    go true = record { columns = refl; deps = refl; classes = refl; ops = refl; most_rows = refl }
    go false = record { columns = refl; deps = refl; classes = refl; ops = refl; most_rows = refl }

-- both changes, one after the other
pub embedded_is : (spec : Spec) → placed_together (inlined spec) ≡ embedded spec
unfolding embedded
embedded_is spec = refl

abbrev pub EmbeddingKeepsSchemas : Type 0
EmbeddingKeepsSchemas = (spec : Spec) → HasItsSchema spec (embedded spec)

pub embedded_schema : EmbeddingKeepsSchemas
unfolding embedded
embedded_schema spec =
    let above = inlined_schema spec in
    let same = together_schema (inlined spec) in
    record {
      columns = same.columns ∙ above.columns;
      deps = same.deps ∙ above.deps;
      classes = same.classes ∙ above.classes;
      ops = same.ops ∙ above.ops;
      most_rows = same.most_rows ∙ above.most_rows;
    }

pub together_named : (spec : Spec) → IsWellNamed spec → IsWellNamed (placed_together spec)
unfolding placed_together
together_named spec named = go (is_ordered (co_placed spec))
  where
    go : (b : Bool) → IsWellNamed (if b then co_placed spec else spec)
    go true = record {
      columns = named.columns;
      nodes = named.nodes;
      edges = named.edges;
      classes = named.classes;
      ops = named.ops;
      patterns = named.patterns;
    }
    go false = named

abbrev pub EmbeddingKeepsNames : Type 0
EmbeddingKeepsNames = (spec : Spec) → IsWellNamed spec → IsWellNamed (embedded spec)

pub embedded_named : EmbeddingKeepsNames
unfolding embedded
embedded_named spec named = together_named (inlined spec) (inlined_named spec named)

-- nothing more can be inlined than before
pub together_inlinable : (spec : Spec) → first_inlinable (placed_together spec) ≡ first_inlinable spec
unfolding placed_together
together_inlinable spec = go (is_ordered (co_placed spec))
  where
    go : (b : Bool) → first_inlinable (if b then co_placed spec else spec) ≡ first_inlinable spec
    go true = refl
    go false = refl

-- ---- where the edges keep P3 on their new classes they are moved, and else they stay

pub together_moved : (spec : Spec) → is_ordered (co_placed spec) ≡ true → placed_together spec ≡ co_placed spec
unfolding placed_together
together_moved spec is = ap (λ b. if b then co_placed spec else spec) is

pub together_stays : (spec : Spec) → is_ordered (co_placed spec) ≡ false → placed_together spec ≡ spec
unfolding placed_together
together_stays spec is = ap (λ b. if b then co_placed spec else spec) is

-- ---- the class of an edge that is moved

module _ (classes : List Class) (e : ℕ) where
  abbrev of_edge : List Place → List Place
  of_edge places = filter (λ (p : Place). p.edge == e) places

  abbrev class_in : List Place → ℕ
  class_in places = option_map_or (λ (place : Place). place.class) (find (λ (place : Place). place.edge == e) places) 0

  class_moved : (places : List Place) → 0 < length (of_edge places) → class_in (map (moved classes) places) ≡ widest classes (class_in places)
  class_moved [] some = absurd (omega (arith, some))
  class_moved (p ∷ places) some = go (p.edge == e) some (class_moved places)
    where
      go : (b : Bool) → 0 < length (if b then p ∷ of_edge places else of_edge places)
          → (0 < length (of_edge places) → class_in (map (moved classes) places) ≡ widest classes (class_in places))
          → option_map_or (λ (place : Place). place.class) (if b then Some (moved classes p) else find (λ (place : Place). place.edge == e) (map (moved classes) places)) 0
          ≡ widest classes (option_map_or (λ (place : Place). place.class) (if b then Some p else find (λ (place : Place). place.edge == e) places) 0)
      go true some rest = refl
      go false some rest = rest some

  count_moved : (places : List Place) → length (of_edge (map (moved classes) places)) ≡ length (of_edge places)
  count_moved [] = refl
  count_moved (p ∷ places) = go (p.edge == e) (count_moved places)
    where
      go : (b : Bool) → length (of_edge (map (moved classes) places)) ≡ length (of_edge places)
          → length (if b then moved classes p ∷ of_edge (map (moved classes) places) else of_edge (map (moved classes) places))
          ≡ length (if b then p ∷ of_edge places else of_edge places)
      go true rest = ap suc rest
      go false rest = rest

pub co_class : (spec : Spec) (e : ℕ) → KeepsP1 spec e → class_of (co_placed spec) e ≡ widest spec.classes (class_of spec e)
co_class spec e once = class_moved spec.classes e spec.places (omega (arith, once))

pub co_count : (spec : Spec) (e : ℕ) → length (places_of (co_placed spec) e) ≡ length (places_of spec e)
co_count spec e = count_moved spec.classes e spec.places

-- its columns are those of its old class
pub co_striping : (spec : Spec) (e : ℕ) → IsInRange spec → KeepsP1 spec e → striping (co_placed spec) e ≡ striping spec e
co_striping spec e range once =
    ap (λ c. (class_at spec c).cols) (co_class spec e once)
    ∙ widest_columns spec.classes (class_of spec e) (class_of_known spec e range once) (λ class m. (range.known_classes class m).set)

-- The columns that choose the stripe of an edge's rows stay.
abbrev pub StripingStays : Type 0
StripingStays = (spec : Spec) → IsSealed spec → (e : ℕ) → e < length spec.edges → striping (placed_together spec) e ≡ striping spec e

pub striping_stays : StripingStays
unfolding placed_together
striping_stays spec sealed e l = go (is_ordered (co_placed spec))
  where
    go : (b : Bool) → striping (if b then co_placed spec else spec) e ≡ striping spec e
    go true = co_striping spec e sealed.in_range (sealed.accepted.placed.p1 e l)
    go false = refl

-- Where the edges keep P3 on their new classes, edges whose classes have the same columns are on one class.
abbrev pub ClassesAreShared : Type 0
ClassesAreShared = (spec : Spec) → IsSealed spec → AreOrdered (co_placed spec)
    → (e f : ℕ) → e < length spec.edges → f < length spec.edges
    → striping (placed_together spec) e ≡ striping (placed_together spec) f
    → class_of (placed_together spec) e ≡ class_of (placed_together spec) f

co_shared : (spec : Spec) → IsSealed spec → (e f : ℕ) → e < length spec.edges → f < length spec.edges
    → striping (co_placed spec) e ≡ striping (co_placed spec) f → class_of (co_placed spec) e ≡ class_of (co_placed spec) f
co_shared spec sealed e f l m same =
    let range = sealed.in_range in
    let first = sealed.accepted.placed.p1 e l in
    let second = sealed.accepted.placed.p1 f m in
    co_class spec e first
    ∙ one_widest spec.classes (class_of spec e) (class_of spec f) (class_of_known spec e range first)
    (sym (co_striping spec e range first) ∙ same ∙ co_striping spec f range second)
    ∙ sym (co_class spec f second)

pub classes_shared : ClassesAreShared
classes_shared spec sealed ordered e f l m =
    subst (λ (after : Spec). striping after e ≡ striping after f → class_of after e ≡ class_of after f)
    (sym (together_moved spec ((order_tested (co_placed spec)).1 ordered))) (co_shared spec sealed e f l m)

-- and no class over an edge's columns has more stripes
abbrev pub ClassesAreWidest : Type 0
ClassesAreWidest = (spec : Spec) → IsSealed spec → AreOrdered (co_placed spec)
    → (e : ℕ) → e < length spec.edges → (class : Class) → In class spec.classes
    → class.cols ≡ striping (placed_together spec) e
    → class.stripes ≤ (class_at spec (class_of (placed_together spec) e)).stripes

pub classes_widest : ClassesAreWidest
classes_widest spec sealed ordered e l class m =
    let range = sealed.in_range in
    let once = sealed.accepted.placed.p1 e l in
    let most = widest_most spec.classes (class_of spec e) (class_of_known spec e range once) class m in
    subst (λ (after : Spec). class.cols ≡ striping after e → class.stripes ≤ (class_at spec (class_of after e)).stripes)
    (sym (together_moved spec ((order_tested (co_placed spec)).1 ordered)))
    (λ same. subst (λ c. class.stripes ≤ (class_at spec c).stripes) (sym (co_class spec e once)) (most (same ∙ co_striping spec e range once)))

-- Where one doesn't, the specification stays as it is.
abbrev pub UnorderedStay : Type 0
UnorderedStay = (spec : Spec) → (AreOrdered (co_placed spec) → ⊥) → placed_together spec ≡ spec

pub unordered_stay : UnorderedStay
unordered_stay spec broken =
    together_stays spec (false_from_ne_true (is_ordered (co_placed spec)) (λ is. broken ((order_tested (co_placed spec)).0 is)))

-- ---- what embedding keeps of calls

-- a call has the same reply, and leaves the same relation
abbrev pub EmbeddingKeepsCalls : Type 0
EmbeddingKeepsCalls = (spec : Spec) (r : List Pairs) (call : Call) → plain (embedded spec) r call ≡ plain spec r call

pub embedded_plain : EmbeddingKeepsCalls
embedded_plain spec r call = plain_same spec (embedded spec) (embedded_schema spec) r call

-- and it fits exactly where it fitted
abbrev pub EmbeddingKeepsFitting : Type 0
EmbeddingKeepsFitting = (spec : Spec) (call : Call) → Fits (embedded spec) call ↔ Fits spec call

pub embedded_fits : EmbeddingKeepsFitting
embedded_fits spec call = fitting_of_one_schema spec (embedded spec) (embedded_schema spec) call
