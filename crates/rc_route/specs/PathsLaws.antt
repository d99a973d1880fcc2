-- Laws of paths from the root: their ends, that they are good routes, how long they are, and what they cost.
use Rattle.std.specs.Prelude.{◌≡◌, ℕ, zero, suc, ◌+◌, ◌*◌, ◌<◌, ◌≤◌, Bool, true, false, List, [], ◌∷◌, ◌++◌, ◌⊎◌, ◌==◌, map, not, filter, length, cond, get_or, if◌then◌else◌, take}
use Rattle.std.proofs.Common.{inl, inr, refl, sym, ap, subst, ◌∙◌, arith, lit≤}
use Rattle.std.proofs.lemmas.Bool.{eqb-true, eq-eqb, true≢false, not-true}
use Rattle.std.proofs.lemmas.List.Sums.{sum_by_more, sum_by-cons}
use Rattle.rc_route.specs.Imports.{In, AreDistinct, in_filter, Within, is_within, union, inter, union_left, union_right, union_within, inter_in, follows_subset, Reaches, reaches_circle, Class, Edge, EdgeKind, Spec, IsAdequate, KeepsA2, IsRoot, HasEdgeInto, bound, edge_at, no_edge, target_columns, edge_at_in, IsInRange, HasColumnAndNode, class_at, class_of, no_class, striping, IsPlaced, class_of_known}
use Rattle.rc_spec.specs.declared.items.EdgeKind.TheVariants as kinds
use Rattle.rc_route.specs.GoodRoutes.{IsGoodFrom, IsGoodRoute}
use Rattle.rc_route.specs.Paths.{IsPath, end_of, lookup_cost, scan_cost, read_cost, lock_cost, edge_cost, cost, IsPathFor}

-- ---- ends

pub path_end : (spec : Spec) (u v : ℕ) (p : List ℕ) → IsPath spec u v p → end_of spec u p ≡ v
path_end spec u v [] h = h
path_end spec u v (e ∷ p) h = path_end spec (edge_at spec e).to v p h.2

-- one more edge
pub path_more : (spec : Spec) (u e : ℕ) (p : List ℕ) → e < length spec.edges → IsPath spec u (edge_at spec e).from p → IsPath spec u (edge_at spec e).to (p ++ (e ∷ []))
path_more spec u e [] l h = (l, sym h, refl)
path_more spec u e (d ∷ p) l h = (h.0, h.1, path_more spec (edge_at spec d).to e p l h.2)

pub end_below : (spec : Spec) → IsInRange spec → (u v : ℕ) (p : List ℕ) → u < length spec.nodes → IsPath spec u v p → v < length spec.nodes
end_below spec i u v [] l h = subst (λ z. z < length spec.nodes) h l
end_below spec i u v (e ∷ p) l h = end_below spec i (edge_at spec e).to v p (i.known_edges (edge_at spec e) (edge_at_in spec e h.0)).to h.2

pub edges_known : (spec : Spec) (u v : ℕ) (p : List ℕ) → IsPath spec u v p → (e : ℕ) → In e p → e < length spec.edges
edges_known spec u v [] h e m = absurd m
edges_known spec u v (d ∷ p) h e (inl q) = subst (λ z. z < length spec.edges) (sym q) h.0
edges_known spec u v (d ∷ p) h e (inr m) = edges_known spec (edge_at spec d).to v p h.2 e m

-- ---- a path from the root is a good route: what it visited is what its last node binds

edge_inside : (spec : Spec) → IsAdequate spec → (e : ℕ) → e < length spec.edges → Within (bound spec (edge_at spec e).from) (target_columns spec e)
edge_inside spec a e l c h = (a.a3 e l).inside c (union_left (bound spec (edge_at spec e).from) (edge_at spec e).key c h)

path_good : (spec : Spec) → IsAdequate spec → (need : List ℕ) (u v : ℕ) (es reached visited : List ℕ) → IsPath spec u v es → Within need (bound spec v)
    → (u ≡ 0) ⊎ In u reached → Within visited (bound spec u) → Within (bound spec u) visited → IsGoodFrom spec need reached visited es
path_good spec a need u v [] reached visited p n r w m = λ c h. m c (subst (λ z. In c (bound spec z)) (sym p) (n c h))
path_good spec a need u v (e ∷ es) reached visited p n r w m =
    let up : Within visited (target_columns spec e) = λ c h. edge_inside spec a e p.0 c (subst (λ z. In c (bound spec z)) (sym p.1) (w c h)) in (
      record {
        known = p.0;
        source = subst (λ z. (z ≡ 0) ⊎ In z reached) (sym p.1) r;
        lossless = inl (follows_subset spec.deps (inter visited (target_columns spec e)) visited (λ c h. inter_in visited (target_columns spec e) c h (up c h)));
      },
      path_good spec a need (edge_at spec e).to v es ((edge_at spec e).to ∷ reached) (union visited (target_columns spec e)) p.2 n (inr (inl refl))
          (union_within visited (target_columns spec e) (target_columns spec e) up (λ c h. h)) (union_right visited (target_columns spec e)),
    )

-- the root, of a specification with a node
pub root_of : (spec : Spec) → HasColumnAndNode spec → IsAdequate spec → IsRoot spec 0
root_of spec some a = a.a1 0 some.node

abbrev pub PathsAreGood : Type 0
PathsAreGood = (spec : Spec) → HasColumnAndNode spec → IsAdequate spec → (need path : List ℕ) → IsPathFor spec need path → IsGoodRoute spec need path

pub paths_are_good : PathsAreGood
paths_are_good spec some a need p f =
    path_good spec a need 0 (end_of spec 0 p) p [] [] f.from_root f.binds (inl refl) (λ c z. absurd z) (λ c h. subst (In c) (root_of spec some a).nothing h)

-- ---- without a circle a path has at most as many edges as there are nodes

later_walk : (spec : Spec) (u v x : ℕ) (p : List ℕ) → IsPath spec u v p → In x (map (λ e. (edge_at spec e).to) p) → Reaches spec u x
later_walk spec u v x [] h k = absurd k
later_walk spec u v x (e ∷ p) h (inl q) = (edge_at spec e, [], (edge_at_in spec e h.0, h.1, sym q))
later_walk spec u v x (e ∷ p) h (inr k) =
    let q : Reaches spec (edge_at spec e).to x = later_walk spec (edge_at spec e).to v x p h.2 k in
    (edge_at spec e, q.0 ∷ q.1, (edge_at_in spec e h.0, h.1, q.2))

targets_apart : (spec : Spec) → IsInRange spec → ((v : ℕ) → v < length spec.nodes → KeepsA2 spec v) → (u v : ℕ) (p : List ℕ) → IsPath spec u v p → AreDistinct (map (λ e. (edge_at spec e).to) p)
targets_apart spec i a u v [] h = tt
targets_apart spec i a u v (e ∷ p) h = (
  (λ k. let w : ℕ = (edge_at spec e).to in
      a w (i.known_edges (edge_at spec e) (edge_at_in spec e h.0)).to (reaches_circle spec w (later_walk spec w v w p h.2 k))),
  targets_apart spec i a (edge_at spec e).to v p h.2,
)

targets_below : (spec : Spec) → IsInRange spec → (u v : ℕ) (p : List ℕ) → IsPath spec u v p → (x : ℕ) → In x (map (λ e. (edge_at spec e).to) p) → x < length spec.nodes
targets_below spec i u v [] h x k = absurd k
targets_below spec i u v (e ∷ p) h x (inl q) = subst (λ z. z < length spec.nodes) (sym q) (i.known_edges (edge_at spec e) (edge_at_in spec e h.0)).to
targets_below spec i u v (e ∷ p) h x (inr k) = targets_below spec i (edge_at spec e).to v p h.2 x k

without_whole : (n : ℕ) (xs : List ℕ) → (In n xs → ⊥) → length (filter (λ x. not (x == n)) xs) ≡ length xs
without_whole n [] f = refl
without_whole n (x ∷ xs) f = go (x == n) refl (without_whole n xs (λ h. f (inr h)))
  where
    go : (b : Bool) → (x == n) ≡ b → length (filter (λ x. not (x == n)) xs) ≡ length xs
        → length (cond (not b) (x ∷ filter (λ x. not (x == n)) xs) (filter (λ x. not (x == n)) xs)) ≡ suc (length xs)
    go true e ih = absurd (f (inl (sym (eqb-true x n e))))
    go false e ih = ap suc ih

without_one : (n : ℕ) (xs : List ℕ) → AreDistinct xs → length xs ≤ suc (length (filter (λ x. not (x == n)) xs))
without_one n [] d = omega arith
without_one n (x ∷ xs) d = go (x == n) refl (without_one n xs d.1)
  where
    go : (b : Bool) → (x == n) ≡ b → length xs ≤ suc (length (filter (λ x. not (x == n)) xs))
        → suc (length xs) ≤ suc (length (cond (not b) (x ∷ filter (λ x. not (x == n)) xs) (filter (λ x. not (x == n)) xs)))
    go true e ih =
        let w : length (filter (λ x. not (x == n)) xs) ≡ length xs = without_whole n xs (λ h. d.0 (subst (λ z. In z xs) (sym (eqb-true x n e)) h)) in omega arith
    go false e ih = omega arith

distinct_filter : (p : ℕ → Bool) (xs : List ℕ) → AreDistinct xs → AreDistinct (filter p xs)
distinct_filter p [] d = tt
distinct_filter p (x ∷ xs) d = go (p x) (distinct_filter p xs d.1)
  where
    go : (b : Bool) → AreDistinct (filter p xs) → AreDistinct (cond b (x ∷ filter p xs) (filter p xs))
    go true ih = ((λ h. d.0 (in_filter p x xs h).0), ih)
    go false ih = ih

-- distinct numbers below n are at most n
pub length-le_from_distinct : (n : ℕ) (xs : List ℕ) → AreDistinct xs → ((x : ℕ) → In x xs → x < n) → length xs ≤ n
length-le_from_distinct zero [] d f = omega arith
length-le_from_distinct zero (x ∷ xs) d f = absurd (let l : x < 0 = f x (inl refl) in omega arith)
length-le_from_distinct (suc n) xs d f =
    let a : length xs ≤ suc (length (filter (λ x. not (x == n)) xs)) = without_one n xs d in
    let b : length (filter (λ x. not (x == n)) xs) ≤ n = length-le_from_distinct n (filter (λ x. not (x == n)) xs) (distinct_filter (λ x. not (x == n)) xs d)
    (λ x h. let q : In x xs × (not (x == n) ≡ true) = in_filter (λ x. not (x == n)) x xs h in
    let l : x < suc n = f x q.0 in
    let m : x ≡ n → ⊥ = λ e. true≢false (sym (eq-eqb x n e) ∙ not-true (x == n) q.1) in omega arith) in omega arith

length-map : {A B : Type 0} (f : A → B) (xs : List A) → length (map f xs) ≡ length xs
length-map f [] = refl
length-map f (x ∷ xs) = ap suc (length-map f xs)

pub path_short : (spec : Spec) → IsInRange spec → IsAdequate spec → (u v : ℕ) (p : List ℕ) → IsPath spec u v p → length p ≤ length spec.nodes
path_short spec i a u v p h =
    let l : length (map (λ e. (edge_at spec e).to) p) ≤ length spec.nodes =
    length-le_from_distinct (length spec.nodes) (map (λ e. (edge_at spec e).to) p) (targets_apart spec i a.a2 u v p h) (targets_below spec i u v p h) in
    let m : length (map (λ e. (edge_at spec e).to) p) ≡ length p = length-map (λ e. (edge_at spec e).to) p in omega arith

-- ---- what an edge and a path can cost

kind_cost : (b : Bool) (kind : EdgeKind) → (if b then lookup_cost kind else scan_cost kind) ≤ 32
kind_cost true kinds.Hash = lit≤ tt
kind_cost true kinds.Ordered = lit≤ tt
kind_cost true kinds.List = lit≤ tt
kind_cost true kinds.Singleton = lit≤ tt
kind_cost false kinds.Hash = lit≤ tt
kind_cost false kinds.Ordered = lit≤ tt
kind_cost false kinds.List = lit≤ tt
kind_cost false kinds.Singleton = lit≤ tt

one_or : (b : Bool) (n : ℕ) → n ≤ 256 → (if b then 1 else n) ≤ 256
one_or true n l = lit≤ tt
one_or false n l = l

pub class_stripes_few : (spec : Spec) → IsInRange spec → IsPlaced spec → (e : ℕ) → e < length spec.edges → (class_at spec (class_of spec e)).stripes ≤ 256
class_stripes_few spec i pl e l =
    let c : class_of spec e < length spec.classes = class_of_known spec e i (pl.p1 e l) in
    let up_to = sum_by_more (λ (x : Class). x.stripes) spec.classes (class_of spec e) no_class c in
    let few = (pl.p6 (class_of spec e) c).few in omega (arith, up_to, few)

pub edge_cost_few : (spec : Spec) → IsInRange spec → IsPlaced spec → (pattern : List ℕ) (e : ℕ) → e < length spec.edges → edge_cost spec pattern e ≤ 288
edge_cost_few spec i pl pattern e l =
    let a : read_cost spec pattern e ≤ 32 = kind_cost (is_within (edge_at spec e).key pattern) (edge_at spec e).kind in
    let b : lock_cost spec pattern e ≤ 256 = one_or (is_within (striping spec e) (union pattern (bound spec (edge_at spec e).from))) (class_at spec (class_of spec e)).stripes (class_stripes_few spec i pl e l) in omega arith

pub cost_few : (spec : Spec) → IsInRange spec → IsPlaced spec → (pattern path : List ℕ) → ((e : ℕ) → In e path → e < length spec.edges) → cost spec pattern path ≤ 288 * length path
cost_few spec i pl pattern [] h = omega arith
cost_few spec i pl pattern (e ∷ p) h =
    let a : edge_cost spec pattern e ≤ 288 = edge_cost_few spec i pl pattern e (h e (inl refl)) in
    let b : cost spec pattern p ≤ 288 * length p = cost_few spec i pl pattern p (λ d m. h d (inr m)) in
    let c : cost spec pattern (e ∷ p) ≡ edge_cost spec pattern e + cost spec pattern p = sum_by-cons (edge_cost spec pattern) e p in omega arith

-- ---- each node is reached from the root

pub in_get : {A : Type 0} (xs : List A) (x d : A) → In x xs → (n : ℕ) × (n < length xs) × (get_or xs n d ≡ x)
in_get [] x d h = absurd h
in_get (y ∷ xs) x d (inl e) = (0, omega arith, sym e)
in_get (y ∷ xs) x d (inr h) = let q : (n : ℕ) × (n < length xs) × (get_or xs n d ≡ x) = in_get xs x d h in (suc q.0, (let l : q.0 < length xs = q.1 in omega arith), q.2)

-- an edge into a node, by its number
pub edge_into : (spec : Spec) (v : ℕ) → HasEdgeInto spec v → (e : ℕ) × (e < length spec.edges) × ((edge_at spec e).to ≡ v)
edge_into spec v h =
    let n : (n : ℕ) × (n < length spec.edges) × (edge_at spec n ≡ h.0) = in_get spec.edges h.0 no_edge h.1 in
    (n.0, n.1, ap (λ (e : Edge). e.to) n.2 ∙ h.2)

pub into_edge : (spec : Spec) (e : ℕ) → e < length spec.edges → HasEdgeInto spec (edge_at spec e).to
into_edge spec e l = (edge_at spec e, edge_at_in spec e l, refl)

abbrev pub HasPath : Spec → ℕ → Type 0
HasPath spec v = (p : List ℕ) × IsPath spec 0 v p

-- an edge among the first k ends at the node
in_first : (spec : Spec) (k v : ℕ) → k ≤ length spec.edges → In v (map (λ (e : Edge). e.to) (take k spec.edges)) → (e : ℕ) × (e < k) × (e < length spec.edges) × ((edge_at spec e).to ≡ v)
in_first spec k v l m = go spec.edges k m
  where
    go : (es : List Edge) (k : ℕ) → In v (map (λ (e : Edge). e.to) (take k es)) → (e : ℕ) × (e < k) × (e < length es) × ((get_or es e no_edge).to ≡ v)
    go [] zero m = absurd m
    go [] (suc k) m = absurd m
    go (e ∷ es) zero m = absurd m
    go (e ∷ es) (suc k) (inl q) = (0, omega arith, omega arith, sym q)
    go (e ∷ es) (suc k) (inr m) =
        let r : (d : ℕ) × (d < k) × (d < length es) × ((get_or es d no_edge).to ≡ v) = go es k m in
        (suc r.0, (let l : r.0 < k = r.1 in omega arith), (let l : r.0 < length es = r.2 in omega arith), r.3)

by_edge : (spec : Spec) (e : ℕ) → e < length spec.edges → HasPath spec (edge_at spec e).from → HasPath spec (edge_at spec e).to
by_edge spec e l p = (p.0 ++ (e ∷ []), path_more spec 0 e p.0 l p.1)

-- by A6, which reaches each edge from the root or from where an earlier one ends
target_reached : (spec : Spec) → IsAdequate spec → (n k : ℕ) → k < n → k < length spec.edges → HasPath spec (edge_at spec k).to
target_reached spec a zero k l m = absurd (omega arith)
target_reached spec a (suc n) k l m = by_edge spec k m (elim (a.a6 k m).reached [
  | inl root ↦ ([], sym root)
  | inr earlier ↦
      let e : (e : ℕ) × (e < k) × (e < length spec.edges) × ((edge_at spec e).to ≡ (edge_at spec k).from) = in_first spec k (edge_at spec k).from (omega arith) earlier in
      let less : e.0 < k = e.1 in
      subst (HasPath spec) e.3 (target_reached spec a n e.0 (omega arith) e.2)
])

pub node_reached : (spec : Spec) → IsAdequate spec → (v : ℕ) → v < length spec.nodes → HasPath spec v
node_reached spec a zero l = ([], refl)
node_reached spec a (suc v) l =
    let e : (e : ℕ) × (e < length spec.edges) × ((edge_at spec e).to ≡ suc v) = edge_into spec (suc v) (a.a1 (suc v) l) in
    subst (HasPath spec) e.2 (target_reached spec a (suc e.0) e.0 (omega arith) e.1)
