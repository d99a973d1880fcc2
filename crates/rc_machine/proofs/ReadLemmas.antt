-- What the containers of held stripes answer a binding, merged with it, is its part of a join.
use Rattle.std.specs.Prelude.{◌≡◌, ℕ, zero, suc, ◌+◌, ◌<◌, ◌≤◌, true, List, [], ◌∷◌, ◌++◌, ◌⊎◌, None, Some, filter, length, map, take, get_or, Result, Ok, Err, OnErr, OnOk}
use Rattle.rc_machine.proofs.Imports.{flat_map, range_with_len, nat_cmp, cases_eq, length-map-range_with_len, take-suc, In, IsRising, gather, same_rising, rising_gather, in_gather, gather_in, get_or_in, in_map, map_in, in_filter, filter_in, in_append, append_in_left, append_in_right, in_flat_map, flat_map_in, Within, union_left, union_right, IsTuple, Pairs, agrees, cols_of, merge, merges_of, project, tuple_cmp, agree_from, rising_cols, rising_pairs, tuple_order, Spec, IsSealed, KeepsA3, join, bound, edge_at, node_at, no_node, edge_at_in, EdgeRow, edge_row_cmp, tuples_of_edge, edge_row_order, in_tuples_of_edge, tuples_of_edge_in, IsJoined, in_join, join_in, rising_join, class_at, class_of, band_start, Class, class_of_known, physical_stripe, BindingList, OneBinding, with_tuples, EdgeShape, IsLookedUp, IsScan, IsThere, IsThereWith, shape_of, values_at, HeldStripe, Holding, IsHeld, IsLent, held_of, FragmentRows, Lookup, Scan, project-agreeing, physical_stripe-agreeing, physical_stripe-in_band, striping_in_target, IsReadOver, rows_now, stripes_held, AreGood, AreMerges, HasMerged, HasMergedAll, HasMergedOn, IsMergeOf, IsMergeOn, IsReader, TakesMerges, EdgeRead, band}
use Rattle.std.proofs.Common.{inl, inr, refl, sym, ap, subst, ◌∙◌, arith, add-one}

-- ---- results

pub on_ok : {E : Type 0} {P Q : Type 0} (r : Result (Unit {0}) E) → (P → Q) → OnOk r P → OnOk r Q
on_ok (Ok x) f h = f h
on_ok (Err e) f h = tt

pub on_err : {T E : Type 0} {P Q : Type 0} (r : Result T E) → (P → Q) → OnErr r P → OnErr r Q
on_err (Ok x) f h = tt
on_err (Err e) f h = f h

pub at_err : {T E : Type 0} {P : Type 0} (r : Result T E) → P → OnErr r P
at_err (Ok x) p = tt
at_err (Err e) p = p

-- ---- edges

pub class_known : (spec : Spec) → IsSealed spec → (e : ℕ) → e < length spec.edges → class_of spec e < length spec.classes
class_known spec sealed e l = class_of_known spec e sealed.in_range (sealed.accepted.placed.p1 e l)

-- the edge that is read is in the table
pub read_known : (shapes : List EdgeShape) (read : EdgeRead) → IsReadOver shapes read → read.edge < length shapes
read_known shapes read over =
    let n : length shapes ≡ length read.spec.now.edges = ap length over.table ∙ length-map-range_with_len (shape_of read.spec.now) 0 (length read.spec.now.edges) in
    omega (arith, n, over.known)

pub target_rises : (spec : Spec) → IsSealed spec → (e : ℕ) → e < length spec.edges → IsRising nat_cmp (bound spec (edge_at spec e).to)
target_rises spec sealed e k =
    let l : (edge_at spec e).to < length spec.nodes = (sealed.in_range.known_edges (edge_at spec e) (edge_at_in spec e k)).to in
    (sealed.in_range.known_nodes (node_at spec (edge_at spec e).to) (get_or_in spec.nodes (edge_at spec e).to no_node l)).set.rising

-- ---- one stripe's answer

-- what was there, and the merges with some tuples
appended : (b : Pairs) (e : ℕ) (rows : List EdgeRow) (old us : List Pairs) → ((u : Pairs) → In u us → IsThere rows e u) → ((u : Pairs) → IsThere rows e u → agrees b u ≡ true → In u us)
    → HasMerged b e rows old (old ++ merges_of b us)
appended b e rows old us f g = record {
  kept = λ c m. append_in_left c old (merges_of b us) m;
  only = λ c m. elim (in_append c old (merges_of b us) m) [
    | inl n ↦ inl n
    | inr n ↦ (let q : (u : Pairs) × In u (filter (agrees b) us) × (c ≡ merge b u) = in_map (merge b) c (filter (agrees b) us) n in
        let p : In q.0 us × (agrees b q.0 ≡ true) = in_filter (agrees b) q.0 us q.1 in
        inr (q.0, f q.0 p.0, p.1, q.2))
  ];
  each = λ c m. append_in_right c old (merges_of b us)
      (subst (λ z. In z (merges_of b us)) (sym m.3) (map_in (merge b) m.0 (filter (agrees b) us) (filter_in (agrees b) m.0 us (g m.0 m.1 m.2) m.2)));
}

module _ (spec : Spec) (sealed : IsSealed spec) (e : ℕ) (known : e < length spec.edges) (b : Pairs) (tuple : IsTuple b) (rows : List EdgeRow)
    (columns : (w : EdgeRow) → In w rows → cols_of w.1 ≡ bound spec (edge_at spec w.0).to) where
  abbrev pub shape : EdgeShape
  shape = shape_of spec e

  a3 : KeepsA3 spec (edge_at spec e)
  a3 = sealed.accepted.adequate.a3 e known

  cols_of_row : (u : Pairs) → IsThere rows e u → cols_of u ≡ bound spec (edge_at spec e).to
  cols_of_row u t = columns (e, u, t.0) t.1

  -- a row that agrees with the binding has its values at columns that both have
  same_there : (xs : List ℕ) → Within xs (bound spec (edge_at spec e).to) → Within xs (cols_of b) → (u : Pairs) → IsThere rows e u → agrees b u ≡ true → project xs u ≡ project xs b
  same_there xs v w u t g =
      sym (project-agreeing xs b u (rising_pairs b tuple) (rising_cols u (subst (IsRising nat_cmp) (sym (cols_of_row u t)) (target_rises spec sealed e known))) w
      (λ c m. subst (In c) (sym (cols_of_row u t)) (v c m)) (agree_from b u g))

  source_there : IsReader spec e Lookup b → (u : Pairs) → IsThere rows e u → agrees b u ≡ true → project (bound spec (edge_at spec e).from) u ≡ project (bound spec (edge_at spec e).from) b
  source_there reads u t g = same_there (bound spec (edge_at spec e).from) (λ c m. a3.inside c (union_left (bound spec (edge_at spec e).from) (edge_at spec e).key c m)) reads.source u t g

  key_there : IsReader spec e Lookup b → (u : Pairs) → IsThere rows e u → agrees b u ≡ true → project (edge_at spec e).key u ≡ project (edge_at spec e).key b
  key_there reads u t g = same_there (edge_at spec e).key (λ c m. a3.inside c (union_right (bound spec (edge_at spec e).from) (edge_at spec e).key c m)) reads.key u t g

  -- such a row has the values by which it is looked up
  there_with : (source key : List ℕ) → source ≡ values_at shape.source b → key ≡ values_at shape.key b → IsReader spec e Lookup b
      → (u : Pairs) → IsThere rows e u → agrees b u ≡ true → IsThereWith shape rows e source key u
  there_with source key by_source by_key reads u t g = record {
    there = t;
    source_is = ap (map (λ (p : ℕ × ℕ). p.1)) (source_there reads u t g) ∙ sym by_source;
    key_is = ap (map (λ (p : ℕ × ℕ). p.1)) (key_there reads u t g) ∙ sym by_key;
  }

  module _ (old : List Pairs) where
    pub looked_up_none : (source key : List ℕ) → source ≡ values_at shape.source b → key ≡ values_at shape.key b → IsReader spec e Lookup b
        → IsLookedUp shape rows e source key None → HasMerged b e rows old old
    looked_up_none source key by_source by_key reads h = record {
      kept = λ c m. m;
      only = λ c m. inl m;
      each = λ c m. absurd (h m.0 (there_with source key by_source by_key reads m.0 m.1 m.2));
    }

    pub looked_up_some : (extra source key : List ℕ) → source ≡ values_at shape.source b → key ≡ values_at shape.key b → IsReader spec e Lookup b
        → (h : IsLookedUp shape rows e source key (Some extra)) → HasMerged b e rows old (old ++ merges_of b (h.0 ∷ []))
    looked_up_some extra source key by_source by_key reads h = appended b e rows old (h.0 ∷ [])
        (λ u m. elim m [ inl q ↦ subst (λ z. IsThere rows e z) (sym q) h.1.there | inr z ↦ absurd z ])
        (λ u m g. inl (h.3 u (there_with source key by_source by_key reads u m g)))

    pub scanned : (ts : List Pairs) (source : List ℕ) → source ≡ values_at shape.source b → IsReader spec e Scan b
        → IsScan shape rows e source ts → HasMerged b e rows old (old ++ merges_of b ts)
    scanned ts source by_source reads h = appended b e rows old ts
        (λ u m. (h.only u m).0)
        (λ u m g. h.each u m (ap (map (λ (p : ℕ × ℕ). p.1))
        (same_there shape.source (λ c n. a3.inside c (union_left shape.source shape.key c n)) reads.source u m g) ∙ sym by_source))

-- ---- the answers of several stripes

pub is_held : (held : List HeldStripe) (stripe : ℕ) → In stripe (stripes_held held) → IsHeld held stripe
is_held held stripe m = let q = in_map (λ (h : HeldStripe). h.stripe) stripe held m in (q.0, q.1, sym q.2)

module _ (s : Holding) (stripe : ℕ) (fragment : FragmentRows) (m : In stripe (stripes_held (held_of s))) (lent : IsLent s stripe fragment) where
  pub lent_columns : (spec : Spec) → AreGood spec (held_of s) → (w : EdgeRow) → In w fragment.now → cols_of w.1 ≡ bound spec (edge_at spec w.0).to
  lent_columns spec good w n =
      let q : IsHeld (held_of s) stripe = is_held (held_of s) stripe m in
      (good q.0 q.1).columns w (subst (In w) (lent.now q.0 q.1 q.2) n)

  pub on_one : (b : Pairs) (e : ℕ) (old new : List Pairs) → HasMerged b e fragment.now old new → HasMergedOn b e (held_of s) (stripe ∷ []) old new
  on_one b e old new f =
      let q : IsHeld (held_of s) stripe = is_held (held_of s) stripe m in
      record {
        kept = f.kept;
        only = λ c n. elim (f.only c n) [ inl k ↦ inl k | inr k ↦ inr (q.0, q.1, subst (λ ws. IsMergeOf b e ws c) (lent.now q.0 q.1 q.2) k) ];
        each = λ g n asked c k. elim asked [ inl z ↦ f.each c (subst (λ ws. IsMergeOf b e ws c) (sym (lent.now g n z)) k) | inr z ↦ absurd z ];
      }

pub on_more : (b : Pairs) (e : ℕ) (held : List HeldStripe) (asked : List ℕ) (stripe : ℕ) (old mid new : List Pairs) → HasMergedOn b e held asked old mid → HasMergedOn b e held (stripe ∷ []) mid new
    → HasMergedOn b e held (asked ++ stripe ∷ []) old new
on_more b e held asked stripe old mid new f g = record {
  kept = λ c m. g.kept c (f.kept c m);
  only = λ c m. elim (g.only c m) [ inl n ↦ f.only c n | inr q ↦ inr q ];
  each = λ h m k c q. elim (in_append h.stripe asked (stripe ∷ []) k) [ inl n ↦ g.kept c (f.each h m n c q) | inr n ↦ g.each h m n c q ];
}

module _ (spec : Spec) (sealed : IsSealed spec) (e : ℕ) (known : e < length spec.edges) (b : Pairs) (held : List HeldStripe) (good : AreGood spec held) where
  -- where the row of a merge lies
  lies_on : (h : HeldStripe) → In h held → (u : Pairs) → IsThere h.now e u → physical_stripe spec (class_of spec e) u ≡ h.stripe
  lies_on h m u t = (good h m).own_stripe (e, u, t.0) t.1

  -- the stripe of a binding that has the class's columns is enough
  pub keyed_is_all : (old new : List Pairs) → Within (class_at spec (class_of spec e)).cols (cols_of b) → HasMergedOn b e held (physical_stripe spec (class_of spec e) b ∷ []) old new → HasMergedAll b e held old new
  keyed_is_all old new w f = record {
    kept = f.kept;
    only = f.only;
    each = λ c q.
        let h : HeldStripe = q.0 in
        let t : IsThere h.now e q.2.0 = q.2.1 in
        let inside : Within (class_at spec (class_of spec e)).cols (cols_of q.2.0) = λ k m. subst (In k) (sym ((good h q.1).columns (e, q.2.0, t.0) t.1)) (striping_in_target spec sealed.accepted.adequate sealed.accepted.placed e known k m) in
        let same : physical_stripe spec (class_of spec e) b ≡ physical_stripe spec (class_of spec e) q.2.0 = physical_stripe-agreeing spec (class_of spec e) b q.2.0 w inside (agree_from b q.2.0 q.2.2) in
        f.each h q.1 (inl (sym (same ∙ lies_on h q.1 q.2.0 t))) c q.2;
  }

  -- and so are all stripes of the class
  pub band_is_all : (old new : List Pairs) → HasMergedOn b e held (band spec (class_of spec e)) old new → HasMergedAll b e held old new
  band_is_all old new f = record {
    kept = f.kept;
    only = f.only;
    each = λ c q. f.each q.0 q.1 (subst (λ z. In z (band spec (class_of spec e))) (lies_on q.0 q.1 q.2.0 q.2.1) (physical_stripe-in_band spec sealed.accepted.placed (class_of spec e) q.2.0 (class_known spec sealed e known))) c q.2;
  }

-- ---- all bindings

-- within a list it is the same what stands where nothing is
pub same_default : {A : Type 0} (xs : List A) (i : ℕ) (d e : A) → i < length xs → get_or xs i d ≡ get_or xs i e
same_default [] i d e l = absurd (omega (arith, l))
same_default (x ∷ xs) zero d e l = refl
same_default (x ∷ xs) (suc i) d e l = same_default xs i d e (omega (arith, l))

pub merges_none : (e : ℕ) (held : List HeldStripe) → AreMerges [] e held []
merges_none e held = record { only = λ c m. absurd m; each = λ b m c q. absurd m }

pub in_next : {A : Type 0} (xs : List A) (i : ℕ) (x y : A) → i < length xs → x ≡ get_or xs i x → In y (take (i + 1) xs) → In y (take i xs) ⊎ (y ≡ x)
in_next xs i x y l e m = elim (in_append y (take i xs) (get_or xs i x ∷ []) (subst (In y) (ap (λ k. take k xs) (add-one i) ∙ take-suc xs i x l) m)) [
  | inl h ↦ inl h
  | inr (inl h) ↦ inr (h ∙ sym e)
  | inr (inr z) ↦ absurd z
]

pub next_in : {A : Type 0} (xs : List A) (i : ℕ) (x y : A) → i < length xs → x ≡ get_or xs i x → In y (take i xs) ⊎ (y ≡ x) → In y (take (i + 1) xs)
next_in xs i x y l e m = subst (In y) (sym (ap (λ k. take k xs) (add-one i) ∙ take-suc xs i x l)) (elim m [
  | inl h ↦ append_in_left y (take i xs) (get_or xs i x ∷ []) h
  | inr h ↦ append_in_right y (take i xs) (get_or xs i x ∷ []) (inl (h ∙ e))
])

pub merges_more : (bs : List Pairs) (i : ℕ) (b : Pairs) (e : ℕ) (held : List HeldStripe) (old new : List Pairs) → i < length bs → b ≡ get_or bs i b → AreMerges (take i bs) e held old → HasMergedAll b e held old new
    → AreMerges (take (i + 1) bs) e held new
merges_more bs i b e held old new l is f g = record {
  only = λ c m. elim (g.only c m) [
    | inl n ↦ (let q : (b : Pairs) × In b (take i bs) × IsMergeOn b e held c = f.only c n in (q.0, next_in bs i b q.0 l is (inl q.1), q.2))
    | inr q ↦ (b, next_in bs i b b l is (inr refl), q)
  ];
  each = λ a m c q. elim (in_next bs i b a l is m) [
    | inl n ↦ g.kept c (f.each a n c q)
    | inr n ↦ g.each c (subst (λ z. IsMergeOn z e held c) n q)
  ];
}

-- a row of the edge among all rows now
pub row_there : (held : List HeldStripe) (e : ℕ) (u : Pairs) → In u (tuples_of_edge e (rows_now held)) → (h : HeldStripe) × In h held × IsThere h.now e u
row_there held e u m =
    let w : (w : EdgeRow) × In w (rows_now held) × (w.0 ≡ e) × (u ≡ w.1) = in_tuples_of_edge e (rows_now held) u m in
    let all : List EdgeRow = flat_map (λ (h : HeldStripe). h.now) held in
    let h : (h : HeldStripe) × In h held × In w.0 h.now = in_flat_map (λ (h : HeldStripe). h.now) w.0 held (in_gather edge_row_cmp edge_row_order w.0 all w.1) in
    (h.0, h.1, (w.0.2, subst (λ (z : EdgeRow). In z h.0.now) (λ i. (w.2 i, sym w.3 i, w.0.2)) h.2))

there_row : (held : List HeldStripe) (e : ℕ) (u : Pairs) (h : HeldStripe) → In h held → IsThere h.now e u → In u (tuples_of_edge e (rows_now held))
there_row held e u h m t =
    let all : List EdgeRow = flat_map (λ (h : HeldStripe). h.now) held in
    tuples_of_edge_in e (rows_now held) (e, u, t.0) (gather_in edge_row_cmp edge_row_order (e, u, t.0) all (flat_map_in (λ (h : HeldStripe). h.now) (e, u, t.0) h held m t.1)) refl

-- the merges of all bindings are the join
pub merges_join : (bs : List Pairs) (e : ℕ) (held : List HeldStripe) (merges : List Pairs) → AreMerges bs e held merges → gather tuple_cmp merges ≡ join bs (tuples_of_edge e (rows_now held))
merges_join bs e held merges f =
    let us : List Pairs = tuples_of_edge e (rows_now held) in
    same_rising tuple_cmp tuple_order (gather tuple_cmp merges) (join bs us) (rising_gather tuple_cmp tuple_order merges) (rising_join bs us)
    (λ c m.
    let q : (b : Pairs) × In b bs × IsMergeOn b e held c = f.only c (in_gather tuple_cmp tuple_order c merges m) in
    let p : IsMergeOf q.0 e q.2.0.now c = q.2.2 in
    subst (λ z. In z (join bs us)) (sym p.3) (join_in bs us q.0 p.0 q.1 (there_row held e p.0 q.2.0 q.2.1 p.1) p.2))
    (λ c m.
    let j : IsJoined bs us c = in_join bs us c m in
    let h : (h : HeldStripe) × In h held × IsThere h.now e j.right = row_there held e j.right j.in_right in
    gather_in tuple_cmp tuple_order c merges (f.each j.left j.in_left c (h.0, h.1, (j.right, h.2, j.agree, j.merged))))

-- ---- bands

pub in_range_from : (k n c : ℕ) → k ≤ c → c < k + n → In c (range_with_len k n)
in_range_from k zero c a b = absurd (omega arith)
in_range_from k (suc n) c a b = elim (cases_eq c k) [ inl e ↦ inl e | inr f ↦ inr (in_range_from (k + 1) n c (omega (arith, f)) (omega arith)) ]

-- a stripe that a class's first and a place within it give is one of the class
pub in_band_from : (spec : Spec) (number : ℕ) (class : Class) (start place : ℕ) → class ≡ class_at spec number → start ≡ band_start spec number → place < class.stripes → In (start + place) (band spec number)
in_band_from spec number class start place is first l =
    let k : place < (class_at spec number).stripes = subst (λ (z : Class). place < z.stripes) is l in
    in_range_from (band_start spec number) (class_at spec number).stripes (start + place) (omega (arith, first)) (omega (arith, first, k))

-- a list stays one for the merges, whatever it has
pub same_takes : (spec : Spec) (e : ℕ) (b : OneBinding) (found : BindingList) (ts : List Pairs) → TakesMerges spec e b found → TakesMerges spec e b (with_tuples found ts)
same_takes spec e b found ts takes = record { width = takes.width; columns = takes.columns }
