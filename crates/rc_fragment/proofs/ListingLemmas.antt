-- The rows of edges by their counts.
use Rattle.std.specs.Prelude.{◌≡◌, ℕ, zero, suc, ◌+◌, ◌<◌, Bool, true, false, cond, T, ◌&&◌, Option, None, Some, List, [], ◌∷◌, map}
use Rattle.rc_fragment.proofs.Imports.{slice_get, AllByRecursion, keys_of, Ordering, Less, Equal, Greater, is_eq, is_lt, ordering_reverse, FinMap, find, is_sorted, get-entries, entries_sorted, below_all, false≢true, IsDistinct-head, IsDistinct-tail, none-some, In, rising_gather, in_gather, gather_in, in_flat_map, flat_map_in, in_map, map_in, in_append, append_in_left, append_in_right, Pairs, tuple_eq, same_from_test, test_from_same, Values, values_cmp, values_eq, Counted, Rows, AreApart, EdgeRow, edge_row_cmp, edge_row_order, count_at, AreCountedRows, in_count, count_none, HasValues, extra_columns, row_from, values_at, sources_of, found_in, found_at, row_at, rows_of_source, rows_of_edge, rows_from, listing, IsFiled, EdgeShape, Container, EdgeRows, values_order}
use Rattle.std.specs.FinMap as fin
use Rattle.std.proofs.Common.{refl, sym, ap, subst, ◌∙◌, inl, inr, arith}
use Rattle.rc_edges.specs.ValuesLaws.{same_from_test as values_same, test_from_same as values_test}

-- ---- entries of a finite map, and what it answers

lt_apart : (x y : Values) → T (is_lt (values_cmp x y)) → values_eq y x ≡ false
lt_apart x y h = go (values_cmp x y) refl h
  where
    go : (a : Ordering) → values_cmp x y ≡ a → T (is_lt a) → values_eq y x ≡ false
    go Less e h = ap is_eq (values_order.total.antisymm y x ∙ ap ordering_reverse e)
    go Equal e h = absurd h
    go Greater e h = absurd h

pub t_first : (a b : Bool) → T (a && b) → T a
t_first true b h = tt
t_first false b h = absurd h

pub t_second : (a b : Bool) → T (a && b) → T b
t_second true b h = h
t_second false b h = absurd h

pub below_in : {X : Type 0} (x : Values) (es : List (Values × X)) (e : Values × X) → T (below_all values_cmp x es) → In e es → T (is_lt (values_cmp x e.0))
below_in x [] e h i = absurd i
below_in x (d ∷ es) e h (inl p) = subst (λ (z : Values × _). T (is_lt (values_cmp x z.0))) (sym p) (t_first _ _ h)
below_in x (d ∷ es) e h (inr p) = below_in x es e (t_second _ _ h) p

in_find : {X : Type 0} (es : List (Values × X)) (e : Values × X) → T (is_sorted values_cmp es) → In e es → find values_cmp e.0 es ≡ Some e.1
in_find [] e h i = absurd i
in_find (d ∷ es) e h (inl p) = ap (λ b. cond b (Some d.1) (find values_cmp e.0 es)) (values_test e.0 d.0 (ap (λ (z : Values × _). z.0) p)) ∙ ap (λ (z : Values × _). Some z.1) (sym p)
in_find (d ∷ es) e h (inr p) = ap (λ b. cond b (Some d.1) (find values_cmp e.0 es)) (lt_apart d.0 e.0 (below_in d.0 es e (t_first _ _ h) p)) ∙ in_find es e (t_second _ _ h) p

pub find_in : {X : Type 0} (q : Values) (es : List (Values × X)) (v : X) → find values_cmp q es ≡ Some v → In (q, v) es
find_in q [] v h = cc
find_in q (d ∷ es) v h = go (values_eq q d.0) refl h (find_in q es v)
  where
    go : (b : Bool) → values_eq q d.0 ≡ b → cond b (Some d.1) (find values_cmp q es) ≡ Some v → (find values_cmp q es ≡ Some v → In (q, v) es) → In (q, v) (d ∷ es)
    go true e h ih = let p : q ≡ d.0 = values_same q d.0 e in let w : d.1 ≡ v = cc in inl (λ i. (p i, sym w i))
    go false e h ih = inr (ih h)

pub entry_get : {X : Type 0} (m : FinMap values_cmp X) (e : Values × X) → In e (fin.entries m) → fin.get m e.0 ≡ Some e.1
entry_get m e i = get-entries m e.0 ∙ in_find (fin.entries m) e (entries_sorted m) i

pub get_entry : {X : Type 0} (m : FinMap values_cmp X) (q : Values) (v : X) → fin.get m q ≡ Some v → In (q, v) (fin.entries m)
get_entry m q v h = find_in q (fin.entries m) v (sym (get-entries m q) ∙ h)

find_apart : {X : Type 0} (key : Values) (es : List (Values × X)) → AllByRecursion (λ k. values_eq key k ≡ false) (keys_of es) → find values_cmp key es ≡ None
find_apart key [] h = refl
find_apart key (e ∷ es) h = ap (λ b. cond b (Some e.1) (find values_cmp key es)) h.0 ∙ find_apart key es h.1

-- a key that comes first is none of the later ones
pub find_later : {X : Type 0} (e : Values × X) (es : List (Values × X)) (q : Values) → values_eq q e.0 ≡ true → AreApart (e ∷ es) → find values_cmp q es ≡ None
find_later e es q t apart = ap (λ z. find values_cmp z es) (values_same q e.0 t) ∙ find_apart e.0 es (IsDistinct-head values_eq e.0 (keys_of es) apart)

-- an entry among those with distinct keys is found by its key
pub in_find_apart : {X : Type 0} (es : List (Values × X)) (e : Values × X) → AreApart es → In e es → find values_cmp e.0 es ≡ Some e.1
in_find_apart [] e h m = absurd m
in_find_apart {X} (d ∷ es) e h (inl p) = ap (λ b. cond b (Some d.1) (find values_cmp e.0 es)) (values_test e.0 d.0 (ap (λ (z : Values × X). z.0) p)) ∙ ap (λ (z : Values × X). Some z.1) (sym p)
in_find_apart {X} (d ∷ es) e h (inr p) = go (values_eq e.0 d.0) refl (in_find_apart es e (IsDistinct-tail values_eq d.0 (keys_of es) h) p)
  where
    go : (b : Bool) → values_eq e.0 d.0 ≡ b → find values_cmp e.0 es ≡ Some e.1 → cond b (Some d.1) (find values_cmp e.0 es) ≡ Some e.1
    go true t ih = absurd (none-some e.1 (sym (find_later d es e.0 t h) ∙ ih))
    go false t ih = ih

-- ---- the rows of one edge

module _ (part : Container → Rows) (edge : EdgeRows) where
  -- where a row is found
  abbrev pub IsFoundAt : Pairs × ℕ → Type 0
  IsFoundAt r = (s : Values) × (k : Values) × (c : Counted) × (found_at part (sources_of edge) s k ≡ Some c) × (r ≡ row_at edge.shape s k c)

  pub edge_row_found : (r : Pairs × ℕ) → In r (rows_of_edge part edge) → IsFoundAt r
  edge_row_found r h =
      let s : (s : Values × Container) × In s (fin.entries (sources_of edge)) × In r (rows_of_source part edge.shape s) = in_flat_map (rows_of_source part edge.shape) r (fin.entries (sources_of edge)) h in
      let k : (e : Values × Counted) × In e (fin.entries (part s.0.1)) × (r ≡ row_at edge.shape s.0.0 e.0 e.1) = in_map (λ (e : Values × Counted). row_at edge.shape s.0.0 e.0 e.1) r (fin.entries (part s.0.1)) s.2 in
      (s.0.0, k.0.0, k.0.1, ap (λ z. found_in part z k.0.0) (entry_get (sources_of edge) s.0 s.1) ∙ entry_get (part s.0.1) k.0 k.1, k.2)

  pub found_edge_row : (s k : Values) (c : Counted) → found_at part (sources_of edge) s k ≡ Some c → In (row_at edge.shape s k c) (rows_of_edge part edge)
  found_edge_row s k c h = go (fin.get (sources_of edge) s) refl h
    where
      go : (o : Option Container) → fin.get (sources_of edge) s ≡ o → found_in part o k ≡ Some c → In (row_at edge.shape s k c) (rows_of_edge part edge)
      go None e h = absurd (cc)
      go (Some v) e h =
          flat_map_in (rows_of_source part edge.shape) (row_at edge.shape s k c) (s, v) (fin.entries (sources_of edge))
          (get_entry (sources_of edge) s v e)
          (map_in (λ (e : Values × Counted). row_at edge.shape s e.0 e.1) (k, c) (fin.entries (part v)) (get_entry (part v) k c h))

-- ---- the rows of all edges

-- a row's edge, and where it is found in it
pub record IsFoundRow (part : Container → Rows) (edges : List EdgeRows) (w : EdgeRow) (n : ℕ) : Type 0 where
  pub edge : EdgeRows
  pub number : slice_get edges n ≡ Some edge
  pub source : Values
  pub key : Values
  pub kept : Counted
  pub there : found_at part (sources_of edge) source key ≡ Some kept
  pub is : w.1 ≡ row_from edge.shape source key kept.0
  pub count : w.2 ≡ kept.1

module _ (part : Container → Rows) where
  from_row : (e : ℕ) (edges : List EdgeRows) (w : EdgeRow) → In w (rows_from part e edges) → (n : ℕ) × (w.0 ≡ e + n) × IsFoundRow part edges w n
  from_row e [] w h = absurd h
  from_row e (x ∷ edges) w h = elim (in_append w (map (λ (c : Pairs × ℕ). (e, c.0, c.1)) (rows_of_edge part x)) (rows_from part (suc e) edges) h) [
    | inl a ↦
        let c : (c : Pairs × ℕ) × In c (rows_of_edge part x) × (w ≡ (e, c.0, c.1)) = in_map (λ (c : Pairs × ℕ). (e, c.0, c.1)) w (rows_of_edge part x) a in
        let f : IsFoundAt part x c.0 = edge_row_found part x c.0 c.1 in
        let z : e ≡ e + 0 = omega arith in (
          0,
          ap (λ (v : EdgeRow). v.0) c.2 ∙ z,
          record {
            edge = x;
            number = refl;
            source = f.0;
            key = f.1;
            kept = f.2;
            there = f.3;
            is = ap (λ (v : EdgeRow). v.1) c.2 ∙ ap (λ (r : Pairs × ℕ). r.0) f.4;
            count = ap (λ (v : EdgeRow). v.2) c.2 ∙ ap (λ (r : Pairs × ℕ). r.1) f.4;
          },
        )
    | inr b ↦
        let r : (n : ℕ) × (w.0 ≡ suc e + n) × IsFoundRow part edges w n = from_row (suc e) edges w b in
        let z : suc e + r.0 ≡ e + suc r.0 = omega arith in
        let q : IsFoundRow part edges w r.0 = r.2 in
        (suc r.0, r.1 ∙ z, record { edge = q.edge; number = q.number; source = q.source; key = q.key; kept = q.kept; there = q.there; is = q.is; count = q.count })
  ]

  row_from_edge : (e : ℕ) (edges : List EdgeRows) (n : ℕ) (x : EdgeRows) (c : Pairs × ℕ) → slice_get edges n ≡ Some x → In c (rows_of_edge part x) → In (e + n, c.0, c.1) (rows_from part e edges)
  row_from_edge e [] n x c g h = absurd (cc)
  row_from_edge e (y ∷ edges) zero x c g h =
      let p : y ≡ x = cc in
      let z : e + 0 ≡ e = omega arith in
      append_in_left (e + 0, c.0, c.1) (map (λ (d : Pairs × ℕ). (e, d.0, d.1)) (rows_of_edge part y)) (rows_from part (suc e) edges)
      (subst (λ m. In {A = EdgeRow} (m, c.0, c.1) (map (λ (d : Pairs × ℕ). (e, d.0, d.1)) (rows_of_edge part y))) (sym z)
      (map_in (λ (d : Pairs × ℕ). (e, d.0, d.1)) c (rows_of_edge part y) (subst (λ z. In c (rows_of_edge part z)) (sym p) h)))
  row_from_edge e (y ∷ edges) (suc n) x c g h =
      let z : suc e + n ≡ e + suc n = omega arith in
      append_in_right (e + suc n, c.0, c.1) (map (λ (d : Pairs × ℕ). (e, d.0, d.1)) (rows_of_edge part y)) (rows_from part (suc e) edges)
      (subst (λ m. In {A = EdgeRow} (m, c.0, c.1) (rows_from part (suc e) edges)) z (row_from_edge (suc e) edges n x c g h))

  pub listed_row : (edges : List EdgeRows) (w : EdgeRow) → In w (listing part edges) → IsFoundRow part edges w w.0
  listed_row edges w h =
      let r : (n : ℕ) × (w.0 ≡ 0 + n) × IsFoundRow part edges w n = from_row 0 edges w (in_gather edge_row_cmp edge_row_order w (rows_from part 0 edges) h) in
      let z : r.0 ≡ w.0 = let q : w.0 ≡ 0 + r.0 = r.1 in omega arith in
      subst (IsFoundRow part edges w) z r.2

  pub row_listed : (edges : List EdgeRows) (n : ℕ) (x : EdgeRows) (s k : Values) (c : Counted) → slice_get edges n ≡ Some x → found_at part (sources_of x) s k ≡ Some c
      → In {A = EdgeRow} (n, row_from x.shape s k c.0, c.1) (listing part edges)
  row_listed edges n x s k c g h =
      let r : EdgeRow = (n, row_from x.shape s k c.0, c.1) in
      let z : 0 + n ≡ n = omega arith in
      gather_in edge_row_cmp edge_row_order r (rows_from part 0 edges)
      (subst (λ m. In {A = EdgeRow} (m, r.1, r.2) (rows_from part 0 edges)) z (row_from_edge 0 edges n x (row_at x.shape s k c) g (found_edge_row part x s k c h)))

-- ---- counts

-- the columns of the row at which the edge keeps it, by their values
abbrev pub source_in : EdgeShape → Pairs → Values
source_in shape row = values_at shape.source row

abbrev pub key_in : EdgeShape → Pairs → Values
key_in shape row = values_at shape.key row

abbrev pub extra_in : EdgeShape → Pairs → Values
extra_in shape row = values_at (extra_columns shape) row

-- the row that is found at the row's source and key
abbrev pub row_with : EdgeShape → Pairs → Values → Pairs
row_with shape row extra = row_from shape (source_in shape row) (key_in shape row) extra

-- the count of what was found at a row's source and key, where it is this row
abbrev pub count_of_row : EdgeShape → Pairs → Option Counted → ℕ
count_of_row shape row None = 0
count_of_row shape row (Some c) = cond (tuple_eq (row_with shape row c.0) row) c.1 0

-- what is found in an edge at a row's source and key
abbrev pub found_for : (Container → Rows) → EdgeRows → Pairs → Option Counted
found_for part x row = found_at part (sources_of x) (source_in x.shape row) (key_in x.shape row)

abbrev pub count_of_edge : (Container → Rows) → Option EdgeRows → Pairs → ℕ
count_of_edge part None row = 0
count_of_edge part (Some x) row = count_of_row x.shape row (found_for part x row)

module _ (part : Container → Rows) (edges : List EdgeRows) (filed : (n : ℕ) (x : EdgeRows) → slice_get edges n ≡ Some x → IsFiled part x) where
  -- a row is found at its own source and key, and is the one with what is kept there
  pub own_values : (w : EdgeRow) (x : EdgeRows) → slice_get edges w.0 ≡ Some x → (q : IsFoundRow part edges w w.0) → HasValues x.shape w.1 q.source q.key q.kept.0
  own_values w x g q =
      let p : q.edge ≡ x = let a : slice_get edges w.0 ≡ Some q.edge = q.number in cc in
      let v : HasValues q.edge.shape (row_from q.edge.shape q.source q.key q.kept.0) q.source q.key q.kept.0 = (filed w.0 q.edge q.number).values q.source q.key q.kept q.there in
      subst (λ (z : EdgeRows). HasValues z.shape w.1 q.source q.key q.kept.0) p (subst (λ z. HasValues q.edge.shape z q.source q.key q.kept.0) (sym q.is) v)

  pub own_place : (w : EdgeRow) (x : EdgeRows) → slice_get edges w.0 ≡ Some x → IsFoundRow part edges w w.0 → found_for part x w.1 ≡ Some (extra_in x.shape w.1, w.2)
  own_place w x g q =
      let p : q.edge ≡ x = let a : slice_get edges w.0 ≡ Some q.edge = q.number in cc in
      let t : found_at part (sources_of x) q.source q.key ≡ Some q.kept = subst (λ (z : EdgeRows). found_at part (sources_of z) q.source q.key ≡ Some q.kept) p q.there in
      let v : HasValues x.shape w.1 q.source q.key q.kept.0 = own_values w x g q in
      (λ i. found_at part (sources_of x) (v.source_is i) (v.key_is i)) ∙ t ∙ (λ i. Some (sym v.extra_is i, sym q.count i))

  -- the row with its own values
  pub own_row : (w : EdgeRow) (x : EdgeRows) → slice_get edges w.0 ≡ Some x → IsFoundRow part edges w w.0 → row_with x.shape w.1 (extra_in x.shape w.1) ≡ w.1
  own_row w x g q =
      let p : q.edge ≡ x = let a : slice_get edges w.0 ≡ Some q.edge = q.number in cc in
      let v : HasValues x.shape w.1 q.source q.key q.kept.0 = own_values w x g q in
      (λ i. row_from x.shape (v.source_is i) (v.key_is i) (v.extra_is i)) ∙ sym (subst (λ (z : EdgeRows). w.1 ≡ row_from z.shape q.source q.key q.kept.0) p q.is)

  pub AreCountedRows-listing : AreCountedRows (listing part edges)
  AreCountedRows-listing = record {
    rising = rising_gather edge_row_cmp edge_row_order (rows_from part 0 edges);
    once = λ v w h k a b.
        let p : IsFoundRow part edges v v.0 = listed_row part edges v h in
        let q : IsFoundRow part edges w w.0 = listed_row part edges w k in
        let s : found_for part p.edge v.1 ≡ Some (extra_in p.edge.shape v.1, v.2) = own_place v p.edge p.number p in
        let g : slice_get edges w.0 ≡ Some p.edge = ap (slice_get edges) (sym a) ∙ p.number in
        let t : found_for part p.edge w.1 ≡ Some (extra_in p.edge.shape w.1, w.2) = own_place w p.edge g q in
        let c : Some (extra_in p.edge.shape v.1, v.2) ≡ Some (extra_in p.edge.shape w.1, w.2) = sym s ∙ (λ i. found_for part p.edge (b i)) ∙ t in
        let d : v.2 ≡ w.2 = ap (λ (o : Option Counted). count_or o) c in
        λ i. (a i, b i, d i);
    positive = λ w h.
        let q : IsFoundRow part edges w w.0 = listed_row part edges w h in
        subst (λ n. 0 < n) (sym q.count) ((filed w.0 q.edge q.number).counts q.source q.key q.kept q.there);
  }
    where
      count_or : Option Counted → ℕ
      count_or None = 0
      count_or (Some c) = c.1

  pub count_listed : (e : ℕ) (row : Pairs) → count_at e row (listing part edges) ≡ count_of_edge part (slice_get edges e) row
  count_listed e row = by_edge (slice_get edges e) refl
    where
      -- a listed row at the row's place
      found_by_row : (x : EdgeRows) → slice_get edges e ≡ Some x → (o : Option Counted) → found_for part x row ≡ o
          → (w : EdgeRow) → In w (listing part edges) → w.0 ≡ e → w.1 ≡ row → (o ≡ Some (extra_in x.shape row, w.2)) × (row_with x.shape row (extra_in x.shape row) ≡ row)
      found_by_row x g o f w h a b =
          let g' : slice_get edges w.0 ≡ Some x = ap (slice_get edges) a ∙ g in
          let q : IsFoundRow part edges w w.0 = listed_row part edges w h in
          let t : found_for part x w.1 ≡ Some (extra_in x.shape w.1, w.2) = own_place w x g' q in
          (sym f ∙ (λ i. found_for part x (sym b i)) ∙ t ∙ (λ i. Some (extra_in x.shape (b i), w.2)), subst (λ z. row_with x.shape z (extra_in x.shape z) ≡ z) b (own_row w x g' q))

      by_row : (x : EdgeRows) → slice_get edges e ≡ Some x → (c : Counted) → found_for part x row ≡ Some c
          → (b : Bool) → tuple_eq (row_with x.shape row c.0) row ≡ b → count_at e row (listing part edges) ≡ cond b c.1 0
      by_row x g c f true t =
          let p : row_with x.shape row c.0 ≡ row = same_from_test (row_with x.shape row c.0) row t in
          let r : EdgeRow = (e, row_with x.shape row c.0, c.1) in
          ap (λ z. count_at e z (listing part edges)) (sym p) ∙ in_count (listing part edges) AreCountedRows-listing r (row_listed part edges e x (source_in x.shape row) (key_in x.shape row) c g f)
      by_row x g c f false t = count_none e row (listing part edges) (λ w h a b.
          let q : (Some c ≡ Some (extra_in x.shape row, w.2)) × (row_with x.shape row (extra_in x.shape row) ≡ row) = found_by_row x g (Some c) f w h a b in
          let s : Some c ≡ Some (extra_in x.shape row, w.2) = q.0 in
          let p : c.0 ≡ extra_in x.shape row = let r : c ≡ (extra_in x.shape row, w.2) = cc in ap (λ (z : Counted). z.0) r in
          false≢true (sym t ∙ test_from_same (row_with x.shape row c.0) row (ap (row_with x.shape row) p ∙ q.1)))

      by_found : (x : EdgeRows) → slice_get edges e ≡ Some x → (o : Option Counted) → found_for part x row ≡ o → count_at e row (listing part edges) ≡ count_of_row x.shape row o
      by_found x g None f = count_none e row (listing part edges) (λ w h a b. let q : None ≡ Some (extra_in x.shape row, w.2) = (found_by_row x g None f w h a b).0 in absurd (cc))
      by_found x g (Some c) f = by_row x g c f (tuple_eq (row_with x.shape row c.0) row) refl

      by_edge : (o : Option EdgeRows) → slice_get edges e ≡ o → count_at e row (listing part edges) ≡ count_of_edge part o row
      by_edge None g = count_none e row (listing part edges) (λ w h a b.
          let q : IsFoundRow part edges w w.0 = listed_row part edges w h in
          let r : None ≡ Some q.edge = sym g ∙ ap (slice_get edges) (sym a) ∙ q.number in absurd (cc))
      by_edge (Some x) g = by_found x g (found_for part x row) refl
