-- A tuple's rows class by class: changed on the stripes on which the tuple falls, they are changed in all edges of the classes.
use Rattle.std.specs.Prelude.{◌≡◌, ℕ, zero, suc, ◌+◌, ◌<◌, ◌==◌, ◌||◌, ◌++◌, ◌⊎◌, Bool, true, false, List, [], ◌∷◌, cond, filter, get_or, length, map, not, take}
use Rattle.rc_machine.proofs.Imports.{fold, list_any, range_with_len, option_map_or, nat_cmp, eq-eqb, eqb-true, false≢true, ne_eqb, not-true, not_from_false, append-nil, map-append, take_more, filter-append, AreDistinct, In, append_in_left, append_in_right, filter-filter, filter_in, get_or_in, has_in, in_append, in_filter, in_has, in_map, nat_order, rising_filter, same_rising, Within, has, in_range_below, Pairs, cols_of, project, Spec, IsSealed, all_columns, lowered, raised, row_in, EdgeRow, edge_numbers, class_at, class_of, physical_stripe, one_class_law, IsThere, edge_row, edge_table, shape_of, number_has_shape, shape_by_number, HeldStripe, IsHeldExclusive, changed_at, with_now, NumberedRow, lowered_all, raised_all, class_rows, is_of_class, numbered_rows, CanAddRow, CanAddTuple, HasTuple, EdgeShape, CanInsert, CanRemove, AreAllCounted, ArePlaces, CanChange, IsAddable, all_changed, all_placed, edges_with, has_column, place_in, stripe_in, with_place, classes_more, others, class_edges, classes_of, with_class, ClassStripe}
use Rattle.std.proofs.Common.{inl, inr, refl, sym, ap, subst, ◌∙◌, arith}
use Rattle.rc_machine.proofs.ApplyLemmas.{CanAdd, Change, cols_of-row_in, small_count}
use Rattle.rc_machine.proofs.ChangeLemmas.{IsLocal, lowered_local, raised_local}
use Rattle.rc_machine.proofs.ReadLemmas.{class_known}
use Rattle.rc_machine.proofs.SharedLemmas.{CanSwap, all_counted, changed_rows, edges_rise, known_edge, lowered_lowered, off_it, on_it, parted, raised_raised}
use Rattle.rc_machine.proofs.StripeLemmas.{class_within, tuple_falls_with_row}

-- ---- the classes of edges

distinct_more : (classes : List ℕ) (c : ℕ) → (In c classes → ⊥) → AreDistinct classes → AreDistinct (classes ++ c ∷ [])
distinct_more [] c out distinct = ((λ m. m), tt)
distinct_more (d ∷ classes) c out distinct = (
  (λ m. elim (in_append d classes (c ∷ []) m) [
    | inl n ↦ distinct.0 n
    | inr (inl e) ↦ out (inl (sym e))
    | inr (inr z) ↦ z
  ]),
  distinct_more classes c (λ m. out (inr m)) distinct.1,
)

more_distinct : (classes : List ℕ) (c : ℕ) → AreDistinct classes → AreDistinct (with_class classes c)
more_distinct classes c distinct = go (has classes c) refl
  where
    go : (b : Bool) → has classes c ≡ b → AreDistinct (cond b classes (classes ++ c ∷ []))
    go true q = distinct
    go false q = distinct_more classes c (λ m. false≢true (sym q ∙ has_in classes c m)) distinct

in_more : (classes : List ℕ) (c d : ℕ) → In d classes → In d (with_class classes c)
in_more classes c d m = go (has classes c)
  where
    go : (b : Bool) → In d (cond b classes (classes ++ c ∷ []))
    go true = m
    go false = append_in_left d classes (c ∷ []) m

new_in : (classes : List ℕ) (c : ℕ) → In c (with_class classes c)
new_in classes c = go (has classes c) refl
  where
    go : (b : Bool) → has classes c ≡ b → In c (cond b classes (classes ++ c ∷ []))
    go true q = in_has classes c q
    go false q = append_in_right c classes (c ∷ []) (inl refl)

more_in : (classes : List ℕ) (c d : ℕ) → In d (with_class classes c) → In d classes ⊎ (d ≡ c)
more_in classes c d m = go (has classes c) m
  where
    go : (b : Bool) → In d (cond b classes (classes ++ c ∷ [])) → In d classes ⊎ (d ≡ c)
    go true n = inl n
    go false n = elim (in_append d classes (c ∷ []) n) [ inl k ↦ inl k | inr (inl e) ↦ inr e | inr (inr z) ↦ absurd z ]

module _ (spec : Spec) where
  abbrev after : List ℕ → List ℕ → List ℕ
  after classes edges = fold (λ classes e. with_class classes (class_of spec e)) classes edges

  after_distinct : (edges classes : List ℕ) → AreDistinct classes → AreDistinct (after classes edges)
  after_distinct [] classes distinct = distinct
  after_distinct (e ∷ edges) classes distinct = after_distinct edges (with_class classes (class_of spec e)) (more_distinct classes (class_of spec e) distinct)

  stays : (edges classes : List ℕ) (c : ℕ) → In c classes → In c (after classes edges)
  stays [] classes c m = m
  stays (e ∷ edges) classes c m = stays edges (with_class classes (class_of spec e)) c (in_more classes (class_of spec e) c m)

  comes : (edges classes : List ℕ) (e : ℕ) → In e edges → In (class_of spec e) (after classes edges)
  comes [] classes e m = absurd m
  comes (d ∷ edges) classes e (inl q) =
      stays edges (with_class classes (class_of spec d)) (class_of spec e) (subst (λ z. In (class_of spec z) (with_class classes (class_of spec d))) (sym q) (new_in classes (class_of spec d)))
  comes (d ∷ edges) classes e (inr m) = comes edges (with_class classes (class_of spec d)) e m

  -- the class of one of the edges
  abbrev pub IsClassAmong : List ℕ → ℕ → Type 0
  IsClassAmong edges c = (e : ℕ) × In e edges × (class_of spec e ≡ c)

  comes_from : (edges classes : List ℕ) (c : ℕ) → In c (after classes edges) → In c classes ⊎ IsClassAmong edges c
  comes_from [] classes c m = inl m
  comes_from (e ∷ edges) classes c m = elim (comes_from edges (with_class classes (class_of spec e)) c m) [
    | inl n ↦ first (more_in classes (class_of spec e) c n)
    | inr q ↦ inr (q.0, inr q.1, q.2)
  ]
    where
      first : In c classes ⊎ (c ≡ class_of spec e) → In c classes ⊎ IsClassAmong (e ∷ edges) c
      first (inl n) = inl n
      first (inr q) = inr (e, inl refl, sym q)

  pub classes_distinct : (edges : List ℕ) → AreDistinct (classes_of spec edges)
  classes_distinct edges = after_distinct edges [] tt

  pub class_in : (edges : List ℕ) (e : ℕ) → In e edges → In (class_of spec e) (classes_of spec edges)
  class_in edges e m = comes edges [] e m

  pub class_among : (edges : List ℕ) (c : ℕ) → In c (classes_of spec edges) → IsClassAmong edges c
  class_among edges c m = elim (comes_from edges [] c m) [ inl z ↦ absurd z | inr q ↦ q ]

  -- the classes of one edge more, with the stripes on which a tuple falls
  has_placed : (t : Pairs) (classes : List ℕ) (c : ℕ) → list_any (λ (p : ClassStripe). p.class == c) (map (place_in spec t) classes) ≡ has classes c
  has_placed t [] c = refl
  has_placed t (d ∷ classes) c = ap (λ b. (d == c) || b) (has_placed t classes c)

  pub placed_more : (t : Pairs) (edges : List ℕ) (e : ℕ) (places new : List ClassStripe) → places ≡ map (place_in spec t) (classes_of spec edges) → new ≡ with_place spec t places (class_of spec e)
      → new ≡ map (place_in spec t) (classes_of spec (edges ++ e ∷ []))
  placed_more t edges e places new are is =
      let c : ℕ = class_of spec e in
      let classes : List ℕ = classes_of spec edges in
      is ∙ ap (λ ps. with_place spec t ps c) are ∙ ap (λ b. cond b (map (place_in spec t) classes) (map (place_in spec t) classes ++ place_in spec t c ∷ [])) (has_placed t classes c) ∙ go c classes (has classes c)
      ∙ ap (map (place_in spec t)) (sym (classes_more spec edges e))
    where
      go : (c : ℕ) (classes : List ℕ) (b : Bool) → cond b (map (place_in spec t) classes) (map (place_in spec t) classes ++ place_in spec t c ∷ []) ≡ map (place_in spec t) (cond b classes (classes ++ c ∷ []))
      go c classes true = refl
      go c classes false = sym (map-append (place_in spec t) classes (c ∷ []))

  -- ---- a tuple's rows of the edges that pass a test

  pub rows_are : (p : EdgeShape → Bool) (t : Pairs) (a n : ℕ) → numbered_rows p a (map (shape_of spec) (range_with_len a n)) t ≡ map (λ e. (e, row_in spec t e)) (filter (λ e. p (shape_of spec e)) (range_with_len a n))
  rows_are p t a zero = refl
  rows_are p t a (suc n) =
      let z : suc a ≡ a + 1 = omega arith in
      go (p (shape_of spec a)) (ap (λ k. numbered_rows p k (map (shape_of spec) (range_with_len (a + 1) n)) t) z ∙ rows_are p t (a + 1) n)
    where
      go : (b : Bool) → numbered_rows p (suc a) (map (shape_of spec) (range_with_len (a + 1) n)) t ≡ map (λ e. (e, row_in spec t e)) (filter (λ e. p (shape_of spec e)) (range_with_len (a + 1) n))
          → cond b ((a, row_in spec t a) ∷ numbered_rows p (suc a) (map (shape_of spec) (range_with_len (a + 1) n)) t) (numbered_rows p (suc a) (map (shape_of spec) (range_with_len (a + 1) n)) t)
          ≡ map (λ e. (e, row_in spec t e)) (cond b (a ∷ filter (λ e. p (shape_of spec e)) (range_with_len (a + 1) n)) (filter (λ e. p (shape_of spec e)) (range_with_len (a + 1) n)))
      go true ih = λ i. (a, row_in spec t a) ∷ ih i
      go false ih = ih

-- ---- rows of one stripe

composed : (s : ℕ) (f g : List EdgeRow → List EdgeRow) (held : List HeldStripe) → changed_at s g (changed_at s f held) ≡ changed_at s (λ ws. g (f ws)) held
composed s f g [] = refl
composed s f g (h ∷ held) = λ i. one (h.stripe == s) refl i ∷ composed s f g held i
  where
    one : (b : Bool) → (h.stripe == s) ≡ b → with_now s g (with_now s f h) ≡ with_now s (λ ws. g (f ws)) h
    one true q = ap (with_now s g) (on_it s f h q) ∙ on_it s g (changed_rows f h) q ∙ sym (on_it s (λ ws. g (f ws)) h q)
    one false q = ap (with_now s g) (off_it s f h q) ∙ off_it s g h q ∙ sym (off_it s (λ ws. g (f ws)) h q)

unchanged : (s : ℕ) (held : List HeldStripe) → changed_at s (λ ws. ws) held ≡ held
unchanged s [] = refl
unchanged s (h ∷ held) = λ i. one (h.stripe == s) i ∷ unchanged s held i
  where
    one : (b : Bool) → cond b (record { stripe = h.stripe; mode = h.mode; now = h.now; taken = h.taken }) h ≡ h
    one true = refl
    one false = refl

-- a change of rows is that of each of them
pub record IsEach (change : Change) (all : List NumberedRow → List EdgeRow → List EdgeRow) : Type 0 where
  pub none : (ws : List EdgeRow) → all [] ws ≡ ws
  pub more : (p : NumberedRow) (ps : List NumberedRow) (ws : List EdgeRow) → all (p ∷ ps) ws ≡ all ps (change p.0 p.1 ws)
  pub swap : CanSwap change change
  pub local : IsLocal change

pub each_raised : IsEach raised raised_all
each_raised = record { none = λ ws. refl; more = λ p ps ws. refl; swap = raised_raised; local = raised_local }

pub each_lowered : IsEach lowered lowered_all
each_lowered = record { none = λ ws. refl; more = λ p ps ws. refl; swap = lowered_lowered; local = lowered_local }

-- ---- rows of classes

module _ (change : Change) (all : List NumberedRow → List EdgeRow → List EdgeRow) (each : IsEach change all) (spec : Spec) (t : Pairs) where
  on_one : (s : ℕ) (edges : List ℕ) → ((e : ℕ) → In e edges → stripe_in spec t e ≡ s) → (held : List HeldStripe) → changed_at s (all (map (λ e. (e, row_in spec t e)) edges)) held ≡ all_changed change spec t edges held
  on_one s [] here held = ap (λ f. changed_at s f held) (λ i ws. each.none ws i) ∙ unchanged s held
  on_one s (e ∷ edges) here held =
      ap (λ f. changed_at s f held) (λ i ws. each.more (e, row_in spec t e) (map (λ e. (e, row_in spec t e)) edges) ws i)
      ∙ sym (composed s (change e (row_in spec t e)) (all (map (λ e. (e, row_in spec t e)) edges)) held)
      ∙ on_one s edges (λ d m. here d (inr m)) (changed_at s (change e (row_in spec t e)) held)
      ∙ ap (λ n. all_changed change spec t edges (changed_at n (change e (row_in spec t e)) held)) (sym (here e (inl refl)))

  module _ (sealed : IsSealed spec) (whole : cols_of t ≡ all_columns spec) where
    class_changed : (c : ℕ) (held : List HeldStripe) → changed_at (physical_stripe spec c t) (all (class_rows (edge_table spec) c t)) held ≡ all_changed change spec t (class_edges spec c) held
    class_changed c held =
        ap (λ ps. changed_at (physical_stripe spec c t) (all ps) held) (rows_are spec (is_of_class c) t 0 (length spec.edges))
        ∙ on_one (physical_stripe spec c t) (class_edges spec c)
        (λ e m. let q : In e (edge_numbers spec) × ((class_of spec e == c) ≡ true) = in_filter (λ e. class_of spec e == c) e (edge_numbers spec) m in
        sym (tuple_falls_with_row spec sealed t whole e (known_edge spec e q.0)) ∙ ap (λ d. physical_stripe spec d t) (eqb-true (class_of spec e) c q.1)) held

    -- the edges of the classes
    abbrev pub edges_among : List ℕ → List ℕ
    edges_among classes = filter (λ e. has classes (class_of spec e)) (edge_numbers spec)

    none_among : (edges : List ℕ) → filter (λ e. has [] (class_of spec e)) edges ≡ []
    none_among [] = refl
    none_among (e ∷ edges) = none_among edges

    first_among : (c : ℕ) (classes : List ℕ) → filter (λ e. class_of spec e == c) (edges_among (c ∷ classes)) ≡ class_edges spec c
    first_among c classes =
        filter-filter (λ e. class_of spec e == c) (λ e. has (c ∷ classes) (class_of spec e))
        (λ e q. has_in (c ∷ classes) (class_of spec e) (inl (eqb-true (class_of spec e) c q))) (edge_numbers spec)

    others_among : (c : ℕ) (classes : List ℕ) → (In c classes → ⊥) → filter (λ e. not (class_of spec e == c)) (edges_among (c ∷ classes)) ≡ edges_among classes
    others_among c classes out =
        same_rising nat_cmp nat_order (filter (λ e. not (class_of spec e == c)) (edges_among (c ∷ classes))) (edges_among classes)
        (rising_filter nat_cmp (λ e. not (class_of spec e == c)) (edges_among (c ∷ classes)) (rising_filter nat_cmp (λ e. has (c ∷ classes) (class_of spec e)) (edge_numbers spec) (edges_rise spec)))
        (rising_filter nat_cmp (λ e. has classes (class_of spec e)) (edge_numbers spec) (edges_rise spec))
        (λ e m.
        let q : In e (edges_among (c ∷ classes)) × (not (class_of spec e == c) ≡ true) = in_filter (λ e. not (class_of spec e == c)) e (edges_among (c ∷ classes)) m in
        let r : In e (edge_numbers spec) × (has (c ∷ classes) (class_of spec e) ≡ true) = in_filter (λ e. has (c ∷ classes) (class_of spec e)) e (edge_numbers spec) q.0 in
        elim (in_has (c ∷ classes) (class_of spec e) r.1) [
          | inl is ↦ absurd (false≢true (sym (not-true (class_of spec e == c) q.1) ∙ eq-eqb (class_of spec e) c is))
          | inr n ↦ filter_in (λ e. has classes (class_of spec e)) e (edge_numbers spec) r.0 (has_in classes (class_of spec e) n)
        ])
        (λ e m.
        let q : In e (edge_numbers spec) × (has classes (class_of spec e) ≡ true) = in_filter (λ e. has classes (class_of spec e)) e (edge_numbers spec) m in
        let n : In (class_of spec e) classes = in_has classes (class_of spec e) q.1 in
        filter_in (λ e. not (class_of spec e == c)) e (edges_among (c ∷ classes))
        (filter_in (λ e. has (c ∷ classes) (class_of spec e)) e (edge_numbers spec) q.0 (has_in (c ∷ classes) (class_of spec e) (inr n)))
        (not_from_false (class_of spec e == c) (ne_eqb (class_of spec e) c (λ is. out (subst (λ z. In z classes) is n)))))

    -- the rows of each class changed on its stripe, in whatever order, are those of all edges of these classes
    placed_changed : (classes : List ℕ) → AreDistinct classes → (held : List HeldStripe) → AreAllCounted held
        → all_placed all (edge_table spec) t (map (place_in spec t) classes) held ≡ all_changed change spec t (edges_among classes) held
    placed_changed [] distinct held counted = ap (λ edges. all_changed change spec t edges held) (sym (none_among (edge_numbers spec)))
    placed_changed (c ∷ classes) distinct held counted =
        ap (all_placed all (edge_table spec) t (map (place_in spec t) classes)) (class_changed c held)
        ∙ placed_changed classes distinct.1 (all_changed change spec t (class_edges spec c) held) (all_counted change each.local spec t (class_edges spec c) held counted)
        ∙ (λ i. all_changed change spec t (sym (others_among c classes distinct.0) i) (all_changed change spec t (sym (first_among c classes) i) held))
        ∙ sym (parted change each.swap each.local spec t (λ e. class_of spec e == c) (λ e. not (class_of spec e == c)) (λ e. refl) (edges_among (c ∷ classes))
        (rising_filter nat_cmp (λ e. has (c ∷ classes) (class_of spec e)) (edge_numbers spec) (edges_rise spec)) held counted)

    -- so it is where the classes are those of some edges
    pub changed_by_class : (edges : List ℕ) (table : List EdgeShape) (places : List ClassStripe) (held new : List HeldStripe) → new ≡ all_placed all table t places held → table ≡ edge_table spec
        → places ≡ map (place_in spec t) (classes_of spec edges) → AreAllCounted held → new ≡ all_changed change spec t (filter (λ e. has (classes_of spec edges) (class_of spec e)) (edge_numbers spec)) held
    changed_by_class edges table places held new so is are counted =
        so ∙ (λ i. all_placed all (is i) t (are i) held) ∙ placed_changed (classes_of spec edges) (classes_distinct spec edges) held counted

-- an edge whose class isn't among those of the edges with a column has none
pub no_column : (spec : Spec) (cols : List ℕ) (e : ℕ) → e < length spec.edges → has (classes_of spec (edges_with spec cols)) (class_of spec e) ≡ false → has_column spec cols e ≡ false
no_column spec cols e l out = go (has_column spec cols e) refl
  where
    go : (b : Bool) → has_column spec cols e ≡ b → b ≡ false
    go true q =
        absurd (false≢true (sym out ∙ has_in (classes_of spec (edges_with spec cols)) (class_of spec e)
        (class_in spec (edges_with spec cols) e (filter_in (has_column spec cols) e (edge_numbers spec) (in_range_below (length spec.edges) e l) q))))
    go false q = refl

-- all edges are of the classes of edges among which all are
pub all_among : (spec : Spec) (edges : List ℕ) → ((e : ℕ) → In e (edge_numbers spec) → In e edges)
    → filter (λ e. has (classes_of spec edges) (class_of spec e)) (edge_numbers spec) ≡ edge_numbers spec
all_among spec edges all =
    same_rising nat_cmp nat_order (filter (λ e. has (classes_of spec edges) (class_of spec e)) (edge_numbers spec)) (edge_numbers spec)
    (rising_filter nat_cmp (λ e. has (classes_of spec edges) (class_of spec e)) (edge_numbers spec) (edges_rise spec)) (edges_rise spec)
    (λ e m. (in_filter (λ e. has (classes_of spec edges) (class_of spec e)) e (edge_numbers spec) m).0)
    (λ e m. filter_in (λ e. has (classes_of spec edges) (class_of spec e)) e (edge_numbers spec) m
    (has_in (classes_of spec edges) (class_of spec e) (class_in spec edges e (all e m))))

-- what stands in the list of the classes of all edges is one of them
pub class_listed : (spec : Spec) (classes : List ℕ) (i : ℕ) → classes ≡ classes_of spec (edge_numbers spec) → i < length classes
    → In (get_or classes i 0) (classes_of spec (edge_numbers spec))
class_listed spec classes i are l = subst (In (get_or classes i 0)) are (get_or_in classes i 0 l)

-- the classes beside one, of which one more comes to the places, or is that one
module _ (spec : Spec) (t : Pairs) (first : ℕ) (all classes : List ℕ) (i : ℕ) (are : classes ≡ all) (l : i < length classes) where
  next : take (i + 1) all ≡ take i all ++ get_or classes i 0 ∷ []
  next = subst (λ z. take (i + 1) z ≡ take i z ++ get_or classes i 0 ∷ []) are (take_more classes i 0 l)

  beside : (b : Bool) → not (get_or classes i 0 == first) ≡ b → others first (take (i + 1) all) ≡ others first (take i all) ++ cond b (get_or classes i 0 ∷ []) []
  beside b is =
      ap (others first) next ∙ filter-append (λ k. not (k == first)) (take i all) (get_or classes i 0 ∷ [])
      ∙ ap (λ b. others first (take i all) ++ cond b (get_or classes i 0 ∷ []) []) is

  pub other_more : (get_or classes i 0 ≡ first → ⊥) → (places : List ClassStripe) → places ≡ map (place_in spec t) (first ∷ others first (take i all))
      → places ++ place_in spec t (get_or classes i 0) ∷ [] ≡ map (place_in spec t) (first ∷ others first (take (i + 1) all))
  other_more other places is =
      ap (λ (ps : List ClassStripe). ps ++ place_in spec t (get_or classes i 0) ∷ []) is
      ∙ sym (map-append (place_in spec t) (first ∷ others first (take i all)) (get_or classes i 0 ∷ []))
      ∙ ap (λ rest. map (place_in spec t) (first ∷ rest)) (sym (beside true (not_from_false (get_or classes i 0 == first) (ne_eqb (get_or classes i 0) first other))))

  pub same_more : get_or classes i 0 ≡ first → (places : List ClassStripe) → places ≡ map (place_in spec t) (first ∷ others first (take i all))
      → places ≡ map (place_in spec t) (first ∷ others first (take (i + 1) all))
  same_more same places is =
      is ∙ ap (λ rest. map (place_in spec t) (first ∷ rest)) (sym (beside false (ap not (eq-eqb (get_or classes i 0) first same)) ∙ append-nil (others first (take i all))))

-- a class that has edges is the specification's
pub used_known : (spec : Spec) → IsSealed spec → (c : ℕ) → 0 < length (class_edges spec c) → c < length spec.classes
used_known spec sealed c some =
    let q = in_filter (λ e. class_of spec e == c) (get_or (class_edges spec c) 0 0) (edge_numbers spec) (get_or_in (class_edges spec c) 0 0 some) in
    subst (λ d. d < length spec.classes) (eqb-true (class_of spec (get_or (class_edges spec c) 0 0)) c q.1)
    (class_known spec sealed (get_or (class_edges spec c) 0 0) (known_edge spec (get_or (class_edges spec c) 0 0) q.0))

-- ---- the places of a tuple

some_length : {A : Type 0} (x : A) (xs : List A) → In x xs → 0 < length xs
some_length x [] m = absurd m
some_length x (y ∷ xs) m = omega arith

module _ (spec : Spec) (sealed : IsSealed spec) (t : Pairs) (edges : List ℕ) (known : (e : ℕ) → In e edges → In e (edge_numbers spec)) where
  pub class_is_known : (c : ℕ) → In c (classes_of spec edges) → c < length spec.classes
  class_is_known c m =
      let q : IsClassAmong spec edges c = class_among spec edges c m in
      subst (λ d. d < length spec.classes) q.2 (class_known spec sealed q.0 (known_edge spec q.0 (known q.0 q.1)))

  pub class_is_within : cols_of t ≡ all_columns spec → (c : ℕ) → In c (classes_of spec edges) → Within (class_at spec c).cols (cols_of t)
  class_is_within whole c m =
      let q : IsClassAmong spec edges c = class_among spec edges c m in
      subst (λ d. Within (class_at spec d).cols (cols_of t)) q.2 (class_within spec sealed t whole q.0 (known_edge spec q.0 (known q.0 q.1)))

  stripes_distinct : (classes : List ℕ) → ((c : ℕ) → In c classes → c < length spec.classes) → AreDistinct classes → AreDistinct (map (λ (p : ClassStripe). p.stripe) (map (place_in spec t) classes))
  stripes_distinct [] below distinct = tt
  stripes_distinct (c ∷ classes) below distinct = (
    (λ m.
        let q : (p : ClassStripe) × In p (map (place_in spec t) classes) × (physical_stripe spec c t ≡ p.stripe) = in_map (λ (p : ClassStripe). p.stripe) (physical_stripe spec c t) (map (place_in spec t) classes) m in
        let d : (d : ℕ) × In d classes × (q.0 ≡ place_in spec t d) = in_map (place_in spec t) q.0 classes q.1 in
        let same : c ≡ d.0 = one_class_law spec sealed.accepted.placed c d.0 (below c (inl refl)) (below d.0 (inr d.1)) t t (q.2 ∙ ap (λ (p : ClassStripe). p.stripe) d.2) in
        distinct.0 (subst (λ z. In z classes) (sym same) d.1)),
    stripes_distinct classes (λ d m. below d (inr m)) distinct.1,
  )

  module _ (places : List ClassStripe) (are : places ≡ map (place_in spec t) (classes_of spec edges)) where
    -- what holds of the place of each class holds of each place
    pub each_place : (P : ClassStripe → Type 0) → ((c : ℕ) → In c (classes_of spec edges) → IsClassAmong spec (edge_numbers spec) c → P (place_in spec t c)) → (p : ClassStripe) → In p places → P p
    each_place P f p m =
        let q : (c : ℕ) × In c (classes_of spec edges) × (p ≡ place_in spec t c) = in_map (place_in spec t) p (classes_of spec edges) (subst (In p) are m) in
        let among : IsClassAmong spec edges q.0 = class_among spec edges q.0 q.1 in
        subst P (sym q.2) (f q.0 q.1 (among.0, known among.0 among.1, among.2))

    pub are_places : ArePlaces spec places
    are_places = record {
      apart = subst (λ ps. AreDistinct (map (λ (p : ClassStripe). p.stripe) ps)) (sym are) (stripes_distinct (classes_of spec edges) class_is_known (classes_distinct spec edges));
      used = each_place (λ p. 0 < length (class_edges spec p.class))
          (λ c m among. some_length among.0 (class_edges spec c) (filter_in (λ e. class_of spec e == c) among.0 (edge_numbers spec) among.1 (eq-eqb (class_of spec among.0) c among.2)));
    }

-- ---- what can be changed on a class's stripe

module _ (spec : Spec) (sealed : IsSealed spec) (t : Pairs) (whole : cols_of t ≡ all_columns spec) (held : List HeldStripe) (c : ℕ) where
  -- an edge's row is the tuple's, and falls with it
  pub row_is : (e : ℕ) → e < length spec.edges → edge_row (edge_table spec) e t ≡ row_in spec t e
  row_is e l = ap (λ o. project (option_map_or (λ (s : EdgeShape). s.target) o []) t) (number_has_shape spec e l)

  falls : (e : ℕ) → e < length spec.edges → class_of spec e ≡ c → stripe_in spec t e ≡ physical_stripe spec c t
  falls e l is = sym (tuple_falls_with_row spec sealed t whole e l) ∙ ap (λ d. physical_stripe spec d t) is

  -- where a tuple's row can be added to each edge of a class, the tuple can be added
  pub can_add_place : IsClassAmong spec (edge_numbers spec) c → ((e : ℕ) → In e (edge_numbers spec) → class_of spec e ≡ c → CanAdd spec t held e) → CanChange CanAddTuple (edge_table spec) held t (place_in spec t c)
  can_add_place among can = record {
    exclusive = subst (λ s. IsHeldExclusive held s) (falls among.0 (known_edge spec among.0 among.1) among.2) (can among.0 among.1 among.2).exclusive;
    can = λ h m s e shape has of_class.
        let q : (e < length spec.edges) × (shape ≡ shape_of spec e) = shape_by_number spec e shape has in
        let is : class_of spec e ≡ c = sym (ap (λ (z : EdgeShape). z.class) q.1) ∙ of_class in
        let add : IsAddable (edge_table spec) e (row_in spec t e) h.now = (can e (in_range_below (length spec.edges) e q.0) is).addable h m (s ∙ sym (falls e q.0 is)) in
        subst (CanAddRow (edge_table spec) h.now e) (sym (row_is e q.0)) (record {
          small = small_count e (row_in spec t e) h.now add.small;
          columns = λ other has_other. cols_of-row_in spec sealed t whole e q.0 ∙ sym (ap (λ (z : EdgeShape). z.target) (shape_by_number spec e other has_other).1);
          alone = add.alone;
          single = add.single;
        });
  }

  pub can_insert_place : CanInsert spec t held → IsClassAmong spec (edge_numbers spec) c → CanChange CanAddTuple (edge_table spec) held t (place_in spec t c)
  can_insert_place insert among =
      can_add_place among (λ e m is. record { exclusive = insert.exclusive e (known_edge spec e m); addable = insert.addable e (known_edge spec e m) })

  -- and where its rows are there, it can be taken out
  pub can_remove_place : CanRemove spec t held → IsClassAmong spec (edge_numbers spec) c → CanChange HasTuple (edge_table spec) held t (place_in spec t c)
  can_remove_place remove among = record {
    exclusive = subst (λ s. IsHeldExclusive held s) (falls among.0 (known_edge spec among.0 among.1) among.2) (remove.exclusive among.0 (known_edge spec among.0 among.1));
    can = λ h m s e shape has of_class.
        let q : (e < length spec.edges) × (shape ≡ shape_of spec e) = shape_by_number spec e shape has in
        let is : class_of spec e ≡ c = sym (ap (λ (z : EdgeShape). z.class) q.1) ∙ of_class in
        subst (IsThere h.now e) (sym (row_is e q.0)) (remove.there e q.0 h m (s ∙ sym (falls e q.0 is)));
  }
