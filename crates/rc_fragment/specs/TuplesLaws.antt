-- Laws of a tuple's rows: changed edge by edge, those that are kept come to those of all edges of the class.
use Rattle.std.specs.Prelude.{◌≡◌, ℕ, zero, suc, pred, ◌+◌, ◌-◌, ◌<◌, ◌≤◌, ◌^◌, ◌==◌, ◌&&◌, ◌⊎◌, Bool, true, false, cond, List, [], ◌∷◌, ◌++◌, Option, None, Some, filter, length, take}
use Rattle.rc_fragment.specs.Imports.{slice_get, option_map_or, Pairs, project, tuple_eq, Within, In, project-project, same_from_test, count_at, lowered, raised, AreCountedRows, EdgeRow}
use Rattle.std.proofs.Common.{inl, inr, refl, sym, ap, subst, ◌∙◌, arith}
use Rattle.std.proofs.lemmas.Bool.{and_parts, eqb-true, false≢true}
use Rattle.std.proofs.lemmas.List.{append-nil, length-append, take_all}
use Rattle.std.proofs.lemmas.Option.{none-some}
use Rattle.rc_fragment.specs.Fragment.{AreRowsOf, HasShape, IsThere, edge_row}
use Rattle.rc_fragment.specs.FragmentRows.{FragmentRows, changed}
use Rattle.rc_fragment.specs.Implied.{Implied, NumberedRow, hits, lowered_all, raised_all}
use Rattle.rc_fragment.specs.ImpliedLaws.{AreCountedRows-lowered_all, AreCountedRows-raised_all, AreThere, count-lowered_all, count-other, count-raised_all, count-upper, is_upper, total-raised_all, with_all-lowered, with_all-raised}
use Rattle.rc_fragment.specs.ImpliedReadsLaws.{count_there, full_fit, there_count}
use Rattle.rc_fragment.specs.ImpliedTables.{IsLowerOf, IsTable, class_rows, full_rows, implied_in, is_kept, is_kept_of_class, kept_class_rows, numbered_rows}
use Rattle.rc_fragment.specs.ImpliedTablesLaws.{class_rows_whole, hits_in, implications, is_hit, is_hit_below, kept_edge, lower_edge, unders_at}
use Rattle.rc_fragment.specs.Tuples.{CanAddRow, CanAddTuple, HasTuple, IsPartlyAdded, IsTupleRow, changed_by, changes_of_class, full_fragment, with_tuple, without_tuple}
use Rattle.rc_fragment.specs.declared.shape.EdgeShape.{EdgeShape}

-- ---- the rows of a table's first edges

past : {A : Type 0} (k : ℕ) (xs : List A) → slice_get (take k xs) k ≡ None
past zero xs = refl
past (suc k) [] = refl
past (suc k) (x ∷ xs) = past k xs

from_take : {A : Type 0} (k : ℕ) (xs : List A) (e : ℕ) (x : A) → slice_get (take k xs) e ≡ Some x → slice_get xs e ≡ Some x
from_take zero xs e x h = absurd (none-some x h)
from_take (suc k) [] e x h = h
from_take (suc k) (y ∷ xs) zero x h = h
from_take (suc k) (y ∷ xs) (suc e) x h = from_take k xs e x h

module _ (p : EdgeShape → Bool) (t : Pairs) where
  more : (k n : ℕ) (table : List EdgeShape) (shape : EdgeShape) → slice_get table k ≡ Some shape
      → numbered_rows p n (take (suc k) table) t ≡ numbered_rows p n (take k table) t ++ cond (p shape) ((n + k, project shape.target t) ∷ []) []
  more k n [] shape g = absurd (none-some shape g)
  more zero n (s ∷ table) shape g =
      let q : Some s ≡ Some shape = g in
      let is : s ≡ shape = cc in
      let z : n ≡ n + 0 = omega arith in
      λ i. cond (p (is i)) ((z i, project (is i).target t) ∷ []) []
  more (suc k) n (s ∷ table) shape g = go (p s) (more k (suc n) table shape g)
    where
      last : ℕ → List NumberedRow
      last m = cond (p shape) ((m, project shape.target t) ∷ []) []

      go : (b : Bool) → numbered_rows p (suc n) (take (suc k) table) t ≡ numbered_rows p (suc n) (take k table) t ++ last (suc n + k)
          → cond b ((n, project s.target t) ∷ numbered_rows p (suc n) (take (suc k) table) t) (numbered_rows p (suc n) (take (suc k) table) t)
          ≡ cond b ((n, project s.target t) ∷ numbered_rows p (suc n) (take k table) t) (numbered_rows p (suc n) (take k table) t) ++ last (n + suc k)
      go true ih = let z : suc n + k ≡ n + suc k = omega arith in λ i. (n, project s.target t) ∷ (ih ∙ ap (λ m. numbered_rows p (suc n) (take k table) t ++ last m) z) i
      go false ih = let z : suc n + k ≡ n + suc k = omega arith in ih ∙ ap (λ m. numbered_rows p (suc n) (take k table) t ++ last m) z

  -- there is one of each edge that passes the test
  how_many : (n : ℕ) (table : List EdgeShape) → length (numbered_rows p n table t) ≡ length (filter p table)
  how_many n [] = refl
  how_many n (s ∷ table) = go (p s) (how_many (suc n) table)
    where
      go : (b : Bool) → length (numbered_rows p (suc n) table t) ≡ length (filter p table)
          → length (cond b ((n, project s.target t) ∷ numbered_rows p (suc n) table t) (numbered_rows p (suc n) table t)) ≡ length (cond b (s ∷ filter p table) (filter p table))
      go true ih = omega (arith, ih)
      go false ih = ih

  fewer : (k n : ℕ) (table : List EdgeShape) → length (numbered_rows p n (take k table) t) ≤ length (filter p table)
  fewer zero n table = omega arith
  fewer (suc k) n [] = omega arith
  fewer (suc k) n (s ∷ table) = go (p s) (fewer k (suc n) table)
    where
      go : (b : Bool) → length (numbered_rows p (suc n) (take k table) t) ≤ length (filter p table)
          → length (cond b ((n, project s.target t) ∷ numbered_rows p (suc n) (take k table) t) (numbered_rows p (suc n) (take k table) t)) ≤ length (cond b (s ∷ filter p table) (filter p table))
      go true ih = omega (arith, ih)
      go false ih = ih

  -- rows of different edges that are there are there when each is lowered
  there_all : (n : ℕ) (table : List EdgeShape) (ws : List EdgeRow) → AreCountedRows ws
      → ((k : ℕ) (shape : EdgeShape) → slice_get table k ≡ Some shape → p shape ≡ true → 0 < count_at (n + k) (project shape.target t) ws) → AreThere (numbered_rows p n table t) ws
  there_all n [] ws a h = tt
  there_all n (s ∷ table) ws a h = go (p s) refl (there_all (suc n) table)
    where
      row : NumberedRow
      row = (n, project s.target t)

      later : (k : ℕ) (shape : EdgeShape) → slice_get table k ≡ Some shape → p shape ≡ true → 0 < count_at (suc n + k) (project shape.target t) ws
      later k shape g q = let z : n + suc k ≡ suc n + k = omega arith in subst (λ m. 0 < count_at m (project shape.target t) ws) z (h (suc k) shape g q)

      apart : (k : ℕ) (u : Pairs) → hits (suc n + k) u (row ∷ []) ≡ 0
      apart k u = no (n == suc n + k) refl
        where
          no : (b : Bool) → (n == suc n + k) ≡ b → cond (b && tuple_eq (project s.target t) u) 1 0 + 0 ≡ 0
          no true q = absurd (let z : n ≡ suc n + k = eqb-true n (suc n + k) q in omega arith)
          no false q = refl

      go : (b : Bool) → p s ≡ b
          → ((vs : List EdgeRow) → AreCountedRows vs → ((k : ℕ) (shape : EdgeShape) → slice_get table k ≡ Some shape → p shape ≡ true → 0 < count_at (suc n + k) (project shape.target t) vs) → AreThere (numbered_rows p (suc n) table t) vs)
          → AreThere (cond b (row ∷ numbered_rows p (suc n) table t) (numbered_rows p (suc n) table t)) ws
      go true q ih = (
        let z : n + 0 ≡ n = omega arith in subst (λ m. 0 < count_at m (project s.target t) ws) z (h 0 s refl q),
        ih (lowered n (project s.target t) ws) (AreCountedRows-lowered_all (row ∷ []) ws a) (λ k shape g r.
            let c : count_at (suc n + k) (project shape.target t) (lowered n (project s.target t) ws) ≡ count_at (suc n + k) (project shape.target t) ws - hits (suc n + k) (project shape.target t) (row ∷ []) =
            count-lowered_all (row ∷ []) ws a (suc n + k) (project shape.target t) in
            let l : 0 < count_at (suc n + k) (project shape.target t) ws = later k shape g r in
            let f : hits (suc n + k) (project shape.target t) (row ∷ []) ≡ 0 = apart k (project shape.target t) in
            let d : count_at (suc n + k) (project shape.target t) ws - hits (suc n + k) (project shape.target t) (row ∷ []) ≡ count_at (suc n + k) (project shape.target t) ws = omega (arith, f) in
            subst (λ m. 0 < m) (sym (c ∙ d)) l),
      )
      go false q ih = ih ws a later

-- ---- the last of some rows

pub raised_last : (ps : List NumberedRow) (q : NumberedRow) (ws : List EdgeRow) → raised_all (ps ++ q ∷ []) ws ≡ raised q.0 q.1 (raised_all ps ws)
raised_last [] q ws = refl
raised_last (p ∷ ps) q ws = raised_last ps q (raised p.0 p.1 ws)

pub lowered_last : (ps : List NumberedRow) (q : NumberedRow) (ws : List EdgeRow) → lowered_all (ps ++ q ∷ []) ws ≡ lowered q.0 q.1 (lowered_all ps ws)
lowered_last [] q ws = refl
lowered_last (p ∷ ps) q ws = lowered_last ps q (lowered p.0 p.1 ws)

-- ---- a tuple's rows edge by edge

-- the tuple's rows of those of the first edges that are of the class and kept
abbrev pub rows_before : List EdgeShape → ℕ → Pairs → ℕ → List NumberedRow
rows_before table class t k = numbered_rows (is_kept_of_class class) 0 (take k table) t

-- the fragment once these are changed
abbrev pub changed_before : (List NumberedRow → List EdgeRow → List EdgeRow) → ℕ → Pairs → ℕ → FragmentRows → FragmentRows
changed_before all class t k f = changed_by (length (rows_before f.table class t k)) (all (rows_before f.table class t k)) f

module _ (f : FragmentRows) (class : ℕ) (t : Pairs) where
  no_room_left : (n : ℕ) → n - 0 ≡ n
  no_room_left n = omega arith

  none_added : (n : ℕ) → n + 0 ≡ n
  none_added n = omega arith

  pub before_first : (all : List NumberedRow → List EdgeRow → List EdgeRow) → all [] f.now ≡ f.now → f ≡ changed_before all class t 0 f
  before_first all none = λ i. record { table = f.table; now = sym none i; taken = f.taken; room = sym (no_room_left f.room) i; changes = sym (none_added f.changes) i }

  module _ (k : ℕ) (shape : EdgeShape) (has : HasShape f.table k shape) where
    -- an edge whose rows aren't kept, or that is of another class, changes nothing
    pub before_other : (all : List NumberedRow → List EdgeRow → List EdgeRow) → is_kept_of_class class shape ≡ false → changed_before all class t k f ≡ changed_before all class t (k + 1) f
    before_other all out =
        let step : rows_before f.table class t (suc k) ≡ rows_before f.table class t k =
        more (is_kept_of_class class) t k 0 f.table shape has ∙ ap (λ b. rows_before f.table class t k ++ cond b ((0 + k, project shape.target t) ∷ []) []) out ∙ append-nil (rows_before f.table class t k) in
        let z : suc k ≡ k + 1 = omega arith in
        ap (λ ps. changed_by (length ps) (all ps) f) (sym step ∙ ap (rows_before f.table class t) z)

    row_is : edge_row f.table k t ≡ project shape.target t
    row_is = ap (λ o. project (option_map_or (λ (s : EdgeShape). s.target) o []) t) has

    module _ (yes : is_kept_of_class class shape ≡ true) where
      step : rows_before f.table class t (suc k) ≡ rows_before f.table class t k ++ (k, edge_row f.table k t) ∷ []
      step =
          let z : 0 + k ≡ k = omega arith in
          more (is_kept_of_class class) t k 0 f.table shape has ∙ ap (λ b. rows_before f.table class t k ++ cond b ((0 + k, project shape.target t) ∷ []) []) yes
          ∙ (λ i. rows_before f.table class t k ++ (z i, sym row_is i) ∷ [])

      longer : length (rows_before f.table class t (suc k)) ≡ length (rows_before f.table class t k) + 1
      longer = ap length step ∙ length-append (rows_before f.table class t k) ((k, edge_row f.table k t) ∷ [])

      pub before_next : (all : List NumberedRow → List EdgeRow → List EdgeRow) (one : List EdgeRow → List EdgeRow)
          → all (rows_before f.table class t k ++ (k, edge_row f.table k t) ∷ []) f.now ≡ one (all (rows_before f.table class t k) f.now)
          → changed one (changed_before all class t k f) ≡ changed_before all class t (k + 1) f
      before_next all one last =
          let z : suc k ≡ k + 1 = omega arith in
          let n : ℕ = length (rows_before f.table class t k) in
          let m : ℕ = length (rows_before f.table class t (suc k)) in
          let e : m ≡ n + 1 = longer in
          let room : pred (f.room - n) ≡ f.room - m = omega arith in
          let changes : f.changes + n + 1 ≡ f.changes + m = omega arith in
          (λ i. record { table = f.table; now = (sym last ∙ ap (λ ps. all ps f.now) (sym step)) i; taken = f.taken; room = room i; changes = changes i })
          ∙ ap (λ j. changed_before all class t j f) z

      -- there is room for it
      pub room_before : changes_of_class f.table class ≤ f.room → 0 < f.room - length (rows_before f.table class t k)
      room_before l =
          let n : ℕ = length (rows_before f.table class t k) in
          let m : ℕ = length (rows_before f.table class t (suc k)) in
          let e : m ≡ n + 1 = longer in
          let w : m ≤ changes_of_class f.table class = fewer (is_kept_of_class class) t (suc k) 0 f.table in
          omega arith

      module _ (good : IsTable f.table) (fit : AreRowsOf f.table f.now) where
        parts : ((shape.class == class) ≡ true) × (is_kept shape.lower ≡ true)
        parts = and_parts (shape.class == class) (is_kept shape.lower) yes

        of_class : shape.class ≡ class
        of_class = eqb-true shape.class class parts.0

        kept : shape.lower ≡ None
        kept = go shape.lower parts.1
          where
            go : (o : Option ℕ) → is_kept o ≡ true → o ≡ None
            go None q = refl
            go (Some l) q = absurd (false≢true q)

        no_hits : (u : Pairs) → hits k u (rows_before f.table class t k) ≡ 0
        no_hits u = hits_in (is_kept_of_class class) t k (take k f.table) u ∙ ap (λ o. cond (is_hit (is_kept_of_class class) o t u) 1 0) (past k f.table)

        full_count : (u : Pairs) → count_at k u (full_rows f.table f.now) ≡ count_at k u f.now
        full_count u = count-other (implied_in f.table) f.now fit.counted k (kept_edge f.table k shape has kept) u

        raised_count : (u : Pairs) → count_at k u (raised_all (rows_before f.table class t k) f.now) ≡ count_at k u (full_rows f.table f.now)
        raised_count u =
            let c : count_at k u (raised_all (rows_before f.table class t k) f.now) ≡ count_at k u f.now + hits k u (rows_before f.table class t k) = count-raised_all (rows_before f.table class t k) f.now fit.counted k u in
            let n : hits k u (rows_before f.table class t k) ≡ 0 = no_hits u in
            let w : count_at k u (full_rows f.table f.now) ≡ count_at k u f.now = full_count u in omega (arith, c, n, w)

        lowered_count : (u : Pairs) → count_at k u (lowered_all (rows_before f.table class t k) f.now) ≡ count_at k u (full_rows f.table f.now)
        lowered_count u =
            let c : count_at k u (lowered_all (rows_before f.table class t k) f.now) ≡ count_at k u f.now - hits k u (rows_before f.table class t k) = count-lowered_all (rows_before f.table class t k) f.now fit.counted k u in
            let n : hits k u (rows_before f.table class t k) ≡ 0 = no_hits u in
            let w : count_at k u (full_rows f.table f.now) ≡ count_at k u f.now = full_count u in omega (arith, c, n, w)

        -- a row that is there once the earlier edges' rows were raised was there
        raised_there : AreCountedRows (raised_all (rows_before f.table class t k) f.now) → (u : Pairs) → IsThere (raised_all (rows_before f.table class t k) f.now) k u → IsThere (full_rows f.table f.now) k u
        raised_there a u h = count_there (full_rows f.table f.now) k u (subst (λ n. 0 < n) (raised_count u) (there_count (raised_all (rows_before f.table class t k) f.now) a k u h))

        pub can_before : CanAddTuple f.table (full_rows f.table f.now) class t → CanAddRow f.table (raised_all (rows_before f.table class t k) f.now) k (edge_row f.table k t)
        can_before can =
            let c : CanAddRow f.table (full_rows f.table f.now) k (edge_row f.table k t) = can k shape has of_class in
            let a : AreCountedRows (raised_all (rows_before f.table class t k) f.now) = AreCountedRows-raised_all (rows_before f.table class t k) f.now fit.counted in
            record {
              small = subst (λ n. n < 2 ^ 63) (sym (raised_count (edge_row f.table k t))) c.small;
              columns = c.columns;
              alone = λ s g u h. c.alone s g u (raised_there a u h);
              single = λ s g kind u h. c.single s g kind u (raised_there a u h);
            }

        pub there_before : HasTuple f.table (full_rows f.table f.now) class t → IsThere (lowered_all (rows_before f.table class t k) f.now) k (edge_row f.table k t)
        there_before there =
            count_there (lowered_all (rows_before f.table class t k) f.now) k (edge_row f.table k t)
            (subst (λ n. 0 < n) (sym (lowered_count (edge_row f.table k t)))
            (there_count (full_rows f.table f.now) (full_fit f.table good f.now fit).counted k (edge_row f.table k t) (there k shape has of_class)))

  -- ---- once some edges are done

  module _ (good : IsTable f.table) (fit : AreRowsOf f.table f.now) (k : ℕ) where
    abbrev some_rows : List NumberedRow
    some_rows = rows_before f.table class t k

    more_counted : AreCountedRows (raised_all some_rows f.now)
    more_counted = AreCountedRows-raised_all some_rows f.now fit.counted

    -- the row's count is the one before, or one more, and this only where it is one of the tuple's
    abbrev IsOnceMore : ℕ → Pairs → Type 0
    IsOnceMore e row = (b : Bool) × (count_at e row (full_rows f.table (raised_all some_rows f.now)) ≡ count_at e row (full_rows f.table f.now) + cond b 1 0) × (b ≡ true → IsTupleRow f.table class t e row)

    upper_more : (i : Implied) → In i (implied_in f.table) → (row : Pairs) → IsOnceMore i.upper row
    upper_more i m row = (
      is_hit_below (is_kept_of_class class) i.columns (slice_get (take k f.table) i.lower) t row,
      count-upper (implied_in f.table) (implications f.table good) (raised_all some_rows f.now) more_counted i m row ∙ total-raised_all i row some_rows f.now fit.counted
          ∙ (λ j. sym (count-upper (implied_in f.table) (implications f.table good) f.now fit.counted i m row) j + unders_at (is_kept_of_class class) t i row i.lower 0 (take k f.table) (first i.lower) j),
      is_row (slice_get (take k f.table) i.lower) refl,
    )
      where
        first : (n : ℕ) → 0 + n ≡ n
        first n = omega arith

        edges : (upper lower : EdgeShape) × HasShape f.table i.upper upper × HasShape f.table i.lower lower × IsLowerOf upper lower × (i.columns ≡ upper.target)
        edges = lower_edge f.table good i m

        within : Within i.columns edges.1.target
        within = subst (λ c. Within c edges.1.target) (edges.4.source ∙ sym edges.5) (good.parted i.lower edges.1 edges.3).source_within

        is_row : (o : Option EdgeShape) → slice_get (take k f.table) i.lower ≡ o → is_hit_below (is_kept_of_class class) i.columns o t row ≡ true → IsTupleRow f.table class t i.upper row
        is_row None at hit = absurd (false≢true hit)
        is_row (Some s) at hit =
            let there : Some s ≡ Some edges.1 = sym (from_take k f.table i.lower s at) ∙ edges.3 in
            let same : s ≡ edges.1 = cc in
            let h = and_parts (is_kept_of_class class s) (tuple_eq (project i.columns (project s.target t)) row) hit in
            let class_is : s.class ≡ class = eqb-true s.class class (and_parts (s.class == class) (is_kept s.lower) h.0).0 in
            record {
              shape = edges.0;
              has = edges.2;
              of_class = sym edges.4.class ∙ sym (ap (λ (x : EdgeShape). x.class) same) ∙ class_is;
              row_is = sym (same_from_test (project i.columns (project s.target t)) row h.1) ∙ ap (λ (x : EdgeShape). project i.columns (project x.target t)) same
                  ∙ project-project i.columns edges.1.target t within ∙ ap (λ c. project c t) edges.5 ∙ sym (row_is i.upper edges.0 edges.2);
            }

    kept_more : (e : ℕ) → ((i : Implied) → In i (implied_in f.table) → e ≡ i.upper → ⊥) → (row : Pairs) → IsOnceMore e row
    kept_more e out row = (
      is_hit (is_kept_of_class class) (slice_get (take k f.table) e) t row,
      count-other (implied_in f.table) (raised_all some_rows f.now) more_counted e out row ∙ count-raised_all some_rows f.now fit.counted e row
          ∙ (λ j. sym (count-other (implied_in f.table) f.now fit.counted e out row) j + hits_in (is_kept_of_class class) t e (take k f.table) row j),
      is_row (slice_get (take k f.table) e) refl,
    )
      where
        is_row : (o : Option EdgeShape) → slice_get (take k f.table) e ≡ o → is_hit (is_kept_of_class class) o t row ≡ true → IsTupleRow f.table class t e row
        is_row None at hit = absurd (false≢true hit)
        is_row (Some s) at hit =
            let has : HasShape f.table e s = from_take k f.table e s at in
            let h = and_parts (is_kept_of_class class s) (tuple_eq (project s.target t) row) hit in
            record {
              shape = s;
              has = has;
              of_class = eqb-true s.class class (and_parts (s.class == class) (is_kept s.lower) h.0).0;
              row_is = sym (same_from_test (project s.target t) row h.1) ∙ sym (row_is e s has);
            }

    once_more : (e : ℕ) (row : Pairs) → IsOnceMore e row
    once_more e row = elim (is_upper (implied_in f.table) e) [
      | inl u ↦ subst (λ n. IsOnceMore n row) (sym u.2) (upper_more u.0 u.1 row)
      | inr o ↦ kept_more e o row
    ]

    pub partly_added : IsPartlyAdded class t (full_fragment f) (full_fragment (changed_before raised_all class t k f))
    partly_added = record {
      changes = length some_rows;
      few = fewer (is_kept_of_class class) t k 0 f.table;
      rows = full_rows f.table (raised_all some_rows f.now);
      added = record {
        some = λ e row is. let m = once_more e row in as_before_or_more m.0 m.1;
        others = λ e row out. let m = once_more e row in as_before m.0 m.1 (λ h. out (m.2 h));
      };
      value = refl;
    }
      where
        as_before_or_more : {m n : ℕ} (b : Bool) → m ≡ n + cond b 1 0 → (m ≡ n) ⊎ (m ≡ n + 1)
        as_before_or_more true h = inr h
        as_before_or_more {m} {n} false h = let z : m ≡ n + 0 = h in inl (omega (arith, z))

        as_before : {m n : ℕ} (b : Bool) → m ≡ n + cond b 1 0 → (b ≡ true → ⊥) → m ≡ n
        as_before true h out = absurd (out refl)
        as_before {m} {n} false h out = let z : m ≡ n + 0 = h in omega (arith, z)

  -- ---- once all edges are done

  module _ (good : IsTable f.table) (fit : AreRowsOf f.table f.now) where
    all_edges : (n : ℕ) → length f.table ≤ n → rows_before f.table class t n ≡ kept_class_rows f.table class t
    all_edges n l = ap (λ table. numbered_rows (is_kept_of_class class) 0 table t) (take_all n f.table l)

    as_many : length (kept_class_rows f.table class t) ≡ changes_of_class f.table class
    as_many = how_many (is_kept_of_class class) t 0 f.table

    pub raised_tuple : (n : ℕ) → length f.table ≤ n → full_fragment (changed_before raised_all class t n f) ≡ with_tuple class t (full_fragment f)
    raised_tuple n l =
        ap (λ ps. full_fragment (changed_by (length ps) (raised_all ps) f)) (all_edges n l)
        ∙ (λ i. record {
          table = f.table;
          now = with_all-raised (implied_in f.table) (implications f.table good) (kept_class_rows f.table class t) (class_rows f.table class t) (class_rows_whole f.table good class t) f.now fit.counted i;
          taken = full_rows f.table f.taken;
          room = f.room - as_many i;
          changes = f.changes + as_many i;
        })

    pub lowered_tuple : HasTuple f.table (full_rows f.table f.now) class t → (n : ℕ) → length f.table ≤ n → full_fragment (changed_before lowered_all class t n f) ≡ without_tuple class t (full_fragment f)
    lowered_tuple there n l =
        ap (λ ps. full_fragment (changed_by (length ps) (lowered_all ps) f)) (all_edges n l)
        ∙ (λ i. record {
          table = f.table;
          now = with_all-lowered (implied_in f.table) (implications f.table good) (kept_class_rows f.table class t) (class_rows f.table class t) (class_rows_whole f.table good class t) f.now fit.counted are_there i;
          taken = full_rows f.table f.taken;
          room = f.room - as_many i;
          changes = f.changes + as_many i;
        })
      where
        are_there : AreThere (kept_class_rows f.table class t) f.now
        are_there = there_all (is_kept_of_class class) t 0 f.table f.now fit.counted (λ k shape has yes.
            let z : k ≡ 0 + k = omega arith in
            let c : 0 < count_at k (edge_row f.table k t) (full_rows f.table f.now) =
            there_count (full_rows f.table f.now) (full_fit f.table good f.now fit).counted k (edge_row f.table k t) (there k shape has (of_class k shape has yes good fit)) in
            subst (λ m. 0 < count_at m (project shape.target t) f.now) z
            (subst (λ u. 0 < count_at k u f.now) (row_is k shape has) (subst (λ m. 0 < m) (full_count k shape has yes good fit (edge_row f.table k t)) c)))
