-- The first edge of a class whose rows are kept: its row is the first of a tuple's that is added.
use Rattle.std.specs.Prelude.{◌≡◌, ℕ, zero, suc, ◌+◌, ◌<◌, ◌≤◌, ◌==◌, true, Option, None, Some, List, [], ◌∷◌, length}
use Rattle.rc_fragment.proofs.Imports.{slice_get, and_parts, false≢true, Pairs, Values, raised, EdgeRow, AreRowsOf, HasNoRowOf, HasRowOf, HasShape, IsLookedUp, IsLookedUpBy, edge_row, FragmentRows, changed, raised_all, kept_same, same_lookup, IsTable, full_rows, is_kept, is_kept_of_class, values_at, CanAddRow, CanAddTuple, IsFirstKept, IsPartlyAdded, changes_of_class, full_fragment, before_first, before_next, before_other, can_before, changed_before, partly_added, raised_last, room_before, rows_before, EdgeShape}
use Rattle.std.proofs.Common.{refl, sym, ap, subst, ◌∙◌, arith}

there_is : {A : Type 0} (xs : List A) (k : ℕ) → k < length xs → (x : A) × (slice_get xs k ≡ Some x)
there_is [] k l = absurd (omega (arith, l))
there_is (x ∷ xs) zero l = (x, refl)
there_is (x ∷ xs) (suc k) l = let m : k < length xs = omega (arith, l) in there_is xs k m

kept_none : (o : Option ℕ) → is_kept o ≡ true → o ≡ None
kept_none None h = refl
kept_none (Some l) h = absurd (false≢true h)

-- what is looked up by values that are the tuple's
pub looked_so : (table : List EdgeShape) (rows : List EdgeRow) (e : ℕ) (t : Pairs) (own : EdgeShape) → HasShape table e own → (source key : Values) → source ≡ values_at own.source t → key ≡ values_at own.key t
    → (o : Option Values) → ((shape : EdgeShape) → HasShape table e shape → IsLookedUp shape rows e source key o) → IsLookedUpBy table rows e t o
looked_so table rows e t own at source key s k o h shape has =
    let same : Some own ≡ Some shape = sym at ∙ has in
    let p : own ≡ shape = cc in
    subst (λ (z : EdgeShape). IsLookedUp z rows e (values_at z.source t) (values_at z.key t) o) p
    (subst (λ z. IsLookedUp own rows e z (values_at own.key t) o) s (subst (λ z. IsLookedUp own rows e source z o) k (h own at)))

module _ (f : FragmentRows) (class : ℕ) (t : Pairs) (e : ℕ) (known : e < length f.table) (first : IsFirstKept f.table class e) where
  here : (s : EdgeShape) × HasShape f.table e s
  here = there_is f.table e known

  yes : is_kept_of_class class here.0 ≡ true
  yes = first.kept here.0 here.1

  -- no row is added before it
  before_it : (k : ℕ) → k ≤ e → f ≡ changed_before raised_all class t k f
  before_it zero l = before_first f class t raised_all refl
  before_it (suc k) l =
      let m : k ≤ e = omega (arith, l) in
      let n : k < e = omega (arith, l) in
      let w : k < length f.table = omega (arith, l, known) in
      let s : (s : EdgeShape) × HasShape f.table k s = there_is f.table k w in
      let z : k + 1 ≡ suc k = omega arith in
      before_it k m ∙ before_other f class t k s.0 s.1 raised_all (first.none_before k s.0 n s.1) ∙ ap (λ j. changed_before raised_all class t j f) z

  first_before : f ≡ changed_before raised_all class t e f
  first_before = let l : e ≤ e = omega arith in before_it e l

  pub first_room : changes_of_class f.table class ≤ f.room → 0 < f.room
  first_room l = subst (λ (g : FragmentRows). 0 < g.room) (sym first_before) (room_before f class t e here.0 here.1 yes l)

  -- once it is added the row is that of the edges up to it
  pub first_next : changed (raised e (edge_row f.table e t)) f ≡ changed_before raised_all class t (e + 1) f
  first_next =
      ap (λ (g : FragmentRows). changed (raised e (edge_row f.table e t)) g) first_before
      ∙ before_next f class t e here.0 here.1 yes raised_all (raised e (edge_row f.table e t)) (raised_last (rows_before f.table class t e) (e, edge_row f.table e t) f.now)

  module _ (good : IsTable f.table) (fit : AreRowsOf f.table f.now) where
    -- what is looked up among the rows that are kept is so among those of all edges
    pub full_look : (o : Option Values) → IsLookedUpBy f.table f.now e t o → IsLookedUpBy f.table (full_rows f.table f.now) e t o
    full_look o h shape has =
        let none : shape.lower ≡ None = kept_none shape.lower (and_parts (shape.class == class) (is_kept shape.lower) (first.kept shape has)).1 in
        same_lookup shape e f.now (full_rows f.table f.now) (kept_same f.table good f.now fit e shape has none) (values_at shape.source t) (values_at shape.key t) o (h shape has)

    pub first_can : (HasNoRowOf f.table (full_rows f.table f.now) e t → CanAddTuple f.table (full_rows f.table f.now) class t)
        → HasNoRowOf f.table f.now e t → CanAddRow f.table f.now e (edge_row f.table e t)
    first_can can none =
        subst (λ (g : FragmentRows). CanAddRow g.table g.now e (edge_row g.table e t)) (sym first_before)
        (can_before f class t e here.0 here.1 yes good fit (can (full_look None none)))

    pub first_there : HasRowOf f.table f.now e t → HasRowOf f.table (full_rows f.table f.now) e t
    first_there h = (h.0, full_look (Some h.0) h.1)

    pub none_added : IsPartlyAdded class t (full_fragment f) (full_fragment f)
    none_added =
        subst (λ (g : FragmentRows). IsPartlyAdded class t (full_fragment f) (full_fragment g)) (sym (before_first f class t raised_all refl))
        (partly_added f class t good fit 0)
