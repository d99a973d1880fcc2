-- What is read of a fragment with the rows of all edges, by the rows that are kept.
use Rattle.std.specs.Prelude.{◌≡◌, ℕ, ◌<◌, List, [], ◌∷◌, Option, None, Some, length, map}
use Rattle.rc_fragment.proofs.Imports.{zip, append-nil, slice_get_within, Pairs, Values, EdgeRow, AreAllRows, AreRowsOf, HasScanned, HasShape, IsFoundAt, IsLookedUp, IsScan, IsThereWith, FragmentRows, Implied, with_all, with_implied, HasListed, HasSource, HasSourceRows, HaveSameRows, implied_all, implied_found, implied_lookup, implied_no_scan, implied_none, implied_rows_at, implied_scan, kept_same, same_all, same_found, same_lookup, same_scan, same_scanned, IsLowerOf, IsTable, full_rows, implied_in, full_fragment, EdgeShape}
use Rattle.std.proofs.Common.{refl, sym, ap, subst, ◌∙◌}
use Rattle.rc_fragment.proofs.SourceReadLemmas.{source_width}

-- no row implies none
all_none : (is : List Implied) → with_all is [] ≡ []
all_none [] = refl
all_none (i ∷ is) = ap (with_implied i) (all_none is)

pub full_none : (table : List EdgeShape) → full_rows table [] ≡ []
full_none table = all_none (implied_in table)

module _ (f g : FragmentRows) (same : full_fragment f ≡ g) (good : IsTable f.table) (fit : AreRowsOf f.table f.now) (e : ℕ) (own : EdgeShape) (at : HasShape f.table e own) where
  -- what holds of the edge's shape and of the rows of all edges holds of what is seen
  seen_of : (P : EdgeShape → List EdgeRow → Type 0) → P own (full_rows f.table f.now) → (shape : EdgeShape) → HasShape g.table e shape → P shape g.now
  seen_of P h = subst (λ (z : FragmentRows). (shape : EdgeShape) → HasShape z.table e shape → P shape z.now) same (λ shape has.
      let one : Some own ≡ Some shape = sym at ∙ has in
      let is : own ≡ shape = cc in
      subst (λ s. P s (full_rows f.table f.now)) is h)

  -- ---- an edge whose rows are kept

  module _ (none : own.lower ≡ None) where
    kept : HaveSameRows e f.now (full_rows f.table f.now)
    kept = kept_same f.table good f.now fit e own at none

    pub kept_lookup : (source key : Values) (o : Option Values) → ((shape : EdgeShape) → HasShape f.table e shape → IsLookedUp shape f.now e source key o)
        → (shape : EdgeShape) → HasShape g.table e shape → IsLookedUp shape g.now e source key o
    kept_lookup source key o h = seen_of (λ s rows. IsLookedUp s rows e source key o) (same_lookup own e f.now (full_rows f.table f.now) kept source key o (h own at))

    pub kept_found : (source key : Values) (o : Option Pairs) → ((shape : EdgeShape) → HasShape f.table e shape → IsFoundAt shape f.now e source key o)
        → (shape : EdgeShape) → HasShape g.table e shape → IsFoundAt shape g.now e source key o
    kept_found source key o h = seen_of (λ s rows. IsFoundAt s rows e source key o) (same_found own e f.now (full_rows f.table f.now) kept source key o (h own at))

    pub kept_scan : (source : Values) (ts : List Pairs) → ((shape : EdgeShape) → HasShape f.table e shape → IsScan shape f.now e source ts)
        → (shape : EdgeShape) → HasShape g.table e shape → IsScan shape g.now e source ts
    kept_scan source ts h = seen_of (λ s rows. IsScan s rows e source ts) (same_scan own e f.now (full_rows f.table f.now) kept source ts (h own at))

    pub kept_scanned : (source old new : Values) → ((shape : EdgeShape) → HasShape f.table e shape → HasScanned shape f.now e source old new)
        → (shape : EdgeShape) → HasShape g.table e shape → HasScanned shape g.now e source old new
    kept_scanned source old new h = seen_of (λ s rows. HasScanned s rows e source old new) (same_scanned own e f.now (full_rows f.table f.now) kept source old new (h own at))

    pub kept_all : (ts : List Pairs) → AreAllRows f.now e ts → AreAllRows g.now e ts
    kept_all ts h = subst (λ (z : FragmentRows). AreAllRows z.now e ts) same (same_all own e f.now (full_rows f.table f.now) kept ts h)

  -- ---- an edge whose rows another tells

  module _ (l : ℕ) (is : own.lower ≡ Some l) where
    told : (lower : EdgeShape) × HasShape f.table l lower × IsLowerOf own lower
    told = good.lower e l own at is

    pub told_known : l < length f.table
    told_known = slice_get_within f.table l told.0 told.1

    pub told_some : (shape : EdgeShape) → HasShape f.table l shape → 0 < length shape.source
    told_some shape has =
        let one : Some told.0 ≡ Some shape = sym told.1 ∙ has in
        let is : told.0 ≡ shape = cc in
        subst (λ (s : EdgeShape). 0 < length s.source) is (subst (λ c. 0 < length c) (told.2.key ∙ sym told.2.source) told.2.some)

    -- the other edge has the source
    abbrev Told : Values → Type 0
    Told key = (shape : EdgeShape) → HasShape f.table l shape → HasSource shape f.now l key

    pub told_width : (key : Values) → Told key → length key ≡ length own.key
    told_width key h =
        source_width f.table f.now fit l told.0 told.1 (good.parted l told.0 told.1) key (h told.0 told.1) ∙ ap length (told.2.source ∙ sym told.2.key)

    pub told_lookup : (source key : Values) → source ≡ [] → Told key → (shape : EdgeShape) → HasShape g.table e shape → IsLookedUp shape g.now e source key (Some [])
    told_lookup source key none h =
        seen_of (λ s rows. IsLookedUp s rows e source key (Some []))
        (subst (λ z. IsLookedUp own (full_rows f.table f.now) e z key (Some [])) (sym none) (implied_lookup f.table good f.now fit e l own told.0 at is told.1 told.2 key (h told.0 told.1)))

    pub told_found : (source key : Values) (row : Pairs) → source ≡ [] → Told key → row ≡ zip own.key key → (shape : EdgeShape) → HasShape g.table e shape → IsFoundAt shape g.now e source key (Some row)
    told_found source key row none h r =
        seen_of (λ s rows. IsFoundAt s rows e source key (Some row))
        (subst (λ z. IsFoundAt own (full_rows f.table f.now) e source key (Some z)) (sym r)
        (subst (λ z. IsFoundAt own (full_rows f.table f.now) e z key (Some (zip own.key key))) (sym none) (implied_found f.table good f.now fit e l own told.0 at is told.1 told.2 key (h told.0 told.1))))

    pub told_none : (source key : Values) → ((source ≡ []) → (shape : EdgeShape) → HasShape f.table l shape → HasSource shape f.now l key → ⊥)
        → (shape : EdgeShape) → HasShape g.table e shape → (u : Pairs) → IsThereWith shape g.now e source key u → ⊥
    told_none source key out =
        seen_of (λ s rows. (u : Pairs) → IsThereWith s rows e source key u → ⊥) (implied_none f.table good f.now fit e l own told.0 at is told.1 told.2 source key (λ n h. out n told.0 told.1 h))

    pub told_scanned : (source old new : Values) → source ≡ [] → ((shape : EdgeShape) → HasShape f.table l shape → HasListed shape f.now l old new)
        → (shape : EdgeShape) → HasShape g.table e shape → HasScanned shape g.now e source old new
    told_scanned source old new none h =
        seen_of (λ s rows. HasScanned s rows e source old new)
        (subst (λ z. HasScanned own (full_rows f.table f.now) e z old new) (sym none) (implied_scan f.table good f.now fit e l own told.0 at is told.1 told.2 old new (h told.0 told.1)))

    pub told_no_scan : (source : Values) (ts : List Pairs) → ((source ≡ []) → ⊥) → ts ≡ [] → (shape : EdgeShape) → HasShape g.table e shape → IsScan shape g.now e source ts
    told_no_scan source ts out none =
        seen_of (λ s rows. IsScan s rows e source ts)
        (subst (IsScan own (full_rows f.table f.now) e source) (sym none) (implied_no_scan f.table good f.now fit e l own told.0 at is told.1 told.2 source out))

    pub told_none_scanned : (source old : Values) → ((source ≡ []) → ⊥) → (shape : EdgeShape) → HasShape g.table e shape → HasScanned shape g.now e source old old
    told_none_scanned source old out shape has = ([], sym (append-nil old), told_no_scan source [] out refl shape has)

    pub told_scan : (source : Values) (ts : List Pairs) → source ≡ [] → ((shape : EdgeShape) → HasShape f.table l shape → HasSourceRows shape f.now l ts)
        → (shape : EdgeShape) → HasShape g.table e shape → IsScan shape g.now e source ts
    told_scan source ts none h =
        let r : HasSourceRows told.0 f.now l ts = h told.0 told.1 in
        let rows : map (zip own.key) r.0 ≡ ts = ap (λ c. map (zip c) r.0) (told.2.key ∙ sym told.2.source) ∙ sym r.1 in
        seen_of (λ s rows. IsScan s rows e source ts)
        (subst (λ z. IsScan own (full_rows f.table f.now) e z ts) (sym none)
        (subst (IsScan own (full_rows f.table f.now) e []) rows (implied_rows_at f.table good f.now fit e l own told.0 at is told.1 told.2 r.0 r.2)))

    pub told_all : (ts : List Pairs) → ((shape : EdgeShape) → HasShape f.table l shape → HasSourceRows shape f.now l ts) → AreAllRows g.now e ts
    told_all ts h =
        let r : HasSourceRows told.0 f.now l ts = h told.0 told.1 in
        let rows : map (zip own.key) r.0 ≡ ts = ap (λ c. map (zip c) r.0) (told.2.key ∙ sym told.2.source) ∙ sym r.1 in
        subst (λ (z : FragmentRows). AreAllRows z.now e ts) same
        (subst (AreAllRows (full_rows f.table f.now) e) rows (implied_all f.table good f.now fit e l own told.0 at is told.1 told.2 r.0 r.2))
