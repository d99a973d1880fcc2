-- The rows of an edge, as a walk over its containers gathers them.
use Rattle.std.specs.Prelude.{◌≡◌, ℕ, ◌+◌, ◌<◌, ◌≤◌, ◌++◌, zero, suc, Option, None, Some, List, [], ◌∷◌, map, length}
use Rattle.rc_fragment.proofs.Imports.{flat_map, find, get-from_entries, keys_of, append_assoc, drop_more, length-append, IsDistinct-tail, drop-append_seam, take-append_seam, In, get_or_in, in_flat_map, flat_map_in, in_map, map_in, Pairs, Values, values_cmp, values_eq, Counted, HasWidth, Rows, values_order, entries_of, has_one_column, AreApart, by_one, pair_of, Keyed, HashTable, One, Many, now_in, rows_with, IsFiled, HasValues, IsParted, extra_columns, row_from, extra_set, extra_within, length_values, Sources, found_in, sources_of, IsStoredRow, Container, EdgeRows, EdgeShape}
use Rattle.std.specs.FinMap as fin
use Rattle.std.proofs.Common.{refl, sym, ap, subst, ◌∙◌, arith, take, drop, get_or}
use Rattle.rc_fragment.proofs.ListingLemmas.{entry_get, find_in, get_entry, in_find_apart}

-- the rows now of a source's container
abbrev pub rows_here : EdgeShape → Values × Container → List Pairs
rows_here shape e = rows_with shape e.0 (fin.entries (now_in e.1))

-- the rows now, source by source in the table's order
abbrev pub rows_walked : EdgeShape → List (Values × Container) → List Pairs
rows_walked shape es = flat_map (rows_here shape) es

get_from : (all : Sources) (es : List (Values × Container)) → fin.from_entries es ≡ all → (s : Values) → fin.get all s ≡ find values_cmp s es
get_from all es are s = ap (λ (z : Sources). fin.get z s) (sym are) ∙ get-from_entries values_order.total es s

-- what is among a map's entries is found in it
pub got_from : (all : Sources) (es : List (Values × Container)) → fin.from_entries es ≡ all → AreApart es → (e : Values × Container) → In e es → fin.get all e.0 ≡ Some e.1
got_from all es are apart e m = get_from all es are e.0 ∙ in_find_apart es e apart m

-- keys that are distinct are so from a place on
pub apart_from : {X : Type 0} (n : ℕ) (ks : List (Keyed X)) → AreApart (map pair_of ks) → AreApart (map pair_of (drop n ks))
apart_from zero ks h = h
apart_from (suc n) [] h = h
apart_from (suc n) (k ∷ ks) h = apart_from n ks (IsDistinct-tail values_eq k.key.now (keys_of (map pair_of ks)) h)

module _ (x : EdgeRows) (es : List (Values × Container)) (are : fin.from_entries es ≡ sources_of x) where
  get_walked : (s : Values) → fin.get (sources_of x) s ≡ find values_cmp s es
  get_walked s = get_from (sources_of x) es are s

  pub got_walked : AreApart es → (e : Values × Container) → In e es → fin.get (sources_of x) e.0 ≡ Some e.1
  got_walked apart e m = got_from (sources_of x) es are apart e m

  -- what is kept at a source's container has the values at which it is kept
  pub filed_here : AreApart es → IsFiled now_in x → (e : Values × Container) → In e es
      → (k : Values) (c : Counted) → fin.get (now_in e.1) k ≡ Some c → HasValues x.shape (row_from x.shape e.0 k c.0) e.0 k c.0
  filed_here apart filed e m k c h = filed.values e.0 k c (ap (λ z. found_in now_in z k) (got_walked apart e m) ∙ h)

  pub walked_kept : AreApart es → (t : Pairs) → In t (rows_walked x.shape es) → IsStoredRow x t
  walked_kept apart t m =
      let e : (e : Values × Container) × In e es × In t (rows_here x.shape e) = in_flat_map (rows_here x.shape) t es m in
      let d : (d : Values × Counted) × In d (fin.entries (now_in e.0.1)) × (t ≡ row_from x.shape e.0.0 d.0 d.1.0) =
      in_map (λ (d : Values × Counted). row_from x.shape e.0.0 d.0 d.1.0) t (fin.entries (now_in e.0.1)) e.2 in
      (e.0.0, d.0.0, d.0.1, ap (λ z. found_in now_in z d.0.0) (got_walked apart e.0 e.1) ∙ entry_get (now_in e.0.1) d.0 d.1, d.2)

  pub kept_walked : (t : Pairs) → IsStoredRow x t → In t (rows_walked x.shape es)
  kept_walked t (s, k, c, h, is) = subst (λ z. In z (rows_walked x.shape es)) (sym is) (go (fin.get (sources_of x) s) refl h)
    where
      go : (o : Option Container) → fin.get (sources_of x) s ≡ o → found_in now_in o k ≡ Some c → In (row_from x.shape s k c.0) (rows_walked x.shape es)
      go None f g = absurd (cc)
      go (Some v) f g =
          flat_map_in (rows_here x.shape) (row_from x.shape s k c.0) (s, v) es (find_in s es v (sym (get_walked s) ∙ f))
          (map_in (λ (d : Values × Counted). row_from x.shape s d.0 d.1.0) (k, c) (fin.entries (now_in v)) (get_entry (now_in v) k c g))

-- ---- the values of one row

-- the row has as many values as there are columns
pub record AreWide (shape : EdgeShape) (source key extra : Values) : Type 0 where
  pub sources : length source ≡ length shape.source
  pub keys : length key ≡ length shape.key
  pub extras : length extra ≡ length (extra_columns shape)

module _ (shape : EdgeShape) (parted : IsParted shape) (row : Pairs) (source key extra : Values) (v : HasValues shape row source key extra) where
  pub wide : AreWide shape source key extra
  wide = record {
    sources = ap length (sym v.source_is) ∙ length_values shape.target shape.source row parted.target.rising parted.source.rising parted.source_within v.columns;
    keys = ap length (sym v.key_is) ∙ length_values shape.target shape.key row parted.target.rising parted.key.rising parted.key_within v.columns;
    extras = ap length (sym v.extra_is) ∙ length_values shape.target (extra_columns shape) row parted.target.rising (extra_set shape parted).rising (extra_within shape parted) v.columns;
  }

-- ---- rows cut from a flat list

-- what stands where there is no entry
abbrev pub no_entry : Values × Counted
no_entry = ([], ([], 0))

-- keys and extra values of entries, one behind the other
abbrev pub flat : List (Values × Counted) → Values
flat es = flat_map (λ (e : Values × Counted). e.0 ++ e.1.0) es

module _ (shape : EdgeShape) (parted : IsParted shape) (source : Values) (m : Rows)
    (filed : (k : Values) (c : Counted) → fin.get m k ≡ Some c → HasValues shape (row_from shape source k c.0) source k c.0) (rest : Values) (i : ℕ) (l : i < length (fin.entries m)) (is : rest ≡ flat (drop i (fin.entries m))) where
  abbrev pub entry_here : Values × Counted
  entry_here = get_or (fin.entries m) i no_entry

  pub entry_next : drop i (fin.entries m) ≡ entry_here ∷ drop (i + 1) (fin.entries m)
  entry_next = drop_more (fin.entries m) i no_entry l

  pub entry_values : HasValues shape (row_from shape source entry_here.0 entry_here.1.0) source entry_here.0 entry_here.1.0
  entry_values = filed entry_here.0 entry_here.1 (entry_get m entry_here (get_or_in (fin.entries m) i no_entry l))

  entry_wide : AreWide shape source entry_here.0 entry_here.1.0
  entry_wide = wide shape parted (row_from shape source entry_here.0 entry_here.1.0) source entry_here.0 entry_here.1.0 entry_values

  abbrev pub behind_key : Values
  behind_key = entry_here.1.0 ++ flat (drop (i + 1) (fin.entries m))

  cut : rest ≡ entry_here.0 ++ behind_key
  cut = is ∙ ap flat entry_next ∙ append_assoc entry_here.0 entry_here.1.0 (flat (drop (i + 1) (fin.entries m)))

  pub key_cut : take (length shape.key) rest ≡ entry_here.0
  key_cut = (λ j. take (sym entry_wide.keys j) (cut j)) ∙ take-append_seam entry_here.0 behind_key

  pub key_behind : drop (length shape.key) rest ≡ behind_key
  key_behind = (λ j. drop (sym entry_wide.keys j) (cut j)) ∙ drop-append_seam entry_here.0 behind_key

  pub extra_cut : take (length (extra_columns shape)) behind_key ≡ entry_here.1.0
  extra_cut = ap (λ n. take n behind_key) (sym entry_wide.extras) ∙ take-append_seam entry_here.1.0 (flat (drop (i + 1) (fin.entries m)))

  pub extra_behind : drop (length (extra_columns shape)) behind_key ≡ flat (drop (i + 1) (fin.entries m))
  extra_behind = ap (λ n. drop n behind_key) (sym entry_wide.extras) ∙ drop-append_seam entry_here.1.0 (flat (drop (i + 1) (fin.entries m)))

  pub key_fits : length shape.key ≤ length rest
  key_fits = let a : length rest ≡ length entry_here.0 + length behind_key = ap length cut ∙ length-append entry_here.0 behind_key in omega (arith, a, entry_wide.keys)

  pub extra_fits : length (extra_columns shape) ≤ length behind_key
  extra_fits = let a : length behind_key ≡ length entry_here.1.0 + length (flat (drop (i + 1) (fin.entries m))) = length-append entry_here.1.0 (flat (drop (i + 1) (fin.entries m))) in omega (arith, a, entry_wide.extras)

-- ---- keys of a table

-- a key that is there has the table's width
pub width_there : {X : Type 0} (t : HashTable X) (s : Values) (x : X) → fin.get (entries_of t) s ≡ Some x → HasWidth (has_one_column t) s
width_there (One table) s x h =
    let m : In (s, x) (by_one table.entries) = find_in s (by_one table.entries) x (sym (get-from_entries values_order.total (by_one table.entries) s) ∙ h) in
    let e = in_map (λ (e : ℕ × _). (e.0 ∷ [], e.1)) (s, x) table.entries m in
    ap (λ (z : Values × _). length z.0) e.2
width_there (Many pairs others alloc) s x h = tt
