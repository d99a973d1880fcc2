-- Parts that are each of one pass, in the order of their places.
use Rattle.std.proofs.Common.{◌≡◌, ℕ, suc, ◌+◌, ◌<◌, Bool, true, false, cond, eqb, List, [], ◌∷◌, Some, All, length, get_or, map, refl, sym, ap, subst, ◌∙◌, inl, inr, arith}
use Rattle.rc_journal.specs.Imports.{AllPairs, range_with_len, slice_get, In, flat_map_in, in_flat_map, in_slice_get, get_or_in, slice_get_in, Entry, Placed, own_placed, placed, placed_from, stands_from, own_stands}
use Rattle.std.proofs.lemmas.List.Kept.{AllPairs-cons}
use Rattle.std.proofs.lemmas.Option.{get_or_from_slice_get, slice_get-get_or, slice_get_within}
use Rattle.rc_journal.specs.PartEntries.{PartEntries}
use Rattle.rc_journal.specs.Merge.{AreByPass, ArePartsOf, IsMerged, placed_of}

-- ---- lists in the order of their places

abbrev pub Rise : List Placed → Type 0
Rise ws = AllPairs (λ v w. v.place < w.place) ws

rise_first : (v : Placed) (ws : List Placed) → Rise (v ∷ ws) → (w : Placed) → In w ws → v.place < w.place
rise_first v ws r w m =
    let at = in_slice_get w ws m in
    let within : at.0 < length ws = slice_get_within ws at.0 w at.1 in
    subst (λ (x : Placed). v.place < x.place) (get_or_from_slice_get ws at.0 w w at.1) (r 0 (suc at.0) w (omega arith) (omega arith))

rise_rest : (v : Placed) (ws : List Placed) → Rise (v ∷ ws) → Rise ws
rise_rest v ws r i j d h k = r (suc i) (suc j) d (omega arith) (omega arith)

-- each element of a list is one of another
abbrev Among : List Placed → List Placed → Type 0
Among vs ws = (x : Placed) → In x vs → In x ws

same_first : (v w : Placed) (vs ws : List Placed) → Rise (v ∷ vs) → Rise (w ∷ ws) → In v (w ∷ ws) → In w (v ∷ vs) → v ≡ w
same_first v w vs ws r s (inl e) n = e
same_first v w vs ws r s (inr m) (inl e) = sym e
same_first v w vs ws r s (inr m) (inr n) =
    let below : w.place < v.place = rise_first w ws s v m in
    let above : v.place < w.place = rise_first v vs r w n in
    absurd (omega arith)

among_rest : (v w : Placed) (vs ws : List Placed) → v ≡ w → Rise (v ∷ vs) → Among (v ∷ vs) (w ∷ ws) → Among vs ws
among_rest v w vs ws e r h x m = elim (h x (inr m)) [
  | inl q ↦
      let later : v.place < x.place = rise_first v vs r x m in
      let here : x.place ≡ v.place = ap (λ (y : Placed). y.place) (q ∙ sym e) in
      absurd (omega arith)
  | inr n ↦ n
]

same_by_place : (vs ws : List Placed) → Rise vs → Rise ws → Among vs ws → Among ws vs → vs ≡ ws
same_by_place [] [] r s h k = refl
same_by_place [] (w ∷ ws) r s h k = absurd (k w (inl refl))
same_by_place (v ∷ vs) [] r s h k = absurd (h v (inl refl))
same_by_place (v ∷ vs) (w ∷ ws) r s h k =
    let first : v ≡ w = same_first v w vs ws r s (h v (inl refl)) (k w (inl refl)) in
    let rest = same_by_place vs ws (rise_rest v vs r) (rise_rest w ws s) (among_rest v w vs ws first r h) (among_rest w v ws vs (sym first) s k) in
    cc

-- own entries are in the order of their places
own_rise : (n : ℕ) (history : List Entry) (pass : ℕ) → Rise (placed_from n history pass)
own_rise n [] pass = λ i j d h k. absurd (omega arith)
own_rise n (e ∷ history) pass = go (eqb e.pass pass) (own_rise (n + 1) history pass)
  where
    later : All (λ (w : Placed). n < w.place) (placed_from (n + 1) history pass)
    later k d h =
        let w : Placed = get_or (placed_from (n + 1) history pass) k d in
        let s = stands_from (n + 1) history pass w (get_or_in (placed_from (n + 1) history pass) k d h) in
        omega (arith, s.1)

    go : (b : Bool) → Rise (placed_from (n + 1) history pass) → Rise (cond b (placed n e ∷ placed_from (n + 1) history pass) (placed_from (n + 1) history pass))
    go true ih = AllPairs-cons (λ (v w : Placed). v.place < w.place) (placed n e) (placed_from (n + 1) history pass) later ih
    go false ih = ih

-- ---- the parts of a merged journal

module _ (parts : List PartEntries) (journal : List Entry) (by : AreByPass parts) (merged : IsMerged parts journal) where
  pass_of : (pass : ℕ) (part : PartEntries) → slice_get parts pass ≡ Some part → (w : Placed) → In w part.list → w.entry.pass ≡ pass
  pass_of pass part at w m =
      let i = in_slice_get w part.list m in
      subst (λ (x : Placed). x.entry.pass ≡ pass) (get_or_from_slice_get part.list i.0 w w i.1)
      ((by pass part at).0 i.0 w (slice_get_within part.list i.0 w i.1))

  -- an entry of a part is one of the pass with its number
  part_of : (w : Placed) → In w (placed_of parts) → (part : PartEntries) × (slice_get parts w.entry.pass ≡ Some part) × In w part.list
  part_of w m =
      let found = in_flat_map (λ (part : PartEntries). part.list) w parts m in
      let at = in_slice_get found.0 parts found.1 in
      let is : w.entry.pass ≡ at.0 = pass_of at.0 found.0 at.1 w found.2 in
      (found.0, ap (slice_get parts) is ∙ at.1, found.2)

  part_own : (pass : ℕ) (part : PartEntries) → slice_get parts pass ≡ Some part → part.list ≡ own_placed journal pass
  part_own pass part at = same_by_place part.list (own_placed journal pass) (by pass part at).1 (own_rise 0 journal pass) there back
    where
      there : Among part.list (own_placed journal pass)
      there w m = (own_stands journal pass w).1
          ((merged w).0 (flat_map_in (λ (x : PartEntries). x.list) w part parts (slice_get_in parts pass part at) m), pass_of pass part at w m)

      back : Among (own_placed journal pass) part.list
      back w m =
          let s = (own_stands journal pass w).0 m in
          let found = part_of w ((merged w).1 s.0) in
          let here : Some found.0 ≡ Some part = sym found.1 ∙ ap (slice_get parts) s.1 ∙ at in
          let same : found.0 ≡ part = cc in
          subst (λ (x : PartEntries). In w x.list) same found.2

  passes_known : All (λ (e : Entry). e.pass < length parts) journal
  passes_known k d h =
      let e : Entry = get_or journal k d in
      let found = part_of (placed k e) ((merged (placed k e)).1 (slice_get-get_or journal k d h)) in
      slice_get_within parts e.pass found.0 found.1

lists_of : (f : ℕ → List Placed) (parts : List PartEntries) (a : ℕ) → ((i : ℕ) (part : PartEntries) → slice_get parts i ≡ Some part → part.list ≡ f (a + i))
    → map (λ (part : PartEntries). part.list) parts ≡ map f (range_with_len a (length parts))
lists_of f [] a h = refl
lists_of f (part ∷ parts) a h =
    let z : a + 0 ≡ a = omega arith in
    let first : part.list ≡ f a = h 0 part refl ∙ ap f z in
    let rest = lists_of f parts (a + 1) (λ i x e. let n : a + suc i ≡ a + 1 + i = omega arith in h (suc i) x e ∙ ap f n) in
    cc

pub merged_own : (parts : List PartEntries) (journal : List Entry) → AreByPass parts → IsMerged parts journal → ArePartsOf parts journal
merged_own parts journal by merged = record {
  own = lists_of (own_placed journal) parts 0 (λ i part at. let z : 0 + i ≡ i = omega arith in part_own parts journal by merged i part at ∙ ap (own_placed journal) (sym z));
  passes = passes_known parts journal by merged;
}

pub own_parts : (history : List Entry) (parts : List PartEntries) → ((pass : ℕ) (part : PartEntries) → slice_get parts pass ≡ Some part → part.list ≡ own_placed history pass)
    → ((e : Entry) → In e history → e.pass < length parts) → ArePartsOf parts history
own_parts history parts own known = record {
  own = lists_of (own_placed history) parts 0 (λ i part at. let z : i ≡ 0 + i = omega arith in own i part at ∙ ap (own_placed history) z);
  passes = λ k d h. known (get_or history k d) (get_or_in history k d h);
}
