-- Laws of merges.
use Rattle.std.proofs.Common.{◌≡◌, ◌↔◌, ℕ, zero, suc, ◌<◌, List, [], ◌∷◌, ◌++◌, Some, length, map, refl, sym, ap, subst, ◌∙◌, inl, inr, arith}
use Rattle.rc_journal.specs.Imports.{flat_map, range_with_len, slice_get, slice_set, In, AreDistinct, in_map, map_in, in_flat_map, flat_map_in, in_range_below, Entry, Placed, own_placed, placed, own_stands, same_placed, same_places}
use Rattle.std.proofs.lemmas.List.{length-set}
use Rattle.std.proofs.lemmas.List.Folds.{flat_map-map}
use Rattle.std.proofs.lemmas.Option.{get_or_from_slice_get, slice_get_cases, slice_get_within}
use Rattle.rc_journal.specs.PartEntries.{PartEntries}
use Rattle.rc_journal.specs.Merge.{AreNumbersBelow, ArePartsOf, IsMerged, placed_of, places_of, with_all}
use Rattle.rc_journal.specs.PlacesLaws.{distinct_places, distinct_range}

-- ---- entries at their places

get_set : (xs : List Entry) (i : ℕ) (x : Entry) → i < length xs → slice_get (slice_set xs i x) i ≡ Some x
get_set [] i x h = absurd (omega arith)
get_set (y ∷ ys) zero x h = refl
get_set (y ∷ ys) (suc i) x h = get_set ys i x (omega arith)

get_set_other : (xs : List Entry) (i j : ℕ) (x : Entry) → (i ≡ j → ⊥) → slice_get (slice_set xs i x) j ≡ slice_get xs j
get_set_other [] i j x h = refl
get_set_other (y ∷ ys) zero zero x h = absurd (h refl)
get_set_other (y ∷ ys) zero (suc j) x h = refl
get_set_other (y ∷ ys) (suc i) zero x h = refl
get_set_other (y ∷ ys) (suc i) (suc j) x h = get_set_other ys i j x (λ e. h (ap suc e))

pub length-with_all : (ws : List Placed) (entries : List Entry) → length (with_all entries ws) ≡ length entries
length-with_all [] entries = refl
length-with_all (w ∷ ws) entries = length-with_all ws (slice_set entries w.place w.entry) ∙ length-set entries w.place w.entry

pub with_all-append : (us ws : List Placed) (entries : List Entry) → with_all entries (us ++ ws) ≡ with_all (with_all entries us) ws
with_all-append [] ws entries = refl
with_all-append (u ∷ us) ws entries = with_all-append us ws (slice_set entries u.place u.entry)

-- a place that none has keeps its entry
with_all_other : (ws : List Placed) (entries : List Entry) (i : ℕ) → (In i (map (λ (w : Placed). w.place) ws) → ⊥) → slice_get (with_all entries ws) i ≡ slice_get entries i
with_all_other [] entries i out = refl
with_all_other (w ∷ ws) entries i out =
    with_all_other ws (slice_set entries w.place w.entry) i (λ m. out (inr m)) ∙ get_set_other entries w.place i w.entry (λ e. out (inl (sym e)))

-- each stands at its place, where the places differ
with_all_at : (ws : List Placed) (entries : List Entry) → AreDistinct (map (λ (w : Placed). w.place) ws) → ((w : Placed) → In w ws → w.place < length entries)
    → (w : Placed) → In w ws → slice_get (with_all entries ws) w.place ≡ Some w.entry
with_all_at [] entries d below w m = absurd m
with_all_at (v ∷ ws) entries d below w (inl e) =
    subst (λ (x : Placed). slice_get (with_all entries (v ∷ ws)) x.place ≡ Some x.entry) (sym e)
    (with_all_other ws (slice_set entries v.place v.entry) v.place d.0 ∙ get_set entries v.place v.entry (below v (inl refl)))
with_all_at (v ∷ ws) entries d below w (inr m) =
    with_all_at ws (slice_set entries v.place v.entry) d.1
    (λ x k. subst (λ n. x.place < n) (sym (length-set entries v.place v.entry)) (below x (inr k))) w m

-- ---- a merge

pub places_below : (n : ℕ) (parts : List PartEntries) → AreNumbersBelow n (places_of parts) → (w : Placed) → In w (placed_of parts) → w.place < n
places_below n parts p w m = (p.each w.place).0 (map_in (λ (x : Placed). x.place) w (placed_of parts) m)

pub merged_with : (n : ℕ) (parts : List PartEntries) (blanks : List Entry) → length blanks ≡ n → AreNumbersBelow n (places_of parts)
    → IsMerged parts (with_all blanks (placed_of parts))
merged_with n parts blanks l p w = (there w, back)
  where
    below : (v : Placed) → In v (placed_of parts) → v.place < length blanks
    below v m = let h : v.place < n = places_below n parts p v m in omega (arith, h)

    there : (v : Placed) → In v (placed_of parts) → slice_get (with_all blanks (placed_of parts)) v.place ≡ Some v.entry
    there v m = with_all_at (placed_of parts) blanks p.once below v m

    back : slice_get (with_all blanks (placed_of parts)) w.place ≡ Some w.entry → In w (placed_of parts)
    back h =
        let within : w.place < length (with_all blanks (placed_of parts)) = slice_get_within (with_all blanks (placed_of parts)) w.place w.entry h in
        let few : w.place < n = omega (arith, within, length-with_all (placed_of parts) blanks) in
        let v = in_map (λ (x : Placed). x.place) w.place (placed_of parts) ((p.each w.place).1 few) in
        let found : Some w.entry ≡ Some v.0.entry = sym h ∙ ap (slice_get (with_all blanks (placed_of parts))) v.2 ∙ there v.0 v.1 in
        let same : v.0.entry ≡ w.entry = cc in
        subst (λ (x : Placed). In x (placed_of parts)) (same_placed w v.0.place v.0.entry (v.2) same) v.1

-- ---- the parts of a history

placed_of_history : (parts : List PartEntries) (history : List Entry) → ArePartsOf parts history
    → placed_of parts ≡ flat_map (own_placed history) (range_with_len 0 (length parts))
placed_of_history parts history p =
    sym (flat_map-map (λ (l : List Placed). l) (λ (part : PartEntries). part.list) parts)
    ∙ ap (flat_map (λ (l : List Placed). l)) p.own
    ∙ flat_map-map (λ (l : List Placed). l) (own_placed history) (range_with_len 0 (length parts))

-- the parts have what stands in the history
parts_stand : (parts : List PartEntries) (history : List Entry) → ArePartsOf parts history → (w : Placed) → In w (placed_of parts) ↔ (slice_get history w.place ≡ Some w.entry)
parts_stand parts history p w = (there, back)
  where
    there : In w (placed_of parts) → slice_get history w.place ≡ Some w.entry
    there m =
        let own = in_flat_map (own_placed history) w (range_with_len 0 (length parts)) (subst (λ (l : List Placed). In w l) (placed_of_history parts history p) m) in
        ((own_stands history own.0 w).0 own.2).0

    back : slice_get history w.place ≡ Some w.entry → In w (placed_of parts)
    back h =
        let pass : w.entry.pass < length parts =
        subst (λ (e : Entry). e.pass < length parts) (get_or_from_slice_get history w.place w.entry w.entry h)
        (p.passes w.place w.entry (slice_get_within history w.place w.entry h)) in
        let among : In w.entry.pass (range_with_len 0 (length parts)) = in_range_below (length parts) w.entry.pass pass in
        subst (λ (l : List Placed). In w l) (sym (placed_of_history parts history p))
        (flat_map_in (own_placed history) w w.entry.pass (range_with_len 0 (length parts)) among ((own_stands history w.entry.pass w).1 (h, refl)))

pub merged_is_history : (parts : List PartEntries) (journal : List Entry) → IsMerged parts journal → (history : List Entry) → ArePartsOf parts history → journal ≡ history
merged_is_history parts journal m history p =
    same_places journal history
    (λ i e h. (parts_stand parts history p (placed i e)).0 ((m (placed i e)).1 h))
    (λ i e h. (m (placed i e)).0 ((parts_stand parts history p (placed i e)).1 h))

pub places_are_numbers : (history : List Entry) (parts : List PartEntries) → ArePartsOf parts history → AreNumbersBelow (length history) (places_of parts)
places_are_numbers history parts p = record {
  each = λ i. (below i, among i);
  once = subst (λ (l : List Placed). AreDistinct (map (λ (w : Placed). w.place) l)) (sym (placed_of_history parts history p))
      (distinct_places history (range_with_len 0 (length parts)) (distinct_range 0 (length parts)));
}
  where
    below : (i : ℕ) → In i (places_of parts) → i < length history
    below i m =
        let w = in_map (λ (x : Placed). x.place) i (placed_of parts) m in
        let h : w.0.place < length history = slice_get_within history w.0.place w.0.entry ((parts_stand parts history p w.0).0 w.1) in
        omega (arith, h, w.2)

    among : (i : ℕ) → i < length history → In i (places_of parts)
    among i h = elim (slice_get_cases history i).1 [
      | inl f ↦ map_in (λ (x : Placed). x.place) (placed i f.0) (placed_of parts) ((parts_stand parts history p (placed i f.0)).1 f.2)
      | inr past ↦ absurd (omega (arith, past.0))
    ]
