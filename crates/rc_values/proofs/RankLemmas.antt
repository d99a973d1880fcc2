-- What a sort with a dedup, and a binary search, tell of texts.
use Rattle.std.proofs.Common.{◌≡◌, ℕ, ◌+◌, ◌<◌, Bool, true, false, nat_lt, List, Result, Ok, Err, Some, length, get_or, arith, refl, sym, ap, ◌∙◌}
use Rattle.std.specs.List.Sorted.{IsSortedBy, IsBinarySearchResult, IsSearchInRange, IsPartitionPoint}
use Rattle.std.specs.Ordering.{is_lt, ordering_reverse}
use Rattle.std.specs.Result.{result_ok}
use Rattle.std.specs.declared.cmp.Ordering.TheVariants.{Less, Equal, Greater}
use Rattle.std.proofs.lemmas.Bool.{ltb-true, ltb-false}
use Rattle.std.proofs.lemmas.Cmp.{nat_list_cmp_total, tied_itself}
use Rattle.std.proofs.lemmas.List.Sorted.{searchable_from_sorted}
use Rattle.std.proofs.lemmas.Option.{slice_get-get_or, slice_get_within, get_or_from_slice_get}
use Rattle.rc_tuple.specs.RisingSet.{In, IsRising}
use Rattle.rc_tuple.specs.RisingSetLaws.{in_slice_get, rising_places, number_lists_order}
use Rattle.rc_values.specs.Ranks.{text_cmp, rank_of}
use Rattle.rc_values.specs.RanksLaws.{rank_of-slice_get, rank_of-not_in}

sorted_from_rising : (texts : List (List ℕ)) → IsRising text_cmp texts → IsSortedBy (λ t u. is_lt (text_cmp t u)) texts
sorted_from_rising texts r k d low h =
    let t = get_or texts k d in
    let u = get_or texts (k + 1) d in
    let below : text_cmp t u ≡ Less =
    rising_places text_cmp texts k (k + 1) t u r (slice_get-get_or texts k d (omega arith)) (slice_get-get_or texts (k + 1) d h) (omega arith) in
    ap is_lt (nat_list_cmp_total.antisymm u t ∙ ap ordering_reverse below)

-- no text is both sides of where a binary search ends
not_found : (texts : List (List ℕ)) (t : List ℕ) (place : ℕ) → IsPartitionPoint (λ u. text_cmp u t ≡ Less) (λ u. text_cmp u t ≡ Greater) texts place → In t texts → ⊥
not_found texts t place h m =
    let w = in_slice_get t texts m in
    let at : get_or texts w.0 t ≡ t = get_or_from_slice_get texts w.0 t t w.1 in
    let same : text_cmp (get_or texts w.0 t) t ≡ Equal = ap (λ u. text_cmp u t) at ∙ tied_itself nat_list_cmp_total t in
    go w.0 (slice_get_within texts w.0 t w.1) same (nat_lt w.0 place) refl
  where
    go : (i : ℕ) → i < length texts → text_cmp (get_or texts i t) t ≡ Equal → (b : Bool) → nat_lt i place ≡ b → ⊥
    go i l same true e = let other : text_cmp (get_or texts i t) t ≡ Less = h.0 i t (omega arith) (ltb-true i place e) in cc
    go i l same false e = let other : text_cmp (get_or texts i t) t ≡ Greater = h.1 i t (ltb-false i place e) l in cc

-- what a binary search finds is the rank
pub searched : (texts : List (List ℕ)) (t : List ℕ) (found : Result ℕ ℕ) → IsRising text_cmp texts → IsSearchInRange found (length texts)
    → IsBinarySearchResult (λ u. text_cmp u t) texts found → result_ok found ≡ rank_of texts t
searched texts t (Ok place) r h e =
    let at : get_or texts place t ≡ t = number_lists_order.ties (get_or texts place t) t (e t) in
    sym (rank_of-slice_get texts t place r (slice_get-get_or texts place t h ∙ ap Some at))
searched texts t (Err place) r h e =
    sym (rank_of-not_in texts t (not_found texts t place (e (searchable_from_sorted nat_list_cmp_total (λ u. u) texts t (sorted_from_rising texts r)))))
