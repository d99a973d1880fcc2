-- The history of own entries is the one whose they are.
use Rattle.std.proofs.Common.{◌≡◌, ℕ, zero, suc, ◌+◌, ◌<◌, List, [], ◌∷◌, Some, length, map, refl, sym, ap, subst, ◌∙◌, arith}
use Rattle.rc_journal.specs.Imports.{replicate, range_with_len, slice_get, sum_by, Entry, Placed, own_placed, shares_add_up}
use Rattle.std.proofs.lemmas.List.{length-map, length-replicate}
use Rattle.std.proofs.lemmas.List.Concat.{length-flat_map}
use Rattle.std.proofs.lemmas.List.Folds.{flat_map-map}
use Rattle.std.proofs.lemmas.List.Sums.{sum_by-cons}
use Rattle.rc_journal.specs.ByPassLaws.{own_parts}
use Rattle.rc_journal.specs.HistoryWith.{OwnMakeTheHistory, all_own}
use Rattle.rc_journal.specs.Merge.{ArePartsOf, placed_of, with_all}
use Rattle.rc_journal.specs.MergeLaws.{merged_is_history, merged_with, places_are_numbers}
use Rattle.rc_journal.specs.PartEntries.{PartEntries}

-- a part without room
abbrev part : List Placed → PartEntries
part own = record { list = own; spare = 0 }

part_at : (owns : List (List Placed)) (k : ℕ) (x : PartEntries) → slice_get (map part owns) k ≡ Some x → (own : List Placed) × (slice_get owns k ≡ Some own) × (x.list ≡ own)
part_at [] k x e = cc
part_at (own ∷ owns) zero x e = let is : part own ≡ x = cc in (own, refl, ap (λ (p : PartEntries). p.list) (sym is))
part_at (own ∷ owns) (suc k) x e = part_at owns k x e

sums : (f : List Placed → ℕ) (g : ℕ → ℕ) (owns : List (List Placed)) (a : ℕ) → ((k : ℕ) (own : List Placed) → slice_get owns k ≡ Some own → f own ≡ g (a + k))
    → sum_by f owns ≡ sum_by g (range_with_len a (length owns))
sums f g [] a same = refl
sums f g (own ∷ owns) a same =
    let first : f own ≡ g a = same 0 own refl ∙ ap g (let z : a + 0 ≡ a = omega arith in z) in
    let rest = sums f g owns (a + 1) (λ k x e. same (suc k) x e ∙ ap g (let z : a + suc k ≡ a + 1 + k = omega arith in z)) in
    sum_by-cons f own owns ∙ (λ i. first i + rest i) ∙ sym (sum_by-cons g a (range_with_len (a + 1) (length owns)))

pub own_make_the_history : OwnMakeTheHistory
own_make_the_history history owns are known =
    subst (λ (l : List Placed). with_all (replicate (length l) blank) l ≡ history) flat
    (merged_is_history (map part owns) (with_all (replicate count blank) (placed_of (map part owns)))
    (merged_with (length history) (map part owns) (replicate count blank) (length-replicate count blank ∙ long) (places_are_numbers history (map part owns) parts))
    history parts)
  where
    blank : Entry
    blank = record { pass = 0; nth = 0; steps = [] }

    count : ℕ
    count = length (placed_of (map part owns))

    flat : placed_of (map part owns) ≡ all_own owns
    flat = flat_map-map (λ (p : PartEntries). p.list) part owns

    parts : ArePartsOf (map part owns) history
    parts = own_parts history (map part owns) (λ pass x e. let own = part_at owns pass x e in own.2 ∙ are pass own.0 own.1)
        (λ e m. subst (λ n. e.pass < n) (sym (length-map owns part)) (known e m))

    long : length (placed_of (map part owns)) ≡ length history
    long =
        ap (λ (l : List Placed). length l) flat ∙ length-flat_map (λ (own : List Placed). own) owns
        ∙ sums (λ own. length own) (λ pass. length (own_placed history pass)) owns 0
        (λ k own e. ap (λ (l : List Placed). length l) (are k own e) ∙ ap (λ n. length (own_placed history n)) (let z : k ≡ 0 + k = omega arith in z))
        ∙ shares_add_up (length owns) history known
