-- A row that goes on from what another has left.
use Rattle.std.proofs.Common.{◌≡◌, ℕ, zero, suc, ◌+◌, ◌*◌, ◌-◌, ◌<◌, ◌≤◌, ◌^◌, List, [], ◌∷◌, ◌++◌, Some, drop, length, length-append, map, min, refl, sym, ap, subst, ◌∙◌, arith}
use Rattle.rc_row.proofs.Imports.{replicate, slice_set, filter_map, flat_map, range_with_len, slice_get, sum, sum_by, append_assoc, length-replicate, sum_by-cons, same_Some, IsSealed, empty_law, placed_total, stripe_total, Spec, KeptRows, SpecWithPlans, ArePlansOf, IsCompiled, Entry, own_placed, shares_add_up, MayGoOn, resumed, resumed_good, history_law, opening, EndedPass, Keeping, Counts, Entries, Key, Empty, IsEndedOf, IsLeftOf, no_entries, resumed_from, IsKept, Slot, compiled_by, history_by, kept_of, opener, spec_by, stripes_by, KeepsAs, PassSeen, RowSeen, new_pass, resumed_pass, AreFirstSlots, spaced, kept_at, resumed_standing}
use Rattle.rc_row.proofs.OpeningLemmas.{compiled_key, first_slots, fragments_in, opens, words_of_key}

-- ---- how long the history is

made_sum : (g : ℕ → ℕ) (ended : List EndedPass) (a : ℕ) → ((k : ℕ) (e : EndedPass) → slice_get ended k ≡ Some e → e.made ≡ g (a + k))
    → sum (map (λ (e : EndedPass). e.made) ended) ≡ sum_by g (range_with_len a (length ended))
made_sum g [] a same = refl
made_sum g (e ∷ ended) a same =
    let first : e.made ≡ g a = same 0 e refl ∙ ap g (let z : a + 0 ≡ a = omega arith in z) in
    let rest = made_sum g ended (a + 1) (λ k x at. same (suc k) x at ∙ ap g (let z : a + suc k ≡ a + 1 + k = omega arith in z)) in
    sum_by-cons (λ x. x) e.made (map (λ (x : EndedPass). x.made) ended) ∙ (λ i. first i + rest i) ∙ sym (sum_by-cons g a (range_with_len (a + 1) (length ended)))

pub made_is_length : (spec : Spec) (keeping : Keeping) (history : List Entry) (fragments : List KeptRows) (ended : List EndedPass) → IsLeftOf spec keeping history fragments ended
    → min (sum (map (λ (e : EndedPass). e.made) ended)) (2 ^ 64 - 1) ≡ length history
made_is_length spec keeping history fragments ended left =
    let compiled : SpecWithPlans = record { spec = spec; plans = [] } in
    let short = history_law spec (resumed compiled (length ended) history) (resumed_good compiled (length ended) history left.may) in
    let whole : sum (map (λ (e : EndedPass). e.made) ended) ≡ length history =
    made_sum (λ k. length (own_placed history k)) ended 0 (λ k e at. (left.made k e at).made ∙ ap (λ n. length (own_placed history n)) (let z : k ≡ 0 + k = omega arith in z))
    ∙ shares_add_up (length ended) history (λ e m. (left.may.good.entries e m).pass) in
    omega (arith, short, whole)

-- ---- the first state

pub resumes : (key : Key) (s : SpecWithPlans) (keeping : Keeping) (history : List Entry) (fragments : List KeptRows) (ended : List EndedPass) (made n : ℕ) (words : List ℕ) (slots : List Slot)
    → key.compiled.value ≡ s → key.history.value ≡ history → key.passes ≡ length ended → IsSealed s.spec → ArePlansOf s.spec s.plans
    → IsLeftOf s.spec keeping history fragments ended → made ≡ min (sum (map (λ (e : EndedPass). e.made) ended)) (2 ^ 64 - 1)
    → n ≡ stripe_total s.spec → words ≡ slice_set (replicate (8 * (2 * n + 1)) 0) 0 made
    → slots ≡ flat_map spaced fragments ++ replicate (1024 + 260 * key.passes - 4 * length fragments) Empty
    → IsKept key (opening words slots (opener key))
resumes key s keeping history fragments ended made n words slots told past many sealed planned left is_made is_n is_words is_slots =
    opens key words slots compiled
    (subst (λ k. MayGoOn (spec_by key) k (history_by key)) (sym many) left'.may)
    (subst (AreFirstSlots (spec_by key) (history_by key) (stripes_by key) key.passes) (sym is_slots)
    (first_slots (spec_by key) (history_by key) key.passes fragments (placed_total (spec_by key) compiled.sealed.accepted.placed) left'.count left'.rows))
    (is_words ∙ (λ i. slice_set (replicate (wide i) 0) 0 (long i)))
  where
    compiled : IsCompiled (spec_by key) (compiled_by key).plans
    compiled = compiled_key key s told sealed planned

    left' : IsLeftOf (spec_by key) keeping (history_by key) fragments ended
    left' = subst (λ (x : SpecWithPlans × List Entry). IsLeftOf x.0.spec keeping x.1 fragments ended) (λ i. (sym told i, sym past i)) left

    wide : 8 * (2 * n + 1) ≡ 8 * suc (stripes_by key + stripes_by key)
    wide = words_of_key key n (is_n ∙ ap (λ (x : SpecWithPlans). stripe_total x.spec) (sym told))

    long : made ≡ length (history_by key)
    long = is_made ∙ made_is_length (spec_by key) keeping (history_by key) fragments ended left'

-- the fragments in the slots are those that were put there
pub back_in : (fragments : List KeptRows) (n : ℕ) (slots : List Slot) → slots ≡ flat_map spaced fragments ++ replicate n Empty → filter_map kept_at slots ≡ fragments
back_in fragments n slots is = ap (filter_map kept_at) is ∙ fragments_in fragments n

-- ---- a new row goes on from nothing

none_made : (keeping : Keeping) → IsEndedOf [] (no_entries keeping)
none_made Entries = record { made = refl; own_entries = refl }
none_made Counts = record { made = refl; own_entries = tt }

keeps_none : (keeping : Keeping) → KeepsAs keeping (no_entries keeping).entries
keeps_none Entries = tt
keeps_none Counts = tt

same_all : {A : Type 0} (x : A) (n k : ℕ) (y : A) → slice_get (replicate n x) k ≡ Some y → x ≡ y
same_all x zero k y e = cc
same_all x (suc n) zero y e = same_Some _ _ e
same_all x (suc n) (suc k) y e = same_all x n k y e

there_all : {A : Type 0} (x : A) (n k : ℕ) → k < n → slice_get (replicate n x) k ≡ Some x
there_all x zero k lt = absurd (omega (arith, lt))
there_all x (suc n) zero lt = refl
there_all x (suc n) (suc k) lt = there_all x n k (omega (arith, lt))

pub nothing_left : (spec : Spec) (keeping : Keeping) (passes : ℕ) → 1 ≤ passes → passes ≤ 255
    → IsLeftOf spec keeping [] (replicate (stripe_total spec) (kept_of spec [])) (replicate passes (no_entries keeping))
nothing_left spec keeping passes some few = record {
  may = subst (λ n. MayGoOn spec n []) (sym (length-replicate passes (no_entries keeping))) (record {
    some_pass = some;
    few_passes = few;
    good = record { legal = tt; fit = tt; numbered = λ pass. refl; entries = λ e m. absurd m };
    few = λ k lt. omega arith;
  });
  count = length-replicate (stripe_total spec) (kept_of spec []);
  rows = λ p lt. there_all (kept_of spec []) (stripe_total spec) p (subst (λ n. p < n) (length-replicate (stripe_total spec) (kept_of spec [])) lt) ∙ ap (λ rows. Some (kept_of spec rows)) (sym (empty_law spec p));
  made = λ k e at. subst (λ (x : EndedPass). IsEndedOf [] x) (same_all (no_entries keeping) passes k e at) (none_made keeping);
  keeps = λ k e at. subst (λ (x : EndedPass). KeepsAs keeping x.entries) (same_all (no_entries keeping) passes k e at) (keeps_none keeping);
}

pub new_from : (row : RowSeen) (a n : ℕ) → history_by row.key ≡ [] → resumed_from row a (replicate n (no_entries row.keeping)) ≡ map (new_pass row) (range_with_len a n)
new_from row a zero none = refl
new_from row a (suc n) none =
    let first : resumed_pass row a (no_entries row.keeping).entries ≡ new_pass row a =
    λ i. record { table = row.table; standing = resumed_standing (none i) a; held = []; kept = (no_entries row.keeping).entries } in
    let rest : resumed_from row (suc a) (replicate n (no_entries row.keeping)) ≡ map (new_pass row) (range_with_len (a + 1) n) =
    ap (λ k. resumed_from row k (replicate n (no_entries row.keeping))) (let z : suc a ≡ a + 1 = omega arith in z) ∙ new_from row (a + 1) n none in
    λ i. first i ∷ rest i

-- ---- passes that are dealt

-- one more
pub dealt_more : (row : RowSeen) (dealt : List PassSeen) (pass : PassSeen) (e : EndedPass) (left : List EndedPass) (all : List PassSeen)
    → dealt ++ resumed_from row (length dealt) (e ∷ left) ≡ all → pass ≡ resumed_pass row (length dealt) e.entries
    → (dealt ++ pass ∷ []) ++ resumed_from row (length (dealt ++ pass ∷ [])) left ≡ all
dealt_more row dealt pass e left all before is =
    (λ i. (dealt ++ is i ∷ []) ++ resumed_from row (long i) left)
    ∙ append_assoc dealt (resumed_pass row (length dealt) e.entries ∷ []) (resumed_from row (suc (length dealt)) left) ∙ before
  where
    long : length (dealt ++ pass ∷ []) ≡ suc (length dealt)
    long = length-append dealt (pass ∷ []) ∙ (let z : length dealt + 1 ≡ suc (length dealt) = omega arith in z)

-- the next of those that are left is at its place
pub next_at : (all left : List EndedPass) (n : ℕ) (e : EndedPass) → e ∷ left ≡ drop n all → slice_get all n ≡ Some e
next_at [] left zero e is = cc
next_at [] left (suc n) e is = cc
next_at (x ∷ all) left zero e is = let first : e ≡ x = cc in ap (λ y. Some y) (sym first)
next_at (x ∷ all) left (suc n) e is = next_at all left n e is

pub left_behind : (all left : List EndedPass) (n : ℕ) (e : EndedPass) → e ∷ left ≡ drop n all → left ≡ drop (suc n) all
left_behind [] left zero e is = cc
left_behind [] left (suc n) e is = cc
left_behind (x ∷ all) left zero e is = cc
left_behind (x ∷ all) left (suc n) e is = left_behind all left n e is
