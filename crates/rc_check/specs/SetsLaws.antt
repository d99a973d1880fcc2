-- Laws of the sets of a progress: what stands in them.
use Rattle.std.specs.Prelude.{◌≡◌, ℕ, zero, suc, ◌+◌, ◌<◌, ◌≤◌, ◌↔◌, ◌⊎◌, List, [], ◌∷◌}
use Rattle.std.proofs.Common.{refl, inl, inr, ap, arith}
use Rattle.std.specs.Ordering.{nat_cmp}
use Rattle.rc_tuple.specs.RisingSet.{In, gather}
use Rattle.rc_tuple.specs.RisingSetLaws.{nat_order, in_gather, gather_in}
use Rattle.rc_plan.specs.declared.statement.Which.{Which}
use Rattle.rc_plan.specs.declared.statement.Which.TheVariants as which
use Rattle.rc_check.specs.Sets.{with_keyed, with_whole, keyed_classes, whole_classes, above, with_place, places_of_deps}

-- ---- stages

-- ---- gathered numbers

pub in_gathered : (xs : List ℕ) (n : ℕ) → In n (gather nat_cmp xs) ↔ In n xs
in_gathered xs n = (in_gather nat_cmp nat_order n xs, gather_in nat_cmp nat_order n xs)

-- ---- locked classes

in_with_keyed : (choice : Which) (c n : ℕ) (ns : List ℕ) → In n (with_keyed choice c ns) → ◌≡◌ {A = ℕ × Which} (n, which.Keyed) (c, choice) ⊎ In n ns
in_with_keyed which.Keyed c n ns (inl e) = inl (let f : ℕ → ℕ × Which = λ k. (k, which.Keyed) in ap f e)
in_with_keyed which.Keyed c n ns (inr m) = inr m
in_with_keyed which.All c n ns m = inr m

with_keyed_here : (choice : Which) (c n : ℕ) (ns : List ℕ) → ◌≡◌ {A = ℕ × Which} (n, which.Keyed) (c, choice) → In n (with_keyed choice c ns)
with_keyed_here which.Keyed c n ns e = inl (ap (λ (lock : ℕ × Which). lock.0) e)
with_keyed_here which.All c n ns e = absurd (let h : which.Keyed ≡ which.All = ap (λ (lock : ℕ × Which). lock.1) e in cc)

with_keyed_later : (choice : Which) (c n : ℕ) (ns : List ℕ) → In n ns → In n (with_keyed choice c ns)
with_keyed_later which.Keyed c n ns m = inr m
with_keyed_later which.All c n ns m = m

in_keyed : (locks : List (ℕ × Which)) (n : ℕ) → In n (keyed_classes locks) → In (n, which.Keyed) locks
in_keyed [] n m = absurd m
in_keyed (lock ∷ locks) n m = elim (in_with_keyed lock.1 lock.0 n (keyed_classes locks) m) [ inl e ↦ inl e | inr r ↦ inr (in_keyed locks n r) ]

keyed_in : (locks : List (ℕ × Which)) (n : ℕ) → In (n, which.Keyed) locks → In n (keyed_classes locks)
keyed_in [] n m = absurd m
keyed_in (lock ∷ locks) n (inl e) = with_keyed_here lock.1 lock.0 n (keyed_classes locks) e
keyed_in (lock ∷ locks) n (inr m) = with_keyed_later lock.1 lock.0 n (keyed_classes locks) (keyed_in locks n m)

pub in_keyed_classes : (locks : List (ℕ × Which)) (n : ℕ) → In n (keyed_classes locks) ↔ In (n, which.Keyed) locks
in_keyed_classes locks n = (in_keyed locks n, keyed_in locks n)

in_with_whole : (choice : Which) (c n : ℕ) (ns : List ℕ) → In n (with_whole choice c ns) → ◌≡◌ {A = ℕ × Which} (n, which.All) (c, choice) ⊎ In n ns
in_with_whole which.Keyed c n ns m = inr m
in_with_whole which.All c n ns (inl e) = inl (let f : ℕ → ℕ × Which = λ k. (k, which.All) in ap f e)
in_with_whole which.All c n ns (inr m) = inr m

with_whole_here : (choice : Which) (c n : ℕ) (ns : List ℕ) → ◌≡◌ {A = ℕ × Which} (n, which.All) (c, choice) → In n (with_whole choice c ns)
with_whole_here which.Keyed c n ns e = absurd (let h : which.All ≡ which.Keyed = ap (λ (lock : ℕ × Which). lock.1) e in cc)
with_whole_here which.All c n ns e = inl (ap (λ (lock : ℕ × Which). lock.0) e)

with_whole_later : (choice : Which) (c n : ℕ) (ns : List ℕ) → In n ns → In n (with_whole choice c ns)
with_whole_later which.Keyed c n ns m = m
with_whole_later which.All c n ns m = inr m

in_whole : (locks : List (ℕ × Which)) (n : ℕ) → In n (whole_classes locks) → In (n, which.All) locks
in_whole [] n m = absurd m
in_whole (lock ∷ locks) n m = elim (in_with_whole lock.1 lock.0 n (whole_classes locks) m) [ inl e ↦ inl e | inr r ↦ inr (in_whole locks n r) ]

whole_in : (locks : List (ℕ × Which)) (n : ℕ) → In (n, which.All) locks → In n (whole_classes locks)
whole_in [] n m = absurd m
whole_in (lock ∷ locks) n (inl e) = with_whole_here lock.1 lock.0 n (whole_classes locks) e
whole_in (lock ∷ locks) n (inr m) = with_whole_later lock.1 lock.0 n (whole_classes locks) (whole_in locks n m)

pub in_whole_classes : (locks : List (ℕ × Which)) (n : ℕ) → In n (whole_classes locks) ↔ In (n, which.All) locks
in_whole_classes locks n = (in_whole locks n, whole_in locks n)

-- ---- the number above all

pub below_above : (ns : List ℕ) (limit : ℕ) → above ns ≤ limit → (n : ℕ) → In n ns → n < limit
below_above [] limit l n m = absurd m
below_above (k ∷ ns) limit l n (inl e) = omega (arith, e)
below_above (k ∷ ns) limit l n (inr m) = below_above ns limit (omega arith) n m

pub above_below : (ns : List ℕ) (limit : ℕ) → ((n : ℕ) → In n ns → n < limit) → above ns ≤ limit
above_below [] limit f = omega arith
above_below (k ∷ ns) limit f =
    let here : k < limit = f k (inl refl) in
    let rest : above ns ≤ limit = above_below ns limit (λ n m. f n (inr m)) in omega arith

-- ---- checked dependencies

in_with_place : (dep n : ℕ) (places : List ℕ) → In n (with_place dep places) → (n + 1 ≡ dep) ⊎ In n places
in_with_place zero n places m = inr m
in_with_place (suc k) n places (inl e) = inl (omega (arith, e))
in_with_place (suc k) n places (inr m) = inr m

with_place_here : (dep n : ℕ) (places : List ℕ) → n + 1 ≡ dep → In n (with_place dep places)
with_place_here zero n places e = absurd (omega arith)
with_place_here (suc k) n places e = inl (omega (arith, e))

with_place_later : (dep n : ℕ) (places : List ℕ) → In n places → In n (with_place dep places)
with_place_later zero n places m = m
with_place_later (suc k) n places m = inr m

in_places : (deps : List ℕ) (n : ℕ) → In n (places_of_deps deps) → In (n + 1) deps
in_places [] n m = absurd m
in_places (dep ∷ deps) n m = elim (in_with_place dep n (places_of_deps deps) m) [ inl e ↦ inl e | inr r ↦ inr (in_places deps n r) ]

places_in : (deps : List ℕ) (n : ℕ) → In (n + 1) deps → In n (places_of_deps deps)
places_in [] n m = absurd m
places_in (dep ∷ deps) n (inl e) = with_place_here dep n (places_of_deps deps) e
places_in (dep ∷ deps) n (inr m) = with_place_later dep n (places_of_deps deps) (places_in deps n m)

pub in_places_of_deps : (deps : List ℕ) (n : ℕ) → In n (places_of_deps deps) ↔ In (n + 1) deps
in_places_of_deps deps n = (in_places deps n, places_in deps n)
