-- Laws of acceptance: the checks of the table are the rules.
use Rattle.std.proofs.Common.{◌≡◌, ℕ, ◌<◌, List, [], ◌∷◌, refl, sym, subst, inl, inr}
use Rattle.rc_spec.specs.Imports.{AllByRecursion, range_with_len, In, flat_map_in, map_in, in_range_below}
use Rattle.rc_spec.specs.declared.refusal.Rule.{Rule}
use Rattle.rc_spec.specs.declared.refusal.Rule.TheVariants.{A1, A2, A3, A4, A5, A6, A7, P1, P2, P3, P4, P5, P6, O1, O2, O3}
use Rattle.rc_spec.specs.declared.refusal.ItemKind.{ItemKind}
use Rattle.rc_spec.specs.declared.refusal.ItemKind.TheVariants.{Node, Edge, Column, Lock, Operation}
use Rattle.rc_spec.specs.declared.refusal.Refusal.{Refusal}
use Rattle.rc_spec.specs.declared.spec.Spec.{Spec}
use Rattle.rc_spec.specs.Acceptance.{AreOfKind, IsAccepted, IsFirstBroken, IsItemOf, IsKept, Keeps, Step, check_on, checks, item_checks, count_of, item_of, kind_of, number_of, step, step_checks, steps}
use Rattle.rc_spec.specs.First.{EachHolds}
use Rattle.rc_spec.specs.FirstLaws.{each_flat_map, each_listed, each_map, first_in, first_not_each, one_first}

pub number_of_item : (kind : ItemKind) (n : ℕ) → number_of (item_of kind n) ≡ n
number_of_item Node n = refl
number_of_item Edge n = refl
number_of_item Column n = refl
number_of_item Lock n = refl
number_of_item Operation n = refl

item_known : (spec : Spec) (kind : ItemKind) (n : ℕ) → n < count_of spec kind → IsItemOf spec (item_of kind n)
item_known spec Node n l = l
item_known spec Edge n l = l
item_known spec Column n l = l
item_known spec Lock n l = l
item_known spec Operation n l = l

-- ---- the table

pub steps_of_kind : AllByRecursion AreOfKind steps
steps_of_kind = search

here : {A : Type 0} (x : A) (xs : List A) → In x (x ∷ xs)
here x xs = inl refl

behind : {A : Type 0} (x y : A) (xs : List A) → In x xs → In x (y ∷ xs)
behind x y xs m = inr m

-- each rule stands in the table
tabled : (rule : Rule) → (rules : List Rule) × In (step (kind_of rule) rules) steps × In rule rules
tabled A1 = (A1 ∷ [], inl refl, inl refl)
tabled A2 = (A2 ∷ [], search (here, behind), inl refl)
tabled A3 = (A3 ∷ A4 ∷ A5 ∷ A6 ∷ [], search (here, behind), inl refl)
tabled A4 = (A3 ∷ A4 ∷ A5 ∷ A6 ∷ [], search (here, behind), inr (inl refl))
tabled A5 = (A3 ∷ A4 ∷ A5 ∷ A6 ∷ [], search (here, behind), inr (inr (inl refl)))
tabled A6 = (A3 ∷ A4 ∷ A5 ∷ A6 ∷ [], search (here, behind), inr (inr (inr (inl refl))))
tabled A7 = (A7 ∷ [], search (here, behind), inl refl)
tabled P1 = (P1 ∷ [], search (here, behind), inl refl)
tabled P2 = (P2 ∷ [], search (here, behind) depth 12, inl refl)
tabled P3 = (P3 ∷ [], search (here, behind) depth 12, inl refl)
tabled P4 = (P4 ∷ [], search (here, behind) depth 12, inl refl)
tabled P5 = (P5 ∷ [], search (here, behind) depth 12, inl refl)
tabled P6 = (P6 ∷ [], search (here, behind) depth 12, inl refl)
tabled O1 = (O1 ∷ O2 ∷ O3 ∷ [], search (here, behind) depth 12, inl refl)
tabled O2 = (O1 ∷ O2 ∷ O3 ∷ [], search (here, behind) depth 12, inr (inl refl))
tabled O3 = (O1 ∷ O2 ∷ O3 ∷ [], search (here, behind) depth 12, inr (inr (inl refl)))

-- the check of a rule at an item stands in the list of checks
check_in : (spec : Spec) (rule : Rule) (n : ℕ) → n < count_of spec (kind_of rule) → In (check_on (kind_of rule) n rule) (checks spec)
check_in spec rule n l =
    let t : (rules : List Rule) × In (step (kind_of rule) rules) steps × In rule rules = tabled rule in
    let s : Step = step (kind_of rule) t.0 in
    let at : In (check_on (kind_of rule) n rule) (item_checks s n) = map_in (check_on (kind_of rule) n) rule t.0 t.2 in
    let on : In (check_on (kind_of rule) n rule) (step_checks spec s) =
    flat_map_in (item_checks s) (check_on (kind_of rule) n rule) n (range_with_len 0 (count_of spec s.kind)) (in_range_below (count_of spec s.kind) n l) at in
    flat_map_in (step_checks spec) (check_on (kind_of rule) n rule) s steps t.1 on

-- what holds of each rule at each of its items holds of all checks
each_check : (P : Refusal → Type 0) (spec : Spec) → ((rule : Rule) (n : ℕ) → n < count_of spec (kind_of rule) → P (check_on (kind_of rule) n rule)) → EachHolds P (checks spec)
each_check P spec h =
    each_flat_map P (step_checks spec) steps (λ s m.
    each_listed P (item_checks s) (count_of spec s.kind) (λ n l.
    each_map P (check_on s.kind n) s.rules (λ rule i.
    let k : kind_of rule ≡ s.kind = in_all (λ r. kind_of r ≡ s.kind) s.rules rule (in_all AreOfKind steps s steps_of_kind m) i in
    subst (λ kind. P (check_on kind n rule)) k (h rule n (subst (λ kind. n < count_of spec kind) (sym k) l)))))
  where
    in_all : {A : Type 0} (P : A → Type 0) (xs : List A) (x : A) → AllByRecursion P xs → In x xs → P x
    in_all P [] x a m = absurd m
    in_all P (y ∷ xs) x a (inl e) = subst P (sym e) a.0
    in_all P (y ∷ xs) x a (inr m) = in_all P xs x a.1 m

-- ---- acceptance

-- each item keeps each rule of its kind
kept : (spec : Spec) → IsAccepted spec → (rule : Rule) (n : ℕ) → n < count_of spec (kind_of rule) → Keeps spec rule n
kept spec h A1 n l = h.adequate.a1 n l
kept spec h A2 n l = h.adequate.a2 n l
kept spec h A3 n l = h.adequate.a3 n l
kept spec h A4 n l = h.adequate.a4 n l
kept spec h A5 n l = h.adequate.a5 n l
kept spec h A6 n l = h.adequate.a6 n l
kept spec h A7 n l = h.adequate.a7 n l
kept spec h P1 n l = h.placed.p1 n l
kept spec h P2 n l = h.placed.p2 n l
kept spec h P3 n l = h.placed.p3 n l
kept spec h P4 n l = h.placed.p4 n l
kept spec h P5 n l = h.placed.p5 n l
kept spec h P6 n l = h.placed.p6 n l
kept spec h O1 n l = (h.ops n l).o1
kept spec h O2 n l = (h.ops n l).o2
kept spec h O3 n l = (h.ops n l).o3

accepted : (spec : Spec) → ((rule : Rule) (n : ℕ) → n < count_of spec (kind_of rule) → Keeps spec rule n) → IsAccepted spec
accepted spec k = record {
  adequate = record { a1 = k A1; a2 = k A2; a3 = k A3; a4 = k A4; a5 = k A5; a6 = k A6; a7 = k A7 };
  placed = record { p1 = k P1; p2 = k P2; p3 = k P3; p4 = k P4; p5 = k P5; p6 = k P6 };
  ops = λ n l. record { o1 = k O1 n l; o2 = k O2 n l; o3 = k O3 n l };
}

pub accepted_from_checks : (spec : Spec) → EachHolds (IsKept spec) (checks spec) → IsAccepted spec
accepted_from_checks spec h =
    accepted spec (λ rule n l. subst (Keeps spec rule) (number_of_item (kind_of rule) n) (h (check_on (kind_of rule) n rule) (check_in spec rule n l)))

pub checks_from_accepted : (spec : Spec) → IsAccepted spec → EachHolds (IsKept spec) (checks spec)
checks_from_accepted spec h =
    each_check (IsKept spec) spec (λ rule n l. subst (Keeps spec rule) (sym (number_of_item (kind_of rule) n)) (kept spec h rule n l))

-- a specification with a first broken rule isn't accepted, and it has one such rule at most
pub refused_not_accepted : (spec : Spec) (refusal : Refusal) → IsFirstBroken spec refusal → IsAccepted spec → ⊥
refused_not_accepted spec refusal f h = first_not_each (IsKept spec) (checks spec) refusal f (checks_from_accepted spec h)

pub one_first_broken : (spec : Spec) (a b : Refusal) → IsFirstBroken spec a → IsFirstBroken spec b → a ≡ b
one_first_broken spec a b f g = one_first (IsKept spec) (checks spec) a b f g

-- each check is of an item of the specification
pub first_broken_item : (spec : Spec) (refusal : Refusal) → IsFirstBroken spec refusal → IsItemOf spec refusal.item
first_broken_item spec refusal f =
    each_check (λ check. IsItemOf spec check.item) spec (λ rule n l. item_known spec (kind_of rule) n l) refusal (first_in (IsKept spec) (checks spec) refusal f)
