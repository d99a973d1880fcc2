-- What the plain step keeps: the order of the tuples, and the dependencies. And by how much it grows.
use Rattle.std.proofs.Common.{◌≡◌, ℕ, ◌+◌, ◌≤◌, Bool, true, false, cond, not, List, [], ◌∷◌, Option, Some, None, length, refl, sym, ap, ◌∙◌, ◌⊎◌, inl, inr, subst, arith}
use Rattle.rc_spec.specs.Imports.{list_any, filter, slice_get, match_ordering, Ordering, Less, Equal, Greater, In, IsRising, put, in_put, rising_put, rising_filter, in_filter, Pairs, agree_on, matches, tuple_cmp, tuple_eq, tuple_order, Satisfies, SatisfiesOne, breaks, satisfies_from_test, satisfies_fewer, Dep}
use Rattle.rc_spec.specs.declared.items.Op.{Op}
use Rattle.rc_spec.specs.declared.items.OpKind.{OpKind}
use Rattle.rc_spec.specs.declared.items.OpKind.TheVariants.{Query, Insert, Remove, Update}
use Rattle.rc_spec.specs.declared.call.Call.{Call}
use Rattle.rc_spec.specs.declared.call.Reply.TheVariants.{Present, Absent}
use Rattle.rc_spec.specs.declared.range.Range.{Range}
use Rattle.rc_spec.specs.declared.spec.Spec.{Spec}
use Rattle.rc_spec.specs.Calls.{GivesTuple}
use Rattle.rc_spec.specs.Plain.{Outcome, first_broken_dependency, inserted_unless, removed_first, updated_unless, updated_first, without, plain_by, plain_at, plain}

-- where no dependency is broken, all are satisfied
pub satisfies_from_none : (n : ℕ) (deps : List Dep) (r : List Pairs) → first_broken_dependency n deps r ≡ None → Satisfies r deps
satisfies_from_none n [] r h d m = absurd m
satisfies_from_none n (e ∷ deps) r h d m = go (breaks r e) refl h (λ k. satisfies_from_none (n + 1) deps r k d) m
  where
    go : (b : Bool) → breaks r e ≡ b → cond b (Some n) (first_broken_dependency (n + 1) deps r) ≡ None
        → (first_broken_dependency (n + 1) deps r ≡ None → In d deps → SatisfiesOne r d.left d.right) → In d (e ∷ deps) → SatisfiesOne r d.left d.right
    go true k h rest m = cc
    go false k h rest (inl q) = satisfies_from_test r d (ap (breaks r) q ∙ k)
    go false k h rest (inr q) = rest h q

-- ---- an insert, by what the code finds

pub insert-present : (most : ℕ) (pattern : List ℕ) (deps : List Dep) (t : Pairs) (ranges : List Range) (r : List Pairs) → list_any (agree_on pattern t) r ≡ true
    → plain_by most Insert pattern deps t ranges r ≡ record { reply = Present; relation = r }
insert-present most pattern deps t ranges r h =
    ap (λ b. cond b (let o : Outcome = record { reply = Present; relation = r } in o) (inserted_unless (first_broken_dependency 1 deps (put tuple_cmp t r)) (put tuple_cmp t r) r)) h

pub insert-absent : (most : ℕ) (pattern : List ℕ) (deps : List Dep) (t : Pairs) (ranges : List Range) (r : List Pairs) (broken : Option ℕ) → list_any (agree_on pattern t) r ≡ false
    → first_broken_dependency 1 deps (put tuple_cmp t r) ≡ broken → plain_by most Insert pattern deps t ranges r ≡ inserted_unless broken (put tuple_cmp t r) r
insert-absent most pattern deps t ranges r broken h e =
    ap (λ b. cond b (let o : Outcome = record { reply = Present; relation = r } in o) (inserted_unless (first_broken_dependency 1 deps (put tuple_cmp t r)) (put tuple_cmp t r) r)) h
    ∙ ap (λ f. inserted_unless f (put tuple_cmp t r) r) e

-- ---- what is in the relation afterwards

in_inserted : (broken : Option ℕ) (t : Pairs) (r : List Pairs) (u : Pairs) → In u (inserted_unless broken (put tuple_cmp t r) r).relation → (u ≡ t) ⊎ In u r
in_inserted None t r u m = in_put tuple_cmp tuple_order u t r m
in_inserted (Some n) t r u m = inr m

in_inserted_by : (b : Bool) (broken : Option ℕ) (t : Pairs) (r : List Pairs) (u : Pairs)
    → In u (cond b (let o : Outcome = record { reply = Present; relation = r } in o) (inserted_unless broken (put tuple_cmp t r) r)).relation → (u ≡ t) ⊎ In u r
in_inserted_by true broken t r u m = inr m
in_inserted_by false broken t r u m = in_inserted broken t r u m

pub in_after_insert : (most : ℕ) (pattern : List ℕ) (deps : List Dep) (t : Pairs) (ranges : List Range) (r : List Pairs) (u : Pairs) → In u (plain_by most Insert pattern deps t ranges r).relation → (u ≡ t) ⊎ In u r
in_after_insert most pattern deps t ranges r u m = in_inserted_by (list_any (agree_on pattern t) r) (first_broken_dependency 1 deps (put tuple_cmp t r)) t r u m

in_removed : (found r : List Pairs) (u : Pairs) → In u (removed_first found r).relation → In u r
in_removed [] r u m = m
in_removed (t ∷ ts) r u m = (in_filter (λ x. not (tuple_eq x t)) u r m).0

pub in_after_remove : (most : ℕ) (pattern : List ℕ) (deps : List Dep) (args : Pairs) (ranges : List Range) (r : List Pairs) (u : Pairs) → In u (plain_by most Remove pattern deps args ranges r).relation → In u r
in_after_remove most pattern deps args ranges r u m = in_removed (filter (matches args) r) r u m

-- ---- an update, by what the code finds

pub update-absent : (most : ℕ) (pattern : List ℕ) (deps : List Dep) (t : Pairs) (ranges : List Range) (r : List Pairs) → filter (agree_on pattern t) r ≡ []
    → plain_by most Update pattern deps t ranges r ≡ record { reply = Absent; relation = r }
update-absent most pattern deps t ranges r h = ap (λ found. updated_first found deps t r) h

pub update-found : (most : ℕ) (pattern : List ℕ) (deps : List Dep) (t : Pairs) (ranges : List Range) (r : List Pairs) (old : Pairs) (others : List Pairs) (broken : Option ℕ)
    → filter (agree_on pattern t) r ≡ old ∷ others → first_broken_dependency 1 deps (put tuple_cmp t (without old r)) ≡ broken
    → plain_by most Update pattern deps t ranges r ≡ updated_unless broken old (put tuple_cmp t (without old r)) r
update-found most pattern deps t ranges r old others broken h e =
    ap (λ found. updated_first found deps t r) h ∙ ap (λ f. updated_unless f old (put tuple_cmp t (without old r)) r) e

in_updated_unless : (broken : Option ℕ) (old t : Pairs) (r : List Pairs) (u : Pairs)
    → In u (updated_unless broken old (put tuple_cmp t (without old r)) r).relation → (u ≡ t) ⊎ In u r
in_updated_unless None old t r u m = elim (in_put tuple_cmp tuple_order u t (without old r) m) [
  | inl e ↦ inl e
  | inr n ↦ inr (in_filter (λ x. not (tuple_eq x old)) u r n).0
]
in_updated_unless (Some n) old t r u m = inr m

in_updated : (found : List Pairs) (deps : List Dep) (t : Pairs) (r : List Pairs) (u : Pairs) → In u (updated_first found deps t r).relation → (u ≡ t) ⊎ In u r
in_updated [] deps t r u m = inr m
in_updated (old ∷ others) deps t r u m = in_updated_unless (first_broken_dependency 1 deps (put tuple_cmp t (without old r))) old t r u m

pub in_after_update : (most : ℕ) (pattern : List ℕ) (deps : List Dep) (t : Pairs) (ranges : List Range) (r : List Pairs) (u : Pairs)
    → In u (plain_by most Update pattern deps t ranges r).relation → (u ≡ t) ⊎ In u r
in_after_update most pattern deps t ranges r u m = in_updated (filter (agree_on pattern t) r) deps t r u m

-- ---- order

rising_inserted : (b : Bool) (broken : Option ℕ) (t : Pairs) (r : List Pairs) → IsRising tuple_cmp r
    → IsRising tuple_cmp (cond b (let o : Outcome = record { reply = Present; relation = r } in o) (inserted_unless broken (put tuple_cmp t r) r)).relation
rising_inserted true broken t r h = h
rising_inserted false None t r h = rising_put tuple_cmp tuple_order t r h
rising_inserted false (Some n) t r h = h

rising_removed : (found r : List Pairs) → IsRising tuple_cmp r → IsRising tuple_cmp (removed_first found r).relation
rising_removed [] r h = h
rising_removed (t ∷ ts) r h = rising_filter tuple_cmp (λ x. not (tuple_eq x t)) r h

rising_updated_unless : (broken : Option ℕ) (old t : Pairs) (r : List Pairs) → IsRising tuple_cmp r
    → IsRising tuple_cmp (updated_unless broken old (put tuple_cmp t (without old r)) r).relation
rising_updated_unless None old t r h = rising_put tuple_cmp tuple_order t (without old r) (rising_filter tuple_cmp (λ x. not (tuple_eq x old)) r h)
rising_updated_unless (Some n) old t r h = h

rising_updated : (found : List Pairs) (deps : List Dep) (t : Pairs) (r : List Pairs) → IsRising tuple_cmp r → IsRising tuple_cmp (updated_first found deps t r).relation
rising_updated [] deps t r h = h
rising_updated (old ∷ others) deps t r h = rising_updated_unless (first_broken_dependency 1 deps (put tuple_cmp t (without old r))) old t r h

pub rising_after : (most : ℕ) (kind : OpKind) (pattern : List ℕ) (deps : List Dep) (args : Pairs) (ranges : List Range) (r : List Pairs) → IsRising tuple_cmp r
    → IsRising tuple_cmp (plain_by most kind pattern deps args ranges r).relation
rising_after most (Query outs cols) pattern deps args ranges r h = h
rising_after most Insert pattern deps args ranges r h = rising_inserted (list_any (agree_on pattern args) r) (first_broken_dependency 1 deps (put tuple_cmp args r)) args r h
rising_after most Remove pattern deps args ranges r h = rising_removed (filter (matches args) r) r h
rising_after most Update pattern deps args ranges r h = rising_updated (filter (agree_on pattern args) r) deps args r h

-- ---- dependencies

satisfied_inserted : (b : Bool) (broken : Option ℕ) (deps : List Dep) (t : Pairs) (r : List Pairs) → first_broken_dependency 1 deps (put tuple_cmp t r) ≡ broken → Satisfies r deps
    → Satisfies (cond b (let o : Outcome = record { reply = Present; relation = r } in o) (inserted_unless broken (put tuple_cmp t r) r)).relation deps
satisfied_inserted true broken deps t r e h = h
satisfied_inserted false None deps t r e h = satisfies_from_none 1 deps (put tuple_cmp t r) e
satisfied_inserted false (Some n) deps t r e h = h

satisfied_updated_unless : (broken : Option ℕ) (deps : List Dep) (old t : Pairs) (r : List Pairs) → first_broken_dependency 1 deps (put tuple_cmp t (without old r)) ≡ broken
    → Satisfies r deps → Satisfies (updated_unless broken old (put tuple_cmp t (without old r)) r).relation deps
satisfied_updated_unless None deps old t r e h = satisfies_from_none 1 deps (put tuple_cmp t (without old r)) e
satisfied_updated_unless (Some n) deps old t r e h = h

satisfied_updated : (found : List Pairs) (deps : List Dep) (t : Pairs) (r : List Pairs) → Satisfies r deps → Satisfies (updated_first found deps t r).relation deps
satisfied_updated [] deps t r h = h
satisfied_updated (old ∷ others) deps t r h = satisfied_updated_unless (first_broken_dependency 1 deps (put tuple_cmp t (without old r))) deps old t r refl h

pub satisfied_after : (most : ℕ) (kind : OpKind) (pattern : List ℕ) (deps : List Dep) (args : Pairs) (ranges : List Range) (r : List Pairs) → Satisfies r deps
    → Satisfies (plain_by most kind pattern deps args ranges r).relation deps
satisfied_after most (Query outs cols) pattern deps args ranges r h = h
satisfied_after most Insert pattern deps args ranges r h = satisfied_inserted (list_any (agree_on pattern args) r) (first_broken_dependency 1 deps (put tuple_cmp args r)) deps args r refl h
satisfied_after most Remove pattern deps args ranges r h = satisfies_fewer r (plain_by most Remove pattern deps args ranges r).relation deps (in_after_remove most pattern deps args ranges r) h
satisfied_after most Update pattern deps args ranges r h = satisfied_updated (filter (agree_on pattern args) r) deps args r h

satisfied_at : (most : ℕ) (op : Option Op) (deps : List Dep) (args : Pairs) (ranges : List Range) (r : List Pairs) → Satisfies r deps → Satisfies (plain_at most op deps args ranges r).relation deps
satisfied_at most (Some op) deps args ranges r h = satisfied_after most op.kind op.pattern deps args ranges r h
satisfied_at most None deps args ranges r h = h

-- a call leaves a relation that satisfies the dependencies
pub plain_satisfies : (spec : Spec) (r : List Pairs) (call : Call) → Satisfies r spec.deps → Satisfies (plain spec r call).relation spec.deps
plain_satisfies spec r call h = satisfied_at spec.most_rows (slice_get spec.ops call.op) spec.deps call.args call.ranges r h

-- ---- what holds of each tuple

-- what holds of each tuple and of a tuple that is given holds of each tuple afterwards
pub each_after : (P : Pairs → Type 0) (most : ℕ) (kind : OpKind) (pattern : List ℕ) (deps : List Dep) (args : Pairs) (ranges : List Range) (r : List Pairs)
    → (GivesTuple kind → P args) → ((u : Pairs) → In u r → P u) → (u : Pairs) → In u (plain_by most kind pattern deps args ranges r).relation → P u
each_after P most (Query outs cols) pattern deps args ranges r f h u m = h u m
each_after P most Insert pattern deps args ranges r f h u m =
    elim (in_after_insert most pattern deps args ranges r u m) [ inl e ↦ subst P (sym e) (f tt) | inr n ↦ h u n ]
each_after P most Remove pattern deps args ranges r f h u m = h u (in_after_remove most pattern deps args ranges r u m)
each_after P most Update pattern deps args ranges r f h u m =
    elim (in_after_update most pattern deps args ranges r u m) [ inl e ↦ subst P (sym e) (f tt) | inr n ↦ h u n ]

-- the plain step of a call whose operation is known
pub plain-known : (spec : Spec) (r : List Pairs) (call : Call) (op : Op) → slice_get spec.ops call.op ≡ Some op
    → plain spec r call ≡ plain_by spec.most_rows op.kind op.pattern spec.deps call.args call.ranges r
plain-known spec r call op e = ap (λ o. plain_at spec.most_rows o spec.deps call.args call.ranges r) e

-- ---- the number of tuples

length_filter : {A : Type 0} (q : A → Bool) (xs : List A) → length (filter q xs) ≤ length xs
length_filter q [] = omega arith
length_filter q (x ∷ xs) = go (q x) (length_filter q xs)
  where
    go : (b : Bool) → length (filter q xs) ≤ length xs → length (cond b (x ∷ filter q xs) (filter q xs)) ≤ length (x ∷ xs)
    go true h = omega (arith, h)
    go false h = omega (arith, h)

length_put : {A : Type 0} (R : A → A → Ordering) (x : A) (xs : List A) → length (put R x xs) ≤ length xs + 1
length_put R x [] = omega arith
length_put R x (y ∷ ys) = go (R x y) (length_put R x ys)
  where
    go : (o : Ordering) → length (put R x ys) ≤ length ys + 1 → length (match_ordering o (x ∷ (y ∷ ys)) (y ∷ ys) (y ∷ put R x ys)) ≤ length (y ∷ ys) + 1
    go Less h = omega arith
    go Equal h = omega arith
    go Greater h = omega (arith, h)

inserted_grows : (b : Bool) (broken : Option ℕ) (t : Pairs) (r : List Pairs)
    → length (cond b (let o : Outcome = record { reply = Present; relation = r } in o) (inserted_unless broken (put tuple_cmp t r) r)).relation ≤ length r + 1
inserted_grows true broken t r = omega arith
inserted_grows false None t r = length_put tuple_cmp t r
inserted_grows false (Some n) t r = omega arith

removed_grows : (found r : List Pairs) → length (removed_first found r).relation ≤ length r + 1
removed_grows [] r = omega arith
removed_grows (t ∷ ts) r = let h : length (filter (λ u. not (tuple_eq u t)) r) ≤ length r = length_filter (λ u. not (tuple_eq u t)) r in omega (arith, h)

updated_grows_unless : (broken : Option ℕ) (old t : Pairs) (r : List Pairs) → length (updated_unless broken old (put tuple_cmp t (without old r)) r).relation ≤ length r + 1
updated_grows_unless None old t r =
    let h : length (without old r) ≤ length r = length_filter (λ u. not (tuple_eq u old)) r in
    let k : length (put tuple_cmp t (without old r)) ≤ length (without old r) + 1 = length_put tuple_cmp t (without old r) in omega (arith, h, k)
updated_grows_unless (Some n) old t r = omega arith

updated_grows : (found : List Pairs) (deps : List Dep) (t : Pairs) (r : List Pairs) → length (updated_first found deps t r).relation ≤ length r + 1
updated_grows [] deps t r = omega arith
updated_grows (old ∷ others) deps t r = updated_grows_unless (first_broken_dependency 1 deps (put tuple_cmp t (without old r))) old t r

grows_after : (most : ℕ) (kind : OpKind) (pattern : List ℕ) (deps : List Dep) (args : Pairs) (ranges : List Range) (r : List Pairs)
    → length (plain_by most kind pattern deps args ranges r).relation ≤ length r + 1
grows_after most (Query outs cols) pattern deps args ranges r = omega arith
grows_after most Insert pattern deps args ranges r = inserted_grows (list_any (agree_on pattern args) r) (first_broken_dependency 1 deps (put tuple_cmp args r)) args r
grows_after most Remove pattern deps args ranges r = removed_grows (filter (matches args) r) r
grows_after most Update pattern deps args ranges r = updated_grows (filter (agree_on pattern args) r) deps args r

grows_at : (most : ℕ) (op : Option Op) (deps : List Dep) (args : Pairs) (ranges : List Range) (r : List Pairs) → length (plain_at most op deps args ranges r).relation ≤ length r + 1
grows_at most (Some op) deps args ranges r = grows_after most op.kind op.pattern deps args ranges r
grows_at most None deps args ranges r = omega arith

-- a call adds at most one tuple
pub plain_grows : (spec : Spec) (r : List Pairs) (call : Call) → length (plain spec r call).relation ≤ length r + 1
plain_grows spec r call = grows_at spec.most_rows (slice_get spec.ops call.op) spec.deps call.args call.ranges r
