-- Laws of plans built from their parts: if the rest of a plan keeps K1 to K7 from what a part leaves, then part and rest keep them.
use Rattle.std.specs.Prelude.{◌≡◌, ℕ, ◌+◌, ◌<◌, ◌≤◌, Bool, true, false, List, [], ◌∷◌, ◌++◌, ◌⊎◌, Option, None, map, reverse, not, length, nat_le, if◌then◌else◌}
use Rattle.rc_query.specs.Imports.{Less, nat_cmp, In, IsRising, AreDistinct, not_below_itself, nat_order, rising_gather, in_gather, gather_in, in_filter, filter_in, rising_filter, in_map, map_in, in_append, append_in_left, append_in_right, Within, is_within, union, within_from_test, in_union, union_left, union_right, in_range_bounds, in_range_below, Op, OpKind, Query, Insert, Remove, Update, Mode, Spec, IsAdequate, all_columns, GivesTuple, target_within, edge_at, target_columns, IsInRange, class_at, class_of, IsPlaced, class_of_known, Lookup, Scan, Statement, Read, Commit, Release, Which, Phase, Progress, after, IsLocked, HasProbed, IsKnown, AreKnown, HasLockMode, MayRead, IsComplete, KeepsK1, KeepsK2, KeepsK3, KeepsK4, KeepsK5, KeepsK6, KeepsK7, IsKeyBound, Covers, IsFindable, KeepsFrom, striping_in_target, all_edges, IsStep, IsGoodFrom}
use Rattle.std.proofs.Common.{inl, inr, refl, sym, ap, subst, ◌∙◌, arith}
use Rattle.std.proofs.lemmas.Bool.{leb-true, leb-false, cases_Bool, not_from_false, not-true}
use Rattle.std.proofs.lemmas.Cmp.{ranked}
use Rattle.std.proofs.lemmas.List.{append_assoc, reverse-append}
use Rattle.rc_plan.specs.declared.statement.Which.TheVariants as which
use Rattle.rc_query.specs.Planned.{classes_of_edges, written_classes, which_where, read_mode_where, locks, due, later, locks_and_reads, left_after, ending}

-- ---- statements that keep all rules, with numbers of the specification

-- the statement's numbers are the specification's, and it keeps all rules
pub record IsAcceptedAt (spec : Spec) (op : Op) (p : Progress) (x : Statement) : Type 0 where
  pub known : IsKnown spec x
  pub k1 : KeepsK1 op.kind p x
  pub k2 : KeepsK2 p x
  pub k3 : KeepsK3 spec p x
  pub k4 : KeepsK4 spec op p x
  pub k5 : KeepsK5 spec p x
  pub k6 : KeepsK6 spec op p x
  pub k7 : KeepsK7 spec op p x

abbrev pub AreAcceptedFrom : Spec → Op → Progress → List Statement → Type 0
AreAcceptedFrom spec op p [] = IsComplete p
AreAcceptedFrom spec op p (x ∷ plan) = IsAcceptedAt spec op p x × AreAcceptedFrom spec op (after spec p x) plan

pub known_of_fit : (spec : Spec) (op : Op) (p : Progress) (plan : List Statement) → AreAcceptedFrom spec op p plan → AreKnown spec plan
known_of_fit spec op p [] f x m = absurd m
known_of_fit spec op p (y ∷ plan) f x (inl e) = subst (IsKnown spec) (sym e) f.0.known
known_of_fit spec op p (y ∷ plan) f x (inr m) = known_of_fit spec op (after spec p y) plan f.1 x m

pub rules_of_fit : (spec : Spec) (op : Op) (p : Progress) (plan : List Statement) → AreAcceptedFrom spec op p plan → KeepsFrom spec op p plan
rules_of_fit spec op p [] f = f
rules_of_fit spec op p (x ∷ plan) f =
    (record { k1 = f.0.k1; k2 = f.0.k2; k3 = f.0.k3; k4 = f.0.k4; k5 = f.0.k5; k6 = f.0.k6; k7 = f.0.k7 }, rules_of_fit spec op (after spec p x) plan f.1)

-- what is known while a plan still searches
abbrev pub searching : List ℕ → List ℕ → List ℕ → List (ℕ × Which) → Option (List ℕ) → Bool → List ℕ → Progress
searching columns visited reached locked probe absent checked =
    record { phase = Phase.Searching; columns = columns; visited = visited; reached = reached; locked = locked; released = []; probe = probe; sought = absent; checked = checked }

-- ---- Locks

pub less_from : (x y : ℕ) → nat_cmp x y ≡ Less → x < y
less_from x y e = ranked x y Less (sym e)

-- what is locked after some classes are locked in turn
abbrev pub with_locks : (ℕ → Which) → List ℕ → List (ℕ × Which) → List (ℕ × Which)
with_locks choice [] ls = ls
with_locks choice (c ∷ cs) ls = with_locks choice cs ((c, choice c) ∷ ls)

pub with_locks_old : (choice : ℕ → Which) (cs : List ℕ) (ls : List (ℕ × Which)) (x : ℕ × Which) → In x ls → In x (with_locks choice cs ls)
with_locks_old choice [] ls x h = h
with_locks_old choice (c ∷ cs) ls x h = with_locks_old choice cs ((c, choice c) ∷ ls) x (inr h)

pub with_locks_new : (choice : ℕ → Which) (cs : List ℕ) (ls : List (ℕ × Which)) (c : ℕ) → In c cs → In (c, choice c) (with_locks choice cs ls)
with_locks_new choice [] ls c h = absurd h
with_locks_new choice (d ∷ cs) ls c (inl e) = with_locks_old choice cs ((d, choice d) ∷ ls) (c, choice c) (inl (ap (λ (z : ℕ). (z, choice z)) e))
with_locks_new choice (d ∷ cs) ls c (inr h) = with_locks_new choice cs ((d, choice d) ∷ ls) c h

pub in_with_locks : (choice : ℕ → Which) (cs : List ℕ) (ls : List (ℕ × Which)) (x : ℕ × Which) → In x (with_locks choice cs ls) → In x ls ⊎ (In x.0 cs × (x.1 ≡ choice x.0))
in_with_locks choice [] ls x h = inl h
in_with_locks choice (c ∷ cs) ls x h =
    elim (in_with_locks choice cs ((c, choice c) ∷ ls) x h) [
      | inl q ↦ elim q [
        | inl e ↦ inr (inl (ap (λ (z : ℕ × Which). z.0) e), ap (λ (z : ℕ × Which). z.1) e ∙ ap choice (sym (ap (λ (z : ℕ × Which). z.0) e)))
        | inr k ↦ inl k
      ]
      | inr q ↦ inr (inr q.0, q.1)
    ]

-- rising Locks before any Probe
pub locks_fit : (spec : Spec) (op : Op) (mode : Mode) → HasLockMode op.kind mode → (choice : ℕ → Which) (cs columns visited reached : List ℕ) (ls : List (ℕ × Which)) (absent : Bool) (checked : List ℕ)
    → IsRising nat_cmp cs → ((c : ℕ) → In c cs → c < length spec.classes) → ((c : ℕ) → In c cs → IsKeyBound spec c (choice c) columns)
    → ((x : ℕ × Which) → In x ls → (c : ℕ) → In c cs → x.0 < c)
    → (rest : List Statement) → AreAcceptedFrom spec op (searching columns visited reached (with_locks choice cs ls) None absent checked) rest
    → AreAcceptedFrom spec op (searching columns visited reached ls None absent checked) (locks mode choice cs ++ rest)
locks_fit spec op mode may choice [] columns visited reached ls absent checked r n k b rest h = h
locks_fit spec op mode may choice (c ∷ cs) columns visited reached ls absent checked r n k b rest h = (
  record { known = n c (inl refl); k1 = (refl, refl, may); k2 = λ x q. b x q c (inl refl); k3 = k c (inl refl); k4 = tt; k5 = tt; k6 = tt; k7 = tt },
  locks_fit spec op mode may choice cs columns visited reached ((c, choice c) ∷ ls) absent checked r.1 (λ d q. n d (inr q)) (λ d q. k d (inr q))
      (λ x q d i. elim q [
        | inl e ↦ subst (λ (z : ℕ × Which). z.0 < d) (sym e) (less_from c d (r.0 d i))
        | inr j ↦ b x j d (inr i)
      ]) rest h,
)

-- The locks of a plan: the classes that it wants, those that are left, and those that it has. What it has is below all that is left, which gives K2 for every placement.
pub record Locks (wanted left : List ℕ) (ls : List (ℕ × Which)) : Type 0 where
  pub below : (x : ℕ × Which) → In x ls → (c : ℕ) → In c left → x.0 < c
  pub rising : IsRising nat_cmp left
  pub within : Within left wanted
  pub only : (x : ℕ × Which) → In x ls → In x.0 wanted
  pub each : (c : ℕ) → In c wanted → ((choice : Which) × In (c, choice) ls) ⊎ In c left

in_due : (spec : Spec) (e : ℕ) (left : List ℕ) (c : ℕ) → In c (due spec e left) → In c left × (c ≤ class_of spec e)
in_due spec e left c h = let q : In c left × (nat_le c (class_of spec e) ≡ true) = in_filter (λ c. nat_le c (class_of spec e)) c left h in (q.0, leb-true c (class_of spec e) q.1)

in_later : (spec : Spec) (e : ℕ) (left : List ℕ) (c : ℕ) → In c (later spec e left) → In c left × (class_of spec e < c)
in_later spec e left c h =
    let q : In c left × (not (nat_le c (class_of spec e)) ≡ true) = in_filter (λ c. not (nat_le c (class_of spec e))) c left h in
    (q.0, leb-false c (class_of spec e) (not-true (nat_le c (class_of spec e)) q.1))

locks_step : (spec : Spec) (e : ℕ) (choice : ℕ → Which) (wanted left : List ℕ) (ls : List (ℕ × Which)) → Locks wanted left ls
    → Locks wanted (later spec e left) (with_locks choice (due spec e left) ls)
locks_step spec e choice wanted left ls k = record {
  below = λ x h c i. let l : In c left × (class_of spec e < c) = in_later spec e left c i in elim (in_with_locks choice (due spec e left) ls x h) [
    | inl q ↦ k.below x q c l.0
    | inr q ↦ let d : In x.0 left × (x.0 ≤ class_of spec e) = in_due spec e left x.0 q.0 in
        let a : x.0 ≤ class_of spec e = d.1 in let b : class_of spec e < c = l.1 in omega arith
  ];
  rising = rising_filter nat_cmp (λ c. not (nat_le c (class_of spec e))) left k.rising;
  within = λ c i. k.within c (in_later spec e left c i).0;
  only = λ x h. elim (in_with_locks choice (due spec e left) ls x h) [ inl q ↦ k.only x q | inr q ↦ k.within x.0 (in_due spec e left x.0 q.0).0 ];
  each = λ c w. elim (k.each c w) [
    | inl q ↦ inl (q.0, with_locks_old choice (due spec e left) ls (c, q.0) q.1)
    | inr i ↦ elim (cases_Bool (nat_le c (class_of spec e))) [
      | inl t ↦ inl (choice c, with_locks_new choice (due spec e left) ls c (filter_in (λ c. nat_le c (class_of spec e)) c left i t))
      | inr f ↦ inr (filter_in (λ c. not (nat_le c (class_of spec e))) c left i (not_from_false (nat_le c (class_of spec e)) f))
    ]
  ];
}

-- what is left after a route is after the class of each of its edges
pub left_after_later : (spec : Spec) (es left : List ℕ) (c : ℕ) → In c (left_after spec left es) → In c left × ((e : ℕ) → In e es → class_of spec e < c)
left_after_later spec [] left c h = (h, λ e z. absurd z)
left_after_later spec (e ∷ es) left c h =
    let q : In c (later spec e left) × ((f : ℕ) → In f es → class_of spec f < c) = left_after_later spec es (later spec e left) c h in
    let k : In c left × (class_of spec e < c) = in_later spec e left c q.0 in
    (k.0, λ f i. elim i [ inl g ↦ subst (λ z. class_of spec z < c) (sym g) k.1 | inr j ↦ q.1 f j ])

-- ---- Reads

which_bound : (spec : Spec) (columns : List ℕ) (c : ℕ) → IsKeyBound spec c (which_where spec columns c) columns
which_bound spec columns c = go (is_within (class_at spec c).cols columns) refl
  where
    go : (b : Bool) → is_within (class_at spec c).cols columns ≡ b → IsKeyBound spec c (if b then which.Keyed else which.All) columns
    go true e = within_from_test (class_at spec c).cols columns e
    go false e = tt

mode_findable : (spec : Spec) (columns : List ℕ) (e : ℕ) → IsFindable (read_mode_where spec columns e) (edge_at spec e).key columns
mode_findable spec columns e = go (is_within (edge_at spec e).key columns) refl
  where
    go : (b : Bool) → is_within (edge_at spec e).key columns ≡ b → IsFindable (if b then Lookup else Scan) (edge_at spec e).key columns
    go true q = within_from_test (edge_at spec e).key columns q
    go false q = tt

may_read : (kind : OpKind) (p : Progress) → (GivesTuple kind → HasProbed p) → MayRead kind p
may_read (Query outs ranges) p f = tt
may_read Insert p f = f tt
may_read Remove p f = tt
may_read Update p f = f tt

-- a step of a good route may be read where its class is locked and covers it
pub read_fits : (spec : Spec) (op : Op) (columns visited reached : List ℕ) (ls : List (ℕ × Which)) (probe : Option (List ℕ)) (absent : Bool) (checked : List ℕ) (e : ℕ)
    → (GivesTuple op.kind → HasProbed (searching columns visited reached ls probe absent checked)) → IsStep spec reached visited e
    → (choice : Which) × In (class_of spec e, choice) ls × Covers spec (searching columns visited reached ls probe absent checked) (class_of spec e) choice
    → IsAcceptedAt spec op (searching columns visited reached ls probe absent checked) (Read e (read_mode_where spec columns e))
read_fits spec op columns visited reached ls probe absent checked e i s k = record {
  known = s.known;
  k1 = (refl, may_read op.kind (searching columns visited reached ls probe absent checked) i);
  k2 = tt;
  k3 = k;
  k4 = tt;
  k5 = (s.source, mode_findable spec columns e, s.lossless);
  k6 = tt;
  k7 = tt;
}

covers_unprobed : (spec : Spec) (columns visited reached : List ℕ) (ls : List (ℕ × Which)) (absent : Bool) (checked : List ℕ) (c : ℕ) (choice : Which)
    → Covers spec (searching columns visited reached ls None absent checked) c choice
covers_unprobed spec columns visited reached ls absent checked c which.Keyed = tt
covers_unprobed spec columns visited reached ls absent checked c which.All = tt

own_locked : (spec : Spec) (e : ℕ) (wanted left : List ℕ) (ls : List (ℕ × Which)) → In (class_of spec e) wanted → Locks wanted (later spec e left) ls → (choice : Which) × In (class_of spec e, choice) ls
own_locked spec e wanted left ls h k =
    elim (k.each (class_of spec e) h)
    [ inl q ↦ q | inr i ↦ absurd (let l : class_of spec e < class_of spec e = (in_later spec e left (class_of spec e) i).1 in omega arith) ]

more_within : (visited columns xs : List ℕ) → Within visited columns → Within (union visited xs) (union columns xs)
more_within visited columns xs w c h = elim (in_union visited xs c h) [ inl q ↦ union_left columns xs c (w c q) | inr q ↦ union_right columns xs c q ]

-- the Locks and Reads of a good route, of a query or a remove
pub locks_and_reads_fit : (spec : Spec) (op : Op) (mode : Mode) → HasLockMode op.kind mode → (need wanted : List ℕ) (es left columns visited reached : List ℕ) (ls : List (ℕ × Which)) → (GivesTuple op.kind → ⊥)
    → ((c : ℕ) → In c wanted → c < length spec.classes) → ((e : ℕ) → In e es → In (class_of spec e) wanted)
    → Locks wanted left ls → Within visited columns → IsGoodFrom spec need reached visited es → (rest : List Statement)
    → ((columns visited reached : List ℕ) (ls : List (ℕ × Which)) → Locks wanted (left_after spec left es) ls → Within need visited → Within visited columns
    → AreAcceptedFrom spec op (searching columns visited reached ls None false []) rest)
    → AreAcceptedFrom spec op (searching columns visited reached ls None false []) (locks_and_reads spec mode columns left es ++ rest)
locks_and_reads_fit spec op mode may need wanted [] left columns visited reached ls never n own k w g rest f = f columns visited reached ls k g w
locks_and_reads_fit spec op mode may need wanted (e ∷ es) left columns visited reached ls never n own k w g rest f =
    let choice : ℕ → Which = which_where spec columns in
    let more : List Statement = locks_and_reads spec mode (union columns (target_columns spec e)) (later spec e left) es in
    let now : List (ℕ × Which) = with_locks choice (due spec e left) ls in
    let k' : Locks wanted (later spec e left) now = locks_step spec e choice wanted left ls k in
    let locked : (choice : Which) × In (class_of spec e, choice) now = own_locked spec e wanted left now (own e (inl refl)) k' in
    subst (AreAcceptedFrom spec op (searching columns visited reached ls None false [])) (sym (append_assoc (locks mode choice (due spec e left)) (Read e (read_mode_where spec columns e) ∷ more) rest))
    (locks_fit spec op mode may choice (due spec e left) columns visited reached ls false []
    (rising_filter nat_cmp (λ c. nat_le c (class_of spec e)) left k.rising)
    (λ c h. n c (k.within c (in_due spec e left c h).0))
    (λ c h. which_bound spec columns c)
    (λ x h c i. k.below x h c (in_due spec e left c i).0)
    (Read e (read_mode_where spec columns e) ∷ (more ++ rest)) (
      read_fits spec op columns visited reached now None false [] e (λ i. absurd (never i)) g.0 (locked.0, locked.1, covers_unprobed spec columns visited reached now false [] (class_of spec e) locked.0),
      locks_and_reads_fit spec op mode may need wanted es (later spec e left) (union columns (target_columns spec e)) (union visited (target_columns spec e)) ((edge_at spec e).to ∷ reached) now never n
          (λ d h. own d (inr h)) k' (more_within visited columns (target_columns spec e) w) g.1 rest f,
    ))

-- ---- the end of a plan

in_reverse : (z : ℕ) (xs : List ℕ) → In z (reverse xs) → In z xs
in_reverse z [] h = h
in_reverse z (x ∷ xs) h = elim (in_append z (reverse xs) (x ∷ []) (subst (In z) (reverse-append (x ∷ []) xs) h)) [ inl q ↦ inr (in_reverse z xs q) | inr q ↦ elim q [ inl e ↦ inl e | inr y ↦ absurd y ] ]

reverse_in : (z : ℕ) (xs : List ℕ) → In z xs → In z (reverse xs)
reverse_in z [] h = h
reverse_in z (x ∷ xs) (inl e) = subst (In z) (sym (reverse-append (x ∷ []) xs)) (append_in_right z (reverse xs) (x ∷ []) (inl e))
reverse_in z (x ∷ xs) (inr q) = subst (In z) (sym (reverse-append (x ∷ []) xs)) (append_in_left z (reverse xs) (x ∷ []) (reverse_in z xs q))

distinct_append : (xs : List ℕ) (x : ℕ) → AreDistinct xs → (In x xs → ⊥) → AreDistinct (xs ++ (x ∷ []))
distinct_append [] x d n = ((λ z. z), tt)
distinct_append (y ∷ xs) x d n =
    ((λ h. elim (in_append y xs (x ∷ []) h) [ inl q ↦ d.0 q | inr q ↦ elim q [ inl e ↦ n (inl (sym e)) | inr z ↦ z ] ]), distinct_append xs x d.1 (λ h. n (inr h)))

distinct_reverse : (xs : List ℕ) → IsRising nat_cmp xs → AreDistinct (reverse xs)
distinct_reverse [] r = tt
distinct_reverse (x ∷ xs) r = subst AreDistinct (sym (reverse-append (x ∷ []) xs)) (distinct_append (reverse xs) x (distinct_reverse xs r.1)
    (λ h. let l : nat_cmp x x ≡ Less = r.0 x (in_reverse x xs h) in not_below_itself nat_cmp nat_order x x l l))

releases_fit : (spec : Spec) (op : Op) (cs : List ℕ) (p : Progress) → p.phase ≡ Phase.Committed → AreDistinct cs
    → ((c : ℕ) → In c cs → (c < length spec.classes) × IsLocked p c × (In c p.released → ⊥))
    → ((c : ℕ) → IsLocked p c → In c p.released ⊎ In c cs) → AreAcceptedFrom spec op p (map Release cs)
releases_fit spec op [] p e d own all = (e, λ c h. elim (all c h) [ inl q ↦ q | inr z ↦ absurd z ])
releases_fit spec op (c ∷ cs) p e d own all =
    let here : (c < length spec.classes) × IsLocked p c × (In c p.released → ⊥) = own c (inl refl) in (
      record { known = here.0; k1 = (e, here.1, here.2); k2 = tt; k3 = tt; k4 = tt; k5 = tt; k6 = tt; k7 = tt },
      releases_fit spec op cs (after spec p (Release c)) e d.1
          (λ b h. let q : (b < length spec.classes) × IsLocked p b × (In b p.released → ⊥) = own b (inr h) in
          (q.0, q.1, λ i. elim i [ inl f ↦ d.0 (subst (λ z. In z cs) f h) | inr j ↦ q.2 j ]))
          (λ b h. elim (all b h) [ inl q ↦ inl (inr q) | inr q ↦ elim q [ inl f ↦ inl (inl f) | inr j ↦ inr j ] ]),
    )

-- the last statement before the Commit, and the Releases of exactly the classes that are locked
pub ending_fits : (spec : Spec) (op : Op) (last : Statement) (classes : List ℕ) (p : Progress) → IsAcceptedAt spec op p last
    → (after spec p last).phase ≡ Phase.Decided → (after spec p last).released ≡ [] → IsRising nat_cmp classes
    → ((c : ℕ) → In c classes → (c < length spec.classes) × IsLocked (after spec p last) c) → ((c : ℕ) → IsLocked (after spec p last) c → In c classes)
    → AreAcceptedFrom spec op p (ending last classes)
ending_fits spec op last classes p k e none r own all = (
  k,
  (
    record { known = tt; k1 = e; k2 = tt; k3 = tt; k4 = tt; k5 = tt; k6 = tt; k7 = tt },
    releases_fit spec op (reverse classes) (after spec (after spec p last) Commit) refl (distinct_reverse classes r)
        (λ c h. let q : (c < length spec.classes) × IsLocked (after spec p last) c = own c (in_reverse c classes h) in
        (q.0, q.1, λ i. subst (In c) none i))
        (λ c h. inr (reverse_in c classes (all c h))),
  ),
)

-- ---- wanted classes

pub edge_in : (spec : Spec) (e : ℕ) → e < length spec.edges → In e (all_edges spec)
edge_in spec e l = in_range_below (length spec.edges) e l

pub in_edge : (spec : Spec) (e : ℕ) → In e (all_edges spec) → e < length spec.edges
in_edge spec e h = let q : (0 ≤ e) × (e < 0 + length spec.edges) = in_range_bounds 0 (length spec.edges) e h in omega (arith, q.1)

pub class_in : (spec : Spec) (es : List ℕ) (e : ℕ) → In e es → In (class_of spec e) (classes_of_edges spec es)
class_in spec es e h = gather_in nat_cmp nat_order (class_of spec e) (map (class_of spec) es) (map_in (class_of spec) e es h)

pub in_class : (spec : Spec) (es : List ℕ) (c : ℕ) → In c (classes_of_edges spec es) → (e : ℕ) × In e es × (c ≡ class_of spec e)
in_class spec es c h = in_map (class_of spec) c es (in_gather nat_cmp nat_order c (map (class_of spec) es) h)

pub classes_known : (spec : Spec) → IsInRange spec → IsPlaced spec → (es : List ℕ) → ((e : ℕ) → In e es → e < length spec.edges)
    → (c : ℕ) → In c (classes_of_edges spec es) → c < length spec.classes
classes_known spec i pl es n c h =
    let q : (e : ℕ) × In e es × (c ≡ class_of spec e) = in_class spec es c h in
    subst (λ z. z < length spec.classes) (sym q.2) (class_of_known spec q.0 i (pl.p1 q.0 (n q.0 q.1)))

pub no_locks : (wanted : List ℕ) → IsRising nat_cmp wanted → Locks wanted wanted []
no_locks wanted r = record { below = λ x z. absurd z; rising = r; within = λ c h. h; only = λ x z. absurd z; each = λ c h. inr h }

pub rising_classes : (spec : Spec) (es : List ℕ) → IsRising nat_cmp (classes_of_edges spec es)
rising_classes spec es = rising_gather nat_cmp nat_order (map (class_of spec) es)

-- the columns of each class that has an edge are the specification's
pub class_columns_known : (spec : Spec) → IsInRange spec → IsAdequate spec → IsPlaced spec → (c : ℕ) → In c (written_classes spec) → Within (class_at spec c).cols (all_columns spec)
class_columns_known spec i a pl c h =
    let q : (e : ℕ) × In e (all_edges spec) × (c ≡ class_of spec e) = in_class spec (all_edges spec) c h in
    subst (λ z. Within (class_at spec z).cols (all_columns spec)) (sym q.2)
    (λ d k. target_within spec i q.0 (in_edge spec q.0 q.1) d (striping_in_target spec a pl q.0 (in_edge spec q.0 q.1) d k))
