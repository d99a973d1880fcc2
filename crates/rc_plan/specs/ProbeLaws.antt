-- Laws of searches behind a Probe, in an insert and in an update.
use Rattle.std.specs.Prelude.{◌≡◌, ℕ, ◌<◌, ◌≤◌, true, false, List, [], ◌∷◌, ◌++◌, ◌⊎◌, None, Some, map, length}
use Rattle.rc_plan.specs.Imports.{nat_cmp, In, IsRising, gather, same_rising, rising_filter, has, Within, inter, inter_in, rising_range, Pairs, cols_of, project, pair_cmp, merge, Agree, pair_order, in_project, project_in, project_less, rising_cols, in_merge, merge_right, rising_merge, one_pair, inter-same, IsRelation, rising_of, Op, OpKind, Query, Insert, Remove, Update, Mode, Spec, IsAdequate, all_columns, GivesTuple, target_within, IsSeen, IsReached, IsInRange, class_at, class_of, IsPlaced, physical_stripe, row_in, AllHeld, target_columns, StripeLock}
use Rattle.std.proofs.Common.{inl, inr, refl, sym, ap, subst, ◌∙◌, arith}
use Rattle.std.proofs.lemmas.Bool.{false≢true, true≢false}
use Rattle.rc_plan.specs.declared.statement.Statement.{Statement}
use Rattle.rc_plan.specs.declared.statement.Statement.TheVariants.{Lock, Probe, Read, CheckAbsent, CheckFound, CheckDep, Apply, Emit, Commit, Release}
use Rattle.rc_plan.specs.declared.statement.Which.{Which}
use Rattle.rc_plan.specs.declared.statement.Which.TheVariants as which
use Rattle.rc_plan.specs.Evaluation.{some_left, stripes_locked, named_by}
use Rattle.rc_plan.specs.PlanRules.{Phase, Progress, after, IsLocked, IsAtRisk, IsQuery, ChecksAreDone, Covers, KeepsFrom}
use Rattle.rc_plan.specs.RunLaws.{cols_of-project}
use Rattle.rc_plan.specs.StripeLocks.{stripe_lock_cmp, stripes_of}
use Rattle.rc_plan.specs.StripeLocksLaws.{named_before, named_now, physical_stripe-agreeing, physical_stripe-in_band, striping_in_target}
use Rattle.rc_plan.specs.Search.{IsSearching}
use Rattle.rc_plan.specs.NamedStripes.{HasNamed}

-- all checks that are needed have come at an Apply
done_checks : (spec : Spec) (op : Op) (kind : OpKind) (p : Progress) → GivesTuple kind → ChecksAreDone spec op kind p
    → (dep : ℕ) → 0 < dep → dep ≤ length spec.deps → IsAtRisk spec op dep → In dep p.checked
done_checks spec op (Query outs ranges) p g d = absurd g
done_checks spec op Insert p g d = d.1
done_checks spec op Remove p g d = absurd g
done_checks spec op Update p g d = d.1

no_answer : (kind : OpKind) → GivesTuple kind → IsQuery kind → ⊥
no_answer (Query outs ranges) g q = g
no_answer Insert g q = q
no_answer Remove g q = q
no_answer Update g q = q

-- a dependency that has to be checked, and is less than one that was, was checked too
pub checked_before : (spec : Spec) (op : Op) → GivesTuple op.kind → (plan : List Statement) (p : Progress) → KeepsFrom spec op p plan
    → p.phase ≡ Phase.Searching
    → (dep later : ℕ) → In later p.checked → dep < later → 0 < dep → dep ≤ length spec.deps → IsAtRisk spec op dep → In dep p.checked
checked_before spec op gives [] p keeps e dep m h l z n w = absurd (let f : Phase.Searching ≡ Phase.Committed = sym e ∙ keeps.0 in cc)
checked_before spec op gives (Lock c choice mode ∷ plan) p keeps e dep m h l z n w = checked_before spec op gives plan (after spec p (Lock c choice mode)) keeps.1 e dep m h l z n w
checked_before spec op gives (Probe cols ∷ plan) p keeps e dep m h l z n w = checked_before spec op gives plan (after spec p (Probe cols)) keeps.1 e dep m h l z n w
checked_before spec op gives (Read g mode ∷ plan) p keeps e dep m h l z n w = checked_before spec op gives plan (after spec p (Read g mode)) keeps.1 e dep m h l z n w
checked_before spec op gives (CheckAbsent ∷ plan) p keeps e dep m h l z n w = checked_before spec op gives plan (after spec p CheckAbsent) keeps.1 e dep m h l z n w
checked_before spec op gives (CheckFound ∷ plan) p keeps e dep m h l z n w = checked_before spec op gives plan (after spec p CheckFound) keeps.1 e dep m h l z n w
checked_before spec op gives (CheckDep d ∷ plan) p keeps e dep m h l z n w =
    elim (checked_before spec op gives plan (after spec p (CheckDep d)) keeps.1 e dep m (inr h) l z n w) [
      | inl q ↦ absurd (let g : m < d = keeps.0.k7.1 m h in omega arith)
      | inr q ↦ q
    ]
checked_before spec op gives (Apply ∷ plan) p keeps e dep m h l z n w = done_checks spec op op.kind p gives keeps.0.k7 dep z n w
checked_before spec op gives (Emit ∷ plan) p keeps e dep m h l z n w = absurd (no_answer op.kind gives keeps.0.k1.1)
checked_before spec op gives (Commit ∷ plan) p keeps e dep m h l z n w = absurd (let f : Phase.Searching ≡ Phase.Decided = sym e ∙ keeps.0.k1 in cc)
checked_before spec op gives (Release c ∷ plan) p keeps e dep m h l z n w = absurd (let f : Phase.Searching ≡ Phase.Committed = sym e ∙ keeps.0.k1.0 in cc)

pub no_column : (xs ys : List ℕ) → (xs ≡ [] → ⊥) → Within xs ys → ys ≡ [] → ⊥
no_column [] ys n w e = n refl
no_column (x ∷ xs) ys n w e = subst (In x) e (w x (inl refl))

pub one_left : (bs : List Pairs) → some_left bs ≡ true → (b : Pairs) × In b bs
one_left [] e = absurd (false≢true e)
one_left (b ∷ bs) e = (b, inl refl)

pub none_left : (bs : List Pairs) → some_left bs ≡ false → (b : Pairs) → In b bs → ⊥
none_left [] e b h = h
none_left (x ∷ bs) e b h = true≢false e

pub named_tuple : (spec : Spec) (t : Pairs) (stripes : List ℕ) (c : ℕ) (choice : Which) → HasNamed spec t stripes c choice → In (physical_stripe spec c t) stripes
named_tuple spec t stripes c which.Keyed h = h
named_tuple spec t stripes c which.All h = h t

pub more_named : (spec : Spec) (t : Pairs) (ns ms : List StripeLock) (c : ℕ) (choice : Which) → HasNamed spec t (stripes_of ns) c choice
    → HasNamed spec t (stripes_of (gather stripe_lock_cmp (ns ++ ms))) c choice
more_named spec t ns ms c which.Keyed h = named_before (physical_stripe spec c t) ns ms h
more_named spec t ns ms c which.All h = λ u. named_before (physical_stripe spec c u) ns ms (h u)

-- a Lock by the tuple alone names its stripe
pub tuple_named : (spec : Spec) → IsPlaced spec → (t : Pairs) (bs : List Pairs) (ns : List StripeLock) (mode : Mode) (c : ℕ)
    → c < length spec.classes → (choice : Which) → bs ≡ t ∷ []
    → HasNamed spec t (stripes_of (gather stripe_lock_cmp (ns ++ named_by spec c choice mode bs))) c choice
tuple_named spec placed t bs ns mode c l which.Keyed e =
    named_now (physical_stripe spec c t) ns mode (map (physical_stripe spec c) bs) (subst (λ z. In (physical_stripe spec c t) (map (physical_stripe spec c) z)) (sym e) (inl refl))
tuple_named spec placed t bs ns mode c l which.All e = λ u. named_now (physical_stripe spec c u) ns mode (stripes_locked spec c which.All bs) (physical_stripe-in_band spec placed c u l)

-- after a Probe the search is for the tuple's projection, on stripes that were named for the tuple
pub probe_searching : (spec : Spec) (r : List Pairs) (t : Pairs) → IsRising nat_cmp (cols_of t) → cols_of t ≡ all_columns spec
    → (p : Progress) (ns : List StripeLock) (xs : List ℕ) → p.phase ≡ Phase.Searching
    → Within xs (all_columns spec) → ((x : ℕ × Which) → In x p.locked → HasNamed spec t (stripes_of ns) x.0 x.1) → IsSearching spec r (project xs t) (after spec p (Probe xs)) (project xs t ∷ []) ns
probe_searching spec r t rises over p ns xs phase known locks = record {
  phase = phase;
  within = λ c z. absurd z;
  reached = inl (refl, refl);
  rising = ((λ y q. absurd q), tt);
  columns = λ b m. elim m [ inl e ↦ λ c n. subst (λ z. In c (cols_of z)) (sym e) (cols_of-project xs t c n (subst (In c) (sym over) (known c n))) | inr z ↦ absurd z ];
  nodes = λ v z. absurd z;
  guards = λ x m cover b u n v g. elim n [ inl e ↦ guard x.0 x.1 (locks x m) cover u v (subst (λ z. Agree z u) e g) | inr z ↦ absurd z ];
}
  where
    guard : (c : ℕ) (choice : Which) → HasNamed spec t (stripes_of ns) c choice → Covers spec (after spec p (Probe xs)) c choice → (u : Pairs)
        → Within (class_at spec c).cols (cols_of u) → Agree (project xs t) u
        → In (physical_stripe spec c u) (stripes_of ns)
    guard c which.Keyed n cover u v g =
        let in_t : Within (class_at spec c).cols (cols_of t) = λ d m. subst (In d) (sym over) (known d (cover d m)) in
        let in_p : Within (class_at spec c).cols (cols_of (project xs t)) = λ d m. cols_of-project xs t d (cover d m) (in_t d m) in
        let e : physical_stripe spec c t ≡ physical_stripe spec c (project xs t) = physical_stripe-agreeing spec c t (project xs t) in_t in_p
        (λ x y z w q. one_pair t rises x y z (in_project xs y t w).0 q) in
        subst (λ z. In z (stripes_of ns)) (e ∙ physical_stripe-agreeing spec c (project xs t) u in_p v g) n
    guard c which.All n cover u v g = n u

-- before the first Probe the one binding is the insert's tuple t; then the search is for t's projection s on the Probe's columns
abbrev pub IsProbing : Pairs → Progress → Pairs → List Pairs → Type 0
IsProbing t p s bs = ((p.probe ≡ None) × (s ≡ t) × (bs ≡ t ∷ [])) ⊎ ((xs : List ℕ) × (p.probe ≡ Some xs) × (s ≡ project xs t))

module _ (spec : Spec) (r : List Pairs) (i : IsRelation (all_columns spec) r) (t : Pairs) (over : cols_of t ≡ all_columns spec) where
  pub columns_rise : IsRising nat_cmp (all_columns spec)
  columns_rise = rising_range 0 (length spec.columns)

  pub t_rises : IsRising nat_cmp (cols_of t)
  t_rises = subst (IsRising nat_cmp) (sym over) columns_rise

  pub up : IsRising pair_cmp t
  up = rising_cols t t_rises

  -- ---- what a search behind a Probe finds

  -- a tuple of the relation agrees with t on the probed columns exactly where it is found
  pub found_agrees : (xs visited : List ℕ) (u : Pairs) → In u r → Within xs visited → Agree (project xs t) (project visited u) → project xs t ≡ project xs u
  found_agrees xs visited u m w f =
      project_less xs (inter xs visited) t u (λ c n. inter_in xs visited c n (w c n)) (inter-same (all_columns spec) xs visited t u columns_rise over (i.each u m).over f)

  pub agreeing_found : (xs visited : List ℕ) (u : Pairs) → In u r → project xs t ≡ project xs u → Agree (project xs t) (project visited u)
  agreeing_found xs visited u m e p q x y g =
      one_pair u (subst (IsRising nat_cmp) (sym (i.each u m).over) columns_rise) p q (in_project xs p u (subst (In p) e x)).0 (in_project visited q u y).0 g

  pub whole_merge : (xs visited : List ℕ) (u : Pairs) → In u r → Within xs visited → project xs t ≡ project xs u
      → merge (project xs t) (project visited u) ≡ project visited u
  whole_merge xs visited u m w e =
      same_rising pair_cmp pair_order (merge (project xs t) (project visited u)) (project visited u) (rising_merge (project xs t) (project visited u))
      (rising_filter pair_cmp (λ (p : ℕ × ℕ). has visited p.0) u (rising_of (all_columns spec) r columns_rise i u m))
      (λ p n. elim (in_merge (project xs t) (project visited u) p n) [
        | inl x ↦ let q : In p u × In p.0 xs = in_project xs p u (subst (In p) e x) in project_in visited p u q.0 (w p.0 q.1)
        | inr x ↦ x
      ])
      (λ p n. merge_right (project xs t) (project visited u) p n)

  pub found_one : (xs visited : List ℕ) (bs : List Pairs) → IsSeen r (project xs t) visited bs → Within xs visited → (b : Pairs) → In b bs
      → (u : Pairs) × In u r × (project xs t ≡ project xs u) × (b ≡ project visited u)
  found_one xs visited bs seen w b m =
      let q : (u : Pairs) × In u r × Agree (project xs t) (project visited u) × (b ≡ merge (project xs t) (project visited u)) = seen.only b m in
      let e : project xs t ≡ project xs q.0 = found_agrees xs visited q.0 q.1 w q.2 in
      (q.0, q.1, e, q.3 ∙ whole_merge xs visited q.0 q.1 w e)

  pub one_found : (xs visited : List ℕ) (bs : List Pairs) → IsSeen r (project xs t) visited bs → Within xs visited → (u : Pairs) → In u r
      → project xs t ≡ project xs u → In (project visited u) bs
  one_found xs visited bs seen w u m e = subst (λ z. In z bs) (whole_merge xs visited u m w e) (seen.each u m (agreeing_found xs visited u m e))

  pub up_at : (p : Progress) (s : Pairs) (bs : List Pairs) → IsProbing t p s bs → IsRising pair_cmp s
  up_at p s bs (inl e) = subst (IsRising pair_cmp) (sym e.1) up
  up_at p s bs (inr e) = subst (IsRising pair_cmp) (sym e.2) (rising_filter pair_cmp (λ (q : ℕ × ℕ). has e.0 q.0) t up)

  -- at a check something was read since the Probe
  pub seen_at : (p : Progress) (s : Pairs) (bs : List Pairs) (ns : List StripeLock) → IsSearching spec r s p bs ns → IsProbing t p s bs → (xs : List ℕ)
      → p.probe ≡ Some xs → (needs : List ℕ) → (needs ≡ [] → ⊥) → Within needs p.visited
      → IsSeen r (project xs t) p.visited bs
  seen_at p s bs ns f probing xs y needs n w = go probing f.reached
    where
      same_probe : (a b : List ℕ) → Some a ≡ Some b → a ≡ b
      same_probe a b e = cc

      go : IsProbing t p s bs → IsReached r s p.visited bs → IsSeen r (project xs t) p.visited bs
      go (inl e) q = absurd (let g : None ≡ Some xs = sym e.0 ∙ y in cc)
      go (inr e) (inl q) = absurd (no_column needs p.visited n w q.0)
      go (inr e) (inr q) = subst (λ z. IsSeen r z p.visited bs) (e.2 ∙ ap (λ ys. project ys t) (same_probe e.0 xs (sym e.1 ∙ y))) q

  -- all rows of t fall on named stripes
  pub tuple_is_named : IsInRange spec → IsAdequate spec → IsPlaced spec → (p : Progress) (ns : List StripeLock)
      → ((x : ℕ × Which) → In x p.locked → HasNamed spec t (stripes_of ns) x.0 x.1)
      → ((e : ℕ) → e < length spec.edges → IsLocked p (class_of spec e)) → AllHeld spec (stripes_of ns) t
  tuple_is_named range ok placed p ns locks k4 e l =
      let q : (choice : Which) × In (class_of spec e, choice) p.locked = k4 e l in
      let n : In (physical_stripe spec (class_of spec e) t) (stripes_of ns) = named_tuple spec t (stripes_of ns) (class_of spec e) q.0 (locks (class_of spec e, q.0) q.1) in
      let in_to : Within (class_at spec (class_of spec e)).cols (target_columns spec e) = striping_in_target spec ok placed e l in
      let in_t : Within (class_at spec (class_of spec e)).cols (cols_of t) = λ c m. subst (In c) (sym over) (target_within spec range e l c (in_to c m)) in
      let in_row : Within (class_at spec (class_of spec e)).cols (cols_of (row_in spec t e)) = λ c m. cols_of-project (target_columns spec e) t c (in_to c m) (in_t c m) in
      let same : physical_stripe spec (class_of spec e) t ≡ physical_stripe spec (class_of spec e) (row_in spec t e) = physical_stripe-agreeing spec (class_of spec e) t (row_in spec t e) in_t in_row
      (λ x y b d g. one_pair t t_rises x y b (in_project (target_columns spec e) y t d).0 g) in
      subst (λ z. In z (stripes_of ns)) same n
