-- A remove whose plan locks once the edge of its path is read.
use Rattle.std.specs.Prelude.{◌≡◌, ℕ, zero, suc, ◌+◌, ◌<◌, ◌≤◌, false, true, List, [], ◌∷◌, ◌++◌, None, Option, drop, filter, get_or, length, map, take}
use Rattle.rc_machine.proofs.Imports.{list_any, nat_cmp, eqb-true, false≢true, append_assoc, append-nil, drop_more, take_more, Within, union, union_left, union_right, in_list_any, list_any_in, In, gather, in_append, Pairs, cols_of, matches, Call, Reply, Remove, Mode, Spec, IsSealed, Fits, GivesTuple, all_columns, join, bound, edge_at, target_columns, EdgeRow, tuples_of_edge, class_at, op_at, physical_stripe, AreOfOneRelation, AreOfRelation, HeldStripe, AreLate, IsLate, is_lock, is_read_of, late_at, IsPlanOf, stripes_locked, IsInsert, IsKeyBound, IsQuery, IsUpdate, Progress, ReadMode, Statement, Lock, Probe, Read, CheckAbsent, CheckFound, CheckDep, Apply, Emit, Commit, Release, Which, IsBehind, CanRemove, HasRemoved, AreLocked, HasReplied, rows_now, IsAt}
use Rattle.std.proofs.Common.{inl, inr, refl, sym, ap, subst, ◌∙◌, arith}
use Rattle.rc_machine.proofs.ArriveLemmas.{ComesToApply, arrives}
use Rattle.rc_machine.proofs.ConditionLemmas.{found_args, visited_match}
use Rattle.rc_machine.proofs.GoLemmas.{applied_replies, can_apply}
use Rattle.rc_machine.proofs.ReadStepLemmas.{read_progress, read_step}
use Rattle.rc_machine.proofs.StepLemmas.{lock_progress, lock_step}

-- what one of the first statements is, or the one behind them
read_or_last : (e : ℕ) (done : List Statement) (x : Statement) → list_any (is_read_of e) (done ++ x ∷ []) ≡ true → (is_read_of e x ≡ true → ⊥) → list_any (is_read_of e) done ≡ true
read_or_last e done x any not =
    let q : (y : Statement) × In y (done ++ x ∷ []) × (is_read_of e y ≡ true) = in_list_any (is_read_of e) (done ++ x ∷ []) any in
    elim (in_append q.0 done (x ∷ []) q.1) [
      | inl m ↦ list_any_in (is_read_of e) done q.0 m q.2
      | inr (inl is) ↦ absurd (not (subst (λ y. is_read_of e y ≡ true) is q.2))
      | inr (inr z) ↦ absurd z
    ]

-- no stripe is taken where no binding tells one
none_locked : (held : List HeldStripe) (mode : Mode) → AreLocked held held [] mode (λ stripe. None)
none_locked held mode = record {
  more = [];
  beside = sym (append-nil held);
  stripes_are = refl;
  modes = λ h m. absurd m;
  unchanged = λ h m. absurd m;
  told = λ h m. absurd m;
}

module _ (spec : Spec) (sealed : IsSealed spec) (plan : List Statement) (call : Call) (e : ℕ) (whole : bound spec (edge_at spec e).to ≡ all_columns spec) (kind : (op_at spec call.op).kind ≡ Remove) where
  pub stands : (rest : List Statement) (held : List HeldStripe) → IsAt spec plan call rest (call.args ∷ []) None held → IsBehind spec plan call e [] rest held
  stands rest held at = record { bindings = call.args ∷ []; run = at; visited = λ none. absurd (false≢true none) }

  module _ (done rest : List Statement) (held : List HeldStripe) where
    -- where a Read more is of the edge, it visits all columns
    read_visited : (k : ℕ) (mode : ReadMode) (behind : IsBehind spec plan call e done (Read k mode ∷ rest) held) → list_any (is_read_of e) (done ++ Read k mode ∷ []) ≡ true
        → Within (all_columns spec) (union behind.run.progress.visited (target_columns spec k))
    read_visited k mode behind any =
        let q : (y : Statement) × In y (done ++ Read k mode ∷ []) × (is_read_of e y ≡ true) = in_list_any (is_read_of e) (done ++ Read k mode ∷ []) any in
        elim (in_append q.0 done (Read k mode ∷ []) q.1) [
          | inl m ↦ λ c n. union_left behind.run.progress.visited (target_columns spec k) c (behind.visited (list_any_in (is_read_of e) done q.0 m q.2) c n)
          | inr (inl is) ↦ λ c n.
              let same : k ≡ e = eqb-true k e (subst (λ y. is_read_of e y ≡ true) is q.2) in
              union_right behind.run.progress.visited (target_columns spec k) c (subst (λ j. In c (target_columns spec j)) (sym same) (subst (In c) (sym whole) n))
          | inr (inr z) ↦ absurd z
        ]

    pub behind_read : (k : ℕ) (mode : ReadMode) → IsBehind spec plan call e done (Read k mode ∷ rest) held → AreOfOneRelation spec held → IsBehind spec plan call e (done ++ Read k mode ∷ []) rest held
    behind_read k mode behind one =
        let joined : List Pairs = join behind.bindings (tuples_of_edge k (rows_now held)) in
        let at : IsAt spec plan call (Read k mode ∷ rest) behind.bindings None held = behind.run in
        record {
          bindings = joined;
          run = read_step spec sealed plan call k mode rest behind.bindings None held at joined refl one.0 one.1;
          visited = λ any. subst (λ (p : Progress). Within (all_columns spec) p.visited) (sym (read_progress spec sealed plan call k mode rest behind.bindings None held at joined refl one.0 one.1))
              (read_visited k mode behind any);
        }

    module _ (c : ℕ) (choice : Which) (mode : Mode) (behind : IsBehind spec plan call e done (Lock c choice mode ∷ rest) held) (late : IsLate e done (Lock c choice mode)) where
      -- a Lock's bindings are the tuples that match
      pub lock_bindings : (r : List Pairs) → AreOfRelation spec held r → behind.bindings ≡ filter (matches call.args) r
      lock_bindings r a = visited_match spec sealed plan call (Lock c choice mode ∷ rest) behind.bindings None held behind.run r a kind (behind.visited late.1)

      -- so a Lock more takes their stripes
      pub behind_lock : (found : List Pairs) → behind.bindings ≡ found → (new : List HeldStripe) (offered : ℕ → Option (List EdgeRow)) → AreLocked held new (gather nat_cmp (map (physical_stripe spec c) found)) mode offered
          → IsBehind spec plan call e (done ++ Lock c choice mode ∷ []) rest new
      behind_lock found is new offered locked =
          let taken : AreLocked held new (gather nat_cmp (stripes_locked spec c choice behind.bindings)) mode offered =
          subst (λ z. AreLocked held new (gather nat_cmp (stripes_locked spec c z behind.bindings)) mode offered) (sym late.0) (subst (λ z. AreLocked held new (gather nat_cmp (map (physical_stripe spec c) z)) mode offered) (sym is) locked) in
          record {
            bindings = behind.bindings;
            run = lock_step spec sealed plan call c choice mode rest behind.bindings None held behind.run new offered taken;
            visited = λ any. subst (λ (p : Progress). Within (all_columns spec) p.visited) (sym (lock_progress spec sealed plan call c choice mode rest behind.bindings None held behind.run new offered taken))
                (behind.visited (read_or_last e done (Lock c choice mode) any (λ no. false≢true no)));
          }

      -- the tuple that is found has the columns that choose its stripe
      pub found_striped : (t : Pairs) → behind.bindings ≡ t ∷ [] → (r : List Pairs) → AreOfRelation spec held r → Within (class_at spec c).cols (cols_of t)
      found_striped t is r a k m =
          let keyed : Within (class_at spec c).cols behind.run.progress.columns = subst (λ z. IsKeyBound spec c z behind.run.progress.columns) late.0 behind.run.keeps.0.k3 in
          (behind.run.on r a).search.columns t (subst (In t) (sym is) (inl refl)) k (keyed k m)

  -- ---- no tuple matches

  module _ (fits : Fits spec call) (held : List HeldStripe) (one : AreOfOneRelation spec held) where
    no_query : IsQuery (op_at spec call.op).kind → ⊥
    no_query q = subst IsQuery kind q

    -- behind the last Lock
    pub arrives_behind : (done rest : List Statement) → list_any is_lock rest ≡ false → IsBehind spec plan call e done rest held → ComesToApply spec sealed plan call fits held one
    arrives_behind done rest others behind =
        arrives spec sealed plan call fits held one no_query (λ i. absurd (subst IsInsert kind i)) (λ u. absurd (subst IsUpdate kind u)) rest others (λ gives. absurd (subst GivesTuple kind gives)) behind.bindings None behind.run

    -- each of these is late behind those
    abbrev AreLateBehind : List Statement → List Statement → Type 0
    AreLateBehind done xs = (n : ℕ) → n < length xs → IsLate e (done ++ take n xs) (get_or xs n Commit)

    late_behind : (late : ℕ) (done : List Statement) (x : Statement) (rest : List Statement) → AreLateBehind done (x ∷ take late rest) → AreLateBehind (done ++ x ∷ []) (take late rest)
    late_behind late done x rest are n l =
        subst (λ (before : List Statement). IsLate e before (get_or (take late rest) n Commit)) (sym (append_assoc done (x ∷ []) (take n (take late rest)))) (are (suc n) (omega (arith, l)))

    -- where none matches the late Locks take nothing
    pub arrives_absent : filter (matches call.args) one.0 ≡ [] → (late : ℕ) (done rest : List Statement) → AreLateBehind done (take late rest)
        → list_any is_lock (drop late rest) ≡ false → IsBehind spec plan call e done rest held → ComesToApply spec sealed plan call fits held one
    arrives_absent none zero done rest are others behind = arrives_behind done rest others behind
    arrives_absent none (suc late) done [] are others behind = arrives_behind done [] others behind
    arrives_absent none (suc late) done (Lock c choice mode ∷ rest) are others behind =
        let is : IsLate e done (Lock c choice mode) = subst (λ (before : List Statement). IsLate e before (Lock c choice mode)) (append-nil done) (are 0 (omega arith)) in
        arrives_absent none late (done ++ Lock c choice mode ∷ []) rest (late_behind late done (Lock c choice mode) rest are) others
        (behind_lock done rest held c choice mode behind is [] (lock_bindings done rest held c choice mode behind is one.0 one.1 ∙ none) held (λ stripe. None) (none_locked held mode))
    arrives_absent none (suc late) done (Read k mode ∷ rest) are others behind =
        arrives_absent none late (done ++ Read k mode ∷ []) rest (late_behind late done (Read k mode) rest are) others (behind_read done rest held k mode behind one)
    arrives_absent none (suc late) done (Probe cols ∷ rest) are others behind = absurd (are 0 (omega arith))
    arrives_absent none (suc late) done (CheckAbsent ∷ rest) are others behind = absurd (are 0 (omega arith))
    arrives_absent none (suc late) done (CheckFound ∷ rest) are others behind = absurd (are 0 (omega arith))
    arrives_absent none (suc late) done (CheckDep dep ∷ rest) are others behind = absurd (are 0 (omega arith))
    arrives_absent none (suc late) done (Apply ∷ rest) are others behind = absurd (are 0 (omega arith))
    arrives_absent none (suc late) done (Emit ∷ rest) are others behind = absurd (are 0 (omega arith))
    arrives_absent none (suc late) done (Commit ∷ rest) are others behind = absurd (are 0 (omega arith))
    arrives_absent none (suc late) done (Release c ∷ rest) are others behind = absurd (are 0 (omega arith))

-- ---- a statement more

module _ (spec : Spec) (plan : List Statement) (call : Call) (e late : ℕ) (rest : List Statement) (within : late ≤ length rest) (are : AreLate e (take late rest)) (at : ℕ) (l : at < late) (d x : Statement) (is : get_or rest at d ≡ x) where
  -- the next statement is late
  pub is_late : IsLate e (take at rest) x
  is_late = subst (IsLate e (take at rest)) is (late_at e late rest within are at d l)

  -- and the first of those that are left
  pub comes_next : (held : List HeldStripe) → IsBehind spec plan call e (take at rest) (drop at rest) held → IsBehind spec plan call e (take at rest) (x ∷ drop (at + 1) rest) held
  comes_next held behind =
      subst (λ (z : List Statement). IsBehind spec plan call e (take at rest) z held) (drop_more rest at d (omega (arith, l, within)) ∙ ap (λ (y : Statement). y ∷ drop (at + 1) rest) is) behind

  pub came : (held : List HeldStripe) → IsBehind spec plan call e (take at rest ++ x ∷ []) (drop (at + 1) rest) held → IsBehind spec plan call e (take (at + 1) rest) (drop (at + 1) rest) held
  came held behind =
      subst (λ (z : List Statement). IsBehind spec plan call e z (drop (at + 1) rest) held) (ap (λ (y : Statement). take at rest ++ y ∷ []) (sym is) ∙ sym (take_more rest at d (omega (arith, l, within)))) behind

-- ---- what Apply does of what is found

module _ (spec : Spec) (sealed : IsSealed spec) (plan : List Statement) (call : Call) (fits : Fits spec call) (planned : IsPlanOf spec call.op plan) (kind : (op_at spec call.op).kind ≡ Remove)
    (held : List HeldStripe) (one : AreOfOneRelation spec held) (arrived : ComesToApply spec sealed plan call fits held one) (found : List Pairs) (is : filter (matches call.args) one.0 ≡ found) where
  same_found : arrived.1 ≡ found
  same_found = found_args spec sealed plan call fits arrived.0 arrived.1 arrived.2 held arrived.3 one.0 one.1 kind ∙ is

  pub can_remove : (u : Pairs) → found ≡ u ∷ [] → CanRemove spec u held
  can_remove u e = can_apply spec sealed plan call fits planned arrived.0 arrived.1 arrived.2 held one arrived.3 Remove kind u (subst (In u) (sym (same_found ∙ e)) (inl refl))

  pub remove_replies : (new : List HeldStripe) (answer : Reply) → HasRemoved spec found held new answer → AreOfOneRelation spec new → HasReplied spec plan call new answer
  remove_replies new answer removed one' =
      applied_replies spec sealed plan call fits planned arrived.0 held arrived.1 arrived.2 arrived.3 one Remove kind new answer (subst (λ bs. HasRemoved spec bs held new answer) (sym same_found) removed) one'
