-- Inserts, removes and updates that are answered from the rows of one edge.
use Rattle.std.specs.Prelude.{◌≡◌, ℕ, zero, suc, ◌+◌, ◌-◌, ◌≤◌, ◌++◌, Bool, true, false, List, [], ◌∷◌, None, Option, Some, Result, Ok, Err, IfErr, IsErr, IsErrAnd, drop, filter, length, map, take}
use Rattle.rc_machine.proofs.Imports.{list_any, nat_cmp, or_parts, length-drop, Within, in_range_below, rising_range, union_left, union_right, project_all, IsRelation, agree_from_test, list_any_in, test_from_agree, In, IsRising, gather, filter_in, gather_in, in_filter, in_gather, nat_order, rising_filter, rising_gather, same_rising, IsTuple, Pairs, agree_on, cols_of, matches, project, tuple_cmp, cols-project, in_project, one_pair, project-project, project_less, rising_cols, rising_cols-project, same_from_test, test_from_same, tuple_order, Call, Reply, Absent, Inserted, Present, Updated, Edge, Op, Insert, Remove, Update, Spec, all_columns, value_columns, fits_at_op, raised, bound, edge_at, source_and_key, EdgeRow, edge_numbers, fragment_of, class_at, class_of, op_at, plain, plain_by, insert-present, plain-known, update-absent, physical_stripe, IsThereWith, shape_of, FragmentRows, AreOfOneRelation, AreOfRelation, GoesOn, HeldStripe, Holding, IsLent, held_of, goes_on_again, values_at, Held, EdgeShape, AreLate, Asks, InsertsRow, MayBeLate, RemovesRow, UpdatesRow, is_dep_check, is_lock, none_late, SpecWithPlans, plan_at, IsInsert, IsQuery, IsUpdate, pattern_columns, physical_stripe-agreeing, IsOld, AccessPath, ReadMode, Lookup, Scan, Statement, HasAnsweredByPath, HasLockedPath, IsBehind, IsOnlyMatch, IsRowFound, IsTupleFound, leaving, CanInsert, CanReplace, HasReplaced, replaced_in, IsSameButLent, all_changed, AreAsTaken, AreTakenAsOffered, HasRefusedCall, HasReplied, HasRunCall, told_answer, told_answer_fault, CountsIfHeld, AreStripesOf, Stop, ClassStripe}
use Rattle.std.proofs.Common.{inl, inr, refl, sym, ap, subst, ◌∙◌, arith}
use Rattle.rc_machine.specs.declared.stop.Stop.TheVariants as stop
use Rattle.rc_machine.proofs.AccessLemmas.{match_of, no_member, row_of}
use Rattle.rc_machine.proofs.AccessRunLemmas.{args_are, args_striped, lent_over, lent_rows, path_replies, pattern_in_args}
use Rattle.rc_machine.proofs.ArriveLemmas.{ComesToApply, arrives, old_kept}
use Rattle.rc_machine.proofs.EdgeRowLemmas.{inside, same_all}
use Rattle.rc_machine.proofs.GoLemmas.{applied_replies, can_apply, refused_since}
use Rattle.rc_machine.proofs.LateLemmas.{arrives_absent, remove_replies, stands}
use Rattle.rc_machine.proofs.LentLemmas.{counted_lent, lent_goes_on}
use Rattle.rc_machine.proofs.LockLemmas.{counted_stop_since, memory_alone}
use Rattle.rc_machine.proofs.StripeLemmas.{args_below, stripes_of_more}

-- ---- what a path of a change asks

inserts_row : (spec : Spec) (op : Op) (plan : List Statement) (e : Edge) (mode : ReadMode) → Asks Insert mode spec op plan e → InsertsRow spec op plan e
inserts_row spec op plan e Lookup asks = asks
inserts_row spec op plan e Scan asks = absurd asks

removes_row : (spec : Spec) (op : Op) (plan : List Statement) (e : Edge) (mode : ReadMode) → Asks Remove mode spec op plan e → RemovesRow spec op e
removes_row spec op plan e Lookup asks = asks
removes_row spec op plan e Scan asks = absurd asks

updates_row : (spec : Spec) (op : Op) (plan : List Statement) (e : Edge) (mode : ReadMode) → Asks Update mode spec op plan e → UpdatesRow spec op plan e
updates_row spec op plan e Lookup asks = asks
updates_row spec op plan e Scan asks = absurd asks

-- what none of a list passes none of its last elements passes
none_dropped : (f : Statement → Bool) (n : ℕ) (plan : List Statement) → list_any f plan ≡ false → list_any f (drop n plan) ≡ false
none_dropped f zero plan e = e
none_dropped f (suc n) [] e = e
none_dropped f (suc n) (x ∷ plan) e = none_dropped f n plan (or_parts (f x) (list_any f plan) e).1

source_and_key_rise : (spec : Spec) (e : Edge) → IsRising nat_cmp (source_and_key spec e)
source_and_key_rise spec e = rising_gather nat_cmp nat_order (bound spec e.from ++ e.key)

module _ (compiled : SpecWithPlans) (call : Call) (p : AccessPath) (stripe : ℕ) (s : Holding) (locked : HasLockedPath compiled call p stripe s) (one : AreOfOneRelation compiled.spec (held_of s)) where
  abbrev spec : Spec
  spec = compiled.spec

  abbrev plan : List Statement
  plan = plan_at compiled.plans call.op

  abbrev edge : Edge
  edge = edge_at spec p.edge

  abbrev shape : EdgeShape
  shape = shape_of spec p.edge

  abbrev fall : ℕ
  fall = physical_stripe spec (class_of spec p.edge) call.args

  args : IsTuple call.args
  args = (fits_at_op spec call locked.fits).tuple

  abbrev pattern : List ℕ
  pattern = pattern_columns (op_at spec call.op)

  -- an operation that is no remove has no Lock behind its first ones
  pub others : ((op_at spec call.op).kind ≡ Remove → ⊥) → list_any is_lock (drop p.locks plan) ≡ false
  others no_remove = none_late (op_at spec call.op).kind no_remove p.edge p.late (drop p.locks plan) locked.path.locks.late locked.path.locks.others

  -- what is found, as a list
  abbrev found_list : Option Pairs → List Pairs
  found_list None = []
  found_list (Some t) = t ∷ []

  -- where the edge's target has all columns, a tuple is its row
  itself : bound spec edge.to ≡ all_columns spec → (r : List Pairs) → IsRelation (all_columns spec) r → (t : Pairs) → In t r → project shape.target t ≡ t
  itself whole r i t m =
      let its : cols_of t ≡ all_columns spec = (i.each t m).over in
      project_all shape.target t (rising_cols t (subst (IsRising nat_cmp) (sym its) (rising_range 0 (length spec.columns)))) (λ c n. subst (In c) (its ∙ sym whole) n)

  -- ---- a pattern that is source and key of the edge

  module _ (given : pattern ≡ source_and_key spec edge) where
    pub pattern_given : Within (source_and_key spec edge) (cols_of call.args)
    pattern_given c m = pattern_in_args spec locked.sealed call locked.fits c (subst (In c) (sym given) m)

    -- what is sought: the values at the pattern
    abbrev sought : Pairs
    sought = project (source_and_key spec edge) call.args

    sought_tuple : IsTuple sought
    sought_tuple = record {
      rising = rising_cols-project (source_and_key spec edge) call.args args.rising;
      columns = λ q m. args.columns q (in_project (source_and_key spec edge) q call.args m).0;
      values = λ q m. args.values q (in_project (source_and_key spec edge) q call.args m).0;
    }

    sought_over : cols_of sought ≡ source_and_key spec edge
    sought_over = cols-project (cols_of call.args) (source_and_key spec edge) call.args args.rising (source_and_key_rise spec edge) pattern_given refl

    sought_striped : Within (class_at spec (class_of spec p.edge)).cols (cols_of sought)
    sought_striped c m = subst (In c) (sym sought_over) (subst (In c) given (locked.path.locks.striped c m))

    same_fall : fall ≡ physical_stripe spec (class_of spec p.edge) sought
    same_fall =
        physical_stripe-agreeing spec (class_of spec p.edge) call.args sought (args_striped spec locked.sealed call locked.fits plan p locked.path) sought_striped
        (λ x y m n e. one_pair call.args args.rising x y m (in_project (source_and_key spec edge) y call.args n).0 e)

    same_values : (ys : List ℕ) → Within ys (source_and_key spec edge) → values_at ys sought ≡ values_at ys call.args
    same_values ys w = ap (map (λ (q : ℕ × ℕ). q.1)) (project-project ys (source_and_key spec edge) call.args w)

    same_source : values_at shape.source sought ≡ values_at shape.source call.args
    same_source = same_values shape.source (union_left shape.source shape.key)

    same_key : values_at shape.key sought ≡ values_at shape.key call.args
    same_key = same_values shape.key (union_right shape.source shape.key)

    module _ (r : List Pairs) (a : AreOfRelation spec (held_of s) r) (rows : List EdgeRow) (rows_are : rows ≡ fragment_of spec r fall) where
      at_sought : rows ≡ fragment_of spec r (physical_stripe spec (class_of spec p.edge) sought)
      at_sought = rows_are ∙ ap (fragment_of spec r) same_fall

      -- the row of a tuple that has the values at the pattern has those of source and key
      pub row_there : (u : Pairs) → In u r → project pattern call.args ≡ project pattern u → IsThereWith shape rows p.edge (values_at shape.source call.args) (values_at shape.key call.args) (project shape.target u)
      row_there u m e =
          let match : matches sought u ≡ true =
          test_from_same (project (cols_of sought) u) sought (ap (λ cols. project cols u) (sought_over ∙ sym given) ∙ sym e ∙ ap (λ cols. project cols call.args) given) in
          let there : IsThereWith shape rows p.edge (values_at shape.source sought) (values_at shape.key sought) (project shape.target u) =
          row_of spec locked.sealed p.edge locked.path.locks.edge sought sought_tuple sought_striped r a.relation rows at_sought sought_over u m match in
          record { there = there.there; source_is = there.source_is ∙ same_source; key_is = there.key_is ∙ same_key }

      -- and a row that has these is of a tuple that has those
      pub tuple_there : ((w : EdgeRow) → In w rows → cols_of w.1 ≡ bound spec (edge_at spec w.0).to) → (u : Pairs) → IsThereWith shape rows p.edge (values_at shape.source call.args) (values_at shape.key call.args) u
          → (t : Pairs) × In t r × (project pattern call.args ≡ project pattern t) × (u ≡ project shape.target t)
      tuple_there over u found =
          let there : IsThereWith shape rows p.edge (values_at shape.source sought) (values_at shape.key sought) u =
          record { there = found.there; source_is = found.source_is ∙ sym same_source; key_is = found.key_is ∙ sym same_key } in
          let columns : cols_of u ≡ shape.target = over (p.edge, u, found.there.0) found.there.1 in
          let t : (t : Pairs) × In t r × (matches sought t ≡ true) × (u ≡ project shape.target t) =
          match_of spec locked.sealed p.edge locked.path.locks.edge sought sought_tuple sought_striped r a.relation rows at_sought
          (inside spec locked.sealed p.edge locked.path.locks.edge sought sought_tuple sought_over) u there.there
          (same_all spec locked.sealed p.edge locked.path.locks.edge sought sought_tuple sought_over rows u there columns) in (
            t.0,
            t.1,
            ap (λ cols. project cols call.args) given ∙ sym (same_from_test (project (cols_of sought) t.0) sought t.2) ∙ ap (λ cols. project cols t.0) (sought_over ∙ sym given),
            t.3,
          )

      -- where no row has them, no tuple has the values at the pattern
      pub nothing_found : IsRowFound shape rows p.edge call.args None → (u : Pairs) → In u r → project pattern call.args ≡ project pattern u → ⊥
      nothing_found nowhere u m e = nowhere (project shape.target u) (row_there u m e)

  -- values at the pattern are those at the operation's list of its columns
  listed_agree : (t u : Pairs) → project pattern t ≡ project pattern u → agree_on (op_at spec call.op).pattern t u ≡ true
  listed_agree t u e =
      test_from_agree (op_at spec call.op).pattern t u (project_less (op_at spec call.op).pattern pattern t u (λ c m. gather_in nat_cmp nat_order c (op_at spec call.op).pattern m) e)

  agree_listed : (t u : Pairs) → agree_on (op_at spec call.op).pattern t u ≡ true → project pattern t ≡ project pattern u
  agree_listed t u e =
      project_less pattern (op_at spec call.op).pattern t u (λ c m. in_gather nat_cmp nat_order c (op_at spec call.op).pattern m) (agree_from_test (op_at spec call.op).pattern t u e)

  -- ---- an insert

  module _ (kind : (op_at spec call.op).kind ≡ Insert) where
    insert_no_remove : (op_at spec call.op).kind ≡ Remove → ⊥
    insert_no_remove is = let same : Insert ≡ Remove = sym kind ∙ is in cc

    insert_row : InsertsRow spec (op_at spec call.op) plan edge
    insert_row = inserts_row spec (op_at spec call.op) plan edge p.mode (subst (λ k. Asks k p.mode spec (op_at spec call.op) plan edge) kind locked.path.asks)

    -- a row is that of a tuple that has the values at the pattern
    present : (r : List Pairs) (a : AreOfRelation spec (held_of s) r) (rows : List EdgeRow) → rows ≡ fragment_of spec r fall → (values : List ℕ) → IsRowFound shape rows p.edge call.args (Some values)
        → ((w : EdgeRow) → In w rows → cols_of w.1 ≡ bound spec (edge_at spec w.0).to) → plain spec r call ≡ leaving Present r
    present r a rows rows_are values look over =
        let t = tuple_there insert_row.given r a rows rows_are over look.0 look.1 in
        plain-known spec r call (op_at spec call.op) (fits_at_op spec call locked.fits).known
        ∙ ap (λ k. plain_by spec.most_rows k (op_at spec call.op).pattern spec.deps call.args call.ranges r) kind
        ∙ insert-present spec.most_rows (op_at spec call.op).pattern spec.deps call.args call.ranges r
        (list_any_in (agree_on (op_at spec call.op).pattern call.args) r t.0 t.1 (listed_agree call.args t.0 t.2))

    module _ (fragment : FragmentRows) (lent : IsLent s stripe fragment) where
      -- a row found is a tuple with the values at the pattern
      pub present_replies : (values : List ℕ) → IsRowFound shape fragment.now p.edge call.args (Some values) → HasReplied spec plan call (held_of s) Present
      present_replies values look =
          path_replies spec locked.sealed call locked.fits plan locked.planned (drop p.locks plan) (others insert_no_remove) (held_of s) locked.run one Present
          (λ r a. present r a fragment.now (lent_rows compiled call p stripe s locked fragment lent r a) values look (lent_over compiled call p stripe s locked fragment lent one))

      module _ (nowhere : IsRowFound shape fragment.now p.edge call.args None) where
        insert_arrives : ComesToApply spec locked.sealed plan call locked.fits (held_of s) one
        insert_arrives =
            arrives spec locked.sealed plan call locked.fits (held_of s) one (λ q. subst IsQuery kind q)
            (λ i. nothing_found insert_row.given one.0 one.1 fragment.now (lent_rows compiled call p stripe s locked fragment lent one.0 one.1) nowhere) (λ u. absurd (subst IsUpdate kind u))
            (drop p.locks plan) (others insert_no_remove) (λ gives. none_dropped is_dep_check p.locks plan insert_row.unchecked) (call.args ∷ []) None locked.run

        -- where none is found the tuple can be added
        pub can_insert : CanInsert spec call.args (held_of s)
        can_insert = can_apply spec locked.sealed plan call locked.fits locked.planned insert_arrives.0 insert_arrives.1 insert_arrives.2 (held_of s) one insert_arrives.3 Insert kind

        pub insert_replies : (new : List HeldStripe) → new ≡ all_changed raised spec call.args (edge_numbers spec) (held_of s) → AreOfOneRelation spec new → HasReplied spec plan call new Inserted
        insert_replies new is one' = applied_replies spec locked.sealed plan call locked.fits locked.planned insert_arrives.0 (held_of s) insert_arrives.1 insert_arrives.2 insert_arrives.3 one Insert kind new Inserted (refl, is) one'

  -- ---- a remove

  module _ (kind : (op_at spec call.op).kind ≡ Remove) where
    remove_row : RemovesRow spec (op_at spec call.op) edge
    remove_row = removes_row spec (op_at spec call.op) plan edge p.mode (subst (λ k. Asks k p.mode spec (op_at spec call.op) plan edge) kind locked.path.asks)

    pub remove_given : cols_of call.args ≡ source_and_key spec edge
    remove_given = args_are spec locked.sealed call locked.fits ∙ ap (λ k. gather nat_cmp (value_columns spec (op_at spec call.op).pattern k)) kind ∙ remove_row.given

    pub remove_whole : bound spec edge.to ≡ all_columns spec
    remove_whole = remove_row.whole

    -- the late statements of its plan
    pub late_within : p.late ≤ length (drop p.locks plan)
    late_within =
        let long : length (drop p.locks plan) ≡ length plan - p.locks = length-drop p.locks plan in
        let inside : p.locks + p.late ≤ length plan = locked.path.locks.within in
        omega (arith, long, inside)

    pub are_late : AreLate p.edge (take p.late (drop p.locks plan))
    are_late = subst (λ k. MayBeLate k p.edge (take p.late (drop p.locks plan))) kind locked.path.locks.late

    striped : Within (class_at spec (class_of spec p.edge)).cols (cols_of call.args)
    striped = args_striped spec locked.sealed call locked.fits plan p locked.path

    module _ (fragment : FragmentRows) (lent : IsLent s stripe fragment) where
      module _ (r : List Pairs) (a : AreOfRelation spec (held_of s) r) where
        rows_are : fragment.now ≡ fragment_of spec r fall
        rows_are = lent_rows compiled call p stripe s locked fragment lent r a

        there : (t : Pairs) → In t (filter (matches call.args) r) → IsThereWith shape fragment.now p.edge (values_at shape.source call.args) (values_at shape.key call.args) (project shape.target t)
        there t m =
            let q : In t r × (matches call.args t ≡ true) = in_filter (matches call.args) t r m in
            row_of spec locked.sealed p.edge locked.path.locks.edge call.args args striped r a.relation fragment.now rows_are remove_given t q.0 q.1

        -- what is found is the tuple that matches the arguments
        matching : (u : Pairs) → IsTupleFound shape fragment.now p.edge call.args (Some u) → In u (filter (matches call.args) r)
        matching u found =
            let columns : cols_of u ≡ shape.target = lent_over compiled call p stripe s locked fragment lent one (p.edge, u, found.0.there.0) found.0.there.1 in
            let t : (t : Pairs) × In t r × (matches call.args t ≡ true) × (u ≡ project shape.target t) =
            match_of spec locked.sealed p.edge locked.path.locks.edge call.args args striped r a.relation fragment.now rows_are
            (inside spec locked.sealed p.edge locked.path.locks.edge call.args args remove_given) u found.0.there
            (same_all spec locked.sealed p.edge locked.path.locks.edge call.args args remove_given fragment.now u found.0 columns) in
            subst (λ z. In z (filter (matches call.args) r)) (sym (t.3 ∙ itself remove_whole r a.relation t.0 t.1)) (filter_in (matches call.args) t.0 r t.1 t.2)

        found_matches : (found : Option Pairs) → IsTupleFound shape fragment.now p.edge call.args found → filter (matches call.args) r ≡ found_list found
        found_matches None nowhere = no_member (filter (matches call.args) r) (λ t m. nowhere (project shape.target t) (there t m))
        found_matches (Some u) found =
            same_rising tuple_cmp tuple_order (filter (matches call.args) r) (u ∷ []) (rising_filter tuple_cmp (matches call.args) r a.relation.rising) ((λ y m. absurd m), tt)
            (λ t m. inl (sym (itself remove_whole r a.relation t (in_filter (matches call.args) t r m).0) ∙ found.1 (project shape.target t) (there t m)))
            (λ t m. elim m [ inl e ↦ subst (λ z. In z (filter (matches call.args) r)) (sym e) (matching u found) | inr z ↦ absurd z ])

      pub only_match : (u : Pairs) → IsTupleFound shape fragment.now p.edge call.args (Some u) → IsOnlyMatch spec (held_of s) call.args u
      only_match u found r a = found_matches r a (Some u) found

      -- where none is found, the late Locks take nothing
      pub absent_replies : IsTupleFound shape fragment.now p.edge call.args None → HasReplied spec plan call (held_of s) Absent
      absent_replies nowhere =
          let none : filter (matches call.args) one.0 ≡ [] = found_matches one.0 one.1 None nowhere in
          let stand : IsBehind spec plan call p.edge [] (drop p.locks plan) (held_of s) = stands spec locked.sealed plan call p.edge remove_whole kind (drop p.locks plan) (held_of s) locked.run in
          let arrived : ComesToApply spec locked.sealed plan call locked.fits (held_of s) one =
          arrives_absent spec locked.sealed plan call p.edge remove_whole kind locked.fits (held_of s) one none p.late [] (drop p.locks plan) are_late locked.path.locks.others stand in
          remove_replies spec locked.sealed plan call locked.fits locked.planned kind (held_of s) one arrived [] none (held_of s) Absent (refl, refl) one

      -- the stripes on which the arguments fall are the tuple's
      pub stripes_of_removed : (stripes : List ClassStripe) → AreStripesOf spec call.args stripes → (u : Pairs) → IsTupleFound shape fragment.now p.edge call.args (Some u) → AreStripesOf spec u stripes
      stripes_of_removed stripes are u found =
          let q : In u one.0 × (matches call.args u ≡ true) = in_filter (matches call.args) u one.0 (matching one.0 one.1 u found) in
          let over : cols_of u ≡ all_columns spec = (one.1.relation.each u q.0).over in
          stripes_of_more spec call.args u stripes
          (λ c m. subst (In c) (sym over) (in_range_below (length spec.columns) c (args_below spec locked.sealed call locked.fits c m)))
          (λ x y m n e. one_pair u (subst (IsRising nat_cmp) (sym over) (rising_range 0 (length spec.columns))) x y
          (in_project (cols_of call.args) x u (subst (In x) (sym (same_from_test (project (cols_of call.args) u) call.args q.1)) m)).0 n e) are

  -- ---- an update

  module _ (kind : (op_at spec call.op).kind ≡ Update) where
    update_no_remove : (op_at spec call.op).kind ≡ Remove → ⊥
    update_no_remove is = let same : Update ≡ Remove = sym kind ∙ is in cc

    update_row : UpdatesRow spec (op_at spec call.op) plan edge
    update_row = updates_row spec (op_at spec call.op) plan edge p.mode (subst (λ k. Asks k p.mode spec (op_at spec call.op) plan edge) kind locked.path.asks)

    pub update_given : Within (source_and_key spec edge) (cols_of call.args)
    update_given = pattern_given update_row.given

    pub update_whole : bound spec edge.to ≡ all_columns spec
    update_whole = update_row.whole

    module _ (fragment : FragmentRows) (lent : IsLent s stripe fragment) where
      -- what is found is what has the values at the pattern
      agreeing : (r : List Pairs) → AreOfRelation spec (held_of s) r → (found : Option Pairs) → IsTupleFound shape fragment.now p.edge call.args found → filter (agree_on (op_at spec call.op).pattern call.args) r ≡ found_list found
      agreeing r a found is = go found is
        where
          rows_are : fragment.now ≡ fragment_of spec r fall
          rows_are = lent_rows compiled call p stripe s locked fragment lent r a

          there : (t : Pairs) → In t (filter (agree_on (op_at spec call.op).pattern call.args) r) → IsThereWith shape fragment.now p.edge (values_at shape.source call.args) (values_at shape.key call.args) (project shape.target t)
          there t m =
              let q = in_filter (agree_on (op_at spec call.op).pattern call.args) t r m in
              row_there update_row.given r a fragment.now rows_are t q.0 (agree_listed call.args t q.1)

          agrees : (u : Pairs) → IsThereWith shape fragment.now p.edge (values_at shape.source call.args) (values_at shape.key call.args) u → In u (filter (agree_on (op_at spec call.op).pattern call.args) r)
          agrees u has =
              let t = tuple_there update_row.given r a fragment.now rows_are (lent_over compiled call p stripe s locked fragment lent one) u has in
              subst (λ z. In z (filter (agree_on (op_at spec call.op).pattern call.args) r)) (sym (t.3 ∙ itself update_whole r a.relation t.0 t.1)) (filter_in (agree_on (op_at spec call.op).pattern call.args) t.0 r t.1 (listed_agree call.args t.0 t.2))

          go : (found : Option Pairs) → IsTupleFound shape fragment.now p.edge call.args found → filter (agree_on (op_at spec call.op).pattern call.args) r ≡ found_list found
          go None nowhere = no_member (filter (agree_on (op_at spec call.op).pattern call.args) r) (λ t m. nowhere (project shape.target t) (there t m))
          go (Some u) only =
              same_rising tuple_cmp tuple_order (filter (agree_on (op_at spec call.op).pattern call.args) r) (u ∷ []) (rising_filter tuple_cmp (agree_on (op_at spec call.op).pattern call.args) r a.relation.rising) ((λ y m. absurd m), tt)
              (λ t m. inl (sym (itself update_whole r a.relation t (in_filter (agree_on (op_at spec call.op).pattern call.args) t r m).0) ∙ only.1 (project shape.target t) (there t m)))
              (λ t m. elim m [ inl e ↦ subst (λ z. In z (filter (agree_on (op_at spec call.op).pattern call.args) r)) (sym e) (agrees u only.0) | inr z ↦ absurd z ])

      -- where no row is found no tuple is replaced
      pub unfound_replies : IsTupleFound shape fragment.now p.edge call.args None → HasReplied spec plan call (held_of s) Absent
      unfound_replies nowhere =
          path_replies spec locked.sealed call locked.fits plan locked.planned (drop p.locks plan) (others update_no_remove) (held_of s) locked.run one Absent
          (λ r a. plain-known spec r call (op_at spec call.op) (fits_at_op spec call locked.fits).known
          ∙ ap (λ k. plain_by spec.most_rows k (op_at spec call.op).pattern spec.deps call.args call.ranges r) kind
          ∙ update-absent spec.most_rows (op_at spec call.op).pattern spec.deps call.args call.ranges r (agreeing r a None nowhere))

      module _ (old : Pairs) (found : IsTupleFound shape fragment.now p.edge call.args (Some old)) where
        is_old : IsOld one.0 call.args (op_at spec call.op).pattern old
        is_old = ([], agreeing one.0 one.1 (Some old) found)

        update_arrives : ComesToApply spec locked.sealed plan call locked.fits (held_of s) one
        update_arrives =
            arrives spec locked.sealed plan call locked.fits (held_of s) one (λ q. subst IsQuery kind q) (λ i. absurd (subst IsInsert kind i)) (λ u. (old, is_old))
            (drop p.locks plan) (others update_no_remove) (λ gives. none_dropped is_dep_check p.locks plan update_row.unchecked) (call.args ∷ []) None locked.run

        -- and the plan's statements keep this tuple
        keeps_old : update_arrives.2 ≡ Some old
        keeps_old = old_kept spec locked.sealed plan call locked.fits (held_of s) one update_arrives.0 update_arrives.1 update_arrives.2 update_arrives.3 kind old is_old

        pub can_update : CanReplace spec old call.args (held_of s)
        can_update = can_apply spec locked.sealed plan call locked.fits locked.planned update_arrives.0 update_arrives.1 update_arrives.2 (held_of s) one update_arrives.3 Update kind old keeps_old

        pub update_replies : (new : List HeldStripe) → new ≡ replaced_in spec old call.args (held_of s) → AreOfOneRelation spec new → HasReplied spec plan call new (Updated old)
        update_replies new is one' =
            applied_replies spec locked.sealed plan call locked.fits locked.planned update_arrives.0 (held_of s) update_arrives.1 update_arrives.2 update_arrives.3 one Update kind new (Updated old)
            (subst (λ z. HasReplaced spec call.args z (held_of s) new (Updated old)) (sym keeps_old) (refl, is)) one'

-- ---- what was taken as offered stays so, also where memory was wanted

-- the call is answered
abbrev pub done : Result (Unit {0}) Stop
done = Ok tt

pub unanswered : {T E : Type 0} (compiled : SpecWithPlans) (call : Call) (old new : Holding) (result : Result T E) (reply : Reply) → IsErr result → AreTakenAsOffered new → IsSameButLent old new
    → HasAnsweredByPath compiled call old new (told_answer result reply)
unanswered compiled call old new (Ok x) reply is told lent = absurd cc
unanswered compiled call old new (Err e) reply is told lent = record { answered = tt; taken = told; lent = lent }

-- ---- what is answered in place is one way to run a call, and so is one behind stripes that were taken

pub run_in_place : {T : Type 0} (compiled : SpecWithPlans) (call : Call) (old new : Holding) (result : Result T Stop) (reply : Reply) → IfErr result (λ s. s ≡ stop.Memory)
    → HasAnsweredByPath compiled call old new (told_answer result reply) → HasRunCall compiled call old new (told_answer result reply)
run_in_place compiled call old new result reply memory by =
    let alone = told_answer_fault (λ s. s ≡ stop.Memory) result reply memory in record {
      answered = by.answered;
      taken = by.taken;
      stopped = λ h e. absurd (memory_alone (told_answer result reply) h alone e);
      refused = λ h e. absurd (memory_alone (told_answer result reply) h alone e);
      counted = counted_lent (told_answer result reply) old new by.lent;
      goes_on = lent_goes_on old new by.lent;
    }

pub run_since : (compiled : SpecWithPlans) (call : Call) (first old new : Holding) (result : Result Reply Stop) → GoesOn first old → old.refusals ≡ first.refusals → HasRunCall compiled call old new result → HasRunCall compiled call first new result
run_since compiled call first old new result on same by = record {
  answered = by.answered;
  taken = by.taken;
  stopped = by.stopped;
  refused = λ h e. refused_since compiled.spec (plan_at compiled.plans call.op) call first old new h on (by.refused h e);
  counted = counted_stop_since result first old new same by.counted;
  goes_on = goes_on_again first old new on by.goes_on;
}

-- a stop that is handed on
pub run_stopped : {T : Type 0} (compiled : SpecWithPlans) (call : Call) (old new : Holding) (result : Result T Stop) (reply : Reply) (x : Stop) → IsErr result → IsErrAnd result (λ y. y ≡ x) → AreTakenAsOffered new
    → ((h : Held) → x ≡ stop.Held h → AreAsTaken (held_of new)) → ((h : Held) → x ≡ stop.Held h → HasRefusedCall compiled call old new h) → CountsIfHeld x old new → GoesOn old new
    → HasRunCall compiled call old new (told_answer result reply)
run_stopped compiled call old new (Ok answer) reply x is gives told stopped refused counted on = absurd cc
run_stopped compiled call old new (Err e) reply x is gives told stopped refused counted on = record {
  answered = tt;
  taken = told;
  stopped = λ h q. stopped h (sym gives ∙ same_stop e (stop.Held h) q);
  refused = λ h q. refused h (sym gives ∙ same_stop e (stop.Held h) q);
  counted = subst (λ z. CountsIfHeld z old new) (sym gives) counted;
  goes_on = on;
}
  where
    same_stop : (a b : Stop) → ◌≡◌ {A = Result Reply Stop} (Err a) (Err b) → a ≡ b
    same_stop a b q = cc

pub if_stopped : {T : Type 0} (result : Result T Stop) (x : Stop) → IsErrAnd result (λ y. y ≡ x) → IfErr result (λ y. y ≡ x)
if_stopped (Ok answer) x gives = tt
if_stopped (Err e) x gives = gives
