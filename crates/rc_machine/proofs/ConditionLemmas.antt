-- What Apply asks of the held stripes holds before it.
use Rattle.std.specs.Prelude.{◌≡◌, ℕ, ◌<◌, ◌^◌, Bool, true, false, List, [], ◌∷◌, ◌⊎◌, None, Option, Some, cond, filter, length}
use Rattle.rc_machine.proofs.Imports.{list_any, Ordering, Less, Equal, Greater, match_ordering, nat_cmp, get_or_from_slice_get, In, IsRising, put, in_filter, in_map, in_put, map_in, put_new, put_old, rising_put, Within, in_range_below, rising_range, IsTuple, Pairs, agree_on, cols_of, matches, project, tuple_cmp, in_project, one_pair, tuple_order, IsOver, IsRelation, Satisfies, satisfies_fewer, Call, Conflict, Inserted, Present, Dep, Singleton, Op, OpKind, Insert, Remove, Exclusive, Spec, IsSealed, Range, Fits, GivesTuple, all_columns, how_many, target_within, row_in, AllHeld, AreCountedRows, AreCountedRows-rows_on, bound, edge_at, target_columns, EdgeRow, fragment_of, row_stripe, all_rows_in, fragments_in, in_all_rows, in_fragments, IsReached, class_at, class_of, no_op, op_at, Outcome, first_broken_dependency, inserted_unless, plain, plain_by, plain-known, plain_satisfies, EdgeShape, HasShape, IsThere, edge_table, shape_of, AreKeyed, AreOfRelation, HeldStripe, readable_law, Statement, Apply, Which, all_seen_match, tuple_is_named, FindsTuples, IsQuery, KeepsAll, covered_without_probe, cols_of-project, AreIn, striping_in_target, AreAddable, AreAllCounted, AreAllThere, AreExclusive, stripe_in, locks_of, stripes_held, IsAt, IsOn, number_has_shape}
use Rattle.std.proofs.Common.{inl, inr, refl, sym, ap, subst, ◌∙◌, arith}
use Rattle.rc_machine.proofs.CheckStepLemmas.{whole_tuple}
use Rattle.rc_machine.proofs.ReadStepLemmas.{good_stripes}
use Rattle.rc_machine.proofs.RunLemmas.{stripes_named}

-- ---- stripes held for a change

-- rows that fall on held stripes fall on stripes held for a change
pub exclusive_from : (spec : Spec) (t : Pairs) (held : List HeldStripe) → AllHeld spec (stripes_held held) t → AreIn Exclusive (locks_of held) → AreExclusive spec t held
exclusive_from spec t held named modes e l =
    let q : (h : HeldStripe) × In h held × (stripe_in spec t e ≡ h.stripe) = in_map (λ (h : HeldStripe). h.stripe) (stripe_in spec t e) held (named e l) in
    (q.0, q.1, sym q.2, modes (q.0.stripe, q.0.mode) (map_in (λ (h : HeldStripe). (h.stripe, h.mode)) q.0 held q.1))

-- ---- two tuples of one relation

small_two : (x y : Pairs) → length (put tuple_cmp x (y ∷ [])) < 2 ^ 63
small_two x y = go (tuple_cmp x y)
  where
    go : (o : Ordering) → length (match_ordering o (x ∷ (y ∷ [])) (y ∷ []) (y ∷ (x ∷ []))) < 2 ^ 63
    go Less = omega arith
    go Equal = omega arith
    go Greater = omega arith

module _ (spec : Spec) (sealed : IsSealed spec) (r : List Pairs) (i : IsRelation (all_columns spec) r) (t : Pairs) (over : cols_of t ≡ all_columns spec) (tuple : IsTuple t) (sat : Satisfies (put tuple_cmp t r) spec.deps)
    (e : ℕ) (l : e < length spec.edges) (u : Pairs) (m : In u r) where
  in_two : (x : Pairs) → In x (put tuple_cmp t (u ∷ [])) → (x ≡ t) ⊎ (x ≡ u)
  in_two x n = elim (in_put tuple_cmp tuple_order x t (u ∷ []) n) [ inl q ↦ inl q | inr (inl q) ↦ inr q | inr (inr z) ↦ absurd z ]

  of_two : (p q : ℕ) (pair : List HeldStripe)
      → pair ≡ record { stripe = p; mode = Exclusive; now = fragment_of spec (put tuple_cmp t (u ∷ [])) p; taken = fragment_of spec (put tuple_cmp t (u ∷ [])) p }
      ∷ (record { stripe = q; mode = Exclusive; now = fragment_of spec (put tuple_cmp t (u ∷ [])) q; taken = fragment_of spec (put tuple_cmp t (u ∷ [])) q } ∷ [])
      → AreOfRelation spec pair (put tuple_cmp t (u ∷ []))
  of_two p q pair is = record {
    relation = record {
      rising = rising_put tuple_cmp tuple_order t (u ∷ []) ((λ y z. absurd z), tt);
      each = λ x n. elim (in_two x n) [
        | inl k ↦ subst (λ z. IsOver (all_columns spec) z) (sym k) (record { over = over; fits = tuple.values })
        | inr k ↦ subst (λ z. IsOver (all_columns spec) z) (sym k) (i.each u m)
      ];
    };
    satisfies = satisfies_fewer (put tuple_cmp t r) (put tuple_cmp t (u ∷ [])) spec.deps
        (λ x n. elim (in_two x n) [
          | inl k ↦ subst (λ z. In z (put tuple_cmp t r)) (sym k) (put_new tuple_cmp tuple_order t r)
          | inr k ↦ subst (λ z. In z (put tuple_cmp t r)) (sym k) (put_old tuple_cmp tuple_order u t r m)
        ]) sat;
    few = small_two t u;
    rows = λ h n. elim (subst (In h) is n) [
      | inl k ↦ subst (λ (z : HeldStripe). z.taken ≡ fragment_of spec (put tuple_cmp t (u ∷ [])) z.stripe) (sym k) refl
      | inr (inl k) ↦ subst (λ (z : HeldStripe). z.taken ≡ fragment_of spec (put tuple_cmp t (u ∷ [])) z.stripe) (sym k) refl
      | inr (inr z) ↦ absurd z
    ];
  }

  -- the rows of the two are keyed
  keyed : AreKeyed spec
      (e, project (bound spec (edge_at spec e).to) u, how_many (bound spec (edge_at spec e).to) (put tuple_cmp t (u ∷ [])) (project (bound spec (edge_at spec e).to) u))
      (e, project (bound spec (edge_at spec e).to) t, how_many (bound spec (edge_at spec e).to) (put tuple_cmp t (u ∷ [])) (project (bound spec (edge_at spec e).to) t))
  keyed =
      let xs : List ℕ = bound spec (edge_at spec e).to in
      let both : List Pairs = put tuple_cmp t (u ∷ []) in
      let v : EdgeRow = (e, project xs u, how_many xs both (project xs u)) in
      let w : EdgeRow = (e, project xs t, how_many xs both (project xs t)) in
      let g : HeldStripe = record { stripe = row_stripe spec v; mode = Exclusive; now = fragment_of spec both (row_stripe spec v); taken = fragment_of spec both (row_stripe spec v) } in
      let h : HeldStripe = record { stripe = row_stripe spec w; mode = Exclusive; now = fragment_of spec both (row_stripe spec w); taken = fragment_of spec both (row_stripe spec w) } in
      (readable_law spec sealed (g ∷ (h ∷ [])) both (of_two (row_stripe spec v) (row_stripe spec w) (g ∷ (h ∷ [])) refl)).keyed g h (inl refl) (inr (inl refl)) v w
      (fragments_in spec both (row_stripe spec v ∷ []) v (all_rows_in spec both e u l (put_old tuple_cmp tuple_order u t (u ∷ []) (inl refl))) (inl refl))
      (fragments_in spec both (row_stripe spec w ∷ []) w (all_rows_in spec both e t l (put_new tuple_cmp tuple_order t (u ∷ []))) (inl refl))

-- ---- what can be changed over unchanged stripes of a relation

module _ (spec : Spec) (sealed : IsSealed spec) (r : List Pairs) (held : List HeldStripe) (same : (h : HeldStripe) → In h held → h.now ≡ h.taken) (a : AreOfRelation spec held r) where
  pub counted_at : AreAllCounted held
  counted_at h m = subst AreCountedRows (sym (same h m ∙ a.rows h m)) (AreCountedRows-rows_on spec r (h.stripe ∷ []))

  -- where a relation with one tuple more satisfies the dependencies, its rows can be added
  pub addable_at : (t : Pairs) → cols_of t ≡ all_columns spec → IsTuple t → Satisfies (put tuple_cmp t r) spec.deps → AreAddable spec t held
  addable_at t over tuple sat e l h m s =
      let source : (u : Pairs) → IsThere h.now e u → (x : Pairs) × In x r × (u ≡ project (bound spec (edge_at spec e).to) x) = λ u n.
      (in_all_rows spec r (e, u, n.0) (in_fragments spec r (h.stripe ∷ []) (e, u, n.0) (subst (λ (z : List EdgeRow). In (e, u, n.0) z) (same h m ∙ a.rows h m) n.1)).0).projected in
      let shape_is : (shape : EdgeShape) → HasShape (edge_table spec) e shape → shape_of spec e ≡ shape = λ shape has.
      (let q : Some (shape_of spec e) ≡ Some shape = sym (number_has_shape spec e l) ∙ has in cc) in
      record {
        small = λ w n q. ((good_stripes spec sealed held same r a h m).counted w n).1;
        alone = λ shape has u n p q.
            let x : (x : Pairs) × In x r × (u ≡ project (bound spec (edge_at spec e).to) x) = source u n in
            let keyed_two : AreKeyed spec (e, project (bound spec (edge_at spec e).to) x.0, how_many (bound spec (edge_at spec e).to) (put tuple_cmp t (x.0 ∷ [])) (project (bound spec (edge_at spec e).to) x.0))
            (e, project (bound spec (edge_at spec e).to) t, how_many (bound spec (edge_at spec e).to) (put tuple_cmp t (x.0 ∷ [])) (project (bound spec (edge_at spec e).to) t)) =
            keyed spec sealed r a.relation t over tuple sat e l x.0 x.1 in
            let is : shape_of spec e ≡ shape = shape_is shape has in
            x.2 ∙ ap (λ (z : EdgeRow). z.1) (keyed_two.by_key refl
            (subst (λ (z : EdgeShape). project z.source (project (bound spec (edge_at spec e).to) x.0) ≡ project z.source (row_in spec t e)) (sym is) (subst (λ z. project shape.source z ≡ project shape.source (row_in spec t e)) x.2 p))
            (subst (λ (z : EdgeShape). project z.key (project (bound spec (edge_at spec e).to) x.0) ≡ project z.key (row_in spec t e)) (sym is) (subst (λ z. project shape.key z ≡ project shape.key (row_in spec t e)) x.2 q)));
        single = λ shape has kind u n p.
            let x : (x : Pairs) × In x r × (u ≡ project (bound spec (edge_at spec e).to) x) = source u n in
            let keyed_two : AreKeyed spec (e, project (bound spec (edge_at spec e).to) x.0, how_many (bound spec (edge_at spec e).to) (put tuple_cmp t (x.0 ∷ [])) (project (bound spec (edge_at spec e).to) x.0))
            (e, project (bound spec (edge_at spec e).to) t, how_many (bound spec (edge_at spec e).to) (put tuple_cmp t (x.0 ∷ [])) (project (bound spec (edge_at spec e).to) t)) =
            keyed spec sealed r a.relation t over tuple sat e l x.0 x.1 in
            let is : shape_of spec e ≡ shape = shape_is shape has in
            ap (project shape.key) (x.2 ∙ ap (λ (z : EdgeRow). z.1) (keyed_two.single refl (subst (λ (z : EdgeShape). z.kind ≡ Singleton) (sym is) kind)
            (subst (λ (z : EdgeShape). project z.source (project (bound spec (edge_at spec e).to) x.0) ≡ project z.source (row_in spec t e)) (sym is) (subst (λ z. project shape.source z ≡ project shape.source (row_in spec t e)) x.2 p))));
      }

  -- the rows of a tuple are there
  pub there_at : (b : Pairs) → In b r → AreAllThere spec b held
  there_at b inside e l h n s = (
    how_many (bound spec (edge_at spec e).to) r (project (bound spec (edge_at spec e).to) b),
    subst (λ (z : List EdgeRow). In (e, row_in spec b e, how_many (bound spec (edge_at spec e).to) r (project (bound spec (edge_at spec e).to) b)) z) (sym (same h n ∙ a.rows h n))
        (fragments_in spec r (h.stripe ∷ []) (e, row_in spec b e, how_many (bound spec (edge_at spec e).to) r (project (bound spec (edge_at spec e).to) b)) (all_rows_in spec r e b l inside) (inl (sym s))),
  )

-- ---- an insert that is answered Inserted

inserted_by : (most : ℕ) (pattern : List ℕ) (deps : List Dep) (t : Pairs) (ranges : List Range) (r : List Pairs) → (plain_by most Insert pattern deps t ranges r).reply ≡ Inserted → (plain_by most Insert pattern deps t ranges r).relation ≡ put tuple_cmp t r
inserted_by most pattern deps t ranges r e = go (list_any (agree_on pattern t) r) (first_broken_dependency 1 deps (put tuple_cmp t r)) e
  where
    go : (b : Bool) (o : Option ℕ) → (cond b (record { reply = Present; relation = r }) (inserted_unless o (put tuple_cmp t r) r)).reply ≡ Inserted
        → (cond b (record { reply = Present; relation = r }) (inserted_unless o (put tuple_cmp t r) r)).relation ≡ put tuple_cmp t r
    go true o e = absurd (let q : Present ≡ Inserted = e in cc)
    go false None e = refl
    go false (Some n) e = absurd (let q : Conflict n ≡ Inserted = e in cc)

inserted_kind : (most : ℕ) (kind : OpKind) (pattern : List ℕ) (deps : List Dep) (t : Pairs) (ranges : List Range) (r : List Pairs) → kind ≡ Insert → (plain_by most kind pattern deps t ranges r).reply ≡ Inserted → (plain_by most kind pattern deps t ranges r).relation ≡ put tuple_cmp t r
inserted_kind most kind pattern deps t ranges r k e =
    ap (λ z. (plain_by most z pattern deps t ranges r).relation) k ∙ inserted_by most pattern deps t ranges r (sym (ap (λ z. (plain_by most z pattern deps t ranges r).reply) k) ∙ e)

-- the relation after an insert that is answered Inserted
pub inserted_relation : (spec : Spec) (call : Call) → (fits : Fits spec call) → (op_at spec call.op).kind ≡ Insert → (r : List Pairs) → (plain spec r call).reply ≡ Inserted → (plain spec r call).relation ≡ put tuple_cmp call.args r
inserted_relation spec call fits k r e =
    let is_op : op_at spec call.op ≡ fits.0 = get_or_from_slice_get spec.ops call.op fits.0 no_op fits.1.known in
    let known : plain spec r call ≡ plain_by spec.most_rows fits.0.kind fits.0.pattern spec.deps call.args call.ranges r = plain-known spec r call fits.0 fits.1.known in
    ap (λ (z : Outcome). z.relation) known
    ∙ inserted_kind spec.most_rows fits.0.kind fits.0.pattern spec.deps call.args call.ranges r (ap (λ (z : Op). z.kind) (sym is_op) ∙ k) (sym (ap (λ (z : Outcome). z.reply) known) ∙ e)

-- ---- an insert

pub is_insert : (kind : OpKind) → kind ≡ Insert → GivesTuple kind
is_insert kind k = subst GivesTuple (sym k) tt

insert_no_query : (kind : OpKind) → kind ≡ Insert → IsQuery kind → ⊥
insert_no_query kind k h = subst IsQuery k h

remove_no_query : (kind : OpKind) → kind ≡ Remove → IsQuery kind → ⊥
remove_no_query kind k h = subst IsQuery k h

remove_no_insert : (kind : OpKind) → kind ≡ Remove → GivesTuple kind → ⊥
remove_no_insert kind k h = subst GivesTuple k h

-- where all columns were visited a remove's bindings are the tuples that match its arguments
pub visited_match : (spec : Spec) (sealed : IsSealed spec) (plan : List Statement) (call : Call) (rest : List Statement) (bs : List Pairs) (old : Option Pairs) (held : List HeldStripe) (at : IsAt spec plan call rest bs old held)
    → (r : List Pairs) → AreOfRelation spec held r → (op_at spec call.op).kind ≡ Remove → Within (all_columns spec) at.progress.visited → bs ≡ filter (matches call.args) r
visited_match spec sealed plan call rest bs old held at r a k w = go o.search.reached ∙ ap (λ s. filter (matches s) r) (o.given (remove_no_insert (op_at spec call.op).kind k))
  where
    o : IsOn spec r (op_at spec call.op) call.args at.progress bs old (locks_of held)
    o = at.on r a

    go : IsReached r o.sought at.progress.visited bs → bs ≡ filter (matches o.sought) r
    go (inl e) = absurd (subst (In 0) e.0 (w 0 (in_range_below (length spec.columns) 0 sealed.populated.column)))
    go (inr seen) = all_seen_match (all_columns spec) (rising_range 0 (length spec.columns)) r a.relation o.sought o.rising o.inside at.progress.visited bs w o.search.rising seen

module _ (spec : Spec) (sealed : IsSealed spec) (plan : List Statement) (call : Call) (fits : Fits spec call) (rest : List Statement) (bs : List Pairs) (old : Option Pairs) (held : List HeldStripe) (at : IsAt spec plan call (Apply ∷ rest) bs old held)
    (r : List Pairs) (a : AreOfRelation spec held r) where
  keeps : KeepsAll spec (op_at spec call.op) at.progress Apply
  keeps = at.keeps.0

  o : IsOn spec r (op_at spec call.op) call.args at.progress bs old (locks_of held)
  o = at.on r a

  now_is : (h : HeldStripe) → In h held → h.now ≡ fragment_of spec r h.stripe
  now_is h m = at.unchanged h m ∙ a.rows h m

  -- the call's tuple falls on held stripes
  pub tuple_named : GivesTuple (op_at spec call.op).kind → AllHeld spec (stripes_held held) call.args
  tuple_named gives =
      subst (λ stripes. AllHeld spec stripes call.args) (stripes_named held)
      (tuple_is_named spec r a.relation call.args (whole_tuple spec call fits gives) sealed.in_range sealed.accepted.adequate sealed.accepted.placed at.progress (locks_of held) (o.tuple gives).named keeps.k4.0)

  pub insert_exclusive : (op_at spec call.op).kind ≡ Insert → AreExclusive spec call.args held
  insert_exclusive k = exclusive_from spec call.args held (tuple_named (is_insert (op_at spec call.op).kind k)) (at.modes (insert_no_query (op_at spec call.op).kind k))

  -- where the plain step adds the tuple, its rows can be added
  pub insert_addable : (op_at spec call.op).kind ≡ Insert → (plain spec r call).reply ≡ Inserted → AreAddable spec call.args held
  insert_addable k reply =
      addable_at spec sealed r held at.unchanged a call.args (whole_tuple spec call fits (is_insert (op_at spec call.op).kind k)) fits.1.tuple
      (subst (λ z. Satisfies z spec.deps) (inserted_relation spec call fits k r reply) (plain_satisfies spec r call a.satisfies))

  -- ---- a remove

  -- what is found matches the arguments
  pub found_args : (op_at spec call.op).kind ≡ Remove → bs ≡ filter (matches call.args) r
  found_args k = visited_match spec sealed plan call (Apply ∷ rest) bs old held at r a k (subst (λ z. FindsTuples spec z at.progress.visited) k keeps.k6)

  pub found_in : (op_at spec call.op).kind ≡ Remove → (b : Pairs) → In b bs → In b r
  found_in k b m = (in_filter (matches call.args) b r (subst (In b) (found_args k) m)).0

  pub found_whole : (op_at spec call.op).kind ≡ Remove → (b : Pairs) → In b bs → cols_of b ≡ all_columns spec
  found_whole k b m = (a.relation.each b (found_in k b m)).over

  remove_named : (op_at spec call.op).kind ≡ Remove → (b : Pairs) → In b bs → AllHeld spec (stripes_held held) b
  remove_named k b m e l =
      let over : cols_of b ≡ all_columns spec = found_whole k b m in
      let rises : IsRising nat_cmp (cols_of b) = subst (IsRising nat_cmp) (sym over) (rising_range 0 (length spec.columns)) in
      let q : (choice : Which) × In (class_of spec e, choice) at.progress.locked = keeps.k4.0 e l in
      let in_to : Within (class_at spec (class_of spec e)).cols (target_columns spec e) = striping_in_target spec sealed.accepted.adequate sealed.accepted.placed e l in
      subst (In (stripe_in spec b e)) (stripes_named held)
      (o.search.guards (class_of spec e, q.0) q.1 (covered_without_probe spec at.progress (class_of spec e) q.0 (o.no_probe (remove_no_insert (op_at spec call.op).kind k))) b (row_in spec b e) m
      (λ c z. cols_of-project (target_columns spec e) b c (in_to c z) (subst (In c) (sym over) (target_within spec sealed.in_range e l c (in_to c z))))
      (λ x y z d g. one_pair b rises x y z (in_project (target_columns spec e) y b d).0 g))

  pub remove_exclusive : (op_at spec call.op).kind ≡ Remove → (b : Pairs) → In b bs → AreExclusive spec b held
  remove_exclusive k b m = exclusive_from spec b held (remove_named k b m) (at.modes (remove_no_query (op_at spec call.op).kind k))

  pub remove_there : (op_at spec call.op).kind ≡ Remove → (b : Pairs) → In b bs → AreAllThere spec b held
  remove_there k b m e l h n s = (
    how_many (bound spec (edge_at spec e).to) r (project (bound spec (edge_at spec e).to) b),
    subst (λ (z : List EdgeRow). In (e, row_in spec b e, how_many (bound spec (edge_at spec e).to) r (project (bound spec (edge_at spec e).to) b)) z) (sym (now_is h n))
        (fragments_in spec r (h.stripe ∷ []) (e, row_in spec b e, how_many (bound spec (edge_at spec e).to) r (project (bound spec (edge_at spec e).to) b)) (all_rows_in spec r e b l (found_in k b m)) (inl (sym s))),
  )
