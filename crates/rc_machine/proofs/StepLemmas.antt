-- How a run stands after each statement.
use Rattle.std.specs.Prelude.{◌≡◌, ℕ, ◌<◌, List, [], ◌∷◌, ◌++◌, None, Option, Some, length}
use Rattle.rc_machine.proofs.Imports.{Less, nat_cmp_is, nat_cmp, ordering_then, false≢true, map-append, In, IsRising, gather, same_rising, rising_gather, in_gather, gather_in, in_map, map_in, in_append, append_in_left, append_in_right, nat_order, slice_get_in, Within, in_range_below, Pairs, cols_of, rising_pairs, Call, Op, OpKind, Query, Insert, Remove, Update, Mode, Exclusive, Spec, IsSealed, Fits, all_columns, value_columns, FitsAt, AreBelow, IsInRange, IsOpAmong, EdgeRow, rows_on, op_at, band_before, AreOfRelation, HeldStripe, IsAbove, Statement, Lock, Which, IsPlanOf, named_by, run, stripes_locked, IsProbing, more_named, tuple_named, IsOfClass-stripes_locked, of_locked_one, HasLockMode, IsKeyBound, IsLocked, IsQuery, KeepsAll, Progress, after, at_start, given_columns, lock_keeps, search_begins, StripeLock, mode_number, stripe_lock_cmp, stripes_of, IsOfClass, AreIn, AreIn-more, named_before, named_now, stripe_lock_order, stripes_of_in, AreLocked, locks_of, stripes_held, IsAt, IsOn, IsClassTaken, HasNamed, AreOfLocked, searching, updating, fits_at_op}
use Rattle.std.proofs.Common.{inl, inr, refl, sym, ap, subst, ◌∙◌, arith}
use Rattle.rc_plan.specs.declared.statement.Which.TheVariants as which

-- ---- rising lists

less_to : (a b : ℕ) → a < b → nat_cmp a b ≡ Less
less_to a b l = sym (nat_cmp_is a b Less l)

rising_append : (xs ys : List ℕ) → IsRising nat_cmp xs → IsRising nat_cmp ys → ((x y : ℕ) → In x xs → In y ys → x < y) → IsRising nat_cmp (xs ++ ys)
rising_append [] ys a b f = b
rising_append (x ∷ xs) ys a b f = (
  (λ y m. elim (in_append y xs ys m) [ inl n ↦ a.0 y n | inr n ↦ less_to x y (f x y (inl refl) n) ]),
  rising_append xs ys a.1 b (λ z y m n. f z y (inr m) n),
)

locks_rise : (held : List HeldStripe) → IsRising nat_cmp (stripes_held held) → IsRising stripe_lock_cmp (locks_of held)
locks_rise [] r = tt
locks_rise (h ∷ held) r = (
  (λ lock m.
      let q : (g : HeldStripe) × In g held × (lock ≡ (g.stripe, g.mode)) = in_map (λ (h : HeldStripe). (h.stripe, h.mode)) lock held m in
      let l : nat_cmp h.stripe q.0.stripe ≡ Less = r.0 q.0.stripe (map_in (λ (h : HeldStripe). h.stripe) q.0 held q.1) in
      subst (λ (z : StripeLock). stripe_lock_cmp (h.stripe, h.mode) z ≡ Less) (sym q.2)
      (ap (λ o. ordering_then o (nat_cmp (mode_number h.mode) (mode_number q.0.mode))) l)),
  locks_rise held r.1,
)

-- ---- relations of fewer stripes

pub fewer : (spec : Spec) (r : List Pairs) (old more new : List HeldStripe) → new ≡ old ++ more → AreOfRelation spec new r → AreOfRelation spec old r
fewer spec r old more new e a = record { relation = a.relation; satisfies = a.satisfies; few = a.few; rows = λ h m. a.rows h (subst (In h) (sym e) (append_in_left h old more m)) }

-- ---- arguments

given_by : (spec : Spec) (pattern : List ℕ) (kind : OpKind) → AreBelow (length spec.columns) pattern → Within (value_columns spec pattern kind) (all_columns spec)
given_by spec pattern (Query outs ranges) b c m = in_range_below (length spec.columns) c (b c m)
given_by spec pattern Insert b c m = m
given_by spec pattern Remove b c m = in_range_below (length spec.columns) c (b c m)
given_by spec pattern Update b c m = m

-- a call gives values at columns of the specification
given_inside : (spec : Spec) → IsInRange spec → (op : Op) → IsOpAmong (length spec.columns) op → (t : Pairs) → cols_of t ≡ given_columns spec op → Within (cols_of t) (all_columns spec)
given_inside spec range op among t e c m = given_by spec op.pattern op.kind among.pattern c (in_gather nat_cmp nat_order c (value_columns spec op.pattern op.kind) (subst (In c) e m))

-- ---- locks

mode_of : (kind : OpKind) (mode : Mode) → HasLockMode kind mode → (IsQuery kind → ⊥) → mode ≡ Exclusive
mode_of (Query outs ranges) mode h n = absurd (n tt)
mode_of Insert mode h n = h
mode_of Remove mode h n = h
mode_of Update mode h n = h

-- before the first Probe the tuple is the one binding
begun : (t : Pairs) (p : Progress) (s : Pairs) (bs : List Pairs) → IsProbing t p s bs → p.probe ≡ None → bs ≡ t ∷ []
begun t p s bs (inl e) none = e.2
begun t p s bs (inr e) none = absurd (let g : None ≡ Some e.0 = sym none ∙ e.1 in cc)

module _ (spec : Spec) (sealed : IsSealed spec) (plan : List Statement) (call : Call) where
  -- a run begins
  pub begins : (fits : Fits spec call) → IsPlanOf spec call.op plan → IsAt spec plan call plan (call.args ∷ []) None []
  begins fits planned =
      let op : Op = op_at spec call.op in
      let at : FitsAt spec call op = fits_at_op spec call fits in
      let among : IsOpAmong (length spec.columns) op = sealed.in_range.known_ops op (slice_get_in spec.ops call.op op at.known) in
      record {
        progress = at_start spec (op_at spec call.op);
        keeps = planned.rules;
        known = planned.known;
        unchanged = λ h m. absurd m;
        stripes_rise = tt;
        classes = λ stripe m. absurd m;
        modes = λ n lock m. absurd m;
        columns_rise = λ b m. elim m [ inl e ↦ subst (λ z. IsRising nat_cmp (cols_of z)) (sym e) at.tuple.rising | inr z ↦ absurd z ];
        on = λ r a. record {
          sought = call.args;
          rising = rising_pairs call.args at.tuple;
          inside = given_inside spec sealed.in_range op among call.args at.columns;
          search = search_begins spec r call.args op at.columns;
          taken = λ x m. absurd m;
          tuple = λ i. record { probing = inl (refl, refl, refl); named = λ x m. absurd m };
          no_probe = λ n. refl;
          given = λ n. refl;
          found = λ u e. absurd (false≢true e);
        };
        runs = λ r a stripes w. refl;
      }

  module _ (c : ℕ) (choice : Which) (mode : Mode) (rest : List Statement) (bs : List Pairs) (old : Option Pairs) (held : List HeldStripe) (at : IsAt spec plan call (Lock c choice mode ∷ rest) bs old held) where
    class : c < length spec.classes
    class = at.known (Lock c choice mode) (inl refl)

    keeps : KeepsAll spec (op_at spec call.op) at.progress (Lock c choice mode)
    keeps = at.keeps.0

    -- what it takes is above all that is held
    pub lock_above : (s : ℕ) → In s (stripes_locked spec c choice bs) → IsAbove held s
    lock_above s m h n =
        let g : (d : ℕ) × IsLocked at.progress d × IsOfClass spec h.stripe d = at.classes h.stripe (stripes_of_in (h.stripe, h.mode) (locks_of held) (map_in (λ (h : HeldStripe). (h.stripe, h.mode)) h held n)) in
        let before : g.0 < c = keeps.k2 (g.0, g.1.0) g.1.1 in
        let bands = band_before spec g.0 c before class in
        let now : IsOfClass spec s c = IsOfClass-stripes_locked spec sealed.accepted.placed c choice bs class s m in
        omega (arith, g.2.before, bands, now.from)

    module _ (new : List HeldStripe) (offered : ℕ → Option (List EdgeRow)) (f : AreLocked held new (gather nat_cmp (stripes_locked spec c choice bs)) mode offered) where
      in_more : (h : HeldStripe) → In h f.more → In h.stripe (stripes_locked spec c choice bs)
      in_more h m = in_gather nat_cmp nat_order h.stripe (stripes_locked spec c choice bs) (subst (In h.stripe) f.stripes_are (map_in (λ (h : HeldStripe). h.stripe) h f.more m))

      new_rises : IsRising nat_cmp (stripes_held new)
      new_rises =
          let split : stripes_held new ≡ stripes_held held ++ gather nat_cmp (stripes_locked spec c choice bs) = ap stripes_held f.beside ∙ map-append (λ (h : HeldStripe). h.stripe) held f.more ∙ ap (λ z. stripes_held held ++ z) f.stripes_are in
          subst (IsRising nat_cmp) (sym split)
          (rising_append (stripes_held held) (gather nat_cmp (stripes_locked spec c choice bs)) at.stripes_rise (rising_gather nat_cmp nat_order (stripes_locked spec c choice bs))
          (λ x y m n.
          let q : (h : HeldStripe) × In h held × (x ≡ h.stripe) = in_map (λ (h : HeldStripe). h.stripe) x held m in
          let l : q.0.stripe < y = lock_above y (in_gather nat_cmp nat_order y (stripes_locked spec c choice bs) n) q.0 q.1 in
          subst (λ z. z < y) (sym q.2) l))

      -- the locks held are those named, with those that the Lock names
      locks_are : locks_of new ≡ gather stripe_lock_cmp (locks_of held ++ named_by spec c choice mode bs)
      locks_are =
          let all : List StripeLock = locks_of held ++ named_by spec c choice mode bs in
          same_rising stripe_lock_cmp stripe_lock_order (locks_of new) (gather stripe_lock_cmp all) (locks_rise new new_rises) (rising_gather stripe_lock_cmp stripe_lock_order all)
          (λ lock m.
          let q : (h : HeldStripe) × In h new × (lock ≡ (h.stripe, h.mode)) = in_map (λ (h : HeldStripe). (h.stripe, h.mode)) lock new m in
          gather_in stripe_lock_cmp stripe_lock_order lock all (elim (in_append q.0 held f.more (subst (In q.0) f.beside q.1)) [
            | inl n ↦ append_in_left lock (locks_of held) (named_by spec c choice mode bs) (subst (λ (z : StripeLock). In z (locks_of held)) (sym q.2) (map_in (λ (h : HeldStripe). (h.stripe, h.mode)) q.0 held n))
            | inr n ↦ append_in_right lock (locks_of held) (named_by spec c choice mode bs)
                (subst (λ (z : StripeLock). In z (named_by spec c choice mode bs)) (sym (q.2 ∙ (λ i. (q.0.stripe, f.modes q.0 n i)))) (map_in (λ s. let l : StripeLock = (s, mode) in l) q.0.stripe (stripes_locked spec c choice bs) (in_more q.0 n)))
          ]))
          (λ lock m. elim (in_append lock (locks_of held) (named_by spec c choice mode bs) (in_gather stripe_lock_cmp stripe_lock_order lock all m)) [
            | inl n ↦ (let q : (h : HeldStripe) × In h held × (lock ≡ (h.stripe, h.mode)) = in_map (λ (h : HeldStripe). (h.stripe, h.mode)) lock held n in
                subst (λ (z : StripeLock). In z (locks_of new)) (sym q.2) (map_in (λ (h : HeldStripe). (h.stripe, h.mode)) q.0 new (subst (In q.0) (sym f.beside) (append_in_left q.0 held f.more q.1))))
            | inr n ↦ (let s : (s : ℕ) × In s (stripes_locked spec c choice bs) × (lock ≡ (s, mode)) = in_map (λ s. let l : StripeLock = (s, mode) in l) lock (stripes_locked spec c choice bs) n in
                let h : (h : HeldStripe) × In h f.more × (s.0 ≡ h.stripe) = in_map (λ (h : HeldStripe). h.stripe) s.0 f.more (subst (In s.0) (sym f.stripes_are) (gather_in nat_cmp nat_order s.0 (stripes_locked spec c choice bs) s.1)) in
                subst (λ (z : StripeLock). In z (locks_of new)) (sym (s.2 ∙ (λ i. (h.2 i, sym (f.modes h.0 h.1) i))))
                (map_in (λ (h : HeldStripe). (h.stripe, h.mode)) h.0 new (subst (In h.0) (sym f.beside) (append_in_right h.0 held f.more h.1))))
          ])

      of_locked : AreOfLocked spec (after spec at.progress (Lock c choice mode)) (gather stripe_lock_cmp (locks_of held ++ named_by spec c choice mode bs))
      of_locked = of_locked_one spec sealed.accepted.placed (op_at spec call.op) call at.progress (Lock c choice mode) (searching bs (locks_of held) []) class at.classes

      taken_now : (choice : Which) → IsKeyBound spec c choice at.progress.columns → IsClassTaken spec (after spec at.progress (Lock c choice mode)) (stripes_of (gather stripe_lock_cmp (locks_of held ++ named_by spec c choice mode bs))) c choice
      taken_now which.Keyed k = λ cover. k
      taken_now which.All k = λ stripe m. named_now stripe (locks_of held) mode (stripes_locked spec c which.All bs) m

      taken_before : (d : ℕ) (way : Which) → IsClassTaken spec at.progress (stripes_of (locks_of held)) d way → IsClassTaken spec (after spec at.progress (Lock c choice mode)) (stripes_of (gather stripe_lock_cmp (locks_of held ++ named_by spec c choice mode bs))) d way
      taken_before d which.Keyed g = g
      taken_before d which.All g = λ stripe m. named_before stripe (locks_of held) (named_by spec c choice mode bs) (g stripe m)

      lock_on : (r : List Pairs) → AreOfRelation spec held r → IsOn spec r (op_at spec call.op) call.args (after spec at.progress (Lock c choice mode)) bs old (gather stripe_lock_cmp (locks_of held ++ named_by spec c choice mode bs))
      lock_on r a =
          let o : IsOn spec r (op_at spec call.op) call.args at.progress bs old (locks_of held) = at.on r a in
          record {
            sought = o.sought;
            rising = o.rising;
            inside = o.inside;
            search = lock_keeps spec sealed.in_range sealed.accepted.adequate sealed.accepted.placed r a.relation a.satisfies o.sought o.rising at.progress bs (locks_of held) c choice mode o.search class keeps.k3;
            taken = λ x m. elim m [
              | inl e ↦ subst (λ (z : ℕ × Which). IsClassTaken spec (after spec at.progress (Lock c choice mode)) (stripes_of (gather stripe_lock_cmp (locks_of held ++ named_by spec c choice mode bs))) z.0 z.1) (sym e) (taken_now choice keeps.k3)
              | inr n ↦ taken_before x.0 x.1 (o.taken x n)
            ];
            tuple = λ i. record {
              probing = (o.tuple i).probing;
              named = λ x m. elim m [
                | inl e ↦ subst (λ (z : ℕ × Which). HasNamed spec call.args (stripes_of (gather stripe_lock_cmp (locks_of held ++ named_by spec c choice mode bs))) z.0 z.1) (sym e) (tuple_named spec sealed.accepted.placed call.args bs (locks_of held) mode c class choice (begun call.args at.progress o.sought bs (o.tuple i).probing keeps.k1.1))
                | inr n ↦ more_named spec call.args (locks_of held) (named_by spec c choice mode bs) x.0 x.1 ((o.tuple i).named x n)
              ];
            };
            no_probe = o.no_probe;
            given = o.given;
            found = o.found;
          }

      -- the run after a Lock
      pub lock_step : IsAt spec plan call rest bs old new
      lock_step = record {
        progress = after spec at.progress (Lock c choice mode);
        keeps = at.keeps.1;
        known = λ x m. at.known x (inr m);
        unchanged = λ h m. elim (in_append h held f.more (subst (In h) f.beside m)) [ inl n ↦ at.unchanged h n | inr n ↦ f.unchanged h n ];
        stripes_rise = new_rises;
        classes = subst (AreOfLocked spec (after spec at.progress (Lock c choice mode))) (sym locks_are) of_locked;
        modes = λ n. subst (AreIn Exclusive) (sym locks_are) (subst (λ m. AreIn Exclusive (gather stripe_lock_cmp (locks_of held ++ named_by spec c choice m bs))) (sym (mode_of (op_at spec call.op).kind mode keeps.k1.2 n))
            (AreIn-more Exclusive (locks_of held) (stripes_locked spec c choice bs) (at.modes n)));
        columns_rise = at.columns_rise;
        on = λ r a. subst (IsOn spec r (op_at spec call.op) call.args (after spec at.progress (Lock c choice mode)) bs old) (sym locks_are) (lock_on r (fewer spec r held f.more new f.beside a));
        runs = λ r a stripes w. at.runs r (fewer spec r held f.more new f.beside a) stripes
            (λ s m.
            let q : (h : HeldStripe) × In h held × (s ≡ h.stripe) = in_map (λ (h : HeldStripe). h.stripe) s held m in
            w s (subst (λ z. In z (stripes_held new)) (sym q.2) (map_in (λ (h : HeldStripe). h.stripe) q.0 new (subst (In q.0) (sym f.beside) (append_in_left q.0 held f.more q.1)))))
            ∙ ap (λ ns. run spec (op_at spec call.op) call rest (updating old bs ns (rows_on spec r stripes))) (sym locks_are);
      }

      pub lock_progress : lock_step.progress ≡ after spec at.progress (Lock c choice mode)
      unfolding lock_step
      lock_progress = refl
