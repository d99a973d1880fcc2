-- What legal steps keep.
use Rattle.std.specs.Prelude.{nat_le}
use Rattle.std.proofs.Common.{◌≡◌, ℕ, zero, suc, ◌<◌, Bool, true, false, cond, not, List, [], ◌∷◌, ◌++◌, Option, Some, None, length, refl, sym, ap, inl, inr, subst, arith}
use Rattle.std.proofs.lemmas.Option.{same_Some}
use Rattle.std.specs.List.{list_any, filter, slice_get}
use Rattle.rc_tuple.specs.RisingSet.{In, put}
use Rattle.rc_tuple.specs.RisingSetLaws.{filter_in, in_flat_map, in_slice_get, put_new, put_old}
use Rattle.rc_tuple.specs.Tuple.{Pairs, agree_on, matches, tuple_cmp, tuple_eq}
use Rattle.rc_tuple.specs.TupleLaws.{same_from_test, tuple_order}
use Rattle.rc_tuple.specs.declared.dep.Dep.{Dep}
use Rattle.rc_spec.specs.declared.items.Op.{Op}
use Rattle.rc_spec.specs.declared.items.OpKind.{OpKind}
use Rattle.rc_spec.specs.declared.items.OpKind.TheVariants.{Query, Insert, Remove, Update}
use Rattle.rc_spec.specs.declared.call.Call.{Call}
use Rattle.rc_spec.specs.declared.call.Reply.{Reply}
use Rattle.rc_spec.specs.declared.call.Reply.TheVariants.{Rows, Many, Inserted, Present, Conflict, Removed, Updated, Absent}
use Rattle.rc_spec.specs.declared.range.Range.{Range}
use Rattle.rc_spec.specs.declared.spec.Spec.{Spec}
use Rattle.rc_spec.specs.Plain.{Outcome, first_broken_dependency, inserted_unless, removed_first, updated_first, updated_unless, without, plain_by, plain_at, plain, rows_of}
use Rattle.rc_spec.specs.Ranges.{is_asked}
use Rattle.rc_rel.specs.declared.entry.Entry.{Entry}
use Rattle.rc_rel.specs.declared.entry.Step.{Step}
use Rattle.rc_rel.specs.History.{AreLegalFrom, after_steps, steps_of}
use Rattle.rc_rel.specs.HistoryLaws.{after_steps-append}
use Rattle.rc_scheduler.specs.Left.{IsPutOf, KeepsTuple, TookOut}

-- ---- one step keeps what it doesn't take out

kept_inserted : (b : Bool) (broken : Option ℕ) (args : Pairs) (r : List Pairs) (t : Pairs) → In t r
    → In t (cond b (let o : Outcome = record { reply = Present; relation = r } in o) (inserted_unless broken (put tuple_cmp args r) r)).relation
kept_inserted true broken args r t m = m
kept_inserted false None args r t m = put_old tuple_cmp tuple_order t args r m
kept_inserted false (Some n) args r t m = m

is_other : (b : Bool) (t u : Pairs) → tuple_eq t u ≡ b → (u ≡ t → ⊥) → not b ≡ true
is_other true t u e apart = absurd (apart (sym (same_from_test t u e)))
is_other false t u e apart = refl

kept_removed : (found r : List Pairs) (t : Pairs) → In t r → ((removed_first found r).reply ≡ Removed t → ⊥) → In t (removed_first found r).relation
kept_removed [] r t m apart = m
kept_removed (u ∷ us) r t m apart =
    filter_in (λ x. not (tuple_eq x u)) t r m (is_other (tuple_eq t u) t u refl (λ e. apart (ap Removed e)))

kept_unless : (broken : Option ℕ) (old args : Pairs) (r : List Pairs) (t : Pairs) → In t r
    → ((updated_unless broken old (put tuple_cmp args (without old r)) r).reply ≡ Updated t → ⊥)
    → In t (updated_unless broken old (put tuple_cmp args (without old r)) r).relation
kept_unless None old args r t m apart =
    put_old tuple_cmp tuple_order t args (without old r)
    (filter_in (λ x. not (tuple_eq x old)) t r m (is_other (tuple_eq t old) t old refl (λ e. apart (ap Updated e))))
kept_unless (Some n) old args r t m apart = m

kept_updated : (found : List Pairs) (deps : List Dep) (args : Pairs) (r : List Pairs) (t : Pairs) → In t r
    → ((updated_first found deps args r).reply ≡ Updated t → ⊥) → In t (updated_first found deps args r).relation
kept_updated [] deps args r t m apart = m
kept_updated (old ∷ others) deps args r t m apart =
    kept_unless (first_broken_dependency 1 deps (put tuple_cmp args (without old r))) old args r t m apart

kept_by : (most : ℕ) (kind : OpKind) (pattern : List ℕ) (deps : List Dep) (args : Pairs) (ranges : List Range) (r : List Pairs) (t : Pairs) → In t r
    → (TookOut t (plain_by most kind pattern deps args ranges r).reply → ⊥) → In t (plain_by most kind pattern deps args ranges r).relation
kept_by most (Query outs cols) pattern deps args ranges r t m apart = m
kept_by most Insert pattern deps args ranges r t m apart =
    kept_inserted (list_any (agree_on pattern args) r) (first_broken_dependency 1 deps (put tuple_cmp args r)) args r t m
kept_by most Remove pattern deps args ranges r t m apart = kept_removed (filter (matches args) r) r t m (λ e. apart (inl e))
kept_by most Update pattern deps args ranges r t m apart = kept_updated (filter (agree_on pattern args) r) deps args r t m (λ e. apart (inr e))

kept_at : (most : ℕ) (op : Option Op) (deps : List Dep) (args : Pairs) (ranges : List Range) (r : List Pairs) (t : Pairs) → In t r
    → (TookOut t (plain_at most op deps args ranges r).reply → ⊥) → In t (plain_at most op deps args ranges r).relation
kept_at most (Some op) deps args ranges r t m apart = kept_by most op.kind op.pattern deps args ranges r t m apart
kept_at most None deps args ranges r t m apart = m

pub kept_after : (spec : Spec) (r : List Pairs) (steps : List Step) (t : Pairs) → In t r → AreLegalFrom spec r steps
    → ((s : Step) → In s steps → TookOut t s.reply → ⊥) → In t (after_steps spec r steps)
kept_after spec r [] t m legal apart = m
kept_after spec r (s ∷ steps) t m legal apart =
    kept_after spec (plain spec r s.call).relation steps t
    (kept_at spec.most_rows (slice_get spec.ops s.call.op) spec.deps s.call.args s.call.ranges r t m
    (λ took. apart s (inl refl) (subst (TookOut t) (sym legal.0) took)))
    legal.1 (λ z n. apart z (inr n))

-- ---- one step that put its tuple in, anew or in the place of another

-- the reply tells so
abbrev pub Puts : Reply → Type 0
Puts (Rows rows) = ⊥
Puts (Many n) = ⊥
Puts Inserted = Unit {0}
Puts Present = ⊥
Puts (Conflict n) = ⊥
Puts (Removed t) = ⊥
Puts (Updated t) = Unit {0}
Puts Absent = ⊥

rows_put : (b : Bool) (rows : List (List ℕ)) → Puts (cond b (Rows rows) (Many (length rows))) → ⊥
rows_put true rows h = h
rows_put false rows h = h

put_inserted : (b : Bool) (broken : Option ℕ) (args : Pairs) (r : List Pairs)
    → Puts (cond b (let o : Outcome = record { reply = Present; relation = r } in o) (inserted_unless broken (put tuple_cmp args r) r)).reply
    → In args (cond b (let o : Outcome = record { reply = Present; relation = r } in o) (inserted_unless broken (put tuple_cmp args r) r)).relation
put_inserted true broken args r h = absurd h
put_inserted false None args r h = put_new tuple_cmp tuple_order args r
put_inserted false (Some n) args r h = absurd h

removed_put : (found r : List Pairs) → Puts (removed_first found r).reply → ⊥
removed_put [] r h = h
removed_put (u ∷ us) r h = h

put_unless : (broken : Option ℕ) (old args : Pairs) (w r : List Pairs) → Puts (updated_unless broken old (put tuple_cmp args w) r).reply
    → In args (updated_unless broken old (put tuple_cmp args w) r).relation
put_unless None old args w r h = put_new tuple_cmp tuple_order args w
put_unless (Some n) old args w r h = absurd h

put_updated : (found : List Pairs) (deps : List Dep) (args : Pairs) (r : List Pairs) → Puts (updated_first found deps args r).reply
    → In args (updated_first found deps args r).relation
put_updated [] deps args r h = absurd h
put_updated (old ∷ others) deps args r h =
    put_unless (first_broken_dependency 1 deps (put tuple_cmp args (without old r))) old args (without old r) r h

put_by : (most : ℕ) (kind : OpKind) (pattern : List ℕ) (deps : List Dep) (args : Pairs) (ranges : List Range) (r : List Pairs)
    → Puts (plain_by most kind pattern deps args ranges r).reply → In args (plain_by most kind pattern deps args ranges r).relation
put_by most (Query outs cols) pattern deps args ranges r h =
    let rows : List (List ℕ) = rows_of outs (filter (is_asked args ranges) r) in absurd (rows_put (nat_le (length rows) most) rows h)
put_by most Insert pattern deps args ranges r h =
    put_inserted (list_any (agree_on pattern args) r) (first_broken_dependency 1 deps (put tuple_cmp args r)) args r h
put_by most Remove pattern deps args ranges r h = absurd (removed_put (filter (matches args) r) r h)
put_by most Update pattern deps args ranges r h = put_updated (filter (agree_on pattern args) r) deps args r h

put_at : (most : ℕ) (op : Option Op) (deps : List Dep) (args : Pairs) (ranges : List Range) (r : List Pairs)
    → Puts (plain_at most op deps args ranges r).reply → In args (plain_at most op deps args ranges r).relation
put_at most (Some op) deps args ranges r h = put_by most op.kind op.pattern deps args ranges r h
put_at most None deps args ranges r h = absurd h

pub put_after : (spec : Spec) (r : List Pairs) (call : Call) → Puts (plain spec r call).reply → In call.args (plain spec r call).relation
put_after spec r call h = put_at spec.most_rows (slice_get spec.ops call.op) spec.deps call.args call.ranges r h

-- an entry that put its tuple in has one step, whose reply tells so
pub put_step : (call : Call) (e : Entry) → IsPutOf call e → (reply : Reply) × Puts reply × (e.steps ≡ record { call = call; reply = reply } ∷ [])
put_step call e (inl is) = (Inserted, tt, is)
put_step call e (inr w) = (Updated w.0, tt, w.1)

-- ---- histories

legal_rest : (spec : Spec) (r : List Pairs) (xs ys : List Step) → AreLegalFrom spec r (xs ++ ys) → AreLegalFrom spec (after_steps spec r xs) ys
legal_rest spec r [] ys h = h
legal_rest spec r (x ∷ xs) ys h = legal_rest spec (plain spec r x.call).relation xs ys h.1

-- no step of entries that keep a tuple takes it out
steps_keep : (t : Pairs) (entries : List Entry) → ((j : ℕ) (e : Entry) → slice_get entries j ≡ Some e → KeepsTuple t e)
    → (s : Step) → In s (steps_of entries) → TookOut t s.reply → ⊥
steps_keep t entries keeps s m e =
    let at = in_flat_map (λ (x : Entry). x.steps) s entries m in
    let place = in_slice_get at.0 entries at.1 in
    keeps place.0 at.0 place.1 s at.2 e

-- the steps of an entry that puts a tuple in, and of entries behind it that keep it
put_first : (spec : Spec) (r : List Pairs) (call : Call) (e : Entry) (more : List Step) → IsPutOf call e
    → AreLegalFrom spec r (e.steps ++ more) → ((s : Step) → In s more → TookOut call.args s.reply → ⊥) → In call.args (after_steps spec r (e.steps ++ more))
put_first spec r call e more is legal keeps =
    let one = put_step call e is in
    let first : Step = record { call = call; reply = one.0 } in
    let whole : AreLegalFrom spec r (first ∷ more) = subst (λ (l : List Step). AreLegalFrom spec r (l ++ more)) one.2 legal in
    subst (λ (l : List Step). In call.args (after_steps spec r (l ++ more))) (sym one.2)
    (kept_after spec (plain spec r call).relation more call.args (put_after spec r call (subst Puts whole.0 one.1)) whole.1 keeps)

pub put_left : (spec : Spec) (r : List Pairs) (entries : List Entry) (i : ℕ) (e : Entry) (call : Call) → AreLegalFrom spec r (steps_of entries)
    → slice_get entries i ≡ Some e → IsPutOf call e
    → ((j : ℕ) (x : Entry) → i < j → slice_get entries j ≡ Some x → KeepsTuple call.args x)
    → In call.args (after_steps spec r (steps_of entries))
put_left spec r [] i e call legal is puts keeps = cc
put_left spec r (x ∷ entries) zero e call legal is puts keeps =
    let same : x ≡ e = same_Some x e is in
    put_first spec r call x (steps_of entries) (subst (IsPutOf call) (sym same) puts) legal
    (steps_keep call.args entries (λ j y at. let later : 0 < suc j = omega arith in keeps (suc j) y later at))
put_left spec r (x ∷ entries) (suc i) e call legal is puts keeps =
    subst (λ (l : List Pairs). In call.args l) (sym (after_steps-append spec r x.steps (steps_of entries)))
    (put_left spec (after_steps spec r x.steps) entries i e call (legal_rest spec r x.steps (steps_of entries) legal) is puts
    (λ j y later at. let next : suc i < suc j = omega (arith, later) in keeps (suc j) y next at))
