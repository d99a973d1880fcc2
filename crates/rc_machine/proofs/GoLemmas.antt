-- A run goes on from statement to statement.
use Rattle.std.specs.Prelude.{◌≡◌, ℕ, ◌+◌, ◌<◌, Bool, true, false, List, [], ◌∷◌, ◌++◌, None, Option, Some, cond, filter, drop, get_or, length, map, take}
use Rattle.rc_machine.proofs.Imports.{nat_cmp, drop_more, In, gather, put, append_in_left, append_in_right, gather_in, in_append, in_gather, in_map, map_in, nat_order, Within, Pairs, tuple_cmp, Satisfies, Call, Reply, Absent, Conflict, Inserted, Present, Removed, Updated, OpKind, Query, Insert, Remove, Update, Mode, Spec, IsSealed, Fits, GivesTuple, fits_at_op, in_ranges, all_raised, lowered, raised, AllHeld, EdgeRow, edge_numbers, rows_on, op_at, plain, without, plain_satisfies, Held, AreOffered, AreOfOneRelation, AreOfRelation, GoesOn, HeldStripe, Holding, held_of, offered_at, reverted, Statement, Apply, CheckAbsent, CheckDep, CheckFound, Emit, Lock, Which, IsPlanOf, RunState, answer, eval, named_by, run_one, some_differs, some_left, stripes_locked, apply, emit, replace, IsNamedBy, named_law, ChecksAreDone, IsQuery, IsUpdate, MayApply, named_grows, StripeLock, stripe_lock_cmp, stripe_lock_order, CanApply, CanReplace, HasApplied, HasRemoved, HasReplaced, replaced_in, all_changed, AreLocked, HasLocked, HasRefusedOne, AreAsTaken, AreTakenAsOffered, HasReplied, IsRefused, locks_of, stripes_held, HasGoneOn, HasKeptLeast, IsAt, IsOn, updating, IsOld}
use Rattle.std.proofs.Common.{inl, inr, refl, sym, ap, subst, ◌∙◌}
use Rattle.rc_machine.proofs.ApplyLemmas.{Change, IsSameAt, LeavesOthers, lowered_leaves, raised_leaves, stripes_stay}
use Rattle.rc_machine.proofs.ChangeLemmas.{IsLocal, all_done, changed_evaluated, changed_served, lowered_done, lowered_local, raised_done, raised_local}
use Rattle.rc_machine.proofs.CheckStepLemmas.{absent_step, dep_step, ends_evaluated, ends_served, evaluated, whole_tuple}
use Rattle.rc_machine.proofs.ConditionLemmas.{counted_at, found_whole, insert_addable, insert_exclusive, is_insert, remove_exclusive, remove_there, tuple_named}
use Rattle.rc_machine.proofs.LockLemmas.{risen_since}
use Rattle.rc_machine.proofs.RunLemmas.{serves, stripes_named, taken_together}
use Rattle.rc_machine.proofs.ReplaceLemmas.{can_replace, replaced_evaluated, replaced_served}
use Rattle.rc_machine.proofs.StepLemmas.{fewer}
use Rattle.rc_machine.proofs.UpdateLemmas.{found_step, old_named, old_there, updated_relation}

-- the next statement is the first of the rest
pub at_is : (spec : Spec) (plan : List Statement) (call : Call) (n : ℕ) (d x : Statement) (bs : List Pairs) (old : Option Pairs) (held : List HeldStripe) → n < length plan → get_or plan n d ≡ x → IsAt spec plan call (drop n plan) bs old held
    → IsAt spec plan call (x ∷ drop (n + 1) plan) bs old held
at_is spec plan call n d x bs old held l e at = subst (λ z. IsAt spec plan call z bs old held) (drop_more plan n d l ∙ ap (λ y. y ∷ drop (n + 1) plan) e) at

-- ---- locks

pub still_taken : (old new : List HeldStripe) (stripes : List ℕ) (mode : Mode) (offered : ℕ → Option (List EdgeRow)) → AreLocked old new stripes mode offered → AreAsTaken old → AreAsTaken new
still_taken old new stripes mode offered f same h m = elim (in_append h old f.more (subst (In h) f.beside m)) [ inl n ↦ same h n | inr n ↦ f.unchanged h n ]

-- stripes that are taken are taken as they are offered
pub locked_told : (old new : Holding) (stripes : List ℕ) (mode : Mode) → HasLocked old new stripes mode → GoesOn old new → AreTakenAsOffered old → AreTakenAsOffered new
locked_told old new stripes mode f on told h m =
    subst (λ offered. AreOffered (get_or offered h.stripe None) h.taken) (sym on.offered) (elim (in_append h (held_of old) f.more (subst (In h) f.beside m)) [ inl k ↦ told h k | inr k ↦ f.told h k ])

-- what a Lock takes evaluation names, on the rows of any stripes among which are those held
named_at : (spec : Spec) (plan : List Statement) (call : Call) (c : ℕ) (choice : Which) (mode : Mode) (rest : List Statement) (bs : List Pairs) (found : Option Pairs) (held : List HeldStripe)
    → IsAt spec plan call (Lock c choice mode ∷ rest) bs found held → (r : List Pairs) → AreOfRelation spec held r → (stripes : List ℕ) → Within (stripes_held held) stripes
    → (s : ℕ) → In s (stripes_locked spec c choice bs) → In (s, mode) (eval spec plan call (rows_on spec r stripes)).named
named_at spec plan call c choice mode rest bs found held at r a stripes within s m =
    let all : List EdgeRow = rows_on spec r stripes in
    let lock : StripeLock = (s, mode) in
    let wanted : List StripeLock = named_by spec c choice mode bs in
    let named : In lock (gather stripe_lock_cmp (locks_of held ++ wanted)) =
    gather_in stripe_lock_cmp stripe_lock_order lock (locks_of held ++ wanted)
    (append_in_right lock (locks_of held) wanted (map_in (λ s. let l : StripeLock = (s, mode) in l) s (stripes_locked spec c choice bs) m)) in
    subst (λ (z : RunState). In lock z.named) (sym (at.runs r a stripes within))
    (named_grows spec (op_at spec call.op) call rest (updating found bs (gather stripe_lock_cmp (locks_of held ++ wanted)) all) lock named)

-- so the plan may name it at the arguments
pub lock_named : (spec : Spec) → IsSealed spec → (plan : List Statement) (call : Call) → Fits spec call → IsPlanOf spec call.op plan
    → (c : ℕ) (choice : Which) (mode : Mode) (rest : List Statement) (bs : List Pairs) (found : Option Pairs) (held : List HeldStripe)
    → IsAt spec plan call (Lock c choice mode ∷ rest) bs found held → AreOfOneRelation spec held → (s : ℕ) → In s (stripes_locked spec c choice bs) → IsNamedBy spec call.args plan (s, mode)
lock_named spec sealed plan call fits planned c choice mode rest bs found held at one s m =
    named_law spec sealed.accepted.placed call (op_at spec call.op) (fits_at_op spec call fits) plan planned.known planned.rules (rows_on spec one.0 (stripes_held held)) (s, mode)
    (named_at spec plan call c choice mode rest bs found held at one.0 one.1 (stripes_held held) (λ n k. k) s m)

pub lock_refused : (spec : Spec) (plan : List Statement) (call : Call) (c : ℕ) (choice : Which) (mode : Mode) (rest : List Statement) (bs : List Pairs) (found : Option Pairs) (old new : Holding) (n : ℕ)
    → IsAt spec plan call (Lock c choice mode ∷ rest) bs found (held_of old) → HasLocked old new (take n (gather nat_cmp (stripes_locked spec c choice bs))) mode → AreOfOneRelation spec (held_of new) → (answer : Held)
    → HasRefusedOne old new (gather nat_cmp (stripes_locked spec c choice bs)) mode answer → IsRefused spec plan call old new answer
lock_refused spec plan call c choice mode rest bs found old new n at f one answer g =
    let held : List HeldStripe = held_of old in
    let now : List HeldStripe = held_of new in
    let r : List Pairs = one.0 in
    let a : AreOfRelation spec now r = one.1 in
    let within : Within (stripes_held held) (stripes_held now) = (λ s m.
    let q : (h : HeldStripe) × In h held × (s ≡ h.stripe) = in_map (λ (h : HeldStripe). h.stripe) s held m in
    subst (λ z. In z (stripes_held now)) (sym q.2) (map_in (λ (h : HeldStripe). h.stripe) q.0 now (subst (In q.0) (sym f.beside) (append_in_left q.0 held f.more q.1)))) in
    record {
      risen = g.risen;
      mode = mode;
      last = g.last;
      above = g.above;
      named = subst (λ z. In (answer.stripe, mode) (eval spec plan call z).named) (sym (taken_together spec r now a))
          (named_at spec plan call c choice mode rest bs found held at r (fewer spec r held f.more now f.beside a) (stripes_held now) within answer.stripe
          (in_gather nat_cmp nat_order answer.stripe (stripes_locked spec c choice bs) g.wanted));
    }

-- a refusal later in a run is one of the run
pub refused_since : (spec : Spec) (plan : List Statement) (call : Call) (first old new : Holding) (answer : Held) → GoesOn first old → IsRefused spec plan call old new answer → IsRefused spec plan call first new answer
refused_since spec plan call first old new answer on g = record { risen = risen_since first old new on g.risen; mode = g.mode; last = g.last; above = g.above; named = g.named }

-- ---- ends

module _ (spec : Spec) (sealed : IsSealed spec) (plan : List Statement) (call : Call) (fits : Fits spec call) (planned : IsPlanOf spec call.op plan) (rest : List Statement) (bs : List Pairs) (old : Option Pairs) (held : List HeldStripe) (one : AreOfOneRelation spec held) where
  -- where a run stands that has replied
  abbrev replied : Reply → List EdgeRow → RunState
  replied reply rows = record { bindings = bs; named = locks_of held; old = old; reply = Some reply; rows = rows }

  -- a statement that replies and changes nothing
  pub replies : (x : Statement) → IsAt spec plan call (x ∷ rest) bs old held → (reply : Reply)
      → ((rows : List EdgeRow) → run_one spec (op_at spec call.op) call (updating old bs (locks_of held) rows) x ≡ replied reply rows)
      → HasReplied spec plan call held reply
  replies x at reply f = record {
    evaluated = ends_evaluated spec sealed plan call fits planned x rest bs old held at reply f one.0 one.1;
    served = ends_served spec sealed plan call fits planned x rest bs old held at reply f;
  }

  pub absent_goes : IsAt spec plan call (CheckAbsent ∷ rest) bs old held → (o : Option Reply) → o ≡ cond (some_left bs) (Some Present) None → HasGoneOn spec plan call rest bs old held o
  absent_goes at o e = subst (HasGoneOn spec plan call rest bs old held) (sym e) (go (some_left bs) refl)
    where
      go : (b : Bool) → some_left bs ≡ b → HasGoneOn spec plan call rest bs old held (cond b (Some Present) None)
      go true q = replies CheckAbsent at Present (λ rows. ap (λ b. cond b (replied Present rows) (updating old bs (locks_of held) rows)) q)
      go false q = absent_step spec sealed plan call fits rest bs old held at q

  pub dep_goes : (dep : ℕ) → IsAt spec plan call (CheckDep dep ∷ rest) bs old held → (o : Option Reply) → o ≡ cond (some_differs spec (op_at spec call.op) dep call.args bs) (Some (Conflict dep)) None → HasGoneOn spec plan call rest bs old held o
  dep_goes dep at o e = subst (HasGoneOn spec plan call rest bs old held) (sym e) (go (some_differs spec (op_at spec call.op) dep call.args bs) refl)
    where
      go : (b : Bool) → some_differs spec (op_at spec call.op) dep call.args bs ≡ b → HasGoneOn spec plan call rest bs old held (cond b (Some (Conflict dep)) None)
      go true q = replies (CheckDep dep) at (Conflict dep) (λ rows. ap (λ b. cond b (replied (Conflict dep) rows) (updating old bs (locks_of held) rows)) q)
      go false q = dep_step spec sealed plan call fits dep rest bs old held at q

  pub emit_replies : IsAt spec plan call (Emit ∷ rest) bs old held → (kind : OpKind) → (op_at spec call.op).kind ≡ kind → (reply : Reply)
      → ((outs ranges : List ℕ) → kind ≡ Query outs ranges → reply ≡ answer spec.most_rows outs (filter (in_ranges call.ranges) bs)) → HasReplied spec plan call held reply
  emit_replies at (Query outs ranges) k reply f = replies Emit at reply (λ rows.
      ap (λ z. emit spec.most_rows z call.ranges (updating old bs (locks_of held) rows)) k ∙ ap (λ x. replied x rows) (sym (f outs ranges refl)))
  emit_replies at Insert k reply f = absurd (subst IsQuery k at.keeps.0.k1.1)
  emit_replies at Remove k reply f = absurd (subst IsQuery k at.keeps.0.k1.1)
  emit_replies at Update k reply f = absurd (subst IsQuery k at.keeps.0.k1.1)

  -- ---- Apply

  module _ (at : IsAt spec plan call (Apply ∷ rest) bs old held) where
    may_apply : (outs ranges : List ℕ) → (op_at spec call.op).kind ≡ Query outs ranges → ⊥
    may_apply outs ranges k = subst (λ z. MayApply z at.progress) k at.keeps.0.k1.1

    insert_runs : (op_at spec call.op).kind ≡ Insert → (rows : List EdgeRow) → run_one spec (op_at spec call.op) call (updating old bs (locks_of held) rows) Apply
        ≡ replied Inserted (all_done raised spec call.args (edge_numbers spec) rows)
    insert_runs k rows = ap (λ z. apply spec z call.args (updating old bs (locks_of held) rows)) k
        ∙ ap (replied Inserted) (sym (raised_done spec call.args (edge_numbers spec) rows))

    update_runs : (op_at spec call.op).kind ≡ Update → (o : Pairs) → old ≡ Some o → (rows : List EdgeRow) → run_one spec (op_at spec call.op) call (updating old bs (locks_of held) rows) Apply
        ≡ replied (Updated o) (all_done raised spec call.args (edge_numbers spec) (all_done lowered spec o (edge_numbers spec) rows))
    update_runs k o e rows =
        ap (λ z. apply spec z call.args (updating old bs (locks_of held) rows)) k
        ∙ ap (λ z. replace spec z call.args (updating old bs (locks_of held) rows)) e
        ∙ ap (replied (Updated o)) (sym (raised_done spec call.args (edge_numbers spec) (all_done lowered spec o (edge_numbers spec) rows) ∙ ap (all_raised spec call.args (edge_numbers spec)) (lowered_done spec o (edge_numbers spec) rows)))

    same_some : (x y : Reply) → Some x ≡ Some y → x ≡ y
    same_some x y e = cc

    -- the plain step gives the reply too
    plainly : (reply : Reply) (change : List EdgeRow → List EdgeRow) → ((rows : List EdgeRow) → run_one spec (op_at spec call.op) call (updating old bs (locks_of held) rows) Apply ≡ replied reply (change rows))
        → (plain spec one.0 call).reply ≡ reply
    plainly reply change f =
        let e = evaluated spec sealed plan call fits Apply rest bs old held at reply change f one.0 one.1 in
        same_some (plain spec one.0 call).reply reply
        (sym (serves spec sealed plan call fits planned one.0 held one.1 (ap (λ (z : RunState). z.named) e)).reply ∙ ap (λ z. (eval spec plan call (rows_on spec one.0 z)).reply) (stripes_named held) ∙ ap (λ (z : RunState). z.reply) e)

    -- the old tuple's rows can be taken out, and then the new one's be added
    can_update : (op_at spec call.op).kind ≡ Update → (o : Pairs) → old ≡ Some o → CanReplace spec o call.args held
    can_update k o e =
        let update : IsUpdate (op_at spec call.op).kind = subst IsUpdate (sym k) tt in
        let gives : GivesTuple (op_at spec call.op).kind = subst GivesTuple (sym k) tt in
        let r : List Pairs = one.0 in
        let a : AreOfRelation spec held r = one.1 in
        let on : IsOn spec r (op_at spec call.op) call.args at.progress bs old (locks_of held) = at.on r a in
        let done : ChecksAreDone spec (op_at spec call.op) Update at.progress = subst (λ z. ChecksAreDone spec (op_at spec call.op) z at.progress) k at.keeps.0.k7 in
        let found = on.found update done.0 in
        let is : IsOld r call.args (op_at spec call.op).pattern o = subst (IsOld r call.args (op_at spec call.op).pattern) (same_tuple found.0 o (sym found.1 ∙ e)) found.2 in
        let after : (plain spec r call).relation ≡ put tuple_cmp call.args (without o r) = updated_relation spec sealed call fits update r a.relation a.satisfies o is
        (plainly (Updated o) (λ rows. all_done raised spec call.args (edge_numbers spec) (all_done lowered spec o (edge_numbers spec) rows)) (update_runs k o e)) in
        can_replace spec sealed r held at.unchanged a o (old_there spec sealed call fits update r a.relation a.satisfies o is).0
        (subst (λ stripes. AllHeld spec stripes o) (stripes_named held) (old_named spec sealed call fits update r a.relation a.satisfies at.progress (locks_of held) (on.tuple gives).named at.keeps.0.k4.0 at.keeps.0.k4.1 o is))
        call.args (whole_tuple spec call fits gives) fits.1.tuple (subst (λ z. Satisfies z spec.deps) after (plain_satisfies spec r call a.satisfies))
        (tuple_named spec sealed plan call fits rest bs old held at r a gives) (at.modes (λ q. subst IsQuery k q))
      where
        same_tuple : (x y : Pairs) → Some x ≡ Some y → x ≡ y
        same_tuple x y e = cc

    pub can_apply : (kind : OpKind) → (op_at spec call.op).kind ≡ kind → CanApply spec kind call.args old bs held
    can_apply (Query outs ranges) k = may_apply outs ranges k
    can_apply Insert k = record {
      counted = counted_at spec sealed one.0 held at.unchanged one.1;
      whole = whole_tuple spec call fits (is_insert (op_at spec call.op).kind k);
      exclusive = insert_exclusive spec sealed plan call fits rest bs old held at one.0 one.1 k;
      addable = insert_addable spec sealed plan call fits rest bs old held at one.0 one.1 k (plainly Inserted (all_done raised spec call.args (edge_numbers spec)) (insert_runs k));
    }
    can_apply Remove k = λ b m. record {
      counted = counted_at spec sealed one.0 held at.unchanged one.1;
      whole = found_whole spec sealed plan call fits rest bs old held at one.0 one.1 k b m;
      exclusive = remove_exclusive spec sealed plan call fits rest bs old held at one.0 one.1 k b m;
      there = remove_there spec sealed plan call fits rest bs old held at one.0 one.1 k b m;
    }
    can_apply Update k = can_update k

-- CheckFound keeps the least binding, or replies
pub found_goes : (spec : Spec) (sealed : IsSealed spec) (plan : List Statement) (call : Call) (fits : Fits spec call) (planned : IsPlanOf spec call.op plan) (rest : List Statement) (bs : List Pairs) (old : Option Pairs) (held : List HeldStripe)
    → AreOfOneRelation spec held → IsAt spec plan call (CheckFound ∷ rest) bs old held → (new : Option Pairs) (o : Option Reply) → HasKeptLeast bs new o → HasGoneOn spec plan call rest bs new held o
found_goes spec sealed plan call fits planned rest [] old held one at new o kept =
    subst (HasGoneOn spec plan call rest [] new held) (sym kept) (replies spec sealed plan call fits planned rest [] old held one CheckFound at Absent (λ rows. refl))
found_goes spec sealed plan call fits planned rest (b ∷ others) old held one at new o kept =
    subst (HasGoneOn spec plan call rest (b ∷ others) new held) (sym kept.0)
    (subst (λ z. IsAt spec plan call rest (b ∷ others) z held) (sym kept.1) (found_step spec sealed plan call fits rest b others old held at))

-- ---- after Apply

module _ (spec : Spec) (sealed : IsSealed spec) (plan : List Statement) (call : Call) (fits : Fits spec call) (planned : IsPlanOf spec call.op plan) (rest : List Statement) (held : List HeldStripe) where
  changed_replies : (bs : List Pairs) (old : Option Pairs) (at : IsAt spec plan call (Apply ∷ rest) bs old held) (change : Change) → LeavesOthers change → IsLocal change → (reply : Reply) (t : Pairs)
      → ((rows : List EdgeRow) → run_one spec (op_at spec call.op) call (updating old bs (locks_of held) rows) Apply ≡ record { bindings = bs; named = locks_of held; old = old; reply = Some reply; rows = all_done change spec t (edge_numbers spec) rows })
      → (new : List HeldStripe) (answer : Reply) → answer ≡ reply → new ≡ all_changed change spec t (edge_numbers spec) held → AreOfOneRelation spec new → HasReplied spec plan call new answer
  changed_replies bs old at change leaves local reply t f new answer e is one =
      subst (HasReplied spec plan call new) (sym e)
      (subst (λ z. AreOfOneRelation spec z → HasReplied spec plan call z reply) (sym is) (λ one. record {
        evaluated = changed_evaluated spec sealed plan call fits planned change leaves local Apply rest bs old held at reply t f one.0 one.1;
        served = changed_served spec sealed plan call fits planned change leaves local Apply rest bs old held at reply t f;
      }) one)

  unchanged_replies : (bs : List Pairs) (old : Option Pairs) (at : IsAt spec plan call (Apply ∷ rest) bs old held) → AreOfOneRelation spec held → (reply : Reply)
      → ((rows : List EdgeRow) → run_one spec (op_at spec call.op) call (updating old bs (locks_of held) rows) Apply ≡ record { bindings = bs; named = locks_of held; old = old; reply = Some reply; rows = rows })
      → (new : List HeldStripe) (answer : Reply) → answer ≡ reply → new ≡ held → HasReplied spec plan call new answer
  unchanged_replies bs old at one reply f new answer e is =
      subst (HasReplied spec plan call new) (sym e) (subst (λ z. HasReplied spec plan call z reply) (sym is) (replies spec sealed plan call fits planned rest bs old held one Apply at reply f))

  removed_replies : (bs : List Pairs) (old : Option Pairs) (at : IsAt spec plan call (Apply ∷ rest) bs old held) → AreOfOneRelation spec held → (op_at spec call.op).kind ≡ Remove → (new : List HeldStripe) (answer : Reply)
      → HasRemoved spec bs held new answer → AreOfOneRelation spec new → HasReplied spec plan call new answer
  removed_replies [] old at one k new answer h one' =
      unchanged_replies [] old at one Absent (λ rows. ap (λ z. apply spec z call.args (updating old [] (locks_of held) rows)) k) new answer h.0 h.1
  removed_replies (b ∷ bs) old at one k new answer h one' =
      changed_replies (b ∷ bs) old at lowered lowered_leaves lowered_local (Removed b) b
      (λ rows. ap (λ z. apply spec z call.args (updating old (b ∷ bs) (locks_of held) rows)) k
      ∙ ap (λ ws. let z : RunState = record { bindings = b ∷ bs; named = locks_of held; old = old; reply = Some (Removed b); rows = ws } in z) (sym (lowered_done spec b (edge_numbers spec) rows)))
      new answer h.0 h.1 one'

  updated_replies : (bs : List Pairs) (old : Option Pairs) (at : IsAt spec plan call (Apply ∷ rest) bs old held) → AreOfOneRelation spec held → (op_at spec call.op).kind ≡ Update → (new : List HeldStripe) (answer : Reply)
      → HasReplaced spec call.args old held new answer → AreOfOneRelation spec new → HasReplied spec plan call new answer
  updated_replies bs None at one k new answer h one' =
      unchanged_replies bs None at one Absent (λ rows. ap (λ z. apply spec z call.args (updating None bs (locks_of held) rows)) k) new answer h.0 h.1
  updated_replies bs (Some o) at one k new answer h one' =
      let change : List EdgeRow → List EdgeRow = λ rows. all_done raised spec call.args (edge_numbers spec) (all_done lowered spec o (edge_numbers spec) rows) in
      let ends = evaluated spec sealed plan call fits Apply rest bs (Some o) held at (Updated o) change (update_runs spec sealed plan call fits planned rest bs (Some o) held one at k o refl) in
      subst (HasReplied spec plan call new) (sym h.0)
      (subst (λ z. AreOfOneRelation spec z → HasReplied spec plan call z (Updated o)) (sym h.1) (λ one. record {
        evaluated = replaced_evaluated spec sealed plan call fits planned bs (Some o) held at.unchanged at.stripes_rise (Updated o) o call.args ends one.0 one.1;
        served = replaced_served spec sealed plan call fits planned bs (Some o) held at.unchanged at.stripes_rise (Updated o) o call.args ends;
      }) one')

  pub applied_replies : (bs : List Pairs) (old : Option Pairs) (at : IsAt spec plan call (Apply ∷ rest) bs old held) → AreOfOneRelation spec held → (kind : OpKind) → (op_at spec call.op).kind ≡ kind → (new : List HeldStripe) (answer : Reply)
      → HasApplied spec kind call.args old bs held new answer → AreOfOneRelation spec new → HasReplied spec plan call new answer
  applied_replies bs old at one (Query outs ranges) k new answer h one' = absurd h
  applied_replies bs old at one Insert k new answer h one' =
      changed_replies bs old at raised raised_leaves raised_local Inserted call.args (insert_runs spec sealed plan call fits planned rest bs old held one at k) new answer h.0 h.1 one'
  applied_replies bs old at one Remove k new answer h one' = removed_replies bs old at one k new answer h one'
  applied_replies bs old at one Update k new answer h one' = updated_replies bs old at one k new answer h one'

-- ---- what was taken as offered stays so

-- each of the stripes was taken as it is offered
abbrev AreTold : Holding → List HeldStripe → Type 0
AreTold s held = (h : HeldStripe) → In h held → AreOffered (offered_at s h.stripe) h.taken

told_now : (old new : Holding) → GoesOn old new → (held : List HeldStripe) → AreTold old held → held_of new ≡ held → AreTakenAsOffered new
told_now old new on held told is h m = subst (λ offered. AreOffered (get_or offered h.stripe None) h.taken) (sym on.offered) (told h (subst (In h) is m))

pub told_same : (old new : Holding) → GoesOn old new → held_of new ≡ held_of old → AreTakenAsOffered old → AreTakenAsOffered new
told_same old new on is told = told_now old new on (held_of old) told is

-- stripes that are as taken what they were
pub told_alike : (old new : Holding) → GoesOn old new → map reverted (held_of new) ≡ map reverted (held_of old) → AreTakenAsOffered old → AreTakenAsOffered new
told_alike old new on is told h m =
    let r : In (reverted h) (map reverted (held_of old)) = subst (In (reverted h)) is (map_in reverted h (held_of new) m) in
    let w : (g : HeldStripe) × In g (held_of old) × (reverted h ≡ reverted g) = in_map reverted (reverted h) (held_of old) r in
    subst (λ offered. AreOffered (get_or offered h.stripe None) h.taken) (sym on.offered)
    (subst (λ (z : HeldStripe). AreOffered (get_or old.offered z.stripe None) z.taken) (sym w.2) (told w.0 w.1))

-- and so it is after a change
told_after : (spec : Spec) (change : Change) → LeavesOthers change → (t : Pairs) (s : Holding) (held : List HeldStripe) → AreTold s held → AreTold s (all_changed change spec t (edge_numbers spec) held)
told_after spec change leaves t s held told h m =
    let q : (g : HeldStripe) × In g held × IsSameAt (length spec.edges) g h = (stripes_stay change leaves spec t held).came h m in
    subst (λ n. AreOffered (offered_at s n) h.taken) (sym q.2.stripe) (subst (λ ws. AreOffered (offered_at s q.0.stripe) ws) (sym q.2.taken) (told q.0 q.1))

pub applied_told : (spec : Spec) (kind : OpKind) (t : Pairs) (found : Option Pairs) (bs : List Pairs) (old new : Holding) (answer : Reply) → HasApplied spec kind t found bs (held_of old) (held_of new) answer → GoesOn old new
    → AreTakenAsOffered old → AreTakenAsOffered new
applied_told spec (Query outs ranges) t found bs old new answer h on told = absurd h
applied_told spec Insert t found bs old new answer h on told = told_now old new on (all_changed raised spec t (edge_numbers spec) (held_of old)) (told_after spec raised raised_leaves t old (held_of old) told) h.1
applied_told spec Remove t found [] old new answer h on told = told_same old new on h.1 told
applied_told spec Remove t found (b ∷ bs) old new answer h on told = told_now old new on (all_changed lowered spec b (edge_numbers spec) (held_of old)) (told_after spec lowered lowered_leaves b old (held_of old) told) h.1
applied_told spec Update t None bs old new answer h on told = told_same old new on h.1 told
applied_told spec Update t (Some o) bs old new answer h on told =
    let half : List HeldStripe = all_changed lowered spec o (edge_numbers spec) (held_of old) in
    told_now old new on (replaced_in spec o t (held_of old)) (told_after spec raised raised_leaves t old half (told_after spec lowered lowered_leaves o old (held_of old) told)) h.1
