-- A run whose Locks are taken, of a change that finds what it is to find and checks no dependency, comes to its Apply.
use Rattle.std.specs.Prelude.{◌≡◌, ℕ, Bool, true, false, List, [], ◌∷◌, Option, Some}
use Rattle.rc_machine.proofs.Imports.{list_any, nat_cmp, false≢true, or_parts, slice_get_within, In, gather_in, nat_order, Pairs, project, Call, OpKind, Query, Insert, Remove, Update, Spec, IsSealed, Fits, GivesTuple, join, tuples_of_edge, op_at, AreOfOneRelation, HeldStripe, Statement, Lock, Probe, Read, CheckAbsent, CheckFound, CheckDep, Apply, Emit, Commit, Release, is_dep_check, is_lock, some_left, ChecksAreDone, IsInsert, IsQuery, IsUpdate, Phase, pattern_columns, found_one, one_left, seen_at, IsOld, locks_of, rows_now, IsAt, IsOn}
use Rattle.std.proofs.Common.{refl, ap, subst, sym, ◌∙◌}
use Rattle.rc_machine.proofs.CheckStepLemmas.{absent_step, probe_step, whole_tuple}
use Rattle.rc_machine.proofs.ReadStepLemmas.{read_step}
use Rattle.rc_machine.proofs.UpdateLemmas.{found_step, kept_bindings}

is_insert : (kind : OpKind) → IsInsert kind → kind ≡ Insert
is_insert (Query outs ranges) i = absurd i
is_insert Insert i = refl
is_insert Remove i = absurd i
is_insert Update i = absurd i

module _ (spec : Spec) (sealed : IsSealed spec) (plan : List Statement) (call : Call) (fits : Fits spec call) (held : List HeldStripe) (one : AreOfOneRelation spec held) where
  abbrev pattern : List ℕ
  pattern = pattern_columns (op_at spec call.op)

  -- no tuple of the relation has the values at an insert's pattern
  abbrev pub IsNew : Type 0
  IsNew = IsInsert (op_at spec call.op).kind → (u : Pairs) → In u one.0 → project pattern call.args ≡ project pattern u → ⊥

  -- some tuple of the relation has the values at an update's pattern
  abbrev pub HasOld : Type 0
  HasOld = IsUpdate (op_at spec call.op).kind → (o : Pairs) × IsOld one.0 call.args (op_at spec call.op).pattern o

  -- where a run stands whose next statement is an Apply
  abbrev pub ComesToApply : Type 0
  ComesToApply = (rest : List Statement) × (bs : List Pairs) × (old : Option Pairs) × IsAt spec plan call (Apply ∷ rest) bs old held

  some_pattern : IsInsert (op_at spec call.op).kind → (op_at spec call.op).pattern ≡ [] → ⊥
  some_pattern i = (sealed.accepted.ops call.op (slice_get_within spec.ops call.op fits.0 fits.1.known)).o1 (is_insert (op_at spec call.op).kind i)

  -- where none has them, no binding is left at a check for one
  none_found : IsNew → (rest : List Statement) (bs : List Pairs) (old : Option Pairs) (at : IsAt spec plan call (CheckAbsent ∷ rest) bs old held) → some_left bs ≡ false
  none_found new rest bs old at = go (some_left bs) refl
    where
      insert : IsInsert (op_at spec call.op).kind
      insert = at.keeps.0.k1.1

      o : IsOn spec one.0 (op_at spec call.op) call.args at.progress bs old (locks_of held)
      o = at.on one.0 one.1

      go : (b : Bool) → some_left bs ≡ b → some_left bs ≡ false
      go false e = e
      go true e =
          let gives : GivesTuple (op_at spec call.op).kind = subst GivesTuple (sym (is_insert (op_at spec call.op).kind insert)) tt in
          let over = whole_tuple spec call fits gives in
          let seen = seen_at spec one.0 one.1.relation call.args over at.progress o.sought bs (locks_of held) o.search (o.tuple gives).probing pattern at.keeps.0.k6.0 (op_at spec call.op).pattern (some_pattern insert)
          (λ c m. at.keeps.0.k6.1 c (gather_in nat_cmp nat_order c (op_at spec call.op).pattern m)) in
          let b = one_left bs e in
          let u = found_one spec one.0 one.1.relation call.args over pattern at.progress.visited bs seen at.keeps.0.k6.1 b.0 b.1 in
          absurd (new insert u.0 u.1 u.2)

  -- where some tuple has them, CheckFound keeps it
  old_found : HasOld → (rest : List Statement) (bs : List Pairs) (old : Option Pairs) → IsAt spec plan call (CheckFound ∷ rest) bs old held → (new : List Pairs) × (o : Pairs) × IsAt spec plan call rest new (Some o) held
  old_found has rest bs old at =
      let update : IsUpdate (op_at spec call.op).kind = at.keeps.0.k1.1 in
      let o = has update in
      let found : bs ≡ o.0 ∷ o.1.0 = kept_bindings spec sealed plan call fits rest bs old held at one.0 one.1 ∙ o.1.1 in
      (o.0 ∷ o.1.0, o.0, found_step spec sealed plan call fits rest o.0 o.1.0 old held (subst (λ z. IsAt spec plan call (CheckFound ∷ rest) z old held) found at))

  module _ (no_query : IsQuery (op_at spec call.op).kind → ⊥) (new : IsNew) (has : HasOld) where
    pub arrives : (rest : List Statement) → list_any is_lock rest ≡ false → (GivesTuple (op_at spec call.op).kind → list_any is_dep_check rest ≡ false)
        → (bs : List Pairs) (old : Option Pairs) → IsAt spec plan call rest bs old held → ComesToApply
    arrives [] others unchecked bs old at = absurd (let e : Phase.Searching ≡ Phase.Committed = sym (at.on one.0 one.1).search.phase ∙ at.keeps.0 in cc)
    arrives (Lock c choice mode ∷ rest) others unchecked bs old at = absurd (false≢true (sym (or_parts true (list_any is_lock rest) others).0))
    arrives (Probe xs ∷ rest) others unchecked bs old at = arrives rest others unchecked (project xs call.args ∷ []) old (probe_step spec sealed plan call fits xs rest bs old held at)
    arrives (Read e mode ∷ rest) others unchecked bs old at =
        let joined : List Pairs = join bs (tuples_of_edge e (rows_now held)) in
        arrives rest others unchecked joined old (read_step spec sealed plan call e mode rest bs old held at joined refl one.0 one.1)
    arrives (CheckAbsent ∷ rest) others unchecked bs old at = arrives rest others unchecked bs old (absent_step spec sealed plan call fits rest bs old held at (none_found new rest bs old at))
    arrives (CheckFound ∷ rest) others unchecked bs old at = let kept = old_found has rest bs old at in arrives rest others unchecked kept.0 (Some kept.1) kept.2
    arrives (CheckDep dep ∷ rest) others unchecked bs old at = absurd (false≢true (sym (or_parts true (list_any is_dep_check rest) (unchecked at.keeps.0.k1.1)).0))
    arrives (Apply ∷ rest) others unchecked bs old at = (rest, bs, old, at)
    arrives (Emit ∷ rest) others unchecked bs old at = absurd (no_query at.keeps.0.k1.1)
    arrives (Commit ∷ rest) others unchecked bs old at = absurd (let e : Phase.Searching ≡ Phase.Decided = sym (at.on one.0 one.1).search.phase ∙ at.keeps.0.k1 in cc)
    arrives (Release c ∷ rest) others unchecked bs old at = absurd (let e : Phase.Searching ≡ Phase.Committed = sym (at.on one.0 one.1).search.phase ∙ at.keeps.0.k1.0 in cc)

  -- what an update's Apply is given is the tuple that has the values
  pub old_kept : (rest : List Statement) (bs : List Pairs) (old : Option Pairs) (at : IsAt spec plan call (Apply ∷ rest) bs old held) → (op_at spec call.op).kind ≡ Update
      → (o : Pairs) → IsOld one.0 call.args (op_at spec call.op).pattern o → old ≡ Some o
  old_kept rest bs old at kind o is =
      let update : IsUpdate (op_at spec call.op).kind = subst IsUpdate (sym kind) tt in
      let done : ChecksAreDone spec (op_at spec call.op) Update at.progress = subst (λ z. ChecksAreDone spec (op_at spec call.op) z at.progress) kind at.keeps.0.k7 in
      let found = (at.on one.0 one.1).found update done.0 in
      found.1 ∙ ap Some (first_same found.0 o found.2.0 is.0 (sym found.2.1 ∙ is.1))
    where
      first_same : (x y : Pairs) (xs ys : List Pairs) → x ∷ xs ≡ y ∷ ys → x ≡ y
      first_same x y xs ys e = cc
