-- What an update knows of the tuple that it takes the place of.
use Rattle.std.specs.Prelude.{◌≡◌, ℕ, ◌<◌, true, List, [], ◌∷◌, None, Option, Some, filter, length}
use Rattle.rc_machine.proofs.Imports.{nat_cmp, slice_get_within, In, gather, put, in_gather, nat_order, slice_get_in, Within, in_range_below, Pairs, agree_on, cols_of, project, tuple_cmp, Follows, IsRelation, Satisfies, Dep, Call, Conflict, Updated, Op, OpKind, Query, Insert, Remove, Update, Range, Spec, IsSealed, Fits, GivesTuple, all_columns, fits_at_op, AllHeld, IsOpAmong, FindsByKey, class_of, op_at, Outcome, first_broken_dependency, plain, plain_by, updated_unless, without, plain-known, update-found, AreOfRelation, HeldStripe, Statement, CheckFound, Which, HasNamed, CoversOld, IsLocked, IsUpdate, Progress, after, pattern_columns, IsProbing, seen_at, IsSearching, StripeLock, stripes_of, IsOld, bindings_agree, old_in, old_is_named, locks_of, IsAt, IsOn}
use Rattle.std.proofs.Common.{inr, refl, sym, ap, subst, ◌∙◌}
use Rattle.rc_machine.proofs.CheckStepLemmas.{check_on, whole_tuple}

update_gives : (kind : OpKind) → IsUpdate kind → GivesTuple kind
update_gives (Query outs ranges) u = absurd u
update_gives Insert u = absurd u
update_gives Remove u = absurd u
update_gives Update u = u

update_finds : (kind : OpKind) → IsUpdate kind → FindsByKey kind
update_finds (Query outs ranges) u = absurd u
update_finds Insert u = absurd u
update_finds Remove u = absurd u
update_finds Update u = u

update_is : (kind : OpKind) → IsUpdate kind → kind ≡ Update
update_is (Query outs ranges) u = absurd u
update_is Insert u = absurd u
update_is Remove u = absurd u
update_is Update u = refl

covers_update : (spec : Spec) (op : Op) (kind : OpKind) (p : Progress) → IsUpdate kind → CoversOld spec op kind p → CoversOld spec op Update p
covers_update spec op (Query outs ranges) p u c = absurd u
covers_update spec op Insert p u c = absurd u
covers_update spec op Remove p u c = absurd u
covers_update spec op Update p u c = c

-- an update that is answered Updated has put the tuple in the place of the old one
updated_by : (most : ℕ) (pattern : List ℕ) (deps : List Dep) (t : Pairs) (ranges : List Range) (r : List Pairs) (o : Pairs) → IsOld r t pattern o
    → (plain_by most Update pattern deps t ranges r).reply ≡ Updated o → (plain_by most Update pattern deps t ranges r).relation ≡ put tuple_cmp t (without o r)
updated_by most pattern deps t ranges r o is e =
    let broken : Option ℕ = first_broken_dependency 1 deps (put tuple_cmp t (without o r)) in
    let does : plain_by most Update pattern deps t ranges r ≡ updated_unless broken o (put tuple_cmp t (without o r)) r = update-found most pattern deps t ranges r o is.0 broken is.1 refl in
    ap (λ (z : Outcome). z.relation) does ∙ go broken (sym (ap (λ (z : Outcome). z.reply) does) ∙ e)
  where
    go : (broken : Option ℕ) → (updated_unless broken o (put tuple_cmp t (without o r)) r).reply ≡ Updated o → (updated_unless broken o (put tuple_cmp t (without o r)) r).relation ≡ put tuple_cmp t (without o r)
    go None e = refl
    go (Some n) e = absurd (let q : Conflict n ≡ Updated o = e in cc)

updated_kind : (most : ℕ) (kind : OpKind) (pattern : List ℕ) (deps : List Dep) (t : Pairs) (ranges : List Range) (r : List Pairs) (o : Pairs) → kind ≡ Update → IsOld r t pattern o
    → (plain_by most kind pattern deps t ranges r).reply ≡ Updated o → (plain_by most kind pattern deps t ranges r).relation ≡ put tuple_cmp t (without o r)
updated_kind most kind pattern deps t ranges r o k is e =
    ap (λ z. (plain_by most z pattern deps t ranges r).relation) k ∙ updated_by most pattern deps t ranges r o is (sym (ap (λ z. (plain_by most z pattern deps t ranges r).reply) k) ∙ e)

module _ (spec : Spec) (sealed : IsSealed spec) (call : Call) (fits : Fits spec call) (update : IsUpdate (op_at spec call.op).kind) (r : List Pairs) (i : IsRelation (all_columns spec) r) (h : Satisfies r spec.deps) where
  over : cols_of call.args ≡ all_columns spec
  over = whole_tuple spec call fits (update_gives (op_at spec call.op).kind update)

  known_pattern : Within (gather nat_cmp (op_at spec call.op).pattern) (all_columns spec)
  known_pattern c m =
      let among : IsOpAmong (length spec.columns) (op_at spec call.op) = sealed.in_range.known_ops (op_at spec call.op) (slice_get_in spec.ops call.op (op_at spec call.op) (fits_at_op spec call fits).known) in
      in_range_below (length spec.columns) c (among.pattern c (in_gather nat_cmp nat_order c (op_at spec call.op).pattern m))

  some_column : all_columns spec ≡ [] → ⊥
  some_column e = subst (In 0) e (in_range_below (length spec.columns) 0 sealed.populated.column)

  key : Follows spec.deps (gather nat_cmp (op_at spec call.op).pattern) (all_columns spec)
  key = (sealed.accepted.ops call.op (slice_get_within spec.ops call.op fits.0 fits.1.known)).o2 (update_finds (op_at spec call.op).kind update)

  -- what is found behind a Probe of the pattern is what agrees with the call's tuple on it
  pub found_bindings : (p : Progress) (s : Pairs) (bs : List Pairs) (ns : List StripeLock) → IsSearching spec r s p bs ns → IsProbing call.args p s bs
      → p.probe ≡ Some (pattern_columns (op_at spec call.op)) → Within (all_columns spec) p.visited → bs ≡ filter (agree_on (op_at spec call.op).pattern call.args) r
  found_bindings p s bs ns search probing probe visited =
      bindings_agree spec sealed.in_range sealed.accepted.adequate sealed.accepted.placed r i h call over (op_at spec call.op).name (op_at spec call.op).pattern known_pattern some_column key [] p.visited bs
      (seen_at spec r i call.args over p s bs ns search probing (gather nat_cmp (op_at spec call.op).pattern) probe (all_columns spec) some_column visited) visited search.rising

  -- the old tuple is of the relation, and agrees with the call's on the pattern
  pub old_there : (o : Pairs) → IsOld r call.args (op_at spec call.op).pattern o → In o r × (project (op_at spec call.op).pattern call.args ≡ project (op_at spec call.op).pattern o)
  old_there = old_in spec sealed.in_range sealed.accepted.adequate sealed.accepted.placed r i h call over (op_at spec call.op).name (op_at spec call.op).pattern known_pattern some_column key []

  -- its rows fall on named stripes
  pub old_named : (p : Progress) (ns : List StripeLock) → ((x : ℕ × Which) → In x p.locked → HasNamed spec call.args (stripes_of ns) x.0 x.1)
      → ((e : ℕ) → e < length spec.edges → IsLocked p (class_of spec e)) → CoversOld spec (op_at spec call.op) (op_at spec call.op).kind p
      → (o : Pairs) → IsOld r call.args (op_at spec call.op).pattern o → AllHeld spec (stripes_of ns) o
  old_named p ns locks k4 covers o is =
      let there = old_there o is in
      old_is_named spec sealed.in_range sealed.accepted.adequate sealed.accepted.placed r i h call over (op_at spec call.op).name (op_at spec call.op).pattern known_pattern some_column key [] p ns locks k4
      (covers_update spec (op_at spec call.op) (op_at spec call.op).kind p update covers) o there.0 there.1

  -- the relation after an update that is answered Updated
  pub updated_relation : (o : Pairs) → IsOld r call.args (op_at spec call.op).pattern o → (plain spec r call).reply ≡ Updated o → (plain spec r call).relation ≡ put tuple_cmp call.args (without o r)
  updated_relation o is e =
      let at = fits_at_op spec call fits in
      let known : plain spec r call ≡ plain_by spec.most_rows (op_at spec call.op).kind (op_at spec call.op).pattern spec.deps call.args call.ranges r = plain-known spec r call (op_at spec call.op) at.known in
      ap (λ (z : Outcome). z.relation) known
      ∙ updated_kind spec.most_rows (op_at spec call.op).kind (op_at spec call.op).pattern spec.deps call.args call.ranges r o (update_is (op_at spec call.op).kind update) is (sym (ap (λ (z : Outcome). z.reply) known) ∙ e)

-- what is found before CheckFound is what agrees with the call's tuple on the pattern
pub kept_bindings : (spec : Spec) (sealed : IsSealed spec) (plan : List Statement) (call : Call) (fits : Fits spec call) (rest : List Statement) (bs : List Pairs) (old : Option Pairs) (held : List HeldStripe)
    (at : IsAt spec plan call (CheckFound ∷ rest) bs old held) (r : List Pairs) → AreOfRelation spec held r → bs ≡ filter (agree_on (op_at spec call.op).pattern call.args) r
kept_bindings spec sealed plan call fits rest bs old held at r a =
    let update : IsUpdate (op_at spec call.op).kind = at.keeps.0.k1.1 in
    let o : IsOn spec r (op_at spec call.op) call.args at.progress bs old (locks_of held) = at.on r a in
    found_bindings spec sealed call fits update r a.relation a.satisfies at.progress o.sought bs (locks_of held) o.search (o.tuple (update_gives (op_at spec call.op).kind update)).probing at.keeps.0.k6.0 at.keeps.0.k6.1

-- the run after CheckFound, where a binding is left
pub found_step : (spec : Spec) (sealed : IsSealed spec) (plan : List Statement) (call : Call) (fits : Fits spec call) (rest : List Statement) (b : Pairs) (others : List Pairs) (old : Option Pairs) (held : List HeldStripe)
    → IsAt spec plan call (CheckFound ∷ rest) (b ∷ others) old held → IsAt spec plan call rest (b ∷ others) (Some b) held
found_step spec sealed plan call fits rest b others old held at = record {
  progress = after spec at.progress CheckFound;
  keeps = at.keeps.1;
  known = λ x m. at.known x (inr m);
  unchanged = at.unchanged;
  stripes_rise = at.stripes_rise;
  classes = at.classes;
  modes = at.modes;
  columns_rise = at.columns_rise;
  on = λ r a. check_on spec sealed plan call fits r (op_at spec call.op) at.progress (b ∷ others) old (Some b) (locks_of held) true at.progress.checked (at.on r a)
      (λ u e. (b, refl, (others, sym (kept_bindings spec sealed plan call fits rest (b ∷ others) old held at r a))));
  runs = at.runs;
}
