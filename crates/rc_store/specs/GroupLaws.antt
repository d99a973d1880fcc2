-- What the run of a group's plans over a lent row and pass leaves, and that the core allows its commit as one entry. (PLDI 2012, serializable transactions by two-phase locks.)
use Rattle.std.specs.Prelude.{◌≡◌, ℕ, ◌<◌, ◌≤◌, ◌^◌, Bool, List, [], ◌∷◌, length, map, Option, None, Some}
use Rattle.rc_store.specs.Imports.{AllByRecursion, nat_cmp, In, IsRising, in_contains, in_map, map_in, Pairs, Call, Reply, Spec, Fits, StripeLock, HeldStripe, held_of, IsAtRest, IsCompiled, plan_at, stripes_of, CallWithPlan, with_plan, with_plans, Step, StepsFit, with_replies, with_replies-parts, Hold, PassState, HoldsNoMore, IsOfClassLocked, AreAsTaken, locks_of, stripes_held, group_committed, group_may_commit, AreOfRelationFor, Suffice, group_locks, group_locks_are_locked, group_locks_below, group_locks_rise, group_locks_suffice, HasRunGroup, steps_fit, all_taken, hold_taken, HeldRows, AreAtRest, HasSpare, PassSeen, RowSeen, compiled_of, core_of, holds_taken, spec_of, HaveOneRelation, refusals_first}
use Rattle.std.proofs.Common.{refl, sym, ap, subst, ◌∙◌, arith}
use Rattle.std.proofs.lemmas.List.{length-map}
use Rattle.std.proofs.lemmas.List.Elements.{All-contains}
use Rattle.std.proofs.lemmas.Simd.{map-map}
use Rattle.rc_core.specs.State.{locks_of as locks_held}
use Rattle.rc_row.specs.Passes.{stripes_of as row_stripes}
use Rattle.rc_store.specs.declared.lender.Refused.{Refused}
use Rattle.rc_store.specs.Lending.{IsLentSo, IsOnTheWay, Lent, held_stripe, held_stripes, lending}
use Rattle.rc_store.specs.LendingLaws.{all_now-held, all_taken-held, held_of-lending, none_refused}
use Rattle.rc_store.specs.Prepared.{AreReady, IsReady}
use Rattle.rc_store.specs.Store.{HoldsExactly}

-- ---- the start of a run

-- a pass that holds stripes of one relation is on the way of a group that begins with it
pub at_held : (row : RowSeen) (pass : PassSeen) → holds_taken pass.held ≡ (core_of pass).held → HaveOneRelation (spec_of row) (core_of pass).held → IsOnTheWay row pass pass
at_held row pass agrees one = record {
  ran = record { core = refl; table = refl; kept = refl; refusals = refusals_first pass.standing; known = refl };
  agrees = agrees;
  one = one;
}

pub lent_held : (waits : Bool) (lent : Option Lent) (row : RowSeen) (pass : PassSeen) (refused : Option Refused) (spec : Spec) → lent ≡ Some (record { row = row; begun = pass })
    → refused ≡ None → spec ≡ spec_of row → holds_taken pass.held ≡ (core_of pass).held → HaveOneRelation (spec_of row) (core_of pass).held → IsLentSo waits lent row pass refused spec
lent_held waits lent row pass refused spec e none s agrees one =
    subst (λ (x : Option Lent × Option Refused). IsLentSo waits x.0 row pass x.1 spec) (λ i. (sym e i, sym none i))
    (record { spec_is = s; row_is = refl; way = at_held row pass agrees one; told = none_refused waits pass pass refl refl })

-- what it holds is as taken
pub as_taken_held : (row : RowSeen) (pass : PassSeen) (refused : Option Refused) (n : ℕ) → AreAtRest pass.held → AreAsTaken (held_of (lending row pass refused n))
as_taken_held row pass refused n rest h m =
    let w : (x : HeldRows) × In x pass.held × (h ≡ held_stripe x) = in_map held_stripe h pass.held (subst (In h) (held_of-lending row pass refused n) m) in
    let r : IsAtRest w.0.fragment = All-contains (λ (x : HeldRows). IsAtRest x.fragment) pass.held w.0 rest (in_contains w.0 pass.held w.1) in
    ap (λ (x : HeldStripe). x.now) w.2 ∙ sym r.taken ∙ sym (ap (λ (x : HeldStripe). x.taken) w.2)

-- and of one relation that may grow by the calls
pub relation_held : (spec : Spec) (held : List HeldRows) (holds : List Hold) (n : ℕ) → holds_taken held ≡ holds → HaveOneRelation spec holds → n ≤ 16
    → (r : List Pairs) × AreOfRelationFor spec (held_stripes held) r n
relation_held spec held holds n agrees one few = (
  one.relation,
  record {
    relation = one.is_relation;
    satisfies = one.satisfies;
    few = (let l = one.few in omega (arith, l, few));
    rows = λ h m.
        let taken : In (hold_taken h) holds = subst (In (hold_taken h)) (sym (all_taken-held held) ∙ agrees) (map_in hold_taken h (held_stripes held) m) in
        one.rows (hold_taken h) taken;
  },
)

-- what ran over what was told, ran over what is held
pub ran_so : (spec other : Spec) (old new told told_new : List HeldStripe) (calls : List Call) (replies : List Reply) → spec ≡ other → told ≡ old → told_new ≡ new
    → HasRunGroup other calls told told_new replies → HasRunGroup spec calls old new replies
ran_so spec other old new told told_new calls replies same a b ran =
    subst (λ (x : Spec × List HeldStripe × List HeldStripe). HasRunGroup x.0 calls x.1 x.2 replies) (λ i. (sym same i, a i, b i)) ran

-- a pass on its way has as many entries, and as much room
pub few_on : (row : RowSeen) (begun now : PassSeen) → IsOnTheWay row begun now → length (core_of begun).own < 2 ^ 48 → length (core_of now).own < 2 ^ 48
few_on row begun now way few = subst (λ (u : PassState). length u.own < 2 ^ 48) (sym way.ran.core) few

pub spare_on : (row : RowSeen) (begun now : PassSeen) → IsOnTheWay row begun now → HasSpare begun.kept → HasSpare now.kept
spare_on row begun now way spare = subst HasSpare (sym way.ran.kept) spare

-- ---- the locks of a group

module _ (row : RowSeen) (ok : IsCompiled (spec_of row) (compiled_of row).plans) (calls : List Call) (locks : List StripeLock)
    (same : locks ≡ group_locks (spec_of row) (with_plans (compiled_of row).plans calls)) where
  pub locks_rise : IsRising nat_cmp (stripes_of locks)
  locks_rise = subst (λ (l : List StripeLock). IsRising nat_cmp (stripes_of l)) (sym same) (group_locks_rise (spec_of row) ok.sealed.accepted.placed (with_plans (compiled_of row).plans calls))

  pub locks_inside : (p : ℕ) → In p (stripes_of locks) → p < row_stripes row
  locks_inside p m = group_locks_below (spec_of row) ok.sealed.accepted.placed (with_plans (compiled_of row).plans calls) p (subst (λ (l : List StripeLock). In p (stripes_of l)) same m)

  pub locks_suffice : AllByRecursion (Fits (spec_of row)) calls → Suffice (compiled_of row) calls locks
  locks_suffice fit = subst (Suffice (compiled_of row) calls) (sym same) (group_locks_suffice (compiled_of row) ok calls fit)

  -- each is of a class that the plan of some call locks
  locked : (p : ℕ) → In p (stripes_of locks) → (call : Call) × In call calls × IsOfClassLocked (spec_of row) (plan_at (compiled_of row).plans call.op) p
  locked p m =
      let w = group_locks_are_locked (spec_of row) ok.sealed.accepted.placed (with_plans (compiled_of row).plans calls) p (subst (λ (l : List StripeLock). In p (stripes_of l)) same m) in
      let v : (call : Call) × In call calls × (w.0 ≡ with_plan (compiled_of row).plans call) = in_map (with_plan (compiled_of row).plans) w.0 calls w.1 in
      (v.0, v.1, subst (λ (x : CallWithPlan). IsOfClassLocked (spec_of row) x.plan p) v.2 w.2)

  -- a pass that holds them holds no more than two calls or more need
  pub locks_no_more : (u : PassState) → locks_held u ≡ locks → (steps : List Step) → map (λ (s : Step). s.call) steps ≡ calls → 2 ≤ length steps → HoldsNoMore (compiled_of row) u steps
  locks_no_more u held [] e two = tt
  locks_no_more u held (s ∷ []) e two = absurd (omega (arith, two))
  locks_no_more u held (s ∷ (t ∷ steps)) e two = λ p m.
      let w = locked p (subst (λ (l : List StripeLock). In p (stripes_of l)) held m) in
      let x : (x : Step) × In x (s ∷ (t ∷ steps)) × (w.0 ≡ x.call) = in_map (λ (s : Step). s.call) w.0 (s ∷ (t ∷ steps)) (subst (In w.0) (sym e) w.1) in
      (x.0, x.1, subst (λ (call : Call). IsOfClassLocked (spec_of row) (plan_at (compiled_of row).plans call.op) p) x.2 w.2)

  -- and holds exactly what they take
  pub locks_exact : (u : PassState) → locks_held u ≡ locks → (steps : List Step) → map (λ (s : Step). s.call) steps ≡ calls → 2 ≤ length steps → HoldsExactly (compiled_of row) u steps
  locks_exact u held [] e two = tt
  locks_exact u held (s ∷ []) e two = absurd (omega (arith, two))
  locks_exact u held (s ∷ (t ∷ steps)) e two =
      held ∙ same ∙ ap (λ (l : List Call). group_locks (spec_of row) (with_plans (compiled_of row).plans l)) (sym e)

-- ---- a group that ran is ready

stripes_of-locks : (held : List HeldStripe) → stripes_of (locks_of held) ≡ stripes_held held
stripes_of-locks held = map-map (λ (l : StripeLock). l.0) (λ (h : HeldStripe). let l : StripeLock = (h.stripe, h.mode) in l) held

locks_of-holds : (held : List HeldStripe) → map (λ (h : Hold). let l : StripeLock = (h.stripe, h.mode) in l) (all_taken held) ≡ locks_of held
locks_of-holds held = map-map (λ (h : Hold). let l : StripeLock = (h.stripe, h.mode) in l) hold_taken held

-- what is held rises as the locks do
pub held_rise : (held : List HeldStripe) (locks : List StripeLock) → locks_of held ≡ locks → IsRising nat_cmp (stripes_of locks) → IsRising nat_cmp (stripes_held held)
held_rise held locks e rising =
    subst (λ (xs : List ℕ). IsRising nat_cmp xs) (ap stripes_of (sym e) ∙ stripes_of-locks held) rising

module _ (row : RowSeen) (ok : IsCompiled (spec_of row) (compiled_of row).plans) (calls : List Call) (locks : List StripeLock)
    (same : locks ≡ group_locks (spec_of row) (with_plans (compiled_of row).plans calls)) (fit : AllByRecursion (Fits (spec_of row)) calls) (two : 2 ≤ length calls) (sixteen : length calls ≤ 16)
    (begun now : PassSeen) (replies : List Reply) (left : length (core_of now).own < 2 ^ 48) (room : HasSpare now.kept)
    (agrees : holds_taken now.held ≡ (core_of now).held) (one : HaveOneRelation (spec_of row) (core_of now).held)
    (before : locks_of (held_stripes begun.held) ≡ locks) (ran : HasRunGroup (spec_of row) calls (held_stripes begun.held) (held_stripes now.held) replies) where
  abbrev held : List HeldStripe
  held = held_stripes now.held

  as_taken : (core_of now).held ≡ all_taken held
  as_taken = sym agrees ∙ all_taken-held now.held

  -- the same stripes are held
  held_locks : locks_of held ≡ locks
  held_locks =
      sym (locks_of-holds held) ∙ ap (map (λ (h : Hold). let l : StripeLock = (h.stripe, h.mode) in l)) ran.taken ∙ locks_of-holds (held_stripes begun.held) ∙ before

  core_locks : locks_held (core_of now) ≡ locks
  core_locks = ap (map (λ (h : Hold). let l : StripeLock = (h.stripe, h.mode) in l)) as_taken ∙ locks_of-holds held ∙ held_locks

  rising : IsRising nat_cmp (stripes_held held)
  rising = held_rise held locks held_locks (locks_rise row ok calls locks same)

  as_many : length ran.steps ≡ length calls
  as_many = sym (length-map ran.steps (λ (s : Step). s.call)) ∙ ap (λ (l : List Call). length l) ran.calls_are

  fit_steps : StepsFit (spec_of row) ran.steps
  fit_steps = steps_fit (spec_of row) ran.steps (subst (AllByRecursion (Fits (spec_of row))) (sym ran.calls_are) fit)

  suffice : Suffice (compiled_of row) (map (λ (s : Step). s.call) ran.steps) (locks_of held)
  suffice =
      subst (λ (x : List Call × List StripeLock). Suffice (compiled_of row) x.0 x.1) (λ i. (sym ran.calls_are i, sym held_locks i)) (locks_suffice row ok calls locks same fit)

  of : (r : List Pairs) × AreOfRelationFor (spec_of row) held r (length ran.steps)
  of = relation_held (spec_of row) now.held (core_of now).held (length ran.steps) agrees one (omega (arith, as_many, sixteen))

  ready : IsReady row ran.steps now
  ready = record {
    room = room;
    agrees = agrees;
    one = one;
    may =
        group_may_commit (compiled_of row) ok (core_of now) held as_taken rising ran.steps fit_steps suffice of.0 of.1 (ran.served of.0 of.1)
        left (omega (arith, as_many, two)) (omega (arith, as_many, sixteen)) (locks_no_more row ok calls locks same (core_of now) core_locks ran.steps ran.calls_are (omega (arith, as_many, two)));
    left =
        all_now-held now.held
        ∙ group_committed (compiled_of row) ok (core_of now) held as_taken rising ran.steps fit_steps suffice of.0 of.1 (ran.served of.0 of.1) 0;
  }

  steps_are : ran.steps ≡ with_replies calls replies
  steps_are = sym (with_replies-parts ran.steps) ∙ (λ i. with_replies (ran.calls_are i) (ran.replies_are i))

  pub group_ready : AreReady row calls now replies
  group_ready = record {
    count = sym (ap (λ (l : List Reply). length l) ran.replies_are) ∙ length-map ran.steps (λ (s : Step). s.reply) ∙ as_many;
    ready = subst (λ (steps : List Step). IsReady row steps now) steps_are ready;
    exact = subst (HoldsExactly (compiled_of row) (core_of now)) steps_are
        (locks_exact row ok calls locks same (core_of now) core_locks ran.steps ran.calls_are (omega (arith, as_many, two)));
  }
