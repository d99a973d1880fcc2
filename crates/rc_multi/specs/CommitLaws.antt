-- What a group leaves is what the commit of its entry asks for. (PLDI 2012, serializable transactions over two-phase locks.)
use Rattle.std.specs.Prelude.{◌≡◌, ℕ, ◌<◌, ◌≤◌, ◌^◌, List, [], ◌∷◌, ◌++◌, Some, map, length}
use Rattle.rc_multi.specs.Imports.{flat_map, AllByRecursion, nat_cmp, Less, In, IsRising, gather, in_map, map_in, nat_order, not_below_itself, Pairs, Call, Mode, Exclusive, Shared, Spec, Fits, EdgeRow, edge_row_cmp, fragment_of, on_stripes, rows_on, parts_law, pieces_law, plain, HeldStripe, Statement, IsCompiled, SpecWithPlans, plan_at, compiled_in_turn_law, own_plan_accepted, eval, AllServe, named_law, StripeLock, stripes_of, AllAreHeld, CallWithPlan, HasAcceptedPlan, eval_replies, plain_replies, rows_after, with_plan, with_plans, Step, AreLegalFrom, StepsFit, after_steps, Hold, PassState, calls_fit, relation_after_steps, HoldsNoMore, IsOfClassLocked, MayCommit, calls_with_plans, committed, next_of, renewed, renewed_as, rows_then, hold, rows_held, locks_of, rows_taken, stripes_held}
use Rattle.std.proofs.Common.{refl, sym, ap, subst, ◌∙◌, inl, inr, arith}
use Rattle.std.proofs.lemmas.List.Folds.{flat_map-map}
use Rattle.std.proofs.lemmas.Simd.{map-map}
use Rattle.rc_core.specs.State.{locks_of as locks_held}
use Rattle.rc_multi.specs.HeldStripes.{all_now, all_taken, hold_now, hold_taken}
use Rattle.rc_multi.specs.GroupLocksLaws.{group_locks_are_locked}
use Rattle.rc_multi.specs.Laws.{GroupsHoldNoMore, GroupsLeaveWhatIsCommitted, GroupsMayCommit}
use Rattle.rc_multi.specs.Group.{AreOfRelationFor, HasServedAll, Suffice}

-- ---- locks that suffice

-- Whatever the evaluations of the calls name, on whatever rows, is held.
pub all_are_held : (c : SpecWithPlans) → IsCompiled c.spec c.plans → (calls : List Call) → AllByRecursion (Fits c.spec) calls → (locks : List StripeLock) → Suffice c calls locks
    → (rows : List EdgeRow) → AllAreHeld c.spec (with_plans c.plans calls) rows locks
all_are_held c ok [] fit locks suffice rows = tt
all_are_held c ok (call ∷ calls) fit locks suffice rows =
    let p : HasAcceptedPlan c.spec (with_plan c.plans call) = own_plan_accepted c ok call fit.0 in (
      λ lock m. suffice call (inl refl) lock (named_law c.spec ok.sealed.accepted.placed call p.op p.fits (plan_at c.plans call.op) p.known p.rules rows lock m),
      all_are_held c ok calls fit.1 locks (λ x m. suffice x (inr m)) (eval c.spec (plan_at c.plans call.op) call rows).rows,
    )

-- replies that are legal are the plain ones
replies_are_plain : (spec : Spec) (plans : List (List Statement)) (steps : List Step) (r : List Pairs) → AreLegalFrom spec r steps
    → plain_replies spec (calls_with_plans plans steps) r ≡ map (λ (s : Step). Some s.reply) steps
replies_are_plain spec plans [] r h = refl
replies_are_plain spec plans (s ∷ steps) r h = λ i. Some (sym h.0 i) ∷ replies_are_plain spec plans steps (plain spec r s.call).relation h.1 i

-- ---- a stripe is held once

above_first : (held : List HeldStripe) (x z : HeldStripe) → IsRising nat_cmp (stripes_held (x ∷ held)) → In z held → z.stripe ≡ x.stripe → ⊥
above_first held x z r m e =
    let below : nat_cmp x.stripe z.stripe ≡ Less = r.0 z.stripe (map_in (λ (y : HeldStripe). y.stripe) z held m) in
    let itself : nat_cmp x.stripe x.stripe ≡ Less = subst (λ n. nat_cmp x.stripe n ≡ Less) e below in
    not_below_itself nat_cmp nat_order x.stripe x.stripe itself itself

pub one_held : (held : List HeldStripe) → IsRising nat_cmp (stripes_held held) → (g h : HeldStripe) → In g held → In h held → g.stripe ≡ h.stripe → g ≡ h
one_held [] r g h m n e = absurd m
one_held (x ∷ held) r g h (inl p) (inl q) e = p ∙ sym q
one_held (x ∷ held) r g h (inl p) (inr n) e = absurd (above_first held x h r n (sym e ∙ ap (λ (z : HeldStripe). z.stripe) p))
one_held (x ∷ held) r g h (inr m) (inl q) e = absurd (above_first held x g r m (e ∙ ap (λ (z : HeldStripe). z.stripe) q))
one_held (x ∷ held) r g h (inr m) (inr n) e = one_held held r.1 g h m n e

two_modes : Exclusive ≡ Shared → ⊥
two_modes e = cc

-- ---- the commit of steps

-- what the evaluations of the steps name, one after another on what is held, is held
abbrev pub HoldsNamed : SpecWithPlans → List HeldStripe → List Step → Type 0
HoldsNamed c held steps = AllAreHeld c.spec (calls_with_plans c.plans steps) (rows_taken held) (locks_of held)

module _ (spec : Spec) (held : List HeldStripe) (r : List Pairs) (n : ℕ) (of : AreOfRelationFor spec held r n) where
  pub fragments : (hs : List HeldStripe) → ((h : HeldStripe) → In h hs → In h held) → flat_map (λ (h : HeldStripe). h.taken) hs ≡ flat_map (fragment_of spec r) (stripes_held hs)
  fragments [] inside = refl
  fragments (h ∷ hs) inside =
      let first : h.taken ≡ fragment_of spec r h.stripe = of.rows h (inside h (inl refl)) in
      let rest : flat_map (λ (h : HeldStripe). h.taken) hs ≡ flat_map (fragment_of spec r) (stripes_held hs) = fragments hs (λ x m. inside x (inr m)) in
      λ i. first i ++ rest i

  -- the rows of all that is held are the relation's
  pub rows_of_relation : rows_taken held ≡ rows_on spec r (stripes_held held)
  rows_of_relation = ap (gather edge_row_cmp) (fragments held (λ h m. m)) ∙ parts_law spec r (stripes_held held)

pub stripes_are : (held : List HeldStripe) → stripes_of (locks_of held) ≡ stripes_held held
stripes_are held = map-map (λ (l : StripeLock). l.0) (λ (h : HeldStripe). let l : StripeLock = (h.stripe, h.mode) in l) held

-- the plain relation serves the steps
pub all_serve : (c : SpecWithPlans) → IsCompiled c.spec c.plans → (held : List HeldStripe) (steps : List Step) → StepsFit c.spec steps → HoldsNamed c held steps
    → (r : List Pairs) → AreOfRelationFor c.spec held r (length steps) → AllServe c.spec (calls_with_plans c.plans steps) r (locks_of held)
all_serve c ok held steps fit named r of =
    compiled_in_turn_law c ok (map (λ (s : Step). s.call) steps) (calls_fit c.spec steps fit) r of.relation of.satisfies (locks_of held)
    (subst (λ rs. AllAreHeld c.spec (calls_with_plans c.plans steps) rs (locks_of held))
    (rows_of_relation c.spec held r (length steps) of ∙ ap (rows_on c.spec r) (sym (stripes_are held))) named)

-- a pass that has these holds has their rows, as taken, and their modes
pub rows_are : (u : PassState) (held : List HeldStripe) → u.held ≡ all_taken held → rows_held u ≡ rows_taken held
rows_are u held same =
    ap (λ (holds : List Hold). gather edge_row_cmp (flat_map (λ (h : Hold). h.rows) holds)) same
    ∙ ap (gather edge_row_cmp) (flat_map-map (λ (h : Hold). h.rows) hold_taken held)

pub locks_are : (u : PassState) (held : List HeldStripe) → u.held ≡ all_taken held → locks_held u ≡ locks_of held
locks_are u held same =
    ap (λ (holds : List Hold). map (λ (h : Hold). let l : StripeLock = (h.stripe, h.mode) in l) holds) same
    ∙ map-map (λ (h : Hold). let l : StripeLock = (h.stripe, h.mode) in l) hold_taken held

module _ (c : SpecWithPlans) (ok : IsCompiled c.spec c.plans) (u : PassState) (held : List HeldStripe) (same : u.held ≡ all_taken held) (rising : IsRising nat_cmp (stripes_held held))
    (steps : List Step) (fit : StepsFit c.spec steps) (named : HoldsNamed c held steps)
    (r : List Pairs) (of : AreOfRelationFor c.spec held r (length steps)) (served : HasServedAll c.spec held steps r) where
  abbrev then : List Pairs
  then = after_steps c.spec r steps

  rows : rows_held u ≡ rows_on c.spec r (stripes_of (locks_of held))
  rows = rows_are u held same ∙ rows_of_relation c.spec held r (length steps) of ∙ ap (rows_on c.spec r) (sym (stripes_are held))

  serve : AllServe c.spec (calls_with_plans c.plans steps) r (locks_of held)
  serve = all_serve c ok held steps fit named r of

  -- Where steps are served over what is held, the pass may commit them as one entry, its next.
  pub may_commit : length u.own < 2 ^ 48 → 1 ≤ length steps → length steps ≤ 16 → HoldsNoMore c u steps → MayCommit c u (next_of u steps)
  may_commit few some sixteen no_more = record {
    pass = refl;
    nth = refl;
    room = few;
    some = some;
    few = sixteen;
    fit = fit;
    replies = ap (eval_replies c.spec (calls_with_plans c.plans steps)) rows ∙ serve.replies ∙ replies_are_plain c.spec c.plans steps r served.legal;
    held = subst (λ (x : List EdgeRow × List StripeLock). AllAreHeld c.spec (calls_with_plans c.plans steps) x.0 x.1) (λ i. (sym (rows_are u held same) i, sym (locks_are u held same) i)) named;
    no_more = no_more;
  }

  -- ---- what it leaves

  rows_after_group : rows_then c u steps ≡ rows_on c.spec then (stripes_held held)
  rows_after_group =
      ap (rows_after c.spec (calls_with_plans c.plans steps)) rows ∙ serve.rows
      ∙ (λ i. rows_on c.spec (relation_after_steps c.spec c.plans steps r i) (stripes_are held i))

  not_exclusive : (h : HeldStripe) → In h held → h.mode ≡ Shared → In (h.stripe, Exclusive) (locks_of held) → ⊥
  not_exclusive h m e n =
      let w : (x : HeldStripe) × In x held × ((h.stripe, Exclusive) ≡ (x.stripe, x.mode)) = in_map (λ (x : HeldStripe). let l : StripeLock = (x.stripe, x.mode) in l) (h.stripe, Exclusive) held n in
      let x : w.0 ≡ h = one_held held rising w.0 h w.1 m (sym (ap (λ (l : StripeLock). l.0) w.2)) in
      two_modes (ap (λ (l : StripeLock). l.1) w.2 ∙ ap (λ (z : HeldStripe). z.mode) x ∙ e)

  renewed-now : (h : HeldStripe) → In h held → hold_now h ≡ renewed c.spec (rows_then c u steps) (hold_taken h)
  renewed-now h m = go h.mode refl
    where
      go : (mode : Mode) → h.mode ≡ mode → hold h.stripe mode h.now ≡ renewed_as mode c.spec (rows_then c u steps) (hold h.stripe mode h.taken)
      go Exclusive e =
          ap (hold h.stripe Exclusive)
          (served.rows h m
          ∙ sym (pieces_law c.spec then (stripes_held held) h.stripe (map_in (λ (x : HeldStripe). x.stripe) h held m))
          ∙ ap (on_stripes c.spec (h.stripe ∷ [])) (sym rows_after_group))
      go Shared e =
          ap (hold h.stripe Shared) (served.rows h m ∙ served.others h.stripe (not_exclusive h m e) ∙ sym (of.rows h m))

  all_renewed : (hs : List HeldStripe) → ((h : HeldStripe) → In h hs → In h held) → all_now hs ≡ map (renewed c.spec (rows_then c u steps)) (all_taken hs)
  all_renewed [] inside = refl
  all_renewed (h ∷ hs) inside =
      let first : hold_now h ≡ renewed c.spec (rows_then c u steps) (hold_taken h) = renewed-now h (inside h (inl refl)) in
      let rest : all_now hs ≡ map (renewed c.spec (rows_then c u steps)) (all_taken hs) = all_renewed hs (λ x m. inside x (inr m)) in
      λ i. first i ∷ rest i

  -- What is held now is what the commit leaves.
  pub is_committed : (place : ℕ) → all_now held ≡ (committed c u place (next_of u steps)).held
  is_committed place = all_renewed held (λ h m. m) ∙ ap (map (renewed c.spec (rows_then c u steps))) (sym same)

-- ---- over locks that suffice

-- what suffices for the calls is all that their evaluations name
pub holds_named : (c : SpecWithPlans) → IsCompiled c.spec c.plans → (held : List HeldStripe) (steps : List Step) → StepsFit c.spec steps
    → Suffice c (map (λ (s : Step). s.call) steps) (locks_of held) → HoldsNamed c held steps
holds_named c ok held steps fit suffice = all_are_held c ok (map (λ (s : Step). s.call) steps) (calls_fit c.spec steps fit) (locks_of held) suffice (rows_taken held)

module _ (c : SpecWithPlans) (ok : IsCompiled c.spec c.plans) (u : PassState) (held : List HeldStripe) (same : u.held ≡ all_taken held) (rising : IsRising nat_cmp (stripes_held held))
    (steps : List Step) (fit : StepsFit c.spec steps) (suffice : Suffice c (map (λ (s : Step). s.call) steps) (locks_of held))
    (r : List Pairs) (of : AreOfRelationFor c.spec held r (length steps)) (served : HasServedAll c.spec held steps r) where
  -- Where a group has served its calls over what it holds, the pass may commit them as one entry, its next.
  pub group_may_commit : length u.own < 2 ^ 48 → 1 ≤ length steps → length steps ≤ 16 → HoldsNoMore c u steps → MayCommit c u (next_of u steps)
  group_may_commit = may_commit c ok u held same rising steps fit (holds_named c ok held steps fit suffice) r of served

  -- What is held now is what the commit leaves.
  pub group_committed : (place : ℕ) → all_now held ≡ (committed c u place (next_of u steps)).held
  group_committed = is_committed c ok u held same rising steps fit (holds_named c ok held steps fit suffice) r of served

pub groups_may_commit : GroupsMayCommit
groups_may_commit c ok u held steps h = group_may_commit c ok u held h.holds h.rising steps h.fit h.suffice h.relation h.of_relation h.served

pub groups_committed : GroupsLeaveWhatIsCommitted
groups_committed c ok u held steps h = group_committed c ok u held h.holds h.rising steps h.fit h.suffice h.relation h.of_relation h.served

-- ---- a group holds no more than it may

pub group_holds_no_more : GroupsHoldNoMore
group_holds_no_more c placed u [] l same = absurd (omega (arith, l))
group_holds_no_more c placed u (s ∷ []) l same = absurd (omega (arith, l))
group_holds_no_more c placed u (s ∷ (t ∷ steps)) l same = λ p m.
    let all : List Step = s ∷ (t ∷ steps) in
    let calls : List Call = map (λ (x : Step). x.call) all in
    let w = group_locks_are_locked c.spec placed (calls_with_plans c.plans all) p (subst (In p) same m) in
    let v : (call : Call) × In call calls × (w.0 ≡ with_plan c.plans call) = in_map (with_plan c.plans) w.0 calls w.1 in
    let x : (step : Step) × In step all × (v.0 ≡ step.call) = in_map (λ (x : Step). x.call) v.0 all v.1 in
    (x.0, x.1, subst (λ plan. IsOfClassLocked c.spec plan p) (ap (λ (y : CallWithPlan). y.plan) v.2 ∙ ap (λ (call : Call). plan_at c.plans call.op) x.2) w.2)
