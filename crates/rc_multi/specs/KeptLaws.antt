-- What an open transaction, which declared more than it used, keeps for its commit: where it gives back stripes that no run of its calls needs, what is
-- left has served the same calls and may be committed, and what is given back is as it was taken.
use Rattle.std.specs.Prelude.{◌≡◌, ℕ, List, [], ◌∷◌, map, length}
use Rattle.rc_multi.specs.Imports.{nat_cmp, In, IsRising, in_map, map_in, nat_order, same_rising, Pairs, Call, Reply, Mode, Exclusive, fragment_of, rows_on, StripeLock, Suffices, HeldStripe, IsCompiled, SpecWithPlans, plan_at, eval, stripes_of, stripes_of_in, Step, StepsFit, PassState, relation_after_steps, HoldsNoMore, IsOfClassLocked, rows_held, AreAsTaken, locks_of, rows_taken, stripes_held}
use Rattle.std.proofs.Common.{sym, ap, subst, ◌∙◌, ◌≤◌, arith}
use Rattle.rc_core.specs.State.{locks_of as locks_held}
use Rattle.rc_multi.specs.CommitLaws.{HoldsNamed, all_serve, holds_named, is_committed, locks_are, may_commit, one_held, rows_are, rows_of_relation, stripes_are}
use Rattle.rc_multi.specs.Group.{AreOfRelationFor, HasRunIn, HasServedAll, Suffice, with_part}
use Rattle.rc_multi.specs.GroupRunLaws.{relation_after_part, stripes_after}
use Rattle.rc_multi.specs.GroupLaws.{served_more, served_none}
use Rattle.rc_multi.specs.Laws.{AreLeftAtRest, GroupsKeepWhatTheyUse, IsUsedBy, KeepsTaken, OneCallKeepsWhatItTook}
use Rattle.rc_multi.specs.HeldStripes.{all_taken}

-- ---- of several calls, the stripes of classes that their plans lock

-- What is kept of classes that the calls' plans lock suffices for them.
kept_suffice : (c : SpecWithPlans) (calls : List Call) (held kept : List HeldStripe) → ((h : HeldStripe) → In h held → IsUsedBy c calls h.stripe → In h kept)
    → Suffice c calls (locks_of held) → Suffice c calls (locks_of kept)
kept_suffice c calls held kept keeps suffice call m lock n =
    let s : (mode : Mode) × In (lock.0, mode) (locks_of held) × Suffices mode lock.1 = suffice call m lock n in
    let w : (h : HeldStripe) × In h held × ((lock.0, s.0) ≡ (h.stripe, h.mode)) = in_map (λ (h : HeldStripe). let l : StripeLock = (h.stripe, h.mode) in l) (lock.0, s.0) held s.1 in
    let used : IsUsedBy c calls lock.0 = (call, m, (n.class, n.choice, lock.1, n.locks, n.of_class)) in
    let there : In w.0 kept = keeps w.0 w.1 (subst (IsUsedBy c calls) (ap (λ (l : StripeLock). l.0) w.2) used) in
    (s.0, subst (λ (l : StripeLock). In l (locks_of kept)) (sym w.2) (map_in (λ (h : HeldStripe). let l : StripeLock = (h.stripe, h.mode) in l) w.0 kept there), s.2)

-- ---- what is kept has served the calls

module _ (c : SpecWithPlans) (ok : IsCompiled c.spec c.plans) (held kept : List HeldStripe) (inside : (h : HeldStripe) → In h kept → In h held)
    (steps : List Step) (fit : StepsFit c.spec steps) (named : HoldsNamed c kept steps)
    (r : List Pairs) (of : AreOfRelationFor c.spec held r (length steps)) (served : HasServedAll c.spec held steps r) where
  -- what is kept is of the same relation
  kept_of_relation : AreOfRelationFor c.spec kept r (length steps)
  kept_of_relation = record { relation = of.relation; satisfies = of.satisfies; few = of.few; rows = λ h m. of.rows h (inside h m) }

  -- and has served the same calls
  kept_served : HasServedAll c.spec kept steps r
  kept_served = record {
    legal = served.legal;
    rows = λ h m. served.rows h (inside h m);
    others = λ stripe out.
        ap (λ (q : List Pairs). fragment_of c.spec q stripe) (sym (relation_after_steps c.spec c.plans steps r))
        ∙ (all_serve c ok kept steps fit named r kept_of_relation).others stripe out;
  }

  -- what isn't kept has the rows as taken
  left_at_rest : IsRising nat_cmp (stripes_held held) → AreLeftAtRest held kept
  left_at_rest rising h m left = served.rows h m ∙ kept_served.others h.stripe out ∙ sym (of.rows h m)
    where
      out : In (h.stripe, Exclusive) (locks_of kept) → ⊥
      out n =
          let w : (k : HeldStripe) × In k kept × ((h.stripe, Exclusive) ≡ (k.stripe, k.mode)) =
          in_map (λ (k : HeldStripe). let l : StripeLock = (k.stripe, k.mode) in l) (h.stripe, Exclusive) kept n in
          let same : w.0 ≡ h = one_held held rising w.0 h (inside w.0 w.1) m (sym (ap (λ (l : StripeLock). l.0) w.2)) in
          left (subst (λ (k : HeldStripe). In k kept) same w.1)

pub groups_keep_what_they_use : GroupsKeepWhatTheyUse
groups_keep_what_they_use c ok u held kept steps fit rising suffice r of served keeps holds = (
  record {
    holds = holds;
    rising = keeps.rising;
    fit = fit;
    suffice = enough;
    relation = r;
    of_relation = kept_of_relation c ok held kept keeps.inside steps fit named r of served;
    served = kept_served c ok held kept keeps.inside steps fit named r of served;
  },
  no_more steps keeps.used,
  left_at_rest c ok held kept keeps.inside steps fit named r of served rising,
)
  where
    calls : List Call
    calls = map (λ (s : Step). s.call) steps

    enough : Suffice c calls (locks_of kept)
    enough = kept_suffice c calls held kept keeps.each suffice

    named : HoldsNamed c kept steps
    named = holds_named c ok kept steps fit enough

    no_more : (all : List Step) → ((h : HeldStripe) → In h kept → IsUsedBy c (map (λ (s : Step). s.call) all) h.stripe) → 2 ≤ length all → HoldsNoMore c u all
    no_more [] used l = absurd (omega (arith, l))
    no_more (s ∷ []) used l = absurd (omega (arith, l))
    no_more (s ∷ (t ∷ more)) used l = λ p m.
        let all : List Step = s ∷ (t ∷ more) in
        let stripe : In p (stripes_held kept) = subst (In p) (ap stripes_of (locks_are u kept holds) ∙ stripes_are kept) m in
        let h : (k : HeldStripe) × In k kept × (p ≡ k.stripe) = in_map (λ (k : HeldStripe). k.stripe) p kept stripe in
        let by = used h.0 h.1 in
        let x : (step : Step) × In step all × (by.0 ≡ step.call) = in_map (λ (x : Step). x.call) by.0 all by.1 in
        (x.0, x.1, subst (λ (z : Call × ℕ). IsOfClassLocked c.spec (plan_at c.plans z.0.op) z.1) (λ i. (x.2 i, sym h.2 i)) by.2)

-- ---- of one call, the stripes that its run took

module _ (c : SpecWithPlans) (call : Call) (reply : Reply) (before after kept : List HeldStripe) (rising : IsRising nat_cmp (stripes_held before)) (same : AreAsTaken before)
    (ran : HasRunIn c.spec (plan_at c.plans call.op) call before after reply) (keeps : KeepsTaken ran.part after kept)
    (r : List Pairs) (of : AreOfRelationFor c.spec before r 1) where
  abbrev one : Step
  one = record { call = call; reply = reply }

  -- what the plan took, as it took it, and what is kept are of the relation
  part_of_relation : AreOfRelationFor c.spec ran.part r 1
  part_of_relation = record {
    relation = of.relation;
    satisfies = of.satisfies;
    few = of.few;
    rows = λ g m. let f = ran.over.each g m in sym f.rows ∙ same f.from f.held ∙ of.rows f.from f.held ∙ ap (fragment_of c.spec r) f.stripe;
  }

  -- a stripe that is kept was held before, in the same mode and with the same rows
  was : (h : HeldStripe) → In h kept → (b : HeldStripe) × In b before × (h ≡ with_part ran.part b)
  was h m = in_map (with_part ran.part) h before (subst (In h) ran.over.becomes (keeps.inside h m))

  keeps_relation : AreOfRelationFor c.spec kept r 1
  keeps_relation = record {
    relation = of.relation;
    satisfies = of.satisfies;
    few = of.few;
    rows = λ h m. let w = was h m in subst (λ (z : HeldStripe). z.taken ≡ fragment_of c.spec r z.stripe) (sym w.2) (of.rows w.0 w.1);
  }

  stripes_same : stripes_held kept ≡ stripes_held ran.part
  stripes_same = same_rising nat_cmp nat_order (stripes_held kept) (stripes_held ran.part) keeps.rising ran.replied.evaluated.rising keeps.taken keeps.each

  rows_same : rows_taken kept ≡ rows_taken ran.part
  rows_same =
      rows_of_relation c.spec kept r 1 keeps_relation
      ∙ ap (λ stripes. rows_on c.spec r stripes) stripes_same
      ∙ sym (rows_of_relation c.spec ran.part r 1 part_of_relation)

  named_are : (eval c.spec (plan_at c.plans call.op) call (rows_taken kept)).named ≡ locks_of ran.part
  named_are = ap (λ rows. (eval c.spec (plan_at c.plans call.op) call rows).named) rows_same ∙ ran.replied.evaluated.named

  -- each that the plan took is kept in a mode that suffices
  held_still : (g : HeldStripe) → In g ran.part → (mode : Mode) × In (g.stripe, mode) (locks_of kept) × Suffices mode g.mode
  held_still g m =
      let f = ran.over.each g m in
      let k : (h : HeldStripe) × In h kept × (g.stripe ≡ h.stripe) = in_map (λ (h : HeldStripe). h.stripe) g.stripe kept (keeps.each g.stripe (map_in (λ (h : HeldStripe). h.stripe) g ran.part m)) in
      let w = was k.0 k.1 in
      let is : w.0 ≡ f.from = one_held before rising w.0 f.from w.1 f.held (sym (ap (λ (h : HeldStripe). h.stripe) w.2) ∙ sym k.2 ∙ sym f.stripe) in
      let mode : k.0.mode ≡ f.from.mode = ap (λ (h : HeldStripe). h.mode) w.2 ∙ ap (λ (h : HeldStripe). h.mode) is in (
        k.0.mode,
        subst (λ (s : ℕ). In (s, k.0.mode) (locks_of kept)) (sym k.2) (map_in (λ (h : HeldStripe). let l : StripeLock = (h.stripe, h.mode) in l) k.0 kept k.1),
        subst (λ (z : Mode). Suffices z g.mode) (sym mode) f.mode,
      )

  -- What is kept is all that the evaluation of the call names.
  taken_named : HoldsNamed c kept (one ∷ [])
  taken_named = (
    (λ lock m.
        let g : (h : HeldStripe) × In h ran.part × (lock ≡ (h.stripe, h.mode)) =
        in_map (λ (h : HeldStripe). let l : StripeLock = (h.stripe, h.mode) in l) lock ran.part (subst (In lock) named_are m) in
        subst (λ (l : StripeLock). (mode : Mode) × In (l.0, mode) (locks_of kept) × Suffices mode l.1) (sym g.2) (held_still g.0 g.1)),
    tt,
  )

  -- And the pass that holds it holds no more.
  taken_no_more : (u : PassState) → u.held ≡ all_taken kept → HoldsNoMore c u (one ∷ [])
  taken_no_more u holds =
      let stripes : stripes_of (locks_held u) ≡ stripes_held ran.part = ap stripes_of (locks_are u kept holds) ∙ stripes_are kept ∙ stripes_same in
      let named : stripes_of (eval c.spec (plan_at c.plans call.op) call (rows_held u)).named ≡ stripes_held ran.part =
      ap (λ rows. stripes_of (eval c.spec (plan_at c.plans call.op) call rows).named) (rows_are u kept holds) ∙ ap stripes_of named_are ∙ stripes_are ran.part in
      record { each = λ lock m. subst (In lock.0) (stripes ∙ sym named) (stripes_of_in lock (locks_held u) m) }

pub one_call_keeps_what_it_took : OneCallKeepsWhatItTook
one_call_keeps_what_it_took c ok u before after kept call reply fits rising same ran r of keeps holds few = (
  may_commit c ok u kept holds keeps.rising steps fit named r kept_of served few (omega arith) (omega arith)
      (taken_no_more c call reply before after kept rising same ran keeps r of u holds),
  is_committed c ok u kept holds keeps.rising steps fit named r kept_of served,
  left_at_rest c ok after kept keeps.inside steps fit named r of_after served_after after_rises,
)
  where
    steps : List Step
    steps = record { call = call; reply = reply } ∷ []

    fit : StepsFit c.spec steps
    fit = (fits, tt)

    named : HoldsNamed c kept steps
    named = taken_named c call reply before after kept rising same ran keeps r of

    of_after : AreOfRelationFor c.spec after r 1
    of_after = subst (λ (hs : List HeldStripe). AreOfRelationFor c.spec hs r 1) (sym ran.over.becomes) (relation_after_part c.spec ran.part before r 1 of)

    after_rises : IsRising nat_cmp (stripes_held after)
    after_rises = subst (λ (xs : List ℕ). IsRising nat_cmp xs) (sym (ap stripes_held ran.over.becomes ∙ stripes_after ran.part before)) rising

    served_after : HasServedAll c.spec after steps r
    served_after = served_more c.spec before after ran.part [] (plan_at c.plans call.op) call reply tt ran.over ran.replied (served_none c.spec before same) r of_after

    kept_of : AreOfRelationFor c.spec kept r 1
    kept_of = kept_of_relation c ok after kept keeps.inside steps fit named r of_after served_after

    served : HasServedAll c.spec kept steps r
    served = kept_served c ok after kept keeps.inside steps fit named r of_after served_after
