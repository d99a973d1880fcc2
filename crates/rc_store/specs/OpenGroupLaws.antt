-- An open group goes on from call to call, and what it keeps of what it holds may be committed.
use Rattle.std.specs.Prelude.{◌≡◌, ℕ, zero, suc, ◌+◌, ◌<◌, ◌≤◌, ◌^◌, ◌⊎◌, List, [], ◌∷◌, ◌++◌, Option, Some, length, true, false, Bool, ◌==◌, IsSome}
use Rattle.rc_store.specs.Imports.{slice_get, nat_cmp, In, IsRising, in_append, in_contains, in_map, map_in, Pairs, Call, Reply, Fits, StripeLock, HeldStripe, IsAtRest, IsCompiled, SpecWithPlans, plan_at, eval, stripes_of, in_stripes_of, stripes_of_in, AllAreHeld, Step, StepsFit, after_steps, with_replies, with_replies-parts, Hold, PassState, HoldsNoMore, IsOfClassLocked, MayCommit, calls_with_plans, committed, next_of, rows_held, AreAsTaken, locks_of, stripes_held, group_committed, group_may_commit, one_held, AreNowOf, AreOfRelationFor, Covers, HasRunIn, HasRunTaking, HaveServed, Suffice, with_part, with_step, locks_after, now_of_relation, served_more, served_none, HasOperation, have_operations, stripes_after, taken_after, all_now, all_taken, groups_keep_what_they_use, one_call_keeps_what_it_took, AreLeftAtRest, IsUsedBy, KeepsTaken, KeepsUsed, decide_used, HeldRows, AreAtRest, HasSpare, IsMoreRoom, IsPassOf, PassSeen, RowSeen, compiled_of, core_of, holds_now, holds_taken, idle, spec_of, HaveOneRelation, refusals_on, PartEntries}
use Rattle.std.proofs.Common.{refl, sym, ap, subst, ◌∙◌, inl, inr, arith}
use Rattle.std.proofs.lemmas.Bool.{eq-eqb, eqb-true, false≢true}
use Rattle.std.proofs.lemmas.List.{length-append, length-map, map-append}
use Rattle.std.proofs.lemmas.List.Elements.{All-contains}
use Rattle.rc_core.specs.State.{locks_of as core_locks}
use Rattle.rc_store.specs.declared.receipt.GroupReceipt.{GroupReceipt}
use Rattle.rc_store.specs.declared.running_group.PreparedGroup.{PreparedGroup}
use Rattle.rc_store.specs.declared.running_group.PreparedGroup.TheVariants as prepared
use Rattle.rc_store.specs.GroupLaws.{held_rise, relation_held, spare_on}
use Rattle.rc_store.specs.Lending.{IsOnTheWay, held_stripe, held_stripes}
use Rattle.rc_store.specs.LendingLaws.{all_now-held, all_taken-held}
use Rattle.rc_store.specs.OpenGroups.{AreUnchangedBut, HasCalledOn, HasGivenBack, HasGoneOver, HasHeldDeclared, HasMadeOpenGroup, HasOpened, HasRunAlone, HoldsDeclared, IsAlone, IsNeeded, IsOpenOn, KeepsNeeded, NeedStripe, OpenGroupSeen, holding}
use Rattle.rc_store.specs.Prepared.{HasGoneOn, IsPrepared}
use Rattle.rc_store.specs.ReleaseLaws.{kept_until, until_keeps}
use Rattle.rc_store.specs.Running.{calls_of, replies_of}
use Rattle.rc_store.specs.RunningInside.{IsOfPass}
use Rattle.rc_store.specs.StepLaws.{made_commits, made_so, undone}
use Rattle.rc_store.specs.Store.{HasMadeEntry, IsAsBefore, IsFree, IsGroupFinished, StoreSeen}

-- ---- it is opened

pub opened_on : (store : StoreSeen) (declared : List Call) (old : PassSeen) (group : OpenGroupSeen) → IsFree store old → holds_taken old.held ≡ (core_of old).held
    → length (core_of old).own < store.limit → IsPassOf store.row group.pass → HasHeldDeclared store.row declared old group.pass group.locks
    → group.begun ≡ old → group.steps ≡ [] → HasOpened store declared old group
opened_on store declared old group free agrees left of h begun none = record {
  begun = begun;
  none = none;
  locks = h.asked;
  runs = record {
    of_row = of;
    idle = subst (λ (p : PassSeen). (p.held ≡ []) × ((core_of p).held ≡ [])) (sym begun) (free.idle, sym agrees ∙ ap holds_taken free.idle);
    left = subst (λ (p : PassSeen). length (core_of p).own < store.limit) (sym begun) left;
    since = subst (λ (p : PassSeen). HasGoneOn p group.pass) (sym begun) h.since;
    unrefused = h.unrefused ∙ ap (λ (p : PassSeen). p.standing.refusals) (sym begun);
    room = h.room;
    agrees = h.agrees;
    one = h.one;
    locks = h.locks_are;
    rising = h.rising;
    fit = subst (StepsFit (spec_of store.row)) (sym none) tt;
    few = subst (λ (s : List Step). length s ≤ 16) (sym none) (omega arith);
    suffice = subst (λ (s : List Step). Suffice (compiled_of store.row) (calls_of s) group.locks) (sym none) (λ call m. absurd m);
    served = subst (HaveServed (spec_of store.row) (held_stripes group.pass.held)) (sym none) (served_none (spec_of store.row) (held_stripes group.pass.held) h.unchanged);
    alone = subst (λ (s : List Step). IsAlone (compiled_of store.row) s (held_stripes group.pass.held) group.took) (sym none) h.unchanged;
  };
}

-- ---- it goes on

pub gone_further : (row : RowSeen) (begun old new : PassSeen) → HasGoneOn begun old → IsOnTheWay row old new → HasGoneOn begun new
gone_further row begun old new since way = record {
  core = way.ran.core ∙ (λ i. record (since.core i) { held = (core_of new).held; wish = (core_of new).wish });
  table = way.ran.table ∙ since.table;
  more = subst (IsMoreRoom begun.kept) (sym way.ran.kept) since.more;
  refusals = refusals_on begun.standing old.standing new.standing since.refusals way.ran.refusals;
  known = way.ran.known ∙ since.known;
}

-- one that is taken back is as before the group
pub called_back : (store : StoreSeen) (old : OpenGroupSeen) → IsOpenOn store old → (mid new : PassSeen) → IsOnTheWay store.row old.pass mid → IsPassOf store.row new → new ≡ idle mid
    → IsFree store new × IsAsBefore old.begun new
called_back store old o mid new way of e =
    let since = gone_further store.row old.begun old.pass mid o.since way in
    let own : length (core_of new).own ≡ length (core_of old.begun).own = ap (λ (p : PassSeen). length (core_of p).own) e ∙ ap (λ (u : PassState). length u.own) since.core in
    let left = o.left in (
      record { of_row = of; idle = ap (λ (p : PassSeen). p.held) e; few = omega (arith, own, left) },
      undone old.begun mid new since o.idle.0 o.idle.1 e,
    )

-- what is at rest has the rows as taken
pub rest_unchanged : (held : List HeldRows) → AreAtRest held → AreAsTaken (held_stripes held)
rest_unchanged held rest h m =
    let w : (x : HeldRows) × In x held × (h ≡ held_stripe x) = in_map held_stripe h held m in
    let r : IsAtRest w.0.fragment = All-contains (λ (x : HeldRows). IsAtRest x.fragment) held w.0 rest (in_contains w.0 held w.1) in
    ap (λ (x : HeldStripe). x.now) w.2 ∙ sym r.taken ∙ sym (ap (λ (x : HeldStripe). x.taken) w.2)

fit_more : (store : StoreSeen) (steps : List Step) (call : Call) (reply : Reply) → StepsFit (spec_of store.row) steps → Fits (spec_of store.row) call → StepsFit (spec_of store.row) (with_step steps call reply)
fit_more store [] call reply fit fits = (fits, tt)
fit_more store (s ∷ steps) call reply fit fits = (fit.0, fit_more store steps call reply fit.1 fits)

alone_more : (c : SpecWithPlans) (steps : List Step) (held new : List HeldStripe) (took last : List StripeLock) (call : Call) (reply : Reply) → IsAlone c steps held took
    → IsRising nat_cmp (stripes_held held) → HasRunTaking c.spec (plan_at c.plans call.op) call held new last reply → IsAlone c (with_step steps call reply) new last
alone_more c [] held new took last call reply same rising taking = record { before = held; rising = rising; unchanged = same; taking = taking }
alone_more c (s ∷ []) held new took last call reply alone rising taking = tt
alone_more c (s ∷ (t ∷ steps)) held new took last call reply alone rising taking = tt

module _ (store : StoreSeen) (old : OpenGroupSeen) (o : IsOpenOn store old) where
  abbrev held : List HeldStripe
  held = held_stripes old.pass.held

  pub rises_on : IsRising nat_cmp (stripes_held held)
  rises_on = held_rise held old.locks o.locks o.rising

  -- the next call's plan may run
  pub now_on : length old.steps < 16 → (r : List Pairs) × AreNowOf (spec_of store.row) held r
  now_on few =
      let of = relation_held (spec_of store.row) old.pass.held (core_of old.pass).held (length old.steps) o.agrees o.one (omega (arith, few)) in
      (after_steps (spec_of store.row) of.0 old.steps, now_of_relation (spec_of store.row) held old.steps o.fit o.served of.0 of.1)

  pub covers_on : (call : Call) → Covers (compiled_of store.row) call old.locks → Covers (compiled_of store.row) call (locks_of held)
  covers_on call covers = subst (Covers (compiled_of store.row) call) (sym o.locks) covers

  -- and the group is open still after it
  module _ (new : OpenGroupSeen) (call : Call) (fits : Fits (spec_of store.row) call) (covers : Covers (compiled_of store.row) call old.locks) (few : length old.steps < 16)
      (of : IsPassOf store.row new.pass) (way : IsOnTheWay store.row old.pass new.pass) (unrefused : new.pass.standing.refusals ≡ old.pass.standing.refusals) (begun : new.begun ≡ old.begun) (locks : new.locks ≡ old.locks)
      (over : HasGoneOver store.row call old.steps old.pass new.pass new.took new.steps) where
    abbrev next : List HeldStripe
    next = held_stripes new.pass.held

    ran : HasRunIn (spec_of store.row) (plan_at (compiled_of store.row).plans call.op) call held next over.reply
    ran = over.taking.ran

    abbrev step : Step
    step = record { call = call; reply = over.reply }

    since_on : HasGoneOn old.begun new.pass
    since_on = gone_further store.row old.begun old.pass new.pass o.since way

    longer : length new.steps ≡ length old.steps + 1
    longer = ap (λ (s : List Step). length s) over.longer_is ∙ length-append old.steps (step ∷ [])

    locks_on : locks_of next ≡ new.locks
    locks_on = ap locks_of ran.over.becomes ∙ locks_after ran.part held ∙ o.locks ∙ sym locks

    held_on : (core_of new.pass).held ≡ (core_of old.pass).held
    held_on =
        sym way.agrees ∙ all_taken-held new.pass.held ∙ ap all_taken ran.over.becomes ∙ taken_after ran.part held
        ∙ sym (all_taken-held old.pass.held) ∙ o.agrees

    suffice_on : Suffice (compiled_of store.row) (calls_of new.steps) new.locks
    suffice_on other m =
        let list : calls_of new.steps ≡ calls_of old.steps ++ call ∷ [] = ap calls_of over.longer_is ∙ map-append (λ (s : Step). s.call) old.steps (step ∷ []) in
        subst (Covers (compiled_of store.row) other) (sym locks) (elim (in_append other (calls_of old.steps) (call ∷ []) (subst (In other) list m)) [
          | inl q ↦ o.suffice other q
          | inr (inl e) ↦ subst (λ (c : Call). Covers (compiled_of store.row) c old.locks) (sym e) covers
          | inr (inr q) ↦ absurd q
        ])

    pub open_on : IsOpenOn store new
    open_on = record {
      of_row = of;
      idle = subst (λ (p : PassSeen). (p.held ≡ []) × ((core_of p).held ≡ [])) (sym begun) o.idle;
      left = subst (λ (p : PassSeen). length (core_of p).own < store.limit) (sym begun) o.left;
      since = subst (λ (p : PassSeen). HasGoneOn p new.pass) (sym begun) since_on;
      unrefused = unrefused ∙ o.unrefused ∙ ap (λ (p : PassSeen). p.standing.refusals) (sym begun);
      room = spare_on store.row old.pass new.pass way o.room;
      agrees = way.agrees;
      one = way.one;
      locks = locks_on;
      rising = subst (λ (l : List StripeLock). IsRising nat_cmp (stripes_of l)) (sym locks) o.rising;
      fit = subst (StepsFit (spec_of store.row)) (sym over.longer_is) (fit_more store old.steps call over.reply o.fit fits);
      few = omega (arith, longer, few);
      suffice = suffice_on;
      served = subst (HaveServed (spec_of store.row) next) (sym over.longer_is)
          (served_more (spec_of store.row) held next ran.part old.steps (plan_at (compiled_of store.row).plans call.op) call over.reply o.fit ran.over ran.replied o.served);
      alone = subst (λ (s : List Step). IsAlone (compiled_of store.row) s next new.took) (sym over.longer_is)
          (alone_more (compiled_of store.row) old.steps held next old.took new.took call over.reply o.alone rises_on over.taking);
    }

    pub called_on : HasCalledOn store call old new
    called_on = record { reply = over.reply; steps = over.longer_is; begun = begun; locks = locks; held = held_on; runs = open_on }

-- ---- which stripes its commit needs

in_more : (p q : ℕ) (ps : List ℕ) (b : Bool) → p == q ≡ b → In p ps ⊎ (In p ps → ⊥) → In p (q ∷ ps) ⊎ (In p (q ∷ ps) → ⊥)
in_more p q ps true e rest = inl (inl (eqb-true p q e))
in_more p q ps false e (inl m) = inl (inr m)
in_more p q ps false e (inr none) = inr (λ m. elim m [
  | inl same ↦ false≢true (sym e ∙ eq-eqb p q same)
  | inr there ↦ none there
])

decide_in : (p : ℕ) (ps : List ℕ) → In p ps ⊎ (In p ps → ⊥)
decide_in p [] = inr (λ m. m)
decide_in p (q ∷ ps) = in_more p q ps (p == q) refl (decide_in p ps)

pub decide_needed : (c : SpecWithPlans) (steps : List Step) (took : List StripeLock) (p : ℕ) → IsNeeded c steps took p ⊎ (IsNeeded c steps took p → ⊥)
decide_needed c [] took p = decide_used c [] p
decide_needed c (s ∷ []) took p = decide_in p (stripes_of took)
decide_needed c (s ∷ (t ∷ steps)) took p = decide_used c (calls_of (s ∷ (t ∷ steps))) p

pub needed_others : (c : SpecWithPlans) (steps : List Step) (took : List StripeLock) (p : ℕ) → (length steps ≡ 1 → ⊥) → IsNeeded c steps took p ≡ IsUsedBy c (calls_of steps) p
needed_others c [] took p e = refl
needed_others c (s ∷ []) took p e = absurd (e refl)
needed_others c (s ∷ (t ∷ steps)) took p e = refl

-- ---- what is held at its commit

-- of a stripe there is one lock
one_lock : (held : List HeldStripe) → IsRising nat_cmp (stripes_held held) → (a b : StripeLock) → In a (locks_of held) → In b (locks_of held) → a.0 ≡ b.0 → a ≡ b
one_lock held rising a b m n e =
    let lock : HeldStripe → StripeLock = λ (h : HeldStripe). (h.stripe, h.mode) in
    let x : (h : HeldStripe) × In h held × (a ≡ lock h) = in_map lock a held m in
    let y : (h : HeldStripe) × In h held × (b ≡ lock h) = in_map lock b held n in
    let same : x.0 ≡ y.0 = one_held held rising x.0 y.0 x.1 y.1 (sym (ap (λ (l : StripeLock). l.0) x.2) ∙ e ∙ ap (λ (l : StripeLock). l.0) y.2) in
    x.2 ∙ ap lock same ∙ sym y.2

-- steps of which no more is held than they need need each stripe that is held
need_each : (c : SpecWithPlans) (u : PassState) (steps : List Step) → 1 ≤ length steps → HoldsNoMore c u steps → (lock : StripeLock) → In lock (core_locks u) → NeedStripe c u steps lock.0
need_each c u [] some no_more lock m = absurd (omega (arith, some))
need_each c u (s ∷ []) some no_more lock m = no_more.each lock m
need_each c u (s ∷ (t ∷ more)) some no_more lock m =
    let x : (x : Step) × In x (s ∷ (t ∷ more)) × IsOfClassLocked c.spec (plan_at c.plans x.call.op) lock.0 = no_more lock.0 (stripes_of_in lock (core_locks u) m) in
    (x.0.call, map_in (λ (z : Step). z.call) x.0 (s ∷ (t ∷ more)) x.1, x.2)

-- ---- what is kept may be committed

module _ (held kept : List HeldRows) (needed : ℕ → Type 0) (keeps : KeepsNeeded needed held kept) where
  inside_so : (h : HeldStripe) → In h (held_stripes kept) → In h (held_stripes held)
  inside_so h m =
      let w : (x : HeldRows) × In x kept × (h ≡ held_stripe x) = in_map held_stripe h kept m in
      subst (λ (z : HeldStripe). In z (held_stripes held)) (sym w.2) (map_in held_stripe w.0 held (keeps.inside w.0 w.1))

  each_so : (h : HeldStripe) → In h (held_stripes held) → needed h.stripe → In h (held_stripes kept)
  each_so h m need =
      let w : (x : HeldRows) × In x held × (h ≡ held_stripe x) = in_map held_stripe h held m in
      subst (λ (z : HeldStripe). In z (held_stripes kept)) (sym w.2)
      (map_in held_stripe w.0 kept (keeps.each w.0 w.1 (subst needed (ap (λ (z : HeldStripe). z.stripe) w.2) need)))

  only_so : (h : HeldStripe) → In h (held_stripes kept) → needed h.stripe
  only_so h m =
      let w : (x : HeldRows) × In x kept × (h ≡ held_stripe x) = in_map held_stripe h kept m in
      subst (λ (z : HeldStripe). needed z.stripe) (sym w.2) (keeps.only w.0 w.1)

-- of what is kept: the core allows the commit and leaves what is held now, and what isn't kept has the rows as taken
record MayKeep (c : SpecWithPlans) (u : PassState) (steps : List Step) (held kept : List HeldStripe) : Type 0 where
  may : MayCommit c u (next_of u steps)
  left : all_now kept ≡ (committed c u 0 (next_of u steps)).held
  rest : AreLeftAtRest held kept

module _ (store : StoreSeen) (ok : IsCompiled (spec_of store.row) (compiled_of store.row).plans) (group : OpenGroupSeen) (o : IsOpenOn store group) where
  abbrev c : SpecWithPlans
  c = compiled_of store.row

  abbrev all : List HeldStripe
  all = held_stripes group.pass.held

  abbrev is_needed : ℕ → Type 0
  is_needed = IsNeeded c group.steps group.took

  may_keep : (kept : List HeldRows) → KeepsNeeded is_needed group.pass.held kept → (u : PassState) → u.held ≡ holds_taken kept → length u.own < 2 ^ 48 → 1 ≤ length group.steps
      → MayKeep c u group.steps all (held_stripes kept)
  may_keep kept keeps u holds few some = go group.steps refl
    where
      holds_kept : u.held ≡ all_taken (held_stripes kept)
      holds_kept = holds ∙ all_taken-held kept

      of : (r : List Pairs) × AreOfRelationFor (spec_of store.row) all r (length group.steps)
      of = relation_held (spec_of store.row) group.pass.held (core_of group.pass).held (length group.steps) o.agrees o.one o.few

      suffice : Suffice c (calls_of group.steps) (locks_of all)
      suffice = subst (Suffice c (calls_of group.steps)) (sym o.locks) o.suffice

      go : (steps : List Step) → group.steps ≡ steps → MayKeep c u group.steps all (held_stripes kept)
      go [] e = absurd (let none : length group.steps ≡ 0 = ap (λ (s : List Step). length s) e in omega (arith, none, some))
      go (s ∷ []) e =
          let alone : HasRunAlone c s all group.took = subst (λ (l : List Step). IsAlone c l all group.took) e o.alone in
          let need : (p : ℕ) → is_needed p ≡ In p (stripes_of group.took) = λ p. ap (λ (l : List Step). IsNeeded c l group.took p) e in
          let ran = alone.taking.ran in
          let fits : Fits (spec_of store.row) s.call = (subst (StepsFit (spec_of store.row)) e o.fit).0 in
          let of_all : AreOfRelationFor (spec_of store.row) all of.0 1 = subst (λ (l : List Step). AreOfRelationFor (spec_of store.row) all of.0 (length l)) e of.1 in
          let same_stripes : stripes_held all ≡ stripes_held alone.before = ap stripes_held ran.over.becomes ∙ stripes_after ran.part alone.before in
          let of_before : AreOfRelationFor (spec_of store.row) alone.before of.0 1 = record {
            relation = of_all.relation;
            satisfies = of_all.satisfies;
            few = of_all.few;
            rows = λ h m. of_all.rows (with_part ran.part h) (subst (In (with_part ran.part h)) (sym ran.over.becomes) (map_in (with_part ran.part) h alone.before m));
          } in
          let takes : KeepsTaken ran.part all (held_stripes kept) = record {
            inside = inside_so group.pass.held kept is_needed keeps;
            rising = keeps.rising;
            taken = λ p m.
                let w : (h : HeldStripe) × In h (held_stripes kept) × (p ≡ h.stripe) = in_map (λ (h : HeldStripe). h.stripe) p (held_stripes kept) m in
                let listed : In p (stripes_of group.took) = subst (λ (q : ℕ). In q (stripes_of group.took)) (sym w.2) (subst (λ (T : Type 0). T) (need w.0.stripe) (only_so group.pass.held kept is_needed keeps w.0 w.1)) in
                let there : In p (stripes_held alone.before) = subst (In p) same_stripes (subst (λ (q : ℕ). In q (stripes_held all)) (sym w.2) (map_in (λ (h : HeldStripe). h.stripe) w.0 all (inside_so group.pass.held kept is_needed keeps w.0 w.1))) in
                alone.taking.each p listed there;
            each = λ p m.
                let g : (h : HeldStripe) × In h ran.part × (p ≡ h.stripe) = in_map (λ (h : HeldStripe). h.stripe) p ran.part m in
                let f = ran.over.each g.0 g.1 in
                let there : In p (stripes_held all) = subst (In p) (sym same_stripes) (subst (λ (q : ℕ). In q (stripes_held alone.before)) (f.stripe ∙ sym g.2) (map_in (λ (h : HeldStripe). h.stripe) f.from alone.before f.held)) in
                let h : (h : HeldStripe) × In h all × (p ≡ h.stripe) = in_map (λ (h : HeldStripe). h.stripe) p all there in
                let listed : is_needed h.0.stripe = subst (λ (T : Type 0). T) (sym (need h.0.stripe)) (subst (λ (q : ℕ). In q (stripes_of group.took)) h.2 (alone.taking.only p m)) in
                subst (λ (q : ℕ). In q (stripes_held (held_stripes kept))) (sym h.2)
                (map_in (λ (h : HeldStripe). h.stripe) h.0 (held_stripes kept) (each_so group.pass.held kept is_needed keeps h.0 h.1 listed));
          } in
          let law = one_call_keeps_what_it_took c ok u alone.before all (held_stripes kept) s.call s.reply fits alone.rising alone.unchanged ran of.0 of_before takes holds_kept few in
          subst (λ (l : List Step). MayKeep c u l all (held_stripes kept)) (sym e) (record { may = law.0; left = law.1 0; rest = law.2 })
      go (s ∷ (t ∷ more)) e =
          let two : 2 ≤ length group.steps = subst (λ (l : List Step). 2 ≤ length l) (sym e) (omega arith) in
          let need : (p : ℕ) → is_needed p ≡ IsUsedBy c (calls_of group.steps) p = λ p. needed_others c group.steps group.took p (λ one. omega (arith, one, two)) in
          let used : KeepsUsed c (calls_of group.steps) all (held_stripes kept) = record {
            inside = inside_so group.pass.held kept is_needed keeps;
            rising = keeps.rising;
            used = λ h m. subst (λ (T : Type 0). T) (need h.stripe) (only_so group.pass.held kept is_needed keeps h m);
            each = λ h m u'. each_so group.pass.held kept is_needed keeps h m (subst (λ (T : Type 0). T) (sym (need h.stripe)) u');
          } in
          let law = groups_keep_what_they_use c ok u all (held_stripes kept) group.steps o.fit (rises_on store group o) suffice of.0 of.1 (o.served of.0 of.1) used holds_kept in
          let by = law.0 in
          record {
            may = group_may_commit c ok u (held_stripes kept) by.holds by.rising group.steps by.fit by.suffice by.relation by.of_relation by.served few some o.few (law.1 two);
            left = group_committed c ok u (held_stripes kept) by.holds by.rising group.steps by.fit by.suffice by.relation by.of_relation by.served 0;
            rest = law.2;
          }

  small_own : store.limit ≤ 2 ^ 48 → length (core_of group.pass).own < 2 ^ 48
  small_own small =
      let l = o.left in
      subst (λ (u : PassState). length u.own < 2 ^ 48) (sym o.since.core) (omega (arith, l, small))

  -- what isn't needed has the rows as taken
  pub unneeded_unchanged : store.limit ≤ 2 ^ 48 → 1 ≤ length group.steps → AreUnchangedBut is_needed group.pass.held
  unneeded_unchanged small some x m none =
      let decide = decide_needed c group.steps group.took in
      let kept : List HeldRows = kept_until is_needed decide (length group.pass.held) group.pass.held in
      let keeps = until_keeps is_needed decide (length group.pass.held) group.pass.held (omega arith) (rises_on store group o) in
      let u : PassState = record (core_of group.pass) { held = holds_taken kept } in
      let law = may_keep kept keeps u refl (small_own small) some in
      law.rest (held_stripe x) (map_in held_stripe x group.pass.held m)
      (λ q.
      let w : (y : HeldRows) × In y kept × (held_stripe x ≡ held_stripe y) = in_map held_stripe (held_stripe x) kept q in
      none (subst is_needed (sym (ap (λ (h : HeldStripe). h.stripe) w.2)) (keeps.only w.0 w.1)))

  -- and what is kept is ready
  pub kept_prepared : store.limit ≤ 2 ^ 48 → 1 ≤ length group.steps → (new : PassSeen) → HasGivenBack is_needed group.pass new → IsPrepared store.row group.steps group.begun new
  kept_prepared small some new g =
      let law = may_keep g.kept g.keeps (core_of new) (ap (λ (p : PassSeen). (core_of p).held) g.is)
      (subst (λ (p : PassSeen). length (core_of p).own < 2 ^ 48) (sym g.is) (small_own small)) some in
      record {
        since = subst (HasGoneOn group.begun) (sym g.is) (record {
          core = (λ i. record (o.since.core i) { held = holds_taken g.kept });
          table = o.since.table;
          more = o.since.more;
          refusals = o.since.refusals;
          known = o.since.known;
        });
        ready = record {
          room = subst (λ (p : PassSeen). HasSpare p.kept) (sym g.is) o.room;
          agrees = subst (λ (p : PassSeen). holds_taken p.held ≡ (core_of p).held) (sym g.is) refl;
          one = subst (λ (p : PassSeen). HaveOneRelation (spec_of store.row) (core_of p).held) (sym g.is) (one_kept g.kept g.keeps);
          may = law.may;
          left = ap (λ (p : PassSeen). holds_now p.held) g.is ∙ all_now-held g.kept ∙ law.left;
        };
      }
    where
      one_kept : (kept : List HeldRows) → KeepsNeeded is_needed group.pass.held kept → HaveOneRelation (spec_of store.row) (holds_taken kept)
      one_kept kept keeps = record {
        relation = o.one.relation;
        is_relation = o.one.is_relation;
        satisfies = o.one.satisfies;
        few = o.one.few;
        rows = λ h m.
            let f : HeldRows → Hold = λ (x : HeldRows). record { stripe = x.stripe; mode = x.mode; rows = x.fragment.taken } in
            let w : (x : HeldRows) × In x kept × (h ≡ f x) = in_map f h kept m in
            let there : In h (holds_taken group.pass.held) = subst (λ (z : Hold). In z (holds_taken group.pass.held)) (sym w.2) (map_in f w.0 group.pass.held (keeps.inside w.0 w.1)) in
            o.one.rows h (subst (In h) o.agrees there);
      }

  -- what is kept are exactly the declared locks that the steps need
  module _ (kept : PassSeen) (g : HasGivenBack is_needed group.pass kept) (some : 1 ≤ length group.steps) (may : MayCommit c (core_of kept) (next_of (core_of kept) group.steps)) where
    abbrev u : PassState
    u = core_of kept

    abbrev hold_of : HeldRows → Hold
    hold_of x = record { stripe = x.stripe; mode = x.mode; rows = x.fragment.taken }

    abbrev lock_of : Hold → StripeLock
    lock_of h = (h.stripe, h.mode)

    abbrev lock_held : HeldStripe → StripeLock
    lock_held h = (h.stripe, h.mode)

    -- among the locks of all that was held
    among : (lock : StripeLock) → In lock (core_locks u) → In lock (locks_of all)
    among lock m =
        let h : (h : Hold) × In h (holds_taken g.kept) × (lock ≡ lock_of h) = in_map lock_of lock (holds_taken g.kept) (subst (λ (p : PassSeen). In lock (core_locks (core_of p))) g.is m) in
        let x : (x : HeldRows) × In x g.kept × (h.0 ≡ hold_of x) = in_map hold_of h.0 g.kept h.1 in
        let same : lock ≡ lock_held (held_stripe x.0) = h.2 ∙ ap lock_of x.2 in
        subst (λ (l : StripeLock). In l (locks_of all)) (sym same)
        (map_in lock_held (held_stripe x.0) all (map_in held_stripe x.0 group.pass.held (g.keeps.inside x.0 x.1)))

    -- one that is declared, and needed, is kept
    kept_each : (lock : StripeLock) → In lock (locks_of all) → NeedStripe c u group.steps lock.0 → In lock (core_locks u)
    kept_each lock m need = go group.steps refl
      where
        go : (steps : List Step) → group.steps ≡ steps → In lock (core_locks u)
        go [] e = absurd (subst (λ (l : List Step). NeedStripe c u l lock.0) e need)
        go (s ∷ []) e =
            let named : List StripeLock = (eval c.spec (plan_at c.plans s.call.op) s.call (rows_held u)).named in
            let held = (subst (λ (l : List Step). AllAreHeld c.spec (calls_with_plans c.plans l) (rows_held u) (core_locks u)) e may.held).0 in
            let n : (l : StripeLock) × In l named × (lock.0 ≡ l.0) = in_stripes_of lock.0 named (subst (λ (l : List Step). NeedStripe c u l lock.0) e need) in
            let h = held n.0 n.1 in
            let there : In (n.0.0, h.0) (core_locks u) = h.1 in
            let same : lock ≡ (n.0.0, h.0) = one_lock all (rises_on store group o) lock (n.0.0, h.0) m (among (n.0.0, h.0) there) n.2 in
            subst (λ (l : StripeLock). In l (core_locks u)) (sym same) there
        go (s ∷ (t ∷ more)) e =
            let used : is_needed lock.0 = subst (λ (l : List Step). IsNeeded c l group.took lock.0) (sym e) (subst (λ (l : List Step). NeedStripe c u l lock.0) e need) in
            let h : (h : HeldStripe) × In h all × (lock ≡ lock_held h) = in_map lock_held lock all m in
            let x : (x : HeldRows) × In x group.pass.held × (h.0 ≡ held_stripe x) = in_map held_stripe h.0 group.pass.held h.1 in
            let same : lock ≡ lock_of (hold_of x.0) = h.2 ∙ ap lock_held x.2 in
            let there : In x.0 g.kept = g.keeps.each x.0 x.1 (subst is_needed (ap (λ (l : StripeLock). l.0) same) used) in
            subst (λ (p : PassSeen). In lock (core_locks (core_of p))) (sym g.is)
            (subst (λ (l : StripeLock). In l (core_locks (core_of (holding g.kept group.pass)))) (sym same)
            (map_in lock_of (hold_of x.0) (holds_taken g.kept) (map_in hold_of x.0 g.kept there)))

    holds_declared : HoldsDeclared c u group.steps group.locks
    holds_declared = record {
      inside = λ lock m. (subst (In lock) o.locks (among lock m), need_each c u group.steps some may.no_more lock m);
      each = λ lock m need. kept_each lock (subst (In lock) (sym o.locks) m) need;
    }

  -- an entry of these steps, over what they need of what was declared
  abbrev MadeOver : PassSeen → GroupReceipt → List Step → Type 0
  MadeOver new receipt steps =
      (entry : HasMadeEntry store steps group.begun new receipt.place receipt.nth) × HoldsDeclared c entry.at_commit steps group.locks

  -- so it was made
  pub open_group_made : store.limit ≤ 2 ^ 48 → 1 ≤ length group.steps → (kept new : PassSeen) → HasGivenBack is_needed group.pass kept → (receipt : GroupReceipt)
      → IsGroupFinished store.row (calls_of group.steps) (replies_of group.steps) kept new receipt → HasMadeOpenGroup store group.steps group.locks group.begun new receipt
  open_group_made small some kept new g receipt f = record { entry = made.0; exact = made.1; given = f.given }
    where
      again : List Step
      again = with_replies (calls_of group.steps) (replies_of group.steps)

      whole : IsPrepared store.row group.steps group.begun kept
      whole = kept_prepared small some kept g

      prepared : IsPrepared store.row again group.begun kept
      prepared = subst (λ (steps : List Step). IsPrepared store.row steps group.begun kept) (sym (with_replies-parts group.steps)) whole

      exact : HoldsDeclared c (core_of kept) again group.locks
      exact = subst (λ (steps : List Step). HoldsDeclared c (core_of kept) steps group.locks) (sym (with_replies-parts group.steps)) (holds_declared kept g some whole.ready.may)

      made : MadeOver new receipt group.steps
      made =
          subst (MadeOver new receipt) (with_replies-parts group.steps) (
            made_so store again group.begun kept new prepared receipt.place receipt.nth f.entry,
            subst (λ (u : PassState). HoldsDeclared c u again group.locks) (sym (made_commits store again group.begun kept new prepared receipt.place receipt.nth f.entry)) exact,
          )

-- ---- the calls of an open group

-- the operation of each of its calls is known
pub call_known : (store : StoreSeen) (steps : List Step) (n : ℕ) (call : Call) → StepsFit (spec_of store.row) steps → n < length steps → slice_get (calls_of steps) n ≡ Some call
    → HasOperation (spec_of store.row) call
call_known store [] n call fit l e = absurd (omega (arith, l))
call_known store (s ∷ steps) zero call fit l e =
    let all = have_operations (spec_of store.row) (s.call ∷ []) (fit.0, tt) in
    let same : s.call ≡ call = cc in
    subst (HasOperation (spec_of store.row)) same
    (All-contains (HasOperation (spec_of store.row)) (s.call ∷ []) s.call all (in_contains s.call (s.call ∷ []) (inl refl)))
call_known store (s ∷ steps) (suc n) call fit l e = call_known store steps n call fit.1 (omega (arith, l)) e

pub calls_counted : (steps : List Step) → length (calls_of steps) ≡ length steps
calls_counted steps = length-map steps (λ (s : Step). s.call)

-- what is to be committed stays the pass's next entry while plans run
pub of_pass_on : (row : RowSeen) (old new : PassSeen) (prepared : PreparedGroup) → IsOnTheWay row old new → IsOfPass old prepared → IsOfPass new prepared
of_pass_on row old new (prepared.Entry entry) way w = (
  subst (λ (k : Option PartEntries). IsSome k) (sym way.ran.kept) w.0,
  w.1 ∙ ap (λ (u : PassState). next_of u entry.steps) (sym way.ran.core),
)
of_pass_on row old new (prepared.Counted calls replies) way w = (way.ran.kept ∙ w.0, w.1)
