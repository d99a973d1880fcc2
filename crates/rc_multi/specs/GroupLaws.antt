-- Calls served one after another over one set of held stripes are served as one.
use Rattle.std.specs.Prelude.{◌≡◌, ℕ, ◌+◌, ◌≤◌, ◌==◌, Bool, true, false, List, [], ◌∷◌, length, map, if◌then◌else◌}
use Rattle.std.proofs.Common.{refl, sym, ap, subst, ◌∙◌, inl, inr, arith}
use Rattle.std.proofs.lemmas.Bool.{eqb-true, eq-eqb, false≢true}
use Rattle.std.proofs.lemmas.List.{length-append}
use Rattle.rc_multi.specs.Imports.{In, in_map, map_in, IsRelation, Satisfies, Pairs, Call, Reply, Mode, Exclusive, Shared, Spec, all_columns, plain_keeps_relation, EdgeRow, fragment_of, plain, plain_satisfies, plain_grows, AreOfRelation, HeldStripe, Statement, StripeLock, Suffices, Step, StepsFit, after_steps, AreLegalFrom-append, after_steps-append, AreAsTaken, HasReplied, HasServed, locks_of}
use Rattle.rc_multi.specs.Group.{AreNowOf, AreOfRelationFor, HasRunOver, HasServedAll, HaveServed, now_after, with_part, with_step}

-- ---- the relation after some steps

after_relation : (spec : Spec) (r : List Pairs) (steps : List Step) → StepsFit spec steps → IsRelation (all_columns spec) r → IsRelation (all_columns spec) (after_steps spec r steps)
after_relation spec r [] fit i = i
after_relation spec r (s ∷ steps) fit i = after_relation spec (plain spec r s.call).relation steps fit.1 (plain_keeps_relation spec r s.call fit.0 i)

after_satisfies : (spec : Spec) (r : List Pairs) (steps : List Step) → Satisfies r spec.deps → Satisfies (after_steps spec r steps) spec.deps
after_satisfies spec r [] h = h
after_satisfies spec r (s ∷ steps) h = after_satisfies spec (plain spec r s.call).relation steps (plain_satisfies spec r s.call h)

after_few : (spec : Spec) (r : List Pairs) (steps : List Step) → length (after_steps spec r steps) ≤ length r + length steps
after_few spec r [] = omega arith
after_few spec r (s ∷ steps) =
    let next : List Pairs = (plain spec r s.call).relation in
    let a : length (after_steps spec next steps) ≤ length next + length steps = after_few spec next steps in
    let b : length next ≤ length r + 1 = plain_grows spec r s.call in
    omega (arith, a, b)

-- ---- one plan more

-- only what is held Exclusive suffices for Exclusive
pub suffices_exclusive : (held wanted : Mode) → Suffices held wanted → wanted ≡ Exclusive → held ≡ Exclusive
suffices_exclusive Exclusive wanted s e = refl
suffices_exclusive Shared Shared s e = cc
suffices_exclusive Shared Exclusive s e = absurd s

-- what holds of the rows that the plan made where it took the stripe, and of those of before where it didn't, holds of the rows after
rows_after_part : (part : List HeldStripe) (h : HeldStripe) (P : List EdgeRow → Type 0)
    → ((g : HeldStripe) → In g part → g.stripe ≡ h.stripe → P g.now) → (((g : HeldStripe) → In g part → g.stripe ≡ h.stripe → ⊥) → P h.now) → P (now_after part h)
rows_after_part [] h P taken left = left (λ g m. absurd m)
rows_after_part (g ∷ part) h P taken left = go (g.stripe == h.stripe) refl (λ none. rows_after_part part h P (λ x m. taken x (inr m)) none)
  where
    go : (b : Bool) → g.stripe == h.stripe ≡ b → ((((x : HeldStripe) → In x part → x.stripe ≡ h.stripe → ⊥) → P h.now) → P (now_after part h)) → P (if b then g.now else now_after part h)
    go true e rest = taken g (inl refl) (eqb-true g.stripe h.stripe e)
    go false e rest =
        rest (λ none. left (λ x m. elim m [
          | inl is ↦ (λ same. false≢true (sym e ∙ eq-eqb g.stripe h.stripe (ap (λ (y : HeldStripe). y.stripe) (sym is) ∙ same)))
          | inr n ↦ none x n
        ]))

pub locks_after : (part before : List HeldStripe) → locks_of (map (with_part part) before) ≡ locks_of before
locks_after part [] = refl
locks_after part (h ∷ before) = λ i. (h.stripe, h.mode) ∷ locks_after part before i

module _ (spec : Spec) (before after part : List HeldStripe) (steps : List Step) (plan : List Statement) (call : Call) (reply : Reply)
    (fit : StepsFit spec steps) (over : HasRunOver before after part) (done : HasReplied spec plan call part reply) (served : HaveServed spec before steps) where
  module _ (r : List Pairs) (of : AreOfRelationFor spec after r (length (with_step steps call reply))) where
    -- the relation on which the plan ran
    abbrev mid : List Pairs
    mid = after_steps spec r steps

    longer : length (with_step steps call reply) ≡ length steps + 1
    longer = length-append steps (record { call = call; reply = reply } ∷ [])

    -- what the group holds, as taken, was so before
    taken_before : (h : HeldStripe) → In h before → h.taken ≡ fragment_of spec r h.stripe
    taken_before h m = of.rows (with_part part h) (subst (In (with_part part h)) (sym over.becomes) (map_in (with_part part) h before m))

    of_before : AreOfRelationFor spec before r (length steps)
    of_before = record { relation = of.relation; satisfies = of.satisfies; few = (let l = of.few in let e = longer in omega (arith, l, e)); rows = taken_before }

    ran : HasServedAll spec before steps r
    ran = served r of_before

    -- the plan's stripes, as it took them, are the fragments of that relation
    of_mid : AreOfRelation spec part mid
    of_mid = record {
      relation = after_relation spec r steps fit of.relation;
      satisfies = after_satisfies spec r steps of.satisfies;
      few = (let l = of.few in let e = longer in let k = after_few spec r steps in omega (arith, l, e, k));
      rows = λ g m. let f = over.each g m in sym f.rows ∙ ran.rows f.from f.held ∙ ap (fragment_of spec mid) f.stripe;
    }

    one : HasServed spec plan call part reply mid
    one = done.served mid of_mid

    end : after_steps spec r (with_step steps call reply) ≡ (plain spec mid call).relation
    end = after_steps-append spec r steps (record { call = call; reply = reply } ∷ [])

    -- a stripe that the plan holds Exclusive the group holds so
    held_so : (stripe : ℕ) → In (stripe, Exclusive) (locks_of part) → In (stripe, Exclusive) (locks_of before)
    held_so stripe m =
        let w : (g : HeldStripe) × In g part × ((stripe, Exclusive) ≡ (g.stripe, g.mode)) = in_map (λ (g : HeldStripe). let l : StripeLock = (g.stripe, g.mode) in l) (stripe, Exclusive) part m in
        let f = over.each w.0 w.1 in
        let mode : f.from.mode ≡ Exclusive = suffices_exclusive f.from.mode w.0.mode f.mode (sym (ap (λ (l : StripeLock). l.1) w.2)) in
        let at : f.from.stripe ≡ stripe = f.stripe ∙ sym (ap (λ (l : StripeLock). l.0) w.2) in
        subst (λ (l : StripeLock). In l (locks_of before)) (λ i. (at i, mode i)) (map_in (λ (h : HeldStripe). let l : StripeLock = (h.stripe, h.mode) in l) f.from before f.held)

    -- a stripe that the plan didn't take keeps its rows
    not_taken : (stripe : ℕ) → ((g : HeldStripe) → In g part → g.stripe ≡ stripe → ⊥) → In (stripe, Exclusive) (locks_of part) → ⊥
    not_taken stripe none m =
        let w : (g : HeldStripe) × In g part × ((stripe, Exclusive) ≡ (g.stripe, g.mode)) = in_map (λ (g : HeldStripe). let l : StripeLock = (g.stripe, g.mode) in l) (stripe, Exclusive) part m in
        none w.0 w.1 (sym (ap (λ (l : StripeLock). l.0) w.2))

    rows_then : (h : HeldStripe) → In h before → now_after part h ≡ fragment_of spec (plain spec mid call).relation h.stripe
    rows_then h m =
        rows_after_part part h (λ rows. rows ≡ fragment_of spec (plain spec mid call).relation h.stripe)
        (λ g n e. one.rows g n ∙ ap (fragment_of spec (plain spec mid call).relation) e)
        (λ none. ran.rows h m ∙ sym (one.others h.stripe (not_taken h.stripe none)))

    more : HasServedAll spec after (with_step steps call reply) r
    more = record {
      legal = AreLegalFrom-append spec r steps (record { call = call; reply = reply } ∷ []) ran.legal (sym one.reply, tt);
      rows = λ h m.
          let w : (was : HeldStripe) × In was before × (h ≡ with_part part was) = in_map (with_part part) h before (subst (In h) over.becomes m) in
          ap (λ (x : HeldStripe). x.now) w.2 ∙ rows_then w.0 w.1
          ∙ (λ i. fragment_of spec (sym end i) (sym (ap (λ (x : HeldStripe). x.stripe) w.2) i));
      others = λ stripe out.
          let out_before : In (stripe, Exclusive) (locks_of before) → ⊥ = (λ m. out (subst (In (stripe, Exclusive)) (sym (locks_after part before) ∙ ap locks_of (sym over.becomes)) m)) in
          ap (λ (q : List Pairs). fragment_of spec q stripe) end
          ∙ one.others stripe (λ m. out_before (held_so stripe m))
          ∙ ran.others stripe out_before;
    }

  -- The group has served one call more.
  pub served_more : HaveServed spec after (with_step steps call reply)
  served_more r of = more r of

-- at first nothing was served, and nothing is changed
pub served_none : (spec : Spec) (held : List HeldStripe) → AreAsTaken held → HaveServed spec held []
served_none spec held same r of = record {
  legal = tt;
  rows = λ h m. same h m ∙ of.rows h m;
  others = λ stripe out. refl;
}

-- what a group holds after some calls are the fragments of the relation after them: the next plan may run on it
pub now_of_relation : (spec : Spec) (held : List HeldStripe) (steps : List Step) → StepsFit spec steps → HaveServed spec held steps
    → (r : List Pairs) → AreOfRelationFor spec held r (length steps) → AreNowOf spec held (after_steps spec r steps)
now_of_relation spec held steps fit served r of = record {
  relation = after_relation spec r steps fit of.relation;
  satisfies = after_satisfies spec r steps of.satisfies;
  few = (let l = of.few in let k = after_few spec r steps in omega (arith, l, k));
  rows = (served r of).rows;
}
