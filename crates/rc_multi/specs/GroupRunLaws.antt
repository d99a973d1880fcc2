-- The run of a group goes on from call to call.
use Rattle.std.specs.Prelude.{◌≡◌, ℕ, zero, suc, ◌+◌, ◌<◌, ◌≤◌, List, [], ◌∷◌, ◌++◌, get_or, length, map, take}
use Rattle.rc_multi.specs.Imports.{AllByRecursion, nat_cmp, In, IsRising, in_map, Pairs, Call, Reply, Spec, Fits, fragment_of, HeldStripe, Statement, StripeLock, SpecWithPlans, Step, StepsFit, after_steps, Hold, AreAsTaken, locks_of, stripes_held}
use Rattle.std.proofs.Common.{refl, sym, ap, subst, ◌∙◌, arith}
use Rattle.std.proofs.lemmas.List.{length-map, map-append, take_more}
use Rattle.rc_multi.specs.Group.{AreNowOf, AreOfRelationFor, HasRunIn, Suffice, with_part, with_step}
use Rattle.rc_multi.specs.GroupLaws.{now_of_relation, served_more, served_none}
use Rattle.rc_multi.specs.GroupRun.{IsGroupAt}
use Rattle.rc_multi.specs.HeldStripes.{all_taken, hold_taken}

-- ---- what is held after a plan

pub taken_after : (part before : List HeldStripe) → all_taken (map (with_part part) before) ≡ all_taken before
taken_after part [] = refl
taken_after part (h ∷ before) = λ i. hold_taken h ∷ taken_after part before i

pub stripes_after : (part before : List HeldStripe) → stripes_held (map (with_part part) before) ≡ stripes_held before
stripes_after part [] = refl
stripes_after part (h ∷ before) = λ i. h.stripe ∷ stripes_after part before i

pub relation_after_part : (spec : Spec) (part before : List HeldStripe) (r : List Pairs) (n : ℕ) → AreOfRelationFor spec before r n → AreOfRelationFor spec (map (with_part part) before) r n
relation_after_part spec part before r n of = record {
  relation = of.relation;
  satisfies = of.satisfies;
  few = of.few;
  rows = λ h m.
      let w : (was : HeldStripe) × In was before × (h ≡ with_part part was) = in_map (with_part part) h before m in
      subst (λ (z : HeldStripe). z.taken ≡ fragment_of spec r z.stripe) (sym w.2) (of.rows w.0 w.1);
}

fewer : (spec : Spec) (held : List HeldStripe) (r : List Pairs) (n m : ℕ) → m ≤ n → AreOfRelationFor spec held r n → AreOfRelationFor spec held r m
fewer spec held r n m l of = record { relation = of.relation; satisfies = of.satisfies; few = (let f = of.few in omega (arith, f, l)); rows = of.rows }

-- the stripes and modes of holds
abbrev locks_held : List Hold → List StripeLock
locks_held holds = map (λ (h : Hold). (h.stripe, h.mode)) holds

-- ---- the steps

steps_count : (calls : List Call) (n : ℕ) (steps : List Step) → n ≤ length calls → map (λ (s : Step). s.call) steps ≡ take n calls → length steps ≡ n
steps_count calls n steps l e = sym (length-map steps (λ (s : Step). s.call)) ∙ ap (λ (z : List Call). length z) e ∙ length-take calls n l
  where
    length-take : (calls : List Call) (n : ℕ) → n ≤ length calls → length (take n calls) ≡ n
    length-take calls zero l = refl
    length-take [] (suc n) l = absurd (omega (arith, l))
    length-take (c ∷ calls) (suc n) l = ap suc (length-take calls n (omega (arith, l)))

first_fit : (spec : Spec) (calls : List Call) (n : ℕ) → AllByRecursion (Fits spec) calls → AllByRecursion (Fits spec) (take n calls)
first_fit spec calls zero fit = tt
first_fit spec [] (suc n) fit = tt
first_fit spec (c ∷ calls) (suc n) fit = (fit.0, first_fit spec calls n fit.1)

pub steps_fit : (spec : Spec) (steps : List Step) → AllByRecursion (Fits spec) (map (λ (s : Step). s.call) steps) → StepsFit spec steps
steps_fit spec [] fit = tt
steps_fit spec (s ∷ steps) fit = (fit.0, steps_fit spec steps fit.1)

-- ---- from call to call

-- the stripes as taken tell which are held and how
locks_as_taken : (held : List HeldStripe) → locks_held (all_taken held) ≡ locks_of held
locks_as_taken [] = refl
locks_as_taken (h ∷ held) = λ i. (h.stripe, h.mode) ∷ locks_as_taken held i

-- locks that suffice at the start do after each call
pub suffice_still : (c : SpecWithPlans) (calls : List Call) (old new : List HeldStripe) → all_taken new ≡ all_taken old → Suffice c calls (locks_of old) → Suffice c calls (locks_of new)
suffice_still c calls old new same suffice =
    subst (Suffice c calls) (sym (locks_as_taken old) ∙ ap locks_held (sym same) ∙ locks_as_taken new) suffice

module _ (spec : Spec) (calls : List Call) (fit : AllByRecursion (Fits spec) calls) (first : List Hold) where
  fit_at : (n : ℕ) (held : List HeldStripe) (replies : List Reply) (at : IsGroupAt spec calls n first held replies) → StepsFit spec at.steps
  fit_at n held replies at = steps_fit spec at.steps (subst (AllByRecursion (Fits spec)) (sym at.calls_are) (first_fit spec calls n fit))

  -- the next plan may run
  pub now_at : (n : ℕ) (held : List HeldStripe) (replies : List Reply) → n ≤ length calls → IsGroupAt spec calls n first held replies → (r : List Pairs) × AreNowOf spec held r
  now_at n held replies l at =
      let count = steps_count calls n at.steps l at.calls_are in
      let of = fewer spec held at.relation.0 (length calls) (length at.steps) (omega (arith, count, l)) at.relation.1 in
      (after_steps spec at.relation.0 at.steps, now_of_relation spec held at.steps (fit_at n held replies at) at.served at.relation.0 of)

  -- and the group is at the next call after it
  pub next_at : (n : ℕ) (held new : List HeldStripe) (replies : List Reply) (plan : List Statement) (call : Call) (reply : Reply) → n < length calls → call ≡ get_or calls n call
      → IsGroupAt spec calls n first held replies → HasRunIn spec plan call held new reply → IsGroupAt spec calls (n + 1) first new (replies ++ reply ∷ [])
  next_at n held new replies plan call reply l is at ran = record {
    steps = with_step at.steps call reply;
    calls_are =
        map-append (λ (s : Step). s.call) at.steps (record { call = call; reply = reply } ∷ [])
        ∙ (λ i. at.calls_are i ++ is i ∷ [])
        ∙ sym (take_more calls n call l);
    replies_are =
        map-append (λ (s : Step). s.reply) at.steps (record { call = call; reply = reply } ∷ [])
        ∙ ap (λ (list : List Reply). list ++ reply ∷ []) at.replies_are;
    served = served_more spec held new ran.part at.steps plan call reply (fit_at n held replies at) ran.over ran.replied at.served;
    relation = (
      at.relation.0,
      subst (λ (hs : List HeldStripe). AreOfRelationFor spec hs at.relation.0 (length calls)) (sym ran.over.becomes)
          (relation_after_part spec ran.part held at.relation.0 (length calls) at.relation.1),
    );
    rising = subst (λ (xs : List ℕ). IsRising nat_cmp xs) (sym (ap stripes_held ran.over.becomes ∙ stripes_after ran.part held)) at.rising;
    taken = ap all_taken ran.over.becomes ∙ taken_after ran.part held ∙ at.taken;
  }

-- at the start
pub first_at : (spec : Spec) (calls : List Call) (held : List HeldStripe) → AreAsTaken held → (r : List Pairs) × AreOfRelationFor spec held r (length calls)
    → IsRising nat_cmp (stripes_held held) → IsGroupAt spec calls 0 (all_taken held) held []
first_at spec calls held same of rising = record {
  steps = [];
  calls_are = refl;
  replies_are = refl;
  served = served_none spec held same;
  relation = of;
  rising = rising;
  taken = refl;
}
