-- Histories whose passes keep to their shards: each shard is by itself, and all are as if one thread made all calls in order.
use Rattle.std.proofs.Common.{◌≡◌, ℕ, ◌==◌, Bool, true, false, cond, List, [], ◌∷◌, ◌++◌, map, IsPermutation, refl, sym, ap, ◌∙◌, subst}
use Rattle.rc_generate.specs.Imports.{AllByRecursion, In, IsRising, in_filter, filter_in, flat_map_in, map_in, in_each, each_in, same_rising, Pairs, tuple_cmp, tuple_order, Satisfies, satisfies_none, Call, Spec, Fits, plain, plain_satisfies, Step, Entry, steps_of, AreLegalFrom, IsLegal, after_steps, replay, own, calls_of, StepsFit, AllFit, StepsFit-steps_of, plain_steps, calls_of_plain, legal_are_plain, plain_are_legal}
use Rattle.std.proofs.lemmas.Bool.{eqb-true, eq-eqb}
use Rattle.std.proofs.lemmas.List.Elements.{filter-append}
use Rattle.rc_generate.specs.Shards.{IsSharded, shard_of, tuples_in, calls_in, steps_in, KeepsShards, IsSharedOut, MakesShards, CallsFit, IsAsOneThread}
use Rattle.rc_generate.specs.FilterLaws.{filter-every, filter-none, map-filter}
use Rattle.rc_generate.specs.CallLaws.{has_key, own_reply, own_tuples, other_tuples, plain_rising}
use Rattle.rc_generate.specs.PartLaws.{permutation_from_parts}

-- ---- calls made in order

plain_fit : (spec : Spec) (r : List Pairs) (calls : List Call) → CallsFit spec calls → StepsFit spec (plain_steps spec r calls)
plain_fit spec r [] h = tt
plain_fit spec r (c ∷ calls) h = (h.0, plain_fit spec (plain spec r c).relation calls h.1)

after_rising : (spec : Spec) (r : List Pairs) (steps : List Step) → IsRising tuple_cmp r → IsRising tuple_cmp (after_steps spec r steps)
after_rising spec r [] h = h
after_rising spec r (s ∷ steps) h = after_rising spec (plain spec r s.call).relation steps (plain_rising spec r s.call h)

module _ (spec : Spec) (key : ℕ) (share : ℕ → ℕ) (is : IsSharded spec key) where
  -- ---- the steps of one shard alone

  -- they are legal from their part of the relation
  pub own_legal : (n : ℕ) (r : List Pairs) (steps : List Step) → IsRising tuple_cmp r → Satisfies r spec.deps → StepsFit spec steps → AreLegalFrom spec r steps
      → AreLegalFrom spec (tuples_in key share n r) (steps_in key share n steps)
  own_legal n r [] rising sat fits legal = tt
  own_legal n r (s ∷ steps) rising sat fits legal =
      go (shard_of key share s.call.args == n) refl
      (own_legal n (plain spec r s.call).relation steps (plain_rising spec r s.call rising) (plain_satisfies spec r s.call sat) fits.1 legal.1)
    where
      go : (b : Bool) → (shard_of key share s.call.args == n) ≡ b → AreLegalFrom spec (tuples_in key share n (plain spec r s.call).relation) (steps_in key share n steps)
          → AreLegalFrom spec (tuples_in key share n r) (cond b (s ∷ steps_in key share n steps) (steps_in key share n steps))
      go true e ih =
          let at = eqb-true (shard_of key share s.call.args) n e in
          let keyed = has_key key spec s.call is fits.0 in (
            legal.0 ∙ sym (own_reply key share n spec r s.call is keyed at sat),
            subst (λ (x : List Pairs). AreLegalFrom spec x (steps_in key share n steps)) (sym (own_tuples key share n spec r s.call is keyed at rising sat)) ih,
          )
      go false e ih = subst (λ (x : List Pairs). AreLegalFrom spec x (steps_in key share n steps)) (other_tuples key share n spec r s.call (has_key key spec s.call is fits.0) e rising) ih

  -- and leave the part as all steps leave it
  pub own_after : (n : ℕ) (r : List Pairs) (steps : List Step) → IsRising tuple_cmp r → Satisfies r spec.deps → StepsFit spec steps
      → after_steps spec (tuples_in key share n r) (steps_in key share n steps) ≡ tuples_in key share n (after_steps spec r steps)
  own_after n r [] rising sat fits = refl
  own_after n r (s ∷ steps) rising sat fits =
      go (shard_of key share s.call.args == n) refl
      (own_after n (plain spec r s.call).relation steps (plain_rising spec r s.call rising) (plain_satisfies spec r s.call sat) fits.1)
    where
      last : List Pairs
      last = tuples_in key share n (after_steps spec (plain spec r s.call).relation steps)

      go : (b : Bool) → (shard_of key share s.call.args == n) ≡ b → after_steps spec (tuples_in key share n (plain spec r s.call).relation) (steps_in key share n steps) ≡ last
          → after_steps spec (tuples_in key share n r) (cond b (s ∷ steps_in key share n steps) (steps_in key share n steps)) ≡ last
      go true e ih =
          ap (λ (x : List Pairs). after_steps spec x (steps_in key share n steps))
          (own_tuples key share n spec r s.call is (has_key key spec s.call is fits.0) (eqb-true (shard_of key share s.call.args) n e) rising sat)
          ∙ ih
      go false e ih =
          ap (λ (x : List Pairs). after_steps spec x (steps_in key share n steps)) (sym (other_tuples key share n spec r s.call (has_key key spec s.call is fits.0) e rising)) ∙ ih

  -- ---- two ways to make the same calls of each shard

  module _ (xs ys : List Step) (xs_fit : StepsFit spec xs) (ys_fit : StepsFit spec ys) (xs_legal : AreLegalFrom spec [] xs) (ys_legal : AreLegalFrom spec [] ys)
      (same_calls : (n : ℕ) → map (λ s. s.call) (steps_in key share n xs) ≡ map (λ s. s.call) (steps_in key share n ys)) where
    -- each shard's calls have the same replies
    pub same_steps : (n : ℕ) → steps_in key share n xs ≡ steps_in key share n ys
    same_steps n =
        legal_are_plain spec [] (steps_in key share n xs) (own_legal n [] xs tt (satisfies_none spec.deps) xs_fit xs_legal)
        ∙ ap (plain_steps spec []) (same_calls n)
        ∙ sym (legal_are_plain spec [] (steps_in key share n ys) (own_legal n [] ys tt (satisfies_none spec.deps) ys_fit ys_legal))

    same_parts : (n : ℕ) → tuples_in key share n (after_steps spec [] xs) ≡ tuples_in key share n (after_steps spec [] ys)
    same_parts n =
        sym (own_after n [] xs tt (satisfies_none spec.deps) xs_fit) ∙ ap (after_steps spec []) (same_steps n)
        ∙ own_after n [] ys tt (satisfies_none spec.deps) ys_fit

    same_members : (r s : List Pairs) → ((n : ℕ) → tuples_in key share n r ≡ tuples_in key share n s) → (t : Pairs) → In t r → In t s
    same_members r s h t m =
        let n = shard_of key share t in
        (in_filter (λ u. shard_of key share u == n) t s
        (subst (λ (l : List Pairs). In t l) (h n) (filter_in (λ u. shard_of key share u == n) t r m (eq-eqb n n refl)))).0

    -- and the last relation is the same
    pub same_last : after_steps spec [] xs ≡ after_steps spec [] ys
    same_last = same_rising tuple_cmp tuple_order (after_steps spec [] xs) (after_steps spec [] ys) (after_rising spec [] xs tt) (after_rising spec [] ys tt)
        (same_members (after_steps spec [] xs) (after_steps spec [] ys) same_parts)
        (same_members (after_steps spec [] ys) (after_steps spec [] xs) (λ n. sym (same_parts n)))

    pub same_counts : IsPermutation xs ys
    same_counts = permutation_from_parts (λ s. shard_of key share s.call.args) xs ys same_steps

-- ---- entries

own_steps : (key : ℕ) (share : ℕ → ℕ) (n : ℕ) (history : List Entry) → KeepsShards key share history → steps_in key share n (steps_of history) ≡ steps_of (own history n)
own_steps key share n [] h = refl
own_steps key share n (e ∷ history) h =
    filter-append (λ (s : Step). shard_of key share s.call.args == n) e.steps (steps_of history) ∙ go (e.pass == n) refl (own_steps key share n history h.1)
  where
    q : Step → Bool
    q s = shard_of key share s.call.args == n

    at : (s : Step) → In s e.steps → shard_of key share s.call.args ≡ e.pass
    at s m = each_in (λ (s : Step). shard_of key share s.call.args ≡ e.pass) e.steps h.0 s m

    go : (b : Bool) → (e.pass == n) ≡ b → steps_in key share n (steps_of history) ≡ steps_of (own history n)
        → steps_in key share n e.steps ++ steps_in key share n (steps_of history) ≡ steps_of (cond b (e ∷ own history n) (own history n))
    go true k ih =
        ap (λ l. l ++ steps_in key share n (steps_of history)) (filter-every q e.steps (λ s m. ap (λ p. p == n) (at s m) ∙ k))
        ∙ ap (λ l. e.steps ++ l) ih
    go false k ih =
        ap (λ l. l ++ steps_in key share n (steps_of history)) (filter-none q e.steps (λ s m. ap (λ p. p == n) (at s m) ∙ k))
        ∙ ih

-- where each pass makes the calls of its shard, passes keep to their shards, and their calls fit where all do
module _ (spec : Spec) (key : ℕ) (share : ℕ → ℕ) (calls : List Call) (history : List Entry)
    (makes : MakesShards key share calls history) where
  call_in : (e : Entry) (s : Step) → In e history → In s e.steps → In s.call (calls_in key share e.pass calls)
  call_in e s m k =
      let mine : In e (own history e.pass) = filter_in (λ (x : Entry). x.pass == e.pass) e history m (eq-eqb e.pass e.pass refl) in
      subst (λ (l : List Call). In s.call l) (makes e.pass)
      (map_in (λ (x : Step). x.call) s (steps_of (own history e.pass)) (flat_map_in (λ (x : Entry). x.steps) s e (own history e.pass) mine k))

  pub keeps_shards : KeepsShards key share history
  keeps_shards = in_each (λ (e : Entry). AllByRecursion (λ (s : Step). shard_of key share s.call.args ≡ e.pass) e.steps) history
      (λ e m. in_each (λ (s : Step). shard_of key share s.call.args ≡ e.pass) e.steps
      (λ s k. eqb-true (shard_of key share s.call.args) e.pass (in_filter (λ (c : Call). shard_of key share c.args == e.pass) s.call calls (call_in e s m k)).1))

  pub all_fit : CallsFit spec calls → AllFit spec history
  all_fit fits = in_each (λ (e : Entry). StepsFit spec e.steps) history
      (λ e m. in_each (λ (s : Step). Fits spec s.call) e.steps
      (λ s k. each_in (Fits spec) calls fits s.call (in_filter (λ (c : Call). shard_of key share c.args == e.pass) s.call calls (call_in e s m k)).0))

-- ---- the laws

-- a pass's own entries are a legal history by themselves, which leaves the pass's shard of the relation
abbrev pub ShardsAreApart : Type 0
ShardsAreApart = (spec : Spec) (key : ℕ) (share : ℕ → ℕ) (history : List Entry) → IsSharded spec key → IsSharedOut spec key share history
    → (pass : ℕ) → IsLegal spec (own history pass) × (replay spec (own history pass) ≡ tuples_in key share pass (replay spec history))

pub shards_are_apart : ShardsAreApart
shards_are_apart spec key share history is shared pass =
    let steps_fit = StepsFit-steps_of spec history shared.fit in
    let e = own_steps key share pass history shared.keeps in (
      subst (AreLegalFrom spec []) e (own_legal spec key share is pass [] (steps_of history) tt (satisfies_none spec.deps) steps_fit shared.legal),
      sym (ap (after_steps spec []) e) ∙ own_after spec key share is pass [] (steps_of history) tt (satisfies_none spec.deps) steps_fit,
    )

-- whatever the schedule, the calls of each pass have the same replies, and the last relation is the same
abbrev pub SameInEverySchedule : Type 0
SameInEverySchedule = (spec : Spec) (key : ℕ) (share : ℕ → ℕ) (h k : List Entry) → IsSharded spec key → IsSharedOut spec key share h → IsSharedOut spec key share k
    → ((pass : ℕ) → calls_of (own h pass) ≡ calls_of (own k pass))
    → ((pass : ℕ) → steps_of (own h pass) ≡ steps_of (own k pass)) × (replay spec h ≡ replay spec k)

pub same_in_every_schedule : SameInEverySchedule
same_in_every_schedule spec key share h k is hs ks same = (
  (λ n. sym (own_steps key share n h hs.keeps) ∙ same_steps spec key share is xs ys xs_fit ys_fit hs.legal ks.legal same_calls n ∙ own_steps key share n k ks.keeps),
  same_last spec key share is xs ys xs_fit ys_fit hs.legal ks.legal same_calls,
)
  where
    xs : List Step
    xs = steps_of h

    ys : List Step
    ys = steps_of k

    xs_fit : StepsFit spec xs
    xs_fit = StepsFit-steps_of spec h hs.fit

    ys_fit : StepsFit spec ys
    ys_fit = StepsFit-steps_of spec k ks.fit

    same_calls : (n : ℕ) → map (λ s. s.call) (steps_in key share n xs) ≡ map (λ s. s.call) (steps_in key share n ys)
    same_calls n =
        ap (map (λ s. s.call)) (own_steps key share n h hs.keeps) ∙ same n ∙ sym (ap (map (λ s. s.call)) (own_steps key share n k ks.keeps))

-- a legal history in which each pass makes the calls of its own shard is as if one thread had made all calls in order
abbrev pub ShardsAreAsOneThread : Type 0
ShardsAreAsOneThread = (spec : Spec) (key : ℕ) (share : ℕ → ℕ) (calls : List Call) (history : List Entry) → IsSharded spec key → CallsFit spec calls
    → IsLegal spec history → MakesShards key share calls history → IsAsOneThread spec calls history

pub shards_are_as_one_thread : ShardsAreAsOneThread
shards_are_as_one_thread spec key share calls history is fits legal makes = record {
  steps = same_counts spec key share is xs ys xs_fit ys_fit legal ys_legal same_calls;
  last = same_last spec key share is xs ys xs_fit ys_fit legal ys_legal same_calls;
}
  where
    xs : List Step
    xs = steps_of history

    ys : List Step
    ys = plain_steps spec [] calls

    xs_fit : StepsFit spec xs
    xs_fit = StepsFit-steps_of spec history (all_fit spec key share calls history makes fits)

    ys_fit : StepsFit spec ys
    ys_fit = plain_fit spec [] calls fits

    ys_legal : AreLegalFrom spec [] ys
    ys_legal = plain_are_legal spec [] calls

    same_calls : (n : ℕ) → map (λ s. s.call) (steps_in key share n xs) ≡ map (λ s. s.call) (steps_in key share n ys)
    same_calls n =
        ap (map (λ s. s.call)) (own_steps key share n history (keeps_shards spec key share calls history makes)) ∙ makes n
        ∙ sym (map-filter (λ (s : Step). s.call) (λ (c : Call). shard_of key share c.args == n) ys ∙ ap (calls_in key share n) (calls_of_plain spec [] calls))
