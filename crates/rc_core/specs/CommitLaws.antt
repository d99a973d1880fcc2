-- An allowed commit leads from a good state to a good one: by the law of accepted plans, evaluation over what a pass holds replies as the plain relation does after the history, and leaves its rows.
use Rattle.std.proofs.Common.{◌≡◌, ◌≢◌, ℕ, ◌<◌, ◌||◌, Bool, true, false, List, [], ◌∷◌, ◌++◌, map, length, Option, Some, None, if◌then◌else◌, sym, refl, ap, ◌∙◌, subst, inl, inr, arith, length-append}
use Rattle.rc_core.specs.Imports.{AllByRecursion, slice_get, flat_map, In, gather, in_append, in_map, has_in, has, Pairs, Reply, Mode, Shared, Exclusive, Spec, Fits, EdgeRow, edge_row_cmp, on_stripes, rows_on, fragment_of, parts_law, pieces_law, plain, Statement, SpecWithPlans, IsCompiled, AllServe, compiled_in_turn_law, AllAreHeld, CallWithPlan, eval_replies, plain_replies, relation_after, rows_after, StripeLock, stripes_of, Step, Entry, steps_of, AreLegalFrom, IsLegal, after_steps, replay, own, own_placed, placed, StepsFit, after_steps-append, AreLegalFrom-append, steps_of-append, AllFit-more, states_satisfy, states_are_relations, replay_in_states, Placed, numbered_more, own_end_mine, own_end_other, placed_own}
use Rattle.std.proofs.lemmas.Bool.{false≢true}
use Rattle.std.proofs.lemmas.List.{append-nil, length-map}
use Rattle.rc_core.specs.declared.state.Hold.{Hold}
use Rattle.rc_core.specs.declared.state.StripeState.{StripeState}
use Rattle.rc_core.specs.declared.state.PassState.{PassState}
use Rattle.rc_core.specs.declared.state.Keeper.{Keeper}
use Rattle.rc_core.specs.declared.state.Keeper.TheVariants.{Home, Writer}
use Rattle.rc_core.specs.declared.state.CoreState.{CoreState}
use Rattle.rc_core.specs.State.{is_writer, stripe_at, stripes_in, is_mode, held_in, writes_of, shares_of, is_at, locks_of, rows_held}
use Rattle.rc_core.specs.Passes.{calls_with_plans, rows_then, renewed_as, renewed, committed, MayCommit}
use Rattle.rc_core.specs.Events.{with_pass}
use Rattle.rc_core.specs.Good.{HaveRows, IsGoodPass, IsGoodKeeper, IsGoodStripe, IsGoodEntry, IsGoodHistory, IsGood}
use Rattle.rc_core.specs.KeepsLaws.{change, at_below, no_writer, other_writer}
use Rattle.rc_core.specs.ListLaws.{stripes_have, stripes_in_have}

-- ---- what is held, as fragments

stripes-locks : (holds : List Hold) → stripes_of (map (λ (h : Hold). (h.stripe, h.mode)) holds) ≡ stripes_in holds
stripes-locks [] = refl
stripes-locks (h ∷ holds) = ap (λ l. h.stripe ∷ l) (stripes-locks holds)

-- the locked stripes are those held
pub stripes_of-locks_of : (u : PassState) → stripes_of (locks_of u) ≡ stripes_in u.held
stripes_of-locks_of u = stripes-locks u.held

rows-holds : (spec : Spec) (history : List Entry) (holds : List Hold) → HaveRows spec history holds → flat_map (λ (h : Hold). h.rows) holds ≡ flat_map (fragment_of spec (replay spec history)) (stripes_in holds)
rows-holds spec history [] rows = refl
rows-holds spec history (h ∷ holds) rows =
    let first : h.rows ≡ fragment_of spec (replay spec history) h.stripe = rows h (inl refl) in
    let rest : flat_map (λ (h : Hold). h.rows) holds ≡ flat_map (fragment_of spec (replay spec history)) (stripes_in holds) = rows-holds spec history holds (λ x m. rows x (inr m)) in
    λ i. first i ++ rest i

-- the rows of all that a pass holds are the fragments that the history leaves on the locked stripes
pub rows_held_are : (spec : Spec) (history : List Entry) (u : PassState) → HaveRows spec history u.held → rows_held u ≡ rows_on spec (replay spec history) (stripes_of (locks_of u))
rows_held_are spec history u rows =
    ap (gather edge_row_cmp) (rows-holds spec history u.held rows ∙ ap (flat_map (fragment_of spec (replay spec history))) (sym (stripes_of-locks_of u)))
    ∙ parts_law spec (replay spec history) (stripes_of (locks_of u))

-- a stripe that isn't written isn't locked Exclusive
pub not_exclusive : (u : PassState) (p : ℕ) → (In p (writes_of u) → ⊥) → In (p, Exclusive) (locks_of u) → ⊥
not_exclusive u p out m =
    let w : (h : Hold) × In h u.held × (lock ≡ (h.stripe, h.mode)) = in_map (λ (h : Hold). let l : StripeLock = (h.stripe, h.mode) in l) lock u.held m in
    out (subst (λ n. In n (writes_of u)) (sym (ap (λ (l : StripeLock). l.0) w.2)) (stripes_in_have Exclusive w.0 u.held w.1 (sym (ap (λ (l : StripeLock). l.1) w.2))))
  where
    lock : StripeLock
    lock = (p, Exclusive)

-- ---- the calls of steps

pub calls_fit : (spec : Spec) (steps : List Step) → StepsFit spec steps → AllByRecursion (Fits spec) (map (λ (s : Step). s.call) steps)
calls_fit spec [] fit = tt
calls_fit spec (s ∷ steps) fit = (fit.0, calls_fit spec steps fit.1)

-- the relation after the calls is the one after the steps
pub relation_after_steps : (spec : Spec) (plans : List (List Statement)) (steps : List Step) (r : List Pairs) → relation_after spec (calls_with_plans plans steps) r ≡ after_steps spec r steps
relation_after_steps spec plans [] r = refl
relation_after_steps spec plans (s ∷ steps) r = relation_after_steps spec plans steps (plain spec r s.call).relation

abbrev the_reply : Reply → Option Reply → Reply
the_reply d (Some reply) = reply
the_reply d None = d

abbrev first_reply : Reply → List (Option Reply) → Reply
first_reply d [] = d
first_reply d (x ∷ xs) = the_reply d x

abbrev other_replies : List (Option Reply) → List (Option Reply)
other_replies [] = []
other_replies (x ∷ xs) = xs

-- steps whose replies are the plain ones are legal
pub legal_from_replies : (spec : Spec) (plans : List (List Statement)) (steps : List Step) (r : List Pairs) → plain_replies spec (calls_with_plans plans steps) r ≡ map (λ (s : Step). Some s.reply) steps → AreLegalFrom spec r steps
legal_from_replies spec plans [] r e = tt
legal_from_replies spec plans (s ∷ steps) r e =
    (ap (first_reply s.reply) (sym e), legal_from_replies spec plans steps (plain spec r s.call).relation (ap other_replies e))

-- ---- histories with one more entry

steps_of-one : (history : List Entry) (e : Entry) → steps_of (history ++ e ∷ []) ≡ steps_of history ++ e.steps
steps_of-one history e = steps_of-append history (e ∷ []) ∙ ap (λ l. steps_of history ++ l) (append-nil e.steps)

pub replay-more : (spec : Spec) (history : List Entry) (e : Entry) → replay spec (history ++ e ∷ []) ≡ after_steps spec (replay spec history) e.steps
replay-more spec history e = ap (after_steps spec []) (steps_of-one history e) ∙ after_steps-append spec [] (steps_of history) e.steps

pub IsLegal-more : (spec : Spec) (history : List Entry) (e : Entry) → IsLegal spec history → AreLegalFrom spec (replay spec history) e.steps → IsLegal spec (history ++ e ∷ [])
IsLegal-more spec history e h k = subst (AreLegalFrom spec []) (sym (steps_of-one history e)) (AreLegalFrom-append spec [] (steps_of history) e.steps h k)

pub own_count : (spec : Spec) (history : List Entry) (stripes : List StripeState) (k : ℕ) (u : PassState) → IsGoodPass spec history stripes k u → length u.own ≡ length (own history k)
own_count spec history stripes k u g =
    ap (λ (xs : List Placed). length xs) g.own
    ∙ sym (length-map (own_placed history k) (λ (x : Placed). x.entry))
    ∙ ap (λ (xs : List Entry). length xs) (placed_own 0 history k)

-- ---- the stripes of the holds stay, and their modes

stripe-renewed_as : (m : Mode) (spec : Spec) (rows : List EdgeRow) (h : Hold) → (renewed_as m spec rows h).stripe ≡ h.stripe
stripe-renewed_as Exclusive spec rows h = refl
stripe-renewed_as Shared spec rows h = refl

mode-renewed_as : (m : Mode) (spec : Spec) (rows : List EdgeRow) (h : Hold) → (renewed_as m spec rows h).mode ≡ h.mode
mode-renewed_as Exclusive spec rows h = refl
mode-renewed_as Shared spec rows h = refl

stripes-renewed : (spec : Spec) (rows : List EdgeRow) (holds : List Hold) → stripes_in (map (renewed spec rows) holds) ≡ stripes_in holds
stripes-renewed spec rows [] = refl
stripes-renewed spec rows (h ∷ holds) =
    let first : (renewed spec rows h).stripe ≡ h.stripe = stripe-renewed_as h.mode spec rows h in
    let rest : stripes_in (map (renewed spec rows) holds) ≡ stripes_in holds = stripes-renewed spec rows holds in λ i. first i ∷ rest i

-- those held in a mode
pub stripes_in-renewed : (m : Mode) (spec : Spec) (rows : List EdgeRow) (holds : List Hold) → stripes_in (held_in m (map (renewed spec rows) holds)) ≡ stripes_in (held_in m holds)
stripes_in-renewed m spec rows [] = refl
stripes_in-renewed m spec rows (h ∷ holds) =
    ap (λ b. stripes_in (if b then renewed spec rows h ∷ held_in m (map (renewed spec rows) holds) else held_in m (map (renewed spec rows) holds))) (ap (is_mode m) (mode-renewed_as h.mode spec rows h))
    ∙ go (is_mode m h.mode) (stripes_in-renewed m spec rows holds)
  where
    go : (b : Bool) → stripes_in (held_in m (map (renewed spec rows) holds)) ≡ stripes_in (held_in m holds)
        → stripes_in (if b then renewed spec rows h ∷ held_in m (map (renewed spec rows) holds) else held_in m (map (renewed spec rows) holds)) ≡ stripes_in (if b then h ∷ held_in m holds else held_in m holds)
    go true e = let first : (renewed spec rows h).stripe ≡ h.stripe = stripe-renewed_as h.mode spec rows h in λ i. first i ∷ e i
    go false e = e

-- ---- commit

module _ (compiled : SpecWithPlans) (ok : IsCompiled compiled.spec compiled.plans) (c : CoreState) (k : ℕ) (u : PassState) (e : Entry)
    (good : IsGood compiled.spec c) (at : slice_get c.passes k ≡ Some u) (may : MayCommit compiled u e) where
  abbrev spec : Spec
  spec = compiled.spec

  abbrev calls : List CallWithPlan
  calls = calls_with_plans compiled.plans e.steps

  abbrev history' : List Entry
  history' = c.history ++ e ∷ []

  abbrev locked_stripes : List ℕ
  locked_stripes = stripes_of (locks_of u)

  mine : IsGoodPass compiled.spec c.history c.stripes k u
  mine = good.passes k u at

  pub same_rows : rows_held u ≡ rows_on compiled.spec (replay compiled.spec c.history) (stripes_of (locks_of u))
  same_rows = rows_held_are spec c.history u mine.rows

  -- the law of accepted plans, at the relation after the history
  pub served : AllServe compiled.spec (calls_with_plans compiled.plans e.steps) (replay compiled.spec c.history) (locks_of u)
  served =
      compiled_in_turn_law compiled ok (map (λ (s : Step). s.call) e.steps) (calls_fit spec e.steps may.fit)
      (replay spec c.history)
      (states_are_relations spec c.history good.history.fit (replay spec c.history) (replay_in_states spec c.history))
      (states_satisfy spec c.history (replay spec c.history) (replay_in_states spec c.history))
      (locks_of u)
      (subst (λ (rows : List EdgeRow). AllAreHeld spec calls rows (locks_of u)) same_rows may.held)

  pub relation_then : relation_after compiled.spec (calls_with_plans compiled.plans e.steps) (replay compiled.spec c.history) ≡ replay compiled.spec (c.history ++ e ∷ [])
  relation_then = relation_after_steps spec compiled.plans e.steps (replay spec c.history) ∙ sym (replay-more spec c.history e)

  -- the entry is legal after the history
  pub legal_then : AreLegalFrom compiled.spec (replay compiled.spec c.history) e.steps
  legal_then = legal_from_replies spec compiled.plans e.steps (replay spec c.history) (sym served.replies ∙ ap (eval_replies spec calls) (sym same_rows) ∙ may.replies)

  -- the rows that evaluation leaves are the fragments after it
  pub rows_then_are : rows_then compiled u e.steps ≡ rows_on compiled.spec (replay compiled.spec (c.history ++ e ∷ [])) (stripes_of (locks_of u))
  rows_then_are = ap (rows_after spec calls) same_rows ∙ served.rows ∙ ap (λ (r : List Pairs). rows_on spec r locked_stripes) relation_then

  -- a stripe that the pass doesn't write keeps its rows
  pub others_stay : (p : ℕ) → (In p (writes_of u) → ⊥) → fragment_of compiled.spec (replay compiled.spec (c.history ++ e ∷ [])) p ≡ fragment_of compiled.spec (replay compiled.spec c.history) p
  others_stay p out = ap (λ (r : List Pairs). fragment_of spec r p) (sym relation_then) ∙ served.others p (not_exclusive u p out)

  not_written : (p : ℕ) → is_writer (stripe_at c.stripes p).keeper k ≡ false → In p (writes_of u) → ⊥
  not_written p free m = false≢true (sym free ∙ sym (mine.writes p) ∙ has_in (writes_of u) p m)

  longer : length c.history < length (c.history ++ e ∷ [])
  longer = let n = length-append c.history (e ∷ []) in omega arith

  -- a hold of another pass isn't written by this one, nor is what is shared
  held_by_other : (j : ℕ) (v : PassState) → j ≢ k → IsGoodPass compiled.spec c.history c.stripes j v → (h : Hold) → In h v.held → (m : Mode) → h.mode ≡ m → is_writer (stripe_at c.stripes h.stripe).keeper k ≡ false
  held_by_other j v n g h x Exclusive is = other_writer (stripe_at c.stripes h.stripe).keeper j k (sym (g.writes h.stripe) ∙ has_in (writes_of v) h.stripe (stripes_in_have Exclusive h v.held x is)) (λ is. n (sym is))
  held_by_other j v n g h x Shared is = no_writer (stripe_at c.stripes h.stripe).keeper k (g.beside h.stripe (stripes_in_have Shared h v.held x is))

  -- the rows of another pass stay
  rows_of_other : (j : ℕ) (v : PassState) → j ≢ k → IsGoodPass compiled.spec c.history c.stripes j v → HaveRows compiled.spec (c.history ++ e ∷ []) v.held
  rows_of_other j v n g h x = g.rows h x ∙ sym (others_stay h.stripe (not_written h.stripe (held_by_other j v n g h x h.mode refl)))

  other_keeps : (j : ℕ) (v : PassState) → j ≢ k → slice_get c.passes j ≡ Some v → IsGoodPass compiled.spec c.history c.stripes j v → IsGoodPass compiled.spec (c.history ++ e ∷ []) c.stripes j v
  other_keeps j v n f g = record {
    number = g.number;
    writes = g.writes;
    counts = g.counts;
    beside = g.beside;
    rows = rows_of_other j v n g;
    own = g.own ∙ sym (own_end_other j c.history e (λ is. n (sym is ∙ may.pass ∙ mine.number)));
    few = g.few;
    seen = (let l = g.seen in let m = longer in omega arith);
    sees_own = g.sees_own;
    wish = g.wish;
    turning = g.turning;
  }

  -- the rows of this pass are those after the entry
  renewed_rows : (h : Hold) → In h u.held → (m : Mode) → h.mode ≡ m
      → (renewed_as m compiled.spec (rows_then compiled u e.steps) h).rows ≡ fragment_of compiled.spec (replay compiled.spec (c.history ++ e ∷ [])) (renewed_as m compiled.spec (rows_then compiled u e.steps) h).stripe
  renewed_rows h x Exclusive is =
      ap (on_stripes spec (h.stripe ∷ [])) rows_then_are ∙ pieces_law spec (replay spec history') locked_stripes h.stripe (subst (In h.stripe) (sym (stripes_of-locks_of u)) (stripes_have h u.held x))
  renewed_rows h x Shared is =
      mine.rows h x ∙ sym (others_stay h.stripe (not_written h.stripe (no_writer (stripe_at c.stripes h.stripe).keeper k (mine.beside h.stripe (stripes_in_have Shared h u.held x is)))))

  rows_of_mine : HaveRows compiled.spec (c.history ++ e ∷ []) (committed compiled u (length c.history) e).held
  rows_of_mine h m =
      let w : (h' : Hold) × In h' u.held × (h ≡ renewed spec (rows_then compiled u e.steps) h') = in_map (renewed spec (rows_then compiled u e.steps)) h u.held m in
      subst (λ (y : Hold). y.rows ≡ fragment_of spec (replay spec history') y.stripe) (sym w.2) (renewed_rows w.0 w.1 w.0.mode refl)

  same_writes : (p : ℕ) → has (writes_of (committed compiled u (length c.history) e)) p ≡ has (writes_of u) p
  same_writes p = ap (λ l. has l p) (stripes_in-renewed Exclusive spec (rows_then compiled u e.steps) u.held)

  same_shares : shares_of (committed compiled u (length c.history) e) ≡ shares_of u
  same_shares = stripes_in-renewed Shared spec (rows_then compiled u e.steps) u.held

  mine_keeps : IsGoodPass compiled.spec (c.history ++ e ∷ []) c.stripes k (committed compiled u (length c.history) e)
  mine_keeps = record {
    number = mine.number;
    writes = λ p. same_writes p ∙ mine.writes p;
    counts = λ p. ap (λ l. has l p || is_at u.turning p) same_shares ∙ mine.counts p;
    beside = λ p m. mine.beside p (subst (In p) same_shares m);
    rows = rows_of_mine;
    own = ap (λ (xs : List Placed). xs ++ placed (length c.history) e ∷ []) mine.own ∙ sym (own_end_mine k c.history e (may.pass ∙ mine.number));
    few = (let room = may.room in let n = length-append u.own (placed (length c.history) e ∷ []) in omega arith);
    seen = (let m = longer in omega arith);
    sees_own = λ x m. elim (in_append x u.own (placed (length c.history) e ∷ []) m) [
      | inl y ↦ (let l = mine.sees_own x y in let s = mine.seen in omega arith)
      | inr (inl is) ↦ (let q : x.place ≡ length c.history = ap (λ (y : Placed). y.place) is in omega arith)
      | inr (inr z) ↦ absurd z
    ];
    wish = λ p f q m. mine.wish p f q (subst (In q) (stripes-renewed spec (rows_then compiled u e.steps) u.held) m);
    turning = mine.turning;
  }

  keeper_keeps : (p : ℕ) (x : Keeper) → (stripe_at c.stripes p).keeper ≡ x → IsGoodKeeper compiled.spec c.history (length c.passes) p x → IsGoodKeeper compiled.spec (c.history ++ e ∷ []) (length c.passes) p x
  keeper_keeps p (Home rows) is g = g ∙ sym (others_stay p (not_written p (ap (λ (x : Keeper). is_writer x k) is)))
  keeper_keeps p (Writer j) is g = g

  stripe_keeps : (p : ℕ) → p < length c.stripes → IsGoodStripe compiled.spec (c.history ++ e ∷ []) (length c.passes) p (stripe_at c.stripes p)
  stripe_keeps p lt = let g = good.stripes p lt in record {
    keeper = keeper_keeps p (stripe_at c.stripes p).keeper refl g.keeper;
    rising = g.rising;
    known = g.known;
  }

  history_keeps : IsGoodHistory compiled.spec (length c.passes) (c.history ++ e ∷ [])
  history_keeps = record {
    legal = IsLegal-more spec c.history e good.history.legal legal_then;
    fit = AllFit-more spec c.history e good.history.fit may.fit;
    numbered = numbered_more c.history e good.history.numbered (may.nth ∙ own_count spec c.history c.stripes k u mine ∙ ap (λ n. length (own c.history n)) (sym (may.pass ∙ mine.number)));
    entries = λ x m. elim (in_append x c.history (e ∷ []) m) [
      | inl y ↦ good.history.entries x y
      | inr (inl is) ↦ subst (IsGoodEntry (length c.passes)) (sym is)
          (record { pass = (let l = at_below c.passes k u at in let a = may.pass in let b = mine.number in omega arith); some = may.some; few = may.few })
      | inr (inr z) ↦ absurd z
    ];
  }

  pub commit_keeps : IsGood compiled.spec (with_pass c (c.history ++ e ∷ []) c.stripes k (committed compiled u (length c.history) e))
  commit_keeps =
      change spec c (c.history ++ e ∷ []) c.stripes k u (committed compiled u (length c.history) e) good at other_keeps mine_keeps stripe_keeps history_keeps refl
