-- A commit keeps the rule, and so does a look at the commit word.
use Rattle.std.proofs.Common.{◌≡◌, ℕ, ◌*◌, ◌+◌, ◌%◌, ◌^◌, ◌≤◌, Bool, true, false, if◌then◌else◌, List, [], ◌∷◌, ◌++◌, length, map, set, Some, None, sym, refl, ap, ◌∙◌, subst, arith, length-set, length-append}
use Rattle.rc_row.proofs.Imports.{slice_index, slice_get, get_or-set_same, get_or-set_other, Entry, IsPrefix, prefix_same, CoreState, PassState, Hold, held_in, is_mode, shares_of, stripes_in, MayCommit, committed, learned, renewed, renewed_as, rows_then, has, In, EdgeRow, Mode, Shared, Exclusive, Spec, with_pass, IsGood, IsOfHistory, of_history, get_set_same, commit_keeps, history_law, State, step, keeps, Allows, Key, Standing, View, Slot, AreKnown, compiled_by, spec_by, stripes_by, stripe_word, latch_word, pass_view, IsKept, OfCore, row_state, good_of, after_entry, after_look, ToldAtCommit, ToldAtLook}
use mathlib.Core.Option.{some, none}
use lib.ListN.{get_elem?}
use Rattle.rc_core.specs.declared.event.Event.TheVariants as event
use Rattle.rc_row.proofs.ListLemmas.{all_end}
use Rattle.rc_row.proofs.MoveLemmas.{moved, its_core, its_known, its_latch, its_pass, its_place, still_known}
use Rattle.rc_row.proofs.StripeLemmas.{has_one, its_handed, still_bare}
use Rattle.rc_row.proofs.OwnRuleLemmas.{handed_less, owns_alone}

-- the pass of a seat is of the history
at_history : (key : Key) (s : State Slot View) (kept : IsKept key s) (id : ℕ) (a : Standing) → get_elem? s.views id ≡ some (pass_view a) → IsOfHistory (spec_by key) key.passes kept.core.history a.core
at_history key s kept id a at =
    subst (λ n. IsOfHistory (spec_by key) n kept.core.history a.core) kept.shows.passes
    (of_history (spec_by key) kept.core a.core.number a.core (good_of key s kept) (its_pass key s kept id a None None at))

push_if : (b : Bool) (x : Hold) (holds : List Hold) → stripes_in (if b then x ∷ holds else holds) ≡ (if b then x.stripe ∷ stripes_in holds else stripes_in holds)
push_if true x holds = refl
push_if false x holds = refl

mode-renewed : (m : Mode) (spec : Spec) (rows : List EdgeRow) (h : Hold) → ((renewed_as m spec rows h).mode ≡ h.mode) × ((renewed_as m spec rows h).stripe ≡ h.stripe)
mode-renewed Exclusive spec rows h = (refl, refl)
mode-renewed Shared spec rows h = (refl, refl)

-- a commit leaves what is shared
shares-renewed : (spec : Spec) (rows : List EdgeRow) (holds : List Hold) → stripes_in (held_in Shared (map (renewed spec rows) holds)) ≡ stripes_in (held_in Shared holds)
shares-renewed spec rows [] = refl
shares-renewed spec rows (h ∷ holds) =
    let same = mode-renewed h.mode spec rows h in
    push_if (is_mode Shared (renewed spec rows h).mode) (renewed spec rows h) (held_in Shared (map (renewed spec rows) holds))
    ∙ (λ i. if is_mode Shared (same.0 i) then same.1 i ∷ shares-renewed spec rows holds i else shares-renewed spec rows holds i)
    ∙ sym (push_if (is_mode Shared h.mode) h (held_in Shared holds))

-- a fetch-add on the commit word
pub commits : (key : Key) (slots id : ℕ) (a : Standing) (carried : List (ℕ × Slot)) (e : Entry) → MayCommit (compiled_by key) a.core e
    → Allows (IsKept key) slots id (pass_view a, carried) 0 (λ n. (n + 1) % 2 ^ 64) (ToldAtCommit (Some key) e (step slots 0 1 0 none) (pass_view a, carried))
commits key slots id a carried e may s kept wide at small =
    let k : ℕ = a.core.number in
    let c : CoreState = kept.core in
    let found : ℕ = slice_index s.words 0 in
    let read : slice_index s.words 0 ≡ length kept.core.history = kept.shows.commit in
    let is : slice_get kept.core.passes a.core.number ≡ Some a.core = its_pass key s kept id a None None at in
    let w : PassState = committed (compiled_by key) a.core (length kept.core.history) e in
    let b : Standing = after_entry (compiled_by key) kept.core.history e a in
    let next : CoreState = with_pass c (c.history ++ e ∷ []) c.stripes k w in
    let good : IsGood (spec_by key) next = commit_keeps (compiled_by key) kept.compiled c k a.core e (good_of key s kept) is may in
    let x : ℕ = (slice_index s.words 0 + 1) % 2 ^ 64 in (
      pass_view b,
      keeps,
      tt,
      moved key s kept id a None None at b None None refl (OfCore (event.Commit k e))
          (its_place key s kept id a None None at, subst (λ (u : PassState). MayCommit (compiled_by key) u e) (sym (its_core key s kept id a None None at)) may) refl (refl, refl)
          (c.history ++ e ∷ []) c.stripes kept.latches
          (ap (λ (u : PassState). row_state (with_pass c (c.history ++ e ∷ []) c.stripes k (committed (compiled_by key) u (length c.history) e)) kept.latches) (its_core key s kept id a None None at))
          (e ∷ [], refl) told_more refl kept.named (still_bare kept.latches a.core w (its_latch key s kept id a None None at) refl) (λ j q n. refl)
          (set s.words 0 x) s.homes (length-set s.words 0 x) (get_or-set_same s.words 0 x 0 (let l = kept.shows.wide in omega arith) ∙ counted)
          (λ q below. get_or-set_other s.words 0 (stripe_word q) x 0 (λ f. omega arith) ∙ kept.shows.words q below)
          (λ q below. get_or-set_other s.words 0 (latch_word (stripes_by key) q) x 0 (λ f. omega arith) ∙ kept.shows.latch_words q below)
          refl kept.handed refl kept.shows.homes
          (owns_alone (spec_by key) c kept.handed s.homes k w (c.history ++ e ∷ []) (its_place key s kept id a None None at)
          (λ q. ap (λ (xs : List ℕ). has xs q) (shares-renewed (spec_by key) (rows_then (compiled_by key) a.core e.steps) a.core.held ∙ ap shares_of (sym (its_core key s kept id a None None at)))) kept.shows.owns)
          (handed_less kept.handed None a.core w (λ q m. subst (In q) (shares-renewed (spec_by key) (rows_then (compiled_by key) a.core e.steps) a.core.held) m) (its_handed key s kept id a None at))
          (λ j u entering n h x. x),
      record {
        before = c.history;
        place = read;
        at = record { goes_on = its_known key s kept id a None None at; seen = ((good_of key s kept).passes k a.core is).seen; of = at_history key s kept id a at };
        after = subst (λ n. IsOfHistory (spec_by key) n (c.history ++ e ∷ []) w) (length-set c.passes k w ∙ kept.shows.passes)
            (of_history (spec_by key) next k w good (get_set_same c.passes k w a.core is));
        one = has_one (spec_by key) next k w good (get_set_same c.passes k w a.core is);
        small = (let h : length (kept.core.history ++ e ∷ []) ≤ 255 * 2 ^ 48 = history_law (spec_by key) next good in let l = longer in let r = read in omega arith);
        view = refl;
        slots = refl;
      },
    )
  where
    told_more : AreKnown (kept.core.history ++ e ∷ []) (a.known ++ (kept.core.history ++ e ∷ []) ∷ [])
    told_more = all_end (λ (earlier : List Entry). IsPrefix earlier (kept.core.history ++ e ∷ [])) a.known (kept.core.history ++ e ∷ [])
        (still_known kept.core.history (kept.core.history ++ e ∷ []) a.known (e ∷ [], refl) (its_known key s kept id a None None at)) (prefix_same (kept.core.history ++ e ∷ []))

    longer : length (kept.core.history ++ e ∷ []) ≡ length kept.core.history + 1
    longer = length-append kept.core.history (e ∷ [])

    counted : (slice_index s.words 0 + 1) % 2 ^ 64 ≡ length (kept.core.history ++ e ∷ [])
    counted = let l = longer in let r : slice_index s.words 0 ≡ length kept.core.history = kept.shows.commit in let h : length kept.core.history ≤ 255 * 2 ^ 48 = history_law (spec_by key) kept.core (good_of key s kept) in omega arith

-- a load of the commit word
pub looks : (key : Key) (slots id : ℕ) (a : Standing) (carried : List (ℕ × Slot))
    → Allows (IsKept key) slots id (pass_view a, carried) 0 (λ n. n) (ToldAtLook (Some key) (step slots 0 0 0 none) (pass_view a, carried))
looks key slots id a carried s kept wide at small =
    let c : CoreState = kept.core in
    let found : ℕ = slice_index s.words 0 in
    let read : slice_index s.words 0 ≡ length kept.core.history = kept.shows.commit in
    let is : slice_get kept.core.passes a.core.number ≡ Some a.core = its_pass key s kept id a None None at in
    let b : Standing = after_look kept.core.history a in (
      pass_view b,
      keeps,
      tt,
      moved key s kept id a None None at b None None refl (OfCore (event.Learn a.core.number (length kept.core.history)))
          (its_place key s kept id a None None at, omega arith) refl (refl, refl) c.history c.stripes kept.latches
          (ap (λ (u : PassState). row_state (with_pass c c.history c.stripes a.core.number (learned u (length c.history))) kept.latches) (its_core key s kept id a None None at))
          (prefix_same c.history)
          (all_end (λ (earlier : List Entry). IsPrefix earlier kept.core.history) a.known kept.core.history (its_known key s kept id a None None at) (prefix_same kept.core.history))
          refl kept.named (still_bare kept.latches a.core b.core (its_latch key s kept id a None None at) refl) (λ j q n. refl)
          (set s.words 0 found) s.homes (length-set s.words 0 found) (get_or-set_same s.words 0 found 0 (let l = kept.shows.wide in omega arith) ∙ read)
          (λ q below. get_or-set_other s.words 0 (stripe_word q) found 0 (λ f. omega arith) ∙ kept.shows.words q below)
          (λ q below. get_or-set_other s.words 0 (latch_word (stripes_by key) q) found 0 (λ f. omega arith) ∙ kept.shows.latch_words q below)
          refl kept.handed refl kept.shows.homes
          (owns_alone (spec_by key) c kept.handed s.homes a.core.number b.core c.history (its_place key s kept id a None None at)
          (λ q. ap (λ (u : PassState). has (shares_of u) q) (sym (its_core key s kept id a None None at))) kept.shows.owns)
          (its_handed key s kept id a None at) (λ j u entering n h x. x),
      record {
        history = c.history;
        long = read;
        at = record { goes_on = its_known key s kept id a None None at; seen = ((good_of key s kept).passes a.core.number a.core is).seen; of = at_history key s kept id a at };
        view = refl;
        slots = refl;
      },
    )
