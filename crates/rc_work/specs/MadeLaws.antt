-- From a legal and numbered history any turns can be made, in any order: the history goes on by an entry for each.
use Rattle.std.proofs.Common.{◌≡◌, ℕ, suc, ◌<◌, Bool, true, false, cond, List, [], ◌∷◌, ◌++◌, length, map, refl, sym, ap, ◌∙◌, inl, inr, subst}
use Rattle.std.specs.Prelude.{◌==◌, filter}
use Rattle.rc_work.specs.Imports.{AllByRecursion, in_append, Pairs, Call, Spec, plain, Step, Entry, AreLegalFrom, IsLegal, IsNumbered, after_steps, own, replay, steps_of, AreLegalFrom-append, after_steps-append, steps_of-append, numbered_more}
use Rattle.std.proofs.lemmas.List.{append-nil, append_assoc}
use Rattle.rc_work.specs.declared.work.Turn.{Turn}
use Rattle.rc_work.specs.Made.{GoesOn, HasPassesBelow, HasTurnsBelow, entry_after, plain_steps}
use Rattle.rc_work.specs.Runs.{MakesRounds, thread_turns, turns_of}

-- ---- calls made in order

pub legal_are_plain : (spec : Spec) (r : List Pairs) (steps : List Step) → AreLegalFrom spec r steps → steps ≡ plain_steps spec r (map (λ s. s.call) steps)
legal_are_plain spec r [] legal = refl
legal_are_plain spec r (s ∷ steps) legal =
    ap (λ p. (let t : Step = record { call = s.call; reply = p } in t) ∷ steps) legal.0
    ∙ ap (λ l. (let t : Step = record { call = s.call; reply = (plain spec r s.call).reply } in t) ∷ l) (legal_are_plain spec (plain spec r s.call).relation steps legal.1)

pub plain_are_legal : (spec : Spec) (r : List Pairs) (calls : List Call) → AreLegalFrom spec r (plain_steps spec r calls)
plain_are_legal spec r [] = tt
plain_are_legal spec r (c ∷ calls) = (refl, plain_are_legal spec (plain spec r c).relation calls)

pub calls_of_plain : (spec : Spec) (r : List Pairs) (calls : List Call) → map (λ s. s.call) (plain_steps spec r calls) ≡ calls
calls_of_plain spec r [] = refl
calls_of_plain spec r (c ∷ calls) = ap (λ l. c ∷ l) (calls_of_plain spec (plain spec r c).relation calls)

-- ---- an entry more

-- the relation after one entry more
pub replay-more : (spec : Spec) (done : List Entry) (e : Entry) → replay spec (done ++ e ∷ []) ≡ after_steps spec (replay spec done) e.steps
replay-more spec done e =
    ap (after_steps spec []) (steps_of-append done (e ∷ [])) ∙ after_steps-append spec [] (steps_of done) (steps_of (e ∷ []))
    ∙ ap (after_steps spec (replay spec done)) (append-nil e.steps)

pub legal_more : (spec : Spec) (done : List Entry) (thread : ℕ) (calls : List Call) → IsLegal spec done
    → IsLegal spec (done ++ entry_after spec done thread calls ∷ [])
legal_more spec done thread calls legal =
    let e = entry_after spec done thread calls in
    let own_steps : AreLegalFrom spec (replay spec done) (steps_of (e ∷ [])) =
    subst (AreLegalFrom spec (replay spec done)) (sym (append-nil e.steps)) (plain_are_legal spec (replay spec done) calls) in
    let both : AreLegalFrom spec [] (steps_of done ++ steps_of (e ∷ [])) =
    AreLegalFrom-append spec [] (steps_of done) (steps_of (e ∷ [])) legal own_steps in
    subst (AreLegalFrom spec []) (sym (steps_of-append done (e ∷ []))) both

pub passes_append : (n : ℕ) (xs ys : List Entry) → HasPassesBelow n xs → HasPassesBelow n ys → HasPassesBelow n (xs ++ ys)
passes_append n xs ys h k e m = elim (in_append e xs ys m) [
  | inl here ↦ h e here
  | inr there ↦ k e there
]

pub one_pass : (n : ℕ) (e : Entry) → e.pass < n → HasPassesBelow n (e ∷ [])
one_pass n e below x (inl is) = subst (λ (p : ℕ). p < n) (sym (ap (λ (y : Entry). y.pass) is)) below
one_pass n e below x (inr m) = absurd m

-- ---- turns, one after another

nothing_more : (spec : Spec) (n : ℕ) (done : List Entry) → IsLegal spec done → IsNumbered done → GoesOn spec n done []
nothing_more spec n done legal numbered = record {
  legal = subst (IsLegal spec) (sym (append-nil done)) legal;
  numbered = subst IsNumbered (sym (append-nil done)) numbered;
  passes = λ e m. absurd m;
}

-- where it goes on by these entries, and then by those, it goes on by all
pub both_more : (spec : Spec) (n : ℕ) (done xs ys : List Entry) → HasPassesBelow n xs → GoesOn spec n (done ++ xs) ys → GoesOn spec n done (xs ++ ys)
both_more spec n done xs ys passes h = record {
  legal = subst (IsLegal spec) (append_assoc done xs ys) h.legal;
  numbered = subst IsNumbered (append_assoc done xs ys) h.numbered;
  passes = passes_append n xs ys passes h.passes;
}

-- the turns of entries that begin with one of a turn
turns_begin : (spec : Spec) (done : List Entry) (t : Turn) (rest : List Entry) (turns : List Turn) (u : ℕ)
    → turns_of (own rest u) ≡ thread_turns u turns
    → turns_of (own (entry_after spec done t.thread t.calls ∷ rest) u) ≡ thread_turns u (t ∷ turns)
turns_begin spec done t rest turns u later = go (t.thread == u) later
  where
    go : (b : Bool) → turns_of (own rest u) ≡ thread_turns u turns
        → turns_of (cond b (entry_after spec done t.thread t.calls ∷ own rest u) (own rest u))
        ≡ map (λ (x : Turn). x.calls) (cond b (t ∷ filter (λ (x : Turn). x.thread == u) turns) (filter (λ (x : Turn). x.thread == u) turns))
    go true h = ap (λ (l : List Call). l ∷ turns_of (own rest u)) (calls_of_plain spec (replay spec done) t.calls) ∙ ap (λ l. t.calls ∷ l) h
    go false h = h

-- some turns, made in order after a history, an entry for each
abbrev pub MadeInOrder : Spec → ℕ → List Entry → List Turn → Type 0
MadeInOrder spec n done turns =
    (more : List Entry) × GoesOn spec n done more × ((thread : ℕ) → turns_of (own more thread) ≡ thread_turns thread turns) × (length more ≡ length turns)

pub made_in_order : (spec : Spec) (n : ℕ) (done : List Entry) (turns : List Turn) → HasTurnsBelow n turns → IsLegal spec done → IsNumbered done
    → MadeInOrder spec n done turns
made_in_order spec n done [] below legal numbered = ([], nothing_more spec n done legal numbered, λ thread. refl, refl)
made_in_order spec n done (t ∷ turns) below legal numbered =
    let e = entry_after spec done t.thread t.calls in
    let next = made_in_order spec n (done ++ e ∷ []) turns below.1 (legal_more spec done t.thread t.calls legal) (numbered_more done e numbered refl) in (
      e ∷ next.0,
      both_more spec n done (e ∷ []) next.0 (one_pass n e below.0) next.1,
      λ u. turns_begin spec done t next.0 turns u (next.2 u),
      ap suc next.3,
    )

-- the rounds, made one after another after a history
abbrev pub MadeRounds : Spec → ℕ → List Entry → List (List Turn) → Type 0
MadeRounds spec n done rounds = (more : List Entry) × GoesOn spec n done more × MakesRounds rounds more

pub rounds_go_on : (spec : Spec) (n : ℕ) (done : List Entry) (rounds : List (List Turn)) → AllByRecursion (HasTurnsBelow n) rounds
    → IsLegal spec done → IsNumbered done → MadeRounds spec n done rounds
rounds_go_on spec n done [] below legal numbered = ([], nothing_more spec n done legal numbered, refl)
rounds_go_on spec n done (round ∷ rounds) below legal numbered =
    let here = made_in_order spec n done round below.0 legal numbered in
    let later = rounds_go_on spec n (done ++ here.0) rounds below.1 here.1.legal here.1.numbered in (
      here.0 ++ later.0,
      both_more spec n done here.0 later.0 here.1.passes later.1,
      (here.0, later.0, refl, here.2, later.2),
    )
