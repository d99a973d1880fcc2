-- Laws of runs.
use Rattle.std.proofs.Common.{◌≡◌, ℕ, List, [], ◌∷◌, ◌++◌, length, map, refl, sym, ap, ◌∙◌, subst}
use Rattle.std.specs.Prelude.{filter, ◌==◌}
use Rattle.rc_work.specs.Imports.{AllByRecursion, flat_map, In, each_in, filter_in, in_filter, in_flat_map, in_map, map_in, Call, Spec, Entry, Step, calls_of, own, steps_of, own-append, calls_of-append}
use Rattle.std.proofs.lemmas.Bool.{eq-eqb, eqb-true}
use Rattle.std.proofs.lemmas.List.{length-map, map-append}
use Rattle.rc_work.specs.declared.work.Turn.{Turn}
use Rattle.rc_work.specs.declared.work.Work.{Work}
use Rattle.rc_work.specs.Limits.{HasSingleTurns}
use Rattle.rc_work.specs.Runs.{thread_turns, thread_calls, turns_of, HasTurn, MakesRounds, Runs, HasSingleSteps}

-- ---- turns and calls

pub turns_of-append : (xs ys : List Entry) → turns_of (xs ++ ys) ≡ turns_of xs ++ turns_of ys
turns_of-append xs ys = map-append (λ (e : Entry). map (λ (s : Step). s.call) e.steps) xs ys

-- the calls of entries are those of their turns
pub calls_of-turns_of : (entries : List Entry) → calls_of entries ≡ flat_map (λ calls. calls) (turns_of entries)
calls_of-turns_of [] = refl
calls_of-turns_of (e ∷ entries) =
    map-append (λ (s : Step). s.call) e.steps (steps_of entries)
    ∙ ap (λ l. map (λ (s : Step). s.call) e.steps ++ l) (calls_of-turns_of entries)

turns-calls : (turns : List Turn) → flat_map (λ (t : Turn). t.calls) turns ≡ flat_map (λ (calls : List Call). calls) (map (λ (t : Turn). t.calls) turns)
turns-calls [] = refl
turns-calls (t ∷ turns) = ap (λ l. t.calls ++ l) (turns-calls turns)

-- so are those of a thread in a round
pub thread_calls-turns : (thread : ℕ) (round : List Turn) → thread_calls thread round ≡ flat_map (λ calls. calls) (thread_turns thread round)
thread_calls-turns thread round = turns-calls (filter (λ t. t.thread == thread) round)

-- ---- rounds one after another

-- each thread makes its turns over all rounds in order
turns_of_rounds : (rounds : List (List Turn)) (entries : List Entry) (thread : ℕ) → MakesRounds rounds entries
    → turns_of (own entries thread) ≡ flat_map (thread_turns thread) rounds
turns_of_rounds [] entries thread h = ap (λ (l : List Entry). turns_of (own l thread)) h
turns_of_rounds (round ∷ rounds) entries thread (front, back, e, here, later) =
    ap (λ (l : List Entry). turns_of (own l thread)) e ∙ ap turns_of (own-append front back thread) ∙ turns_of-append (own front thread) (own back thread)
    ∙ ap (λ l. l ++ turns_of (own back thread)) (here thread)
    ∙ ap (λ l. thread_turns thread round ++ l) (turns_of_rounds rounds back thread later)

-- and so its calls
calls_of_rounds : (rounds : List (List Turn)) (entries : List Entry) (thread : ℕ) → MakesRounds rounds entries
    → calls_of (own entries thread) ≡ flat_map (thread_calls thread) rounds
calls_of_rounds [] entries thread h = ap (λ (l : List Entry). calls_of (own l thread)) h
calls_of_rounds (round ∷ rounds) entries thread (front, back, e, here, later) =
    let first : calls_of (own front thread) ≡ thread_calls thread round =
    calls_of-turns_of (own front thread) ∙ ap (flat_map (λ (calls : List Call). calls)) (here thread) ∙ sym (thread_calls-turns thread round) in
    ap (λ (l : List Entry). calls_of (own l thread)) e ∙ ap calls_of (own-append front back thread) ∙ calls_of-append (own front thread) (own back thread)
    ∙ ap (λ l. l ++ calls_of (own back thread)) first
    ∙ ap (λ l. thread_calls thread round ++ l) (calls_of_rounds rounds back thread later)

-- in a run, each thread's turns over all rounds stand once and in its order, each as one entry
abbrev pub RunsMakeTurns : Type 0
RunsMakeTurns = (spec : Spec) (work : Work) (history : List Entry) (thread : ℕ) → Runs spec work history
    → turns_of (own history thread) ≡ flat_map (thread_turns thread) work.rounds

pub runs_make_turns : RunsMakeTurns
runs_make_turns spec work history thread run = turns_of_rounds work.rounds history thread run.rounds

-- and so do its calls
abbrev pub RunsMakeCalls : Type 0
RunsMakeCalls = (spec : Spec) (work : Work) (history : List Entry) (thread : ℕ) → Runs spec work history
    → calls_of (own history thread) ≡ flat_map (thread_calls thread) work.rounds

pub runs_make_calls : RunsMakeCalls
runs_make_calls spec work history thread run = calls_of_rounds work.rounds history thread run.rounds

-- ---- the turn of an entry

-- each entry of a run has the calls of a turn of its thread
abbrev pub EntriesAreTurns : Type 0
EntriesAreTurns = (spec : Spec) (work : Work) (history : List Entry) (e : Entry) → Runs spec work history → In e history
    → HasTurn work e.pass (map (λ s. s.call) e.steps)

pub entries_are_turns : EntriesAreTurns
entries_are_turns spec work history e run m =
    let calls : List Call = map (λ (s : Step). s.call) e.steps in
    let mine : In e (own history e.pass) = filter_in (λ x. x.pass == e.pass) e history m (eq-eqb e.pass e.pass refl) in
    let made : In calls (turns_of (own history e.pass)) = map_in (λ (x : Entry). map (λ (s : Step). s.call) x.steps) e (own history e.pass) mine in
    let found = in_flat_map (thread_turns e.pass) calls work.rounds
    (subst (λ (l : List (List Call)). In calls l) (runs_make_turns spec work history e.pass run) made) in
    let turn = in_map (λ (t : Turn). t.calls) calls (filter (λ t. t.thread == e.pass) found.0) found.2 in
    let own_turn = in_filter (λ (t : Turn). t.thread == e.pass) turn.0 found.0 turn.1 in
    record {
      round = found.0;
      known = found.1;
      turn = turn.0;
      within = own_turn.0;
      thread_is = eqb-true turn.0.thread e.pass own_turn.1;
      same = turn.2;
    }

-- where each turn has one call, each entry of a run has one step
abbrev pub SingleTurnsAreSingleSteps : Type 0
SingleTurnsAreSingleSteps = (spec : Spec) (work : Work) (history : List Entry) → HasSingleTurns work → Runs spec work history
    → HasSingleSteps history

pub single_turns_are_single_steps : SingleTurnsAreSingleSteps
single_turns_are_single_steps spec work history single run e m =
    let is = entries_are_turns spec work history e run m in
    let one : length is.turn.calls ≡ 1 =
    each_in (λ (t : Turn). length t.calls ≡ 1) is.round
    (each_in (AllByRecursion (λ (t : Turn). length t.calls ≡ 1)) work.rounds single is.round is.known) is.turn is.within in
    sym (length-map e.steps (λ (s : Step). s.call)) ∙ ap (λ (calls : List Call). length calls) is.same ∙ one
