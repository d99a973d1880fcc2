-- Where a journal stands that some entries have begun, and that it can always go on.
use Rattle.std.proofs.Common.{◌≡◌, ℕ, ◌<◌, List, [], ◌∷◌, ◌++◌, refl, sym, ◌∙◌, inl, inr, subst}
use Rattle.rc_audit.specs.Imports.{AllByRecursion, Spec, Call, Entry, IsLegal, IsNumbered, replay, numbered_more, Turn, Work, HasThreads, HasPassesBelow, HasTurnsBelow, entry_after, calls_of_plain, legal_more, one_pass, passes_append, MakesRounds, Runs, thread_turns}
use Rattle.std.proofs.lemmas.Bool.{cases_lt}
use Rattle.std.proofs.lemmas.List.{append_assoc}
use Rattle.rc_audit.specs.Left.{AreNoneFrom, IsMade, MakesRest, NoneLeft}
use Rattle.rc_audit.specs.LeftLaws.{none_left_rest, not_none, rest_after, rest_before, rest_goes_on, rest_none_left, rest_same, turn_of, turns_none}

-- The entries that are done are the first of runs: with these turns left of a round, and these rounds after it.
pub record Stands (spec : Spec) (work : Work) (done : List Entry) (left : ℕ → List (List Call)) (rounds : List (List Turn)) : Type 0 where
  pub legal : IsLegal spec done
  pub numbered : IsNumbered done
  pub passes : HasPassesBelow work.threads done
  pub none_from : AreNoneFrom work.threads left
  pub below : AllByRecursion (HasTurnsBelow work.threads) rounds
  pub rest : (more : List Entry) → MakesRounds work.rounds (done ++ more) → MakesRest left rounds more
  pub whole : (more : List Entry) → MakesRest left rounds more → MakesRounds work.rounds (done ++ more)

-- ---- at first

-- nothing is left of no round
abbrev pub no_turns : ℕ → List (List Call)
no_turns thread = []

pub stands_start : (spec : Spec) (work : Work) → HasThreads work → Stands spec work [] no_turns work.rounds
stands_start spec work threads = record {
  legal = tt;
  numbered = λ pass. refl;
  passes = λ e m. absurd m;
  none_from = λ thread beyond. refl;
  below = threads;
  rest = λ more h. none_left_rest no_turns work.rounds more (λ thread. refl) h;
  whole = λ more h. rest_none_left no_turns work.rounds more (λ thread. refl) h;
}

-- ---- the next round

-- the turns of a round
abbrev pub turns_in : List Turn → ℕ → List (List Call)
turns_in round thread = thread_turns thread round

module _ (spec : Spec) (work : Work) (done : List Entry) (left : ℕ → List (List Call)) (rounds : List (List Turn)) where
  pub stands_round : (round : List Turn) → NoneLeft left → Stands spec work done left (round ∷ rounds) → Stands spec work done (turns_in round) rounds
  stands_round round none h = record {
    legal = h.legal;
    numbered = h.numbered;
    passes = h.passes;
    none_from = λ thread beyond. turns_none work.threads thread round h.below.0 beyond;
    below = h.below.1;
    rest = λ more whole. rest_none_left left (round ∷ rounds) more none (h.rest more whole);
    whole = λ more rest. h.whole more (none_left_rest left (round ∷ rounds) more none rest);
  }

  -- what is left matters by threads alone
  pub stands_same : (next : ℕ → List (List Call)) → ((thread : ℕ) → left thread ≡ next thread) → Stands spec work done left rounds → Stands spec work done next rounds
  stands_same next same h = record {
    legal = h.legal;
    numbered = h.numbered;
    passes = h.passes;
    none_from = λ thread beyond. sym (same thread) ∙ h.none_from thread beyond;
    below = h.below;
    rest = λ more whole. rest_same left next rounds more same (h.rest more whole);
    whole = λ more rest. h.whole more (rest_same next left rounds more (λ u. sym (same u)) rest);
  }

  -- ---- an entry more

  -- a thread that has a turn left is one of the workload's
  pub made_below : (next : ℕ → List (List Call)) (thread : ℕ) (calls : List Call) → Stands spec work done left rounds → IsMade left next thread calls → thread < work.threads
  made_below next thread calls h made = elim (cases_lt thread work.threads) [
    | inl within ↦ within
    | inr beyond ↦ absurd (not_none calls (next thread) (sym made.mine ∙ h.none_from thread beyond))
  ]

  pub stands_more : (next : ℕ → List (List Call)) (thread : ℕ) (calls : List Call) → Stands spec work done left rounds → IsMade left next thread calls
      → AreNoneFrom work.threads next → Stands spec work (done ++ entry_after spec done thread calls ∷ []) next rounds
  stands_more next thread calls h made none =
      let e = entry_after spec done thread calls in
      let moved : (more : List Entry) → (done ++ e ∷ []) ++ more ≡ done ++ e ∷ more = λ more. append_assoc done (e ∷ []) more in
      let makes : IsMade left next thread (turn_of e) = subst (IsMade left next thread) (sym (calls_of_plain spec (replay spec done) calls)) made in
      record {
        legal = legal_more spec done thread calls h.legal;
        numbered = numbered_more done e h.numbered refl;
        passes = passes_append work.threads done (e ∷ []) h.passes (one_pass work.threads e (made_below next thread calls h made));
        none_from = none;
        below = h.below;
        rest = λ more whole. rest_after left next rounds e more makes (h.rest (e ∷ more) (subst (MakesRounds work.rounds) (moved more) whole));
        whole = λ more rest. subst (MakesRounds work.rounds) (sym (moved more)) (h.whole (e ∷ more) (rest_before left next rounds e more makes rest));
      }

  -- ---- it can go on

  pub stands_exist : Stands spec work done left rounds → (more : List Entry) × Runs spec work (done ++ more)
  stands_exist h =
      let made = rest_goes_on spec work.threads done left rounds h.none_from h.below h.legal h.numbered in (
        made.0,
        record {
          legal = made.1.legal;
          numbered = made.1.numbered;
          threads = passes_append work.threads done made.0 h.passes made.1.passes;
          rounds = h.whole made.0 made.2;
        },
      )
