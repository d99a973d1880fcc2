-- Runs of workloads whose threads make calls of their own shards: each is as if one thread had made all calls in written order.
use Rattle.std.proofs.Common.{◌≡◌, ℕ, ◌==◌, Bool, true, false, cond, List, [], ◌∷◌, ◌++◌, refl, sym, ap, ◌∙◌}
use Rattle.rc_generate.specs.Imports.{filter, flat_map, AllByRecursion, In, each_in, Call, Spec, Entry, own, steps_of, Turn, Work, TurnsFit, RoundsFit, thread_calls, Runs, runs_make_calls}
use Rattle.std.proofs.lemmas.List.Elements.{filter-append}
use Rattle.rc_generate.specs.FilterLaws.{filter-every, filter-none}
use Rattle.rc_generate.specs.Shards.{IsSharded, IsSharedOut, MakesShards, shard_of, calls_in, CallsFit, IsAsOneThread}
use Rattle.rc_generate.specs.ShardLaws.{all_fit, keeps_shards, same_in_every_schedule, shards_are_as_one_thread}
use Rattle.rc_generate.specs.SharedRuns.{all_calls, TurnsKeepShards}

abbrev calls_of_turns : List Turn → List Call
calls_of_turns turns = flat_map (λ (t : Turn). t.calls) turns

round_calls : (key : ℕ) (share : ℕ → ℕ) (thread : ℕ) (round : List Turn)
    → AllByRecursion (λ t. AllByRecursion (λ c. shard_of key share c.args ≡ t.thread) t.calls) round
    → thread_calls thread round ≡ calls_in key share thread (calls_of_turns round)
round_calls key share thread [] h = refl
round_calls key share thread (t ∷ round) h =
    go (t.thread == thread) refl (round_calls key share thread round h.1)
    ∙ sym (filter-append mine t.calls (calls_of_turns round))
  where
    mine : Call → Bool
    mine c = shard_of key share c.args == thread

    same : (c : Call) → In c t.calls → mine c ≡ (t.thread == thread)
    same c m = ap (λ n. n == thread) (each_in (λ (x : Call). shard_of key share x.args ≡ t.thread) t.calls h.0 c m)

    go : (b : Bool) → (t.thread == thread) ≡ b → thread_calls thread round ≡ calls_in key share thread (calls_of_turns round)
        → calls_of_turns (cond b (t ∷ filter (λ x. x.thread == thread) round) (filter (λ x. x.thread == thread) round))
        ≡ filter mine t.calls ++ filter mine (calls_of_turns round)
    go true e ih =
        ap (λ l. t.calls ++ l) ih
        ∙ ap (λ l. l ++ filter mine (calls_of_turns round)) (sym (filter-every mine t.calls (λ c m. same c m ∙ e)))
    go false e ih = ih ∙ ap (λ l. l ++ filter mine (calls_of_turns round)) (sym (filter-none mine t.calls (λ c m. same c m ∙ e)))

-- each thread's calls over all rounds are those of its shard
rounds_calls : (key : ℕ) (share : ℕ → ℕ) (thread : ℕ) (rounds : List (List Turn)) → TurnsKeepShards key share rounds
    → flat_map (thread_calls thread) rounds ≡ calls_in key share thread (all_calls rounds)
rounds_calls key share thread [] h = refl
rounds_calls key share thread (round ∷ rounds) h =
    ap (λ l. l ++ flat_map (thread_calls thread) rounds) (round_calls key share thread round h.0)
    ∙ ap (λ l. calls_in key share thread (calls_of_turns round) ++ l) (rounds_calls key share thread rounds h.1)
    ∙ sym (filter-append (λ (c : Call). shard_of key share c.args == thread) (calls_of_turns round) (all_calls rounds))

fit_append : (spec : Spec) (xs ys : List Call) → CallsFit spec xs → CallsFit spec ys → CallsFit spec (xs ++ ys)
fit_append spec [] ys h k = k
fit_append spec (x ∷ xs) ys h k = (h.0, fit_append spec xs ys h.1 k)

turns_fit : (spec : Spec) (round : List Turn) → TurnsFit spec round → CallsFit spec (calls_of_turns round)
turns_fit spec [] h = tt
turns_fit spec (t ∷ round) h = fit_append spec t.calls (calls_of_turns round) h.0 (turns_fit spec round h.1)

calls_fit : (spec : Spec) (rounds : List (List Turn)) → RoundsFit spec rounds → CallsFit spec (all_calls rounds)
calls_fit spec [] h = tt
calls_fit spec (round ∷ rounds) h = fit_append spec (calls_of_turns round) (all_calls rounds) (turns_fit spec round h.0) (calls_fit spec rounds h.1)

-- each thread makes the calls of its shard
module _ (spec : Spec) (key : ℕ) (share : ℕ → ℕ) (work : Work) (keep : TurnsKeepShards key share work.rounds) where
  makes_shards : (history : List Entry) → Runs spec work history → MakesShards key share (all_calls work.rounds) history
  makes_shards history run thread = runs_make_calls spec work history thread run ∙ rounds_calls key share thread work.rounds keep

  is_shared_out : (history : List Entry) → RoundsFit spec work.rounds → Runs spec work history → IsSharedOut spec key share history
  is_shared_out history fit run = record {
    legal = run.legal;
    fit = all_fit spec key share (all_calls work.rounds) history (makes_shards history run) (calls_fit spec work.rounds fit);
    keeps = keeps_shards spec key share (all_calls work.rounds) history (makes_shards history run);
  }

-- every run of such a workload is as if one thread had made all calls in written order
abbrev pub SharedRunsAreAsOneThread : Type 0
SharedRunsAreAsOneThread = (spec : Spec) (key : ℕ) (share : ℕ → ℕ) (work : Work) (history : List Entry) → IsSharded spec key → TurnsKeepShards key share work.rounds
    → RoundsFit spec work.rounds → Runs spec work history → IsAsOneThread spec (all_calls work.rounds) history

pub shared_runs_are_as_one_thread : SharedRunsAreAsOneThread
shared_runs_are_as_one_thread spec key share work history is keep fit run =
    shards_are_as_one_thread spec key share (all_calls work.rounds) history is (calls_fit spec work.rounds fit) run.legal (makes_shards spec key share work keep history run)

-- and each thread's calls have the same replies in every run
abbrev pub SharedRunsHaveSameReplies : Type 0
SharedRunsHaveSameReplies = (spec : Spec) (key : ℕ) (share : ℕ → ℕ) (work : Work) (history other : List Entry) → IsSharded spec key
    → TurnsKeepShards key share work.rounds → RoundsFit spec work.rounds → Runs spec work history → Runs spec work other
    → (thread : ℕ) → steps_of (own history thread) ≡ steps_of (own other thread)

pub shared_runs_have_same_replies : SharedRunsHaveSameReplies
shared_runs_have_same_replies spec key share work history other is keep fit run again =
    (same_in_every_schedule spec key share history other is
    (is_shared_out spec key share work keep history fit run) (is_shared_out spec key share work keep other fit again)
    (λ thread. runs_make_calls spec work history thread run ∙ sym (runs_make_calls spec work other thread again))).0
