-- Laws of the generated workload: its calls fit the sample, it keeps the limits, and every run is as if one thread had made its calls in order.
use Rattle.std.proofs.Common.{◌≡◌, ℕ, ◌+◌, ◌*◌, ◌/◌, ◌%◌, ◌^◌, ◌<◌, ◌≤◌, Bool, true, false, cond, nat_le, List, [], ◌∷◌, length, map, refl, sym, ap, ◌∙◌, subst, arith}
use Rattle.rc_generate.specs.Imports.{sum_by, AllByRecursion, flat_map, range_with_len, zip, in_map, in_each, each_in, IsColSet, rising_range, in_range_bounds, IsTuple, IsTuple-zip, Call, Fits, IsBounded, Entry, own, steps_of, replay, Turn, RoundsFit, HasThreads, HasSingleTurns, KeepsLimits, Runs}
use Rattle.std.proofs.lemmas.List.{append-nil}
use Rattle.std.proofs.lemmas.List.Sums.{sum_by-cons}
use Rattle.std.proofs.lemmas.List.Elements.{All-nil}
use Rattle.std.proofs.lemmas.List.FromFn.{length-map-range_with_len, length-range_with_len}
use Rattle.rc_generate.specs.Shards.{shard_of, IsAsOneThread}
use Rattle.rc_generate.specs.Summary.{rows_in, counted, summary, one_thread_summary}
use Rattle.rc_generate.specs.SummaryLaws.{summaries_are_one_threads, length_as_one_thread, rows_are_few}
use Rattle.rc_generate.specs.Sample.{sample_graph}
use Rattle.rc_generate.specs.SampleLaws.{sample_is_sharded}
use Rattle.rc_generate.specs.SharedRuns.{TurnsKeepShards, all_calls}
use Rattle.rc_generate.specs.SharedRunsLaws.{shared_runs_are_as_one_thread, shared_runs_have_same_replies}
use Rattle.rc_generate.specs.Generated.{next_number, number_at, insert_call, remove_call, query_call, call_of_kind, call_by, call_at, turn_at, generated_turns, generated_calls, generated}

-- ---- the calls fit, and each is of its thread's shard

first_columns : (n : ℕ) → n ≤ 32 → IsColSet (range_with_len 0 n)
first_columns n h = record { rising = rising_range 0 n; below = λ c m. omega (arith, h, (in_range_bounds 0 n c m).1) }

tuple_of_first : (n : ℕ) (values : List ℕ) → n ≤ 32 → length values ≡ length (range_with_len 0 n) → AllByRecursion (λ v. v < 2 ^ 64) values → IsTuple (zip (range_with_len 0 n) values)
tuple_of_first n values h e small = IsTuple-zip (range_with_len 0 n) values e (first_columns n h) (each_in (λ (v : ℕ). v < 2 ^ 64) values small)

-- a call that fits the sample, and is of this thread's shard
record IsRight (thread : ℕ) (call : Call) : Type 0 where
  pub fits : Fits sample_graph call
  pub shard : shard_of 0 (λ v. v % 4) call.args ≡ thread

right_of_kind : (kind src dst weight thread : ℕ) → src < 2 ^ 64 → dst < 2 ^ 64 → weight < 2 ^ 64 → src % 4 ≡ thread → IsRight thread (call_of_kind kind src dst weight)
right_of_kind kind src dst weight thread h k l e = go (nat_le kind 3) (nat_le kind 5)
  where
    go : (a b : Bool) → IsRight thread (cond a (insert_call src dst weight) (cond b (query_call src) (remove_call src dst)))
    go true b = record { fits = (_, record { known = refl; tuple = tuple_of_first 3 (src ∷ dst ∷ weight ∷ []) (omega arith) refl (h, (k, (l, tt))); columns = refl; ranges = refl; bounds = All-nil IsBounded }); shard = e }
    go false true = record { fits = (_, record { known = refl; tuple = tuple_of_first 1 (src ∷ []) (omega arith) refl (h, tt); columns = refl; ranges = refl; bounds = All-nil IsBounded }); shard = e }
    go false false = record { fits = (_, record { known = refl; tuple = tuple_of_first 2 (src ∷ dst ∷ []) (omega arith) refl (h, (k, tt)); columns = refl; ranges = refl; bounds = All-nil IsBounded }); shard = e }

right_by : (place x : ℕ) → IsRight (place % 4) (call_by (place % 4) x)
right_by place x =
    let a = x / 2 ^ 24 in
    let b = x / 2 ^ 19 in
    let c = x / 2 ^ 9 in
    let src : 4 * (a % 16) + place % 4 < 2 ^ 64 = omega arith in
    let dst : b % 32 < 2 ^ 64 = omega arith in
    let weight : c % 1024 < 2 ^ 64 = omega arith in
    let shard : (4 * (a % 16) + place % 4) % 4 ≡ place % 4 = omega arith in
    right_of_kind (x / 2 ^ 28) (4 * (a % 16) + place % 4) (b % 32) (c % 1024) (place % 4) src dst weight shard

-- what holds of the turn at each place holds of each turn
each_turn : (P : Turn → Type 0) (seed calls : ℕ) → ((place : ℕ) → P (turn_at seed place)) → AllByRecursion P (generated_turns seed calls)
each_turn P seed calls h = in_each P (generated_turns seed calls)
    (λ t m. let at = in_map (turn_at seed) t (range_with_len 0 calls) m in subst P (sym at.2) (h at.0))

pub generated_fits : (seed calls : ℕ) → RoundsFit sample_graph (generated seed calls).rounds
generated_fits seed calls = (
  each_turn (λ (t : Turn). AllByRecursion (Fits sample_graph) t.calls) seed calls
      (λ place. ((right_by place (next_number (number_at seed place))).fits, tt)),
  tt,
)

pub generated_keeps_shards : (seed calls : ℕ) → TurnsKeepShards 0 (λ v. v % 4) (generated seed calls).rounds
generated_keeps_shards seed calls = (
  each_turn (λ (t : Turn). AllByRecursion (λ (c : Call). shard_of 0 (λ v. v % 4) c.args ≡ t.thread) t.calls) seed calls
      (λ place. ((right_by place (next_number (number_at seed place))).shard, tt)),
  tt,
)

-- ---- its limits

pub generated_has_threads : (seed calls : ℕ) → HasThreads (generated seed calls)
generated_has_threads seed calls = (each_turn (λ (t : Turn). t.thread < 4) seed calls (λ place. omega arith), tt)

abbrev turn_calls : Turn → ℕ
turn_calls t = length t.calls

-- turns of one call have as many calls as they are
one_each : (seed : ℕ) (places : List ℕ) → sum_by turn_calls (map (turn_at seed) places) ≡ length places
one_each seed [] = refl
one_each seed (place ∷ places) =
    omega (arith, sum_by-cons turn_calls (turn_at seed place) (map (turn_at seed) places), one_each seed places)

pub generated_keeps_limits : (seed calls : ℕ) → calls ≤ 20000 → KeepsLimits (generated seed calls)
generated_keeps_limits seed calls few = record {
  some_thread = omega arith;
  few_threads = omega arith;
  few_rounds = omega arith;
  few_calls = omega (
    arith,
    sum_by-cons (sum_by turn_calls) (generated_turns seed calls) [],
    one_each seed (range_with_len 0 calls),
    length-range_with_len 0 calls,
    few,
  );
  turns = (
    each_turn (λ (t : Turn). (1 ≤ length t.calls) × (length t.calls ≤ 16)) seed calls (λ place. (omega arith, omega arith)),
    tt,
  );
}

-- no turn is a group
pub generated_has_single_turns : (seed calls : ℕ) → HasSingleTurns (generated seed calls)
generated_has_single_turns seed calls = (each_turn (λ (t : Turn). length t.calls ≡ 1) seed calls (λ place. refl), tt)

turns_calls : (seed : ℕ) (places : List ℕ) → flat_map (λ (t : Turn). t.calls) (map (turn_at seed) places) ≡ map (call_at seed) places
turns_calls seed [] = refl
turns_calls seed (place ∷ places) = ap (λ l. call_at seed place ∷ l) (turns_calls seed places)

-- the calls of the turns, in order
all_generated : (seed calls : ℕ) → all_calls (generated seed calls).rounds ≡ generated_calls seed calls
all_generated seed calls =
    append-nil (flat_map (λ (t : Turn). t.calls) (generated_turns seed calls)) ∙ turns_calls seed (range_with_len 0 calls)

-- ---- its runs

-- every run of the generated workload is as if one thread had made its calls in order
abbrev pub GeneratedAsOneThread : Type 0
GeneratedAsOneThread = (seed calls : ℕ) (history : List Entry) → Runs sample_graph (generated seed calls) history → IsAsOneThread sample_graph (generated_calls seed calls) history

pub generated_as_one_thread : GeneratedAsOneThread
generated_as_one_thread seed calls history run =
    subst (λ (cs : List Call). IsAsOneThread sample_graph cs history) (all_generated seed calls)
    (shared_runs_are_as_one_thread sample_graph 0 (λ v. v % 4) (generated seed calls) history sample_is_sharded (generated_keeps_shards seed calls) (generated_fits seed calls) run)

-- so its summary is the same in every run: that of one thread that makes the calls in order
abbrev pub GeneratedSummaryIsOneThreads : Type 0
GeneratedSummaryIsOneThreads = (seed calls : ℕ) (history : List Entry) → Runs sample_graph (generated seed calls) history
    → summary history (replay sample_graph history) ≡ one_thread_summary sample_graph (generated_calls seed calls)

pub generated_summary_is_one_threads : GeneratedSummaryIsOneThreads
generated_summary_is_one_threads seed calls history run =
    summaries_are_one_threads sample_graph (generated_calls seed calls) history (generated_as_one_thread seed calls history run)

-- each thread's calls have the same replies in every run
abbrev pub GeneratedRepliesAreTheSame : Type 0
GeneratedRepliesAreTheSame = (seed calls : ℕ) (history other : List Entry) → Runs sample_graph (generated seed calls) history
    → Runs sample_graph (generated seed calls) other → (thread : ℕ) → steps_of (own history thread) ≡ steps_of (own other thread)

pub generated_replies_are_the_same : GeneratedRepliesAreTheSame
generated_replies_are_the_same seed calls history other run again =
    shared_runs_have_same_replies sample_graph 0 (λ v. v % 4) (generated seed calls) history other sample_is_sharded
    (generated_keeps_shards seed calls) (generated_fits seed calls) run again

-- it has as many steps as calls, and the replies list few rows, so that its summary can be counted
abbrev pub GeneratedRunsAreSmall : Type 0
GeneratedRunsAreSmall = (seed calls : ℕ) (history : List Entry) → Runs sample_graph (generated seed calls) history
    → (length (steps_of history) ≡ calls) × (counted rows_in (steps_of history) ≤ 256 * calls)

pub generated_runs_are_small : GeneratedRunsAreSmall
generated_runs_are_small seed calls history run =
    let steps : length (steps_of history) ≡ length (generated_calls seed calls) =
    length_as_one_thread sample_graph (generated_calls seed calls) history (generated_as_one_thread seed calls history run) in
    let places : length (generated_calls seed calls) ≡ calls = length-map-range_with_len (call_at seed) 0 calls in
    let rows : counted rows_in (steps_of history) ≤ length (steps_of history) * 256 = rows_are_few sample_graph history run.legal in
    (steps ∙ places, omega (arith, steps, places, rows))
