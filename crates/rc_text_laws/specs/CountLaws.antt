-- How many calls a run has: no more than each of 8 threads could make of at most 20,000.
use Rattle.std.proofs.Common.{◌≡◌, ℕ, zero, suc, ◌+◌, ◌*◌, ◌<◌, ◌≤◌, ◌^◌, Bool, true, false, cond, List, [], ◌∷◌, length, inl, inr, refl, ap, arith}
use Rattle.std.specs.Prelude.{sum_by, filter, ◌==◌}
use Rattle.rc_text_laws.specs.Imports.{flat_map, In, Spec, Entry, Step, own, calls_of, steps_of, Turn, Work, KeepsLimits, count_calls, Runs, thread_calls, runs_make_calls}
use Rattle.std.proofs.lemmas.Bool.{eqb-false}
use Rattle.std.proofs.lemmas.List.{length-append, length-map}
use Rattle.std.proofs.lemmas.List.Sums.{sum_by-cons}

-- ---- steps by thread

abbrev steps_in : List Entry → ℕ
steps_in history = length (steps_of history)

steps-cons : (e : Entry) (history : List Entry) → steps_in (e ∷ history) ≡ length e.steps + steps_in history
steps-cons e history = length-append e.steps (steps_of history)

-- how many steps the first threads have
own_total : ℕ → List Entry → ℕ
own_total zero history = 0
own_total (suc n) history = own_total n history + steps_in (own history n)

own_more : (history : List Entry) (e : Entry) (pass : ℕ)
    → steps_in (own history pass) ≤ steps_in (own (e ∷ history) pass)
own_more history e pass = go (e.pass == pass)
  where
    go : (b : Bool)
        → steps_in (own history pass) ≤ steps_in (cond b (e ∷ own history pass) (own history pass))
    go true = omega (arith, steps-cons e (own history pass))
    go false = omega arith

total_more : (n : ℕ) (history : List Entry) (e : Entry)
    → own_total n history ≤ own_total n (e ∷ history)
unfolding own_total
total_more zero history e = omega arith
total_more (suc n) history e = omega (arith, total_more n history e, own_more history e n)

total_counts : (n : ℕ) (history : List Entry) (e : Entry) → e.pass < n
    → own_total n history + length e.steps ≤ own_total n (e ∷ history)
unfolding own_total
total_counts zero history e below = absurd (omega arith)
total_counts (suc n) history e below =
    go (e.pass == n) refl (λ other. total_counts n history e (omega arith))
  where
    go : (b : Bool) → (e.pass == n) ≡ b
        → ((e.pass ≡ n → ⊥) → own_total n history + length e.steps ≤ own_total n (e ∷ history))
        → own_total n history + steps_in (own history n) + length e.steps
        ≤ own_total n (e ∷ history) + steps_in (cond b (e ∷ own history n) (own history n))
    go true is later = omega (arith, total_more n history e, steps-cons e (own history n))
    go false is later = omega (arith, later (eqb-false e.pass n is))

-- each step is one of its thread's
length-own_total-le : (n : ℕ) (history : List Entry) → ((e : Entry) → In e history → e.pass < n)
    → steps_in history ≤ own_total n history
length-own_total-le n [] below = omega arith
length-own_total-le n (e ∷ history) below =
    omega (
      arith,
      steps-cons e history,
      total_counts n history e (below e (inl refl)),
      length-own_total-le n history (λ x m. below x (inr m)),
    )

-- ---- calls by thread

abbrev turn_calls : Turn → ℕ
turn_calls t = length t.calls

length-thread_calls : (thread : ℕ) (round : List Turn)
    → length (thread_calls thread round) ≤ sum_by turn_calls round
length-thread_calls thread [] = omega arith
length-thread_calls thread (t ∷ round) = go (t.thread == thread) (length-thread_calls thread round)
  where
    go : (b : Bool) → length (thread_calls thread round) ≤ sum_by turn_calls round
        → length (flat_map (λ (x : Turn). x.calls) (cond b (t ∷ filter (λ x. x.thread == thread) round) (filter (λ x. x.thread == thread) round)))
        ≤ sum_by turn_calls (t ∷ round)
    go true fewer =
        omega (
          arith,
          length-append t.calls (thread_calls thread round),
          fewer,
          sum_by-cons turn_calls t round,
        )
    go false fewer = omega (arith, fewer, sum_by-cons turn_calls t round)

length-rounds : (thread : ℕ) (rounds : List (List Turn))
    → length (flat_map (thread_calls thread) rounds) ≤ count_calls rounds
length-rounds thread [] = omega arith
length-rounds thread (round ∷ rounds) =
    omega (
      arith,
      length-append (thread_calls thread round) (flat_map (thread_calls thread) rounds),
      length-thread_calls thread round,
      length-rounds thread rounds,
      sum_by-cons (sum_by turn_calls) round rounds,
    )

module _ (spec : Spec) (work : Work) (history : List Entry) (limits : KeepsLimits work) (run : Runs spec work history) where
  length-own : (thread : ℕ) → steps_in (own history thread) ≤ 20000
  length-own thread =
      let made : length (calls_of (own history thread)) ≡ length (flat_map (thread_calls thread) work.rounds) =
      ap length (runs_make_calls spec work history thread run) in
      omega (
        arith,
        length-map (steps_of (own history thread)) (λ (s : Step). s.call),
        made,
        length-rounds thread work.rounds,
        limits.few_calls,
      )

  own_total-le : (n : ℕ) → own_total n history ≤ n * 20000
  unfolding own_total
  own_total-le zero = omega arith
  own_total-le (suc n) = omega (arith, own_total-le n, length-own n)

  -- a run has fewer than 2^64 steps
  pub few_steps : length (steps_of history) < 2 ^ 64
  few_steps =
      let most = own_total-le work.threads in
      omega (arith, length-own_total-le work.threads history run.threads, most, limits.few_threads)
