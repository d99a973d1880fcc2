-- How many entries a run has.
use Rattle.std.proofs.Common.{◌≡◌, ℕ, ◌+◌, ◌≤◌, List, [], ◌∷◌, ◌++◌, length, map, refl, sym, ap, ◌∙◌, arith}
use Rattle.std.specs.Prelude.{sum_by, filter, ◌==◌}
use Rattle.rc_work.specs.Imports.{AllByRecursion, flat_map, range_with_len, Spec, Entry, Placed, Step, own, own_placed, placed_own, shares_add_up}
use Rattle.std.proofs.lemmas.List.{length-append, length-map, map-append}
use Rattle.std.proofs.lemmas.List.Elements.{filter-append}
use Rattle.std.proofs.lemmas.List.Sums.{sum_by-cons}
use Rattle.rc_work.specs.declared.work.Turn.{Turn}
use Rattle.rc_work.specs.declared.work.Work.{Work}
use Rattle.rc_work.specs.Fitting.{HasThreads}
use Rattle.rc_work.specs.Limits.{HasTurnSize, KeepsLimits, count_calls}
use Rattle.rc_work.specs.Runs.{Runs, thread_turns, turns_of}
use Rattle.rc_work.specs.RunsLaws.{runs_make_turns}
use Rattle.rc_work.specs.Made.{HasPassesBelow, HasTurnsBelow}
use Rattle.rc_work.specs.MadeLaws.{made_in_order}

-- ---- histories with as many entries of each pass

sums_alike : (f g : ℕ → ℕ) → ((k : ℕ) → f k ≡ g k) → (ks : List ℕ) → sum_by f ks ≡ sum_by g ks
sums_alike f g same [] = refl
sums_alike f g same (k ∷ ks) =
    let rest = sums_alike f g same ks in
    sum_by-cons f k ks ∙ (λ i. same k i + rest i) ∙ sym (sum_by-cons g k ks)

length-own_placed : (history : List Entry) (pass : ℕ) → length (own_placed history pass) ≡ length (own history pass)
length-own_placed history pass =
    sym (length-map (own_placed history pass) (λ (w : Placed). w.entry)) ∙ ap length (placed_own 0 history pass)

-- an entry is one turn
length-turns : (history : List Entry) (pass : ℕ) → length (turns_of (own history pass)) ≡ length (own history pass)
length-turns history pass = length-map (own history pass) (λ (e : Entry). map (λ (s : Step). s.call) e.steps)

same_count : (n : ℕ) (xs ys : List Entry) → HasPassesBelow n xs → HasPassesBelow n ys
    → ((pass : ℕ) → turns_of (own xs pass) ≡ turns_of (own ys pass)) → length xs ≡ length ys
same_count n xs ys below beneath same =
    sym (shares_add_up n xs below)
    ∙ sums_alike (λ pass. length (own_placed xs pass)) (λ pass. length (own_placed ys pass))
    (λ k. length-own_placed xs k ∙ sym (length-turns xs k) ∙ ap length (same k) ∙ length-turns ys k ∙ sym (length-own_placed ys k)) (range_with_len 0 n)
    ∙ shares_add_up n ys beneath

-- ---- the turns of all rounds, in order

abbrev all_turns : List (List Turn) → List Turn
all_turns rounds = flat_map (λ (round : List Turn). round) rounds

-- the turns of a thread among turns, and then others
pub thread_turns-append : (u : ℕ) (xs ys : List Turn) → thread_turns u (xs ++ ys) ≡ thread_turns u xs ++ thread_turns u ys
thread_turns-append u xs ys =
    ap (map (λ (t : Turn). t.calls)) (filter-append (λ (t : Turn). t.thread == u) xs ys)
    ∙ map-append (λ (t : Turn). t.calls) (filter (λ (t : Turn). t.thread == u) xs) (filter (λ (t : Turn). t.thread == u) ys)

turns_all : (u : ℕ) (rounds : List (List Turn)) → thread_turns u (all_turns rounds) ≡ flat_map (thread_turns u) rounds
turns_all u [] = refl
turns_all u (round ∷ rounds) = thread_turns-append u round (all_turns rounds) ∙ ap (λ l. thread_turns u round ++ l) (turns_all u rounds)

length-all : (rounds : List (List Turn)) → length (all_turns rounds) ≡ sum_by length rounds
length-all [] = refl
length-all (round ∷ rounds) =
    length-append round (all_turns rounds) ∙ ap (λ n. length round + n) (length-all rounds) ∙ sym (sum_by-cons length round rounds)

pub below_append : (n : ℕ) (xs ys : List Turn) → HasTurnsBelow n xs → HasTurnsBelow n ys → HasTurnsBelow n (xs ++ ys)
below_append n [] ys h k = k
below_append n (x ∷ xs) ys h k = (h.0, below_append n xs ys h.1 k)

all_below : (n : ℕ) (rounds : List (List Turn)) → AllByRecursion (HasTurnsBelow n) rounds → HasTurnsBelow n (all_turns rounds)
all_below n [] below = tt
all_below n (round ∷ rounds) below = below_append n round (all_turns rounds) below.0 (all_below n rounds below.1)

-- ---- the count

-- a run has an entry for each turn of the workload
abbrev pub RunsHaveAllTurns : Type 0
RunsHaveAllTurns = (spec : Spec) (work : Work) (history : List Entry) → HasThreads work → Runs spec work history
    → length history ≡ sum_by length work.rounds

pub runs_have_all_turns : RunsHaveAllTurns
runs_have_all_turns spec work history threads run =
    let turns = all_turns work.rounds in
    let made = made_in_order spec work.threads [] turns (all_below work.threads work.rounds threads) tt (λ pass. refl) in
    same_count work.threads history made.0 run.threads made.1.passes
    (λ pass. runs_make_turns spec work history pass run ∙ sym (turns_all pass work.rounds) ∙ sym (made.2 pass))
    ∙ made.3 ∙ length-all work.rounds

-- ---- its bound

turns_few : (round : List Turn) → AllByRecursion HasTurnSize round → length round ≤ sum_by (λ t. length t.calls) round
turns_few [] sizes = omega arith
turns_few (t ∷ round) sizes =
    omega (arith, turns_few round sizes.1, sizes.0.0, sum_by-cons (λ (x : Turn). length x.calls) t round)

rounds_few : (rounds : List (List Turn)) → AllByRecursion (AllByRecursion HasTurnSize) rounds → sum_by length rounds ≤ count_calls rounds
rounds_few [] sizes = omega arith
rounds_few (round ∷ rounds) sizes =
    omega (
      arith,
      rounds_few rounds sizes.1,
      turns_few round sizes.0,
      sum_by-cons length round rounds,
      sum_by-cons (sum_by (λ (x : Turn). length x.calls)) round rounds,
    )

-- a workload has at most 20,000 turns
pub few_turns : (work : Work) → KeepsLimits work → sum_by length work.rounds ≤ 20000
few_turns work limits = omega (arith, rounds_few work.rounds limits.turns, limits.few_calls)
