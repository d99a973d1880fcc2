-- Runs of a workload: the histories in which its calls may be made.
use Rattle.std.specs.Prelude.{◌≡◌, ℕ, ◌<◌, ◌==◌, List, [], ◌∷◌, ◌++◌, filter, map, length}
use Rattle.rc_work.specs.Imports.{flat_map, In, Spec, Call, Entry, IsLegal, IsNumbered, own}
use Rattle.rc_work.specs.declared.work.Turn.{Turn}
use Rattle.rc_work.specs.declared.work.Work.{Work}

-- the turns of a thread in a round, in order, each with its calls
abbrev pub thread_turns : ℕ → List Turn → List (List Call)
thread_turns thread round = map (λ t. t.calls) (filter (λ t. t.thread == thread) round)

-- and their calls
abbrev pub thread_calls : ℕ → List Turn → List Call
thread_calls thread round = flat_map (λ t. t.calls) (filter (λ t. t.thread == thread) round)

-- the turns that entries are of: each has the calls of its steps
abbrev pub turns_of : List Entry → List (List Call)
turns_of entries = map (λ e. map (λ s. s.call) e.steps) entries

-- each thread's own entries are its turns of the round, each once and in its order
abbrev pub MakesRound : List Turn → List Entry → Type 0
MakesRound round entries = (thread : ℕ) → turns_of (own entries thread) ≡ thread_turns thread round

-- the entries of the first round come first, and then those of the rounds after it
abbrev pub MakesRounds : List (List Turn) → List Entry → Type 0
MakesRounds [] entries = entries ≡ []
MakesRounds (round ∷ rounds) entries =
    (front : List Entry) × (back : List Entry) × (entries ≡ front ++ back) × MakesRound round front × MakesRounds rounds back

-- A history is a run of the workload where it is legal, each pass is a thread and numbers its entries, and the threads make
-- their turns of each round, each once and in its order, before those of any later round.
pub record Runs (spec : Spec) (work : Work) (history : List Entry) : Type 0 where
  pub legal : IsLegal spec history
  pub numbered : IsNumbered history
  pub threads : (e : Entry) → In e history → e.pass < work.threads
  pub rounds : MakesRounds work.rounds history

-- a turn of the workload, of this thread and with these calls
pub record HasTurn (work : Work) (thread : ℕ) (calls : List Call) : Type 0 where
  pub round : List Turn
  pub known : In round work.rounds
  pub turn : Turn
  pub within : In turn round
  pub thread_is : turn.thread ≡ thread
  pub same : calls ≡ turn.calls

-- each entry has one step
abbrev pub HasSingleSteps : List Entry → Type 0
HasSingleSteps history = (e : Entry) → In e history → length e.steps ≡ 1
