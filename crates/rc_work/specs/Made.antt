-- Histories that go on by turns, made one after another: each with the plain replies.
use Rattle.std.specs.Prelude.{ℕ, ◌<◌, List, [], ◌∷◌, ◌++◌, length}
use Rattle.rc_work.specs.Imports.{AllByRecursion, In, Pairs, Call, Spec, plain, Entry, Step, IsLegal, IsNumbered, own, replay}
use Rattle.rc_work.specs.declared.work.Turn.{Turn}

-- the steps of one thread that makes the calls in order, from a relation on
abbrev pub plain_steps : Spec → List Pairs → List Call → List Step
plain_steps spec r [] = []
plain_steps spec r (c ∷ calls) = record { call = c; reply = (plain spec r c).reply } ∷ plain_steps spec (plain spec r c).relation calls

-- the entry of a thread that makes these calls at once after a history
abbrev pub entry_after : Spec → List Entry → ℕ → List Call → Entry
entry_after spec done thread calls =
    record { pass = thread; nth = length (own done thread); steps = plain_steps spec (replay spec done) calls }

-- each entry is of one of the first threads
abbrev pub HasPassesBelow : ℕ → List Entry → Type 0
HasPassesBelow n history = (e : Entry) → In e history → e.pass < n

-- each turn is of one of the first threads
abbrev pub HasTurnsBelow : ℕ → List Turn → Type 0
HasTurnsBelow n turns = AllByRecursion (λ t. t.thread < n) turns

-- a history that goes on by entries of the first threads, and is legal and numbered then
pub record GoesOn (spec : Spec) (n : ℕ) (done more : List Entry) : Type 0 where
  pub legal : IsLegal spec (done ++ more)
  pub numbered : IsNumbered (done ++ more)
  pub passes : HasPassesBelow n more
