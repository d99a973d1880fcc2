-- Turns that are left: of a round that has begun, and of the rounds after it.
use Rattle.std.specs.Prelude.{◌≡◌, ◌≢◌, ℕ, ◌≤◌, List, [], ◌∷◌, ◌++◌}
use Rattle.rc_audit.specs.Imports.{Call, Entry, own, Turn, MakesRounds, turns_of}

-- The entries make first the turns that are left of a round, each thread its own in order, and then the rounds after it.
abbrev pub MakesRest : (ℕ → List (List Call)) → List (List Turn) → List Entry → Type 0
MakesRest left rounds entries =
    (front : List Entry) × (back : List Entry) × (entries ≡ front ++ back) × ((thread : ℕ) → turns_of (own front thread) ≡ left thread) × MakesRounds rounds back

-- nothing is left of the round
abbrev pub NoneLeft : (ℕ → List (List Call)) → Type 0
NoneLeft left = (thread : ℕ) → left thread ≡ []

-- the threads from a number on have nothing left
abbrev pub AreNoneFrom : ℕ → (ℕ → List (List Call)) → Type 0
AreNoneFrom n left = (thread : ℕ) → n ≤ thread → left thread ≡ []

-- what is left once a thread has made its first turn, of these calls
pub record IsMade (left next : ℕ → List (List Call)) (thread : ℕ) (calls : List Call) : Type 0 where
  pub mine : left thread ≡ calls ∷ next thread
  pub others : (u : ℕ) → u ≢ thread → next u ≡ left u
