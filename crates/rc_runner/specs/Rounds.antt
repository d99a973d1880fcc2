-- Passes that make their turns round by round. (PLDI 2012, serializable transactions: what threads make beside each other is one history.)
use Rattle.std.specs.Prelude.{◌≡◌, ℕ, suc, ◌<◌, ◌≤◌, List, [], ◌∷◌, ◌++◌, map, length, Some, All}
use Rattle.rc_runner.specs.Imports.{AllZip, slice_get, In, Spec, Call, Entry, Placed, IsLegal, IsNumbered, own_placed, Turn, thread_turns, turns_of}

-- ---- entries with their places

abbrev pub entries_of : List Placed → List Entry
entries_of xs = map (λ x. x.entry) xs

abbrev pub AreBefore : ℕ → List Placed → Type 0
AreBefore c xs = All (λ x. x.place < c) xs

abbrev pub AreFrom : ℕ → List Placed → Type 0
AreFrom c xs = All (λ x. c ≤ x.place) xs

-- ---- what a pass has made

-- what a pass shows: its entries with their places, and how much of the history it has seen
pub record Stand : Type 0 where
  pub own : List Placed
  pub seen : ℕ

-- The entries are the thread's turns of these rounds, in order: those of each round before its mark, and those of the
-- rounds after it from that mark on.
abbrev pub MadeBy : ℕ → List (List Turn) → List ℕ → List Placed → Type 0
MadeBy thread [] [] own = own ≡ []
MadeBy thread [] (c ∷ marks) own = ⊥
MadeBy thread (round ∷ rounds) [] own = ⊥
MadeBy thread (round ∷ rounds) (c ∷ marks) own =
    (front : List Placed) × (back : List Placed) × (own ≡ front ++ back)
    × (turns_of (entries_of front) ≡ thread_turns thread round)
    × AreBefore c front × AreFrom c back × MadeBy thread rounds marks back

-- a thread's pass has made these rounds, and has seen up to each of their marks
pub record HasMade (rounds : List (List Turn)) (marks : List ℕ) (thread : ℕ) (s : Stand) : Type 0 where
  pub made : MadeBy thread rounds marks s.own
  pub seen : All (λ c. c ≤ s.seen) marks

-- the passes, numbered from `thread` on, have made these rounds
abbrev pub EachHasMade : List (List Turn) → List ℕ → ℕ → List Stand → Type 0
EachHasMade rounds marks thread [] = Unit {0}
EachHasMade rounds marks thread (s ∷ stands) =
    HasMade rounds marks thread s × EachHasMade rounds marks (suc thread) stands

-- There is a mark for each round: every entry of the round stands before it, and every later one from it on.
abbrev pub HaveMade : List (List Turn) → List Stand → Type 0
HaveMade rounds stands = (marks : List ℕ) × EachHasMade rounds marks 0 stands

-- ---- one round more

-- A pass has made these calls at once: it keeps one entry more, of these steps, at a place that is at least what it had
-- seen, and it has seen that place.
pub record HasCalled (calls : List Call) (s t : Stand) : Type 0 where
  pub entry : Placed
  pub own : t.own ≡ s.own ++ entry ∷ []
  pub made : turns_of (entry.entry ∷ []) ≡ calls ∷ []
  pub after : s.seen ≤ entry.place
  pub before : entry.place < t.seen

-- a pass has made these turns more, each at a place that is at least what it had seen, and has seen them
pub record HasGrown (turns : List (List Call)) (s t : Stand) : Type 0 where
  pub more : List Placed
  pub own : t.own ≡ s.own ++ more
  pub made : turns_of (entries_of more) ≡ turns
  pub after : AreFrom s.seen more
  pub before : AreBefore t.seen more
  pub seen : s.seen ≤ t.seen

-- the passes, numbered from `thread` on, have each made their turns of the round
abbrev pub EachHasGrown : List Turn → ℕ → List Stand → List Stand → Type 0
EachHasGrown round thread [] [] = Unit {0}
EachHasGrown round thread [] (t ∷ ts) = ⊥
EachHasGrown round thread (s ∷ ss) [] = ⊥
EachHasGrown round thread (s ∷ ss) (t ∷ ts) =
    HasGrown (thread_turns thread round) s t × EachHasGrown round (suc thread) ss ts

-- the passes have their entries as before, and each has seen at least what any had seen
pub record HaveLearnt (ts us : List Stand) : Type 0 where
  pub own : map (λ (u : Stand). u.own) us ≡ map (λ (t : Stand). t.own) ts
  pub seen : All (λ (t : Stand). All (λ (u : Stand). t.seen ≤ u.seen) us) ts

-- ---- callers of any kind

-- each caller has made the turns of its thread
abbrev pub MadeTurns : {A : Type 0} → (A → ℕ) → (A → Stand) → (ℕ → List (List Call)) → List A → List A → Type 0
MadeTurns number stand turns olds news = AllZip (λ a b. HasGrown (turns (number a)) (stand a) (stand b)) olds news

-- those of the round
abbrev pub MadeRound : {A : Type 0} → (A → ℕ) → (A → Stand) → List Turn → List A → List A → Type 0
MadeRound number stand round olds news = MadeTurns number stand (λ thread. thread_turns thread round) olds news

-- a pass has its entries as before, and has seen at least what it had seen and what the other has
pub record HasHeard (other s t : Stand) : Type 0 where
  pub own : t.own ≡ s.own
  pub seen : s.seen ≤ t.seen
  pub told : other.seen ≤ t.seen

-- a pass has its entries as before, and has seen at least what it had seen and what each of the others has
pub record HasHeardAll (others : List Stand) (s t : Stand) : Type 0 where
  pub own : t.own ≡ s.own
  pub seen : s.seen ≤ t.seen
  pub told : All (λ (other : Stand). other.seen ≤ t.seen) others

-- the passes have their entries as before, and each has seen at least what the teller has
pub record HaveHeard (teller : Stand) (ts us : List Stand) : Type 0 where
  pub own : map (λ (u : Stand). u.own) us ≡ map (λ (t : Stand). t.own) ts
  pub told : All (λ (u : Stand). teller.seen ≤ u.seen) us

-- ---- the end

-- A history that closing gives: it is legal and numbered, each pass's entries with their places are its own of it, and
-- it has no others.
pub record IsClosed (spec : Spec) (stands : List Stand) (history : List Entry) : Type 0 where
  pub legal : IsLegal spec history
  pub numbered : IsNumbered history
  pub own : (k : ℕ) (s : Stand) → slice_get stands k ≡ Some s → s.own ≡ own_placed history k
  pub passes : (e : Entry) → In e history → e.pass < length stands
