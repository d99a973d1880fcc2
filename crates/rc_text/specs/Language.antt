-- A language of lines: what lines give, read one after another from a state on, and what they mean over the whole list.
use Rattle.std.specs.Prelude.{◌≡◌, ◌⊎◌, ℕ, Bool, true, false, if◌then◌else◌, List, [], ◌∷◌, ◌++◌, Result, Ok, Err}
use Rattle.rc_text.specs.Lines.{ContentLine}

-- the first rule that a line breaks, and the line
pub record Broken (Rule : Type 0) : Type 0 where
  pub rule : Rule
  pub line : ℕ

abbrev pub broken_at : {Read Rule : Type 0} → Rule → ℕ → Result Read (Broken Rule)
broken_at rule line = Err (record { rule = rule; line = line })

-- A language, by what its lines do: a line gives something, behind the lines that left a state, or breaks a rule.
pub record Language (State Given Read Rule : Type 0) : Type 0 where
  pub next : State → List ℕ → Result Given Rule
  -- the line was the last that is read
  pub ended : Given → Bool
  -- the state that the line left
  pub state : Given → State
  -- what was read up to the last line, which is handed on with those behind it
  pub done : State → ContentLine → List ContentLine → Read
  -- what was read where the lines run out, if that may be; the number is one past the last line
  pub out : ℕ → State → Result Read (Broken Rule)

module _ {State Given Read Rule : Type 0} (language : Language State Given Read Rule) where
  abbrev pub reading_after : Result Given Rule → ContentLine → List ContentLine
      → (State → Result Read (Broken Rule)) → Result Read (Broken Rule)
  reading_after (Err rule) line others go_on = broken_at rule line.number
  reading_after (Ok given) line others go_on =
      if language.ended given then Ok (language.done (language.state given) line others)
      else go_on (language.state given)

  -- what the lines give, tested in order from a state on
  abbrev pub reading_from : ℕ → State → List ContentLine → Result Read (Broken Rule)
  reading_from past_end state [] = language.out past_end state
  reading_from past_end state (line ∷ others) =
      reading_after (language.next state line.bytes) line others (λ next. reading_from past_end next others)

  -- ---- what it is that a line is the first to break a rule

  -- lines that break no rule and of which none is the last, from this state to the next
  abbrev pub AreTaken : State → List ContentLine → State → Type 0
  AreTaken state [] next = state ≡ next
  AreTaken state (line ∷ lines) next =
      (given : Given) × (language.next state line.bytes ≡ Ok given) × (language.ended given ≡ false)
      × AreTaken (language.state given) lines next

  -- the lines before a line are taken, and leave this state
  pub record Reaches (state : State) (lines : List ContentLine) (before : State) (line : ContentLine)
      (others : List ContentLine) : Type 0 where
    pub front : List ContentLine
    pub whole : lines ≡ front ++ line ∷ others
    pub taken : AreTaken state front before

  -- the first line that breaks a rule
  pub record IsFirstBroken (state : State) (lines : List ContentLine) (broken : Broken Rule) : Type 0 where
    pub before : State
    pub line : ContentLine
    pub others : List ContentLine
    pub reached : Reaches state lines before line others
    pub breaks : language.next before line.bytes ≡ Err broken.rule
    pub number : line.number ≡ broken.line

  -- the last line is reached, and gives what was read
  pub record ReachesEnd (state : State) (lines : List ContentLine) (read : Read) : Type 0 where
    pub before : State
    pub last : ContentLine
    pub others : List ContentLine
    pub given : Given
    pub reached : Reaches state lines before last others
    pub gives : language.next before last.bytes ≡ Ok given
    pub ended : language.ended given ≡ true
    pub value : language.done (language.state given) last others ≡ read

  -- all lines are taken, and none is the last
  pub record RunsOut (past_end : ℕ) (state : State) (lines : List ContentLine) (gives : Result Read (Broken Rule))
      : Type 0 where
    pub next : State
    pub taken : AreTaken state lines next
    pub out : language.out past_end next ≡ gives

  -- a line is the last, or the first that breaks a rule
  abbrev pub Finds : State → List ContentLine → Result Read (Broken Rule) → Type 0
  Finds state lines (Ok read) = ReachesEnd state lines read
  Finds state lines (Err broken) = IsFirstBroken state lines broken

  -- what lines mean from a state on
  abbrev pub LinesMean : ℕ → State → List ContentLine → Result Read (Broken Rule) → Type 0
  LinesMean past_end state lines gives = Finds state lines gives ⊎ RunsOut past_end state lines gives
