-- What lines give in a language is what they mean.
use Rattle.std.proofs.Common.{◌≡◌, ℕ, Bool, true, false, cond, List, [], ◌∷◌, ◌++◌, Result, Ok, Err, refl, ap, ◌∙◌, subst, inl, inr}
use Rattle.rc_text.specs.Lines.{ContentLine}
use Rattle.rc_text.specs.Language.{Broken, broken_at, Language, reading_after, reading_from, AreTaken, Reaches, Finds, LinesMean}

module _ {State Given Read Rule : Type 0} (language : Language State Given Read Rule) where
  -- ---- one line

  -- a line that is not the last: the others go on from the state that it left
  pub goes_on : (past_end : ℕ) (state : State) (lines : List ContentLine) (line : ContentLine) (others : List ContentLine)
      (given : Given) → lines ≡ line ∷ others → language.next state line.bytes ≡ Ok given → language.ended given ≡ false
      → reading_from language past_end state lines ≡ reading_from language past_end (language.state given) others
  goes_on past_end state lines line others given lines-are gives not-last = rw (lines-are, gives, not-last) refl

  -- the last line
  pub ends : (past_end : ℕ) (state : State) (lines : List ContentLine) (line : ContentLine) (others : List ContentLine)
      (given : Given) → lines ≡ line ∷ others → language.next state line.bytes ≡ Ok given → language.ended given ≡ true
      → reading_from language past_end state lines ≡ Ok (language.done (language.state given) line others)
  ends past_end state lines line others given lines-are gives is-last = rw (lines-are, gives, is-last) refl

  -- a line that breaks a rule
  pub breaks : (past_end : ℕ) (state : State) (lines : List ContentLine) (line : ContentLine) (others : List ContentLine)
      (rule : Rule) → lines ≡ line ∷ others → language.next state line.bytes ≡ Err rule
      → reading_from language past_end state lines ≡ broken_at rule line.number
  breaks past_end state lines line others rule lines-are gives = rw (lines-are, gives) refl

  -- no line is left
  pub runs_out : (past_end : ℕ) (state : State) (lines : List ContentLine) → lines ≡ []
      → reading_from language past_end state lines ≡ language.out past_end state
  runs_out past_end state lines lines-are = rw lines-are refl

  -- ---- what reading gives is what the lines mean

  here : (state : State) (line : ContentLine) (others : List ContentLine)
      → Reaches language state (line ∷ others) state line others
  here state line others = record { front = []; whole = refl; taken = refl }

  -- one line more in front, which is taken
  module _ (state : State) (first : ContentLine) (lines : List ContentLine) (given : Given)
      (e : language.next state first.bytes ≡ Ok given) (going : language.ended given ≡ false) where
    reaches-more : (before : State) (line : ContentLine) (others : List ContentLine)
        → Reaches language (language.state given) lines before line others
        → Reaches language state (first ∷ lines) before line others
    reaches-more before line others reached = record {
      front = first ∷ reached.front;
      whole = ap (λ (xs : List ContentLine). first ∷ xs) reached.whole;
      taken = (given, e, going, reached.taken);
    }

    finds-more : (gives : Result Read (Broken Rule)) → Finds language (language.state given) lines gives
        → Finds language state (first ∷ lines) gives
    finds-more (Ok read) found = record {
      before = found.before;
      last = found.last;
      others = found.others;
      given = found.given;
      reached = reaches-more found.before found.last found.others found.reached;
      gives = found.gives;
      ended = found.ended;
      value = found.value;
    }
    finds-more (Err broken) found = record {
      before = found.before;
      line = found.line;
      others = found.others;
      reached = reaches-more found.before found.line found.others found.reached;
      breaks = found.breaks;
      number = found.number;
    }

    means-more : (past_end : ℕ) (gives : Result Read (Broken Rule))
        → LinesMean language past_end (language.state given) lines gives
        → LinesMean language past_end state (first ∷ lines) gives
    means-more past_end gives (inl found) = inl (finds-more gives found)
    means-more past_end gives (inr out) =
        inr (record { next = out.next; taken = (given, e, going, out.taken); out = out.out })

  means-given : (past_end : ℕ) (state : State) (line : ContentLine) (others : List ContentLine) (given : Given)
      (ended : Bool) (go_on : State → Result Read (Broken Rule)) → language.next state line.bytes ≡ Ok given
      → language.ended given ≡ ended → ((next : State) → LinesMean language past_end next others (go_on next))
      → LinesMean language past_end state (line ∷ others)
      (cond ended (Ok (language.done (language.state given) line others)) (go_on (language.state given)))
  means-given past_end state line others given true go_on e last means = inl (record {
    before = state;
    last = line;
    others = others;
    given = given;
    reached = here state line others;
    gives = e;
    ended = last;
    value = refl;
  })
  means-given past_end state line others given false go_on e going means =
      means-more state line others given e going past_end (go_on (language.state given)) (means (language.state given))

  -- what a line gives, by cases
  means-line : (past_end : ℕ) (state : State) (line : ContentLine) (others : List ContentLine) (after : Result Given Rule)
      (go_on : State → Result Read (Broken Rule)) → language.next state line.bytes ≡ after
      → ((next : State) → LinesMean language past_end next others (go_on next))
      → LinesMean language past_end state (line ∷ others) (reading_after language after line others go_on)
  means-line past_end state line others (Err rule) go_on e means = inl (record {
    before = state;
    line = line;
    others = others;
    reached = here state line others;
    breaks = e;
    number = refl;
  })
  means-line past_end state line others (Ok given) go_on e means =
      means-given past_end state line others given (language.ended given) go_on e refl means

  pub means-reading : (past_end : ℕ) (state : State) (lines : List ContentLine)
      → LinesMean language past_end state lines (reading_from language past_end state lines)
  means-reading past_end state [] = inr (record { next = state; taken = refl; out = refl })
  means-reading past_end state (line ∷ others) =
      means-line past_end state line others (language.next state line.bytes)
      (λ next. reading_from language past_end next others) refl (λ next. means-reading past_end next others)

  -- ---- what the lines mean is what reading gives

  -- lines that are taken, and the lines behind them
  taken_front : (past_end : ℕ) (state before : State) (front others : List ContentLine)
      → AreTaken language state front before
      → reading_from language past_end state (front ++ others) ≡ reading_from language past_end before others
  taken_front past_end state before [] others e = ap (λ (s : State). reading_from language past_end s others) e
  taken_front past_end state before (line ∷ front) others (given, e, going, taken) =
      goes_on past_end state (line ∷ (front ++ others)) line (front ++ others) given refl e going
      ∙ taken_front past_end (language.state given) before front others taken

  taken_all : (past_end : ℕ) (state next : State) (lines : List ContentLine) → AreTaken language state lines next
      → reading_from language past_end state lines ≡ language.out past_end next
  taken_all past_end state next [] e = ap (language.out past_end) e
  taken_all past_end state next (line ∷ lines) (given, e, going, taken) =
      goes_on past_end state (line ∷ lines) line lines given refl e going
      ∙ taken_all past_end (language.state given) next lines taken

  reached_front : (past_end : ℕ) (state : State) (lines : List ContentLine) (before : State) (line : ContentLine)
      (others : List ContentLine) → Reaches language state lines before line others
      → reading_from language past_end state lines ≡ reading_from language past_end before (line ∷ others)
  reached_front past_end state lines before line others reached =
      ap (λ (xs : List ContentLine). reading_from language past_end state xs) reached.whole
      ∙ taken_front past_end state before reached.front (line ∷ others) reached.taken

  reading-finds : (past_end : ℕ) (state : State) (lines : List ContentLine) (gives : Result Read (Broken Rule))
      → Finds language state lines gives → reading_from language past_end state lines ≡ gives
  reading-finds past_end state lines (Ok read) found =
      reached_front past_end state lines found.before found.last found.others found.reached
      ∙ ends past_end found.before (found.last ∷ found.others) found.last found.others found.given refl found.gives found.ended
      ∙ ap (λ (r : Read). Ok r) found.value
  reading-finds past_end state lines (Err broken) found =
      reached_front past_end state lines found.before found.line found.others found.reached
      ∙ breaks past_end found.before (found.line ∷ found.others) found.line found.others broken.rule refl found.breaks
      ∙ ap (broken_at broken.rule) found.number

  pub reading-means : (past_end : ℕ) (state : State) (lines : List ContentLine) (gives : Result Read (Broken Rule))
      → LinesMean language past_end state lines gives → reading_from language past_end state lines ≡ gives
  reading-means past_end state lines gives (inl found) = reading-finds past_end state lines gives found
  reading-means past_end state lines gives (inr out) = taken_all past_end state out.next lines out.taken ∙ out.out

  -- ---- what each line keeps

  -- a fact of the states that each line leaves true
  abbrev pub Keeps : (State → Type 0) → Type 0
  Keeps P = (state : State) (bytes : List ℕ) (given : Given) → P state → language.next state bytes ≡ Ok given
      → P (language.state given)

  pub taken_keeps : (P : State → Type 0) → Keeps P → (state : State) (lines : List ContentLine) (next : State)
      → AreTaken language state lines next → P state → P next
  taken_keeps P keeps state [] next e h = subst P e h
  taken_keeps P keeps state (line ∷ lines) next (given, e, going, taken) h =
      taken_keeps P keeps (language.state given) lines next taken (keeps state line.bytes given h e)

  -- so has what is read
  pub read_keeps : (P : State → Type 0) (Q : Read → Type 0) → Keeps P
      → ((state : State) (last : ContentLine) (others : List ContentLine) → P state → Q (language.done state last others))
      → ((past_end : ℕ) (state : State) (read : Read) → P state → language.out past_end state ≡ Ok read → Q read)
      → (past_end : ℕ) (state : State) (lines : List ContentLine) (read : Read) → P state
      → reading_from language past_end state lines ≡ Ok read → Q read
  read_keeps P Q keeps at_end at_out past_end state lines read h e =
      elim (subst (LinesMean language past_end state lines) e (means-reading past_end state lines)) [
        | inl found ↦
            let before = taken_keeps P keeps state found.reached.front found.before found.reached.taken h in
            subst Q found.value
            (at_end (language.state found.given) found.last found.others
            (keeps found.before found.last.bytes found.given before found.gives))
        | inr out ↦ at_out past_end out.next read (taken_keeps P keeps state lines out.next out.taken h) out.out
      ]
