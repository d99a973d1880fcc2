-- One line more in front of lines that are read.
use Rattle.std.proofs.Common.{◌≡◌, ℕ, Bool, true, false, List, [], ◌∷◌, Option, Some, None, Result, Ok, Err, refl, ap}
use Rattle.rc_text.specs.Lines.{ContentLine, content_of}
use Rattle.rc_text.specs.Reads.{Comes, Reads}
use Rattle.rc_text.specs.declared.language.Unread.{Unread}
use Rattle.rc_text.specs.declared.lines.Line.{Line}

module _ {State Fault : Type 0} (reads : State → List ℕ → Bool → State → Type 0) (fails : State → List ℕ → Fault → Type 0)
  where
    pub here : (state : State) (line : ContentLine) (others : List ContentLine) → Comes reads state (line ∷ others) state line others
    here state line others = record { front = []; whole = refl; read = refl }

    comes-more : (state between : State) (first : ContentLine) (lines : List ContentLine) (before : State)
        (line : ContentLine) (others : List ContentLine) → reads state first.bytes false between
        → Comes reads between lines before line others → Comes reads state (first ∷ lines) before line others
    comes-more state between first lines before line others e comes = record {
      front = first ∷ comes.front;
      whole = ap (λ (xs : List ContentLine). first ∷ xs) comes.whole;
      read = (between, e, comes.read);
    }

    pub reads-more : (state between : State) (first : ContentLine) (lines : List ContentLine)
        (answer : Result (Option Line) (Unread Fault)) (next : State) (others : List ContentLine)
        → reads state first.bytes false between → Reads reads fails between lines answer next others
        → Reads reads fails state (first ∷ lines) answer next others
    reads-more state between first lines (Ok (Some line)) next others e read = record {
      before = read.before;
      comes = comes-more state between first lines read.before (content_of line) others e read.comes;
      ends = read.ends;
    }
    reads-more state between first lines (Ok None) next others e read = (between, e, read)
    reads-more state between first lines (Err unread) next others e read = record {
      before = read.before;
      line = read.line;
      others = read.others;
      comes = comes-more state between first lines read.before read.line read.others e read.comes;
      stops = read.stops;
      number = read.number;
    }

    -- the last line, at once
    pub last_here : (state : State) (lines : List ContentLine) (line : Line) (others : List ContentLine) (ended : Bool)
        (next : State) → lines ≡ content_of line ∷ others → reads state line.bytes.now ended next → ended ≡ true
        → Reads reads fails state lines (Ok (Some line)) next others
    last_here state lines line others ended next lines-are e is-last =
        rw lines-are (record { before = state; comes = here state (content_of line) others; ends = rw (← is-last) e })

    -- a line that is not read, at once
    pub stops_here : (state : State) (lines : List ContentLine) (line : Line) (others : List ContentLine) (fault : Fault)
        (next : State) (left : List ContentLine) → lines ≡ content_of line ∷ others → fails state line.bytes.now fault
        → Reads reads fails state lines (Err (record { fault = fault; line = line.number })) next left
    stops_here state lines line others fault next left lines-are e =
        rw lines-are (record {
          before = state;
          line = content_of line;
          others = others;
          comes = here state (content_of line) others;
          stops = e;
          number = refl;
        })
