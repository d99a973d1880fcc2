-- How the lines of a language are read by code, told by what reading a line does.
use Rattle.std.specs.Prelude.{◌≡◌, ℕ, Bool, true, false, List, [], ◌∷◌, ◌++◌, Option, Some, None, Result, Ok, Err}
use Rattle.rc_text.specs.Lines.{ContentLine, content_of}
use Rattle.rc_text.specs.declared.language.Unread.{Unread}
use Rattle.rc_text.specs.declared.lines.Line.{Line}

-- `reads`: a line is read from one state to another, and is the last that is read, or not
module _ {State : Type 0} (reads : State → List ℕ → Bool → State → Type 0) where
  -- lines that are read, from a state to another, and none is the last
  abbrev pub AreRead : State → List ContentLine → State → Type 0
  AreRead state [] next = state ≡ next
  AreRead state (line ∷ lines) next = (between : State) × reads state line.bytes false between × AreRead between lines next

  -- the lines before a line are read, and leave a state
  pub record Comes (state : State) (lines : List ContentLine) (before : State) (line : ContentLine)
      (others : List ContentLine) : Type 0 where
    pub front : List ContentLine
    pub whole : lines ≡ front ++ line ∷ others
    pub read : AreRead state front before

  -- the last line is read
  pub record ReadsLast (state : State) (lines : List ContentLine) (last : ContentLine) (others : List ContentLine)
      (next : State) : Type 0 where
    pub before : State
    pub comes : Comes state lines before last others
    pub ends : reads before last.bytes true next

  module _ {Fault : Type 0} (fails : State → List ℕ → Fault → Type 0) where
    -- a line is not read
    pub record Stops (state : State) (lines : List ContentLine) (unread : Unread Fault) : Type 0 where
      pub before : State
      pub line : ContentLine
      pub others : List ContentLine
      pub comes : Comes state lines before line others
      pub stops : fails before line.bytes unread.fault
      pub number : line.number ≡ unread.line

    -- what reading lines answers: the last line, none where they run out, or why a line is not read
    abbrev pub Reads : State → List ContentLine → Result (Option Line) (Unread Fault) → State → List ContentLine → Type 0
    Reads state lines (Ok (Some line)) next others = ReadsLast state lines (content_of line) others next
    Reads state lines (Ok None) next others = AreRead state lines next
    Reads state lines (Err unread) next others = Stops state lines unread
