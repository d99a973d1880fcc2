-- What Apply asks of held stripes, and what it does to them.
use Rattle.std.specs.Prelude.{◌≡◌, List, [], ◌∷◌, None, Option, Some, map}
use Rattle.rc_machine.specs.Imports.{In, Pairs, cols_of, Reply, Absent, Inserted, Removed, Updated, OpKind, Query, Insert, Remove, Update, Spec, all_columns, lowered, raised, edge_numbers, HeldStripe, reverted}
use Rattle.rc_machine.specs.Apply.{AreAddable, AreAllCounted, AreAllThere, AreExclusive, all_changed}

-- the rows of each stripe are counted, and the tuple's can be added
pub record CanInsert (spec : Spec) (t : Pairs) (held : List HeldStripe) : Type 0 where
  pub counted : AreAllCounted held
  pub whole : cols_of t ≡ all_columns spec
  pub exclusive : AreExclusive spec t held
  pub addable : AreAddable spec t held

-- the rows of each stripe are counted, and the tuple's can be taken out
pub record CanRemove (spec : Spec) (t : Pairs) (held : List HeldStripe) : Type 0 where
  pub counted : AreAllCounted held
  pub whole : cols_of t ≡ all_columns spec
  pub exclusive : AreExclusive spec t held
  pub there : AreAllThere spec t held

-- the rows of the old tuple can be taken out, and then the new one's be added
pub record CanReplace (spec : Spec) (o t : Pairs) (held : List HeldStripe) : Type 0 where
  pub out : CanRemove spec o held
  pub put : CanInsert spec t (all_changed lowered spec o (edge_numbers spec) held)

abbrev pub CanApply : Spec → OpKind → Pairs → Option Pairs → List Pairs → List HeldStripe → Type 0
CanApply spec (Query outs ranges) t old bs held = ⊥
CanApply spec Insert t old bs held = CanInsert spec t held
CanApply spec Remove t old bs held = (b : Pairs) → In b bs → CanRemove spec b held
CanApply spec Update t old bs held = (o : Pairs) → old ≡ Some o → CanReplace spec o t held

-- the rows of the least of the bindings are out, if there is one
abbrev pub HasRemoved : Spec → List Pairs → List HeldStripe → List HeldStripe → Reply → Type 0
HasRemoved spec [] before after answer = (answer ≡ Absent) × (after ≡ before)
HasRemoved spec (b ∷ bs) before after answer = (answer ≡ Removed b) × (after ≡ all_changed lowered spec b (edge_numbers spec) before)

-- the old tuple's rows are out, and the new one's are added
abbrev pub replaced_in : Spec → Pairs → Pairs → List HeldStripe → List HeldStripe
replaced_in spec o t held = all_changed raised spec t (edge_numbers spec) (all_changed lowered spec o (edge_numbers spec) held)

-- so it is, if there is an old tuple
abbrev pub HasReplaced : Spec → Pairs → Option Pairs → List HeldStripe → List HeldStripe → Reply → Type 0
HasReplaced spec t None before after answer = (answer ≡ Absent) × (after ≡ before)
HasReplaced spec t (Some o) before after answer = (answer ≡ Updated o) × (after ≡ replaced_in spec o t before)

abbrev pub HasApplied : Spec → OpKind → Pairs → Option Pairs → List Pairs → List HeldStripe → List HeldStripe → Reply → Type 0
HasApplied spec (Query outs ranges) t old bs before after answer = ⊥
HasApplied spec Insert t old bs before after answer = (answer ≡ Inserted) × (after ≡ all_changed raised spec t (edge_numbers spec) before)
HasApplied spec Remove t old bs before after answer = HasRemoved spec bs before after answer
HasApplied spec Update t old bs before after answer = HasReplaced spec t old before after answer

-- what Apply may have done where memory was wanted: the stripes as taken are what they were
abbrev pub AreTakenAlike : List HeldStripe → List HeldStripe → Type 0
AreTakenAlike old new = map reverted new ≡ map reverted old
