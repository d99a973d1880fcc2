-- How the views of seats are cut and put together.
use Rattle.std.specs.Prelude.{List, [], ◌∷◌, ◌++◌}
use Rattle.rc_row.specs.declared.law.Standing.{Standing}
use Rattle.rc_row.specs.declared.law.View.{View}
use Rattle.rc_row.specs.Law.{pass_view, note_view, standing_of}
use Rattle.rc_row.specs.Standings.{after_learn}

abbrev pub after_first : List Standing → List Standing
after_first [] = []
after_first (s ∷ passes) = passes

-- the opener's view without its first pass, which gets a seat of its own
abbrev pub undealt : View → View
undealt v = record v { passes = after_first v.passes }

abbrev pub dealt : View → View
dealt v = pass_view (standing_of v)

-- a note of what a pass has seen
abbrev pub noted : View → View
noted v = note_view (standing_of v).core.seen (standing_of v).known

-- a pass that learns what a note tells
abbrev pub informed : View → View → View
informed v w = pass_view (after_learn w.told w.known (standing_of v))

-- the passes of two seats at one, at the end
abbrev pub gathered : View → View → View
gathered v w = record v { passes = v.passes ++ w.passes }

-- what the seat is left with that was joined away
abbrev pub spent : View
spent = note_view 0 []
