-- What a note keeps.
use Rattle.std.specs.Prelude.{◌≡◌, []}
use Rattle.rc_row.specs.declared.pass.Note.TheInside.{Inside}
use Rattle.rc_row.specs.Law.{note_view}
use Rattle.rc_row.specs.Passes.{NoteSeen}

abbrev pub note_seen : Inside → NoteSeen
note_seen a = record { table = a.seat.table_id; told = a.told; known = a.seat.me.0.known }

pub record IsWholeNote (a : Inside) : Type 0 where
  pub view : a.seat.me.0 ≡ note_view a.told a.seat.me.0.known
  pub hands : a.seat.me.1 ≡ []
