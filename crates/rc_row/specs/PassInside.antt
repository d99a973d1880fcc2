-- What a pass keeps.
use Rattle.std.specs.Prelude.{◌≡◌, ℕ, ◌+◌, ◌*◌, ◌<◌, ◌≤◌, List, length, Option, Some, None, vec_capacity}
use Rattle.rc_row.specs.Imports.{nat_cmp, IsRising, Placed, PartEntries, stripes_in, Me}
use Rattle.rc_row.specs.declared.law.View.{View}
use Rattle.rc_row.specs.declared.pass.Pass.TheInside.{Inside}
use Rattle.rc_row.specs.HeldRows.{HeldRows}
use Rattle.rc_row.specs.Law.{Slot, standing_of, pass_view}
use Rattle.rc_row.specs.Own.{hands_out}
use Rattle.rc_row.specs.Told.{passes_in}
use Rattle.rc_row.specs.Passes.{PassSeen, holds_taken}

-- a pass and its seat agree
pub record Agrees (number : ℕ) (me : Me Slot View) (held : List HeldRows) : Type 0 where
  pub view_is : me.0 ≡ pass_view (standing_of me.0)
  pub number_is : number ≡ (standing_of me.0).core.number
  pub small : number < 255
  pub ahead : (standing_of me.0).core.turning ≡ None
  pub taken : holds_taken held ≡ (standing_of me.0).core.held
  pub rising : IsRising nat_cmp (stripes_in (standing_of me.0).core.held)

-- the entries that are kept are the pass's own
abbrev pub AreOwnKept : Option PartEntries → List Placed → Type 0
AreOwnKept None own = Unit {0}
AreOwnKept (Some part) own = part.list ≡ own

abbrev pub pass_seen : Inside → PassSeen
pass_seen a = record { table = a.seat.table_id; standing = standing_of a.seat.me.0; held = a.held.items; kept = a.entries }

-- A pass's own numbers are those of its view, it has the slots out that belong to what it holds, its entries are its own, and there is room
-- for a fragment of each stripe.
pub record IsWholePass (a : Inside) : Type 0 where
  pub agrees : Agrees a.number a.seat.me a.held.items
  pub hands_are : a.seat.me.1 ≡ hands_out (passes_in a.seat.table_id.slots) a.number a.held.items
  pub seen : a.seen ≡ (standing_of a.seat.me.0).core.seen
  pub made : a.made ≡ length (standing_of a.seat.me.0).core.own
  pub entries : AreOwnKept a.entries (standing_of a.seat.me.0).core.own
  pub room : a.seat.table_id.words ≤ 16 * vec_capacity a.held + 8
