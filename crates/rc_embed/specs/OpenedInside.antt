-- What an open store keeps.
use Rattle.std.specs.Prelude.{◌≡◌, ◌≤◌, All, vec_capacity}
use Rattle.rc_store.specs.Store.{IsFree}
use Rattle.rc_embed.specs.declared.opening.OpenStore.TheInside.{Inside}
use Rattle.rc_embed.specs.Holding.{IsHeld, held}
use Rattle.rc_embed.specs.Opened.{OpenSeen}

abbrev pub open_seen : Inside → OpenSeen
open_seen a = record { store = held a.hold; passes = a.passes.items }

-- its passes may make calls; it knows how many the store has, and has room for all of them
pub record IsWholeOpen (a : Inside) : Type 0 where
  pub is_held : IsHeld a.hold
  pub free : All (IsFree (held a.hold)) a.passes.items
  pub count : a.count ≡ (held a.hold).row.key.passes
  pub room : a.count ≤ vec_capacity a.passes
