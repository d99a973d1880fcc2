-- What a session keeps.
use Rattle.std.specs.Arc.{arc_value}
use Rattle.rc_embed.specs.declared.session.Session.TheInside.{Inside}
use Rattle.rc_embed.specs.Session.{IsStateOf, SessionSeen, replies_given}

abbrev pub session_seen : Inside → SessionSeen
session_seen a = record {
  store = arc_value a.shared;
  state = a.state;
  last = replies_given a.last;
  picked = a.picked;
}

abbrev pub IsWholeSession : Inside → Type 0
IsWholeSession a = IsStateOf (arc_value a.shared) a.state
