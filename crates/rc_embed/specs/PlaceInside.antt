-- What the place of a closed store keeps.
use Rattle.std.specs.Prelude.{◌≡◌, None, IfSome}
use Rattle.rc_embed.specs.declared.resume_frame.ClosedPlace.TheInside.{Inside}

-- the closed store, where there is one, kept no entries
abbrev pub keeps_none : Inside → Type 0
keeps_none a = IfSome a.closed (λ closed. closed.journal ≡ None)
