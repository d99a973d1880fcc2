-- What the memory of an instance is.
use Rattle.std.specs.Prelude.{◌≡◌, ◌≤◌, [], vec_capacity}
use Rattle.rc_instance.specs.declared.room.InstanceRoom.TheInside.{Inside}

-- room for so many fragments, at most 256, and none yet
pub record IsRoom (a : Inside) : Type 0 where
  pub empty : a.fragments.items ≡ []
  pub enough : a.stripes ≤ vec_capacity a.fragments
  pub few : a.stripes ≤ 256
