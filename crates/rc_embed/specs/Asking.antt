-- The calls that the values of this crate ask for, and what they declare.
use Rattle.std.specs.Prelude.{List, map, take}
use Rattle.rc_embed.specs.declared.declaring.Declared.{Declared}
use Rattle.rc_embed.specs.declared.frame.Frame.{Frame}
use Rattle.rc_embed.specs.declared.group.Asked.{Asked}
use Rattle.rc_embed.specs.Asked.{AskedCall, asked_with}

-- that of a group's call
abbrev pub asked_call : Asked → AskedCall
asked_call asked = asked_with asked.op asked.values.now

abbrev pub asked_calls : List Asked → List AskedCall
asked_calls asked = map asked_call asked

-- what is declared of an operation
abbrev pub declared_as : Declared → AskedCall
declared_as declared = asked_with declared.op declared.values.now

abbrev pub all_declared : List Declared → List AskedCall
all_declared declared = map declared_as declared

-- that of a frame
abbrev pub asked_by : Frame → AskedCall
asked_by frame = record { op = frame.op; count = frame.count; values = take frame.count frame.values }
