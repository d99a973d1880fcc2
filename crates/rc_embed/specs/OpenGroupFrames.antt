-- Frames, by which groups are opened and asked for their calls.
use Rattle.std.specs.Prelude.{◌≡◌, ℕ, List, map, Some, None, IfSome}
use Rattle.rc_spec.specs.declared.call.Reply.{Reply}
use Rattle.rc_embed.specs.declared.fault.CallFault.{CallFault}
use Rattle.rc_embed.specs.declared.fault.OpenCallFault.{OpenCallFault}
use Rattle.rc_embed.specs.declared.fault.OpenCallFault.TheVariants as faults
use Rattle.rc_embed.specs.declared.frame.Frame.{Frame}
use Rattle.rc_embed.specs.Codes as codes
use Rattle.rc_embed.specs.Asking.{asked_by}
use Rattle.rc_embed.specs.Declaring.{declared_fault_of}
use Rattle.rc_embed.specs.Frames.{call_code, with_fault_first, with_reply}
use Rattle.rc_embed.specs.OpenGroups.{HasCalledOpen, HasDeclaredCause, HasOpenCause, HasOpenedGroup, IsLeftBy, open_fault_of}
use Rattle.rc_embed.specs.Session.{IsUnchanged, SessionSeen, reply_of}

-- the code of a fault
abbrev pub open_call_code : OpenCallFault → ℕ
open_call_code faults.NotOpen = codes.not_open
open_call_code faults.UnknownOperation = codes.operation
open_call_code faults.Values = codes.value_count
open_call_code faults.Full = codes.count
open_call_code faults.Uncovered = codes.uncovered
open_call_code faults.Memory = codes.memory

-- a group was not opened, with a fault for a cause, and nothing changed; the first frame tells what was in the way
pub record IsNotOpened (old : SessionSeen) (before : List Frame)
    (new : SessionSeen) (after : List Frame) (code : ℕ) : Type 0 where
  pub fault : CallFault
  pub code_is : code ≡ call_code fault
  pub cause : HasDeclaredCause old new (map asked_by before) fault
  pub unchanged : IsUnchanged old new
  pub told : after ≡ with_fault_first fault before

-- A group is opened over what the frames declare. What has a fault of its own is refused for it, before the values are
-- read: session and frames are the same. Else it is opened, and the frames are the same, or refused for what stood in
-- the way.
pub record AnswersOpenGroup (old : SessionSeen) (before : List Frame)
    (new : SessionSeen) (after : List Frame) (code : ℕ) : Type 0 where
  pub store : new.store ≡ old.store
  pub exact : IfSome (declared_fault_of old (map asked_by before))
      (λ fault. (code ≡ call_code fault) × (new ≡ old) × (after ≡ before))
  pub opened : code ≡ codes.done
      → HasOpenedGroup old (map asked_by before) new × (after ≡ before)
  pub refused : declared_fault_of old (map asked_by before) ≡ None
      → (code ≡ codes.done → ⊥) → IsNotOpened old before new after code

-- the frame has the kind and the number of the reply that is picked, and is the same in all else
pub record HasToldReply (session : SessionSeen) (before after : Frame) : Type 0 where
  pub reply : Reply
  pub picked : reply_of session ≡ Some reply
  pub same : after ≡ with_reply reply before

-- a call of an open group was refused, with a fault for a cause, which left the session so, and the frame the same
pub record IsNotCalled (old : SessionSeen) (before : Frame)
    (new : SessionSeen) (after : Frame) (code : ℕ) : Type 0 where
  pub fault : OpenCallFault
  pub code_is : code ≡ open_call_code fault
  pub cause : HasOpenCause old new (asked_by before) fault
  pub left : IsLeftBy old new fault
  pub same : after ≡ before

-- The open group makes the call that the frame asks for, with the reply that the frame tells. A call that has a fault of
-- its own is refused for it, before its values are read: session and frame are the same.
pub record AnswersCallOpen (old : SessionSeen) (before : Frame)
    (new : SessionSeen) (after : Frame) (code : ℕ) : Type 0 where
  pub store : new.store ≡ old.store
  pub exact : IfSome (open_fault_of old (asked_by before))
      (λ fault. (code ≡ open_call_code fault) × (new ≡ old) × (after ≡ before))
  pub made : code ≡ codes.done
      → HasCalledOpen old (asked_by before) new × HasToldReply new before after
  pub refused : open_fault_of old (asked_by before) ≡ None
      → (code ≡ codes.done → ⊥) → IsNotCalled old before new after code
