-- Frames, by which callers in other languages ask and are told.
use Rattle.std.specs.Prelude.{◌≡◌, ◌⊎◌, ℕ, ◌<◌, ◌≤◌, ◌==◌, List, [], ◌∷◌, ◌++◌, length, map, drop, if◌then◌else◌}
use Rattle.rc_embed.specs.Imports.{Option, Some, None, IfSome, slice_get, Reply, Rows, Many, Inserted, Present, Conflict, Removed, Updated, Absent, Found, Position}
use Rattle.rc_spec.specs.declared.lock.Found.TheVariants as finds
use Rattle.rc_embed.specs.declared.fault.CallFault.{CallFault}
use Rattle.rc_embed.specs.declared.fault.CallFault.TheVariants as faults
use Rattle.rc_embed.specs.declared.frame.Frame.{Frame}
use Rattle.rc_embed.specs.declared.frame.Page.{Page}
use Rattle.rc_embed.specs.Codes as codes
use Rattle.rc_embed.specs.Asking.{asked_by}
use Rattle.rc_embed.specs.Refused.{HasCallCause, fault_of}
use Rattle.rc_embed.specs.Replies.{AreCopied, rows_told}
use Rattle.rc_embed.specs.Session.{HasCalled, HasCancelled, HasCommitted, HasLearned, HasPrepared}
use Rattle.rc_embed.specs.Session.{HasNoCall, IsIdle, IsUnchanged, IsUnseenBy, SessionSeen}
use Rattle.rc_embed.specs.Session.{replies_of, reply_of, with_picked}

-- the code of a fault
abbrev pub call_code : CallFault → ℕ
call_code faults.Memory = codes.memory
call_code (faults.Busy stripe found) = codes.busy
call_code faults.Spent = codes.spent
call_code faults.UnknownOperation = codes.operation
call_code faults.Values = codes.value_count
call_code faults.Prepared = codes.prepared
call_code faults.Count = codes.count

abbrev pub kind_code : Reply → ℕ
kind_code (Rows rows) = 0
kind_code (Many n) = 1
kind_code Inserted = 2
kind_code Present = 3
kind_code (Conflict n) = 4
kind_code (Removed t) = 5
kind_code Absent = 6
kind_code (Updated t) = 7

-- the number of rows, or of the dependency that would be broken
abbrev pub number_in : Reply → ℕ
number_in (Rows rows) = length rows
number_in (Many n) = n
number_in Inserted = 0
number_in Present = 0
number_in (Conflict n) = n
number_in (Removed t) = 1
number_in (Updated t) = 1
number_in Absent = 0

-- ---- what is told

abbrev pub with_reply : Reply → Frame → Frame
with_reply reply frame = record frame { kind = kind_code reply; number = number_in reply }

-- that of the reply that is picked, where there is one
abbrev pub with_picked_reply : Option Reply → Frame → Frame
with_picked_reply None frame = frame
with_picked_reply (Some reply) frame = with_reply reply frame

-- each frame has the kind and the number of its call's reply
abbrev pub with_replies : List Reply → List Frame → List Frame
with_replies [] frames = frames
with_replies (reply ∷ replies) [] = []
with_replies (reply ∷ replies) (frame ∷ frames) = with_reply reply frame ∷ with_replies replies frames

abbrev pub with_place : Position → Frame → Frame
with_place at frame = record frame { place = at.place; nth = at.nth }

abbrev pub with_found : Found → Frame → Frame
with_found (finds.Pass k) frame = record frame { found = 0; who = k }
with_found (finds.Readers n) frame = record frame { found = 1; who = n }
with_found (finds.Latch k) frame = record frame { found = 2; who = k }

-- the stripe that was busy, and what was found there
abbrev pub with_fault : CallFault → Frame → Frame
with_fault faults.Memory frame = frame
with_fault (faults.Busy stripe found) frame = with_found found (record frame { stripe = stripe })
with_fault faults.Spent frame = frame
with_fault faults.UnknownOperation frame = frame
with_fault faults.Values frame = frame
with_fault faults.Prepared frame = frame
with_fault faults.Count frame = frame

-- of several frames the first is told
abbrev pub with_fault_first : CallFault → List Frame → List Frame
with_fault_first fault [] = []
with_fault_first fault (frame ∷ frames) = with_fault fault frame ∷ frames

-- ---- what calls by frames answer

-- there is a reply for each frame, which has its kind and its number, and is the same in all else
pub record HaveReplies (session : SessionSeen) (before after : List Frame) : Type 0 where
  pub count : length (replies_of session) ≡ length before
  pub same : after ≡ with_replies (replies_of session) before

-- calls were refused with a fault for a cause, and nothing changed; the first frame tells what was
-- in the way
pub record AreRefused (old : SessionSeen) (before : List Frame)
    (new : SessionSeen) (after : List Frame) (code : ℕ) : Type 0 where
  pub fault : CallFault
  pub code_is : code ≡ call_code fault
  pub cause : HasCallCause old new (map asked_by before) fault
  pub unchanged : IsUnchanged old new
  pub told : after ≡ with_fault_first fault before

-- What is so of calls that are asked for as one, whether they are made or prepared. Those that have
-- a fault of their own are refused for it, before their values are read: session and frames are the
-- same. Any others are made, or refused for what stood in their way.
pub record AnswersAsked (MadeSo : Type 0)
    (old : SessionSeen) (before : List Frame) (new : SessionSeen) (after : List Frame) (code : ℕ)
    : Type 0 where
  pub store : new.store ≡ old.store
  pub exact : IfSome (fault_of old (map asked_by before))
      (λ fault. (code ≡ call_code fault) × (new ≡ old) × (after ≡ before))
  pub made : code ≡ codes.done → MadeSo
  pub refused : fault_of old (map asked_by before) ≡ None
      → (code ≡ codes.done → ⊥) → AreRefused old before new after code

-- The calls that the frames ask for are made as one, at the place that each frame tells, with the
-- replies that they tell.
abbrev pub AnswersGroup : SessionSeen → List Frame → SessionSeen → List Frame → ℕ → Type 0
AnswersGroup old before new after code =
    AnswersAsked
    ((at : Position) × HasCalled old (map asked_by before) new at
    × HaveReplies new (map (with_place at) before) after)
    old before new after code

-- The calls that the frames ask for are prepared as one, with the replies that they tell.
abbrev pub AnswersBeginGroup : SessionSeen → List Frame → SessionSeen → List Frame → ℕ → Type 0
AnswersBeginGroup old before new after code =
    AnswersAsked
    (HasPrepared old (map asked_by before) new × HaveReplies new before after)
    old before new after code

-- so of one call
abbrev pub AnswersCall : SessionSeen → Frame → SessionSeen → Frame → ℕ → Type 0
AnswersCall old before new after code = AnswersGroup old (before ∷ []) new (after ∷ []) code

abbrev pub AnswersBegin : SessionSeen → Frame → SessionSeen → Frame → ℕ → Type 0
AnswersBegin old before new after code = AnswersBeginGroup old (before ∷ []) new (after ∷ []) code

-- the frame has the place, and the kind and the number of the reply that is picked, and is the same
-- in all else
pub record HasTold (session : SessionSeen) (at : Position) (before after : Frame) : Type 0 where
  pub reply : Reply
  pub picked : reply_of session ≡ Some reply
  pub same : after ≡ with_reply reply (with_place at before)

-- The uncommitted calls are made, at the place that the frame tells, with the reply to the first of
-- them; or a group is open that has made none, and is cancelled; or nothing is prepared, and no group
-- open.
pub record AnswersCommit (old : SessionSeen) (before : Frame)
    (new : SessionSeen) (after : Frame) (code : ℕ) : Type 0 where
  pub store : new.store ≡ old.store
  pub made : code ≡ codes.done → (at : Position) × HasCommitted old new at × HasTold new at before after
  pub none : code ≡ codes.no_call → HasNoCall old.state × HasCancelled old new × (after ≡ before)
  pub refused : (code ≡ codes.done → ⊥) → (code ≡ codes.no_call → ⊥)
      → (code ≡ codes.not_prepared) × IsIdle old.state × (new ≡ old) × (after ≡ before)

-- the reply to the call is picked, by its number, counted from 0; or there is none
pub record AnswersPick (old : SessionSeen) (frame : Frame) (new : SessionSeen) (code : ℕ) : Type 0 where
  pub picked : frame.row < length (replies_of old) → (code ≡ codes.done) × (new ≡ with_picked frame.row old)
  pub none : length (replies_of old) ≤ frame.row → (code ≡ codes.no_row) × (new ≡ old)

-- The uncommitted calls are not made; or nothing is prepared, and no group open.
pub record AnswersCancel (old new : SessionSeen) (code : ℕ) : Type 0 where
  pub store : new.store ≡ old.store
  pub cancelled : code ≡ codes.done → HasCancelled old new
  pub refused : (code ≡ codes.done → ⊥)
      → (code ≡ codes.not_prepared) × IsIdle old.state × (new ≡ old)

-- a session learns nothing: something is prepared or open, or the history isn't as long as what was told
abbrev pub IsUntaught : SessionSeen → Frame → SessionSeen → ℕ → Type 0
IsUntaught old before new code =
    ((code ≡ codes.prepared) × (IsIdle old.state → ⊥) × (new ≡ old))
    ⊎ ((code ≡ codes.unseen) × IsUnseenBy old before.seen new)

abbrev pub with_seen : ℕ → Frame → Frame
with_seen seen frame = record frame { seen = seen }

-- The session has learned what the frame told, and the frame what the session has seen.
pub record AnswersLearn (old : SessionSeen) (before : Frame)
    (new : SessionSeen) (after : Frame) (code : ℕ) : Type 0 where
  pub store : new.store ≡ old.store
  pub learned : code ≡ codes.done
      → HasLearned old before.seen new after.seen × (after ≡ with_seen after.seen before)
  pub refused : (code ≡ codes.done → ⊥) → IsUntaught old before new code × (after ≡ before)

-- the row stands over the frame's first cells
abbrev pub with_row : List ℕ → Frame → Frame
with_row row frame =
    record frame { width = length row; cells = row ++ drop (length row) frame.cells }

-- the row was told; there is none, or the frame has no room for it
abbrev pub IsRowTold : Option (List ℕ) → Frame → Frame → ℕ → Type 0
IsRowTold None before after code = (code ≡ codes.no_row) × (after ≡ before)
IsRowTold (Some row) before after code =
    (length row ≤ 32 → (code ≡ codes.done) × (after ≡ with_row row before))
    × (32 < length row → (code ≡ codes.no_row) × (after ≡ before))

-- the row of the session's reply that the frame asks for
abbrev pub AnswersRow : SessionSeen → Frame → Frame → ℕ → Type 0
AnswersRow session before after code =
    IsRowTold (slice_get (rows_told (reply_of session)) before.row) before after code

-- where no row was copied, there is none from that one on, or no room for it
abbrev pub rows_code : ℕ → ℕ
rows_code count = if count == 0 then codes.no_row else codes.done

-- The rows of the session's reply from the one on that the page asks for stand over its first
-- cells, one behind the other, as many as there is room for, and it tells how many.
pub record AnswersRows (session : SessionSeen) (before after : Page) (code : ℕ) : Type 0 where
  pub asked : after.row ≡ before.row
  pub rows : AreCopied (drop before.row (rows_told (reply_of session))) before.cells after.cells
      after.rows
  pub code_is : code ≡ rows_code after.rows
