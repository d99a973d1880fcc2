-- How a store is closed by its handle, and goes on.
use base.Fml.{Fml, fex, fsep, ftrue}
use denote.RattleType.{RattleType}
use denote.RawPtr.{Ptr, lies_at, room_at}
use Rattle.std.specs.Prelude.{◌≡◌, ℕ, List, Option, Some, None}
use Rattle.std.specs.Borrow.{full_share}
use Rattle.rc_store.specs.Closed.{ClosedSeen}
use Rattle.rc_embed.specs.declared.open_frame.OpenFrame.{OpenFrame}
use Rattle.rc_embed.specs.Closing.{HasAllPasses}
use Rattle.rc_embed.specs.Codes as codes
use Rattle.rc_embed.specs.OpenFrames.{KeepsAsked}
use Rattle.rc_embed.specs.Opened.{OpenSeen}
use Rattle.rc_embed.specs.ResumedFrames.{IsUnclosedFor, IsUnresumedBy}

-- a value of the type lies at the pointer, or there is room for one
abbrev pub left_behind : (T : RattleType) → Ptr → Option T.Denot → Fml
left_behind T pointer None = room_at T pointer
left_behind T pointer (Some after) = lies_at T full_share pointer after

-- so much is left at the pointer, and this is so of it
abbrev pub left_at : (T : RattleType) → Ptr → (Option T.Denot → Type 0) → Fml
left_at T pointer IsSo = fex (Option T.Denot) (λ after. fsep (fex (IsSo after) (λ _. ftrue)) (left_behind T pointer after))

-- All passes of the store were its own, and nothing is left of it at its handle, and it is done; or it is there as it was, and the
-- code tells why. (What the closed store is, says what is handed out: `HasClosedInto`.)
pub record AnswersClosed (old : OpenSeen) (new : Option OpenSeen) (code : ℕ) : Type 0 where
  pub gone : new ≡ None → (code ≡ codes.done) × HasAllPasses old
  pub same : (after : OpenSeen) → new ≡ Some after → (after ≡ old) × IsUnclosedFor old code

-- The place of the closed store is empty, since a store goes on from it, and it is done; or the place is as it was, and the code and
-- the frame tell why. (What goes on, by the texts and as the frame asks, says what is handed out: `IsResumedBy`.)
pub record AnswersResumed (closed : ClosedSeen) (text shapes plans : List ℕ) (before : OpenFrame)
    (new : Option ClosedSeen) (after : OpenFrame) (code : ℕ) : Type 0 where
  pub asked : KeepsAsked before after
  pub resumed : code ≡ codes.done → (new ≡ None) × (after.length ≡ 0)
  pub refused : (code ≡ codes.done → ⊥) → (new ≡ Some closed) × IsUnresumedBy closed text shapes plans before after code
