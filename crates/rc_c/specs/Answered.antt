-- What functions on a handle leave of it, beside what they answer.
use base.Fml.{Fml, fex, fsep, ftrue}
use denote.RattleType.{RattleType}
use denote.RawPtr.{Ptr, lies_at}
use Rattle.std.specs.Prelude.{◌≡◌, ◌↔◌, ◌⊎◌, ◌∷◌, [], ℕ}
use Rattle.std.specs.Borrow.{full_share}
use Rattle.rc_row.specs.Passes.{PassSeen, spec_of}
use Rattle.rc_embed.specs.declared.frame.Frame.{Frame}
use Rattle.rc_embed.specs.declared.frame.Page.{Page}
use Rattle.rc_embed.specs.declared.open_frame.OperationFrame.{OperationFrame}
use Rattle.rc_embed.specs.declared.shape_frame.ShapeFrame.{ShapeFrame}
use Rattle.rc_embed.specs.declared.text_page.TextPage.{TextPage}
use Rattle.rc_embed.specs.Codes as codes
use Rattle.rc_embed.specs.Frames.{AnswersCancel, AnswersPick, AnswersRow, AnswersRows}
use Rattle.rc_embed.specs.OpenFrames.{AnswersOperation}
use Rattle.rc_embed.specs.Opened.{OpenSeen}
use Rattle.rc_embed.specs.Session.{SessionSeen}
use Rattle.rc_embed.specs.ShapeFrames.{AnswersShape}
use Rattle.rc_embed.specs.TextPages.{AnswersPlans}

-- a value of the type lies at the pointer again, and this is so of it
abbrev pub lies_again : (T : RattleType) → Ptr → (T.Denot → Type 0) → Fml
lies_again T pointer IsSo =
    fex T.Denot (λ after. fsep (fex (IsSo after) (λ _. ftrue)) (lies_at T full_share pointer after))

-- what is prepared or open is cancelled, and the frame is the same
pub record AnswersSameFrame (old : SessionSeen) (before : Frame)
    (new : SessionSeen) (after : Frame) (code : ℕ) : Type 0 where
  pub same : after ≡ before
  pub cancelled : AnswersCancel old new code

-- the frame is the same, and the reply that it asks for is picked
pub record AnswersSamePick (old : SessionSeen) (before : Frame)
    (new : SessionSeen) (after : Frame) (code : ℕ) : Type 0 where
  pub same : after ≡ before
  pub picked : AnswersPick old before new code

-- the session is the same, and the frame has the row of its reply
pub record AnswersSameRow (old : SessionSeen) (before : Frame)
    (new : SessionSeen) (after : Frame) (code : ℕ) : Type 0 where
  pub same : new ≡ old
  pub row : AnswersRow old before after code

-- the session is the same, and the page has the rows of its reply
pub record AnswersSameRows (old : SessionSeen) (before : Page)
    (new : SessionSeen) (after : Page) (code : ℕ) : Type 0 where
  pub same : new ≡ old
  pub rows : AnswersRows old before after code

-- the store is the same, and the frame tells of the operation
pub record AnswersSameOperation (old : OpenSeen) (before : OperationFrame)
    (new : OpenSeen) (after : OperationFrame) (code : ℕ) : Type 0 where
  pub same : new ≡ old
  pub told : AnswersOperation (spec_of old.store.row) before after code

-- the store is the same, and the frame tells of the operation that asks as its line does
pub record AnswersSameShape (old : OpenSeen) (before : ShapeFrame) (new : OpenSeen) (after : ShapeFrame) (code : ℕ) : Type 0 where
  pub same : new ≡ old
  pub told : AnswersShape (spec_of old.store.row) before after code

-- the store is the same, and the page tells of its plans
pub record AnswersSamePlans (old : OpenSeen) (before : TextPage) (new : OpenSeen) (after : TextPage) (code : ℕ) : Type 0 where
  pub same : new ≡ old
  pub told : AnswersPlans old before after code

-- the store is the same, but for its first pass where a session was begun; or it has none, or
-- memory was wanted
pub record AnswersSession (old new : OpenSeen) (code : ℕ) : Type 0 where
  pub store : new.store ≡ old.store
  pub begun : code ≡ codes.done → (pass : PassSeen) × (old.passes ≡ pass ∷ new.passes)
  pub none : code ≡ codes.none_left ↔ old.passes ≡ []
  pub one_of : (code ≡ codes.done) ⊎ (code ≡ codes.memory) ⊎ (code ≡ codes.none_left)
  pub same : (code ≡ codes.done → ⊥) → new ≡ old
