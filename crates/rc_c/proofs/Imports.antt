-- The names that files of proofs/ take from the crates below, from std and from specs/, passed on from one place.
pub use Rattle.rc_c.specs.Answered.{AnswersSameFrame, AnswersSameOperation, AnswersSamePick, AnswersSamePlans, AnswersSameRow, AnswersSameRows, AnswersSameShape, AnswersSession, lies_again}
pub use Rattle.rc_c.specs.Closing.{AnswersClosed, AnswersResumed, left_behind}
pub use Rattle.rc_c.specs.GivenBack.{AnswersGivenBack}
pub use Rattle.rc_c.specs.HandedOut.{HasOpenedThis, hands_out}
pub use Rattle.rc_c.specs.Telling.{AnswersTold, IsTold}
pub use Rattle.rc_embed.specs.Closing.{HasAllPasses, pass_count}
pub use Rattle.rc_embed.specs.Frames.{AnswersBegin, AnswersBeginGroup, AnswersCall, AnswersCommit, AnswersGroup, AnswersLearn}
pub use Rattle.rc_embed.specs.OpenFrames.{IsOpenedBy, IsOpenedWithBy, IsRefusedBy, IsRefusedWithBy, KeepsAsked}
pub use Rattle.rc_embed.specs.OpenGroupFrames.{AnswersCallOpen, AnswersOpenGroup}
pub use Rattle.rc_embed.specs.Opened.{HasDealt, OpenSeen}
pub use Rattle.rc_embed.specs.OutsideLaws.{some_outside_leave_room}
pub use Rattle.rc_embed.specs.ResumedFrames.{HasClosedInto, IsResumedBy, IsUnclosedFor, IsUnresumedBy, IsUnresumedFrom}
pub use Rattle.rc_embed.specs.ResumedFramesLaws.{isnt_done, open_isnt_done}
pub use Rattle.rc_embed.specs.Session.{HasCancelled, IsIdle, SessionSeen, uncommitted_in}
pub use Rattle.rc_embed.specs.contracts.session.Session.{the_row}
pub use Rattle.rc_embed.specs.declared.fault.OpenFault.TheVariants.{Memory}
pub use Rattle.rc_embed.specs.declared.frame.Frame.{Frame}
pub use Rattle.rc_embed.specs.declared.frame.Page.{Page}
pub use Rattle.rc_embed.specs.declared.open_frame.OpenFrame.{OpenFrame}
pub use Rattle.rc_embed.specs.declared.open_frame.OperationFrame.{OperationFrame}
pub use Rattle.rc_embed.specs.declared.resume_frame.NotClosed.{NotClosed}
pub use Rattle.rc_embed.specs.declared.session.State.{State}
pub use Rattle.rc_embed.specs.declared.shape_frame.ShapeFrame.{ShapeFrame}
pub use Rattle.rc_embed.specs.declared.text_page.TextPage.{TextPage}
pub use Rattle.rc_store.specs.Closed.{ClosedSeen}
pub use Rattle.std.proofs.lemmas.Option.{none-some, same_Some}
pub use Rattle.std.proofs.raw_atomic.Walks.{proved, proved_at}
