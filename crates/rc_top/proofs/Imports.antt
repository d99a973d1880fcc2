-- The names that files of proofs/ take from the crates below, from std and from specs/, passed on from one place.
pub use Rattle.rc_answer.specs.Answers.{Answers, AnswersAlone, AnswersAudit, AnswersByHand, AnswersHands, AnswersOpen, AnswersOpenWork, AnswersPart, AnswersRules, AnswersRun, AnswersWork, AnswersWorkBy, ArePlansFor, IsAcceptedText, IsDrawing, IsPlanDrawingNamed, IsPlanDrawingOrRefusal, IsPlansText, IsSizeRefusal, MakesCalls, also_in, also_of, audit_for, verdict_status, work_in_lines}
pub use Rattle.rc_answer.specs.Big.{HasSummaryText, IsBigText, big_text}
pub use Rattle.rc_answer.specs.Headline.{AuditHeadline, CheckHeadline, HandHeadline, Headline, OpenHeadline}
pub use Rattle.rc_answer.specs.HeadlineLaws.{audit_headline, check_headline, hand_headline, headline, open_headline, refused_plans_fail}
pub use Rattle.rc_answer.specs.Plans.{ArePlanned}
pub use Rattle.rc_answer.specs.Ran.{HasTextOf, IsOneHistory, ran_in, status_in}
pub use Rattle.rc_answer.specs.RanLaws.{summed_is_one_history, text_is_one_history}
pub use Rattle.rc_answer.specs.Writes.{CountsFaults, Writes, WritesWhole}
pub use Rattle.rc_answer.specs.declared.outcome.Outcome.{Outcome}
pub use Rattle.rc_answer.specs.declared.outcome.Ran.{Ran}
pub use Rattle.rc_answer.specs.declared.status.Status.{Status}
pub use Rattle.rc_answer.specs.declared.status.Status.TheVariants.{Bad, Done, OutOfMemory, Refused, SinkFailed, SourceFailed, Usage}
pub use Rattle.rc_answer.specs.declared.status.Stop.{Stop}
pub use Rattle.rc_answer.specs.declared.status.Stop.TheVariants.{Memory, Sink}
pub use Rattle.rc_audit.specs.declared.form.Form.{Form}
pub use Rattle.rc_audit.specs.declared.verdict.Verdict.{Verdict}
pub use Rattle.rc_command.specs.Command.{command_of}
pub use Rattle.rc_command.specs.declared.command.Command.{Command}
pub use Rattle.rc_command.specs.declared.command.Command.TheVariants.{Big, OfText}
pub use Rattle.rc_command.specs.declared.command.TextCommand.{TextCommand}
pub use Rattle.rc_command.specs.declared.command.TextCommand.TheVariants.{Audit, AuditGroup, AuditJournal, Check, Dot, DotPlan, Group, Hand, Open, Plan, Run}
pub use Rattle.rc_handplan.specs.Chosen.{AreChosen}
pub use Rattle.rc_handplan.specs.HandGrammar.{HandReading, hands_reading}
pub use Rattle.rc_io.specs.Bytes.{Adds, AddsPrefix, IsEmpty, Takes}
pub use Rattle.rc_io.specs.BytesLaws.{adds_prefix_none, takes_all, takes_at_most, takes_first}
pub use Rattle.rc_io.specs.Faults.{IsCountTaken}
pub use Rattle.rc_io.specs.declared.source.ReadFault.{ReadFault}
pub use Rattle.rc_plan.specs.declared.statement.Statement.{Statement}
pub use Rattle.rc_reader.specs.Grammar.{Broken, Reading, spec_of, spec_reading}
pub use Rattle.rc_reader.specs.Versions.{version_number}
pub use Rattle.rc_spec.specs.Acceptance.{IsAccepted}
pub use Rattle.rc_spec.specs.AcceptanceLaws.{refused_not_accepted}
pub use Rattle.rc_spec.specs.declared.spec.Spec.{Spec}
pub use Rattle.rc_text.specs.Lines.{past_end_of}
pub use Rattle.rc_top.specs.Answer.{IsAnswer, IsAnswered, IsGoodByHand, IsGoodOpen, IsGoodPart, IsGoodReading, IsGoodReadingByHand, IsGoodReadingOpen, IsGoodReadingUpToEnd, IsGoodSpec, IsGoodSpecWith, IsGoodWork, KeepsRules}
pub use Rattle.rc_top.specs.Asks.{ArePlansAsked, HasRead, LeavesAllBut, also_asked}
pub use Rattle.rc_top.specs.Ends.{Ends, EndsBig, EndsUsage, status_of}
pub use Rattle.rc_work.specs.LineRules.{op_number}
pub use Rattle.rc_work.specs.OpenGrammar.{open_reading}
pub use Rattle.rc_work.specs.PartGrammar.{WorkPart, part_reading}
pub use Rattle.rc_work.specs.Ranking.{work_reading}
pub use Rattle.rc_work.specs.WholeText.{place_after}
pub use Rattle.rc_work.specs.declared.also.Also.{Also}
pub use Rattle.rc_work.specs.declared.also.Also.TheVariants.{Groups, Nothing}
pub use Rattle.rc_work.specs.declared.open_work.OpenWork.{OpenWork}
pub use Rattle.rc_work.specs.declared.work.Work.{Work}
pub use Rattle.std.proofs.Math.ListN.{drop_of_length-le}
pub use Rattle.std.proofs.Math.Seq.{drop-append_seam}
pub use Rattle.std.specs.Prelude.{IfOk, IfSome, IsSome}
