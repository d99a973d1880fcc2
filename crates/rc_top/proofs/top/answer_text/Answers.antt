use Rattle.std.proofs.Common.{arith, ap, ◌∙◌, ◌≡◌, ◌≤◌, ◌+◌, ◌^◌, ◌↔◌, ℕ, List, length, sym, subst}
use Rattle.rc_top.proofs.Imports.{IfSome, IsSome, Answers, MakesCalls, also_of, ArePlansFor, HasTextOf, IsOneHistory, status_in, Writes, IsAnswer, HasRead, Ends, status_of, Outcome, Status, Done, Takes, IsCountTaken, ReadFault}
use Rattle.rc_top.proofs.EndLemmas.{all_read, bad_ends_audit, leaves, limit_read, long_ends, read_ends, size_is_not_bad}
use Rattle.rc_top.proofs.RanLemmas.{history_left, left_exactly, none_left, run_left, size_not_done}
use Rattle.rc_top.proofs.CountLemmas.{quiet_runner, quiet_writer}
use Rattle.rc_top.proofs.top.answer_text.Goals as goal

pub returns-in-Ok-clause-answers : goal.returns-in-Ok-clause-answers
returns-in-Ok-clause-answers g c = λ input told.
    let within : length c.in-Ok.text.items ≤ 2 ^ 24 = omega (arith, c.in-Ok.ensures.within, c.deref.ensures.len) in
    let ended : Ends (IsAnswer c.args.command input) (g.K.Sink.held c.args.sink.now) (g.K.Sink.held c.answer.new.sink) (status_of (status_in c.answer.result)) =
    read_ends c.args.command input c.in-Ok.text.items (g.S.Source.left c.args.source.now) (g.S.Source.left c.read_all.new.source)
    (g.K.Sink.held c.args.sink.now) (g.K.Sink.held c.answer.new.sink) (status_in c.answer.result)
    told c.in-Ok.ensures.all.0 c.in-Ok.ensures.all.1 within
    (subst (λ (read : List ℕ). Writes (Answers c.args.command read) (g.K.Sink.held c.args.sink.now) (g.K.Sink.held c.answer.new.sink) (status_in c.answer.result)) c.deref.ensures.value c.answer.ensures.written) in
    subst (λ (status : Status). Ends (IsAnswer c.args.command input) (g.K.Sink.held c.args.sink.now) (g.K.Sink.held c.answer.new.sink) status) (sym c.outcome_of.ensures.status) ended

pub returns-in-Ok-clause-taken : goal.returns-in-Ok-clause-taken
returns-in-Ok-clause-taken g c = λ input told.
    let within : length c.in-Ok.text.items ≤ 2 ^ 24 + 1 = omega (arith, c.in-Ok.ensures.within, c.deref.ensures.len) in
    leaves input c.in-Ok.text.items (g.S.Source.left c.args.source.now) (g.S.Source.left c.read_all.new.source) told
    c.in-Ok.ensures.all.0 (2 ^ 24 + 1) within

pub returns-in-Ok-clause-left : goal.returns-in-Ok-clause-left
returns-in-Ok-clause-left g c = λ input told read.
    let within : length c.in-Ok.text.items ≤ 2 ^ 24 = omega (arith, c.in-Ok.ensures.within, c.deref.ensures.len) in
    all_read input c.in-Ok.text.items (g.S.Source.left c.args.source.now) (g.S.Source.left c.read_all.new.source) told
    c.in-Ok.ensures.all.0 c.in-Ok.ensures.all.1 within

pub returns-in-Ok-clause-has_ran : goal.returns-in-Ok-clause-has_ran
returns-in-Ok-clause-has_ran g c =
    subst (λ (o : Outcome). IsSome o.ran ↔ MakesCalls c.args.command × (o.status ≡ Done)) (λ i. record { status = sym c.outcome_of.ensures.status i; ran = sym c.outcome_of.ensures.ran i })
    (left_exactly c.args.command c.answer.result c.answer.ensures.has_ran)

pub returns-in-Ok-clause-history : goal.returns-in-Ok-clause-history
returns-in-Ok-clause-history g c =
    subst (λ o. IfSome o (IsOneHistory (ArePlansFor c.args.command) (also_of c.args.command))) (sym c.outcome_of.ensures.ran)
    (history_left c.args.command c.deref.result.now (g.K.Sink.held c.args.sink.now) (g.K.Sink.held c.answer.new.sink) c.answer.result c.answer.ensures.ran)

pub returns-in-Ok-clause-report : goal.returns-in-Ok-clause-report
returns-in-Ok-clause-report g c = λ input told.
    let old = g.K.Sink.held c.args.sink.now in
    let new = g.K.Sink.held c.answer.new.sink in
    subst (λ o. IfSome o (HasTextOf c.args.command input old new)) (sym c.outcome_of.ensures.ran)
    (run_left c.args.command c.deref.result.now old new c.answer.result c.answer.ensures.ran input (g.S.Source.left c.args.source.now) (g.S.Source.left c.read_all.new.source)
    told (subst (λ (bytes : List ℕ). Takes (g.S.Source.left c.args.source.now) bytes (g.S.Source.left c.read_all.new.source)) (sym c.deref.ensures.value) c.in-Ok.ensures.all.0) c.in-Ok.ensures.all.1)

pub returns-in-Err-TooLong-clause-answers : goal.returns-in-Err-TooLong-clause-answers
returns-in-Err-TooLong-clause-answers g c = λ input told.
    let (bytes, beyond, taken) = c.in-Err-TooLong.ensures.taken in
    let ended : Ends (IsAnswer c.args.command input) (g.K.Sink.held c.args.sink.now) (g.K.Sink.held c.refuse_size.new.sink) (status_of c.refuse_size.result) =
    long_ends c.args.command input bytes (g.S.Source.left c.args.source.now) (g.S.Source.left c.read_all.new.source)
    (g.K.Sink.held c.args.sink.now) (g.K.Sink.held c.refuse_size.new.sink) c.refuse_size.result
    told taken (subst (λ (fault : ReadFault). IsCountTaken fault (2 ^ 24) (length bytes)) c.in-Err-TooLong.field-0-is beyond) c.refuse_size.ensures.written in
    subst (λ (status : Status). Ends (IsAnswer c.args.command input) (g.K.Sink.held c.args.sink.now) (g.K.Sink.held c.refuse_size.new.sink) status)
    (sym (ap (λ (o : Outcome). o.status) c.without_run.ensures ∙ c.status_of.ensures)) ended

pub returns-in-Err-TooLong-clause-has_ran : goal.returns-in-Err-TooLong-clause-has_ran
returns-in-Err-TooLong-clause-has_ran g c =
    none_left c.without_run.result.ran c.without_run.result.status (ap (λ (o : Outcome). o.ran) c.without_run.ensures)
    (λ e. size_not_done (g.K.Sink.held c.args.sink.now) (g.K.Sink.held c.refuse_size.new.sink) c.refuse_size.result c.refuse_size.ensures.written
    (sym (ap (λ (o : Outcome). o.status) c.without_run.ensures ∙ c.status_of.ensures) ∙ e))

pub returns-in-Err-TooLong-clause-taken : goal.returns-in-Err-TooLong-clause-taken
returns-in-Err-TooLong-clause-taken g c = λ input told.
    let (bytes, beyond, taken) = c.in-Err-TooLong.ensures.taken in
    let many : length bytes ≡ 2 ^ 24 + 1 = subst (λ (fault : ReadFault). IsCountTaken fault (2 ^ 24) (length bytes)) c.in-Err-TooLong.field-0-is beyond in
    leaves input bytes (g.S.Source.left c.args.source.now) (g.S.Source.left c.read_all.new.source) told taken (2 ^ 24 + 1) (omega (arith, many))

pub returns-in-Err-TooLong-clause-left : goal.returns-in-Err-TooLong-clause-left
returns-in-Err-TooLong-clause-left g c = λ input told read.
    let (bytes, beyond, taken) = c.in-Err-TooLong.ensures.taken in
    limit_read input bytes (g.S.Source.left c.args.source.now) (g.S.Source.left c.read_all.new.source) told taken
    (subst (λ (fault : ReadFault). IsCountTaken fault (2 ^ 24) (length bytes)) c.in-Err-TooLong.field-0-is beyond)

pub returns-in-Err-Source-clause-taken : goal.returns-in-Err-Source-clause-taken
returns-in-Err-Source-clause-taken g c = λ input told.
    let (bytes, count, taken) = c.in-Err-Source.ensures.taken in
    let few : length bytes ≤ 2 ^ 24 = subst (λ (fault : ReadFault). IsCountTaken fault (2 ^ 24) (length bytes)) c.in-Err-Source.field-0-is count in
    leaves input bytes (g.S.Source.left c.args.source.now) (g.S.Source.left c.read_all.new.source) told taken (2 ^ 24 + 1) (omega (arith, few))

pub returns-in-Err-Source-clause-left : goal.returns-in-Err-Source-clause-left
returns-in-Err-Source-clause-left g c = λ input told read. absurd (subst (λ (o : Outcome). HasRead o.status) c.without_run-in-Err-Source.ensures read)

pub returns-clause-taken : goal.returns-clause-taken
returns-clause-taken g c = λ input told.
    let (bytes, count, taken) = c.in-Err-Memory.ensures.taken in
    let few : length bytes ≤ 2 ^ 24 = subst (λ (fault : ReadFault). IsCountTaken fault (2 ^ 24) (length bytes)) c.in-Err-Memory.field-0-is count in
    leaves input bytes (g.S.Source.left c.args.source.now) (g.S.Source.left c.read_all.new.source) told taken (2 ^ 24 + 1) (omega (arith, few))

pub returns-clause-left : goal.returns-clause-left
returns-clause-left g c = λ input told read. absurd (subst (λ (o : Outcome). HasRead o.status) c.without_run-in-Err-Memory.ensures read)

pub returns-in-Ok-clause-memory : goal.returns-in-Ok-clause-memory
returns-in-Ok-clause-memory g c = λ is. (
  c.read_all.ensures.quiet (λ e. cc),
  quiet_runner (g.K.Sink.faults c.args.sink.now) (g.K.Sink.faults c.answer.new.sink) c.answer.result c.answer.ensures.faults
      (sym c.outcome_of.ensures.status ∙ is),
)

pub returns-in-Err-TooLong-clause-memory : goal.returns-in-Err-TooLong-clause-memory
returns-in-Err-TooLong-clause-memory g c = λ is. (
  c.read_all.ensures.quiet (λ e. cc),
  quiet_writer (g.K.Sink.faults c.args.sink.now) (g.K.Sink.faults c.refuse_size.new.sink) c.refuse_size.result c.refuse_size.ensures.faults
      (sym (ap (λ (o : Outcome). o.status) c.without_run.ensures ∙ c.status_of.ensures) ∙ is),
)

pub returns-in-Ok-clause-only_audit : goal.returns-in-Ok-clause-only_audit
returns-in-Ok-clause-only_audit g c = λ is.
    bad_ends_audit c.args.command c.deref.result.now (g.K.Sink.held c.args.sink.now) (g.K.Sink.held c.answer.new.sink) (status_in c.answer.result) c.answer.ensures.written
    (sym c.outcome_of.ensures.status ∙ is)

pub returns-in-Err-TooLong-clause-only_audit : goal.returns-in-Err-TooLong-clause-only_audit
returns-in-Err-TooLong-clause-only_audit g c = λ is.
    absurd (size_is_not_bad (g.K.Sink.held c.args.sink.now) (g.K.Sink.held c.refuse_size.new.sink) c.refuse_size.result c.refuse_size.ensures.written
    (sym (ap (λ (o : Outcome). o.status) c.without_run.ensures ∙ c.status_of.ensures) ∙ is))
