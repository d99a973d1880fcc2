use Rattle.std.proofs.Common.{◌≡◌, ◌≤◌, refl, sym, subst, ◌∙◌}
use Rattle.rc_store.proofs.Imports.{HasOneHistory, closed_seen, closed_again, goes_on_from, journal_again, journal_has_passes, many_back, many_ended, resumed_so, room_again, table_again}
use Rattle.rc_store.proofs.store.Store.resume.Given as given
use Rattle.rc_store.proofs.store.Store.resume.Goals as goal

pub ended_passes-requires-clause-made : goal.ended_passes-requires-clause-made
ended_passes-requires-clause-made g c =
    journal_has_passes (closed_seen c.closed.inside) c.args.closed c.closed.view_is c.closed.invariant c.args.passes c.requires.passes.0 c.deref.result.now c.deref.ensures.value

pub resume-requires : goal.resume-requires
resume-requires g c =
    goes_on_from (closed_seen c.closed.inside) c.args.closed c.closed.view_is c.closed.invariant c.args.passes c.requires.passes.0
    c.deref.result.now c.deref.ensures.value c.ended_passes.result.items c.ended_passes.ensures.counted c.ended_passes.ensures.kept
    c.args.compiled.spec c.requires.further c.requires.passes.1 c.keeping_of-keeping.result c.keeping_of-keeping.ensures
    c.into_kept.result.items c.into_kept.ensures.inverse

pub from_kept-requires-clause-table : goal.from_kept-requires-clause-table
from_kept-requires-clause-table g c =
    table_again (closed_seen c.closed.inside) c.closed.invariant c.in-Err.back.fragments.items c.into_kept.result.items c.in-Err.ensures.err.0 c.into_kept.ensures.inverse

pub journal_of-requires-clause-parts : goal.journal_of-requires-clause-parts
journal_of-requires-clause-parts g c = (
  c.in-Ok.ensures.back.0,
  subst (λ n. n ≤ c.in-Ok.room.back.cap)
      (sym (many_back (closed_seen c.closed.inside) c.args.closed c.closed.view_is c.closed.invariant c.args.passes c.requires.passes.0
      c.deref.result.now c.deref.ensures.value c.ended_passes.result.items c.ended_passes.ensures.counted c.ended_passes.ensures.kept
      c.in-Err.back.passes.items c.in-Err.ensures.err.1 c.in-Ok.room.journal c.in-Ok.ensures.journal))
      c.in-Ok.ensures.back.1,
)

pub journal_of-requires-clause-room : goal.journal_of-requires-clause-room
journal_of-requires-clause-room g c =
    room_again (closed_seen c.closed.inside) c.args.closed c.closed.view_is c.closed.invariant c.args.passes c.requires.passes.0
    c.deref.result.now c.deref.ensures.value c.ended_passes.result.items c.ended_passes.ensures.counted c.ended_passes.ensures.kept
    c.in-Err.back.passes.items c.in-Err.ensures.err.1 c.in-Ok.room.journal c.in-Ok.ensures.journal

again : (g : given.Over) (c : goal.After-journal_of g)
    → closed_seen (record { compiled = c.closed.inside.compiled; instance = c.from_kept.result; journal = c.journal_of.result; made = c.closed.inside.made; history = c.in-Err.back.history })
    ≡ closed_seen c.closed.inside
again g c =
    closed_again (closed_seen c.closed.inside) c.args.closed c.closed.view_is c.closed.invariant c.args.passes c.requires.passes.0
    c.from_kept.result c.journal_of.result c.in-Err.back.history c.into_kept.result.items c.in-Err.back.fragments.items c.into_kept.ensures.inverse c.in-Err.ensures.err.0 c.from_kept.ensures
    (journal_again (closed_seen c.closed.inside) c.args.closed c.closed.view_is c.closed.invariant c.args.passes c.requires.passes.0
    c.deref.result.now c.deref.ensures.value c.ended_passes.result.items c.ended_passes.ensures.counted c.ended_passes.ensures.kept
    c.in-Err.back.passes.items c.in-Err.ensures.err.1 c.in-Ok.room.journal c.in-Ok.ensures.journal c.journal_of.result c.journal_of.ensures.none c.journal_of.ensures.some)
    c.in-Err.ensures.err.2

pub invariant_of-result-in-Err : goal.invariant_of-result-in-Err
invariant_of-result-in-Err g c = subst HasOneHistory (sym (again g c)) c.closed.invariant

pub returns-in-Err-clause-err : goal.returns-in-Err-clause-err
returns-in-Err-clause-err g c = (again g c ∙ c.closed.view_is, refl)

pub returns-in-Ok-resume-clause-passes : goal.returns-in-Ok-resume-clause-passes
returns-in-Ok-resume-clause-passes g c =
    c.in-Ok-resume.ensures.row.0
    ∙ many_ended (closed_seen c.closed.inside) c.args.closed c.closed.view_is c.closed.invariant c.args.passes c.requires.passes.0
    c.deref.result.now c.deref.ensures.value c.ended_passes.result.items c.ended_passes.ensures.counted c.ended_passes.ensures.kept

pub returns-in-Ok-resume-clause-resumed : goal.returns-in-Ok-resume-clause-resumed
returns-in-Ok-resume-clause-resumed g c =
    (resumed_so (closed_seen c.closed.inside) c.args.closed c.closed.view_is c.closed.invariant c.args.passes c.requires.passes.0
    c.deref.result.now c.deref.ensures.value c.ended_passes.result.items c.ended_passes.ensures.counted c.ended_passes.ensures.kept
    (record { row = c.in-Ok-resume.row; limit = c.args.limit }) c.in-Ok-resume.dealt.items c.keeping_of-keeping.result c.keeping_of-keeping.ensures
    c.in-Ok-resume.ensures.row.2 c.in-Ok-resume.ensures.history c.in-Ok-resume.ensures.row.0 c.in-Ok-resume.ensures.passes).0

pub returns-in-Ok-resume-clause-free : goal.returns-in-Ok-resume-clause-free
returns-in-Ok-resume-clause-free g c =
    (resumed_so (closed_seen c.closed.inside) c.args.closed c.closed.view_is c.closed.invariant c.args.passes c.requires.passes.0
    c.deref.result.now c.deref.ensures.value c.ended_passes.result.items c.ended_passes.ensures.counted c.ended_passes.ensures.kept
    (record { row = c.in-Ok-resume.row; limit = c.args.limit }) c.in-Ok-resume.dealt.items c.keeping_of-keeping.result c.keeping_of-keeping.ensures
    c.in-Ok-resume.ensures.row.2 c.in-Ok-resume.ensures.history c.in-Ok-resume.ensures.row.0 c.in-Ok-resume.ensures.passes).1 c.requires.made
