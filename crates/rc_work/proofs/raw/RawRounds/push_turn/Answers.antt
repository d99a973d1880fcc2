use Rattle.std.proofs.Common.{ap, ◌∙◌, length, arith}
use Rattle.rc_work.proofs.RawLemmas.{set_last}
use Rattle.rc_work.proofs.raw.RawRounds.push_turn.Goals as goal
use Rattle.rc_work.specs.RawTurns.{onto_last}

pub returns : goal.returns
returns c = set_last _ _ c.index_mut.result.now _ _ (omega (arith, c.requires.begun, ap length c.self.view_is)) c.index_mut.ensures.value c.in_ok-push.ensures.ok ∙ ap (λ rounds. onto_last rounds c.args.turn) c.self.view_is
