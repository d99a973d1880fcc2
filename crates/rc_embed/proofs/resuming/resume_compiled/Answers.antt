use Rattle.std.proofs.Common.{ap, ◌∙◌}
use Rattle.rc_store.specs.Resumed.{keeping_of}
use Rattle.rc_embed.proofs.resuming.resume_compiled.Goals as goal

pub returns-in-Ok-resume-clause-resumed : goal.returns-in-Ok-resume-clause-resumed
returns-in-Ok-resume-clause-resumed c =
    let resumed = c.in-Ok-resume.ensures in
    record {
      made = record {
        compiled_is = resumed.compiled;
        accepted = record { sealed = c.accepted.ensures.sealed; planned = c.accepted.ensures.planned };
        counts = resumed.keeping ∙ ap keeping_of c.requires.counts;
        number = resumed.passes;
        limit = resumed.limit;
        seed = resumed.seed;
      };
      resumed = resumed.resumed;
      all = resumed.free.idle.numbers;
    }
