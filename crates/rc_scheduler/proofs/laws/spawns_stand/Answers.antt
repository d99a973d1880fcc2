use Rattle.std.proofs.Common.{List, [], ◌∷◌, refl, ◌∙◌, subst}
use Rattle.rc_spec.specs.declared.call.Reply.{Reply}
use Rattle.rc_spec.specs.declared.call.Reply.TheVariants.{Inserted}
use Rattle.rc_embed.specs.Asked.{one_call}
use Rattle.rc_embed.specs.Entries.{StandsAt, entries_of}
use Rattle.rc_embed.specs.EntriesLaws.{calls_stand, told_last}
use Rattle.rc_embed.specs.Session.{calls_in}
use Rattle.rc_scheduler.specs.Processes.{process_values}
use Rattle.rc_scheduler.specs.Left.{SpawnsStand}
use Rattle.rc_scheduler.proofs.laws.spawns_stand.Goals as goal

stand : SpawnsStand
stand old new op process h =
    let calls = one_call op (process_values process) in
    subst (λ (replies : List Reply). StandsAt (entries_of new.state) h.at.place (calls_in old calls) replies)
    (told_last new h.called.after h.called.is ∙ h.told.0 refl)
    (calls_stand old new calls h.at h.called)

pub returns : goal.returns
returns c = stand
