use Rattle.rc_answer.proofs.Imports.{subst, IsFirstBroken, refused_not_accepted, IfHandedBack, AcceptFault}
use Rattle.rc_answer.proofs.summing.accepted_sample.Goals as goal

pub unreachable-requires : goal.unreachable-requires
unreachable-requires c =
    refused_not_accepted c.in_ok-sample.sample c.in-Err-Refused.field-0-1
    (subst (λ (fault : AcceptFault). IfHandedBack (λ back refusal. IsFirstBroken c.in_ok-sample.sample refusal) fault) c.in-Err-Refused.field-0-is c.in-Err-Refused.ensures.first)
    c.in_ok-sample.ensures.accepted
