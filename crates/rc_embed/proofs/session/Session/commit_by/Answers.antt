use Rattle.std.proofs.Common.{IfSome, Option, ap, arith, ◌∙◌, refl, subst}
use Rattle.rc_embed.proofs.Imports.{Reply, Frame, Position, HasCommitted, with_picked_reply, with_reply}
use Rattle.rc_embed.proofs.SessionLemmas.{committed_first}
use Rattle.rc_embed.proofs.session.Session.commit_by.Goals as goal

pub returns-in-Ok-Some : goal.returns-in-Ok-Some
returns-in-Ok-Some c =
    let made : HasCommitted c.args.self.now c.commit.new.self c.in-Ok-Some.at =
    subst (λ (o : Option Position). IfSome o (HasCommitted c.args.self.now c.commit.new.self)) c.in-Ok-Some.field-0-is c.in-Ok-Some.ensures.made in
    let first = committed_first c.args.self.now c.commit.new.self c.in-Ok-Some.at made in
    record {
      store = c.in-Ok-Some.ensures.store;
      made = λ _. (
        c.in-Ok-Some.at,
        made,
        record {
          reply = first.0;
          picked = first.1;
          same =
              c.tell_picked.ensures
              ∙ ap (λ (o : Option Reply). with_picked_reply o c.tell_place.new.self) first.1
              ∙ ap (λ (f : Frame). with_reply first.0 f) c.tell_place.ensures;
        },
      );
      none = λ same. absurd (omega (arith, same));
      refused = λ other _. absurd (other refl);
    }
