use Rattle.std.proofs.Common.{◌≡◌, ◌∙◌, None, refl, sym, subst}
use Rattle.rc_c.proofs.Imports.{none-some, State, HasCancelled, IsIdle, SessionSeen, uncommitted_in}
use Rattle.rc_embed.specs.declared.session.State.TheVariants as states
use Rattle.rc_c.proofs.settled.Goals as goal

-- an idle session has nothing to cancel
idle_has_none : (state : State) → IsIdle state → uncommitted_in state ≡ None
idle_has_none (states.Idle pass) is = refl
idle_has_none (states.Prepared running) is = absurd is
idle_has_none (states.PreparedGroup running) is = absurd is
idle_has_none (states.Open group) is = absurd is
idle_has_none states.Moving is = absurd is

not_idle : (old new : SessionSeen) → HasCancelled old new → IsIdle old.state → ⊥
not_idle old new h is = none-some h.running (sym (idle_has_none old.state is) ∙ h.was)

pub returns-in-Ok : goal.returns-in-Ok
returns-in-Ok c =
    let h : HasCancelled c.args.session c.cancel.new.self = c.in-Ok.ensures.cancelled in
    record {
      store = c.cancel.ensures.store;
      idle = subst IsIdle (sym h.is) tt;
      same = λ is. absurd (not_idle c.args.session c.cancel.new.self h is);
      cancelled = λ _. h;
    }
