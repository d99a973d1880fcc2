use Rattle.std.proofs.Common.{rules, ◌≡◌, ℕ, List, ◌∷◌, ◌++◌, length, take, drop, All, sym, subst, ap, ◌∙◌, arith}
use Rattle.rc_embed.proofs.Imports.{arc_value, PassSeen, IsFree, StoreSeen, State, Idle, IsPlaceOf, number_of, pass_count, held, OpenSeen, IsStateOf, SessionSeen}
use Rattle.rc_embed.proofs.NumberLemmas.{all_with}
use Rattle.rc_embed.proofs.SessionLemmas.{same_idle}
use Rattle.rc_embed.proofs.opening.OpenStore.take_back.Goals as goal

pub invariant_of-self : goal.invariant_of-self
invariant_of-self c =
    let idle : c.session.inside.state ≡ Idle c.into_pass.result = search rules in
    let free : IsFree (arc_value c.session.inside.shared) c.into_pass.result =
    subst (λ (state : State). IsStateOf (arc_value c.session.inside.shared) state) idle
    c.session.invariant in
    let same : arc_value c.session.inside.shared ≡ held c.self.inside.hold =
    ap (λ (session : SessionSeen). session.store) c.session.view_is
    ∙ c.requires
    ∙ sym (ap (λ (opened : OpenSeen). opened.store) c.self.view_is) in
    let was = c.self.invariant.room in
    let more = c.in-Ok.ensures.capacity in
    record {
      is_held = c.self.invariant.is_held;
      free =
          subst (λ (passes : List PassSeen). All (IsFree (held c.self.inside.hold)) passes)
          (sym c.in-Ok.ensures.items)
          (all_with (IsFree (held c.self.inside.hold)) c.place_of-at.result
          c.self.inside.passes.items c.into_pass.result c.self.invariant.free
          (subst (λ (store : StoreSeen). IsFree store c.into_pass.result) same free));
      count = c.self.invariant.count;
      room = omega arith;
    }

pub returns-clause-taken : goal.returns-clause-taken
returns-clause-taken c =
    let idle : c.session.inside.state ≡ Idle c.into_pass.result = search rules in
    let passes : c.self.inside.passes.items ≡ c.args.self.now.passes =
    ap (λ (opened : OpenSeen). opened.passes) c.self.view_is in
    let number : c.number.result ≡ number_of c.into_pass.result =
    c.number.ensures
    ∙ ap number_of (same_idle c.in-Idle.pass c.into_pass.result (sym c.in-Idle.is ∙ idle)) in
    let at = c.place_of-at.result in
    record {
      pass = c.into_pass.result;
      was = sym (ap (λ (session : SessionSeen). session.state) c.session.view_is) ∙ idle;
      store = ap (λ (opened : OpenSeen). opened.store) c.self.view_is;
      room =
          let below = c.if-len-self.false in
          let len = c.len.ensures in
          let many = ap (λ (ps : List PassSeen). length ps) passes in
          let count = c.self.invariant.count in
          let all = ap pass_count c.self.view_is in
          omega (arith, below, len, many, count, all);
      at = at;
      place =
          subst (λ (n : ℕ). IsPlaceOf n c.args.self.now.passes at) number
          (subst (λ (ps : List PassSeen). IsPlaceOf c.number.result ps at)
          (c.deref.ensures.value ∙ passes) c.place_of-at.ensures);
      passes =
          c.in-Ok.ensures.items
          ∙ ap (λ (ps : List PassSeen). take at ps ++ c.into_pass.result ∷ drop at ps) passes;
    }
