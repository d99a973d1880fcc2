use Rattle.std.proofs.Common.{◌≡◌, ◌∙◌, ap, rules, refl, subst, sym}
use Rattle.rc_embed.proofs.Imports.{Call, Fits, IsCompiled, Covers, compiled_of, spec_of, IsCallBack, OpenGroupSeen, StoreSeen, call_of, State, HasNoRefusalIn, IsUncoveredIn, SessionSeen, made_of, uncommitted_in, session_seen}
use Rattle.rc_store.specs.declared.open_group.OpenBack.TheVariants as backs
use Rattle.rc_embed.specs.declared.session.State.TheVariants as states
use Rattle.rc_embed.proofs.DeclaringLemmas.{uncovered_so}
use Rattle.rc_embed.proofs.session.Session.go_on.Goals as goal

pub returns-in-Err-Uncovered : goal.returns-in-Err-Uncovered
returns-in-Err-Uncovered c =
    let group = c.in-Open.group in
    let store = c.args.self.now.store in
    let made = c.refill_call.new.call in
    let here : c.behind-self.inside.store ≡ store = search rules in
    let inner : c.self.inside.state ≡ states.Open group = search rules in
    let state : c.args.self.now.state ≡ states.Open group = search rules in
    let call : made ≡ call_of (spec_of store.row) c.args.op c.args.values.now = search rules in
    let fits : Fits (spec_of store.row) made = search rules in
    let compiled : IsCompiled (spec_of store.row) (compiled_of store.row).plans = search rules in
    let back : IsCallBack c.behind-self.inside.store made group (backs.Uncovered c.in-Err-Uncovered.group) =
    subst (IsCallBack c.behind-self.inside.store made group) c.in-Err-Uncovered.field-0-is c.in-Err-Uncovered.ensures.back in
    record {
      store = ap (λ (s : SessionSeen). s.store) c.self.view_is;
      made = tt;
      cause = (
        c.requires,
        subst (λ (s : State). IsUncoveredIn store s (call_of (spec_of store.row) c.args.op c.args.values.now)) (sym state)
            (subst (λ (z : Call). IsUncoveredIn store (states.Open group) z) call
            (uncovered_so store group made compiled fits (subst (λ (s : StoreSeen). Covers (compiled_of s.row) made group.locks → ⊥) here back.2))),
      );
      left =
          ap (λ (s : State). record (session_seen c.self.inside) { state = s })
          (c.put-in-Err-Uncovered.ensures ∙ ap (λ (g : OpenGroupSeen). states.Open g) back.0 ∙ sym inner)
          ∙ c.self.view_is;
    }

pub returns-in-Err-Memory : goal.returns-in-Err-Memory
returns-in-Err-Memory c =
    let group = c.in-Open.group in
    let made = c.refill_call.new.call in
    let state : c.args.self.now.state ≡ states.Open group = search rules in
    let back : IsCallBack c.behind-self.inside.store made group (backs.Memory c.in-Err-Memory.pass) =
    subst (IsCallBack c.behind-self.inside.store made group) c.in-Err-Memory.field-0-is c.in-Err-Memory.ensures.back in
    record {
      store = ap (λ (s : SessionSeen). s.store) c.self.view_is;
      made = tt;
      cause = (
        c.requires,
        subst (λ (x : State × State). HasNoRefusalIn x.0 x.1) (λ i. (sym state i, sym c.put-in-Err-Memory.ensures i)) back.4,
      );
      left = record {
        running = made_of group;
        after = c.in-Err-Memory.pass;
        was = ap uncommitted_in state;
        is = c.put-in-Err-Memory.ensures;
        last = ap (λ (s : SessionSeen). s.last) c.self.view_is;
        picked = refl;
        before = back.1;
        refusals = back.4;
      };
    }
