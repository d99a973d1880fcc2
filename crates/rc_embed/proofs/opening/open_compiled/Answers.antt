use Rattle.std.proofs.Common.{◌≡◌, List, All, length, sym, subst, ap, ◌∙◌, arith}
use Rattle.rc_embed.proofs.Imports.{length-map-range_with_len, PassSeen, new_pass, IsFree, new_are_free}
use Rattle.rc_embed.proofs.opening.open_compiled.Goals as goal

pub invariant_of-result-2 : goal.invariant_of-result-2
invariant_of-result-2 c =
    let store = c.in_ok-store.store in
    let dealt = c.in_ok-store.dealt in
    let built = c.in_ok-store.ensures in
    let many : length dealt.items ≡ store.row.key.passes =
    ap (λ (passes : List PassSeen). length passes) built.passes
    ∙ length-map-range_with_len (new_pass store.row) 0 store.row.key.passes in
    let room = dealt.ok.1 in
    let count = built.row.0 in
    record {
      is_held = tt;
      free = subst (λ (passes : List PassSeen). All (IsFree store) passes) (sym built.passes) (new_are_free store);
      count = sym built.row.0;
      room = omega arith;
    }

pub returns-clause-store : goal.returns-clause-store
returns-clause-store c =
    let built = c.in_ok-store.ensures in
    record {
      made = record {
        compiled_is = built.compiled;
        accepted = record { sealed = c.accepted.ensures.sealed; planned = c.accepted.ensures.planned };
        counts = built.row.1;
        number = built.row.0;
        limit = built.limit;
        seed = built.seed;
      };
      history = built.history;
      passes = built.passes;
    }
