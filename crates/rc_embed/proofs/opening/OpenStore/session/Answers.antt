use Rattle.std.proofs.Common.{◌≡◌, ◌+◌, List, All, sym, subst, arith}
use Rattle.rc_embed.proofs.Imports.{PassSeen, IsFree, StoreSeen, held}
use Rattle.rc_embed.proofs.NumberLemmas.{all_with}
use Rattle.rc_embed.proofs.opening.OpenStore.session.Goals as goal

pub invariant_of-self-in-Err : goal.invariant_of-self-in-Err
invariant_of-self-in-Err c =
    let is_free = IsFree (held c.self.inside.hold) in
    let all = c.self.invariant.free in
    let fewer = c.remove-pass.ensures.len in
    let rest : All is_free c.remove-pass.new.self.items =
    λ k d below. subst is_free (sym (c.remove-pass.ensures.by_index.1 k d (omega arith)))
    (all (k + 1) d (omega (arith, below, fewer))) in
    let first : is_free c.remove-pass.result =
    subst is_free (sym c.remove-pass.ensures.value) (all 0 c.remove-pass.result (omega (arith, fewer))) in
    let room = c.self.invariant.room in
    let same = c.remove-pass.ensures.capacity in
    let more = c.insert.ensures.capacity in
    let again = c.share.ensures.held in
    record {
      is_held = again.0;
      free =
          subst (λ (store : StoreSeen). All (IsFree store) c.insert.new.self.items) (sym again.1)
          (subst (λ (passes : List PassSeen). All is_free passes) (sym c.in-Ok-insert.ensures.items)
          (all_with is_free 0 c.remove-pass.new.self.items c.in-Err.pass rest
          (subst is_free (sym c.in-Err.ensures.back) first)));
      count = subst (λ (store : StoreSeen). c.self.inside.count ≡ store.row.key.passes) (sym again.1) c.self.invariant.count;
      room = omega (arith, room, same, more);
    }
