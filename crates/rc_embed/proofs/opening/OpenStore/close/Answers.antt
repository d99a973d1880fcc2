use Rattle.std.proofs.Common.{◌≡◌, List, All, length, sym, subst, ap, ◌∙◌, arith}
use Rattle.rc_embed.proofs.Imports.{PassSeen, IsFree, StoreSeen, pass_count, held, OpenSeen}
use Rattle.rc_embed.proofs.NumberLemmas.{count_of}
use Rattle.rc_embed.proofs.opening.OpenStore.close.Goals as goal

pub invariant_of-result : goal.invariant_of-result
invariant_of-result c =
    let back = c.in-Err-close.ensures.back in
    let store : c.in-Err-close.field-0.shared ≡ held c.self.inside.hold = back.0 ∙ c.in-Ok.ensures.ok in
    let passes = ap (λ (opened : OpenSeen). opened.passes) c.self.view_is in
    let many = count_of c.args.self.passes (pass_count c.args.self) (c.has_all_passes.ensures.0 c.if-not-has_all_passes.false) in
    let count = c.self.invariant.count ∙ ap (λ (opened : OpenSeen). opened.store.row.key.passes) c.self.view_is in
    let long : length c.in-Err-close.field-0.passes.items ≡ c.self.inside.count =
    ap (λ (l : List PassSeen). length l) (back.1 ∙ passes) ∙ many ∙ sym count in
    let room = c.in-Err-close.field-0.passes.ok.1 in
    record {
      is_held = tt;
      free =
          subst (λ (x : StoreSeen × List PassSeen). All (IsFree x.0) x.1) (λ i. (sym store i, sym back.1 i))
          c.self.invariant.free;
      count = subst (λ (s : StoreSeen). c.self.inside.count ≡ s.row.key.passes) (sym store) c.self.invariant.count;
      room = omega arith;
    }
