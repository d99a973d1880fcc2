use Rattle.std.proofs.Common.{arith, ◌≡◌, ℕ, suc, ◌<◌, List, [], ◌∷◌, ◌++◌, drop, length, sym, ap, ◌∙◌, subst, take, length-append}
use Rattle.rc_row.proofs.Imports.{All, map-append, In, Me, EndedPass, View, AreEnded, Slot, passes_view, numbers_in, standing_of, PassSeen, gathered}
use Rattle.rc_row.proofs.ListLemmas.{all_end, take_whole}
use Rattle.rc_row.proofs.ClosingLemmas.{IsIdle, ended_more, front_of, in_order, next_of, standings_of}
use Rattle.rc_row.proofs.row.Row.gather.Goals as goal

pub gather_step-requires-clause-order : goal.gather_step-requires-clause-order
gather_step-requires-clause-order c =
    let kept = c.loop-passes.invariant in
    let all : List PassSeen = c.args.passes.items in
    let n : ℕ = length c.loop-passes.ended.items in
    let x : PassSeen = c.remove-in-loop-passes.result in
    let left : List PassSeen = c.remove-in-loop-passes.new.self.items in
    let is : c.loop-passes.passes.items ≡ x ∷ left
    = front_of c.loop-passes.passes.items x (let m = c.loop-passes.passes.ok.0 in let t = c.loop-passes-test.true in let l = c.len.ensures in omega arith) c.remove-in-loop-passes.ensures.value ∙ ap (λ (l : List PassSeen). x ∷ l) (sym c.remove-in-loop-passes.ensures.items) in
    λ k m. subst (λ j. k < j) (sym (ap (λ (me : Me Slot View). (standing_of me.0).core.number) c.unpack-next.ensures.seat))
    (in_order all n c.args.self.now.key.passes x left c.requires.passes.0.numbers (sym kept.2 ∙ is) k (subst (λ (v : View). In k (numbers_in v.passes)) kept.1 m))

pub loop-passes-preserved : goal.loop-passes-preserved
loop-passes-preserved c =
    let kept = c.loop-passes.invariant in
    let all : List PassSeen = c.args.passes.items in
    let n : ℕ = length c.loop-passes.ended.items in
    let done : List PassSeen = take (length c.loop-passes.ended.items) c.args.passes.items in
    let x : PassSeen = c.remove-in-loop-passes.result in
    let left : List PassSeen = c.remove-in-loop-passes.new.self.items in
    let e : EndedPass = c.unpack-next.result.0 in
    let is : c.loop-passes.passes.items ≡ x ∷ left
    = front_of c.loop-passes.passes.items x (let m = c.loop-passes.passes.ok.0 in let t = c.loop-passes-test.true in let l = c.len.ensures in omega arith) c.remove-in-loop-passes.ensures.value ∙ ap (λ (l : List PassSeen). x ∷ l) (sym c.remove-in-loop-passes.ensures.items) in
    let next = next_of all n x left (sym kept.2 ∙ is) in
    let count : length c.push_reserved-in-loop-passes.new.self.items ≡ suc (length c.loop-passes.ended.items)
    = ap (λ (l : List EndedPass). length l) c.push_reserved-in-loop-passes.ensures.items ∙ length-append c.loop-passes.ended.items (e ∷ []) ∙ omega arith in
    let taken : done ++ x ∷ [] ≡ take (length c.push_reserved-in-loop-passes.new.self.items) c.args.passes.items = sym next.0 ∙ ap (λ k. take k all) (sym count) in
    let told = c.gather_step.ensures.told in
    let room = c.push_reserved-in-loop-passes.ensures.capacity in
    let fits = kept.5 in (
      c.gather_step.ensures.seat.0 ∙ kept.0,
      ap (λ (me : Me Slot View). me.0) told ∙ (λ i. gathered (kept.1 i) (c.unpack-next.ensures.seat i).0)
          ∙ ap passes_view (sym (map-append (λ (pass : PassSeen). pass.standing) done (x ∷ [])) ∙ ap standings_of taken),
      sym next.1 ∙ ap (λ k. drop k all) (sym count),
      subst (λ (z : List PassSeen × List EndedPass). AreEnded z.0 z.1) (λ i. (taken i, sym c.push_reserved-in-loop-passes.ensures.items i)) (ended_more done c.loop-passes.ended.items x e kept.3 c.unpack-next.ensures.ended),
      subst (All IsIdle) taken (all_end IsIdle done x kept.4 c.unpack-next.ensures.idle),
      omega arith,
    )

pub returns-clause-ended : goal.returns-clause-ended
returns-clause-ended c =
    let kept = c.loop-passes.invariant in
    let n : ℕ = length c.loop-passes.ended.items in
    let none : length (drop (length c.loop-passes.ended.items) c.args.passes.items) ≡ 0
    = ap (λ (l : List PassSeen). length l) (sym kept.2) ∙ (let m = c.loop-passes.passes.ok.0 in let t = c.loop-passes-test.false in let l = c.len.ensures in omega arith) in
    subst (λ (l : List PassSeen). AreEnded l c.loop-passes.ended.items) (take_whole c.args.passes.items n none) kept.3
