use Rattle.std.proofs.Common.{arith, ◌≡◌, ◌≤◌, ℕ, suc, ◌+◌, ◌∷◌, ◌++◌, [], List, length, sym, ap, ◌∙◌, subst, length-append, drop}
use Rattle.rc_row.proofs.Imports.{Vec, vec_capacity, slice_get, into_iter_items, resumed_from, EndedPass, HeldFragment, history_by, passes_view, starts, PassSeen, resumed_pass, stripes_of, AreRooms}
use Rattle.rc_row.proofs.ListLemmas.{all_before, all_last}
use Rattle.rc_row.proofs.ResumingLemmas.{dealt_more, left_behind, next_at}
use Rattle.rc_row.proofs.row.Row.deal_all.Goals as goal

pub overflow_cast-len : goal.overflow_cast-len
overflow_cast-len c =
    let kept = c.loop-one.invariant in
    let sum = kept.sum in
    let few = c.requires.passes.1 in
    let here = c.len.ensures ∙ c.loop-one.dealt.ok.0 in
    omega (arith, sum, few, here)

pub deal-pass-requires-clause-number : goal.deal-pass-requires-clause-number
deal-pass-requires-clause-number c =
    let kept = c.loop-one.invariant in
    let sum = kept.sum in
    let few = c.requires.passes.1 in
    let here = c.len.ensures ∙ c.loop-one.dealt.ok.0 in
    let next = ap (λ (l : List EndedPass). length l) c.in-Some.ensures.steps.0 in
    omega (arith, sum, few, here, next)

pub deal-pass-requires-clause-room : goal.deal-pass-requires-clause-room
deal-pass-requires-clause-room c =
    let n : ℕ = stripes_of c.args.self.now in
    all_last (λ (room : Vec HeldFragment). (room.items ≡ []) × (n ≤ vec_capacity room)) c.pop.new.self.items c.in-Some-pop.room (subst (AreRooms n) c.in-Some-pop.ensures.items c.loop-one.invariant.rooms)

pub deal-pass-requires-clause-ended : goal.deal-pass-requires-clause-ended
deal-pass-requires-clause-ended c =
    let here : length c.loop-one.dealt.items ≡ c.len.result = sym (c.len.ensures ∙ c.loop-one.dealt.ok.0) in
    c.requires.made c.len.result c.in-Some.one
    (ap (slice_get c.args.ended.items) (sym here) ∙ next_at c.args.ended.items (into_iter_items c.next.new.self) (length c.loop-one.dealt.items) c.in-Some.one (sym c.in-Some.ensures.steps.0 ∙ c.loop-one.invariant.left))

pub loop-one-preserved : goal.loop-one-preserved
loop-one-preserved c =
    let kept = c.loop-one.invariant in
    let n : ℕ = stripes_of c.args.self.now in
    let old : List PassSeen = c.loop-one.dealt.items in
    let more : List EndedPass = into_iter_items c.next.new.self in
    let rooms : List (Vec HeldFragment) = c.pop.new.self.items in
    let here : length c.loop-one.dealt.items ≡ c.len.result = sym (c.len.ensures ∙ c.loop-one.dealt.ok.0) in
    let steps = c.in-Some.ensures.steps.0 in
    let next = ap (λ (l : List EndedPass). length l) steps in
    let gone = c.in-Some.ensures.steps.1 in
    let items = c.push_reserved.ensures.items in
    let long : length c.push_reserved.new.self.items ≡ length c.loop-one.dealt.items + 1 = ap (λ (l : List PassSeen). length l) items ∙ length-append old (c.deal-pass.result ∷ []) in
    let popped = ap (λ (l : List (Vec HeldFragment)). length l) c.in-Some-pop.ensures.items ∙ length-append rooms (c.in-Some-pop.room ∷ []) in
    let room = c.push_reserved.ensures.capacity in
    let sum = kept.sum in
    let held = kept.held in
    let count = kept.count in
    let wide = kept.room in
    let back : more ≡ drop (suc (length c.loop-one.dealt.items)) c.args.ended.items = left_behind c.args.ended.items more (length c.loop-one.dealt.items) c.in-Some.one (sym steps ∙ kept.left) in
    record {
      dealt = ap (λ (l : List PassSeen). l ++ resumed_from c.args.self.now (length l) more) items
          ∙ dealt_more c.args.self.now old c.deal-pass.result c.in-Some.one more (resumed_from c.args.self.now 0 c.args.ended.items)
          (ap (λ l. old ++ resumed_from c.args.self.now (length old) l) (sym steps) ∙ kept.dealt)
          (c.deal-pass.ensures.pass ∙ ap (λ k. resumed_pass c.args.self.now k c.in-Some.one.entries) (sym here));
      left = back ∙ ap (λ k. drop k c.args.ended.items) (let z : suc (length c.loop-one.dealt.items) ≡ length c.push_reserved.new.self.items = omega (arith, long) in z);
      count = omega (arith, gone, count, next);
      sum = omega (arith, sum, next, long);
      held = omega (arith, held, next, popped);
      rooms = all_before (λ (room : Vec HeldFragment). (room.items ≡ []) × (n ≤ vec_capacity room)) rooms c.in-Some-pop.room (subst (AreRooms n) c.in-Some-pop.ensures.items kept.rooms);
      room = omega (arith, room, wide);
      seat = c.deal-pass.ensures.seat.0 ∙ kept.seat;
      view = c.deal-pass.ensures.left (length more) (kept.view ∙ (λ i. passes_view (starts (history_by c.args.self.now.key) (here i) (next i))))
          ∙ ap (λ k. passes_view (starts (history_by c.args.self.now.key) k (length more))) (let z : suc c.len.result ≡ length c.push_reserved.new.self.items = omega (arith, long, here) in z);
    }
