use Rattle.std.proofs.Common.{arith, ◌*◌, ◌+◌, ◌-◌, ◌≤◌, ◌^◌, ℕ, List, length, map, min, refl, sym, ap, ◌∙◌, subst}
use Rattle.rc_row.proofs.Imports.{slice_set, sum, KeptRows, Entry, own_placed, placed_total, stripe_total, Spec, EndedPass, Key, IsEndedOf, history_by}
use Rattle.rc_row.proofs.ResumingLemmas.{back_in, made_is_length, resumes}
use Rattle.rc_row.proofs.row.Row.resume.Goals as goal

pub stripe_total-stripes-requires : goal.stripe_total-stripes-requires
stripe_total-stripes-requires c = record { few = subst (λ (s : Spec). stripe_total s ≤ 256) (sym c.spec.ensures.value) (placed_total c.accepted.result.now c.spec.ensures.sealed.accepted.placed) }

pub new-requires : goal.new-requires
new-requires c =
    let few = subst (λ (s : Spec). stripe_total s ≤ 256) (sym c.spec.ensures.value) (placed_total c.accepted.result.now c.spec.ensures.sealed.accepted.placed) in
    let count = c.stripe_total-stripes.ensures in
    let passes = c.requires.may.few_passes in
    let many = c.len.ensures ∙ c.args.left.passes.ok.0 in
    (omega (arith, few, count), omega (arith, passes, many))

pub slots_of-slots-requires-clause-few : goal.slots_of-slots-requires-clause-few
slots_of-slots-requires-clause-few c =
    let few = subst (λ (s : Spec). stripe_total s ≤ 256) (sym c.spec.ensures.value) (placed_total c.accepted.result.now c.spec.ensures.sealed.accepted.placed) in
    let same = ap stripe_total (c.spec.ensures.value ∙ c.accepted.ensures.value) in
    let count = c.requires.count in
    let passes = c.requires.may.few_passes in
    let many = c.len-2.ensures ∙ c.args.left.passes.ok.0 in
    (omega (arith, few, same, count), omega (arith, passes, many))

pub open-requires : goal.open-requires
open-requires c =
    let key : Key = record { compiled = c.of.result; passes = c.len-2.result; seed = c.args.seed; history = c.of-2.result } in
    resumes key c.args.compiled.now c.args.keeping c.args.left.history c.args.left.fragments.items c.args.left.passes.items c.made_in_all-seen.result c.stripe_total-stripes.result
    c.deref-2.result.now c.slots_of-slots.result.items c.of.ensures c.of-2.ensures (c.len-2.ensures ∙ c.args.left.passes.ok.0) c.accepted.ensures.sealed c.accepted.ensures.planned c.requires
    (c.made_in_all-seen.ensures ∙ ap (λ (l : List EndedPass). min (sum (map (λ (e : EndedPass). e.made) l)) (2 ^ 64 - 1)) c.deref.ensures.value)
    (c.stripe_total-stripes.ensures ∙ ap stripe_total (c.spec.ensures.value ∙ c.accepted.ensures.value))
    (c.deref-2.ensures.value ∙ c.words_of-words.ensures ∙ ap (λ (l : List ℕ). slice_set l 0 c.made_in_all-seen.result) c.in-Ok.ensures.words)
    c.slots_of-slots.ensures

pub deal_all-dealt-requires-clause-made : goal.deal_all-dealt-requires-clause-made
deal_all-dealt-requires-clause-made c = λ k e at.
    subst (λ (l : List Entry). IsEndedOf (own_placed l k) e) (sym (ap history_by c.in-Ok-open.ensures.row.0 ∙ c.of-2.ensures)) (c.requires.made k e at)

pub deal_all-dealt-requires-clause-seen : goal.deal_all-dealt-requires-clause-seen
deal_all-dealt-requires-clause-seen c =
    c.made_in_all-seen.ensures ∙ ap (λ (l : List EndedPass). min (sum (map (λ (e : EndedPass). e.made) l)) (2 ^ 64 - 1)) c.deref.ensures.value
    ∙ made_is_length c.args.compiled.now.spec c.args.keeping c.args.left.history c.args.left.fragments.items c.args.left.passes.items c.requires
    ∙ ap (λ (l : List Entry). length l) (sym (ap history_by c.in-Ok-open.ensures.row.0 ∙ c.of-2.ensures))

pub taken_back-requires : goal.taken_back-requires
taken_back-requires c =
    let back = back_in c.args.left.fragments.items (1024 + 260 * c.len-2.result - 4 * length c.args.left.fragments.items) c.in-Err.slots.items (c.in-Err.ensures.err ∙ c.slots_of-slots.ensures) in
    let long = ap (λ (l : List KeptRows). length l) back in
    let same = ap stripe_total (c.spec.ensures.value ∙ c.accepted.ensures.value) in
    let stripes = c.stripe_total-stripes.ensures in
    let count = c.requires.count in
    let room = c.in-Ok.ensures.back.1 in
    (c.in-Ok.ensures.back.0, omega (arith, long, same, stripes, count, room))

pub returns-in-Err-clause-err : goal.returns-in-Err-clause-err
returns-in-Err-clause-err c =
    (c.taken_back.ensures ∙ back_in c.args.left.fragments.items (1024 + 260 * c.len-2.result - 4 * length c.args.left.fragments.items) c.in-Err.slots.items (c.in-Err.ensures.err ∙ c.slots_of-slots.ensures), refl, refl)
