use Rattle.std.proofs.Common.{arith, ◌≡◌, ◌≤◌, List, sym, ap, ◌∙◌, subst}
use Rattle.rc_row.proofs.Imports.{slots_items, Entry, IsPrefix, View, HasHistory, made_by, history_by, RowSeen, spec_of}
use Rattle.rc_row.proofs.ClosingLemmas.{closed_slot, count_of, has_history, made_is_history}
use Rattle.rc_row.proofs.row.Row.close.Goals as goal

pub gather-seat-requires-clause-passes : goal.gather-seat-requires-clause-passes
gather-seat-requires-clause-passes c =
    let some_pass = subst (λ (r : RowSeen). 1 ≤ r.key.passes) c.self.view_is c.self.invariant.some_pass in
    let count = count_of c.args.passes.items c.args.self.key.passes c.requires.numbers in
    (c.requires, omega arith)

pub take_all-requires-clause-inside : goal.take_all-requires-clause-inside
take_all-requires-clause-inside c =
    let n = c.stripe_count-stripes.ensures.few in
    let slots = c.self.invariant.slots in
    let counts = c.close_with.ensures.counts.1 in
    omega arith

pub take_all-requires-clause-some : goal.take_all-requires-clause-some
take_all-requires-clause-some c = λ p lt.
    closed_slot c.self.inside c.args.self c.self.view_is c.args.passes.items c.gather-seat.result.id c.gather-seat.result.me.0 _ (slots_items c.close_with.result.slots)
    c.gather-seat.ensures.seat c.close_with.ensures.values.2 c.requires.numbers c.gather-seat.ensures.idle c.stripe_count-stripes.result p c.stripe_count-stripes.ensures.count lt

-- the one history
one : (c : goal.After-drop-self-inside) → (h : HasHistory (spec_of c.args.self) c.args.passes.items c.take_all.new.fragments.items) × IsPrefix (history_by c.args.self.key) h.history
one c =
    has_history c.self.inside c.args.self c.self.view_is c.args.passes.items c.gather-seat.result.id c.gather-seat.result.me.0 _ (slots_items c.close_with.result.slots)
    c.gather-seat.ensures.seat c.close_with.ensures.values.2 c.requires.numbers c.gather-seat.ensures.idle c.stripe_count-stripes.result
    c.take_all.new.fragments.items c.stripe_count-stripes.ensures.count c.take_all.ensures.count c.take_all.ensures.items

made : (c : goal.After-drop-self-inside) (h : HasHistory (spec_of c.args.self) c.args.passes.items c.take_all.new.fragments.items) → c.of-history.result ≡ h.history
made c h = c.of-history.ensures ∙ ap (λ (v : View). made_by v.passes) c.gather-seat.ensures.seat ∙ made_is_history (spec_of c.args.self) c.args.passes.items c.take_all.new.fragments.items h

pub returns-clause-history : goal.returns-clause-history
returns-clause-history c = (one c).0

pub returns-clause-begins : goal.returns-clause-begins
returns-clause-begins c = subst (λ (l : List Entry). IsPrefix (history_by c.args.self.key) l) (sym (made c (one c).0)) (one c).1

pub returns-clause-named : goal.returns-clause-named
returns-clause-named c = made c
