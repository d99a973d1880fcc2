use Rattle.std.proofs.Common.{◌≡◌, ◌∙◌, ap, drop, length, subst, sum_by, sym, arith}
use Rattle.rc_runner.proofs.Imports.{range_with_len, HaveMade, stands_of, all_of_them, few_turns, idle_at_end, new_are_free, new_count, new_have_none, new_numbers, run_at_end}
use Rattle.rc_runner.proofs.running.run_work.Goals as goal

pub run_rounds-requires-clause-free : goal.run_rounds-requires-clause-free
run_rounds-requires-clause-free g c κs within =
    new_are_free c.in_ok-store.store c.deref_mut.result.now (c.deref_mut.ensures.value ∙ c.in_ok-store.ensures.passes)

pub run_rounds-requires-clause-numbers : goal.run_rounds-requires-clause-numbers
run_rounds-requires-clause-numbers g c κs within =
    let new = c.deref_mut.ensures.value ∙ c.in_ok-store.ensures.passes in
    new_numbers c.in_ok-store.store c.deref_mut.result.now new
    ∙ ap (range_with_len 0) (sym (new_count c.in_ok-store.store c.deref_mut.result.now new))

pub run_rounds-requires-clause-none : goal.run_rounds-requires-clause-none
run_rounds-requires-clause-none g c κs within =
    new_have_none c.in_ok-store.store c.deref_mut.result.now (c.deref_mut.ensures.value ∙ c.in_ok-store.ensures.passes)

pub close-requires : goal.close-requires
close-requires g c =
    let first = c.deref_mut.result.now in
    let last = c.run_rounds.new.passes in
    let len = c.deref_mut.ensures.len in
    let count : length first ≡ c.in_ok-store.passes.len = omega (arith, len) in
    idle_at_end c.in_ok-store.store first last _ (c.deref_mut.ensures.value ∙ c.in_ok-store.ensures.passes) c.run_rounds.ensures.numbers
    (all_of_them c.in_ok-store.passes.len first last (drop (length last) c.in_ok-store.passes.items) count c.run_rounds.ensures.numbers)
    c.run_rounds.ensures.free

pub returns-clause-run : goal.returns-clause-run
returns-clause-run g c =
    let first = c.deref_mut.result.now in
    let last = c.run_rounds.new.passes in
    let len = c.deref_mut.ensures.len in
    let count : length first ≡ c.in_ok-store.passes.len = omega (arith, len) in
    run_at_end c.in_ok-store.store first last _ (c.deref_mut.ensures.value ∙ c.in_ok-store.ensures.passes) c.run_rounds.ensures.numbers
    (all_of_them c.in_ok-store.passes.len first last (drop (length last) c.in_ok-store.passes.items) count c.run_rounds.ensures.numbers)
    c.args.work.now c.close.result c.in_ok-store.ensures.row.1 c.in_ok-store.ensures.row.0
    c.requires.limits.some_thread c.requires.threads
    (subst (λ rounds. HaveMade rounds (stands_of last)) c.list.ensures c.in_ok-run_rounds.ensures.made) c.close.ensures

pub run_rounds-requires-clause-few : goal.run_rounds-requires-clause-few
run_rounds-requires-clause-few g c κs within =
    let few = few_turns c.args.work.now.rounds c.requires.limits.turns in
    omega (arith, few, c.requires.limits.few_calls, ap (λ rounds. sum_by length rounds) c.list.ensures, c.in_ok-store.ensures.limit)
