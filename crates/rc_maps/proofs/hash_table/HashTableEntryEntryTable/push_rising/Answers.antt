use Rattle.std.proofs.Common.{◌≡◌, ◌++◌, OnOk, List, map, rules, sym, ap, subst, ◌∙◌}
use Rattle.rc_maps.proofs.Imports.{answers_always, ranks_by, Counted, listed, listed-rows, total, Keyed, pair_of, values_of_walk, IsSorted, IsSorted-by, is_before}
use Rattle.rc_maps.proofs.hash_table.HashTableEntryEntryTable.push_rising.Goals as goal

pub returns-clause-ok : goal.returns-clause-ok
returns-clause-ok c =
    let all : List (Keyed Counted) = c.in_ok-all.all.items in
    let rising : List (Keyed Counted) = c.sort_unstable_by.new.self.items in
    let sorted =
    c.sort_unstable_by.ensures.sorted is_before (ranks_by total (λ (k : Keyed Counted). k.key.now))
    (answers_always _ _ _ (λ f a r g h. search rules)) in
    let s : IsSorted all rising = IsSorted-by all rising c.in_ok-all.ensures.apart c.sort_unstable_by.ensures.permutation sorted in
    let e = ap values_of_walk c.deref.ensures.value ∙ sym (listed-rows (map pair_of rising) s.rising)
    ∙ ap listed (s.entries ∙ c.in_ok-all.ensures.entries) in
    subst (λ z. OnOk c.add_rows.result (c.add_rows.new.out.items ≡ c.args.out.now.items ++ z)) e c.add_rows.ensures.ok
