use Rattle.std.proofs.Common.{◌++◌, List, rules, ap, ◌∙◌}
use Rattle.rc_fragment.proofs.Imports.{flat_map, answers_always, ranks_by, total, Keyed, IsSorted, IsSorted-by, is_before, shown_sources, Container}
use Rattle.rc_fragment.proofs.SourceReadLemmas.{HasPushed-shown}
use Rattle.rc_fragment.proofs.edge_rows.EdgeRows.push_sources.Goals as goal

pub returns-in-Ok-clause-ok : goal.returns-in-Ok-clause-ok
returns-in-Ok-clause-ok c =
    let all : List (Keyed Container) = c.in_ok-all.all.items in
    let rising : List (Keyed Container) = c.sort_unstable_by.new.self.items in
    let sorted =
    c.sort_unstable_by.ensures.sorted is_before (ranks_by total (λ (k : Keyed Container). k.key.now))
    (answers_always _ _ _ (λ f a r g h. search rules)) in
    let s : IsSorted all rising = IsSorted-by all rising c.in_ok-all.ensures.apart c.sort_unstable_by.ensures.permutation sorted in
    HasPushed-shown c.args.self.now c.args.tombstones c.requires.clean rising s.rising (s.entries ∙ c.in_ok-all.ensures.entries) c.args.out.now.items c.push_shown.new.out.items
    (c.in-Ok.ensures.ok ∙ ap (λ z. c.args.out.now.items ++ flat_map (λ s. s) (shown_sources c.args.tombstones z)) c.deref.ensures.value)
