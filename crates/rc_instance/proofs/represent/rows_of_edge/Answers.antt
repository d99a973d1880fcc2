use Rattle.std.proofs.Common.{◌≡◌, ◌<◌, ◌++◌, ℕ, length, refl, take, sym, ap, subst, ◌∙◌}
use Rattle.rc_instance.proofs.Imports.{List, slice_get_read, slice_get_in, Pairs, AreAllRows, rows_of_fragments, FragmentRows}
use Rattle.rc_instance.proofs.RepresentLemmas.{all_more, rows_more}
use Rattle.rc_instance.proofs.represent.rows_of_edge.Goals as goal

pub rows-requires : goal.rows-requires
rows-requires c =
    let fs : List FragmentRows = c.args.fragments.now in
    let f : FragmentRows = c.fragment-item.result in
    subst (λ (z : FragmentRows). c.args.edge < length z.table) (sym c.fragment.ensures) (c.requires f (slice_get_in fs c.loop-fragment.fragment-index f (slice_get_read fs _ c.loop-fragment.fragment-index f refl c.loop-fragment-test.true c.fragment-item.is)))

pub loop-fragment-preserved : goal.loop-fragment-preserved
loop-fragment-preserved c =
    let fs : List FragmentRows = c.args.fragments.now in
    let i : ℕ = c.loop-fragment.fragment-index in
    let f : FragmentRows = c.fragment-item.result in
    let old : List Pairs = c.loop-fragment.rows.items in
    let more : List Pairs = c.in_ok-rows.field-0 in
    let items : c.append.new.self.items ≡ old ++ more = c.in_ok-append.ensures.items ∙ ap (λ z. old ++ z) c.into_vec-more.ensures in
    subst (λ z. AreAllRows z c.args.edge c.append.new.self.items) (sym (rows_more fs i f c.loop-fragment-test.true c.fragment-item.is))
    (subst (AreAllRows (rows_of_fragments (take i fs) ++ f.now) c.args.edge) (sym items) (all_more (rows_of_fragments (take i fs)) f.now c.args.edge old more c.loop-fragment.invariant
    (subst (λ (z : FragmentRows). AreAllRows z.now c.args.edge more) c.fragment.ensures c.in_ok-rows.ensures)))
