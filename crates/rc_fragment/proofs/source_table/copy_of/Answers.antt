use Rattle.std.proofs.Common.{◌≡◌, ◌+◌, ◌∷◌, ℕ, drop, sym, ap, subst, ◌∙◌}
use Rattle.rc_fragment.proofs.Imports.{List, map, In, get_or_in, map_in, drop_more, Values, HasWidth, entries_of, AreApart, pair_of, Keyed, seen_container, Container}
use Rattle.std.specs.FinMap as fin
use Rattle.rc_fragment.proofs.CopyLemmas.{IsCopied, IsCopied-more, IsCopied-none}
use Rattle.rc_fragment.proofs.WalkLemmas.{apart_from, got_from, width_there}
use Rattle.rc_fragment.proofs.source_table.copy_of.Goals as goal

pub loop-source-init : goal.loop-source-init
loop-source-init c =
    let items : List (Keyed Container) = c.deref-source-items.result.now in
    record {
      copied = IsCopied-none (entries_of c.args.sources.now) (map pair_of items) (entries_of c.new-copy.result)
          (ap (λ (z : List (Keyed Container)). fin.from_entries (map pair_of z)) c.deref-source-items.ensures.value ∙ c.in_ok-keyed.ensures.entries) c.new-copy.ensures.empty;
      width = c.new-copy.ensures.width;
    }

pub insert-requires : goal.insert-requires
insert-requires c =
    let all : List (Keyed Container) = c.in_ok-keyed.keyed.items in
    let item : Keyed Container = c.source-item.result in
    let n : In item all = subst (In item) c.deref-source-items.ensures.value
    (subst (λ z. In z c.deref-source-items.result.now) (sym c.source-item.is) (get_or_in c.deref-source-items.result.now c.loop-source.source-index item c.loop-source-test.true)) in
    subst (λ b. HasWidth b item.key.now) (c.requires ∙ sym c.loop-source.invariant.width)
    (width_there c.args.sources.now item.key.now item.value.now
    (got_from (entries_of c.args.sources.now) (map pair_of all) c.in_ok-keyed.ensures.entries c.in_ok-keyed.ensures.apart (pair_of item) (map_in pair_of item all n)))

pub loop-source-preserved : goal.loop-source-preserved
loop-source-preserved c =
    let items : List (Keyed Container) = c.deref-source-items.result.now in
    let i : ℕ = c.loop-source.source-index in
    let item : Keyed Container = c.source-item.result in
    let left : List (Values × Container) = map pair_of (drop (i + 1) items) in
    let next : drop i items ≡ item ∷ drop (i + 1) items = drop_more items i item c.loop-source-test.true ∙ ap (λ (z : Keyed Container). z ∷ drop (i + 1) items) (sym c.source-item.is) in
    let apart : AreApart (pair_of item ∷ left) =
    subst (λ (z : List (Keyed Container)). AreApart (map pair_of z)) next
    (apart_from i items (subst (λ (z : List (Keyed Container)). AreApart (map pair_of z)) (sym c.deref-source-items.ensures.value) c.in_ok-keyed.ensures.apart)) in
    let same : seen_container c.in_ok-copy.field-0 ≡ seen_container item.value.now = λ j. (c.in_ok-copy.ensures.rows j, c.in_ok-copy.ensures.form j) in
    record {
      copied = IsCopied-more (entries_of c.args.sources.now) (pair_of item) left (entries_of c.loop-source.copy) (entries_of c.insert.new.self) c.in_ok-copy.field-0 apart
          (subst (λ (z : List (Keyed Container)). IsCopied (entries_of c.args.sources.now) (map pair_of z) (entries_of c.loop-source.copy)) next c.loop-source.invariant.copied) c.in_ok-insert.ensures.ok same;
      width = c.in_ok-insert.ensures.width ∙ c.loop-source.invariant.width;
    }
