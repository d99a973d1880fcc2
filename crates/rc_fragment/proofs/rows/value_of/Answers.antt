use Rattle.std.proofs.Common.{sym, ap, subst, ◌∙◌}
use Rattle.rc_fragment.proofs.Imports.{length, zip, In, in_has, Pairs, value, extra_columns, row_from, extra_set, extra_within, EdgeShape}
use Rattle.rc_fragment.proofs.BesideLemmas.{in_extra, in_part}
use Rattle.rc_fragment.proofs.WalkLemmas.{AreWide, wide}
use Rattle.rc_fragment.proofs.rows.value_of.Goals as goal

pub value_beside-requires-clause-there : goal.value_beside-requires-clause-there
value_beside-requires-clause-there c = in_has c.args.shape.now.source c.args.col (sym c.has.ensures.found ∙ c.if-has.true)

pub value_beside-requires-clause-fits : goal.value_beside-requires-clause-fits
value_beside-requires-clause-fits c =
    let w : AreWide c.args.shape.now c.args.source.now c.args.key.now c.args.extra.now = wide c.args.shape.now c.requires.parted (row_from c.args.shape.now c.args.source.now c.args.key.now c.args.extra.now) c.args.source.now c.args.key.now c.args.extra.now c.requires.values in
    w.sources

pub returns-then-has : goal.returns-then-has
returns-then-has c =
    let shape : EdgeShape = c.args.shape.now in
    let row : Pairs = (row_from c.args.shape.now c.args.source.now c.args.key.now c.args.extra.now) in
    let m : In c.args.col shape.source = in_has shape.source c.args.col (sym c.has.ensures.found ∙ c.if-has.true) in
    c.value_beside.ensures ∙ in_part shape.target shape.source c.args.source.now row c.args.col c.requires.parted.target.rising c.requires.parted.source.rising c.requires.parted.source_within
    c.requires.values.columns c.requires.values.source_is m

pub value_beside-requires-then-has-2-clause-there : goal.value_beside-requires-then-has-2-clause-there
value_beside-requires-then-has-2-clause-there c = in_has c.args.shape.now.key c.args.col (sym c.has-2.ensures.found ∙ c.if-has-2.true)

pub value_beside-requires-then-has-2-clause-fits : goal.value_beside-requires-then-has-2-clause-fits
value_beside-requires-then-has-2-clause-fits c =
    let w : AreWide c.args.shape.now c.args.source.now c.args.key.now c.args.extra.now = wide c.args.shape.now c.requires.parted (row_from c.args.shape.now c.args.source.now c.args.key.now c.args.extra.now) c.args.source.now c.args.key.now c.args.extra.now c.requires.values in
    w.keys

pub returns-then-has-2 : goal.returns-then-has-2
returns-then-has-2 c =
    let shape : EdgeShape = c.args.shape.now in
    let row : Pairs = (row_from c.args.shape.now c.args.source.now c.args.key.now c.args.extra.now) in
    let m : In c.args.col shape.key = in_has shape.key c.args.col (sym c.has-2.ensures.found ∙ c.if-has-2.true) in
    c.value_beside-then-has-2.ensures ∙ in_part shape.target shape.key c.args.key.now row c.args.col c.requires.parted.target.rising c.requires.parted.key.rising c.requires.parted.key_within
    c.requires.values.columns c.requires.values.key_is m

pub value_beside-requires-2-clause-there : goal.value_beside-requires-2-clause-there
value_beside-requires-2-clause-there c =
    subst (In c.args.col) (sym c.extra.ensures.columns)
    (in_extra c.args.shape.now c.args.col c.requires.there (sym c.has.ensures.found ∙ c.if-has.false) (sym c.has-2.ensures.found ∙ c.if-has-2.false))

pub value_beside-requires-2-clause-fits : goal.value_beside-requires-2-clause-fits
value_beside-requires-2-clause-fits c =
    let w : AreWide c.args.shape.now c.args.source.now c.args.key.now c.args.extra.now = wide c.args.shape.now c.requires.parted (row_from c.args.shape.now c.args.source.now c.args.key.now c.args.extra.now) c.args.source.now c.args.key.now c.args.extra.now c.requires.values in
    w.extras ∙ ap length (sym c.extra.ensures.columns)

pub returns : goal.returns
returns c =
    let shape : EdgeShape = c.args.shape.now in
    let row : Pairs = (row_from c.args.shape.now c.args.source.now c.args.key.now c.args.extra.now) in
    let m : In c.args.col (extra_columns shape) = in_extra shape c.args.col c.requires.there (sym c.has.ensures.found ∙ c.if-has.false) (sym c.has-2.ensures.found ∙ c.if-has-2.false) in
    c.value_beside-2.ensures ∙ ap (λ z. value (zip z c.args.extra.now) c.args.col) c.extra.ensures.columns
    ∙ in_part shape.target (extra_columns shape) c.args.extra.now row c.args.col c.requires.parted.target.rising (extra_set shape c.requires.parted).rising (extra_within shape c.requires.parted)
    c.requires.values.columns c.requires.values.extra_is m
