use Rattle.std.proofs.Common.{◌≡◌, ◌∷◌, [], ◌++◌, ℕ, true, sym, ap, subst, ◌∙◌, arith}
use Rattle.rc_fragment.proofs.Imports.{zip, IfOk, has, in_has, Pairs, row_from, EdgeShape}
use Rattle.rc_fragment.proofs.BesideLemmas.{below_all, below_with, below_without, length_all, values_below}
use Rattle.rc_fragment.proofs.rows.row_of.Goals as goal
use Rattle.rc_fragment.proofs.rows.row_of.Goals.{then-has+in_ok-push, else-has}

pub value_of-requires-clause-there : goal.value_of-requires-clause-there
value_of-requires-clause-there c = in_has c.args.shape.now.target c.loop-col.col (sym c.has.ensures.found ∙ c.if-has.true)

pub loop-col-preserved : goal.loop-col-preserved
loop-col-preserved c =
    let shape : EdgeShape = c.args.shape.now in
    let row : Pairs = (row_from c.args.shape.now c.args.source.now c.args.key.now c.args.extra.now) in
    let col : ℕ = c.loop-col.col in
    elim c.if-has.branch [
      | then-has+in_ok-push w ↦
          let there : has shape.target col ≡ true = sym c.has.ensures.found ∙ w.if-has.true in
          ap (λ v. v.items) w.vals-is ∙ w.in_ok-push.ensures.items
          ∙ (λ i. c.loop-col.invariant i ++ w.value_of.ensures i ∷ [])
          ∙ below_with shape.target row c.requires.parted.target c.requires.values.columns col there (in_has shape.target col there)
      | else-has w ↦
          ap (λ v. v.items) w.vals-is ∙ c.loop-col.invariant ∙ below_without shape.target row c.requires.parted.target c.requires.values.columns col (sym c.has.ensures.found ∙ w.if-has.false)
    ]

pub new-requires : goal.new-requires
new-requires c =
    let shape : EdgeShape = c.args.shape.now in
    let row : Pairs = (row_from c.args.shape.now c.args.source.now c.args.key.now c.args.extra.now) in
    let end : c.loop-col.col ≡ 32 = omega arith in
    length_all shape.target row c.requires.parted.target c.requires.values.columns c.from_vec.result (c.from_vec.ensures ∙ c.loop-col.invariant ∙ ap (values_below shape.target row) end)

pub returns : goal.returns
returns c =
    let shape : EdgeShape = c.args.shape.now in
    let row : Pairs = (row_from c.args.shape.now c.args.source.now c.args.key.now c.args.extra.now) in
    let end : c.loop-col.col ≡ 32 = omega arith in
    let e : zip shape.target c.from_vec.result ≡ row =
    below_all shape.target row c.requires.parted.target c.requires.values.columns c.from_vec.result (c.from_vec.ensures ∙ c.loop-col.invariant ∙ ap (values_below shape.target row) end) in
    subst (λ z. IfOk c.new.result (λ t. t ≡ z)) e c.new.ensures
