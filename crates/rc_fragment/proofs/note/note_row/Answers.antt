use Rattle.std.proofs.Common.{◌≤◌, ap, arith, length, ◌∙◌, subst}
use Rattle.rc_fragment.proofs.NoteLemmas.{few_pairs}
use Rattle.rc_fragment.proofs.PartLemmas.{AreParted, extra_read, key_read, source_read}
use Rattle.rc_fragment.proofs.note.note_row.Goals as goal
use Rattle.rc_fragment.proofs.note.note_row.Goals.{After-push_parts-key_start}

pub push_parts-key_start-requires-clause-room : goal.push_parts-key_start-requires-clause-room
push_parts-key_start-requires-clause-room c =
    let few : length c.args.row.now ≤ 32 = few_pairs c.args.row.now c.pairs.ensures.tuple in
    omega (arith, c.requires.room, few, ap length c.pairs.ensures.pairs)

-- the row's values, by their parts
parted : (c : After-push_parts-key_start) → AreParted c.args.shape.now c.args.values.now.items c.args.row.now c.push_parts-key_start.new.values.items c.push_parts-key_start.result.0 c.push_parts-key_start.result.1
parted c = subst (λ t. AreParted c.args.shape.now c.args.values.now.items t c.push_parts-key_start.new.values.items c.push_parts-key_start.result.0 c.push_parts-key_start.result.1) c.pairs.ensures.pairs record {
  values_are = c.push_parts-key_start.ensures.values;
  key_is = c.push_parts-key_start.ensures.key;
  extra_is = c.push_parts-key_start.ensures.extra;
}

pub returns-clause-place : goal.returns-clause-place
returns-clause-place c =
    let are = parted (goal.at.returns-clause-place c).After-push_parts-key_start in
    let s = source_read c.args.shape.now c.args.values.now.items c.args.row.now c.push_parts-key_start.new.values.items c.len-start.result _ _ (c.len-start.ensures ∙ c.args.values.now.ok.0) are in
    let k = key_read c.args.shape.now c.args.values.now.items c.args.row.now c.push_parts-key_start.new.values.items c.len-start.result _ _ (c.len-start.ensures ∙ c.args.values.now.ok.0) are in
    λ i. (c.args.edge, s i, k i)

pub returns-clause-extra : goal.returns-clause-extra
returns-clause-extra c =
    extra_read c.args.shape.now c.args.values.now.items c.args.row.now c.push_parts-key_start.new.values.items c.len-start.result _ _ (c.len-start.ensures ∙ c.args.values.now.ok.0)
    (parted (goal.at.returns-clause-extra c).After-push_parts-key_start) c.len.result (c.len.ensures ∙ c.push_parts-key_start.new.values.ok.0)

pub returns-clause-room : goal.returns-clause-room
returns-clause-room c =
    let few : length c.args.row.now ≤ 32 = few_pairs c.args.row.now c.pairs.ensures.tuple in
    omega (arith, few, ap length c.pairs.ensures.pairs, c.push_parts-key_start.ensures.len)
