use Rattle.std.proofs.Common.{◌+◌, ◌-◌, ◌*◌, ◌/◌, ◌≤◌, ◌<◌, ◌++◌, min, take, drop, length, ap, ◌∙◌, arith}
use Rattle.rc_embed.proofs.EvenRowsLemmas.{IsPiece, piece_copied, piece_of, piece_within}
use Rattle.rc_embed.proofs.replies.copy_even.Goals as goal
use Rattle.rc_embed.proofs.replies.copy_even.Goals.{After-min-count}

-- as many rows are copied as there are, or as there is room for
piece : (c : After-min-count) → IsPiece c.args.width c.args.from c.args.rows.now (length c.args.out.now) c.min-count.result
piece c =
    let below : c.args.from < length c.args.rows.now = omega (arith, c.len.ensures, c.if-from-len.false) in
    piece_of c.args.width c.args.from c.args.rows.now (length c.args.out.now) c.min-count.result c.requires.some c.requires.even below
    (c.min-count.ensures ∙ ap (λ n. min (n - c.args.from) (length c.args.out.now / c.args.width)) c.len-2.ensures)

within : (c : After-min-count) → c.args.from * c.args.width + c.min-count.result * c.args.width ≤ length c.values-values.result.now
within c =
    let all = ap length c.values-values.ensures in
    omega (arith, all, piece_within c.args.width c.args.from c.args.rows.now (length c.args.out.now) c.min-count.result (piece c))

pub overflow_mul-from : goal.overflow_mul-from
overflow_mul-from c =
    let fits = within (goal.at.overflow_mul-from c).After-min-count in
    omega (arith, fits)

pub copy_piece-requires-clause-within : goal.copy_piece-requires-clause-within
copy_piece-requires-clause-within c = within (goal.at.copy_piece-requires-clause-within c).After-min-count

pub returns : goal.returns
returns c =
    piece_copied c.args.width c.args.from c.args.rows.now c.args.out.now c.copy_piece.new.out c.min-count.result (piece (goal.at.returns c).After-min-count)
    (c.copy_piece.ensures ∙ ap (λ l. take (c.min-count.result * c.args.width) (drop (c.args.from * c.args.width) l) ++ drop (c.min-count.result * c.args.width) c.args.out.now) c.values-values.ensures)
