use Rattle.std.proofs.Common.{sym, ap, ◌∙◌}
use Rattle.rc_tuple.proofs.Imports.{le-ltb, has, has-columns_of_shifted, has_above, IsColSet-from_mask}
use Rattle.rc_tuple.proofs.col_set.ColSet.has.Goals as goal

pub returns-then-col-lt-MAX_COLS-clause-found : goal.returns-then-col-lt-MAX_COLS-clause-found
returns-then-col-lt-MAX_COLS-clause-found c =
    has-columns_of_shifted c.self.inside.mask c.args.col c.if-col-lt-MAX_COLS.true ∙ ap (λ xs. has xs c.args.col) c.self.view_is

pub returns-then-col-lt-MAX_COLS-clause-set : goal.returns-then-col-lt-MAX_COLS-clause-set
returns-then-col-lt-MAX_COLS-clause-set c = IsColSet-from_mask c.self.inside.mask c.args.self c.self.view_is

pub returns-else-col-lt-MAX_COLS-clause-found : goal.returns-else-col-lt-MAX_COLS-clause-found
returns-else-col-lt-MAX_COLS-clause-found c =
    le-ltb c.args.col 32 c.if-col-lt-MAX_COLS.false ∙ sym (has_above c.self.inside.mask c.args.col c.if-col-lt-MAX_COLS.false)
    ∙ ap (λ xs. has xs c.args.col) c.self.view_is

pub returns-else-col-lt-MAX_COLS-clause-set : goal.returns-else-col-lt-MAX_COLS-clause-set
returns-else-col-lt-MAX_COLS-clause-set c = IsColSet-from_mask c.self.inside.mask c.args.self c.self.view_is
