use Rattle.std.proofs.Common.{arith, length-take, ℕ}
use Rattle.std.proofs.lemmas.Result.{err_from_is_err_and}
use Rattle.rc_io.proofs.Pieces.{passed_limit, within_limit}
use Rattle.rc_io.proofs.source.read_all.Goals as goal

pub returns-then-n-room-clause-taken : goal.returns-then-n-room-clause-taken
returns-then-n-room-clause-taken g c =
    passed_limit _ _ _ c.pieces.out.items c.read_some.new.buf c.in_ok-n.n c.args.limit c.pieces.invariant.so_far c.in_ok-n.ensures.bytes
    (omega arith) (omega arith) c.in_ok-n.ensures.fits (omega (arith, length-take {A = ℕ}))

pub returns-in_err-extend_from_slice-clause-taken : goal.returns-in_err-extend_from_slice-clause-taken
returns-in_err-extend_from_slice-clause-taken g c =
    let memory = c.from_residual-in_err-extend_from_slice in
    let fault = err_from_is_err_and memory.result memory.ensures.1 in
    rw (fault.1, fault.2) (within_limit _ _ _ c.pieces.out.items c.read_some.new.buf c.in_ok-n.n c.args.limit c.pieces.invariant.so_far
    c.in_ok-n.ensures.bytes (omega arith) (omega arith))
