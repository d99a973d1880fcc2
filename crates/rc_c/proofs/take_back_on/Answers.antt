use Rattle.std.proofs.Common.{◌≤◌, length, refl, inr, arith}
use Rattle.rc_c.proofs.Imports.{pass_count, some_outside_leave_room}
use Rattle.rc_c.proofs.take_back_on.Goals as goal

pub returns-in-Err : goal.returns-in-Err
returns-in-Err c =
    let full : pass_count c.args.store.now ≤ length c.args.store.now.passes =
    c.in-Err.ensures.cause c.settled.ensures.idle in
    record {
      done = refl;
      idle = c.settled.result;
      settled = c.settled.ensures;
      back = inr (c.in-Err.ensures.back.1, full);
      taken = λ before after k out.
          let room = some_outside_leave_room c.args.store.now before after k out in absurd (omega (arith, full, room));
    }
