use Rattle.std.proofs.Common.{arith, List, length, sym, ap, ◌∙◌}
use Rattle.rc_row.proofs.Imports.{append-nil, flat_map, Slot, spaced}
use Rattle.rc_row.proofs.OpeningLemmas.{spaced_count}
use Rattle.rc_row.proofs.build.slots_of.Goals as goal

pub loop-init : goal.loop-init
loop-init c =
    let put = c.put_home-slots.ensures.items in
    let long = ap (λ (l : List Slot). length l) put ∙ spaced_count c.args.fragments.items in
    let same = c.put_home-slots.ensures.room in
    let room = c.requires.room.1 in record {
      slots = put ∙ sym (append-nil (flat_map spaced c.args.fragments.items));
      long = omega (arith, long);
      room = omega (arith, same, room);
    }
