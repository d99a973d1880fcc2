use Rattle.std.proofs.Common.{◌≡◌, ◌∷◌, ◌↔◌, ℕ, length}
use Rattle.rc_bindings.proofs.Imports.{chunks_exact_rest, chunks_exact_size, IsRising, tuple_cmp, AreRows, tuples_in, tuple_in}
use Rattle.rc_bindings.proofs.bindings.Bindings.rises.Given as goal

-- all rise where the rest does, behind the row before it
abbrev pub invariant-loop-later : goal.invariant-loop-later
invariant-loop-later l = record {
  size : chunks_exact_size l.later-iterator ≡ l.self-inside.width;
  wide : length l.earlier ≡ l.self-inside.width;
  left : ℕ;
  rows : AreRows l.self-inside.width left (chunks_exact_rest l.later-iterator);
  rest : IsRising tuple_cmp l.fn.self.tuples
      ↔ IsRising tuple_cmp (tuple_in l.self-inside.cols l.earlier ∷ tuples_in l.self-inside.cols l.self-inside.width left (chunks_exact_rest l.later-iterator));
}
