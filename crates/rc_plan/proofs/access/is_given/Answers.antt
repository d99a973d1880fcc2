use Rattle.rc_plan.proofs.Imports.{List, ℕ, subst, In}
use Rattle.rc_plan.proofs.access.is_given.Goals as goal

pub from_list-requires : goal.from_list-requires
from_list-requires c n m = c.requires n (subst (λ (cols : List ℕ). In n cols) c.list.ensures m)
