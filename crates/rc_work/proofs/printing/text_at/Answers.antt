use Rattle.std.proofs.Common.{[], List, ℕ, ◌∙◌}
use Rattle.rc_work.proofs.Imports.{unwrap_or-slice_get, unwrap_or, slice_get}
use Rattle.std.proofs.Common.{◌≡◌, ap, None, get_or}
use Rattle.rc_work.proofs.printing.text_at.Goals as goal

none_there : (texts : List (List ℕ)) (rank : ℕ) → None ≡ slice_get texts rank → [] ≡ get_or texts rank []
none_there texts rank e = ap (λ o. unwrap_or o []) e ∙ unwrap_or-slice_get texts rank []

pub returns-in-None : goal.returns-in-None
returns-in-None c = none_there c.args.ranks.now c.args.rank c.in-None.ensures.text
