use Rattle.std.proofs.Common.{◌≡◌, ◌-◌, List, length, Some, option_copied, refl, sym, ap, ◌∙◌, subst}
use Rattle.rc_row.proofs.Imports.{slice_get, In, slice_get_in, HeldRows, PassSeen}
use Rattle.rc_row.proofs.pass.Pass.last.Goals as goal

pub returns-clause-some : goal.returns-clause-some
returns-clause-some c =
    let held = c.deref.result.now in
    let here = c.in_ok-held.held.now in
    let is : Some here ≡ slice_get held (length held - 1) = ap option_copied (sym c.in_ok-held.was) ∙ c.last.ensures.value in
    record {
      here = here;
      among = subst (λ (hs : List HeldRows). In here hs) (c.deref.ensures.value ∙ ap (λ (s : PassSeen). s.held) c.self.view_is) (slice_get_in held (length held - 1) here (sym is));
      stripe_is = refl;
      mode_is = refl;
    }
