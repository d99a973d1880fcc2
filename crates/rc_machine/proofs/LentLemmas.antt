-- All but what is lent is the same.
use Rattle.std.specs.Prelude.{◌≡◌, List, Result, Ok, Err}
use Rattle.std.proofs.Common.{inl, refl, sym, ap, ◌∙◌}
use Rattle.rc_machine.proofs.Imports.{GoesOn, Holding, LentStripe, IsSameButLent, CountsOnlyHeld, Stop}
use Rattle.rc_machine.specs.declared.stop.Stop.TheVariants as stop

abbrev with_lent : Holding → List LentStripe → Holding
with_lent s ls = record s { lent = ls }

-- other stripes are lent
pub lent_new : (old new : Holding) (ls : List LentStripe) → new ≡ record old { lent = ls } → IsSameButLent old new
lent_new old new ls e = e ∙ ap (with_lent old) (sym (ap (λ (s : Holding). s.lent) e))

pub lent_again : (a b c : Holding) → IsSameButLent a b → IsSameButLent b c → IsSameButLent a c
lent_again a b c p q = q ∙ ap (λ (s : Holding). with_lent s c.lent) p

pub lent_table : (old new : Holding) → IsSameButLent old new → new.table ≡ old.table
lent_table old new e = ap (λ (s : Holding). s.table) e

pub lent_goes_on : (old new : Holding) → IsSameButLent old new → GoesOn old new
lent_goes_on old new e = record {
  table = lent_table old new e;
  lends = ap (λ (s : Holding). s.lends) e;
  offered = ap (λ (s : Holding). s.offered) e;
  through = ap (λ (s : Holding). s.through) e;
  refused = inl (ap (λ (s : Holding). s.refusals) e, ap (λ (s : Holding). s.last_refusal) e);
}

-- and no refused take is counted
pub counted_lent : {T : Type 0} (r : Result T Stop) (old new : Holding) → IsSameButLent old new → CountsOnlyHeld r old new
counted_lent (Ok x) old new e = ap (λ (s : Holding). s.refusals) e
counted_lent (Err stop.Memory) old new e = ap (λ (s : Holding). s.refusals) e
counted_lent (Err (stop.Held held)) old new e = tt

pub counted_same : {T : Type 0} (r : Result T Stop) (s : Holding) → CountsOnlyHeld r s s
counted_same r s = counted_lent r s s refl
