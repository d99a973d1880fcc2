-- A holder that took all back.
use Rattle.std.specs.Prelude.{◌≡◌, Err, List, [], ◌∷◌, map}
use Rattle.std.proofs.Common.{inl, refl, sym, ap, subst, ◌∙◌}
use Rattle.rc_machine.proofs.Imports.{In, in_map, GoesOn, HeldStripe, Holding, all_reverted, held_of, reverted, goes_on_again, held-reverted, Call, SpecWithPlans, AreAsTaken, AreTakenAsOffered, HasRunCall}
use Rattle.rc_machine.specs.declared.stop.Stop.TheVariants as stop
use Rattle.rc_machine.proofs.GoLemmas.{told_alike}

back_on : (mid new : Holding) → new ≡ all_reverted mid → GoesOn mid new
back_on mid new e = subst (GoesOn mid) (sym e) (record { table = refl; lends = refl; offered = refl; through = refl; refused = inl (refl, refl) })

pub back_goes_on : (old mid new : Holding) → new ≡ all_reverted mid → GoesOn old mid → GoesOn old new
back_goes_on old mid new e on = goes_on_again old mid new on (back_on mid new e)

twice : (held : List HeldStripe) → map reverted (map reverted held) ≡ map reverted held
twice [] = refl
twice (h ∷ held) = λ i. reverted h ∷ twice held i

pub back_taken : (mid new : Holding) → new ≡ all_reverted mid → AreTakenAsOffered mid → AreTakenAsOffered new
back_taken mid new e told =
    told_alike mid new (back_on mid new e) (ap (map reverted) (ap held_of e ∙ held-reverted mid) ∙ twice (held_of mid)) told

pub back_as_taken : (mid new : Holding) → new ≡ all_reverted mid → AreAsTaken (held_of new)
back_as_taken mid new e h m =
    let w : (g : HeldStripe) × In g (held_of mid) × (h ≡ reverted g) = in_map reverted h (held_of mid) (subst (In h) (ap held_of e ∙ held-reverted mid) m) in
    ap (λ (z : HeldStripe). z.now) w.2 ∙ sym (ap (λ (z : HeldStripe). z.taken) w.2)

-- a run that wanted memory, once all is taken back
pub run_back : (compiled : SpecWithPlans) (call : Call) (old mid new : Holding) → new ≡ all_reverted mid → HasRunCall compiled call old mid (Err stop.Memory) → HasRunCall compiled call old new (Err stop.Memory)
run_back compiled call old mid new e by = record {
  answered = tt;
  taken = back_taken mid new e by.taken;
  stopped = λ h is. absurd cc;
  refused = λ h is. absurd cc;
  counted = ap (λ (s : Holding). s.refusals) e ∙ by.counted;
  goes_on = back_goes_on old mid new e by.goes_on;
}
