use Rattle.std.proofs.Common.{◌≡◌, ◌∙◌, ℕ, take, refl, sym, ap, subst, arith}
use Rattle.rc_c.proofs.Imports.{Memory, IsOpenedWithBy, OpenSeen}
use Rattle.rc_c.proofs.opened_shaped.Goals as goal

pub returns-in-Ok-new-clause-opened : goal.returns-in-Ok-new-clause-opened
returns-in-Ok-new-clause-opened c =
    let is : c.in-Ok.store ≡ c.leak.result.now = sym (c.leak.ensures.value ∙ c.in-Ok-new.ensures.ok) in (
      record {
        store = c.leak.result.now;
        opened = subst (λ (store : OpenSeen). IsOpenedWithBy c.args.text.now c.args.shapes.now c.args.plans.now c.args.frame.now store) is c.in-Ok.ensures.opened;
        none = c.in-Ok.ensures.none;
      },
      refl,
    )

pub returns-clause-refused : goal.returns-clause-refused
returns-clause-refused c =
    let is = c.in-Ok.ensures.opened in
    let none = c.in-Ok.ensures.none in
    record {
      fault = Memory;
      cause = (is.texts.allowed, is.texts.short);
      code_is = refl;
      told = record {
        told = λ short. (none, ap (λ (n : ℕ). take n c.open_with_by.new.frame.refusal) none);
        long = λ above. absurd (omega (arith, above));
      };
    }
