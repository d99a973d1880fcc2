-- Stripes on which a tuple falls.
use Rattle.std.specs.Prelude.{◌≡◌, List}
use Rattle.rc_machine.specs.Imports.{In, Within, Pairs, cols_of, Spec, class_at, physical_stripe}
use Rattle.rc_machine.specs.declared.stripe.ClassStripe.{ClassStripe}

-- the tuple, which has the class's columns, falls on this stripe of it
pub record IsStripeOf (spec : Spec) (t : Pairs) (s : ClassStripe) : Type 0 where
  pub falls : s.stripe ≡ physical_stripe spec s.class t
  pub within : Within (class_at spec s.class).cols (cols_of t)

abbrev pub AreStripesOf : Spec → Pairs → List ClassStripe → Type 0
AreStripesOf spec t stripes = (s : ClassStripe) → In s stripes → IsStripeOf spec t s
