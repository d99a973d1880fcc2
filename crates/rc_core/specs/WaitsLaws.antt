-- No good state has a circle of waits.
use Rattle.std.proofs.Common.{◌≡◌, ℕ, ◌<◌, List, [], ◌∷◌, Option, Some, None, sym, ap, ◌∙◌, subst, arith}
use Rattle.rc_core.specs.Imports.{slice_get, In, Spec}
use Rattle.rc_core.specs.declared.state.PassState.{PassState}
use Rattle.rc_core.specs.declared.state.CoreState.{CoreState}
use Rattle.rc_core.specs.State.{stripes_in, no_pass}
use Rattle.rc_core.specs.Good.{IsGood}
use Rattle.rc_core.specs.Laws.{NoCircleOfWaits}
use Rattle.rc_core.specs.Waits.{WaitsFor, WaitAlong}

abbrev pub the_pass : Option PassState → PassState
the_pass (Some u) = u
the_pass None = no_pass

pub same_pass : (passes : List PassState) (k : ℕ) (u v : PassState) → slice_get passes k ≡ Some u → slice_get passes k ≡ Some v → u ≡ v
same_pass passes k u v e f = ap the_pass (sym e ∙ f)

abbrev wanted : Option ℕ → ℕ
wanted (Some p) = p
wanted None = 0

-- the pass a wants a stripe below q
record WantsBelow (c : CoreState) (a q : ℕ) : Type 0 where
  pub pass : PassState
  pub stripe : ℕ
  pub at : slice_get c.passes a ≡ Some pass
  pub wish : pass.wish ≡ Some stripe
  pub less : stripe < q

one_wait : (spec : Spec) (c : CoreState) (a b : ℕ) (w : PassState) (q : ℕ) → IsGood spec c → WaitsFor c a b → slice_get c.passes b ≡ Some w → w.wish ≡ Some q → WantsBelow c a q
one_wait spec c a b w q good x at wish = record {
  pass = x.wants;
  stripe = x.stripe;
  at = x.at_a;
  wish = x.wish;
  less = (good.passes b w at).wish q wish x.stripe (subst (λ (u : PassState). In x.stripe (stripes_in u.held)) (same_pass c.passes b x.has w x.at_b at) x.held);
}

-- along waits the wanted stripes rise
wants_rise : (spec : Spec) (c : CoreState) (between : List ℕ) (a z : ℕ) (w : PassState) (q : ℕ) → IsGood spec c → WaitAlong c a between z → slice_get c.passes z ≡ Some w → w.wish ≡ Some q → WantsBelow c a q
wants_rise spec c [] a z w q good x at wish = one_wait spec c a z w q good x at wish
wants_rise spec c (b ∷ between) a z w q good x at wish =
    let r = wants_rise spec c between b z w q good x.1 at wish in
    let s = one_wait spec c a b r.pass r.stripe good x.0 r.at r.wish in
    record { pass = s.pass; stripe = s.stripe; at = s.at; wish = s.wish; less = (let l = s.less in let m = r.less in omega arith) }

first_wait : (c : CoreState) (a : ℕ) (between : List ℕ) (z : ℕ) → WaitAlong c a between z → (u : PassState) × (p : ℕ) × (slice_get c.passes a ≡ Some u) × (u.wish ≡ Some p)
first_wait c a [] z x = (x.wants, x.stripe, x.at_a, x.wish)
first_wait c a (b ∷ between) z x = (x.0.wants, x.0.stripe, x.0.at_a, x.0.wish)

pub no_circle : NoCircleOfWaits
no_circle spec c [] good x = x
no_circle spec c (a ∷ between) good x =
    let f = first_wait c a between a x in
    let r = wants_rise spec c between a a f.0 f.1 good x f.2 f.3 in
    let same : r.pass ≡ f.0 = same_pass c.passes a r.pass f.0 r.at f.2 in
    let stripe : r.stripe ≡ f.1 = ap wanted (sym r.wish ∙ ap (λ (u : PassState). u.wish) same ∙ f.3) in
    let l = r.less in
    omega arith
