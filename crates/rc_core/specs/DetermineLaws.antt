-- The passes determine the state.
use Rattle.std.proofs.Common.{◌≡◌, ℕ, ◌<◌, List, length, Some, sym, refl, ap, ◌∙◌, subst, arith}
use Rattle.rc_core.specs.Imports.{slice_get, nat_cmp, same_rising, slice_get_in, has_in, in_has, nat_order, has, Spec, fragment_of, Entry, own_placed, replay, same_places, stands_in_other}
use Rattle.std.proofs.lemmas.List.{ext_get_or}
use Rattle.std.proofs.lemmas.Bool.{false≢true, eq-eqb}
use Rattle.rc_core.specs.declared.state.PassState.{PassState}
use Rattle.rc_core.specs.declared.state.Keeper.{Keeper}
use Rattle.rc_core.specs.declared.state.Keeper.TheVariants.{Home, Writer}
use Rattle.rc_core.specs.declared.state.CoreState.{CoreState}
use Rattle.rc_core.specs.State.{is_writer, stripe_at, no_stripe, pass_at}
use Rattle.rc_core.specs.Good.{IsGoodPass, IsGoodKeeper, IsGood}
use Rattle.rc_core.specs.Laws.{PassesDetermineState}
use Rattle.rc_core.specs.AgreeLaws.{writer_of_pass}
use Rattle.rc_core.specs.RunLaws.{pass_there}

-- each entry of one history stands in the other at its place
entry_stands : (spec : Spec) (c d : CoreState) → IsGood spec c → IsGood spec d → c.passes ≡ d.passes → (i : ℕ) (e : Entry) → slice_get c.history i ≡ Some e → slice_get d.history i ≡ Some e
entry_stands spec c d good good' same i e at =
    let k : ℕ = e.pass in
    let lt : k < length c.passes = (good.history.entries e (slice_get_in c.history i e at)).pass in
    let u : PassState = pass_at c.passes k in
    let at_c : slice_get c.passes k ≡ Some u = pass_there c k lt in
    let at_d : slice_get d.passes k ≡ Some u = ap (λ (l : List PassState). slice_get l k) (sym same) ∙ at_c in
    let own : own_placed c.history k ≡ own_placed d.history k = sym (good.passes k u at_c).own ∙ (good'.passes k u at_d).own in
    stands_in_other c.history d.history i e own at

-- what one stripe is, in both states
module _ (spec : Spec) (c d : CoreState) (good : IsGood spec c) (good' : IsGood spec d) (same : c.passes ≡ d.passes) (history : c.history ≡ d.history) (p : ℕ) (in_c : p < length c.stripes) (in_d : p < length d.stripes) where
  both : (k : ℕ) (u : PassState) → slice_get c.passes k ≡ Some u → IsGoodPass spec d.history d.stripes k u
  both k u at = good'.passes k u (ap (λ (l : List PassState). slice_get l k) (sym same) ∙ at)

  same_writer : (k : ℕ) → k < length c.passes → is_writer (stripe_at c.stripes p).keeper k ≡ is_writer (stripe_at d.stripes p).keeper k
  same_writer k lt = let at = pass_there c k lt in sym ((good.passes k (pass_at c.passes k) at).writes p) ∙ (both k (pass_at c.passes k) at).writes p

  same_counted : (k : ℕ) → k < length c.passes → has (stripe_at c.stripes p).counted k ≡ has (stripe_at d.stripes p).counted k
  same_counted k lt = let at = pass_there c k lt in sym ((good.passes k (pass_at c.passes k) at).counts p) ∙ (both k (pass_at c.passes k) at).counts p

  many : length d.passes ≡ length c.passes
  many = ap (λ (l : List PassState). length l) (sym same)

  same_keeper : (stripe_at c.stripes p).keeper ≡ (stripe_at d.stripes p).keeper
  same_keeper = go (stripe_at c.stripes p).keeper (stripe_at d.stripes p).keeper (good.stripes p in_c).keeper (good'.stripes p in_d).keeper same_writer
    where
      go : (x y : Keeper) → IsGoodKeeper spec c.history (length c.passes) p x → IsGoodKeeper spec d.history (length d.passes) p y → ((k : ℕ) → k < length c.passes → is_writer x k ≡ is_writer y k) → x ≡ y
      go (Home rows) (Home rows') g h f = ap Home (g ∙ ap (λ (l : List Entry). fragment_of spec (replay spec l) p) history ∙ sym h)
      go (Home rows) (Writer k) g h f = absurd (false≢true (f k (omega (arith, h, many)) ∙ eq-eqb k k refl))
      go (Writer k) y g h f = sym (writer_of_pass y k (sym (f k g) ∙ eq-eqb k k refl))

  same_list : (stripe_at c.stripes p).counted ≡ (stripe_at d.stripes p).counted
  same_list =
      same_rising nat_cmp nat_order (stripe_at c.stripes p).counted (stripe_at d.stripes p).counted (good.stripes p in_c).rising (good'.stripes p in_d).rising
      (λ k m. in_has (stripe_at d.stripes p).counted k (sym (same_counted k ((good.stripes p in_c).known k m)) ∙ has_in (stripe_at c.stripes p).counted k m))
      (λ k m. in_has (stripe_at c.stripes p).counted k (same_counted k (subst (λ n. k < n) many ((good'.stripes p in_d).known k m)) ∙ has_in (stripe_at d.stripes p).counted k m))

  same_stripe : stripe_at c.stripes p ≡ stripe_at d.stripes p
  same_stripe = λ i. record { keeper = same_keeper i; counted = same_list i }

pub passes_determine : PassesDetermineState
passes_determine spec c d good good' same =
    let history : c.history ≡ d.history = same_places c.history d.history (entry_stands spec c d good good' same) (entry_stands spec d c good' good (sym same)) in
    let width : length c.stripes ≡ length d.stripes = good.all_stripes ∙ sym good'.all_stripes in
    let stripes : c.stripes ≡ d.stripes = ext_get_or no_stripe c.stripes d.stripes width (λ p lt. same_stripe spec c d good good' same history p lt (omega arith)) in
    λ i. record { history = history i; stripes = stripes i; passes = same i }
