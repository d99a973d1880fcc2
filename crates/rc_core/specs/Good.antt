-- Good states.
use Rattle.std.specs.Prelude.{◌≡◌, ℕ, ◌<◌, ◌≤◌, ◌^◌, false, List, length, Some}
use Rattle.rc_core.specs.Imports.{slice_get, nat_cmp, In, IsRising, has, Spec, fragment_of, stripe_total, Entry, IsLegal, replay, IsNumbered, AllFit, own_placed, Placed}
use Rattle.rc_core.specs.declared.state.Hold.{Hold}
use Rattle.rc_core.specs.declared.state.PassState.{PassState}
use Rattle.rc_core.specs.declared.state.Keeper.{Keeper}
use Rattle.rc_core.specs.declared.state.Keeper.TheVariants.{Home, Writer}
use Rattle.rc_core.specs.declared.state.StripeState.{StripeState}
use Rattle.rc_core.specs.declared.state.CoreState.{CoreState}
use Rattle.rc_core.specs.State.{has_writer, is_writer, stripe_at, writes_of, shares_of, counts_at}
use Rattle.rc_core.specs.Passes.{IsAbove}

-- each hold has the rows that the history leaves on its stripe
abbrev pub HaveRows : Spec → List Entry → List Hold → Type 0
HaveRows spec history holds = (h : Hold) → In h holds → h.rows ≡ fragment_of spec (replay spec history) h.stripe

-- what one pass is, in a good state
pub record IsGoodPass (spec : Spec) (history : List Entry) (stripes : List StripeState) (k : ℕ) (u : PassState) : Type 0 where
  pub number : u.number ≡ k
  pub writes : (p : ℕ) → has (writes_of u) p ≡ is_writer (stripe_at stripes p).keeper k
  pub counts : (p : ℕ) → counts_at u p ≡ has (stripe_at stripes p).counted k
  -- what it shares nobody writes
  pub beside : (p : ℕ) → In p (shares_of u) → has_writer (stripe_at stripes p).keeper ≡ false
  pub rows : HaveRows spec history u.held
  pub own : u.own ≡ own_placed history k
  pub few : length u.own ≤ 2 ^ 48
  pub seen : u.seen ≤ length history
  pub sees_own : (x : Placed) → In x u.own → x.place < u.seen
  pub wish : (p : ℕ) → u.wish ≡ Some p → IsAbove u p
  pub turning : (p : ℕ) → u.turning ≡ Some p → u.wish ≡ Some p

-- rows at home are those that the history leaves, and a writer is a pass
abbrev pub IsGoodKeeper : Spec → List Entry → ℕ → ℕ → Keeper → Type 0
IsGoodKeeper spec history passes p (Home rows) = rows ≡ fragment_of spec (replay spec history) p
IsGoodKeeper spec history passes p (Writer k) = k < passes

-- what one stripe is, in a good state
pub record IsGoodStripe (spec : Spec) (history : List Entry) (passes p : ℕ) (s : StripeState) : Type 0 where
  pub keeper : IsGoodKeeper spec history passes p s.keeper
  pub rising : IsRising nat_cmp s.counted
  pub known : (k : ℕ) → In k s.counted → k < passes

-- an entry is of a pass, with 1 to 16 steps
pub record IsGoodEntry (passes : ℕ) (e : Entry) : Type 0 where
  pub pass : e.pass < passes
  pub some : 1 ≤ length e.steps
  pub few : length e.steps ≤ 16

pub record IsGoodHistory (spec : Spec) (passes : ℕ) (history : List Entry) : Type 0 where
  pub legal : IsLegal spec history
  pub fit : AllFit spec history
  pub numbered : IsNumbered history
  pub entries : (e : Entry) → In e history → IsGoodEntry passes e

-- The history is good, has all that the pass has made, at its places, and leaves the rows that the pass holds.
pub record IsOfHistory (spec : Spec) (passes : ℕ) (history : List Entry) (u : PassState) : Type 0 where
  pub good : IsGoodHistory spec passes history
  pub own : u.own ≡ own_placed history u.number
  pub rows : HaveRows spec history u.held

pub record IsGood (spec : Spec) (c : CoreState) : Type 0 where
  pub passes : (k : ℕ) (u : PassState) → slice_get c.passes k ≡ Some u → IsGoodPass spec c.history c.stripes k u
  pub stripes : (p : ℕ) → p < length c.stripes → IsGoodStripe spec c.history (length c.passes) p (stripe_at c.stripes p)
  pub history : IsGoodHistory spec (length c.passes) c.history
  pub some_pass : 1 ≤ length c.passes
  pub few_passes : length c.passes ≤ 255
  pub all_stripes : length c.stripes ≡ stripe_total spec
