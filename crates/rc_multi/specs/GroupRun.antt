-- What the run of a group leaves, and where it stands.
use Rattle.std.specs.Prelude.{◌≡◌, ℕ, List, length, map, take}
use Rattle.rc_multi.specs.Imports.{nat_cmp, IsRising, Pairs, Call, Reply, Spec, HeldStripe, Step, Hold, stripes_held}
use Rattle.rc_multi.specs.Group.{AreOfRelationFor, HaveServed}
use Rattle.rc_multi.specs.HeldStripes.{all_taken}

-- The calls with their replies are steps, which are served over what is held; and that, as taken, is what it was.
pub record HasRunGroup (spec : Spec) (calls : List Call) (old new : List HeldStripe) (replies : List Reply) : Type 0 where
  pub steps : List Step
  pub calls_are : map (λ (s : Step). s.call) steps ≡ calls
  pub replies_are : map (λ (s : Step). s.reply) steps ≡ replies
  pub served : HaveServed spec new steps
  pub taken : all_taken new ≡ all_taken old

-- after so many of the calls, where these holds were taken: those calls with the replies so far are steps, which are served
pub record IsGroupAt (spec : Spec) (calls : List Call) (n : ℕ) (first : List Hold) (held : List HeldStripe) (replies : List Reply) : Type 0 where
  pub steps : List Step
  pub calls_are : map (λ (s : Step). s.call) steps ≡ take n calls
  pub replies_are : map (λ (s : Step). s.reply) steps ≡ replies
  pub served : HaveServed spec held steps
  pub relation : (r : List Pairs) × AreOfRelationFor spec held r (length calls)
  pub rising : IsRising nat_cmp (stripes_held held)
  pub taken : all_taken held ≡ first
