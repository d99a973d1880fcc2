-- Runs of events stay good.
use Rattle.std.proofs.Common.{◌≡◌, ℕ, ◌<◌, List, [], ◌∷◌, length, Some, subst, sym, ap, ◌∙◌}
use Rattle.rc_core.specs.Imports.{slice_get, Spec, SpecWithPlans, IsCompiled, own_placed, states_satisfy}
use Rattle.std.proofs.lemmas.Option.{slice_get-get_or}
use Rattle.rc_core.specs.declared.state.CoreState.{CoreState}
use Rattle.rc_core.specs.declared.state.PassState.{PassState}
use Rattle.rc_core.specs.declared.event.Event.{Event}
use Rattle.rc_core.specs.declared.event.Event.TheVariants as event
use Rattle.rc_core.specs.State.{no_pass, pass_at}
use Rattle.rc_core.specs.Events.{after, AreAllowed, after_all, start}
use Rattle.rc_core.specs.Good.{IsGoodKeeper, IsGood, IsOfHistory}
use Rattle.rc_core.specs.Laws.{EventsKeepGoodness, IsSound, RunsAreSound}
use Rattle.rc_core.specs.KeepsLaws.{lock_keeps, block_keeps, share_keeps, back_keeps, leave_keeps, unlock_keeps, learn_keeps}
use Rattle.rc_core.specs.CommitLaws.{commit_keeps}
use Rattle.rc_core.specs.StartLaws.{start_is_good}

pub pass_there : (c : CoreState) (k : ℕ) → k < length c.passes → slice_get c.passes k ≡ Some (pass_at c.passes k)
pass_there c k lt = slice_get-get_or c.passes k no_pass lt

pub events_keep : EventsKeepGoodness
events_keep compiled ok c good (event.Lock k p) a = lock_keeps compiled.spec c k p (pass_at c.passes k) good (pass_there c k a.0.0) a.0.1 a.1 a.2
events_keep compiled ok c good (event.Block k p) a = block_keeps compiled.spec c k (pass_at c.passes k) good (pass_there c k a.0.0) p a.1
events_keep compiled ok c good (event.Share k p) a = share_keeps compiled.spec c k p (pass_at c.passes k) good (pass_there c k a.0.0) a.0.1 a.1
events_keep compiled ok c good (event.Back k p) a = back_keeps compiled.spec c k p (pass_at c.passes k) good (pass_there c k a.0.0) a.0.1 a.1
events_keep compiled ok c good (event.Leave k p) a = leave_keeps compiled.spec c k p (pass_at c.passes k) good (pass_there c k a.0.0) a.0.1 a.1
events_keep compiled ok c good (event.Commit k e) a = commit_keeps compiled ok c k (pass_at c.passes k) e good (pass_there c k a.0) a.1
events_keep compiled ok c good (event.Unlock k p) a = unlock_keeps compiled.spec c k p (pass_at c.passes k) good (pass_there c k a.0.0) a.0.1 a.1
events_keep compiled ok c good (event.Learn k n) a = learn_keeps compiled.spec c k (pass_at c.passes k) good (pass_there c k a.0) n a.1

pub runs_keep : (compiled : SpecWithPlans) → IsCompiled compiled.spec compiled.plans → (c : CoreState) → IsGood compiled.spec c → (events : List Event) → AreAllowed compiled c events → IsGood compiled.spec (after_all compiled c events)
runs_keep compiled ok c good [] a = good
runs_keep compiled ok c good (x ∷ events) a = runs_keep compiled ok (after compiled c x) (events_keep compiled ok c good x a.0) events a.1

-- ---- what goodness gives

-- each pass is of the history
pub of_history : (spec : Spec) (c : CoreState) (k : ℕ) (u : PassState) → IsGood spec c → slice_get c.passes k ≡ Some u → IsOfHistory spec (length c.passes) c.history u
of_history spec c k u good is =
    let its = good.passes k u is in
    record { good = good.history; own = its.own ∙ ap (own_placed c.history) (sym its.number); rows = its.rows }

pub good_is_sound : (spec : Spec) (c : CoreState) → IsGood spec c → IsSound spec c
good_is_sound spec c good = record {
  good = good;
  legal = good.history.legal;
  satisfy = λ r m. states_satisfy spec c.history r m;
  home = λ p rows lt is. subst (IsGoodKeeper spec c.history (length c.passes) p) is (good.stripes p lt).keeper;
}

pub runs_law : RunsAreSound
runs_law compiled ok passes some few events a =
    good_is_sound compiled.spec (after_all compiled (start compiled passes) events) (runs_keep compiled ok (start compiled passes) (start_is_good compiled passes some few) events a)
