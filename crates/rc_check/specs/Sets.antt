-- The progress of a run, as sets of numbers, which take no memory: all that the rules of plans ask of it.
use Rattle.std.specs.Prelude.{ℕ, zero, suc, ◌+◌, max, List, [], ◌∷◌, map}
use Rattle.std.specs.Ordering.{nat_cmp}
use Rattle.rc_tuple.specs.RisingSet.{gather}
use Rattle.rc_plan.specs.declared.statement.Which.{Which}
use Rattle.rc_plan.specs.declared.statement.Which.TheVariants as which
use Rattle.rc_plan.specs.PlanRules.{Phase, Progress}
use Rattle.rc_check.specs.declared.progress.ProgressSets.{ProgressSets}
use Rattle.rc_check.specs.declared.progress.Stage.{Stage}
use Rattle.rc_check.specs.declared.progress.Stage.TheVariants.{Searching, Decided, Committed}

abbrev pub stage_of : Phase → Stage
stage_of Phase.Searching = Searching
stage_of Phase.Decided = Decided
stage_of Phase.Committed = Committed

abbrev pub with_keyed : Which → ℕ → List ℕ → List ℕ
with_keyed which.Keyed c classes = c ∷ classes
with_keyed which.All c classes = classes

abbrev pub with_whole : Which → ℕ → List ℕ → List ℕ
with_whole which.Keyed c classes = classes
with_whole which.All c classes = c ∷ classes

-- the classes of which the stripes of the bindings are locked, and those of which all are
abbrev pub keyed_classes : List (ℕ × Which) → List ℕ
keyed_classes [] = []
keyed_classes (lock ∷ locks) = with_keyed lock.1 lock.0 (keyed_classes locks)

abbrev pub whole_classes : List (ℕ × Which) → List ℕ
whole_classes [] = []
whole_classes (lock ∷ locks) = with_whole lock.1 lock.0 (whole_classes locks)

-- the least number above all of the list
abbrev pub above : List ℕ → ℕ
above [] = 0
above (n ∷ ns) = max (n + 1) (above ns)

abbrev pub with_place : ℕ → List ℕ → List ℕ
with_place zero places = places
with_place (suc place) places = place ∷ places

-- the places of dependencies, which are numbered from 1, in the list of dependencies
abbrev pub places_of_deps : List ℕ → List ℕ
places_of_deps [] = []
places_of_deps (dep ∷ deps) = with_place dep (places_of_deps deps)

-- what the sets are at some progress
abbrev pub sets_of : Progress → ProgressSets
sets_of p = record {
  stage = stage_of p.phase;
  columns = p.columns;
  visited = p.visited;
  reached = gather nat_cmp p.reached;
  keyed = gather nat_cmp (keyed_classes p.locked);
  whole = gather nat_cmp (whole_classes p.locked);
  released = gather nat_cmp p.released;
  next_class = above (map (λ (lock : ℕ × Which). lock.0) p.locked);
  probe = p.probe;
  sought = p.sought;
  checked = gather nat_cmp (places_of_deps p.checked);
  next_dep = above p.checked;
}
