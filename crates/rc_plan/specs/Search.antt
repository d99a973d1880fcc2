-- Where a run stands that searches, against what the rules know of it.
use Rattle.std.specs.Prelude.{◌≡◌, ℕ, List, Option, None}
use Rattle.rc_plan.specs.Imports.{Within, In, IsRising, Pairs, cols_of, tuple_cmp, Agree, Spec, all_columns, bound, EdgeRow, IsReached, class_at, physical_stripe, StripeLock}
use Rattle.rc_plan.specs.declared.statement.Which.{Which}
use Rattle.rc_plan.specs.Evaluation.{RunState}
use Rattle.rc_plan.specs.PlanRules.{Covers, Phase, Progress}
use Rattle.rc_plan.specs.StripeLocks.{stripes_of}

-- a state with no reply
abbrev pub searching : List Pairs → List StripeLock → List EdgeRow → RunState
searching bs ns rows = record { bindings = bs; named = ns; old = None; reply = None; rows = rows }

-- the same of an update, which may have found the old tuple
abbrev pub updating : Option Pairs → List Pairs → List StripeLock → List EdgeRow → RunState
updating old bs ns rows = record { bindings = bs; named = ns; old = old; reply = None; rows = rows }

-- where a search for the tuples that agree with s stands: its bindings, and the stripes named
pub record IsSearching (spec : Spec) (r : List Pairs) (s : Pairs) (p : Progress) (bs : List Pairs) (ns : List StripeLock) : Type 0 where
  pub phase : p.phase ≡ Phase.Searching
  pub within : Within p.visited (all_columns spec)
  pub reached : IsReached r s p.visited bs
  pub rising : IsRising tuple_cmp bs
  pub columns : (b : Pairs) → In b bs → Within p.columns (cols_of b)
  -- the bindings have the columns of each node reached
  pub nodes : (v : ℕ) → In v p.reached → Within (bound spec v) p.columns
  -- a row with a locked class's columns that agrees with a binding falls on a named stripe
  pub guards : (x : ℕ × Which) → In x p.locked → Covers spec p x.0 x.1 → (b u : Pairs) → In b bs → Within (class_at spec x.0).cols (cols_of u) → Agree b u
      → In (physical_stripe spec x.0 u) (stripes_of ns)
