-- What a seat's view has of a pass, and how the steps of a row change it.
use Rattle.std.specs.Prelude.{◌≡◌, ◌≢◌, ℕ, suc, ◌<◌, ◌≤◌, ◌^◌, List, [], ◌∷◌, ◌++◌, Option, Some, None, length, All}
use Rattle.rc_row.specs.Imports.{In, Pairs, IsRelation, Satisfies, all_columns, fragment_of, Found, Pass, Readers, Latch, Mode, Shared, Exclusive, Spec, SpecWithPlans, Entry, IsPrefix, Hold, PassState, fresh, IsOfHistory, rested, committed, learned, other_holds}
use Rattle.rc_core.specs.Passes.{turned}
use Rattle.rc_row.specs.declared.law.Standing.{Standing}

-- the pass k at the start
abbrev pub start : ℕ → Standing
start k = record { core = fresh k; refusals = 0; last_refusal = None; known = [] }

-- what a pass is told that goes on from a history: that history, where something has happened
abbrev pub told_of : List Entry → List (List Entry)
told_of [] = []
told_of (e ∷ history) = (e ∷ history) ∷ []

-- the pass k that goes on from a history
abbrev pub resumed_standing : List Entry → ℕ → Standing
resumed_standing history k = record { core = rested history k; refusals = 0; last_refusal = None; known = told_of history }

abbrev pub with_core : Standing → PassState → Standing
with_core s u = record s { core = u }

-- and was told of these histories too
abbrev pub knowing : List (List Entry) → PassState → Standing → Standing
knowing more u s = record s { core = u; known = s.known ++ more }

-- refused steps may have been added; where none was, the last is the same
abbrev pub KeepsRefusals : Standing → Standing → Type 0
KeepsRefusals old new =
    (old.refusals ≤ new.refusals) × (new.refusals ≡ old.refusals → new.last_refusal ≡ old.last_refusal)

-- the pass after one more refused step, which asked for the stripe p in the mode, found this, and left it these holds
abbrev pub refused : Mode → Standing → ℕ → Found → PassState → List Hold → Standing
refused mode s p found u held = record s {
  core = u;
  refusals = suc s.refusals;
  last_refusal = Some (record { stripe = p; mode = mode; found = found; held = held });
}

-- reader in, where a writer was found
abbrev pub turned_by : Standing → ℕ → Found → Standing
turned_by s p found = refused Shared s p found (turned s.core p) s.core.held

-- another pass has the latch of the stripe p, which the pass shares and will share no more
abbrev pub latched_out : Standing → ℕ → Found → Standing
latched_out s p found = refused Shared s p found s.core (other_holds s.core.held p)

-- what is wanted after a refusal: the stripe, but where its latch alone was in the way, nothing
abbrev pub wish_after : Found → ℕ → Option ℕ
wish_after (Pass k) p = Some p
wish_after (Readers n) p = Some p
wish_after (Latch k) p = None

-- the pass after a call that was refused the stripe: it holds what it held
abbrev pub turned_away : Mode → Standing → ℕ → Found → Standing
turned_away mode s p found = refused mode s p found (record s.core { wish = wish_after found p }) s.core.held

-- the pass wants nothing
abbrev pub without_wish : Standing → Standing
without_wish s = with_core s (record s.core { wish = None })

-- What a step of the pass `me` may find in the way of a lock of that mode, where there are so many passes: another pass that
-- writes the stripe; readers, in the way of a writer alone; another pass that has the latch, in the way of a reader alone.
abbrev pub KeepsOut : Mode → ℕ → ℕ → Found → Type 0
KeepsOut mode passes me (Pass k) = (k < passes) × (k ≢ me)
KeepsOut Exclusive passes me (Readers n) = (1 ≤ n) × (n < passes)
KeepsOut Shared passes me (Readers n) = ⊥
KeepsOut Exclusive passes me (Latch k) = ⊥
KeepsOut Shared passes me (Latch k) = (k < passes) × (k ≢ me)

-- the pass has committed the entry behind this history, and was told of the longer one
abbrev pub after_entry : SpecWithPlans → List Entry → Entry → Standing → Standing
after_entry compiled before e s = knowing ((before ++ e ∷ []) ∷ []) (committed compiled s.core (length before) e) s

-- it was told that this is the history
abbrev pub after_look : List Entry → Standing → Standing
after_look history s = knowing (history ∷ []) (learned s.core (length history)) s

-- it was told of a history of this length, and of these
abbrev pub after_learn : ℕ → List (List Entry) → Standing → Standing
after_learn n known s = knowing known (learned s.core n) s

-- This is the history at a moment. It goes on from all that the pass was told of, has all that it made, at its places, and leaves the rows
-- that it holds.
pub record IsAtHistory (spec : Spec) (passes : ℕ) (history : List Entry) (s : Standing) : Type 0 where
  pub goes_on : All (λ earlier. IsPrefix earlier history) s.known
  pub seen : s.core.seen ≤ length history
  pub of : IsOfHistory spec passes history s.core

-- all that is held has the rows of one relation, which satisfies the dependencies and is small
pub record HaveOneRelation (spec : Spec) (holds : List Hold) : Type 0 where
  pub relation : List Pairs
  pub is_relation : IsRelation (all_columns spec) relation
  pub satisfies : Satisfies relation spec.deps
  pub few : length relation < 2 ^ 60
  pub rows : (h : Hold) → In h holds → h.rows ≡ fragment_of spec relation h.stripe
