-- What the end of a row gives.
use Rattle.std.specs.Prelude.{◌≡◌, ℕ, suc, ◌*◌, ◌<◌, ◌≤◌, ◌^◌, List, [], ◌∷◌, Option, Some, length}
use Rattle.rc_row.specs.Imports.{slice_get, fragment_of, stripe_total, Spec, KeptRows, PartEntries, Entry, Placed, own_placed, replay, IsGoodHistory, MayGoOn}
use Rattle.rc_row.specs.declared.close.EndedPass.{EndedPass}
use Rattle.rc_row.specs.Law.{AreKnown, kept_of}
use Rattle.rc_row.specs.PassInside.{AreOwnKept}
use Rattle.rc_row.specs.Passes.{KeepsAs, PassSeen, RowSeen, core_of, none_kept, resumed_pass}
use Rattle.rc_row.specs.declared.keeping.Keeping.{Keeping}

-- what a pass leaves that made these entries: so many, and the entries themselves where it has any
pub record IsEndedOf (own : List Placed) (e : EndedPass) : Type 0 where
  pub made : e.made ≡ length own
  pub own_entries : AreOwnKept e.entries own

-- and it has what the pass kept
pub record IsEndedPass (own : List Placed) (kept : Option PartEntries) (e : EndedPass) : Type 0 where
  pub of : IsEndedOf own e
  pub entries : e.entries ≡ kept

-- There is one good history of which the passes have their own entries, which goes on from all that they were told of, and whose rows the
-- fragments have. It is short, and leaves few tuples.
pub record HasHistory (spec : Spec) (passes : List PassSeen) (fragments : List KeptRows) : Type 0 where
  pub history : List Entry
  pub good : IsGoodHistory spec (length passes) history
  pub may : MayGoOn spec (length passes) history
  pub own : (k : ℕ) (pass : PassSeen) → slice_get passes k ≡ Some pass → (core_of pass).own ≡ own_placed history k
  pub known : (k : ℕ) (pass : PassSeen) → slice_get passes k ≡ Some pass → AreKnown history pass.standing.known
  pub short : length history ≤ 255 * 2 ^ 48
  pub small : length (replay spec history) < 2 ^ 60
  pub count : length fragments ≡ stripe_total spec
  pub rows : (p : ℕ) → p < length fragments → slice_get fragments p ≡ Some (kept_of spec (fragment_of spec (replay spec history) p))

-- What a row leaves is of this history, from which passes that keep so much may go on: the fragments have its rows, and each pass has
-- made its own entries of it.
pub record IsLeftOf (spec : Spec) (keeping : Keeping) (history : List Entry) (fragments : List KeptRows) (ended : List EndedPass) : Type 0 where
  pub may : MayGoOn spec (length ended) history
  pub count : length fragments ≡ stripe_total spec
  pub rows : (p : ℕ) → p < length fragments → slice_get fragments p ≡ Some (kept_of spec (fragment_of spec (replay spec history) p))
  pub made : (k : ℕ) (e : EndedPass) → slice_get ended k ≡ Some e → IsEndedOf (own_placed history k) e
  pub keeps : (k : ℕ) (e : EndedPass) → slice_get ended k ≡ Some e → KeepsAs keeping e.entries

-- the passes of a row that goes on, from the number k
abbrev pub resumed_from : RowSeen → ℕ → List EndedPass → List PassSeen
resumed_from row k [] = []
resumed_from row k (e ∷ ended) = resumed_pass row k e.entries ∷ resumed_from row (suc k) ended

-- what a pass without an entry leaves
abbrev pub no_entries : Keeping → EndedPass
no_entries keeping = record { made = 0; entries = none_kept keeping }

-- each pass's entries are handed out
abbrev pub AreEnded : List PassSeen → List EndedPass → Type 0
AreEnded passes ended = (length ended ≡ length passes)
    × ((k : ℕ) (pass : PassSeen) (e : EndedPass) → slice_get passes k ≡ Some pass → slice_get ended k ≡ Some e → IsEndedPass (core_of pass).own pass.kept e)
