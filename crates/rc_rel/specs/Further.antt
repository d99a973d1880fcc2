-- A specification with further operations behind its own: each history of the one is a history of the other.
use Rattle.std.specs.Prelude.{◌≡◌, ℕ, ◌++◌, List}
use Rattle.rc_rel.specs.Imports.{Pairs, Op, Spec, fragment_of, stripe_total}
use Rattle.rc_rel.specs.declared.entry.Entry.{Entry}
use Rattle.rc_rel.specs.History.{AllFit, IsLegal, replay}

-- the later specification is the earlier one, with further operations behind its own
abbrev pub Extends : Spec → Spec → Type 0
Extends earlier later = (more : List Op) × (later ≡ record earlier { ops = earlier.ops ++ more })

-- A history whose calls fit the earlier specification: they fit the later one, by which it is legal too and leaves the same relation.
pub record IsHistoryOfBoth (earlier later : Spec) (history : List Entry) : Type 0 where
  pub fit : AllFit later history
  pub legal : IsLegal earlier history → IsLegal later history
  pub replay_is : replay later history ≡ replay earlier history

-- and the stripes, with the fragments of a relation on them, are the same
pub record HasStripesOf (earlier later : Spec) : Type 0 where
  pub total : stripe_total later ≡ stripe_total earlier
  pub fragments : (r : List Pairs) (stripe : ℕ) → fragment_of later r stripe ≡ fragment_of earlier r stripe

abbrev pub HistoriesStay : Type 0
HistoriesStay = (earlier later : Spec) → Extends earlier later → HasStripesOf earlier later × ((history : List Entry) → AllFit earlier history → IsHistoryOfBoth earlier later history)
