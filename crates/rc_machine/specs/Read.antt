-- What a Read of an edge finds on held stripes.
use Rattle.std.specs.Prelude.{◌≡◌, ℕ, true, List, ◌⊎◌}
use Rattle.rc_machine.specs.Imports.{In, Within, union, Pairs, agrees, cols_of, merge, Spec, bound, edge_at, EdgeRow, class_at, class_of, physical_stripe, BindingList, OneBinding, IsThere, AreGoodRows, HeldStripe, IsFindable, ReadMode, band}
use Rattle.rc_machine.specs.Machine.{stripes_held}

-- The stripes on which a row of the class that agrees with the binding may fall are among these: where the binding has the columns that choose a stripe, that one, and else all of the class.
pub record IsCovered (spec : Spec) (c : ℕ) (stripes : List ℕ) (b : Pairs) : Type 0 where
  pub keyed : Within (class_at spec c).cols (cols_of b) → In (physical_stripe spec c b) stripes
  pub all : (Within (class_at spec c).cols (cols_of b) → ⊥) → (stripe : ℕ) → In stripe (band spec c) → In stripe stripes

-- a binding by which the rows of an edge can be found in containers
pub record IsReader (spec : Spec) (e : ℕ) (mode : ReadMode) (b : Pairs) : Type 0 where
  pub source : Within (bound spec (edge_at spec e).from) (cols_of b)
  pub key : IsFindable mode (edge_at spec e).key (cols_of b)

-- the list is one for the merges of the binding with rows of the edge
pub record TakesMerges (spec : Spec) (e : ℕ) (b : OneBinding) (found : BindingList) : Type 0 where
  pub width : b.width ≡ found.width
  pub columns : found.columns ≡ union b.columns (bound spec (edge_at spec e).to)

-- bindings by which the rows of an edge can be found on held stripes
pub record AreReaders (spec : Spec) (e : ℕ) (mode : ReadMode) (held : List HeldStripe) (bs : List Pairs) : Type 0 where
  pub readers : (b : Pairs) → In b bs → IsReader spec e mode b
  pub covered : (b : Pairs) → In b bs → IsCovered spec (class_of spec e) (stripes_held held) b

-- the rows now of each held stripe are good
abbrev pub AreGood : Spec → List HeldStripe → Type 0
AreGood spec held = (h : HeldStripe) → In h held → AreGoodRows spec h.stripe h.now

-- the merge of the binding with a row of the edge that agrees with it
abbrev pub IsMergeOf : Pairs → ℕ → List EdgeRow → Pairs → Type 0
IsMergeOf b e rows c = (u : Pairs) × IsThere rows e u × (agrees b u ≡ true) × (c ≡ merge b u)

-- the list has the merges of the binding with all rows of the edge that agree with it, beside what it had
pub record HasMerged (b : Pairs) (e : ℕ) (rows : List EdgeRow) (old new : List Pairs) : Type 0 where
  pub kept : (c : Pairs) → In c old → In c new
  pub only : (c : Pairs) → In c new → In c old ⊎ IsMergeOf b e rows c
  pub each : (c : Pairs) → IsMergeOf b e rows c → In c new

-- the same, with the rows now of a held stripe
abbrev pub IsMergeOn : Pairs → ℕ → List HeldStripe → Pairs → Type 0
IsMergeOn b e held c = (h : HeldStripe) × In h held × IsMergeOf b e h.now c

-- the list has those with the rows of the stripes that were asked, beside what it had
pub record HasMergedOn (b : Pairs) (e : ℕ) (held : List HeldStripe) (asked : List ℕ) (old new : List Pairs) : Type 0 where
  pub kept : (c : Pairs) → In c old → In c new
  pub only : (c : Pairs) → In c new → In c old ⊎ IsMergeOn b e held c
  pub each : (h : HeldStripe) → In h held → In h.stripe asked → (c : Pairs) → IsMergeOf b e h.now c → In c new

-- the list has those with the rows of all held stripes, beside what it had
pub record HasMergedAll (b : Pairs) (e : ℕ) (held : List HeldStripe) (old new : List Pairs) : Type 0 where
  pub kept : (c : Pairs) → In c old → In c new
  pub only : (c : Pairs) → In c new → In c old ⊎ IsMergeOn b e held c
  pub each : (c : Pairs) → IsMergeOn b e held c → In c new

-- the list has the merges of the bindings with the rows of the edge on all held stripes
pub record AreMerges (bs : List Pairs) (e : ℕ) (held : List HeldStripe) (merges : List Pairs) : Type 0 where
  pub only : (c : Pairs) → In c merges → (b : Pairs) × In b bs × IsMergeOn b e held c
  pub each : (b : Pairs) → In b bs → (c : Pairs) → IsMergeOn b e held c → In c merges
