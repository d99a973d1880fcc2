-- What a closed store leaves. (PLDI 2012, serializable transactions: the calls of all passes are one legal history.)
use Rattle.std.specs.Prelude.{◌≡◌, ℕ, ◌<◌, List, [], Option, Some, None, IfSome, length, map}
use Rattle.rc_store.specs.Imports.{range_with_len, slice_get, In, Spec, fragment_of, stripe_total, KeptRows, SpecWithPlans, Entry, IsPrefix, own, own_placed, replay, IsGoodHistory, MayGoOn, PartEntries, IsOfRelation, Stripe, held_from, kept_stripe, EndedPass, Keeping, Counts, Entries, AreKnown, history_by, kept_of, PassSeen, compiled_of, core_of, spec_of}
use Rattle.rc_store.specs.Store.{StoreSeen}

-- the specification with its plans, the fragments of all stripes, the entries by place where they were kept, how many each
-- pass committed, and the history, which no code reads
pub record ClosedSeen : Type 0 where
  pub compiled : SpecWithPlans
  pub instance : List Stripe
  pub journal : Option (List Entry)
  pub made : List ℕ
  pub history : List Entry

-- the fragments that a history leaves, by stripe
abbrev pub left_by : Spec → List Entry → List KeptRows
left_by spec history = map (λ p. kept_of spec (fragment_of spec (replay spec history) p)) (range_with_len 0 (stripe_total spec))

-- A good history of so many passes leaves these fragments: they are those of its relation, and none is held.
pub record Leaves (spec : Spec) (passes : ℕ) (history : List Entry) (instance : List Stripe) : Type 0 where
  pub good : IsGoodHistory spec passes history
  pub relation : IsOfRelation spec instance (replay spec history)
  pub free : held_from 0 instance ≡ []
  pub stripes : instance ≡ map kept_stripe (left_by spec history)

-- There is one good history of so many passes, which leaves the fragments, and from which they may go on. The journal, where
-- there is one, is this history.
pub record HasOneHistory (closed : ClosedSeen) : Type 0 where
  pub history : List Entry
  pub is : closed.history ≡ history
  pub leaves : Leaves closed.compiled.spec (length closed.made) history closed.instance
  pub may : MayGoOn closed.compiled.spec (length closed.made) history
  pub journal : IfSome closed.journal (λ journal. journal ≡ history)
  pub made : closed.made ≡ map (λ pass. length (own history pass)) (range_with_len 0 (length closed.made))

-- what is there exactly where passes keep their entries
abbrev pub where_kept : {A : Type 0} → Keeping → A → Option A
where_kept Entries x = Some x
where_kept Counts x = None

-- how many entries each pass committed
abbrev pub made_by : List PassSeen → List ℕ
made_by passes = map (λ pass. length (core_of pass).own) passes

-- what is left of a store and its passes: each pass's entries are its own of the one history, which begins with that from
-- which the store went on, and goes on from all that each pass was told of
pub record HasClosed (store : StoreSeen) (passes : List PassSeen) (closed : ClosedSeen) : Type 0 where
  pub compiled : closed.compiled ≡ compiled_of store.row
  pub history : List Entry
  pub is : closed.history ≡ history
  pub begins : IsPrefix (history_by store.row.key) history
  pub leaves : Leaves (spec_of store.row) (length passes) history closed.instance
  pub may : MayGoOn (spec_of store.row) (length passes) history
  pub own : (k : ℕ) (pass : PassSeen) → slice_get passes k ≡ Some pass → (core_of pass).own ≡ own_placed history k
  pub known : (k : ℕ) (pass : PassSeen) → slice_get passes k ≡ Some pass → AreKnown history pass.standing.known
  pub journal : closed.journal ≡ where_kept store.row.keeping history
  pub made : closed.made ≡ made_by passes

-- ended passes kept the entries of a history, each its own
pub record AreKeptOf (history : List Entry) (ended : List EndedPass) : Type 0 where
  pub own : (k : ℕ) (e : EndedPass) → slice_get ended k ≡ Some e → (part : PartEntries) × (e.entries ≡ Some part) × (part.list ≡ own_placed history k)
  pub passes : (e : Entry) → In e history → e.pass < length ended
