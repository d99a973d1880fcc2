-- What a store that was opened by a text leaves, in terms of the specification that the text gives.
use Rattle.std.specs.Prelude.{◌≡◌, ℕ, suc, List, Some, length}
use Rattle.rc_embed.specs.Imports.{slice_get, Call, Reply, Spec, embedded, Entry, Step, AreLegalFrom, after_steps, own_placed, relation_at, replay, with_replies, IsGoodHistory, IsOfRelation, AreKnown, PassSeen, core_of, ClosedSeen, made_by, where_kept, history_with, StoreSeen}

-- The history is good for the specification, and what was closed has the rows of the relation that it leaves, as the
-- specification with its singletons inlined and its edges placed together keeps them. Each pass's entries are its own of
-- the history, and the journal, where passes kept their entries, is the history. (PLDI 2012, serializable transactions.)
pub record IsHistoryOfText (spec : Spec) (store : StoreSeen) (passes : List PassSeen) (closed : ClosedSeen)
    (history : List Entry) : Type 0 where
  pub good : IsGoodHistory spec (length passes) history
  pub keeps : closed.compiled.spec ≡ embedded spec
  pub relation : IsOfRelation (embedded spec) closed.instance (replay spec history)
  pub own : (k : ℕ) (pass : PassSeen) → slice_get passes k ≡ Some pass → (core_of pass).own ≡ own_placed history k
  pub journal : closed.journal ≡ where_kept store.row.keeping history
  pub made : closed.made ≡ made_by passes

-- The history has at this place one entry of these calls, with these replies, one each: in turn the plain relation's from
-- the place on, and after the last of them it is that of the next place. (PLDI 2011, the relation's operations.)
pub record AreAnsweredAt (spec : Spec) (history : List Entry) (place : ℕ) (calls : List Call) (replies : List Reply)
    : Type 0 where
  pub entry : Entry
  pub at : slice_get history place ≡ Some entry
  pub count : length replies ≡ length calls
  pub steps_are : entry.steps ≡ with_replies calls replies
  pub answers : AreLegalFrom spec (relation_at spec history place) (with_replies calls replies)
  pub relation : relation_at spec history (suc place)
      ≡ after_steps spec (relation_at spec history place) (with_replies calls replies)

-- Behind calls that a pass made as one stands this history: with them it is good for the specification, it has as many
-- entries as their place says, it goes on from all that the pass was told of, and has all that the pass made, at its
-- places. The replies are the plain relation's in turn after it, which leaves that of the longer history.
pub record IsBehind (spec : Spec) (passes : ℕ) (pass : PassSeen) (steps : List Step) (place : ℕ)
    (before : List Entry) : Type 0 where
  pub place_is : place ≡ length before
  pub good : IsGoodHistory spec passes (history_with before pass steps)
  pub goes_on : AreKnown before pass.standing.known
  pub own : (core_of pass).own ≡ own_placed before (core_of pass).number
  pub answers : AreLegalFrom spec (replay spec before) steps
  pub relation : replay spec (history_with before pass steps) ≡ after_steps spec (replay spec before) steps
