-- The calls that a session was told of stand among its entries, and these stay.
use Rattle.std.proofs.Common.{◌≡◌, ◌⊎◌, ℕ, zero, suc, List, [], ◌∷◌, ◌++◌, length, take, drop, Option, Some, None, refl, sym, ap, ◌∙◌, inl, inr, subst}
use Rattle.std.proofs.lemmas.List.{length-map}
use Rattle.rc_embed.specs.Imports.{In, append_in_left, append_in_right, Call, Reply, Entry, Placed, Step, placed, with_replies, with_replies-parts, PassState, next_of, PassSeen, core_of, telling_goes_on, KnowsAll, RunningGroupSeen, calls_of, HasMadeEntry, IsAsBefore, StoreSeen, Position}
use Rattle.rc_store.specs.Running.{replies_of as replies_with}
use Rattle.rc_embed.specs.declared.session.State.{State}
use Rattle.rc_embed.specs.declared.session.State.TheVariants.{Idle, Prepared, PreparedGroup, Open, Moving}
use Rattle.rc_embed.specs.Asked.{AskedCall}
use Rattle.rc_embed.specs.Closing.{HasTakenBack}
use Rattle.rc_embed.specs.Entries.{HasEntry, KeepsPass, StandsAt, entries_of, known_of, number_in}
use Rattle.rc_embed.specs.Opened.{HasDealt, OpenSeen}
use Rattle.rc_embed.specs.Session.{HasCalled, HasCancelled, HasCommitted, HasLooked, HasPrepared}
use Rattle.rc_embed.specs.Session.{IsStateAsBefore, IsUnchanged, SessionSeen, calls_in, prepared_in, uncommitted_in}
use Rattle.rc_embed.specs.Session.{replies_in, replies_of, with_picked}

-- ---- where calls stand

-- an idle session tells the replies of what it made last
pub told_last : (session : SessionSeen) (pass : PassSeen) → session.state ≡ Idle pass → replies_of session ≡ session.last
told_last session pass is = ap (λ (state : State). replies_in (uncommitted_in state) session.last) is

-- the entry of steps that a pass has made is its last one
made_stands : (store : StoreSeen) (steps : List Step) (old new : PassSeen) (place nth : ℕ) (calls : List Call) (told : List Reply)
    → HasMadeEntry store steps old new place nth → length told ≡ length calls → steps ≡ with_replies calls told
    → StandsAt (core_of new).own place calls told
made_stands store steps old new place nth calls told has count same =
    let entry : Entry = next_of (core_of old) steps in
    let w : Placed = placed place entry in
    record {
      entry = entry;
      among =
          subst (λ (l : List Placed). In w l) (sym has.own)
          (append_in_right w (core_of old).own (w ∷ []) (inl refl));
      count = count;
      steps_are = same;
    }

-- Calls that a session has made as one stand at their position among the session's entries, with the replies that the
-- session tells.
abbrev pub CallsStand : Type 0
CallsStand = (old new : SessionSeen) (asked : List AskedCall) (at : Position)
    → HasCalled old asked new at
    → StandsAt (entries_of new.state) at.place (calls_in old asked) (replies_of new)

pub calls_stand : CallsStand
calls_stand old new asked at h =
    let told = told_last new h.after h.is in
    subst (λ (state : State). StandsAt (entries_of state) at.place (calls_in old asked) (replies_of new)) (sym h.is)
    (made_stands old.store (with_replies (calls_in old asked) new.last) h.before h.after at.place at.nth (calls_in old asked)
    (replies_of new) h.made.entry (ap (λ (replies : List Reply). length replies) told ∙ h.made.count)
    (ap (with_replies (calls_in old asked)) (sym told)))

-- And so do prepared calls, and those of an open group, once they are committed.
abbrev pub CommitsStand : Type 0
CommitsStand = (old new : SessionSeen) (at : Position) (h : HasCommitted old new at)
    → StandsAt (entries_of new.state) at.place (calls_of h.running.steps) (replies_of new)

pub commits_stand : CommitsStand
commits_stand old new at h =
    let steps = h.running.steps in
    let told : replies_of new ≡ replies_with steps = told_last new h.after h.is ∙ h.told in
    subst (λ (state : State). StandsAt (entries_of state) at.place (calls_of steps) (replies_of new)) (sym h.is)
    (made_stands old.store steps h.running.begun h.after at.place at.nth (calls_of steps) (replies_of new) h.entry
    (ap (λ (replies : List Reply). length replies) told ∙ length-map steps (λ (s : Step). s.reply)
    ∙ sym (length-map steps (λ (s : Step). s.call)))
    (sym (with_replies-parts steps) ∙ ap (with_replies (calls_of steps)) (sym told)))

-- ---- a session keeps its pass, the entries of that, and what it was told of

-- an entry stays where its pass makes another,
made_keeps : (store : StoreSeen) (steps : List Step) (old new : PassSeen) (place nth : ℕ)
    → HasMadeEntry store steps old new place nth → (w : Placed) → In w (core_of old).own → In w (core_of new).own
made_keeps store steps old new place nth has w m =
    subst (λ (l : List Placed). In w l) (sym has.own)
    (append_in_left w (core_of old).own (placed place (next_of (core_of old) steps) ∷ []) m)

made_number : (store : StoreSeen) (steps : List Step) (old new : PassSeen) (place nth : ℕ)
    → HasMadeEntry store steps old new place nth → Some (core_of new).number ≡ Some (core_of old).number
made_number store steps old new place nth has =
    ap (λ (core : PassState). Some core.number) has.core ∙ ap (λ (core : PassState). Some core.number) has.was

-- and where nothing of it changes
before_keeps : (old new : PassSeen) → IsAsBefore old new → (w : Placed) → In w (core_of old).own → In w (core_of new).own
before_keeps old new h w m =
    subst (λ (l : List Placed). In w l) (sym (ap (λ (core : PassState). core.own) h.core)) m

before_number : (old new : PassSeen) → IsAsBefore old new → Some (core_of new).number ≡ Some (core_of old).number
before_number old new h = ap (λ (core : PassState). Some core.number) h.core

-- what is prepared isn't committed yet
pub prepared_uncommitted : (state : State) (running : RunningGroupSeen) → prepared_in state ≡ Some running
    → uncommitted_in state ≡ Some running
prepared_uncommitted (Idle pass) running is = is
prepared_uncommitted (Prepared call) running is = is
prepared_uncommitted (PreparedGroup group) running is = is
prepared_uncommitted (Open group) running is = absurd cc
prepared_uncommitted Moving running is = is

-- what isn't committed yet has the pass with which it was begun
abbrev begun_or : PassSeen → Option RunningGroupSeen → PassSeen
begun_or d None = d
begun_or d (Some running) = running.begun

same_begun : (begun : PassSeen) (running : RunningGroupSeen) → begun ≡ running.begun
    → (Some (core_of begun).number ≡ Some (core_of running.begun).number) × ((core_of begun).own ≡ (core_of running.begun).own)
    × (begun.standing.known ≡ running.begun.standing.known)
same_begun begun running same = (
  ap (λ (pass : PassSeen). Some (core_of pass).number) same,
  ap (λ (pass : PassSeen). (core_of pass).own) same,
  ap (λ (pass : PassSeen). pass.standing.known) same,
)

uncommitted_keeps : (state : State) (running : RunningGroupSeen) → uncommitted_in state ≡ Some running
    → (number_in state ≡ Some (core_of running.begun).number) × (entries_of state ≡ (core_of running.begun).own)
    × (known_of state ≡ running.begun.standing.known)
uncommitted_keeps (Idle pass) running is = absurd cc
uncommitted_keeps (Prepared call) running is = same_begun call.begun running (ap (begun_or call.begun) is)
uncommitted_keeps (PreparedGroup group) running is = same_begun group.begun running (ap (begun_or group.begun) is)
uncommitted_keeps (Open group) running is = same_begun group.begun running (ap (begun_or group.begun) is)
uncommitted_keeps Moving running is = absurd cc

-- from an idle one to another
pub from_to : (before after : PassSeen) (old new : SessionSeen) → old.state ≡ Idle before → new.state ≡ Idle after
    → Some (core_of after).number ≡ Some (core_of before).number
    → ((w : Placed) → In w (core_of before).own → In w (core_of after).own) → KnowsAll before after → KeepsPass old new
from_to before after old new was is same keeps knows = record {
  number = ap number_in is ∙ same ∙ sym (ap number_in was);
  entries = λ w m.
      subst (λ (state : State). In w (entries_of state)) (sym is)
      (keeps w (subst (λ (state : State). In w (entries_of state)) was m));
  knows = λ history m.
      subst (λ (state : State). In history (known_of state)) (sym is)
      (knows history (subst (λ (state : State). In history (known_of state)) was m));
}

-- and from one that has calls which aren't committed yet
from_uncommitted : (running : RunningGroupSeen) (after : PassSeen) (old new : SessionSeen)
    → uncommitted_in old.state ≡ Some running → new.state ≡ Idle after
    → Some (core_of after).number ≡ Some (core_of running.begun).number
    → ((w : Placed) → In w (core_of running.begun).own → In w (core_of after).own) → KnowsAll running.begun after
    → KeepsPass old new
from_uncommitted running after old new was is same keeps knows =
    let of = uncommitted_keeps old.state running was in
    record {
      number = ap number_in is ∙ same ∙ sym of.0;
      entries = λ w m.
          subst (λ (state : State). In w (entries_of state)) (sym is)
          (keeps w (subst (λ (l : List Placed). In w l) of.1 m));
      knows = λ history m.
          subst (λ (state : State). In history (known_of state)) (sym is)
          (knows history (subst (λ (l : List (List Entry)). In history l) of.2 m));
    }

-- what a session has made stays through its calls,
abbrev pub CallsKeepPasses : Type 0
CallsKeepPasses = (old new : SessionSeen) (asked : List AskedCall) (at : Position)
    → HasCalled old asked new at → KeepsPass old new

pub calls_keep : CallsKeepPasses
calls_keep old new asked at h =
    from_to h.before h.after old new h.was h.is
    (made_number old.store (with_replies (calls_in old asked) new.last) h.before h.after at.place at.nth h.made.entry)
    (made_keeps old.store (with_replies (calls_in old asked) new.last) h.before h.after at.place at.nth h.made.entry)
    (telling_goes_on.made old.store (with_replies (calls_in old asked) new.last) h.before h.after at.place at.nth h.made.entry).1

-- while it prepares calls,
abbrev pub PreparingKeepsPasses : Type 0
PreparingKeepsPasses = (old new : SessionSeen) (asked : List AskedCall)
    → HasPrepared old asked new → KeepsPass old new

pub preparing_keeps : PreparingKeepsPasses
preparing_keeps old new asked h =
    let of = uncommitted_keeps new.state h.running (prepared_uncommitted new.state h.running h.is) in
    record {
      number = of.0 ∙ ap (λ (pass : PassSeen). Some (core_of pass).number) h.begun.begun ∙ sym (ap number_in h.was);
      entries = λ w m.
          subst (λ (l : List Placed). In w l) (sym of.1)
          (subst (λ (pass : PassSeen). In w (core_of pass).own) (sym h.begun.begun)
          (subst (λ (state : State). In w (entries_of state)) h.was m));
      knows = λ history m.
          subst (λ (l : List (List Entry)). In history l) (sym of.2)
          (subst (λ (pass : PassSeen). In history pass.standing.known) (sym h.begun.begun)
          (subst (λ (state : State). In history (known_of state)) h.was m));
    }

-- commits them,
abbrev pub CommitsKeepPasses : Type 0
CommitsKeepPasses = (old new : SessionSeen) (at : Position) → HasCommitted old new at → KeepsPass old new

pub commits_keep : CommitsKeepPasses
commits_keep old new at h =
    from_uncommitted h.running h.after old new h.was h.is
    (made_number old.store h.running.steps h.running.begun h.after at.place at.nth h.entry)
    (made_keeps old.store h.running.steps h.running.begun h.after at.place at.nth h.entry)
    (telling_goes_on.made old.store h.running.steps h.running.begun h.after at.place at.nth h.entry).1

-- or cancels them,
abbrev pub CancelsKeepPasses : Type 0
CancelsKeepPasses = (old new : SessionSeen) → HasCancelled old new → KeepsPass old new

pub cancels_keep : CancelsKeepPasses
cancels_keep old new h =
    from_uncommitted h.running h.after old new h.was h.is
    (before_number h.running.begun h.after h.before)
    (before_keeps h.running.begun h.after h.before)
    (telling_goes_on.stopped h.running.begun h.after h.before)

-- while it looks,
abbrev pub LooksKeepPasses : Type 0
LooksKeepPasses = (old new : SessionSeen) (length : ℕ) → HasLooked old length new → KeepsPass old new

pub looks_keep : LooksKeepPasses
looks_keep old new length h =
    from_to h.before h.after old new h.was h.is
    (ap (λ (p : PassSeen). Some (core_of p).number) h.looked.is)
    (λ w m. subst (λ (p : PassSeen). In w (core_of p).own) (sym h.looked.is) m)
    (telling_goes_on.looked old.store h.before h.after length h.looked).1

-- picks another reply,
abbrev pub PicksKeepPasses : Type 0
PicksKeepPasses = (old : SessionSeen) (call : ℕ) → KeepsPass old (with_picked call old)

pub picks_keep : PicksKeepPasses
picks_keep old call = record { number = refl; entries = λ w m. m; knows = λ history m. m }

-- and where a call of it is refused.
abbrev pub FaultsKeepPasses : Type 0
FaultsKeepPasses = (old new : SessionSeen) → IsUnchanged old new → KeepsPass old new

state_keeps : (old new : State) → IsStateAsBefore old new
    → (number_in new ≡ number_in old) × ((w : Placed) → In w (entries_of old) → In w (entries_of new))
    × ((history : List Entry) → In history (known_of old) → In history (known_of new))
state_keeps (Idle old) (Idle new) h = (before_number old new h, before_keeps old new h, telling_goes_on.stopped old new h)
state_keeps (Idle old) (Prepared running) h = absurd h
state_keeps (Idle old) (PreparedGroup running) h = absurd h
state_keeps (Idle old) (Open group) h = absurd h
state_keeps (Idle old) Moving h = absurd h
state_keeps (Prepared running) new h = (
  ap number_in h,
  λ w m. subst (λ (state : State). In w (entries_of state)) (sym h) m,
  λ history m. subst (λ (state : State). In history (known_of state)) (sym h) m,
)
state_keeps (PreparedGroup old) new h = (
  ap number_in h,
  λ w m. subst (λ (state : State). In w (entries_of state)) (sym h) m,
  λ history m. subst (λ (state : State). In history (known_of state)) (sym h) m,
)
state_keeps (Open old) new h = (
  ap number_in h,
  λ w m. subst (λ (state : State). In w (entries_of state)) (sym h) m,
  λ history m. subst (λ (state : State). In history (known_of state)) (sym h) m,
)
state_keeps Moving new h = absurd h

pub faults_keep : FaultsKeepPasses
faults_keep old new h =
    let both = state_keeps old.state new.state h.state in record { number = both.0; entries = both.1; knows = both.2 }

-- ---- passes that come and go

-- A session that is taken back gives the store its entries, and the store keeps those that it had.
abbrev pub TakingBackKeepsEntries : Type 0
TakingBackKeepsEntries = (old new : OpenSeen) (session : SessionSeen) → HasTakenBack old new session
    → (w : Placed) → In w (entries_of session.state) ⊎ HasEntry old.passes w → HasEntry new.passes w

others_stay : {X : Type 0} (at : ℕ) (xs : List X) (x y : X) → In y xs → In y (take at xs ++ x ∷ drop at xs)
others_stay zero xs x y m = inr m
others_stay (suc at) [] x y m = absurd m
others_stay (suc at) (z ∷ xs) x y (inl q) = inl q
others_stay (suc at) (z ∷ xs) x y (inr m) = inr (others_stay at xs x y m)

pub taking_back_keeps : TakingBackKeepsEntries
taking_back_keeps old new session h w (inl m) = record {
  pass = h.pass;
  is =
      subst (λ (l : List PassSeen). In h.pass l) (sym h.passes)
      (append_in_right h.pass (take h.at old.passes) (h.pass ∷ drop h.at old.passes) (inl refl));
  among = subst (λ (state : State). In w (entries_of state)) h.was m;
}
taking_back_keeps old new session h w (inr has) = record {
  pass = has.pass;
  is =
      subst (λ (l : List PassSeen). In has.pass l) (sym h.passes)
      (others_stay h.at old.passes h.pass has.pass has.is);
  among = has.among;
}

-- A session that begins has the entries of its pass, and the store keeps the others.
abbrev pub DealingKeepsEntries : Type 0
DealingKeepsEntries = (old new : OpenSeen) (session : SessionSeen) → HasDealt old new session
    → (w : Placed) → HasEntry old.passes w → In w (entries_of session.state) ⊎ HasEntry new.passes w

dealt_or_kept : (pass : PassSeen) (passes : List PassSeen) (w : Placed) (of : PassSeen) → In of (pass ∷ passes)
    → In w (core_of of).own → In w (core_of pass).own ⊎ HasEntry passes w
dealt_or_kept pass passes w of (inl q) m = inl (subst (λ (p : PassSeen). In w (core_of p).own) q m)
dealt_or_kept pass passes w of (inr is) m = inr (record { pass = of; is = is; among = m })

pub dealing_keeps : DealingKeepsEntries
dealing_keeps old new session h w has =
    subst (λ (s : SessionSeen). In w (entries_of s.state) ⊎ HasEntry new.passes w) (sym h.is)
    (dealt_or_kept h.pass new.passes w has.pass (subst (λ (l : List PassSeen). In has.pass l) h.was has.is) has.among)

-- The pass of a session that is taken back is the store's as it is, and so is each that the store had. A session begins with a
-- pass of the store as it is, and the store keeps the others. So what passes made and were told of goes with them.
abbrev pub PassesAreHandedOn : Type 0
PassesAreHandedOn =
    ((old new : OpenSeen) (session : SessionSeen) → HasTakenBack old new session
    → ((pass : PassSeen) × (session.state ≡ Idle pass) × In pass new.passes)
    × ((pass : PassSeen) → In pass old.passes → In pass new.passes))
    × ((old new : OpenSeen) (session : SessionSeen) → HasDealt old new session
    → (pass : PassSeen) → In pass old.passes → (session.state ≡ Idle pass) ⊎ In pass new.passes)

pub passes_are_handed_on : PassesAreHandedOn
passes_are_handed_on = (
  λ old new session h. (
    (
      h.pass,
      h.was,
      subst (λ (l : List PassSeen). In h.pass l) (sym h.passes)
          (append_in_right h.pass (take h.at old.passes) (h.pass ∷ drop h.at old.passes) (inl refl)),
    ),
    λ pass m. subst (λ (l : List PassSeen). In pass l) (sym h.passes) (others_stay h.at old.passes h.pass pass m),
  ),
  λ old new session h pass m.
      dealt old new session h pass (subst (λ (l : List PassSeen). In pass l) h.was m),
)
  where
    dealt : (old new : OpenSeen) (session : SessionSeen) (h : HasDealt old new session) (pass : PassSeen)
        → In pass (h.pass ∷ new.passes) → (session.state ≡ Idle pass) ⊎ In pass new.passes
    dealt old new session h pass (inl q) = inl (ap (λ (s : SessionSeen). s.state) h.is ∙ ap Idle (sym q))
    dealt old new session h pass (inr m) = inr m
