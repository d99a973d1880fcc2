-- Histories of calls on the plain relation.
use Rattle.std.specs.Prelude.{◌≡◌, ℕ, ◌+◌, ◌==◌, List, [], ◌∷◌, ◌++◌, filter, take, map, length, if◌then◌else◌}
use Rattle.rc_rel.specs.Imports.{range_with_len, flat_map, AllByRecursion, Pairs, Spec, Call, Reply, Fits, plain}
use Rattle.rc_rel.specs.declared.entry.Step.{Step}
use Rattle.rc_rel.specs.declared.entry.Entry.{Entry}
use Rattle.rc_rel.specs.declared.entry.Placed.{Placed}

-- all steps of a history, in order
abbrev pub steps_of : List Entry → List Step
steps_of history = flat_map (λ e. e.steps) history

-- each call in turn has the plain reply, and the relation after it goes on to the next
abbrev pub AreLegalFrom : Spec → List Pairs → List Step → Type 0
AreLegalFrom spec r [] = Unit {0}
AreLegalFrom spec r (s ∷ steps) = (s.reply ≡ (plain spec r s.call).reply) × AreLegalFrom spec (plain spec r s.call).relation steps

-- the calls in turn, each with its reply
abbrev pub with_replies : List Call → List Reply → List Step
with_replies [] replies = []
with_replies (call ∷ calls) [] = []
with_replies (call ∷ calls) (reply ∷ replies) = record { call = call; reply = reply } ∷ with_replies calls replies

-- legal from the empty relation
abbrev pub IsLegal : Spec → List Entry → Type 0
IsLegal spec history = AreLegalFrom spec [] (steps_of history)

-- the relation after the calls
abbrev pub after_steps : Spec → List Pairs → List Step → List Pairs
after_steps spec r [] = r
after_steps spec r (s ∷ steps) = after_steps spec (plain spec r s.call).relation steps

-- the relation after the last call of a history
abbrev pub replay : Spec → List Entry → List Pairs
replay spec history = after_steps spec [] (steps_of history)

-- the relation at first and after each call
abbrev pub states_from : Spec → List Pairs → List Step → List (List Pairs)
states_from spec r [] = r ∷ []
states_from spec r (s ∷ steps) = r ∷ states_from spec (plain spec r s.call).relation steps

abbrev pub states : Spec → List Entry → List (List Pairs)
states spec history = states_from spec [] (steps_of history)

-- a pass's own entries
abbrev pub own : List Entry → ℕ → List Entry
own history pass = filter (λ e. e.pass == pass) history

-- an entry with a place
abbrev pub placed : ℕ → Entry → Placed
placed n e = record { place = n; entry = e }

-- a pass's own entries with their places, where the first entry has the place n
abbrev pub placed_from : ℕ → List Entry → ℕ → List Placed
placed_from n [] pass = []
placed_from n (e ∷ history) pass = if e.pass == pass then placed n e ∷ placed_from (n + 1) history pass else placed_from (n + 1) history pass

abbrev pub own_placed : List Entry → ℕ → List Placed
own_placed history pass = placed_from 0 history pass

-- each pass numbers its own entries from 0 on
abbrev pub IsNumbered : List Entry → Type 0
IsNumbered history = (pass : ℕ) → map (λ e. e.nth) (own history pass) ≡ range_with_len 0 (length (own history pass))

-- the calls of some entries, in order
abbrev pub calls_of : List Entry → List Call
calls_of entries = map (λ s. s.call) (steps_of entries)

-- each step's call fits
abbrev pub StepsFit : Spec → List Step → Type 0
StepsFit spec steps = AllByRecursion (λ s. Fits spec s.call) steps

abbrev pub AllFit : Spec → List Entry → Type 0
AllFit spec history = AllByRecursion (λ e. StepsFit spec e.steps) history

-- ---- a history as it grows

-- the later history begins with the earlier one
abbrev pub IsPrefix : List Entry → List Entry → Type 0
IsPrefix earlier later = (more : List Entry) × (later ≡ earlier ++ more)

-- ---- a history, place by place

-- the relation after the first so many entries
abbrev pub relation_at : Spec → List Entry → ℕ → List Pairs
relation_at spec history place = replay spec (take place history)

-- An entry is of one call, whose reply is the plain relation's, and which leaves the plain relation.
pub record IsPlain (spec : Spec) (before after : List Pairs) (entry : Entry) : Type 0 where
  pub step : Step
  pub one : entry.steps ≡ step ∷ []
  pub reply : step.reply ≡ (plain spec before step.call).reply
  pub relation : after ≡ (plain spec before step.call).relation
