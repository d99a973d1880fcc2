-- Several calls as one, over stripes that are all held before the first. (PLDI 2012, serializable transactions over two-phase locks.)
use Rattle.std.specs.Prelude.{◌≡◌, ℕ, ◌+◌, ◌<◌, ◌^◌, ◌==◌, List, [], ◌∷◌, ◌++◌, length, map, Some, if◌then◌else◌}
use Rattle.rc_multi.specs.Imports.{Within, In, IsRelation, Satisfies, Pairs, Call, Reply, Exclusive, Spec, all_columns, EdgeRow, fragment_of, HeldStripe, MayTake, Statement, SpecWithPlans, plan_at, IsNamedBy, stripes_of, StripeLock, Suffices, Step, AreLegalFrom, after_steps, HasReplied, locks_of, stripes_held}

-- ---- which locks suffice

-- whatever the call's plan may name at the arguments, on any rows, is among the locks in a mode that suffices
abbrev pub Covers : SpecWithPlans → Call → List StripeLock → Type 0
Covers c call locks = (lock : StripeLock) → IsNamedBy c.spec call.args (plan_at c.plans call.op) lock → MayTake (Some locks) lock.0 lock.1

-- the locks cover each of the calls
abbrev pub Suffice : SpecWithPlans → List Call → List StripeLock → Type 0
Suffice c calls locks = (call : Call) → In call calls → Covers c call locks

-- ---- over a relation

-- The held stripes, as taken, are the fragments of the relation, which satisfies the dependencies and stays small for so many calls more.
pub record AreOfRelationFor (spec : Spec) (held : List HeldStripe) (r : List Pairs) (calls : ℕ) : Type 0 where
  pub relation : IsRelation (all_columns spec) r
  pub satisfies : Satisfies r spec.deps
  pub few : length r + calls < 2 ^ 63
  pub rows : (h : HeldStripe) → In h held → h.taken ≡ fragment_of spec r h.stripe

-- Each reply is the plain relation's after the calls before it, each held stripe has its fragment of the relation after them all, and one that isn't held Exclusive keeps its rows.
pub record HasServedAll (spec : Spec) (held : List HeldStripe) (steps : List Step) (r : List Pairs) : Type 0 where
  pub legal : AreLegalFrom spec r steps
  pub rows : (h : HeldStripe) → In h held → h.now ≡ fragment_of spec (after_steps spec r steps) h.stripe
  pub others : (stripe : ℕ) → (In (stripe, Exclusive) (locks_of held) → ⊥) → fragment_of spec (after_steps spec r steps) stripe ≡ fragment_of spec r stripe

-- so on each relation of which the held stripes, as taken, have fragments
abbrev pub HaveServed : Spec → List HeldStripe → List Step → Type 0
HaveServed spec held steps = (r : List Pairs) → AreOfRelationFor spec held r (length steps) → HasServedAll spec held steps r

-- what is held now are the fragments of one relation that satisfies the dependencies and has fewer than 2^63 tuples
pub record AreNowOf (spec : Spec) (held : List HeldStripe) (r : List Pairs) : Type 0 where
  pub relation : IsRelation (all_columns spec) r
  pub satisfies : Satisfies r spec.deps
  pub few : length r < 2 ^ 63
  pub rows : (h : HeldStripe) → In h held → h.now ≡ fragment_of spec r h.stripe

-- ---- one plan among others

-- a stripe that the part has: the group held it in a mode that suffices, with the rows with which the plan took it
pub record IsFromGroup (before : List HeldStripe) (g : HeldStripe) : Type 0 where
  pub from : HeldStripe
  pub held : In from before
  pub stripe : from.stripe ≡ g.stripe
  pub rows : from.now ≡ g.taken
  pub mode : Suffices from.mode g.mode

-- the rows of a stripe after the plan: what it made of them where it took the stripe, and else those of before
abbrev pub now_after : List HeldStripe → HeldStripe → List EdgeRow
now_after [] h = h.now
now_after (g ∷ part) h = if g.stripe == h.stripe then g.now else now_after part h

abbrev pub with_part : List HeldStripe → HeldStripe → HeldStripe
with_part part h = record { stripe = h.stripe; mode = h.mode; now = now_after part h; taken = h.taken }

-- A plan ran over some of the group's stripes, which it was lent with the rows that they had. As taken the group's stripes have the rows of before.
pub record HasRunOver (before after part : List HeldStripe) : Type 0 where
  pub each : (g : HeldStripe) → In g part → IsFromGroup before g
  pub becomes : after ≡ map (with_part part) before

-- one more step
abbrev pub with_step : List Step → Call → Reply → List Step
with_step steps call reply = steps ++ record { call = call; reply = reply } ∷ []

-- the plan of a call ran over some of the group's stripes, and replied
pub record HasRunIn (spec : Spec) (plan : List Statement) (call : Call) (before after : List HeldStripe) (answer : Reply) : Type 0 where
  pub part : List HeldStripe
  pub over : HasRunOver before after part
  pub replied : HasReplied spec plan call part answer

-- it ran so, and of the stripes that were held it took just those of these locks, in whatever mode
pub record HasRunTaking (spec : Spec) (plan : List Statement) (call : Call) (before after : List HeldStripe) (took : List StripeLock) (answer : Reply) : Type 0 where
  pub ran : HasRunIn spec plan call before after answer
  pub only : Within (stripes_held ran.part) (stripes_of took)
  pub each : (p : ℕ) → In p (stripes_of took) → In p (stripes_held before) → In p (stripes_held ran.part)
