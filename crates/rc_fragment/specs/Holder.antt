-- What a holder lends a plan: the stripes that it holds, with their rows, and what it offers of the others. (PLDI 2012, two-phase plans over striped locks.)
use Rattle.std.specs.Prelude.{◌≡◌, ℕ, max, ◌+◌, ◌-◌, ◌<◌, ◌≤◌, ◌^◌, ◌++◌, List, [], ◌∷◌, ◌⊎◌, Option, None, Some, IsSome, Result, Ok, Err, map, length, get_or, cond, ◌==◌}
use Rattle.rc_fragment.specs.Imports.{In, Pairs, cols_of, project, IsRelation, Satisfies, all_columns, bound, edge_at, EdgeRow, row_stripe, fragment_of, Singleton, StripeLock, Suffices, Mode, Exclusive, Spec}
use Rattle.rc_fragment.specs.Fragment.{HasNoRowOf, HasRowOf}
use Rattle.rc_fragment.specs.FragmentRows.{FragmentRows}
use Rattle.rc_fragment.specs.Implied.{lowered_all, raised_all}
use Rattle.rc_fragment.specs.ImpliedTables.{class_rows}
use Rattle.rc_fragment.specs.Tuples.{ArePartlyAdded, CanAddTuple, HasTuple, changes_of_class}
use Rattle.rc_fragment.specs.declared.held.Held.{Held}
use Rattle.rc_fragment.specs.declared.held.TakeStop.{TakeStop}
use Rattle.rc_fragment.specs.declared.held.TakeStop.TheVariants as stop
use Rattle.rc_fragment.specs.declared.shape.EdgeShape.{EdgeShape}

-- ---- held stripes

-- a held stripe: how it is held, its rows now, and its rows as they were taken
pub record HeldStripe : Type 0 where
  pub stripe : ℕ
  pub mode : Mode
  pub now : List EdgeRow
  pub taken : List EdgeRow

-- the stripe is held
abbrev pub IsHeld : List HeldStripe → ℕ → Type 0
IsHeld held stripe = (h : HeldStripe) × In h held × (h.stripe ≡ stripe)

-- the stripe is held Exclusive
abbrev pub IsHeldExclusive : List HeldStripe → ℕ → Type 0
IsHeldExclusive held stripe = (h : HeldStripe) × In h held × (h.stripe ≡ stripe) × (h.mode ≡ Exclusive)

-- the stripe is above each that is held
abbrev pub IsAbove : List HeldStripe → ℕ → Type 0
IsAbove held stripe = (h : HeldStripe) → In h held → h.stripe < stripe

-- the stripe with its rows now changed
abbrev pub with_now : ℕ → (List EdgeRow → List EdgeRow) → HeldStripe → HeldStripe
with_now stripe change h = cond (h.stripe == stripe) (record { stripe = h.stripe; mode = h.mode; now = change h.now; taken = h.taken }) h

-- the held stripes with a change of the rows of one of them
abbrev pub changed_at : ℕ → (List EdgeRow → List EdgeRow) → List HeldStripe → List HeldStripe
changed_at stripe change held = map (with_now stripe change) held

-- the stripe with its rows as they were taken
abbrev pub reverted : HeldStripe → HeldStripe
reverted h = record { stripe = h.stripe; mode = h.mode; now = h.taken; taken = h.taken }

-- a stripe just taken, with these rows
abbrev pub just_taken : ℕ → Mode → List EdgeRow → HeldStripe
just_taken stripe mode rows = record { stripe = stripe; mode = mode; now = rows; taken = rows }

-- ---- what a holder tells

-- a held stripe, and for how many changes of its rows there is room
pub record LentStripe : Type 0 where
  pub held : HeldStripe
  pub room : ℕ

-- a refused take: what it answered, how it asked, and the stripes held at it, where they are told
pub record RefusedTake : Type 0 where
  pub answer : Held
  pub mode : Mode
  pub held : Option (List HeldStripe)

-- What a holder tells: the edge table of all fragments; the stripes that it holds, in the order in which they were taken; those that it has to lend, each with the mode in which it has it, where it hasn't all; of each stripe by its number the rows with which it is or was lent, where they are told; how many takes were refused, by a counter that stays at 2^64 - 1, and the last of them; and the borrowed value through which it works, by name, so that who lent it learns what became of it.
pub record Holding : Type 0 where
  pub table : List EdgeShape
  pub lent : List LentStripe
  pub lends : Option (List StripeLock)
  pub offered : List (Option (List EdgeRow))
  pub refusals : ℕ
  pub last_refusal : Option RefusedTake
  pub through : ℕ

-- the stripes held
abbrev pub held_of : Holding → List HeldStripe
held_of s = map (λ (l : LentStripe). l.held) s.lent

-- the rows offered of the stripe, where they are told
abbrev pub offered_at : Holding → ℕ → Option (List EdgeRow)
offered_at s stripe = get_or s.offered stripe None

-- Where the stripe is held there is room for the changes of a tuple of the class, and for one at least: a fragment that others may have has no room, and so isn't changed. That asks for more only of a class without edges:
-- one that has edges has one whose rows are kept.
pub record HasRoomFor (s : Holding) (stripe class : ℕ) : Type 0 where
  pub some : (l : LentStripe) → In l s.lent → l.held.stripe ≡ stripe → 0 < l.room
  pub all : (l : LentStripe) → In l s.lent → l.held.stripe ≡ stripe → changes_of_class s.table class ≤ l.room

-- ---- changes of held stripes

-- the lent stripe with room for so many changes at least, where it is this one
abbrev pub with_room : ℕ → ℕ → LentStripe → LentStripe
with_room stripe changes l = record { held = l.held; room = cond (l.held.stripe == stripe) (max l.room changes) l.room }

-- room for so many changes of the stripe at least
abbrev pub with_room_at : ℕ → ℕ → Holding → Holding
with_room_at stripe changes s = record s { lent = map (with_room stripe changes) s.lent }

-- the lent stripe with its rows now changed and room for so many changes less, where it is this one
abbrev pub with_changes : ℕ → ℕ → (List EdgeRow → List EdgeRow) → LentStripe → LentStripe
with_changes stripe n change l = record { held = with_now stripe change l.held; room = cond (l.held.stripe == stripe) (l.room - n) l.room }

-- so many changes of the rows of the stripe
abbrev pub with_changes_at : ℕ → ℕ → (List EdgeRow → List EdgeRow) → Holding → Holding
with_changes_at stripe n change s = record s { lent = map (with_changes stripe n change) s.lent }

-- the tuple's row of each edge of the class once more on the stripe, and once less
abbrev pub with_tuple_at : ℕ → ℕ → Pairs → Holding → Holding
with_tuple_at stripe class t s = with_changes_at stripe (changes_of_class s.table class) (raised_all (class_rows s.table class t)) s

abbrev pub without_tuple_at : ℕ → ℕ → Pairs → Holding → Holding
without_tuple_at stripe class t s = with_changes_at stripe (changes_of_class s.table class) (lowered_all (class_rows s.table class t)) s

-- some of the tuple's rows were added to the stripe, by no more changes than the whole tuple takes, for which there was room
pub record IsPartlyAddedAt (stripe class : ℕ) (t : Pairs) (old new : Holding) : Type 0 where
  pub changes : ℕ
  pub few : changes ≤ changes_of_class old.table class
  pub change : List EdgeRow → List EdgeRow
  pub added : (h : HeldStripe) → In h (held_of old) → h.stripe ≡ stripe → ArePartlyAdded old.table class t h.now (change h.now)
  pub value : new ≡ with_changes_at stripe changes change old

abbrev pub lent_reverted : LentStripe → LentStripe
lent_reverted l = record { held = reverted l.held; room = l.room }

-- the rows of all held stripes are what they were as taken
abbrev pub all_reverted : Holding → Holding
all_reverted s = record s { lent = map lent_reverted s.lent }

-- the tuple's row can be added to each edge of the class on the stripe, or its count raised
abbrev pub CanRaise : Holding → ℕ → ℕ → Pairs → Type 0
CanRaise s stripe class t = (h : HeldStripe) → In h (held_of s) → h.stripe ≡ stripe → CanAddTuple s.table h.now class t

-- each edge of the class has the tuple's row on the stripe
abbrev pub CanLower : Holding → ℕ → ℕ → Pairs → Type 0
CanLower s stripe class t = (h : HeldStripe) → In h (held_of s) → h.stripe ≡ stripe → HasTuple s.table h.now class t

-- on the stripe no row of the edge has the tuple's values of source and key
abbrev pub HasNoRowAt : Holding → ℕ → ℕ → Pairs → Type 0
HasNoRowAt s stripe e t = (h : HeldStripe) → In h (held_of s) → h.stripe ≡ stripe → HasNoRowOf s.table h.now e t

-- one has them
abbrev pub HasRowAt : Holding → ℕ → ℕ → Pairs → Type 0
HasRowAt s stripe e t = (h : HeldStripe) → In h (held_of s) → h.stripe ≡ stripe → HasRowOf s.table h.now e t

-- where none has them the tuple's row can be added to each edge of the class on the stripe, or its count raised
abbrev pub CanRaiseNew : Holding → ℕ → ℕ → ℕ → Pairs → Type 0
CanRaiseNew s stripe class e t = (h : HeldStripe) → In h (held_of s) → h.stripe ≡ stripe → HasNoRowOf s.table h.now e t → CanAddTuple s.table h.now class t

-- the fragment has the rows of the held stripe, and the edge table
pub record IsLent (s : Holding) (stripe : ℕ) (fragment : FragmentRows) : Type 0 where
  pub table : fragment.table ≡ s.table
  pub now : (h : HeldStripe) → In h (held_of s) → h.stripe ≡ stripe → fragment.now ≡ h.now

-- ---- takes

-- a stripe that the holder has to lend, in a mode that suffices
abbrev pub MayTake : Option (List StripeLock) → ℕ → Mode → Type 0
MayTake None stripe mode = Unit {0}
MayTake (Some locks) stripe mode = (held : Mode) × In (stripe, held) locks × Suffices held mode

-- a counter that stays at its last value rose
abbrev pub HasRisen : ℕ → ℕ → Type 0
HasRisen old new = (old < new) ⊎ ((new ≡ old) × (new + 1 ≡ 2 ^ 64))

-- no take was refused, or the count of those that were rose, and there is a last one
abbrev pub AreRefusedAfter : Holding → Holding → Type 0
AreRefusedAfter old new = ((new.refusals ≡ old.refusals) × (new.last_refusal ≡ old.last_refusal)) ⊎ (HasRisen old.refusals new.refusals × IsSome new.last_refusal)

-- What no call changes is the same, and refused takes are those of before, or their count rose.
pub record GoesOn (old new : Holding) : Type 0 where
  pub table : new.table ≡ old.table
  pub lends : new.lends ≡ old.lends
  pub offered : new.offered ≡ old.offered
  pub through : new.through ≡ old.through
  pub refused : AreRefusedAfter old new

-- the rows offered, where they are told, are these
abbrev pub AreOffered : Option (List EdgeRow) → List EdgeRow → Type 0
AreOffered None rows = Unit {0}
AreOffered (Some told) rows = rows ≡ told

-- one more stripe is held, with the rows that were offered of it, where they are told, and some room
pub record HasTaken (old new : Holding) (stripe : ℕ) (mode : Mode) : Type 0 where
  pub goes_on : GoesOn old new
  pub rows : List EdgeRow
  pub room : ℕ
  pub lent : new.lent ≡ old.lent ++ record { held = just_taken stripe mode rows; room = room } ∷ []
  pub told : AreOffered (offered_at old stripe) rows

-- nothing was taken
pub record HasTakenNothing (old new : Holding) : Type 0 where
  pub goes_on : GoesOn old new
  pub lent : new.lent ≡ old.lent

-- the stripes told of a refused take, where they are told, are these
abbrev pub AreToldAs : Option (List HeldStripe) → List HeldStripe → Type 0
AreToldAs None held = Unit {0}
AreToldAs (Some told) held = told ≡ held

-- the refused take was of this stripe, asked so, answered this, and found these stripes held
abbrev pub IsRefusal : Option RefusedTake → Held → ℕ → Mode → List HeldStripe → Type 0
IsRefusal None answer stripe mode held = ⊥
IsRefusal (Some last) answer stripe mode held = (last.answer ≡ answer) × (answer.stripe ≡ stripe) × (last.mode ≡ mode) × AreToldAs last.held held

-- the count of refused takes rose, and the last is the one that gave this answer
pub record HasRefused (old new : Holding) (stripe : ℕ) (mode : Mode) (answer : Held) : Type 0 where
  pub risen : HasRisen old.refusals new.refusals
  pub last : IsRefusal new.last_refusal answer stripe mode (held_of old)

-- want of memory adds nothing to the count of refused takes
abbrev pub CountsIfHeld : TakeStop → Holding → Holding → Type 0
CountsIfHeld stop.Memory old new = new.refusals ≡ old.refusals
CountsIfHeld (stop.Held held) old new = Unit {0}

-- nor does a take that succeeds: only an answer Held may
abbrev pub CountsOnlyHeld : {T : Type 0} → Result T TakeStop → Holding → Holding → Type 0
CountsOnlyHeld (Ok x) old new = new.refusals ≡ old.refusals
CountsOnlyHeld (Err stop) old new = CountsIfHeld stop old new

-- ---- soundness

-- the stripes as taken are those of one relation that satisfies the dependencies and has fewer than 2^63 tuples
pub record AreOfRelation (spec : Spec) (held : List HeldStripe) (r : List Pairs) : Type 0 where
  pub relation : IsRelation (all_columns spec) r
  pub satisfies : Satisfies r spec.deps
  pub few : length r < 2 ^ 63
  pub rows : (h : HeldStripe) → In h held → h.taken ≡ fragment_of spec r h.stripe

abbrev pub AreOfOneRelation : Spec → List HeldStripe → Type 0
AreOfOneRelation spec held = (r : List Pairs) × AreOfRelation spec held r

-- what a reader of containers needs to know of a stripe's rows
pub record AreGoodRows (spec : Spec) (stripe : ℕ) (rows : List EdgeRow) : Type 0 where
  pub edge : (w : EdgeRow) → In w rows → w.0 < length spec.edges
  pub own_stripe : (w : EdgeRow) → In w rows → row_stripe spec w ≡ stripe
  pub columns : (w : EdgeRow) → In w rows → cols_of w.1 ≡ bound spec (edge_at spec w.0).to
  pub counted : (w : EdgeRow) → In w rows → (0 < w.2) × (w.2 < 2 ^ 63)

-- two rows of an edge with one source and one key are one, and in a singleton two with one source
pub record AreKeyed (spec : Spec) (v w : EdgeRow) : Type 0 where
  pub by_key : v.0 ≡ w.0 → project (bound spec (edge_at spec v.0).from) v.1 ≡ project (bound spec (edge_at spec v.0).from) w.1
      → project (edge_at spec v.0).key v.1 ≡ project (edge_at spec v.0).key w.1 → v ≡ w
  pub single : v.0 ≡ w.0 → (edge_at spec v.0).kind ≡ Singleton → project (bound spec (edge_at spec v.0).from) v.1 ≡ project (bound spec (edge_at spec v.0).from) w.1 → v ≡ w

-- each held stripe's rows as taken are good, and over all held stripes they are keyed
pub record AreReadable (spec : Spec) (held : List HeldStripe) : Type 0 where
  pub good : (h : HeldStripe) → In h held → AreGoodRows spec h.stripe h.taken
  pub keyed : (g h : HeldStripe) → In g held → In h held → (v w : EdgeRow) → In v g.taken → In w h.taken → AreKeyed spec v w
