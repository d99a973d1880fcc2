-- What a run of a plan over a holder leaves: held stripes, and a reply. (PLDI 2012, execution of query plans with two-phase locks.)
use Rattle.std.specs.Prelude.{◌≡◌, ℕ, List, Result, Ok, Err, Some, IfOk, map}
use Rattle.rc_machine.specs.Imports.{flat_map, nat_cmp, In, IsRising, gather, Pairs, Call, Reply, Mode, Exclusive, Spec, EdgeRow, edge_row_cmp, fragment_of, plain, Held, AreOffered, AreOfRelation, GoesOn, HasRisen, HeldStripe, Holding, IsAbove, IsRefusal, held_of, offered_at, Statement, SpecWithPlans, plan_at, eval, rows_as_taken, touched, StripeLock}
use Rattle.rc_machine.specs.Stopped.{CountsOnlyHeld}
use Rattle.rc_machine.specs.declared.stop.Stop.{Stop}
use Rattle.rc_machine.specs.declared.stop.Stop.TheVariants as stop

-- ---- held stripes, put together

-- the numbers of the stripes
abbrev pub stripes_held : List HeldStripe → List ℕ
stripes_held held = map (λ (h : HeldStripe). h.stripe) held

-- the stripes, each with its mode
abbrev pub locks_of : List HeldStripe → List StripeLock
locks_of held = map (λ (h : HeldStripe). (h.stripe, h.mode)) held

-- the rows now of all held stripes, rising
abbrev pub rows_now : List HeldStripe → List EdgeRow
rows_now held = gather edge_row_cmp (flat_map (λ (h : HeldStripe). h.now) held)

-- their rows as they were taken
abbrev pub rows_taken : List HeldStripe → List EdgeRow
rows_taken held = gather edge_row_cmp (flat_map (λ (h : HeldStripe). h.taken) held)

-- no held stripe is changed
abbrev pub AreAsTaken : List HeldStripe → Type 0
AreAsTaken held = (h : HeldStripe) → In h held → h.now ≡ h.taken

-- ---- after a reply

-- Evaluation of the plan on the rows as taken gives the reply, names exactly the held stripes with their modes, and leaves the rows now. The stripes were taken rising, and the rows now with the reply's effect taken back are those as taken.
pub record HasEvaluated (spec : Spec) (plan : List Statement) (call : Call) (held : List HeldStripe) (answer : Reply) : Type 0 where
  pub reply : (eval spec plan call (rows_taken held)).reply ≡ Some answer
  pub named : (eval spec plan call (rows_taken held)).named ≡ locks_of held
  pub rows : (eval spec plan call (rows_taken held)).rows ≡ rows_now held
  pub rising : IsRising nat_cmp (stripes_held held)
  pub taken : rows_as_taken spec call.args answer (rows_now held) ≡ rows_taken held

-- The reply is the plain relation's, the call touches exactly the held stripes with their modes on it, each of them now has its fragment of the relation after, and the fragment of each stripe that isn't held Exclusive is the same before and after.
pub record HasServed (spec : Spec) (plan : List Statement) (call : Call) (held : List HeldStripe) (answer : Reply) (r : List Pairs) : Type 0 where
  pub reply : (plain spec r call).reply ≡ answer
  pub touches : touched spec plan call r ≡ locks_of held
  pub rows : (h : HeldStripe) → In h held → h.now ≡ fragment_of spec (plain spec r call).relation h.stripe
  pub others : (stripe : ℕ) → (In (stripe, Exclusive) (locks_of held) → ⊥) → fragment_of spec (plain spec r call).relation stripe ≡ fragment_of spec r stripe

-- evaluation gives the answer, and so does the plain step on each relation of which the held stripes, as taken, have fragments
pub record HasReplied (spec : Spec) (plan : List Statement) (call : Call) (held : List HeldStripe) (answer : Reply) : Type 0 where
  pub evaluated : HasEvaluated spec plan call held answer
  pub served : (r : List Pairs) → AreOfRelation spec held r → HasServed spec plan call held answer r

-- the same by the call's own plan
abbrev pub HasAnswered : SpecWithPlans → Call → Holding → Reply → Type 0
HasAnswered compiled call s answer = HasReplied compiled.spec (plan_at compiled.plans call.op) call (held_of s) answer

-- the answer of a call whose reply is told into a place
abbrev pub told_answer : {T E : Type 0} → Result T E → Reply → Result Reply E
told_answer (Ok x) reply = Ok reply
told_answer (Err e) reply = Err e

-- each held stripe was taken with the rows that are offered of it, where they are told
abbrev pub AreTakenAsOffered : Holding → Type 0
AreTakenAsOffered s = (h : HeldStripe) → In h (held_of s) → AreOffered (offered_at s h.stripe) h.taken

-- ---- after a refused take

-- The count of refused takes rose. Evaluation on the rows held names the refused stripe in the mode that was asked; it is above all that are held, and these are held at the last refused take.
pub record IsRefused (spec : Spec) (plan : List Statement) (call : Call) (old new : Holding) (answer : Held) : Type 0 where
  pub risen : HasRisen old.refusals new.refusals
  pub mode : Mode
  pub last : IsRefusal new.last_refusal answer answer.stripe mode (held_of new)
  pub above : IsAbove (held_of new) answer.stripe
  pub named : In (answer.stripe, mode) (eval spec plan call (rows_taken (held_of new))).named

-- the same by the call's own plan
abbrev pub HasRefusedCall : SpecWithPlans → Call → Holding → Holding → Held → Type 0
HasRefusedCall compiled call old new answer = IsRefused compiled.spec (plan_at compiled.plans call.op) call old new answer

-- ---- what a run leaves

-- After a reply the call is answered. Whatever the result, stripes were taken as they are offered, what the holder offers stays, and only a refused take adds to the count of such. After one the refusal is the last, and no held stripe is changed; where memory was wanted some may be.
pub record HasRunCall (compiled : SpecWithPlans) (call : Call) (old new : Holding) (result : Result Reply Stop) : Type 0 where
  pub answered : IfOk result (HasAnswered compiled call new)
  pub taken : AreTakenAsOffered new
  pub stopped : (h : Held) → result ≡ Err (stop.Held h) → AreAsTaken (held_of new)
  pub refused : (h : Held) → result ≡ Err (stop.Held h) → HasRefusedCall compiled call old new h
  pub counted : CountsOnlyHeld result old new
  pub goes_on : GoesOn old new
