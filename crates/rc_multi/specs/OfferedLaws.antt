-- What is offered is so in one way.
use Rattle.std.specs.Prelude.{◌≡◌, ℕ, ◌<◌, Bool, true, false, if◌then◌else◌, List, [], ◌∷◌, ◌++◌, Option, Some, None, Result, Ok, Err, OnOk, OnErr, ◌^◌}
use Rattle.std.proofs.Common.{refl, sym, ap, subst, ◌∙◌, inl, inr, arith}
use Rattle.rc_multi.specs.Imports.{nat_cmp, In, IsRising, EdgeRow, Mode, Exclusive, Shared, Spec, AreOfOneRelation, HasRisen, HasTaken, HeldStripe, Holding, IsHeld, IsHeldExclusive, IsPartlyAddedAt, LentStripe, MayTake, held_of, with_changes_at, StripeLock, Suffices, IsSameButLent, HasReplied, locks_of, stripes_held, Pairs, IsChangedAt, partly_changed, Call, Reply, Statement}
use Rattle.std.proofs.Props.{props}
use Rattle.rc_multi.specs.Group.{AreNowOf, HasRunTaking}
use Rattle.rc_multi.specs.Offered.{IsFrom, IsFromSo, Start}
use Rattle.rc_multi.specs.Offering.{IsOffered, offering}
use Rattle.rc_multi.specs.OfferingLaws.{change_offered, has_run_over, has_taken, lock_lent, offered_first, offered_rows, part_taken, taken_offered, taken_part}

suffices_once : (held wanted : Mode) → IsProp (Suffices held wanted)
suffices_once Exclusive wanted = hlevel props
suffices_once Shared Shared = hlevel props
suffices_once Shared Exclusive = hlevel props

rising_once : (xs : List ℕ) → IsProp (IsRising nat_cmp xs)
rising_once [] = hlevel props
rising_once (x ∷ xs) = let rest : IsProp (IsRising nat_cmp xs) = rising_once xs in hlevel (rest, props)

pub offered_once : (begun : List HeldStripe) (s : Holding) (taken : List StripeLock) → IsProp (IsOffered begun s taken)
offered_once begun s taken = hlevel (suffices_once, rising_once, props)

pub lent_once : (begun s : Holding) → IsProp (IsSameButLent begun s)
lent_once begun s = hlevel props

pub from_rows : (start : Option Start) (begun s : Holding) (taken : List StripeLock) (n : ℕ) (spec : Spec) → IsOffered (held_of begun) s taken → IsFromSo start begun spec
    → AreOfOneRelation spec (held_of (offering (held_of begun) s taken n))
from_rows None begun s taken n spec k f = absurd f
from_rows (Some start) begun s taken n spec k f = (f.relation, offered_rows spec (held_of begun) s taken n k f.relation f.now)

pub is_held : (held : List HeldStripe) (p : ℕ) → IsHeldExclusive held p → IsHeld held p
is_held held p x = (x.0, x.1, x.2)

-- what is offered after a call that may have left all as it was
pub may_offer : {T E : Type 0} (result : Result T E) (begun : List HeldStripe) (old next new : Holding) (taken : List StripeLock) → IsOffered begun old taken → IsOffered begun next taken
    → OnOk result (new ≡ next) → OnErr result (new ≡ old) → IsOffered begun new taken
may_offer (Ok x) begun old next new taken k l ok err = subst (λ (s : Holding). IsOffered begun s taken) (sym ok) l
may_offer (Err x) begun old next new taken k l ok err = subst (λ (s : Holding). IsOffered begun s taken) (sym err) k

-- all but what is lent stays, one call after another
pub lent_again : (a b c : Holding) → IsSameButLent a b → IsSameButLent b c → IsSameButLent a c
lent_again a b c p q = q ∙ ap (λ (s : Holding). let t : Holding = record s { lent = c.lent } in t) p

pub may_lend : {T E : Type 0} (result : Result T E) (begun old next new : Holding) → IsSameButLent begun old → IsSameButLent old next → OnOk result (new ≡ next) → OnErr result (new ≡ old)
    → IsSameButLent begun new
may_lend (Ok x) begun old next new k l ok err = subst (IsSameButLent begun) (sym ok) (lent_again begun old next k l)
may_lend (Err x) begun old next new k l ok err = subst (IsSameButLent begun) (sym err) k

-- a call that changed a tuple's rows of a stripe, or failed after some of them
pub either_changed : {T E : Type 0} (result : Result T E) (p class n : ℕ) (t : Pairs) (change : List EdgeRow → List EdgeRow) (old new : Holding) → OnOk result (new ≡ with_changes_at p n change old)
    → OnErr result (IsPartlyAddedAt p class t old new) → IsChangedAt p old new
either_changed (Ok x) p class n t change old new ok err = (n, change, ok)
either_changed (Err x) p class n t change old new ok err = partly_changed p class t old new err

-- what is offered after changes of a stripe that the plan holds
pub changed_offer : (p : ℕ) (begun : List HeldStripe) (old new : Holding) (taken : List StripeLock) (n : ℕ) → IsOffered begun old taken → IsHeld (held_of (offering begun old taken n)) p → IsChangedAt p old new → IsOffered begun new taken
changed_offer p begun old new taken n k held b = subst (λ (s : Holding). IsOffered begun s taken) (sym b.2) (change_offered p b.1 b.0 begun old taken k held)

-- and all but what is lent stays
pub changed_lend : (p : ℕ) (begun old new : Holding) → IsSameButLent begun old → IsChangedAt p old new → IsSameButLent begun new
changed_lend p begun old new k b = subst (IsSameButLent begun) (sym b.2) (lent_again begun old (with_changes_at p b.0 b.1 old) k refl)

-- ---- takes

module _ (begun : List HeldStripe) (s : Holding) (taken : List StripeLock) (n : ℕ) (k : IsOffered begun s taken) (q : ℕ) (m : Mode)
    (l : MayTake (Some (locks_of begun)) q m) (above : (h : HeldStripe) → In h (held_of (offering begun s taken n)) → h.stripe < q) where
  own : (x : LentStripe) × In x s.lent × (x.held.stripe ≡ q) × (x.held.mode ≡ l.0)
  own = lock_lent begun s taken k q l.0 l.1

  fit : Suffices own.0.held.mode m
  fit = subst (λ (z : Mode). Suffices z m) (sym own.3) l.2

  pub may_take : HasTaken (offering begun s taken n) (offering begun s (taken ++ (q, m) ∷ []) n) q m
  may_take = has_taken begun s taken n k q m own.0 own.1 own.2 fit above

  pub pushed : (b : Bool) (new : List StripeLock) → new ≡ (if b then taken ++ (q, m) ∷ [] else taken) → IsOffered begun s new
  pushed true new e = subst (IsOffered begun s) (sym e) (taken_offered begun s taken n k q m own.0 own.1 own.2 fit above)
  pushed false new e = subst (IsOffered begun s) (sym e) k

-- ---- the run of a plan

-- a holder that begins there
pub from_start : (start : Option Start) (spec : Spec) (told begun : Holding) → start ≡ Some (record { spec = spec; told = told }) → begun ≡ told
    → (r : List Pairs) × AreNowOf spec (held_of told) r → IsFromSo start begun spec
from_start start spec told begun e same now =
    subst (λ (x : Option Start). IsFromSo x begun spec) (sym e)
    (record { spec_is = refl; told_is = same; relation = now.0; now = subst (λ (s : Holding). AreNowOf spec (held_of s) now.0) (sym same) now.1 })

-- and ends from there
pub held_end : (start : Option Start) (spec : Spec) (told begun : Holding) → start ≡ Some (record { spec = spec; told = told }) → IsFromSo start begun spec → begun ≡ told
held_end start spec told begun e from =
    let f : IsFrom (record { spec = spec; told = told }) begun spec = subst (λ (x : Option Start). IsFromSo x begun spec) e from in f.told_is

pub ran_taking : (begun held : List HeldStripe) (s : Holding) (taken : List StripeLock) (n : ℕ) (spec : Spec) (plan : List Statement) (call : Call) (reply : Reply) → begun ≡ held
    → IsOffered begun s taken → HasReplied spec plan call (held_of (offering begun s taken n)) reply → HasRunTaking spec plan call held (held_of s) taken reply
ran_taking begun held s taken n spec plan call reply e k replied =
    subst (λ (hs : List HeldStripe). HasRunTaking spec plan call hs (held_of s) taken reply) e
    (record {
      ran = record { part = held_of (offering begun s taken n); over = has_run_over begun s taken k; replied = replied };
      only = part_taken begun s.lent taken;
      each = taken_part begun s taken k;
    })

-- no take of it is refused
pub none_risen : HasRisen 0 0 → ⊥
none_risen (inl l) = omega (arith, l)
none_risen (inr e) = let one : 1 ≡ 2 ^ 64 = e.1 in omega (arith, one)

-- at a plan's start
pub first_offered : (begun s : Holding) (taken : List StripeLock) → begun ≡ s → taken ≡ [] → IsRising nat_cmp (stripes_held (held_of s)) → IsOffered (held_of begun) s taken
first_offered begun s taken same none rising =
    subst (λ (x : Holding × List StripeLock). IsOffered (held_of x.0) s x.1) (λ i. (sym same i, sym none i)) (offered_first s rising)
