-- What a step told, once the number that it found was tested.
use Rattle.std.proofs.Common.{◌≡◌, ◌≢◌, ℕ, ◌%◌, Bool, List, ◌∷◌, ◌++◌, ap, ◌∙◌, subst}
use Rattle.rc_row.proofs.Imports.{MatchBool, Option, Some, None, IfSome, IfNone, eq-eqb, ne_eqb, Key, View, Me, HeldRows, Slot, kept_of, lodged, slot_place, spec_by, IsLockedWith, hands_out, own_hands, EntersOrTurns, HasEntered, HasLatched, HasLocked, HasTurned, IsLatchedOut, IsLockedOut, LatchesOrNot, LocksOrNot}

module _ (key : Key) (m m' : Me Slot View) (p found : ℕ) where
  pub has_locked : found ≡ 0 → LocksOrNot key m p found m' → HasLocked key m p m'
  has_locked e t = subst (λ (b : Bool). MatchBool b (HasLocked key m p m') (IsLockedOut key m p found m')) (eq-eqb found 0 e) t

  pub has_entered : found % 65536 ≡ 0 → EntersOrTurns key m p found m' → HasEntered key m p m'
  has_entered e t = subst (λ (b : Bool). MatchBool b (HasEntered key m p m') (HasTurned key m p found m')) (eq-eqb (found % 65536) 0 e) t

  pub has_latched : found ≡ 0 → LatchesOrNot key m p found m' → HasLatched key m p m'
  has_latched e t = subst (λ (b : Bool). MatchBool b (HasLatched key m p m') (IsLatchedOut key m p found m')) (eq-eqb found 0 e) t

  pub is_latched_out : found ≢ 0 → LatchesOrNot key m p found m' → IsLatchedOut key m p found m'
  is_latched_out n t = subst (λ (b : Bool). MatchBool b (HasLatched key m p m') (IsLatchedOut key m p found m')) (ne_eqb found 0 n) t

-- a stripe just locked, of a pass that had these out
pub locked_with : (key : Key) (m m' : Me Slot View) (p : ℕ) (told : HasLocked key m p m') (k : ℕ) (held : List HeldRows) → m.1 ≡ hands_out key.passes k held
    → IsLockedWith key.passes p told.handed (kept_of (spec_by key) told.rows) told.owns m'.1 (hands_out key.passes k held)
locked_with key m m' p told k held out = record {
  are = told.slots ∙ ap (λ (xs : List (ℕ × Slot)). (slot_place p, lodged (spec_by key) told.handed told.rows) ∷ own_hands key.passes p told.owns ++ xs) out;
  empty = told.empty;
}

pub some_of : {A : Type 0} (o : Option A) (x : A) (P : A → Type 0) → o ≡ Some x → IfSome o P → P x
some_of {A} o x P e t = subst (λ (y : Option A). IfSome y P) e t

pub none_of : {A : Type 0} (o : Option A) (P : Type 0) → o ≡ None → IfNone o P → P
none_of {A} o P e t = subst (λ (y : Option A). IfNone y P) e t
