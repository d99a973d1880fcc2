-- What a prepared group has: its replies, by number, and its commit.
use Rattle.std.specs.Prelude.{◌≡◌, ℕ, zero, suc, ◌<◌, List, [], ◌∷◌, ◌++◌, Some, get_or, length}
use Rattle.rc_store.specs.Imports.{slice_get, Call, Reply, Step, with_replies, with_replies-parts, with_step, PassSeen, compiled_of, core_of}
use Rattle.std.proofs.Common.{refl, sym, ap, subst, ◌∙◌, arith}
use Rattle.std.proofs.lemmas.List.{length-map}
use Rattle.rc_store.specs.declared.receipt.GroupReceipt.{GroupReceipt}
use Rattle.rc_store.specs.Prepared.{IsPrepared}
use Rattle.rc_store.specs.Running.{AreHeldOn, calls_of, replies_of}
use Rattle.rc_store.specs.StepLaws.{group_made}
use Rattle.rc_store.specs.Store.{HasMadeGroup, HoldsExactly, IsGroupFinished, StoreSeen}

pub item_there : {A : Type 0} (xs : List A) (n : ℕ) (d : A) → n < length xs → slice_get xs n ≡ Some (get_or xs n d)
item_there [] n d l = absurd (omega (arith, l))
item_there (x ∷ xs) zero d l = refl
item_there (x ∷ xs) (suc n) d l = item_there xs n d (omega (arith, l))

pub reply_there : (steps : List Step) (n : ℕ) (d : Step) → n < length steps → slice_get (replies_of steps) n ≡ Some (get_or steps n d).reply
reply_there [] n d l = absurd (omega (arith, l))
reply_there (s ∷ steps) zero d l = refl
reply_there (s ∷ steps) (suc n) d l = reply_there steps n d (omega (arith, l))

pub call_there : (steps : List Step) (n : ℕ) (d : Step) → n < length steps → slice_get (calls_of steps) n ≡ Some (get_or steps n d).call
call_there [] n d l = absurd (omega (arith, l))
call_there (s ∷ steps) zero d l = refl
call_there (s ∷ steps) (suc n) d l = call_there steps n d (omega (arith, l))

pub replies_are : (calls : List Call) (replies : List Reply) → length replies ≡ length calls → replies_of (with_replies calls replies) ≡ replies
replies_are [] [] e = refl
replies_are [] (reply ∷ replies) e = absurd (omega (arith, e))
replies_are (call ∷ calls) [] e = absurd (omega (arith, e))
replies_are (call ∷ calls) (reply ∷ replies) e = ap (λ (l : List Reply). reply ∷ l) (replies_are calls replies (omega (arith, e)))

pub as_many : (calls : List Call) (replies : List Reply) → length replies ≡ length calls → length (with_replies calls replies) ≡ length replies
as_many calls replies e = sym (length-map (with_replies calls replies) (λ (s : Step). s.reply)) ∙ ap (λ (l : List Reply). length l) (replies_are calls replies e)

-- one call more with its reply is one step more
pub with_one_more : (calls : List Call) (replies : List Reply) (call : Call) (reply : Reply) → length replies ≡ length calls
    → with_replies (calls ++ call ∷ []) (replies ++ reply ∷ []) ≡ with_step (with_replies calls replies) call reply
with_one_more [] [] call reply e = refl
with_one_more [] (r ∷ replies) call reply e = absurd (omega (arith, e))
with_one_more (c ∷ calls) [] call reply e = absurd (omega (arith, e))
with_one_more (c ∷ calls) (r ∷ replies) call reply e =
    ap (λ (l : List Step). record { call = c; reply = r } ∷ l) (with_one_more calls replies call reply (omega (arith, e)))

-- ---- a prepared group that was committed

-- a group that runs and is finished was made
pub running_group_made : (store : StoreSeen) (begun pass new : PassSeen) (steps : List Step) → AreHeldOn store begun pass steps
    → (receipt : GroupReceipt) → IsGroupFinished store.row (calls_of steps) (replies_of steps) pass new receipt → HasMadeGroup store (calls_of steps) (replies_of steps) begun new receipt
running_group_made store begun pass new steps held receipt finished =
    let parts : with_replies (calls_of steps) (replies_of steps) ≡ steps = with_replies-parts steps in
    group_made store (calls_of steps) (replies_of steps) begun pass new (length-map steps (λ (s : Step). s.reply) ∙ sym (length-map steps (λ (s : Step). s.call)))
    (subst (λ (l : List Step). IsPrepared store.row l begun pass) (sym parts) held.prepared)
    (subst (λ (l : List Step). HoldsExactly (compiled_of store.row) (core_of pass) l) (sym parts) held.exact)
    receipt finished
