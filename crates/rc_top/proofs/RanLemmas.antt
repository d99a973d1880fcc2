-- What the end of a command leaves of a run.
use Rattle.std.proofs.Common.{◌≡◌, ◌∙◌, ◌↔◌, ℕ, List, Option, Some, None, Result, Ok, Err, subst, sym}
use Rattle.rc_top.proofs.Imports.{IfOk, IfSome, IsSome, Takes, IsEmpty, takes_all, Outcome, Ran, Status, Done, Refused, Stop, Memory, Sink, IsSizeRefusal, MakesCalls, also_of, ArePlansFor, HasSummaryText, ArePlanned, HasTextOf, IsOneHistory, ran_in, status_in, summed_is_one_history, text_is_one_history, Writes, Nothing, Command, Big, TextCommand, also_asked, ArePlansAsked, status_of}

-- what holds of each run that there may be
each_some : {A : Type 0} (P Q : A → Type 0) (o : Option A) → ((x : A) → P x → Q x) → IfSome o P → IfSome o Q
each_some P Q None f h = tt
each_some P Q (Some x) f h = f x h

module _ (command : TextCommand) (bytes : List ℕ) (old new : Option (List ℕ)) (r : Result Outcome Stop) (written : IfOk r (λ o. IfSome o.ran (HasTextOf command bytes old new))) where
  ran_of_bytes : IfSome (ran_in r) (HasTextOf command bytes old new)
  ran_of_bytes = go r written
    where
      go : (r : Result Outcome Stop) → IfOk r (λ o. IfSome o.ran (HasTextOf command bytes old new)) → IfSome (ran_in r) (HasTextOf command bytes old new)
      go (Ok o) h = h
      go (Err e) h = tt

  -- it is of one history
  pub history_left : IfSome (ran_in r) (IsOneHistory (ArePlansFor command) (also_of command))
  history_left =
      each_some (HasTextOf command bytes old new) (IsOneHistory (ArePlansFor command) (also_of command)) (ran_in r) (text_is_one_history command bytes old new) ran_of_bytes

  -- and, where the source told its bytes, of these
  pub run_left : (input : List ℕ) (told left : Option (List ℕ)) → told ≡ Some input → Takes told bytes left → IsEmpty left → IfSome (ran_in r) (HasTextOf command input old new)
  run_left input told left is_told taken empty =
      subst (λ (b : List ℕ). IfSome (ran_in r) (HasTextOf command b old new)) (takes_all input bytes left (sym is_told ∙ taken) empty).0 ran_of_bytes

-- a run is left exactly where the command is done that makes one
pub left_exactly : (command : TextCommand) (r : Result Outcome Stop) → IfOk r (λ o. IsSome o.ran ↔ MakesCalls command × (o.status ≡ Done))
    → IsSome (ran_in r) ↔ MakesCalls command × (status_of (status_in r) ≡ Done)
left_exactly command (Ok o) h = h
left_exactly command (Err Memory) h = (λ s. cc, λ e. cc)
left_exactly command (Err Sink) h = (λ s. cc, λ e. cc)

-- no run is left of a command that isn't done
pub none_left : (ran : Option Ran) (status : Status) {C : Type 0} → ran ≡ None → (status ≡ Done → ⊥) → IsSome ran ↔ C × (status ≡ Done)
none_left ran status none other = (λ s. let t : IsSome {T = Ran} None = subst IsSome none s in cc, λ e. absurd (other e.1))

pub size_not_done : (old new : Option (List ℕ)) (r : Result Status Stop) → Writes IsSizeRefusal old new r → status_of r ≡ Done → ⊥
size_not_done old new (Ok status) (text, is, adds) e = let f : Refused ≡ Done = sym is.1 ∙ e in cc
size_not_done old new (Err Memory) h e = cc
size_not_done old new (Err Sink) h e = cc

pub history_by_seed : (named : Option Command) (seed calls : ℕ) (ran : Option Ran) → named ≡ Some (Big seed calls) → IfSome ran (IsOneHistory ArePlanned Nothing)
    → IfSome ran (IsOneHistory (ArePlansAsked named) (also_asked named))
history_by_seed named seed calls ran is h = subst (λ (c : Option Command). IfSome ran (IsOneHistory (ArePlansAsked c) (also_asked c))) (sym is) h

-- a generated workload leaves its run exactly where it is done
module _ (r : Result Outcome Stop) where
  pub big_left_exactly : IfOk r (λ o. IsSome o.ran × (o.status ≡ Done)) → IsSome (ran_in r) ↔ (status_of (status_in r) ≡ Done)
  big_left_exactly h = go r h
    where
      go : (r : Result Outcome Stop) → IfOk r (λ o. IsSome o.ran × (o.status ≡ Done)) → IsSome (ran_in r) ↔ (status_of (status_in r) ≡ Done)
      go (Ok o) h = (λ s. h.1, λ e. h.0)
      go (Err Memory) h = (λ s. cc, λ e. cc)
      go (Err Sink) h = (λ s. cc, λ e. cc)

  module _ (seed calls : ℕ) (old new : Option (List ℕ)) (summed : IfOk r (λ o. IfSome o.ran (HasSummaryText seed calls old new))) where
    pub summary_left : IfSome (ran_in r) (HasSummaryText seed calls old new)
    summary_left = go r summed
      where
        go : (r : Result Outcome Stop) → IfOk r (λ o. IfSome o.ran (HasSummaryText seed calls old new)) → IfSome (ran_in r) (HasSummaryText seed calls old new)
        go (Ok o) h = h
        go (Err e) h = tt

    pub big_history_left : IfSome (ran_in r) (IsOneHistory ArePlanned Nothing)
    big_history_left = each_some (HasSummaryText seed calls old new) (IsOneHistory ArePlanned Nothing) (ran_in r) (summed_is_one_history seed calls old new) summary_left
