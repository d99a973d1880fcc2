-- For any calls there is a legal history in which each pass makes those of its shard: what the laws ask can be met.
use Rattle.std.proofs.Common.{◌≡◌, ℕ, ◌==◌, Bool, true, false, cond, List, [], ◌∷◌, map, refl, sym, ap, ◌∙◌, subst}
use Rattle.rc_generate.specs.Imports.{Call, Spec, Step, Entry, steps_of, AreLegalFrom, IsLegal, own, plain_steps, calls_of_plain, plain_are_legal}
use Rattle.rc_generate.specs.Shards.{shard_of, calls_in, steps_in, MakesShards}
use Rattle.rc_generate.specs.FilterLaws.{map-filter}

abbrev entries_of : ℕ → (ℕ → ℕ) → List Step → List Entry
entries_of key share steps = map (λ s. record { pass = shard_of key share s.call.args; nth = 0; steps = s ∷ [] }) steps

steps_of_entries : (key : ℕ) (share : ℕ → ℕ) (steps : List Step) → steps_of (entries_of key share steps) ≡ steps
steps_of_entries key share [] = refl
steps_of_entries key share (s ∷ steps) = ap (λ l. s ∷ l) (steps_of_entries key share steps)

own_of_entries : (key : ℕ) (share : ℕ → ℕ) (n : ℕ) (steps : List Step) → steps_of (own (entries_of key share steps) n) ≡ steps_in key share n steps
own_of_entries key share n [] = refl
own_of_entries key share n (s ∷ steps) = go (shard_of key share s.call.args == n) (own_of_entries key share n steps)
  where
    e : Entry
    e = record { pass = shard_of key share s.call.args; nth = 0; steps = s ∷ [] }

    go : (b : Bool) → steps_of (own (entries_of key share steps) n) ≡ steps_in key share n steps
        → steps_of (cond b (e ∷ own (entries_of key share steps) n) (own (entries_of key share steps) n)) ≡ cond b (s ∷ steps_in key share n steps) (steps_in key share n steps)
    go true ih = ap (λ l. s ∷ l) ih
    go false ih = ih

-- the history has all calls in order, each as an entry of its shard's pass
abbrev pub HistoriesExist : Type 0
HistoriesExist = (spec : Spec) (key : ℕ) (share : ℕ → ℕ) (calls : List Call) → (history : List Entry) × IsLegal spec history × MakesShards key share calls history

pub histories_exist : HistoriesExist
histories_exist spec key share calls = (entries_of key share steps, subst (AreLegalFrom spec []) (sym (steps_of_entries key share steps)) (plain_are_legal spec [] calls), makes)
  where
    steps : List Step
    steps = plain_steps spec [] calls

    makes : MakesShards key share calls (entries_of key share steps)
    makes pass =
        ap (map (λ (s : Step). s.call)) (own_of_entries key share pass steps)
        ∙ map-filter (λ (s : Step). s.call) (λ (c : Call). shard_of key share c.args == pass) steps
        ∙ ap (calls_in key share pass) (calls_of_plain spec [] calls)
