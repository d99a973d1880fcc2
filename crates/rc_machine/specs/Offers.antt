-- What a holder offers where its stripes are those of one relation.
use Rattle.std.specs.Prelude.{◌≡◌, ℕ, ◌<◌, ◌^◌, List, Some, length}
use Rattle.rc_machine.specs.Imports.{IsRelation, Satisfies, Pairs, Spec, all_columns, fragment_of, stripe_total, Holding, offered_at}

-- what is offered of each stripe is its fragment of one relation that satisfies the dependencies and has fewer than 2^63 tuples
pub record OffersAll (spec : Spec) (s : Holding) (r : List Pairs) : Type 0 where
  pub relation : IsRelation (all_columns spec) r
  pub satisfies : Satisfies r spec.deps
  pub few : length r < 2 ^ 63
  pub rows : (n : ℕ) → n < stripe_total spec → offered_at s n ≡ Some (fragment_of spec r n)
