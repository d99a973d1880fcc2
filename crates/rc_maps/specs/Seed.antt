-- What a seeded hasher computes.
use Rattle.rc_maps.specs.Imports.{ℕ, List, fold}
use Rattle.std.specs.Hash as fed
use Rattle.std.specs.Hash.FoldHasher as folding
use Rattle.rc_maps.specs.declared.seed.Seed.{Seed}
use Rattle.rc_maps.specs.declared.seed.SeededHasher.{SeededHasher}

-- the seed of two numbers: a hasher that the first has entered, and the last
abbrev pub seed_of : ℕ → ℕ → Seed
seed_of first last = record { state = fold folding.write folding.initial (fed.u64 first); last = last }

-- the hasher with which a hash begins
abbrev pub seeded : Seed → SeededHasher
seeded s = record { state = s.state; last = s.last }

abbrev pub hashed : SeededHasher → List ℕ → SeededHasher
hashed h bytes = record { state = folding.write h.state bytes; last = h.last }

-- the hash, once the last number has entered
abbrev pub finished : SeededHasher → ℕ
finished h = folding.finish (fold folding.write h.state (fed.u64 h.last))
