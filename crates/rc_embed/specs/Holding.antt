-- How an open store has what it shares with its sessions.
use Rattle.rc_embed.specs.Imports.{[], arc_value, seed_of, empty, Counts, StoreSeen}
use Rattle.rc_embed.specs.declared.hold.Hold.{Hold}
use Rattle.rc_embed.specs.declared.hold.Hold.TheVariants.{Alone, Together, Moving}

-- it isn't on its way from one to the other
abbrev pub IsHeld : Hold → Type 0
IsHeld (Alone store) = Unit {0}
IsHeld (Together store) = Unit {0}
IsHeld Moving = ⊥

-- what stands for a store where there is none
abbrev no_store : StoreSeen
no_store = record {
  row = record {
    table = record { words = 0; slots = 0; views_name = 0; atom = 0; block = 0; offset = 0; slot_names = [] };
    key = record {
      compiled = record { marker = record {}; value = record { spec = empty; plans = [] } };
      passes = 0;
      seed = seed_of 0 0;
      history = record { marker = record {}; value = [] };
    };
    keeping = Counts;
  };
  limit = 0;
}

-- the store that is held
abbrev pub held : Hold → StoreSeen
held (Alone store) = store
held (Together store) = arc_value store
held Moving = no_store
