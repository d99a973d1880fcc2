-- What a store shares with its sessions.
use Rattle.std.specs.Prelude.{◌≡◌}
use Rattle.rc_embed.specs.Imports.{IsInRange, Counts, spec_of, HasKnownColumns}
use Rattle.rc_embed.specs.Asked.{columns_of_all}
use Rattle.rc_embed.specs.declared.shared.Shared.TheInside.{Inside}

-- the columns of each operation's values stand by its number, and passes keep no entries
pub record IsWholeShared (a : Inside) : Type 0 where
  pub range : IsInRange (spec_of a.store.row)
  pub known : HasKnownColumns (spec_of a.store.row)
  pub columns : a.columns.items ≡ columns_of_all (spec_of a.store.row)
  pub limit : a.limit ≡ a.store.limit
  pub counts : a.store.row.keeping ≡ Counts
