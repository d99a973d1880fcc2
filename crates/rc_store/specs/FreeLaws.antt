-- The passes of a store that was just built are free.
use Rattle.std.proofs.Common.{ℕ, ◌<◌, All, refl, sym, subst, arith}
use Rattle.std.proofs.lemmas.List.FromFn.{length-map-range_with_len, get_or-map-range_with_len}
use Rattle.rc_store.specs.Imports.{Keeping, Counts, Entries, KeepsAs, PassSeen, new_pass, new_passes, none_kept}
use Rattle.rc_store.specs.Store.{IsFree, StoreSeen}

keeps_none : (keeping : Keeping) → KeepsAs keeping (none_kept keeping)
keeps_none Entries = tt
keeps_none Counts = tt

pub new_is_free : (store : StoreSeen) (k : ℕ) → IsFree store (new_pass store.row k)
new_is_free store k = record {
  of_row = record { table = refl; inside = λ i d below. absurd (omega arith); shapes = λ i d below. absurd (omega arith); keeps = keeps_none store.row.keeping };
  idle = refl;
  few = omega arith;
}

pub new_are_free : (store : StoreSeen) → All (IsFree store) (new_passes store.row)
new_are_free store k d below =
    let known : k < store.row.key.passes = let count = length-map-range_with_len (new_pass store.row) 0 store.row.key.passes in omega arith in
    subst (λ (pass : PassSeen). IsFree store pass)
    (sym (get_or-map-range_with_len (new_pass store.row) 0 store.row.key.passes k k d known (omega arith))) (new_is_free store k)
