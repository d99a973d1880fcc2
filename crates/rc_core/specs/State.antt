-- What the core's state says of stripes and passes.
use Rattle.std.specs.Prelude.{ℕ, Bool, true, false, List, [], ◌||◌, ◌==◌, Option, Some, None, map, filter, get_or}
use Rattle.rc_core.specs.Imports.{flat_map, gather, has, Mode, Shared, Exclusive, EdgeRow, edge_row_cmp, StripeLock}
use Rattle.rc_core.specs.declared.state.Hold.{Hold}
use Rattle.rc_core.specs.declared.state.PassState.{PassState}
use Rattle.rc_core.specs.declared.state.Keeper.{Keeper}
use Rattle.rc_core.specs.declared.state.Keeper.TheVariants.{Home, Writer}
use Rattle.rc_core.specs.declared.state.StripeState.{StripeState}

-- ---- stripes

abbrev pub has_writer : Keeper → Bool
has_writer (Home rows) = false
has_writer (Writer k) = true

-- whether the pass writes the stripe
abbrev pub is_writer : Keeper → ℕ → Bool
is_writer (Home rows) k = false
is_writer (Writer j) k = j == k

-- the rows that lie at home
abbrev pub home_rows : Keeper → List EdgeRow
home_rows (Home rows) = rows
home_rows (Writer k) = []

-- what stands where there is no stripe
abbrev pub no_stripe : StripeState
no_stripe = record { keeper = Home []; counted = [] }

abbrev pub stripe_at : List StripeState → ℕ → StripeState
stripe_at stripes p = get_or stripes p no_stripe

-- ---- passes

abbrev pub hold : ℕ → Mode → List EdgeRow → Hold
hold p mode rows = record { stripe = p; mode = mode; rows = rows }

abbrev pub stripes_in : List Hold → List ℕ
stripes_in holds = map (λ h. h.stripe) holds

abbrev pub is_mode : Mode → Mode → Bool
is_mode Exclusive Exclusive = true
is_mode Exclusive Shared = false
is_mode Shared Exclusive = false
is_mode Shared Shared = true

abbrev pub held_in : Mode → List Hold → List Hold
held_in mode holds = filter (λ h. is_mode mode h.mode) holds

-- the stripes that a pass writes, and those that it shares
abbrev pub writes_of : PassState → List ℕ
writes_of u = stripes_in (held_in Exclusive u.held)

abbrev pub shares_of : PassState → List ℕ
shares_of u = stripes_in (held_in Shared u.held)

-- the held stripes with their modes
abbrev pub locks_of : PassState → List StripeLock
locks_of u = map (λ h. (h.stripe, h.mode)) u.held

-- the rows of all that a pass holds
abbrev pub rows_held : PassState → List EdgeRow
rows_held u = gather edge_row_cmp (flat_map (λ h. h.rows) u.held)

abbrev pub is_at : Option ℕ → ℕ → Bool
is_at (Some q) p = q == p
is_at None p = false

-- whether the pass shares the stripe or turns back at it
abbrev pub counts_at : PassState → ℕ → Bool
counts_at u p = has (shares_of u) p || is_at u.turning p

-- what stands where there is no pass
abbrev pub no_pass : PassState
no_pass = record { number = 0; held = []; turning = None; own = []; seen = 0; wish = None }

-- the pass of this number, at the start
abbrev pub fresh : ℕ → PassState
fresh k = record no_pass { number = k }

abbrev pub pass_at : List PassState → ℕ → PassState
pass_at passes k = get_or passes k no_pass
