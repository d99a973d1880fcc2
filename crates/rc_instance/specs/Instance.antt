-- What an instance keeps: one fragment for each physical stripe, and which stripes are held.
use Rattle.std.specs.Prelude.{◌≡◌, ℕ, suc, ◌<◌, ◌≤◌, ◌^◌, List, [], ◌∷◌, ◌++◌, Option, None, Some, length, map}
use Rattle.rc_instance.specs.Imports.{flat_map, slice_get, In, Pairs, IsRelation, Satisfies, all_columns, EdgeRow, fragment_of, stripe_total, Mode, Spec, edge_table, FragmentRows, HeldStripe, Holding, IsHeld, LentStripe, IsAtRest, KeptRows, at_rest, EdgeShape}

-- ---- what is seen of the stripes

-- the fragment of a stripe, and how the stripe is held, if it is
pub record Stripe : Type 0 where
  pub fragment : FragmentRows
  pub held : Option Mode

-- the stripes of these fragments, each held as is said in its place, and free where nothing is said
abbrev pub stripes_of : List FragmentRows → List (Option Mode) → List Stripe
stripes_of [] ms = []
stripes_of (f ∷ fs) [] = record { fragment = f; held = None } ∷ stripes_of fs []
stripes_of (f ∷ fs) (m ∷ ms) = record { fragment = f; held = m } ∷ stripes_of fs ms

-- the edge table of all fragments
abbrev pub table_of : List Stripe → List EdgeShape
table_of [] = []
table_of (s ∷ ss) = s.fragment.table

-- a stripe as a plan has it, if it is held
abbrev pub held_part : ℕ → FragmentRows → Option Mode → List HeldStripe
held_part n f None = []
held_part n f (Some mode) = record { stripe = n; mode = mode; now = f.now; taken = f.taken } ∷ []

-- the held ones of several stripes, the first of which has this number
abbrev pub held_from : ℕ → List Stripe → List HeldStripe
held_from n [] = []
held_from n (s ∷ ss) = held_part n s.fragment s.held ++ held_from (suc n) ss

-- a stripe as a holder lends it, if it is held
abbrev pub lent_part : ℕ → FragmentRows → Option Mode → List LentStripe
lent_part n f None = []
lent_part n f (Some mode) = record { held = record { stripe = n; mode = mode; now = f.now; taken = f.taken }; room = f.room } ∷ []

-- the held ones of several stripes, the first of which has this number, as a holder lends them
abbrev pub lent_from : ℕ → List Stripe → List LentStripe
lent_from n [] = []
lent_from n (s ∷ ss) = lent_part n s.fragment s.held ++ lent_from (suc n) ss

-- what an instance tells as a holder: it has all stripes to lend, each offers its rows as taken, and no take is refused
abbrev pub holding : List Stripe → Holding
holding ss = record { table = table_of ss; lent = lent_from 0 ss; lends = None; offered = map (λ s. Some s.fragment.taken) ss; refusals = 0; last_refusal = None; through = 0 }

-- the numbers of the held ones of several stripes, the first of which has this number
abbrev pub number_part : ℕ → Option Mode → List ℕ
number_part n None = []
number_part n (Some mode) = n ∷ []

abbrev pub held_numbers : ℕ → List Stripe → List ℕ
held_numbers n [] = []
held_numbers n (s ∷ ss) = number_part n s.held ++ held_numbers (suc n) ss

-- the rows as taken, which are offered where the stripe is free
abbrev pub taken_in : Option Stripe → Option (List EdgeRow)
taken_in None = None
taken_in (Some s) = Some s.fragment.taken

abbrev pub room_in : Option Stripe → ℕ
room_in None = 0
room_in (Some s) = s.fragment.room

abbrev pub offered_at : List Stripe → ℕ → Option (List EdgeRow)
offered_at ss n = taken_in (slice_get ss n)

abbrev pub room_at : List Stripe → ℕ → ℕ
room_at ss n = room_in (slice_get ss n)

-- the rows now of all stripes, one stripe after the other
abbrev pub rows_of : List Stripe → List EdgeRow
rows_of ss = flat_map (λ s. s.fragment.now) ss

-- all fragments have one edge table, and no change of a free stripe is pending
pub record IsInstance (ss : List Stripe) : Type 0 where
  pub table : (s : Stripe) → In s ss → s.fragment.table ≡ table_of ss
  pub free : (s : Stripe) → In s ss → s.held ≡ None → IsAtRest s.fragment

-- what an instance keeps: its stripes' fragments, at most as many as there are places for how each is held, and the numbers of those that are held
pub record IsWholeInstance (fs : List FragmentRows) (ms : List (Option Mode)) (numbers : List ℕ) : Type 0 where
  pub stripes : IsInstance (stripes_of fs ms)
  pub few : length fs ≤ 256
  pub numbers_held : numbers ≡ held_numbers 0 (stripes_of fs ms)

-- ---- instances that are made

-- each stripe is free, has no row and offers none
pub record IsEmpty (ss : List Stripe) : Type 0 where
  pub held : held_from 0 ss ≡ []
  pub rows : rows_of ss ≡ []
  pub offered : (n : ℕ) → n < length ss → offered_at ss n ≡ Some []

abbrev pub table_of_fragments : List FragmentRows → List EdgeShape
table_of_fragments [] = []
table_of_fragments (f ∷ fs) = f.table

abbrev pub rows_of_fragments : List FragmentRows → List EdgeRow
rows_of_fragments fs = flat_map (λ f. f.now) fs

-- all kept fragments have one edge table
abbrev pub HaveOneTable : List KeptRows → Type 0
HaveOneTable ks = (j k : KeptRows) → In j ks → In k ks → j.table ≡ k.table

-- a free stripe with this fragment
abbrev pub kept_stripe : KeptRows → Stripe
kept_stripe k = record { fragment = at_rest k; held = None }

-- ---- stripes that are released

-- no stripe is held any more: each that was offers the rows that it had, and each other what it did
pub record AreReleased (old new : List Stripe) : Type 0 where
  pub held : held_from 0 new ≡ []
  pub rows : rows_of new ≡ rows_of old
  pub settled : (h : HeldStripe) → In h (held_from 0 old) → offered_at new h.stripe ≡ Some h.now
  pub others : (n : ℕ) → (IsHeld (held_from 0 old) n → ⊥) → offered_at new n ≡ offered_at old n
  pub room : (n : ℕ) → room_at new n ≡ room_at old n
  pub stripes : length new ≡ length old
  pub table : table_of new ≡ table_of old

-- ---- soundness

-- the instance is one of the specification, with its edge table and as many stripes, and the stripes as taken are the fragments of this relation, which satisfies the dependencies and has fewer than 2^63 tuples
pub record IsOfRelation (spec : Spec) (ss : List Stripe) (r : List Pairs) : Type 0 where
  pub table : table_of ss ≡ edge_table spec
  pub relation : IsRelation (all_columns spec) r
  pub satisfies : Satisfies r spec.deps
  pub few : length r < 2 ^ 63
  pub stripes : length ss ≡ stripe_total spec
  pub rows : (n : ℕ) → n < stripe_total spec → offered_at ss n ≡ Some (fragment_of spec r n)

-- the same of some relation
abbrev pub IsOfOneRelation : List Stripe → Spec → Type 0
IsOfOneRelation ss spec = (r : List Pairs) × IsOfRelation spec ss r
