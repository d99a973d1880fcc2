-- A tuple's rows added to the edges on held stripes, or taken out of them.
use Rattle.std.specs.Prelude.{◌≡◌, ℕ, ◌<◌, ◌^◌, ◌==◌, ◌++◌, Bool, List, [], ◌∷◌, cond, filter, length, map, not}
use Rattle.rc_machine.specs.Imports.{list_any, AreDistinct, In, inter, Pairs, Spec, row_in, AreCountedRows, bound, edge_at, EdgeRow, edge_numbers, class_of, physical_stripe, EdgeShape, HasAlone, HasSingle, IsThere, edge_table, HasRoomFor, HeldStripe, Holding, IsHeldExclusive, changed_at, NumberedRow, class_rows, class_edges}
use Rattle.rc_machine.specs.declared.stripe.ClassStripe.{ClassStripe}

-- the stripe on which a tuple's row of the edge falls
abbrev pub stripe_in : Spec → Pairs → ℕ → ℕ
stripe_in spec t e = physical_stripe spec (class_of spec e) (row_in spec t e)

-- the held stripes with the change of the tuple's row in each of some edges, on the stripe on which it falls
abbrev pub all_changed : (ℕ → Pairs → List EdgeRow → List EdgeRow) → Spec → Pairs → List ℕ → List HeldStripe → List HeldStripe
all_changed change spec t [] held = held
all_changed change spec t (e ∷ edges) held = all_changed change spec t edges (changed_at (stripe_in spec t e) (change e (row_in spec t e)) held)

-- the stripe of the tuple's row in each edge is held for a change
abbrev pub AreExclusive : Spec → Pairs → List HeldStripe → Type 0
AreExclusive spec t held = (e : ℕ) → e < length spec.edges → IsHeldExclusive held (stripe_in spec t e)

-- On a stripe's rows the row can be added to the edge: counts are small, no other row has its source and key, and in a singleton none with its source has another key.
pub record IsAddable (table : List EdgeShape) (e : ℕ) (row : Pairs) (rows : List EdgeRow) : Type 0 where
  pub small : (w : EdgeRow) → In w rows → w.0 ≡ e → w.2 < 2 ^ 63
  pub alone : HasAlone table rows e row
  pub single : HasSingle table rows e row

-- the tuple's row can be added to each edge
abbrev pub AreAddable : Spec → Pairs → List HeldStripe → Type 0
AreAddable spec t held = (e : ℕ) → e < length spec.edges → (h : HeldStripe) → In h held → h.stripe ≡ stripe_in spec t e → IsAddable (edge_table spec) e (row_in spec t e) h.now

-- each edge has the tuple's row
abbrev pub AreAllThere : Spec → Pairs → List HeldStripe → Type 0
AreAllThere spec t held = (e : ℕ) → e < length spec.edges → (h : HeldStripe) → In h held → h.stripe ≡ stripe_in spec t e → IsThere h.now e (row_in spec t e)

-- the rows of each stripe are counted
abbrev pub AreAllCounted : List HeldStripe → Type 0
AreAllCounted held = (h : HeldStripe) → In h held → AreCountedRows h.now

-- ---- classes, each with the stripe on which a tuple falls

-- the class, and the stripe of it on which the tuple falls
abbrev pub place_in : Spec → Pairs → ℕ → ClassStripe
place_in spec t c = record { class = c; stripe = physical_stripe spec c t }

-- the places, with that of one more class, which may be among them already
abbrev pub with_place : Spec → Pairs → List ClassStripe → ℕ → List ClassStripe
with_place spec t places c = cond (list_any (λ (p : ClassStripe). p.class == c) places) places (places ++ place_in spec t c ∷ [])

-- no two are of one stripe, and each class has edges
pub record ArePlaces (spec : Spec) (places : List ClassStripe) : Type 0 where
  pub apart : AreDistinct (map (λ (p : ClassStripe). p.stripe) places)
  pub used : (p : ClassStripe) → In p places → 0 < length (class_edges spec p.class)

-- the held stripes with a change of the tuple's rows of each class on its stripe
abbrev pub all_placed : (List NumberedRow → List EdgeRow → List EdgeRow) → List EdgeShape → Pairs → List ClassStripe → List HeldStripe → List HeldStripe
all_placed change table t [] held = held
all_placed change table t (p ∷ places) held = all_placed change table t places (changed_at p.stripe (change (class_rows table p.class t)) held)

-- the stripe is held for a change, and this holds of its rows, the class and the tuple
pub record CanChange (holds : List EdgeShape → List EdgeRow → ℕ → Pairs → Type 0) (table : List EdgeShape) (held : List HeldStripe) (t : Pairs) (p : ClassStripe) : Type 0 where
  pub exclusive : IsHeldExclusive held p.stripe
  pub can : (h : HeldStripe) → In h held → h.stripe ≡ p.stripe → holds table h.now p.class t

-- ---- rows that a change of some columns changes

-- whether the edge's target has one of the columns
abbrev pub has_column : Spec → List ℕ → ℕ → Bool
has_column spec cols e = not (length (inter (bound spec (edge_at spec e).to) cols) == 0)

-- the edges whose target has one of the columns
abbrev pub edges_with : Spec → List ℕ → List ℕ
edges_with spec cols = filter (has_column spec cols) (edge_numbers spec)

-- ---- room

-- each stripe, where it is held, has room for the changes of a tuple of the class
abbrev pub HaveRoom : List ClassStripe → Holding → Type 0
HaveRoom places s = (p : ClassStripe) → In p places → HasRoomFor s p.stripe p.class

-- all but what is lent is the same
abbrev pub IsSameButLent : Holding → Holding → Type 0
IsSameButLent old new = new ≡ record old { lent = new.lent }
