-- Changes of held stripes leave what the stripes are as taken.
use Rattle.std.specs.Prelude.{◌≡◌, ℕ, ◌==◌, Bool, true, false, List, [], ◌∷◌, cond, map}
use Rattle.std.proofs.Common.{refl, ap, ◌∙◌}
use Rattle.rc_machine.proofs.Imports.{Pairs, EdgeRow, HeldStripe, Holding, IsPartlyAddedAt, changed_at, held_of, reverted, with_changes, held-change, NumberedRow, class_rows, EdgeShape, AreTakenAlike, IsSameButLent, all_placed, ClassStripe}
use Rattle.rc_machine.proofs.LentLemmas.{lent_new}

pub taken_alike : (s : ℕ) (f : List EdgeRow → List EdgeRow) (held : List HeldStripe) → AreTakenAlike held (changed_at s f held)
taken_alike s f [] = refl
taken_alike s f (h ∷ held) = go (h.stripe == s) (taken_alike s f held)
  where
    go : (b : Bool) → map reverted (changed_at s f held) ≡ map reverted held
        → reverted (cond b (record { stripe = h.stripe; mode = h.mode; now = f h.now; taken = h.taken }) h) ∷ map reverted (changed_at s f held) ≡ reverted h ∷ map reverted held
    go true ih = ap (λ z. reverted h ∷ z) ih
    go false ih = ap (λ z. reverted h ∷ z) ih

all_alike : (change : List NumberedRow → List EdgeRow → List EdgeRow) (table : List EdgeShape) (t : Pairs) (places : List ClassStripe) (held : List HeldStripe) → AreTakenAlike held (all_placed change table t places held)
all_alike change table t [] held = refl
all_alike change table t (p ∷ places) held =
    all_alike change table t places (changed_at p.stripe (change (class_rows table p.class t)) held) ∙ taken_alike p.stripe (change (class_rows table p.class t)) held

-- so do those of a tuple's rows of some classes
pub placed_alike : (change : List NumberedRow → List EdgeRow → List EdgeRow) (table : List EdgeShape) (t : Pairs) (places : List ClassStripe) (held new : List HeldStripe) → new ≡ all_placed change table t places held → AreTakenAlike held new
placed_alike change table t places held new is = ap (map reverted) is ∙ all_alike change table t places held

-- and so do some of a tuple's rows that are added
pub partly_alike : (stripe class : ℕ) (t : Pairs) (old new : Holding) → IsPartlyAddedAt stripe class t old new → AreTakenAlike (held_of old) (held_of new)
partly_alike stripe class t old new partly =
    ap (λ s. map reverted (held_of s)) partly.value ∙ ap (map reverted) (held-change stripe partly.changes partly.change old) ∙ taken_alike stripe partly.change (held_of old)

pub partly_lent : (stripe class : ℕ) (t : Pairs) (old new : Holding) → IsPartlyAddedAt stripe class t old new → IsSameButLent old new
partly_lent stripe class t old new partly = lent_new old new (map (with_changes stripe partly.changes partly.change) old.lent) partly.value
