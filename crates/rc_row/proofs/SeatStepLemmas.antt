-- What a row's steps require of its table, at a seat that is known to be a pass's.
use Rattle.std.proofs.Common.{◌≡◌, ℕ, suc, ◌+◌, ◌-◌, ◌%◌, ◌^◌, ◌<◌, ◌==◌, List, [], ◌∷◌, ◌++◌, drop, Option, Some, None, sym, ap, ◌∙◌, subst, arith}
use mathlib.Core.Option.{none}
use prog.Atomic.{either}
use Rattle.rc_row.proofs.Imports.{In, Entry, writes_of, shares_of, IsHigh, MayCommit, rows_of_hold, TableId, Me, Step, step, Allows, Splits, Joins, rest, Key, View, Apart, Empty, Handed, own_hands, slot_place, Slot, kept_of, stripes_by, stripe_word, latch_word, view_of, pass_view, note_view, passes_view, numbers_in, standing_of, IsKept, RowSeen, compiled_of, spec_of, stripes_of, IsWholeRow, row_seen, undealt, dealt, noted, informed, gathered, spent, MayLeave, ToldAtLock, ToldAtUnlock, ToldAtEnter, ToldAtBack, ToldAtLeave, ToldAtLatch, ToldAtUnlatch, ToldAtCommit, ToldAtLook}
use Rattle.rc_row.specs.declared.row.Row.TheInside.{Inside}
use Rattle.rc_row.proofs.LockLemmas.{locks, unlocks}
use Rattle.rc_row.proofs.ReaderLemmas.{enters, backs, leaves}
use Rattle.rc_row.proofs.LatchLemmas.{latches, unlatches}
use Rattle.rc_row.proofs.CommitLemmas.{commits, looks}
use Rattle.rc_row.proofs.SeatLemmas.{notes, deals, learns, gathers}

-- what a step on the word w of a row's table keeps, which makes f of it and tells this, and what it requires
abbrev pub Keeps : Inside → ℕ → Me Slot View → ℕ → (ℕ → ℕ) → (ℕ → Me Slot View → Type 0) → Type 0
Keeps a id me w f told = Allows (IsKept a.table.shared.key) a.table.shared.table_id.slots id me w f told

abbrev pub Requires : Inside → TableId → ℕ → Me Slot View → ℕ → (ℕ → ℕ) → (ℕ → Me Slot View → Type 0) → Type 0
Requires a table id me w f told =
    (table ≡ a.table.shared.table_id) × (w < a.table.shared.table_id.words) × Keeps a id me w f told

abbrev pub step_on : Inside → ℕ → ℕ → ℕ → Step Slot
step_on a w x y = step a.table.shared.table_id.slots w x y none

abbrev pub Splitting : Inside → TableId → ℕ → View → View → View → Type 0
Splitting a table id v left right = (table ≡ a.table.shared.table_id) × (0 < a.table.shared.table_id.words) × Splits (IsKept a.table.shared.key) id v left right

abbrev pub Joining : Inside → TableId → ℕ → View → TableId → ℕ → Me Slot View → View → Type 0
Joining a table id v table' id' me' both =
    (table ≡ a.table.shared.table_id) × (table' ≡ a.table.shared.table_id) × (me'.1 ≡ []) × (0 < a.table.shared.table_id.words)
    × Joins (IsKept a.table.shared.key) id v id' me'.0 both spent

-- how many stripes a row has is seen of it
pub stripes_seen : (a : Inside) (row : RowSeen) → row_seen a ≡ row → stripes_of row ≡ stripes_by a.table.shared.key
stripes_seen a row is = sym (ap stripes_of is)

-- the place of a latch, where the count of stripes was read
pub at_latch : (n stripes p w : ℕ) → w ≡ latch_word n p → n ≡ stripes → w ≡ latch_word stripes p
at_latch n stripes p w is same = is ∙ ap (λ m. latch_word m p) same

module _ (a : Inside) (row : RowSeen) (is : row_seen a ≡ row) (whole : IsWholeRow a) where
  -- the seat's table is the row's
  pub its_table : (table : TableId) → table ≡ row.table → table ≡ a.table.shared.table_id
  its_table table same = same ∙ sym (ap (λ (r : RowSeen). r.table) is)

  pub has_words : 0 < a.table.shared.table_id.words
  has_words = let w = whole.words in omega arith

  its_key : (told : Option Key) → told ≡ Some row.key → told ≡ Some a.table.shared.key
  its_key told known = known ∙ sym (ap (λ (r : RowSeen). Some r.key) is)

  below : (p : ℕ) → p < stripes_of row → p < stripes_by a.table.shared.key
  below p lt = subst (λ (r : RowSeen). p < stripes_of r) (sym is) lt

  word_is_there : (p w : ℕ) → p < stripes_of row → w ≡ stripe_word p → w < a.table.shared.table_id.words
  word_is_there p w lt word = let b = below p lt in let many = whole.words in omega arith

  latch_is_there : (p w : ℕ) → p < stripes_of row → w ≡ latch_word (stripes_by a.table.shared.key) p → w < a.table.shared.table_id.words
  latch_is_there p w lt word = let b = below p lt in let many = whole.words in omega arith

  module _ (id : ℕ) (me : Me Slot View) (table : TableId) (same : table ≡ row.table) where
    pub locks_at : (p w new : ℕ) (told : Option Key) → p < stripes_of row → w ≡ stripe_word p → told ≡ Some row.key → me.0 ≡ pass_view (standing_of me.0) → IsHigh (standing_of me.0).core p → new ≡ suc (standing_of me.0).core.number
        → Requires a table id me w (λ n. either (n == 0) new n) (ToldAtLock told (step_on a w 0 new) me)
    locks_at p w new told lt word known view high mark = (
      its_table table same,
      word_is_there p w lt word,
      subst (λ (t : ℕ × Option Key × Me Slot View). Keeps a id t.2 t.0 (λ n. either (n == 0) new n) (ToldAtLock t.1 (step_on a t.0 0 new) t.2))
          (λ i. (sym word i, sym (its_key told known) i, (sym view i, me.1))) (locks a.table.shared.key a.table.shared.table_id.slots p id (standing_of me.0) me.1 new (below p lt) high mark),
    )

    -- the slots of a pass that gives the stripe p back, which it wrote: the stripe's with the fragment, the own slots there, and the others
    abbrev written : RowSeen → ℕ → List (ℕ × Slot)
    written r p = (slot_place p, Apart (kept_of (spec_of r) (rows_of_hold (standing_of me.0).core.held p))) ∷ own_hands r.key.passes p (λ j. Empty) ++ drop (suc r.key.passes) me.1

    pub unlocks_at : (p w mark : ℕ) → p < stripes_of row → w ≡ stripe_word p → me.0 ≡ pass_view (standing_of me.0) → In p (writes_of (standing_of me.0).core) → mark ≡ suc (standing_of me.0).core.number
        → me.1 ≡ written row p → Requires a table id me w (λ n. (n + (2 ^ 64 - mark)) % 2 ^ 64) (ToldAtUnlock (step_on a w mark 0) me)
    unlocks_at p w mark lt word view held marked slots = (
      its_table table same,
      word_is_there p w lt word,
      subst (λ (t : ℕ × Me Slot View). Keeps a id t.1 t.0 (λ n. (n + (2 ^ 64 - mark)) % 2 ^ 64) (ToldAtUnlock (step_on a t.0 mark 0) t.1))
          (λ i. (sym word i, (sym view i, sym (slots ∙ ap (λ (r : RowSeen). written r p) (sym is)) i)))
          (unlocks a.table.shared.key a.table.shared.table_id.slots p id (standing_of me.0) (drop (suc a.table.shared.key.passes) me.1) mark (below p lt) held marked whole.slots),
    )

    pub enters_at : (p w : ℕ) (told : Option Key) → p < stripes_of row → w ≡ stripe_word p → told ≡ Some row.key → me.0 ≡ pass_view (standing_of me.0) → IsHigh (standing_of me.0).core p
        → Requires a table id me w (λ n. (n + 65536) % 2 ^ 64) (ToldAtEnter told (step_on a w 65536 0) me)
    enters_at p w told lt word known view high = (
      its_table table same,
      word_is_there p w lt word,
      subst (λ (t : ℕ × Option Key × Me Slot View). Keeps a id t.2 t.0 (λ n. (n + 65536) % 2 ^ 64) (ToldAtEnter t.1 (step_on a t.0 65536 0) t.2))
          (λ i. (sym word i, sym (its_key told known) i, (sym view i, me.1))) (enters a.table.shared.key a.table.shared.table_id.slots p id (standing_of me.0) me.1 (below p lt) high),
    )

    pub backs_at : (p w : ℕ) → p < stripes_of row → w ≡ stripe_word p → me.0 ≡ pass_view (standing_of me.0) → (standing_of me.0).core.turning ≡ Some p
        → Requires a table id me w (λ n. (n + (2 ^ 64 - 65536)) % 2 ^ 64) (ToldAtBack (step_on a w 65536 0) me)
    backs_at p w lt word view here = (
      its_table table same,
      word_is_there p w lt word,
      subst (λ (t : ℕ × Me Slot View). Keeps a id t.1 t.0 (λ n. (n + (2 ^ 64 - 65536)) % 2 ^ 64) (ToldAtBack (step_on a t.0 65536 0) t.1))
          (λ i. (sym word i, (sym view i, me.1))) (backs a.table.shared.key a.table.shared.table_id.slots p id (standing_of me.0) me.1 (below p lt) here),
    )

    pub leaves_at : (p w : ℕ) (lacks : Option ℕ) → p < stripes_of row → w ≡ stripe_word p → me.0 ≡ view_of (standing_of me.0) None lacks → MayLeave row.key (standing_of me.0).core p lacks me.1 → In p (shares_of (standing_of me.0).core)
        → Requires a table id me w (λ n. (n + (2 ^ 64 - 65536)) % 2 ^ 64) (ToldAtLeave (step_on a w 65536 0) me)
    leaves_at p w lacks lt word view may held =
        let its : MayLeave a.table.shared.key (standing_of me.0).core p lacks me.1 = subst (λ (r : RowSeen). MayLeave r.key (standing_of me.0).core p lacks me.1) (sym is) may in (
          its_table table same,
          word_is_there p w lt word,
          subst (λ (t : ℕ × Me Slot View). Keeps a id t.1 t.0 (λ n. (n + (2 ^ 64 - 65536)) % 2 ^ 64) (ToldAtLeave (step_on a t.0 65536 0) t.1))
              (λ i. (sym word i, (sym view i, sym its.front i)))
              (leaves a.table.shared.key a.table.shared.table_id.slots p id (standing_of me.0) lacks its.own (rest me.1) (below p lt) held its.only its.is_own),
        )

    pub latches_at : (p w new : ℕ) (told : Option Key) → p < stripes_of row → w ≡ latch_word (stripes_by a.table.shared.key) p → told ≡ Some row.key → me.0 ≡ view_of (standing_of me.0) None (Some p) → In p (shares_of (standing_of me.0).core) → (standing_of me.0).core.wish ≡ None
        → new ≡ suc (standing_of me.0).core.number
        → Requires a table id me w (λ n. either (n == 0) new n) (ToldAtLatch told (step_on a w 0 new) me)
    latches_at p w new told lt word known view held content mark = (
      its_table table same,
      latch_is_there p w lt word,
      subst (λ (t : ℕ × Option Key × Me Slot View). Keeps a id t.2 t.0 (λ n. either (n == 0) new n) (ToldAtLatch t.1 (step_on a t.0 0 new) t.2))
          (λ i. (sym word i, sym (its_key told known) i, (sym view i, me.1))) (latches a.table.shared.key a.table.shared.table_id.slots p id (standing_of me.0) me.1 new (below p lt) held content mark),
    )

    -- the slots of a pass that frees the latch of the stripe p: the stripe's with the fragment, of which pointers are handed out, and the others
    abbrev latched : RowSeen → ℕ → List (ℕ × Slot)
    latched r p = (slot_place p, Handed (kept_of (spec_of r) (rows_of_hold (standing_of me.0).core.held p))) ∷ rest me.1

    pub unlatches_at : (p w : ℕ) → p < stripes_of row → w ≡ latch_word (stripes_by a.table.shared.key) p → me.0 ≡ view_of (standing_of me.0) (Some p) (Some p) → me.1 ≡ latched row p
        → Requires a table id me w (λ n. 0) (ToldAtUnlatch (step_on a w 0 0) me)
    unlatches_at p w lt word view slots = (
      its_table table same,
      latch_is_there p w lt word,
      subst (λ (t : ℕ × Me Slot View). Keeps a id t.1 t.0 (λ n. 0) (ToldAtUnlatch (step_on a t.0 0 0) t.1))
          (λ i. (sym word i, (sym view i, sym (slots ∙ ap (λ (r : RowSeen). latched r p) (sym is)) i))) (unlatches a.table.shared.key a.table.shared.table_id.slots p id (standing_of me.0) (rest me.1) (below p lt)),
    )

    pub commits_at : (told : Option Key) (e : Entry) → told ≡ Some row.key → me.0 ≡ pass_view (standing_of me.0) → MayCommit (compiled_of row) (standing_of me.0).core e
        → Requires a table id me 0 (λ n. (n + 1) % 2 ^ 64) (ToldAtCommit told e (step_on a 0 1 0) me)
    commits_at told e known view may = (
      its_table table same,
      has_words,
      subst (λ (t : Option Key × Me Slot View). Keeps a id t.1 0 (λ n. (n + 1) % 2 ^ 64) (ToldAtCommit t.0 e (step_on a 0 1 0) t.1)) (λ i. (sym (its_key told known) i, (sym view i, me.1)))
          (commits a.table.shared.key a.table.shared.table_id.slots id (standing_of me.0) me.1 e (subst (λ (r : RowSeen). MayCommit (compiled_of r) (standing_of me.0).core e) (sym is) may)),
    )

    pub looks_at : (told : Option Key) → told ≡ Some row.key → me.0 ≡ pass_view (standing_of me.0) → Requires a table id me 0 (λ n. n) (ToldAtLook told (step_on a 0 0 0) me)
    looks_at told known view = (
      its_table table same,
      has_words,
      subst (λ (t : Option Key × Me Slot View). Keeps a id t.1 0 (λ n. n) (ToldAtLook t.0 (step_on a 0 0 0) t.1)) (λ i. (sym (its_key told known) i, (sym view i, me.1)))
          (looks a.table.shared.key a.table.shared.table_id.slots id (standing_of me.0) me.1),
    )

    pub notes_at : me.0 ≡ pass_view (standing_of me.0) → Splitting a table id me.0 me.0 (noted me.0)
    notes_at view = (its_table table same, has_words, subst (λ (v : View). Splits (IsKept a.table.shared.key) id v v (noted v)) (sym view) (notes a.table.shared.key id (standing_of me.0)))

    pub deals_at : me.0 ≡ passes_view (standing_of me.0 ∷ (undealt me.0).passes) → Splitting a table id me.0 (undealt me.0) (dealt me.0)
    deals_at view = (its_table table same, has_words, subst (λ (v : View). Splits (IsKept a.table.shared.key) id v (undealt v) (dealt v)) (sym view) (deals a.table.shared.key id (standing_of me.0) (undealt me.0).passes))

    -- another seat is joined away
    module _ (id' : ℕ) (me' : Me Slot View) (table' : TableId) (same' : table' ≡ row.table) (none : me'.1 ≡ []) where
      pub learns_at : me.0 ≡ pass_view (standing_of me.0) → me'.0 ≡ note_view me'.0.told me'.0.known
          → Joining a table id me.0 table' id' me' (informed me.0 me'.0)
      learns_at view view' = (
        its_table table same,
        its_table table' same',
        none,
        has_words,
        subst (λ (t : View × View). Joins (IsKept a.table.shared.key) id t.0 id' t.1 (informed t.0 t.1) spent) (λ i. (sym view i, sym view' i)) (learns a.table.shared.key id id' (standing_of me.0) me'.0.told me'.0.known),
      )

      pub gathers_at : me.0 ≡ passes_view me.0.passes → me'.0 ≡ pass_view (standing_of me'.0) → ((k : ℕ) → In k (numbers_in me.0.passes) → k < (standing_of me'.0).core.number)
          → Joining a table id me.0 table' id' me' (gathered me.0 me'.0)
      gathers_at view view' order = (
        its_table table same,
        its_table table' same',
        none,
        has_words,
        subst (λ (t : View × View). Joins (IsKept a.table.shared.key) id t.0 id' t.1 (gathered t.0 t.1) spent) (λ i. (sym view i, sym view' i)) (gathers a.table.shared.key id id' me.0.passes (standing_of me'.0) order),
      )
