-- Words, homes and views show one state, in which no passes wait in a circle.
use Rattle.std.proofs.Common.{◌≡◌, ℕ, ◌<◌, ◌||◌, true, List, [], ◌∷◌, length, get_or, Some, sym, ap, ◌∙◌, inl, inr, subst, arith}
use Rattle.rc_row.specs.Imports.{slice_index, slice_get, In, PassState, hold, no_pass, passes_determine, no_circle, State}
use Rattle.std.proofs.lemmas.Bool.{cases_eq, false≢true, ne_eqb}
use Rattle.std.proofs.lemmas.List.{ext_get_or}
use Rattle.std.proofs.lemmas.Option.{get_or_from_slice_get}
use mathlib.Core.Option.{some}
use Rattle.rc_row.specs.declared.law.Key.{Key}
use Rattle.rc_row.specs.declared.law.Standing.{Standing}
use Rattle.rc_row.specs.declared.law.View.{View}
use Rattle.rc_rel.specs.declared.entry.Entry.{Entry}
use Rattle.rc_row.specs.declared.law.Refusal.{Refusal}
use Rattle.rc_row.specs.Run.{refusals_in}
use Rattle.rc_row.specs.Law.{Slot, at_first_by, compiled_by, spec_by, pass_view, standing_of, AreKnown, AreSeatedAt, AreTold, has_pass, IsKept}
use Rattle.rc_row.specs.RunLaws.{begins_with, good_of, refusals_have_moments, run_allowed, run_leads}
use Rattle.rc_row.specs.HeldRows.{HeldRows}
use Rattle.rc_row.specs.Laws.{HeldAreOfTheState, KnownAreBeginnings, NoCircleIsShown, OneStateIsShown, RefusalsHaveMoments, RowsAreRuns}
use Rattle.rc_row.specs.Passes.{holds_taken}

-- a pass of a view is the same in each state that the view shows
pub in_both : (xs ys : List PassState) (seat seat' : ℕ → ℕ) (i j k : ℕ) (more : List Standing) → AreSeatedAt xs seat i more → AreSeatedAt ys seat' j more → has_pass more k ≡ true
    → (u : PassState) × (slice_get xs k ≡ Some u) × (slice_get ys k ≡ Some u)
in_both xs ys seat seat' i j k [] f g has = absurd (false≢true has)
in_both xs ys seat seat' i j k (s ∷ more) f g has = elim (cases_eq s.core.number k) [
  | inl e ↦ (s.core, ap (slice_get xs) (sym e) ∙ f.0.0, ap (slice_get ys) (sym e) ∙ g.0.0)
  | inr n ↦ in_both xs ys seat seat' i j k more f.1 g.1 (sym (ap (λ b. b || has_pass more k) (ne_eqb s.core.number k n)) ∙ has)
]

module _ (key : Key) (s : State Slot View) (a b : IsKept key s) where
  same_pass : (k : ℕ) → k < length a.core.passes → get_or a.core.passes k no_pass ≡ get_or b.core.passes k no_pass
  same_pass k lt =
      let x = a.seated k lt in
      let r = in_both a.core.passes b.core.passes a.seat b.seat (a.seat k) (a.seat k) k x.view.passes (a.views (a.seat k) x.view x.at).passes (b.views (a.seat k) x.view x.at).passes x.has in
      get_or_from_slice_get a.core.passes k r.0 no_pass r.1 ∙ sym (get_or_from_slice_get b.core.passes k r.0 no_pass r.2)

  same_latch : (p : ℕ) → p < length a.latches → slice_index a.latches p ≡ slice_index b.latches p
  same_latch p lt = let n = a.shows.latch_count in sym (a.shows.latch_words p (omega arith)) ∙ b.shows.latch_words p (omega arith)

pub one_state : OneStateIsShown
one_state key s a b = (
  passes_determine (spec_by key) a.core b.core (good_of key s a) (good_of key s b) (ext_get_or no_pass a.core.passes b.core.passes (a.shows.passes ∙ sym b.shows.passes) (same_pass key s a b)),
  ext_get_or 0 a.latches b.latches (a.shows.latch_count ∙ sym b.shows.latch_count) (same_latch key s a b),
)

pub rows_are_runs : RowsAreRuns
rows_are_runs key s kept = (run_allowed key s kept, run_leads key s kept, begins_with key s kept)

pub refusals_have_their_moments : RefusalsHaveMoments
refusals_have_their_moments key s kept k r m = refusals_have_moments key s kept k r m

-- the rows of a hold as taken are those of its place in the core's list
taken_in : (held : List HeldRows) (h : HeldRows) → In h held → In (hold h.stripe h.mode h.fragment.taken) (holds_taken held)
taken_in [] h m = absurd m
taken_in (x ∷ held) h (inl e) = inl (ap (λ (y : HeldRows). hold y.stripe y.mode y.fragment.taken) e)
taken_in (x ∷ held) h (inr m) = inr (taken_in held h m)

pub held_of_the_state : HeldAreOfTheState
held_of_the_state key s kept id number me held at agrees h m =
    let a : Standing = standing_of me.0 in
    let its = (kept.views id (pass_view a) (at ∙ ap some agrees.view_is)).passes.0.0 in
    ((good_of key s kept).passes a.core.number a.core its).rows (hold h.stripe h.mode h.fragment.taken)
    (subst (In (hold h.stripe h.mode h.fragment.taken)) agrees.taken (taken_in held h m))

told_among : (history : List Entry) (refusals : ℕ → List Refusal) (passes : List Standing) → AreTold history refusals passes → (pass : Standing) → In pass passes → AreKnown history pass.known
told_among history refusals [] told pass m = absurd m
told_among history refusals (s ∷ passes) told pass (inl e) = subst (λ (x : Standing). AreKnown history x.known) (sym e) told.0.known
told_among history refusals (s ∷ passes) told pass (inr m) = told_among history refusals passes told.1 pass m

pub known_are_beginnings : KnownAreBeginnings
known_are_beginnings key s kept id v at pass m =
    told_among kept.core.history (refusals_in (compiled_by key) (at_first_by key) kept.run) v.passes (kept.views id v at).histories pass m

pub no_circle_shown : NoCircleIsShown
no_circle_shown key s kept passes circle = no_circle (spec_by key) kept.core passes (good_of key s kept) circle
