-- Each allowed event but a commit leads from a good state to a good one.
use Rattle.std.proofs.Common.{◌≡◌, ◌≢◌, ℕ, zero, suc, ◌<◌, ◌≤◌, ◌^◌, ◌||◌, ◌==◌, Bool, true, false, List, [], ◌∷◌, ◌++◌, not, length, set, Option, Some, None, if◌then◌else◌, sym, refl, ap, ◌∙◌, subst, inl, inr, arith, length-set}
use Rattle.rc_core.specs.Imports.{slice_get, nat_cmp, In, in_append, in_put, rising_put, rising_filter, has_in, nat_order, has, Spec, EdgeRow, fragment_of, Entry, replay, Placed, Shared, Exclusive}
use Rattle.std.proofs.lemmas.Bool.{false≢true, eq-eqb, ne_eqb, eqb-true, or_left}
use Rattle.std.proofs.Math.Nat.{max-le, le-max_left}
use Rattle.rc_core.specs.declared.state.Hold.{Hold}
use Rattle.rc_core.specs.declared.state.PassState.{PassState}
use Rattle.rc_core.specs.declared.state.Keeper.{Keeper}
use Rattle.rc_core.specs.declared.state.Keeper.TheVariants.{Home, Writer}
use Rattle.rc_core.specs.declared.state.StripeState.{StripeState}
use Rattle.rc_core.specs.declared.state.CoreState.{CoreState}
use Rattle.rc_core.specs.State.{has_writer, is_writer, home_rows, no_stripe, stripe_at, hold, stripes_in, writes_of, shares_of, is_at, counts_at}
use Rattle.rc_core.specs.Passes.{IsAbove, IsHigh, other_holds, rows_of_hold, locked, blocked, shared, turned, counted_in, back, released, learned}
use Rattle.rc_core.specs.Events.{with_pass, with_keeper, with_counted, without_counted, IsUnlocked}
use Rattle.rc_core.specs.Good.{HaveRows, IsGoodPass, IsGoodKeeper, IsGoodStripe, IsGoodHistory, IsGood}
use Rattle.rc_core.specs.ListLaws.{at_set, each_changed, or_false, or_true, not_has, has-put_same, has-put_other, in_all_but, has-all_but_same, has-all_but_other, in_without, stripes_without, stripes_in_held, less_held, has-held_end, has-held_more, held_without, has-held_without_same, has-held_without_other}

-- ---- one pass changes

pub change : (spec : Spec) (c : CoreState) (history : List Entry) (stripes : List StripeState) (k : ℕ) (u w : PassState) → IsGood spec c → slice_get c.passes k ≡ Some u
    → ((j : ℕ) (v : PassState) → j ≢ k → slice_get c.passes j ≡ Some v → IsGoodPass spec c.history c.stripes j v → IsGoodPass spec history stripes j v)
    → IsGoodPass spec history stripes k w
    → ((p : ℕ) → p < length stripes → IsGoodStripe spec history (length c.passes) p (stripe_at stripes p))
    → IsGoodHistory spec (length c.passes) history
    → length stripes ≡ length c.stripes
    → IsGood spec (with_pass c history stripes k w)
change spec c history stripes k u w good at others mine each made width = record {
  passes = λ j v e. elim (at_set c.passes k j w v e) [
    | inl t ↦ subst (λ (z : ℕ × PassState). IsGoodPass spec history stripes z.0 z.1) (λ i. (sym t.0 i, t.1 i)) mine
    | inr t ↦ others j v t.0 t.1 (good.passes j v t.1)
  ];
  stripes = λ p lt. subst (λ n. IsGoodStripe spec history n p (stripe_at stripes p)) (sym (length-set c.passes k w)) (each p lt);
  history = subst (λ n. IsGoodHistory spec n history) (sym (length-set c.passes k w)) made;
  some_pass = subst (λ n. 1 ≤ n) (sym (length-set c.passes k w)) good.some_pass;
  few_passes = subst (λ n. n ≤ 255) (sym (length-set c.passes k w)) good.few_passes;
  all_stripes = width ∙ good.all_stripes;
}

-- a place of a list is below its length
pub at_below : {A : Type 0} → (l : List A) (i : ℕ) (a : A) → slice_get l i ≡ Some a → i < length l
at_below [] i a e = cc
at_below (x ∷ xs) zero a e = omega arith
at_below (x ∷ xs) (suc i) a e = let r = at_below xs i a e in omega arith

-- ---- one pass and one stripe change

module _ (spec : Spec) (c : CoreState) (k p : ℕ) (u w : PassState) (t : StripeState) (good : IsGood spec c) (at : slice_get c.passes k ≡ Some u) (there : p < length c.stripes) where
  -- another pass doesn't see the change
  other_pass : (j : ℕ) (v : PassState) → is_writer t.keeper j ≡ is_writer (stripe_at c.stripes p).keeper j → has t.counted j ≡ has (stripe_at c.stripes p).counted j
      → (In p (shares_of v) → has_writer t.keeper ≡ false) → IsGoodPass spec c.history c.stripes j v → IsGoodPass spec c.history (set c.stripes p t) j v
  other_pass j v writes counts beside g = record {
    number = g.number;
    writes = λ q. each_changed (λ q s. has (writes_of v) q ≡ is_writer s.keeper j) c.stripes p t no_stripe there (g.writes p ∙ sym writes) (λ q n. g.writes q) q;
    counts = λ q. each_changed (λ q s. counts_at v q ≡ has s.counted j) c.stripes p t no_stripe there (g.counts p ∙ sym counts) (λ q n. g.counts q) q;
    beside = λ q. each_changed (λ q s. In q (shares_of v) → has_writer s.keeper ≡ false) c.stripes p t no_stripe there beside (λ q n. g.beside q) q;
    rows = g.rows;
    own = g.own;
    few = g.few;
    seen = g.seen;
    sees_own = g.sees_own;
    wish = g.wish;
    turning = g.turning;
  }

  -- what has to be shown of the pass that changes: it sees the changed stripe, and the others as before
  pub record Sees : Type 0 where
    pub same : (w.number ≡ u.number) × (w.own ≡ u.own) × (w.seen ≡ u.seen)
    pub writes : has (writes_of w) p ≡ is_writer t.keeper k
    pub writes_else : (q : ℕ) → q ≢ p → has (writes_of w) q ≡ has (writes_of u) q
    pub counts : counts_at w p ≡ has t.counted k
    pub counts_else : (q : ℕ) → q ≢ p → counts_at w q ≡ counts_at u q
    pub beside : In p (shares_of w) → has_writer t.keeper ≡ false
    pub beside_else : (q : ℕ) → q ≢ p → In q (shares_of w) → In q (shares_of u)
    pub rows : HaveRows spec c.history w.held
    pub wish : (q : ℕ) → w.wish ≡ Some q → IsAbove w q
    pub turning : (q : ℕ) → w.turning ≡ Some q → w.wish ≡ Some q

  this_pass : Sees → IsGoodPass spec c.history (set c.stripes p t) k w
  this_pass s = let g = good.passes k u at in record {
    number = s.same.0 ∙ g.number;
    writes = λ q. each_changed (λ q x. has (writes_of w) q ≡ is_writer x.keeper k) c.stripes p t no_stripe there s.writes (λ q n. s.writes_else q n ∙ g.writes q) q;
    counts = λ q. each_changed (λ q x. counts_at w q ≡ has x.counted k) c.stripes p t no_stripe there s.counts (λ q n. s.counts_else q n ∙ g.counts q) q;
    beside = λ q. each_changed (λ q x. In q (shares_of w) → has_writer x.keeper ≡ false) c.stripes p t no_stripe there s.beside (λ q n m. g.beside q (s.beside_else q n m)) q;
    rows = s.rows;
    own = s.same.1 ∙ g.own;
    few = subst (λ (xs : List Placed). length xs ≤ 2 ^ 48) (sym s.same.1) g.few;
    seen = subst (λ n. n ≤ length c.history) (sym s.same.2) g.seen;
    sees_own = subst (λ (z : List Placed × ℕ). (x : Placed) → In x z.0 → x.place < z.1) (λ i. (sym s.same.1 i, sym s.same.2 i)) g.sees_own;
    wish = s.wish;
    turning = s.turning;
  }

  pub stripe_change : ((j : ℕ) → j ≢ k → is_writer t.keeper j ≡ is_writer (stripe_at c.stripes p).keeper j)
      → ((j : ℕ) → j ≢ k → has t.counted j ≡ has (stripe_at c.stripes p).counted j)
      → ((j : ℕ) (v : PassState) → j ≢ k → IsGoodPass spec c.history c.stripes j v → In p (shares_of v) → has_writer t.keeper ≡ false)
      → IsGoodStripe spec c.history (length c.passes) p t
      → Sees
      → IsGood spec (with_pass c c.history (set c.stripes p t) k w)
  stripe_change writes counts beside stripe sees =
      change spec c c.history (set c.stripes p t) k u w good at
      (λ j v n e g. other_pass j v (writes j n) (counts j n) (beside j v n g) g)
      (this_pass sees)
      (λ q lt. each_changed (λ q s. q < length c.stripes → IsGoodStripe spec c.history (length c.passes) q s) c.stripes p t no_stripe there (λ l. stripe) (λ q n l. good.stripes q l) q
      (subst (λ n. q < n) (length-set c.stripes p t) lt))
      good.history
      (length-set c.stripes p t)

-- ---- keepers

pub no_writer : (x : Keeper) (j : ℕ) → has_writer x ≡ false → is_writer x j ≡ false
no_writer (Home rows) j e = refl
no_writer (Writer k) j e = cc

pub other_writer : (x : Keeper) (k j : ℕ) → is_writer x k ≡ true → j ≢ k → is_writer x j ≡ false
other_writer (Home rows) k j e n = refl
other_writer (Writer i) k j e n = ne_eqb i j (λ f. n (sym f ∙ eqb-true i k e))

pub good_home : (spec : Spec) (history : List Entry) (passes p : ℕ) (x : Keeper) → has_writer x ≡ false → IsGoodKeeper spec history passes p x → home_rows x ≡ fragment_of spec (replay spec history) p
good_home spec history passes p (Home rows) e g = g
good_home spec history passes p (Writer k) e g = cc

pub no_mode : {A : Type 0} (o : Option A) (a : A) → o ≡ None → o ≡ Some a → ⊥
no_mode o a e f = let g : None ≡ Some a = sym e ∙ f in cc

pub at_itself : (o : Option ℕ) (p : ℕ) → o ≡ None → is_at o p ≡ false
at_itself None p e = refl
at_itself (Some q) p e = cc

-- what a pass holds is below a stripe that is above all that it holds
pub above_itself : (u : PassState) (p : ℕ) → IsAbove u p → In p (stripes_in u.held) → ⊥
above_itself u p above m = let l = above p m in omega arith

pub shares_held : (u : PassState) (q : ℕ) → In q (shares_of u) → In q (stripes_in u.held)
shares_held u q m = stripes_in_held Shared q u.held m

pub writes_held : (u : PassState) (q : ℕ) → In q (writes_of u) → In q (stripes_in u.held)
writes_held u q m = stripes_in_held Exclusive q u.held m

-- a pass that shares a stripe is counted in there
pub shares_count : (u : PassState) (p : ℕ) → In p (shares_of u) → counts_at u p ≡ true
shares_count u p m = or_left (has (shares_of u) p) (is_at u.turning p) (has_in (shares_of u) p m)

other_mode : Exclusive ≡ Shared → ⊥
other_mode e = cc

-- the rows of one more hold
more_rows : (spec : Spec) (history : List Entry) (holds : List Hold) (h : Hold) → HaveRows spec history holds → h.rows ≡ fragment_of spec (replay spec history) h.stripe → HaveRows spec history (holds ++ h ∷ [])
more_rows spec history holds h rows is x m = elim (in_append x holds (h ∷ []) m) [
  | inl y ↦ rows x y
  | inr (inl e) ↦ subst (λ (h : Hold). h.rows ≡ fragment_of spec (replay spec history) h.stripe) (sym e) is
  | inr (inr z) ↦ absurd z
]

same_wish : (p q : ℕ) → Some p ≡ Some q → p ≡ q
same_wish p q e = cc

counted_stripe : (spec : Spec) (history : List Entry) (passes p k : ℕ) (s : StripeState) → IsGoodStripe spec history passes p s → k < passes → IsGoodStripe spec history passes p (with_counted s k)
counted_stripe spec history passes p k s g lt = record {
  keeper = g.keeper;
  rising = rising_put nat_cmp nat_order k s.counted g.rising;
  known = λ j m. elim (in_put nat_cmp nat_order j k s.counted m) [ inl e ↦ subst (λ n. n < passes) (sym e) lt | inr h ↦ g.known j h ];
}

less_counted_stripe : (spec : Spec) (history : List Entry) (passes p k : ℕ) (s : StripeState) → IsGoodStripe spec history passes p s → IsGoodStripe spec history passes p (without_counted s k)
less_counted_stripe spec history passes p k s g = record {
  keeper = g.keeper;
  rising = rising_filter nat_cmp (λ j. not (j == k)) s.counted g.rising;
  known = λ j m. g.known j (in_all_but k j s.counted m).0;
}

-- ---- block and learn: no stripe changes

module _ (spec : Spec) (c : CoreState) (k : ℕ) (u : PassState) (good : IsGood spec c) (at : slice_get c.passes k ≡ Some u) where
  pub pass_change : (w : PassState) → IsGoodPass spec c.history c.stripes k w → IsGood spec (with_pass c c.history c.stripes k w)
  pass_change w mine = change spec c c.history c.stripes k u w good at (λ j v n e g. g) mine good.stripes good.history refl

  pub block_keeps : (p : ℕ) → IsHigh u p → IsGood spec (with_pass c c.history c.stripes k (blocked u p))
  block_keeps p high = let g = good.passes k u at in
      pass_change (blocked u p) (record {
        number = g.number;
        writes = g.writes;
        counts = g.counts;
        beside = g.beside;
        rows = g.rows;
        own = g.own;
        few = g.few;
        seen = g.seen;
        sees_own = g.sees_own;
        wish = λ q e. subst (IsAbove u) (same_wish p q e) high.above;
        turning = λ q e. absurd (no_mode u.turning q high.ahead e);
      })

  pub learn_keeps : (n : ℕ) → n ≤ length c.history → IsGood spec (with_pass c c.history c.stripes k (learned u n))
  learn_keeps n le = let g = good.passes k u at in
      pass_change (learned u n) (record {
        number = g.number;
        writes = g.writes;
        counts = g.counts;
        beside = g.beside;
        rows = g.rows;
        own = g.own;
        few = g.few;
        seen = max-le g.seen le;
        sees_own = λ x m. (let l = g.sees_own x m in let more = le-max_left u.seen n in omega arith);
        wish = g.wish;
        turning = g.turning;
      })

-- ---- the events that change a stripe

module _ (spec : Spec) (c : CoreState) (k p : ℕ) (u : PassState) (good : IsGood spec c) (at : slice_get c.passes k ≡ Some u) (there : p < length c.stripes) where
  abbrev s : StripeState
  s = stripe_at c.stripes p

  stripe : IsGoodStripe spec c.history (length c.passes) p (stripe_at c.stripes p)
  stripe = good.stripes p there

  mine : IsGoodPass spec c.history c.stripes k u
  mine = good.passes k u at

  -- ---- lock

  pub lock_keeps : IsHigh u p → IsUnlocked (stripe_at c.stripes p)
      → IsGood spec (with_pass c c.history (set c.stripes p (with_keeper (stripe_at c.stripes p) (Writer k))) k (locked u p (home_rows (stripe_at c.stripes p).keeper)))
  lock_keeps high free =
      stripe_change spec c k p u (locked u p (home_rows s.keeper)) (with_keeper s (Writer k)) good at there
      (λ j n. ne_eqb k j (λ e. n (sym e)) ∙ sym (no_writer s.keeper j free.0))
      (λ j n. refl)
      (λ j v n g m. absurd (false≢true (sym (ap (λ l. has l j) free.1) ∙ sym (g.counts p) ∙ shares_count v p m)))
      (record { keeper = at_below c.passes k u at; rising = stripe.rising; known = stripe.known })
      (record {
        same = (refl, refl, refl);
        writes = has-held_end Exclusive u.held (hold p Exclusive (home_rows s.keeper)) refl ∙ sym (eq-eqb k k refl);
        writes_else = λ q n. has-held_more Exclusive u.held (hold p Exclusive (home_rows s.keeper)) q (λ e f. n f);
        counts = ap (λ b. b || is_at u.turning p) (same_shares p) ∙ mine.counts p;
        counts_else = λ q n. ap (λ b. b || is_at u.turning q) (same_shares q);
        beside = λ m. absurd (above_itself u p high.above (shares_held u p (old_shares p m)));
        beside_else = λ q n m. old_shares q m;
        rows = more_rows spec c.history u.held (hold p Exclusive (home_rows s.keeper)) mine.rows (good_home spec c.history (length c.passes) p s.keeper free.0 stripe.keeper);
        wish = λ q e. absurd (no_mode None q refl e);
        turning = λ q e. absurd (no_mode u.turning q high.ahead e);
      })
    where
      same_shares : (q : ℕ) → has (shares_of (locked u p (home_rows (stripe_at c.stripes p).keeper))) q ≡ has (shares_of u) q
      same_shares q = has-held_more Shared u.held (hold p Exclusive (home_rows (stripe_at c.stripes p).keeper)) q (λ e f. other_mode e)

      old_shares : (q : ℕ) → In q (shares_of (locked u p (home_rows (stripe_at c.stripes p).keeper))) → In q (shares_of u)
      old_shares q m = elim (less_held Shared q u.held (hold p Exclusive (home_rows (stripe_at c.stripes p).keeper)) m) [ inl x ↦ x | inr x ↦ absurd (other_mode x.0) ]

  -- ---- share

  -- it finds no writer
  pub share_takes : (rows : List EdgeRow) → s.keeper ≡ Home rows → IsHigh u p → IsGood spec (with_pass c c.history (set c.stripes p (with_counted s k)) k (shared u p rows))
  share_takes rows is high =
      stripe_change spec c k p u (shared u p rows) (with_counted s k) good at there
      (λ j n. refl)
      (λ j n. has-put_other k j s.counted n)
      (λ j v n g m. ap has_writer is)
      (counted_stripe spec c.history (length c.passes) p k s stripe (at_below c.passes k u at))
      (record {
        same = (refl, refl, refl);
        writes = same_writes p ∙ mine.writes p;
        writes_else = λ q n. same_writes q;
        counts = ap (λ b. b || is_at u.turning p) (has-held_end Shared u.held (hold p Shared rows) refl) ∙ sym (has-put_same k s.counted);
        counts_else = λ q n. ap (λ b. b || is_at u.turning q) (has-held_more Shared u.held (hold p Shared rows) q (λ e f. n f));
        beside = λ m. ap has_writer is;
        beside_else = λ q n m. elim (less_held Shared q u.held (hold p Shared rows) m) [ inl x ↦ x | inr x ↦ absurd (n x.1) ];
        rows = more_rows spec c.history u.held (hold p Shared rows) mine.rows (ap home_rows (sym is) ∙ good_home spec c.history (length c.passes) p s.keeper (ap has_writer is) stripe.keeper);
        wish = λ q e. absurd (no_mode None q refl e);
        turning = λ q e. absurd (no_mode u.turning q high.ahead e);
      })
    where
      same_writes : (q : ℕ) → has (writes_of (shared u p rows)) q ≡ has (writes_of u) q
      same_writes q = has-held_more Exclusive u.held (hold p Shared rows) q (λ e f. other_mode (sym e))

  -- it finds a writer
  pub share_turns : IsHigh u p → IsGood spec (with_pass c c.history (set c.stripes p (with_counted s k)) k (turned u p))
  share_turns high =
      stripe_change spec c k p u (turned u p) (with_counted s k) good at there
      (λ j n. refl)
      (λ j n. has-put_other k j s.counted n)
      (λ j v n g m. g.beside p m)
      (counted_stripe spec c.history (length c.passes) p k s stripe (at_below c.passes k u at))
      (record {
        same = (refl, refl, refl);
        writes = mine.writes p;
        writes_else = λ q n. refl;
        counts = ap (λ b. has (shares_of u) p || b) (eq-eqb p p refl) ∙ or_true (has (shares_of u) p) ∙ sym (has-put_same k s.counted);
        counts_else = λ q n. ap (λ b. has (shares_of u) q || b) (ne_eqb p q (λ e. n (sym e)) ∙ sym (at_itself u.turning q high.ahead));
        beside = λ m. mine.beside p m;
        beside_else = λ q n m. m;
        rows = mine.rows;
        wish = λ q e. subst (IsAbove u) (same_wish p q e) high.above;
        turning = λ q e. e;
      })

  pub share_keeps : IsHigh u p → IsGood spec (with_pass c c.history (set c.stripes p (with_counted (stripe_at c.stripes p) k)) k (counted_in (stripe_at c.stripes p).keeper u p))
  share_keeps high = go (stripe_at c.stripes p).keeper refl
    where
      go : (x : Keeper) → (stripe_at c.stripes p).keeper ≡ x → IsGood spec (with_pass c c.history (set c.stripes p (with_counted (stripe_at c.stripes p) k)) k (counted_in x u p))
      go (Home rows) is = share_takes rows is high
      go (Writer j) is = share_turns high

  -- ---- back and leave

  pub back_keeps : u.turning ≡ Some p → IsGood spec (with_pass c c.history (set c.stripes p (without_counted (stripe_at c.stripes p) k)) k (back u))
  back_keeps turns =
      stripe_change spec c k p u (back u) (without_counted s k) good at there
      (λ j n. refl)
      (λ j n. has-all_but_other k j s.counted n)
      (λ j v n g m. g.beside p m)
      (less_counted_stripe spec c.history (length c.passes) p k s stripe)
      (record {
        same = (refl, refl, refl);
        writes = mine.writes p;
        writes_else = λ q n. refl;
        counts = or_false (has (shares_of u) p) ∙ not_has (shares_of u) p (λ m. above_itself u p (mine.wish p (mine.turning p turns)) (shares_held u p m)) ∙ sym (has-all_but_same k s.counted);
        counts_else = λ q n. ap (λ b. has (shares_of u) q || b) (sym (ap (λ o. is_at o q) turns ∙ ne_eqb p q (λ e. n (sym e))));
        beside = λ m. mine.beside p m;
        beside_else = λ q n m. m;
        rows = mine.rows;
        wish = mine.wish;
        turning = λ q e. absurd (no_mode None q refl e);
      })

  -- a pass turns back only at a stripe that it doesn't hold
  not_turning : In p (stripes_in u.held) → (o : Option ℕ) → u.turning ≡ o → is_at o p ≡ false
  not_turning m None e = refl
  not_turning m (Some q) e = ne_eqb q p (λ f. above_itself u p (subst (IsAbove u) f (mine.wish q (mine.turning q e))) m)

  -- what is left of a pass that releases a stripe
  rows_left : HaveRows spec c.history (other_holds u.held p)
  rows_left h m = mine.rows h (in_without p h u.held m).0

  wish_left : (q : ℕ) → u.wish ≡ Some q → IsAbove (released u p) q
  wish_left q e r m = mine.wish q e r (stripes_without p r u.held m).0

  pub leave_keeps : In p (shares_of u) → IsGood spec (with_pass c c.history (set c.stripes p (without_counted (stripe_at c.stripes p) k)) k (released u p))
  leave_keeps shares =
      stripe_change spec c k p u (released u p) (without_counted s k) good at there
      (λ j n. refl)
      (λ j n. has-all_but_other k j s.counted n)
      (λ j v n g m. g.beside p m)
      (less_counted_stripe spec c.history (length c.passes) p k s stripe)
      (record {
        same = (refl, refl, refl);
        writes = has-held_without_same Exclusive u.held p ∙ sym (no_writer s.keeper k (mine.beside p shares));
        writes_else = λ q n. has-held_without_other Exclusive u.held p q n;
        counts = ap (λ b. b || is_at u.turning p) (has-held_without_same Shared u.held p) ∙ not_turning (shares_held u p shares) u.turning refl ∙ sym (has-all_but_same k s.counted);
        counts_else = λ q n. ap (λ b. b || is_at u.turning q) (has-held_without_other Shared u.held p q n);
        beside = λ m. absurd ((held_without Shared p p u.held m).1 refl);
        beside_else = λ q n m. (held_without Shared p q u.held m).0;
        rows = rows_left;
        wish = wish_left;
        turning = mine.turning;
      })

  -- ---- unlock

  -- each hold of the stripe has its rows
  pub rows_of_it : (holds : List Hold) → HaveRows spec c.history holds → In p (stripes_in holds) → rows_of_hold holds p ≡ fragment_of spec (replay spec c.history) p
  rows_of_it [] rows m = absurd m
  rows_of_it (h ∷ holds) rows m = go (h.stripe == p) refl m (rows_of_it holds (λ x n. rows x (inr n)))
    where
      go : (b : Bool) → (h.stripe == p) ≡ b → In p (stripes_in (h ∷ holds)) → (In p (stripes_in holds) → rows_of_hold holds p ≡ fragment_of spec (replay spec c.history) p)
          → (if b then h.rows else rows_of_hold holds p) ≡ fragment_of spec (replay spec c.history) p
      go true e m more = rows h (inl refl) ∙ ap (fragment_of spec (replay spec c.history)) (eqb-true h.stripe p e)
      go false e (inl is) more = absurd (false≢true (sym e ∙ eq-eqb h.stripe p (sym is)))
      go false e (inr m) more = more m

  has_a_writer : (x : Keeper) → is_writer x k ≡ true → has_writer x ≡ false → ⊥
  has_a_writer x e f = false≢true (sym (no_writer x k f) ∙ e)

  pub unlock_keeps : In p (writes_of u) → IsGood spec (with_pass c c.history (set c.stripes p (with_keeper (stripe_at c.stripes p) (Home (rows_of_hold u.held p)))) k (released u p))
  unlock_keeps writes =
      stripe_change spec c k p u (released u p) (with_keeper s (Home (rows_of_hold u.held p))) good at there
      (λ j n. sym (other_writer s.keeper k j now n))
      (λ j n. refl)
      (λ j v n g m. refl)
      (record { keeper = rows_of_it u.held mine.rows (writes_held u p writes); rising = stripe.rising; known = stripe.known })
      (record {
        same = (refl, refl, refl);
        writes = has-held_without_same Exclusive u.held p;
        writes_else = λ q n. has-held_without_other Exclusive u.held p q n;
        counts = ap (λ b. b || is_at u.turning p) (has-held_without_same Shared u.held p ∙ sym (not_has (shares_of u) p (λ m. has_a_writer s.keeper now (mine.beside p m)))) ∙ mine.counts p;
        counts_else = λ q n. ap (λ b. b || is_at u.turning q) (has-held_without_other Shared u.held p q n);
        beside = λ m. refl;
        beside_else = λ q n m. (held_without Shared p q u.held m).0;
        rows = rows_left;
        wish = wish_left;
        turning = mine.turning;
      })
    where
      now : is_writer (stripe_at c.stripes p).keeper k ≡ true
      now = sym (mine.writes p) ∙ has_in (writes_of u) p writes
