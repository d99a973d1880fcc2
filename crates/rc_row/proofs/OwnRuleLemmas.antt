-- What the steps of a row do to the rule of own slots.
use Rattle.std.proofs.Common.{◌≡◌, ◌≢◌, ℕ, ◌<◌, ◌≤◌, ◌⊎◌, Bool, true, false, List, length, get_or, set, Option, Some, None, refl, sym, ap, ◌∙◌, subst, inl, inr, arith, length-set}
use Rattle.rc_row.proofs.Imports.{cases_eq, eq-eqb, false≢true, ne_eqb, get_or-set_same, get_or-set_other, set_here, set_else, In, has, EdgeRow, Spec, KeptRows, Entry, CoreState, Keeper, Home, Writer, PassState, StripeState, no_pass, no_stripe, pass_at, shares_of, stripe_at, with_pass, Empty, Apart, Handed, HasHanded, IsOwn, IsOwnHome, OwnsAre, Slot, kept_of, own_place, Slot?, value_at, value_of}
use mathlib.Core.Option.{some, none}
use lib.ListN.{get_elem?}

abbrev Homes : Type 0
Homes = List (mathlib.Core.Option.Option Slot)

-- what stands in a place is right for equal facts
same_home : (spec : Spec) (x y : Keeper) (a b c d : Bool) (g h : Slot?) → x ≡ y → a ≡ b → c ≡ d → g ≡ h → IsOwnHome spec x a c g → IsOwnHome spec y b d h
same_home spec x y a b c d g h keeper handed shares home right =
    subst (λ (z : Keeper × Bool × Bool × Slot?). IsOwnHome spec z.0 z.1 z.2 z.3) (λ i. (keeper i, handed i, shares i, home i)) right

-- pointers may have been handed out from now on
pub still_own : (spec : Spec) (rows : List EdgeRow) (handed : Bool) (x : Slot) → IsOwn spec handed rows x → IsOwn spec true rows x
still_own spec rows handed Empty own = tt
still_own spec rows handed (Apart kept) own = absurd own
still_own spec rows handed (Handed kept) own = (refl, own.1)

pub handed_home : (spec : Spec) (x : Keeper) (handed shares : Bool) (home : Slot?) → IsOwnHome spec x handed shares home → IsOwnHome spec x true shares home
handed_home spec (Writer j) handed shares home right = right
handed_home spec (Home rows) handed true home right = right
handed_home spec (Home rows) handed false home right = (right.0, still_own spec rows handed right.0 right.1, right.2)

-- two own slots are apart
pub own_apart : (j q k p : ℕ) → q < 256 → p < 256 → q ≢ p → own_place j q ≢ own_place k p
own_apart j q k p below low apart e = apart (omega (arith, e))

pub pass_apart : (j k p : ℕ) → j ≢ k → own_place j p ≢ own_place k p
pass_apart j k p apart e = apart (omega (arith, e))

module _ (spec : Spec) (c : CoreState) (handed : List Bool) (homes : Homes) (are : OwnsAre spec c handed homes) (k p : ℕ) (w : PassState) (t : StripeState) (history : List Entry)
    (pass : k < length c.passes) (there : p < length c.stripes) where
  pass_here : pass_at (set c.passes k w) k ≡ w
  pass_here = get_or-set_same c.passes k w no_pass pass

  pass_else : (j : ℕ) → j ≢ k → pass_at (set c.passes k w) j ≡ pass_at c.passes j
  pass_else j apart = get_or-set_other c.passes k j w no_pass apart

  -- One pass changes, with one stripe: at other stripes all stays, and at this one it is shown.
  pub owns_with : (handed' : List Bool) (homes' : Homes)
      → ((j q : ℕ) → q < length c.stripes → q ≢ p → get_elem? homes' (own_place j q) ≡ get_elem? homes (own_place j q)) → ((q : ℕ) → q ≢ p → get_or handed' q false ≡ get_or handed q false)
      → ((q : ℕ) → q ≢ p → has (shares_of w) q ≡ has (shares_of (pass_at c.passes k)) q)
      → ((j : ℕ) → j < length c.passes → IsOwnHome spec t.keeper (get_or handed' p false) (has (shares_of (pass_at (set c.passes k w) j)) p) (get_elem? homes' (own_place j p)))
      → OwnsAre spec (with_pass c history (set c.stripes p t) k w) handed' homes'
  owns_with handed' homes' elsewhere flags others here j q a b =
      let known : j < length c.passes = (let n = length-set c.passes k w in omega arith) in
      let below : q < length c.stripes = (let n = length-set c.stripes p t in omega arith) in
      elim (cases_eq q p) [
        | inl e ↦ same_home spec t.keeper _ _ _ _ _ _ _ (sym (ap (λ (s : StripeState). s.keeper) (ap (stripe_at (set c.stripes p t)) e ∙ get_or-set_same c.stripes p t no_stripe there)))
            (ap (λ (n : ℕ). get_or handed' n false) (sym e)) (ap (λ (n : ℕ). has (shares_of (pass_at (set c.passes k w) j)) n) (sym e)) (ap (λ (n : ℕ). get_elem? homes' (own_place j n)) (sym e)) (here j known)
        | inr apart ↦ same_home spec (stripe_at c.stripes q).keeper _ _ _ _ _ _ _ (sym (ap (λ (s : StripeState). s.keeper) (get_or-set_other c.stripes p q t no_stripe apart)))
            (sym (flags q apart))
            (elim (cases_eq j k) [
              | inl e ↦ ap (λ (n : ℕ). has (shares_of (pass_at c.passes n)) q) e ∙ sym (others q apart) ∙ sym (ap (λ (n : ℕ). has (shares_of (pass_at (set c.passes k w) n)) q) e ∙ ap (λ (u : PassState). has (shares_of u) q) pass_here)
              | inr n ↦ sym (ap (λ (u : PassState). has (shares_of u) q) (pass_else j n))
            ])
            (sym (elsewhere j q below apart)) (are j q known below)
      ]

  module _ (few : length c.stripes ≤ 256) (others : (q : ℕ) → q ≢ p → has (shares_of w) q ≡ has (shares_of (pass_at c.passes k)) q) where
    -- the stripe's own slot of the pass changes
    at_own : (x : mathlib.Core.Option.Option Slot) → t.keeper ≡ (stripe_at c.stripes p).keeper
        → IsOwnHome spec t.keeper (get_or handed p false) (has (shares_of w) p) (get_elem? (set homes (own_place k p) x) (own_place k p))
        → OwnsAre spec (with_pass c history (set c.stripes p t) k w) handed (set homes (own_place k p) x)
    at_own x same here =
        owns_with handed (set homes (own_place k p) x) (λ j q below apart. set_else homes (own_place k p) (own_place j q) x (own_apart j q k p (omega arith) (omega arith) apart)) (λ q apart. refl) others
        (λ j known. elim (cases_eq j k) [
          | inl e ↦ same_home spec t.keeper t.keeper _ _ _ _ _ _ refl refl (sym (ap (λ (n : ℕ). has (shares_of (pass_at (set c.passes k w) n)) p) e ∙ ap (λ (u : PassState). has (shares_of u) p) pass_here))
              (ap (λ (n : ℕ). get_elem? (set homes (own_place k p) x) (own_place n p)) (sym e)) here
          | inr n ↦ same_home spec (stripe_at c.stripes p).keeper t.keeper _ _ _ _ _ _ (sym same) refl (sym (ap (λ (u : PassState). has (shares_of u) p) (pass_else j n)))
              (sym (set_else homes (own_place k p) (own_place j p) x (pass_apart j k p n))) (are j p known there)
        ])

    -- a reader is counted in: its own slot is out
    pub owns_entered : (rows : List EdgeRow) → t.keeper ≡ (stripe_at c.stripes p).keeper → (stripe_at c.stripes p).keeper ≡ Home rows → has (shares_of w) p ≡ true → own_place k p < length homes
        → OwnsAre spec (with_pass c history (set c.stripes p t) k w) handed (set homes (own_place k p) none)
    owns_entered rows same home shares inside =
        at_own none same (same_home spec (Home rows) t.keeper (get_or handed p false) (get_or handed p false) true (has (shares_of w) p) _ _ (sym (same ∙ home)) refl (sym shares) refl (set_here homes (own_place k p) none inside))

    -- a reader is counted out: its own slot has nothing, or its pointer
    pub owns_left : (rows : List EdgeRow) (x : Slot) → t.keeper ≡ (stripe_at c.stripes p).keeper → (stripe_at c.stripes p).keeper ≡ Home rows → has (shares_of w) p ≡ false → own_place k p < length homes
        → IsOwn spec (get_or handed p false) rows x → OwnsAre spec (with_pass c history (set c.stripes p t) k w) handed (set homes (own_place k p) (some x))
    owns_left rows x same home shares inside own =
        at_own (some x) same (same_home spec (Home rows) t.keeper (get_or handed p false) (get_or handed p false) false (has (shares_of w) p) _ _ (sym (same ∙ home)) refl (sym shares) refl
        (x, own, set_here homes (own_place k p) (some x) inside))

    -- it stays where the keeper does, and what the pass shares
    pub owns_stay : (homes' : Homes) → ((j q : ℕ) → j < length c.passes → q < length c.stripes → get_elem? homes' (own_place j q) ≡ get_elem? homes (own_place j q)) → t.keeper ≡ (stripe_at c.stripes p).keeper
        → has (shares_of w) p ≡ has (shares_of (pass_at c.passes k)) p → OwnsAre spec (with_pass c history (set c.stripes p t) k w) handed homes'
    owns_stay homes' still same shares j q a b =
        let known : j < length c.passes = (let n = length-set c.passes k w in omega arith) in
        let below : q < length c.stripes = (let n = length-set c.stripes p t in omega arith) in
        same_home spec (stripe_at c.stripes q).keeper _ _ _ _ _ _ _
        (elim (cases_eq q p) [
          | inl e ↦ ap (λ (n : ℕ). (stripe_at c.stripes n).keeper) e ∙ sym same ∙ sym (ap (λ (s : StripeState). s.keeper) (ap (stripe_at (set c.stripes p t)) e ∙ get_or-set_same c.stripes p t no_stripe there))
          | inr apart ↦ sym (ap (λ (s : StripeState). s.keeper) (get_or-set_other c.stripes p q t no_stripe apart))
        ])
        refl
        (elim (cases_eq j k) [
          | inl e ↦ ap (λ (n : ℕ). has (shares_of (pass_at c.passes n)) q) e
              ∙ elim (cases_eq q p) [
                | inl at ↦ ap (has (shares_of (pass_at c.passes k))) at ∙ sym shares ∙ ap (has (shares_of w)) (sym at)
                | inr apart ↦ sym (others q apart)
              ]
              ∙ sym (ap (λ (n : ℕ). has (shares_of (pass_at (set c.passes k w) n)) q) e ∙ ap (λ (u : PassState). has (shares_of u) q) pass_here)
          | inr n ↦ sym (ap (λ (u : PassState). has (shares_of u) q) (pass_else j n))
        ])
        (sym (still j q known below)) (are j q known below)

    -- the stripe is locked to write it: all own slots of it are out
    pub owns_locked : (homes' : Homes) → t.keeper ≡ Writer k → ((j q : ℕ) → q < length c.stripes → q ≢ p → get_elem? homes' (own_place j q) ≡ get_elem? homes (own_place j q))
        → ((j : ℕ) → j < length c.passes → get_elem? homes' (own_place j p) ≡ some none) → OwnsAre spec (with_pass c history (set c.stripes p t) k w) handed homes'
    owns_locked homes' written elsewhere out =
        owns_with handed homes' elsewhere (λ q apart. refl) others (λ j known. same_home spec (Writer k) t.keeper (get_or handed p false) (get_or handed p false) (has (shares_of (pass_at (set c.passes k w) j)) p) _ (get_elem? homes' (own_place j p)) _ (sym written) refl refl refl (out j known))

    -- and given back: they are home and empty, since nobody shares it, and no pointer is handed out
    pub owns_unlocked : (homes' : Homes) (handed' : List Bool) (rows : List EdgeRow) → t.keeper ≡ Home rows → ((q : ℕ) → q ≢ p → get_or handed' q false ≡ get_or handed q false)
        → ((j q : ℕ) → q < length c.stripes → q ≢ p → get_elem? homes' (own_place j q) ≡ get_elem? homes (own_place j q))
        → ((j : ℕ) → j < length c.passes → has (shares_of (pass_at (set c.passes k w) j)) p ≡ false) → ((j : ℕ) → j < length c.passes → get_elem? homes' (own_place j p) ≡ some (some Empty))
        → OwnsAre spec (with_pass c history (set c.stripes p t) k w) handed' homes'
    owns_unlocked homes' handed' rows home flags elsewhere unshared empty =
        owns_with handed' homes' elsewhere flags others
        (λ j known. same_home spec (Home rows) t.keeper (get_or handed' p false) (get_or handed' p false) false _ _ _ (sym home) refl (sym (unshared j known)) refl (Empty, tt, empty j known))

-- ---- what is told of own slots

valued : (x : Slot?) (y : Slot) → x ≡ some (some y) → value_of x ≡ y
valued x y e = ap value_of e

module _ (spec : Spec) (c : CoreState) (handed : List Bool) (homes : Homes) (are : OwnsAre spec c handed homes) (p : ℕ) (there : p < length c.stripes) (rows : List EdgeRow)
    (home : (stripe_at c.stripes p).keeper ≡ Home rows) where
  -- the own slot of a pass that doesn't share a stripe which nobody writes is home, with nothing or a pointer to the rows that lie there
  own_there : (k : ℕ) → k < length c.passes → has (shares_of (pass_at c.passes k)) p ≡ false
      → (x : Slot) × IsOwn spec (get_or handed p false) rows x × (get_elem? homes (own_place k p) ≡ some (some x))
  own_there k known apart =
      subst (λ (z : Keeper × Bool). IsOwnHome spec z.0 (get_or handed p false) z.1 (get_elem? homes (own_place k p))) (λ i. (home i, apart i)) (are k p known there)

  pub own_home : (k : ℕ) → k < length c.passes → has (shares_of (pass_at c.passes k)) p ≡ false → get_elem? homes (own_place k p) ≡ some (some (value_at homes (own_place k p)))
  own_home k known apart = let o = own_there k known apart in o.2 ∙ ap (λ (x : Slot). some (some x)) (sym (valued (get_elem? homes (own_place k p)) o.0 o.2))

  pub own_value : (k : ℕ) → k < length c.passes → has (shares_of (pass_at c.passes k)) p ≡ false → IsOwn spec (get_or handed p false) rows (value_at homes (own_place k p))
  own_value k known apart = let o = own_there k known apart in subst (IsOwn spec (get_or handed p false) rows) (sym (valued (get_elem? homes (own_place k p)) o.0 o.2)) o.1

-- where none was handed out, an own slot has nothing
pub own_empty : (spec : Spec) (rows : List EdgeRow) (handed : Bool) (x : Slot) → handed ≡ false → IsOwn spec handed rows x → x ≡ Empty
own_empty spec rows handed Empty clear own = refl
own_empty spec rows handed (Apart kept) clear own = absurd own
own_empty spec rows handed (Handed kept) clear own = absurd (false≢true (sym clear ∙ own.0))

-- what it has is a pointer to the rows, which was handed out
pub own_pointer : (spec : Spec) (rows : List EdgeRow) (handed : Bool) (x : Slot) (kept : KeptRows) → x ≡ Handed kept → IsOwn spec handed rows x → (handed ≡ true) × (kept ≡ kept_of spec rows)
own_pointer spec rows handed x kept is own = subst (IsOwn spec handed rows) is own

-- ---- what was handed out

-- of a pass that shares no more than it did
pub handed_less : (handed : List Bool) (entering : Option ℕ) (u w : PassState) → ((q : ℕ) → In q (shares_of w) → In q (shares_of u)) → HasHanded handed entering u → HasHanded handed entering w
handed_less handed entering u w less has q m apart = has q (less q m) apart

-- of a pass that has just entered, without a pointer
pub handed_entered : (handed : List Bool) (p : ℕ) (u w : PassState) → ((q : ℕ) → In q (shares_of w) → (q ≡ p) ⊎ In q (shares_of u)) → HasHanded handed None u → HasHanded handed (Some p) w
handed_entered handed p u w more has q m apart = elim (more q m) [
  | inl e ↦ absurd (false≢true (sym apart ∙ eq-eqb p q (sym e)))
  | inr x ↦ has q x refl
]

-- and with one
pub handed_found : (handed : List Bool) (p : ℕ) (u w : PassState) → ((q : ℕ) → In q (shares_of w) → (q ≡ p) ⊎ In q (shares_of u)) → get_or handed p false ≡ true → HasHanded handed None u → HasHanded handed None w
handed_found handed p u w more out has q m apart = elim (more q m) [
  | inl e ↦ ap (λ (n : ℕ). get_or handed n false) e ∙ out
  | inr x ↦ has q x refl
]

-- of each pass, once the stripe p was handed out
pub handed_on : (handed : List Bool) (p : ℕ) (entering : Option ℕ) (u : PassState) → p < length handed → HasHanded handed entering u → HasHanded (set handed p true) entering u
handed_on handed p entering u inside has q m apart = elim (cases_eq q p) [
  | inl e ↦ ap (λ (n : ℕ). get_or (set handed p true) n false) e ∙ get_or-set_same handed p true false inside
  | inr n ↦ get_or-set_other handed p q true false n ∙ has q m apart
]

-- and of the pass that was entering it
pub handed_at : (handed : List Bool) (p : ℕ) (u : PassState) → p < length handed → HasHanded handed (Some p) u → HasHanded (set handed p true) None u
handed_at handed p u inside has q m apart = elim (cases_eq q p) [
  | inl e ↦ ap (λ (n : ℕ). get_or (set handed p true) n false) e ∙ get_or-set_same handed p true false inside
  | inr n ↦ get_or-set_other handed p q true false n ∙ has q m (ne_eqb p q (λ e. n (sym e)))
]

-- of a pass that doesn't share the stripe p, once that was written
pub handed_off : (handed : List Bool) (p : ℕ) (entering : Option ℕ) (u : PassState) → (In p (shares_of u) → ⊥) → HasHanded handed entering u → HasHanded (set handed p false) entering u
handed_off handed p entering u unshared has q m apart =
    get_or-set_other handed p q false false (λ e. unshared (subst (λ (n : ℕ). In n (shares_of u)) e m)) ∙ has q m apart

-- one pass changes alone, and shares what it did
pub owns_alone : (spec : Spec) (c : CoreState) (handed : List Bool) (homes : Homes) (k : ℕ) (w : PassState) (history : List Entry) → k < length c.passes
    → ((q : ℕ) → has (shares_of w) q ≡ has (shares_of (pass_at c.passes k)) q) → OwnsAre spec c handed homes → OwnsAre spec (with_pass c history c.stripes k w) handed homes
owns_alone spec c handed homes k w history pass same are j q a b =
    let known : j < length c.passes = (let n = length-set c.passes k w in omega arith) in
    subst (λ (shares : Bool). IsOwnHome spec (stripe_at c.stripes q).keeper (get_or handed q false) shares (get_elem? homes (own_place j q)))
    (elim (cases_eq j k) [
      | inl e ↦ ap (λ (n : ℕ). has (shares_of (pass_at c.passes n)) q) e ∙ sym (same q) ∙ sym (ap (λ (n : ℕ). has (shares_of (pass_at (set c.passes k w) n)) q) e ∙ ap (λ (u : PassState). has (shares_of u) q) (get_or-set_same c.passes k w no_pass pass))
      | inr n ↦ sym (ap (λ (u : PassState). has (shares_of u) q) (get_or-set_other c.passes k j w no_pass n))
    ])
    (are j q known b)

-- pointers to the stripe p are handed out from now on
pub owns_on : (spec : Spec) (c : CoreState) (handed : List Bool) (homes : Homes) (p : ℕ) → p < length handed → OwnsAre spec c handed homes → OwnsAre spec c (set handed p true) homes
owns_on spec c handed homes p inside are j q a b = elim (cases_eq q p) [
  | inl e ↦ subst (λ (flag : Bool). IsOwnHome spec (stripe_at c.stripes q).keeper flag (has (shares_of (pass_at c.passes j)) q) (get_elem? homes (own_place j q)))
      (sym (ap (λ (n : ℕ). get_or (set handed p true) n false) e ∙ get_or-set_same handed p true false inside))
      (handed_home spec (stripe_at c.stripes q).keeper (get_or handed q false) (has (shares_of (pass_at c.passes j)) q) (get_elem? homes (own_place j q)) (are j q a b))
  | inr n ↦ subst (λ (flag : Bool). IsOwnHome spec (stripe_at c.stripes q).keeper flag (has (shares_of (pass_at c.passes j)) q) (get_elem? homes (own_place j q)))
      (sym (get_or-set_other handed p q true false n)) (are j q a b)
]
