use Rattle.std.proofs.Common.{◌≡◌, ◌+◌, ◌<◌, ◌++◌, ◌∷◌, [], List, ℕ, cond, false, get_or, length, suc, take, true, sym, ap, subst, ◌∙◌, arith}
use Rattle.rc_bindings.proofs.Imports.{take-suc, false≢true, append_assoc, take_all, zip, nat_cmp, IsColSet, has, slice_get-rank, In, IsRising, has_in, in_has, map_in, cols_of, cols_of-zip, given, all_written, columns_below, register, all_written-append, has_not, length-all_written, length-columns_below_more, place_within, register-unwritten, register-written, zip_there}
use Rattle.rc_bindings.proofs.bindings.push_merged.Goals as goal
use Rattle.rc_bindings.proofs.bindings.push_merged.Goals.{then-has, else-has+then-has-2, else-has+else-has-2}

-- a column of the set gets its value
written : (cols values row : List ℕ) (n : ℕ) → IsColSet cols → length values ≡ length cols → ((c : ℕ) → In c cols → c < length row) → has cols n ≡ true
    → register (all_written (zip cols values) row) n ≡ get_or values (length (columns_below cols n)) 0
written cols values row n set count below h =
    let is : cols_of (zip cols values) ≡ cols = cols_of-zip cols values count in
    let l = place_within cols n set h in
    register-written (zip cols values) row (subst (IsRising nat_cmp) (sym is) set.rising)
    (λ p m. below p.0 (subst (In p.0) is (map_in (λ (z : ℕ × ℕ). z.0) p (zip cols values) m)))
    (n, get_or values (length (columns_below cols n)) 0) (zip_there cols values (length (columns_below cols n)) n (slice_get-rank cols n set h) (omega (arith, l, count)))

-- and another keeps its own
unwritten : (cols values row : List ℕ) (n : ℕ) → length values ≡ length cols → (In n cols → ⊥) → register (all_written (zip cols values) row) n ≡ register row n
unwritten cols values row n count out = register-unwritten (zip cols values) row n (λ m. out (subst (In n) (cols_of-zip cols values count) m))

not_in : (cols : List ℕ) (n : ℕ) → has cols n ≡ false → In n cols → ⊥
not_in cols n h m = false≢true (sym h ∙ has_in cols n m)

-- the register of each column in the row that is to be added
module _ (key kv extra xv held : List ℕ) (n : ℕ) (kl : length kv ≡ length key) (xl : length xv ≡ length extra) where
  abbrev row : List ℕ
  row = all_written (given key kv extra xv) held

  twice : register row n ≡ register (all_written (zip extra xv) (all_written (zip key kv) held)) n
  twice = ap (λ l. register l n) (all_written-append (zip key kv) (zip extra xv) held)

  of_key : IsColSet key → ((c : ℕ) → In c key → c < length held) → (In n extra → ⊥) → has key n ≡ true → register row n ≡ get_or kv (length (columns_below key n)) 0
  of_key set below out h = twice ∙ unwritten extra xv (all_written (zip key kv) held) n xl out ∙ written key kv held n set kl below h

  of_extra : IsColSet extra → ((c : ℕ) → In c extra → c < length held) → has extra n ≡ true → register row n ≡ get_or xv (length (columns_below extra n)) 0
  of_extra set below h =
      twice ∙ written extra xv (all_written (zip key kv) held) n set xl (λ c m. subst (λ k. c < k) (sym (length-all_written (zip key kv) held)) (below c m)) h

  of_held : has key n ≡ false → has extra n ≡ false → register row n ≡ register held n
  of_held a b = twice ∙ unwritten extra xv (all_written (zip key kv) held) n xl (not_in extra n b) ∙ unwritten key kv held n kl (not_in key n a)

-- one register more of the row
module _ (old now row : List ℕ) (n v : ℕ) where
  more : now ≡ old ++ take n row → n < length row → register row n ≡ v → now ++ v ∷ [] ≡ old ++ take (n + 1) row
  more is l e =
      let next : suc n ≡ n + 1 = omega arith in
      ap (λ z. z ++ v ∷ []) is ∙ append_assoc old (take n row) (v ∷ [])
      ∙ ap (λ z. old ++ z) (ap (λ k. take n row ++ k ∷ []) (sym e) ∙ sym (take-suc row n 0 l) ∙ ap (λ k. take k row) next)

-- the place among the values goes with the column
place_there : (cols : List ℕ) (n k : ℕ) → k ≡ length (columns_below cols n) → has cols n ≡ true → k + 1 ≡ length (columns_below cols (n + 1))
place_there cols n k is h = ap (λ z. z + 1) is ∙ sym (length-columns_below_more cols n ∙ ap (λ b. length (columns_below cols n) + cond b 1 0) h)

place_out : (cols : List ℕ) (n k : ℕ) → k ≡ length (columns_below cols n) → has cols n ≡ false → k ≡ length (columns_below cols (n + 1))
place_out cols n k is h =
    let e : length (columns_below cols n) + 0 ≡ length (columns_below cols n) = omega arith in
    is ∙ sym (length-columns_below_more cols n ∙ ap (λ b. length (columns_below cols n) + cond b 1 0) h ∙ e)

pub bounds-key_values-keys : goal.bounds-key_values-keys
bounds-key_values-keys c =
    let l = place_within c.args.key c.loop-col.col c.has.ensures.set (sym c.has.ensures.found ∙ c.if-has.true) in
    let is = c.loop-col.invariant.keys in
    let n = c.requires.keys in
    omega (arith, l, is, n)

pub bounds-extra_values-extras : goal.bounds-extra_values-extras
bounds-extra_values-extras c =
    let l = place_within c.args.extra c.loop-col.col c.has-else-has.ensures.set (sym c.has-else-has.ensures.found ∙ c.if-has-2.true) in
    let is = c.loop-col.invariant.extras in
    let n = c.requires.extras in
    omega (arith, l, is, n)

pub loop-col-preserved : goal.loop-col-preserved
loop-col-preserved c =
    let key = c.args.key in
    let kv = c.args.key_values.now in
    let extra = c.args.extra in
    let xv = c.args.extra_values.now in
    let held = c.args.held.now in
    let n = c.loop-col.col in
    let old = c.args.registers.now.items in
    let all = all_written (given key kv extra xv) held in
    let l = c.loop-col-test.true in
    let below : n < length all = let e = length-all_written (given key kv extra xv) held in omega (arith, l, e) in
    let low_keys = c.loop-col.invariant.few_keys in
    let low_extras = c.loop-col.invariant.few_extras in
    let room = c.loop-col.invariant.room in
    elim c.if-has.branch [
      | then-has w ↦
          let h : has key n ≡ true = sym c.has.ensures.found ∙ w.if-has.true in
          let out : In n extra → ⊥ = c.requires.apart n (in_has key n h) in
          let k = w.keys-is in
          let x = w.extras-is in
          let len = ap (λ z. z.len) w.registers-is ∙ w.push_reserved.ensures.len in
          let cap = ap (λ z. z.cap) w.registers-is ∙ w.push_reserved.ensures.capacity in
          record {
            keys = w.keys-is ∙ place_there key n c.loop-col.keys c.loop-col.invariant.keys h;
            extras = w.extras-is ∙ place_out extra n c.loop-col.extras c.loop-col.invariant.extras (has_not extra n out);
            few_keys = omega (arith, k, low_keys);
            few_extras = omega (arith, x, low_extras);
            items = ap (λ z. z.items) w.registers-is ∙ w.push_reserved.ensures.items
                ∙ more old c.loop-col.registers.items all n (get_or kv c.loop-col.keys 0) c.loop-col.invariant.items below
                (of_key key kv extra xv held n c.requires.keys c.requires.extras c.has.ensures.set c.requires.key_below out h ∙ ap (λ z. get_or kv z 0) (sym c.loop-col.invariant.keys));
            capacity = cap ∙ c.loop-col.invariant.capacity;
            room = omega (arith, len, cap, room, l);
          }
      | else-has+then-has-2 w ↦
          let a : has key n ≡ false = sym c.has.ensures.found ∙ w.if-has.false in
          let h : has extra n ≡ true = sym w.has-else-has.ensures.found ∙ w.if-has-2.true in
          let k = w.keys-is in
          let x = w.extras-is in
          let len = ap (λ z. z.len) w.registers-is ∙ w.push_reserved-then-has-2.ensures.len in
          let cap = ap (λ z. z.cap) w.registers-is ∙ w.push_reserved-then-has-2.ensures.capacity in
          record {
            keys = w.keys-is ∙ place_out key n c.loop-col.keys c.loop-col.invariant.keys a;
            extras = w.extras-is ∙ place_there extra n c.loop-col.extras c.loop-col.invariant.extras h;
            few_keys = omega (arith, k, low_keys);
            few_extras = omega (arith, x, low_extras);
            items = ap (λ z. z.items) w.registers-is ∙ w.push_reserved-then-has-2.ensures.items
                ∙ more old c.loop-col.registers.items all n (get_or xv c.loop-col.extras 0) c.loop-col.invariant.items below
                (of_extra key kv extra xv held n c.requires.keys c.requires.extras w.has-else-has.ensures.set c.requires.extra_below h ∙ ap (λ z. get_or xv z 0) (sym c.loop-col.invariant.extras));
            capacity = cap ∙ c.loop-col.invariant.capacity;
            room = omega (arith, len, cap, room, l);
          }
      | else-has+else-has-2 w ↦
          let a : has key n ≡ false = sym c.has.ensures.found ∙ w.if-has.false in
          let b : has extra n ≡ false = sym w.has-else-has.ensures.found ∙ w.if-has-2.false in
          let k = w.keys-is in
          let x = w.extras-is in
          let len = ap (λ z. z.len) w.registers-is ∙ w.push_reserved-else-has-2.ensures.len in
          let cap = ap (λ z. z.cap) w.registers-is ∙ w.push_reserved-else-has-2.ensures.capacity in
          record {
            keys = w.keys-is ∙ place_out key n c.loop-col.keys c.loop-col.invariant.keys a;
            extras = w.extras-is ∙ place_out extra n c.loop-col.extras c.loop-col.invariant.extras b;
            few_keys = omega (arith, k, low_keys);
            few_extras = omega (arith, x, low_extras);
            items = ap (λ z. z.items) w.registers-is ∙ w.push_reserved-else-has-2.ensures.items
                ∙ more old c.loop-col.registers.items all n (register held n) c.loop-col.invariant.items below
                (of_held key kv extra xv held n c.requires.keys c.requires.extras a b);
            capacity = cap ∙ c.loop-col.invariant.capacity;
            room = omega (arith, len, cap, room, l);
          }
    ]

pub returns-clause-items : goal.returns-clause-items
returns-clause-items c =
    let held = c.args.held.now in
    let ps = given c.args.key c.args.key_values.now c.args.extra c.args.extra_values.now in
    let width = length-all_written ps held in
    let l = c.loop-col-test.false in
    let e = c.loop-col.auto.col-end in
    c.loop-col.invariant.items ∙ ap (λ z. c.args.registers.now.items ++ z) (take_all c.loop-col.col (all_written ps held) (omega (arith, width, l, e)))
