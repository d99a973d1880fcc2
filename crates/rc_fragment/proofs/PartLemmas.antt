-- A row's values, parted by source, key and the extra columns: those of each part in one run, as one pair of the row after another is put there.
use Rattle.std.specs.Prelude.{◌≡◌, ℕ, ◌+◌, ◌-◌, ◌≤◌, Bool, true, false, cond, List, [], ◌∷◌, ◌++◌, filter, length, map, take, drop}
use Rattle.rc_fragment.proofs.Imports.{insert, append_assoc, append-nil, length-append, map-append, drop-append_seam, take-append_seam, filter-append, insert-append_left, insert-append_right, insert_end, false≢true, has, Pairs, IsParted, extra_columns, values_at, EdgeShape}
use Rattle.std.proofs.Common.{refl, sym, ap, ◌∙◌, arith}
use Rattle.rc_fragment.proofs.NoteLemmas.{at_pair, parted_columns}

-- ---- one more pair

-- what a pair adds to the values at the columns
abbrev pub value_of : Bool → ℕ → List ℕ
value_of b v = cond b (v ∷ []) []

values_more : (cols : List ℕ) (t : Pairs) (p : ℕ × ℕ) → values_at cols (t ++ p ∷ []) ≡ values_at cols t ++ value_of (has cols p.0) p.1
values_more cols t p =
    let second : ℕ × ℕ → ℕ = λ q. q.1 in
    let there : ℕ × ℕ → Bool = λ q. has cols q.0 in
    ap (map second) (filter-append there t (p ∷ [])) ∙ map-append second (filter there t) (filter there (p ∷ [])) ∙ ap (λ l. values_at cols t ++ l) (one (has cols p.0))
  where
    one : (b : Bool) → map (λ (q : ℕ × ℕ). q.1) (cond b (p ∷ []) []) ≡ value_of b p.1
    one true = refl
    one false = refl

values_with : (cols : List ℕ) (t : Pairs) (p : ℕ × ℕ) → has cols p.0 ≡ true → values_at cols (t ++ p ∷ []) ≡ values_at cols t ++ p.1 ∷ []
values_with cols t p h = values_more cols t p ∙ ap (λ b. values_at cols t ++ value_of b p.1) h

values_without : (cols : List ℕ) (t : Pairs) (p : ℕ × ℕ) → has cols p.0 ≡ false → values_at cols (t ++ p ∷ []) ≡ values_at cols t
values_without cols t p h = values_more cols t p ∙ ap (λ b. values_at cols t ++ value_of b p.1) h ∙ append-nil (values_at cols t)

-- ---- a value put behind the second of three parts

put_behind : (xs ys zs : List ℕ) (n v : ℕ) → n ≡ length xs + length ys → insert (xs ++ (ys ++ zs)) n v ≡ xs ++ (ys ++ v ∷ [] ++ zs)
put_behind xs ys zs n v e =
    let d : n - length xs ≡ length ys = omega (arith, e) in
    insert-append_right xs (ys ++ zs) (length xs) n v refl (omega (arith, e))
    ∙ ap (λ k. xs ++ insert (ys ++ zs) k v) d
    ∙ ap (λ l. xs ++ l) (insert-append_left ys zs (length ys) v (omega arith) ∙ ap (λ l. l ++ zs) (insert_end ys v))

-- ---- the parts

-- the list has the old values, and behind them those of a row at the columns of the source, of the key and at the extra ones; there the latter two begin
pub record AreParted (shape : EdgeShape) (old : List ℕ) (t : Pairs) (values : List ℕ) (key extra : ℕ) : Type 0 where
  pub values_are : values ≡ old ++ (values_at shape.source t ++ (values_at shape.key t ++ values_at (extra_columns shape) t))
  pub key_is : key ≡ length old + length (values_at shape.source t)
  pub extra_is : extra ≡ key + length (values_at shape.key t)

-- of two sets that no column is in, one has it not
at_most_one : (a b c : Bool) → at_pair a + at_pair b + at_pair c ≤ 1 → a ≡ true → (b ≡ false) × (c ≡ false)
at_most_one true true c l e = absurd (omega (arith, l))
at_most_one true false true l e = absurd (omega (arith, l))
at_most_one true false false l e = (refl, refl)
at_most_one false b c l e = absurd (false≢true e)

second_alone : (a b c : Bool) → at_pair a + at_pair b + at_pair c ≤ 1 → b ≡ true → c ≡ false
second_alone a true true l e = absurd (omega (arith, l))
second_alone a true false l e = refl
second_alone a false c l e = absurd (false≢true e)

module _ (shape : EdgeShape) (parted : IsParted shape) (old : List ℕ) (t : Pairs) (p : ℕ × ℕ) (values : List ℕ) (key extra : ℕ) (are : AreParted shape old t values key extra) where
  abbrev S : List ℕ
  S = values_at shape.source t

  abbrev K : List ℕ
  K = values_at shape.key t

  abbrev X : List ℕ
  X = values_at (extra_columns shape) t

  pub parted_source : has shape.source p.0 ≡ true → AreParted shape old (t ++ p ∷ []) (insert values key p.1) (key + 1) (extra + 1)
  parted_source h =
      let none = at_most_one (has shape.source p.0) (has shape.key p.0) (has (extra_columns shape) p.0) (parted_columns shape parted p.0) h in
      let s : values_at shape.source (t ++ p ∷ []) ≡ S ++ p.1 ∷ [] = values_with shape.source t p h in
      let k : values_at shape.key (t ++ p ∷ []) ≡ K = values_without shape.key t p none.0 in
      let x : values_at (extra_columns shape) (t ++ p ∷ []) ≡ X = values_without (extra_columns shape) t p none.1 in
      let ls : length (values_at shape.source (t ++ p ∷ [])) ≡ length S + 1 = ap length s ∙ length-append S (p.1 ∷ []) in
      let lk : length (values_at shape.key (t ++ p ∷ [])) ≡ length K = ap length k in
      record {
        values_are = ap (λ l. insert l key p.1) are.values_are ∙ put_behind old S (K ++ X) key p.1 are.key_is ∙ sym (λ i. old ++ (s i ++ (k i ++ x i)));
        key_is = omega (arith, are.key_is, ls);
        extra_is = omega (arith, are.extra_is, lk);
      }

  pub parted_key : has shape.source p.0 ≡ false → has shape.key p.0 ≡ true → AreParted shape old (t ++ p ∷ []) (insert values extra p.1) key (extra + 1)
  parted_key n h =
      let none = second_alone (has shape.source p.0) (has shape.key p.0) (has (extra_columns shape) p.0) (parted_columns shape parted p.0) h in
      let s : values_at shape.source (t ++ p ∷ []) ≡ S = values_without shape.source t p n in
      let k : values_at shape.key (t ++ p ∷ []) ≡ K ++ p.1 ∷ [] = values_with shape.key t p h in
      let x : values_at (extra_columns shape) (t ++ p ∷ []) ≡ X = values_without (extra_columns shape) t p none in
      let ls : length (values_at shape.source (t ++ p ∷ [])) ≡ length S = ap length s in
      let lk : length (values_at shape.key (t ++ p ∷ [])) ≡ length K + 1 = ap length k ∙ length-append K (p.1 ∷ []) in
      let lo : length (old ++ S) ≡ length old + length S = length-append old S in
      record {
        values_are = ap (λ l. insert l extra p.1) (are.values_are ∙ sym (append_assoc old S (K ++ X)))
            ∙ put_behind (old ++ S) K X extra p.1 (omega (arith, are.extra_is, are.key_is, lo))
            ∙ append_assoc old S (K ++ p.1 ∷ [] ++ X) ∙ sym (λ i. old ++ (s i ++ (k i ++ x i)));
        key_is = omega (arith, are.key_is, ls);
        extra_is = omega (arith, are.extra_is, lk);
      }

  pub parted_extra : has shape.source p.0 ≡ false → has shape.key p.0 ≡ false → has (extra_columns shape) p.0 ≡ true → AreParted shape old (t ++ p ∷ []) (values ++ p.1 ∷ []) key extra
  parted_extra n m h =
      let s : values_at shape.source (t ++ p ∷ []) ≡ S = values_without shape.source t p n in
      let k : values_at shape.key (t ++ p ∷ []) ≡ K = values_without shape.key t p m in
      let x : values_at (extra_columns shape) (t ++ p ∷ []) ≡ X ++ p.1 ∷ [] = values_with (extra_columns shape) t p h in
      record {
        values_are = ap (λ l. l ++ p.1 ∷ []) are.values_are ∙ append_assoc old (S ++ (K ++ X)) (p.1 ∷ [])
            ∙ ap (λ l. old ++ l) (append_assoc S (K ++ X) (p.1 ∷ []) ∙ ap (λ l. S ++ l) (append_assoc K X (p.1 ∷ [])))
            ∙ sym (λ i. old ++ (s i ++ (k i ++ x i)));
        key_is = are.key_is ∙ ap (λ l. length old + length l) (sym s);
        extra_is = are.extra_is ∙ ap (λ l. key + length l) (sym k);
      }

  pub parted_none : has shape.source p.0 ≡ false → has shape.key p.0 ≡ false → has (extra_columns shape) p.0 ≡ false → AreParted shape old (t ++ p ∷ []) values key extra
  parted_none n m h =
      let s : values_at shape.source (t ++ p ∷ []) ≡ S = values_without shape.source t p n in
      let k : values_at shape.key (t ++ p ∷ []) ≡ K = values_without shape.key t p m in
      let x : values_at (extra_columns shape) (t ++ p ∷ []) ≡ X = values_without (extra_columns shape) t p h in
      record {
        values_are = are.values_are ∙ sym (λ i. old ++ (s i ++ (k i ++ x i)));
        key_is = are.key_is ∙ ap (λ l. length old + length l) (sym s);
        extra_is = are.extra_is ∙ ap (λ l. key + length l) (sym k);
      }

-- the same of what is equal
pub parted_as : (shape : EdgeShape) (old : List ℕ) (t : Pairs) (values now : List ℕ) (key extra k x : ℕ) → AreParted shape old t values key extra → now ≡ values → k ≡ key → x ≡ extra → AreParted shape old t now k x
parted_as shape old t values now key extra k x are v e f = record {
  values_are = v ∙ are.values_are;
  key_is = e ∙ are.key_is;
  extra_is = f ∙ are.extra_is ∙ ap (λ n. n + length (values_at shape.key t)) (sym e);
}

-- ---- the parts, read

part_at : (xs ys zs : List ℕ) (from to : ℕ) → from ≡ length xs → to ≡ length xs + length ys → take (to - from) (drop from (xs ++ (ys ++ zs))) ≡ ys
part_at xs ys zs from to f t =
    let n : to - from ≡ length ys = omega (arith, f, t) in
    (λ i. take (n i) (drop (f i) (xs ++ (ys ++ zs)))) ∙ ap (take (length ys)) (drop-append_seam xs (ys ++ zs)) ∙ take-append_seam ys zs

module _ (shape : EdgeShape) (old : List ℕ) (t : Pairs) (values : List ℕ) (start key extra : ℕ) (begun : start ≡ length old) (are : AreParted shape old t values key extra) where
  abbrev From : List ℕ
  From = values_at shape.source t

  abbrev Key : List ℕ
  Key = values_at shape.key t

  abbrev Rest : List ℕ
  Rest = values_at (extra_columns shape) t

  pub source_read : take (key - start) (drop start values) ≡ From
  source_read = ap (λ l. take (key - start) (drop start l)) are.values_are ∙ part_at old From (Key ++ Rest) start key begun are.key_is

  pub key_read : take (extra - key) (drop key values) ≡ Key
  key_read =
      let lo : length (old ++ From) ≡ length old + length From = length-append old From in
      ap (λ l. take (extra - key) (drop key l)) (are.values_are ∙ sym (append_assoc old From (Key ++ Rest)))
      ∙ part_at (old ++ From) Key Rest key extra (omega (arith, are.key_is, lo)) (omega (arith, are.extra_is, are.key_is, lo))

  pub extra_read : (end : ℕ) → end ≡ length values → take (end - extra) (drop extra values) ≡ Rest
  extra_read end e =
      let regrouped : values ≡ old ++ (From ++ Key) ++ (Rest ++ []) =
      are.values_are ∙ ap (λ l. old ++ l) (sym (append_assoc From Key Rest)) ∙ sym (append_assoc old (From ++ Key) Rest) ∙ ap (λ l. old ++ (From ++ Key) ++ l) (sym (append-nil Rest)) in
      let lo : length (old ++ (From ++ Key)) ≡ length old + (length From + length Key) = length-append old (From ++ Key) ∙ ap (λ n. length old + n) (length-append From Key) in
      let lv : length values ≡ length (old ++ (From ++ Key)) + length Rest = ap length are.values_are ∙ ap length (ap (λ l. old ++ l) (sym (append_assoc From Key Rest)) ∙ sym (append_assoc old (From ++ Key) Rest)) ∙ length-append (old ++ (From ++ Key)) Rest in
      ap (λ l. take (end - extra) (drop extra l)) regrouped
      ∙ part_at (old ++ (From ++ Key)) Rest [] extra end (omega (arith, are.extra_is, are.key_is, lo)) (omega (arith, e, lv))
