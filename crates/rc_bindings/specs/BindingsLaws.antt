-- Laws of bindings.
use Rattle.std.proofs.Common.{◌≡◌, ℕ, zero, suc, ◌+◌, ◌*◌, ◌<◌, ◌≤◌, List, [], ◌∷◌, ◌++◌, get_or, length, set, take, drop, refl, sym, ap, ◌∙◌, inl, inr, ◌⊎◌, true, false, cond, filter, map, subst, arith}
use Rattle.std.proofs.lemmas.List.{append-nil, append_assoc, take-append-le, drop-append-le, drop-drop, drop-take, take-take, take_all, length-append, length-drop, length-take-le, map-append}
use Rattle.std.proofs.Math.ListN.{drop_of_length-le}
use Rattle.std.proofs.Math.Nat.{le-mul_of_pos_right, mul-le-mul_right, suc-mul, zero-mul}
use Rattle.rc_bindings.specs.Imports.{Ordering, Less, In, IsRising, IsOrder, in_append, map_in, flat_map, zip, Within, Pairs, agrees, cols_of, merge, merges_of, pair_cmp, project, GivesOne, cols_of-zip, one_pair, rising_cols, nat_cmp, IsSetBelow}
use Rattle.std.proofs.lemmas.List.Elements.{filter-append}
use Rattle.rc_bindings.specs.Registers.{all_written, fits_all, tuple_in, values_of}
use Rattle.rc_bindings.specs.RegistersLaws.{cols_of-tuple_in, fits_all-agree, merge-given}
use Rattle.rc_bindings.specs.Bindings.{AreBindings, AreRows, BindingList, IsGivenBy, IsRowWith, TakesRows, given, key_and_extra, seen_one, tuples_in}

pub length-tuples_in : (cols : List ℕ) (w count : ℕ) (registers : List ℕ) → length (tuples_in cols w count registers) ≡ count
length-tuples_in cols w zero registers = refl
length-tuples_in cols w (suc n) registers = ap suc (length-tuples_in cols w n (drop w registers))

pub in_tuples_in : (cols : List ℕ) (w count : ℕ) (registers : List ℕ) (t : Pairs) → In t (tuples_in cols w count registers) → cols_of t ≡ cols
in_tuples_in cols w zero registers t m = absurd m
in_tuples_in cols w (suc n) registers t (inl e) = ap cols_of e ∙ cols_of-tuple_in cols (take w registers)
in_tuples_in cols w (suc n) registers t (inr m) = in_tuples_in cols w n (drop w registers) t m

pub rising_tuples_in : (cols : List ℕ) (w count : ℕ) (registers : List ℕ) → IsRising nat_cmp cols → (t : Pairs) → In t (tuples_in cols w count registers) → IsRising pair_cmp t
rising_tuples_in cols w count registers rises t m = rising_cols t (subst (IsRising nat_cmp) (sym (in_tuples_in cols w count registers t m)) rises)

-- rows take their width each
pub length-rows : (w count : ℕ) (registers : List ℕ) → AreRows w count registers → length registers ≡ count * w
length-rows w zero registers h = ap length h ∙ sym (zero-mul w)
length-rows w (suc n) registers h =
    let rest : length (drop w registers) ≡ n * w = length-rows w n (drop w registers) h.1 in
    let left = length-drop w registers in
    let l = h.0 in
    let whole = suc-mul n w in
    omega (arith, rest, left, l, whole)

-- the tuple at a place is that of the row there
pub tuple_at : (cols : List ℕ) (w count : ℕ) (registers : List ℕ) (at : ℕ) → at < count → get_or (tuples_in cols w count registers) at [] ≡ tuple_in cols (take w (drop (at * w) registers))
tuple_at cols w zero registers at l = absurd (omega (arith, l))
tuple_at cols w (suc n) registers zero l = ap (λ k. tuple_in cols (take w (drop k registers))) (sym (zero-mul w))
tuple_at cols w (suc n) registers (suc at) l =
    tuple_at cols w n (drop w registers) at (omega (arith, l)) ∙ ap (λ xs. tuple_in cols (take w xs)) (drop-drop (at * w) w registers) ∙ ap (λ n. tuple_in cols (take w (drop n registers))) (let whole = suc-mul at w in omega (arith, whole))

-- one more row is one more tuple
pub rows-push : (w n : ℕ) (registers row : List ℕ) → length row ≡ w → AreRows w n registers → AreRows w (suc n) (registers ++ row)
rows-push w zero registers row e h =
    let is : registers ++ row ≡ row = ap (λ l. l ++ row) h in
    let wide : w ≤ length (registers ++ row) = let l : length (registers ++ row) ≡ length row = ap length is in omega (arith, l, e) in
    (wide, ap (drop w) is ∙ drop_of_length-le row (omega (arith, e)))
rows-push w (suc n) registers row e h =
    let wide : w ≤ length (registers ++ row) = let a = h.0 in let b = length-append registers row in omega (arith, a, b) in
    (wide, subst (AreRows w (suc n)) (sym (drop-append-le w registers row h.0)) (rows-push w n (drop w registers) row e h.1))

pub tuples-push : (cols : List ℕ) (w n : ℕ) (registers row : List ℕ) → length row ≡ w → AreRows w n registers
    → tuples_in cols w (suc n) (registers ++ row) ≡ tuples_in cols w n registers ++ tuple_in cols row ∷ []
tuples-push cols w zero registers row e h =
    ap (λ l. tuple_in cols (take w (l ++ row)) ∷ []) h ∙ ap (λ l. tuple_in cols l ∷ []) (take_all w row (omega (arith, e)))
tuples-push cols w (suc n) registers row e h =
    ap (λ l. tuple_in cols l ∷ tuples_in cols w (suc n) (drop w (registers ++ row))) (take-append-le w registers row h.0)
    ∙ ap (λ l. tuple_in cols (take w registers) ∷ tuples_in cols w (suc n) l) (drop-append-le w registers row h.0)
    ∙ ap (λ l. tuple_in cols (take w registers) ∷ l) (tuples-push cols w n (drop w registers) row e h.1)

-- where the first is below the second, all rise if the others do
pub rising_behind : {A : Type 0} (R : A → A → Ordering) → IsOrder R → (x y : A) (xs : List A) → R x y ≡ Less → IsRising R (y ∷ xs) → IsRising R (x ∷ y ∷ xs)
rising_behind R o x y xs first later = (below, later)
  where
    below : (z : _) → In z (y ∷ xs) → R x z ≡ Less
    below z (inl p) = subst (λ k. R x k ≡ Less) (sym p) first
    below z (inr p) = o.total.trans x y z first (later.0 z p)

-- a row lies within the registers
pub row_within : (w count : ℕ) (registers : List ℕ) (at : ℕ) → AreRows w count registers → at < count → at * w + w ≤ length registers
row_within w count registers at rows l =
    let whole = length-rows w count registers rows in
    let more = mul-le-mul_right w (let k : suc at ≤ count = omega (arith, l) in k) in
    let step = suc-mul at w in
    omega (arith, whole, more, step)

-- ---- rows laid over others

pub take_first : {A : Type 0} (k : ℕ) (xs ys : List A) → length xs ≡ k → take k (xs ++ ys) ≡ xs
take_first k xs ys e = take-append-le k xs ys (omega (arith, e)) ∙ take_all k xs (omega (arith, e))

pub drop_first : {A : Type 0} (k : ℕ) (xs ys : List A) → length xs ≡ k → drop k (xs ++ ys) ≡ ys
drop_first k xs ys e = drop-append-le k xs ys (omega (arith, e)) ∙ ap (λ l. l ++ ys) (drop_of_length-le xs (omega (arith, e)))

-- only how long the registers are says whether they are rows
pub rows_as_long : (w n : ℕ) (xs ys : List ℕ) → length ys ≡ length xs → AreRows w n xs → AreRows w n ys
rows_as_long w zero xs [] e h = refl
rows_as_long w zero xs (y ∷ ys) e h = absurd (let none : length xs ≡ 0 = ap length h in omega (arith, e, none))
rows_as_long w (suc n) xs ys e h =
    let a = length-drop w xs in
    let b = length-drop w ys in
    let l = h.0 in
    (omega (arith, l, e), rows_as_long w n (drop w xs) (drop w ys) (omega (arith, a, b, e)) h.1)

-- of a row and what is behind it
module _ (w k j : ℕ) (xs : List ℕ) (is : k ≡ w + j) (within : k ≤ length xs) where
  front_long : w ≤ length (take k xs)
  front_long = let e = length-take-le k xs within in omega (arith, e, is)

  take_of_take : take w (take k xs) ≡ take w xs
  take_of_take = take-take w k xs (omega (arith, is))

  drop_of_take : drop w (take k xs) ≡ take j (drop w xs)
  drop_of_take = ap (λ n. drop w (take n xs)) is ∙ drop-take w j xs

-- a row that is laid over another is the tuple in its place
pub row_set : (cols : List ℕ) (w n : ℕ) (xs row : List ℕ) (to k : ℕ) → length row ≡ w → AreRows w n xs → to < n → k ≡ to * w
    → tuples_in cols w n (take k xs ++ (row ++ drop (k + w) xs)) ≡ set (tuples_in cols w n xs) to (tuple_in cols row)
row_set cols w zero xs row to k e rows l is = absurd (omega (arith, l))
row_set cols w (suc n) xs row zero k e rows l is =
    let none : k ≡ 0 = is ∙ zero-mul w in
    let plain : 0 + w ≡ w = omega arith in
    ap (λ j. tuples_in cols w (suc n) (take j xs ++ (row ++ drop (j + w) xs))) none
    ∙ ap (λ j. tuples_in cols w (suc n) (row ++ drop j xs)) plain
    ∙ (λ i. tuple_in cols (take_first w row (drop w xs) e i) ∷ tuples_in cols w n (drop_first w row (drop w xs) e i))
row_set cols w (suc n) xs row (suc to) k e rows l is =
    let j : ℕ = to * w in
    let whole : k ≡ w + j = let step = suc-mul to w in omega (arith, is, step) in
    let within : k ≤ length xs = let inside = row_within w (suc n) xs (suc to) rows l in omega (arith, is, inside) in
    let long = front_long w k j xs whole within in
    let behind : List ℕ = row ++ drop (k + w) xs in
    let rest : drop (k + w) xs ≡ drop (j + w) (drop w xs) = sym (drop-drop (j + w) w xs ∙ ap (λ m. drop m xs) (omega (arith, whole))) in
    let first : take w (take k xs ++ behind) ≡ take w xs = take-append-le w (take k xs) behind long ∙ take_of_take w k j xs whole within in
    let others : drop w (take k xs ++ behind) ≡ take j (drop w xs) ++ (row ++ drop (j + w) (drop w xs)) =
    drop-append-le w (take k xs) behind long ∙ (λ i. drop_of_take w k j xs whole within i ++ (row ++ rest i)) in
    (λ i. tuple_in cols (first i) ∷ tuples_in cols w n (others i))
    ∙ ap (λ ts. tuple_in cols (take w xs) ∷ ts) (row_set cols w n (drop w xs) row to j e rows.1 (omega (arith, l)) refl)

-- the first rows, and nothing behind them
pub first_rows : (w n count : ℕ) (xs : List ℕ) (k : ℕ) → AreRows w n xs → count ≤ n → k ≡ count * w → AreRows w count (take k xs)
first_rows w n zero xs k rows l is = ap (λ j. take j xs) (is ∙ zero-mul w)
first_rows w zero (suc count) xs k rows l is = absurd (omega (arith, l))
first_rows w (suc n) (suc count) xs k rows l is =
    let j : ℕ = count * w in
    let whole : k ≡ w + j = let step = suc-mul count w in omega (arith, is, step) in
    let within : k ≤ length xs = let inside = row_within w (suc n) xs count rows (omega (arith, l)) in omega (arith, whole, inside) in
    (front_long w k j xs whole within, subst (AreRows w count) (sym (drop_of_take w k j xs whole within)) (first_rows w n count (drop w xs) j rows.1 (omega (arith, l)) refl))

pub first_tuples : (cols : List ℕ) (w n count : ℕ) (xs : List ℕ) (k : ℕ) → AreRows w n xs → count ≤ n → k ≡ count * w → tuples_in cols w count (take k xs) ≡ take count (tuples_in cols w n xs)
first_tuples cols w n zero xs k rows l is = refl
first_tuples cols w zero (suc count) xs k rows l is = absurd (omega (arith, l))
first_tuples cols w (suc n) (suc count) xs k rows l is =
    let j : ℕ = count * w in
    let whole : k ≡ w + j = let step = suc-mul count w in omega (arith, is, step) in
    let within : k ≤ length xs = let inside = row_within w (suc n) xs count rows (omega (arith, l)) in omega (arith, whole, inside) in
    (λ i. tuple_in cols (take_of_take w k j xs whole within i) ∷ tuples_in cols w count (drop_of_take w k j xs whole within i))
    ∙ ap (λ ts. tuple_in cols (take w xs) ∷ ts) (first_tuples cols w n count (drop w xs) j rows.1 (omega (arith, l)) refl)

-- ---- one more row

module _ (cols : List ℕ) (w n : ℕ) (old row new : List ℕ) (bindings : AreBindings cols w n old) (width : length row ≡ w) (is : new ≡ old ++ row) where
  more : suc n ≡ n + 1
  more = omega arith

  pub AreBindings-push : AreBindings cols w (n + 1) new
  AreBindings-push = record {
    columns = bindings.columns;
    some = bindings.some;
    few = bindings.few;
    rows = subst (AreRows w (n + 1)) (sym is) (subst (λ k. AreRows w k (old ++ row)) more (rows-push w n old row width bindings.rows));
  }

  pub tuples_in-push : tuples_in cols w (n + 1) new ≡ tuples_in cols w n old ++ tuple_in cols row ∷ []
  tuples_in-push =
      ap (tuples_in cols w (n + 1)) is ∙ ap (λ k. tuples_in cols w k (old ++ row)) (sym more) ∙ tuples-push cols w n old row width bindings.rows

-- what is written behind others
pub written_behind : (ps : Pairs) (old row : List ℕ) (start : ℕ) → start ≡ length old → take start (old ++ row) ++ all_written ps (drop start (old ++ row)) ≡ old ++ all_written ps row
written_behind ps old row start e =
    ap (λ k. take k (old ++ row) ++ all_written ps (drop k (old ++ row))) e
    ∙ ap (λ l. l ++ all_written ps (drop (length old) (old ++ row))) (take-append-le (length old) old row (omega arith) ∙ take_all (length old) old (omega arith))
    ∙ ap (λ l. old ++ all_written ps l) (drop-append-le (length old) old row (omega arith) ∙ ap (λ l. l ++ row) (drop_of_length-le old (omega arith)))

-- there are no more rows than registers
pub count_within : (w n : ℕ) (registers : List ℕ) → 0 < w → AreRows w n registers → n ≤ length registers
count_within w n registers some rows =
    let whole = length-rows w n registers rows in
    let more = le-mul_of_pos_right n some in
    omega (arith, whole, more)

-- ---- a row by its values

-- the pairs give no column two values
pub given_one : (key key_values extra extra_values : List ℕ) → IsRising nat_cmp key → IsRising nat_cmp extra → length key_values ≡ length key → length extra_values ≡ length extra
    → ((c : ℕ) → In c key → In c extra → ⊥) → GivesOne (given key key_values extra extra_values)
given_one key kv extra xv kr xr kl xl apart p q m n e =
    elim (in_append p (zip key kv) (zip extra xv) m) [
      | inl a ↦ elim (in_append q (zip key kv) (zip extra xv) n) [
        | inl b ↦ one_pair (zip key kv) (subst (IsRising nat_cmp) (sym (cols_of-zip key kv kl)) kr) p q a b e
        | inr b ↦ absurd (apart p.0 (column key kv kl p a) (subst (λ c. In c extra) (sym e) (column extra xv xl q b)))
      ]
      | inr a ↦ elim (in_append q (zip key kv) (zip extra xv) n) [
        | inl b ↦ absurd (apart p.0 (subst (λ c. In c key) (sym e) (column key kv kl q b)) (column extra xv xl p a))
        | inr b ↦ one_pair (zip extra xv) (subst (IsRising nat_cmp) (sym (cols_of-zip extra xv xl)) xr) p q a b e
      ]
    ]
  where
    column : (cols values : List ℕ) → length values ≡ length cols → (r : ℕ × ℕ) → In r (zip cols values) → In r.0 cols
    column cols values l r k = subst (In r.0) (cols_of-zip cols values l) (map_in (λ (z : ℕ × ℕ). z.0) r (zip cols values) k)

pub cols_of-given : (key key_values extra extra_values : List ℕ) → length key_values ≡ length key → length extra_values ≡ length extra
    → cols_of (given key key_values extra extra_values) ≡ key ++ extra
cols_of-given key kv extra xv kl xl = map-append (λ (z : ℕ × ℕ). z.0) (zip key kv) (zip extra xv) ∙ (λ i. cols_of-zip key kv kl i ++ cols_of-zip extra xv xl i)

-- what a call that is given a row by its values does to the list
module _ (cols values : List ℕ) (rises : IsRising nat_cmp cols) (ps u : Pairs) (row : IsRowWith (tuple_in cols values) ps u) where
  pub no_merge : fits_all cols values ps ≡ false → merges_of (tuple_in cols values) (u ∷ []) ≡ []
  no_merge h = ap (λ b. map (merge (tuple_in cols values)) (cond b (u ∷ []) [])) (sym (fits_all-agree cols values rises ps u row.has row.only) ∙ h)

  pub one_merge : fits_all cols values ps ≡ true → GivesOne ps → ((p : ℕ × ℕ) → In p ps → p.0 < length values) → (xs : List ℕ) → IsRising nat_cmp xs
      → ((c : ℕ) → In c xs → In c cols ⊎ In c (cols_of ps)) → Within cols xs → Within (cols_of ps) xs
      → merges_of (tuple_in cols values) (u ∷ []) ≡ tuple_in xs (all_written ps values) ∷ []
  one_merge h one below xs xs_rise parts old_within new_within =
      let agreeing : agrees (tuple_in cols values) u ≡ true = sym (fits_all-agree cols values rises ps u row.has row.only) ∙ h in
      ap (λ b. map (merge (tuple_in cols values)) (cond b (u ∷ []) [])) agreeing
      ∙ ap (λ t. t ∷ []) (sym (merge-given cols values rises ps u row.has row.only one below xs xs_rise parts old_within new_within agreeing))

-- the row of registers that is added is the merge with the row that is given
module _ (own held : List ℕ) (list : BindingList) (key kv extra xv : List ℕ) (row : Pairs) where
  pub merged_row : IsSetBelow (length held) own → IsSetBelow list.width list.columns → TakesRows (seen_one own held) key extra list → IsRising nat_cmp key → IsRising nat_cmp extra
      → length kv ≡ length key → length xv ≡ length extra → fits_all own held (given key kv extra xv) ≡ true → IsRowWith (tuple_in own held) (given key kv extra xv) row
      → merges_of (tuple_in own held) (row ∷ []) ≡ tuple_in list.columns (all_written (given key kv extra xv) held) ∷ []
  merged_row own_set set takes kr xr kl xl fit is =
      let ps : Pairs = given key kv extra xv in
      let columns : cols_of ps ≡ key ++ extra = cols_of-given key kv extra xv kl xl in
      let within : (k : ℕ) → In k (cols_of ps) → In k list.columns = λ k m.
      elim (in_append k key extra (subst (In k) columns m)) [ inl h ↦ takes.key_within k h | inr h ↦ takes.extra_within k h ] in
      one_merge own held own_set.set.rising ps row is fit (given_one key kv extra xv kr xr kl xl takes.apart)
      (λ p m. subst (λ w. p.0 < w) (sym takes.width) (set.below p.0 (within p.0 (map_in (λ (q : ℕ × ℕ). q.0) p ps m))))
      list.columns set.set.rising (λ k m. elim (takes.parts k m) [ inl h ↦ inl h | inr h ↦ inr (subst (In k) (sym columns) h) ]) takes.old_within within

-- ---- rows one behind the other

-- the first of some rows, and those behind it
pub record HasFirst (cols : List ℕ) (w n : ℕ) (registers row rest : List ℕ) : Type 0 where
  pub left : ℕ
  pub rows : AreRows w left rest
  pub tuples : tuples_in cols w n registers ≡ tuple_in cols row ∷ tuples_in cols w left rest

pub first_row : (cols : List ℕ) (w n : ℕ) (registers row rest : List ℕ) → 0 < w → AreRows w n registers → registers ≡ row ++ rest → length row ≡ w → HasFirst cols w n registers row rest
first_row cols w zero registers row rest some rows is e = absurd (
    let none : length registers ≡ 0 = ap length rows in
    let both = ap length is ∙ length-append row rest in
    omega (arith, some, none, both, e))
first_row cols w (suc n) registers row rest some rows is e =
    let first : take w registers ≡ row = ap (take w) is ∙ take_first w row rest e in
    let behind : drop w registers ≡ rest = ap (drop w) is ∙ drop_first w row rest e in
    record { left = n; rows = subst (AreRows w n) behind rows.1; tuples = λ i. tuple_in cols (first i) ∷ tuples_in cols w n (behind i) }

-- the merges of one row more
pub merges_more : (b row : Pairs) (rows : List Pairs) → merges_of b (row ∷ rows) ≡ merges_of b (row ∷ []) ++ merges_of b rows
merges_more b row rows =
    ap (map (merge b)) (filter-append (agrees b) (row ∷ []) rows) ∙ map-append (merge b) (filter (agrees b) (row ∷ [])) (filter (agrees b) rows)

-- the values of these rows are still to come, and the merges of the others are there
pub record HasPushed (b : Pairs) (key extra rest : List ℕ) (old new : BindingList) (rows : List Pairs) : Type 0 where
  pub left : List Pairs
  pub given_by : (row : Pairs) → In row left → IsGivenBy b key extra row
  pub values : rest ≡ flat_map (key_and_extra key extra) left
  pub merged : new.tuples ++ merges_of b left ≡ old.tuples ++ merges_of b rows

module _ (b : Pairs) (key extra : List ℕ) (keys extras : ℕ) (k : keys ≡ length key) (x : extras ≡ length extra) (old new : BindingList) (rows : List Pairs) where
  -- the row whose values come next
  pub record IsNext (values rest : List ℕ) : Type 0 where
    pub row : Pairs
    pub with : IsRowWith b (given key (take keys values) extra (drop keys values)) row
    pub pushed : (after : BindingList) → after.tuples ≡ new.tuples ++ merges_of b (row ∷ []) → HasPushed b key extra rest old after rows

  wide : (t : Pairs) → IsGivenBy b key extra t → length (key_and_extra key extra t) ≡ keys + extras
  wide t is =
      let both = length-append (values_of (project key t)) (values_of (project extra t)) in
      let a = is.keys in
      let e = is.extras in
      omega (arith, both, a, e, k, x)

  pub next_row : (values rest : List ℕ) → length values ≡ keys + extras → 0 < keys + extras → HasPushed b key extra (values ++ rest) old new rows → IsNext values rest
  next_row values rest long some before = go before.left before.given_by before.values before.merged
    where
      go : (left : List Pairs) → ((row : Pairs) → In row left → IsGivenBy b key extra row) → values ++ rest ≡ flat_map (key_and_extra key extra) left
          → new.tuples ++ merges_of b left ≡ old.tuples ++ merges_of b rows → IsNext values rest
      go [] given_by are merged = absurd (
          let none : length (values ++ rest) ≡ 0 = ap length are in
          let both = length-append values rest in
          omega (arith, none, both, long, some))
      go (t ∷ left) given_by are merged =
          let is : IsGivenBy b key extra t = given_by t (inl refl) in
          let kv : List ℕ = values_of (project key t) in
          let xv : List ℕ = values_of (project extra t) in
          let after : List ℕ = flat_map (key_and_extra key extra) left in
          let both : values ++ rest ≡ (kv ++ xv) ++ after = are in
          let own : values ≡ kv ++ xv = sym (take_first (keys + extras) values rest long) ∙ ap (take (keys + extras)) both ∙ take_first (keys + extras) (kv ++ xv) after (wide t is) in
          let kl : length kv ≡ keys = is.keys ∙ sym k in
          let key_part : take keys values ≡ kv = ap (take keys) own ∙ take_first keys kv xv kl in
          let extra_part : drop keys values ≡ xv = ap (drop keys) own ∙ drop_first keys kv xv kl in
          record {
            row = t;
            with = subst (λ v. IsRowWith b (given key v extra (drop keys values)) t) (sym key_part) (subst (λ v. IsRowWith b (given key kv extra v) t) (sym extra_part) is.with);
            pushed = λ n e. record {
              left = left;
              given_by = λ r m. given_by r (inr m);
              values = sym (drop_first (keys + extras) values rest long) ∙ ap (drop (keys + extras)) both ∙ drop_first (keys + extras) (kv ++ xv) after (wide t is);
              merged = ap (λ l. l ++ merges_of b left) e ∙ append_assoc new.tuples (merges_of b (t ∷ [])) (merges_of b left) ∙ ap (λ l. new.tuples ++ l) (sym (merges_more b t left)) ∙ merged;
            };
          }

  -- where fewer values are left than a row has, all are merged
  pub all_pushed : (rest : List ℕ) → length rest < keys + extras → HasPushed b key extra rest old new rows → new.tuples ≡ old.tuples ++ merges_of b rows
  all_pushed rest short before = go before.left before.given_by before.values before.merged
    where
      go : (left : List Pairs) → ((row : Pairs) → In row left → IsGivenBy b key extra row) → rest ≡ flat_map (key_and_extra key extra) left
          → new.tuples ++ merges_of b left ≡ old.tuples ++ merges_of b rows → new.tuples ≡ old.tuples ++ merges_of b rows
      go [] given_by are merged = sym (append-nil new.tuples) ∙ merged
      go (t ∷ left) given_by are merged = absurd (
          let both = ap length are ∙ length-append (key_and_extra key extra t) (flat_map (key_and_extra key extra) left) in
          let one = wide t (given_by t (inl refl)) in
          omega (arith, short, both, one))
