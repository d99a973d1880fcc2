-- Laws of walks over several blocks, one behind the other: their rows, listed, counted and in one block.
use Rattle.std.specs.Prelude.{◌≡◌, ℕ, zero, suc, ◌+◌, ◌*◌, ◌^◌, ◌<◌, ◌≤◌, Bool, true, false, ◌↔◌, List, [], ◌∷◌, ◌++◌, length, take, drop, slice_index_or}
use Rattle.rc_maps.specs.Imports.{IsTrue, MatchBool, AllWithin, HoldsAt, flat_map, sum_by, option_map, entries_sorted, len-entries, Values, Counted, Rows, current, listed, parts, present, IsKeyed, Items, count_in, rows_in, values_in, count_within, entries-whole, len-rows, listed-rows, entries-keep}
use Rattle.std.specs.FinMap as fin
use Rattle.std.proofs.Common.{refl, sym, ap, subst, ◌∙◌, arith}
use Rattle.std.proofs.lemmas.Bool.{false≢true}
use Rattle.std.proofs.lemmas.List.{append_assoc, append-nil, length-append, take_all, take_more}
use Rattle.std.proofs.lemmas.List.Concat.{flat_map-append}
use Rattle.std.proofs.lemmas.List.Elements.{All-from_recursion, All-weaker, filter_map-append}
use Rattle.std.proofs.lemmas.List.Sums.{sum_by-cons, sum_by-le}
use Rattle.rc_maps.specs.Blocks.{AreBlocks, items_in}
use Rattle.rc_maps.specs.BlockLaws.{keyed_front}
use Rattle.rc_maps.specs.BlocksLaws.{AreOf, behind_first, behind_is, entries_empty, rows_entries}
use Rattle.rc_maps.specs.PushLaws.{values_in-append}

-- ---- blocks alone, and one behind the other

pub one_block : (b : Rows) → fin.len b ≤ 128 → AreOf (b ∷ []) b
one_block b l =
    let items : items_in (b ∷ []) ≡ fin.entries b = append-nil (fin.entries b) in
    record {
      are = record {
        keyed = subst IsKeyed (sym items) (entries_sorted b);
        some = omega arith;
        few = omega arith;
        small = (l, tt);
        filled = tt;
      };
      of = ap rows_in items ∙ rows_entries b;
    }

-- the items of the first blocks, with one block more
pub items_next : (blocks : List Rows) (n : ℕ) (b : Rows) → n < length blocks → b ≡ slice_index_or blocks n b
    → items_in (take (n + 1) blocks) ≡ items_in (take n blocks) ++ fin.entries b
items_next blocks n b l is =
    ap items_in (take_more blocks n b l) ∙ flat_map-append fin.entries (take n blocks) (slice_index_or blocks n b ∷ [])
    ∙ ap (λ z. items_in (take n blocks) ++ z) (append-nil (fin.entries (slice_index_or blocks n b)) ∙ ap fin.entries (sym is))

listed_is : (b : Rows) → listed b ≡ values_in (fin.entries b)
listed_is b = ap (flat_map (λ (e : Values × Counted). e.0 ++ e.1.0)) (entries-keep present b)

pub pushed_next : (old now new : Values) (blocks : List Rows) (n : ℕ) (b : Rows) → now ≡ old ++ values_in (items_in (take n blocks))
    → new ≡ now ++ listed b → n < length blocks → b ≡ slice_index_or blocks n b
    → new ≡ old ++ values_in (items_in (take (n + 1) blocks))
pushed_next old now new blocks n b so_far next l is =
    let before : Items = items_in (take n blocks) in
    next ∙ (λ i. so_far i ++ listed_is b i) ∙ append_assoc old (values_in before) (values_in (fin.entries b))
    ∙ ap (λ z. old ++ z) (sym (ap values_in (items_next blocks n b l is) ∙ values_in-append before (fin.entries b)))

pub len_counts : (b : Rows) → fin.len (current b) ≡ count_in (fin.entries b)
len_counts b = len-entries (current b) ∙ ap length (entries-keep present b)

count_in-append : (items more : Items) → count_in (items ++ more) ≡ count_in items + count_in more
count_in-append items more =
    ap length (filter_map-append (λ (e : Values × Counted). option_map (λ (y : Counted). (e.0, y)) (present e.1)) items more)
    ∙ length-append (parts present items) (parts present more)

-- how many rows each block has
abbrev pub row_count : Rows → ℕ
row_count b = fin.len (current b)

pub len_sum : (blocks : List Rows) → count_in (items_in blocks) ≡ sum_by row_count blocks
len_sum [] = refl
len_sum (b ∷ blocks) = count_in-append (fin.entries b) (items_in blocks) ∙ (λ i. sym (len_counts b) i + len_sum blocks i) ∙ sym (sum_by-cons row_count b blocks)

-- there are no more rows in a block than are kept
rows_within : (b : Rows) → fin.len b ≤ 128 → row_count b ≤ 128
rows_within b most =
    let rows : fin.len (current b) ≡ count_in (fin.entries b) = len_counts b in
    let kept : fin.len b ≡ length (fin.entries b) = len-entries b in
    let less_than : count_in (fin.entries b) ≤ length (fin.entries b) = count_within (fin.entries b) in
    omega (arith, most, rows, kept, less_than)

pub rows_fit : (blocks : List Rows) → AreBlocks blocks → sum_by row_count blocks < 2 ^ 64
rows_fit blocks are =
    let most : sum_by row_count blocks ≤ length blocks * 128 =
    sum_by-le row_count 128 blocks (All-weaker (λ b. fin.len b ≤ 128) (λ b. row_count b ≤ 128) rows_within blocks (All-from_recursion (λ b. fin.len b ≤ 128) blocks are.small)) in
    let few : length blocks ≤ 2 ^ 56 = are.few in
    omega (arith, most, few)

-- ---- nothing kept

gone_items : (items : Items) → IsKeyed items → rows_in items ≡ fin.empty → length items ≡ 0
gone_items items k e = ap length (sym (entries-whole items k) ∙ ap fin.entries e ∙ entries_empty)

-- one block alone has what it has
pub gone_alone : (blocks : List Rows) (m b : Rows) → rows_in (items_in blocks) ≡ m → length blocks ≡ 1 → b ≡ slice_index_or blocks 0 b → b ≡ m
gone_alone [] m b of l is = absurd (omega (arith, l))
gone_alone (x ∷ []) m b of l is = is ∙ sym (rows_entries x) ∙ ap rows_in (sym (append-nil (fin.entries x))) ∙ of
gone_alone (x ∷ y ∷ blocks) m b of l is = absurd (omega (arith, l))

-- several blocks have something
pub gone_none : (blocks : List Rows) (m : Rows) → AreBlocks blocks → rows_in (items_in blocks) ≡ m → (length blocks ≡ 1 → ⊥) → m ≡ fin.empty → ⊥
gone_none [] m are of l e = let i = are.some in omega (arith, i)
gone_none (x ∷ []) m are of l e = l refl
gone_none (x ∷ y ∷ blocks) m are of l e =
    let none : length (fin.entries x ++ (fin.entries y ++ items_in blocks)) ≡ 0 =
    gone_items (items_in (x ∷ y ∷ blocks)) are.keyed (of ∙ e) in
    let long : length (fin.entries x ++ (fin.entries y ++ items_in blocks)) ≡ length (fin.entries x) + length (fin.entries y ++ items_in blocks) =
    length-append (fin.entries x) (fin.entries y ++ items_in blocks) in
    let more : length (fin.entries y ++ items_in blocks) ≡ length (fin.entries y) + length (items_in blocks) =
    length-append (fin.entries y) (items_in blocks) in
    let some : 0 < length (fin.entries y) = subst (λ n. 0 < n) (len-entries y) are.filled.0 in
    omega (arith, none, long, more, some)

-- all rows were added
pub pushed_all : (old now : Values) (blocks : List Rows) (n : ℕ) → now ≡ old ++ values_in (items_in (take n blocks)) → length blocks ≤ n
    → IsKeyed (items_in blocks)
    → now ≡ old ++ listed (rows_in (items_in blocks))
pushed_all old now blocks n e l k =
    e ∙ ap (λ z. old ++ values_in (items_in z)) (take_all n blocks l) ∙ ap (λ z. old ++ z) (sym (listed-rows (items_in blocks) k))

-- ---- whether a row is there

abbrev pub HasRow : Rows → Type 0
HasRow b = 0 < fin.len (current b)

some_row : (blocks : List Rows) (n : ℕ) → n < length blocks → HoldsAt HasRow blocks n → 0 < count_in (items_in blocks)
some_row [] n l some = absurd (omega (arith, l))
some_row (x ∷ blocks) zero l some =
    let more : count_in (items_in (x ∷ blocks)) ≡ count_in (fin.entries x) + count_in (items_in blocks) =
    count_in-append (fin.entries x) (items_in blocks) in
    let here : 0 < fin.len (current x) = some x in
    let rows : fin.len (current x) ≡ count_in (fin.entries x) = len_counts x in
    omega (arith, more, here, rows)
some_row (x ∷ blocks) (suc n) l some =
    let more : count_in (items_in (x ∷ blocks)) ≡ count_in (fin.entries x) + count_in (items_in blocks) =
    count_in-append (fin.entries x) (items_in blocks) in
    let later : 0 < count_in (items_in blocks) = some_row blocks n (omega (arith, l)) some in
    omega (arith, more, later)

no_row : (blocks : List Rows) → AllWithin (λ b. HasRow b → ⊥) blocks 0 (length blocks) → count_in (items_in blocks) ≡ 0
no_row [] none = refl
no_row (x ∷ blocks) none =
    let more : count_in (items_in (x ∷ blocks)) ≡ count_in (fin.entries x) + count_in (items_in blocks) =
    count_in-append (fin.entries x) (items_in blocks) in
    let here : 0 < fin.len (current x) → ⊥ = none 0 x (omega arith) (omega arith) in
    let rows : fin.len (current x) ≡ count_in (fin.entries x) = len_counts x in
    let later : count_in (items_in blocks) ≡ 0 = no_row blocks (λ k d low high. none (suc k) d (omega arith) (omega (arith, high))) in
    omega (arith, more, here, rows, later)

module _ (blocks : List Rows) (m : Rows) (of : rows_in (items_in blocks) ≡ m) (k : IsKeyed (items_in blocks)) where
  pub len_all : fin.len (current m) ≡ count_in (items_in blocks)
  len_all = ap (λ (z : Rows). fin.len (current z)) (sym of) ∙ len-rows (items_in blocks) k

  -- what a test of the blocks answers, one after the other
  pub has_any : (r : Bool) → MatchBool r ((n : ℕ) × (n < length blocks) × HoldsAt HasRow blocks n) (AllWithin (λ b. HasRow b → ⊥) blocks 0 (length blocks))
      → IsTrue r ↔ (0 < fin.len (current m))
  has_any true some = (λ t. subst (λ z. 0 < z) (sym len_all) (some_row blocks some.0 some.1 some.2), λ l. refl)
  has_any false none = (
    λ t. absurd (false≢true t),
    λ l. let zero : fin.len (current m) ≡ 0 = len_all ∙ no_row blocks none in absurd (omega (arith, zero, l)),
  )

-- ---- all blocks in one

pub first_items : (blocks : List Rows) (b : Rows) → 0 < length blocks → b ≡ slice_index_or blocks 0 b
    → fin.entries b ≡ items_in (take 1 blocks)
first_items [] b l is = absurd (omega (arith, l))
first_items (x ∷ blocks) b l is = ap fin.entries is ∙ sym (append-nil (fin.entries x))

items_split : (blocks : List Rows) (n : ℕ) → items_in blocks ≡ items_in (take n blocks) ++ items_in (drop n blocks)
items_split [] zero = refl
items_split [] (suc n) = refl
items_split (x ∷ blocks) zero = refl
items_split (x ∷ blocks) (suc n) =
    ap (λ z. fin.entries x ++ z) (items_split blocks n)
    ∙ sym (append_assoc (fin.entries x) (items_in (take n blocks)) (items_in (drop n blocks)))

-- the items of the first blocks, with one block more of those behind the first
pub record IsNext (blocks : List Rows) (n : ℕ) (b : Rows) : Type 0 where
  pub items : items_in (take ((n + 1) + 1) blocks) ≡ items_in (take (n + 1) blocks) ++ fin.entries b
  pub keyed : IsKeyed (items_in (take (n + 1) blocks) ++ fin.entries b)

pub next_block : (blocks : List Rows) (n : ℕ) (b : Rows) → IsKeyed (items_in blocks) → n < length (behind_first blocks)
    → b ≡ slice_index_or (behind_first blocks) n b
    → IsNext blocks n b
next_block [] n b k l is = absurd (omega (arith, l))
next_block (x ∷ blocks) n b k l is =
    let within : n < length blocks = subst (λ z. n < length z) (behind_is x blocks) l in
    let at : b ≡ slice_index_or blocks n b = is ∙ ap (λ z. slice_index_or z n b) (behind_is x blocks) in
    let s : n + 1 ≡ suc n = omega arith in
    let t : (n + 1) + 1 ≡ suc (n + 1) = omega arith in
    let next : items_in (take ((n + 1) + 1) (x ∷ blocks)) ≡ items_in (take (n + 1) (x ∷ blocks)) ++ fin.entries b =
    ap (λ z. items_in (take z (x ∷ blocks))) t ∙ ap (λ z. fin.entries x ++ z) (items_next blocks n b within at)
    ∙ sym (append_assoc (fin.entries x) (items_in (take n blocks)) (fin.entries b))
    ∙ ap (λ z. items_in (take z (x ∷ blocks)) ++ fin.entries b) (sym s) in
    record {
      items = next;
      keyed =
          subst IsKeyed next
          (keyed_front (items_in (take ((n + 1) + 1) (x ∷ blocks))) (items_in (drop ((n + 1) + 1) (x ∷ blocks)))
          (subst IsKeyed (items_split (x ∷ blocks) ((n + 1) + 1)) k));
    }

pub joined_all : (blocks : List Rows) (n : ℕ) (j : Rows) → length (behind_first blocks) ≤ n → fin.entries j ≡ items_in (take (n + 1) blocks)
    → j ≡ rows_in (items_in blocks)
joined_all blocks n j l e =
    sym (rows_entries j) ∙ ap rows_in (e ∙ ap items_in (take_all (n + 1) blocks (long blocks l)))
  where
    long : (blocks : List Rows) → length (behind_first blocks) ≤ n → length blocks ≤ n + 1
    long [] l = omega arith
    long (x ∷ blocks) l = let h : length blocks ≤ n = subst (λ z. length z ≤ n) (behind_is x blocks) l in omega (arith, h)
