-- Laws of pruned walks.
use Rattle.std.specs.Prelude.{◌≡◌, ℕ, zero, suc, ◌+◌, ◌≤◌, List, [], ◌∷◌, ◌++◌, ◌⊎◌, length}
use Rattle.std.proofs.Common.{inl, inr, refl, sym, ap, subst, ◌∙◌, arith}
use Rattle.std.proofs.lemmas.Bool.{cases_eq}
use Rattle.std.proofs.lemmas.List.{append-nil}
use Rattle.rc_route.specs.Imports.{Within, Spec, IsAdequate, all_columns, IsInRange}
use Rattle.rc_route.specs.GoodRoutes.{IsGoodRoute, all_edges}
use Rattle.rc_route.specs.GoodRoutesLaws.{all_edges_good, good_decided}
use Rattle.rc_route.specs.ImpliedLaws.{IsDecided}
use Rattle.rc_route.specs.PrunedWalk.{onto, IsLeftFrom, IsPass, ArePasses, IsPrunedWalk}

-- ---- lists turned round

pub onto_onto : (xs ys zs : List ℕ) → onto (onto xs ys) zs ≡ onto ys (xs ++ zs)
onto_onto [] ys zs = refl
onto_onto (x ∷ xs) ys zs = onto_onto xs (x ∷ ys) zs

onto_append : (xs ys zs : List ℕ) → onto (xs ++ ys) zs ≡ onto ys (onto xs zs)
onto_append [] ys zs = refl
onto_append (x ∷ xs) ys zs = onto_append xs ys (x ∷ zs)

pub twice_round : (es : List ℕ) → onto (onto es []) [] ≡ es
twice_round es = onto_onto es [] [] ∙ append-nil es

pub length-onto : (xs ys : List ℕ) → length (onto xs ys) ≡ length xs + length ys
length-onto [] ys = omega arith
length-onto (x ∷ xs) ys = let h : length (onto xs (x ∷ ys)) ≡ length xs + suc (length ys) = length-onto xs (x ∷ ys) in omega arith

module _ (Good : List ℕ → Type 0) where
  -- ---- one pass

  left_good : (before kept left : List ℕ) → Good (onto before kept) → IsLeftFrom Good before kept left → Good left
  left_good [] kept left g h = subst Good (sym h) g
  left_good (e ∷ before) kept left g (inl q) = left_good before kept left q.0 q.1
  left_good (e ∷ before) kept left g (inr q) = left_good before (e ∷ kept) left g q.1

  -- a pass keeps a good list good
  pub pass_good : (es left : List ℕ) → Good es → IsPass Good es left → Good left
  pass_good es left g h = left_good (onto es []) [] left (subst Good (sym (twice_round es)) g) h

  left_length : (before kept left : List ℕ) → IsLeftFrom Good before kept left → length left ≤ length before + length kept
  left_length [] kept left h = let q : length left ≡ length kept = ap length h in omega arith
  left_length (e ∷ before) kept left (inl q) = let l : length left ≤ length before + length kept = left_length before kept left q.1 in omega arith
  left_length (e ∷ before) kept left (inr q) = let l : length left ≤ length before + suc (length kept) = left_length before (e ∷ kept) left q.1 in omega arith

  -- and makes none longer
  pub pass_length : (es left : List ℕ) → IsPass Good es left → length left ≤ length es
  pass_length es left h =
      let l : length left ≤ length (onto es []) + 0 = left_length (onto es []) [] left h in
      let k : length (onto es []) ≡ length es + 0 = length-onto es [] in omega arith

  left_whole : (before kept left : List ℕ) → IsLeftFrom Good before kept left → length left ≡ length before + length kept → left ≡ onto before kept
  left_whole [] kept left h l = h
  left_whole (e ∷ before) kept left (inl q) l = absurd (let k : length left ≤ length before + length kept = left_length before kept left q.1 in omega arith)
  left_whole (e ∷ before) kept left (inr q) l = left_whole before (e ∷ kept) left q.1 (omega arith)

  -- what is as long as before is as before
  pub pass_whole : (es left : List ℕ) → IsPass Good es left → length left ≡ length es → left ≡ es
  pass_whole es left h l =
      let k : length (onto es []) ≡ length es + 0 = length-onto es [] in
      left_whole (onto es []) [] left h (omega arith) ∙ twice_round es

  left_one : (before kept a b : List ℕ) → IsLeftFrom Good before kept a → IsLeftFrom Good before kept b → a ≡ b
  left_one [] kept a b h k = h ∙ sym k
  left_one (e ∷ before) kept a b (inl q) (inl r) = left_one before kept a b q.1 r.1
  left_one (e ∷ before) kept a b (inl q) (inr r) = absurd (r.0 q.0)
  left_one (e ∷ before) kept a b (inr q) (inl r) = absurd (q.0 r.0)
  left_one (e ∷ before) kept a b (inr q) (inr r) = left_one before (e ∷ kept) a b q.1 r.1

  -- a pass leaves one list
  pub one_pass : (es a b : List ℕ) → IsPass Good es a → IsPass Good es b → a ≡ b
  one_pass es a b h k = left_one (onto es []) [] a b h k

  left_exists : ((es : List ℕ) → IsDecided (Good es)) → (before kept : List ℕ) → (left : List ℕ) × IsLeftFrom Good before kept left
  left_exists decide [] kept = (kept, refl)
  left_exists decide (e ∷ before) kept = go (decide (onto before kept)) (left_exists decide before kept) (left_exists decide before (e ∷ kept))
    where
      go : IsDecided (Good (onto before kept)) → (left : List ℕ) × IsLeftFrom Good before kept left → (left : List ℕ) × IsLeftFrom Good before (e ∷ kept) left
          → (left : List ℕ) × ((Good (onto before kept) × IsLeftFrom Good before kept left) ⊎ ((Good (onto before kept) → ⊥) × IsLeftFrom Good before (e ∷ kept) left))
      go (inl g) out stays = (out.0, inl (g, out.1))
      go (inr f) out stays = (stays.0, inr (f, stays.1))

  -- ---- what stays cannot be left out

  StayFrom : List ℕ → List ℕ → Type 0
  StayFrom [] kept = Unit {0}
  StayFrom (e ∷ before) kept = (Good (onto before kept) → ⊥) × StayFrom before (e ∷ kept)

  all_stay : (before kept left : List ℕ) → IsLeftFrom Good before kept left → length left ≡ length before + length kept → StayFrom before kept
  unfolding StayFrom
  all_stay [] kept left h l = tt
  all_stay (e ∷ before) kept left (inl q) l = absurd (let k : length left ≤ length before + length kept = left_length before kept left q.1 in omega arith)
  all_stay (e ∷ before) kept left (inr q) l = (q.0, all_stay before (e ∷ kept) left q.1 (omega arith))

  stay_behind : (ys rest kept : List ℕ) → StayFrom (onto ys rest) kept → StayFrom rest (ys ++ kept)
  unfolding StayFrom
  stay_behind [] rest kept h = h
  stay_behind (y ∷ ys) rest kept h = (stay_behind ys (y ∷ rest) kept h).1

  -- no element of a list that a pass leaves as it is can be left out
  pub none_less : (xs ys : List ℕ) (e : ℕ) → IsPass Good (xs ++ (e ∷ ys)) (xs ++ (e ∷ ys)) → Good (xs ++ ys) → ⊥
  unfolding StayFrom
  none_less xs ys e h g =
      let l : length (onto (xs ++ (e ∷ ys)) []) ≡ length (xs ++ (e ∷ ys)) + 0 = length-onto (xs ++ (e ∷ ys)) [] in
      let a : StayFrom (onto (xs ++ (e ∷ ys)) []) [] = all_stay (onto (xs ++ (e ∷ ys)) []) [] (xs ++ (e ∷ ys)) h (omega arith) in
      let b : StayFrom (onto ys (e ∷ onto xs [])) [] = subst (λ z. StayFrom z []) (onto_append xs (e ∷ ys) []) a in
      (stay_behind ys (e ∷ onto xs []) [] b).0 (subst Good (sym (onto_onto xs [] (ys ++ []) ∙ ap (λ z. xs ++ z) (append-nil ys))) g)

  -- ---- several passes

  pub passes_good : (n : ℕ) (es left : List ℕ) → Good es → ArePasses Good n es left → Good left
  passes_good zero es left g h = subst Good (sym h) g
  passes_good (suc n) es left g h = passes_good n h.0 left (pass_good es h.0 g h.1) h.2

  -- one more pass
  pub passes_more : (n : ℕ) (es once left : List ℕ) → ArePasses Good n es once → IsPass Good once left → ArePasses Good (suc n) es left
  passes_more zero es once left h p = (left, subst (λ z. IsPass Good z left) h p, refl)
  passes_more (suc n) es once left h p = (h.0, h.1, passes_more n h.0 once left h.2 p)

  -- where a pass leaves nothing out, no further one does
  passes_stay : (n : ℕ) (es left : List ℕ) → IsPass Good es es → ArePasses Good n es left → left ≡ es
  passes_stay zero es left p h = h
  passes_stay (suc n) es left p h =
      let same : h.0 ≡ es = one_pass es h.0 es h.1 p in
      passes_stay n es left p (subst (λ z. ArePasses Good n z left) same h.2)

  passes_one : (n m : ℕ) (es a b : List ℕ) → ArePasses Good n es a → IsPass Good a a → ArePasses Good m es b → IsPass Good b b → a ≡ b
  passes_one zero m es a b h p k q = sym (passes_stay m es b (subst (λ z. IsPass Good z z) h p) k ∙ sym h)
  passes_one (suc n) zero es a b h p k q = passes_stay (suc n) es a (subst (λ z. IsPass Good z z) k q) h ∙ sym k
  passes_one (suc n) (suc m) es a b h p k q =
      let same : k.0 ≡ h.0 = one_pass es k.0 h.0 k.1 h.1 in
      passes_one n m h.0 a b h.2 p (subst (λ z. ArePasses Good m z b) same k.2) q

  -- what passes leave in the end
  record IsEnd (es left : List ℕ) : Type 0 where
    passes : (n : ℕ) × ArePasses Good n es left
    last : IsPass Good left left

  end_here : (es left : List ℕ) → IsPass Good es left → length left ≡ length es → IsEnd es es
  end_here es left h l = record { passes = (0, refl); last = subst (IsPass Good es) (pass_whole es left h l) h }

  end_later : (es once : List ℕ) → IsPass Good es once → (left : List ℕ) × IsEnd once left → (left : List ℕ) × IsEnd es left
  end_later es once h r = (r.0, record { passes = (suc r.1.passes.0, (once, h, r.1.passes.1)); last = r.1.last })

  has_end : ((es : List ℕ) → IsDecided (Good es)) → (k : ℕ) (es : List ℕ) → length es ≤ k → (left : List ℕ) × IsEnd es left
  has_end decide zero es l =
      let q : (left : List ℕ) × IsPass Good es left = left_exists decide (onto es []) [] in
      let le : length q.0 ≤ length es = pass_length es q.0 q.1 in
      (es, end_here es q.0 q.1 (omega arith))
  has_end decide (suc k) es l =
      let q : (left : List ℕ) × IsPass Good es left = left_exists decide (onto es []) [] in
      let le : length q.0 ≤ length es = pass_length es q.0 q.1 in
      elim (cases_eq (length q.0) (length es)) [
        | inl e ↦ (es, end_here es q.0 q.1 e)
        | inr e ↦ end_later es q.0 q.1 (has_end decide k q.0 (omega arith))
      ]

-- ---- pruned walks

-- an adequate decomposition's walk is good for each need among the columns
abbrev pub WalksAreGood : Type 0
WalksAreGood = (spec : Spec) → IsAdequate spec → (need walk : List ℕ) → Within need (all_columns spec) → IsPrunedWalk spec need walk → IsGoodRoute spec need walk

pub walks_are_good : WalksAreGood
walks_are_good spec a need walk w p = passes_good (IsGoodRoute spec need) p.passes.0 (all_edges spec) walk (all_edges_good spec a need w) p.passes.1

-- no edge of it can be left out
abbrev pub WalksArePruned : Type 0
WalksArePruned = (spec : Spec) (need xs ys : List ℕ) (e : ℕ) → IsPrunedWalk spec need (xs ++ (e ∷ ys)) → IsGoodRoute spec need (xs ++ ys) → ⊥

pub walks_are_pruned : WalksArePruned
walks_are_pruned spec need xs ys e p g = none_less (IsGoodRoute spec need) xs ys e p.last g

-- a further pass leaves it as it is
abbrev pub WalksStay : Type 0
WalksStay = (spec : Spec) (need walk left : List ℕ) → IsPrunedWalk spec need walk → IsPass (IsGoodRoute spec need) walk left → left ≡ walk

pub walks_stay : WalksStay
walks_stay spec need walk left p h = one_pass (IsGoodRoute spec need) walk left walk h p.last

-- there is at most one
abbrev pub OneWalk : Type 0
OneWalk = (spec : Spec) (need a b : List ℕ) → IsPrunedWalk spec need a → IsPrunedWalk spec need b → a ≡ b

pub one_walk : OneWalk
one_walk spec need a b p q = passes_one (IsGoodRoute spec need) p.passes.0 q.passes.0 (all_edges spec) a b p.passes.1 p.last q.passes.1 q.last

-- and there is one
abbrev pub HasWalk : Type 0
HasWalk = (spec : Spec) → IsInRange spec → (need : List ℕ) → (walk : List ℕ) × IsPrunedWalk spec need walk

pub has_walk : HasWalk
has_walk spec i need =
    let r : (left : List ℕ) × IsEnd (IsGoodRoute spec need) (all_edges spec) left = has_end (IsGoodRoute spec need) (λ es. good_decided spec i need es) (length (all_edges spec)) (all_edges spec) (omega arith) in
    (r.0, record { passes = r.1.passes; last = r.1.last })
