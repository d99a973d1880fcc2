-- Parts of plans so far, with one more statement, and classes so far, with one more edge.
use Rattle.std.proofs.Common.{◌≡◌, ℕ, ◌+◌, ◌<◌, ◌≤◌, ◌&&◌, not, leb, ltb, List, [], ◌∷◌, ◌++◌, Some, length, map, filter, reverse, take, drop, get_or, sym, ap, ◌∙◌, arith}
use Rattle.rc_query.specs.Imports.{slice_get, range_with_len, nat_cmp, put, gather, nat_order, gather_more, inter, minus, union, has-range, Mode, Spec, IsInRange, class_of, IsPlaced, class_of_known, Statement, Lock, Read, Release, Which, target_columns}
use Rattle.std.proofs.lemmas.Bool.Decides.{nat_tests}
use Rattle.std.proofs.lemmas.List.{append_assoc, take_more, drop_more, map-append, reverse-append}
use Rattle.std.proofs.lemmas.Option.{get_or_from_slice_get, slice_get_within}
use Rattle.rc_query.specs.Planned.{classes_of_edges, locks, which_where, read_mode_where, due, later, locks_and_reads, left_after}

-- ---- classes

pub class_below : (spec : Spec) (e : ℕ) → IsInRange spec → IsPlaced spec → e < length spec.edges → class_of spec e < 16
class_below spec e i p l =
    let known : class_of spec e < length spec.classes = class_of_known spec e i (p.p1 e l) in
    let few : length spec.classes ≤ 16 = i.classes in omega arith

pub classes_more : (spec : Spec) (es : List ℕ) (i : ℕ) → i < length es → classes_of_edges spec (take (i + 1) es) ≡ put nat_cmp (class_of spec (get_or es i 0)) (classes_of_edges spec (take i es))
classes_more spec es i l =
    ap (classes_of_edges spec) (take_more es i 0 l) ∙ ap (gather nat_cmp) (map-append (class_of spec) (take i es) (get_or es i 0 ∷ []))
    ∙ gather_more nat_cmp nat_order (map (class_of spec) (take i es)) (class_of spec (get_or es i 0))

-- ---- locks and releases

pub locks_more : (mode : Mode) (choice : ℕ → Which) (before : List Statement) (cs : List ℕ) (i c : ℕ) → slice_get cs i ≡ Some c
    → (before ++ locks mode choice (take i cs)) ++ Lock c (choice c) mode ∷ [] ≡ before ++ locks mode choice (take (i + 1) cs)
locks_more mode choice before cs i c e =
    append_assoc before (locks mode choice (take i cs)) (Lock c (choice c) mode ∷ [])
    ∙ ap (λ l. before ++ l) (sym (ap (locks mode choice) (take_more cs i c (slice_get_within cs i c e) ∙ ap (λ z. take i cs ++ z ∷ []) (get_or_from_slice_get cs i c c e))
    ∙ map-append (λ c. Lock c (choice c) mode) (take i cs) (c ∷ [])))

pub releases_more : (before : List Statement) (cs : List ℕ) (i c : ℕ) → slice_get cs i ≡ Some c
    → (before ++ map Release (reverse (drop (i + 1) cs))) ++ Release c ∷ [] ≡ before ++ map Release (reverse (drop i cs))
releases_more before cs i c e =
    let rest : List ℕ = drop (i + 1) cs in
    append_assoc before (map Release (reverse rest)) (Release c ∷ [])
    ∙ ap (λ l. before ++ l) (sym (ap (λ l. map Release (reverse l)) (drop_more cs i c (slice_get_within cs i c e) ∙ ap (λ z. z ∷ rest) (get_or_from_slice_get cs i c c e))
    ∙ ap (map Release) (reverse-append (c ∷ []) rest) ∙ map-append Release (reverse rest) (c ∷ [])))

-- ---- the classes up to one

up_to_tests : (k c : ℕ) → (leb 0 c && ltb c (0 + (k + 1))) ≡ leb c k
up_to_tests k c = grind (arith, nat_tests)

pub inter_due : (spec : Spec) (e k : ℕ) (left : List ℕ) → k ≡ class_of spec e → inter left (range_with_len 0 (k + 1)) ≡ due spec e left
inter_due spec e k left same =
    ap (λ p. filter p left) (λ i c. (has-range 0 (k + 1) c ∙ up_to_tests k c) i) ∙ ap (λ z. filter (λ c. leb c z) left) same

pub minus_later : (spec : Spec) (e k : ℕ) (left : List ℕ) → k ≡ class_of spec e → minus left (range_with_len 0 (k + 1)) ≡ later spec e left
minus_later spec e k left same =
    ap (λ p. filter p left) (λ i c. not ((has-range 0 (k + 1) c ∙ up_to_tests k c) i)) ∙ ap (λ z. filter (λ c. not (leb c z)) left) same

-- ---- the locks and reads of a route, with one more read

regroup : {A : Type 0} (xs ys : List A) (x : A) (zs : List A) → ((xs ++ ys) ++ x ∷ []) ++ zs ≡ xs ++ (ys ++ x ∷ zs)
regroup xs ys x zs = append_assoc (xs ++ ys) (x ∷ []) zs ∙ append_assoc xs ys (x ∷ zs)

-- the statements of one more edge, as they are made
pub record IsReadMade (spec : Spec) (mode : Mode) (columns classes : List ℕ) (e : ℕ) (now next : List Statement) (columns1 classes1 : List ℕ) : Type 0 where
  pub bound : columns1 ≡ union columns (target_columns spec e)
  pub left : classes1 ≡ later spec e classes
  pub plan : next ≡ (now ++ locks mode (which_where spec columns) (due spec e classes)) ++ Read e (read_mode_where spec columns e) ∷ []

pub reads_more : (spec : Spec) (mode : Mode) (columns classes es : List ℕ) (i : ℕ) (now next : List Statement) (columns1 classes1 : List ℕ) → i < length es
    → IsReadMade spec mode columns classes (get_or es i 0) now next columns1 classes1
    → next ++ locks_and_reads spec mode columns1 classes1 (drop (i + 1) es) ≡ now ++ locks_and_reads spec mode columns classes (drop i es)
reads_more spec mode columns classes es i now next columns1 classes1 l m =
    let e : ℕ = get_or es i 0 in
    let rest : List ℕ = drop (i + 1) es in
    let front : List Statement = locks mode (which_where spec columns) (due spec e classes) in
    let read : Statement = Read e (read_mode_where spec columns e) in
    ap (λ z. z ++ locks_and_reads spec mode columns1 classes1 rest) m.plan
    ∙ ap (λ z. ((now ++ front) ++ read ∷ []) ++ locks_and_reads spec mode z classes1 rest) m.bound
    ∙ ap (λ z. ((now ++ front) ++ read ∷ []) ++ locks_and_reads spec mode (union columns (target_columns spec e)) z rest) m.left
    ∙ regroup now front read (locks_and_reads spec mode (union columns (target_columns spec e)) (later spec e classes) rest)
    ∙ ap (λ l. now ++ locks_and_reads spec mode columns classes l) (sym (drop_more es i 0 l))

pub left_more : (spec : Spec) (classes es : List ℕ) (i : ℕ) (classes1 : List ℕ) → i < length es → classes1 ≡ later spec (get_or es i 0) classes
    → left_after spec classes1 (drop (i + 1) es) ≡ left_after spec classes (drop i es)
left_more spec classes es i classes1 l e = ap (λ z. left_after spec z (drop (i + 1) es)) e ∙ ap (left_after spec classes) (sym (drop_more es i 0 l))
