-- What is reckoned to be determined is what follows, and the test of an operation's rules is exact.
use Rattle.std.proofs.Common.{◌≡◌, ◌⊎◌, ℕ, zero, suc, Bool, true, false, not, cond, eqb, List, [], ◌∷◌, length, Option, Some, None, refl, sym, ap, ◌∙◌, subst, inl, inr, arith}
use Rattle.std.specs.Prelude.{◌↔◌, IsTrue}
use Rattle.rc_work.specs.Imports.{nat_cmp, In, gather, Within, is_within, union, within_from_test, test_from_within, union_left, union_right, Follows, Dep, IsClosed, follows_closed, follows_subset, follows_dependency, follows_transitive, follows_union, Op, OpKind, Query, Insert, Remove, Update, Spec, all_columns, AreOuts, FindsByKey, KeepsO, distinct_from_test, test_from_distinct, has_repeat}
use Rattle.std.proofs.lemmas.Bool.{and_parts, cases_Bool, false≢true, ne_eqb, not-true}
use Rattle.rc_work.specs.Determined.{Applied, beside, first_applied, grown, grown_with, determined, is_key, keeps_by, keeps_rules}

-- ---- the first dependency that applies

-- it is one of them, applies, and the others are those beside it
record IsApplied (deps : List Dep) (cols : List ℕ) (found : Applied) : Type 0 where
  applies : Within found.dep.left cols
  among : In found.dep deps
  others : (d : Dep) → In d found.others → In d deps
  each : (d : Dep) → In d deps → (d ≡ found.dep) ⊎ In d found.others
  fewer : length deps ≡ suc (length found.others)

-- one of them is found, or none applies
abbrev IsFirst : List Dep → List ℕ → Option Applied → Type 0
IsFirst deps cols None = (d : Dep) → In d deps → Within d.left cols → ⊥
IsFirst deps cols (Some found) = IsApplied deps cols found

first_here : (d : Dep) (deps : List Dep) (cols : List ℕ) → Within d.left cols → IsApplied (d ∷ deps) cols (record { dep = d; others = deps })
first_here d deps cols applies = record {
  applies = applies;
  among = inl refl;
  others = λ other m. inr m;
  each = λ other m. m;
  fewer = refl;
}

first_beside : (d : Dep) (deps : List Dep) (cols : List ℕ) (found : Option Applied) → (Within d.left cols → ⊥) → IsFirst deps cols found
    → IsFirst (d ∷ deps) cols (beside d found)
first_beside d deps cols None not_here none = λ other m applies. elim m [
  | inl e ↦ not_here (subst (λ (x : Dep). Within x.left cols) e applies)
  | inr n ↦ none other n applies
]
first_beside d deps cols (Some found) not_here is = record {
  applies = is.applies;
  among = inr is.among;
  others = λ other m. elim m [ inl e ↦ inl e | inr n ↦ inr (is.others other n) ];
  each = λ other m. elim m [
    | inl e ↦ inr (inl e)
    | inr n ↦ elim (is.each other n) [ inl e ↦ inl e | inr k ↦ inr (inr k) ]
  ];
  fewer = ap suc is.fewer;
}

first_by : (d : Dep) (deps : List Dep) (cols : List ℕ) → IsFirst deps cols (first_applied deps cols) → (b : Bool) → is_within d.left cols ≡ b
    → IsFirst (d ∷ deps) cols (cond b (Some (record { dep = d; others = deps })) (beside d (first_applied deps cols)))
first_by d deps cols others true e = first_here d deps cols (within_from_test d.left cols e)
first_by d deps cols others false e =
    first_beside d deps cols (first_applied deps cols) (λ applies. absurd (false≢true (sym e ∙ test_from_within d.left cols applies))) others

first_is : (deps : List Dep) (cols : List ℕ) → IsFirst deps cols (first_applied deps cols)
first_is [] cols = λ d m. absurd m
first_is (d ∷ deps) cols = first_by d deps cols (first_is deps cols) (is_within d.left cols) refl

-- ---- what is grown

-- it has the columns, is closed under the dependencies, and follows where they do
record IsGrown (deps : List Dep) (cols all : List ℕ) : Type 0 where
  holds : Within cols all
  closed : IsClosed deps all
  follows : (more : List Dep) (from : List ℕ) → ((d : Dep) → In d deps → In d more) → Follows more from cols → Follows more from all

-- where each of the others is used at most once
abbrev Grows : ℕ → Type 0
Grows n = (deps : List Dep) (cols : List ℕ) → length deps ≡ n → IsGrown deps cols (grown n deps cols)

grown_found : (n : ℕ) → Grows n → (deps : List Dep) (cols : List ℕ) (found : Option Applied) → length deps ≡ suc n → IsFirst deps cols found
    → IsGrown deps cols (grown_with (grown n) found cols)
grown_found n others_do deps cols None count none = record {
  holds = λ c m. m;
  closed = λ d m applies. absurd (none d m applies);
  follows = λ more from some f. f;
}
grown_found n others_do deps cols (Some found) count is =
    let wider = union cols found.dep.right in
    let below = others_do found.others wider (omega (arith, count, is.fewer)) in
    record {
      holds = λ c m. below.holds c (union_left cols found.dep.right c m);
      closed = λ d m applies. elim (is.each d m) [
        | inl e ↦ λ c k. below.holds c (union_right cols found.dep.right c (subst (λ (x : Dep). In c x.right) e k))
        | inr other ↦ below.closed d other applies
      ];
      follows = λ more from some f.
          below.follows more from (λ d m. some d (is.others d m))
          (follows_union more from cols found.dep.right f
          (follows_transitive more from found.dep.left found.dep.right
          (follows_transitive more from cols found.dep.left f (follows_subset more cols found.dep.left is.applies))
          (follows_dependency more found.dep (some found.dep is.among))));
    }

grown_is : (n : ℕ) → Grows n
grown_is zero [] cols count = record { holds = λ c m. m; closed = λ d m. absurd m; follows = λ more from some f. f }
grown_is zero (d ∷ deps) cols count = absurd (omega arith)
grown_is (suc n) deps cols count = grown_found n (grown_is n) deps cols (first_applied deps cols) count (first_is deps cols)

-- what is determined is what follows
pub within-determined : (deps : List Dep) (from ys : List ℕ) → Within ys (determined deps from) ↔ Follows deps from ys
within-determined deps from ys =
    let is = grown_is (length deps) deps from refl in (
      (λ within.
          follows_transitive deps from (determined deps from) ys (is.follows deps from (λ d m. m) (follows_subset deps from from (λ c m. m)))
          (follows_subset deps (determined deps from) ys within)),
      λ follows. follows_closed deps from (determined deps from) ys is.closed is.holds follows,
    )

-- ---- the rules of an operation

some_length : (xs : List ℕ) → (xs ≡ [] → ⊥) → not (eqb (length xs) 0) ≡ true
some_length [] some = absurd (some refl)
some_length (x ∷ xs) some = ap not (ne_eqb (suc (length xs)) 0 (omega arith))

none_is : (xs : List ℕ) → not (eqb (length xs) 0) ≡ true → xs ≡ [] → ⊥
none_is [] e is = absurd cc
none_is (x ∷ xs) e is = absurd cc

abbrev IsExactAt : Spec → Op → OpKind → Type 0
IsExactAt spec op kind = op.kind ≡ kind → IsTrue (keeps_by spec op.pattern kind) ↔ KeepsO spec op

key_is_exact : (spec : Spec) (pattern : List ℕ) → IsTrue (is_key spec pattern) ↔ Follows spec.deps pattern (all_columns spec)
key_is_exact spec pattern =
    let law = within-determined spec.deps pattern (all_columns spec) in (
      (λ e. law.0 (within_from_test (all_columns spec) (determined spec.deps pattern) e)),
      λ follows. test_from_within (all_columns spec) (determined spec.deps pattern) (law.1 follows),
    )

exact_at : (spec : Spec) (op : Op) (kind : OpKind) → IsExactAt spec op kind
exact_at spec op (Query outs ranges) is = (
  (λ e.
      let parts = and_parts (not (eqb (length outs) 0)) (not (has_repeat outs)) e in
      record {
        o1 = λ insert. absurd cc;
        o2 = λ key. absurd (subst FindsByKey is key);
        o3 = λ others more same.
            let both : outs ≡ others = cc in
            subst (λ (l : List ℕ). AreOuts l) both (record { some = none_is outs parts.0; distinct = distinct_from_test outs (not-true (has_repeat outs) parts.1) });
      }),
  λ keeps.
      let are = keeps.o3 outs ranges is in
      rw (some_length outs are.some, test_from_distinct outs are.distinct) refl,
)
exact_at spec op Insert is = (
  (λ e. record {
    o1 = λ insert. none_is op.pattern e;
    o2 = λ key. absurd (subst FindsByKey is key);
    o3 = λ others more same. absurd cc;
  }),
  λ keeps. some_length op.pattern (keeps.o1 is),
)
exact_at spec op Remove is = (
  (λ e. record {
    o1 = λ insert. absurd cc;
    o2 = λ key. (key_is_exact spec (gather nat_cmp op.pattern)).0 e;
    o3 = λ others more same. absurd cc;
  }),
  λ keeps. (key_is_exact spec (gather nat_cmp op.pattern)).1 (keeps.o2 (subst FindsByKey (sym is) tt)),
)
exact_at spec op Update is = (
  (λ e. record {
    o1 = λ insert. absurd cc;
    o2 = λ key. (key_is_exact spec (gather nat_cmp op.pattern)).0 e;
    o3 = λ others more same. absurd cc;
  }),
  λ keeps. (key_is_exact spec (gather nat_cmp op.pattern)).1 (keeps.o2 (subst FindsByKey (sym is) tt)),
)

-- the test of an operation's rules passes exactly where it keeps them
abbrev pub OperationTestIsExact : Type 0
OperationTestIsExact = (spec : Spec) (op : Op) → IsTrue (keeps_rules spec op) ↔ KeepsO spec op

pub operation_test_is_exact : OperationTestIsExact
operation_test_is_exact spec op = exact_at spec op op.kind refl

-- a test that is exact too gives the same
pub same_test : (spec : Spec) (op : Op) (test : Bool) → (IsTrue test ↔ KeepsO spec op) → test ≡ keeps_rules spec op
same_test spec op test exact =
    elim (cases_Bool test) [
      | inl e ↦ e ∙ sym ((operation_test_is_exact spec op).1 (exact.0 e))
      | inr e ↦ elim (cases_Bool (keeps_rules spec op)) [
        | inl k ↦ absurd (false≢true (sym e ∙ exact.1 ((operation_test_is_exact spec op).0 k)))
        | inr k ↦ e ∙ sym k
      ]
    ]
