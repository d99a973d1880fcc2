use Rattle.std.proofs.Common.{◌≡◌, ℕ, ◌+◌, ◌<◌, length, List, [], ◌∷◌, ◌⊎◌, inl, inr, Option, None, Some, IfSome, get_or, take, refl, subst, sym, ap, ◌∙◌}
use Rattle.rc_plan.proofs.Imports.{take_all, take_more, none-some, option_or, In, get_or_in, in_append, IsAccessPath, IsKnown, ReadMode, Statement, Lock, Probe, Read, CheckAbsent, CheckFound, CheckDep, Apply, Emit, Commit, Release}
use Rattle.rc_plan.proofs.access.access_path.Goals as goal
use Rattle.rc_plan.proofs.access.access_path.Goals.{in-Read, in_default}

-- ---- one value or else another

some_or : {T : Type 0} (P : T → Type 0) (a b : Option T) → IfSome a P → IfSome b P → IfSome (option_or a b) P
some_or P (Some x) b e f = e
some_or P None b e f = f

none_or : {T : Type 0} (a b : Option T) → option_or a b ≡ None → (a ≡ None) × (b ≡ None)
none_or (Some x) b e = absurd (none-some x (sym e))
none_or None b e = (refl, e)

-- ---- the edge of a Read

edge_of : Statement → ℕ
edge_of (Lock class choice mode) = 0
edge_of (Probe cols) = 0
edge_of (Read e mode) = e
edge_of CheckAbsent = 0
edge_of CheckFound = 0
edge_of (CheckDep dep) = 0
edge_of Apply = 0
edge_of Emit = 0
edge_of Commit = 0
edge_of (Release class) = 0

same_edge : (a b : ℕ) (m n : ReadMode) → Read a m ≡ Read b n → a ≡ b
unfolding edge_of
same_edge a b m n e = ap edge_of e

-- among so many statements and one more
in_more : (x : Statement) (plan : List Statement) (i : ℕ) (d : Statement) → i < length plan → In x (take (i + 1) plan) → In x (take i plan) ⊎ (x ≡ get_or plan i d)
in_more x plan i d within m =
    elim (in_append x (take i plan) (get_or plan i d ∷ []) (subst (λ (xs : List Statement). In x xs) (take_more plan i d within) m)) [
      | inl before ↦ inl before
      | inr (inl here) ↦ inr here
      | inr (inr never) ↦ absurd never
    ]

pub path_by-requires-clause-edge : goal.path_by-requires-clause-edge
path_by-requires-clause-edge c =
    let plan = c.args.plan.now in
    let here = get_or_in plan c.loop-statement.statement-index c.statement-item.result c.loop-statement-test.true in
    subst (IsKnown c.args.spec.now) c.in-Read.is (c.requires.known c.statement-item.result (subst (λ (x : Statement). In x plan) (sym c.statement-item.is) here))

pub loop-statement-preserved : goal.loop-statement-preserved
loop-statement-preserved c =
    let spec = c.args.spec.now in
    let op = c.args.op.now in
    let plan = c.args.plan.now in
    let holds = IsAccessPath spec op plan in
    let i = c.loop-statement.statement-index in
    let item = c.statement-item.result in
    let before = c.loop-statement.invariant in
    elim c.match-statement.branch [
      | in-Read w ↦
          let is : c.match-statement.path ≡ option_or w.path_by.result c.loop-statement.path = w.path-is ∙ w.or-path.ensures in
          record {
            some = subst (λ found. IfSome found holds) (sym is) (some_or holds w.path_by.result c.loop-statement.path w.path_by.ensures.some before.some);
            none = λ e p mode m path.
                let nothing = none_or w.path_by.result c.loop-statement.path (sym is ∙ e) in
                elim (in_more (Read p.edge mode) plan i item c.loop-statement-test.true m) [
                  | inl early ↦ before.none nothing.1 p mode early path
                  | inr here ↦ w.path_by.ensures.none nothing.0 p (same_edge p.edge w.in-Read.edge mode w.in-Read.mode (here ∙ sym c.statement-item.is ∙ w.in-Read.is)) path
                ];
          }
      | in_default w ↦
          record {
            some = subst (λ found. IfSome found holds) (sym w.path-is) before.some;
            none = λ e p mode m path. elim (in_more (Read p.edge mode) plan i item c.loop-statement-test.true m) [
              | inl early ↦ before.none (sym w.path-is ∙ e) p mode early path
              | inr here ↦ w.in_default.not-Read p.edge mode (c.statement-item.is ∙ sym here)
            ];
          }
    ]

pub returns : goal.returns
returns c =
    let plan = c.args.plan.now in
    let all : take c.loop-statement.statement-index plan ≡ plan = take_all c.loop-statement.statement-index plan c.loop-statement-test.false in
    record {
      some = c.loop-statement.invariant.some;
      none = λ e p mode m path. c.loop-statement.invariant.none e p mode (subst (λ (xs : List Statement). In (Read p.edge mode) xs) (sym all) m) path;
    }
