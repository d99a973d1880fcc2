-- Laws of operations that may be planned, and of columns that they name.
use Rattle.std.proofs.Common.{◌≡◌, ℕ, ◌<◌, ◌≤◌, List, [], ◌∷◌, length, inl, refl, subst, arith}
use Rattle.rc_query.specs.Imports.{nat_cmp, In, gather, nat_order, get_or_in, in_gather, gather_in, Within, union, union_right, in_range_below, Spec, IsSealed, all_columns, AreBelow, op_at, no_op}
use Rattle.rc_query.specs.Ops.{MayBePlanned}

-- ---- the operations of an accepted specification

pub own_ops : (spec : Spec) → IsSealed spec → (number : ℕ) → number < length spec.ops → MayBePlanned spec (op_at spec number)
own_ops spec s number l = record { among = s.in_range.known_ops (op_at spec number) (get_or_in spec.ops number no_op l); keeps = s.accepted.ops number l }

pub below_32 : (spec : Spec) → IsSealed spec → (cols : List ℕ) → AreBelow (length spec.columns) cols → (c : ℕ) → In c cols → c < 32
below_32 spec s cols b c m =
    let below : c < length spec.columns = b c m in
    let few : length spec.columns ≤ 32 = s.in_range.columns in omega arith

pub columns_known : (spec : Spec) (cols : List ℕ) → AreBelow (length spec.columns) cols → Within (gather nat_cmp cols) (all_columns spec)
columns_known spec cols b c m = in_range_below (length spec.columns) c (b c (in_gather nat_cmp nat_order c cols m))

-- ---- columns

some_in : (xs : List ℕ) → (xs ≡ [] → ⊥) → (x : ℕ) × In x xs
some_in [] f = absurd (f refl)
some_in (x ∷ xs) f = (x, inl refl)

pub gather_some : (xs : List ℕ) → (xs ≡ [] → ⊥) → gather nat_cmp xs ≡ [] → ⊥
gather_some xs f e = let m : (x : ℕ) × In x xs = some_in xs f in subst (In m.0) e (gather_in nat_cmp nat_order m.0 xs m.1)

pub union_some : (xs ys : List ℕ) → (ys ≡ [] → ⊥) → union xs ys ≡ [] → ⊥
union_some xs ys f e = let m : (x : ℕ) × In x ys = some_in ys f in subst (In m.0) e (union_right xs ys m.0 m.1)
