use Rattle.std.proofs.Common.{◌≡◌, ◌+◌, ◌++◌, ◌∷◌, [], ℕ, length, subst, sym, ap, ◌∙◌, arith}
use Rattle.rc_spec.proofs.Imports.{length-append, AreEnds, rows_from, AreEnds-push, last_end, rows_from-push}
use Rattle.rc_spec.proofs.row_list.RowList.push.Goals as goal
use Rattle.rc_spec.proofs.row_list.RowList.push.Goals.{After-len}

-- the new row ends where the values do that have its own
whole : (c : After-len) → c.len.result ≡ length (c.self.inside.values.items ++ c.args.row.now)
whole c = c.len.ensures.value ∙ ap length c.in_ok-extend_from_slice.ensures.ok

-- which is behind the values of before
longer : (c : After-len) → c.len.result ≡ length c.self.inside.values.items + length c.args.row.now
longer c = whole c ∙ length-append c.self.inside.values.items c.args.row.now

pub push-requires : goal.push-requires
push-requires c =
    let before = last_end 0 c.self.inside.ends (length c.self.inside.values.items) c.self.invariant in
    let same = longer (goal.at.push-requires c).After-len in
    omega (arith, before, same)

pub invariant_of-self-in-Ok : goal.invariant_of-self-in-Ok
invariant_of-self-in-Ok c =
    let d = (goal.at.invariant_of-self-in-Ok c).After-len in
    let ends : c.push.new.self ≡ c.self.inside.ends ++ c.len.result ∷ [] = c.in-Ok.ensures.ok in
    let behind = longer d in
    subst (λ l. AreEnds 0 l (length c.extend_from_slice.new.self.items)) (sym ends)
    (subst (AreEnds 0 (c.self.inside.ends ++ c.len.result ∷ [])) c.len.ensures.value
    (AreEnds-push 0 c.self.inside.ends (length c.self.inside.values.items) c.len.result c.self.invariant (omega (arith, behind))))

pub returns-in-Ok-clause-ok : goal.returns-in-Ok-clause-ok
returns-in-Ok-clause-ok c =
    let d = (goal.at.returns-in-Ok-clause-ok c).After-len in
    let ends : c.push.new.self ≡ c.self.inside.ends ++ c.len.result ∷ [] = c.in-Ok.ensures.ok in
    let behind = longer d in
    ap (λ l. rows_from 0 l c.extend_from_slice.new.self.items) ends
    ∙ ap (rows_from 0 (c.self.inside.ends ++ c.len.result ∷ [])) c.in_ok-extend_from_slice.ensures.ok
    ∙ rows_from-push 0 c.self.inside.ends c.self.inside.values.items c.args.row.now c.len.result c.self.invariant (omega (arith, behind))
    ∙ ap (λ rows. rows ++ c.args.row.now ∷ []) c.self.view_is
