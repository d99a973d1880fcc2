use Rattle.std.proofs.Common.{◌≡◌, ℕ, List, ◌++◌, map, sym, ap, ◌∙◌, subst}
use Rattle.rc_work.proofs.Imports.{Pairs, value, OpKind, Query, Range, bounds_given, given}
use Rattle.rc_work.proofs.printing.given.Goals as goal

-- what a query gives: the values at its pattern, and its bounds
query_given : (kind : OpKind) (outs cols pattern listed : List ℕ) (args : Pairs) (ranges bounds : List Range) (picked all : Pairs) → kind ≡ Query outs cols
    → listed ≡ pattern → picked ≡ map (λ c. (c, value args c)) listed → bounds ≡ ranges → all ≡ picked ++ bounds_given bounds
    → all ≡ given kind pattern args ranges
query_given kind outs cols pattern listed args ranges bounds picked all is list pick bound e =
    subst (λ (k : OpKind). all ≡ given k pattern args ranges) (sym is)
    (e ∙ ap (λ l. l ++ bounds_given bounds) (pick ∙ ap (map (λ c. (c, value args c))) list)
    ∙ ap (λ l. map (λ c. (c, value args c)) pattern ++ bounds_given l) bound)

pub returns-in_ok-push_bounds-in-Query : goal.returns-in_ok-push_bounds-in-Query
returns-in_ok-push_bounds-in-Query c =
    query_given c.args.op.now.kind _ _ c.args.op.now.pattern c.list.result.now c.args.call.now.args c.args.call.now.ranges c.list-in-Query.result.now
    c.in_ok-pairs-in-Query.pairs.items c.push_bounds.new.pairs.items c.in-Query.is
    c.list.ensures c.in_ok-pairs-in-Query.ensures c.list-in-Query.ensures.value c.in_ok-push_bounds-in-Query.ensures
