use Rattle.std.proofs.Common.{◌∙◌, ap}
use Rattle.rc_tuple.proofs.Imports.{list_all, zip, same_at, agree_on_zip}
use Rattle.rc_tuple.proofs.tuple.Tuple.agrees_on.Goals as goal

pub returns : goal.returns
returns c =
    c.same_at.ensures
    ∙ ap (λ l. list_all (same_at c.args.cols) (zip l c.deref-2.result.now)) (c.deref.ensures.value ∙ c.self.view_is)
    ∙ ap (λ l. list_all (same_at c.args.cols) (zip c.args.self.now l)) (c.deref-2.ensures.value ∙ c.other.view_is)
    ∙ agree_on_zip c.args.cols c.args.self.now c.args.other.now c.requires
