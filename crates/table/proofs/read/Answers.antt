use Rattle.std.proofs.Common.{◌≡◌, ◌++◌, length, drop, sym, ◌∙◌}
use Rattle.std.proofs.lemmas.Bool.{cond-true}
use Rattle.fault.specs.Told.{answered}
use Rattle.table.specs.Checking.{check, is_whole}
use Rattle.table.specs.Drafting.{rows_drafted}
use Rattle.table.specs.Filling.{overlaid}
use Rattle.table.proofs.Loads.{loaded_from}
use Rattle.table.proofs.read.Goals as goal

pub returns-clause-loaded : goal.returns-clause-loaded
unfolding check
returns-clause-loaded c =
    let text = c.args.text.now in
    let k = length c.args.kinds.now in
    let t = length c.args.tasks.now in
    let rows = rows_drafted c.in_ok-draft.draft in
    let e : check text k t ≡ answered rows =
    cond-true (is_whole text) _ _ (sym c.if-not-whole.ensures) ∙ c.in_ok-draft.ensures.answer in
    let kinds : c.copy_from_slice.new.self ++ drop c.len.result c.args.kinds.now ≡ overlaid rows.kinds c.args.kinds.now = cc in
    let tasks : c.copy_from_slice-2.new.self ++ drop c.len-2.result c.args.tasks.now ≡ overlaid rows.tasks c.args.tasks.now = cc in
    loaded_from text k t rows c.table.result c.args.kinds.now _ c.args.tasks.now _ e c.table.ensures kinds tasks
