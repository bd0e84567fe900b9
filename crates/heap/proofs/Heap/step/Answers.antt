use Rattle.std.proofs.Common.{sym, ap, ◌∙◌}
use Rattle.heap.specs.Steps.{Stepped}
use Rattle.heap.proofs.Small.{step_copies}
use Rattle.heap.proofs.Heap.step.Goals as goal

pub returns-in-Tracing-default-default-clause-answer :
    goal.returns-in-Tracing-default-default-clause-answer
returns-in-Tracing-default-default-clause-answer g c =
    let h = c.args.self.now in
    let m = g.M.Readable.words c.args.memory.now in
    let s = step_copies h m c.if-is_none.ensures c.in-Tracing-default-default.is-0 c.in-Tracing-default-default.is-1.1 in
    c.copy_word.ensures.answer ∙ ap (λ (x : Stepped). x.told) (sym s)

pub returns-in-Tracing-default-default-clause-words :
    goal.returns-in-Tracing-default-default-clause-words
returns-in-Tracing-default-default-clause-words g c =
    let h = c.args.self.now in
    let m = g.M.Readable.words c.args.memory.now in
    let s = step_copies h m c.if-is_none.ensures c.in-Tracing-default-default.is-0 c.in-Tracing-default-default.is-1.1 in
    c.copy_word.ensures.words ∙ ap (λ (x : Stepped). x.memory) (sym s)
