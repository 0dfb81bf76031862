-- `stream::end_line` meets its contract: the line kept so far is answered, and its slip written.
use Rattle.std.proofs.Common.{ℕ, List, ◌∙◌, ap, subst}
use Rattle.adjudication.specs.TrueSlip.{LinePromise}
use Rattle.stream.specs.Keeping.{sheet, put_all}
use Rattle.stream.proofs.laws.Laws.{line-answered}
use Rattle.stream.proofs.end_line.Goals as goal

pub returns : goal.returns
returns c =
    let a = c.args in
    let r = c.answer_line-reply in
    let w = c.write_text-waiting in
    line-answered a.state a.table.now a.output.now r.new.table w.new.output r.result w.result
    (subst (λ (x : List ℕ). LinePromise x a.state.held a.table.now r.result r.new.table) c.first.ensures r.ensures)
    (w.ensures ∙ ap (put_all (sheet a.output.now a.state.waiting)) c.first-2.ensures)
