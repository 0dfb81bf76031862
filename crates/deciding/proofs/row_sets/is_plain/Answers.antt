-- `row_sets::is_plain` meets its contract.
use mathlib.Core.Path.{sym, ◌∙◌}
use borrow.Author.Tests.{eqb-true}
use Rattle.finite.specs.Truth.{refuted}
use Rattle.deciding.proofs.row_sets.is_plain.Goals as goal

pub returns-then-alike : goal.returns-then-alike
returns-then-alike c = λ e. absurd (refuted (sym e) tt)

pub returns-then-q : goal.returns-then-q
returns-then-q c = λ e. absurd (refuted (sym e) tt)

pub returns : goal.returns
returns c =
    λ e. record {
      unlike = sym c.alike.ensures ∙ c.if-alike.false;
      clear = c.if-q.false;
      exchange = sym c.exchange_of.ensures ∙ eqb-true _ _ e;
    }
