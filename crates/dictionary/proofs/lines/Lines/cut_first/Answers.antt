use Rattle.std.proofs.Common.{sym, arith}
use Rattle.dictionary.specs.Shown.{shown_line}
use Rattle.dictionary.proofs.Cutting.{line_fits, lines_end, lines_go_on}
use Rattle.dictionary.proofs.lines.Lines.cut_first.Goals as goal

pub returns-in_err-line : goal.returns-in_err-line
returns-in_err-line c = rw c.from_residual.ensures (lines_end c.args.self.now.rest.now c.in_err-line.ensures)

pub tail-self-requires : goal.tail-self-requires
tail-self-requires c =
    let fits = line_fits c.args.self.now.rest.now (shown_line c.in_ok-line.line) (sym c.in_ok-line.ensures) in
    omega (arith, c.size.ensures)

pub returns : goal.returns
returns c = lines_go_on c.args.self.now.rest.now c.tail-self.result.now (shown_line c.in_ok-line.line) c.size.result c.in_ok-line.ensures c.size.ensures c.tail-self.ensures.value
