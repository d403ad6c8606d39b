use Rattle.std.proofs.Common.{◌+◌, length}
use Rattle.dictionary.specs.Shown.{shown_line}
use Rattle.dictionary.proofs.Gathering.{judged}
use Rattle.dictionary.proofs.shape.judge_line.Goals as goal

pub returns : goal.returns
returns c = judged c.args.above.now c.args.place (c.args.place + length c.args.above.now) c.tag.result (shown_line c.args.line) c.survey_of.result c.weigh.result c.survey_of.ensures c.tag.ensures c.weigh.ensures
