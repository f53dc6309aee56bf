use Rattle.std.proofs.Common.{◌≡◌, ap, ◌∙◌, rules}
use Rattle.setup.specs.Grammar.{line_meaning}
use Rattle.setup.proofs.ReadsBack.{reads_back}
use Rattle.setup.proofs.parse.parse_line.Goals as goal

pub returns-clause-reads_back : goal.returns-clause-reads_back
returns-clause-reads_back c s h e =
    let value : c.map.result ≡ line_meaning c.args.line.now = search rules in
    value ∙ ap line_meaning e ∙ reads_back s h
