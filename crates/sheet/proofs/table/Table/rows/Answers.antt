use Rattle.std.proofs.Common.{sym, ◌∙◌}
use Rattle.sheet.proofs.Pairs.{length_rows}
use Rattle.sheet.proofs.table.Table.rows.Goals as goal

pub returns-clause-long : goal.returns-clause-long
returns-clause-long c = length_rows c.args.self.now.bytes.now ∙ sym c.args.self.now.counted
