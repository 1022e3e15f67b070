use Rattle.std.proofs.Common.{rules}
use Rattle.transcripts.proofs.reply.TroubleDisplay.fmt.Goals as goal

pub returns-in-NoBytes-clause-writes : goal.returns-in-NoBytes-clause-writes
returns-in-NoBytes-clause-writes g c = rw c.in-NoBytes.is (search rules)

pub returns-in-NoLevels-clause-writes : goal.returns-in-NoLevels-clause-writes
returns-in-NoLevels-clause-writes g c = rw c.in-NoLevels.is (search rules)

pub returns-in-TooLong-clause-writes : goal.returns-in-TooLong-clause-writes
returns-in-TooLong-clause-writes g c = rw c.in-TooLong.is (search rules)

pub returns-in-NoCell-clause-writes : goal.returns-in-NoCell-clause-writes
returns-in-NoCell-clause-writes g c = rw c.in-NoCell.is (search rules)
