use Rattle.sheet_register.proofs.RunsKept.{law, closes_by_law}
use Rattle.sheet_register.proofs.law.runs_by_law.Goals as goal

pub returns : goal.returns
returns c = record { law = law c.verdicts_by_law.ensures; closes = closes_by_law c.verdicts_by_law.ensures }
