use Rattle.slip_laws.proofs.Law.{verdicts_by_law}
use Rattle.slip_laws.proofs.verdicts_by_law.Goals as goal

pub returns : goal.returns
returns c = verdicts_by_law
