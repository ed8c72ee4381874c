-- The question, layer and place of each fault of an entry.
use Rattle.questions.specs.Questions.{Refusal, no_at}
use Rattle.concessions.specs.declared.fault.ConcessionFault.{ConcessionFault}
use Rattle.concessions.specs.declared.fault.ConcessionFault.TheVariants.{OutOfRange, Full}

abbrev pub concession_fault : ConcessionFault → Refusal
concession_fault OutOfRange = no_at 18 0
concession_fault Full = no_at 19 0
