-- The faults of a walk over commits, as faults of a set.
use Rattle.vc_history.specs.declared.fault.HistoryFault.{HistoryFault}
use Rattle.vc_history.specs.declared.fault.HistoryFault.TheVariants as bases
use Rattle.vc_rev.specs.declared.refusal.RevFault.{RevFault}
use Rattle.vc_rev.specs.declared.refusal.RevFault.TheVariants.{Missing, NotACommit, Source}
use Rattle.vc_rev.specs.declared.refusal.SourceFault.TheVariants as sources

abbrev pub of_history : HistoryFault → RevFault
of_history (bases.Missing id) = Missing id
of_history (bases.NotACommit id) = NotACommit id
of_history (bases.Store fault) = Source (sources.Store fault)
