-- The faults of refs, as faults of a repository.
use Rattle.vc_files.specs.declared.faults.Fault.TheVariants.{Memory}
use Rattle.vc_refs.specs.declared.faults.RefFault.{RefFault}
use Rattle.vc_refs.specs.declared.faults.RefFault.TheVariants as refs
use Rattle.vc_rev.specs.declared.refusal.SourceFault.{SourceFault}
use Rattle.vc_rev.specs.declared.refusal.SourceFault.TheVariants.{Store, BadRefFile, HeadLoop}
use Rattle.vc_object_map.specs.declared.faults.StoreFault.TheVariants.{Fault}

abbrev pub of_refs : RefFault → SourceFault
of_refs (refs.Stale current) = Store (Fault Memory)
of_refs (refs.Conflict name) = Store (Fault Memory)
of_refs (refs.BadRefFile path) = BadRefFile path
of_refs refs.HeadLoop = HeadLoop
of_refs (refs.Fault fault) = Store (Fault fault)
