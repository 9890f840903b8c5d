-- What ended an exchange with a served store, as a failure of a command.
use Rattle.vc_cli.specs.declared.failure.Failure.{Failure}
use Rattle.vc_cli.specs.declared.failure.Failure.TheVariants as failures
use Rattle.vc_node.specs.declared.clone_fault.CloneFault.{CloneFault}
use Rattle.vc_node.specs.declared.clone_fault.CloneFault.TheVariants as clones
use Rattle.vc_pkt.specs.declared.fault.PktFault.TheVariants as pkt
use Rattle.vc_remote.specs.declared.remote_fault.RemoteFault.{RemoteFault}
use Rattle.vc_remote.specs.declared.remote_fault.RemoteFault.TheVariants as remotes
use Rattle.vc_rev.specs.declared.refusal.RevFault.TheVariants as revs

-- what the clone refused, or what ended its call
abbrev pub of_clone : CloneFault → Failure
of_clone (clones.Unread fault) = failures.Unread fault
of_clone clones.Unexpected = failures.Unexpected
of_clone clones.TooMany = failures.Unread pkt.TooMany
of_clone (clones.Incomplete id) = failures.Incomplete id
of_clone (clones.NoValue refusal) = failures.Revision (revs.Refused refusal)
of_clone (clones.Node fault) = failures.Node fault

-- what ended the exchange
abbrev pub of_remote : RemoteFault → Failure
of_remote (remotes.Refused text) = failures.Refused text
of_remote remotes.ReadFailed = failures.ReadFailed
of_remote remotes.WriteFailed = failures.WriteFailed
of_remote (remotes.Unread fault) = failures.Unread fault
of_remote (remotes.Clone fault) = of_clone fault
of_remote (remotes.Fault fault) = failures.Fault fault
