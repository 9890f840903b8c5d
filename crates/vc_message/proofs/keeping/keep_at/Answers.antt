use Rattle.vc_message.proofs.KeepingLaws.{fault_kept}
use Rattle.vc_message.proofs.keeping.keep_at.Goals as goal

pub returns-clause-fault : goal.returns-clause-fault
returns-clause-fault g c =
    rw c.kept_as.ensures (fault_kept g.R.Source.remaining g.R.Source.failed g.R.Source.can_fail g.J.Origin.front g.J.Origin.failed g.J.Origin.can_fail c.args.source c.into_parts-source.result.0 c.into_parts-source.result.1 c.args.limit c.into_parts-source.result.2 c.new-keeping.result c.skip_message-skipped.new.reader c.new-keeping.ensures c.into_parts-source.ensures.source c.into_parts-source.ensures.is c.requires.front c.skip_message-skipped.result c.skip_message-skipped.ensures.message c.skip_message-skipped.ensures.fault)
