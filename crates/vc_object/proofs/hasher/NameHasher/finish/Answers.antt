use Rattle.std.proofs.Common.{rules}
use Rattle.vc_object.proofs.IdLemmas.{is_id-from_array}
use Rattle.vc_object.proofs.hasher.NameHasher.finish.Goals as goal

pub returns-clause-valid : goal.returns-clause-valid
returns-clause-valid c = is_id-from_array (record { 0 = c.finalize.result }) (search rules) (λ i. search rules)
