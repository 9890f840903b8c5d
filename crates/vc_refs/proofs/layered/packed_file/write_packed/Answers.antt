use Rattle.std.proofs.Common.{rules}
use Rattle.vc_files.proofs.WearLemmas.{writes_none}
use Rattle.vc_refs.proofs.layered.packed_file.write_packed.Goals as goal

pub returns-in_err-text-clause-wear : goal.returns-in_err-text-clause-wear
returns-in_err-text-clause-wear g c = writes_none (λ told. search rules)

pub returns-clause-written : goal.returns-clause-written
returns-clause-written g c = λ honest. rw (c.deref.ensures.value, c.in_ok-text.ensures.text) at (c.in_ok-put.ensures.ok honest)
