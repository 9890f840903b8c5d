use Rattle.std.proofs.Common.{rules}
use Rattle.vc_arguments.proofs.FormLemmas.{choices_in}
use Rattle.vc_arguments.proofs.forms.index_forms.Goals as goal

pub returns : goal.returns
returns c = (choices_in 0 2 c.as_slice.result.now, search rules, search rules)
