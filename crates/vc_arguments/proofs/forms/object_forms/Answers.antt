use Rattle.std.proofs.Common.{rules}
use Rattle.vc_arguments.proofs.FormLemmas.{choices_in}
use Rattle.vc_arguments.proofs.forms.object_forms.Goals as goal

pub returns : goal.returns
returns c = (choices_in 1 1 c.as_slice.result.now, choices_in 2 1 c.as_slice.result.now, search rules, search rules, search rules)
