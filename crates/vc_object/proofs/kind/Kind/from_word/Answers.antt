use Rattle.vc_object.proofs.Commits.{kind_read, kind_found}
use Rattle.vc_object.proofs.kind.Kind.from_word.Goals as goal

pub returns-clause-word : goal.returns-clause-word
returns-clause-word c = kind_read c.args.text.now c.kind_of.result c.kind_of.ensures

pub returns-clause-found : goal.returns-clause-found
returns-clause-found c = kind_found c.args.text.now c.kind_of.result c.kind_of.ensures
