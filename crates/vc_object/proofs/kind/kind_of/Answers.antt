use Rattle.std.proofs.Common.{◌≡◌, rules, refl, arith}
use Rattle.std.proofs.lemmas.Slice.Eq.{text_from_reads}
use Rattle.std.specs.Prelude.{codes}
use Rattle.vc_object.proofs.kind.kind_of.Goals as goal

pub returns-in-commit : goal.returns-in-commit
returns-in-commit c = let e : c.args.text.now ≡ codes "commit" = text_from_reads _ _ (omega arith) (search rules) in rw e refl
