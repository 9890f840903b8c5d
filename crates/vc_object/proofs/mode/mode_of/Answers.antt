use Rattle.std.proofs.Common.{◌≡◌, rules, refl, arith}
use Rattle.std.proofs.lemmas.Slice.Eq.{text_from_reads}
use Rattle.std.specs.Prelude.{codes}
use Rattle.vc_object.proofs.mode.mode_of.Goals as goal

pub returns-in-49 : goal.returns-in-49
returns-in-49 c = let e : c.args.text.now ≡ codes "100644" = text_from_reads _ _ (omega arith) (search rules) in rw e refl

pub returns-in-49-2 : goal.returns-in-49-2
returns-in-49-2 c = let e : c.args.text.now ≡ codes "100664" = text_from_reads _ _ (omega arith) (search rules) in rw e refl

pub returns-in-49-3 : goal.returns-in-49-3
returns-in-49-3 c = let e : c.args.text.now ≡ codes "100755" = text_from_reads _ _ (omega arith) (search rules) in rw e refl

pub returns-in-49-4 : goal.returns-in-49-4
returns-in-49-4 c = let e : c.args.text.now ≡ codes "120000" = text_from_reads _ _ (omega arith) (search rules) in rw e refl

pub returns-in-49-5 : goal.returns-in-49-5
returns-in-49-5 c = let e : c.args.text.now ≡ codes "160000" = text_from_reads _ _ (omega arith) (search rules) in rw e refl
