use Rattle.std.proofs.Common.{rules, refl, subst, sym, ◌∙◌, ap}
use Rattle.std.specs.FinMap as files
use Rattle.vc_files.proofs.MemoryLemmas.{files_of-unset}
use Rattle.vc_files.proofs.WearLemmas.{unput_differ}
use Rattle.vc_files.specs.Failures.{DifferAtMost}
use Rattle.vc_files.specs.FileMap.{FileMap}
use Rattle.vc_files.proofs.memory.MemoryFilesFiles.remove.Goals as goal

pub returns-clause-ok : goal.returns-clause-ok
returns-clause-ok c = λ _. files_of-unset c.self.inside.map c.remove.new.self c.args.path.now c.remove.ensures.updates ∙ ap (λ m. files.remove m c.args.path.now) c.self.view_is

pub returns-clause-wear : goal.returns-clause-wear
returns-clause-wear c = record {
  later = search rules;
  calm = λ can. absurd can;
  failed_now = search rules;
  made = 1;
  spent = refl;
  could = search rules;
  differ = λ h. subst (λ (m : FileMap). DifferAtMost 1 c.args.self.now m) (sym (returns-clause-ok c h)) (unput_differ c.args.self.now c.args.path.now);
}
