use Rattle.std.proofs.Common.{refl, subst, sym, rules, ◌≡◌, ap}
use Rattle.std.specs.Prelude.{string_bytes}
use Rattle.std.specs.FinMap as files
use Rattle.vc_files.proofs.MemoryLemmas.{files_of-set}
use Rattle.vc_files.proofs.WearLemmas.{put_differ}
use Rattle.vc_files.specs.Failures.{DifferAtMost}
use Rattle.vc_files.specs.FileMap.{FileMap}
use Rattle.vc_files.proofs.memory.MemoryFilesFiles.put.Goals as goal

pub returns-clause-ok : goal.returns-clause-ok
returns-clause-ok c = λ _.
    let key : string_bytes c.in_ok-key.key ≡ c.args.path.now = search rules in
    let value : c.in_ok-value.value.items ≡ c.args.bytes.now = search rules in
    rw (files_of-set c.self.inside.map c.insert.new.self (string_bytes c.in_ok-key.key) c.in_ok-value.value c.in_ok-insert.ensures.updates, key, value)
    (ap (λ m. files.insert m c.args.path.now c.args.bytes.now) c.self.view_is)

pub returns-clause-wear : goal.returns-clause-wear
returns-clause-wear c = record {
  later = search rules;
  calm = λ can. absurd can;
  failed_now = search rules;
  made = 1;
  spent = refl;
  could = search rules;
  differ = λ h. subst (λ (m : FileMap). DifferAtMost 1 c.args.self.now m) (sym (returns-clause-ok c h)) (put_differ c.args.self.now c.args.path.now c.args.bytes.now);
}
