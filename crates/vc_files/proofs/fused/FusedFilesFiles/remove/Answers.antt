use Rattle.std.proofs.Common.{rules, ◌≡◌}
use Rattle.vc_files.proofs.FusedLemmas.{passed_writes, unput_outcome}
use Rattle.vc_files.proofs.WearLemmas.{writes_from}
use Rattle.vc_files.proofs.fused.FusedFilesFiles.remove.Goals as goal

pub returns-clause-wear : goal.returns-clause-wear
returns-clause-wear g c =
    let files : c.self.inside.files ≡ c.args.self.now.files = search rules in
    passed_writes c.args.self.now (record { files = c.remove.new.self; fuse = c.self.inside.fuse; refused = c.self.inside.refused }) _ (search rules) (search rules) (search rules) (search rules)
    (λ h. unput_outcome _ _ c.args.path.now c.remove.result (search rules) (search rules)) (writes_from files c.remove.ensures.wear)
