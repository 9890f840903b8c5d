-- What a call answers over any files it answers over clean ones, of which none is bad.
use Rattle.std.proofs.Common.{inl, inr, ℕ, List, Result}
use Rattle.vc_files.specs.FileMap.{FileMap}
use Rattle.vc_model.specs.Clone.{Task}
use Rattle.vc_model.specs.Node.{Answer}
use Rattle.vc_local.proofs.AnswerLemmas.{no_bad_told}
use Rattle.vc_local.proofs.CleanLemmas.{still_clean}
use Rattle.vc_local.specs.Clean.{KeepsClean, KeepsCleanBut}
use Rattle.vc_local.specs.Machine.{AnswersShown, AnswersShownIfSound, OrBadFile, done_answer}
use Rattle.vc_local.specs.Shown.{shown}
use Rattle.vc_local.specs.Staging.{StagesShown}
use Rattle.vc_local.specs.declared.fault.NodeFault.{NodeFault}
use Rattle.vc_local.specs.declared.staging.Staged.{Staged}
use Rattle.vc_node.specs.Held.{Held}
use Rattle.vc_node.specs.Node.{AnswersCommand, AnswersCommandIfSound, AnswersStaging}

-- of a command
pub answered : {F T : Type 0} (name : List ℕ) (content : F → FileMap) (task : Task) (told : Result T NodeFault → Answer) (result : Result T NodeFault) (old new : Held F)
    → OrBadFile (content old.files) result (AnswersShown task (told result) old.is_up new.is_up (shown (content old.files)) (shown (content new.files))) → KeepsCleanBut name (content old.files) (content new.files)
    → AnswersCommand content task told result old new
answered name content task told result old new any keeps = record {
  held = record {
    each = λ awaited n holds. elim any [
      | inl bad ↦ absurd (no_bad_told (content old.files) result holds.clean bad)
      | inr answers ↦
          let g = answers.each awaited n holds.shows in
          (g.0, record { shows = g.1; clean = still_clean (content old.files) (content new.files) keeps holds.clean }, g.2)
    ];
  };
  any = any;
}

-- the same of a command that takes it that all is there that refs reach
pub answered_if_sound : {F T : Type 0} (content : F → FileMap) (task : Task) (told : Result T NodeFault → Answer) (result : Result T NodeFault) (old new : Held F)
    → OrBadFile (content old.files) result (AnswersShownIfSound task (told result) old.is_up new.is_up (shown (content old.files)) (shown (content new.files))) → KeepsClean (content old.files) (content new.files)
    → AnswersCommandIfSound content task told result old new
answered_if_sound content task told result old new any keeps = record {
  held = record {
    each = λ awaited n holds. elim any [
      | inl bad ↦ absurd (no_bad_told (content old.files) result holds.clean bad)
      | inr answers ↦
          let g = answers.each awaited n holds.shows in
          (g.0, record { shows = g.1; clean = still_clean (content old.files) (content new.files) keeps holds.clean }, g.2)
    ];
  };
  any = any;
}

-- the same of many files at once
pub staged : {F : Type 0} (content : F → FileMap) (files : List Staged) (result : Result (Unit {0}) NodeFault) (old new : Held F)
    → StagesShown files (done_answer result) old.is_up new.is_up (shown (content old.files)) (shown (content new.files)) → KeepsClean (content old.files) (content new.files) → AnswersStaging content files result old new
staged content files result old new any keeps = record {
  held = record {
    each = λ awaited n each holds are.
        let g = any.each awaited n each holds.shows are in
        (g.0, record { shows = g.1; clean = still_clean (content old.files) (content new.files) keeps holds.clean }, g.2);
  };
  any = any;
}
