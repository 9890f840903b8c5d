-- What a call of a clone spends of the writes left, over files behind which a fuse may have blown.
use Rattle.std.proofs.Common.{◌≡◌, ◌≢◌, ◌⊎◌, inl, inr, ℕ, Bool, true, false, Option, Some, None, refl, sym, ◌∙◌}
use Rattle.vc_files.specs.FileMap.{FileMap}
use Rattle.vc_files.specs.Failures.{Wears}
use Rattle.vc_model.specs.Clone.{Awaited, CloneNode}
use Rattle.vc_model.specs.CloneCall.{CloneAnswers, CloneCall}
use Rattle.vc_model.specs.CloneCall.CloneCall.{Open}
use Rattle.vc_model.specs.CloneCall.CloneAnswers.{asked, down, faulted, obeyed, opened, pruned, refused}
use Rattle.vc_model.specs.ExactWorld.{MayClone}
use Rattle.vc_model.specs.Message.{Message}
use Rattle.vc_model.specs.Node.{Answer}
use Rattle.vc_model.specs.Node.Answer.{Declined, Fault}
use Rattle.vc_model.specs.Node.Failure.{Device}
use Rattle.vc_values.proofs.GitLaws.{git_rules}
use Rattle.vc_rules.specs.Git.{git}
use Rattle.vc_local.proofs.BurnLemmas.{burns, suffices}
use Rattle.vc_node.specs.Burning.{CloneBurns, CloneSuffices}
use Rattle.vc_local.specs.Machine.{HoldsNode}

no_fault : (n m : CloneNode) (call : CloneCall) (a : Answer) (s : Option Message) → n.live ≡ None → call ≢ Open → CloneAnswers git git_rules n call a m s → a ≡ Fault Device → ⊥
no_fault n m call a s none not answers is = elim answers [
  | down live other said same quiet ↦ let e : ◌≡◌ {A = Answer} (Fault Device) (Declined 112) = sym is ∙ said in absurd (cc e)
  | asked w q live comes tells same quiet ↦ let e : None ≡ Some w = sym none ∙ live in absurd (cc e)
  | refused w k live why said same quiet ↦ let e : None ≡ Some w = sym none ∙ live in absurd (cc e)
  | obeyed w d live obeys ends sends ↦ let e : None ≡ Some w = sym none ∙ live in absurd (cc e)
  | pruned w live comes ends quiet ↦ let e : None ≡ Some w = sym none ∙ live in absurd (cc e)
  | opened comes ends quiet ↦ absurd (not comes)
  | faulted w f live other said same quiet ↦ let e : None ≡ Some w = sym none ∙ live in absurd (cc e)
]

told_up : (content : FileMap) (up : Bool) (awaited : Awaited) (n m : CloneNode) (call : CloneCall) (a : Answer) (s : Option Message) → HoldsNode content up awaited n → call ≢ Open
    → CloneAnswers git git_rules n call a m s → a ≡ Fault Device → up ≡ true
told_up content true awaited n m call a s held not answers is = refl
told_up content false awaited n m call a s held not answers is = absurd (no_fault n m call a s held.shows.live not answers is)

pub clone_suffices : CloneSuffices
clone_suffices name old new is_up awaited n held keeps s spells k differ = suffices old new n.repository s held.shows.spells spells name keeps.packed k differ

pub clone_burns : {D R : Type 0} (honest : Type 0) (content : D → FileMap) (failed : D → ℕ) (can_fail : D → Type 0) (left : D → Option ℕ) (shows : R → Answer → Option Message → Type 0) (tells_device : R → Type 0)
    → CloneBurns honest content failed can_fail left shows tells_device
clone_burns {D} {R} honest content failed can_fail left shows tells_device old new result frail call waits after was_up is_up awaited n is_honest other calm writes ups enough tells looks answers awaits holds =
    let step = answers.each awaited n awaits holds in (
      step.0,
      step.1,
      step.2,
      step.3,
      step.4,
      step.5,
      λ up can. elim (writes.calm can) [ inl before ↦ calm (ups up).0 before | inr device ↦ absurd ((ups up).1 device) ],
      step.6,
      λ sound.
          let exact = step.7 sound in
          let may : MayClone git git_rules n call ⊎ Wears failed can_fail left old new (tells_device result) = elim (looks awaited n awaits holds) [ inl wants ↦ inl (wants sound) | inr look ↦ inr look ] in (
            exact,
            burns honest content failed can_fail left old new (tells_device result) frail (MayClone git git_rules n call) ⊥ step.2 n.repository step.1.repository is_honest (tells step.2 step.3 step.6)
                (λ is can. calm (told_up (content old) was_up awaited n step.1 call step.2 step.3 holds other exact is) can) writes may
                (enough step.1.repository step.5.shows.spells),
          ),
    )
