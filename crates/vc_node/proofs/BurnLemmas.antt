-- What a call of a clone spends is what the machine allows.
use Rattle.std.proofs.Common.{Vec, ◌≡◌, ℕ, Option, Result, Ok, Err, sym, ◌∙◌}
use Rattle.std.specs.Global.{Global}
use Rattle.vc_files.specs.FileMap.{FileMap}
use Rattle.vc_model.specs.Repository.{IsSound}
use Rattle.vc_model.specs.CloneCall.CloneCall.{Asks, Command}
use Rattle.vc_model.specs.ExactWorld.{MayClone}
use Rattle.vc_model.specs.Message.{Message}
use Rattle.vc_model.specs.Node.{Answer}
use Rattle.vc_model.specs.Node.Answer.{Fault}
use Rattle.vc_model.specs.Question.Question.{PackRefs}
use Rattle.vc_model.specs.Node.Failure.{Device}
use Rattle.vc_object.specs.declared.id.ObjectId.{ObjectId}
use Rattle.vc_rules.specs.Git.{git}
use Rattle.vc_values.proofs.GitLaws.{git_rules}
use Rattle.vc_node.specs.Burning.{CallsBurn, ExchangesBurn, PacksBurn, SoundCallsBurn}
use Rattle.vc_node.specs.CloneCalls.{ReceivedAs, SentAs}
use Rattle.vc_node.specs.CloneFaults.{IsOfDevice as IsOfClonesDevice, TellsDevice as CloneTellsDevice, fault_answer as clone_answer}
use Rattle.vc_local.specs.Machine.{done_answer, made_answer}
use Rattle.vc_local.specs.NodeFault.{TellsDevice}
use Rattle.vc_local.specs.Told.{FoundAs, RestartedAs}
use Rattle.vc_node.specs.declared.clone_fault.CloneFault.{CloneFault}
use Rattle.vc_node.specs.declared.clone_fault.CloneFault.TheVariants as of_clone
use Rattle.vc_node.specs.declared.exchanging.Received.{Received}
use Rattle.vc_node.specs.declared.exchanging.Received.TheVariants.{Moved, Reported, Send}
use Rattle.vc_local.specs.declared.fault.NodeFault.{NodeFault}
use Rattle.vc_local.proofs.BurnLemmas.{burns, done_tells, made_tells, of_fault, suffices, suffices_unchanged}

calls_burn : {D T : Type 0} (honest : Type 0) (content : D → FileMap) (failed : D → ℕ) (can_fail : D → Type 0) (left : D → Option ℕ) (answer_of : Result T NodeFault → Answer)
    → ((r : Result T NodeFault) → answer_of r ≡ Fault Device → TellsDevice r) → CallsBurn honest content failed can_fail left answer_of
calls_burn honest content failed can_fail left answer_of tells old new result frail task was_up is_up awaited n is_honest can wear name keeps looks answers holds =
    let step = answers.each awaited n holds in (
      step.0,
      step.1,
      step.2,
      burns honest content failed can_fail left old new (TellsDevice result) frail (MayClone git git_rules n (Command task)) ⊥ (answer_of result) n.repository step.0.repository is_honest (tells result) (λ _. can) wear (looks awaited n holds) (suffices (content old) (content new) n.repository step.0.repository holds.shows.spells step.1.shows.spells name keeps.packed),
    )

-- the same of a command that takes it that all is there that refs reach
sound_calls_burn : {D T : Type 0} (honest : Type 0) (content : D → FileMap) (failed : D → ℕ) (can_fail : D → Type 0) (left : D → Option ℕ) (answer_of : Result T NodeFault → Answer)
    → ((r : Result T NodeFault) → answer_of r ≡ Fault Device → TellsDevice r) → SoundCallsBurn honest content failed can_fail left answer_of
sound_calls_burn honest content failed can_fail left answer_of tells old new result frail task was_up is_up awaited n is_honest can wear name keeps looks answers holds =
    let step = answers.each awaited n holds in (
      step.0,
      step.1,
      step.2,
      burns honest content failed can_fail left old new (TellsDevice result) frail (IsSound git n.repository → MayClone git git_rules n (Command task)) ⊥ (answer_of result) n.repository step.0.repository is_honest (tells result) (λ _. can) wear (looks awaited n holds) (suffices (content old) (content new) n.repository step.0.repository holds.shows.spells step.1.shows.spells name keeps.packed),
    )

-- ---- the calls

pub made_burns : {D : Type 0} (honest : Type 0) (content : D → FileMap) (failed : D → ℕ) (can_fail : D → Type 0) (left : D → Option ℕ) → CallsBurn honest content failed can_fail left made_answer
made_burns honest content failed can_fail left = calls_burn honest content failed can_fail left made_answer made_tells

pub done_burns : {D : Type 0} (honest : Type 0) (content : D → FileMap) (failed : D → ℕ) (can_fail : D → Type 0) (left : D → Option ℕ) → CallsBurn honest content failed can_fail left done_answer
done_burns honest content failed can_fail left = calls_burn honest content failed can_fail left done_answer done_tells

pub made_burns_if_sound : {D : Type 0} (honest : Type 0) (content : D → FileMap) (failed : D → ℕ) (can_fail : D → Type 0) (left : D → Option ℕ) → SoundCallsBurn honest content failed can_fail left made_answer
made_burns_if_sound honest content failed can_fail left = sound_calls_burn honest content failed can_fail left made_answer made_tells

pub done_burns_if_sound : {D : Type 0} (honest : Type 0) (content : D → FileMap) (failed : D → ℕ) (can_fail : D → Type 0) (left : D → Option ℕ) → SoundCallsBurn honest content failed can_fail left done_answer
done_burns_if_sound honest content failed can_fail left = sound_calls_burn honest content failed can_fail left done_answer done_tells

-- ---- a call that sends or takes messages, or asks for a value

of_clone_fault : (e : CloneFault) → clone_answer e ≡ Fault Device → IsOfClonesDevice e
of_clone_fault (of_clone.Node f) is = of_fault f is
of_clone_fault _ is = absurd (cc is)

exchanges_burn : {D T : Type 0} (honest : Type 0) (content : D → FileMap) (failed : D → ℕ) (can_fail : D → Type 0) (left : D → Option ℕ) (shows : Result T CloneFault → Answer → Option Message → Type 0)
    → ((r : Result T CloneFault) (a : Answer) (sends : Option Message) → shows r a sends → a ≡ Fault Device → CloneTellsDevice r) → ExchangesBurn honest content failed can_fail left shows
exchanges_burn honest content failed can_fail left shows tells old new result frail call waits after was_up is_up awaited n is_honest can wear name keeps looks answers is holds =
    let step = answers.each awaited n is holds in (
      step.0,
      step.1,
      step.2,
      step.3,
      step.4,
      step.5,
      step.6,
      step.7,
      burns honest content failed can_fail left old new (CloneTellsDevice result) frail (IsSound git n.repository → MayClone git git_rules n call) ⊥ step.2 n.repository step.1.repository is_honest (tells result step.2 step.3 step.6) (λ _. can) wear (looks awaited n is holds) (suffices (content old) (content new) n.repository step.1.repository holds.shows.spells step.5.shows.spells name keeps.packed),
    )

received_tells : (r : Result Received CloneFault) (a : Answer) (sends : Option Message) → ReceivedAs r a sends → a ≡ Fault Device → CloneTellsDevice r
received_tells (Ok (Send bytes)) a sends told is = absurd (cc (sym told.answer ∙ is))
received_tells (Ok (Moved moved left)) a sends told is = absurd (cc (sym told.answer ∙ is))
received_tells (Ok (Reported moved refused)) a sends told is = absurd (cc (sym told.answer ∙ is))
received_tells (Err e) a sends told is = of_clone_fault e (sym told.answer ∙ is)

sent_tells : (r : Result (Vec ℕ Global) CloneFault) (a : Answer) (sends : Option Message) → SentAs r a sends → a ≡ Fault Device → CloneTellsDevice r
sent_tells (Ok bytes) a sends told is = absurd (cc (sym told.answer ∙ is))
sent_tells (Err e) a sends told is = of_clone_fault e (sym told.answer ∙ is)

found_tells : (r : Result ObjectId CloneFault) (a : Answer) (sends : Option Message) → FoundAs clone_answer r a sends → a ≡ Fault Device → CloneTellsDevice r
found_tells (Ok id) a sends told is = absurd (cc (sym told.answer ∙ is))
found_tells (Err e) a sends told is = of_clone_fault e (sym told.answer ∙ is)

pub received_burns : {D : Type 0} (honest : Type 0) (content : D → FileMap) (failed : D → ℕ) (can_fail : D → Type 0) (left : D → Option ℕ) → ExchangesBurn honest content failed can_fail left ReceivedAs
received_burns honest content failed can_fail left = exchanges_burn honest content failed can_fail left ReceivedAs received_tells

pub sent_burns : {D : Type 0} (honest : Type 0) (content : D → FileMap) (failed : D → ℕ) (can_fail : D → Type 0) (left : D → Option ℕ) → ExchangesBurn honest content failed can_fail left SentAs
sent_burns honest content failed can_fail left = exchanges_burn honest content failed can_fail left SentAs sent_tells

pub found_burns : {D : Type 0} (honest : Type 0) (content : D → FileMap) (failed : D → ℕ) (can_fail : D → Type 0) (left : D → Option ℕ) → ExchangesBurn honest content failed can_fail left (FoundAs clone_answer)
found_burns honest content failed can_fail left = exchanges_burn honest content failed can_fail left (FoundAs clone_answer) found_tells

-- ---- packing the refs

packed_tells : (r : Result (Unit {0}) NodeFault) (a : Answer) (sends : Option Message) → RestartedAs r a sends → a ≡ Fault Device → TellsDevice r
packed_tells (Ok u) a sends told is = absurd (cc (sym told.answer ∙ is))
packed_tells (Err e) a sends told is = of_fault e (sym told.answer ∙ is)

pub packs_burn : {D : Type 0} (honest : Type 0) (content : D → FileMap) (failed : D → ℕ) (can_fail : D → Type 0) (left : D → Option ℕ) → PacksBurn honest content failed can_fail left
packs_burn honest content failed can_fail left old new result frail waits after was_up is_up awaited n is_honest can wear same looks answers is holds =
    let step = answers.each awaited n is holds in (
      step.0,
      step.1,
      step.2,
      step.3,
      step.4,
      step.5,
      step.6,
      step.7,
      burns honest content failed can_fail left old new (TellsDevice result) frail (IsSound git n.repository → MayClone git git_rules n (Asks PackRefs)) ⊥ step.2 n.repository step.1.repository is_honest (packed_tells result step.2 step.3 step.6) (λ _. can) wear (looks awaited n is holds)
          (suffices_unchanged (content old) (content new) n.repository step.1.repository holds.shows.spells step.5.shows.spells same),
    )
