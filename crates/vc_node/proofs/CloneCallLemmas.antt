-- What a call of a clone leads to that sends or takes messages or asks for a value: at a node that is down, for a fault, a refusal
-- and a message that is sent.
use Rattle.std.proofs.Common.{◌≡◌, ◌≢◌, ℕ, Bool, true, false, List, Option, Some, None, refl, sym, subst}
use Rattle.vc_files.specs.FileMap.{FileMap}
use Rattle.vc_files.specs.declared.faults.Fault.{Fault as FilesFault}
use Rattle.vc_message.specs.Machine.{IsWritten}
use Rattle.vc_rules.specs.Told.{Quietly}
use Rattle.vc_message.specs.Told.{SendsBytes}
use Rattle.vc_model.specs.Clone.{Awaited, CloneNode, sending}
use Rattle.vc_model.specs.CloneCall.{CloneAnswers, CloneCall, CloneObeys, CloneRefuses}
use Rattle.vc_model.specs.CloneCall.CloneCall.{Open}
use Rattle.vc_model.specs.Message.{Message}
use Rattle.vc_model.specs.Node.{Answer}
use Rattle.vc_model.specs.Node.Answer.{Declined, Did, Fault}
use Rattle.vc_model.specs.Node.Reply.{Sends}
use Rattle.vc_model.specs.Repository.{IsSound}
use Rattle.vc_model.proofs.Maps.{none_added}
use Rattle.vc_values.proofs.GitLaws.{git_rules}
use Rattle.vc_rules.specs.Git.{git}
use Rattle.vc_node.specs.Awaited.{AwaitedText, IsAwaited}
use Rattle.vc_node.specs.CloneCalls.{AnswersClone}
use Rattle.vc_node.specs.CloneFaults.{fault_answer, of_device}
use Rattle.vc_local.specs.Machine.{HoldsNode, failure_of}

-- some node is held then, and where the node before was sound, it is the machine's
abbrev pub Leads : CloneNode → CloneCall → FileMap → AwaitedText → Bool → (Answer → Option Message → Type 0) → Type 0
Leads n call new after is_up shows =
    (left : Awaited) × (m : CloneNode) × (a : Answer) × (sends : Option Message) × IsAwaited after left × HoldsNode new is_up left m × shows a sends
    × (IsSound git n.repository → CloneAnswers git git_rules n call a m sends)

-- ---- what leaves the files as they are
module _ (call : CloneCall) (content : FileMap) (waits : AwaitedText) (awaited : Awaited) (n : CloneNode) (waited : IsAwaited waits awaited) (held : HoldsNode content true awaited n) where
  -- a fault ended the call, and the node is down
  pub fault_leads : call ≢ Open → (f : FilesFault) → Leads n call content waits false (Quietly (fault_answer (of_device f)))
  fault_leads other f = (
    awaited,
    record { repository = n.repository; live = None },
    Fault (failure_of f),
    None,
    waited,
    record { shows = record { spells = held.shows.spells; live = refl }; clean = held.clean },
    record { answer = refl; sent = refl },
    λ sound. CloneAnswers.faulted awaited (failure_of f) held.shows.live other refl refl refl,
  )

  -- a refusal changes nothing
  pub refused_leads : (k : ℕ) → (IsSound git n.repository → CloneRefuses git git_rules n.repository awaited call k) → Leads n call content waits true (Quietly (Declined k))
  refused_leads k why = (
    awaited,
    n,
    Declined k,
    None,
    waited,
    held,
    record { answer = refl; sent = refl },
    λ sound. CloneAnswers.refused awaited k held.shows.live (why sound) refl refl refl,
  )

  -- a message is sent, after which this is awaited
  pub sent_leads : (after : AwaitedText) (next : Awaited) → IsAwaited after next → (m : Message) (bytes : List ℕ) → IsWritten m bytes
      → (IsSound git n.repository → CloneObeys git git_rules n.repository awaited call (sending next m)) → Leads n call content after true (SendsBytes bytes)
  sent_leads after next awaits m bytes written obeys = (
    next,
    record { repository = n.repository; live = Some next },
    Did Sends,
    Some m,
    awaits,
    record { shows = record { spells = held.shows.spells; live = refl }; clean = held.clean },
    record { message = m; written = written; answer = refl; sent = refl },
    λ sound. CloneAnswers.obeyed awaited (sending next m) held.shows.live (obeys sound) ((n.repository.objects, none_added n.repository.objects, refl), refl, refl) refl,
  )

-- ---- the same, in other words
module _ (call : CloneCall) (shows : Answer → Option Message → Type 0) (old mid new : FileMap) (waits mids after : AwaitedText) (was_up is_up was now : Bool) where
  pub as_told : new ≡ mid → after ≡ mids → was_up ≡ was → is_up ≡ now → AnswersClone call shows old mid waits mids was now → AnswersClone call shows old new waits after was_up is_up
  as_told files same before up h =
      subst (λ (c : FileMap). AnswersClone call shows old c waits after was_up is_up) (sym files)
      (subst (λ (w : AwaitedText). AnswersClone call shows old mid waits w was_up is_up) (sym same)
      (subst (λ (b : Bool). AnswersClone call shows old mid waits mids b is_up) (sym before)
      (subst (λ (b : Bool). AnswersClone call shows old mid waits mids was b) (sym up) h)))

-- a node that is down, at any call but its opening
pub down_clone : (call : CloneCall) → call ≢ Open → (old new : FileMap) (waits after : AwaitedText) (was_up is_up : Bool) → new ≡ old → after ≡ waits → is_up ≡ was_up → was_up ≡ false
    → AnswersClone call (Quietly (Declined 112)) old new waits after was_up is_up
down_clone call other old new waits after was_up is_up files same up was =
    as_told call (Quietly (Declined 112)) old old new waits waits after was_up is_up false false files same was (subst (λ (b : Bool). is_up ≡ b) was up) (record {
      each = λ awaited n waited held. (
        awaited,
        n,
        Declined 112,
        None,
        waited,
        held,
        record { answer = refl; sent = refl },
        λ sound. CloneAnswers.down held.shows.live other refl refl refl,
      );
    })
