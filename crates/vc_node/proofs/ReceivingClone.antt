-- What becomes of a clone's node with a message: where it is taken, where a fault cuts that short, and where nothing is done.
use Rattle.std.proofs.Common.{◌≡◌, ℕ, Bool, true, false, Option, Some, None, Result, Ok, Err, refl, sym, ap, ◌∙◌, subst}
use Rattle.std.specs.Prelude.{IfErr, codes, option_map}
use Rattle.std.specs.FinMap.{get}
use Rattle.vc_exchange.specs.Deeds.{HoldsHead, IsCutShort, IsReceived}
use Rattle.vc_exchange.specs.Deeds.IsCutShort.{at_first, within}
use Rattle.vc_tracking.specs.Storing.{KeepsBeside}
use Rattle.vc_exchange.proofs.WantingHaves.{bytes_back}
use Rattle.vc_files.specs.FileMap.{FileMap, SameOutside}
use Rattle.vc_format.specs.Git.{bytes_of_id}
use Rattle.vc_model.specs.Clone.{Awaited, CloneNode}
use Rattle.vc_model.specs.CloneCall.{CloneAnswers, CloneCall}
use Rattle.vc_model.specs.CloneCall.CloneCall.{Asks, Receive}
use Rattle.vc_model.specs.Message.{Message}
use Rattle.vc_model.specs.Node.{Answer, Failure, Reply}
use Rattle.vc_model.specs.Node.Answer.{Declined, Did, Fault}
use Rattle.vc_model.specs.Object.{Id}
use Rattle.vc_model.specs.Question.Question.{Unread as AsksUnread}
use Rattle.vc_model.specs.Refs.{Head as MachineHead}
use Rattle.vc_model.specs.Refs.Head.{Detached, OnBranch}
use Rattle.vc_model.specs.Repository.{Repository}
use Rattle.vc_refs.specs.Head.{head_value}
use Rattle.vc_refs.specs.Refs.{refs}
use Rattle.vc_refs.specs.declared.heads.Head.{Head}
use Rattle.vc_refs.specs.declared.heads.Head.TheVariants as heads
use Rattle.vc_quarantine.specs.Clean.{MakesNoneBad}
use Rattle.vc_local.proofs.BesideLemmas.{SameBeside, beside_by, clean_on, spells_on}
use Rattle.vc_node.proofs.CloneCallLemmas.{Leads}
use Rattle.vc_node.specs.Awaited.{AwaitedText, IsAwaited}
use Rattle.vc_node.specs.CloneCalls.{AnswersUp, MayOr, ReceivedAs}
use Rattle.vc_node.specs.CloneFaults.{up_after}
use Rattle.vc_local.specs.Machine.{HoldsNode, Spells, machine_head}
use Rattle.vc_node.specs.Receipts.{IsOfMessage}
use Rattle.vc_local.specs.Shown.{shown}
use Rattle.vc_node.specs.declared.clone_fault.CloneFault.{CloneFault}
use Rattle.vc_node.specs.declared.exchanging.Received.{Received}

-- ---- the repository

abbrev value_of : Repository → MachineHead → Option Id
value_of r h = elim h [ OnBranch b ↦ get r.refs b | Detached x ↦ Some x ]

value_by : (content : FileMap) (r : Repository) → Spells (shown content) r → (head : Head) → option_map bytes_of_id (head_value (refs content) (Some head)) ≡ value_of r (machine_head head)
value_by content r spells (heads.Branch name) = ap (option_map bytes_of_id) (spells.refs name) ∙ bytes_back (get r.refs name)
value_by content r spells (heads.Id id) = refl

pub head_held : (content : FileMap) (r : Repository) → Spells (shown content) r → HoldsHead content r
head_held content r spells =
    ap (λ (h : Option Head). option_map bytes_of_id (head_value (refs content) h)) spells.head_shown
    ∙ (value_by content r spells spells.head ∙ ap (value_of r) (sym spells.head_is))

pub beside_refs : (old new : FileMap) → SameOutside (codes "refs/") old new → SameBeside old new
beside_refs old new same = beside_by old new (same.at (codes "HEAD") refl) (same.at (codes "index") refl)

pub beside_kept : (old new : FileMap) → KeepsBeside old new → SameBeside old new
beside_kept old new kept = beside_by old new (kept.at (codes "HEAD") refl refl) (kept.at (codes "index") refl refl)

-- nothing changed, or refs alone
pub nothing_beside : (content : FileMap) → KeepsBeside content content
nothing_beside content = record { at = λ path object ref. refl }

pub refs_beside : (old new : FileMap) → SameOutside (codes "refs/") old new → KeepsBeside old new
refs_beside old new same = record { at = λ path object ref. same.at path ref }

-- ---- what a held node leads to
module _ (old : FileMap) (waits : AwaitedText) (awaited : Awaited) (n : CloneNode) (is : IsAwaited waits awaited) (held : HoldsNode old true awaited n) where
  -- bytes that are no message
  pub unread_leads : (k : ℕ) (shows : Answer → Option Message → Type 0) → shows (Declined k) None → Leads n (Asks (AsksUnread k)) old waits true shows
  unread_leads k shows shown_so = (awaited, n, Declined k, None, is, held, shown_so, λ sound. CloneAnswers.asked awaited (AsksUnread k) held.shows.live refl refl refl refl)

  module _ (new : FileMap) (m : Message) (beside : SameBeside old new) (bad : MakesNoneBad old new) (shows : Answer → Option Message → Type 0) where
    -- it is taken
    pub received_leads : (after : AwaitedText) (left : Awaited) (sends : Option Message) (reply : Reply) → IsReceived n.repository awaited m new left sends reply → IsAwaited after left → shows (Did reply) sends
        → Leads n (Receive m) new after true shows
    received_leads after left sends reply did waiting shown_so = (
      left,
      record { repository = did.after; live = Some left },
      Did reply,
      sends,
      waiting,
      record {
        shows = record { spells = spells_on old new n.repository did.after held.shows.spells did.content beside did.head did.index; live = refl };
        clean = clean_on old new bad held.clean;
      },
      shown_so,
      λ sound. CloneAnswers.obeyed awaited (record { effect = did.effect; left = left; sends = sends; reply = reply }) held.shows.live (did.receives sound) (did.done, refl, refl) refl,
    )

    -- a fault left nothing of it, or some
    pub cut_leads : (f : Failure) → IsCutShort n.repository awaited m new → shows (Fault f) None → Leads n (Receive m) new waits false shows
    cut_leads f (at_first content) shown_so = (
      awaited,
      record { repository = n.repository; live = None },
      Fault f,
      None,
      is,
      record {
        shows = record { spells = spells_on old new n.repository n.repository held.shows.spells content beside refl refl; live = refl };
        clean = clean_on old new bad held.clean;
      },
      shown_so,
      λ sound. CloneAnswers.faulted awaited f held.shows.live (λ never. cc never) refl refl refl,
    )
    cut_leads f (within part) shown_so = (
      awaited,
      record { repository = part.after; live = None },
      Fault f,
      None,
      is,
      record {
        shows = record { spells = spells_on old new n.repository part.after held.shows.spells part.content beside part.head part.index; live = refl };
        clean = clean_on old new bad held.clean;
      },
      shown_so,
      λ sound. CloneAnswers.obeyed awaited part.deed held.shows.live (part.receives sound) (part.stops, refl) refl,
    )

-- ---- the answer of a node that is up
pub up_answers : (call : CloneCall) (result : Result Received CloneFault) (old new : FileMap) (waits after : AwaitedText)
    → ((awaited : Awaited) (n : CloneNode) → IsAwaited waits awaited → HoldsNode old true awaited n → Leads n call new after (up_after result) (ReceivedAs result)) → AnswersUp call result old new waits after
up_answers call result old new waits after leads was_up is_up was up = record {
  each = λ awaited n is held.
      subst (λ (b : Bool). Leads n call new after b (ReceivedAs result)) (sym up)
      (leads awaited n is (subst (λ (b : Bool). HoldsNode old b awaited n) was held));
}

-- a result that is another one, told in other words
pub answers_as : (call : CloneCall) (old new : FileMap) (waits after : AwaitedText) (result told : Result Received CloneFault) → result ≡ told → AnswersUp call told old new waits after → AnswersUp call result old new waits after
answers_as call old new waits after result told same answers = subst (λ (r : Result Received CloneFault). AnswersUp call r old new waits after) (sym same) answers

-- ---- what a method tells of it
pub may_up : {IsLook : Type 0} (call : CloneCall) (waits : AwaitedText) (content : FileMap) (up : Bool) → up ≡ true → MayOr call waits true content IsLook → MayOr call waits up content IsLook
may_up call waits content up is may awaited n waiting held = may awaited n waiting (subst (λ (b : Bool). HoldsNode content b awaited n) is held)

-- where nothing changed
pub kept_here : {P : Type 0} (q : Result Received CloneFault) → P → IfErr q (λ e. IsOfMessage e → P)
kept_here (Ok x) holds = tt
kept_here (Err e) holds = λ told. holds
