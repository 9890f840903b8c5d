-- A message at a clone, kind by kind, as the machine answers it: where it is awaited, and where it isn't.
use Rattle.std.proofs.Common.{◌≡◌, ◌⊎◌, inl, inr, ℕ, true, List, Vec, Option, Some, None, Result, Ok, Err, refl, sym, ap, ◌∙◌, subst}
use Rattle.std.specs.Global.{Global}
use Rattle.std.specs.Prelude.{IfErr, IsErrAnd, codes}
use Rattle.vc_exchange.specs.Deeds.{ChangesAt, HoldsHead, IsCutShort, IsReceived}
use Rattle.vc_tracking.specs.Faults.{BlamesFiles}
use Rattle.vc_tracking.specs.Moving.{Told, told_in}
use Rattle.vc_exchange.specs.Receiving.{AreRefs, BlamesAdvert, BlamesPack, DeclinesPack, awaited_pack}
use Rattle.vc_tracking.specs.declared.fault.ExchangeFault.{ExchangeFault}
use Rattle.vc_tracking.specs.declared.fault.ExchangeFault.TheVariants as exchange
use Rattle.vc_fetch.specs.Advert.{AdvertText}
use Rattle.vc_fetch.specs.Pack.{PackText}
use Rattle.vc_files.specs.FileMap.{FileMap, SameOutside}
use Rattle.vc_message.specs.AnyMessage.{MessageText, a_list, a_pack as pack_message, a_push, a_report, a_want, an_advert as advert_message, an_error}
use Rattle.vc_message.specs.Machine.{IsAdvert, IsPack, IsReport, IsWritten, TextOf}
use Rattle.vc_message.specs.AnyView.{message_text}
use Rattle.vc_message.specs.declared.message.Message.{Message as ReadMessage}
use Rattle.vc_model.specs.Clone.{Awaited, CloneNode, ReceivesNot}
use Rattle.vc_model.specs.Clone.Awaited.{APack, AnAdvert, Nothing}
use Rattle.vc_model.specs.CloneCall.{CloneCall}
use Rattle.vc_model.specs.CloneCall.CloneCall.{Receive}
use Rattle.vc_model.specs.ExactWorld.{MayClone}
use Rattle.vc_model.specs.Fuse.{CloneWrites}
use Rattle.vc_model.specs.Message.{Message}
use Rattle.vc_model.specs.Message.Message.{Advert, Error, ListRefs, Pack, Push, Report, Want}
use Rattle.vc_model.specs.Node.Reply.{Moved as MovedRefs, Reported as ReportedRefs, Sends}
use Rattle.vc_model.specs.Refs.{Refs}
use Rattle.vc_model.specs.Repository.{IsSound, Repository}
use Rattle.vc_object.specs.declared.id.ObjectId.{ObjectId}
use Rattle.vc_push.specs.Report.{ReportText}
use Rattle.vc_values.proofs.GitLaws.{git_rules}
use Rattle.vc_rules.specs.Git.{git}
use Rattle.vc_rules.specs.OpenPushes.{HoldsContent}
use Rattle.vc_quarantine.specs.Clean.{MakesNoneBad}
use Rattle.vc_node.proofs.CloneCallLemmas.{Leads, refused_leads}
use Rattle.vc_local.proofs.BesideLemmas.{SameBeside, held_content}
use Rattle.vc_node.proofs.ReceivingClone.{beside_refs, cut_leads, head_held, received_leads, up_answers}
use Rattle.vc_node.proofs.ReceivingFaults.{IsFailing, advert_fails, files_fail, incomplete_alone, pack_fails}
use Rattle.vc_node.specs.Awaited.{AwaitedText, IsAwaited, a_pack, an_advert, awaited_text, nothing}
use Rattle.vc_node.specs.CloneCalls.{AnswersUp, MayOr, ReceivedAs}
use Rattle.vc_node.specs.CloneFaults.{of_device, of_exchange, up_after}
use Rattle.vc_local.specs.Machine.{HoldsNode, failure_of}
use Rattle.vc_node.specs.Receipts.{IsOfMessage, IsRefusedMessage}
use Rattle.vc_node.specs.declared.awaited.Awaited.{Awaited as Waiting}
use Rattle.vc_node.specs.declared.awaited.Awaited.TheVariants as of
use Rattle.vc_node.specs.declared.clone_fault.CloneFault.{CloneFault}
use Rattle.vc_node.specs.declared.clone_fault.CloneFault.TheVariants.{Unexpected}
use Rattle.vc_node.specs.declared.exchanging.Received.{Received}
use Rattle.vc_node.specs.declared.exchanging.Received.TheVariants.{Moved, Reported, Send}

-- ---- what a fault is told as
pub err_is : {T : Type 0} (e : CloneFault) (q : Result T CloneFault) → IsErrAnd q (λ x. x ≡ e) → q ≡ Err e
err_is e (Ok x) never = absurd never
err_is e (Err x) is = ap Err is

-- a fault cut it short
module _ (old new : FileMap) (waits : AwaitedText) (awaited : Awaited) (n : CloneNode) (is : IsAwaited waits awaited) (held : HoldsNode old true awaited n) (m : Message) (beside : SameBeside old new) (bad : MakesNoneBad old new) where
  failed_leads : (q : Result Received CloneFault) (e : CloneFault) → q ≡ Err e → IsFailing e → IsCutShort n.repository awaited m new → Leads n (Receive m) new waits (up_after q) (ReceivedAs q)
  failed_leads q e told (f, failing) cut =
      subst (λ (x : Result Received CloneFault). Leads n (Receive m) new waits (up_after x) (ReceivedAs x)) (sym (told ∙ ap Err failing))
      (cut_leads old waits awaited n is held new m beside bad (ReceivedAs (Err (of_device f))) (failure_of f) cut (record { answer = refl; sent = refl }))

-- what is awaited is told in another way
module _ (call : CloneCall) (q : Result Received CloneFault) (old new : FileMap) (w v : AwaitedText) (is : w ≡ v) where
  pub awaiting : (after : AwaitedText) → AnswersUp call q old new v after → AnswersUp call q old new w after
  awaiting after answers = subst (λ (x : AwaitedText). AnswersUp call q old new x after) (sym is) answers

  pub still_awaiting : AnswersUp call q old new v v → AnswersUp call q old new w w
  still_awaiting answers = subst (λ (x : AwaitedText). AnswersUp call q old new x x) (sym is) answers

pub same_pack : (a b : List ObjectId) (s t : List (Vec ℕ Global × ObjectId)) → a ≡ b → s ≡ t → a_pack a (told_in s) ≡ a_pack b (told_in t)
same_pack a b s t ids refs i = a_pack (ids i) (told_in (refs i))

-- ---- a report
module _ (old new : FileMap) (waits : AwaitedText) (m : Message) (report : ReportText) (is : IsReport m report) (outside : SameOutside (codes "refs/") old new) (bad : MakesNoneBad old new) where
  pub report_taken : (moved : ℕ) (refused : Vec ℕ Global)
      → ((r : Repository) → HoldsContent old r → (k : Message) → IsReport k report → (awaits : Awaited) → IsReceived r awaits k new awaits None (ReportedRefs moved refused.items))
      → AnswersUp (Receive m) (Ok (Reported moved refused)) old new waits waits
  report_taken moved refused taken =
      up_answers (Receive m) (Ok (Reported moved refused)) old new waits waits (λ awaited n waiting held.
      received_leads old waits awaited n waiting held new m (beside_refs old new outside) bad (ReceivedAs (Ok (Reported moved refused))) waits awaited None (ReportedRefs moved refused.items)
      (taken n.repository (held_content old n.repository held.shows.spells) m is awaited) waiting (record { answer = refl; sent = refl }))

  pub report_failed : (fault : ExchangeFault) (q : Result Received CloneFault) → IsErrAnd q (λ x. x ≡ of_exchange fault) → BlamesFiles old fault
      → ((r : Repository) → HoldsContent old r → (k : Message) → IsReport k report → (awaits : Awaited) → IsCutShort r awaits k new) → AnswersUp (Receive m) q old new waits waits
  report_failed fault q told why cut =
      up_answers (Receive m) q old new waits waits (λ awaited n waiting held.
      failed_leads old new waits awaited n waiting held m (beside_refs old new outside) bad q (of_exchange fault) (err_is (of_exchange fault) q told) (files_fail old held.clean fault why)
      (cut n.repository (held_content old n.repository held.shows.spells) m is awaited))

-- ---- an advertisement that is awaited
module _ (old new : FileMap) (m : Message) (advert : AdvertText) (is : IsAdvert m advert) (outside : SameOutside (codes "refs/") old new) (bad : MakesNoneBad old new) where
  as_advert : (r : Repository) (awaited : Awaited) (left : Awaited) (sends : Option Message) (reply : _) → awaited ≡ AnAdvert → IsReceived r AnAdvert m new left sends reply → IsReceived r awaited m new left sends reply
  as_advert r awaited left sends reply same did = subst (λ (a : Awaited). IsReceived r a m new left sends reply) (sym same) did

  pub advert_wanted : (wants : List ObjectId) (told : List Told) (bytes : Vec ℕ Global)
      → ((r : Repository) → HoldsContent old r → HoldsHead old r → (k : Message) → IsAdvert k advert
      → (refs : Refs) × (want : Message) × AreRefs refs told × IsReceived r AnAdvert k new (awaited_pack wants refs) (Some want) Sends × IsWritten want bytes.items)
      → AnswersUp (Receive m) (Ok (Send bytes)) old new an_advert (a_pack wants told)
  advert_wanted wants told bytes taken =
      up_answers (Receive m) (Ok (Send bytes)) old new an_advert (a_pack wants told) (λ awaited n waiting held.
      let did = taken n.repository (held_content old n.repository held.shows.spells) (head_held old n.repository held.shows.spells) m is in
      received_leads old an_advert awaited n waiting held new m (beside_refs old new outside) bad (ReceivedAs (Ok (Send bytes))) (a_pack wants told) (awaited_pack wants did.0) (Some did.1) Sends
      (as_advert n.repository awaited (awaited_pack wants did.0) (Some did.1) Sends waiting did.3) (did.0, did.2, refl) (record { message = did.1; written = did.4; answer = refl; sent = refl }))

  pub advert_followed : (moved left : ℕ)
      → ((r : Repository) → HoldsContent old r → HoldsHead old r → (k : Message) → IsAdvert k advert → IsReceived r AnAdvert k new Nothing None (MovedRefs moved left))
      → AnswersUp (Receive m) (Ok (Moved moved left)) old new an_advert nothing
  advert_followed moved left taken =
      up_answers (Receive m) (Ok (Moved moved left)) old new an_advert nothing (λ awaited n waiting held.
      received_leads old an_advert awaited n waiting held new m (beside_refs old new outside) bad (ReceivedAs (Ok (Moved moved left))) nothing Nothing None (MovedRefs moved left)
      (as_advert n.repository awaited Nothing None (MovedRefs moved left) waiting (taken n.repository (held_content old n.repository held.shows.spells) (head_held old n.repository held.shows.spells) m is)) refl
      (record { answer = refl; sent = refl }))

  pub advert_failed : (fault : ExchangeFault) (q : Result Received CloneFault) → IsErrAnd q (λ x. x ≡ of_exchange fault) → BlamesAdvert old fault
      → ((r : Repository) → HoldsContent old r → (k : Message) → IsAdvert k advert → IsCutShort r AnAdvert k new) → AnswersUp (Receive m) q old new an_advert an_advert
  advert_failed fault q told why cut =
      up_answers (Receive m) q old new an_advert an_advert (λ awaited n waiting held.
      failed_leads old new an_advert awaited n waiting held m (beside_refs old new outside) bad q (of_exchange fault) (err_is (of_exchange fault) q told)
      (advert_fails old held.shows.spells.head held.shows.spells.head_shown held.clean fault why)
      (subst (λ (a : Awaited). IsCutShort n.repository a m new) (sym waiting) (cut n.repository (held_content old n.repository held.shows.spells) m is)))

-- ---- a pack that is awaited
module _ (old new : FileMap) (wants : List ObjectId) (refs_told : List Told) (m : Message) (pack : PackText) (is : IsPack m pack) (beside : SameBeside old new) (bad : MakesNoneBad old new) where
  pub pack_taken : (moved left : ℕ)
      → ((r : Repository) → HoldsContent old r → (k : Message) → IsPack k pack → (refs : Refs) → AreRefs refs refs_told → IsReceived r (awaited_pack wants refs) k new Nothing None (MovedRefs moved left))
      → AnswersUp (Receive m) (Ok (Moved moved left)) old new (a_pack wants refs_told) nothing
  pack_taken moved left taken =
      up_answers (Receive m) (Ok (Moved moved left)) old new (a_pack wants refs_told) nothing (λ awaited n waiting held.
      received_leads old (a_pack wants refs_told) awaited n waiting held new m beside bad (ReceivedAs (Ok (Moved moved left))) nothing Nothing None (MovedRefs moved left)
      (subst (λ (a : Awaited). IsReceived n.repository a m new Nothing None (MovedRefs moved left)) (sym waiting.2)
      (taken n.repository (held_content old n.repository held.shows.spells) m is waiting.0 waiting.1)) refl
      (record { answer = refl; sent = refl }))

  module _ (fault : ExchangeFault) (q : Result Received CloneFault) (told : q ≡ Err (of_exchange fault))
      (same : (id : ObjectId) → fault ≡ exchange.Incomplete id → (awaited : Awaited) (n : CloneNode) → HoldsNode old true awaited n → HoldsNode new true awaited n)
      (cut : (r : Repository) → HoldsContent old r → (k : Message) → IsPack k pack → (refs : Refs) → AreRefs refs refs_told → IsCutShort r (awaited_pack wants refs) k new)
      (awaited : Awaited) (n : CloneNode) (waiting : IsAwaited (a_pack wants refs_told) awaited) (held : HoldsNode old true awaited n) where
    -- not all is there that was asked for
    incomplete : (id : ObjectId) → fault ≡ exchange.Incomplete id → DeclinesPack old wants m → Leads n (Receive m) new (a_pack wants refs_told) (up_after q) (ReceivedAs q)
    incomplete id lacks declines =
        subst (λ (x : Result Received CloneFault). Leads n (Receive m) new (a_pack wants refs_told) (up_after x) (ReceivedAs x)) (sym (told ∙ ap (λ (f : ExchangeFault). Err (of_exchange f)) lacks))
        (refused_leads (Receive m) new (a_pack wants refs_told) awaited n waiting (same id lacks awaited n held) 92
        (λ sound. subst (λ (a : Awaited). ReceivesNot git n.repository a m 92) (sym waiting.2) (declines n.repository waiting.0 (held_content old n.repository held.shows.spells))))

    pack_fault : IsFailing (of_exchange fault) ⊎ ((id : ObjectId) × (fault ≡ exchange.Incomplete id) × DeclinesPack old wants m) → Leads n (Receive m) new (a_pack wants refs_told) (up_after q) (ReceivedAs q)
    pack_fault (inl failing) =
        failed_leads old new (a_pack wants refs_told) awaited n waiting held m beside bad q (of_exchange fault) told failing
        (subst (λ (a : Awaited). IsCutShort n.repository a m new) (sym waiting.2) (cut n.repository (held_content old n.repository held.shows.spells) m is waiting.0 waiting.1))
    pack_fault (inr (id, lacks, declines)) = incomplete id lacks declines

  pub pack_failed : (fault : ExchangeFault) (q : Result Received CloneFault) → IsErrAnd q (λ x. x ≡ of_exchange fault) → ((k : Message) → IsPack k pack → BlamesPack old wants k fault)
      → ((id : ObjectId) → fault ≡ exchange.Incomplete id → (awaited : Awaited) (n : CloneNode) → HoldsNode old true awaited n → HoldsNode new true awaited n)
      → ((r : Repository) → HoldsContent old r → (k : Message) → IsPack k pack → (refs : Refs) → AreRefs refs refs_told → IsCutShort r (awaited_pack wants refs) k new)
      → AnswersUp (Receive m) q old new (a_pack wants refs_told) (a_pack wants refs_told)
  pack_failed fault q told why same cut =
      up_answers (Receive m) q old new (a_pack wants refs_told) (a_pack wants refs_told) (λ awaited n waiting held.
      pack_fault fault q (err_is (of_exchange fault) q told) same cut awaited n waiting held (pack_fails old wants m held.clean fault (why m is)))

-- ---- a message that isn't awaited
-- it is refused whatever is stored
module _ (content : FileMap) (waits : AwaitedText) (m : Message) where
  pub unexpected : ((awaited : Awaited) (r : Repository) → IsAwaited waits awaited → ReceivesNot git r awaited m 91) → AnswersUp (Receive m) (Err Unexpected) content content waits waits
  unexpected refuses =
      up_answers (Receive m) (Err Unexpected) content content waits waits (λ awaited n waiting held.
      refused_leads (Receive m) content waits awaited n waiting held 91 (λ sound. refuses awaited n.repository waiting))

  refuses_as : (k : Message) → m ≡ k → (r : Repository) (a awaited : Awaited) → awaited ≡ a → ReceivesNot git r a k 91 → ReceivesNot git r awaited m 91
  refuses_as k is r a awaited same refuses =
      subst (λ (x : Awaited). ReceivesNot git r x m 91) (sym same) (subst (λ (y : Message). ReceivesNot git r a y 91) (sym is) refuses)

module _ (content : FileMap) (m : Message) where
  pub advert_unexpected : (w : Waiting) (t : AdvertText) → IsAdvert m t → (w ≡ of.Advert → ⊥) → AnswersUp (Receive m) (Err Unexpected) content content (awaited_text w) (awaited_text w)
  advert_unexpected of.Nothing t is other = unexpected content nothing m (λ awaited r waiting. refuses_as content nothing m _ is.is r Nothing awaited waiting refl)
  advert_unexpected of.Advert t is other = absurd (other refl)
  advert_unexpected (of.Pack wants refs) t is other =
      unexpected content (awaited_text (of.Pack wants refs)) m (λ awaited r waiting. refuses_as content (awaited_text (of.Pack wants refs)) m _ is.is r (awaited_pack wants.items waiting.0) awaited waiting.2 refl)

  pub pack_unexpected : (w : Waiting) (t : PackText) → IsPack m t → ((wants : Vec ObjectId Global) (refs : Vec (Vec ℕ Global × ObjectId) Global) → w ≡ of.Pack wants refs → ⊥)
      → AnswersUp (Receive m) (Err Unexpected) content content (awaited_text w) (awaited_text w)
  pack_unexpected of.Nothing t is other = unexpected content nothing m (λ awaited r waiting. refuses_as content nothing m _ is.is r Nothing awaited waiting refl)
  pack_unexpected of.Advert t is other = unexpected content an_advert m (λ awaited r waiting. refuses_as content an_advert m _ is.is r AnAdvert awaited waiting refl)
  pack_unexpected (of.Pack wants refs) t is other = absurd (other wants refs refl)

-- why it is refused
pub advert_refused : (content : FileMap) (w : Waiting) (t : AdvertText) → (w ≡ of.Advert → ⊥) → IsRefusedMessage content (awaited_text w) (advert_message t) Unexpected
advert_refused content of.Nothing t other = refl
advert_refused content of.Advert t other = absurd (other refl)
advert_refused content (of.Pack wants refs) t other = refl

pub pack_refused : (content : FileMap) (w : Waiting) (t : PackText) → ((wants : Vec ObjectId Global) (refs : Vec (Vec ℕ Global × ObjectId) Global) → w ≡ of.Pack wants refs → ⊥) → IsRefusedMessage content (awaited_text w) (pack_message t) Unexpected
pack_refused content of.Nothing t other = refl
pack_refused content of.Advert t other = refl
pack_refused content (of.Pack wants refs) t other = absurd (other wants refs refl)

-- why one that is awaited is refused
pub advert_blamed : {T : Type 0} (content : FileMap) (waits : AwaitedText) (t : AdvertText) (fault : ExchangeFault) (q : Result T CloneFault) → waits ≡ an_advert → IsErrAnd q (λ x. x ≡ of_exchange fault) → BlamesAdvert content fault
    → IfErr q (IsRefusedMessage content waits (advert_message t))
advert_blamed content waits t fault (Ok x) at is why = tt
advert_blamed content waits t fault (Err e) at is why = subst (λ (w : AwaitedText). IsRefusedMessage content w (advert_message t) e) (sym at) (fault, is, why)

pub pack_blamed : {T : Type 0} (content : FileMap) (waits : AwaitedText) (wants : List ObjectId) (told : List Told) (t : PackText) (fault : ExchangeFault) (q : Result T CloneFault) → waits ≡ a_pack wants told
    → IsErrAnd q (λ x. x ≡ of_exchange fault) → ((m : Message) → IsPack m t → BlamesPack content wants m fault) → IfErr q (IsRefusedMessage content waits (pack_message t))
pack_blamed content waits wants told t fault (Ok x) at is why = tt
pack_blamed content waits wants told t fault (Err e) at is why = subst (λ (w : AwaitedText). IsRefusedMessage content w (pack_message t) e) (sym at) (fault, is, why)

pub report_blamed : {T : Type 0} (content : FileMap) (waits : AwaitedText) (t : ReportText) (fault : ExchangeFault) (q : Result T CloneFault) → IsErrAnd q (λ x. x ≡ of_exchange fault) → BlamesFiles content fault
    → IfErr q (IsRefusedMessage content waits (a_report t))
report_blamed content waits t fault (Ok x) is why = tt
report_blamed content nothing t fault (Err e) is why = (fault, is, why)
report_blamed content an_advert t fault (Err e) is why = (fault, is, why)
report_blamed content (a_pack wants told) t fault (Err e) is why = (fault, is, why)

-- no fault at an advertisement is of the message
pub advert_no_message : (content : FileMap) (fault : ExchangeFault) → BlamesAdvert content fault → IsOfMessage (of_exchange fault) → ⊥
advert_no_message content fault why is = let one = incomplete_alone fault is in never one.0 (subst (BlamesAdvert content) one.1 why)
  where
    never : (id : ObjectId) → BlamesAdvert content (exchange.Incomplete id) → ⊥
    never id (inl none) = none
    never id (inr none) = none

-- a message that is not for a clone
abbrev pub IsOther : MessageText → Type 0
IsOther a_list = Unit {0}
IsOther (a_want want) = Unit {0}
IsOther (a_push push) = Unit {0}
IsOther (an_error words) = Unit {0}
IsOther _ = ⊥

-- the machine's messages of those kinds
abbrev IsOtherKind : Message → Type 0
IsOtherKind (Advert head refs) = ⊥
IsOtherKind (Pack ack objects) = ⊥
IsOtherKind (Report fault told) = ⊥
IsOtherKind _ = Unit {0}

other_kind : (t : MessageText) (m : Message) → IsOther t → TextOf m t → IsOtherKind m
other_kind a_list m other is = subst IsOtherKind (sym is) tt
other_kind (a_want want) m other is = subst IsOtherKind (sym is) tt
other_kind (a_push push) m other is = subst IsOtherKind (sym is.is) tt
other_kind (an_error words) m other is = subst IsOtherKind (sym is) tt
other_kind (advert_message t) m never is = absurd never
other_kind (pack_message t) m never is = absurd never
other_kind (a_report t) m never is = absurd never

never_received : (r : Repository) (awaited : Awaited) (m : Message) → IsOtherKind m → ReceivesNot git r awaited m 91
never_received r Nothing ListRefs other = refl
never_received r AnAdvert ListRefs other = refl
never_received r (APack wants refs) ListRefs other = refl
never_received r Nothing (Want wants haves) other = refl
never_received r AnAdvert (Want wants haves) other = refl
never_received r (APack wants refs) (Want ids haves) other = refl
never_received r Nothing (Push atomic fault commands objects) other = refl
never_received r AnAdvert (Push atomic fault commands objects) other = refl
never_received r (APack wants refs) (Push atomic fault commands objects) other = refl
never_received r Nothing (Error words) other = refl
never_received r AnAdvert (Error words) other = refl
never_received r (APack wants refs) (Error words) other = refl
never_received r awaited (Advert head refs) never = absurd never
never_received r awaited (Pack ack objects) never = absurd never
never_received r awaited (Report fault told) never = absurd never

pub other_unexpected : (content : FileMap) (waits : AwaitedText) (m : Message) (t : MessageText) → IsOther t → TextOf m t → AnswersUp (Receive m) (Err Unexpected) content content waits waits
other_unexpected content waits m t other is = unexpected content waits m (λ awaited r waiting. never_received r awaited m (other_kind t m other is))

-- of a message that is one of those
pub other_told : (content : FileMap) (waits : AwaitedText) (m : Message) (x y : ReadMessage) → x ≡ y → IsOther (message_text y) → TextOf m (message_text x) → AnswersUp (Receive m) (Err Unexpected) content content waits waits
other_told content waits m x y same other is = other_unexpected content waits m (message_text x) (subst (λ (z : ReadMessage). IsOther (message_text z)) (sym same) other) is

-- ---- what may be written, where the node is sound
module _ (old : FileMap) where
  -- an advertisement, where it changes something
  pub advert_may : {IsLook : Type 0} (m : Message) (w : AwaitedText) → w ≡ an_advert → ((r : Repository) → HoldsContent old r → (IsSound git r → ChangesAt r AnAdvert m) ⊎ IsLook) → MayOr (Receive m) w true old IsLook
  advert_may {IsLook = IsLook} m w at each awaited n waiting held = by (each n.repository (held_content old n.repository held.shows.spells))
    where
      is : awaited ≡ AnAdvert
      is = subst (λ (x : AwaitedText). IsAwaited x awaited) at waiting

      by : (IsSound git n.repository → ChangesAt n.repository AnAdvert m) ⊎ IsLook → (IsSound git n.repository → MayClone git git_rules n (Receive m)) ⊎ IsLook
      by (inl changes) = inl (λ sound. (AnAdvert, held.shows.live ∙ ap Some is, changes sound))
      by (inr look) = inr look

  writes_report : (r : Repository) (awaited : Awaited) (m : Message) (t : ReportText) → IsReport m t → ChangesAt r awaited m → CloneWrites git git_rules r awaited (Receive m)
  writes_report r Nothing m t is changes = changes
  writes_report r AnAdvert m t is changes = changes
  writes_report r (APack wants refs) m t is changes =
      subst (λ (k : Message). CloneWrites git git_rules r (APack wants refs) (Receive k)) (sym is.is) (subst (λ (k : Message). ChangesAt r (APack wants refs) k) is.is changes)

  -- a report, too
  pub report_may : {IsLook : Type 0} (waits : AwaitedText) (m : Message) (t : ReportText) → IsReport m t → ((r : Repository) → HoldsContent old r → (awaits : Awaited) → (IsSound git r → ChangesAt r awaits m) ⊎ IsLook) → MayOr (Receive m) waits true old IsLook
  report_may {IsLook = IsLook} waits m t is each awaited n waiting held = by (each n.repository (held_content old n.repository held.shows.spells) awaited)
    where
      by : (IsSound git n.repository → ChangesAt n.repository awaited m) ⊎ IsLook → (IsSound git n.repository → MayClone git git_rules n (Receive m)) ⊎ IsLook
      by (inl changes) = inl (λ sound. (awaited, held.shows.live, writes_report n.repository awaited m t is (changes sound)))
      by (inr look) = inr look
