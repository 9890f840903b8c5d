-- A message that a reader brought to a clone, once it has come or its reader has stopped: what the clone's node is then.
use Rattle.std.proofs.Common.{◌≡◌, ℕ, Bool, true, List, ◌++◌, drop, length, nat_eq, Option, Result, Ok, Err, refl, sym, ap, ◌∙◌, subst}
use Rattle.std.specs.Prelude.{IsErrAnd, IsErrOf, codes}
use Rattle.std.specs.List.{starts_with}
use Rattle.vc_exchange.proofs.QuarantinedLemmas.{cut_beside, held_beside}
use Rattle.vc_tracking.specs.Faults.{BlamesObjects, BlamesRefs}
use Rattle.vc_tracking.specs.Moving.{Told}
use Rattle.vc_exchange.specs.Quarantined.{KeepsOthers}
use Rattle.vc_exchange.specs.Receiving.{BlamesPack}
use Rattle.vc_tracking.specs.Storing.{KeepsBeside}
use Rattle.vc_tracking.specs.declared.fault.ExchangeFault.{ExchangeFault}
use Rattle.vc_tracking.specs.declared.fault.ExchangeFault.TheVariants as exchange
use Rattle.vc_files.proofs.FileMapLemmas.{outside_then}
use Rattle.vc_files.specs.Failures.{Writes}
use Rattle.vc_files.specs.FileMap.{FileMap, SameOutside}
use Rattle.vc_files.specs.declared.faults.Fault.{Fault as FilesFault}
use Rattle.vc_files.specs.declared.faults.Fault.TheVariants.{Device}
use Rattle.vc_lemmas.proofs.Texts.{split_from_starts}
use Rattle.vc_message.specs.AnyMessage.{a_pack as pack_message, a_push}
use Rattle.vc_model.specs.Clone.{Awaited, CloneNode}
use Rattle.vc_model.specs.CloneCall.CloneCall.{Receive}
use Rattle.vc_model.specs.Message.{Message}
use Rattle.vc_object.specs.declared.id.ObjectId.{ObjectId}
use Rattle.vc_push.specs.Push.{PushText}
use Rattle.vc_refs.specs.declared.faults.RefFault.{RefFault}
use Rattle.vc_refs.specs.declared.faults.RefFault.TheVariants as refs
use Rattle.vc_push_rules.proofs.FrameLemmas.{damage-of_slot}
use Rattle.vc_quarantine.specs.Clean.{MakesNoneBad}
use Rattle.vc_push_rules.specs.Quarantine.{IsDropped, quarantine_folder}
use Rattle.vc_object_map.specs.declared.faults.StoreFault.{StoreFault}
use Rattle.vc_object_map.specs.declared.faults.StoreFault.TheVariants as store
use Rattle.vc_local.proofs.BesideLemmas.{SameBeside, beside_by, clean_on, held_content, spells_on}
use Rattle.vc_node.proofs.ExchangingLemmas.{pack_failed, pack_taken}
use Rattle.vc_node.proofs.ReceivingFaults.{writes_as as clone_writes}
use Rattle.vc_message.specs.Coming.{TakesPart}
use Rattle.vc_node.specs.Arriving.{ComesTo, IsPackEnded, IsPackLeft, IsPackTaken, IsStopped, all_of_it, by_bytes, by_node, by_reader, not_all, stopped, whole}
use Rattle.vc_node.specs.Awaited.{AwaitedText, a_pack, an_advert, nothing}
use Rattle.vc_node.specs.CloneCalls.{AnswersUp}
use Rattle.vc_node.specs.CloneFaults.{IsOfDevice as IsCloneDevice, of_device, of_exchange}
use Rattle.vc_local.specs.Machine.{HoldsNode}
use Rattle.vc_node.specs.ReceiveFault.{TellsDevice}
use Rattle.vc_node.specs.Receipts.{IsRefusedMessage}
use Rattle.vc_node.specs.declared.clone_fault.CloneFault.{CloneFault}
use Rattle.vc_node.specs.declared.clone_fault.CloneFault.TheVariants.{Unexpected}
use Rattle.vc_node.specs.declared.exchanging.Received.TheVariants.{Moved}
use Rattle.vc_node.specs.declared.receive_fault.ReceiveFault.{ReceiveFault}
use Rattle.vc_node.specs.declared.receive_fault.ReceiveFault.TheVariants.{Node}

-- ---- a quarantine that was filled, or emptied
module _ (old new : FileMap) (outside : SameOutside (quarantine_folder 0) old new) (bad : MakesNoneBad old new) where
  -- the node is as it was
  pub node_beside : (up : Bool) (awaited : Awaited) (n : CloneNode) → HoldsNode old up awaited n → HoldsNode new up awaited n
  node_beside up awaited n held = record {
    shows = record {
      spells = spells_on old new n.repository n.repository held.shows.spells (held_beside old new outside n.repository (held_content old n.repository held.shows.spells))
          (beside_by old new (outside.at (codes "HEAD") refl) (outside.at (codes "index") refl)) refl refl;
      live = held.shows.live;
    };
    clean = clean_on old new bad held.clean;
  }

  -- what is blamed then was to be blamed before
  objects_before : (fault : StoreFault) → BlamesObjects new fault → BlamesObjects old fault
  objects_before (store.BadObject fault) b = b
  objects_before (store.Absent id) b = b
  objects_before (store.Damaged id) b = damage-of_slot 0 old new outside id b
  objects_before (store.Fault fault) b = b

  refs_before : (fault : RefFault) → BlamesRefs new fault → BlamesRefs old fault
  refs_before (refs.Stale current) b = b
  refs_before (refs.Conflict name) b = b
  refs_before (refs.BadRefFile path) b = bad.refs _ b
  refs_before refs.HeadLoop b = b
  refs_before (refs.Fault fault) b = b

  pub blames_before : (wants : List ObjectId) (m : Message) (fault : ExchangeFault) → BlamesPack new wants m fault → BlamesPack old wants m fault
  blames_before wants m (exchange.Store fault) b = objects_before fault b
  blames_before wants m (exchange.Refs fault) b = refs_before fault b
  blames_before wants m (exchange.Incomplete id) b = λ r refs held. b r refs (held_beside old new outside r held)
  blames_before wants m (exchange.Fault fault) b = tt

-- ---- a pack that came, and is awaited
beside_others : (old new : FileMap) → KeepsOthers old new → SameBeside old new
beside_others old new others = beside_by old new (others.at (codes "HEAD") refl refl refl) (others.at (codes "index") refl refl refl)

pub others_beside : (old new : FileMap) → KeepsBeside old new → KeepsOthers old new
others_beside old new kept = record { at = λ path object ref there. kept.at path object ref }

-- ---- what a clone makes of it
module _ (honest : Type 0) (before rest : Option (List ℕ)) (old mid : FileMap) (wants : List ObjectId) (told : List Told) where
  -- the quarantine was emptied behind it
  ended_then : (fault : ExchangeFault) (new : FileMap) → (honest → SameOutside (quarantine_folder 0) mid new) → IsPackEnded honest before rest old mid wants told fault → IsPackEnded honest before rest old new wants told fault
  ended_then fault new outside ended = record {
    pack = ended.pack;
    taken = ended.taken;
    blames = ended.blames;
    same = λ h id lacks. outside_then (ended.same h id lacks) (outside h);
    cut = λ h r held m is refs same. cut_beside mid new (outside h) r _ m (ended.cut h r held m is refs same);
  }

  -- or a fault came while it was
  ended_failing : (fault : ExchangeFault) (new : FileMap) → (honest → SameOutside (quarantine_folder 0) mid new) → (f : FilesFault) → IsPackEnded honest before rest old mid wants told fault
      → IsPackEnded honest before rest old new wants told (exchange.Fault f)
  ended_failing fault new outside f ended = record {
    pack = ended.pack;
    taken = ended.taken;
    blames = λ h m is. tt;
    same = λ h id never. absurd (let no : ◌≡◌ {A = ExchangeFault} (exchange.Fault f) (exchange.Incomplete id) = never in cc no);
    cut = λ h r held m is refs same. cut_beside mid new (outside h) r _ m (ended.cut h r held m is refs same);
  }

  part_before : (e : ReceiveFault) → IsStopped before rest e → TakesPart before rest
  part_before e (by_bytes fault taken is) = (taken.bytes, taken.taken)
  part_before e (by_reader part is) = part
  part_before e (by_node part fault is) = part

  pub left_then : (e : ReceiveFault) (new : FileMap) → (honest → SameOutside (quarantine_folder 0) mid new) → IsPackLeft honest before rest old mid wants told e → IsPackLeft honest before rest old new wants told e
  left_then e new outside (not_all why same) = not_all why (λ h. outside_then (same h) (outside h))
  left_then e new outside (all_of_it fault is ended) = all_of_it fault is (ended_then fault new outside ended)

  pub left_failing : (e : ReceiveFault) (new : FileMap) → (honest → SameOutside (quarantine_folder 0) mid new) → (f : FilesFault) → IsPackLeft honest before rest old mid wants told e → IsPackLeft honest before rest old new wants told (Node (of_device f))
  left_failing e new outside f (not_all why same) = not_all (by_node (part_before e why) f refl) (λ h. outside_then (same h) (outside h))
  left_failing e new outside f (all_of_it fault is ended) = all_of_it (exchange.Fault f) refl (ended_failing fault new outside f ended)

module _ (honest : Type 0) (before rest : Option (List ℕ)) (old new : FileMap) (wants : List ObjectId) (told : List Told) (waits : AwaitedText) (is : waits ≡ a_pack wants told) (others : honest → KeepsOthers old new) (bad : honest → MakesNoneBad old new) where
  -- it is taken
  pub taken_comes : (moved left : ℕ) (after : AwaitedText) → after ≡ nothing → IsPackTaken honest before rest old new wants told (record { moved = moved; left = left }) → ComesTo honest before rest old new waits after (Ok (Moved moved left))
  taken_comes moved left after none taken =
      whole (pack_message taken.pack) taken.taken (Ok (Moved moved left)) refl (λ h. tt) (λ h m pack.
      subst (λ (w : AwaitedText). AnswersUp (Receive m) (Ok (Moved moved left)) old new w after) (sym is)
      (subst (λ (w : AwaitedText). AnswersUp (Receive m) (Ok (Moved moved left)) old new (a_pack wants told) w) (sym none) (pack_taken old new wants told m taken.pack pack (beside_others old new (others h)) (bad h) moved left (taken.received h))))

  -- or not
  pub left_comes : (e : ReceiveFault) (after : AwaitedText) → after ≡ waits → IsPackLeft honest before rest old new wants told e → ComesTo honest before rest old new waits after (Err e)
  left_comes e after same (not_all why outside) = stopped e refl why outside same
  left_comes e after same (all_of_it fault told_so ended) =
      whole (pack_message ended.pack) ended.taken (Err (of_exchange fault)) (ap Err told_so)
      (λ h. subst (λ (w : AwaitedText). IsRefusedMessage old w (pack_message ended.pack) (of_exchange fault)) (sym is) (fault, refl, ended.blames h)) (λ h m pack.
      subst (λ (w : AwaitedText). AnswersUp (Receive m) (Err (of_exchange fault)) old new waits w) (sym same)
      (subst (λ (w : AwaitedText). AnswersUp (Receive m) (Err (of_exchange fault)) old new w w) (sym is)
      (pack_failed old new wants told m ended.pack pack (beside_others old new (others h)) (bad h) fault (Err (of_exchange fault)) refl (ended.blames h)
      (λ id lacks. node_beside old new (ended.same h id lacks) (bad h) true) (ended.cut h))))

-- a push is none for a clone
pub push_refused : (content : FileMap) (waits : AwaitedText) (push : PushText) → IsRefusedMessage content waits (a_push push) Unexpected
push_refused content nothing push = refl
push_refused content an_advert push = refl
push_refused content (a_pack wants told) push = refl

-- ---- the device
-- an exchange's fault is told by the node
pub exchange_writes : {X T D : Type 0} (e : ExchangeFault) {honest : Type 0} {content : D → FileMap} {failed : D → ℕ} {can_fail : D → Type 0} {left : D → Option ℕ} {old new : D} (q : Result T ReceiveFault)
    → IsErrAnd q (λ x. x ≡ Node (of_exchange e)) → Writes honest content failed can_fail left old new (IsErrOf {T = X} (Err e) (exchange.Fault Device)) → Writes honest content failed can_fail left old new (TellsDevice q)
exchange_writes e (Ok x) is w = absurd is
exchange_writes {X = X} {T = T} e {honest = honest} {content = content} {failed = failed} {can_fail = can_fail} {left = left} {old = old} {new = new} (Err x) is w =
    let here : Result X ExchangeFault = Err e in
    subst (λ (y : ReceiveFault). Writes honest content failed can_fail left old new (TellsDevice {T = T} (Err y))) (sym is) (clone_writes {T = T} here e refl (Err (of_exchange e)) refl w)

-- what a node tells of a message is told of it where a reader brought it
pub message_writes : {T D : Type 0} (e : CloneFault) {honest : Type 0} {content : D → FileMap} {failed : D → ℕ} {can_fail : D → Type 0} {left : D → Option ℕ} {old new : D} (q : Result T ReceiveFault)
    → IsErrAnd q (λ x. x ≡ Node e) → Writes honest content failed can_fail left old new (IsCloneDevice e) → Writes honest content failed can_fail left old new (TellsDevice q)
message_writes e (Ok x) is w = absurd is
message_writes {T = T} e {honest = honest} {content = content} {failed = failed} {can_fail = can_fail} {left = left} {old = old} {new = new} (Err x) is w =
    subst (λ (y : ReceiveFault). Writes honest content failed can_fail left old new (TellsDevice {T = T} (Err y))) (sym is) w

-- ---- an empty quarantine
-- it stays so where objects and refs alone change
pub dropped_beside : (old new : FileMap) → KeepsBeside old new → IsDropped 0 old → IsDropped 0 new
dropped_beside old new kept dropped path inside =
    let there : path ≡ quarantine_folder 0 ++ drop (length (quarantine_folder 0)) path = split_from_starts path (quarantine_folder 0) inside in
    kept.at path (ap (λ p. starts_with nat_eq p (codes "objects/")) there) (ap (λ p. starts_with nat_eq p (codes "refs/")) there) ∙ dropped path inside
