-- No exact answer brings an object whose body is refused.
use Rattle.std.proofs.Common.{◌≡◌, ℕ, List, Option, Some, None, inl, inr, refl, sym, ap, ◌∙◌, subst, nat_cmp, unwrap_or}
use Rattle.std.specs.FinMap.{get, insert, remove, empty, nat_cmp-IsAntisymmetric}
use Rattle.std.specs.Cmp.{nat_cmp_total}
use Rattle.std.specs.Cmp.Lexicographic.{slice_cmp, nat_list_cmp_total}
use Rattle.vc_model.specs.Object.{Id, Object, blob, Format, Objects}
use Rattle.vc_model.specs.Refs.Head.{OnBranch, Detached}
use Rattle.vc_model.specs.Repository.{Repository, Effect, with_objects, SomeAdded, PartlyPruned}
use Rattle.vc_model.specs.Push.{OpenPush, Slots, Stage, Command as PushCommand}
use Rattle.vc_model.specs.Push.Stage.{Unpacked, Checked, Migrated, Finished}
use Rattle.vc_model.specs.Message.{Message}
use Rattle.vc_model.specs.Message.Message.{ListRefs, Advert, Want, Pack, Push, Report, Error}
use Rattle.vc_model.specs.Node.{Node, Answer, Reply, Deed, Ends, sent_by}
use Rattle.vc_model.specs.Node.Answer.{Did, Declined, Fault}
use Rattle.vc_model.specs.Shared.{SharedNode, Serves, StepsPush, StepsSlot, IsNeeded, opened as opened_push}
use Rattle.vc_model.specs.Clone.{Awaited, CloneNode, Task, Receives, IsReached, only_object, with_object, haves_of}
use Rattle.vc_model.specs.Clone.Awaited.{Nothing}
use Rattle.vc_model.specs.Clone.Task.{Write, Stage as StageFile, Unstage, LoadTree, MakeCommit, SetBranch, DeleteBranch, MoveHead, StartFetch, StartPush}
use Rattle.vc_model.specs.Rules.{Rules, AreFormed, IsFormedMessage}
use Rattle.vc_model.specs.CloneCall.{new_commit, Obeys, CloneCall, CloneObeys, CloneAnswers}
use Rattle.vc_model.specs.CloneCall.CloneCall.{Command, Receive, Asks, Prune, Open}
use Rattle.vc_model.specs.CloneCall.CloneAnswers.{down, asked, refused, obeyed, pruned, opened, faulted}
use Rattle.vc_model.specs.SharedCall.{SharedCall, SharedObeys, SharedAnswers}
use Rattle.vc_model.specs.SharedCall.SharedCall.{Accept, StepOf, Asks as AsksShared, Prune as PruneShared, Open as OpenShared}
use Rattle.vc_model.specs.SharedCall.SharedAnswers.{down as shared_down, asked as shared_asked, refused as shared_refused, obeyed as shared_obeyed, pruned as shared_pruned, opened as shared_opened, faulted as shared_faulted}
use Rattle.vc_model.proofs.Maps.{insert_cases, remove_cases, bytes_same, none_in_empty}
use Rattle.vc_model.proofs.Sound.{changed_all-objects, all_is_some}
use Rattle.vc_model.proofs.Runs.{found_over}
use Rattle.vc_model.proofs.Kept.{PruneOk, prune_ok, restart_ok}

module _ (fmt : Format) (rules : Rules fmt) where
  abbrev pub Formed : Objects → Type 0
  Formed s = AreFormed fmt rules s

  pub empty_formed : Formed empty
  empty_formed x o h = absurd (none_in_empty (slice_cmp nat_cmp) x o h)

  only_formed : (o : Object) → rules.fault o None → Formed (only_object fmt o)
  only_formed o f x p h = elim (insert_cases nat_list_cmp_total bytes_same empty (fmt.name_of o) o x p h) [
    | inl is ↦ subst (λ (o : Object). rules.fault o None) (sym is.1) f
    | inr was ↦ absurd (none_in_empty (slice_cmp nat_cmp) x p was)
  ]

  with_formed : (s : Objects) (x : Id) (o : Object) → Formed s → rules.fault o None → Formed (with_object s x o)
  with_formed s x o h f y p g = elim (insert_cases nat_list_cmp_total bytes_same s x (unwrap_or (get s x) o) y p g) [
    | inl put ↦ subst (λ (o : Object). rules.fault o None) (sym put.1) (by (get s x) refl)
    | inr was ↦ h y p was
  ]
    where
      by : (found : Option Object) → get s x ≡ found → rules.fault (unwrap_or found o) None
      by None e = f
      by (Some q) e = h x q e

  added_formed : (s c after : Objects) → Formed s → Formed c → SomeAdded s c after → Formed after
  added_formed s c after h k a x o g = elim (a.each x) [
    | inl e ↦ h x o (sym e ∙ g)
    | inr e ↦ elim (found_over s c x o (sym e ∙ g)) [ inl i ↦ h x o i | inr i ↦ k x o i ]
  ]

  pub ends_formed : {V : Type 0} (a : Answer) (n m : Node V) (d : Deed V) → Formed n.repository.objects → Formed d.effect.objects → Ends a n d m → Formed m.repository.objects
  ends_formed (Did y) n m d h k e =
      subst (λ (r : Repository). Formed r.objects) (sym e.0.2)
      (subst Formed (sym (changed_all-objects d.effect.changes (with_objects n.repository e.0.0)))
      (added_formed n.repository.objects d.effect.objects e.0.0 h k (all_is_some n.repository.objects d.effect.objects e.0.0 e.0.1)))
  ends_formed (Fault f) n m d h k e = elim (e.0) [
    | inl i ↦ subst (λ (r : Repository). Formed r.objects) (sym i.2) (added_formed n.repository.objects d.effect.objects i.0 h k i.1)
    | inr i ↦ subst (λ (r : Repository). Formed r.objects) (sym i.3)
        (subst Formed (sym (changed_all-objects (Rattle.std.specs.Prelude.take i.1 d.effect.changes) (with_objects n.repository i.0)))
        (added_formed n.repository.objects d.effect.objects i.0 h k (all_is_some n.repository.objects d.effect.objects i.0 i.2)))
  ]
  ends_formed (Declined j) n m d h k e = absurd e

  partly_formed : (needed : Id → Type 0) (s t : Objects) → Formed s → PartlyPruned needed s t → Formed t
  partly_formed needed s t h p x o g = elim (p x) [ inl e ↦ h x o (sym e ∙ g) | inr e ↦ absurd (let n : get t x ≡ None = e.1 in cc) ]

  -- what a deed adds, and what it sends
  pub record DeedFormed {V : Type 0} (d : Deed V) : Type 0 where
    pub adds : Formed d.effect.objects
    pub sends : (m : Message) → d.sends ≡ Some m → IsFormedMessage fmt rules m

  abbrev Quiet : {V : Type 0} → Deed V → Type 0
  Quiet d = (d.sends ≡ None) × Formed d.effect.objects

  quiet_formed : {V : Type 0} (d : Deed V) → Quiet d → DeedFormed d
  quiet_formed d q = record { adds = q.1; sends = λ m e. absurd (let n = q.0 in cc) }

  sent_formed : {V : Type 0} (d e : Deed V) (q : Message) → d ≡ e → e.sends ≡ Some q → Formed e.effect.objects → IsFormedMessage fmt rules q → DeedFormed d
  sent_formed d e q is sends adds formed =
      subst DeedFormed (sym is) (record { adds = adds; sends = λ m g. let same : q ≡ m = cc in subst (IsFormedMessage fmt rules) same formed })

  task_formed : (r : Repository) (a : Awaited) (t : Task) (d : Deed Awaited) → Formed r.objects → Obeys fmt rules r a t d → DeedFormed d
  task_formed r a (Write o) d h is = quiet_formed d (subst Quiet (sym is.1) (refl, only_formed o is.0))
  task_formed r a (StageFile p mode content) d h is = quiet_formed d (subst Quiet (sym is.3) (refl, only_formed (blob content) is.2))
  task_formed r a (Unstage p) d h is = quiet_formed d (subst Quiet (sym is) (refl, empty_formed))
  task_formed r a (LoadTree x) d h is = quiet_formed d (subst Quiet (sym is.2) (refl, empty_formed))
  task_formed r a (MakeCommit extra author committer message) d h is =
      let commit : Object = new_commit fmt r is.3.0.1 extra author committer message in
      quiet_formed d (subst Quiet (sym is.3.2.1) (refl, with_formed is.3.0.0 (fmt.name_of commit) commit (rules.trees_formed r.index is.3.0 is.3.1) is.3.2.0))
  task_formed r a (SetBranch b x) d h is = quiet_formed d (subst Quiet (sym is.3) (refl, empty_formed))
  task_formed r a (DeleteBranch b) d h is = quiet_formed d (subst Quiet (sym is.1) (refl, empty_formed))
  task_formed r a (MoveHead (OnBranch b)) d h is = quiet_formed d (subst Quiet (sym is.1) (refl, empty_formed))
  task_formed r a (MoveHead (Detached x)) d h is = quiet_formed d (subst Quiet (sym is.1) (refl, empty_formed))
  task_formed r a StartFetch d h is = sent_formed d (Rattle.vc_model.specs.Clone.sending Rattle.vc_model.specs.Clone.Awaited.AnAdvert ListRefs) ListRefs is refl empty_formed tt
  task_formed r a (StartPush atomic items) d h is =
      let p = is.2 in
      sent_formed d (Rattle.vc_model.specs.Clone.sending a (Push atomic None p.0 p.1)) (Push atomic None p.0 p.1) p.4 refl empty_formed (λ x o g. h x o (p.3.only x o g).0)

  message_formed : (r : Repository) (a : Awaited) (m : Message) (d : Deed Awaited) → IsFormedMessage fmt rules m → Receives fmt r a m d → DeedFormed d
  message_formed r a (Advert head refs) d f is = elim (is.3) [
    | inl k ↦
        let want : Message = Want (Rattle.std.specs.Prelude.take 256 is.1) (haves_of r) in
        sent_formed d (Rattle.vc_model.specs.Clone.sending (Rattle.vc_model.specs.Clone.Awaited.APack (Rattle.std.specs.Prelude.take 256 is.1) refs) want) want k.1 refl empty_formed tt
    | inr k ↦ quiet_formed d (subst Quiet (sym k.1.deed) (refl, empty_formed))
  ]
  message_formed r a (Pack ack s) d f is = quiet_formed d (subst Quiet (sym is.4.deed) (refl, f))
  message_formed r a (Report fault ts) d f is = quiet_formed d (subst Quiet (sym is.2) (refl, empty_formed))
  message_formed r a ListRefs d f is = absurd is
  message_formed r a (Want x y) d f is = absurd is
  message_formed r a (Push x y z w) d f is = absurd is
  message_formed r a (Error text) d f is = absurd is

  -- a message that comes is formed
  abbrev pub BringsFormed : CloneCall → Type 0
  BringsFormed (Receive m) = IsFormedMessage fmt rules m
  BringsFormed _ = Unit {0}

  clone_does_formed : (r : Repository) (a : Awaited) (e : CloneCall) (d : Deed Awaited) → Formed r.objects → BringsFormed e → CloneObeys fmt rules r a e d → DeedFormed d
  clone_does_formed r a (Command t) d h b is = task_formed r a t d h is
  clone_does_formed r a (Receive m) d h b is = message_formed r a m d b is
  clone_does_formed r a (Asks q) d h b is = absurd is
  clone_does_formed r a Prune d h b is = absurd is
  clone_does_formed r a Open d h b is = absurd is

  sent_ok : {V : Type 0} (a : Answer) (d : Deed V) → DeedFormed d → (m : Message) → sent_by a d ≡ Some m → IsFormedMessage fmt rules m
  sent_ok (Did y) d k m e = k.sends m e
  sent_ok (Declined n) d k m e = absurd (cc)
  sent_ok (Fault f) d k m e = absurd (cc)

  -- what an answer leaves of a clone, and what it sends
  pub record CloneFormed (new : CloneNode) (sends : Option Message) : Type 0 where
    pub formed : Formed new.repository.objects
    pub sent : (m : Message) → sends ≡ Some m → IsFormedMessage fmt rules m

  pub clone_formed : (old new : CloneNode) (e : CloneCall) (a : Answer) (sends : Option Message) → Formed old.repository.objects → BringsFormed e
      → CloneAnswers fmt rules old e a new sends → CloneFormed new sends
  clone_formed old new e a sends h b s = elim s [
    | down off other is same none ↦ record { formed = subst (λ (n : CloneNode). Formed n.repository.objects) (sym same) h; sent = λ m g. absurd (cc) }
    | asked w q up is tells same none ↦ record { formed = subst (λ (n : CloneNode). Formed n.repository.objects) (sym same) h; sent = λ m g. absurd (cc) }
    | refused w n up why is same none ↦ record { formed = subst (λ (n : CloneNode). Formed n.repository.objects) (sym same) h; sent = λ m g. absurd (cc) }
    | obeyed w d up deed ends is ↦
        let k : DeedFormed d = clone_does_formed old.repository w e d h b deed in
        record { formed = ends_formed a old new d h k.adds ends; sent = λ m g. sent_ok a d k m (sym is ∙ g) }
    | pruned w up is ends none ↦
        let ok : PruneOk (IsReached fmt old.repository) old new = prune_ok a (IsReached fmt old.repository) old new ends in
        record { formed = partly_formed (IsReached fmt old.repository) old.repository.objects new.repository.objects h ok.partly; sent = λ m g. absurd (cc) }
    | opened is ends none ↦ record { formed = subst (λ (r : Repository). Formed r.objects) (sym (restart_ok a old Nothing new ends).same) h; sent = λ m g. absurd (cc) }
    | faulted w f up other is same none ↦ record { formed = subst (λ (n : CloneNode). Formed n.repository.objects) (sym same) h; sent = λ m g. absurd (cc) }
  ]

  -- ---- the shared node

  abbrev pub SlotsFormed : Slots → Type 0
  SlotsFormed slots = (k : ℕ) (p : OpenPush) → get slots k ≡ Some p → Formed p.carried

  pub record SharedDeedFormed (d : Deed Slots) : Type 0 where
    pub deed : DeedFormed d
    pub left : SlotsFormed d.left

  opened_formed : (atomic : _) (fault : Option ℕ) (cs : List PushCommand) (s : Objects) → Formed s → Formed (opened_push atomic fault cs s).carried
  opened_formed atomic None cs s h = h
  opened_formed atomic (Some n) cs s h = empty_formed

  insert_formed : (slots : Slots) (k : ℕ) (q : OpenPush) → Formed q.carried → SlotsFormed slots → SlotsFormed (insert slots k q)
  insert_formed slots k q f h j p g = elim (insert_cases nat_cmp_total nat_cmp-IsAntisymmetric slots k q j p g) [
    | inl same ↦ subst (λ (p : OpenPush). Formed p.carried) (sym same.1) f
    | inr was ↦ h j p was
  ]

  serve_formed : (r : Repository) (slots : Slots) (m : Message) (d : Deed Slots) → Formed r.objects → SlotsFormed slots → IsFormedMessage fmt rules m → Serves fmt r slots m d → SharedDeedFormed d
  serve_formed r slots ListRefs d h k f is = subst SharedDeedFormed (sym is) (record {
    deed = record { adds = empty_formed; sends = λ q g. let same : Advert (Rattle.vc_model.specs.Shared.head_value r) r.refs ≡ q = cc in subst (IsFormedMessage fmt rules) same tt };
    left = k;
  })
  serve_formed r slots (Want wants haves) d h k f is = subst SharedDeedFormed (sym is.1.4) (record {
    deed = record { adds = empty_formed; sends = λ q g. let same : Pack is.1.0 is.1.1 ≡ q = cc in subst (IsFormedMessage fmt rules) same (λ x o g. h x o (is.1.3.only x o g).0) };
    left = k;
  })
  serve_formed r slots (Push atomic fault cs objects) d h k f is = subst SharedDeedFormed (sym is.2) (record {
    deed = record { adds = empty_formed; sends = λ q g. absurd (cc) };
    left = insert_formed slots is.0 (opened_push atomic fault cs objects) (opened_formed atomic fault cs objects f) k;
  })
  serve_formed r slots (Advert x y) d h k f is = absurd is
  serve_formed r slots (Pack ack s) d h k f is = absurd is
  serve_formed r slots (Report fault ts) d h k f is = absurd is
  serve_formed r slots (Error text) d h k f is = absurd is

  push_formed : (r : Repository) (p : OpenPush) (x : Stage) (e : Effect) (q : OpenPush) (y : Reply) → Formed p.carried → StepsPush fmt r p x e q y → Formed e.objects × Formed q.carried
  push_formed r p Unpacked e q y f h = (subst (λ (e : Effect). Formed e.objects) (sym h.2) empty_formed, subst (λ (q : OpenPush). Formed q.carried) (sym h.3) f)
  push_formed r p Checked e q y f h = (subst (λ (e : Effect). Formed e.objects) (sym h.0) f, subst (λ (q : OpenPush). Formed q.carried) (sym h.1) f)
  push_formed r p Migrated e q y f h = (subst (λ (e : Effect). Formed e.objects) (sym h.3) empty_formed, subst (λ (q : OpenPush). Formed q.carried) (sym h.4) f)
  push_formed r p Finished e q y f h = absurd h

  slot_formed : (r : Repository) (slots : Slots) (s : ℕ) (d : Deed Slots) → SlotsFormed slots → StepsSlot fmt r slots s d → SharedDeedFormed d
  slot_formed r slots s d k is = elim (is.2) [
    | inl w ↦
        let one = push_formed r is.0 is.0.stage d.effect w.0 d.reply (k s is.0 is.1) w.1 in
        record {
          deed = record { adds = one.0; sends = λ q g. absurd (let n = w.3 in cc) };
          left = subst SlotsFormed (sym w.2) (insert_formed slots s w.0 one.1 k);
        }
    | inr w ↦ subst SharedDeedFormed (sym w.3) (record {
      deed = record { adds = empty_formed; sends = λ q g. let same : Report is.0.fault w.0 ≡ q = cc in subst (IsFormedMessage fmt rules) same tt };
      left = λ j p g. k j p (remove_cases nat_cmp_total nat_cmp-IsAntisymmetric slots s j p g).1;
    })
  ]

  abbrev pub BringsFormedToShared : SharedCall → Type 0
  BringsFormedToShared (Accept m) = IsFormedMessage fmt rules m
  BringsFormedToShared _ = Unit {0}

  shared_does_formed : (r : Repository) (slots : Slots) (e : SharedCall) (d : Deed Slots) → Formed r.objects → SlotsFormed slots → BringsFormedToShared e → SharedObeys fmt r slots e d → SharedDeedFormed d
  shared_does_formed r slots (Accept m) d h k b is = serve_formed r slots m d h k b is
  shared_does_formed r slots (StepOf s) d h k b is = slot_formed r slots s d k is
  shared_does_formed r slots (AsksShared q) d h k b is = absurd is
  shared_does_formed r slots PruneShared d h k b is = absurd is
  shared_does_formed r slots OpenShared d h k b is = absurd is

  abbrev pub LiveFormed : SharedNode → Type 0
  LiveFormed n = (slots : Slots) (k : ℕ) (p : OpenPush) → n.live ≡ Some slots → get slots k ≡ Some p → Formed p.carried

  pub record SharedFormed (new : SharedNode) (sends : Option Message) : Type 0 where
    pub formed : Formed new.repository.objects
    pub carried : LiveFormed new
    pub sent : (m : Message) → sends ≡ Some m → IsFormedMessage fmt rules m

  ends_left : (a : Answer) (n m : SharedNode) (d : Deed Slots) → SlotsFormed d.left → Ends a n d m → LiveFormed m
  ends_left (Did y) n m d k e slots j p up g = let same : d.left ≡ slots = let u = e.1 in cc in subst SlotsFormed same k j p g
  ends_left (Fault f) n m d k e slots j p up g = absurd (let u = e.1 in cc)
  ends_left (Declined i) n m d k e slots j p up g = absurd e

  pub shared_formed : (old new : SharedNode) (e : SharedCall) (a : Answer) (sends : Option Message) → Formed old.repository.objects → LiveFormed old → BringsFormedToShared e
      → SharedAnswers fmt rules old e a new sends → SharedFormed new sends
  shared_formed old new e a sends h k b s = elim s [
    | shared_down off other is same none ↦ as_before same none
    | shared_asked w q up is tells same none ↦ as_before same none
    | shared_refused w n up why is same none ↦ as_before same none
    | shared_obeyed w d up deed ends is ↦
        let f : SharedDeedFormed d = shared_does_formed old.repository w e d h (λ j p. k w j p up) b deed in
        record { formed = ends_formed a old new d h f.deed.adds ends; carried = ends_left a old new d f.left ends; sent = λ m g. sent_ok a d f.deed m (sym is ∙ g) }
    | shared_pruned w up is ends none ↦
        let ok : PruneOk (IsNeeded fmt old.repository w) old new = prune_ok a (IsNeeded fmt old.repository w) old new ends in
        record {
          formed = partly_formed (IsNeeded fmt old.repository w) old.repository.objects new.repository.objects h ok.partly;
          carried = λ slots j p u g. k slots j p (ok.live slots u) g;
          sent = λ m g. absurd (cc);
        }
    | shared_opened is ends none ↦
        let ok = restart_ok a old empty new ends in
        record {
          formed = subst (λ (r : Repository). Formed r.objects) (sym ok.same) h;
          carried = λ slots j p u g. absurd (none_in_empty nat_cmp j p (subst (λ s. get s j ≡ Some p) (sym (ok.live slots u)) g));
          sent = λ m g. absurd (cc);
        }
    | shared_faulted w f up other is same none ↦ record {
      formed = subst (λ (n : SharedNode). Formed n.repository.objects) (sym same) h;
      carried = λ slots j p u g. absurd (let l = ap (λ (n : SharedNode). n.live) same in cc);
      sent = λ m g. absurd (cc);
    }
  ]
    where
      as_before : new ≡ old → sends ≡ None → SharedFormed new sends
      as_before same none = record {
        formed = subst (λ (n : SharedNode). Formed n.repository.objects) (sym same) h;
        carried = subst LiveFormed (sym same) k;
        sent = λ m g. absurd (cc);
      }
