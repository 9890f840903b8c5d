-- Calls of a clone, in the world's words.
use Rattle.std.proofs.Common.{◌≡◌, ◌≢◌, ◌≤◌, ◌<◌, ◌+◌, ℕ, zero, suc, Bool, true, false, List, [], ◌∷◌, ◌++◌, Option, Some, None, Result, Ok, Err, Vec, Global, ◌⊎◌, map, take, drop, get_or, length, arith, inl, inr, refl, sym, ap, ◌∙◌, subst}
use Rattle.std.proofs.lemmas.List.{take_more}
use Rattle.std.specs.Prelude.{IfErr, IfOk}
use Rattle.vc_events.specs.Answers.{Shows, answer_of}
use Rattle.vc_events.specs.Calls.{CloneCalled, HasNoZero, IsOnly, Seen}
use Rattle.vc_events.specs.Events.{bytes_in}
use Rattle.vc_events.specs.declared.events.NamedItem.{NamedItem}
use Rattle.vc_sending.specs.Sending.{machine_items}
use Rattle.vc_sending.specs.declared.item.PushItem.{PushItem}
use Rattle.vc_events.specs.declared.answers.Deed.{Deed}
use Rattle.vc_events.specs.declared.answers.Deed.TheVariants as deed
use Rattle.vc_events.specs.declared.answers.Ended.{Ended}
use Rattle.vc_events.specs.declared.answers.Ended.TheVariants as ended
use Rattle.vc_events.specs.declared.answers.Told.{Told}
use Rattle.vc_events.specs.declared.answers.Told.TheVariants as told
use Rattle.vc_files.proofs.WearLemmas.{wears_writes}
use Rattle.vc_files.specs.Failures.{DifferAtMost, Wears, Writes}
use Rattle.vc_files.specs.FileMap.{FileMap}
use Rattle.vc_files.specs.declared.faults.Fault.TheVariants as files
use Rattle.vc_format.specs.Git.{bytes_of_id}
use Rattle.vc_model.specs.Clone.{Awaited, CloneNode, Task}
use Rattle.vc_model.specs.Clone.Awaited.{AnAdvert, APack, Nothing}
use Rattle.vc_model.specs.Clone.Task.{StartPush}
use Rattle.vc_model.specs.CloneCall.{CloneAnswers, CloneCall, Refuses}
use Rattle.vc_model.specs.CloneCall.CloneAnswers.{asked, down, faulted, obeyed, opened, pruned, refused}
use Rattle.vc_model.specs.CloneCall.CloneCall.{Asks, Command, Open, Prune, Receive}
use Rattle.vc_model.specs.ExactWorld.{MayClone, clone_fuse_at}
use Rattle.vc_model.specs.Fuse.{Burns, CloneWrites, Fuse, WritesSuffice}
use Rattle.vc_model.specs.Message.{Message}
use Rattle.vc_model.specs.Node.{Answer}
use Rattle.vc_model.specs.Node.Answer.{Declined, Did, Fault}
use Rattle.vc_model.specs.Node.Failure.{Device, Memory}
use Rattle.vc_model.specs.Node.Reply.{Found}
use Rattle.vc_model.specs.Object.{Id}
use Rattle.vc_model.specs.Order.{AreValues, Order, IsTaskOf, with_first}
use Rattle.vc_model.specs.Question.{Question, Tells}
use Rattle.vc_model.specs.Question.Question.{Compare, Interrupted, PackRefs, Resolve, Unread, Unresolved}
use Rattle.vc_model.specs.Refs.{RefName}
use Rattle.vc_model.specs.Repository.{IsSound, Repository}
use Rattle.vc_node.specs.Awaited.{IsAwaited}
use Rattle.vc_node.proofs.CalmLemmas.{clone_burns, clone_suffices}
use Rattle.vc_node.specs.CloneCalls.{AnswersClone, MayOr}
use Rattle.vc_node.specs.CloneFaults.{IsOfDevice, TellsDevice, fault_answer, of_device, up_after}
use Rattle.vc_node.specs.declared.clone_fault.CloneFault.TheVariants as clone
use Rattle.vc_local.proofs.BurnLemmas.{suffices_unchanged}
use Rattle.vc_local.specs.Clean.{KeepsClean, KeepsCleanBut, PacksOnly}
use Rattle.vc_local.specs.declared.fault.NodeFault.{NodeFault}
use Rattle.vc_local.specs.declared.fault.NodeFault.TheVariants as node
use Rattle.vc_node.specs.Held.{Held}
use Rattle.vc_node.specs.Node.{Settles}
use Rattle.vc_local.specs.Machine.{Answers, AnswersIfSound, HoldsNode, MayWriteIfSoundOr, MayWriteOr, Spells, live_of, up_after as node_up_after}
use Rattle.vc_local.specs.NodeFault.{TellsDevice as NodeTellsDevice}
use Rattle.vc_local.specs.Shown.{shown}
use Rattle.vc_local.specs.Told.{FoundAs}
use Rattle.vc_node.specs.declared.clone_fault.CloneFault.{CloneFault}
use Rattle.vc_object.specs.declared.id.ObjectId.{ObjectId}
use Rattle.vc_expression.specs.Faults.{IsBadAt}
use Rattle.vc_values.proofs.GitLaws.{git_rules}
use Rattle.vc_rules.specs.Git.{git}
use Rattle.vc_events.proofs.RunLemmas.{take_whole}
use Rattle.vc_rules.specs.Told.{Quietly}
use Rattle.vc_simulation.proofs.ItemLemmas.{items_behind, items_refused, zero_refused}
use Rattle.vc_simulation.proofs.ValueLemmas.{comparison, found_is, refused_is}
use Rattle.vc_simulation.proofs.SpendingLemmas.{burns_more, burns_nothing, clone_calm, node_calm, same_wears, still_up, told_device}
use Rattle.vc_simulation.specs.Nodes.{HoldsClone, IsRetold, seen_clone}
use Rattle.vc_simulation.specs.Values.{AreIds, AreNoIds, AreNotPushed, ArePushed, Fails, Finds, HasZero, IsItemFor, IsNoItem, IsNoValue, IsOneMore, IsOneMoreItem, IsValue, Obeys}

-- ---- lists of values

values_more : (r : Repository) (texts : List (Vec ℕ Global)) (text : Vec ℕ Global) (ids : List ObjectId) (id : ObjectId) → AreIds texts ids r → IsValue text.items id r → AreIds (texts ++ text ∷ []) (ids ++ id ∷ []) r
values_more r [] text [] id are is = inr (bytes_of_id id, Ok [], is, refl, refl)
values_more r [] text (x ∷ ids) id are is = absurd (cc)
values_more r (t ∷ texts) text ids id are is = elim are [
  | inl bad ↦ let e = bad.2 in absurd (cc)
  | inr good ↦ go (λ ids are. values_more r texts text ids id are is) ids good.0 good.1 good.2 good.3 good.4
]
  where
    go : ((ids : List ObjectId) → AreIds texts ids r → AreIds (texts ++ text ∷ []) (ids ++ id ∷ []) r) → (ids : List ObjectId) (x : Id) (w : Result (List Id) ℕ)
        → git_rules.denotes r t.items (Ok x) → AreValues git git_rules r (map bytes_in texts) w → Ok (map bytes_of_id ids) ≡ with_first x w
        → AreIds (t ∷ (texts ++ text ∷ [])) (ids ++ id ∷ []) r
    go more [] x (Ok xs) denotes rest same = absurd (cc)
    go more [] x (Err j) denotes rest same = absurd (cc)
    go more (y ∷ ids) x (Err j) denotes rest same = absurd (cc)
    go more (y ∷ ids) x (Ok xs) denotes rest same =
        let list : bytes_of_id y ∷ map bytes_of_id ids ≡ x ∷ xs = cc in
        let tail : xs ≡ map bytes_of_id ids = cc in
        let head : x ≡ bytes_of_id y = cc in
        inr (
          x,
          Ok (map bytes_of_id (ids ++ id ∷ [])),
          denotes,
          more ids (subst (λ (xs : List Id). AreValues git git_rules r (map bytes_in texts) (Ok xs)) tail rest),
          ap (λ (z : Id). Ok (z ∷ map bytes_of_id (ids ++ id ∷ []))) (sym head),
        )

values_fail : (r : Repository) (texts : List (Vec ℕ Global)) (text : Vec ℕ Global) (rest : List (Vec ℕ Global)) (ids : List ObjectId) (k : ℕ) → AreIds texts ids r → IsNoValue text.items r k → AreNoIds (texts ++ text ∷ rest) r k
values_fail r [] text rest ids k are is = inl (k, is, refl)
values_fail r (t ∷ texts) text rest ids k are is = elim are [
  | inl bad ↦ let e = bad.2 in absurd (cc)
  | inr good ↦ go (λ ids are. values_fail r texts text rest ids k are is) ids good.0 good.1 good.2 good.3 good.4
]
  where
    go : ((ids : List ObjectId) → AreIds texts ids r → AreNoIds (texts ++ text ∷ rest) r k) → (ids : List ObjectId) (x : Id) (w : Result (List Id) ℕ)
        → git_rules.denotes r t.items (Ok x) → AreValues git git_rules r (map bytes_in texts) w → Ok (map bytes_of_id ids) ≡ with_first x w
        → AreNoIds (t ∷ (texts ++ text ∷ rest)) r k
    go more [] x (Ok xs) denotes others same = absurd (cc)
    go more [] x (Err j) denotes others same = absurd (cc)
    go more (y ∷ ids) x (Err j) denotes others same = absurd (cc)
    go more (y ∷ ids) x (Ok xs) denotes others same =
        let list : bytes_of_id y ∷ map bytes_of_id ids ≡ x ∷ xs = cc in
        let tail : xs ≡ map bytes_of_id ids = cc in
        inr (x, Err k, denotes, more ids (subst (λ (xs : List Id). AreValues git git_rules r (map bytes_in texts) (Ok xs)) tail others), refl)

-- a list is its front, an element, and what is after it
split_at : {X : Type 0} (xs : List X) (i : ℕ) (d : X) → i < length xs → xs ≡ take i xs ++ get_or xs i d ∷ drop (suc i) xs
split_at [] i d below = let f : ⊥ = omega (arith, below) in absurd f
split_at (x ∷ xs) zero d below = refl
split_at {X} (x ∷ xs) (suc i) d below = ap (λ (ys : List X). x ∷ ys) (split_at xs i d (omega (arith, below)))

-- ---- what a question may write

-- the question is none that writes
abbrev pub LooksOnly : Question → Type 0
LooksOnly (Unread k) = ⊥
LooksOnly PackRefs = ⊥
LooksOnly _ = Unit {0}

writes_none : (r : Repository) (w : Awaited) (q : Question) → LooksOnly q → CloneWrites git git_rules r w (Asks q) → ⊥
writes_none r w (Unread k) looks may = looks
writes_none r w PackRefs looks may = looks
writes_none r Nothing (Unresolved k) looks may = may
writes_none r AnAdvert (Unresolved k) looks may = may
writes_none r (APack wants refs) (Unresolved k) looks may = may
writes_none r Nothing Interrupted looks may = may
writes_none r AnAdvert Interrupted looks may = may
writes_none r (APack wants refs) Interrupted looks may = may
writes_none r Nothing (Resolve text) looks may = may
writes_none r AnAdvert (Resolve text) looks may = may
writes_none r (APack wants refs) (Resolve text) looks may = may
writes_none r Nothing (Compare first second) looks may = may
writes_none r AnAdvert (Compare first second) looks may = may
writes_none r (APack wants refs) (Compare first second) looks may = may

-- so what it spends is what another call does that may write as little
asked_other : (frail : Bool) (before after : Fuse) (n m : CloneNode) (p q : Question) (a : Answer) → LooksOnly p
    → Burns frail before (MayClone git git_rules n (Asks p)) ⊥ n.repository m.repository a after → Burns frail before (MayClone git git_rules n (Asks q)) ⊥ n.repository m.repository a after
asked_other frail before after n m p q a looks burns =
    burns_more frail before (MayClone git git_rules n (Asks p)) (MayClone git git_rules n (Asks q)) ⊥ ⊥ n.repository m.repository a after
    (λ may. absurd (writes_none n.repository may.0 p looks may.2)) (λ never. never) burns

-- ---- what is said of any clone

-- one of these calls is the machine's, and spends what it allows
abbrev pub Exact : Bool → CloneNode → (CloneNode → CloneCall → Type 0) → Answer → CloneNode → Option Message → Fuse → Fuse → Type 0
Exact frail n calls a m s before after =
    (i : CloneCall) × calls n i × CloneAnswers git git_rules n i a m s × Burns frail (clone_fuse_at before i) (MayClone git git_rules n i) ⊥ n.repository m.repository a after

-- so it is of the clone that was there before nothing was changed
moved_back : (frail : Bool) (n x m : CloneNode) (calls : CloneNode → CloneCall → Type 0) (a : Answer) (s : Option Message) (before mid after : Fuse) → x ≡ n → mid ≡ before → Exact frail x calls a m s mid after → Exact frail n calls a m s before after
moved_back frail n x m calls a s before mid after same unspent exact =
    subst (λ (f : Fuse). Exact frail n calls a m s f after) unspent (subst (λ (x : CloneNode). Exact frail x calls a m s mid after) same exact)

module _ {C : Type 0} (seen : Seen C CloneNode) where
  pub finds_more : (P Q R : Repository → Type 0) (old mid new : C) → Finds seen P old mid → Finds seen Q mid new → ((r : Repository) → P r → Q r → R r) → Finds seen R old new
  finds_more P Q R old mid new one two both = record {
    each = λ frail n held.
        let r = one.each frail n held in
        let s = two.each frail r.0 r.1 in (
          s.0,
          s.1,
          λ sound.
              let a = r.2 sound in
              let b = s.2 (subst (λ (x : CloneNode). IsSound git x.repository) (sym a.0) sound) in
              (b.0 ∙ a.0, a.1, both n.repository a.2 (subst (λ (x : CloneNode). Q x.repository) a.0 b.2)),
        );
    unspent = two.unspent ∙ one.unspent;
  }

  -- what a clone answers once it has found what it looked for, of the clone that it was
  abbrev After : (Repository → Type 0) → (CloneNode → CloneCall → Type 0) → (CloneNode → CloneCall → Type 0) → Type 0
  After P calls also = (n : CloneNode) (i : CloneCall) → n.live ≢ None → P n.repository → calls n i → also n i

  pub finds_then : (P : Repository → Type 0) (calls also : CloneNode → CloneCall → Type 0) (shows : Answer → Option Message → Type 0) (old mid new : C)
      → Finds seen P old mid → CloneCalled seen calls shows mid new → After P calls also → CloneCalled seen also shows old new
  finds_then P calls also shows old mid new one call then = record {
    each = λ frail n held.
        let r = one.each frail n held in
        let c = call.each frail r.0 r.1 in (
          c.0,
          c.1,
          c.2,
          c.3,
          c.4,
          λ sound zeros.
              let a = r.2 sound in
              let k : Exact frail n calls c.1 c.0 c.2 (seen.left old) (seen.left new)
              = moved_back frail n r.0 c.0 calls c.1 c.2 (seen.left old) (seen.left mid) (seen.left new) a.0 one.unspent
              (c.5 (subst (λ (x : CloneNode). IsSound git x.repository) (sym a.0) sound) (subst (λ (x : CloneNode). HasNoZero x.repository) (sym a.0) zeros)) in
              (k.0, then n k.0 a.1 a.2 k.1, k.2, k.3),
        );
  }

  -- a command is the order whose task it is
  pub ordered : (P : Repository → Type 0) (t : Task) (o : Order) (shows : Answer → Option Message → Type 0) (old mid new : C)
      → Finds seen P old mid → CloneCalled seen (IsOnly (Command t)) shows mid new → ((r : Repository) → P r → IsTaskOf git git_rules r o (Ok t)) → CloneCalled seen (Obeys o) shows old new
  ordered P t o shows old mid new one call task =
      finds_then P (IsOnly (Command t)) (Obeys o) shows old mid new one call (λ n i live p is. inr (live, inl (Ok t, task n.repository p, is)))

  pub fails_later : (P : Repository → Type 0) (Q R : Repository → ℕ → Type 0) (shows : Answer → Option Message → Type 0) (old mid new : C)
      → Finds seen P old mid → CloneCalled seen (Fails Q) shows mid new → ((r : Repository) (k : ℕ) → P r → Q r k → R r k) → CloneCalled seen (Fails R) shows old new
  fails_later P Q R shows old mid new one call both =
      finds_then P (Fails Q) (Fails R) shows old mid new one call (λ n i live p f. (f.0, elim f.1 [ inl is ↦ inl is | inr k ↦ inr (k.0, both n.repository k.0 p k.1, k.2) ]))

  -- an order whose expressions are not all read
  pub failed_order : (Q : Repository → ℕ → Type 0) (o : Order) (shows : Answer → Option Message → Type 0) (old new : C)
      → CloneCalled seen (Fails Q) shows old new → ((r : Repository) (k : ℕ) → Q r k → IsTaskOf git git_rules r o (Err k)) → CloneCalled seen (Obeys o) shows old new
  failed_order Q o shows old new call task = record {
    each = λ frail n held. let c = call.each frail n held in (
      c.0,
      c.1,
      c.2,
      c.3,
      c.4,
      λ sound zeros. let k = c.5 sound zeros in (k.0, inr (k.1.0, elim k.1.1 [ inl is ↦ inr is | inr f ↦ inl (Err f.0, task n.repository f.0 f.1, f.2) ]), k.2, k.3),
    );
  }

  -- ---- questions

  interrupted : (n m : CloneNode) (q : Question) (a : Answer) (s : Option Message) → n.live ≢ None → CloneAnswers git git_rules n (Asks Interrupted) a m s → CloneAnswers git git_rules n (Asks q) a m s
  interrupted n m q a s live answers = elim answers [
    | down none not said same quiet ↦ absurd (live none)
    | asked w p up call tells same quiet ↦ let same_question : p ≡ Interrupted = cc in absurd (subst (λ (p : Question). Tells git git_rules n.repository p a) same_question tells)
    | refused w k up never said same quiet ↦ absurd never
    | obeyed w d up never ends sends ↦ absurd never
    | pruned w up call ends quiet ↦ absurd (cc)
    | opened call ends quiet ↦ absurd (cc)
    | faulted w f up not said same quiet ↦ faulted w f up (λ h. absurd (cc)) said same quiet
  ]

  unresolved : (n m : CloneNode) (k : ℕ) (q : Question) (a : Answer) (s : Option Message) → n.live ≢ None → Tells git git_rules n.repository q (Declined k)
      → CloneAnswers git git_rules n (Asks (Unresolved k)) a m s → CloneAnswers git git_rules n (Asks q) a m s
  unresolved n m k q a s live tells answers = elim answers [
    | down none not said same quiet ↦ absurd (live none)
    | asked w p up call told_so same quiet ↦
        let same_question : p ≡ Unresolved k = cc in
        let is : a ≡ Declined k = subst (λ (p : Question). Tells git git_rules n.repository p a) same_question told_so in
        asked w q up refl (subst (λ (a : Answer). Tells git git_rules n.repository q a) (sym is) tells) same quiet
    | refused w j up never said same quiet ↦ absurd never
    | obeyed w d up never ends sends ↦ absurd never
    | pruned w up call ends quiet ↦ absurd (cc)
    | opened call ends quiet ↦ absurd (cc)
    | faulted w f up not said same quiet ↦ faulted w f up (λ h. absurd (cc)) said same quiet
  ]

  -- a question whose expressions are not all read
  pub failed_question : (Q : Repository → ℕ → Type 0) (q : Question) (shows : Answer → Option Message → Type 0) (old new : C)
      → CloneCalled seen (Fails Q) shows old new → ((r : Repository) (k : ℕ) → Q r k → Tells git git_rules r q (Declined k)) → CloneCalled seen (IsOnly (Asks q)) shows old new
  failed_question Q q shows old new call tells = record {
    each = λ frail n held. let c = call.each frail n held in (
      c.0,
      c.1,
      c.2,
      c.3,
      c.4,
      λ sound zeros. let e = asked_so frail n c.0 c.1 c.2 (c.5 sound zeros) in (Asks q, refl, e.0, e.1),
    );
  }
    where
      -- the call that failed, as this question
      is_then : (frail : Bool) (n m : CloneNode) (p : Question) (a : Answer) (s : Option Message) (i : CloneCall) → LooksOnly p → i ≡ Asks p
          → (CloneAnswers git git_rules n (Asks p) a m s → CloneAnswers git git_rules n (Asks q) a m s)
          → CloneAnswers git git_rules n i a m s → Burns frail (clone_fuse_at (seen.left old) i) (MayClone git git_rules n i) ⊥ n.repository m.repository a (seen.left new)
          → CloneAnswers git git_rules n (Asks q) a m s × Burns frail (seen.left old) (MayClone git git_rules n (Asks q)) ⊥ n.repository m.repository a (seen.left new)
      is_then frail n m p a s i looks is then answers burns = (
        then (subst (λ (i : CloneCall). CloneAnswers git git_rules n i a m s) is answers),
        asked_other frail (seen.left old) (seen.left new) n m p q a looks
            (subst (λ (i : CloneCall). Burns frail (clone_fuse_at (seen.left old) i) (MayClone git git_rules n i) ⊥ n.repository m.repository a (seen.left new)) is burns),
      )

      asked_so : (frail : Bool) (n m : CloneNode) (a : Answer) (s : Option Message) → Exact frail n (Fails Q) a m s (seen.left old) (seen.left new)
          → CloneAnswers git git_rules n (Asks q) a m s × Burns frail (seen.left old) (MayClone git git_rules n (Asks q)) ⊥ n.repository m.repository a (seen.left new)
      asked_so frail n m a s k = elim k.1.1 [
        | inl is ↦ is_then frail n m Interrupted a s k.0 tt is (λ answers. interrupted n m q a s k.1.0 answers) k.2 k.3
        | inr f ↦ is_then frail n m (Unresolved f.0) a s k.0 tt f.2 (λ answers. unresolved n m f.0 q a s k.1.0 (tells n.repository f.0 f.1) answers) k.2 k.3
      ]

  -- both expressions have values: the deed tells whether they are one
  pub compared : (old mid new : C) (first second : List ℕ) (x y : ObjectId) (d : Deed) → Finds seen (IsValue first x) old mid → Finds seen (IsValue second y) mid new
      → ((x ≡ y) × (d ≡ deed.Same)) ⊎ ((bytes_of_id x ≢ bytes_of_id y) × (d ≡ deed.Differs))
      → CloneCalled seen (IsOnly (Asks (Compare first second))) (Shows (Ok (told.Did d))) old new
  compared old mid new first second x y d one two either = record {
    each = λ frail n held.
        let c = both.each frail n held in
        let a = comparison x y d either in (
          c.0,
          a.0,
          None,
          c.1,
          a.1,
          λ sound zeros.
              let same = c.2 sound in
              let w = up n same.1 in (
                Asks (Compare first second),
                refl,
                asked w.0 (Compare first second) w.1 refl (Ok (bytes_of_id x), same.2.0, (Ok (bytes_of_id y), same.2.1, a.3)) same.0 refl,
                unspent frail n c.0 a.0 same.0 a.2,
              ),
        );
  }
    where
      both : Finds seen (λ r. IsValue first x r × IsValue second y r) old new
      both = finds_more (IsValue first x) (IsValue second y) (λ r. IsValue first x r × IsValue second y r) old mid new one two (λ r p q. (p, q))

      up : (n : CloneNode) → n.live ≢ None → (s : Awaited) × (n.live ≡ Some s)
      up n live = go n.live refl
        where
          go : (l : Option Awaited) → n.live ≡ l → (s : Awaited) × (n.live ≡ Some s)
          go (Some s) is = (s, is)
          go None is = absurd (live is)

      unspent : (frail : Bool) (n m : CloneNode) (a : Answer) → m ≡ n → a ≢ Fault Device
          → Burns frail (seen.left old) (MayClone git git_rules n (Asks (Compare first second))) ⊥ n.repository m.repository a (seen.left new)
      unspent frail n m a same other =
          subst (λ (f : Fuse). Burns frail (seen.left old) (MayClone git git_rules n (Asks (Compare first second))) ⊥ n.repository m.repository a f) (sym both.unspent)
          (subst (λ (x : CloneNode). Burns frail (seen.left old) (MayClone git git_rules n (Asks (Compare first second))) ⊥ n.repository x.repository a (seen.left old)) (sym same)
          (burns_nothing frail (seen.left old) (MayClone git git_rules n (Asks (Compare first second))) ⊥ n.repository a other))

-- a comparison is refused for the first expression that has no value
pub no_comparison : (first second : List ℕ) (r : Repository) (k : ℕ) → IsNoValue first r k → Tells git git_rules r (Compare first second) (Declined k)
no_comparison first second r k unread = (Err k, unread, refl)

pub no_second : (first second : List ℕ) (x : ObjectId) (r : Repository) (k : ℕ) → IsValue first x r × IsNoValue second r k → Tells git git_rules r (Compare first second) (Declined k)
no_second first second x r k both = (Ok (bytes_of_id x), both.0, (Err k, both.1, inl (k, refl, refl)))

-- the start of a fetch tells no fault of the device
fetch_calm : {T : Type 0} (r : Result T CloneFault) → IfErr r (λ e. (e ≡ clone.Node node.Down) ⊎ (e ≡ of_device files.Memory)) → ¬ TellsDevice r
fetch_calm (Ok x) is device = absurd device
fetch_calm (Err e) is device = elim is [
  | inl closed ↦ absurd (subst IsOfDevice closed device)
  | inr memory ↦ let e : false ≡ true = subst IsOfDevice memory device in cc e
]

-- ---- what a call of a clone does to its files

-- What it writes, whether the clone is up then, and that it writes where the machine's may.
pub record Spending {F : Type 0} (honest : Type 0) (content : F → FileMap) (failed : F → ℕ) (can_fail : F → Type 0) (left : F → Option ℕ) (call : CloneCall) (old new : Held F) (IsDevice : Type 0) : Type 0 where
  pub wear : Writes honest content failed can_fail left old.files new.files IsDevice
  pub ups : new.is_up ≡ true → (old.is_up ≡ true) × (¬ IsDevice)
  pub enough : (awaited : Awaited) (n : CloneNode) → HoldsNode (content old.files) old.is_up awaited n
      → (s : Repository) → Spells (shown (content new.files)) s → (k : ℕ) → DifferAtMost k (content old.files) (content new.files) → WritesSuffice ⊥ k n.repository s
  pub looks : MayOr call old.awaited old.is_up (content old.files) (Wears failed can_fail left old.files new.files IsDevice)

-- a clone that is up after a call was up before it, and the call told no fault of the device
ups_after : {F T : Type 0} (old new : Held F) (said : Result T CloneFault) → (old.is_up ≡ false → new ≡ old) → (old.is_up ≡ true → new.is_up ≡ up_after said) → new.is_up ≡ true → (old.is_up ≡ true) × (¬ TellsDevice said)
ups_after {F} old new said unchanged up = still_up old.is_up new.is_up (up_after said) (TellsDevice said) (λ is_down. ap (λ (v : Held F). v.is_up) (unchanged is_down) ∙ is_down) up (clone_calm said)

ups_told : {F T : Type 0} (old new : Held F) (said : Result T NodeFault) → (old.is_up ≡ false → new ≡ old) → (old.is_up ≡ true → new.is_up ≡ node_up_after said) → new.is_up ≡ true → (old.is_up ≡ true) × (¬ NodeTellsDevice said)
ups_told {F} old new said unchanged up = still_up old.is_up new.is_up (node_up_after said) (NodeTellsDevice said) (λ is_down. ap (λ (v : Held F). v.is_up) (unchanged is_down) ∙ is_down) up (node_calm said)

unread_writes : (r : Repository) (w : Awaited) (k : ℕ) → CloneWrites git git_rules r w (Asks (Unread k))
unread_writes r Nothing k = tt
unread_writes r AnAdvert k = tt
unread_writes r (APack wants refs) k = tt

prune_writes : (r : Repository) (w : Awaited) → CloneWrites git git_rules r w Prune
prune_writes r Nothing = tt
prune_writes r AnAdvert = tt
prune_writes r (APack wants refs) = tt

module _ {F : Type 0} (honest : Type 0) (content : F → FileMap) (failed : F → ℕ) (can_fail : F → Type 0) (left : F → Option ℕ) where
  -- a call that sends or takes messages, or asks for a value
  pub exchange_called : (old new : Held F) (call : CloneCall) (shows : Answer → Option Message → Type 0) (IsDevice : Type 0) (r : Result Told Ended) → honest → call ≢ Open
      → AnswersClone call shows (content old.files) (content new.files) old.awaited new.awaited old.is_up new.is_up → Spending honest content failed can_fail left call old new IsDevice → IsRetold shows IsDevice r
      → CloneCalled (seen_clone content can_fail left) (IsOnly call) (Shows r) old new
  exchange_called old new call shows IsDevice r is_honest other answers spends retold = record {
    each = λ frail n held.
        let m = clone_burns {D = F} {R = Unit {0}} honest content failed can_fail left (λ u. shows) (λ u. IsDevice) old.files new.files tt frail call old.awaited new.awaited old.is_up new.is_up held.awaited n is_honest other held.calm spends.wear spends.ups
        (spends.enough held.awaited n held.holds) (told_device shows IsDevice r retold) spends.looks answers held.is_awaited held.holds in (
          m.1,
          m.2,
          m.3,
          record { awaited = m.0; is_awaited = m.4; holds = m.5; calm = m.6 },
          retold.shown m.2 m.3 m.7,
          λ sound zeros. let exact = m.8 sound in (call, refl, exact.0, other_fuse old new frail call n m.1 m.2 other exact.1),
        );
  }
    where
      -- no call but the opening takes a fuse out
      other_fuse : (old new : Held F) (frail : Bool) (call : CloneCall) (n m : CloneNode) (a : Answer) → call ≢ Open
          → Burns frail (left old.files) (MayClone git git_rules n call) ⊥ n.repository m.repository a (left new.files)
          → Burns frail (clone_fuse_at (left old.files) call) (MayClone git git_rules n call) ⊥ n.repository m.repository a (left new.files)
      other_fuse old new frail call n m a other burns = subst (λ (f : Fuse). Burns frail f (MayClone git git_rules n call) ⊥ n.repository m.repository a (left new.files)) (same_fuse (left old.files) call other) burns
        where
          same_fuse : (f : Fuse) (call : CloneCall) → call ≢ Open → f ≡ clone_fuse_at f call
          same_fuse f (Command t) other = refl
          same_fuse f (Receive m) other = refl
          same_fuse f (Asks q) other = refl
          same_fuse f Prune other = refl
          same_fuse f Open other = absurd (other refl)

  -- a call that only looks
  pub looking : (call : CloneCall) (old new : Held F) (IsDevice : Type 0) → Wears failed can_fail left old.files new.files IsDevice → content new.files ≡ content old.files
      → (new.is_up ≡ true → (old.is_up ≡ true) × (¬ IsDevice)) → Spending honest content failed can_fail left call old new IsDevice
  looking call old new IsDevice wears same ups = record {
    wear = wears_writes wears (λ h. same);
    ups = ups;
    enough = λ awaited n held s told k differ. suffices_unchanged (content old.files) (content new.files) n.repository s held.shows.spells told (ap (λ (c : FileMap). shown c) same) k differ;
    looks = λ awaited n is held. inr wears;
  }

  -- a local command, of which it is said at a sound clone that it is the machine's
  pub local_called : (old new : Held F) (task : Task) (answer : Answer) (IsDevice : Type 0) (r : Result Told Ended) → honest
      → AnswersIfSound task answer old.is_up new.is_up (content old.files) (content new.files) → new.awaited ≡ old.awaited → Spending honest content failed can_fail left (Command task) old new IsDevice → IsRetold (Quietly answer) IsDevice r
      → CloneCalled (seen_clone content can_fail left) (IsOnly (Command task)) (Shows r) old new
  local_called old new task answer IsDevice r is_honest answers awaits spends retold =
      exchange_called old new (Command task) (Quietly answer) IsDevice r is_honest (λ h. absurd (cc))
      (record {
        each = λ awaited n is held. let m = answers.each awaited n held in
            (awaited, m.0, answer, None, subst (λ w. IsAwaited w awaited) (sym awaits) is, m.1, record { answer = refl; sent = refl }, m.2);
      }) spends retold

  -- what a local command does to its files
  pub commanding : {T : Type 0} (task : Task) (old new : Held F) (said : Result T NodeFault) (name : RefName) → Writes honest content failed can_fail left old.files new.files (NodeTellsDevice said)
      → Settles (said ≡ Err node.Down) (node_up_after said) old new → KeepsCleanBut name (content old.files) (content new.files)
      → MayWriteIfSoundOr task old.is_up (content old.files) (Wears failed can_fail left old.files new.files (NodeTellsDevice said)) → Spending honest content failed can_fail left (Command task) old new (NodeTellsDevice said)
  commanding task old new said name wear settles keeps looks = record {
    wear = wear;
    ups = ups_told old new said settles.unchanged settles.up;
    enough = λ awaited n held. clone_suffices name (content old.files) (content new.files) old.is_up awaited n held keeps;
    looks = λ awaited n is held. looks awaited n held;
  }

  -- packing the refs
  pub packing : (old new : Held F) (said : Result (Unit {0}) NodeFault) → Writes honest content failed can_fail left old.files new.files (NodeTellsDevice said) → Settles (said ≡ Err node.Down) (node_up_after said) old new
      → PacksOnly (content old.files) (content new.files) → MayOr (Asks PackRefs) old.awaited old.is_up (content old.files) (Wears failed can_fail left old.files new.files (NodeTellsDevice said))
      → Spending honest content failed can_fail left (Asks PackRefs) old new (NodeTellsDevice said)
  packing old new said wear settles keeps looks = record {
    wear = wear;
    ups = ups_told old new said settles.unchanged settles.up;
    enough = λ awaited n held s told k differ. suffices_unchanged (content old.files) (content new.files) n.repository s held.shows.spells told keeps.same k differ;
    looks = looks;
  }

  -- a prune
  pub pruning : (old new : Held F) (said : Result ℕ NodeFault) → Writes honest content failed can_fail left old.files new.files (NodeTellsDevice said)
      → (old.is_up ≡ false → said ≡ Err node.Down) → (old.is_up ≡ false → new ≡ old) → (old.is_up ≡ true → new.is_up ≡ node_up_after said) → KeepsClean (content old.files) (content new.files)
      → Spending honest content failed can_fail left Prune old new (NodeTellsDevice said)
  pruning old new said wear answers_down unchanged up keeps = record {
    wear = wear;
    ups = ups_told old new said unchanged up;
    enough = λ awaited n held. clone_suffices [] (content old.files) (content new.files) old.is_up awaited n held keeps;
    looks = λ awaited n is held. may awaited n held old.is_up refl;
  }
    where
      may : (awaited : Awaited) (n : CloneNode) → HoldsNode (content old.files) old.is_up awaited n → (b : Bool) → old.is_up ≡ b
          → (IsSound git n.repository → MayClone git git_rules n Prune) ⊎ Wears failed can_fail left old.files new.files (NodeTellsDevice said)
      may awaited n held true is_up = inl (λ sound. (awaited, held.shows.live ∙ ap (λ (b : Bool). live_of b awaited) is_up, prune_writes n.repository awaited))
      may awaited n held false is_down = inr (same_wears failed can_fail left old.files new.files (NodeTellsDevice said) (ap (λ (v : Held F). v.files) (unchanged is_down))
          (λ device. absurd (subst (λ (r : Result ℕ NodeFault). NodeTellsDevice r) (answers_down is_down) device)))

  -- a message that comes, or bytes that are none
  pub receiving : {T : Type 0} (call : CloneCall) (old new : Held F) (said : Result T CloneFault) → Writes honest content failed can_fail left old.files new.files (TellsDevice said)
      → (old.is_up ≡ false → new ≡ old) → (old.is_up ≡ true → new.is_up ≡ up_after said) → KeepsClean (content old.files) (content new.files)
      → MayOr call old.awaited old.is_up (content old.files) (Wears failed can_fail left old.files new.files (TellsDevice said)) → Spending honest content failed can_fail left call old new (TellsDevice said)
  receiving call old new said wear unchanged up keeps looks = record {
    wear = wear;
    ups = ups_after old new said unchanged up;
    enough = λ awaited n held. clone_suffices [] (content old.files) (content new.files) old.is_up awaited n held keeps;
    looks = looks;
  }

  pub bytes_may : {T : Type 0} (old new : Held F) (k : ℕ) (said : Result T CloneFault) → (old.is_up ≡ false → said ≡ Err (clone.Node node.Down)) → (old.is_up ≡ false → new ≡ old)
      → MayOr (Asks (Unread k)) old.awaited old.is_up (content old.files) (Wears failed can_fail left old.files new.files (TellsDevice said))
  bytes_may {T} old new k said answers_down unchanged awaited n is held = by old.is_up refl
    where
      by : (b : Bool) → old.is_up ≡ b → (IsSound git n.repository → MayClone git git_rules n (Asks (Unread k))) ⊎ Wears failed can_fail left old.files new.files (TellsDevice said)
      by true is_up = inl (λ sound. (awaited, held.shows.live ∙ ap (λ (b : Bool). live_of b awaited) is_up, unread_writes n.repository awaited k))
      by false is_down = inr (same_wears failed can_fail left old.files new.files (TellsDevice said) (ap (λ (v : Held F). v.files) (unchanged is_down)) (λ device. absurd (subst (λ (r : Result T CloneFault). TellsDevice r) (answers_down is_down) device)))

  -- the start of a push, which only looks
  pub sending : {T : Type 0} (call : CloneCall) (old new : Held F) (said : Result T CloneFault) → Wears failed can_fail left old.files new.files (TellsDevice said) → content new.files ≡ content old.files
      → Settles (said ≡ Err (clone.Node node.Down)) (up_after said) old new → Spending honest content failed can_fail left call old new (TellsDevice said)
  sending call old new said wears same settles = looking call old new (TellsDevice said) wears same (ups_after old new said settles.unchanged settles.up)

  -- the start of a fetch, which does not look
  pub fetching : {T : Type 0} (call : CloneCall) (old new : Held F) (said : Result T CloneFault) → new.files ≡ old.files → IfErr said (λ e. (e ≡ clone.Node node.Down) ⊎ (e ≡ of_device files.Memory))
      → (old.is_up ≡ false → new ≡ old) → (old.is_up ≡ true → new.is_up ≡ up_after said) → Spending honest content failed can_fail left call old new (TellsDevice said)
  fetching call old new said same why unchanged up =
      looking call old new (TellsDevice said) (same_wears failed can_fail left old.files new.files (TellsDevice said) same (fetch_calm said why)) (ap content same) (ups_after old new said unchanged up)

-- a command that may write may do so where the clone is sound
pub may_if_sound : (task : Task) (is_up : Bool) (old : FileMap) (IsLook : Type 0) → MayWriteOr task is_up old IsLook → MayWriteIfSoundOr task is_up old IsLook
may_if_sound task is_up old IsLook looks awaited n held = elim (looks awaited n held) [
  | inl may ↦ inl (λ sound. may)
  | inr look ↦ inr look
]

-- ---- values

value_told : (n m : CloneNode) (text : List ℕ) (id : ObjectId) (a : Answer) (s : Option Message) → CloneAnswers git git_rules n (Asks (Resolve text)) a m s → a ≡ Did (Found (bytes_of_id id))
    → (m ≡ n) × (n.live ≢ None) × IsValue text id n.repository
value_told n m text id a s answers is = elim answers [
  | down none not said same quiet ↦ absurd (cc)
  | asked w q live call tells same quiet ↦
      let same_question : q ≡ Resolve text = cc in
      let t = subst (λ (q : Question). Tells git git_rules n.repository q a) same_question tells in
      (same, (λ none. absurd (cc)), found_is n.repository text id t.0 t.1 (sym is ∙ t.2))
  | refused w k live never said same quiet ↦ absurd never
  | obeyed w d live never ends sends ↦ absurd never
  | pruned w live call ends quiet ↦ absurd (cc)
  | opened call ends quiet ↦ absurd (cc)
  | faulted w f live not said same quiet ↦ absurd (cc)
]

-- the question that fails, if no value is told
no_value_told : (n m : CloneNode) (text : List ℕ) (e : Ended) (a : Answer) (s : Option Message) → n.live ≢ None → CloneAnswers git git_rules n (Asks (Resolve text)) a m s → a ≡ answer_of e
    → (q : Question) × Fails (IsNoValue text) n (Asks q) × CloneAnswers git git_rules n (Asks q) a m s
no_value_told n m text e a s live answers is = elim answers [
  | down none not said same quiet ↦ absurd (live none)
  | asked w q up call tells same quiet ↦
      let same_question : q ≡ Resolve text = cc in
      let t = subst (λ (q : Question). Tells git git_rules n.repository q a) same_question tells in
      let r = refused_is n.repository text e t.0 t.1 (sym is ∙ t.2) in
      (Unresolved r.0, (live, inr (r.0, r.1, refl)), asked w (Unresolved r.0) up refl (is ∙ r.2) same quiet)
  | refused w k up never said same quiet ↦ absurd never
  | obeyed w d up never ends sends ↦ absurd never
  | pruned w up call ends quiet ↦ absurd (cc)
  | opened call ends quiet ↦ absurd (cc)
  | faulted w f up not said same quiet ↦ (Interrupted, (live, inl refl), faulted w f up (λ h. absurd (cc)) said same quiet)
]

module _ {F : Type 0} (content : F → FileMap) (can_fail : F → Type 0) (left : F → Option ℕ) where
  abbrev pub Sees : Seen (Held F) CloneNode
  Sees = seen_clone content can_fail left

  live_some : (frail : Bool) (v : Held F) (n : CloneNode) → v.is_up ≡ true → (held : HoldsClone content can_fail frail v n) → n.live ≡ Some held.awaited
  live_some frail v n up held = held.holds.shows.live ∙ ap (λ (b : Bool). live_of b held.awaited) up

  -- a call that spends nothing, at a clone that changes nothing but whether it is up
  spends_nothing : (old new : Held F) (frail : Bool) (call : CloneCall) (n : CloneNode) (a : Answer) → a ≢ Fault Device → new.files ≡ old.files
      → Burns frail (left old.files) (MayClone git git_rules n call) ⊥ n.repository n.repository a (left new.files)
  spends_nothing old new frail call n a other files =
      subst (λ (f : F). Burns frail (left old.files) (MayClone git git_rules n call) ⊥ n.repository n.repository a (left f)) (sym files)
      (burns_nothing frail (left old.files) (MayClone git git_rules n call) ⊥ n.repository a other)

  -- a node that is down refuses each question
  down_at : (calls : CloneNode → CloneCall → Type 0) (old new : Held F) → old.is_up ≡ false → new ≡ old → ((n : CloneNode) → n.live ≡ None → (q : Question) × calls n (Asks q))
      → CloneCalled Sees calls (Shows (Err (ended.Refused 112))) old new
  down_at calls old new is_down same comes = record {
    each = λ frail n held. (
      n,
      Declined 112,
      None,
      subst (λ (v : Held F). HoldsClone content can_fail frail v n) (sym same) held,
      record { answer = refl; sent = refl },
      λ sound zeros.
          let none : n.live ≡ None = held.holds.shows.live ∙ ap (λ (b : Bool). live_of b held.awaited) is_down in
          let q = comes n none in
          (Asks q.0, q.1, down none (λ h. absurd (cc)) refl refl refl, spends_nothing old new frail (Asks q.0) n (Declined 112) (λ h. absurd (cc)) (ap (λ (v : Held F). v.files) same)),
    );
  }

  pub down_called : (old new : Held F) (q : Question) → old.is_up ≡ false → new ≡ old → CloneCalled Sees (IsOnly (Asks q)) (Shows (Err (ended.Refused 112))) old new
  down_called old new q is_down same = down_at (IsOnly (Asks q)) old new is_down same (λ n none. (q, refl))

  pub down_order : (old new : Held F) (o : Order) → old.is_up ≡ false → new ≡ old → CloneCalled Sees (Obeys o) (Shows (Err (ended.Refused 112))) old new
  down_order old new o is_down same = down_at (Obeys o) old new is_down same (λ n none. (Unresolved 112, inl (none, refl)))

  -- a node that is up, before it reads anything
  pub finds_none : (old new : Held F) → old.is_up ≡ true → new ≡ old → Finds Sees (λ r. Unit {0}) old new
  finds_none old new up same = record {
    each = λ frail n held. (n, subst (λ (v : Held F). HoldsClone content can_fail frail v n) (sym same) held, λ sound. (refl, (λ none. let e = live_some frail old n up held in absurd (cc)), tt));
    unspent = ap (λ (v : Held F). left v.files) same;
  }

  pub value_bad : (old new : Held F) (text : List ℕ) (place : ℕ) → old.is_up ≡ true → new ≡ old → IsBadAt text place → CloneCalled Sees (Fails (IsNoValue text)) (Shows (Err (ended.Refused 50))) old new
  value_bad old new text place up same bad = record {
    each = λ frail n held. (
      n,
      Declined 50,
      None,
      subst (λ (v : Held F). HoldsClone content can_fail frail v n) (sym same) held,
      record { answer = refl; sent = refl },
      λ sound zeros.
          let live = live_some frail old n up held in (
            Asks (Unresolved 50),
            ((λ none. absurd (cc)), inr (50, inl ((place, bad), refl), refl)),
            asked held.awaited (Unresolved 50) live refl refl refl refl,
            spends_nothing old new frail (Asks (Unresolved 50)) n (Declined 50) (λ h. absurd (cc)) (ap (λ (v : Held F). v.files) same),
          ),
    );
  }

  -- want of memory, after which the node is down
  pub halted : (P : Repository → ℕ → Type 0) (old new : Held F) → old.is_up ≡ true → new.is_up ≡ false → new.files ≡ old.files → new.awaited ≡ old.awaited
      → CloneCalled Sees (Fails P) (Shows (Err (ended.Fault files.Memory))) old new
  halted P old new up is_down files awaits = record {
    each = λ frail n held.
        let live = live_some frail old n up held in
        let m : CloneNode = record { repository = n.repository; live = None } in (
          m,
          Fault Memory,
          None,
          record {
            awaited = held.awaited;
            is_awaited = subst (λ w. IsAwaited w held.awaited) (sym awaits) held.is_awaited;
            holds = subst (λ (b : Bool). HoldsNode (content new.files) b held.awaited m) (sym is_down)
                (subst (λ (f : F). HoldsNode (content f) false held.awaited m) (sym files) (record { shows = record { spells = held.holds.shows.spells; live = refl }; clean = held.holds.clean }));
            calm = λ up can. let e : false ≡ true = sym is_down ∙ up in absurd (cc e);
          },
          record { answer = refl; sent = refl },
          λ sound zeros. (
            Asks Interrupted,
            ((λ none. absurd (cc)), inl refl),
            faulted held.awaited Memory live (λ h. absurd (cc)) refl refl refl,
            spends_nothing old new frail (Asks Interrupted) n (Fault Memory) (λ h. absurd (cc)) files,
          ),
        );
  }

  pub memory_halted : (P : Repository → ℕ → Type 0) (old new : Held F) (e : Ended) → old.is_up ≡ true → new.is_up ≡ false → new.files ≡ old.files → new.awaited ≡ old.awaited → e ≡ ended.Fault files.Memory
      → CloneCalled Sees (Fails P) (Shows (Err e)) old new
  memory_halted P old new e up is_down files awaits is = subst (λ (e : Ended). CloneCalled Sees (Fails P) (Shows (Err e)) old new) (sym is) (halted P old new up is_down files awaits)

  -- ---- several values

  -- one more of the front of a list of expressions
  pub ids_more : (texts : List (Vec ℕ Global)) (i : ℕ) (text : Vec ℕ Global) (ids after : List ObjectId) (old mid new : Held F) → i < length texts
      → Finds Sees (AreIds (take i texts) ids) old mid → IsOneMore content can_fail left (get_or texts i text).items ids after mid new → Finds Sees (AreIds (take (i + 1) texts) after) old new
  ids_more texts i text ids after old mid new below finds more =
      finds_more Sees (AreIds (take i texts) ids) (IsValue (get_or texts i text).items more.id) (AreIds (take (i + 1) texts) after) old mid new finds more.finds
      (λ r p q. subst (λ (ts : List (Vec ℕ Global)). AreIds ts after r) (sym (take_more texts i text below))
      (subst (λ (a : List ObjectId). AreIds (take i texts ++ get_or texts i text ∷ []) a r) (sym more.behind) (values_more r (take i texts) (get_or texts i text) ids more.id p q)))

  pub ids_fail : (texts : List (Vec ℕ Global)) (i : ℕ) (text : Vec ℕ Global) (ids : List ObjectId) (e : Ended) (old mid new : Held F) → i < length texts
      → Finds Sees (AreIds (take i texts) ids) old mid → CloneCalled Sees (Fails (IsNoValue (get_or texts i text).items)) (Shows (Err e)) mid new → CloneCalled Sees (Fails (AreNoIds texts)) (Shows (Err e)) old new
  ids_fail texts i text ids e old mid new below finds fails =
      fails_later Sees (AreIds (take i texts) ids) (IsNoValue (get_or texts i text).items) (AreNoIds texts) (Shows (Err e)) old mid new finds fails
      (λ r k p q. subst (λ (ts : List (Vec ℕ Global)). AreNoIds ts r k) (sym (split_at texts i text below)) (values_fail r (take i texts) (get_or texts i text) (drop (suc i) texts) ids k p q))

  -- none yet, and all
  pub ids_none : (texts : List (Vec ℕ Global)) (ids : List ObjectId) (v : Held F) → v.is_up ≡ true → ids ≡ [] → Finds Sees (AreIds (take 0 texts) ids) v v
  ids_none texts ids v up none = finds_more Sees (λ r. Unit {0}) (λ r. Unit {0}) (AreIds (take 0 texts) ids) v v v (finds_none v v up refl) (finds_none v v up refl)
      (λ r p q. subst (λ (ids : List ObjectId). AreIds (take 0 texts) ids r) (sym none) refl)

  pub ids_whole : (texts : List (Vec ℕ Global)) (i : ℕ) (ids : List ObjectId) (old new : Held F) → i ≡ length texts → Finds Sees (AreIds (take i texts) ids) old new → Finds Sees (AreIds texts ids) old new
  ids_whole texts i ids old new end finds = subst (λ (ts : List (Vec ℕ Global)). Finds Sees (AreIds ts ids) old new) (ap (λ (n : ℕ). take n texts) end ∙ take_whole texts) finds

  -- the failure that a result tells of
  pub failure : {T : Type 0} (P Q : Repository → ℕ → Type 0) (r : Result T Ended) (e : Ended) (old new : Held F) → r ≡ Err e → ((s : Repository) (k : ℕ) → P s k → Q s k)
      → IfErr r (λ e. CloneCalled Sees (Fails P) (Shows (Err e)) old new) → CloneCalled Sees (Fails Q) (Shows (Err e)) old new
  failure {T} P Q r e old new is wider fails =
      let c : CloneCalled Sees (Fails P) (Shows (Err e)) old new = subst (λ (r : Result T Ended). IfErr r (λ e. CloneCalled Sees (Fails P) (Shows (Err e)) old new)) is fails in
      record {
        each = λ frail n held. let m = c.each frail n held in (
          m.0,
          m.1,
          m.2,
          m.3,
          m.4,
          λ sound zeros. let k = m.5 sound zeros in (k.0, (k.1.0, elim k.1.1 [ inl i ↦ inl i | inr f ↦ inr (f.0, wider n.repository f.0 f.1, f.2) ]), k.2, k.3),
        );
      }

  -- ---- the items of a push

  pub items_more : (named : List NamedItem) (i : ℕ) (one : NamedItem) (items after : List PushItem) (old mid new : Held F) → i < length named
      → Finds Sees (ArePushed (take i named) items) old mid → IsOneMoreItem content can_fail left (get_or named i one) items after mid new → Finds Sees (ArePushed (take (i + 1) named) after) old new
  items_more named i one items after old mid new below finds more =
      finds_more Sees (ArePushed (take i named) items) (IsItemFor (get_or named i one) more.item) (ArePushed (take (i + 1) named) after) old mid new finds more.finds
      (λ r p q. subst (λ (ns : List NamedItem). ArePushed ns after r) (sym (take_more named i one below))
      (subst (λ (a : List PushItem). ArePushed (take i named ++ get_or named i one ∷ []) a r) (sym more.behind) (items_behind r (take i named) (get_or named i one) items more.item p q)))

  pub items_fail : (named : List NamedItem) (i : ℕ) (one : NamedItem) (items : List PushItem) (e : Ended) (old mid new : Held F) → i < length named
      → Finds Sees (ArePushed (take i named) items) old mid → CloneCalled Sees (Fails (IsNoItem (get_or named i one))) (Shows (Err e)) mid new → CloneCalled Sees (Fails (AreNotPushed named)) (Shows (Err e)) old new
  items_fail named i one items e old mid new below finds fails =
      fails_later Sees (ArePushed (take i named) items) (IsNoItem (get_or named i one)) (AreNotPushed named) (Shows (Err e)) old mid new finds fails
      (λ r k p q. subst (λ (ns : List NamedItem). AreNotPushed ns r k) (sym (split_at named i one below)) (items_refused r (take i named) (get_or named i one) (drop (suc i) named) items k p q))

  pub items_none : (named : List NamedItem) (items : List PushItem) (v : Held F) → v.is_up ≡ true → items ≡ [] → Finds Sees (ArePushed (take 0 named) items) v v
  items_none named items v up none = finds_more Sees (λ r. Unit {0}) (λ r. Unit {0}) (ArePushed (take 0 named) items) v v v (finds_none v v up refl) (finds_none v v up refl)
      (λ r p q. subst (λ (items : List PushItem). ArePushed (take 0 named) items r) (sym none) refl)

  pub items_whole : (named : List NamedItem) (i : ℕ) (items : List PushItem) (old new : Held F) → i ≡ length named → Finds Sees (ArePushed (take i named) items) old new → Finds Sees (ArePushed named items) old new
  items_whole named i items old new end finds = subst (λ (ns : List NamedItem). Finds Sees (ArePushed ns items) old new) (ap (λ (n : ℕ). take n named) end ∙ take_whole named) finds

  -- nothing was looked for: an item that is deleted
  pub item_gone : (named : NamedItem) (item : PushItem) (old new : Held F) → old.is_up ≡ true → new ≡ old → named.value ≡ None → item ≡ record { id = None; name = named.name } → Finds Sees (IsItemFor named item) old new
  item_gone named item old new up same none is = finds_more Sees (λ r. Unit {0}) (λ r. Unit {0}) (IsItemFor named item) old old new (finds_none old old up refl) (finds_none old new up same)
      (λ r p q. (ap (λ (i : PushItem). i.name) is, inl (none, ap (λ (i : PushItem). i.id) is)))

  pub item_there : (named : NamedItem) (text : Vec ℕ Global) (bytes : List ℕ) (id : ObjectId) (item : PushItem) (old new : Held F) → named.value ≡ Some text → bytes ≡ text.items → item ≡ record { id = Some id; name = named.name }
      → Finds Sees (IsValue bytes id) old new → Finds Sees (IsItemFor named item) old new
  item_there named text bytes id item old new some same is finds = record {
    each = λ frail n held. let m = finds.each frail n held in (
      m.0,
      m.1,
      λ sound. let k = m.2 sound in (k.0, k.1, (ap (λ (i : PushItem). i.name) is, inr (text, id, some, ap (λ (i : PushItem). i.id) is, subst (λ (b : List ℕ). IsValue b id n.repository) same k.2))),
    );
    unspent = finds.unspent;
  }

  -- ---- a push with the zero id

  pub zero_push : (old new : Held F) (atomic : Bool) (items : List PushItem) (k : ℕ) → old.is_up ≡ true → new ≡ old → HasZero items → (((256 < length items) × (k ≡ 84)) ⊎ ((length items ≤ 256) × (k ≡ 40)))
      → CloneCalled Sees (IsOnly (Command (StartPush atomic (machine_items items)))) (Shows (Err (ended.Refused k))) old new
  zero_push old new atomic items k up same has which = record {
    each = λ frail n held. (
      n,
      Declined k,
      None,
      subst (λ (v : Held F). HoldsClone content can_fail frail v n) (sym same) held,
      record { answer = refl; sent = refl },
      λ sound zeros.
          let z = zero_refused n atomic items sound zeros has in
          let refuses : Refuses git git_rules n.repository (StartPush atomic (machine_items items)) k = elim which [
            | inl many ↦ subst (λ (k : ℕ). Refuses git git_rules n.repository (StartPush atomic (machine_items items)) k) (sym many.1) (z.0 many.0)
            | inr few ↦ subst (λ (k : ℕ). Refuses git git_rules n.repository (StartPush atomic (machine_items items)) k) (sym few.1) (z.1 few.0)
          ] in
          (Command (StartPush atomic (machine_items items)), refl, refused held.awaited k (live_some frail old n up held) refuses refl refl refl, spends_nothing old new frail (Command (StartPush atomic (machine_items items))) n (Declined k) (λ h. absurd (cc)) (ap (λ (v : Held F). v.files) same)),
    );
  }

  -- an order whose expression has no value
  pub unread_order : {T : Type 0} (P : Repository → ℕ → Type 0) (o : Order) (r : Result T Ended) (e : Ended) (old new : Held F) → r ≡ Err e
      → IfErr r (λ e. CloneCalled Sees (Fails P) (Shows (Err e)) old new) → ((s : Repository) (k : ℕ) → P s k → IsTaskOf git git_rules s o (Err k)) → CloneCalled Sees (Obeys o) (Shows (Err e)) old new
  unread_order P o r e old new is fails task = failed_order Sees P o (Shows (Err e)) old new (failure P P r e old new is (λ s k p. p) fails) task

  -- the value that a result tells of
  pub finding : {T : Type 0} (P : T → Repository → Type 0) (r : Result T Ended) (x : T) (old new : Held F) → r ≡ Ok x → IfOk r (λ x. Finds Sees (P x) old new) → Finds Sees (P x) old new
  finding {T} P r x old new is finds = subst (λ (r : Result T Ended). IfOk r (λ x. Finds Sees (P x) old new)) is finds

  pub halted_order : (o : Order) (old new : Held F) (e : Ended) → old.is_up ≡ true → new.is_up ≡ false → new.files ≡ old.files → new.awaited ≡ old.awaited → e ≡ ended.Fault files.Memory → CloneCalled Sees (Obeys o) (Shows (Err e)) old new
  halted_order o old new e up is_down files awaits is = failed_order Sees (λ r k. ⊥) o (Shows (Err e)) old new (memory_halted (λ r k. ⊥) old new e up is_down files awaits is) (λ s k p. absurd p)

  -- an order said in other words
  pub other_order : (o p : Order) (shows : Answer → Option Message → Type 0) (old new : Held F) → o ≡ p → CloneCalled Sees (Obeys p) shows old new → CloneCalled Sees (Obeys o) shows old new
  other_order o p shows old new same called = subst (λ (o : Order). CloneCalled Sees (Obeys o) shows old new) (sym same) called

module _ {F : Type 0} (honest : Type 0) (content : F → FileMap) (failed : F → ℕ) (can_fail : F → Type 0) (left : F → Option ℕ) where
  -- a local command is the order whose task it is
  pub sound_order : (P : Repository → Type 0) (old mid new : Held F) (task : Task) (o : Order) (answer : Answer) (IsDevice : Type 0) (r : Result Told Ended) → honest → Finds (seen_clone content can_fail left) P old mid
      → AnswersIfSound task answer mid.is_up new.is_up (content mid.files) (content new.files) → new.awaited ≡ mid.awaited → Spending honest content failed can_fail left (Command task) mid new IsDevice → IsRetold (Quietly answer) IsDevice r
      → ((s : Repository) → P s → IsTaskOf git git_rules s o (Ok task)) → CloneCalled (seen_clone content can_fail left) (Obeys o) (Shows r) old new
  sound_order P old mid new task o answer IsDevice r is_honest finds answers awaits spends retold tasks =
      ordered (seen_clone content can_fail left) P task o (Shows r) old mid new finds (local_called honest content failed can_fail left mid new task answer IsDevice r is_honest answers awaits spends retold) tasks

  -- and where it is said of any clone
  pub local_order : (P : Repository → Type 0) (old mid new : Held F) (task : Task) (o : Order) (answer : Answer) (IsDevice : Type 0) (r : Result Told Ended) → honest → Finds (seen_clone content can_fail left) P old mid
      → Answers task answer mid.is_up new.is_up (content mid.files) (content new.files) → new.awaited ≡ mid.awaited → Spending honest content failed can_fail left (Command task) mid new IsDevice → IsRetold (Quietly answer) IsDevice r
      → ((s : Repository) → P s → IsTaskOf git git_rules s o (Ok task)) → CloneCalled (seen_clone content can_fail left) (Obeys o) (Shows r) old new
  local_order P old mid new task o answer IsDevice r is_honest finds answers awaits spends retold tasks =
      sound_order P old mid new task o answer IsDevice r is_honest finds (record { each = λ awaited n held. let m = answers.each awaited n held in (m.0, m.1, λ sound. m.2) }) awaits spends retold tasks

module _ {F : Type 0} (honest : Type 0) (content : F → FileMap) (failed : F → ℕ) (can_fail : F → Type 0) (left : F → Option ℕ) (old new : Held F) (text : List ℕ) (said : Result ObjectId CloneFault)
    (answers : AnswersClone (Asks (Resolve text)) (FoundAs fault_answer said) (content old.files) (content new.files) old.awaited new.awaited old.is_up new.is_up)
    (wears : Wears failed can_fail left old.files new.files (TellsDevice said))
    (settles : Settles (said ≡ Err (clone.Node node.Down)) (up_after said) old new) where
  ups : new.is_up ≡ true → (old.is_up ≡ true) × (¬ TellsDevice said)
  ups = ups_after old new said settles.unchanged settles.up

  -- what is told of an expression, with the value
  pub value_answers : (r : Result ObjectId Ended) → IfOk r (λ id. said ≡ Ok id) → IfOk r (λ id. Finds (seen_clone content can_fail left) (IsValue text id) old new)
  value_answers (Ok id) is = record {
    each = λ frail n held.
        let m = answers.each held.awaited n held.is_awaited held.holds in
        let q : Quietly (Did (Found (bytes_of_id id))) m.2 m.3 = subst (λ (x : Result ObjectId CloneFault). FoundAs fault_answer x m.2 m.3) is m.6 in (
          m.1,
          record { awaited = m.0; is_awaited = m.4; holds = m.5; calm = λ up can. held.calm (ups up).0 (wears.calm can) },
          λ sound. value_told n m.1 text id m.2 m.3 (m.7 sound) q.answer,
        );
    unspent = wears.unspent;
  }
  value_answers (Err e) is = tt

  -- or why there is none
  pub no_value_answers : (r : Result ObjectId Ended) → honest → content new.files ≡ content old.files → old.is_up ≡ true → IfErr r (λ e. IsRetold (FoundAs fault_answer said) (TellsDevice said) (Err e))
      → IfErr r (λ e. CloneCalled (seen_clone content can_fail left) (Fails (IsNoValue text)) (Shows (Err e)) old new)
  no_value_answers (Ok id) is_honest same up retold = tt
  no_value_answers (Err e) is_honest same up retold = record {
    each = λ frail n held.
        let c = asks.each frail n held in (
          c.0,
          c.1,
          c.2,
          c.3,
          c.4,
          λ sound zeros.
              let k = c.5 sound zeros in
              let t = no_value_told n c.0 text e c.1 c.2 (λ none. let e = live_some content can_fail left frail old n up held in absurd (cc)) (subst (λ (i : CloneCall). CloneAnswers git git_rules n i c.1 c.0 c.2) k.1 k.2) c.4.answer in (
                Asks t.0,
                t.1,
                t.2,
                asked_other frail (left old.files) (left new.files) n c.0 (Resolve text) t.0 c.1 tt
                    (subst (λ (i : CloneCall). Burns frail (clone_fuse_at (left old.files) i) (MayClone git git_rules n i) ⊥ n.repository c.0.repository c.1 (left new.files)) k.1 k.3),
              ),
        );
  }
    where
      asks : CloneCalled (seen_clone content can_fail left) (IsOnly (Asks (Resolve text))) (Shows (Err e)) old new
      asks = exchange_called honest content failed can_fail left old new (Asks (Resolve text)) (FoundAs fault_answer said) (TellsDevice said) (Err e) is_honest (λ h. absurd (cc)) answers
          (looking honest content failed can_fail left (Asks (Resolve text)) old new (TellsDevice said) wears same ups) retold
