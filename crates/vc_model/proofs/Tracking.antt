-- Whatever a clone's tracking ref is set to was a value of its branch.
use Rattle.std.proofs.Common.{◌≡◌, ℕ, zero, suc, Bool, true, false, List, ◌∷◌, ◌++◌, map, Option, Some, None, Result, Ok, Err, is_none, ◌⊎◌, inl, inr, refl, sym, ap, ◌∙◌, subst, arith, Contains, take, codes, get_or, if◌then◌else◌, []}
use Rattle.std.specs.FinMap.{get, insert, empty, entries, nat_cmp-IsAntisymmetric}
use Rattle.std.specs.Cmp.{nat_cmp_total}
use Rattle.std.specs.List.{AllByRecursion, list_all}
use Rattle.std.specs.Cmp.Lexicographic.{nat_list_cmp_total}
use Rattle.std.proofs.lemmas.List.{append_cancel_left}
use Rattle.std.proofs.lemmas.List.Elements.{Contains-append_right}
use Rattle.vc_lemmas.proofs.Lists.{all_append}
use Rattle.vc_model.specs.Object.{Id, Format, Objects, Lookup, stored, over}
use Rattle.vc_model.specs.Refs.{RefName, Refs, Head, branch, tag, tracking, IsBranch, with_refs}
use Rattle.vc_model.specs.Refs.Head.{OnBranch, Detached}
use Rattle.vc_model.specs.Repository.{Repository, Change, changed, changed_all, with_objects, Effect, Done, StopsWithin}
use Rattle.vc_model.specs.Repository.Change.{SetRefs, RemoveRef, SetHead, SetIndex}
use Rattle.vc_model.specs.Push.{Command, Judged, Verdict, Reason, Stage, OpenPush, Slots, Checks, ChecksAll, ChecksPush, Updates, UpdatesAll, JudgesInTurn, is_passing, failed_with_others, accepted, refused_by, new_value, reason_number}
use Rattle.vc_model.specs.Push.Verdict.{Passing, Accepted, Refused}
use Rattle.vc_model.specs.Push.Reason.{AtomicFailure}
use Rattle.vc_model.specs.Push.Stage.{Unpacked, Checked, Migrated, Finished}
use Rattle.vc_model.specs.Message.{Message, Told}
use Rattle.vc_model.specs.Message.Message.{ListRefs, Advert, Want, Pack, Push, Report, Error}
use Rattle.vc_model.specs.Node.{Deed, Reply}
use Rattle.vc_model.specs.Shared.UpdatesPush.{together, singly}
use Rattle.vc_model.specs.Shared.{Serves, StepsPush, StepsSlot, UpdatesNext, TellsAll, opened, fresh, head_value}
use Rattle.vc_model.specs.Clone.{Awaited, Task, Performs, Receives, Moves, MovesAny, MovesBranch, MovesToAdvert, head_to, accepted_ids}
use Rattle.vc_model.specs.Clone.Task.{Write, Stage as StageFile, Unstage, LoadTree, MakeCommit, SetBranch, DeleteBranch, MoveHead, StartFetch, StartPush}
use Rattle.vc_model.specs.Clone.Awaited.{APack}
use Rattle.vc_model.proofs.Maps.{insert_cases, remove_cases, insert_same, insert_other, bytes_same}
use Rattle.vc_model.proofs.Pushes.{all_front, all_back}
use Rattle.vc_model.proofs.Entries.{all_entries}

pub branch_apart : (a b : List ℕ) → branch a ≡ tracking b → ⊥
branch_apart a b e = let h : ◌≡◌ {A = ℕ} 104 114 = ap (λ (xs : List ℕ). get_or xs 5 0) e in omega arith

pub tag_apart : (a b : List ℕ) → tag a ≡ tracking b → ⊥
tag_apart a b e = let h : ◌≡◌ {A = ℕ} 116 114 = ap (λ (xs : List ℕ). get_or xs 5 0) e in omega arith

pub tracking_same : (a b : List ℕ) → tracking a ≡ tracking b → a ≡ b
tracking_same a b e = append_cancel_left (codes "refs/remotes/origin/") a b e

pub branch_same : (a b : List ℕ) → branch a ≡ branch b → a ≡ b
branch_same a b e = append_cancel_left (codes "refs/heads/") a b e

-- told b x: x was a value of branch b
module _ (told : List ℕ → Id → Type 0) where
  -- the id is right for the name, where that is a branch's
  abbrev pub IsTold : RefName × Id → Type 0
  IsTold r = (b : List ℕ) → r.0 ≡ branch b → told b r.1

  abbrev pub IsTracked : RefName × Id → Type 0
  IsTracked r = (b : List ℕ) → r.0 ≡ tracking b → told b r.1

  pub record RefsTold (refs : Refs) : Type 0 where
    pub each : (b : List ℕ) (x : Id) → get refs (branch b) ≡ Some x → told b x

  pub record RepositoryTracks (r : Repository) : Type 0 where
    pub refs : (n : RefName) (x : Id) → get r.refs n ≡ Some x → IsTracked (n, x)
    pub head : (n : RefName) → r.head ≡ OnBranch n → IsBranch n

  abbrev pub TrackedChange : Change → Type 0
  TrackedChange (SetRefs rs) = AllByRecursion IsTracked rs
  TrackedChange (SetHead (OnBranch n)) = IsBranch n
  TrackedChange _ = Unit {0}

  refs_tracked : (rs : List (RefName × Id)) (refs : Refs) → AllByRecursion IsTracked rs → ((n : RefName) (x : Id) → get refs n ≡ Some x → IsTracked (n, x))
      → (n : RefName) (x : Id) → get (with_refs rs refs) n ≡ Some x → IsTracked (n, x)
  refs_tracked [] refs a h n x g = h n x g
  refs_tracked (r ∷ rs) refs a h n x g = refs_tracked rs (insert refs r.0 r.1) a.1
      (λ m y p. elim (insert_cases nat_list_cmp_total bytes_same refs r.0 r.1 m y p) [
        | inl is ↦ λ b e. subst (λ z. told b z) (sym is.1) (a.0 b (sym is.0 ∙ e))
        | inr was ↦ h m y was
      ]) n x g

  change_tracks : (c : Change) (r : Repository) → TrackedChange c → RepositoryTracks r → RepositoryTracks (changed c r)
  change_tracks (SetRefs rs) r c h = record { refs = refs_tracked rs r.refs c h.refs; head = h.head }
  change_tracks (RemoveRef n) r c h = record { refs = λ m x g. h.refs m x (remove_cases nat_list_cmp_total bytes_same r.refs n m x g).1; head = h.head }
  change_tracks (SetHead (OnBranch n)) r c h = record { refs = h.refs; head = λ m e. let same : n ≡ m = cc in subst IsBranch same c }
  change_tracks (SetHead (Detached y)) r c h = record { refs = h.refs; head = λ m e. absurd (cc) }
  change_tracks (SetIndex i) r c h = record { refs = h.refs; head = h.head }

  changes_track : (cs : List Change) (r : Repository) → AllByRecursion TrackedChange cs → RepositoryTracks r → RepositoryTracks (changed_all cs r)
  changes_track [] r a h = h
  changes_track (c ∷ cs) r a h = changes_track cs (changed c r) a.1 (change_tracks c r a.0 h)

  all_taken : {X : Type 0} (P : X → Type 0) (k : ℕ) (xs : List X) → AllByRecursion P xs → AllByRecursion P (take k xs)
  all_taken P zero xs a = tt
  all_taken P (suc k) [] a = tt
  all_taken P (suc k) (x ∷ xs) a = (a.0, all_taken P k xs a.1)

  pub objects_track : (r : Repository) (s : Objects) → RepositoryTracks r → RepositoryTracks (with_objects r s)
  objects_track r s h = record { refs = h.refs; head = h.head }

  pub done_tracks : (r new : Repository) (e : Effect) → AllByRecursion TrackedChange e.changes → RepositoryTracks r → Done r e new → RepositoryTracks new
  done_tracks r new e a h d = subst RepositoryTracks (sym d.2) (changes_track e.changes (with_objects r d.0) a (objects_track r d.0 h))

  pub cut_tracks : (r new : Repository) (e : Effect) → AllByRecursion TrackedChange e.changes → RepositoryTracks r → StopsWithin r e new → RepositoryTracks new
  cut_tracks r new e a h (inl d) = subst RepositoryTracks (sym d.2) (objects_track r d.0 h)
  cut_tracks r new e a h (inr d) = subst RepositoryTracks (sym d.3) (changes_track (take d.1 e.changes) (with_objects r d.0) (all_taken TrackedChange d.1 e.changes a) (objects_track r d.0 h))

  -- ---- a clone

  -- what a message to a clone says was so
  abbrev pub MessageTold : Message → Type 0
  MessageTold (Advert head refs) = RefsTold refs
  MessageTold (Report fault ts) = AllByRecursion IsTold (accepted_ids ts)
  MessageTold _ = Unit {0}

  abbrev pub AwaitedTold : Awaited → Type 0
  AwaitedTold (APack wants refs) = RefsTold refs
  AwaitedTold _ = Unit {0}

  pub record CloneTold (d : Deed Awaited) : Type 0 where
    pub changes : AllByRecursion TrackedChange d.effect.changes
    pub left : AwaitedTold d.left

  on_branch : (n : RefName) (x : Id) → IsBranch n → IsTracked (n, x)
  on_branch n x i b e = absurd (branch_apart i.0 b (sym i.1 ∙ e))

  head_tracks : (h : Head) (x : Id) → ((n : RefName) → h ≡ OnBranch n → IsBranch n) → TrackedChange (head_to h x)
  head_tracks (OnBranch n) x i = (on_branch n x (i n refl), tt)
  head_tracks (Detached y) x i = tt

  pub task_told : (fmt : Format) (r : Repository) (a : Awaited) (t : Task) (d : Deed Awaited) → RepositoryTracks r → AwaitedTold a → Performs fmt r a t d → CloneTold d
  task_told fmt r a (Write o) d h w is = subst CloneTold (sym is) (record { changes = tt; left = w })
  task_told fmt r a (StageFile p m o) d h w is = subst CloneTold (sym is) (record { changes = (tt, tt); left = w })
  task_told fmt r a (Unstage p) d h w is = subst CloneTold (sym is) (record { changes = (tt, tt); left = w })
  task_told fmt r a (LoadTree x) d h w is = subst CloneTold (sym is.3) (record { changes = (tt, tt); left = w })
  task_told fmt r a (MakeCommit x y z v) d h w is = subst CloneTold (sym is.3) (record { changes = (head_tracks r.head is.1 h.head, tt); left = w })
  task_told fmt r a (SetBranch n x) d h w is = subst CloneTold (sym is.3) (record { changes = ((on_branch n x is.0.0, tt), tt); left = w })
  task_told fmt r a (DeleteBranch n) d h w is = subst CloneTold (sym is.1) (record { changes = (tt, tt); left = w })
  task_told fmt r a (MoveHead (OnBranch n)) d h w is = subst CloneTold (sym is.1) (record { changes = (is.0.0, tt); left = w })
  task_told fmt r a (MoveHead (Detached x)) d h w is = subst CloneTold (sym is.1) (record { changes = (tt, tt); left = w })
  task_told fmt r a StartFetch d h w is = subst CloneTold (sym is) (record { changes = tt; left = tt })
  task_told fmt r a (StartPush atomic items) d h w is = subst CloneTold (sym is.4) (record { changes = tt; left = w })

  moves_told : (may : Refs → RefName → Id → RefName → Type 0) → ((refs : Refs) (n : RefName) (x : Id) (t : RefName) → may refs n x t → IsTold (n, x) → IsTracked (t, x))
      → (refs : Refs) (rs : List (RefName × Id)) (cs : List Change) → AllByRecursion IsTold rs → Moves may refs rs cs → AllByRecursion TrackedChange cs
  moves_told may ok refs [] cs a m = subst (AllByRecursion TrackedChange) (sym m) tt
  moves_told may ok refs (r ∷ rs) cs a (inl m) = subst (AllByRecursion TrackedChange) (sym m.3) ((ok refs r.0 r.1 m.0 m.2 a.0, tt), moves_told may ok (insert refs m.0 r.1) rs m.1 a.1 m.4)
  moves_told may ok refs (r ∷ rs) cs a (inr m) = moves_told may ok refs rs cs a.1 m.1

  branch_told : (fmt : Format) (at : Lookup) (refs : Refs) (n : RefName) (x : Id) (t : RefName) → MovesBranch fmt at refs n x t → IsTold (n, x) → IsTracked (t, x)
  branch_told fmt at refs n x t m h b e =
      let same : m.name ≡ b = tracking_same m.name b (sym m.tracking_is ∙ e) in
      h b (m.branch_is ∙ ap branch same)

  any_told : (fmt : Format) (at : Lookup) (refs : Refs) (n : RefName) (x : Id) (t : RefName) → MovesAny fmt at refs n x t → IsTold (n, x) → IsTracked (t, x)
  any_told fmt at refs n x t (inl m) h = branch_told fmt at refs n x t m h
  any_told fmt at refs n x t (inr m) h = λ b e. absurd (tag_apart m.name b (sym m.tag_is ∙ (sym m.same ∙ e)))

  entries_told : (refs : Refs) → RefsTold refs → AllByRecursion IsTold (entries refs)
  entries_told refs h = all_entries nat_list_cmp_total IsTold refs (λ n x g b e. h.each b x (subst (λ n. get refs n ≡ Some x) e g))

  advert_told : (fmt : Format) (r : Repository) (at : Lookup) (refs : Refs) (s : Objects) (d : Deed Awaited) → RefsTold refs → MovesToAdvert fmt r at refs s d → CloneTold d
  advert_told fmt r at refs s d h m = subst CloneTold (sym m.deed) (record {
    changes = moves_told (MovesAny fmt at) (any_told fmt at) r.refs (entries refs) m.changes (entries_told refs h) m.moves;
    left = tt;
  })

  pub message_told : (fmt : Format) (r : Repository) (a : Awaited) (m : Message) (d : Deed Awaited) → MessageTold m → AwaitedTold a → Receives fmt r a m d → CloneTold d
  message_told fmt r a (Advert head refs) d h w is = elim (is.3) [
    | inl k ↦ subst CloneTold (sym k.1) (record { changes = tt; left = h })
    | inr k ↦ advert_told fmt r (stored r.objects) refs empty d h k.1
  ]
  message_told fmt r a (Pack ack s) d h w is = advert_told fmt r (over r.objects s) is.1 s d (subst AwaitedTold is.2 w) is.4
  message_told fmt r a (Report fault ts) d h w is = subst CloneTold (sym is.2) (record {
    changes = moves_told (MovesBranch fmt (stored r.objects)) (branch_told fmt (stored r.objects)) r.refs (accepted_ids ts) is.0 h is.1;
    left = w;
  })
  message_told fmt r a ListRefs d h w is = absurd is
  message_told fmt r a (Want x y) d h w is = absurd is
  message_told fmt r a (Push x y z t) d h w is = absurd is
  message_told fmt r a (Error text) d h w is = absurd is

  -- ---- the shared node

  abbrev pub JudgedTold : Judged → Type 0
  JudgedTold j = j.verdict ≡ Accepted → IsTold (new_value j)

  abbrev pub PushTold : OpenPush → Type 0
  PushTold p = AllByRecursion JudgedTold p.commands

  abbrev pub SlotsTold : Slots → Type 0
  SlotsTold slots = (k : ℕ) (p : OpenPush) → get slots k ≡ Some p → PushTold p

  fresh_told : (fault : Option ℕ) (cs : List Command) → AllByRecursion JudgedTold (map (fresh fault) cs)
  fresh_told fault [] = tt
  fresh_told (Some n) (c ∷ cs) = (λ e. absurd (cc), fresh_told (Some n) cs)
  fresh_told None (c ∷ cs) = (λ e. absurd (cc), fresh_told None cs)

  check_told : (fmt : Format) (at : Lookup) (c : Command) (v w : Verdict) → Checks fmt at c v w → (v ≡ Accepted → IsTold (c.name, c.new)) → w ≡ Accepted → IsTold (c.name, c.new)
  check_told fmt at c Passing Passing h was e = absurd (cc)
  check_told fmt at c Passing Accepted h was e = absurd h
  check_told fmt at c Passing (Refused r) h was e = absurd (cc)
  check_told fmt at c Accepted w h was e = was refl
  check_told fmt at c (Refused r) w h was e = absurd (let f : w ≡ Refused r = h in cc)

  checks_told : (fmt : Format) (at : Lookup) (js ks : List Judged) → ChecksAll fmt at js ks → AllByRecursion JudgedTold js → AllByRecursion JudgedTold ks
  checks_told fmt at [] [] h a = tt
  checks_told fmt at (j ∷ js) (k ∷ ks) h a =
      (λ e. subst (λ (c : Command). IsTold (c.name, c.new)) (sym h.0) (check_told fmt at j.command j.verdict k.verdict h.1 a.0 e), checks_told fmt at js ks h.2 a.1)
  checks_told fmt at [] (k ∷ ks) h a = absurd h
  checks_told fmt at (j ∷ js) [] h a = absurd h

  failed_told : (js : List Judged) → AllByRecursion JudgedTold js → AllByRecursion JudgedTold (map failed_with_others js)
  failed_told [] a = tt
  failed_told (j ∷ js) a = (go j.verdict a.0, failed_told js a.1)
    where
      go : (v : Verdict) → (v ≡ Accepted → IsTold (new_value j)) → (if (elim v [ Passing ↦ true | Accepted ↦ false | Refused r ↦ false ]) then Refused AtomicFailure else v) ≡ Accepted → IsTold (new_value j)
      go Passing was e = absurd (cc)
      go Accepted was e = was refl
      go (Refused r) was e = absurd (cc)

  push_checked : (fmt : Format) (at : Lookup) (atomic : Bool) (js ks : List Judged) → ChecksPush fmt at atomic js ks → AllByRecursion JudgedTold js → AllByRecursion JudgedTold ks
  push_checked fmt at false js ks h a = checks_told fmt at js ks h a
  push_checked fmt at true js ks h a = subst (AllByRecursion JudgedTold) (sym h.2) (go (list_all is_passing h.0) (checks_told fmt at js h.0 h.1 a))
    where
      go : (b : Bool) → AllByRecursion JudgedTold h.0 → AllByRecursion JudgedTold (if b then h.0 else map failed_with_others h.0)
      go true a = a
      go false a = failed_told h.0 a

  refused_told : (js : List Judged) (rs : List (Option Reason)) → AllByRecursion JudgedTold (refused_by js rs)
  refused_told [] rs = tt
  refused_told (j ∷ js) [] = tt
  refused_told (j ∷ js) (Some r ∷ rs) = (λ e. absurd (cc), refused_told js rs)
  refused_told (j ∷ js) (None ∷ rs) = (λ e. absurd (cc), refused_told js rs)

  -- a branch that was named is set no more
  named_stays : (refs : Refs) (named : List RefName) (js : List Judged) (rs : List (Option Reason)) → JudgesInTurn refs named js rs → list_all is_none rs ≡ true
      → (b : List ℕ) → Contains named (branch b) → get (with_refs (map new_value js) refs) (branch b) ≡ get refs (branch b)
  named_stays refs named [] rs h e b c = refl
  named_stays refs named (j ∷ js) (None ∷ rs) h e b c =
      named_stays (insert refs j.command.name j.command.new) (j.command.name ∷ named) js rs h.1 e b (Contains-append_right (j.command.name ∷ []) named (branch b) c)
      ∙ insert_other nat_list_cmp_total bytes_same refs j.command.name j.command.new (branch b) (λ same. h.0.1.1.0.1 (b, sym same) (subst (Contains named) same c))
  named_stays refs named (j ∷ js) (Some r ∷ rs) h e b c = absurd (cc)
  named_stays refs named (j ∷ js) [] h e b c = absurd h

  turn_told : (refs : Refs) (named : List RefName) (js : List Judged) (rs : List (Option Reason)) → JudgesInTurn refs named js rs → list_all is_none rs ≡ true
      → RefsTold (with_refs (map new_value js) refs) → AllByRecursion JudgedTold (map accepted js)
  turn_told refs named [] rs h e after = tt
  turn_told refs named (j ∷ js) (None ∷ rs) h e after =
      let refs' : Refs = insert refs j.command.name j.command.new in (
        λ _ b is. after.each b j.command.new
            (named_stays refs' (j.command.name ∷ named) js rs h.1 e b (0, omega arith, is)
            ∙ (ap (get refs') (sym is) ∙ insert_same nat_list_cmp_total bytes_same refs j.command.name j.command.new)),
        turn_told refs' (j.command.name ∷ named) js rs h.1 e after,
      )
  turn_told refs named (j ∷ js) (Some r ∷ rs) h e after = absurd (cc)
  turn_told refs named (j ∷ js) [] h e after = absurd h

  all_told : (r : Repository) (js : List Judged) (rs : List (Option Reason)) (ks : List Judged) (cs : List Change) → UpdatesAll r.refs js rs ks cs → RefsTold (changed_all cs r).refs → AllByRecursion JudgedTold ks
  all_told r js rs ks cs u after = elim (u.1) [
    | inl y ↦ subst (AllByRecursion JudgedTold) (sym y.1) (turn_told r.refs [] js rs u.0 y.0 (subst (λ cs. RefsTold (changed_all cs r).refs) y.2 after))
    | inr n ↦ subst (AllByRecursion JudgedTold) (sym n.1) (refused_told js rs)
  ]

  one_told : (r : Repository) (c : Command) (v : Verdict) (cs : List Change) → Updates r.refs c v cs → RefsTold (changed_all cs r).refs → v ≡ Accepted → IsTold (c.name, c.new)
  one_told r c Accepted cs u after e = λ b is.
      (subst (λ cs. RefsTold (changed_all cs r).refs) u.1 after).each b c.new (ap (get (insert r.refs c.name c.new)) (sym is) ∙ insert_same nat_list_cmp_total bytes_same r.refs c.name c.new)
  one_told r c (Refused q) cs u after e = absurd (cc)
  one_told r c Passing cs u after e = absurd u

  next_told : (r : Repository) (js ks : List Judged) (cs : List Change) → UpdatesNext r js ks cs → RefsTold (changed_all cs r).refs → AllByRecursion JudgedTold js → AllByRecursion JudgedTold ks
  next_told r js ks cs u after a =
      let all : AllByRecursion JudgedTold (u.front ++ u.next ∷ u.back) = subst (AllByRecursion JudgedTold) u.before a in
      let here = all_back JudgedTold u.front (u.next ∷ u.back) all in
      subst (AllByRecursion JudgedTold) (sym u.after)
      (all_append JudgedTold u.front (record { command = u.next.command; verdict = u.verdict } ∷ u.back) (all_front JudgedTold u.front (u.next ∷ u.back) all)
      (one_told r u.next.command u.verdict cs u.update after, here.1))

  step_told : (fmt : Format) (r : Repository) (p q : OpenPush) (x : Stage) (e : Effect) (y : Reply) → StepsPush fmt r p x e q y → PushTold p → RefsTold (changed_all e.changes r).refs → PushTold q
  step_told fmt r p q Unpacked e y h a after = subst PushTold (sym h.3) (push_checked fmt (over r.objects p.carried) p.atomic p.commands h.0 h.1 a)
  step_told fmt r p q Checked e y h a after = subst PushTold (sym h.1) a
  step_told fmt r p q Migrated e y h a after =
      let after' : RefsTold (changed_all h.1 r).refs = subst (λ (e : Effect). RefsTold (changed_all e.changes r).refs) h.3 after in
      subst PushTold (sym h.4) (elim (h.2) [ together rs b u t ↦ all_told r p.commands rs h.0 h.1 u after' | singly u b t ↦ next_told r p.commands h.0 h.1 u after' a ])
  step_told fmt r p q Finished e y h a after = absurd h

  report_told : (js : List Judged) (ts : List Told) → TellsAll js ts → AllByRecursion JudgedTold js → AllByRecursion IsTold (accepted_ids ts)
  report_told [] [] h a = tt
  report_told (j ∷ js) (t ∷ ts) h a = go t.outcome h.0 (report_told js ts h.1 a.1)
    where
      go : (o : Result Id ℕ) → (t.name ≡ j.command.name) × ((j.verdict ≡ Accepted) × (o ≡ Ok j.command.new) ⊎ ((r : Reason) × (j.verdict ≡ Refused r) × (o ≡ Err (reason_number r))))
          → AllByRecursion IsTold (accepted_ids ts) → AllByRecursion IsTold (elim o [ Ok x ↦ (t.name, x) ∷ accepted_ids ts | Err r ↦ accepted_ids ts ])
      go (Ok x) k rest = (
        elim (k.1) [
          | inl y ↦ λ b is. let same : j.command.new ≡ x = let z = y.1 in cc in subst (told b) same (a.0 y.0 b (sym k.0 ∙ is))
          | inr n ↦ absurd (let z = n.2 in cc)
        ],
        rest,
      )
      go (Err r) k rest = rest
  report_told [] (t ∷ ts) h a = absurd h
  report_told (j ∷ js) [] h a = absurd h

  pub record SharedTold (r : Repository) (d : Deed Slots) : Type 0 where
    pub slots : RefsTold (changed_all d.effect.changes r).refs → SlotsTold d.left
    pub sends : (m : Message) → d.sends ≡ Some m → MessageTold m

  insert_told : (slots : Slots) (k : ℕ) (q : OpenPush) → PushTold q → SlotsTold slots → SlotsTold (insert slots k q)
  insert_told slots k q ok all j p is = elim (insert_cases nat_cmp_total nat_cmp-IsAntisymmetric slots k q j p is) [
    | inl same ↦ subst PushTold (sym same.1) ok
    | inr was ↦ all j p was
  ]

  pub serve_told : (fmt : Format) (r : Repository) (slots : Slots) (m : Message) (d : Deed Slots) → RefsTold r.refs → SlotsTold slots → Serves fmt r slots m d → SharedTold r d
  serve_told fmt r slots ListRefs d h a is = subst (SharedTold r) (sym is) (record {
    slots = λ _. a;
    sends = λ m x. let same : Advert (head_value r) r.refs ≡ m = cc in subst MessageTold same h;
  })
  serve_told fmt r slots (Want wants haves) d h a is = subst (SharedTold r) (sym is.1.4) (record {
    slots = λ _. a;
    sends = λ m x. let same : Pack is.1.0 is.1.1 ≡ m = cc in subst MessageTold same tt;
  })
  serve_told fmt r slots (Push atomic fault cs objects) d h a is = subst (SharedTold r) (sym is.2) (record {
    slots = λ _. insert_told slots is.0 (opened atomic fault cs objects) (fresh_told fault cs) a;
    sends = λ m x. absurd (cc);
  })
  serve_told fmt r slots (Advert x y) d h a is = absurd is
  serve_told fmt r slots (Pack ack s) d h a is = absurd is
  serve_told fmt r slots (Report fault ts) d h a is = absurd is
  serve_told fmt r slots (Error text) d h a is = absurd is

  pub slot_told : (fmt : Format) (r : Repository) (slots : Slots) (k : ℕ) (d : Deed Slots) → SlotsTold slots → StepsSlot fmt r slots k d → SharedTold r d
  slot_told fmt r slots k d a is = elim (is.2) [
    | inl w ↦ record {
      slots = λ after. subst SlotsTold (sym w.2) (insert_told slots k w.0 (step_told fmt r is.0 w.0 is.0.stage d.effect d.reply w.1 (a k is.0 is.1) after) a);
      sends = λ m x. absurd (let n = w.3 in cc);
    }
    | inr w ↦ subst (SharedTold r) (sym w.3) (record {
      slots = λ _ j p g. a j p (remove_cases nat_cmp_total nat_cmp-IsAntisymmetric slots k j p g).1;
      sends = λ m x. let same : Report is.0.fault w.0 ≡ m = cc in subst MessageTold same (report_told is.0.commands w.0 w.2 (a k is.0 is.1));
    })
  ]
