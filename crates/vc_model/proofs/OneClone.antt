-- A clone has one answer to a call.
use Rattle.std.proofs.Common.{◌≡◌, ◌≢◌, ℕ, ◌≤◌, List, ◌∷◌, Option, Some, None, Result, Ok, Err, ◌⊎◌, inl, inr, refl, sym, ap, ◌∙◌, subst, Contains, length, take, unwrap_or, []}
use Rattle.std.specs.FinMap.{get, insert, entries, empty}
use Rattle.std.specs.List.{AllByRecursion}
use Rattle.std.proofs.lemmas.Option.{same_Some}
use Rattle.vc_model.specs.Object.{Id, Object, zero_id, blob, IsLine, Format, Objects, Lookup, stored, over}
use Rattle.vc_model.specs.Reach.{IsClosed, HasHistory}
use Rattle.vc_model.specs.Refs.{RefName, Refs, tracking, IsFree}
use Rattle.vc_model.specs.Refs.Head.{OnBranch, Detached}
use Rattle.vc_model.specs.Repository.{Repository, Index, Change, only_changes}
use Rattle.vc_model.specs.Repository.Change.{SetRefs, SetIndex}
use Rattle.vc_model.specs.Push.{Command}
use Rattle.vc_model.specs.Message.{Message}
use Rattle.vc_model.specs.Message.Message.{ListRefs, Advert, Want, Pack, Push, Report, Error}
use Rattle.vc_model.specs.Node.{Node, Answer, IsNoFault, Deed, PruneEnds, RestartEnds}
use Rattle.vc_model.specs.Node.Answer.{Declined}
use Rattle.vc_model.specs.Node.Reply.{Stored, Moved, Reported}
use Rattle.vc_model.specs.Clone.{Awaited, CloneNode, PushItem, Task, Receives, ReceivesNot, Moves, MovesAny, MovesBranch, MovesToAdvert, AreOpen, AreCommandsFor, IsOldOf, IsGoodCommit, IsHeadFree, IsItemId, IsTrackingValue, IsReached, accepted_ids, refused_reasons, haves_of, quietly, sending, with_object}
use Rattle.vc_model.specs.Clone.Awaited.{Nothing, AnAdvert, APack}
use Rattle.vc_model.specs.Clone.Task.{Write, Stage, Unstage, LoadTree, MakeCommit, SetBranch, DeleteBranch, MoveHead, StartFetch, StartPush}
use Rattle.vc_model.specs.Rules.{Rules, rules_by}
use Rattle.vc_model.specs.Question.{Tells}
use Rattle.vc_model.specs.CloneCall.{Unless, CommitsOr, IsFreePath, new_commit, Refuses, Obeys, CloneCall, CloneRefuses, CloneObeys, CloneAnswers}
use Rattle.vc_model.specs.CloneCall.CloneCall.{Command as Commands, Receive, Asks, Prune, Open}
use Rattle.vc_model.specs.CloneCall.CloneAnswers.{down, asked, refused, obeyed, pruned, opened, faulted}
use Rattle.vc_model.specs.Exact.{CloneHasOneAnswer}
use Rattle.vc_model.proofs.Tracking.{branch_same}
use Rattle.vc_model.proofs.Commits.{branch_tag_apart}
use Rattle.vc_model.proofs.OneAnswer.{AreOne, Worked, worked_once, prune_once, restart_once, told_once, difference_once}

-- ---- refusals

unless_once : (need : Type 0) (number n k : ℕ) (p q : Type 0) → (p → q → n ≡ k) → Unless need number n p → Unless need number k q → n ≡ k
unless_once need number n k p q rest (inl g) (inl h) = g.1 ∙ sym h.1
unless_once need number n k p q rest (inl g) (inr h) = absurd (g.0 h.0)
unless_once need number n k p q rest (inr g) (inl h) = absurd (h.0 g.0)
unless_once need number n k p q rest (inr g) (inr h) = rest g.1 h.1

-- where the need is met
pub met : (need : Type 0) (number n : ℕ) (rest : Type 0) → need → Unless need number n rest → rest
met need number n rest is (inl g) = absurd (g.0 is)
met need number n rest is (inr g) = g.1

commits_once : (fmt : Format) (at : Lookup) (xs : List Id) (n k : ℕ) (p q : Type 0) → (p → q → n ≡ k) → CommitsOr fmt at xs n p → CommitsOr fmt at xs k q → n ≡ k
commits_once fmt at [] n k p q rest g h = rest g h
commits_once fmt at (x ∷ xs) n k p q rest g h =
    unless_once (IsClosed fmt at x) 40 n k (Unless (HasHistory fmt at x) 41 n (CommitsOr fmt at xs n p)) (Unless (HasHistory fmt at x) 41 k (CommitsOr fmt at xs k q))
    (unless_once (HasHistory fmt at x) 41 n k (CommitsOr fmt at xs n p) (CommitsOr fmt at xs k q) (commits_once fmt at xs n k p q rest)) g h

commits_met : (fmt : Format) (at : Lookup) (xs : List Id) (n : ℕ) (p : Type 0) → AllByRecursion (IsGoodCommit fmt at) xs → CommitsOr fmt at xs n p → p
commits_met fmt at [] n p a g = g
commits_met fmt at (x ∷ xs) n p a g =
    commits_met fmt at xs n p a.1
    (met (HasHistory fmt at x) 41 n (CommitsOr fmt at xs n p) a.0.1
    (met (IsClosed fmt at x) 40 n (Unless (HasHistory fmt at x) 41 n (CommitsOr fmt at xs n p)) a.0.0 g))

some_none : (n : ℕ) → ◌≡◌ {A = Option ℕ} (Some n) None → ⊥
some_none n e = absurd (cc)

err_once : {X : Type 0} (n k : ℕ) → ◌≡◌ {A = Result X ℕ} (Err n) (Err k) → n ≡ k
err_once n k e = cc

ok_err : {X : Type 0} (x : X) (n : ℕ) → ◌≡◌ {A = Result X ℕ} (Ok x) (Err n) → ⊥
ok_err x n e = absurd (cc)

ok_once : {X : Type 0} (x y : X) → ◌≡◌ {A = Result X ℕ} (Ok x) (Ok y) → x ≡ y
ok_once x y e = cc

-- ---- refs that move

moves_once : (may : Refs → RefName → Id → RefName → Type 0) → ((refs : Refs) (n : RefName) (x : Id) (t u : RefName) → may refs n x t → may refs n x u → t ≡ u)
    → (refs : Refs) (rs : List (RefName × Id)) (cs ds : List Change) → Moves may refs rs cs → Moves may refs rs ds → cs ≡ ds
moves_once may one refs [] cs ds g h = g ∙ sym h
moves_once may one refs (r ∷ rs) cs ds (inl g) (inl h) =
    let same : h.0 ≡ g.0 = one refs r.0 r.1 h.0 g.0 h.2 g.2 in
    let more : g.1 ≡ h.1 = moves_once may one (insert refs g.0 r.1) rs g.1 h.1 g.4 (subst (λ t. Moves may (insert refs t r.1) rs h.1) same h.4) in
    g.3 ∙ (ap (λ (more : List Change). SetRefs ((g.0, r.1) ∷ []) ∷ more) more ∙ (ap (λ (t : RefName). SetRefs ((t, r.1) ∷ []) ∷ h.1) (sym same) ∙ sym h.3))
moves_once may one refs (r ∷ rs) cs ds (inl g) (inr h) = absurd (h.0 (g.0, g.2))
moves_once may one refs (r ∷ rs) cs ds (inr g) (inl h) = absurd (g.0 (h.0, h.2))
moves_once may one refs (r ∷ rs) cs ds (inr g) (inr h) = moves_once may one refs rs cs ds g.1 h.1

branch_once : (fmt : Format) (at : Lookup) (refs : Refs) (n : RefName) (x : Id) (t u : RefName) → MovesBranch fmt at refs n x t → MovesBranch fmt at refs n x u → t ≡ u
branch_once fmt at refs n x t u g h = g.tracking_is ∙ (ap tracking (branch_same g.name h.name (sym g.branch_is ∙ h.branch_is)) ∙ sym h.tracking_is)

any_once : (fmt : Format) (at : Lookup) (refs : Refs) (n : RefName) (x : Id) (t u : RefName) → MovesAny fmt at refs n x t → MovesAny fmt at refs n x u → t ≡ u
any_once fmt at refs n x t u (inl g) (inl h) = branch_once fmt at refs n x t u g h
any_once fmt at refs n x t u (inl g) (inr h) = absurd (branch_tag_apart g.name h.name (sym g.branch_is ∙ h.tag_is))
any_once fmt at refs n x t u (inr g) (inl h) = absurd (branch_tag_apart h.name g.name (sym h.branch_is ∙ g.tag_is))
any_once fmt at refs n x t u (inr g) (inr h) = g.same ∙ sym h.same

pub open_once : (fmt : Format) (at : Lookup) (seen : List Id) (rs : List (RefName × Id)) (xs ys : List Id) → AreOpen fmt at seen rs xs → AreOpen fmt at seen rs ys → xs ≡ ys
open_once fmt at seen [] xs ys g h = g ∙ sym h
open_once fmt at seen (r ∷ rs) xs ys (inl g) (inl h) = open_once fmt at seen rs xs ys g.1 h.1
open_once fmt at seen (r ∷ rs) xs ys (inl g) (inr h) = absurd (elim (g.0) [ inl c ↦ h.0 c | inr s ↦ h.1 s ])
open_once fmt at seen (r ∷ rs) xs ys (inr g) (inl h) = absurd (elim (h.0) [ inl c ↦ g.0 c | inr s ↦ g.1 s ])
open_once fmt at seen (r ∷ rs) xs ys (inr g) (inr h) =
    g.3 ∙ (ap (λ (more : List Id). r.1 ∷ more) (open_once fmt at (r.1 ∷ seen) rs g.2 h.2 g.4 h.4) ∙ sym h.3)

advert_once : (fmt : Format) (r : Repository) (at : Lookup) (refs : Refs) (s : Objects) (d e : Deed Awaited) → MovesToAdvert fmt r at refs s d → MovesToAdvert fmt r at refs s e → d ≡ e
advert_once fmt r at refs s d e g h =
    let changes : g.changes ≡ h.changes = moves_once (MovesAny fmt at) (any_once fmt at) r.refs (entries refs) g.changes h.changes g.moves h.moves in
    let ids : g.open_ids ≡ h.open_ids = open_once fmt at [] (entries refs) g.open_ids h.open_ids g.rest h.rest in
    g.deed
    ∙ (ap (λ (cs : List Change). quietly Nothing (record { objects = s; changes = cs }) (Moved (length cs) (length g.open_ids))) changes
    ∙ (ap (λ (xs : List Id). quietly Nothing (record { objects = s; changes = h.changes }) (Moved (length h.changes) (length xs))) ids ∙ sym h.deed))

-- ---- commands of a push

old_once : (refs : Refs) (n : RefName) (x y : Id) → IsOldOf refs n x → IsOldOf refs n y → x ≡ y
old_once refs n x y (inl g) (inl h) = g.2 ∙ (ap (λ (b : List ℕ). unwrap_or (get refs (tracking b)) zero_id) (branch_same g.0 h.0 (sym g.1 ∙ h.1)) ∙ sym h.2)
old_once refs n x y (inl g) (inr h) = absurd (h.0 (g.0, g.1))
old_once refs n x y (inr g) (inl h) = absurd (g.0 (h.0, h.1))
old_once refs n x y (inr g) (inr h) = g.1 ∙ sym h.1

pub same_command : (o p n m : Id) (x y : RefName) → o ≡ p → n ≡ m → x ≡ y → ◌≡◌ {A = Command} (record { old = o; new = n; name = x }) (record { old = p; new = m; name = y })
same_command o p n m x y e f g = cc

same_cons : {X : Type 0} (x y : X) (xs ys : List X) → x ≡ y → xs ≡ ys → x ∷ xs ≡ y ∷ ys
same_cons x y xs ys e f = cc

commands_once : (refs : Refs) (is : List PushItem) (cs ds : List Command) → AreCommandsFor refs is cs → AreCommandsFor refs is ds → cs ≡ ds
commands_once refs [] [] [] g h = refl
commands_once refs (i ∷ is) (c ∷ cs) (d ∷ ds) g h =
    same_cons c d cs ds
    (same_command c.old d.old c.new d.new c.name d.name (old_once refs i.name c.old d.old g.2 h.2) (g.1 ∙ sym h.1) (g.0 ∙ sym h.0))
    (commands_once refs is cs ds g.3 h.3)
commands_once refs [] (c ∷ cs) ds g h = absurd g
commands_once refs [] [] (d ∷ ds) g h = absurd h
commands_once refs (i ∷ is) [] ds g h = absurd g
commands_once refs (i ∷ is) (c ∷ cs) [] g h = absurd h

-- ---- local commands

module _ (fmt : Format) (rules : Rules fmt) (r : Repository) where
  -- the trees of the index, or the commit, are refused
  abbrev Rest : List Id → List ℕ → List ℕ → List ℕ → ℕ → Type 0
  Rest extra author committer message n =
      rules.trees_of r.index (Err n) ⊎ ((t : Objects × Id) × rules.trees_of r.index (Ok t) × (rules.fault (new_commit fmt r t.1 extra author committer message) (Some n)))

  -- what is left to do of an advertisement
  abbrev Sent : Awaited → Refs → List Id → Deed Awaited → Type 0
  Sent a refs ids d = ((ids ≢ []) × (d ≡ sending (APack (take 256 ids) refs) (Want (take 256 ids) (haves_of r)))) ⊎ ((ids ≡ []) × MovesToAdvert fmt r (stored r.objects) refs empty d)

  fault_once : (o : Object) (n k : ℕ) → rules.fault o (Some n) → rules.fault o (Some k) → n ≡ k
  fault_once o n k g h = same_Some n k (rules.one_fault o (Some n) (Some k) g h)

  no_fault : (o : Object) (n : ℕ) → rules.fault o (Some n) → rules.fault o None → ⊥
  no_fault o n g h = some_none n (rules.one_fault o (Some n) None g h)

  refusal_once : (t : Task) (n k : ℕ) → Refuses fmt rules r t n → Refuses fmt rules r t k → n ≡ k
  refusal_once (Write o) n k g h = fault_once o n k g h
  refusal_once (Stage p mode content) n k g h =
      unless_once (rules.is_path p) 60 n k (Unless (IsFreePath r.index p) 61 n (rules.fault (blob content) (Some n))) (Unless (IsFreePath r.index p) 61 k (rules.fault (blob content) (Some k)))
      (unless_once (IsFreePath r.index p) 61 n k (rules.fault (blob content) (Some n)) (rules.fault (blob content) (Some k)) (fault_once (blob content) n k)) g h
  refusal_once (Unstage p) n k g h = absurd g
  refusal_once (LoadTree x) n k g h = err_once n k (rules.one_index r.objects x (Err n) (Err k) g h)
  refusal_once (MakeCommit extra author committer message) n k g h =
      unless_once (IsLine author × IsLine committer) 8 n k (Unless (IsHeadFree r) 32 n (CommitsOr fmt (stored r.objects) extra n (Rest extra author committer message n))) (Unless (IsHeadFree r) 32 k (CommitsOr fmt (stored r.objects) extra k (Rest extra author committer message k)))
      (unless_once (IsHeadFree r) 32 n k (CommitsOr fmt (stored r.objects) extra n (Rest extra author committer message n)) (CommitsOr fmt (stored r.objects) extra k (Rest extra author committer message k))
      (commits_once fmt (stored r.objects) extra n k (Rest extra author committer message n) (Rest extra author committer message k) rest)) g h
    where
      rest : Rest extra author committer message n → Rest extra author committer message k → n ≡ k
      rest (inl g) (inl h) = err_once n k (rules.one_root r.index (Err n) (Err k) g h)
      rest (inl g) (inr h) = absurd (ok_err h.0 n (rules.one_root r.index (Ok h.0) (Err n) h.1 g))
      rest (inr g) (inl h) = absurd (ok_err g.0 k (rules.one_root r.index (Ok g.0) (Err k) g.1 h))
      rest (inr g) (inr h) =
          let same : g.0 ≡ h.0 = ok_once g.0 h.0 (rules.one_root r.index (Ok g.0) (Ok h.0) g.1 h.1) in
          fault_once (new_commit fmt r h.0.1 extra author committer message) n k (subst (λ (t : Objects × Id). rules.fault (new_commit fmt r t.1 extra author committer message) (Some n)) same g.2) h.2
  refusal_once (SetBranch b x) n k g h =
      unless_once (IsFree r.refs b) 32 n k (Unless (IsClosed fmt (stored r.objects) x) 40 n (Unless (HasHistory fmt (stored r.objects) x) 41 n ⊥)) (Unless (IsClosed fmt (stored r.objects) x) 40 k (Unless (HasHistory fmt (stored r.objects) x) 41 k ⊥))
      (unless_once (IsClosed fmt (stored r.objects) x) 40 n k (Unless (HasHistory fmt (stored r.objects) x) 41 n ⊥) (Unless (HasHistory fmt (stored r.objects) x) 41 k ⊥)
      (unless_once (HasHistory fmt (stored r.objects) x) 41 n k ⊥ ⊥ (λ f. absurd f))) g h
  refusal_once (DeleteBranch b) n k g h = absurd g
  refusal_once (MoveHead (OnBranch b)) n k g h = absurd g
  refusal_once (MoveHead (Detached x)) n k g h =
      unless_once (IsClosed fmt (stored r.objects) x) 40 n k (Unless (HasHistory fmt (stored r.objects) x) 41 n ⊥) (Unless (HasHistory fmt (stored r.objects) x) 41 k ⊥)
      (unless_once (HasHistory fmt (stored r.objects) x) 41 n k ⊥ ⊥ (λ f. absurd f)) g h
  refusal_once StartFetch n k g h = absurd g
  refusal_once (StartPush atomic items) n k g h =
      unless_once (length items ≤ 256) 84 n k (Unless ((x : Id) → IsItemId items x → IsClosed fmt (stored r.objects) x) 40 n ⊥) (Unless ((x : Id) → IsItemId items x → IsClosed fmt (stored r.objects) x) 40 k ⊥)
      (unless_once ((x : Id) → IsItemId items x → IsClosed fmt (stored r.objects) x) 40 n k ⊥ ⊥ (λ f. absurd f)) g h

  task_once : (a : Awaited) (t : Task) (d e : Deed Awaited) → Obeys fmt rules r a t d → Obeys fmt rules r a t e → d ≡ e
  task_once a (Write o) d e g h = g.1 ∙ sym h.1
  task_once a (Stage p mode content) d e g h = g.3 ∙ sym h.3
  task_once a (Unstage p) d e g h = g ∙ sym h
  task_once a (LoadTree x) d e g h =
      g.2 ∙ (ap (λ (i : Index). quietly a (only_changes (SetIndex i ∷ [])) Stored) (ok_once g.0 h.0 (rules.one_index r.objects x (Ok g.0) (Ok h.0) g.1 h.1)) ∙ sym h.2)
  task_once a (MakeCommit extra author committer message) d e g h =
      let same : g.3.0 ≡ h.3.0 = ok_once g.3.0 h.3.0 (rules.one_root r.index (Ok g.3.0) (Ok h.3.0) g.3.1 h.3.1) in
      subst (λ (t : Objects × Id). d ≡ quietly a (record {
        objects = with_object t.0 (fmt.name_of (new_commit fmt r t.1 extra author committer message)) (new_commit fmt r t.1 extra author committer message);
        changes = Rattle.vc_model.specs.Clone.head_to r.head (fmt.name_of (new_commit fmt r t.1 extra author committer message)) ∷ [];
      })
      (Rattle.vc_model.specs.Node.Reply.Made (fmt.name_of (new_commit fmt r t.1 extra author committer message)))) same g.3.2.1 ∙ sym h.3.2.1
  task_once a (SetBranch b x) d e g h = g.3 ∙ sym h.3
  task_once a (DeleteBranch b) d e g h = g.1 ∙ sym h.1
  task_once a (MoveHead (OnBranch b)) d e g h = g.1 ∙ sym h.1
  task_once a (MoveHead (Detached x)) d e g h = g.1 ∙ sym h.1
  task_once a StartFetch d e g h = g ∙ sym h
  task_once a (StartPush atomic items) d e g h =
      let p = g.2 in let q = h.2 in
      let cs : p.0 ≡ q.0 = commands_once r.refs items p.0 q.0 p.2 q.2 in
      let s : p.1 ≡ q.1 = difference_once fmt r.objects (IsItemId items) (IsTrackingValue r.refs) p.1 q.1 p.3 q.3 in
      p.4 ∙ (ap (λ (cs : List Command). sending a (Push atomic None cs p.1)) cs ∙ (ap (λ (s : Objects). sending a (Push atomic None q.0 s)) s ∙ sym q.4))

  -- no command is both refused and done
  pub apart : (a : Awaited) (t : Task) (n : ℕ) (d : Deed Awaited) → Refuses fmt rules r t n → Obeys fmt rules r a t d → ⊥
  apart a (Write o) n d g h = no_fault o n g h.0
  apart a (Stage p mode content) n d g h =
      no_fault (blob content) n
      (met (IsFreePath r.index p) 61 n (rules.fault (blob content) (Some n)) h.1 (met (rules.is_path p) 60 n (Unless (IsFreePath r.index p) 61 n (rules.fault (blob content) (Some n))) h.0 g)) h.2
  apart a (Unstage p) n d g h = g
  apart a (LoadTree x) n d g h = ok_err h.0 n (rules.one_index r.objects x (Ok h.0) (Err n) h.1 g)
  apart a (MakeCommit extra author committer message) n d g h =
      rest (commits_met fmt (stored r.objects) extra n (Rest extra author committer message n) h.2 (met (IsHeadFree r) 32 n (CommitsOr fmt (stored r.objects) extra n (Rest extra author committer message n)) h.1
      (met (IsLine author × IsLine committer) 8 n (Unless (IsHeadFree r) 32 n (CommitsOr fmt (stored r.objects) extra n (Rest extra author committer message n))) h.0 g)))
    where
      rest : Rest extra author committer message n → ⊥
      rest (inl e) = ok_err h.3.0 n (rules.one_root r.index (Ok h.3.0) (Err n) h.3.1 e)
      rest (inr e) =
          let same : e.0 ≡ h.3.0 = ok_once e.0 h.3.0 (rules.one_root r.index (Ok e.0) (Ok h.3.0) e.1 h.3.1) in
          no_fault (new_commit fmt r h.3.0.1 extra author committer message) n (subst (λ (t : Objects × Id). rules.fault (new_commit fmt r t.1 extra author committer message) (Some n)) same e.2) h.3.2.0
  apart a (SetBranch b x) n d g h =
      met (HasHistory fmt (stored r.objects) x) 41 n ⊥ h.2.1 (met (IsClosed fmt (stored r.objects) x) 40 n (Unless (HasHistory fmt (stored r.objects) x) 41 n ⊥) h.2.0
      (met (IsFree r.refs b) 32 n (Unless (IsClosed fmt (stored r.objects) x) 40 n (Unless (HasHistory fmt (stored r.objects) x) 41 n ⊥)) h.1 g))
  apart a (DeleteBranch b) n d g h = g
  apart a (MoveHead (OnBranch b)) n d g h = g
  apart a (MoveHead (Detached x)) n d g h =
      met (HasHistory fmt (stored r.objects) x) 41 n ⊥ h.0.1 (met (IsClosed fmt (stored r.objects) x) 40 n (Unless (HasHistory fmt (stored r.objects) x) 41 n ⊥) h.0.0 g)
  apart a StartFetch n d g h = g
  apart a (StartPush atomic items) n d g h =
      met ((x : Id) → IsItemId items x → IsClosed fmt (stored r.objects) x) 40 n ⊥ h.1 (met (length items ≤ 256) 84 n (Unless ((x : Id) → IsItemId items x → IsClosed fmt (stored r.objects) x) 40 n ⊥) h.0 g)

  -- ---- messages

  message_refusal_once : (a : Awaited) (m : Message) (n k : ℕ) → ReceivesNot fmt r a m n → ReceivesNot fmt r a m k → n ≡ k
  message_refusal_once AnAdvert (Advert head refs) n k g h = absurd g
  message_refusal_once (APack wants refs) (Pack ack s) n k g h = g.0 ∙ sym h.0
  message_refusal_once Nothing (Advert head refs) n k g h = g ∙ sym h
  message_refusal_once Nothing (Pack ack s) n k g h = g ∙ sym h
  message_refusal_once AnAdvert (Pack ack s) n k g h = g ∙ sym h
  message_refusal_once (APack wants refs) (Advert head rs) n k g h = g ∙ sym h
  message_refusal_once a (Report fault ts) n k g h = absurd (reports a g)
    where
      reports : (a : Awaited) → ReceivesNot fmt r a (Report fault ts) n → ⊥
      reports Nothing g = g
      reports AnAdvert g = g
      reports (APack wants refs) g = g
  message_refusal_once Nothing ListRefs n k g h = g ∙ sym h
  message_refusal_once AnAdvert ListRefs n k g h = g ∙ sym h
  message_refusal_once (APack wants refs) ListRefs n k g h = g ∙ sym h
  message_refusal_once Nothing (Want x y) n k g h = g ∙ sym h
  message_refusal_once AnAdvert (Want x y) n k g h = g ∙ sym h
  message_refusal_once (APack wants refs) (Want x y) n k g h = g ∙ sym h
  message_refusal_once Nothing (Push x y z w) n k g h = g ∙ sym h
  message_refusal_once AnAdvert (Push x y z w) n k g h = g ∙ sym h
  message_refusal_once (APack wants refs) (Push x y z w) n k g h = g ∙ sym h
  message_refusal_once Nothing (Error text) n k g h = g ∙ sym h
  message_refusal_once AnAdvert (Error text) n k g h = g ∙ sym h
  message_refusal_once (APack wants refs) (Error text) n k g h = g ∙ sym h

  awaited_once : (a : Awaited) (x y : List Id) (p q : Refs) → a ≡ APack x p → a ≡ APack y q → (x ≡ y) × (p ≡ q)
  awaited_once a x y p q g h = (cc, cc)

  message_once : (a : Awaited) (m : Message) (d e : Deed Awaited) → Receives fmt r a m d → Receives fmt r a m e → d ≡ e
  message_once a (Advert head refs) d e g h =
      let same : g.1 ≡ h.1 = open_once fmt (stored r.objects) [] (entries refs) g.1 h.1 g.2 h.2 in
      go g.3 h.3 same
    where
      go : Sent a refs g.1 d → Sent a refs h.1 e → g.1 ≡ h.1 → d ≡ e
      go (inl p) (inl q) same = p.1 ∙ (ap (λ (ids : List Id). sending (APack (take 256 ids) refs) (Want (take 256 ids) (haves_of r))) same ∙ sym q.1)
      go (inl p) (inr q) same = absurd (p.0 (same ∙ q.0))
      go (inr p) (inl q) same = absurd (q.0 (sym same ∙ p.0))
      go (inr p) (inr q) same = advert_once fmt r (stored r.objects) refs empty d e p.1 q.1
  message_once a (Pack ack s) d e g h =
      let same = awaited_once a g.0 h.0 g.1 h.1 g.2 h.2 in
      advert_once fmt r (over r.objects s) h.1 s d e (subst (λ (refs : Refs). MovesToAdvert fmt r (over r.objects s) refs s d) same.1 g.4) h.4
  message_once a (Report fault ts) d e g h =
      let same : g.0 ≡ h.0 = moves_once (MovesBranch fmt (stored r.objects)) (branch_once fmt (stored r.objects)) r.refs (accepted_ids ts) g.0 h.0 g.1 h.1 in
      g.2 ∙ (ap (λ (cs : List Change). quietly a (only_changes cs) (Reported (length cs) (refused_reasons ts))) same ∙ sym h.2)
  message_once a ListRefs d e g h = absurd g
  message_once a (Want x y) d e g h = absurd g
  message_once a (Push x y z w) d e g h = absurd g
  message_once a (Error text) d e g h = absurd g

  message_apart : (a : Awaited) (m : Message) (n : ℕ) (d : Deed Awaited) → ReceivesNot fmt r a m n → Receives fmt r a m d → ⊥
  message_apart AnAdvert (Advert head refs) n d g h = g
  message_apart Nothing (Advert head refs) n d g h = absurd (let e = h.0 in cc)
  message_apart (APack wants rs) (Advert head refs) n d g h = absurd (let e = h.0 in cc)
  message_apart (APack wants refs) (Pack ack s) n d g h =
      let same = awaited_once (APack wants refs) h.0 wants h.1 refs h.2 refl in
      g.3 (h.3 g.1 (subst (λ (xs : List Id). Contains xs g.1) (sym same.0) g.2))
  message_apart Nothing (Pack ack s) n d g h = absurd (let e = h.2 in cc)
  message_apart AnAdvert (Pack ack s) n d g h = absurd (let e = h.2 in cc)
  message_apart a (Report fault ts) n d g h = reports a g
    where
      reports : (a : Awaited) → ReceivesNot fmt r a (Report fault ts) n → ⊥
      reports Nothing g = g
      reports AnAdvert g = g
      reports (APack wants refs) g = g
  message_apart a ListRefs n d g h = h
  message_apart a (Want x y) n d g h = h
  message_apart a (Push x y z w) n d g h = h
  message_apart a (Error text) n d g h = h

-- ---- calls

module _ (fmt : Format) (rules : Rules fmt) (old : CloneNode) where
  abbrev Off : Answer → CloneNode → Option Message → Type 0
  Off a new s = (a ≡ Declined 112) × (new ≡ old) × (s ≡ None)

  abbrev Works : CloneCall → Awaited → Answer → CloneNode → Option Message → Type 0
  Works e w a new s = Worked old (λ w n. CloneRefuses fmt rules old.repository w e n) (λ w d. CloneObeys fmt rules old.repository w e d) w a new s

  -- what the call comes to, where there is no fault
  abbrev Outcome : CloneCall → Option Awaited → Answer → CloneNode → Option Message → Type 0
  Outcome Open l a new s = RestartEnds a old Nothing new × (s ≡ None)
  Outcome (Asks q) None a new s = Off a new s
  Outcome (Asks q) (Some w) a new s = Tells fmt rules old.repository q a × (new ≡ old) × (s ≡ None)
  Outcome Prune None a new s = Off a new s
  Outcome Prune (Some w) a new s = PruneEnds a (IsReached fmt old.repository) old new × (s ≡ None)
  Outcome (Commands t) None a new s = Off a new s
  Outcome (Commands t) (Some w) a new s = Works (Commands t) w a new s
  Outcome (Receive m) None a new s = Off a new s
  Outcome (Receive m) (Some w) a new s = Works (Receive m) w a new s

  off : (e : CloneCall) (a : Answer) (new : CloneNode) (s : Option Message) → e ≢ Open → Off a new s → Outcome e None a new s
  off (Commands t) a new s other h = h
  off (Receive m) a new s other h = h
  off (Asks q) a new s other h = h
  off Prune a new s other h = h
  off Open a new s other h = absurd (other refl)

  on : (e : CloneCall) (w : Awaited) (a : Answer) (new : CloneNode) (s : Option Message) → Works e w a new s → Outcome e (Some w) a new s
  on (Commands t) w a new s h = h
  on (Receive m) w a new s h = h
  on (Asks q) w a new s h = elim h [ inl k ↦ absurd k.1 | inr k ↦ absurd k.1 ]
  on Prune w a new s h = elim h [ inl k ↦ absurd k.1 | inr k ↦ absurd k.1 ]
  on Open w a new s h = elim h [ inl k ↦ absurd k.1 | inr k ↦ absurd k.1 ]

  comes_to : (e : CloneCall) (a : Answer) (new : CloneNode) (s : Option Message) → IsNoFault a → CloneAnswers fmt rules old e a new s → Outcome e old.live a new s
  comes_to e a new s quiet h = elim h [
    | down is other declined same none ↦ subst (λ l. Outcome e l a new s) (sym is) (off e a new s other (declined, same, none))
    | asked w q up is tells same none ↦ subst (λ l. Outcome e l a new s) (sym up) (subst (λ e. Outcome e (Some w) a new s) (sym is) (tells, same, none))
    | refused w n up why is same none ↦ subst (λ l. Outcome e l a new s) (sym up) (on e w a new s (inl (n, why, is, same, none)))
    | obeyed w d up deed ends is ↦ subst (λ l. Outcome e l a new s) (sym up) (on e w a new s (inr (d, deed, ends, is)))
    | pruned w up is ends none ↦ subst (λ l. Outcome e l a new s) (sym up) (subst (λ e. Outcome e (Some w) a new s) (sym is) (ends, none))
    | opened is ends none ↦ subst (λ e. Outcome e old.live a new s) (sym is) (ends, none)
    | faulted w f up other is same none ↦ absurd (subst IsNoFault is quiet)
  ]

  off_once : (a b : Answer) (m n : CloneNode) (s t : Option Message) → Off a m s → Off b n t → AreOne a b m n s t
  off_once a b m n s t g h = (g.0 ∙ sym h.0, g.1 ∙ sym h.1, g.2 ∙ sym h.2)

  outcome_once : (e : CloneCall) (l : Option Awaited) (a b : Answer) (m n : CloneNode) (s t : Option Message) → Outcome e l a m s → Outcome e l b n t → IsNoFault a → IsNoFault b → AreOne a b m n s t
  outcome_once Open l a b m n s t g h p q = let k = restart_once old Nothing a b m n g.0 h.0 p q in (k.0, k.1, g.1 ∙ sym h.1)
  outcome_once (Asks q) None a b m n s t g h u v = off_once a b m n s t g h
  outcome_once (Asks q) (Some w) a b m n s t g h u v = (told_once fmt rules old.repository q a b g.0 h.0, g.1 ∙ sym h.1, g.2 ∙ sym h.2)
  outcome_once Prune None a b m n s t g h u v = off_once a b m n s t g h
  outcome_once Prune (Some w) a b m n s t g h u v = let k = prune_once (IsReached fmt old.repository) old a b m n g.0 h.0 u v in (k.0, k.1, g.1 ∙ sym h.1)
  outcome_once (Commands c) None a b m n s t g h u v = off_once a b m n s t g h
  outcome_once (Commands c) (Some w) a b m n s t g h u v =
      worked_once old (λ w n. CloneRefuses fmt rules old.repository w (Commands c) n) (λ w d. CloneObeys fmt rules old.repository w (Commands c) d)
      (λ w n k. refusal_once fmt rules old.repository c n k) (λ w d e. task_once fmt rules old.repository w c d e) (λ w n d. apart fmt rules old.repository w c n d) w a b m n s t g h u v
  outcome_once (Receive c) None a b m n s t g h u v = off_once a b m n s t g h
  outcome_once (Receive c) (Some w) a b m n s t g h u v =
      worked_once old (λ w n. CloneRefuses fmt rules old.repository w (Receive c) n) (λ w d. CloneObeys fmt rules old.repository w (Receive c) d)
      (λ w n k. message_refusal_once fmt rules old.repository w c n k) (λ w d e. message_once fmt rules old.repository w c d e) (λ w n d. message_apart fmt rules old.repository w c n d) w a b m n s t g h u v

  pub clone_once : (m n : CloneNode) (e : CloneCall) (a b : Answer) (s t : Option Message) → CloneAnswers fmt rules old e a m s → CloneAnswers fmt rules old e b n t → IsNoFault a → IsNoFault b → AreOne a b m n s t
  clone_once m n e a b s t g h u v = outcome_once e old.live a b m n s t (comes_to e a m s u g) (comes_to e b n t v h) u v

pub clone_has_one_answer : CloneHasOneAnswer
clone_has_one_answer fmt tests old m n e a b s t g h u v = clone_once fmt (rules_by fmt tests) old m n e a b s t g h u v
